use Rattle.hr_grammar.proofs.SameTrees.{semicolons_in_braces_lem}
use Rattle.hr_grammar.proofs.laws.semicolons_in_braces.Goals as goal

pub returns : goal.returns
returns c = semicolons_in_braces_lem
