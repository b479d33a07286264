use Rattle.hr_grammar_edge_laws.proofs.PartLasts.{declarations_end_lem}
use Rattle.hr_grammar_edge_laws.proofs.laws.declarations_end.Goals as goal

pub returns : goal.returns
returns c = declarations_end_lem
