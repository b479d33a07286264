use Rattle.hr_grammar_edge_laws.proofs.PartLasts.{expressions_end_lem}
use Rattle.hr_grammar_edge_laws.proofs.laws.expressions_end.Goals as goal

pub returns : goal.returns
returns c = expressions_end_lem
