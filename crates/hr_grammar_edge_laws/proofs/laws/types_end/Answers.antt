use Rattle.hr_grammar_edge_laws.proofs.Lasts.{types_end_lem}
use Rattle.hr_grammar_edge_laws.proofs.laws.types_end.Goals as goal

pub returns : goal.returns
returns c = types_end_lem
