use Rattle.hr_grammar_edge_laws.proofs.PartLasts.{alternatives_end_lem}
use Rattle.hr_grammar_edge_laws.proofs.laws.alternatives_end.Goals as goal

pub returns : goal.returns
returns c = alternatives_end_lem
