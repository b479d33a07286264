use Rattle.hr_grammar_edge_laws.proofs.Lasts.{patterns_end_lem}
use Rattle.hr_grammar_edge_laws.proofs.laws.patterns_end.Goals as goal

pub returns : goal.returns
returns c = patterns_end_lem
