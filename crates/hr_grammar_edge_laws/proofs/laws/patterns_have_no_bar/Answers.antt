use Rattle.hr_grammar_edge_laws.proofs.Patterns.{patterns_have_no_bar_lem}
use Rattle.hr_grammar_edge_laws.proofs.laws.patterns_have_no_bar.Goals as goal

pub returns : goal.returns
returns c = patterns_have_no_bar_lem
