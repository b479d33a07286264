use Rattle.hr_grammar_cases.proofs.Patterns.{patterns_give_lem}
use Rattle.hr_grammar_cases.proofs.laws.patterns_give.Goals as goal

pub returns : goal.returns
returns c = patterns_give_lem
