use Rattle.hr_grammar_cases_laws.proofs.Agreeing.{relation_is_promise_lem}
use Rattle.hr_grammar_cases_laws.proofs.laws.relation_is_promise.Goals as goal

pub returns : goal.returns
returns c = relation_is_promise_lem
