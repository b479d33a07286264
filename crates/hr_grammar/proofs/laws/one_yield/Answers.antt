use Rattle.std.proofs.Common.{sym, ◌∙◌}
use Rattle.hr_grammar.proofs.laws.one_yield.Goals as goal

pub returns : goal.returns
returns c = λ tree items others yields again. sym yields.items_are ∙ again.items_are
