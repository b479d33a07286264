use Rattle.std.proofs.Common.{refl, sym, ◌∙◌}
use Rattle.hr_grammar.proofs.laws.same_is_equality.Goals as goal

pub returns : goal.returns
returns c = (λ tree. refl, (λ tree other same. sym same, λ tree other third same next. same ∙ next))
