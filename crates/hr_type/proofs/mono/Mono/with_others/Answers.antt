use Rattle.std.proofs.Common.{refl, ◌∙◌}
use Rattle.hr_type.proofs.Freeing.{none_left, some_left}
use Rattle.hr_type.proofs.mono.Mono.with_others.Goals as goal

pub returns-then-len-eq0 : goal.returns-then-len-eq0
returns-then-len-eq0 c = none_left c.args.entity c.args.arguments _ 0 refl

pub returns : goal.returns
returns c = some_left c.args.entity c.args.arguments (λ none. c.if-len-eq0.false (c.len.ensures ∙ none))
