use Rattle.std.proofs.Common.{arith, ◌∷◌, [], ◌++◌, ap, ◌∙◌}
use Rattle.hr_parse_lexeme.proofs.Separators.{first_taken, next_taken, are_commas}
use Rattle.hr_parse_lexeme.proofs.names.commas.Goals as goal

pub loop-cursor-init : goal.loop-cursor-init
loop-cursor-init c =
    first_taken (c.in_ok-push.ensures.items ∙ ap (λ l. l ++ c.in_ok-first.first ∷ []) c.new-list.ensures.items) c.in_ok-first.ensures

pub loop-cursor-preserved : goal.loop-cursor-preserved
loop-cursor-preserved c = next_taken c.loop-cursor.invariant (omega arith) c.in_ok-push-in-Some.ensures.items c.in-Some.ensures
