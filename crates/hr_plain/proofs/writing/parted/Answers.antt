use Rattle.std.proofs.Common.{◌≡◌, [], ◌∷◌, sym, subst, ◌∙◌}
use Rattle.std.proofs.lemmas.Result.{IfOk-weaker}
use Rattle.hr_plain.specs.Target.{IsParted}
use Rattle.hr_plain.proofs.Parting.{blank_put, stays_apart, stays_first, stays_kept, told_apart, told_joined}
use Rattle.hr_plain.proofs.writing.parted.Goals.{else-is_empty-via-then-is_empty+then-not-is_empty+in_ok-are_apart+else-not-branch, else-is_empty-via-then-is_empty+else-not-is_empty, else-is_empty-via-else-is_empty}
use Rattle.hr_plain.proofs.writing.parted.Goals as goal

pub returns-then-not-branch : goal.returns-then-not-branch
returns-then-not-branch c =
    let put : IsParted c.args.new.now c.args.before.now c.args.trivia.now (32 ∷ []) =
    blank_put c.args.new.now c.args.before.now c.args.trivia.now (sym c.is_empty.ensures ∙ c.if-is_empty.true) (sym c.is_empty-then-is_empty.ensures ∙ c.if-not-is_empty.true)
    (told_joined _ c.args.before.now c.as_slice.result.now c.args.new.now c.in_ok-are_apart.ensures c.if-not-branch.true c.as_slice.ensures) in
    IfOk-weaker c.from_slice.result (λ text. text ≡ 32 ∷ []) (IsParted c.args.new.now c.args.before.now c.args.trivia.now)
    (λ text e. subst (IsParted c.args.new.now c.args.before.now c.args.trivia.now) (sym e) put) c.from_slice.ensures

pub returns-else-is_empty : goal.returns-else-is_empty
returns-else-is_empty c =
    let stays : IsParted c.args.new.now c.args.before.now c.args.trivia.now c.args.trivia.now =
    elim c.else-is_empty.branch [
      | else-is_empty-via-then-is_empty+then-not-is_empty+in_ok-are_apart+else-not-branch w ↦
          stays_apart c.args.new.now c.args.before.now c.args.trivia.now (sym c.is_empty.ensures ∙ w.if-is_empty.true)
          (told_apart _ c.args.before.now w.as_slice.result.now c.args.new.now w.in_ok-are_apart.ensures w.if-not-branch.false w.as_slice.ensures)
      | else-is_empty-via-then-is_empty+else-not-is_empty w ↦
          stays_first c.args.new.now c.args.before.now c.args.trivia.now (sym w.is_empty-then-is_empty.ensures ∙ w.if-not-is_empty.false)
      | else-is_empty-via-else-is_empty w ↦
          stays_kept c.args.new.now c.args.before.now c.args.trivia.now (sym c.is_empty.ensures ∙ w.if-is_empty.false)
    ] in
    IfOk-weaker c.from_slice-else-is_empty.result (λ text. text ≡ c.as_slice-else-is_empty.result.now) (IsParted c.args.new.now c.args.before.now c.args.trivia.now)
    (λ text e. subst (IsParted c.args.new.now c.args.before.now c.args.trivia.now) (sym (e ∙ c.as_slice-else-is_empty.ensures)) stays) c.from_slice-else-is_empty.ensures
