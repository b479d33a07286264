use Rattle.std.proofs.Common.{◌≡◌, ◌≤◌, ◌∙◌, [], ◌∷◌, length, arith, sym, ap, subst}
use Rattle.hr_base.specs.Limits.{module_limit}
use Rattle.hare.specs.Shown.{renaming_of}
use Rattle.hare.proofs.PlainSteps.{no_plain, no_step, one_text, only_text}
use Rattle.hare.proofs.plain.plain_step.Goals as goal

pub returns-in-Some : goal.returns-in-Some
returns-in-Some c =
    let one : c.args.texts.now ≡ c.text-item.result ∷ [] = one_text c.args.texts.now c.text-item.result (omega (arith, c.in-len1.len_at_least, c.in-len1.len_below)) c.text-item.is in
    let is : c.args.texts.now ≡ c.as_slice.result.now ∷ [] = one ∙ ap (λ text. text ∷ []) (sym c.as_slice.ensures) in
    let short = subst (λ n. n ≤ module_limit) (c.len-length.ensures ∙ ap length (sym c.as_slice.ensures)) c.if-length-gt-MODULE_LIMIT.false in
    no_plain (renaming_of c.args.renaming) c.args.texts.now c.as_slice.result.now is c.in-Err.error short c.in-Err.ensures.refused _ (sym c.number.ensures ∙ c.in-Some.is)

pub returns-in-Ok-rename : goal.returns-in-Ok-rename
returns-in-Ok-rename c =
    let one : c.args.texts.now ≡ c.text-item.result ∷ [] = one_text c.args.texts.now c.text-item.result (omega (arith, c.in-len1.len_at_least, c.in-len1.len_below)) c.text-item.is in
    let is : c.args.texts.now ≡ c.as_slice.result.now ∷ [] = one ∙ ap (λ text. text ∷ []) (sym c.as_slice.ensures) in
    let module_is = c.in_ok-module.ensures ∙ c.as_bytes.ensures.value in
    let new_is = c.in_ok-new.ensures ∙ c.as_bytes-2.ensures.value in
    let renamed = rw (module_is, new_is) at c.in-Ok-rename.ensures.renamed in
    only_text (renaming_of c.args.renaming) c.args.texts.now c.as_slice.result.now is c.in-Ok.tree c.in-Ok.ensures.read c.in-Ok-rename.text renamed

pub returns-in-Some-number : goal.returns-in-Some-number
returns-in-Some-number c =
    let one : c.args.texts.now ≡ c.text-item.result ∷ [] = one_text c.args.texts.now c.text-item.result (omega (arith, c.in-len1.len_at_least, c.in-len1.len_below)) c.text-item.is in
    let is : c.args.texts.now ≡ c.as_slice.result.now ∷ [] = one ∙ ap (λ text. text ∷ []) (sym c.as_slice.ensures) in
    let module_is = c.in_ok-module.ensures ∙ c.as_bytes.ensures.value in
    let new_is = c.in_ok-new.ensures ∙ c.as_bytes-2.ensures.value in
    let cause = rw (module_is, new_is) at c.in-Err-rename.ensures.refused in
    no_step (renaming_of c.args.renaming) c.args.texts.now c.as_slice.result.now is c.in-Ok.tree c.in-Ok.ensures.read c.in-Err-rename.why cause _
    (sym c.number-in-Err-rename.ensures ∙ c.in-Some-number.is)
