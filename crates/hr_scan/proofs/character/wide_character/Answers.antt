use Rattle.std.proofs.Common.{◌≡◌, take, length, Some, None, Result, Ok, Err, MatchResult, sym, ◌∙◌, ap, subst}
use Rattle.std.specs.Result.{result_ok}
use Rattle.std.specs.Str.{IsUtf8}
use Rattle.std.proofs.lemmas.List.{take_min}
use Rattle.hr_scan.proofs.Characters.{wide_char_nothing, not_wide_char, wide_char_first}
use Rattle.hr_scan.proofs.character.wide_character.Goals as goal

refused : {A E : Type 0} (N : Type 0) (P : A → Type 0) (Q : E → Type 0) (r : Result A E) → MatchResult r P (λ e. N × Q e) → result_ok r ≡ None → N
refused N P Q (Ok x) m e = absurd (cc)
refused N P Q (Err x) m e = m.0

accepted : {A E : Type 0} (P : A → Type 0) (Q : E → Type 0) (r : Result A E) (x : A) → MatchResult r P Q → result_ok r ≡ Some x → P x
accepted P Q (Ok y) x m e = let same : y ≡ x = cc in subst P same m
accepted P Q (Err y) x m e = absurd (cc)

-- The bytes are no UTF-8.
pub returns-in_err-ok : goal.returns-in_err-ok
returns-in_err-ok c =
    let same = ap (λ k. take k c.args.bytes.now) c.min.ensures ∙ take_min c.args.len c.args.bytes.now in
    let none = refused _ _ _ c.from_utf8.result c.from_utf8.ensures.cases (sym c.ok.ensures.value ∙ c.in_err-ok.was) in
    c.from_residual.ensures ∙ sym (not_wide_char c.args.len c.args.bytes.now (λ u. none (subst IsUtf8 (sym same) u)))

-- There are no bytes.
pub returns-in_err-code : goal.returns-in_err-code
returns-in_err-code c =
    let same = ap (λ k. take k c.args.bytes.now) c.min.ensures ∙ take_min c.args.len c.args.bytes.now in
    let text = accepted _ _ c.from_utf8.result c.in_ok-ok.field-0 c.from_utf8.ensures.cases (sym c.ok.ensures.value ∙ c.in_ok-ok.was) in
    let empty = sym (ap length (c.chars.ensures.rest ∙ text.0 ∙ same)) ∙ c.in_err-code.ensures.steps.0.0 in
    c.from_residual-in_err-code.ensures ∙ sym (wide_char_nothing c.args.len c.args.bytes.now empty)

-- A character begins them.
pub returns : goal.returns
returns c =
    let same = ap (λ k. take k c.args.bytes.now) c.min.ensures ∙ take_min c.args.len c.args.bytes.now in
    let text = accepted _ _ c.from_utf8.result c.in_ok-ok.field-0 c.from_utf8.ensures.cases (sym c.ok.ensures.value ∙ c.in_ok-ok.was) in
    let begins = sym (c.chars.ensures.rest ∙ text.0 ∙ same) ∙ c.in_ok-code.ensures.steps.0 in
    let given = wide_char_first c.args.len c.in_ok-code.code c.args.bytes.now _ (subst IsUtf8 same text.1) begins in
    (λ i. Some (record { code = c.from.ensures i; len = length (same i) })) ∙ sym given
