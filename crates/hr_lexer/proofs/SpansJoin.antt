-- One item more behind others.
use Rattle.std.proofs.Common.{◌≡◌, ℕ, ◌≤◌, List, [], ◌∷◌, ◌++◌, length, take, drop, refl, sym, ap, subst, ◌∙◌, arith, append-nil, take-append-drop}
use lib.Utf8.{encodes}
use Rattle.hr_base.specs.declared.lexeme.Item.{Item}
use Rattle.hr_lexer.specs.declared.taken.Taken.{Taken}
use Rattle.hr_lexer.specs.declared.spans.Span.{Span}
use Rattle.hr_lexer.specs.Spans.{item_at, past_span, items_at, past_spans, AreWithin}

items_join : (spans : List Span) (span : Span) (text : List ℕ) → items_at (spans ++ (span ∷ [])) text ≡ items_at spans text ++ (item_at span (past_spans spans text) ∷ [])
items_join [] span text = refl
items_join (first ∷ spans) span text = ap (λ items. item_at first text ∷ items) (items_join spans span (past_span first text))

behind_join : (spans : List Span) (span : Span) (text : List ℕ) → past_spans (spans ++ (span ∷ [])) text ≡ past_span span (past_spans spans text)
behind_join [] span text = refl
behind_join (first ∷ spans) span text = behind_join spans span (past_span first text)

within_join : (spans : List Span) (span : Span) (text : List ℕ) → AreWithin spans text
    → span.trivia ≤ length (past_spans spans text) → span.taken.len ≤ length (drop span.trivia (past_spans spans text)) → AreWithin (spans ++ (span ∷ [])) text
within_join [] span text within trivia len = (trivia, len, within)
within_join (first ∷ spans) span text within trivia len = (within.0, within.1, within_join spans span (past_span first text) within.2 trivia len)

-- where nothing is left behind blanks and comments, they are all that was left
pub all_taken : (n : ℕ) (text rest : List ℕ) → rest ≡ drop n text → length rest ≡ 0 → take n text ≡ text
all_taken n text [] is empty = sym (append-nil (take n text)) ∙ ap (λ x. take n text ++ x) is ∙ take-append-drop n text
all_taken n text (c ∷ rest) is empty = absurd (omega arith)

-- the blanks and the lexeme that were read behind the spans are those of one more
module _ (spans others : List Span) (text left rest : List ℕ) (n : ℕ) (taken : Taken) (here : left ≡ past_spans spans text) (is : rest ≡ drop n left)
    (pushed : others ≡ spans ++ (record { trivia = n; taken = taken } ∷ [])) where
  abbrev span : Span
  span = record { trivia = n; taken = taken }

  pub items_more : items_at others text ≡ items_at spans text ++ (record { trivia = encodes (take n left); lexeme = record { class = taken.class; text = encodes (take taken.len rest) } } ∷ [])
  items_more =
      let item : List ℕ → Item = λ next. record { trivia = encodes (take n left); lexeme = record { class = taken.class; text = encodes (take taken.len next) } } in
      ap (λ x. items_at x text) pushed ∙ items_join spans span text ∙ ap (λ x. items_at spans text ++ (item_at span x ∷ [])) (sym here)
      ∙ ap (λ x. items_at spans text ++ (item x ∷ [])) (sym is)

  pub behind_more : (next : List ℕ) → next ≡ drop taken.len rest → next ≡ past_spans others text
  behind_more next e = e ∙ ap (drop taken.len) is ∙ ap (λ x. drop taken.len (drop n x)) here ∙ sym (behind_join spans span text) ∙ ap (λ x. past_spans x text) (sym pushed)

  pub within_more : AreWithin spans text → n ≤ length left → taken.len ≤ length rest → AreWithin others text
  within_more within trivia len =
      let first : n ≤ length (past_spans spans text) = subst (λ x. n ≤ length x) here trivia in
      let second : taken.len ≤ length (drop n (past_spans spans text)) = subst (λ x. taken.len ≤ length x) (is ∙ ap (drop n) here) len in
      subst (λ x. AreWithin x text) (sym pushed) (within_join spans span text within first second)
