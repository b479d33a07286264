-- One step of the loop over a text, by the values that it computes.
use Rattle.std.proofs.Common.{◌≡◌, ◌≢◌, ℕ, ◌+◌, ◌≤◌, true, List, [], ◌∷◌, ◌++◌, length, take, drop, Some, None, refl, sym, ap, subst, ◌∙◌, arith, length-append}
use lib.Utf8.{scalars, encodes}
use Rattle.hr_base.specs.declared.lexeme.Item.{Item}
use Rattle.hr_rules.specs.Lexemes.{class_of, is_piece, bars}
use Rattle.hr_rules.specs.Lexing.{Lexes}
use Rattle.hr_rules.specs.Stops.{Stops}
use Rattle.hr_lexer.specs.declared.taken.Taken.{Taken}
use Rattle.hr_lexer.specs.LexemeReader.{lexeme_at}
use Rattle.hr_lexer.specs.TriviaReader.{trivia_len}
use Rattle.hr_lexer.specs.Refusals.{cause_of, IsHalt}
use Rattle.hr_lexer.proofs.Bytes.{scalars_drop, parts_join}
use Rattle.hr_lexer.proofs.Progress.{Readers, Progress, done, next, stuck}
use Rattle.hr_lexer.proofs.Halts.{halts}

-- what is behind is no longer
pub back_len : (n : ℕ) (cs : List ℕ) → length (encodes (drop n cs)) ≤ length (encodes cs)
back_len n cs =
    let all : length (encodes (take n cs)) + length (encodes (drop n cs)) ≡ length (encodes cs) = sym (length-append (encodes (take n cs)) (encodes (drop n cs))) ∙ ap length (parts_join n cs) in
    omega arith

module _ (readers : Readers) (whole : List ℕ) (items : List Item) (cs : List ℕ) (so_far : Progress whole items (encodes cs)) (s : scalars cs ≡ true)
    (n : ℕ) (is_trivia : n ≡ trivia_len cs) (rest : List ℕ) (behind_trivia : rest ≡ drop n cs) where
  left : rest ≡ drop (trivia_len cs) cs
  left = behind_trivia ∙ ap (λ m. drop m cs) is_trivia

  scalars_left : scalars rest ≡ true
  scalars_left = ap scalars left ∙ scalars_drop (trivia_len cs) cs s

  pub finished : (tail : List ℕ) → tail ≡ encodes (take n cs) → length rest ≡ 0 → Lexes class_of is_piece bars whole items tail
  finished tail t h =
      let same : tail ≡ encodes (take (trivia_len cs) cs) = t ∙ ap (λ m. encodes (take m cs)) is_trivia in
      subst (λ x. Lexes class_of is_piece bars whole items x) (sym same) (done readers whole items cs so_far s (sym left ∙ empty rest h))
    where
      empty : (xs : List ℕ) → length xs ≡ 0 → xs ≡ []
      empty [] e = refl
      empty (x ∷ xs) e = absurd (omega arith)

  pub stepped : (taken : Taken) (trivia text behind : List ℕ) (others : List Item) → lexeme_at rest ≡ Some taken → trivia ≡ encodes (take n cs) → text ≡ encodes (take taken.len rest) → behind ≡ drop taken.len rest
      → others ≡ items ++ (record { trivia = trivia; lexeme = record { class = taken.class; text = text } } ∷ []) → Progress whole others (encodes behind)
  stepped taken trivia text behind others e t x b o =
      let t' : trivia ≡ encodes (take (trivia_len cs) cs) = t ∙ ap (λ m. encodes (take m cs)) is_trivia in
      let x' : text ≡ encodes (take taken.len (drop (trivia_len cs) cs)) = x ∙ ap (λ l. encodes (take taken.len l)) left in
      let b' : behind ≡ drop taken.len (drop (trivia_len cs) cs) = b ∙ ap (λ l. drop taken.len l) left in
      let items' : List Item = items ++ (record { trivia = encodes (take (trivia_len cs) cs); lexeme = record { class = taken.class; text = encodes (take taken.len (drop (trivia_len cs) cs)) } } ∷ []) in
      let o' : others ≡ items' = o ∙ (λ k. items ++ (record { trivia = t' k; lexeme = record { class = taken.class; text = x' k } } ∷ [])) in
      let e' : lexeme_at (drop (trivia_len cs) cs) ≡ Some taken = ap lexeme_at (sym left) ∙ e in
      let far : Progress whole items' (encodes (drop taken.len (drop (trivia_len cs) cs))) = next readers whole items cs so_far s taken e' in
      let far' : Progress whole items' (encodes behind) = subst (λ y. Progress whole items' (encodes y)) (sym b') far in
      subst (λ y. Progress whole y (encodes behind)) (sym o') far'

  halted_by : (len place : ℕ) (xs : List ℕ) → length xs ≢ 0 → scalars xs ≡ true → Stops class_of is_piece bars whole (encodes xs) → lexeme_at xs ≡ None → place + length (encodes xs) ≡ len → IsHalt len whole (cause_of xs place)
  halted_by len place [] some t stops e here = absurd (some refl)
  halted_by len place (x ∷ xs) some t stops e here = halts readers.longest len whole x xs place here t stops e

  pub halted : (len place : ℕ) → length rest ≢ 0 → lexeme_at rest ≡ None → place + length (encodes rest) ≡ len → IsHalt len whole (cause_of rest place)
  halted len place some e here =
      let not_nil : drop (trivia_len cs) cs ≢ [] = λ nil. some (ap length (left ∙ nil)) in
      let none : lexeme_at (drop (trivia_len cs) cs) ≡ None = ap lexeme_at (sym left) ∙ e in
      let stops : Stops class_of is_piece bars whole (encodes (drop (trivia_len cs) cs)) = stuck readers whole items cs so_far s not_nil none in
      halted_by len place rest some scalars_left (subst (λ x. Stops class_of is_piece bars whole (encodes x)) (sym left) stops) e here
