-- Two texts are apart exactly where they are the two lexemes read of one behind the other.
use Rattle.std.proofs.Common.{◌≡◌, ℕ, ◌+◌, Bool, true, false, List, [], ◌∷◌, ◌++◌, length, Some, None, refl, sym, ap, subst, ◌∙◌, arith, length-append}
use Rattle.hr_base.specs.declared.lexeme.Class.{Class}
use Rattle.hr_base.specs.declared.lexeme.Item.{Item}
use Rattle.hr_base.specs.declared.lexeme.Items.{Items}
use Rattle.hr_rules.specs.Lexemes.{LexesText}
use Rattle.hr_rules.proofs.Reading.{one_reading_lem, readings_join_lem}
use Rattle.hr_lexer.specs.Words.{AreApart, AreLexemes, HasItems, Tells}
use Rattle.hr_lexer.proofs.OneWord.{empty}

-- two lexemes that are all of a text
abbrev plain : Class → List ℕ → Item
plain class text = record { trivia = []; lexeme = record { class = class; text = text } }

module _ (before text : List ℕ) where
  abbrev pair : Class → Class → Items
  pair class other = record { list = plain class before ∷ plain other text ∷ []; tail = [] }

  side_by_side : (first second : Item) (tail : List ℕ) → LexesText (before ++ text) (record { list = first ∷ second ∷ []; tail = tail })
      → first.lexeme.text ≡ before → second.lexeme.text ≡ text → AreApart before text
  side_by_side first second tail lexes p q =
      let items : Items = record { list = first ∷ second ∷ []; tail = tail } in
      let all : before ++ text ≡ first.trivia ++ (first.lexeme.text ++ (second.trivia ++ (second.lexeme.text ++ tail))) = readings_join_lem (before ++ text) items lexes in
      let whole : length before + length text ≡ length first.trivia + (length first.lexeme.text + (length second.trivia + (length second.lexeme.text + length tail))) =
      sym (length-append before text) ∙ ap length all ∙ length-append first.trivia (first.lexeme.text ++ (second.trivia ++ (second.lexeme.text ++ tail)))
      ∙ ap (λ n. length first.trivia + n) (length-append first.lexeme.text (second.trivia ++ (second.lexeme.text ++ tail))
      ∙ ap (λ n. length first.lexeme.text + n) (length-append second.trivia (second.lexeme.text ++ tail)
      ∙ ap (λ n. length second.trivia + n) (length-append second.lexeme.text tail))) in
      let front : length first.lexeme.text ≡ length before = ap length p in
      let back : length second.lexeme.text ≡ length text = ap length q in
      let none_first : first.trivia ≡ [] = empty first.trivia (omega arith) in
      let none_second : second.trivia ≡ [] = empty second.trivia (omega arith) in
      let none_behind : tail ≡ [] = empty tail (omega arith) in
      let same : items ≡ pair first.lexeme.class second.lexeme.class = λ k. record {
        list = record { trivia = none_first k; lexeme = record { class = first.lexeme.class; text = p k } }
            ∷ record { trivia = none_second k; lexeme = record { class = second.lexeme.class; text = q k } } ∷ [];
        tail = none_behind k;
      } in
      (first.lexeme.class, second.lexeme.class, subst (LexesText (before ++ text)) same lexes)

  apart_by : (b : Bool) (items : List Item) (tail : List ℕ) → LexesText (before ++ text) (record { list = items; tail = tail }) → Tells b (AreLexemes items before text) → Tells b (AreApart before text)
  apart_by true [] tail lexes are = absurd are
  apart_by true (first ∷ []) tail lexes are = absurd are
  apart_by true (first ∷ second ∷ []) tail lexes are = side_by_side first second tail lexes are.0 are.1
  apart_by true (first ∷ second ∷ third ∷ items) tail lexes are = absurd are
  apart_by false items tail lexes are = λ apart.
      let same : record { list = items; tail = tail } ≡ pair apart.0 apart.1 =
      one_reading_lem (before ++ text) (record { list = items; tail = tail }) (pair apart.0 apart.1) lexes apart.2 in
      are (subst (λ x. AreLexemes x before text) (ap (λ x. x.list) (sym same)) (refl, refl))

  pub tells_apart : (both : List ℕ) → both ≡ before ++ text → (b : Bool) (items : Items) → HasItems both (Some items) → Tells b (AreLexemes items.list before text) → Tells b (AreApart before text)
  tells_apart both e b items has are = apart_by b items.list items.tail (subst (λ x. LexesText x items) e has) are

  pub never_apart : (both : List ℕ) → both ≡ before ++ text → HasItems both None → ¬ (AreApart before text)
  never_apart both e has apart = has (pair apart.0 apart.1) (subst (λ x. LexesText x (pair apart.0 apart.1)) (sym e) apart.2)
