-- A text has one list of items at most.
use Rattle.std.proofs.Common.{◌≡◌, ℕ, ◌≤◌, true, false, List, [], ◌∷◌, ◌++◌, length, Option, Some, None, IsSome, is_some, refl, sym, ap, ◌∙◌, arith, append_assoc, append-nil, take, true≢false}
use Rattle.std.proofs.Math.Seq.{take-append_seam}
use Rattle.std.proofs.lemmas.List.{append_cancel_left}
use Rattle.hr_base.specs.declared.lexeme.Class.{Class}
use Rattle.hr_base.specs.declared.lexeme.Item.{Item}
use Rattle.hr_rules.specs.Lexing.{Classes, Pieces, Barriers, Trivia, Fits, Lexes, KeepApart, OneLexing, LexingsJoin, joined}
use Rattle.hr_rules.specs.Lexing.Trivia.{none, more}
use Rattle.hr_rules.specs.Lexing.Lexes.{ends, goes}

-- of two fronts of one list that are equally long each is the other
pub same_front : (xs ys us vs : List ℕ) → xs ++ us ≡ ys ++ vs → length xs ≡ length ys → xs ≡ ys
same_front xs ys us vs e l =
    sym (take-append_seam xs us) ∙ ap (take (length xs)) e ∙ ap (λ n. take n (ys ++ vs)) l ∙ take-append_seam ys vs

pub no_front : (xs ys : List ℕ) → xs ++ ys ≡ [] → xs ≡ []
no_front [] ys e = refl
no_front (x ∷ xs) ys e = cc

module _ {class_of : Classes} {is_piece : Pieces} {bars : Barriers} (laws : KeepApart class_of is_piece bars) where
  -- a blank or comment begins where no lexeme does
  piece_at : (piece t a b : List ℕ) → is_piece piece (t ++ a) ≡ true → b ≡ (piece ++ t) ++ a → bars b ≡ true
  piece_at piece t a b is e = ap bars (e ∙ append_assoc piece t a) ∙ laws.piece_bars piece (t ++ a) is

  -- the blanks and comments at the front of a text are determined by it
  pub same_trivia : {t a u b : List ℕ} → Trivia is_piece t a → Trivia is_piece u b → t ++ a ≡ u ++ b → bars a ≡ false → bars b ≡ false → t ≡ u
  same_trivia (none a) (none b) e p q = refl
  same_trivia (none a) (more piece u b is rest) e p q = absurd (true≢false (sym (piece_at piece u b a is e) ∙ p))
  same_trivia (more piece t a is rest) (none b) e p q = absurd (true≢false (sym (piece_at piece t a b is (sym e)) ∙ q))
  same_trivia (more piece t a is rest) (more other u b is' rest') e p q =
      let whole : piece ++ (t ++ a) ≡ other ++ (u ++ b) = sym (append_assoc piece t a) ∙ e ∙ append_assoc other u b in
      let same : piece ≡ other = laws.piece_is_one piece (t ++ a) other (u ++ b) is is' whole in
      let behind : t ++ a ≡ u ++ b = append_cancel_left other (t ++ a) (u ++ b) (ap (λ x. x ++ (t ++ a)) (sym same) ∙ whole) in
      λ k. same k ++ same_trivia rest rest' behind p q k

  -- a lexeme at the front of a text is determined by it
  pub same_lexeme : (c d : Class) (x y a b : List ℕ) → Fits class_of bars c x a → Fits class_of bars d y b → x ++ a ≡ y ++ b → (x ≡ y) × (c ≡ d)
  same_lexeme c d x y a b f g e =
      let some_y : IsSome (class_of y b) = ap is_some g.is in
      let some_x : IsSome (class_of x a) = ap is_some f.is in
      let shorter : length y ≤ length x = f.longest y b e some_y in
      let longer : length x ≤ length y = g.longest x a (sym e) some_x in
      let same : x ≡ y = same_front x y a b e (omega arith) in
      let left : a ≡ b = append_cancel_left y a b (ap (λ z. z ++ a) (sym same) ∙ e) in
      let classes : ◌≡◌ {A = Option Class} (Some c) (Some d) = sym f.is ∙ (λ k. class_of (same k) (left k)) ∙ g.is in
      (same, cc)

  -- at the end of a text no lexeme is left
  nothing_fits : (item : Item) (rest tail : List ℕ) → Trivia is_piece tail [] → Trivia is_piece item.trivia (item.lexeme.text ++ rest) → Fits class_of bars item.lexeme.class item.lexeme.text rest → tail ≡ item.trivia ++ (item.lexeme.text ++ rest) → ⊥
  nothing_fits item rest tail t t' fits e =
      let whole : tail ++ [] ≡ item.trivia ++ (item.lexeme.text ++ rest) = append-nil tail ∙ e in
      let trivia : tail ≡ item.trivia = same_trivia t t' whole laws.end_bars_nothing fits.begins in
      let behind : [] ≡ item.lexeme.text ++ rest = append_cancel_left item.trivia [] (item.lexeme.text ++ rest) (ap (λ x. x ++ []) (sym trivia) ∙ whole) in
      let empty : item.lexeme.text ≡ [] = no_front item.lexeme.text rest (sym behind) in
      let is : ◌≡◌ {A = Option Class} (Some item.lexeme.class) None = sym fits.is ∙ ap (λ t. class_of t rest) empty ∙ laws.lexeme_not_empty rest in
      cc

  pub one_lexing : {bytes bytes' : List ℕ} {items others : List Item} {tail other_tail : List ℕ} → Lexes class_of is_piece bars bytes items tail → Lexes class_of is_piece bars bytes' others other_tail → bytes ≡ bytes' → (items ≡ others) × (tail ≡ other_tail)
  one_lexing (ends tail t) (ends tail' t') e = (refl, e)
  one_lexing (ends tail t) (goes item rest items tail' t' fits lexes) e = absurd (nothing_fits item rest tail t t' fits e)
  one_lexing (goes item rest items tail t fits lexes) (ends tail' t') e = absurd (nothing_fits item rest tail' t' t fits (sym e))
  one_lexing (goes item rest items tail t fits lexes) (goes item' rest' items' tail' t' fits' lexes') e =
      let trivia : item.trivia ≡ item'.trivia = same_trivia t t' e fits.begins fits'.begins in
      let behind : item.lexeme.text ++ rest ≡ item'.lexeme.text ++ rest' = append_cancel_left item'.trivia (item.lexeme.text ++ rest) (item'.lexeme.text ++ rest') (ap (λ x. x ++ (item.lexeme.text ++ rest)) (sym trivia) ∙ e) in
      let lexeme = same_lexeme item.lexeme.class item'.lexeme.class item.lexeme.text item'.lexeme.text rest rest' fits fits' behind in
      let left : rest ≡ rest' = append_cancel_left item'.lexeme.text rest rest' (ap (λ x. x ++ rest) (sym lexeme.0) ∙ behind) in
      let others = one_lexing lexes lexes' left in
      ((λ k. record { trivia = trivia k; lexeme = record { class = lexeme.1 k; text = lexeme.0 k } } ∷ others.0 k), others.1)

-- the law, for any three predicates that keep apart
pub one_lexing_at_most : OneLexing
one_lexing_at_most class_of is_piece bars laws bytes items tail others other_tail a b = one_lexing laws a b refl

pub lexings_join_lem : LexingsJoin
lexings_join_lem class_of is_piece bars bytes items tail (ends t is) = refl
lexings_join_lem class_of is_piece bars bytes items tail (goes item rest others t is fits lexes) =
    ap (λ x. item.trivia ++ (item.lexeme.text ++ x)) (lexings_join_lem class_of is_piece bars rest others t lexes)

-- one item more
pub joined-push : (items : List Item) (item : Item) (tail : List ℕ) → joined (items ++ item ∷ []) tail ≡ joined items (item.trivia ++ (item.lexeme.text ++ tail))
joined-push [] item tail = refl
joined-push (first ∷ items) item tail = ap (λ x. first.trivia ++ (first.lexeme.text ++ x)) (joined-push items item tail)
