-- Every text is a variable identifier or not, and two texts are apart or not.
use Rattle.std.proofs.Common.{◌≡◌, ℕ, Bool, true, false, ◌&&◌, ◌⊎◌, inl, inr, List, [], ◌∷◌, ◌++◌, Option, Some, None, refl, sym, ap, true≢false}
use Rattle.std.proofs.lemmas.Slice.Eq.{bytes_eq-Decides}
use Rattle.std.specs.Bool.{Decides}
use Rattle.std.specs.Str.{bytes_eq}
use Rattle.hr_base.specs.declared.lexeme.Class.{Class}
use Rattle.hr_base.specs.declared.lexeme.Item.{Item}
use Rattle.hr_rules.specs.Lexemes.{class_of}
use Rattle.hr_lexer.specs.Words.{AreApart, AreLexemes, IsVarId, Tells}
use Rattle.hr_lexer.proofs.Exactly.{no_items}
use Rattle.hr_lexer.proofs.SideBySide.{never_apart, tells_apart}
use Rattle.hr_lexer.proofs.Total.{ItemsOrStop, items_or_stop}

told : (b : Bool) (P : Type 0) → Tells b P → P ⊎ (¬ P)
told true P is = inl is
told false P is_not = inr is_not

abbrev is_varid : Option Class → Bool
is_varid (Some Class.VarId) = true
is_varid _ = false

varid_told : (found : Option Class) → Tells (is_varid found) (found ≡ Some Class.VarId)
varid_told None = λ e. true≢false (sym (ap is_varid e))
varid_told (Some Class.VarId) = refl
varid_told (Some _) = λ e. true≢false (sym (ap is_varid e))

pub varid_or_not : (text : List ℕ) → IsVarId text ⊎ (¬ (IsVarId text))
varid_or_not text = told (is_varid (class_of text [])) (IsVarId text) (varid_told (class_of text []))

-- whether the lexemes are two of these texts
module _ (before text : List ℕ) where
  both_told : (a b : Bool) (P Q : Type 0) → Decides a P → Decides b Q → Tells (a && b) (P × Q)
  both_told true true P Q p q = (p.0 refl, q.0 refl)
  both_told true false P Q p q = λ are. true≢false (sym (q.1 are.1))
  both_told false b P Q p q = λ are. true≢false (sym (p.1 are.0))

  abbrev are_two : List Item → Bool
  are_two (first ∷ second ∷ []) = bytes_eq first.lexeme.text before && bytes_eq second.lexeme.text text
  are_two _ = false

  two_told : (items : List Item) → Tells (are_two items) (AreLexemes items before text)
  two_told [] = λ are. are
  two_told (first ∷ []) = λ are. are
  two_told (first ∷ second ∷ []) =
      both_told (bytes_eq first.lexeme.text before) (bytes_eq second.lexeme.text text) (first.lexeme.text ≡ before) (second.lexeme.text ≡ text)
      (bytes_eq-Decides first.lexeme.text before) (bytes_eq-Decides second.lexeme.text text)
  two_told (first ∷ second ∷ third ∷ items) = λ are. are

  by_items : ItemsOrStop (before ++ text) → AreApart before text ⊎ (¬ (AreApart before text))
  by_items (inl (items, lexes)) =
      told (are_two items.list) (AreApart before text) (tells_apart before text (before ++ text) refl (are_two items.list) items lexes (two_told items.list))
  by_items (inr (error, stop)) = inr (never_apart before text (before ++ text) refl (λ items lexes. no_items (before ++ text) error items stop lexes))

  pub apart_or_not : AreApart before text ⊎ (¬ (AreApart before text))
  apart_or_not = by_items (items_or_stop (before ++ text))
