-- Fields that are put one after another, with a blank (32) before each.
use Rattle.std.proofs.Common.{◌≡◌, ◌≤◌, ℕ, suc, zero, List, [], ◌∷◌, ◌++◌, length, drop, map, sym, ap, ◌∙◌, append-nil, arith}
use Rattle.std.specs.List.{join_with_byte}

abbrev pub joined_fields : List (List ℕ) → List ℕ
joined_fields [] = []
joined_fields (field ∷ fields) = 32 ∷ (field ++ joined_fields fields)

pub joined_behind : (first : List ℕ) (fields : List (List ℕ)) → join_with_byte 32 (first ∷ fields) ≡ first ++ joined_fields fields
joined_behind first [] = sym (append-nil first)
joined_behind first (field ∷ fields) = ap (λ rest. first ++ 32 ∷ rest) (joined_behind field fields)

-- nothing is left behind the last one
pub at_end : {X : Type 0} (f : X → List ℕ) (items : List ℕ) (n : ℕ) (xs : List X) → length xs ≤ n → items ++ joined_fields (map f (drop n xs)) ≡ items
at_end f items zero [] past = append-nil items
at_end f items zero (x ∷ xs) past = absurd (omega (arith, past))
at_end f items (suc n) [] past = append-nil items
at_end f items (suc n) (x ∷ xs) past = at_end f items n xs (omega (arith, past))

pub texts_at_end : (items : List ℕ) (n : ℕ) (xs : List (List ℕ)) → length xs ≤ n → items ++ joined_fields (drop n xs) ≡ items
texts_at_end items zero [] past = append-nil items
texts_at_end items zero (x ∷ xs) past = absurd (omega (arith, past))
texts_at_end items (suc n) [] past = append-nil items
texts_at_end items (suc n) (x ∷ xs) past = texts_at_end items n xs (omega (arith, past))
