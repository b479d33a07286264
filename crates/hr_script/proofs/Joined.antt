-- Words with a space before each.
use Rattle.std.proofs.Common.{◌≡◌, ℕ, List, [], ◌∷◌, ◌++◌, ap, append-nil}
use Rattle.std.specs.List.{join_with_byte}

abbrev pub spaced : List (List ℕ) → List ℕ
spaced [] = []
spaced (word ∷ words) = 32 ∷ (word ++ spaced words)

pub joined : (word : List ℕ) (words : List (List ℕ)) → word ++ spaced words ≡ join_with_byte 32 (word ∷ words)
joined word [] = append-nil word
joined word (next ∷ words) = ap (λ x. word ++ (32 ∷ x)) (joined next words)
