-- A text is a word where their bytes are the same.
use Rattle.std.proofs.Common.{◌≡◌, ◌==◌, ◌&&◌, nat_eq, ℕ, suc, Bool, true, false, List, [], ◌∷◌, length, refl, ap, ◌∙◌, arith}
use Rattle.std.specs.Cmp.Lexicographic.{pointwise}
use Rattle.hr_rules.specs.Names.{is_spelled}
use Rattle.hr_rules.specs.Runs.{begins_word}

turned : (first long rest : Bool) → first && (long && rest) ≡ long && (first && rest)
turned true long rest = refl
turned false true rest = refl
turned false false rest = refl

never : (long : Bool) → false ≡ long && false
never true = refl
never false = refl

both_longer : (m n : ℕ) → (m == n) ≡ (suc m == suc n)
both_longer m n = grind arith

pub spelled : (word text : List ℕ) → pointwise nat_eq text word ≡ is_spelled word text
spelled [] [] = refl
spelled [] (c ∷ text) = grind arith
spelled (b ∷ word) [] = never (0 == length (b ∷ word))
spelled (b ∷ word) (c ∷ text) =
    ap (λ t. (c == b) && t) (spelled word text) ∙ turned (c == b) (length text == length word) (begins_word word text)
    ∙ ap (λ t. t && ((c == b) && begins_word word text)) (both_longer (length text) (length word))
