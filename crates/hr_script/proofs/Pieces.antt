-- Words joined by a separator are cut at it into the same words again.
use Rattle.std.proofs.Common.{◌≡◌, ℕ, ◌<◌, ◌==◌, Bool, true, false, not, List, [], ◌∷◌, All, length, get_or, refl, sym, ap, subst, ◌∙◌, true≢false}
use Rattle.std.specs.List.{list_all, join_with_byte, AllByRecursion}
use Rattle.std.proofs.lemmas.Bool.{eq-eqb, ne_eqb}
use Rattle.std.proofs.lemmas.List.{get_or_default}
use Rattle.std.proofs.lemmas.List.Sums.{AllPass-from_list_all}
use Rattle.std.proofs.lemmas.List.Splits.{slice_split_none, slice_split_at}
use Rattle.hr_script.specs.Numbers.{cut_at}

-- the separator stands nowhere in the text
abbrev pub Lacks : ℕ → List ℕ → Type 0
Lacks c text = All (λ b. (b == c) ≡ false) text

was_not : (b : Bool) → not b ≡ true → b ≡ false
was_not true e = absurd (true≢false (sym e))
was_not false e = refl

-- for a text that is written out
pub lacks_in : (c : ℕ) (text : List ℕ) → list_all (λ b. not (b == c)) text ≡ true → Lacks c text
lacks_in c text passes = λ k d within. was_not (get_or text k d == c) (AllPass-from_list_all (λ b. not (b == c)) text passes k d within)

pub lacks_at : (c : ℕ) (text : List ℕ) → ((i : ℕ) → i < length text → get_or text i 0 ≡ c → ⊥) → Lacks c text
lacks_at c text each = λ k d within.
    subst (λ b. (b == c) ≡ false) (get_or_default text k 0 d within) (ne_eqb (get_or text k 0) c (each k within))

pub cut_again : (c : ℕ) (word : List ℕ) (words : List (List ℕ)) → AllByRecursion (Lacks c) (word ∷ words)
    → cut_at c (join_with_byte c (word ∷ words)) ≡ word ∷ words
cut_again c word [] lacks = slice_split_none (λ b. b == c) word lacks.0
cut_again c word (next ∷ words) lacks =
    slice_split_at (λ b. b == c) word c (join_with_byte c (next ∷ words)) lacks.0 (eq-eqb c c refl)
    ∙ ap (λ rest. word ∷ rest) (cut_again c next words lacks.1)
