-- Entries under names that are scanned from the front.
use Rattle.std.proofs.Common.{◌≡◌, ℕ, zero, suc, ◌+◌, ◌<◌, ◌≤◌, Bool, true, false, cond, not, List, [], ◌∷◌, length, Option, Some, None, is_some, map, position, get_or, nat_lt, refl, sym, ap, subst, ◌∙◌, arith}
use Rattle.std.proofs.lemmas.Bool.{ltb-true, ltb-false}
use Rattle.std.proofs.lemmas.Slice.Eq.{bytes_eq-Decides}
use Rattle.std.specs.Cmp.Lexicographic.{slice_cmp, texts_ties}
use Rattle.std.specs.FinMap.{find}
use Rattle.std.specs.FinMap.Entries.{is_some-find}
use Rattle.std.specs.List.{list_any, position_or_len}
use Rattle.std.specs.Ordering.{nat_cmp}
use Rattle.std.specs.Str.{bytes_eq}

abbrev pub has_name : {T : Type 0} → List ℕ → List ℕ × T → Bool
has_name name entry = bytes_eq name entry.0

abbrev pub find_bytes : {T : Type 0} → List ℕ → List (List ℕ × T) → Option T
find_bytes = find (slice_cmp nat_cmp)

-- the entry at i is the first one with the name
abbrev pub IsFirst : {T : Type 0} → List ℕ → List (List ℕ × T) → ℕ → Type 0
IsFirst name [] i = ⊥
IsFirst name (e ∷ es) zero = has_name name e ≡ true
IsFirst name (e ∷ es) (suc i) = (has_name name e ≡ false) × IsFirst name es i

module _ {T : Type 0} where
  pub within : (name : List ℕ) (es : List (List ℕ × T)) (i : ℕ) → IsFirst name es i → i < length es
  within name [] i h = absurd h
  within name (e ∷ es) zero h = omega arith
  within name (e ∷ es) (suc i) h = let below = within name es i h.1 in omega arith

  pub name_at : (name : List ℕ) (es : List (List ℕ × T)) (i : ℕ) (d : List ℕ × T) → IsFirst name es i → (get_or es i d).0 ≡ name
  name_at name [] i d h = absurd h
  name_at name (e ∷ es) zero d h = sym ((bytes_eq-Decides name e.0).0 h)
  name_at name (e ∷ es) (suc i) d h = name_at name es i d h.1

  pub found_at : (name : List ℕ) (es : List (List ℕ × T)) (i : ℕ) (d : List ℕ × T) → IsFirst name es i → find_bytes name es ≡ Some (get_or es i d).1
  found_at name [] i d h = absurd h
  found_at name (e ∷ es) zero d h = ap (λ b. cond b (Some e.1) (find_bytes name es)) (sym (texts_ties name e.0) ∙ h)
  found_at name (e ∷ es) (suc i) d h = ap (λ b. cond b (Some e.1) (find_bytes name es)) (sym (texts_ties name e.0) ∙ h.0) ∙ found_at name es i d h.1

  first_below : (name : List ℕ) (es : List (List ℕ × T)) → position_or_len (has_name name) es < length es → IsFirst name es (position_or_len (has_name name) es)
  first_below name [] h = absurd (omega arith)
  first_below name (e ∷ es) h =
      let n : ℕ = position_or_len (has_name name) es in
      elim (has_name name e) as (λ b. has_name name e ≡ b → cond (not b) (1 + n) 0 < suc (length es) → IsFirst name (e ∷ es) (cond (not b) (1 + n) 0)) [
        | true ↦ λ is _. is
        | false ↦ λ is below. let turned : suc n ≡ 1 + n = omega arith in subst (IsFirst name (e ∷ es)) turned (is, first_below name es (omega arith))
      ] refl h

  none_past : (name : List ℕ) (es : List (List ℕ × T)) → length es ≤ position_or_len (has_name name) es → find_bytes name es ≡ None
  none_past name [] h = refl
  none_past name (e ∷ es) h =
      let n : ℕ = position_or_len (has_name name) es in
      elim (has_name name e) as (λ b. has_name name e ≡ b → suc (length es) ≤ cond (not b) (1 + n) 0 → find_bytes name (e ∷ es) ≡ None) [
        | true ↦ λ is past. absurd (omega arith)
        | false ↦ λ is past. ap (λ b. cond b (Some e.1) (find_bytes name es)) (sym (texts_ties name e.0) ∙ is) ∙ none_past name es (omega arith)
      ] refl h

  -- `position` finds the first entry with the name
  pub first_of : (name : List ℕ) (es : List (List ℕ × T)) (i : ℕ) → position (has_name name) es ≡ Some i → IsFirst name es i
  first_of name es i is =
      let n : ℕ = position_or_len (has_name name) es in
      elim (nat_lt n (length es)) as (λ b. nat_lt n (length es) ≡ b → cond b (Some n) None ≡ Some i → IsFirst name es i) [
        | true ↦ λ below here. let turned : n ≡ i = cc in subst (IsFirst name es) turned (first_below name es (ltb-true n (length es) below))
        | false ↦ λ _ here. cc
      ] refl is

  pub none_of : (name : List ℕ) (es : List (List ℕ × T)) → position (has_name name) es ≡ None → find_bytes name es ≡ None
  none_of name es is =
      let n : ℕ = position_or_len (has_name name) es in
      elim (nat_lt n (length es)) as (λ b. nat_lt n (length es) ≡ b → ◌≡◌ {A = Option ℕ} (cond b (Some n) None) None → find_bytes name es ≡ None) [
        | true ↦ λ _ here. cc
        | false ↦ λ past _. none_past name es (ltb-false n (length es) past)
      ] refl is

  some_at : (name : List ℕ) (es : List (List ℕ × T)) (i : ℕ) → IsFirst name es i → is_some (find_bytes name es) ≡ true
  some_at name [] i h = absurd h
  some_at name (e ∷ es) zero h = ap (λ b. is_some (cond b (Some e.1) (find_bytes name es))) (sym (texts_ties name e.0) ∙ h)
  some_at name (e ∷ es) (suc i) h = ap (λ b. is_some (cond b (Some e.1) (find_bytes name es))) (sym (texts_ties name e.0) ∙ h.0) ∙ some_at name es i h.1

  found_is : (name : List ℕ) (es : List (List ℕ × T)) (place : Option ℕ) → position (has_name name) es ≡ place → is_some (find_bytes name es) ≡ is_some place
  found_is name es None none = ap is_some (none_of name es none)
  found_is name es (Some i) here = some_at name es i (first_of name es i here)

  -- it finds one exactly where the name is among the names
  pub named_is : (name : List ℕ) (es : List (List ℕ × T)) (place : Option ℕ) → position (has_name name) es ≡ place → list_any (bytes_eq name) (map (λ e. e.0) es) ≡ is_some place
  named_is name es place is =
      ap (λ p. list_any p (map (λ e. e.0) es)) (λ i other. texts_ties name other i) ∙ sym (is_some-find (slice_cmp nat_cmp) name es) ∙ found_is name es place is

  -- a place that was looked for by a text and entries that are the ones meant
  pub located : (asked name : List ℕ) (held es : List (List ℕ × T)) (place : Option ℕ) → asked ≡ name → held ≡ es → place ≡ position (has_name asked) held → position (has_name name) es ≡ place
  located asked name held es place by in_these is = sym (is ∙ ap (λ n. position (has_name n) held) by ∙ ap (position (has_name name)) in_these)
