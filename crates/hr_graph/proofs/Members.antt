-- What is in a list.
use Rattle.std.proofs.Common.{◌≡◌, ◌+◌, ◌-◌, ◌<◌, ◌++◌, ◌∷◌, ℕ, [], List, length, take, get_or, set, arith, sym, ◌∙◌, ap, subst, inl, inr, Some, None}
use Rattle.std.specs.Prelude.{Contains, slice_get, Option}
use Rattle.std.proofs.lemmas.Option.{get_or_from_slice_get}
use Rattle.std.proofs.lemmas.Bool.{cases_eq}
use Rattle.std.proofs.lemmas.List.{take_more, get_or-set_same, get_or-set_other, take_all}
use Rattle.std.proofs.lemmas.List.Elements.{Contains-push_cases, Contains-append_left}

-- nothing is in the empty list
pub contains_none : {X : Type 0} (x : X) → Contains [] x → ⊥
contains_none x (k, within, is) = absurd (omega (arith, within))

-- what is in a list with one element more
pub contains_more : {X : Type 0} (P : X → Type 0) (xs : List X) (x : X) → ((y : X) → Contains xs y → P y) → P x → (y : X) → Contains (xs ++ x ∷ []) y → P y
contains_more P xs x each last y h =
    elim (Contains-push_cases xs x y h) [ inl old ↦ each y old | inr e ↦ subst P e last ]

-- a list keeps what it has when it grows by one element
pub contains_kept : {X : Type 0} (xs : List X) (x y : X) → Contains xs y → Contains (xs ++ x ∷ []) y
contains_kept xs x y h = Contains-append_left xs (x ∷ []) y h

-- an element after a write at u: it is the new one at u, and else stays
pub at_set : {X : Type 0} (P : ℕ → X → Type 0) (xs : List X) (u : ℕ) (new d : X) → u < length xs → P u new → ((a : ℕ) → (a ≡ u → ⊥) → P a (get_or xs a d)) → (a : ℕ) → P a (get_or (set xs u new) a d)
at_set P xs u new d within here other a =
    elim (cases_eq a u) [
      | inl e ↦ subst (λ b. P b (get_or (set xs u new) b d)) (sym e) (subst (λ x. P u x) (sym (get_or-set_same xs u new d within)) here)
      | inr ne ↦ subst (λ x. P a x) (sym (get_or-set_other xs u a new d ne)) (other a ne)
    ]

-- a list that is not empty, by the last element that was read
pub last_split : {X : Type 0} (xs ys rest : List X) (x : X) (n : ℕ) → ys ≡ xs → Some x ≡ slice_get ys (length ys - 1) → length ys ≡ n → rest ≡ take (n - 1) xs → xs ≡ rest ++ x ∷ []
last_split xs ys rest x n same last long is =
    let at : Some x ≡ slice_get xs (length xs - 1) = last ∙ ap (λ zs. slice_get zs (length zs - 1)) same in
    let count : length xs ≡ n = ap length (sym same) ∙ long in
    let within : 0 < length xs = not_empty xs x at in
    let whole : take (length xs - 1 + 1) xs ≡ xs = take_all (length xs - 1 + 1) xs (omega arith) in
    let read : get_or xs (length xs - 1) x ≡ x = get_or_from_slice_get xs (length xs - 1) x x (sym at) in
    let front : take (length xs - 1) xs ≡ rest = ap (λ n. take (n - 1) xs) count ∙ sym is in
    sym whole ∙ take_more xs (length xs - 1) x (omega arith) ∙ ap (λ y. take (length xs - 1) xs ++ y ∷ []) read ∙ ap (λ zs. zs ++ x ∷ []) front
  where
    not_empty : {X : Type 0} (xs : List X) (x : X) → Some x ≡ slice_get xs (length xs - 1) → 0 < length xs
    not_empty {X} [] x at = let clash : ◌≡◌ {A = Option X} (Some x) None = at in cc
    not_empty (y ∷ xs) x at = omega arith
