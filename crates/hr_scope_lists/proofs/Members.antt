-- What is in a list, by how the list is made.
use Rattle.std.proofs.Common.{◌≡◌, ℕ, zero, suc, List, [], ◌∷◌, map, Bool, true, false, cond, ◌||◌, ◌⊎◌, inl, inr, refl, sym, ◌∙◌, ap, subst, arith, Some, None, true≢false}
use Rattle.std.specs.Prelude.{Contains, slice_get, filter, Option}
use Rattle.std.specs.Bool.{Decides}
use Rattle.std.specs.List.{flat_map, list_any}
use Rattle.std.proofs.lemmas.Bool.Decides.{Decides-or, Decides-like}
use Rattle.std.proofs.lemmas.List.Elements.{Contains-get_or, Contains-append_left, Contains-append_right, Contains-append_cases, Contains-push_cases}

pub none : {X : Type 0} (x : X) → Contains [] x → ⊥
none x (k, within, is) = absurd (omega (arith, within))

pub here : {X : Type 0} (x : X) (xs : List X) → Contains (x ∷ xs) x
here x xs = Contains-get_or (x ∷ xs) 0 x (omega arith)

pub there : {X : Type 0} (y : X) (xs : List X) (x : X) → Contains xs x → Contains (y ∷ xs) x
there y xs x h = Contains-append_right (y ∷ []) xs x h

pub single : {X : Type 0} (y x : X) → Contains (y ∷ []) x → y ≡ x
single y x h = elim (Contains-push_cases [] y x h) [ inl old ↦ absurd (none x old) | inr e ↦ e ]

pub split : {X : Type 0} (y : X) (xs : List X) (x : X) → Contains (y ∷ xs) x → (y ≡ x) ⊎ Contains xs x
split y xs x h = elim (Contains-append_cases (y ∷ []) xs x h) [ inl first ↦ inl (single y x first) | inr rest ↦ inr rest ]

pub in_map : {X Y : Type 0} (f : X → Y) (xs : List X) (x : X) → Contains xs x → Contains (map f xs) (f x)
in_map f [] x h = absurd (none x h)
in_map f (y ∷ xs) x h =
    elim (split y xs x h) [
      | inl e ↦ subst (λ z. Contains (map f (y ∷ xs)) (f z)) e (here (f y) (map f xs))
      | inr rest ↦ there (f y) (map f xs) (f x) (in_map f xs x rest)
    ]

pub from_map : {X Y : Type 0} (f : X → Y) (xs : List X) (y : Y) → Contains (map f xs) y → (x : X) × Contains xs x × (f x ≡ y)
from_map f [] y h = absurd (none y h)
from_map f (x ∷ xs) y h =
    elim (split (f x) (map f xs) y h) [
      | inl e ↦ (x, here x xs, e)
      | inr rest ↦ let found = from_map f xs y rest in (found.0, there x xs found.0 found.1, found.2)
    ]

pub in_flat_map : {X Y : Type 0} (f : X → List Y) (xs : List X) (x : X) (y : Y) → Contains xs x → Contains (f x) y → Contains (flat_map f xs) y
in_flat_map f [] x y h inner = absurd (none x h)
in_flat_map f (z ∷ xs) x y h inner =
    elim (split z xs x h) [
      | inl e ↦ Contains-append_left (f z) (flat_map f xs) y (subst (λ w. Contains (f w) y) (sym e) inner)
      | inr rest ↦ Contains-append_right (f z) (flat_map f xs) y (in_flat_map f xs x y rest inner)
    ]

pub from_flat_map : {X Y : Type 0} (f : X → List Y) (xs : List X) (y : Y) → Contains (flat_map f xs) y → (x : X) × Contains xs x × Contains (f x) y
from_flat_map f [] y h = absurd (none y h)
from_flat_map f (x ∷ xs) y h =
    elim (Contains-append_cases (f x) (flat_map f xs) y h) [
      | inl first ↦ (x, here x xs, first)
      | inr rest ↦ let found = from_flat_map f xs y rest in (found.0, there x xs found.0 found.1, found.2)
    ]

kept : {X : Type 0} (b : Bool) (y : X) (xs : List X) (x : X) → Contains xs x → Contains (cond b (y ∷ xs) xs) x
kept true y xs x h = there y xs x h
kept false y xs x h = h

pub in_filter : {X : Type 0} (p : X → Bool) (xs : List X) (x : X) → Contains xs x → p x ≡ true → Contains (filter p xs) x
in_filter p [] x h e = absurd (none x h)
in_filter p (y ∷ xs) x h e =
    elim (split y xs x h) [
      | inl same ↦ subst (λ b. Contains (cond b (y ∷ filter p xs) (filter p xs)) x) (sym (ap p same ∙ e)) (subst (λ z. Contains (y ∷ filter p xs) z) same (here y (filter p xs)))
      | inr rest ↦ kept (p y) y (filter p xs) x (in_filter p xs x rest e)
    ]

pub from_filter : {X : Type 0} (p : X → Bool) (xs : List X) (x : X) → Contains (filter p xs) x → Contains xs x × (p x ≡ true)
from_filter p [] x h = absurd (none x h)
from_filter {X} p (y ∷ xs) x h = by (p y) refl (λ g. let found = from_filter p xs x g in (there y xs x found.0, found.1)) h
  where
    by : (b : Bool) → p y ≡ b → (Contains (filter p xs) x → Contains (y ∷ xs) x × (p x ≡ true)) → Contains (cond b (y ∷ filter p xs) (filter p xs)) x
        → Contains (y ∷ xs) x × (p x ≡ true)
    by true e rest g = elim (split y (filter p xs) x g) [
      | inl same ↦ (subst (λ z. Contains (y ∷ xs) z) same (here y xs), ap p (sym same) ∙ e)
      | inr more ↦ rest more
    ]
    by false e rest g = rest g

pub any_decides : {X : Type 0} (p : X → Bool) (P : X → Type 0) → ((x : X) → Decides (p x) (P x)) → (xs : List X) → Decides (list_any p xs) ((x : X) × Contains xs x × P x)
any_decides p P each [] = (λ e. absurd (true≢false (sym e)), λ h. absurd (none h.0 h.1))
any_decides {X} p P each (y ∷ xs) = Decides-like (p y || list_any p xs) to from (Decides-or (p y) (list_any p xs) (each y) (any_decides p P each xs))
  where
    to : P y ⊎ ((x : X) × Contains xs x × P x) → (x : X) × Contains (y ∷ xs) x × P x
    to (inl first) = (y, here y xs, first)
    to (inr rest) = (rest.0, there y xs rest.0 rest.1, rest.2)

    from : (x : X) × Contains (y ∷ xs) x × P x → P y ⊎ ((x : X) × Contains xs x × P x)
    from h = elim (split y xs h.0 h.1) [ inl e ↦ inl (subst P (sym e) h.2) | inr rest ↦ inr (h.0, rest, h.2) ]

-- a list has what stands at a number, and what it has stands at one
pub at_number : {X : Type 0} (xs : List X) (k : ℕ) (x : X) → slice_get xs k ≡ Some x → Contains xs x
at_number {X} [] k x e = let clash : ◌≡◌ {A = Option X} None (Some x) = e in cc
at_number {X} (y ∷ xs) zero x e = let same : y ≡ x = some_is y x e in subst (λ z. Contains (y ∷ xs) z) same (here y xs)
  where
    some_is : (a b : X) → ◌≡◌ {A = Option X} (Some a) (Some b) → a ≡ b
    some_is a b p = cc
at_number (y ∷ xs) (suc k) x e = there y xs x (at_number xs k x e)

pub number_of : {X : Type 0} (xs : List X) (x : X) → Contains xs x → (k : ℕ) × (slice_get xs k ≡ Some x)
number_of [] x h = absurd (none x h)
number_of (y ∷ xs) x h =
    elim (split y xs x h) [
      | inl e ↦ (zero, ap Some e)
      | inr rest ↦ let found = number_of xs x rest in (suc found.0, found.1)
    ]

pub same_some : {X : Type 0} (a b : X) → ◌≡◌ {A = Option X} (Some a) (Some b) → a ≡ b
same_some a b p = cc
