-- Lists of names, each once.
use Rattle.std.proofs.Common.{◌≡◌, ℕ, zero, suc, true, false, cond, List, [], ◌∷◌, ◌++◌, map, get_or, set, refl, sym, ap, ◌∙◌, Contains}
use Rattle.std.proofs.lemmas.List.{map-append}
use Rattle.std.proofs.lemmas.Cmp.{nat_list_eq_equiv}
use Rattle.std.proofs.lemmas.List.Elements.{Contains-push, Contains-append_left}
use Rattle.std.proofs.lemmas.Map.Views.{list_any-from_Contains, Contains-from_any}
use Rattle.std.proofs.lemmas.Slice.Eq.{bytes_eq-Decides}
use Rattle.std.specs.List.{list_any}
use Rattle.std.specs.Str.{bytes_eq}
use Rattle.hr_shelf.specs.System.{with_name}

pub any_of_member : (names : List (List ℕ)) (name : List ℕ) → Contains names name → list_any (bytes_eq name) names ≡ true
any_of_member names name h = list_any-from_Contains nat_list_eq_equiv name names h

pub adds_known : (names : List (List ℕ)) (name : List ℕ) → list_any (bytes_eq name) names ≡ true → names ≡ with_name names name
adds_known names name is = ap (λ b. cond b names (names ++ name ∷ [])) (sym is)

-- to add an entry with a new name is to add the name
pub adds_new : {T : Type 0} (es now : List (List ℕ × T)) (name held : List ℕ) (value : T) → list_any (bytes_eq name) (map (λ e. e.0) es) ≡ false → held ≡ name
    → now ≡ es ++ (held, value) ∷ [] → map (λ e. e.0) now ≡ with_name (map (λ e. e.0) es) name
adds_new es now name held value is same added =
    ap (map (λ e. e.0)) added ∙ map-append (λ e. e.0) es ((held, value) ∷ []) ∙ ap (λ n. map (λ e. e.0) es ++ n ∷ []) same
    ∙ ap (λ b. cond b (map (λ e. e.0) es) (map (λ e. e.0) es ++ name ∷ [])) (sym is)

-- a name that was added is there, and no other one has gone
pub with_name_has : (names : List (List ℕ)) (name : List ℕ) → Contains (with_name names name) name
with_name_has names name =
    elim (list_any (bytes_eq name) names) as (λ b. list_any (bytes_eq name) names ≡ b → Contains (cond b names (names ++ name ∷ [])) name) [
      | true ↦ λ is. Contains-from_any (λ x y. (bytes_eq-Decides x y).0) name names is
      | false ↦ λ _. Contains-push names name
    ] refl

pub with_name_keeps : (names : List (List ℕ)) (name other : List ℕ) → Contains names other → Contains (with_name names name) other
with_name_keeps names name other h =
    elim (list_any (bytes_eq name) names) as (λ b. Contains (cond b names (names ++ name ∷ [])) other) [
      | true ↦ h
      | false ↦ Contains-append_left names (name ∷ []) other h
    ]

-- to set what stands beside a name is to leave the names
pub same_names : {T : Type 0} (es : List (List ℕ × T)) (i : ℕ) (entry : List ℕ × T) (value : T) → entry ≡ get_or es i entry
    → map (λ e. e.0) (set es i (entry.0, value)) ≡ map (λ e. e.0) es
same_names [] i entry value here = refl
same_names (e ∷ es) zero entry value here = ap (λ n. n ∷ map (λ e. e.0) es) (ap (λ x. x.0) here)
same_names (e ∷ es) (suc i) entry value here = ap (λ names. e.0 ∷ names) (same_names es i entry value here)

-- a name that none of the names equals is not among them
pub none_of_these : (names : List (List ℕ)) (asked name : List ℕ) → asked ≡ name → list_any (bytes_eq asked) names ≡ false → Contains names name → ⊥
none_of_these names asked name same none has = let held = any_of_member names name has in cc
