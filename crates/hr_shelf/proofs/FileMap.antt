-- The map of files that a list of entries stands for.
use Rattle.std.proofs.Common.{◌≡◌, ℕ, zero, suc, Bool, true, false, cond, List, [], ◌∷◌, ◌++◌, Option, Some, None, is_some, position, get_or, set, refl, sym, ap, ◌∙◌, Contains}
use Rattle.std.proofs.lemmas.Cmp.{nat_list_cmp_total, eq_by_cmp_equiv}
use Rattle.std.proofs.lemmas.Map.Views.{list_any-from_Contains, Contains-from_any}
use Rattle.std.proofs.lemmas.Slice.Eq.{bytes_eq-Decides}
use Rattle.std.specs.Cmp.Lexicographic.{slice_cmp, texts_ties}
use Rattle.std.specs.FinMap.{get, insert, from_entries, keys, same_map, from_entries_push, get-from_entries, get-insert, contains_key-keys, IsAntisymmetric, slice_cmp-IsAntisymmetric, nat_cmp-IsAntisymmetric}
use Rattle.std.specs.Ordering.{nat_cmp, eq_by_cmp}
use Rattle.hr_shelf.specs.Outside.{Files}
use Rattle.hr_shelf.proofs.Scan.{has_name, find_bytes, IsFirst, name_at, found_at, first_of, none_of}

abbrev pub Entries : Type 0
Entries = List (List ℕ × List ℕ)

abbrev pub same_name : List ℕ → List ℕ → Bool
same_name = eq_by_cmp (slice_cmp nat_cmp)

exact_names : IsAntisymmetric (slice_cmp nat_cmp)
exact_names = slice_cmp-IsAntisymmetric nat_cmp-IsAntisymmetric

named : (x y : List ℕ) → same_name x y ≡ true → x ≡ y
named x y e = (bytes_eq-Decides x y).0 (texts_ties x y ∙ e)

shadowed : (b c : Bool) (x y z : Option (List ℕ)) → b ≡ c → cond b x z ≡ cond b x (cond c y z)
shadowed true c x y z e = refl
shadowed false true x y z e = cc
shadowed false false x y z e = refl

swapped : (b c : Bool) (x y z : Option (List ℕ)) → (b ≡ true → c ≡ true → ⊥) → cond b x (cond c y z) ≡ cond c y (cond b x z)
swapped true true x y z apart = absurd (apart refl refl)
swapped true false x y z apart = refl
swapped false true x y z apart = refl
swapped false false x y z apart = refl

set_at : (name : List ℕ) (es : Entries) (i : ℕ) (held v : List ℕ) → held ≡ name → IsFirst name es i → (other : List ℕ)
    → find_bytes other (set es i (held, v)) ≡ cond (same_name other name) (Some v) (find_bytes other es)
set_at name [] i held v same h other = absurd h
set_at name (e ∷ es) zero held v same h other =
    ap (λ n. cond (same_name other n) (Some v) (find_bytes other es)) same
    ∙ shadowed _ _ _ _ _ (ap (same_name other) ((bytes_eq-Decides name e.0).0 h))
set_at name (e ∷ es) (suc i) held v same h other =
    ap (cond (same_name other e.0) (Some e.1)) (set_at name es i held v same h.1 other)
    ∙ swapped _ _ _ _ _ (λ p q. let tied : has_name name e ≡ true = (bytes_eq-Decides name e.0).1 (sym (named other name q) ∙ named other e.0 p) in cc)

inserts : (name : List ℕ) (es : Entries) (i : ℕ) (held v : List ℕ) → held ≡ name → IsFirst name es i
    → from_entries {R = slice_cmp nat_cmp} (set es i (held, v)) ≡ insert (from_entries es) name v
inserts name es i held v same h =
    same_map nat_list_cmp_total exact_names _ _ (λ other.
    get-from_entries nat_list_cmp_total _ other ∙ set_at name es i held v same h other
    ∙ sym (get-insert nat_list_cmp_total _ name v other ∙ ap (cond (same_name other name) (Some v)) (get-from_entries nat_list_cmp_total es other)))

-- where no entry has the name the map has no bytes for it
pub lacks : (name : List ℕ) (es : Entries) → position (has_name name) es ≡ None → get (from_entries {R = slice_cmp nat_cmp} es) name ≡ None
lacks name es none = get-from_entries nat_list_cmp_total es name ∙ none_of name es none

-- else it has those of the first entry with the name
pub holds : (name : List ℕ) (es : Entries) (i : ℕ) (entry : List ℕ × List ℕ) → position (has_name name) es ≡ Some i → entry ≡ get_or es i entry
    → get (from_entries {R = slice_cmp nat_cmp} es) name ≡ Some entry.1
holds name es i entry place here =
    get-from_entries nat_list_cmp_total es name ∙ found_at name es i entry (first_of name es i place) ∙ sym (ap (λ (e : List ℕ × List ℕ). Some e.1) here)

-- to set the bytes of the first entry with the name is to insert them
pub sets : (name : List ℕ) (es : Entries) (i : ℕ) (entry : List ℕ × List ℕ) (v : List ℕ) → position (has_name name) es ≡ Some i → entry ≡ get_or es i entry
    → from_entries {R = slice_cmp nat_cmp} (set es i (entry.0, v)) ≡ insert (from_entries es) name v
sets name es i entry v place here =
    let first = first_of name es i place in
    inserts name es i entry.0 v (ap (λ (e : List ℕ × List ℕ). e.0) here ∙ name_at name es i entry first) first

-- to add an entry with a new name is to insert it
pub adds : (name : List ℕ) (es now : Entries) (held v : List ℕ) → position (has_name name) es ≡ None → held ≡ name → now ≡ es ++ (held, v) ∷ []
    → from_entries {R = slice_cmp nat_cmp} now ≡ insert (from_entries es) name v
adds name es now held v none same is =
    ap (from_entries {R = slice_cmp nat_cmp}) (is ∙ ap (λ n. es ++ (n, v) ∷ []) same)
    ∙ from_entries_push nat_list_cmp_total exact_names es name v (none_of name es none)

-- a name is a key exactly where the map has bytes for it
has_of_key : (files : Files) (name : List ℕ) → Contains (keys files) name → is_some (get files name) ≡ true
has_of_key files name h = contains_key-keys files name ∙ list_any-from_Contains (eq_by_cmp_equiv nat_list_cmp_total) name (keys files) h

pub key_of_has : (files : Files) (name : List ℕ) → is_some (get files name) ≡ true → Contains (keys files) name
key_of_has files name h = Contains-from_any named name (keys files) (sym (contains_key-keys files name) ∙ h)

some_after : (b : Bool) (x : List ℕ) (o : Option (List ℕ)) → is_some o ≡ true → is_some (cond b (Some x) o) ≡ true
some_after true x o h = refl
some_after false x o h = h

pub key_has : (files : Files) (name : List ℕ) → Contains (keys files) name → get files name ≡ None → ⊥
key_has files name h none = let has = has_of_key files name h in cc

pub key_stays : (files : Files) (name bytes other : List ℕ) → Contains (keys files) other → Contains (keys (insert files name bytes)) other
key_stays files name bytes other h =
    key_of_has _ other (ap is_some (get-insert nat_list_cmp_total files name bytes other) ∙ some_after (same_name other name) bytes _ (has_of_key files other h))
