-- Of each short text the reader finds one tree at most, so there is one at most.
use Rattle.std.proofs.Common.{◌≡◌, ◌≤◌, ℕ, Bool, true, false, ◌||◌, nat_lt, List, [], ◌∷◌, length, refl, sym, ap, ◌∙◌, inl, inr, arith}
use Rattle.std.proofs.lemmas.Bool.{ltb-false}
use Rattle.std.specs.List.{list_any}
use Rattle.hr_base.specs.declared.lexeme.Item.{Item}
use Rattle.hr_rules.specs.CanFollow.{can_follow}
use Rattle.hr_rules.specs.Roles.{role_of}
use Rattle.hr_grammar.specs.Yields.{nesting_limit}
use Rattle.hr_grammar_finder_laws.specs.Ways.{Among}
use Rattle.hr_grammar_finder_laws.specs.Modules.{trees_of}
use Rattle.hr_grammar_finder_laws.specs.Short.{lists_of, after_a, ShortTextsHaveOneTree}
use Rattle.hr_grammar_finder_laws.proofs.Modules.{derived_are_found_lem}

abbrev is_ambiguous : List ℕ → List Item → Bool
is_ambiguous tail items = nat_lt 1 (length (trees_of nesting_limit (record { list = after_a items; tail = tail })))

none_ambiguous : (tail : List ℕ) → list_any (is_ambiguous tail) (lists_of 3) ≡ false
unfolding can_follow role_of
none_ambiguous tail = refl

both_false : (a b : Bool) → (a || b) ≡ false → (a ≡ false) × (b ≡ false)
both_false true b e = let never : ⊥ = cc in elim never [ ]
both_false false b e = (refl, e)

not_of_any : {T : Type 0} (test : T → Bool) (x : T) (xs : List T) → list_any test xs ≡ false → Among x xs → test x ≡ false
not_of_any test x [] e h = elim h [ ]
not_of_any test x (y ∷ xs) e (inl f) = ap test f ∙ (both_false (test y) (list_any test xs) e).0
not_of_any test x (y ∷ xs) e (inr h) = not_of_any test x xs (both_false (test y) (list_any test xs) e).1 h

one_at_most : {T : Type 0} (x y : T) (xs : List T) → length xs ≤ 1 → Among x xs → Among y xs → x ≡ y
one_at_most x y [] l h k = elim h [ ]
one_at_most x y (z ∷ []) l (inl e) (inl f) = e ∙ sym f
one_at_most x y (z ∷ []) l (inl e) (inr k) = elim k [ ]
one_at_most x y (z ∷ []) l (inr h) k = elim h [ ]
one_at_most x y (z ∷ (w ∷ zs)) l h k = absurd (omega arith)

pub short_texts_lem : ShortTextsHaveOneTree
short_texts_lem items among tree other d e same =
    let trees = trees_of nesting_limit (record { list = after_a items; tail = other.tail }) in
    let few : length trees ≤ 1 = ltb-false 1 (length trees) (not_of_any (is_ambiguous other.tail) items (lists_of 3) (none_ambiguous other.tail) among) in
    one_at_most tree other trees few (derived_are_found_lem.found nesting_limit (record { list = after_a items; tail = other.tail }) tree d same)
    (derived_are_found_lem.found nesting_limit (record { list = after_a items; tail = other.tail }) other e refl)
