-- Before an operator that can't be taken stands another one.
use Rattle.std.proofs.Common.{◌≡◌, ℕ, zero, suc, ◌<◌, ◌≤◌, Bool, List, [], ◌∷◌, take, reverse, Option, Some, None, true, false, nat_lt, nat_eq, cond, refl, sym, ◌∙◌, ap, subst, arith}
use Rattle.std.proofs.lemmas.Bool.{ltb-false}
use Rattle.std.proofs.lemmas.List.{reverse-append}
use Rattle.std.proofs.lemmas.List.Folds.{find-append}
use Rattle.std.specs.List.{slice_get, find}
use Rattle.std.specs.Option.{option_and_then, option_or, is_some, IsSome}
use Rattle.hr_fixity.specs.declared.sequence.Part.{Part}
use Rattle.hr_fixity.specs.declared.sequence.Part.TheVariants as part
use Rattle.hr_fixity.specs.declared.stack.Open.{Open}
use Rattle.hr_fixity.specs.Sequence.{IsRootOf}
use Rattle.hr_fixity.specs.Resolved.{is_operator, is_within, operator_place, place_at, beside}
use Rattle.hr_fixity.specs.Reader.{run, take_part}

is_found : {X : Type 0} (p : X → Bool) (xs : List X) (k : ℕ) (x : X) → slice_get xs k ≡ Some x → p x ≡ true → is_some (find p (reverse xs)) ≡ true
is_found p [] k x e h = absurd (cc)
is_found {X} p (y ∷ ys) k x e h =
    let whole : find p (reverse (y ∷ ys)) ≡ option_or (find p (reverse ys)) (find p (y ∷ [])) = ap (find p) (reverse-append (y ∷ []) ys) ∙ find-append p (reverse ys) (y ∷ []) in
    ap is_some whole ∙ by k e (λ j e'. is_found p ys j x e' h)
  where
    last : (o : Option X) → is_some o ≡ true → (r : Option X) → is_some (option_or r o) ≡ true
    last o h None = h
    last o h (Some z) = refl

    front : (r : Option X) → is_some r ≡ true → (o : Option X) → is_some (option_or r o) ≡ true
    front None h o = absurd (cc)
    front (Some z) h o = refl

    single : (b : Bool) → b ≡ true → is_some (cond b (Some y) None) ≡ true
    single true e = refl
    single false e = absurd (cc)

    by : (k : ℕ) → slice_get (y ∷ ys) k ≡ Some x → ((j : ℕ) → slice_get ys j ≡ Some x → is_some (find p (reverse ys)) ≡ true) → is_some (option_or (find p (reverse ys)) (find p (y ∷ []))) ≡ true
    by zero e found = let same : y ≡ x = cc in last (find p (y ∷ [])) (single (p y) (ap p same ∙ h)) (find p (reverse ys))
    by (suc k) e found = front (find p (reverse ys)) (found k e) (find p (y ∷ []))

find_holds : {X : Type 0} (p : X → Bool) (xs : List X) (y : X) → find p xs ≡ Some y → p y ≡ true
find_holds p [] y e = absurd (cc)
find_holds {X} p (x ∷ xs) y e = by (p x) refl e (λ e'. find_holds p xs y e')
  where
    by : (b : Bool) → p x ≡ b → cond b (Some x) (find p xs) ≡ Some y → (find p xs ≡ Some y → p y ≡ true) → p y ≡ true
    by true h e next = let same : x ≡ y = cc in ap p (sym same) ∙ h
    by false h e next = next e

-- operands alone open nothing
operands : (root : Option ℕ) (ps : List Part) (n : ℕ) (os : List Open) → ((k : ℕ) (q : Part) → slice_get ps k ≡ Some q → is_operator q ≡ false) → run root n ps os ≡ Some os
operands root [] n os none = refl
operands root (q ∷ ps) n os none = by q (none 0 q refl) (operands root ps (suc n) os (λ k r e. none (suc k) r e))
  where
    by : (q : Part) → is_operator q ≡ false → run root (suc n) ps os ≡ Some os → option_and_then (run root (suc n) ps) (take_part root n q os) ≡ Some os
    by part.Operand h next = next
    by (part.Operator p f) h next = absurd (cc)
    by (part.Minus p) h next = absurd (cc)
    by (part.PatternMinus p) h next = absurd (cc)

slice_get_take : (ps : List Part) (k r : ℕ) (q : Part) → r < k → slice_get ps r ≡ Some q → slice_get (take k ps) r ≡ Some q
slice_get_take [] k r q h e = absurd (cc)
slice_get_take (p ∷ ps) zero r q h e = absurd (omega arith)
slice_get_take (p ∷ ps) (suc k) zero q h e = e
slice_get_take (p ∷ ps) (suc k) (suc r) q h e = slice_get_take ps k r q (omega arith) e

-- with nothing open an operator can't be taken only where the root stands before it
alone : (root : Option ℕ) (k : ℕ) (q : Part) → take_part root k q [] ≡ None → (r : ℕ) × (root ≡ Some r) × (r < k)
alone root k part.Operand e = absurd (cc)
alone root k (part.Minus p) e = absurd (cc)
alone root k (part.PatternMinus p) e = absurd (cc)
alone None k (part.Operator p f) e = absurd (cc)
alone (Some r) k (part.Operator p f) e = by (nat_lt k r) refl (nat_eq k r) refl
  where
    by : (a : Bool) → nat_lt k r ≡ a → (b : Bool) → nat_eq k r ≡ b → (s : ℕ) × (Some r ≡ Some s) × (s < k)
    by true ea b eb = absurd (let bad = rw ea at e in cc)
    by false ea true eb = absurd (let bad = rw (ea, eb) at e in cc)
    by false ea false eb = let le : r ≤ k = ltb-false k r ea in (r, refl, grind arith)

place_there : (y : Part) → is_operator y ≡ true → IsSome (operator_place y)
place_there part.Operand h = absurd (cc)
place_there (part.Operator p f) h = refl
place_there (part.Minus p) h = refl
place_there (part.PatternMinus p) h = refl

within_operator : (limit : ℕ) (y : Part) → is_within limit y ≡ true → is_operator y ≡ true
within_operator limit part.Operand h = absurd (cc)
within_operator limit (part.Operator p f) h = refl
within_operator limit (part.Minus p) h = refl
within_operator limit (part.PatternMinus p) h = refl

some_last : (xs : List Part) → is_some (find is_operator xs) ≡ true → IsSome (place_at (find is_operator xs))
some_last xs h = by (find is_operator xs) refl h
  where
    by : (o : Option Part) → find is_operator xs ≡ o → is_some o ≡ true → IsSome (place_at o)
    by None e h = absurd (cc)
    by (Some y) e h = place_there y (find_holds is_operator xs y e)

some_beside : (before : List Part) (q : Part) → is_some (find is_operator (reverse before)) ≡ true → IsSome (place_at (beside before q))
some_beside before part.Operand h = some_last (reverse before) h
some_beside before (part.Minus p) h = some_last (reverse before) h
some_beside before (part.PatternMinus p) h = some_last (reverse before) h
some_beside before (part.Operator p f) h = by (find (is_within f.level) (reverse before)) refl
  where
    by : (o : Option Part) → find (is_within f.level) (reverse before) ≡ o → IsSome (place_at (option_or o (find is_operator (reverse before))))
    by None e = some_last (reverse before) h
    by (Some y) e = place_there y (within_operator f.level y (find_holds (is_within f.level) (reverse before) y e))

pub right_there : (root : Option ℕ) (k : ℕ) (q : Part) (os : List Open) → take_part root k q os ≡ None → IsSome (operator_place q)
right_there root k part.Operand os e = absurd (cc)
right_there root k (part.Operator p f) os e = refl
right_there root k (part.Minus p) os e = refl
right_there root k (part.PatternMinus p) os e = refl

pub left_there : (root : Option ℕ) (ps : List Part) (k : ℕ) (q : Part) (os : List Open) → IsRootOf ps root → run root 0 (take k ps) [] ≡ Some os → take_part root k q os ≡ None
    → IsSome (place_at (beside (take k ps) q))
left_there root ps k q os is_root runs stuck = some_beside (take k ps) q (by (find is_operator (reverse (take k ps))) refl)
  where
    none : find is_operator (reverse (take k ps)) ≡ None → (j : ℕ) (x : Part) → slice_get (take k ps) j ≡ Some x → is_operator x ≡ false
    none e j x h = test (is_operator x) refl
      where
        test : (b : Bool) → is_operator x ≡ b → b ≡ false
        test false t = refl
        test true t = absurd (let found : is_some (find is_operator (reverse (take k ps))) ≡ true = is_found is_operator (take k ps) j x h t in let bad : false ≡ true = ap is_some (sym e) ∙ found in cc)

    rooted : (root : Option ℕ) → IsRootOf ps root → (r : ℕ) → root ≡ Some r → r < k → find is_operator (reverse (take k ps)) ≡ None → true ≡ false
    rooted None h r e lt never = absurd (cc)
    rooted (Some s) h r e lt never =
        let same : s ≡ r = cc in
        let lt' : s < k = omega arith in
        none never s (part.Operator h.0 h.1) (slice_get_take ps k s (part.Operator h.0 h.1) lt' h.2)

    by : (o : Option Part) → find is_operator (reverse (take k ps)) ≡ o → is_some o ≡ true
    by (Some y) e = refl
    by None e =
        let ran : run root 0 (take k ps) [] ≡ Some [] = operands root (take k ps) 0 [] (none e) in
        let empty : os ≡ [] = let s : Some os ≡ Some [] = sym runs ∙ ran in cc in
        let a : (r : ℕ) × (root ≡ Some r) × (r < k) = alone root k q (subst (λ o. take_part root k q o ≡ None) empty stuck) in
        absurd (let bad : true ≡ false = rooted root is_root a.0 a.1 a.2 e in cc)
