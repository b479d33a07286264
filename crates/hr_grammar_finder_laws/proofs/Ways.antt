-- What finders find is what readings read, combinator by combinator.
use Rattle.std.proofs.Common.{◌≡◌, ◌⊎◌, ℕ, zero, suc, Bool, true, false, ◌&&◌, if◌then◌else◌, List, [], ◌∷◌, ◌++◌, map, Option, Some, None, refl, sym, ap, subst, inl, inr}
use Rattle.std.specs.List.{flat_map}
use Rattle.hr_base.specs.declared.lexeme.Ending.{Ending}
use Rattle.hr_base.specs.declared.lexeme.Item.{Item}
use Rattle.hr_rules.specs.declared.block.Placed.{Placed}
use Rattle.hr_rules.specs.Blocks.{goes_on}
use Rattle.hr_grammar_cases.specs.Readings.{Reading, ◌▷◌, given}
use Rattle.hr_grammar_cases.specs.Readings as reading
use Rattle.hr_grammar_finder_laws.specs.Ways.{Among, Way, Finder, any_of, none, gives, ◌⊕◌, on, passing, made_by, followed_by, ◌▶◌, one, maybe, inside, ends_as}

-- lists of ways
pub among_left : {T : Type 0} (x : T) (xs ys : List T) → Among x xs → Among x (xs ++ ys)
among_left x [] ys h = elim h [ ]
among_left x (y ∷ xs) ys (inl e) = inl e
among_left x (y ∷ xs) ys (inr h) = inr (among_left x xs ys h)

pub among_right : {T : Type 0} (x : T) (xs ys : List T) → Among x ys → Among x (xs ++ ys)
among_right x [] ys h = h
among_right x (y ∷ xs) ys h = inr (among_right x xs ys h)

with_one : {A B C : Type 0} → B ⊎ C → (A ⊎ B) ⊎ C
with_one (inl b) = inl (inr b)
with_one (inr c) = inr c

pub among_either : {T : Type 0} (x : T) (xs ys : List T) → Among x (xs ++ ys) → Among x xs ⊎ Among x ys
among_either x [] ys h = inr h
among_either x (y ∷ xs) ys (inl e) = inl (inl e)
among_either x (y ∷ xs) ys (inr h) = with_one (among_either x xs ys h)

pub among_map : {S T : Type 0} (f : S → T) (xs : List S) (y : T) → Among y (map f xs) → (x : S) × (y ≡ f x) × Among x xs
among_map f [] y h = elim h [ ]
among_map f (x ∷ xs) y (inl e) = (x, e, inl refl)
among_map f (x ∷ xs) y (inr h) = let k = among_map f xs y h in (k.0, k.1, inr k.2)

pub map_among : {S T : Type 0} (f : S → T) (xs : List S) (x : S) → Among x xs → Among (f x) (map f xs)
map_among f [] x h = elim h [ ]
map_among f (y ∷ xs) x (inl e) = inl (ap f e)
map_among f (y ∷ xs) x (inr h) = inr (map_among f xs x h)

-- an element of one of the lists
abbrev FromOne : {S T : Type 0} → (S → List T) → List S → T → Type 0
FromOne {S} f xs y = (x : S) × Among x xs × Among y (f x)

from_first : {S T : Type 0} (f : S → List T) (x : S) (xs : List S) (y : T) → Among y (f x) ⊎ FromOne f xs y → FromOne f (x ∷ xs) y
from_first f x xs y (inl h) = (x, inl refl, h)
from_first f x xs y (inr k) = (k.0, inr k.1, k.2)

on_second : {A B C : Type 0} → (B → C) → A ⊎ B → A ⊎ C
on_second g (inl a) = inl a
on_second g (inr b) = inr (g b)

pub among_flat : {S T : Type 0} (f : S → List T) (xs : List S) (y : T) → Among y (flat_map f xs) → FromOne f xs y
among_flat f [] y h = elim h [ ]
among_flat f (x ∷ xs) y h = from_first f x xs y (on_second (λ g. among_flat f xs y g) (among_either y (f x) (flat_map f xs) h))

pub flat_among : {S T : Type 0} (f : S → List T) (xs : List S) (x : S) (y : T) → Among x xs → Among y (f x) → Among y (flat_map f xs)
flat_among f [] x y h g = elim h [ ]
flat_among f (z ∷ xs) x y (inl e) g = among_left y (f z) (flat_map f xs) (subst (λ k. Among y (f k)) e g)
flat_among f (z ∷ xs) x y (inr h) g = among_right y (f z) (flat_map f xs) (flat_among f xs x y h g)

-- a choice by a test
pub if_among : {T : Type 0} (x y : T) (b : Bool) → Among x (if b then y ∷ [] else []) → (b ≡ true) × (x ≡ y)
if_among x y true (inl e) = (refl, e)
if_among x y true (inr h) = elim h [ ]
if_among x y false h = elim h [ ]

pub among_if : {T : Type 0} (x y : T) (b : Bool) → b ≡ true → x ≡ y → Among x (if b then y ∷ [] else [])
among_if x y true t e = inl e
among_if x y false t e = let h : ⊥ = cc in elim h [ ]

pub both_are : (a b : Bool) → (a && b) ≡ true → (a ≡ true) × (b ≡ true)
both_are true true e = (refl, refl)
both_are true false e = let h : ⊥ = cc in elim h [ ]
both_are false b e = let h : ⊥ = cc in elim h [ ]

pub are_both : (a b : Bool) → a ≡ true → b ≡ true → (a && b) ≡ true
are_both true b e f = f
are_both false b e f = e

-- what is found is read
pub record Sound {T : Type 0} (R : T → Reading) (finder : Finder T) : Type 0 where
  pub sound : (x : T) (ts us : List Placed) → Among {T = Way T} (x, us) (finder ts) → R x ts us

-- and what is read is found
pub record Matches {T : Type 0} (R : T → Reading) (finder : Finder T) : Type 0 where
  pub sound : (x : T) (ts us : List Placed) → Among {T = Way T} (x, us) (finder ts) → R x ts us
  pub complete : (x : T) (ts us : List Placed) → R x ts us → Among {T = Way T} (x, us) (finder ts)

-- a test holds exactly where a predicate does
pub record Tests {T : Type 0} (Is : T → Type 0) (test : T → Bool) : Type 0 where
  pub passes : (x : T) → test x ≡ true → Is x
  pub passed : (x : T) → Is x → test x ≡ true

pub none_matches : {T : Type 0} {R : T → Reading} → ((x : T) (ts us : List Placed) → R x ts us → ⊥) → Matches R none
none_matches empty = record { sound = λ x ts us h. elim h [ ]; complete = λ x ts us r. let h = empty x ts us r in elim h [ ] }

pub either_sound : {T : Type 0} {R : T → Reading} {f g : Finder T} → Sound R f → Sound R g → Sound R (f ⊕ g)
either_sound {T} {R} {f} {g} s t = record { sound = λ x ts us h. by x ts us (among_either (x, us) (f ts) (g ts) h) }
  where
    by : (x : T) (ts us : List Placed) → Among {T = Way T} (x, us) (f ts) ⊎ Among {T = Way T} (x, us) (g ts) → R x ts us
    by x ts us (inl h) = s.sound x ts us h
    by x ts us (inr h) = t.sound x ts us h

pub is_sound : {T : Type 0} {R : T → Reading} {f : Finder T} → Matches R f → Sound R f
is_sound m = record { sound = m.sound }

pub gives_sound : {T : Type 0} {R : T → Reading} {x : T} → ((ts : List Placed) → R x ts ts) → Sound R (gives x)
gives_sound {T} {R} {x} r = record { sound = λ y ts us h. by y ts us h }
  where
    by : (y : T) (ts us : List Placed) → Among {T = Way T} (y, us) (gives x ts) → R y ts us
    by y ts us (inl e) = subst (λ (w : Way T). R w.0 ts w.1) (sym e) (r ts)
    by y ts us (inr h) = elim h [ ]

pub made_sound : {S T : Type 0} {R : T → Reading} (make : S → T) {f : Finder S} → Sound (λ a. R (make a)) f → Sound R (made_by make f)
made_sound {S} {T} {R} make {f} m = record {
  sound = λ x ts us h. let k = among_map (λ (way : Way S). (make way.0, way.1)) (f ts) (x, us) h in subst (λ (w : Way T). R w.0 ts w.1) (sym k.1) (m.sound k.0.0 ts k.0.1 k.2);
}

pub made_found : {S T : Type 0} (make : S → T) (f : Finder S) (x : S) (ts us : List Placed) → Among {T = Way S} (x, us) (f ts) → Among {T = Way T} (make x, us) (made_by make f ts)
made_found {S} make f x ts us h = map_among (λ (way : Way S). (make way.0, way.1)) (f ts) (x, us) h

-- where each is made of something
pub made_matches : {S T : Type 0} {R : T → Reading} (make : S → T) (back : T → S) {f : Finder S} → ((x : T) → make (back x) ≡ x) → Matches (λ a. R (make a)) f → Matches R (made_by make f)
made_matches {S} {T} {R} make back {f} same m = record {
  sound = (made_sound make (is_sound m)).sound;
  complete = λ x ts us r.
      subst (λ y. Among {T = Way T} (y, us) (made_by make f ts)) (same x) (made_found make f (back x) ts us (m.complete (back x) ts us (subst (λ y. R y ts us) (sym (same x)) r)));
}

pub on_sound_by : {T : Type 0} (b : Bool) (f : Finder T) (w : Way T) (ts : List Placed) → Among w (on b f ts) → (b ≡ true) × Among w (f ts)
on_sound_by true f w ts h = (refl, h)
on_sound_by false f w ts h = elim h [ ]

pub found_on : {T : Type 0} (b : Bool) (f : Finder T) (w : Way T) (ts : List Placed) → b ≡ true → Among w (f ts) → Among w (on b f ts)
found_on true f w ts e h = h
found_on false f w ts e k = let h : ⊥ = cc in elim h [ ]

-- on a condition that the finder tests first
pub on_sound : {T : Type 0} {R : T → Reading} (b : Bool) {f : Finder T} → (b ≡ true → Sound R f) → Sound R (on b f)
on_sound {T} {R} b {f} s = record { sound = λ x ts us h. let k = on_sound_by b f (x, us) ts h in (s k.0).sound x ts us k.1 }

pub passing_matches : {T : Type 0} {Is : T → Type 0} {R : T → Reading} {test : T → Bool} {f : Finder T} → Tests Is test → Matches R f → Matches (λ x. given (Is x) (R x)) (passing test f)
passing_matches {T} {Is} {R} {test} {f} t m = record {
  sound = λ x ts us h.
      let k = among_flat (λ (way : Way T). if test way.0 then way ∷ [] else []) (f ts) (x, us) h in
      let j = if_among (x, us) k.0 (test k.0.0) k.2 in
      subst (λ (w : Way T). given (Is w.0) (R w.0) ts w.1) (sym j.1) (t.passes k.0.0 j.0, m.sound k.0.0 ts k.0.1 k.1);
  complete = λ x ts us r.
      flat_among (λ (way : Way T). if test way.0 then way ∷ [] else []) (f ts) (x, us) (x, us) (m.complete x ts us r.1) (among_if (x, us) (x, us) (test x) (t.passed x r.0) refl);
}

moved : {A : Type 0} (P : A → Type 0) (a b : A) → b ≡ a → P a → P b
moved P a b e p = subst P (sym e) p

pub followed_by_sound : {S T : Type 0} {R : S → Reading} {Q : S → T → Reading} {f : Finder S} {g : S → Finder T}
    → Sound R f → ((x : S) → Sound (Q x) (g x)) → Sound (λ (p : S × T). R p.0 ▷ Q p.0 p.1) (followed_by f g)
followed_by_sound {S} {T} {R} {Q} {f} {g} m n = record {
  sound = λ x ts us h.
      let k = among_flat (λ (way : Way S). map (λ (next : Way T). ((way.0, next.0), next.1)) (g way.0 way.1)) (f ts) (x, us) h in
      let j = among_map (λ (next : Way T). ((k.0.0, next.0), next.1)) (g k.0.0 k.0.1) (x, us) k.2 in
      moved (λ (w : Way (S × T)). (R w.0.0 ▷ Q w.0.0 w.0.1) ts w.1) ((k.0.0, j.0.0), j.0.1) (x, us) j.1 (k.0.1, m.sound k.0.0 ts k.0.1 k.1, (n k.0.0).sound j.0.0 k.0.1 j.0.1 j.2);
}

pub followed_by_found : {S T : Type 0} (f : Finder S) (g : S → Finder T) (x : S) (y : T) (ts vs us : List Placed)
    → Among {T = Way S} (x, vs) (f ts) → Among {T = Way T} (y, us) (g x vs) → Among {T = Way (S × T)} ((x, y), us) (followed_by f g ts)
followed_by_found {S} {T} f g x y ts vs us h k =
    flat_among (λ (way : Way S). map (λ (next : Way T). ((way.0, next.0), next.1)) (g way.0 way.1)) (f ts) (x, vs) ((x, y), us) h
    (map_among (λ (next : Way T). ((x, next.0), next.1)) (g x vs) (y, us) k)

pub followed_by_matches : {S T : Type 0} {R : S → Reading} {Q : S → T → Reading} {f : Finder S} {g : S → Finder T}
    → Matches R f → ((x : S) → Matches (Q x) (g x)) → Matches (λ (p : S × T). R p.0 ▷ Q p.0 p.1) (followed_by f g)
followed_by_matches {S} {T} {R} {Q} {f} {g} m n = record {
  sound = (followed_by_sound {R = R} {Q = Q} (is_sound m) (λ x. is_sound (n x))).sound;
  complete = λ x ts us r. followed_by_found f g x.0 x.1 ts r.0 us (m.complete x.0 ts r.0 r.1) ((n x.0).complete x.1 r.0 us r.2);
}

pub then_matches : {S T : Type 0} {R : S → Reading} {Q : T → Reading} {f : Finder S} {g : Finder T} → Matches R f → Matches Q g → Matches (λ (p : S × T). R p.0 ▷ Q p.1) (f ▶ g)
then_matches m n = followed_by_matches m (λ x. n)

pub one_matches : (n : ℕ) {Is : Item → Type 0} {is : Item → Bool} → Tests Is is → Matches (reading.one n Is) (one n is)
one_matches n {Is} {is} t = record { sound = found; complete = read }
  where
    found : (item : Item) (ts us : List Placed) → Among {T = Way Item} (item, us) (one n is ts) → reading.one n Is item ts us
    found item [] us h = elim h [ ]
    found item (next ∷ ts) us h =
        let k = if_among (item, us) (next.item, ts) (is next.item && goes_on n next) h in
        let b = both_are (is next.item) (goes_on n next) k.0 in
        (subst Is (sym (ap (λ (w : Way Item). w.0) k.1)) (t.passes next.item b.0), (b.1, sym (ap (λ (w : Way Item). w.0) k.1), ap (λ (w : Way Item). w.1) k.1))

    read : (item : Item) (ts us : List Placed) → reading.one n Is item ts us → Among {T = Way Item} (item, us) (one n is ts)
    read item [] us r = elim r.1 [ ]
    read item (next ∷ ts) us r =
        among_if (item, us) (next.item, ts) (is next.item && goes_on n next) (are_both (is next.item) (goes_on n next) (t.passed next.item (subst Is (sym r.1.1) r.0)) r.1.0) (λ j. (sym r.1.1 j, r.1.2 j))

pub maybe_matches : {T : Type 0} {R : T → Reading} {f : Finder T} → Matches R f → Matches (reading.maybe R) (maybe f)
maybe_matches {T} {R} {f} m = record { sound = found; complete = read }
  where
    by : (x : Option T) (ts us : List Placed) → Among {T = Way (Option T)} (x, us) (gives None ts) ⊎ Among {T = Way (Option T)} (x, us) (made_by Some f ts) → reading.maybe R x ts us
    by x ts us (inl (inl e)) = subst (λ (w : Way (Option T)). reading.maybe R w.0 ts w.1) (sym e) refl
    by x ts us (inl (inr h)) = elim h [ ]
    by x ts us (inr h) = (made_sound {R = reading.maybe R} Some (is_sound m)).sound x ts us h

    found : (x : Option T) (ts us : List Placed) → Among {T = Way (Option T)} (x, us) (maybe f ts) → reading.maybe R x ts us
    found x ts us h = by x ts us (among_either (x, us) (gives None ts) (made_by Some f ts) h)

    read : (x : Option T) (ts us : List Placed) → reading.maybe R x ts us → Among {T = Way (Option T)} (x, us) (maybe f ts)
    read None ts us r = inl (λ j. (None, r j))
    read (Some x) ts us r = inr (made_found Some f x ts us (m.complete x ts us r))

pub inside_matches : {T : Type 0} {R : T → Ending → Reading} {f : Finder (T × Ending)} → Matches (λ p. R p.0 p.1) f → Matches (λ x. reading.inside (R x)) (inside f)
inside_matches {T} {R} {f} m = record {
  sound = λ x ts us h.
      let k = among_map (λ (way : Way (T × Ending)). (way.0.0, way.1)) (f ts) (x, us) h in
      subst (λ (w : Way T). reading.inside (R w.0) ts w.1) (sym k.1) (k.0.0.1, m.sound k.0.0 ts k.0.1 k.2);
  complete = λ x ts us r. map_among (λ (way : Way (T × Ending)). (way.0.0, way.1)) (f ts) ((x, r.0), us) (m.complete (x, r.0) ts us r.1);
}

pub ends_as_matches : {T : Type 0} (turn : Ending → Ending) (R : T → Ending → Reading) {f : Finder (T × Ending)} → Matches (λ p. R p.0 p.1) f
    → Matches (λ (p : T × Ending). reading.ends_as turn (R p.0) p.1) (ends_as turn f)
ends_as_matches {T} turn R {f} m = record {
  sound = λ x ts us h.
      let k = among_map (λ (way : Way (T × Ending)). ((way.0.0, turn way.0.1), way.1)) (f ts) (x, us) h in
      subst (λ (w : Way (T × Ending)). reading.ends_as turn (R w.0.0) w.0.1 ts w.1) (sym k.1) (k.0.0.1, refl, m.sound k.0.0 ts k.0.1 k.2);
  complete = λ x ts us r.
      subst (λ e. Among {T = Way (T × Ending)} ((x.0, e), us) (ends_as turn f ts)) (sym r.1)
      (map_among (λ (way : Way (T × Ending)). ((way.0.0, turn way.0.1), way.1)) (f ts) ((x.0, r.0), us) (m.complete (x.0, r.0) ts us r.2));
}

-- the same relation, said otherwise
pub same_matches : {T : Type 0} {R Q : T → Reading} {f : Finder T} → ((x : T) (ts us : List Placed) → R x ts us → Q x ts us) → ((x : T) (ts us : List Placed) → Q x ts us → R x ts us)
    → Matches R f → Matches Q f
same_matches to back m = record { sound = λ x ts us h. to x ts us (m.sound x ts us h); complete = λ x ts us r. m.complete x ts us (back x ts us r) }

-- under conditions that hold
pub so_matches : {T : Type 0} {P : Type 0} {R : T → Reading} {f : Finder T} → P → Matches R f → Matches (λ x. given P (R x)) f
so_matches p m = same_matches (λ x ts us r. (p, r)) (λ x ts us r. r.1) m

pub so_given : {T : Type 0} {P : Type 0} {Is : T → Type 0} {R : T → Reading} {f : Finder T} → P → Matches (λ x. given (Is x) (R x)) f → Matches (λ x. given (P × Is x) (R x)) f
so_given p m = same_matches (λ x ts us r. ((p, r.0), r.1)) (λ x ts us r. (r.0.1, r.1)) m

-- a production: the parts that it is made of, with a finder that matches its reading
abbrev pub Production : {S T : Type 0} → (T → Reading) → (S → T) → Type 0
Production {S} R make = (f : Finder S) × Matches (λ a. R (make a)) f

pub produced : {S T : Type 0} (R : T → Reading) (make : S → T) (production : Production R make) (a : S) (ts us : List Placed) → R (make a) ts us
    → Among {T = Way T} (make a, us) (made_by make production.0 ts)
produced R make production a ts us r = made_found make production.0 a ts us (production.1.complete a ts us r)

pub produced_on : {S T : Type 0} (R : T → Reading) (make : S → T) (b : Bool) → b ≡ true → (production : Production R make) (a : S) (ts us : List Placed) → R (make a) ts us
    → Among {T = Way T} (make a, us) (on b (made_by make production.0) ts)
produced_on R make b e production a ts us r = found_on b (made_by make production.0) (make a, us) ts e (produced R make production a ts us r)

pub sound_production : {S T : Type 0} {R : T → Reading} (make : S → T) (production : Production R make) → Sound R (made_by make production.0)
sound_production make production = made_sound make (is_sound production.1)

-- any of several finders
abbrev pub AllSound : {T : Type 0} → (T → Reading) → List (Finder T) → Type 0
AllSound R [] = Unit {0}
AllSound R (finder ∷ finders) = Sound R finder × AllSound R finders

one_sound : {T : Type 0} {R : T → Reading} {finder rest : Finder T} → Sound R finder → Sound R rest → (x : T) (ts us : List Placed)
    → Among {T = Way T} (x, us) (finder ts) ⊎ Among {T = Way T} (x, us) (rest ts) → R x ts us
one_sound s t x ts us (inl h) = s.sound x ts us h
one_sound s t x ts us (inr h) = t.sound x ts us h

pub any_sound : {T : Type 0} {R : T → Reading} (finders : List (Finder T)) → AllSound R finders → Sound R (any_of finders)
any_sound [] s = record { sound = λ x ts us h. elim h [ ] }
any_sound {T} {R} (finder ∷ finders) s = record {
  sound = λ x ts us h. one_sound {R = R} s.0 (any_sound finders s.1) x ts us (among_either (x, us) (finder ts) (any_of finders ts) h);
}

abbrev pub numbered : {T : Type 0} → List (Finder T) → ℕ → Finder T
numbered [] k = none
numbered (finder ∷ finders) zero = finder
numbered (finder ∷ finders) (suc k) = numbered finders k

-- the one of a number finds it
pub chosen : {T : Type 0} (finders : List (Finder T)) (k : ℕ) (x : T) (ts us : List Placed) → Among {T = Way T} (x, us) (numbered finders k ts)
    → Among {T = Way T} (x, us) (any_of finders ts)
chosen [] k x ts us h = elim h [ ]
chosen (finder ∷ finders) zero x ts us h = among_left (x, us) (finder ts) (any_of finders ts) h
chosen (finder ∷ finders) (suc k) x ts us h = among_right (x, us) (finder ts) (any_of finders ts) (chosen finders k x ts us h)

-- where the ending is that of the production
pub with_ending : {T : Type 0} (R : Ending → Type 0) (x : T) (ending other : Ending) (us : List Placed) (ways : List (Way (T × Ending))) → ending ≡ other
    → (R other → Among {T = Way (T × Ending)} ((x, other), us) ways) → R ending → Among {T = Way (T × Ending)} ((x, ending), us) ways
with_ending {T} R x ending other us ways e f = subst (λ k. R k → Among {T = Way (T × Ending)} ((x, k), us) ways) (sym e) f
