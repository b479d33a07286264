-- What finders of lists find is what readings of lists read, where each element takes a lexeme or more.
use Rattle.std.proofs.Common.{◌≡◌, ◌≤◌, ◌<◌, ℕ, zero, suc, List, [], ◌∷◌, length, Option, Some, None, refl, sym, subst, inl, inr, arith}
use Rattle.hr_base.specs.declared.lexeme.Item.{Item}
use Rattle.hr_rules.specs.declared.block.Placed.{Placed}
use Rattle.hr_tree.specs.declared.lists.Listed.{Listed}
use Rattle.hr_grammar_cases.specs.Readings.{Reading, never, ◌▷◌}
use Rattle.hr_grammar_cases.specs.Readings as reading
use Rattle.hr_grammar_finder_laws.specs.Ways.{Among, Way, Finder, made_by, ◌▶◌, in_turn_by, in_turn, last_listed, listed_then, separated_by, separated}
use Rattle.hr_grammar_finder_laws.proofs.Ways.{among_left, among_right, Sound, Matches, is_sound, gives_sound, either_sound, made_sound, made_found, followed_by_sound, followed_by_found}

-- each takes a lexeme or more
abbrev pub Shrinks : {T : Type 0} → (T → Reading) → Type 0
Shrinks {T} R = (x : T) (ts us : List Placed) → R x ts us → length us < length ts

pub shorter : (a b k : ℕ) → a < b → b ≤ suc k → a ≤ k
shorter a b k l m = omega arith

pub none_left : {A : Type 0} (a b : ℕ) → a < b → b ≤ zero → A
none_left a b l m = absurd (omega arith)

pub all_fit : (n : ℕ) → n ≤ n
all_fit n = omega arith

cons_found : {T : Type 0} (f : Finder T) (g : Finder (List T)) (x : T) (xs : List T) (ts vs us : List Placed)
    → Among {T = Way T} (x, vs) (f ts) → Among {T = Way (List T)} (xs, us) (g vs) → Among {T = Way (List T)} (x ∷ xs, us) (made_by (λ p. p.0 ∷ p.1) (f ▶ g) ts)
cons_found {T} f g x xs ts vs us h k = made_found (λ (p : T × List T). p.0 ∷ p.1) (f ▶ g) (x, xs) ts us (followed_by_found f (λ y. g) x xs ts vs us h k)

in_turn_sound : {T : Type 0} {R : T → Reading} {f : Finder T} → Sound R f → (k : ℕ) → Sound (reading.in_turn R) (in_turn_by f k)
in_turn_sound {T} {R} {f} m zero = gives_sound (λ ts. refl)
in_turn_sound {T} {R} {f} m (suc k) =
    either_sound (gives_sound (λ ts. refl)) (made_sound (λ (p : T × List T). p.0 ∷ p.1) (followed_by_sound {R = R} {Q = λ x. reading.in_turn R} m (λ x. in_turn_sound {R = R} m k)))

in_turn_complete : {T : Type 0} {R : T → Reading} {f : Finder T} → Matches R f → Shrinks R → (k : ℕ) (xs : List T) (ts us : List Placed) → length ts ≤ k
    → reading.in_turn R xs ts us → Among {T = Way (List T)} (xs, us) (in_turn_by f k ts)
in_turn_complete m less zero [] ts us l r = inl (λ j. ([], r j))
in_turn_complete m less zero (x ∷ xs) ts us l r = none_left (length r.0) (length ts) (less x ts r.0 r.1) l
in_turn_complete m less (suc k) [] ts us l r = inl (λ j. ([], r j))
in_turn_complete {T} {R} {f} m less (suc k) (x ∷ xs) ts us l r =
    inr (cons_found f (in_turn_by f k) x xs ts r.0 us (m.complete x ts r.0 r.1)
    (in_turn_complete m less k xs r.0 us (shorter (length r.0) (length ts) k (less x ts r.0 r.1) l) r.2))

pub in_turn_matches : {T : Type 0} {R : T → Reading} {f : Finder T} → Matches R f → Shrinks R → Matches (reading.in_turn R) (in_turn f)
in_turn_matches {T} {R} {f} m less = record {
  sound = λ xs ts us h. (in_turn_sound {R = R} (is_sound m) (length ts)).sound xs ts us h;
  complete = λ xs ts us r. in_turn_complete {R = R} m less (length ts) xs ts us (all_fit (length ts)) r;
}

-- one or more with separators
abbrev SomeSeparated : {T : Type 0} → (Item → Reading) → (T → Reading) → List (Listed T) → Reading
SomeSeparated separator R [] = never
SomeSeparated separator R (x ∷ xs) = reading.separated separator R (x ∷ xs)

listed_so : {T : Type 0} (Q : Item → Reading) (R : T → Reading) (part : T) (item : Item) (rest : List (Listed T)) (ts us : List Placed)
    → (R part ▷ (Q item ▷ SomeSeparated Q R rest)) ts us → SomeSeparated Q R (listed_then (part, (item, rest))) ts us
listed_so Q R part item [] ts us r = elim r.2.2 [ ]
listed_so Q R part item (x ∷ xs) ts us r = r

separated_sound : {T : Type 0} {Q : Item → Reading} {R : T → Reading} {s : Finder Item} {f : Finder T} → Sound Q s → Sound R f → (k : ℕ) → Sound (SomeSeparated Q R) (separated_by s f k)
separated_sound q m zero = record { sound = λ x ts us h. elim h [ ] }
separated_sound {T} {Q} {R} {s} {f} q m (suc k) =
    either_sound (made_sound last_listed (record { sound = λ x ts us h. (refl, m.sound x ts us h) }))
    (made_sound listed_then (record {
      sound = λ p ts us h.
          listed_so Q R p.0 p.1.0 p.1.1 ts us
          ((followed_by_sound {R = R} {Q = λ x p. Q p.0 ▷ SomeSeparated Q R p.1} m
          (λ x. followed_by_sound {R = Q} {Q = λ y. SomeSeparated Q R} q (λ y. separated_sound {Q = Q} {R = R} q m k))).sound p ts us h);
    }))

last_found : {T : Type 0} (f : Finder T) (listed : Listed T) (ts us : List Placed) → listed.separator ≡ None → Among {T = Way T} (listed.part, us) (f ts)
    → Among {T = Way (List (Listed T))} (listed ∷ [], us) (made_by last_listed f ts)
last_found {T} f listed ts us e h =
    subst (λ s. Among {T = Way (List (Listed T))} (record { part = listed.part; separator = s } ∷ [], us) (made_by last_listed f ts)) (sym e) (made_found last_listed f listed.part ts us h)

more_found : {T : Type 0} {Q : Item → Reading} {R : T → Reading} {s : Finder Item} {f : Finder T} (rest : List (Listed T)) (g : Finder (List (Listed T))) → Matches Q s → Matches R f
    → (part : T) (separator : Option Item) (ts vs ws us : List Placed) → R part ts vs → reading.there Q separator vs ws → Among {T = Way (List (Listed T))} (rest, us) (g ws)
    → Among {T = Way (List (Listed T))} (record { part = part; separator = separator } ∷ rest, us) (made_by listed_then (f ▶ s ▶ g) ts)
more_found rest g q m part None ts vs ws us r t h = elim t [ ]
more_found {T} {Q} {R} {s} {f} rest g q m part (Some item) ts vs ws us r t h =
    made_found listed_then (f ▶ s ▶ g) (part, (item, rest)) ts us
    (followed_by_found f (λ x. s ▶ g) part (item, rest) ts vs us (m.complete part ts vs r) (followed_by_found s (λ x. g) item rest vs ws us (q.complete item vs ws t) h))

pub there_shrinks : {T : Type 0} (R : T → Reading) → Shrinks R → (x : Option T) (ts us : List Placed) → reading.there R x ts us → length us < length ts
there_shrinks R less None ts us t = elim t [ ]
there_shrinks R less (Some x) ts us t = less x ts us t

pub twice_shorter : (a b c k : ℕ) → a < b → b < c → c ≤ suc k → a ≤ k
twice_shorter a b c k l m n = omega arith

separated_complete : {T : Type 0} {Q : Item → Reading} {R : T → Reading} {s : Finder Item} {f : Finder T} → Matches Q s → Matches R f → Shrinks Q → Shrinks R
    → (k : ℕ) (xs : List (Listed T)) (ts us : List Placed) → length ts ≤ k → SomeSeparated Q R xs ts us → Among {T = Way (List (Listed T))} (xs, us) (separated_by s f k ts)
separated_complete q m few less k [] ts us l r = elim r [ ]
separated_complete q m few less zero (x ∷ []) ts us l r = none_left (length us) (length ts) (less x.part ts us r.1) l
separated_complete q m few less zero (x ∷ (y ∷ xs)) ts us l r = none_left (length r.0) (length ts) (less x.part ts r.0 r.1) l
separated_complete {T} {Q} {R} {s} {f} q m few less (suc k) (x ∷ []) ts us l r =
    among_left (x ∷ [], us) (made_by last_listed f ts) (made_by listed_then (f ▶ s ▶ separated_by s f k) ts) (last_found f x ts us r.0 (m.complete x.part ts us r.1))
separated_complete {T} {Q} {R} {s} {f} q m few less (suc k) (x ∷ (y ∷ xs)) ts us l r =
    among_right (x ∷ (y ∷ xs), us) (made_by last_listed f ts) (made_by listed_then (f ▶ s ▶ separated_by s f k) ts)
    (more_found (y ∷ xs) (separated_by s f k) q m x.part x.separator ts r.0 r.2.0 us r.1 r.2.1
    (separated_complete q m few less k (y ∷ xs) r.2.0 us (twice_shorter (length r.2.0) (length r.0) (length ts) k (there_shrinks Q few x.separator r.0 r.2.0 r.2.1) (less x.part ts r.0 r.1) l) r.2.2))

pub separated_matches : {T : Type 0} {Q : Item → Reading} {R : T → Reading} {s : Finder Item} {f : Finder T} → Matches Q s → Matches R f → Shrinks Q → Shrinks R
    → Matches (reading.separated Q R) (separated s f)
separated_matches {T} {Q} {R} {s} {f} q m few less = record { sound = found; complete = read }
  where
    some : (xs : List (Listed T)) (ts us : List Placed) → SomeSeparated Q R xs ts us → reading.separated Q R xs ts us
    some [] ts us r = elim r [ ]
    some (x ∷ xs) ts us r = r

    found : (xs : List (Listed T)) (ts us : List Placed) → Among {T = Way (List (Listed T))} (xs, us) (separated s f ts) → reading.separated Q R xs ts us
    found xs ts us (inl e) = subst (λ (w : Way (List (Listed T))). reading.separated Q R w.0 ts w.1) (sym e) refl
    found xs ts us (inr h) = some xs ts us ((separated_sound {Q = Q} {R = R} (is_sound q) (is_sound m) (length ts)).sound xs ts us h)

    read : (xs : List (Listed T)) (ts us : List Placed) → reading.separated Q R xs ts us → Among {T = Way (List (Listed T))} (xs, us) (separated s f ts)
    read [] ts us r = inl (λ j. ([], r j))
    read (x ∷ xs) ts us r = inr (separated_complete {Q = Q} {R = R} q m few less (length ts) (x ∷ xs) ts us (all_fit (length ts)) r)
