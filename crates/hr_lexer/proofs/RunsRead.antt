-- Runs at the front of a text and their length, and how a statement on what is read is put together.
use Rattle.std.proofs.Common.{◌≡◌, ◌<◌, ◌≤◌, ℕ, suc, ◌+◌, Bool, true, false, cond, not, List, [], ◌∷◌, ◌++◌, length, take, drop, Option, Some, None, refl, sym, ap, ◌∙◌, true≢false, arith}
use Rattle.std.specs.List.{list_all, prefix_len}
use Rattle.std.specs.Option.{IsSome}
use Rattle.hr_base.specs.declared.lexeme.Class.{Class}
use Rattle.hr_rules.specs.declared.character.Kind.{Kind}
use Rattle.hr_rules.specs.Letters.{kind_of}
use Rattle.hr_rules.specs.Runs.{is_run, ends_run}
use Rattle.hr_rules.specs.Lexemes.{spelled_class, spelled_class_by, spelled_bars_by}
use Rattle.hr_rules.proofs.Apart.{both, both_left, both_right, not_true}
use Rattle.hr_lexer.specs.declared.taken.Taken.{Taken}

plus_one : (n : ℕ) → 1 + n ≡ suc n
plus_one n = omega arith

pub one_more : (p : ℕ → Bool) (c : ℕ) (rest : List ℕ) → p c ≡ true → prefix_len p (c ∷ rest) ≡ suc (prefix_len p rest)
one_more p c rest e = ap (λ b. cond b (1 + prefix_len p rest) 0) e ∙ plus_one (prefix_len p rest)

pub no_run : (p : ℕ → Bool) (c : ℕ) (rest : List ℕ) → p c ≡ false → prefix_len p (c ∷ rest) ≡ 0
no_run p c rest e = ap (λ b. cond b (1 + prefix_len p rest) 0) e

-- the run and what is behind it, one character more
pub run_more : (p : ℕ → Bool) (c : ℕ) (rest : List ℕ) → p c ≡ true → take (prefix_len p (c ∷ rest)) (c ∷ rest) ≡ c ∷ take (prefix_len p rest) rest
run_more p c rest e = ap (λ n. take n (c ∷ rest)) (one_more p c rest e)

pub behind_more : (p : ℕ → Bool) (c : ℕ) (rest : List ℕ) → p c ≡ true → drop (prefix_len p (c ∷ rest)) (c ∷ rest) ≡ drop (prefix_len p rest) rest
behind_more p c rest e = ap (λ n. drop n (c ∷ rest)) (one_more p c rest e)

-- what is counted is a run
run_all_by : (p : ℕ → Bool) (c : ℕ) (rest : List ℕ) → list_all p (take (prefix_len p rest) rest) ≡ true → (b : Bool) → p c ≡ b → list_all p (take (prefix_len p (c ∷ rest)) (c ∷ rest)) ≡ true
run_all_by p c rest so true e = ap (list_all p) (run_more p c rest e) ∙ both (p c) (list_all p (take (prefix_len p rest) rest)) e so
run_all_by p c rest so false e = ap (λ n. list_all p (take n (c ∷ rest))) (no_run p c rest e)

pub run_all : (p : ℕ → Bool) (text : List ℕ) → list_all p (take (prefix_len p text) text) ≡ true
run_all p [] = refl
run_all p (c ∷ rest) = run_all_by p c rest (run_all p rest) (p c) refl

-- and it is whole
run_stops_by : (p : ℕ → Bool) (c : ℕ) (rest : List ℕ) → ends_run p (drop (prefix_len p rest) rest) ≡ true → (b : Bool) → p c ≡ b → ends_run p (drop (prefix_len p (c ∷ rest)) (c ∷ rest)) ≡ true
run_stops_by p c rest so true e = ap (ends_run p) (behind_more p c rest e) ∙ so
run_stops_by p c rest so false e = ap (λ n. ends_run p (drop n (c ∷ rest))) (no_run p c rest e) ∙ ap not e

pub run_stops : (p : ℕ → Bool) (text : List ℕ) → ends_run p (drop (prefix_len p text) text) ≡ true
run_stops p [] = refl
run_stops p (c ∷ rest) = run_stops_by p c rest (run_stops p rest) (p c) refl

pub whole_run : (p : ℕ → Bool) (text : List ℕ) → is_run p (take (prefix_len p text) text) (drop (prefix_len p text) text) ≡ true
whole_run p text = both (list_all p (take (prefix_len p text) text)) (ends_run p (drop (prefix_len p text) text)) (run_all p text) (run_stops p text)

-- a whole run is what is counted
pub run_len : (p : ℕ → Bool) (front after : List ℕ) → list_all p front ≡ true → ends_run p after ≡ true → prefix_len p (front ++ after) ≡ length front
run_len p [] [] f g = refl
run_len p [] (d ∷ after) f g = no_run p d after (not_true (p d) g)
run_len p (c ∷ front) after f g =
    one_more p c (front ++ after) (both_left (p c) (list_all p front) f) ∙ ap suc (run_len p front after (both_right (p c) (list_all p front) f) g)

pub whole_run_len : (p : ℕ → Bool) (front after : List ℕ) → is_run p front after ≡ true → prefix_len p (front ++ after) ≡ length front
whole_run_len p front after e = run_len p front after (both_left (list_all p front) (ends_run p after) e) (both_right (list_all p front) (ends_run p after) e)

-- on what may be there
pub some_is : {A : Type 0} (a b : A) → ◌≡◌ {A = Option A} (Some a) (Some b) → a ≡ b
some_is a b e = cc

pub none_some : {A : Type 0} {x : A} → None ≡ Some x → ⊥
none_some e = cc

pub some_test : {A : Type 0} (b : Bool) (x : A) → IsSome (cond b (Some x) None) → b ≡ true
some_test true x some = refl
some_test false x some = absurd (true≢false (sym some))

abbrev pub len_of : Taken → ℕ
len_of taken = taken.len

abbrev pub class_in : Taken → Class
class_in taken = taken.class

-- what is read is right, by its class and its length
pub taken_right : (kind : Kind) (c : ℕ) (rest : List ℕ) (m : ℕ) (taken : Taken) → kind_of c ≡ kind → spelled_bars_by kind c rest ≡ false → taken.len ≡ suc m → m ≤ length rest
    → spelled_class_by kind c (take m rest) (drop m rest) ≡ Some taken.class
    → (spelled_bars_by kind c rest ≡ false) × (0 < taken.len) × (taken.len ≤ length (c ∷ rest))
    × (spelled_class (take taken.len (c ∷ rest)) (drop taken.len (c ∷ rest)) ≡ Some taken.class)
taken_right kind c rest m taken k free len within is =
    let some : 0 < taken.len = omega (arith, len) in
    let no_more : taken.len ≤ suc (length rest) = omega (arith, len, within) in
    (free, some, no_more, ap (λ n. spelled_class (take n (c ∷ rest)) (drop n (c ∷ rest))) len ∙ (ap (λ x. spelled_class_by x c (take m rest) (drop m rest)) k ∙ is))

-- the characters behind the first one that are read with it, and their class
abbrev pub ReadParts : (List ℕ → List ℕ → Option Class) → List ℕ → Taken → Type 0
ReadParts class_by rest taken = (m : ℕ) × (taken.len ≡ suc m) × (m ≤ length rest) × (class_by (take m rest) (drop m rest) ≡ Some taken.class)
