-- The longest front of a text that meets a test: what it is for a number to be its length.
use Rattle.std.proofs.Common.{◌≡◌, ◌≤◌, ℕ, zero, suc, ◌+◌, Bool, true, false, cond, not, ◌==◌, List, [], ◌∷◌, length, take, refl, sym, ap, ◌∙◌, true≢false, arith}
use Rattle.std.specs.List.{list_all, prefix_len}
use Rattle.std.proofs.lemmas.List.Sums.{prefix_len-le-length}
use Rattle.hr_rules.specs.Runs.{begins}
use Rattle.hr_rules.specs.Numbers.{is_digits}
use Rattle.hr_rules.proofs.Apart.{both, both_left, both_right}
use Rattle.hr_lexer.specs.NumberReader.{with_more}
use Rattle.hr_lexer.proofs.RunsRead.{one_more, no_run, run_more, run_all}

-- some front meets the test where the Bool is true, and then the longest one has n characters; else n is 0
pub record Longest (is : List ℕ → Bool) (some : Bool) (text : List ℕ) (n : ℕ) : Type 0 where
  pub begins : some ≡ not (n == 0)
  pub within : n ≤ length text
  pub right : some ≡ true → is (take n text) ≡ true
  pub longest : (m : ℕ) → m ≤ length text → is (take m text) ≡ true → (some ≡ true) × (m ≤ n)

pub some_there : (n : ℕ) → (suc n == 0) ≡ false
some_there n = grind arith

-- where no front meets it
pub none_there : (is : List ℕ → Bool) (text : List ℕ) → ((m : ℕ) → is (take m text) ≡ false) → Longest is false text 0
none_there is text fails = record {
  begins = refl;
  within = omega arith;
  right = λ e. absurd (true≢false (sym e));
  longest = λ m _ e. absurd (true≢false (sym e ∙ fails m));
}

-- tests that agree on the fronts
pub agreeing : (is other : List ℕ → Bool) (some : Bool) (text : List ℕ) (n : ℕ) → ((m : ℕ) → other (take m text) ≡ is (take m text)) → Longest is some text n → Longest other some text n
agreeing is other some text n same l = record {
  begins = l.begins;
  within = l.within;
  right = λ e. same n ∙ l.right e;
  longest = λ m within e. l.longest m within (sym (same m) ∙ e);
}

-- behind one character more
behind_right : (is other : List ℕ → Bool) (c : ℕ) (rest : List ℕ) (n : ℕ) → ((x : List ℕ) → other (c ∷ x) ≡ is x) → is (take n rest) ≡ true → (b : Bool) → (n == 0) ≡ b → not b ≡ true
    → other (take (cond b 0 (1 + n)) (c ∷ rest)) ≡ true
behind_right is other c rest n same e true f g = absurd (true≢false (sym g))
behind_right is other c rest n same e false f g =
    let more : 1 + n ≡ suc n = omega arith in
    ap (λ k. other (take k (c ∷ rest))) more ∙ (same (take n rest) ∙ e)

behind_longest : (is other : List ℕ → Bool) (some : Bool) (c : ℕ) (rest : List ℕ) (n : ℕ) → other [] ≡ false → ((x : List ℕ) → other (c ∷ x) ≡ is x) → Longest is some rest n
    → (m : ℕ) → m ≤ suc (length rest) → other (take m (c ∷ rest)) ≡ true → (some ≡ true) × (m ≤ with_more 1 n)
behind_longest is other some c rest n empty same l zero within e = absurd (true≢false (sym e ∙ empty))
behind_longest is other some c rest n empty same l (suc m) within e =
    let so : (some ≡ true) × (m ≤ n) = l.longest m (omega (arith, within)) (sym (same (take m rest)) ∙ e) in
    let there : not (n == 0) ≡ true = sym l.begins ∙ so.0 in
    (so.0, by (n == 0) there so.1)
  where
    by : (b : Bool) → not b ≡ true → m ≤ n → suc m ≤ cond b 0 (1 + n)
    by true f g = absurd (true≢false (sym f))
    by false f g = omega (arith, g)

more_begins : (n : ℕ) → not (n == 0) ≡ not (with_more 1 n == 0)
more_begins n = grind arith

more_within : (n l : ℕ) → n ≤ l → with_more 1 n ≤ suc l
more_within n l e = grind arith

pub longest_behind : (is other : List ℕ → Bool) (some : Bool) (c : ℕ) (rest : List ℕ) (n : ℕ) → other [] ≡ false → ((x : List ℕ) → other (c ∷ x) ≡ is x) → Longest is some rest n
    → Longest other some (c ∷ rest) (with_more 1 n)
longest_behind is other some c rest n empty same l = record {
  begins = l.begins ∙ more_begins n;
  within = more_within n (length rest) l.within;
  right = λ e. behind_right is other c rest n same (l.right e) (n == 0) refl (sym l.begins ∙ e);
  longest = behind_longest is other some c rest n empty same l;
}

-- any number of digits
pub more_all : (p : ℕ → Bool) (text : List ℕ) (m : ℕ) → m ≤ length text → list_all p (take m text) ≡ true → m ≤ prefix_len p text
more_all p text zero within e = omega arith
more_all p [] (suc m) within e = within
more_all p (c ∷ rest) (suc m) within e =
    let so : m ≤ prefix_len p rest = more_all p rest m (omega (arith, within)) (both_right (p c) (list_all p (take m rest)) e) in
    let more : prefix_len p (c ∷ rest) ≡ suc (prefix_len p rest) = one_more p c rest (both_left (p c) (list_all p (take m rest)) e) in
    omega (arith, so, more)

-- digits, one or more
one_there : (p : ℕ → Bool) (c : ℕ) (rest : List ℕ) → p c ≡ true → p c ≡ not (prefix_len p (c ∷ rest) == 0)
one_there p c rest e =
    e ∙ sym (ap (λ n. not (n == 0)) (one_more p c rest e) ∙ ap not (some_there (prefix_len p rest)))

none_begins : (p : ℕ → Bool) (c : ℕ) (rest : List ℕ) → p c ≡ false → p c ≡ not (prefix_len p (c ∷ rest) == 0)
none_begins p c rest e = e ∙ sym (ap (λ n. not (n == 0)) (no_run p c rest e))

begins_digits : (p : ℕ → Bool) (c : ℕ) (rest : List ℕ) (b : Bool) → p c ≡ b → p c ≡ not (prefix_len p (c ∷ rest) == 0)
begins_digits p c rest true e = one_there p c rest e
begins_digits p c rest false e = none_begins p c rest e

right_digits : (p : ℕ → Bool) (c : ℕ) (rest : List ℕ) → p c ≡ true → is_digits p (take (prefix_len p (c ∷ rest)) (c ∷ rest)) ≡ true
right_digits p c rest e = ap (is_digits p) (run_more p c rest e) ∙ both (p c) (list_all p (take (prefix_len p rest) rest)) e (run_all p rest)

longest_digits : (p : ℕ → Bool) (c : ℕ) (rest : List ℕ) (m : ℕ) → m ≤ suc (length rest) → is_digits p (take m (c ∷ rest)) ≡ true → (p c ≡ true) × (m ≤ prefix_len p (c ∷ rest))
longest_digits p c rest zero within e = absurd (true≢false (sym e))
longest_digits p c rest (suc m) within e = (both_left (p c) (list_all p (take m rest)) e, more_all p (c ∷ rest) (suc m) within e)

nothing : (m : ℕ) (text : List ℕ) (is : List ℕ → Bool) → text ≡ [] → is [] ≡ false → is (take m text) ≡ false
nothing zero text is e f = f
nothing (suc m) text is e f = ap (λ t. is (take (suc m) t)) e ∙ f

-- in an empty text
pub in_empty : (is : List ℕ → Bool) → is [] ≡ false → Longest is false [] 0
in_empty is e = none_there is [] (λ m. nothing m [] is refl e)

pub digits : (p : ℕ → Bool) (text : List ℕ) → Longest (is_digits p) (begins p text) text (prefix_len p text)
digits p [] = in_empty (is_digits p) refl
digits p (c ∷ rest) = record {
  begins = begins_digits p c rest (p c) refl;
  within = prefix_len-le-length p (c ∷ rest);
  right = right_digits p c rest;
  longest = longest_digits p c rest;
}
