-- Readers whose answer depends only on what they take and one character more.
use Rattle.std.proofs.Common.{◌≡◌, ◌<◌, ℕ, suc, ◌+◌, Bool, true, false, cond, List, [], ◌∷◌, ◌++◌, length, Option, Some, None, refl, sym, ap, ◌∙◌, arith}
use Rattle.std.specs.List.{prefix_len}
use Rattle.std.specs.Option.{option_map}
use Rattle.hr_lexer.proofs.PiecesRead.{some_suc}

-- one is this answer where the other is
abbrev pub Agree : ℕ → Option ℕ → Option ℕ → Type 0
Agree n a b = (a ≡ Some n → b ≡ Some n) × (b ≡ Some n → a ≡ Some n)

pub agree_same : (n : ℕ) (a b : Option ℕ) → b ≡ a → Agree n a b
agree_same n a b same = ((λ e. same ∙ e), (λ e. sym same ∙ e))

pub agree_cond : (t : Bool) (n : ℕ) (a b u v : Option ℕ) → Agree n a u → Agree n b v → Agree n (cond t a b) (cond t u v)
agree_cond true n a b u v p q = p
agree_cond false n a b u v p q = q

map_one : (n : ℕ) (a b : Option ℕ) → ((m : ℕ) → n ≡ suc m → a ≡ Some m → b ≡ Some m) → option_map suc a ≡ Some n → option_map suc b ≡ Some n
map_one n a b each e =
    let read = some_suc a n e in
    ap (option_map suc) (each read.0 read.1 read.2) ∙ ap Some (sym read.1)

pub agree_map : (n : ℕ) (a b : Option ℕ) → ((m : ℕ) → n ≡ suc m → Agree m a b) → Agree n (option_map suc a) (option_map suc b)
agree_map n a b each = (map_one n a b (λ m e. (each m e).0), map_one n b a (λ m e. (each m e).1))

map_plus : (x : Option ℕ) → option_map (λ n. n + 1) x ≡ option_map suc x
map_plus None = refl
map_plus (Some n) = let same : n + 1 ≡ suc n = omega arith in ap Some same

pub agree_plus : (n : ℕ) (a b : Option ℕ) → ((m : ℕ) → n ≡ suc m → Agree m a b) → Agree n (option_map (λ n. n + 1) a) (option_map (λ n. n + 1) b)
agree_plus n a b each =
    let both = agree_map n a b each in
    ((λ e. map_plus b ∙ both.0 (sym (map_plus a) ∙ e)), (λ e. map_plus a ∙ both.1 (sym (map_plus b) ∙ e)))

-- a run that ends in a text ends there with more text behind it
run_step : (b : Bool) (j k l n : ℕ) → cond b (1 + j) 0 < suc n → (j < n → l ≡ k) → cond b (1 + l) 0 ≡ cond b (1 + k) 0
run_step true j k l n less same = let lt : j < n = omega arith in ap (λ z. 1 + z) (same lt)
run_step false j k l n less same = refl

pub run_over : (p : ℕ → Bool) (x after : List ℕ) → prefix_len p x < length x → prefix_len p (x ++ after) ≡ prefix_len p x
run_over p [] after less = absurd (omega arith)
run_over p (c ∷ x) after less = run_step (p c) (prefix_len p x) (prefix_len p x) (prefix_len p (x ++ after)) (length x) less (run_over p x after)

pub run_under : (p : ℕ → Bool) (x after : List ℕ) → prefix_len p (x ++ after) < length x → prefix_len p (x ++ after) ≡ prefix_len p x
run_under p [] after less = absurd (omega arith)
run_under p (c ∷ x) after less = run_step (p c) (prefix_len p (x ++ after)) (prefix_len p x) (prefix_len p (x ++ after)) (length x) less (run_under p x after)
