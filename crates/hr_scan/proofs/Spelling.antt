-- How a character is spelled in UTF-8: by itself, or by a first byte that says how many continuing bytes follow.
--     spelling      one of the two forms
--     lead      what the first byte says
--     continues_at      the other bytes
use Rattle.std.proofs.Common.{◌≡◌, ℕ, zero, suc, ◌+◌, ◌/◌, ◌%◌, ◌⊎◌, ◌<◌, ◌≤◌, cond, nat_lt, List, [], ◌∷◌, ◌++◌, length, slice_index, get_or, sym, ap, subst, inl, inr, arith, lt-ltb, le-ltb}
use Rattle.std.proofs.lemmas.Bool.{cases_lt}
use Rattle.std.specs.Char.{encode_utf8}
use Rattle.std.specs.Str.{continuation_len}
use Rattle.std.proofs.lemmas.Str.{encode_ascii}
use Rattle.std.specs.List.{AllByRecursion}
use Rattle.hr_scan.specs.Characters.{announced_len}

-- a byte of a character behind its first one
abbrev pub Continues : ℕ → Type 0
Continues b = (128 ≤ b) × (b < 192)

-- how a character is spelled: by itself, or by a first byte that says how many follow
pub data Spelling (c : ℕ) : Type 0 where
  alone : c < 128 → encode_utf8 c ≡ c ∷ [] → Spelling c
  led : (first : ℕ) (rest : List ℕ) → 192 ≤ first → continuation_len first ≡ length rest → AllByRecursion Continues rest → encode_utf8 c ≡ first ∷ rest → Spelling c

next : (x : ℕ) → Continues (128 + x % 64)
next x = (omega arith, omega arith)

two : (c : ℕ) → 128 ≤ c → c < 2048 → encode_utf8 c ≡ (192 + c / 64) ∷ (128 + c % 64) ∷ []
unfolding encode_utf8
two c l h = rw (le-ltb c 128 l, lt-ltb c 2048 h)

three : (c : ℕ) → 2048 ≤ c → c < 65536 → encode_utf8 c ≡ (224 + c / 4096) ∷ (128 + c / 64 % 64) ∷ (128 + c % 64) ∷ []
unfolding encode_utf8
three c l h = let l2 : 128 ≤ c = omega arith in rw (le-ltb c 128 l2, le-ltb c 2048 l, lt-ltb c 65536 h)

four : (c : ℕ) → 65536 ≤ c → encode_utf8 c ≡ (240 + c / 262144) ∷ (128 + c / 4096 % 64) ∷ (128 + c / 64 % 64) ∷ (128 + c % 64) ∷ []
unfolding encode_utf8
four c l =
    let l2 : 128 ≤ c = omega arith in
    let l3 : 2048 ≤ c = omega arith in
    rw (le-ltb c 128 l2, le-ltb c 2048 l3, le-ltb c 65536 l)

-- the ranges of first bytes
first_of_two : (a : ℕ) → 192 ≤ a → a < 224 → continuation_len a ≡ 1
first_of_two a l h = let l1 : 128 ≤ a = omega arith in rw (le-ltb a 128 l1, lt-ltb a 224 h)

first_of_three : (a : ℕ) → 224 ≤ a → a < 240 → continuation_len a ≡ 2
first_of_three a l h = let l1 : 128 ≤ a = omega arith in rw (le-ltb a 128 l1, le-ltb a 224 l, lt-ltb a 240 h)

first_of_four : (a : ℕ) → 240 ≤ a → continuation_len a ≡ 3
first_of_four a l =
    let l1 : 128 ≤ a = omega arith in
    let l2 : 224 ≤ a = omega arith in
    rw (le-ltb a 128 l1, le-ltb a 224 l2, le-ltb a 240 l)

pub spelling : (c : ℕ) → Spelling c
spelling c = by (cases_lt c 128) (cases_lt c 2048) (cases_lt c 65536)
  where
    by : (c < 128) ⊎ (128 ≤ c) → (c < 2048) ⊎ (2048 ≤ c) → (c < 65536) ⊎ (65536 ≤ c) → Spelling c
    by (inl h) _ _ = alone h (encode_ascii c h)
    by (inr l) (inl h) _ = led (192 + c / 64) _ (omega arith) (first_of_two (192 + c / 64) (omega arith) (omega arith)) (next c, tt) (two c l h)
    by (inr _) (inr l) (inl h) = led (224 + c / 4096) _ (omega arith) (first_of_three (224 + c / 4096) (omega arith) (omega arith)) (next (c / 64), (next c, tt)) (three c l h)
    by (inr _) (inr _) (inr l) = led (240 + c / 262144) _ (omega arith) (first_of_four (240 + c / 262144) (omega arith)) (next (c / 4096), (next (c / 64), (next c, tt))) (four c l)

-- a character's first byte says how many bytes it has
pub lead : (c : ℕ) (rest : List ℕ) → announced_len (slice_index (encode_utf8 c ++ rest) 0) ≡ length (encode_utf8 c)
lead c rest = by (spelling c)
  where
    by : Spelling c → announced_len (slice_index (encode_utf8 c ++ rest) 0) ≡ length (encode_utf8 c)
    by (alone h e) = subst (λ l. announced_len (slice_index (l ++ rest) 0) ≡ length l) (sym e) (ap (λ b. cond b 0 (cond (nat_lt c 224) 1 (cond (nat_lt c 240) 2 3)) + 1) (lt-ltb c 128 h))
    by (led first others l n f e) = subst (λ l. announced_len (slice_index (l ++ rest) 0) ≡ length l) (sym e) (omega (arith, n))

all_at : (xs : List ℕ) (k : ℕ) → AllByRecursion Continues xs → k < length xs → Continues (get_or xs k 0)
all_at [] k a h = absurd (omega arith)
all_at (x ∷ xs) zero a h = a.0
all_at (x ∷ xs) (suc k) a h = all_at xs k a.1 (omega arith)

-- behind its first byte a character has continuing bytes alone
pub continues_at : (c k : ℕ) → 1 ≤ k → k < length (encode_utf8 c) → Continues (get_or (encode_utf8 c) k 0)
continues_at c k l h = by (spelling c)
  where
    at : (k first : ℕ) (others : List ℕ) → AllByRecursion Continues others → 1 ≤ k → k < length (first ∷ others) → Continues (get_or (first ∷ others) k 0)
    at zero first others a l h = absurd (omega arith)
    at (suc k) first others a l h = all_at others k a (omega arith)

    by : Spelling c → Continues (get_or (encode_utf8 c) k 0)
    by (alone small e) = let long = ap length e in absurd (omega arith)
    by (led first others big n a e) = let long = ap length e in subst (λ t. Continues (get_or t k 0)) (sym e) (at k first others a l (omega arith))
