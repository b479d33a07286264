-- A number is read as it is alone, where no number goes on into what follows it.
use Rattle.std.proofs.Common.{◌≡◌, ℕ, suc, ◌+◌, ◌≤◌, ◌||◌, ◌==◌, Bool, true, false, cond, not, List, [], ◌∷◌, ◌++◌, length, take, drop, Option, Some, None, refl, ap, ap₂, ◌∙◌, arith, length-drop}
use Rattle.std.specs.List.{prefix_len}
use Rattle.std.proofs.lemmas.List.{drop-append-le, take-append-le}
use Rattle.std.proofs.lemmas.List.Sums.{prefix_len-le-length}
use Rattle.hr_base.specs.declared.lexeme.Class.{Class}
use Rattle.hr_rules.specs.Letters.{is_in_name}
use Rattle.hr_rules.specs.Numbers.{is_decimal, is_octal, is_hexadecimal, is_e, is_x, is_o}
use Rattle.hr_rules.specs.Runs.{ends_run}
use Rattle.hr_rules.proofs.Apart.{not_true}
use Rattle.hr_lexer.specs.declared.numbers.Digits.{Digits}
use Rattle.hr_lexer.specs.declared.taken.Taken.{Taken}
use Rattle.hr_lexer.specs.NumberReader.{digits_len, with_more, signed_len, exponent_len, fraction_len, float_part_len, float_len, decimal_digits, based_digits, integer_digits, is_wide, integer_at, number_at}
use Rattle.hr_lexer.proofs.IntegersRead.{integer}
use Rattle.hr_lexer.proofs.RunsRead.{no_run}

-- no number goes on with this character, and no name
pub record IsQuiet (c : ℕ) : Type 0 where
  pub decimal : is_decimal c ≡ false
  pub octal : is_octal c ≡ false
  pub hexadecimal : is_hexadecimal c ≡ false
  pub exponent : is_e c ≡ false
  pub dot : (c == 46) ≡ false
  pub x : is_x c ≡ false
  pub o : is_o c ≡ false
  pub name : is_in_name c ≡ false

-- none goes on into this text, nor into one behind the letter of an exponent
pub data Quiet : List ℕ → Type 0 where
  nothing : Quiet []
  something : (c : ℕ) (rest : List ℕ) → IsQuiet c → signed_len (c ∷ rest) ≡ 0 → Quiet (c ∷ rest)

pub quiet_stops : (p : ℕ → Bool) (text : List ℕ) → Quiet text → ((c : ℕ) → IsQuiet c → p c ≡ false) → ends_run p text ≡ true
quiet_stops p [] nothing f = refl
quiet_stops p (_ ∷ _) (something c rest k e) f = ap not (f c k)

-- runs end where they end alone
pub run_alone : (p : ℕ → Bool) (text after : List ℕ) → ends_run p after ≡ true → prefix_len p (text ++ after) ≡ prefix_len p text
run_alone p [] [] e = refl
run_alone p [] (c ∷ after) e = no_run p c after (not_true (p c) e)
run_alone p (d ∷ text) after e = ap (λ n. cond (p d) (1 + n) 0) (run_alone p text after e)

decimals : (text after : List ℕ) → Quiet after → digits_len 10 (text ++ after) ≡ digits_len 10 text
decimals text after q = run_alone is_decimal text after (quiet_stops is_decimal after q (λ c k. k.decimal))

octals : (text after : List ℕ) → Quiet after → digits_len 8 (text ++ after) ≡ digits_len 8 text
octals text after q = run_alone is_octal text after (quiet_stops is_octal after q (λ c k. k.octal))

hexadecimals : (text after : List ℕ) → Quiet after → digits_len 16 (text ++ after) ≡ digits_len 16 text
hexadecimals text after q = run_alone is_hexadecimal text after (quiet_stops is_hexadecimal after q (λ c k. k.hexadecimal))

behind_decimals : (text after : List ℕ) → drop (digits_len 10 text) (text ++ after) ≡ drop (digits_len 10 text) text ++ after
behind_decimals text after = drop-append-le (digits_len 10 text) text after (prefix_len-le-length is_decimal text)

-- the parts of a float
signed : (text after : List ℕ) → Quiet after → signed_len (text ++ after) ≡ signed_len text
signed [] [] nothing = refl
signed [] (_ ∷ _) (something c rest k e) = e
signed (c ∷ text) after q = ap₂ (λ (a b : ℕ). cond (c == 43 || c == 45) (with_more 1 a) b) (decimals text after q) (decimals (c ∷ text) after q)

exponent : (text after : List ℕ) → Quiet after → exponent_len (text ++ after) ≡ exponent_len text
exponent [] [] nothing = refl
exponent [] (_ ∷ _) (something c rest k e) = ap (λ b. cond b (with_more 1 (signed_len rest)) 0) k.exponent
exponent (c ∷ text) after q = ap (λ n. cond (is_e c) (with_more 1 n) 0) (signed text after q)

fraction : (text after : List ℕ) → Quiet after → fraction_len (text ++ after) ≡ fraction_len text
fraction text after q =
    let n : ℕ = digits_len 10 text in
    ap (λ m. cond (m == 0) 0 (m + exponent_len (drop m (text ++ after)))) (decimals text after q)
    ∙ ap (λ l. cond (n == 0) 0 (n + l)) (ap exponent_len (behind_decimals text after) ∙ exponent (drop n text) after q)

float_part : (text after : List ℕ) → Quiet after → float_part_len (text ++ after) ≡ float_part_len text
float_part [] [] nothing = refl
float_part [] (_ ∷ _) (something c rest k e) =
    ap (λ b. cond b (with_more 1 (fraction_len rest)) (exponent_len (c ∷ rest))) k.dot ∙ exponent [] (c ∷ rest) (something c rest k e)
float_part (c ∷ text) after q = ap₂ (λ (a b : ℕ). cond (c == 46) (with_more 1 a) b) (fraction text after q) (exponent (c ∷ text) after q)

float : (text after : List ℕ) → Quiet after → float_len (text ++ after) ≡ float_len text
float text after q =
    let n : ℕ = digits_len 10 text in
    ap (λ m. with_more m (float_part_len (drop m (text ++ after)))) (decimals text after q)
    ∙ ap (with_more n) (ap float_part_len (behind_decimals text after) ∙ float_part (drop n text) after q)

-- the digits of an integer
abbrev ten : ℕ → Digits
ten n = record { base = 10; skipped = 0; len = n }

abbrev digits_by : ℕ → ℕ → ℕ → ℕ → ℕ → Digits
digits_by c m h o d =
    cond (c == 48)
    (cond (is_x m) (cond (h == 0) (ten d) (record { base = 16; skipped = 2; len = h }))
    (cond (is_o m) (cond (o == 0) (ten d) (record { base = 8; skipped = 2; len = o })) (ten d)))
    (ten d)

either_way : (b : Bool) (digits : Digits) → cond b digits digits ≡ digits
either_way true digits = refl
either_way false digits = refl

digits : (c : ℕ) (text after : List ℕ) → Quiet after → integer_digits (c ∷ (text ++ after)) ≡ integer_digits (c ∷ text)
digits c [] [] nothing = refl
digits c [] (_ ∷ _) (something m rest k e) =
    let text : List ℕ = c ∷ m ∷ rest in
    ap₂ (λ (x o : Bool). cond (c == 48) (cond x (based_digits 16 rest text) (cond o (based_digits 8 rest text) (decimal_digits text))) (decimal_digits text)) k.x k.o
    ∙ either_way (c == 48) (decimal_digits text)
    ∙ ap ten (decimals (c ∷ []) (m ∷ rest) (something m rest k e))
digits c (m ∷ text) after q =
    let h : digits_len 16 (text ++ after) ≡ digits_len 16 text = hexadecimals text after q in
    let o : digits_len 8 (text ++ after) ≡ digits_len 8 text = octals text after q in
    let d : digits_len 10 (c ∷ m ∷ (text ++ after)) ≡ digits_len 10 (c ∷ m ∷ text) = decimals (c ∷ m ∷ text) after q in
    λ k. digits_by c m (h k) (o k) (d k)

written : (n m : ℕ) (text after : List ℕ) → n + m ≤ length text → take m (drop n (text ++ after)) ≡ take m (drop n text)
written n m text after within =
    ap (take m) (drop-append-le n text after (omega (arith, within))) ∙ take-append-le m (drop n text) after (omega (arith, within, length-drop n text))

integer_alone : (c : ℕ) (text after : List ℕ) → is_decimal c ≡ true → Quiet after → integer_at (c ∷ (text ++ after)) ≡ integer_at (c ∷ text)
integer_alone c text after d q =
    let them : Digits = integer_digits (c ∷ text) in
    let fit = integer c text d in
    let len : them.skipped + them.len ≡ suc fit.more = fit.len in
    let within : fit.more ≤ length text = fit.within in
    let same : take them.len (drop them.skipped (c ∷ (text ++ after))) ≡ take them.len (drop them.skipped (c ∷ text)) = written them.skipped them.len (c ∷ text) after (omega (arith, len, within)) in
    ap (λ x. cond (is_wide x.base (take x.len (drop x.skipped (c ∷ (text ++ after))))) None (Some (record { class = Class.Integer; len = x.skipped + x.len }))) (digits c text after q)
    ∙ ap (λ t. cond (is_wide them.base t) None (Some (record { class = Class.Integer; len = them.skipped + them.len }))) same

-- a whole number
pub number_alone : (c : ℕ) (text after : List ℕ) → is_decimal c ≡ true → Quiet after → number_at (c ∷ (text ++ after)) ≡ number_at (c ∷ text)
number_alone c text after d q =
    ap₂ (λ (n : ℕ) (x : Option Taken). cond (n == 0) x (Some (record { class = Class.Float; len = n }))) (float (c ∷ text) after q) (integer_alone c text after d q)
