-- An integer is read as before where what follows it begins as before, as far as numbers look.
use Rattle.std.proofs.Common.{◌≡◌, ℕ, suc, ◌+◌, ◌≤◌, ◌||◌, ◌&&◌, ◌==◌, nat_le, nat_lt, Bool, true, false, cond, not, List, [], ◌∷◌, ◌++◌, length, take, drop, Option, Some, None, refl, sym, ap, subst, ◌∙◌, true≢false, arith, length-append, append_assoc, append-nil}
use Rattle.std.specs.List.{list_all}
use Rattle.std.specs.Option.{IsSome, is_some}
use Rattle.std.specs.Str.{chars, IsUtf8}
use Rattle.std.specs.Char.{digit_value}
use Rattle.std.proofs.Math.Seq.{take-append_seam, take-append-add, take-length}
use Rattle.std.proofs.lemmas.List.Folds.{list_all-append}
use Rattle.std.proofs.lemmas.Str.{chars-append, chars-nil, IsUtf8-append, IsUtf8-nil}
use Rattle.hr_base.specs.declared.lexeme.Class.{Class}
use Rattle.hr_rules.specs.Numbers.{greatest_integer, is_decimal, is_octal, is_hexadecimal, is_digits, is_x, is_o, value_of, integer_value, integer_class, ends_float, begins_float, longest_value, is_too_wide}
use Rattle.hr_rules.specs.Lexemes.{spelled_class, spelled_class_by, spelled_bars, spelled_bars_by, class_of, bars}
use Rattle.hr_rules.specs.Lexing.{Fits}
use Rattle.hr_rules.specs.Runs.{ends_run}
use Rattle.hr_rules.proofs.Apart.{both, both_left, both_right, and_false}
use Rattle.hr_rules.proofs.Digits.{digit_decimal}
use Rattle.hr_lexer.specs.declared.numbers.Digits.{Digits}
use Rattle.hr_lexer.specs.declared.taken.Taken.{Taken}
use Rattle.hr_lexer.specs.LexemeReader.{lexeme_at, lexeme_at_by}
use Rattle.hr_lexer.specs.NumberReader.{digits_len, float_len, decimal_digits, integer_digits, is_wide, integer_at, number_at}
use Rattle.hr_lexer.proofs.Bytes.{none_some}
use Rattle.hr_lexer.proofs.IntegersRead.{integer}
use Rattle.hr_lexer.proofs.Longest.{some_there}
use Rattle.hr_lexer.proofs.NamesRead.{kept}
use Rattle.hr_lexer.proofs.RunsRead.{run_len, some_is, len_of}
use Rattle.hr_plain.proofs.ReadsAlone.{Quiet, number_alone}
use Rattle.hr_plain.proofs.ReadsAlone.Quiet.{nothing}
use Rattle.hr_plain.proofs.ReadsFit.{IsTaken, Spelled, spelled_in_class, unspelled, bars_spelled, fits_read, read_fits}
use Rattle.hr_plain.proofs.ReadsKinds.{Number, number_of}

read_number : (cs after : List ℕ) (number : Number cs) → lexeme_at (cs ++ after) ≡ number_at (number.first ∷ (number.behind ++ after))
read_number cs after number = ap (λ z. lexeme_at (z ++ after)) number.is ∙ ap (λ k. lexeme_at_by k number.first (number.behind ++ after)) number.kind

-- an integer that is read as before fits
alike : (w rest other : List ℕ) (number : Number (chars w)) → Fits class_of bars Class.Integer w rest → IsUtf8 w → IsUtf8 other
    → number_at (number.first ∷ (number.behind ++ chars rest)) ≡ number_at (number.first ∷ (number.behind ++ chars other)) → Fits class_of bars Class.Integer w other
alike w rest other number f u v same =
    let reads : IsTaken Class.Integer (chars w) (chars other) =
    read_number (chars w) (chars other) number ∙ (sym same ∙ (sym (read_number (chars w) (chars rest) number) ∙ read_fits Class.Integer w rest f)) in
    fits_read Class.Integer w other u v reads

-- an integer fits where nothing follows it
float_integer : ◌≡◌ {A = Option Class} (Some Class.Float) (Some Class.Integer) → ⊥
float_integer e = cc

fits_if : (b : Bool) → cond b (Some Class.Integer) None ≡ Some Class.Integer → b ≡ true
fits_if true e = refl
fits_if false e = absurd (none_some e)

value_there : (b : Bool) (value : Option ℕ) → cond b (Some Class.Float) (integer_class value) ≡ Some Class.Integer → (n : ℕ) × (value ≡ Some n) × (nat_le n greatest_integer ≡ true)
value_there true value e = absurd (float_integer e)
value_there false None e = absurd (none_some e)
value_there false (Some n) e = (n, refl, fits_if (nat_le n greatest_integer) e)

longest_is : (c : ℕ) (rest : List ℕ) (n : ℕ) → is_decimal c ≡ true → integer_value c rest ≡ Some n → longest_value c rest ≡ n
longest_is c rest n d e =
    let fit = integer c rest d in
    let all : take (length rest) rest ≡ rest = take-length rest in
    let some : IsSome (integer_value c (take (length rest) rest)) = ap (λ t. is_some (integer_value c t)) all ∙ ap is_some e in
    let long : length rest ≤ fit.more = fit.longest (length rest) (omega arith) some in
    let within : fit.more ≤ length rest = fit.within in
    let same : fit.more ≡ length rest = omega (arith, long, within) in
    let right : integer_value c (take fit.more rest) ≡ Some (longest_value c rest) = fit.right in
    some_is (longest_value c rest) n (sym right ∙ (ap (λ k. integer_value c (take k rest)) same ∙ (ap (integer_value c) all ∙ e)))

no_wider : (n : ℕ) → nat_le n greatest_integer ≡ true → nat_lt greatest_integer n ≡ false
no_wider n e = grind arith

not_too_wide : (c : ℕ) (rest : List ℕ) → is_decimal c ≡ true → cond (ends_float rest) (Some Class.Float) (integer_class (integer_value c rest)) ≡ Some Class.Integer → is_too_wide c rest ≡ false
not_too_wide c rest d e =
    let value = value_there (ends_float rest) (integer_value c rest) e in
    let small : nat_lt greatest_integer (longest_value c rest) ≡ false = ap (nat_lt greatest_integer) (longest_is c rest value.0 d value.1) ∙ no_wider value.0 value.2 in
    ap (λ b. not (begins_float rest) && b) small ∙ and_false (not (begins_float rest))

-- what is an integer before one text is one before each
pub integer_anywhere : (w rest other : List ℕ) → class_of w rest ≡ Some Class.Integer → IsUtf8 other → class_of w other ≡ Some Class.Integer
integer_anywhere w rest other e v =
    let s : Spelled Class.Integer w rest = spelled_in_class Class.Integer w rest e in
    let number : Number (chars w) = number_of (chars w) (chars rest) s.is in
    let is : spelled_class (chars w) (chars other) ≡ Some Class.Integer =
    ap (λ z. spelled_class z (chars other)) number.is ∙ (ap (λ k. spelled_class_by k number.first number.behind (chars other)) number.kind ∙ number.class) in
    unspelled Class.Integer w other s.front v is

fits_alone : (w rest : List ℕ) → class_of w rest ≡ Some Class.Integer → Fits class_of bars Class.Integer w []
fits_alone w rest e =
    let s : Spelled Class.Integer w rest = spelled_in_class Class.Integer w rest e in
    let number : Number (chars w) = number_of (chars w) (chars rest) s.is in
    let free : spelled_bars (chars w) ≡ false =
    ap spelled_bars number.is ∙ (ap (λ k. spelled_bars_by k number.first number.behind) number.kind ∙ not_too_wide number.first number.behind (digit_decimal number.first number.kind) number.class) in
    record {
      is = integer_anywhere w rest [] e IsUtf8-nil;
      longest = λ longer other whole some.
          let lengths : length (w ++ []) ≡ length (longer ++ other) = ap length whole in
          omega (arith, lengths, length-append w [], length-append longer other);
      begins = ap bars (append-nil w) ∙ (bars_spelled w ∙ free);
    }

no_end : Quiet (chars [])
no_end = subst Quiet (sym chars-nil) nothing

-- where no number goes on
pub number_quiet : (w rest other : List ℕ) → Fits class_of bars Class.Integer w rest → IsUtf8 other → Quiet (chars other) → Fits class_of bars Class.Integer w other
number_quiet w rest other f v q =
    let s : Spelled Class.Integer w rest = spelled_in_class Class.Integer w rest f.is in
    let number : Number (chars w) = number_of (chars w) (chars rest) s.is in
    let d : is_decimal number.first ≡ true = digit_decimal number.first number.kind in
    alike w [] other number (fits_alone w rest f.is) s.front v
    (number_alone number.first number.behind (chars []) d no_end ∙ sym (number_alone number.first number.behind (chars other) d q))

-- before a text behind which no number goes on
before_text : (c : ℕ) (behind x rest : List ℕ) → is_decimal c ≡ true → IsUtf8 x → Quiet (chars rest)
    → number_at (c ∷ (behind ++ chars (x ++ rest))) ≡ number_at (c ∷ (behind ++ chars x))
before_text c behind x rest d u q =
    ap (λ l. number_at (c ∷ (behind ++ l))) (chars-append x rest u)
    ∙ (ap (λ l. number_at (c ∷ l)) (sym (append_assoc behind (chars x) (chars rest))) ∙ number_alone c (behind ++ chars x) (chars rest) d q)

pub number_word : (w x rest other : List ℕ) → Fits class_of bars Class.Integer w (x ++ rest) → IsUtf8 x → IsUtf8 other → Quiet (chars rest) → Quiet (chars other)
    → Fits class_of bars Class.Integer w (x ++ other)
number_word w x rest other f u v q r =
    let s : Spelled Class.Integer w (x ++ rest) = spelled_in_class Class.Integer w (x ++ rest) f.is in
    let number : Number (chars w) = number_of (chars w) (chars (x ++ rest)) s.is in
    let d : is_decimal number.first ≡ true = digit_decimal number.first number.kind in
    alike w (x ++ rest) (x ++ other) number f s.front (IsUtf8-append x other u v)
    (before_text number.first number.behind x rest d u q ∙ sym (before_text number.first number.behind x other d u r))

-- integers side by side: the first one is octal
first_there : (x o t : Bool) (a b e : ℕ) → x ≡ true → IsSome (cond x (Some a) (cond o (Some b) (cond t (Some e) None)))
first_there true o t a b e p = refl
first_there false o t a b e p = absurd (true≢false (sym p))

second_there : (x o t : Bool) (a b e : ℕ) → o ≡ true → IsSome (cond x (Some a) (cond o (Some b) (cond t (Some e) None)))
second_there true o t a b e p = refl
second_there false true t a b e p = refl
second_there false false t a b e p = absurd (true≢false (sym p))

third_there : (x o t : Bool) (a b e : ℕ) → t ≡ true → IsSome (cond x (Some a) (cond o (Some b) (cond t (Some e) None)))
third_there true o t a b e p = refl
third_there false true t a b e p = refl
third_there false false true a b e p = refl
third_there false false false a b e p = absurd (true≢false (sym p))

all_more : (p : ℕ → Bool) (front : List ℕ) (d : ℕ) → list_all p front ≡ true → p d ≡ true → list_all p (front ++ d ∷ []) ≡ true
all_more p front d e f = list_all-append p front (d ∷ []) ∙ both (list_all p front) (p d && true) e (both (p d) true f refl)

digits_more : (p : ℕ → Bool) (front : List ℕ) (d : ℕ) → is_digits p front ≡ true → p d ≡ true → is_digits p (front ++ d ∷ []) ≡ true
digits_more p [] d e f = absurd (true≢false (sym e))
digits_more p (c ∷ front) d e f = both (p c) (list_all p (front ++ d ∷ [])) (both_left (p c) (list_all p front) e) (all_more p front d (both_right (p c) (list_all p front) e) f)

less : (n : ℕ) → nat_lt n 10 ≡ true → nat_lt n 16 ≡ true
less n e = grind arith

hexadecimal : (d : ℕ) → is_decimal d ≡ true → is_hexadecimal d ≡ true
hexadecimal d e = less (digit_value d) e

of_integer : (b : Bool) (x : Option Taken) (m n : ℕ) → cond b x (Some (record { class = Class.Float; len = m })) ≡ Some (record { class = Class.Integer; len = n }) → x ≡ Some (record { class = Class.Integer; len = n })
of_integer true x m n e = e
of_integer false x m n e = absurd (float e)
  where
    float : ◌≡◌ {A = Option Taken} (Some (record { class = Class.Float; len = m })) (Some (record { class = Class.Integer; len = n })) → ⊥
    float e = float_integer (ap (λ t. elim t [ None ↦ None | Some t ↦ Some t.class ]) e)

take_none : (text : List ℕ) → take 0 text ≡ []
take_none [] = refl
take_none (c ∷ text) = refl

-- a digit behind an integer makes none of it
no_more : (c : ℕ) (front : List ℕ) (d : ℕ) (rest : List ℕ) → is_decimal c ≡ true → number_at (c ∷ (front ++ d ∷ rest)) ≡ Some (record { class = Class.Integer; len = suc (length front) })
    → ¬ (IsSome (integer_value c (front ++ d ∷ [])))
no_more c front d rest dc e some =
    let behind : List ℕ = front ++ d ∷ rest in
    let them : Digits = integer_digits (c ∷ behind) in
    let fit = integer c behind dc in
    let read : Taken = record { class = Class.Integer; len = them.skipped + them.len } in
    let here : Taken = record { class = Class.Integer; len = suc (length front) } in
    let at : integer_at (c ∷ behind) ≡ Some here = of_integer (float_len (c ∷ behind) == 0) (integer_at (c ∷ behind)) (float_len (c ∷ behind)) (suc (length front)) e in
    let parts = kept (is_wide them.base (take them.len (drop them.skipped (c ∷ behind)))) read here at in
    let len : them.skipped + them.len ≡ suc (length front) = ap len_of parts.1 in
    let more : them.skipped + them.len ≡ suc fit.more = fit.len in
    let plus : suc (length front) ≡ length front + 1 = omega arith in
    let cut : take (suc (length front)) behind ≡ front ++ d ∷ [] =
    ap (λ n. take n behind) plus ∙ (take-append-add front (d ∷ rest) 1 ∙ ap (λ l. front ++ d ∷ l) (take_none rest)) in
    let there : IsSome (integer_value c (take (suc (length front)) behind)) = ap (λ t. is_some (integer_value c t)) cut ∙ some in
    let in_text : suc (length front) ≤ length behind = omega (arith, length-append front (d ∷ rest)) in
    let long : suc (length front) ≤ fit.more = fit.longest (suc (length front)) in_text there in
    omega (arith, len, more, long)

-- an octal number
is_eq : (a b : ℕ) → (a == b) ≡ true → a ≡ b
is_eq a b e = grind arith

of_two : (P : ℕ → Type 0) (m a b : ℕ) → P a → P b → (x y : Bool) → (m == a) ≡ x → (m == b) ≡ y → (x || y) ≡ true → P m
of_two P m a b p q true y e f is = subst P (sym (is_eq m a e)) p
of_two P m a b p q false true e f is = subst P (sym (is_eq m b f)) q
of_two P m a b p q false false e f is = absurd (true≢false (sym is))

abbrev Octal : ℕ → Type 0
Octal m = (text : List ℕ) (n : ℕ) → digits_len 8 text ≡ n → (n == 0) ≡ false → number_at (48 ∷ m ∷ text) ≡ cond (is_wide 8 (take n text)) None (Some (record { class = Class.Integer; len = 2 + n }))

abbrev read_by : List ℕ → Digits → Option Taken
read_by text them = cond (is_wide them.base (take them.len (drop them.skipped text))) None (Some (record { class = Class.Integer; len = them.skipped + them.len }))

small_o : Octal 111
small_o text n e f =
    let all : List ℕ = 48 ∷ 111 ∷ text in
    ap (λ k. read_by all (cond (k == 0) (decimal_digits all) (record { base = 8; skipped = 2; len = k }))) e
    ∙ ap (λ b. read_by all (cond b (decimal_digits all) (record { base = 8; skipped = 2; len = n }))) f

large_o : Octal 79
large_o text n e f =
    let all : List ℕ = 48 ∷ 79 ∷ text in
    ap (λ k. read_by all (cond (k == 0) (decimal_digits all) (record { base = 8; skipped = 2; len = k }))) e
    ∙ ap (λ b. read_by all (cond b (decimal_digits all) (record { base = 8; skipped = 2; len = n }))) f

octal : (m : ℕ) → is_o m ≡ true → Octal m
octal m e = of_two Octal m 111 79 small_o large_o (m == 111) (m == 79) refl refl e

octal_read : (c m : ℕ) (front after : List ℕ) → (c == 48) ≡ true → is_o m ≡ true → is_digits is_octal front ≡ true → ends_run is_octal after ≡ true
    → number_at (c ∷ m ∷ (front ++ after)) ≡ cond (is_wide 8 front) None (Some (record { class = Class.Integer; len = 2 + length front }))
octal_read c m [] after z o all stop = absurd (true≢false (sym all))
octal_read c m (a ∷ front) after z o all stop =
    let digits : List ℕ = a ∷ front in
    ap (λ k. number_at (k ∷ m ∷ (digits ++ after))) (is_eq c 48 z)
    ∙ (octal m o (digits ++ after) (length digits) (run_len is_octal digits after all stop) (some_there (length front))
    ∙ ap (λ t. cond (is_wide 8 t) None (Some (record { class = Class.Integer; len = 2 + length digits }))) (take-append_seam digits after))

abbrev BesideDigit : ℕ → List ℕ → ℕ → Type 0
BesideDigit c front d = (rest other : List ℕ) → number_at (c ∷ (front ++ d ∷ rest)) ≡ Some (record { class = Class.Integer; len = suc (length front) })
    → number_at (c ∷ (front ++ d ∷ other)) ≡ Some (record { class = Class.Integer; len = suc (length front) })

beside_octal : (c m d : ℕ) (front : List ℕ) → is_decimal c ≡ true → ((c == 48 && is_o m) && is_digits is_octal front) ≡ true → (b : Bool) → is_octal d ≡ b → BesideDigit c (m ∷ front) d
beside_octal c m d front dc e true f rest other at =
    let marked : (c == 48 && is_o m) ≡ true = both_left (c == 48 && is_o m) (is_digits is_octal front) e in
    let longer : is_digits is_octal (front ++ d ∷ []) ≡ true = digits_more is_octal front d (both_right (c == 48 && is_o m) (is_digits is_octal front) e) f in
    absurd (no_more c (m ∷ front) d rest dc at
    (second_there ((c == 48 && is_x m) && is_digits is_hexadecimal (front ++ d ∷ [])) ((c == 48 && is_o m) && is_digits is_octal (front ++ d ∷ [])) (list_all is_decimal (m ∷ (front ++ d ∷ [])))
    (value_of 16 (front ++ d ∷ [])) (value_of 8 (front ++ d ∷ [])) (value_of 10 (c ∷ m ∷ (front ++ d ∷ [])))
    (both (c == 48 && is_o m) (is_digits is_octal (front ++ d ∷ [])) marked longer)))
beside_octal c m d front dc e false f rest other at =
    let marked : (c == 48 && is_o m) ≡ true = both_left (c == 48 && is_o m) (is_digits is_octal front) e in
    let z : (c == 48) ≡ true = both_left (c == 48) (is_o m) marked in
    let o : is_o m ≡ true = both_right (c == 48) (is_o m) marked in
    let all : is_digits is_octal front ≡ true = both_right (c == 48 && is_o m) (is_digits is_octal front) e in
    octal_read c m front (d ∷ other) z o all (ap not f) ∙ (sym (octal_read c m front (d ∷ rest) z o all (ap not f)) ∙ at)

beside_by : (c m d : ℕ) (front : List ℕ) → is_decimal c ≡ true → is_decimal d ≡ true → (x o t : Bool)
    → ((c == 48 && is_x m) && is_digits is_hexadecimal front) ≡ x → ((c == 48 && is_o m) && is_digits is_octal front) ≡ o → list_all is_decimal (m ∷ front) ≡ t
    → IsSome (cond x (Some (value_of 16 front)) (cond o (Some (value_of 8 front)) (cond t (Some (value_of 10 (c ∷ m ∷ front))) None))) → BesideDigit c (m ∷ front) d
beside_by c m d front dc dd true o t e f g some rest other at =
    let marked : (c == 48 && is_x m) ≡ true = both_left (c == 48 && is_x m) (is_digits is_hexadecimal front) e in
    let longer : is_digits is_hexadecimal (front ++ d ∷ []) ≡ true = digits_more is_hexadecimal front d (both_right (c == 48 && is_x m) (is_digits is_hexadecimal front) e) (hexadecimal d dd) in
    absurd (no_more c (m ∷ front) d rest dc at
    (first_there ((c == 48 && is_x m) && is_digits is_hexadecimal (front ++ d ∷ [])) ((c == 48 && is_o m) && is_digits is_octal (front ++ d ∷ [])) (list_all is_decimal (m ∷ (front ++ d ∷ [])))
    (value_of 16 (front ++ d ∷ [])) (value_of 8 (front ++ d ∷ [])) (value_of 10 (c ∷ m ∷ (front ++ d ∷ [])))
    (both (c == 48 && is_x m) (is_digits is_hexadecimal (front ++ d ∷ [])) marked longer)))
beside_by c m d front dc dd false true t e f g some rest other at = beside_octal c m d front dc f (is_octal d) refl rest other at
beside_by c m d front dc dd false false true e f g some rest other at =
    absurd (no_more c (m ∷ front) d rest dc at
    (third_there ((c == 48 && is_x m) && is_digits is_hexadecimal (front ++ d ∷ [])) ((c == 48 && is_o m) && is_digits is_octal (front ++ d ∷ [])) (list_all is_decimal (m ∷ (front ++ d ∷ [])))
    (value_of 16 (front ++ d ∷ [])) (value_of 8 (front ++ d ∷ [])) (value_of 10 (c ∷ m ∷ (front ++ d ∷ [])))
    (all_more is_decimal (m ∷ front) d g dd)))
beside_by c m d front dc dd false false false e f g some rest other at = absurd (true≢false (sym some))

beside : (c : ℕ) (front : List ℕ) (d : ℕ) → is_decimal c ≡ true → is_decimal d ≡ true → IsSome (integer_value c front) → BesideDigit c front d
beside c [] d dc dd some rest other at =
    absurd (no_more c [] d rest dc at
    (third_there ((c == 48 && is_x d) && false) ((c == 48 && is_o d) && false) (is_decimal d && true) (value_of 16 []) (value_of 8 []) (value_of 10 (c ∷ d ∷ []))
    (both (is_decimal d) true dd refl)))
beside c (m ∷ front) d dc dd some rest other at =
    beside_by c m d front dc dd ((c == 48 && is_x m) && is_digits is_hexadecimal front) ((c == 48 && is_o m) && is_digits is_octal front) (list_all is_decimal (m ∷ front)) refl refl refl some rest other at

-- before an integer that stays
pub number_digits : (w x rest other : List ℕ) → Fits class_of bars Class.Integer w (x ++ rest) → Fits class_of bars Class.Integer x rest → IsUtf8 other → Fits class_of bars Class.Integer w (x ++ other)
number_digits w x rest other f g v =
    let s : Spelled Class.Integer w (x ++ rest) = spelled_in_class Class.Integer w (x ++ rest) f.is in
    let t : Spelled Class.Integer x rest = spelled_in_class Class.Integer x rest g.is in
    let number : Number (chars w) = number_of (chars w) (chars (x ++ rest)) s.is in
    let next : Number (chars x) = number_of (chars x) (chars rest) t.is in
    let split_at : (after : List ℕ) → chars (x ++ after) ≡ next.first ∷ (next.behind ++ chars after) = λ after. chars-append x after t.front ∙ ap (λ l. l ++ chars after) next.is in
    let value = value_there (ends_float number.behind) (integer_value number.first number.behind) number.class in
    let len : ◌≡◌ {A = Option Taken} (Some (record { class = Class.Integer; len = length (chars w) })) (Some (record { class = Class.Integer; len = suc (length number.behind) })) =
    ap (λ l. Some (record { class = Class.Integer; len = length l })) number.is in
    let at : number_at (number.first ∷ (number.behind ++ next.first ∷ (next.behind ++ chars rest))) ≡ Some (record { class = Class.Integer; len = suc (length number.behind) }) =
    ap (λ l. number_at (number.first ∷ (number.behind ++ l))) (sym (split_at rest)) ∙ (sym (read_number (chars w) (chars (x ++ rest)) number) ∙ (read_fits Class.Integer w (x ++ rest) f ∙ len)) in
    let moved : number_at (number.first ∷ (number.behind ++ next.first ∷ (next.behind ++ chars other))) ≡ Some (record { class = Class.Integer; len = suc (length number.behind) }) =
    beside number.first number.behind next.first (digit_decimal number.first number.kind) (digit_decimal next.first next.kind) (ap is_some value.1) (next.behind ++ chars rest) (next.behind ++ chars other) at in
    let reads : IsTaken Class.Integer (chars w) (chars (x ++ other)) =
    read_number (chars w) (chars (x ++ other)) number ∙ (ap (λ l. number_at (number.first ∷ (number.behind ++ l))) (split_at other) ∙ (moved ∙ sym len)) in
    fits_read Class.Integer w (x ++ other) s.front (IsUtf8-append x other t.front v) reads
