-- Numbers and positions are read exactly where a text is what is written of one.
use Rattle.std.proofs.Common.{◌≡◌, ◌⊎◌, inl, inr, ℕ, ◌+◌, ◌<◌, ◌≤◌, ◌^◌, ◌-◌, ◌*◌, ◌==◌, fold, rules, suc, zero, Bool, true, false, ◌&&◌, nat_lt, nat_le, List, [], ◌∷◌, ◌++◌, length, get_or, Option, Some, None, refl, sym, ap, subst, ◌∙◌, true≢false, arith}
use Rattle.std.specs.Fmt.{decimal}
use Rattle.std.specs.Int.{IsInRange}
use Rattle.std.specs.List.{join_with_byte, list_all}
use Rattle.std.specs.Char.{is_ascii_digit}
use Rattle.std.proofs.lemmas.Bool.Decides.{nat_tests}
use Rattle.std.proofs.lemmas.Fmt.{digits_decimal, digits_value-decimal, decimal-digits_value, decimal_digit, decimal_nonempty, first_decimal}
use Rattle.std.proofs.lemmas.List.Elements.{All-append, All-cons}
use Rattle.std.proofs.lemmas.List.Splits.{join_with_byte-slice_split}
use Rattle.std.proofs.lemmas.Str.Parse.{IsNumeralModel, IsDigitsTest, FoldsDigits, numerals_by_fold, not_in_digits}
use Rattle.hr_base.specs.declared.place.Pos.{Pos}
use Rattle.hr_script.specs.Language.{IsNumber, IsPosition, pos_word}
use Rattle.hr_script.specs.Numbers.{when, begins_number, decimal_value, in_32_bits, number_in, from_one, cut_at, pos_from, pos_in, position_in}
use Rattle.hr_script.proofs.Letters.{both, both_left, both_right}
use Rattle.hr_script.proofs.Pieces.{Lacks, lacks_at, cut_again}

are_tested : IsDigitsTest (λ text. list_all is_ascii_digit text ≡ true)
are_tested = search rules

folds : FoldsDigits (λ n digits. fold (λ m c. m * 10 + (c - 48)) n digits)
folds = record { empty = λ n. refl; more = λ n c cs is. refl }

own : IsNumeralModel (λ text. list_all is_ascii_digit text ≡ true) (λ digits. fold (λ m c. m * 10 + (c - 48)) 0 digits)
own = numerals_by_fold _ are_tested (λ n digits. fold (λ m c. m * 10 + (c - 48)) n digits) folds

-- what a test lets through
pub when_some : {A : Type 0} (test : Bool) (found : Option A) (x : A) → when test found ≡ Some x → (test ≡ true) × (found ≡ Some x)
when_some true found x e = (refl, e)
when_some false found x e = cc

pub some_same : {A : Type 0} (x y : A) → ◌≡◌ {A = Option A} (Some x) (Some y) → x ≡ y
some_same x y e = cc

pub small_number : (n : ℕ) → IsNumber n → n < 2 ^ 64
small_number n h = omega arith

-- what stands in no number
pub decimal_lacks : (n c : ℕ) → IsNumber n → (c < 48) ⊎ (57 < c) → Lacks c (decimal n)
decimal_lacks n c small outside =
    lacks_at c (decimal n) (not_in_digits own (decimal n) c (digits_decimal own n (small_number n small)) (λ r. no outside r))
  where
    no : (c < 48) ⊎ (57 < c) → IsInRange 48 57 c → ⊥
    no (inl less) r = omega arith
    no (inr more) r = omega arith

lead : (text : List ℕ) → begins_number text ≡ true → (0 < length text) × (get_or text 0 0 ≡ 48 → length text ≡ 1)
lead [] e = absurd (true≢false (sym e))
lead (c ∷ []) e = (omega arith, λ _. refl)
lead (c ∷ d ∷ cs) e = (omega arith, λ zero. absurd (true≢false (sym e ∙ ap (nat_lt 48) zero)))

begins : (text : List ℕ) → 48 < get_or text 0 0 → begins_number text ≡ true
begins [] above = absurd (omega arith)
begins (c ∷ []) above = refl
begins (c ∷ d ∷ cs) above = grind (arith, nat_tests, above)

pub number_is : (text : List ℕ) (n : ℕ) → number_in text ≡ Some n → (text ≡ decimal n) × IsNumber n
unfolding number_in decimal_value
number_is text n e =
    let found = when_some (begins_number text && list_all is_ascii_digit text) (in_32_bits (decimal_value text)) n e in
    let starts = both_left (begins_number text) (list_all is_ascii_digit text) found.0 in
    let digits = both_right (begins_number text) (list_all is_ascii_digit text) found.0 in
    let small = when_some (nat_le (decimal_value text) 4294967295) (Some (decimal_value text)) n found.1 in
    let less : decimal_value text ≤ 4294967295 = grind (arith, nat_tests, small.0) in
    let same : decimal_value text ≡ n = some_same (decimal_value text) n small.1 in
    (sym (ap decimal (sym same) ∙ decimal-digits_value own text digits (lead text starts).0 (lead text starts).1 (omega arith)), subst IsNumber same (omega arith))

first_digit : (n : ℕ) → IsNumber n → 0 < length (decimal n) → begins_number (decimal n) ≡ true
first_digit zero small some = ap begins_number (decimal_digit 0 (omega arith))
first_digit (suc m) small some =
    let above : 48 < get_or (decimal (suc m)) 0 0 = first_decimal (suc m) (omega arith) (small_number (suc m) small) in
    begins (decimal (suc m)) above

pub number_there : (n : ℕ) → IsNumber n → number_in (decimal n) ≡ Some n
unfolding number_in decimal_value
number_there n small =
    let some : 0 < length (decimal n) = decimal_nonempty n (small_number n small) in
    let digits : list_all is_ascii_digit (decimal n) ≡ true = digits_decimal own n (small_number n small) in
    let is : decimal_value (decimal n) ≡ n = digits_value-decimal own n (small_number n small) in
    let less : nat_le n 4294967295 ≡ true = grind (arith, nat_tests, small) in
    ap (λ b. when b (in_32_bits (decimal_value (decimal n)))) (both _ _ (first_digit n small some) digits)
    ∙ ap in_32_bits is ∙ ap (λ b. when b (Some n)) less

counted_is : (text : List ℕ) (n : ℕ) → from_one (number_in text) ≡ Some n → (text ≡ decimal n) × (1 ≤ n) × IsNumber n
counted_is text n e = by (number_in text) refl e
  where
    by : (found : Option ℕ) → number_in text ≡ found → from_one found ≡ Some n → (text ≡ decimal n) × (1 ≤ n) × IsNumber n
    by None is e = cc
    by (Some m) is e =
        let passed = when_some (nat_le 1 m) (Some m) n e in
        let same : m ≡ n = some_same m n passed.1 in
        let read = number_is text n (is ∙ passed.1) in
        let one : 1 ≤ n = grind (arith, nat_tests, passed.0, same) in
        (read.0, one, read.1)

counted_there : (n : ℕ) → 1 ≤ n → IsNumber n → from_one (number_in (decimal n)) ≡ Some n
counted_there n one small =
    let yes : nat_le 1 n ≡ true = grind (arith, nat_tests) in
    ap from_one (number_there n small) ∙ ap (λ b. when b (Some n)) yes

pos_in_is : (line col : List ℕ) (l c : Option ℕ) (p : Pos) → from_one (number_in line) ≡ l → from_one (number_in col) ≡ c → pos_from l c ≡ Some p
    → ((line ≡ decimal p.line) × (col ≡ decimal p.col)) × IsPosition p
pos_in_is line col None c p is_l is_c e = cc
pos_in_is line col (Some l) None p is_l is_c e = cc
pos_in_is line col (Some l) (Some c) p is_l is_c e =
    let same : record { line = l; col = c } ≡ p = some_same _ p e in
    let left = counted_is line l is_l in
    let right = counted_is col c is_c in
    subst (λ q. ((line ≡ decimal q.line) × (col ≡ decimal q.col)) × IsPosition q) same ((left.0, right.0), ((left.1, left.2), (right.1, right.2)))

pub pos_is : (text : List ℕ) (p : Pos) → position_in text ≡ Some p → (text ≡ pos_word p) × IsPosition p
unfolding position_in
pos_is text p e = by (cut_at 58 text) (join_with_byte-slice_split 58 text) e
  where
    by : (words : List (List ℕ)) → join_with_byte 58 words ≡ text → pos_in words ≡ Some p → (text ≡ pos_word p) × IsPosition p
    by [] whole e = cc
    by (line ∷ []) whole e = cc
    by (line ∷ col ∷ []) whole e =
        let read = pos_in_is line col (from_one (number_in line)) (from_one (number_in col)) p refl refl e in
        (sym whole ∙ ap (λ x. x ++ (58 ∷ col)) read.0.0 ∙ ap (λ x. decimal p.line ++ (58 ∷ x)) read.0.1, read.1)
    by (line ∷ col ∷ more ∷ words) whole e = cc

pub pos_there : (p : Pos) → IsPosition p → position_in (pos_word p) ≡ Some p
unfolding position_in
pos_there p is =
    ap pos_in (cut_again 58 (decimal p.line) (decimal p.col ∷ []) (decimal_lacks p.line 58 is.0.1 (inr (omega arith)), (decimal_lacks p.col 58 is.1.1 (inr (omega arith)), tt)))
    ∙ ap (λ l. pos_from l (from_one (number_in (decimal p.col)))) (counted_there p.line is.0.0 is.0.1)
    ∙ ap (λ c. pos_from (Some p.line) c) (counted_there p.col is.1.0 is.1.1)

-- what stands in no position
pub pos_lacks : (p : Pos) (c : ℕ) → IsPosition p → c < 48 → Lacks c (pos_word p)
pos_lacks p c is less =
    All-append (λ b. (b == c) ≡ false) (decimal p.line) (58 ∷ decimal p.col) (decimal_lacks p.line c is.0.1 (inl less))
    (All-cons (λ b. (b == c) ≡ false) 58 (decimal p.col) (grind (arith, nat_tests)) (decimal_lacks p.col c is.1.1 (inl less)))
