-- An escape that ends in a text is the same with more text behind it.
use Rattle.std.proofs.Common.{◌≡◌, ◌<◌, ◌≤◌, ℕ, suc, ◌+◌, Bool, true, false, cond, ◌==◌, ◌&&◌, List, [], ◌∷◌, ◌++◌, length, take, drop, Option, Some, None, refl, sym, ap, ◌∙◌, arith, nat_le, length-drop}
use Rattle.std.specs.List.{list_all, prefix_len}
use Rattle.std.specs.Option.{option_map}
use Rattle.std.specs.Char.{is_digit}
use Rattle.std.proofs.lemmas.List.{take-append-le, drop-append-le}
use Rattle.hr_rules.specs.Letters.{among, is_blank}
use Rattle.hr_rules.specs.Runs.{begins_with, begins_word}
use Rattle.hr_rules.specs.Numbers.{value_of, is_decimal}
use Rattle.hr_rules.specs.Quotes.{backslash, letter_escapes, is_control_letter, ascii_names, named_len, is_code, code_len, control_len, escape_len, gap_len, string_escape_len}
use Rattle.hr_rules.proofs.Apart.{both_left, both_right}
use Rattle.hr_lexer.proofs.Agreeing.{Agree, agree_same, agree_cond, agree_plus, run_over, run_under}

two_tests : (s t : Bool) (k n : ℕ) → cond s None (cond t (Some k) None) ≡ Some n → k ≡ n
two_tests true t k n e = cc
two_tests false true k n e = cc
two_tests false false k n e = cc

-- digits
abbrev code_by : ℕ → List ℕ → ℕ → Option ℕ
code_by base text k = cond (k == 0) None (cond (is_code (value_of base (take k text))) (Some k) None)

code_over : (base : ℕ) (x after : List ℕ) (p q : ℕ) → q ≡ p → p ≤ length x → code_by base (x ++ after) q ≡ code_by base x p
code_over base x after p q e le =
    ap (code_by base (x ++ after)) e ∙ ap (λ t. cond (p == 0) None (cond (is_code (value_of base t)) (Some p) None)) (take-append-le p x after le)

code_agree : (base : ℕ) (x after : List ℕ) (n : ℕ) → n < length x → Agree n (code_len base x) (code_len base (x ++ after))
code_agree base x after n less = (
  (λ e.
      let same : p ≡ n = two_tests (p == 0) (is_code (value_of base (take p x))) p n e in
      let lt : p < length x = omega arith in
      code_over base x after p q (run_over (λ c. is_digit c base) x after lt) (omega arith) ∙ e),
  (λ e.
      let same : q ≡ n = two_tests (q == 0) (is_code (value_of base (take q (x ++ after)))) q n e in
      let lt : q < length x = omega arith in
      let one : q ≡ p = run_under (λ c. is_digit c base) x after lt in
      sym (code_over base x after p q one (omega arith)) ∙ e),
)
  where
    p : ℕ
    p = prefix_len (λ c. is_digit c base) x

    q : ℕ
    q = prefix_len (λ c. is_digit c base) (x ++ after)

-- gaps
some_over : (d : ℕ) (y after : List ℕ) → 0 < length y → begins_with d (y ++ after) ≡ begins_with d y
some_over d [] after some = absurd (omega arith)
some_over d (c ∷ y) after some = refl

abbrev gap_by : List ℕ → ℕ → Option ℕ
gap_by text k = cond (k == 0) None (cond (begins_with backslash (drop k text)) (Some (k + 1)) None)

gap_over : (x after : List ℕ) (p q : ℕ) → q ≡ p → p < length x → gap_by (x ++ after) q ≡ gap_by x p
gap_over x after p q e less =
    let le : p ≤ length x = omega arith in
    let some : 0 < length (drop p x) = omega (arith, length-drop p x) in
    ap (gap_by (x ++ after)) e
    ∙ ap (λ t. cond (p == 0) None (cond (begins_with backslash t) (Some (p + 1)) None)) (drop-append-le p x after le)
    ∙ ap (λ b. cond (p == 0) None (cond b (Some (p + 1)) None)) (some_over backslash (drop p x) after some)

gap_agree : (x after : List ℕ) (n : ℕ) → n < length x → Agree n (gap_len x) (gap_len (x ++ after))
gap_agree x after n less = (
  (λ e.
      let same : p + 1 ≡ n = two_tests (p == 0) (begins_with backslash (drop p x)) (p + 1) n e in
      let lt : p < length x = omega arith in
      gap_over x after p q (run_over is_blank x after lt) lt ∙ e),
  (λ e.
      let same : q + 1 ≡ n = two_tests (q == 0) (begins_with backslash (drop q (x ++ after))) (q + 1) n e in
      let lt : q < length x = omega arith in
      let one : q ≡ p = run_under is_blank x after lt in
      sym (gap_over x after p q one (omega arith)) ∙ e),
)
  where
    p : ℕ
    p = prefix_len is_blank x

    q : ℕ
    q = prefix_len is_blank (x ++ after)

-- names of controls
word_over : (word x after : List ℕ) → length word ≤ length x → begins_word word (x ++ after) ≡ begins_word word x
word_over [] x after le = refl
word_over (b ∷ word) [] after le = absurd (omega arith)
word_over (b ∷ word) (c ∷ x) after le = let less : length word ≤ length x = omega arith in ap (λ z. c == b && z) (word_over word x after less)

abbrev are_short : List (List ℕ) → Bool
are_short names = list_all (λ name. nat_le (length name) 3) names

abbrev are_long : List (List ℕ) → Bool
are_long names = list_all (λ name. nat_le 2 (length name)) names

at_most : (m n : ℕ) → nat_le m n ≡ true → m ≤ n
at_most m n e = grind arith

named_over : (names : List (List ℕ)) (x after : List ℕ) → are_short names ≡ true → 3 ≤ length x → named_len names (x ++ after) ≡ named_len names x
named_over [] x after short long = refl
named_over (name ∷ names) x after short long =
    let size : length name ≤ 3 = at_most (length name) 3 (both_left (nat_le (length name) 3) (are_short names) short) in
    let less : length name ≤ length x = omega arith in
    ap (λ b. cond b (Some (length name)) (named_len names (x ++ after))) (word_over name x after less)
    ∙ ap (λ z. cond (begins_word name x) (Some (length name)) z) (named_over names x after (both_right (nat_le (length name) 3) (are_short names) short) long)

named_one : (b : Bool) (k n : ℕ) (behind : Option ℕ) → 2 ≤ k → (behind ≡ Some n → 2 ≤ n) → cond b (Some k) behind ≡ Some n → 2 ≤ n
named_one true k n behind long rest e = let same : k ≡ n = cc in omega arith
named_one false k n behind long rest e = rest e

named_size : (names : List (List ℕ)) (text : List ℕ) (n : ℕ) → are_long names ≡ true → named_len names text ≡ Some n → 2 ≤ n
named_size [] text n long e = cc
named_size (name ∷ names) text n long e =
    named_one (begins_word name text) (length name) n (named_len names text)
    (at_most 2 (length name) (both_left (nat_le 2 (length name)) (are_long names) long))
    (named_size names text n (both_right (nat_le 2 (length name)) (are_long names) long)) e

named_agree : (x after : List ℕ) (n : ℕ) → n < length x → Agree n (named_len ascii_names x) (named_len ascii_names (x ++ after))
named_agree x after n less = (
  (λ e.
      let size : 2 ≤ n = named_size ascii_names x n refl e in
      named_over ascii_names x after refl (omega arith) ∙ e),
  (λ e.
      let size : 2 ≤ n = named_size ascii_names (x ++ after) n refl e in
      sym (named_over ascii_names x after refl (omega arith)) ∙ e),
)

-- controls
control_size : (text : List ℕ) (n : ℕ) → control_len text ≡ Some n → 2 ≡ n
control_size [] n e = cc
control_size (d ∷ text) n e = by (is_control_letter d) e
  where
    by : (b : Bool) → cond b (Some 2) None ≡ Some n → 2 ≡ n
    by true e = cc
    by false e = cc

control_agree : (x after : List ℕ) (n : ℕ) → n < suc (length x) → Agree n (control_len x) (control_len (x ++ after))
control_agree [] after n less =
    ((λ e. let size : 2 ≡ n = control_size [] n e in absurd (omega arith)), (λ e. let size : 2 ≡ n = control_size after n e in absurd (omega arith)))
control_agree (d ∷ x) after n less = agree_same n (control_len (d ∷ x)) (control_len (d ∷ x)) refl

pub escape_agree : (x after : List ℕ) (n : ℕ) → n < length x → Agree n (escape_len x) (escape_len (x ++ after))
unfolding escape_len
escape_agree [] after n less = absurd (omega arith)
escape_agree (c ∷ x) after n less =
    let whole : n < length (c ∷ x) = less in
    let one : Agree n (Some 1) (Some 1) = agree_same n (Some 1) (Some 1) refl in
    let rest : (base m : ℕ) → n ≡ suc m → Agree m (code_len base x) (code_len base (x ++ after)) = λ base m e. code_agree base x after m (omega arith) in
    let names = named_agree (c ∷ x) after n whole in
    let control : Agree n (cond (c == 94) (control_len x) (named_len ascii_names (c ∷ x))) (cond (c == 94) (control_len (x ++ after)) (named_len ascii_names (c ∷ (x ++ after)))) =
    agree_cond (c == 94) n (control_len x) (named_len ascii_names (c ∷ x)) (control_len (x ++ after)) (named_len ascii_names (c ∷ (x ++ after))) (control_agree x after n whole) names in
    let hexadecimal = agree_cond (c == 120) n (option_map (λ n. n + 1) (code_len 16 x)) (cond (c == 94) (control_len x) (named_len ascii_names (c ∷ x)))
    (option_map (λ n. n + 1) (code_len 16 (x ++ after))) (cond (c == 94) (control_len (x ++ after)) (named_len ascii_names (c ∷ (x ++ after))))
    (agree_plus n (code_len 16 x) (code_len 16 (x ++ after)) (rest 16)) control in
    let octal = agree_cond (c == 111) n (option_map (λ n. n + 1) (code_len 8 x)) (cond (c == 120) (option_map (λ n. n + 1) (code_len 16 x)) (cond (c == 94) (control_len x) (named_len ascii_names (c ∷ x))))
    (option_map (λ n. n + 1) (code_len 8 (x ++ after))) (cond (c == 120) (option_map (λ n. n + 1) (code_len 16 (x ++ after))) (cond (c == 94) (control_len (x ++ after)) (named_len ascii_names (c ∷ (x ++ after)))))
    (agree_plus n (code_len 8 x) (code_len 8 (x ++ after)) (rest 8)) hexadecimal in
    let decimal = agree_cond (is_decimal c) n (code_len 10 (c ∷ x)) (cond (c == 111) (option_map (λ n. n + 1) (code_len 8 x)) (cond (c == 120) (option_map (λ n. n + 1) (code_len 16 x)) (cond (c == 94) (control_len x) (named_len ascii_names (c ∷ x)))))
    (code_len 10 (c ∷ (x ++ after))) (cond (c == 111) (option_map (λ n. n + 1) (code_len 8 (x ++ after))) (cond (c == 120) (option_map (λ n. n + 1) (code_len 16 (x ++ after))) (cond (c == 94) (control_len (x ++ after)) (named_len ascii_names (c ∷ (x ++ after))))))
    (code_agree 10 (c ∷ x) after n whole) octal in
    agree_cond (among letter_escapes c) n (Some 1) (cond (is_decimal c) (code_len 10 (c ∷ x)) (cond (c == 111) (option_map (λ n. n + 1) (code_len 8 x)) (cond (c == 120) (option_map (λ n. n + 1) (code_len 16 x)) (cond (c == 94) (control_len x) (named_len ascii_names (c ∷ x))))))
    (Some 1) (cond (is_decimal c) (code_len 10 (c ∷ (x ++ after))) (cond (c == 111) (option_map (λ n. n + 1) (code_len 8 (x ++ after))) (cond (c == 120) (option_map (λ n. n + 1) (code_len 16 (x ++ after))) (cond (c == 94) (control_len (x ++ after)) (named_len ascii_names (c ∷ (x ++ after)))))))
    one decimal

pub string_escape_agree : (x after : List ℕ) (n : ℕ) → n < length x → Agree n (string_escape_len x) (string_escape_len (x ++ after))
string_escape_agree [] after n less = absurd (omega arith)
string_escape_agree (c ∷ x) after n less =
    agree_cond (c == 38) n (Some 1) (cond (is_blank c) (gap_len (c ∷ x)) (escape_len (c ∷ x))) (Some 1) (cond (is_blank c) (gap_len (c ∷ (x ++ after))) (escape_len (c ∷ (x ++ after))))
    (agree_same n (Some 1) (Some 1) refl)
    (agree_cond (is_blank c) n (gap_len (c ∷ x)) (escape_len (c ∷ x)) (gap_len (c ∷ (x ++ after))) (escape_len (c ∷ (x ++ after)))
    (gap_agree (c ∷ x) after n less) (escape_agree (c ∷ x) after n less))
