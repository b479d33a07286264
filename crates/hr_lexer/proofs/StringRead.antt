-- The loop that looks for the end of a string.
use Rattle.std.proofs.Common.{◌≡◌, ◌<◌, ◌≤◌, ℕ, zero, suc, ◌+◌, ◌-◌, List, [], ◌∷◌, length, drop, Option, Some, None, refl, sym, ap, subst, ◌∙◌, arith, length-drop}
use Rattle.std.specs.Option.{option_map}
use Rattle.hr_rules.specs.Quotes.{string_len_past, string_len, string_escape_len, behind_escape}
use Rattle.hr_lexer.proofs.ClosedRead.{read}

more_zero : (x : Option ℕ) → x ≡ option_map (λ k. k + 0) x
more_zero None = refl
more_zero (Some k) = let same : k ≡ k + 0 = omega arith in ap Some same

more_suc : (n : ℕ) (x : Option ℕ) → option_map suc (option_map (λ k. k + n) x) ≡ option_map (λ k. k + suc n) x
more_suc n None = refl
more_suc n (Some k) = let same : suc (k + n) ≡ k + suc n = omega arith in ap Some same

-- the characters of an escape are passed over
pub past_drop : (n : ℕ) (rest : List ℕ) → n ≤ length rest → string_len_past n rest ≡ option_map (λ k. k + n) (string_len (drop n rest))
past_drop zero rest within = more_zero (string_len rest)
past_drop (suc n) [] within = absurd (omega arith)
past_drop (suc n) (c ∷ rest) within =
    let less : n ≤ length rest = omega arith in
    ap (option_map suc) (past_drop n rest less) ∙ more_suc n (string_len (drop n rest))

-- and no string ends where there are too few
pub past_end : (n : ℕ) (rest : List ℕ) → length rest < n → string_len_past n rest ≡ None
past_end zero rest short = absurd (omega arith)
past_end (suc n) [] short = refl
past_end (suc n) (c ∷ rest) short = let less : length rest < n = omega arith in ap (option_map suc) (past_end n rest less)

escaped_is : (tail : List ℕ) (n : ℕ) → string_escape_len tail ≡ Some n → string_len (92 ∷ tail) ≡ option_map suc (string_len_past n tail)
escaped_is tail n is = ap (behind_escape (λ n. string_len_past n tail)) is

-- what is left behind an escape, more by what was read
read_more : (all left n : ℕ) (x : Option ℕ) → suc left ≤ all → n ≤ left
    → option_map (λ k. k + (all - (left - n))) x ≡ option_map (λ k. k + (all - suc left)) (option_map suc (option_map (λ k. k + n) x))
read_more all left n None p q = refl
read_more all left n (Some k) p q = let same : k + (all - (left - n)) ≡ suc (k + n) + (all - suc left) = omega arith in ap Some same

-- where the loop is
pub record StringAt (text rest : List ℕ) : Type 0 where
  pub left : length rest ≤ length text
  pub same : read text rest (string_len rest) ≡ string_len text

escaped_at : (text tail : List ℕ) (n : ℕ) → StringAt text (92 ∷ tail) → string_escape_len tail ≡ Some n → n ≤ length tail → StringAt text (drop n tail)
escaped_at text tail n at is within =
    let left : length (92 ∷ tail) ≤ length text = at.left in
    let less : length (drop n tail) ≤ length text = omega (arith, length-drop n tail) in
    record {
      left = less;
      same = ap (λ l. option_map (λ k. k + (length text - l)) (string_len (drop n tail))) (length-drop n tail)
          ∙ read_more (length text) (length tail) n (string_len (drop n tail)) left within
          ∙ ap (λ x. read text (92 ∷ tail) (option_map suc x)) (sym (past_drop n tail within))
          ∙ ap (read text (92 ∷ tail)) (sym (escaped_is tail n is)) ∙ at.same;
    }

-- the steps of the loop at a backslash, where its text is known by an equation
pub escaped : (text rest tail behind : List ℕ) (n : ℕ) → StringAt text rest → rest ≡ 92 ∷ tail → string_escape_len tail ≡ Some n → n ≤ length tail → behind ≡ drop n tail → StringAt text behind
escaped text rest tail behind n at whole is within same =
    subst (StringAt text) (sym same) (escaped_at text tail n (subst (StringAt text) whole at) is within)

pub unended : (text rest tail : List ℕ) (n : ℕ) → StringAt text rest → rest ≡ 92 ∷ tail → string_escape_len tail ≡ Some n → length tail < n → None ≡ string_len text
unended text rest tail n at whole is short =
    let here : StringAt text (92 ∷ tail) = subst (StringAt text) whole at in
    ap (λ x. read text (92 ∷ tail) (option_map suc x)) (sym (past_end n tail short)) ∙ ap (read text (92 ∷ tail)) (sym (escaped_is tail n is)) ∙ here.same
