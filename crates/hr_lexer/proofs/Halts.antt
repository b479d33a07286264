-- Why nothing fits where no lexeme is read.
use Rattle.std.proofs.Common.{◌≡◌, ℕ, ◌+◌, ◌*◌, ◌≤◌, Bool, true, false, cond, List, [], ◌∷◌, length, Some, None, refl, sym, ap, subst, ◌∙◌, true≢false, arith}
use Rattle.std.proofs.lemmas.Bool.Decides.{nat_tests}
use Rattle.std.specs.Prelude.{nat_le}
use Rattle.std.specs.Option.{IsSome}
use Rattle.std.specs.Char.{digit_value}
use Rattle.std.proofs.lemmas.Str.{chars-encodes}
use lib.Utf8.{scalars, encodes}
use Rattle.hr_base.specs.declared.lexeme.Class.{Class}
use Rattle.hr_rules.specs.declared.character.Kind.{Kind}
use Rattle.hr_rules.specs.Letters.{kind_of}
use Rattle.hr_rules.specs.Comments.{opens}
use Rattle.hr_rules.specs.Numbers.{greatest_integer, is_too_wide}
use Rattle.hr_rules.specs.Lexemes.{spelled_class_by, spelled_bars_by, class_of, is_piece, bars}
use Rattle.hr_rules.specs.Stops.{Stops}
use Rattle.hr_lexer.specs.declared.error.LexError.{LexError}
use Rattle.hr_lexer.specs.LexemeReader.{lexeme_at}
use Rattle.hr_lexer.specs.Refusals.{opens_comment, begins_wide, wide_by, cause_by, cause_of, Halts, IsHalt}
use Rattle.hr_lexer.proofs.Statements.{LexemeLongest}
use Rattle.hr_lexer.proofs.Bytes.{none_some}

-- one digit is no integer that is too great
digit_small : (c : ℕ) → digit_value c ≤ 36
digit_small c = grind (arith, nat_tests)

digit_fits : (c : ℕ) → nat_le (0 * 10 + digit_value c) greatest_integer ≡ true
digit_fits c = let small : digit_value c ≤ 36 = digit_small c in grind (arith, nat_tests)

one_digit_by : (b : Bool) → b ≡ true → IsSome (cond b (Some Class.Integer) None)
one_digit_by true e = refl
one_digit_by false e = absurd (true≢false (sym e))

one_digit : (c : ℕ) (after : List ℕ) → IsSome (spelled_class_by Kind.Digit c [] after)
one_digit c after = one_digit_by (nat_le (0 * 10 + digit_value c) greatest_integer) (digit_fits c)

-- where a digit stands and nothing is read, an integer is too great
wide : LexemeLongest → (c : ℕ) (cs : List ℕ) → kind_of c ≡ Kind.Digit → lexeme_at (c ∷ cs) ≡ None → (b : Bool) → is_too_wide c cs ≡ b → b ≡ true
wide longest c cs k e true w = refl
wide longest c cs k e false w =
    let free : spelled_bars_by (kind_of c) c cs ≡ false = ap (λ x. spelled_bars_by x c cs) k ∙ w in
    let some : IsSome (spelled_class_by (kind_of c) c [] cs) = subst (λ x. IsSome (spelled_class_by x c [] cs)) (sym k) (one_digit c cs) in
    let found = longest (c ∷ []) cs free some in
    absurd (none_some (sym e ∙ found.1))

module _ (longest : LexemeLongest) (len : ℕ) (bytes : List ℕ) (c : ℕ) (cs : List ℕ) (place : ℕ) (here : place + length (encodes (c ∷ cs)) ≡ len) (s : scalars (c ∷ cs) ≡ true)
    (stops : Stops class_of is_piece bars bytes (encodes (c ∷ cs))) (none : lexeme_at (c ∷ cs) ≡ None) where
  it : (Left : List ℕ → Type 0) → Left (c ∷ cs) → Halts len bytes place Left
  it Left left = (encodes (c ∷ cs), here, stops, subst Left (sym (chars-encodes (c ∷ cs) s)) left)

  plain : (kind : Kind) → kind_of c ≡ kind → opens c cs ≡ false → wide_by kind c cs ≡ false → IsHalt len bytes (LexError.BadLexeme place)
  plain kind k o w = it (λ left. (opens_comment left ≡ false) × (begins_wide left ≡ false)) (o, ap (λ x. wide_by x c cs) k ∙ w)

  by_kind : (kind : Kind) → kind_of c ≡ kind → opens c cs ≡ false → IsHalt len bytes (cause_by kind place)
  by_kind Kind.Digit k o = it (λ left. begins_wide left ≡ true) (ap (λ x. wide_by x c cs) k ∙ wide longest c cs k none (is_too_wide c cs) refl)
  by_kind Kind.Small k o = plain Kind.Small k o refl
  by_kind Kind.Large k o = plain Kind.Large k o refl
  by_kind Kind.Symbol k o = plain Kind.Symbol k o refl
  by_kind Kind.Special k o = plain Kind.Special k o refl
  by_kind Kind.Quote k o = plain Kind.Quote k o refl
  by_kind Kind.DoubleQuote k o = plain Kind.DoubleQuote k o refl
  by_kind Kind.Blank k o = plain Kind.Blank k o refl
  by_kind Kind.Newline k o = plain Kind.Newline k o refl
  by_kind Kind.WideDigit k o = plain Kind.WideDigit k o refl
  by_kind Kind.Other k o = plain Kind.Other k o refl

  by_mark : (b : Bool) → opens c cs ≡ b → IsHalt len bytes (cond b (LexError.OpenComment place) (cause_by (kind_of c) place))
  by_mark true o = it (λ left. opens_comment left ≡ true) o
  by_mark false o = by_kind (kind_of c) refl o

  pub halts : IsHalt len bytes (cause_of (c ∷ cs) place)
  halts = by_mark (opens c cs) refl
