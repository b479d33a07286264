-- The class of a lexeme tells with what kind of character it begins.
use Rattle.std.proofs.Common.{◌≡◌, ℕ, Bool, true, false, cond, ◌&&◌, not, ◌==◌, nat_le, List, [], ◌∷◌, length, Option, Some, None, refl, sym, ap, ◌∙◌, true≢false}
use Rattle.hr_base.specs.declared.lexeme.Class.{Class}
use Rattle.hr_rules.specs.declared.character.Kind.{Kind}
use Rattle.hr_rules.specs.Letters.{kind_of, is_in_name, is_symbol}
use Rattle.hr_rules.specs.Runs.{is_run, ends_run, begins_with}
use Rattle.hr_rules.specs.Names.{is_reserved_word, small_class}
use Rattle.hr_rules.specs.Operators.{is_dashes, is_reserved_operator}
use Rattle.hr_rules.specs.Qualified.{qualified, name_class, conid_class}
use Rattle.hr_rules.specs.Numbers.{greatest_integer, ends_float, integer_value, integer_class, number_class}
use Rattle.hr_rules.specs.Quotes.{char_len, string_len, literal_class}
use Rattle.hr_rules.specs.Lexemes.{is_empty, spelled_class, spelled_class_by}
use Rattle.hr_lexer.proofs.Bytes.{none_some}

abbrev is_small_kind : Kind → Bool
is_small_kind Kind.Small = true
is_small_kind _ = false

abbrev is_digit_kind : Kind → Bool
is_digit_kind Kind.Digit = true
is_digit_kind _ = false

small_is : (kind : Kind) → is_small_kind kind ≡ true → kind ≡ Kind.Small
small_is Kind.Small e = refl
small_is Kind.Large e = absurd (true≢false (sym e))
small_is Kind.Symbol e = absurd (true≢false (sym e))
small_is Kind.Special e = absurd (true≢false (sym e))
small_is Kind.Digit e = absurd (true≢false (sym e))
small_is Kind.WideDigit e = absurd (true≢false (sym e))
small_is Kind.Quote e = absurd (true≢false (sym e))
small_is Kind.DoubleQuote e = absurd (true≢false (sym e))
small_is Kind.Blank e = absurd (true≢false (sym e))
small_is Kind.Newline e = absurd (true≢false (sym e))
small_is Kind.Other e = absurd (true≢false (sym e))

digit_is : (kind : Kind) → is_digit_kind kind ≡ true → kind ≡ Kind.Digit
digit_is Kind.Digit e = refl
digit_is Kind.Small e = absurd (true≢false (sym e))
digit_is Kind.Large e = absurd (true≢false (sym e))
digit_is Kind.Symbol e = absurd (true≢false (sym e))
digit_is Kind.Special e = absurd (true≢false (sym e))
digit_is Kind.WideDigit e = absurd (true≢false (sym e))
digit_is Kind.Quote e = absurd (true≢false (sym e))
digit_is Kind.DoubleQuote e = absurd (true≢false (sym e))
digit_is Kind.Blank e = absurd (true≢false (sym e))
digit_is Kind.Newline e = absurd (true≢false (sym e))
digit_is Kind.Other e = absurd (true≢false (sym e))

-- whether a lexeme of the class may begin with a character of the kind, where that is known
abbrev may_begin : Kind → Class → Bool
may_begin kind Class.VarId = is_small_kind kind
may_begin kind Class.Integer = is_digit_kind kind
may_begin kind _ = true

abbrev may_be : Kind → Option Class → Bool
may_be kind None = true
may_be kind (Some class) = may_begin kind class

word : (a b : Bool) → may_be Kind.Small (cond a (Some (cond b Class.ReservedId Class.VarId)) None) ≡ true
word true true = refl
word true false = refl
word false b = refl

of_qualified : (class : Option Class) → may_be Kind.Large (qualified class) ≡ true
of_qualified None = refl
of_qualified (Some Class.VarId) = refl
of_qualified (Some Class.ConId) = refl
of_qualified (Some Class.VarSym) = refl
of_qualified (Some Class.ConSym) = refl
of_qualified (Some Class.QVarId) = refl
of_qualified (Some Class.QConId) = refl
of_qualified (Some Class.QVarSym) = refl
of_qualified (Some Class.QConSym) = refl
of_qualified (Some Class.Integer) = refl
of_qualified (Some Class.Float) = refl
of_qualified (Some Class.Char) = refl
of_qualified (Some Class.Str) = refl
of_qualified (Some Class.ReservedId) = refl
of_qualified (Some Class.ReservedOp) = refl
of_qualified (Some Class.Special) = refl

conid_end : (b : Bool) → may_be Kind.Large (cond b (Some Class.ConId) None) ≡ true
conid_end true = refl
conid_end false = refl

conid_more : (a b : Bool) (x y : Option Class) → may_be Kind.Large x ≡ true → may_be Kind.Large y ≡ true → may_be Kind.Large (cond a x (cond b y None)) ≡ true
conid_more true b x y p q = p
conid_more false true x y p q = q
conid_more false false x y p q = refl

conid : (rest after : List ℕ) → may_be Kind.Large (conid_class rest after) ≡ true
conid [] after = conid_end (ends_run is_in_name after)
conid (c ∷ rest) after =
    conid_more (is_in_name c) (c == 46) (conid_class rest after) (qualified (name_class rest after)) (conid rest after) (of_qualified (name_class rest after))

operator : (a b c : Bool) → may_be Kind.Symbol (cond a (Some (cond b Class.ReservedOp (cond c Class.ConSym Class.VarSym))) None) ≡ true
operator true true c = refl
operator true false true = refl
operator true false false = refl
operator false b c = refl

special : (b : Bool) → may_be Kind.Special (cond b (Some Class.Special) None) ≡ true
special true = refl
special false = refl

integer : (b : Bool) → may_be Kind.Digit (cond b (Some Class.Integer) None) ≡ true
integer true = refl
integer false = refl

integer_of : (value : Option ℕ) → may_be Kind.Digit (integer_class value) ≡ true
integer_of None = refl
integer_of (Some n) = integer (nat_le n greatest_integer)

number : (b : Bool) (x : Option Class) → may_be Kind.Digit x ≡ true → may_be Kind.Digit (cond b (Some Class.Float) x) ≡ true
number true x e = refl
number false x e = e

char_end : (b : Bool) → may_be Kind.Quote (cond b (Some Class.Char) None) ≡ true
char_end true = refl
char_end false = refl

char : (len : Option ℕ) (rest : List ℕ) → may_be Kind.Quote (literal_class Class.Char len rest) ≡ true
char None rest = refl
char (Some n) rest = char_end (n == length rest)

string_end : (b : Bool) → may_be Kind.DoubleQuote (cond b (Some Class.Str) None) ≡ true
string_end true = refl
string_end false = refl

string : (len : Option ℕ) (rest : List ℕ) → may_be Kind.DoubleQuote (literal_class Class.Str len rest) ≡ true
string None rest = refl
string (Some n) rest = string_end (n == length rest)

told : (kind : Kind) (c : ℕ) (rest after : List ℕ) → may_be kind (spelled_class_by kind c rest after) ≡ true
told Kind.Small c rest after = word (is_run is_in_name rest after) (is_reserved_word (c ∷ rest))
told Kind.Large c rest after = conid rest after
told Kind.Symbol c rest after = operator (is_run is_symbol rest after && not (is_dashes (c ∷ rest))) (is_reserved_operator (c ∷ rest)) (begins_with 58 (c ∷ rest))
told Kind.Special c rest after = special (is_empty rest)
told Kind.Digit c rest after = number (ends_float rest) (integer_class (integer_value c rest)) (integer_of (integer_value c rest))
told Kind.Quote c rest after = char (char_len rest) rest
told Kind.DoubleQuote c rest after = string (string_len rest) rest
told Kind.WideDigit c rest after = refl
told Kind.Blank c rest after = refl
told Kind.Newline c rest after = refl
told Kind.Other c rest after = refl

-- the characters of a variable identifier
pub record Word (cs after : List ℕ) : Type 0 where
  pub first : ℕ
  pub behind : List ℕ
  pub is : cs ≡ first ∷ behind
  pub kind : kind_of first ≡ Kind.Small
  pub class : small_class first behind after ≡ Some Class.VarId

pub word_of : (cs after : List ℕ) → spelled_class cs after ≡ Some Class.VarId → Word cs after
word_of [] after e = absurd (none_some e)
word_of (c ∷ rest) after e =
    let kind : kind_of c ≡ Kind.Small = small_is (kind_of c) (sym (ap (may_be (kind_of c)) e) ∙ told (kind_of c) c rest after) in
    record {
      first = c;
      behind = rest;
      is = refl;
      kind = kind;
      class = ap (λ k. spelled_class_by k c rest after) (sym kind) ∙ e;
    }

-- and of an integer
pub record Number (cs : List ℕ) : Type 0 where
  pub first : ℕ
  pub behind : List ℕ
  pub is : cs ≡ first ∷ behind
  pub kind : kind_of first ≡ Kind.Digit
  pub class : number_class first behind ≡ Some Class.Integer

pub number_of : (cs after : List ℕ) → spelled_class cs after ≡ Some Class.Integer → Number cs
number_of [] after e = absurd (none_some e)
number_of (c ∷ rest) after e =
    let kind : kind_of c ≡ Kind.Digit = digit_is (kind_of c) (sym (ap (may_be (kind_of c)) e) ∙ told (kind_of c) c rest after) in
    record {
      first = c;
      behind = rest;
      is = refl;
      kind = kind;
      class = ap (λ k. spelled_class_by k c rest after) (sym kind) ∙ e;
    }
