-- Names, parentheses and equals signs are read as before where what follows them begins as before.
use Rattle.std.proofs.Common.{◌≡◌, ℕ, suc, Bool, true, false, cond, not, ◌&&◌, List, [], ◌∷◌, ◌++◌, length, take, Some, None, refl, sym, ap, ◌∙◌}
use Rattle.std.specs.List.{list_all, prefix_len}
use Rattle.std.specs.Str.{chars, IsUtf8}
use Rattle.std.proofs.Math.Seq.{take-append_seam}
use Rattle.std.proofs.lemmas.Str.{chars-append, chars-encodes}
use lib.Utf8.{scalars, encodes}
use Rattle.hr_base.specs.declared.lexeme.Class.{Class}
use Rattle.hr_rules.specs.declared.character.Kind.{Kind}
use Rattle.hr_rules.specs.Letters.{kind_of, continues_name, is_symbol_kind, is_in_name, is_symbol}
use Rattle.hr_rules.specs.Names.{word_class}
use Rattle.hr_rules.specs.Operators.{is_dashes, run_class}
use Rattle.hr_rules.specs.Runs.{is_run, ends_run}
use Rattle.hr_rules.specs.Lexemes.{spelled_class, spelled_class_by, class_of, bars}
use Rattle.hr_rules.specs.Lexing.{Fits}
use Rattle.hr_rules.proofs.Apart.{both_left, both_right}
use Rattle.hr_lexer.specs.LexemeReader.{lexeme_at, lexeme_at_by}
use Rattle.hr_lexer.specs.NameReader.{word_at}
use Rattle.hr_lexer.proofs.Bytes.{none_some}
use Rattle.hr_lexer.proofs.RunsRead.{one_more, run_len}
use Rattle.hr_plain.proofs.ReadsFit.{IsTaken, Spelled, spelled_in_class, fits_read, read_fits}
use Rattle.hr_plain.proofs.ReadsKinds.{Word, word_of, Number, number_of}

word_parts : (b : Bool) (class : Class) → cond b (Some class) None ≡ Some Class.VarId → (b ≡ true) × (class ≡ Class.VarId)
word_parts true class e = (refl, cc)
word_parts false class e = absurd (none_some e)

record WordParts (w prior : List ℕ) : Type 0 where
  utf8 : IsUtf8 w
  word : Word (chars w) (chars prior)
  all : list_all is_in_name word.behind ≡ true
  stop : ends_run is_in_name (chars prior) ≡ true
  class : word_class (word.first ∷ word.behind) ≡ Class.VarId

parts_of : (w prior : List ℕ) → class_of w prior ≡ Some Class.VarId → WordParts w prior
parts_of w prior e =
    let s : Spelled Class.VarId w prior = spelled_in_class Class.VarId w prior e in
    let word : Word (chars w) (chars prior) = word_of (chars w) (chars prior) s.is in
    let parts = word_parts (is_run is_in_name word.behind (chars prior)) (word_class (word.first ∷ word.behind)) word.class in
    record {
      utf8 = s.front;
      word = word;
      all = both_left (list_all is_in_name word.behind) (ends_run is_in_name (chars prior)) parts.0;
      stop = both_right (list_all is_in_name word.behind) (ends_run is_in_name (chars prior)) parts.0;
      class = parts.1;
    }

-- no name goes on behind a variable identifier
pub word_stops : (w rest : List ℕ) → class_of w rest ≡ Some Class.VarId → ends_run is_in_name (chars rest) ≡ true
word_stops w rest e = (parts_of w rest e).stop

-- what is one anywhere is one where no name goes on
pub word_fits : (w prior other : List ℕ) → class_of w prior ≡ Some Class.VarId → IsUtf8 other → ends_run is_in_name (chars other) ≡ true → Fits class_of bars Class.VarId w other
word_fits w prior other e v stop =
    let parts : WordParts w prior = parts_of w prior e in
    let c : ℕ = parts.word.first in
    let front : List ℕ = parts.word.behind in
    let after : List ℕ = chars other in
    let len : prefix_len is_in_name (c ∷ (front ++ after)) ≡ suc (length front) =
    one_more is_in_name c (front ++ after) (ap continues_name parts.word.kind) ∙ ap suc (run_len is_in_name front after parts.all stop) in
    let at : lexeme_at (chars w ++ after) ≡ Some (word_at (c ∷ (front ++ after))) =
    ap (λ z. lexeme_at (z ++ after)) parts.word.is ∙ ap (λ k. lexeme_at_by k c (front ++ after)) parts.word.kind in
    let class : word_class (c ∷ take (length front) (front ++ after)) ≡ Class.VarId = ap (λ t. word_class (c ∷ t)) (take-append_seam front after) ∙ parts.class in
    let read : IsTaken Class.VarId (chars w) after =
    at
    ∙ (ap (λ n. Some (record { class = word_class (take n (c ∷ (front ++ after))); len = n })) len
    ∙ (ap (λ k. Some (record { class = k; len = suc (length front) })) class
    ∙ ap (λ l. Some (record { class = Class.VarId; len = length l })) (sym parts.word.is))) in
    fits_read Class.VarId w other parts.utf8 v read

-- how a text goes on where names and integers begin
pub word_begins : (x prior rest : List ℕ) → class_of x prior ≡ Some Class.VarId → (ends_run is_in_name (chars (x ++ rest)) ≡ false) × (ends_run is_symbol (chars (x ++ rest)) ≡ true)
word_begins x prior rest e =
    let parts : WordParts x prior = parts_of x prior e in
    let all : chars (x ++ rest) ≡ parts.word.first ∷ (parts.word.behind ++ chars rest) = chars-append x rest parts.utf8 ∙ ap (λ l. l ++ chars rest) parts.word.is in (
      ap (ends_run is_in_name) all ∙ ap (λ k. not (continues_name k)) parts.word.kind,
      ap (ends_run is_symbol) all ∙ ap (λ k. not (is_symbol_kind k)) parts.word.kind,
    )

pub number_begins : (x prior rest : List ℕ) → class_of x prior ≡ Some Class.Integer → ends_run is_in_name (chars (x ++ rest)) ≡ false
number_begins x prior rest e =
    let s : Spelled Class.Integer x prior = spelled_in_class Class.Integer x prior e in
    let number : Number (chars x) = number_of (chars x) (chars prior) s.is in
    ap (ends_run is_in_name) (chars-append x rest s.front ∙ ap (λ l. l ++ chars rest) number.is) ∙ ap (λ k. not (continues_name k)) number.kind

-- characters of one byte
pub record IsByte (c : ℕ) : Type 0 where
  pub scalar : scalars (c ∷ []) ≡ true
  pub byte : encodes (c ∷ []) ≡ c ∷ []

pub linefeed_byte : IsByte 10
unfolding lib.Utf8.encode
linefeed_byte = record { scalar = refl; byte = refl }

pub space_byte : IsByte 32
unfolding lib.Utf8.encode
space_byte = record { scalar = refl; byte = refl }

pub left_byte : IsByte 40
unfolding lib.Utf8.encode
left_byte = record { scalar = refl; byte = refl }

pub right_byte : IsByte 41
unfolding lib.Utf8.encode
right_byte = record { scalar = refl; byte = refl }

pub dash_byte : IsByte 45
unfolding lib.Utf8.encode
dash_byte = record { scalar = refl; byte = refl }

pub equals_byte : IsByte 61
unfolding lib.Utf8.encode
equals_byte = record { scalar = refl; byte = refl }

byte_text : (c : ℕ) → IsByte c → IsUtf8 (c ∷ [])
byte_text c is = (c ∷ [], (is.scalar, is.byte))

byte_alone : (c : ℕ) → IsByte c → chars (c ∷ []) ≡ c ∷ []
byte_alone c is = ap chars (sym is.byte) ∙ chars-encodes (c ∷ []) is.scalar

pub byte_first : (c : ℕ) (rest : List ℕ) → IsByte c → chars (c ∷ rest) ≡ c ∷ chars rest
byte_first c rest is = chars-append (c ∷ []) rest (byte_text c is) ∙ ap (λ l. l ++ chars rest) (byte_alone c is)

-- lexemes of one character
alike : (class : Class) (c : ℕ) (rest other : List ℕ) → Fits class_of bars class (c ∷ []) rest → IsUtf8 other → lexeme_at (chars (c ∷ []) ++ chars rest) ≡ lexeme_at (chars (c ∷ []) ++ chars other)
    → Fits class_of bars class (c ∷ []) other
alike class c rest other f v e = fits_read class (c ∷ []) other (spelled_in_class class (c ∷ []) rest f.is).front v (sym e ∙ read_fits class (c ∷ []) rest f)

one : (c : ℕ) (rest : List ℕ) → IsByte c → lexeme_at (chars (c ∷ []) ++ rest) ≡ lexeme_at (c ∷ rest)
one c rest is = ap (λ l. lexeme_at (l ++ rest)) (byte_alone c is)

left_at : (rest : List ℕ) → lexeme_at (40 ∷ rest) ≡ Some (record { class = Class.Special; len = 1 })
unfolding kind_of
left_at rest = refl

right_at : (rest : List ℕ) → lexeme_at (41 ∷ rest) ≡ Some (record { class = Class.Special; len = 1 })
unfolding kind_of
right_at rest = refl

pub left_fits : (class : Class) (rest other : List ℕ) → Fits class_of bars class (40 ∷ []) rest → IsUtf8 other → Fits class_of bars class (40 ∷ []) other
left_fits class rest other f v =
    alike class 40 rest other f v (one 40 (chars rest) left_byte ∙ (left_at (chars rest) ∙ (sym (left_at (chars other)) ∙ sym (one 40 (chars other) left_byte))))

pub right_fits : (class : Class) (rest other : List ℕ) → Fits class_of bars class (41 ∷ []) rest → IsUtf8 other → Fits class_of bars class (41 ∷ []) other
right_fits class rest other f v =
    alike class 41 rest other f v (one 41 (chars rest) right_byte ∙ (right_at (chars rest) ∙ (sym (right_at (chars other)) ∙ sym (one 41 (chars other) right_byte))))

take_none : (text : List ℕ) → take 0 text ≡ []
take_none [] = refl
take_none (c ∷ text) = refl

equals_symbol : is_symbol 61 ≡ true
unfolding kind_of
equals_symbol = refl

equals_kind : kind_of 61 ≡ Kind.Symbol
unfolding kind_of
equals_kind = refl

equals_at : (rest : List ℕ) → ends_run is_symbol rest ≡ true → lexeme_at (61 ∷ rest) ≡ Some (record { class = run_class (61 ∷ []); len = 1 })
equals_at rest stop =
    let len : prefix_len is_symbol (61 ∷ rest) ≡ 1 = one_more is_symbol 61 rest equals_symbol ∙ ap suc (run_len is_symbol [] rest refl stop) in
    ap (λ k. lexeme_at_by k 61 rest) equals_kind
    ∙ (ap (λ n. cond (is_dashes (take n (61 ∷ rest))) None (Some (record { class = run_class (take n (61 ∷ rest)); len = n }))) len
    ∙ ap (λ t. cond (is_dashes (61 ∷ t)) None (Some (record { class = run_class (61 ∷ t); len = 1 }))) (take_none rest))

symbol_parts : (b : Bool) (x : Class) (class : Class) → cond b (Some x) None ≡ Some class → b ≡ true
symbol_parts true x class e = refl
symbol_parts false x class e = absurd (none_some e)

equals_stops : (class : Class) (rest : List ℕ) → class_of (61 ∷ []) rest ≡ Some class → ends_run is_symbol (chars rest) ≡ true
equals_stops class rest e =
    let s : Spelled class (61 ∷ []) rest = spelled_in_class class (61 ∷ []) rest e in
    let is : spelled_class_by Kind.Symbol 61 [] (chars rest) ≡ Some class =
    sym (ap (λ l. spelled_class l (chars rest)) (byte_alone 61 equals_byte) ∙ ap (λ k. spelled_class_by k 61 [] (chars rest)) equals_kind) ∙ s.is in
    both_left (ends_run is_symbol (chars rest)) (not (is_dashes (61 ∷ []))) (symbol_parts (ends_run is_symbol (chars rest) && not (is_dashes (61 ∷ []))) (run_class (61 ∷ [])) class is)

pub equals_fits : (class : Class) (rest other : List ℕ) → Fits class_of bars class (61 ∷ []) rest → IsUtf8 other
    → (ends_run is_symbol (chars rest) ≡ true → ends_run is_symbol (chars other) ≡ true) → Fits class_of bars class (61 ∷ []) other
equals_fits class rest other f v keeps =
    let stop : ends_run is_symbol (chars rest) ≡ true = equals_stops class rest f.is in
    alike class 61 rest other f v (one 61 (chars rest) equals_byte ∙ (equals_at (chars rest) stop ∙ (sym (equals_at (chars other) (keeps stop)) ∙ sym (one 61 (chars other) equals_byte))))
