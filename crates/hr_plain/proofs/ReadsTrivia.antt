-- What stands between lexemes is read as before, before another lexeme too.
use Rattle.std.proofs.Common.{◌≡◌, ◌≢◌, ℕ, ◌||◌, ◌&&◌, ◌==◌, ◌⊎◌, inl, inr, Bool, true, false, cond, not, List, [], ◌∷◌, ◌++◌, Some, refl, sym, ap, subst, ◌∙◌, true≢false, arith, append_assoc}
use Rattle.std.specs.List.{list_all}
use Rattle.std.specs.Str.{chars, is_utf8, IsUtf8}
use Rattle.std.proofs.lemmas.Str.{chars-append, encodes-chars, scalars-chars, IsUtf8-append, IsUtf8-nil, is_utf8-from_IsUtf8}
use lib.Utf8.{encodes}
use Rattle.hr_base.specs.declared.lexeme.Class.{Class}
use Rattle.hr_rules.specs.declared.character.Kind.{Kind}
use Rattle.hr_rules.specs.Letters.{kind_of, is_newline}
use Rattle.hr_rules.specs.Operators.{is_dash}
use Rattle.hr_rules.specs.Comments.{goes_on, begins_line_comment, is_in_line, is_line_comment}
use Rattle.hr_rules.specs.Runs.{is_run, ends_run}
use Rattle.hr_rules.specs.Lexemes.{spelled_piece, spelled_piece_by, spelled_bars, spelled_bars_by, are_utf8, class_of, is_piece, bars}
use Rattle.hr_rules.specs.Lexing.{Trivia, Fits}
use Rattle.hr_rules.specs.Lexing.Trivia.{none, more}
use Rattle.hr_rules.proofs.Apart.{both, both_left, both_right, piece_text, piece_spelled, rules_keep_apart}
use Rattle.hr_lexer.proofs.Bytes.{none_some, piece_bytes}
use Rattle.hr_plain.specs.Form.{is_plain_trivia, is_plain_trivia_where}
use Rattle.hr_plain.proofs.ReadsAlone.{IsQuiet, Quiet}
use Rattle.hr_plain.proofs.ReadsAlone.Quiet.{something}
use Rattle.hr_plain.proofs.ReadsFit.{Spelled, spelled_in_class, bars_spelled}
use Rattle.hr_plain.proofs.ReadsNames.{linefeed_byte, space_byte, dash_byte, byte_first}

pub trivia_utf8 : {t a : List ℕ} → Trivia is_piece t a → IsUtf8 t
trivia_utf8 (none a) = IsUtf8-nil
trivia_utf8 (more piece t a is rest) = IsUtf8-append piece t (piece_text piece (t ++ a) is) (trivia_utf8 rest)

-- what is left begins as the first part does
begin_alike : (p : ℕ → Bool) (cs xs ys : List ℕ) → cs ≢ [] → ends_run p (cs ++ xs) ≡ ends_run p (cs ++ ys)
begin_alike p [] xs ys some = absurd (some refl)
begin_alike p (c ∷ cs) xs ys some = refl

chars_some : (t : List ℕ) → IsUtf8 t → t ≢ [] → chars t ≢ []
chars_some t u some e = some (sym (encodes-chars t u) ∙ ap encodes e)

pub same_begin : (p : ℕ → Bool) (t a b : List ℕ) → IsUtf8 t → t ≢ [] → ends_run p (chars (t ++ a)) ≡ ends_run p (chars (t ++ b))
same_begin p t a b u some =
    ap (ends_run p) (chars-append t a u) ∙ (begin_alike p (chars t) (chars a) (chars b) (chars_some t u some) ∙ ap (ends_run p) (sym (chars-append t b u)))

-- a piece, before another text
line_kept : (text after other : List ℕ) → is_line_comment text after ≡ true → (ends_run is_in_line after ≡ true → ends_run is_in_line other ≡ true) → is_line_comment text other ≡ true
line_kept text after other e keeps =
    let run : is_run is_in_line text after ≡ true = both_right (begins_line_comment text) (is_run is_in_line text after) e in
    both (begins_line_comment text) (is_run is_in_line text other) (both_left (begins_line_comment text) (is_run is_in_line text after) e)
    (both (list_all is_in_line text) (ends_run is_in_line other) (both_left (list_all is_in_line text) (ends_run is_in_line after) run)
    (keeps (both_right (list_all is_in_line text) (ends_run is_in_line after) run)))

piece_by : (kind : Kind) (c : ℕ) (rest after other : List ℕ) → spelled_piece_by kind c rest after ≡ true → (ends_run is_in_line after ≡ true → ends_run is_in_line other ≡ true) → spelled_piece_by kind c rest other ≡ true
piece_by Kind.Blank c rest after other e keeps = e
piece_by Kind.Newline c rest after other e keeps = e
piece_by Kind.Symbol c rest after other e keeps = line_kept (c ∷ rest) after other e keeps
piece_by Kind.Special c rest after other e keeps = e
piece_by Kind.Small c rest after other e keeps = e
piece_by Kind.Large c rest after other e keeps = e
piece_by Kind.Digit c rest after other e keeps = e
piece_by Kind.WideDigit c rest after other e keeps = e
piece_by Kind.Quote c rest after other e keeps = e
piece_by Kind.DoubleQuote c rest after other e keeps = e
piece_by Kind.Other c rest after other e keeps = e

piece_kept : (cs after other : List ℕ) → spelled_piece cs after ≡ true → (ends_run is_in_line after ≡ true → ends_run is_in_line other ≡ true) → spelled_piece cs other ≡ true
piece_kept [] after other e keeps = e
piece_kept (c ∷ rest) after other e keeps = piece_by (kind_of c) c rest after other e keeps

piece_moved : (piece after other : List ℕ) → is_piece piece after ≡ true → IsUtf8 other → (ends_run is_in_line (chars after) ≡ true → ends_run is_in_line (chars other) ≡ true) → is_piece piece other ≡ true
unfolding is_piece
piece_moved piece after other e v keeps =
    let are : are_utf8 piece other ≡ true = both (is_utf8 piece) (is_utf8 other) (is_utf8-from_IsUtf8 piece (piece_text piece after e)) (is_utf8-from_IsUtf8 other v) in
    both (are_utf8 piece other) (spelled_piece (chars piece) (chars other)) are (piece_kept (chars piece) (chars after) (chars other) (piece_spelled piece after e) keeps)

seam : (t a b : List ℕ) → IsUtf8 t → (ends_run is_in_line (chars a) ≡ true → ends_run is_in_line (chars b) ≡ true) → ends_run is_in_line (chars (t ++ a)) ≡ true → ends_run is_in_line (chars (t ++ b)) ≡ true
seam [] a b u keeps = keeps
seam (c ∷ t) a b u keeps = λ e. sym (same_begin is_in_line (c ∷ t) a b u some) ∙ e
  where
    some : (c ∷ t) ≢ []
    some e = cc

trivia_moved : {t a : List ℕ} → Trivia is_piece t a → (b : List ℕ) → IsUtf8 b → (ends_run is_in_line (chars a) ≡ true → ends_run is_in_line (chars b) ≡ true) → Trivia is_piece t b
trivia_moved (none a) b v keeps = none b
trivia_moved (more piece t a is rest) b v keeps =
    let u : IsUtf8 t = trivia_utf8 rest in
    more piece t b (piece_moved piece (t ++ a) (t ++ b) is (IsUtf8-append t b u v) (seam t a b u keeps)) (trivia_moved rest b v keeps)

-- a lexeme begins with no newline
newline_kind : (c : ℕ) → is_newline c ≡ true → kind_of c ≡ Kind.Newline
unfolding kind_of
newline_kind c e = by (c == 10) (c == 12) (c == 13) refl refl refl e
  where
    is_eq : (a b : ℕ) → (a == b) ≡ true → a ≡ b
    is_eq a b e = grind arith

    by : (x y z : Bool) → (c == 10) ≡ x → (c == 12) ≡ y → (c == 13) ≡ z → ((x || y) || z) ≡ true → kind_of c ≡ Kind.Newline
    by true y z p q r e = ap kind_of (is_eq c 10 p)
    by false true z p q r e = ap kind_of (is_eq c 12 q)
    by false false true p q r e = ap kind_of (is_eq c 13 r)
    by false false false p q r e = absurd (true≢false (sym e))

no_newline : (c : ℕ) (rest : List ℕ) → spelled_bars (c ∷ rest) ≡ false → (b : Bool) → is_newline c ≡ b → not (not b) ≡ true → ⊥
no_newline c rest free true e f = true≢false (sym (ap (λ k. spelled_bars_by k c rest) (newline_kind c e)) ∙ free)
no_newline c rest free false e f = true≢false (sym f)

no_line : (cs : List ℕ) → spelled_bars cs ≡ false → cs ≢ [] → ends_run is_in_line cs ≡ true → ⊥
no_line [] free some e = some refl
no_line (c ∷ rest) free some e = no_newline c rest free (is_newline c) refl e

pub not_empty : (class : Class) (text after : List ℕ) → class_of text after ≡ Some class → text ≢ []
not_empty class text after e empty = no_class (sym (ap (λ t. class_of t after) empty) ∙ e)
  where
    no_class : class_of [] after ≡ Some class → ⊥
    no_class e = none_some (sym (rules_keep_apart.lexeme_not_empty after) ∙ e)

-- trivia before a lexeme is trivia before any text
pub trivia_before : (class : Class) (t text rest other : List ℕ) → Trivia is_piece t (text ++ rest) → Fits class_of bars class text rest → IsUtf8 other → Trivia is_piece t other
trivia_before class t text rest other is fits v =
    let s : Spelled class text rest = spelled_in_class class text rest fits.is in
    let free : spelled_bars (chars (text ++ rest)) ≡ false = sym (bars_spelled (text ++ rest)) ∙ fits.begins in
    let some : chars (text ++ rest) ≢ [] = λ e. chars_some text s.front (not_empty class text rest fits.is) (front_empty (chars text) (chars rest) (sym (chars-append text rest s.front) ∙ e)) in
    trivia_moved is other v (λ e. absurd (no_line (chars (text ++ rest)) free some e))
  where
    front_empty : (xs ys : List ℕ) → xs ++ ys ≡ [] → xs ≡ []
    front_empty [] ys e = refl
    front_empty (x ∷ xs) ys e = cc

-- one blank
blank_spelled : (after : List ℕ) → spelled_piece (32 ∷ []) after ≡ true
unfolding kind_of
blank_spelled after = refl

pub blank_before : (other : List ℕ) → IsUtf8 other → Trivia is_piece (32 ∷ []) other
blank_before other v =
    let is : is_piece (encodes (32 ∷ [])) (encodes (chars other)) ≡ true = piece_bytes (32 ∷ []) (chars other) space_byte.scalar (scalars-chars other v) (blank_spelled (chars other)) in
    let same : is_piece (32 ∷ []) other ≡ is_piece (encodes (32 ∷ [])) (encodes (chars other)) = λ k. is_piece (sym space_byte.byte k) (sym (encodes-chars other v) k) in
    more (32 ∷ []) [] other (same ∙ is) (none other)

-- no number and no name goes on into blanks and comments of the plain form
quiet_space : IsQuiet 32
unfolding kind_of
quiet_space = record { decimal = refl; octal = refl; hexadecimal = refl; exponent = refl; dot = refl; x = refl; o = refl; name = refl }

quiet_line : IsQuiet 10
unfolding kind_of
quiet_line = record { decimal = refl; octal = refl; hexadecimal = refl; exponent = refl; dot = refl; x = refl; o = refl; name = refl }

quiet_dash : IsQuiet 45
unfolding kind_of
quiet_dash = record { decimal = refl; octal = refl; hexadecimal = refl; exponent = refl; dot = refl; x = refl; o = refl; name = refl }

pub quiet_blank : (rest : List ℕ) → Quiet (chars (32 ∷ rest))
quiet_blank rest = subst Quiet (sym (byte_first 32 rest space_byte)) (something 32 (chars rest) quiet_space refl)

quiet_newline : (rest : List ℕ) → Quiet (chars (10 ∷ rest))
quiet_newline rest = subst Quiet (sym (byte_first 10 rest linefeed_byte)) (something 10 (chars rest) quiet_line refl)

two_dashes : (cs rest : List ℕ) → begins_line_comment (45 ∷ cs) ≡ true → Quiet (45 ∷ (cs ++ rest))
two_dashes [] rest e = absurd (true≢false (sym e))
two_dashes (b ∷ cs) rest e =
    let dash : is_dash b ≡ true = both_left (is_dash b) (not (goes_on cs)) e in
    let is : b ≡ 45 = grind arith in
    subst (λ x. Quiet (45 ∷ (x ∷ (cs ++ rest)))) (sym is) (something 45 (45 ∷ (cs ++ rest)) quiet_dash refl)

dash_piece : (cs after : List ℕ) → spelled_piece (45 ∷ cs) after ≡ true → begins_line_comment (45 ∷ cs) ≡ true
unfolding kind_of
dash_piece cs after e = both_left (begins_line_comment (45 ∷ cs)) (is_run is_in_line (45 ∷ cs) after) e

quiet_comment : (piece after : List ℕ) → is_piece (45 ∷ piece) after ≡ true → Quiet (chars ((45 ∷ piece) ++ after))
quiet_comment piece after e =
    let first : chars (45 ∷ piece) ≡ 45 ∷ chars piece = byte_first 45 piece dash_byte in
    let begun : begins_line_comment (45 ∷ chars piece) ≡ true = dash_piece (chars piece) (chars after) (ap (λ l. spelled_piece l (chars after)) (sym first) ∙ piece_spelled (45 ∷ piece) after e) in
    let all : chars ((45 ∷ piece) ++ after) ≡ 45 ∷ (chars piece ++ chars after) = chars-append (45 ∷ piece) after (piece_text (45 ∷ piece) after e) ∙ ap (λ l. l ++ chars after) first in
    subst Quiet (sym all) (two_dashes (chars piece) (chars after) begun)

plain_first : (c : ℕ) (rest : List ℕ) → is_plain_trivia (c ∷ rest) ≡ true → (c ≡ 45) ⊎ ((c ≡ 32) ⊎ (c ≡ 10))
unfolding is_plain_trivia_where
plain_first c rest e = by (c == 45) (c == 32) (c == 10) refl refl refl e
  where
    is_eq : (a b : ℕ) → (a == b) ≡ true → a ≡ b
    is_eq a b e = grind arith

    by : (x y z : Bool) → (c == 45) ≡ x → (c == 32) ≡ y → (c == 10) ≡ z → cond x (is_plain_trivia_where true rest) ((y || z) && is_plain_trivia_where false rest) ≡ true → (c ≡ 45) ⊎ ((c ≡ 32) ⊎ (c ≡ 10))
    by true y z p q r e = inl (is_eq c 45 p)
    by false true z p q r e = inr (inl (is_eq c 32 q))
    by false false true p q r e = inr (inr (is_eq c 10 r))
    by false false false p q r e = absurd (true≢false (sym e))

quiet_piece : (piece t a : List ℕ) → is_piece piece (t ++ a) ≡ true → is_plain_trivia (piece ++ t) ≡ true → Quiet (chars (piece ++ (t ++ a)))
quiet_piece [] t a is plain = absurd (rules_keep_apart.piece_not_empty [] (t ++ a) is refl)
quiet_piece (c ∷ piece) t a is plain = elim (plain_first c (piece ++ t) plain) [
  | inl e ↦ subst (λ x. Quiet (chars ((x ∷ piece) ++ (t ++ a)))) (sym e) (quiet_comment piece (t ++ a) (subst (λ x. is_piece (x ∷ piece) (t ++ a) ≡ true) e is))
  | inr w ↦ elim w [
    | inl e ↦ subst (λ x. Quiet (chars (x ∷ (piece ++ (t ++ a))))) (sym e) (quiet_blank (piece ++ (t ++ a)))
    | inr e ↦ subst (λ x. Quiet (chars (x ∷ (piece ++ (t ++ a))))) (sym e) (quiet_newline (piece ++ (t ++ a)))
  ]
]

pub quiet_trivia : {t a : List ℕ} → Trivia is_piece t a → is_plain_trivia t ≡ true → t ≢ [] → Quiet (chars (t ++ a))
quiet_trivia (none a) plain some = absurd (some refl)
quiet_trivia (more piece t a is rest) plain some = subst (λ l. Quiet (chars l)) (sym (append_assoc piece t a)) (quiet_piece piece t a is plain)
