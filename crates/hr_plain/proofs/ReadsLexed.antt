-- Items that lex the text that they join to, and the lexemes of the plain form.
use Rattle.std.proofs.Common.{◌≡◌, ◌≢◌, ℕ, ◌==◌, Bool, true, false, cond, List, [], ◌∷◌, ◌++◌, take, drop, Some, refl, sym, ap, subst, ◌∙◌, true≢false, append-nil, take-append-drop}
use Rattle.std.specs.Prelude.{nat_eq}
use Rattle.std.specs.List.{AllByRecursion, starts_with}
use Rattle.std.specs.Str.{chars, IsUtf8}
use Rattle.std.proofs.lemmas.Slice.Eq.{bytes_eq-Decides}
use Rattle.std.proofs.lemmas.Str.{chars-append, chars-encodes, chars-nil, IsUtf8-append}
use lib.Utf8.{encodes}
use Rattle.ucd_category.proofs.Computing.{ucd_category}
use Rattle.hr_base.specs.declared.lexeme.Class.{Class}
use Rattle.hr_base.specs.declared.lexeme.Item.{Item}
use Rattle.hr_base.specs.declared.lexeme.Items.{Items}
use Rattle.hr_rules.specs.declared.character.Kind.{Kind}
use Rattle.hr_rules.specs.Letters.{kind_of, is_in_name}
use Rattle.hr_rules.specs.Runs.{ends_run}
use Rattle.hr_rules.specs.Lexemes.{class_of, is_piece, bars, byte_order_mark, mark_len, led_by, LexesText}
use Rattle.hr_rules.specs.Lexing.{Trivia, Fits, Lexes, joined}
use Rattle.hr_rules.specs.Lexing.Lexes.{ends, goes}
use Rattle.hr_rules.proofs.Lexing.{lexings_join_lem}
use Rattle.hr_plain.specs.Form.{is_plain_trivia, is_plain_trivia_where}
use Rattle.hr_plain.proofs.ReadsAlone.{IsQuiet, Quiet}
use Rattle.hr_plain.proofs.ReadsAlone.Quiet.{nothing, something}
use Rattle.hr_plain.proofs.ReadsFit.{Spelled, spelled_in_class}
use Rattle.hr_plain.proofs.ReadsKinds.{Word, word_of, Number, number_of}
use Rattle.hr_plain.proofs.ReadsNames.{word_begins, number_begins, byte_first, left_byte, right_byte, equals_byte}
use Rattle.hr_plain.proofs.ReadsTrivia.{trivia_utf8, quiet_trivia}

-- ---- the lexemes of the plain form
pub data IsPlainLexeme (item : Item) : Type 0 where
  variable : item.lexeme.class ≡ Class.VarId → IsPlainLexeme item
  integer : item.lexeme.class ≡ Class.Integer → IsPlainLexeme item
  left : item.lexeme.text ≡ 40 ∷ [] → IsPlainLexeme item
  right : item.lexeme.text ≡ 41 ∷ [] → IsPlainLexeme item
  equals : item.lexeme.text ≡ 61 ∷ [] → IsPlainLexeme item

pub record IsPlainItem (item : Item) : Type 0 where
  pub lexeme : IsPlainLexeme item
  pub trivia : is_plain_trivia item.trivia ≡ true

abbrev pub ArePlain : List Item → Type 0
ArePlain items = AllByRecursion IsPlainItem items

-- ---- items that lex the text that they join to
abbrev pub Lexed : List Item → List ℕ → Type 0
Lexed [] tail = Trivia is_piece tail []
Lexed (item ∷ items) tail =
    Trivia is_piece item.trivia (item.lexeme.text ++ joined items tail)
    × (Fits class_of bars item.lexeme.class item.lexeme.text (joined items tail) × Lexed items tail)

pub lexed : {bytes : List ℕ} {items : List Item} {tail : List ℕ} → Lexes class_of is_piece bars bytes items tail → Lexed items tail
lexed (ends tail t) = t
lexed (goes item rest items tail t fits lexes) =
    let same : rest ≡ joined items tail = lexings_join_lem class_of is_piece bars rest items tail lexes in (
      subst (λ x. Trivia is_piece item.trivia (item.lexeme.text ++ x)) same t,
      (
        subst (λ x. Fits class_of bars item.lexeme.class item.lexeme.text x) same fits,
        lexed lexes,
      ),
    )

pub lexes : (items : List Item) (tail : List ℕ) → Lexed items tail → Lexes class_of is_piece bars (joined items tail) items tail
lexes [] tail l = ends tail l
lexes (item ∷ items) tail l = goes item (joined items tail) items tail l.0 l.1.0 (lexes items tail l.1.1)

pub lexed_utf8 : (items : List Item) (tail : List ℕ) → Lexed items tail → IsUtf8 (joined items tail)
lexed_utf8 [] tail l = trivia_utf8 l
lexed_utf8 (item ∷ items) tail l =
    let behind : List ℕ = joined items tail in
    IsUtf8-append item.trivia (item.lexeme.text ++ behind) (trivia_utf8 l.0)
    (IsUtf8-append item.lexeme.text behind (spelled_in_class item.lexeme.class item.lexeme.text behind l.1.0.is).front (lexed_utf8 items tail l.1.1))

-- ---- where no name goes on into items, no number does
quiet_left_mark : IsQuiet 40
unfolding kind_of
quiet_left_mark = record { decimal = refl; octal = refl; hexadecimal = refl; exponent = refl; dot = refl; x = refl; o = refl; name = refl }

quiet_right_mark : IsQuiet 41
unfolding kind_of
quiet_right_mark = record { decimal = refl; octal = refl; hexadecimal = refl; exponent = refl; dot = refl; x = refl; o = refl; name = refl }

quiet_equals_mark : IsQuiet 61
unfolding kind_of
quiet_equals_mark = record { decimal = refl; octal = refl; hexadecimal = refl; exponent = refl; dot = refl; x = refl; o = refl; name = refl }

pub quiet_left : (x rest : List ℕ) → x ≡ 40 ∷ [] → Quiet (chars (x ++ rest))
quiet_left x rest e = subst (λ y. Quiet (chars (y ++ rest))) (sym e) (subst Quiet (sym (byte_first 40 rest left_byte)) (something 40 (chars rest) quiet_left_mark refl))

pub quiet_right : (x rest : List ℕ) → x ≡ 41 ∷ [] → Quiet (chars (x ++ rest))
quiet_right x rest e = subst (λ y. Quiet (chars (y ++ rest))) (sym e) (subst Quiet (sym (byte_first 41 rest right_byte)) (something 41 (chars rest) quiet_right_mark refl))

pub quiet_equals : (x rest : List ℕ) → x ≡ 61 ∷ [] → Quiet (chars (x ++ rest))
quiet_equals x rest e = subst (λ y. Quiet (chars (y ++ rest))) (sym e) (subst Quiet (sym (byte_first 61 rest equals_byte)) (something 61 (chars rest) quiet_equals_mark refl))

class_is : {class other : Class} (x rest : List ℕ) → Fits class_of bars class x rest → class ≡ other → class_of x rest ≡ Some other
class_is x rest fits e = fits.is ∙ ap Some e

quiet_ahead : (t : List ℕ) (item : Item) (rest : List ℕ) → Trivia is_piece t (item.lexeme.text ++ rest) → is_plain_trivia t ≡ true → IsPlainLexeme item
    → Fits class_of bars item.lexeme.class item.lexeme.text rest → ends_run is_in_name (chars (t ++ (item.lexeme.text ++ rest))) ≡ true → Quiet (chars (t ++ (item.lexeme.text ++ rest)))
quiet_ahead (c ∷ t) item rest is plain lexeme fits stop = quiet_trivia is plain some
  where
    some : (c ∷ t) ≢ []
    some e = cc
quiet_ahead [] item rest is plain (variable e) fits stop =
    absurd (true≢false (sym stop ∙ (word_begins item.lexeme.text rest rest (class_is item.lexeme.text rest fits e)).0))
quiet_ahead [] item rest is plain (integer e) fits stop = absurd (true≢false (sym stop ∙ number_begins item.lexeme.text rest rest (class_is item.lexeme.text rest fits e)))
quiet_ahead [] item rest is plain (left e) fits stop = quiet_left item.lexeme.text rest e
quiet_ahead [] item rest is plain (right e) fits stop = quiet_right item.lexeme.text rest e
quiet_ahead [] item rest is plain (equals e) fits stop = quiet_equals item.lexeme.text rest e

quiet_end : (tail : List ℕ) → Trivia is_piece tail [] → is_plain_trivia tail ≡ true → Quiet (chars tail)
quiet_end [] is plain = subst Quiet (sym chars-nil) nothing
quiet_end (c ∷ tail) is plain = subst (λ l. Quiet (chars l)) (append-nil (c ∷ tail)) (quiet_trivia is plain some)
  where
    some : (c ∷ tail) ≢ []
    some e = cc

pub ahead : (items : List Item) (tail : List ℕ) → Lexed items tail → ArePlain items → is_plain_trivia tail ≡ true → ends_run is_in_name (chars (joined items tail)) ≡ true → Quiet (chars (joined items tail))
ahead [] tail l p plain stop = quiet_end tail l plain
ahead (item ∷ items) tail l p plain stop = quiet_ahead item.trivia item (joined items tail) l.0 p.0.trivia p.0.lexeme l.1.0 stop

-- ---- no byte order mark begins them
mark_kind : kind_of 0xFEFF ≡ Kind.Other
unfolding kind_of ucd_category
mark_kind = refl

mark_bytes : encodes (0xFEFF ∷ []) ≡ byte_order_mark
unfolding lib.Utf8.encode
mark_bytes = refl

mark_text : IsUtf8 byte_order_mark
mark_text = (0xFEFF ∷ [], (refl, mark_bytes))

mark_first : (rest : List ℕ) → chars (byte_order_mark ++ rest) ≡ 0xFEFF ∷ chars rest
mark_first rest = chars-append byte_order_mark rest mark_text ∙ ap (λ l. l ++ chars rest) (ap chars (sym mark_bytes) ∙ chars-encodes (0xFEFF ∷ []) refl)

front_is : (bytes : List ℕ) → starts_with nat_eq bytes byte_order_mark ≡ true → byte_order_mark ≡ take 3 bytes
front_is bytes e = (bytes_eq-Decides byte_order_mark (take 3 bytes)).0 e

begins_mark : (bytes : List ℕ) → starts_with nat_eq bytes byte_order_mark ≡ true → bytes ≡ byte_order_mark ++ drop 3 bytes
begins_mark bytes e = sym (take-append-drop 3 bytes) ∙ ap (λ x. x ++ drop 3 bytes) (sym (front_is bytes e))

not_plain : (text : List ℕ) → is_plain_trivia (byte_order_mark ++ text) ≡ true → ⊥
unfolding is_plain_trivia_where
not_plain text e = true≢false (sym e)

abbrev is_other : Kind → Bool
is_other Kind.Other = true
is_other _ = false

heads : {a b : ℕ} {xs ys : List ℕ} → a ∷ xs ≡ b ∷ ys → a ≡ b
heads e = cc

no_mark_byte : (c : ℕ) (x rest other : List ℕ) → x ≡ c ∷ [] → (c == 0xEF) ≡ false → x ++ rest ≡ byte_order_mark ++ other → ⊥
no_mark_byte c x rest other e f same =
    let first : c ≡ 0xEF = heads (sym (ap (λ y. y ++ rest) e) ∙ same) in
    true≢false (sym (ap (λ k. k == 0xEF) first) ∙ f)

no_mark_kind : (c : ℕ) (kind : Kind) (behind rest other x : List ℕ) → IsUtf8 x → chars x ≡ c ∷ behind → kind_of c ≡ kind → is_other kind ≡ false → x ++ rest ≡ byte_order_mark ++ other → ⊥
no_mark_kind c kind behind rest other x u is k f same =
    let all : c ∷ (behind ++ chars rest) ≡ 0xFEFF ∷ chars other = sym (chars-append x rest u ∙ ap (λ l. l ++ chars rest) is) ∙ (ap chars same ∙ mark_first other) in
    let first : c ≡ 0xFEFF = heads all in
    true≢false (sym (ap is_other (ap kind_of first ∙ mark_kind)) ∙ (ap is_other k ∙ f))

not_mark_first : (c : ℕ) (t : List ℕ) → is_plain_trivia (c ∷ t) ≡ true → c ≡ 0xEF → ⊥
unfolding is_plain_trivia_where
not_mark_first c t plain e = true≢false (sym (subst (λ x. is_plain_trivia (x ∷ t) ≡ true) e plain))

no_mark_ahead : (t : List ℕ) (item : Item) (rest other : List ℕ) → is_plain_trivia t ≡ true → IsPlainLexeme item
    → Fits class_of bars item.lexeme.class item.lexeme.text rest → t ++ (item.lexeme.text ++ rest) ≡ byte_order_mark ++ other → ⊥
no_mark_ahead (c ∷ t) item rest other plain lexeme fits same = not_mark_first c t plain (heads same)
no_mark_ahead [] item rest other plain (variable e) fits same =
    let s : Spelled Class.VarId item.lexeme.text rest = spelled_in_class Class.VarId item.lexeme.text rest (class_is item.lexeme.text rest fits e) in
    let word : Word (chars item.lexeme.text) (chars rest) = word_of (chars item.lexeme.text) (chars rest) s.is in
    no_mark_kind word.first Kind.Small word.behind rest other item.lexeme.text s.front word.is word.kind refl same
no_mark_ahead [] item rest other plain (integer e) fits same =
    let s : Spelled Class.Integer item.lexeme.text rest = spelled_in_class Class.Integer item.lexeme.text rest (class_is item.lexeme.text rest fits e) in
    let number : Number (chars item.lexeme.text) = number_of (chars item.lexeme.text) (chars rest) s.is in
    no_mark_kind number.first Kind.Digit number.behind rest other item.lexeme.text s.front number.is number.kind refl same
no_mark_ahead [] item rest other plain (left e) fits same = no_mark_byte 40 item.lexeme.text rest other e refl same
no_mark_ahead [] item rest other plain (right e) fits same = no_mark_byte 41 item.lexeme.text rest other e refl same
no_mark_ahead [] item rest other plain (equals e) fits same = no_mark_byte 61 item.lexeme.text rest other e refl same

no_mark : (items : List Item) (tail other : List ℕ) → Lexed items tail → ArePlain items → is_plain_trivia tail ≡ true → joined items tail ≡ byte_order_mark ++ other → ⊥
no_mark [] tail other l p plain same = not_plain other (ap is_plain_trivia (sym same) ∙ plain)
no_mark (item ∷ items) tail other l p plain same = no_mark_ahead item.trivia item (joined items tail) other p.0.trivia p.0.lexeme l.1.0 same

pub unmarked : (items : List Item) (tail : List ℕ) → Lexed items tail → ArePlain items → is_plain_trivia tail ≡ true → mark_len (joined items tail) ≡ 0
unmarked items tail l p plain = by (starts_with nat_eq (joined items tail) byte_order_mark) refl
  where
    by : (b : Bool) → starts_with nat_eq (joined items tail) byte_order_mark ≡ b → ◌≡◌ {A = ℕ} (cond b 3 0) 0
    by false e = refl
    by true e = absurd (no_mark items tail (drop 3 (joined items tail)) l p plain (begins_mark (joined items tail) e))

-- ---- what lexes a text of the plain form
take_none : (text : List ℕ) → take 0 text ≡ []
take_none [] = refl
take_none (c ∷ text) = refl

pub led_by_nothing : (list : List Item) (tail : List ℕ) → led_by [] list tail ≡ record { list = list; tail = tail }
led_by_nothing [] tail = refl
led_by_nothing (item ∷ list) tail = refl

led_by_mark : (items : List Item) (tail : List ℕ) (list : List Item) (behind : List ℕ) → ArePlain items → is_plain_trivia tail ≡ true → record { list = items; tail = tail } ≡ led_by byte_order_mark list behind → ⊥
led_by_mark items tail [] behind p plain e = not_plain behind (sym (ap (λ (x : Items). is_plain_trivia x.tail) e) ∙ plain)
led_by_mark items tail (item ∷ list) behind p plain e =
    let them : ArePlain (record { trivia = byte_order_mark ++ item.trivia; lexeme = item.lexeme } ∷ list) = subst ArePlain (ap (λ (x : Items). x.list) e) p in
    not_plain item.trivia them.0.trivia

pub lexed_text : (bytes : List ℕ) (items : List Item) (tail : List ℕ) → ArePlain items → is_plain_trivia tail ≡ true → LexesText bytes (record { list = items; tail = tail }) → Lexed items tail
lexed_text bytes items tail p plain text = by (starts_with nat_eq bytes byte_order_mark) refl text.1.1.1
  where
    by : (b : Bool) → starts_with nat_eq bytes byte_order_mark ≡ b → record { list = items; tail = tail } ≡ led_by (take (cond b 3 0) bytes) text.0 text.1.0 → Lexed items tail
    by true e same = absurd (led_by_mark items tail text.0 text.1.0 p plain (same ∙ ap (λ mark. led_by mark text.0 text.1.0) (sym (front_is bytes e))))
    by false e same =
        let plainly : record { list = items; tail = tail } ≡ record { list = text.0; tail = text.1.0 } =
        same ∙ (ap (λ mark. led_by mark text.0 text.1.0) (take_none bytes) ∙ led_by_nothing text.0 text.1.0) in
        subst (λ (x : Items). Lexed x.list x.tail) (sym plainly) (lexed text.1.1.0)
