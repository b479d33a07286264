-- A text that is refused has no items, and is refused for one cause.
use Rattle.std.proofs.Common.{◌≡◌, ℕ, ◌+◌, ◌<◌, ◌≤◌, Bool, true, false, cond, ◌==◌, ◌⊎◌, inl, inr, List, [], ◌∷◌, ◌++◌, length, take, drop, Some, Result, Ok, Err, IfOk, IfErr, refl, sym, ap, subst, ◌∙◌, true≢false, arith, take-append-drop}
use Rattle.std.proofs.lemmas.Bool.{eqb-true}
use Rattle.std.proofs.lemmas.List.{take_all}
use Rattle.std.proofs.lemmas.Slice.Eq.{bytes_eq-Decides}
use Rattle.std.proofs.lemmas.Str.{IsUtf8-append, IsUtf8-from_is_utf8, IsUtf8-nil, utf8_valid_len-IsValidUpTo}
use Rattle.std.specs.List.{starts_with}
use Rattle.std.specs.Option.{is_some}
use Rattle.std.specs.Prelude.{nat_eq}
use Rattle.std.specs.Str.{chars, is_utf8, IsUtf8, IsValidUpTo}
use Rattle.std.specs.declared.alloc.AllocError.{AllocError}
use Rattle.hr_base.specs.Limits.{module_limit}
use lib.Utf8.{encode}
use Rattle.hr_base.specs.declared.lexeme.Class.{Class}
use Rattle.hr_base.specs.declared.lexeme.Item.{Item}
use Rattle.hr_base.specs.declared.lexeme.Items.{Items}
use Rattle.hr_rules.specs.Letters.{kind_of}
use Rattle.hr_rules.specs.Runs.{begins_with}
use Rattle.hr_rules.specs.Lexemes.{spelled_class, are_utf8, class_of, is_piece, bars, byte_order_mark, mark_len, LexesText}
use Rattle.hr_rules.specs.Lexing.{Trivia, Lexes}
use Rattle.hr_rules.specs.Lexing.Trivia.{none, more}
use Rattle.hr_rules.specs.Lexing.Lexes.{ends, goes}
use Rattle.hr_rules.specs.Stops.{StopsAt}
use Rattle.hr_rules.proofs.Apart.{piece_text, rules_keep_apart}
use Rattle.hr_rules.proofs.Reading.{one_reading_lem}
use Rattle.hr_rules.proofs.Stops.{one_stop_lem, stopped_has_none_lem}
use Rattle.hr_lexer.specs.declared.error.LexError.{LexError}
use Rattle.hr_lexer.specs.Refusals.{opens_comment, begins_wide, wide_by, Stuck, IsStop, IsCause, OrMemory, GivesItems, Refuses}
use Rattle.hr_lexer.proofs.Bytes.{both_left, class_are}

-- what has items is UTF-8
trivia_text : {trivia after : List ℕ} → Trivia is_piece trivia after → IsUtf8 trivia
trivia_text (none after) = IsUtf8-nil
trivia_text (more piece trivia after is rest) = IsUtf8-append piece trivia (piece_text piece (trivia ++ after) is) (trivia_text rest)

pub lexeme_text : (text after : List ℕ) (class : Class) → class_of text after ≡ Some class → IsUtf8 text
unfolding class_of
lexeme_text text after class e =
    let are : are_utf8 text after ≡ true = class_are (are_utf8 text after) (spelled_class (chars text) (chars after)) (ap is_some e) in
    IsUtf8-from_is_utf8 text (both_left (is_utf8 text) (is_utf8 after) are)

lexes_utf8 : {bytes : List ℕ} {items : List Item} {tail : List ℕ} → Lexes class_of is_piece bars bytes items tail → IsUtf8 bytes
lexes_utf8 (ends tail trivia) = trivia_text trivia
lexes_utf8 (goes item rest items tail trivia fits lexes) =
    IsUtf8-append item.trivia (item.lexeme.text ++ rest) (trivia_text trivia)
    (IsUtf8-append item.lexeme.text rest (lexeme_text item.lexeme.text rest item.lexeme.class fits.is) (lexes_utf8 lexes))

mark_utf8 : IsUtf8 byte_order_mark
unfolding encode
mark_utf8 = (0xFEFF ∷ [], (refl, refl))

led_utf8 : (bytes : List ℕ) (b : Bool) → starts_with nat_eq bytes byte_order_mark ≡ b → IsUtf8 (take (cond b 3 0) bytes)
led_utf8 bytes true e = subst IsUtf8 ((bytes_eq-Decides byte_order_mark (take 3 bytes)).0 e) mark_utf8
led_utf8 bytes false e = IsUtf8-nil

pub text_utf8 : (bytes : List ℕ) (items : Items) → LexesText bytes items → IsUtf8 bytes
text_utf8 bytes items lexes =
    let n : ℕ = mark_len bytes in
    let front : IsUtf8 (take n bytes) = led_utf8 bytes (starts_with nat_eq bytes byte_order_mark) refl in
    subst IsUtf8 (take-append-drop n bytes) (IsUtf8-append (take n bytes) (drop n bytes) front (lexes_utf8 lexes.1.1.0))

not_utf8 : (bytes : List ℕ) (place : ℕ) → IsValidUpTo bytes place → ¬ (IsUtf8 bytes)
not_utf8 bytes place bad valid = bad.longest (length bytes) bad.short (subst IsUtf8 (sym (take_all (length bytes) bytes (omega arith))) valid)

-- a text that is refused has no items
pub no_items : (bytes : List ℕ) (error : LexError) (items : Items) → IsStop bytes error → ¬ (LexesText bytes items)
no_items bytes LexError.TooLong items stop lexes = stop
no_items bytes (LexError.BadUtf8 place) items stop lexes = not_utf8 bytes place stop (text_utf8 bytes items lexes)
no_items bytes (LexError.OpenComment place) items stop lexes = stopped_has_none_lem bytes place stop.1 items lexes
no_items bytes (LexError.LiteralTooWide place) items stop lexes = stopped_has_none_lem bytes place stop.1 items lexes
no_items bytes (LexError.BadLexeme place) items stop lexes = stopped_has_none_lem bytes place stop.1 items lexes
no_items bytes (LexError.Memory m) items stop lexes = stop

-- the places
one_bad : (bytes : List ℕ) (place other : ℕ) → IsValidUpTo bytes place → IsValidUpTo bytes other → place ≡ other
one_bad bytes place other a b = sym (utf8_valid_len-IsValidUpTo bytes place a) ∙ utf8_valid_len-IsValidUpTo bytes other b

one_place : (bytes : List ℕ) (place other : ℕ) → StopsAt bytes place → StopsAt bytes other → place ≡ other
one_place bytes place other a b =
    let same : a.rest ≡ b.rest = one_stop_lem class_of is_piece bars rules_keep_apart (drop (mark_len bytes) bytes) a.rest b.rest a.stops b.stops in
    let long : length a.rest ≡ length b.rest = ap length same in
    let here : place + length a.rest ≡ length bytes = a.here in
    let there : other + length b.rest ≡ length bytes = b.here in
    omega arith

-- what begins there
no_digit : wide_by (kind_of 123) ≡ (λ c rest. false)
unfolding kind_of
no_digit = refl

comment_or_wide : (left : List ℕ) → opens_comment left ≡ true → begins_wide left ≡ true → ⊥
comment_or_wide [] o w = true≢false (sym o)
comment_or_wide (c ∷ rest) o w =
    let brace : c ≡ 123 = eqb-true c 123 (both_left (c == 123) (begins_with 45 rest) o) in
    true≢false (sym w ∙ ap (λ x. wide_by (kind_of x) x rest) brace ∙ ap (λ f. f 123 rest) no_digit)

-- where these characters are left, each cause by its own
abbrev Opens : List ℕ → Type 0
Opens left = opens_comment left ≡ true

abbrev Wide : List ℕ → Type 0
Wide left = begins_wide left ≡ true

abbrev Neither : List ℕ → Type 0
Neither left = (opens_comment left ≡ false) × (begins_wide left ≡ false)

module _ (bytes : List ℕ) (place other : ℕ) where
  stuck_once : (P Q : List ℕ → Type 0) → Stuck bytes place P → Stuck bytes other Q → place ≡ other
  stuck_once P Q a b = one_place bytes place other a.1 b.1

  stuck_both : (P Q : List ℕ → Type 0) → Stuck bytes place P → Stuck bytes other Q → P (chars (drop other bytes)) × Q (chars (drop other bytes))
  stuck_both P Q a b = (subst (λ n. P (chars (drop n bytes))) (stuck_once P Q a b) a.2, b.2)

  bad_or_stuck : (P : List ℕ → Type 0) → IsValidUpTo bytes place → Stuck bytes other P → ⊥
  bad_or_stuck P a b = not_utf8 bytes place a b.0

  opens_or_wide : Stuck bytes place Opens → Stuck bytes other Wide → ⊥
  opens_or_wide a b = let is = stuck_both Opens Wide a b in comment_or_wide (chars (drop other bytes)) is.0 is.1

  opens_or_neither : Stuck bytes place Opens → Stuck bytes other Neither → ⊥
  opens_or_neither a b = let is = stuck_both Opens Neither a b in true≢false (sym is.0 ∙ is.1.0)

  wide_or_neither : Stuck bytes place Wide → Stuck bytes other Neither → ⊥
  wide_or_neither a b = let is = stuck_both Wide Neither a b in true≢false (sym is.0 ∙ is.1.1)

-- a text without items is refused for one cause
pub one_stop_cause : (bytes : List ℕ) (error other : LexError) → IsStop bytes error → IsStop bytes other → error ≡ other
one_stop_cause bytes LexError.TooLong other a b = absurd a
one_stop_cause bytes (LexError.Memory m) other a b = absurd a
one_stop_cause bytes (LexError.BadUtf8 n) LexError.TooLong a b = absurd b
one_stop_cause bytes (LexError.BadUtf8 n) (LexError.BadUtf8 m) a b = ap LexError.BadUtf8 (one_bad bytes n m a b)
one_stop_cause bytes (LexError.BadUtf8 n) (LexError.OpenComment m) a b = absurd (bad_or_stuck bytes n m Opens a b)
one_stop_cause bytes (LexError.BadUtf8 n) (LexError.LiteralTooWide m) a b = absurd (bad_or_stuck bytes n m Wide a b)
one_stop_cause bytes (LexError.BadUtf8 n) (LexError.BadLexeme m) a b = absurd (bad_or_stuck bytes n m Neither a b)
one_stop_cause bytes (LexError.BadUtf8 n) (LexError.Memory m) a b = absurd b
one_stop_cause bytes (LexError.OpenComment n) LexError.TooLong a b = absurd b
one_stop_cause bytes (LexError.OpenComment n) (LexError.BadUtf8 m) a b = absurd (bad_or_stuck bytes m n Opens b a)
one_stop_cause bytes (LexError.OpenComment n) (LexError.OpenComment m) a b = ap LexError.OpenComment (stuck_once bytes n m Opens Opens a b)
one_stop_cause bytes (LexError.OpenComment n) (LexError.LiteralTooWide m) a b = absurd (opens_or_wide bytes n m a b)
one_stop_cause bytes (LexError.OpenComment n) (LexError.BadLexeme m) a b = absurd (opens_or_neither bytes n m a b)
one_stop_cause bytes (LexError.OpenComment n) (LexError.Memory m) a b = absurd b
one_stop_cause bytes (LexError.LiteralTooWide n) LexError.TooLong a b = absurd b
one_stop_cause bytes (LexError.LiteralTooWide n) (LexError.BadUtf8 m) a b = absurd (bad_or_stuck bytes m n Wide b a)
one_stop_cause bytes (LexError.LiteralTooWide n) (LexError.OpenComment m) a b = absurd (opens_or_wide bytes m n b a)
one_stop_cause bytes (LexError.LiteralTooWide n) (LexError.LiteralTooWide m) a b = ap LexError.LiteralTooWide (stuck_once bytes n m Wide Wide a b)
one_stop_cause bytes (LexError.LiteralTooWide n) (LexError.BadLexeme m) a b = absurd (wide_or_neither bytes n m a b)
one_stop_cause bytes (LexError.LiteralTooWide n) (LexError.Memory m) a b = absurd b
one_stop_cause bytes (LexError.BadLexeme n) LexError.TooLong a b = absurd b
one_stop_cause bytes (LexError.BadLexeme n) (LexError.BadUtf8 m) a b = absurd (bad_or_stuck bytes m n Neither b a)
one_stop_cause bytes (LexError.BadLexeme n) (LexError.OpenComment m) a b = absurd (opens_or_neither bytes m n b a)
one_stop_cause bytes (LexError.BadLexeme n) (LexError.LiteralTooWide m) a b = absurd (wide_or_neither bytes m n b a)
one_stop_cause bytes (LexError.BadLexeme n) (LexError.BadLexeme m) a b = ap LexError.BadLexeme (stuck_once bytes n m Neither Neither a b)
one_stop_cause bytes (LexError.BadLexeme n) (LexError.Memory m) a b = absurd b

-- the same with the bound on its length
abbrev Cause : List ℕ → LexError → Type 0
Cause bytes error = ((error ≡ LexError.TooLong) × (module_limit < length bytes)) ⊎ ((length bytes ≤ module_limit) × IsStop bytes error)

cause : (bytes : List ℕ) (error : LexError) → IsCause bytes error → Cause bytes error
cause bytes LexError.TooLong c = inl (refl, c)
cause bytes (LexError.BadUtf8 n) c = inr c
cause bytes (LexError.OpenComment n) c = inr c
cause bytes (LexError.LiteralTooWide n) c = inr c
cause bytes (LexError.BadLexeme n) c = inr c
cause bytes (LexError.Memory m) c = inr c

one_by : (bytes : List ℕ) (error other : LexError) → Cause bytes error → Cause bytes other → error ≡ other
one_by bytes error other (inl a) (inl b) = a.0 ∙ sym b.0
one_by bytes error other (inl a) (inr b) = absurd (omega (arith, a.1, b.0))
one_by bytes error other (inr a) (inl b) = absurd (omega (arith, a.0, b.1))
one_by bytes error other (inr a) (inr b) = one_stop_cause bytes error other a.1 b.1

pub one_cause : (bytes : List ℕ) (error other : LexError) → IsCause bytes error → IsCause bytes other → error ≡ other
one_cause bytes error other a b = one_by bytes error other (cause bytes error a) (cause bytes other b)

none_by : (bytes : List ℕ) (error : LexError) (items : Items) → length bytes ≤ module_limit → LexesText bytes items → Cause bytes error → ⊥
none_by bytes error items short lexes (inl a) = omega (arith, a.1)
none_by bytes error items short lexes (inr a) = no_items bytes error items a.1 lexes

-- a text with items that is not too long is not refused
pub no_cause : (bytes : List ℕ) (error : LexError) (items : Items) → length bytes ≤ module_limit → LexesText bytes items → ¬ (IsCause bytes error)
no_cause bytes error items short lexes c = none_by bytes error items short lexes (cause bytes error c)

or_memory : (P Q : LexError → Type 0) (error : LexError) → (P error → Q error) → OrMemory P error → OrMemory Q error
or_memory P Q LexError.TooLong f p = f p
or_memory P Q (LexError.BadUtf8 n) f p = f p
or_memory P Q (LexError.OpenComment n) f p = f p
or_memory P Q (LexError.LiteralTooWide n) f p = f p
or_memory P Q (LexError.BadLexeme n) f p = f p
or_memory P Q (LexError.Memory m) f p = p

pub but_memory : (P : LexError → Type 0) (error : LexError) → ((m : AllocError) → ¬ (error ≡ LexError.Memory m)) → OrMemory P error → P error
but_memory P LexError.TooLong f p = p
but_memory P (LexError.BadUtf8 n) f p = p
but_memory P (LexError.OpenComment n) f p = p
but_memory P (LexError.LiteralTooWide n) f p = p
but_memory P (LexError.BadLexeme n) f p = p
but_memory P (LexError.Memory m) f p = absurd (f m refl)

-- a call that reads right, and refuses for a cause, answers so exactly
module _ (bytes : List ℕ) where
  pub refuses : (answer : Result Items LexError) → length bytes ≤ module_limit → IfOk answer (λ items. LexesText bytes items) → IfErr answer (OrMemory (IsStop bytes))
      → (error : LexError) → IsCause bytes error → Refuses error answer
  refuses (Ok items) short read refused error c = no_cause bytes error items short read c
  refuses (Err found) short read refused error c =
      or_memory (IsStop bytes) (λ other. other ≡ error) found (λ stop. one_by bytes found error (inr (short, stop)) (cause bytes error c)) refused

  pub reads : (answer : Result Items LexError) → IfOk answer (λ items. LexesText bytes items) → IfErr answer (OrMemory (IsStop bytes))
      → (items : Items) → LexesText bytes items → GivesItems items answer
  reads (Ok found) read refused items lexes = one_reading_lem bytes found items read lexes
  reads (Err found) read refused items lexes = or_memory (IsStop bytes) (λ error. ⊥) found (λ stop. no_items bytes found items stop lexes) refused
