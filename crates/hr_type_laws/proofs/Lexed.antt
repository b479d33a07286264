-- Pieces whose lexemes don't touch where they may not are lexed as their lexemes.
use Rattle.std.proofs.Common.{◌≡◌, ◌⊎◌, inl, inr, ℕ, Bool, true, false, cond, ◌||◌, List, [], ◌∷◌, ◌++◌, take, drop, None, refl, sym, ap, subst, ◌∙◌}
use Rattle.std.specs.List.{AllByRecursion as Each, starts_with}
use Rattle.std.specs.Prelude.{nat_eq}
use Rattle.std.specs.Str.{chars, is_utf8, IsUtf8}
use Rattle.std.proofs.lemmas.Str.{chars-append, chars-nil, chars_past_char, IsUtf8-append, IsUtf8-nil, IsUtf8-from_is_utf8, is_utf8-from_IsUtf8}
use Rattle.hr_base.specs.declared.lexeme.Item.{Item}
use Rattle.hr_rules.specs.Letters.{kind_of}
use Rattle.hr_rules.specs.Lexemes.{spelled_piece, are_utf8, class_of, is_piece, bars, byte_order_mark, mark_len, led_by}
use Rattle.hr_rules.specs.Lexing.{Lexes}
use Rattle.hr_rules.specs.Lexing.Trivia.{none, more}
use Rattle.hr_rules.specs.Lexing.Lexes.{ends, goes}
use Rattle.hr_rules.proofs.Apart.{both, both_left, both_right}
use Rattle.hr_lexer.specs.LexemeReader.{lexeme_at}
use Rattle.hr_lexer.proofs.Bytes.{none_some}
use Rattle.hr_lexer.proofs.Marks.{begins_mark}
use Rattle.ucd_category.specs.GeneralCategory.{general_category}
use Rattle.ucd_category.specs.GeneralCategoryRows.{general_category_rows}
use Rattle.ucd_table.specs.Rows.{value_in}
use Rattle.hr_type.specs.Spelling.{Piece, blank, lexeme, bytes_of, lexemes_of}
use Rattle.hr_type_laws.specs.Blanks.{stands_alone, may_follow, are_apart}
use Rattle.hr_type_laws.specs.Lexed.{LexesAs, texts_of}
use Rattle.hr_type_laws.proofs.Identifiers.{ends_identifier}
use Rattle.hr_type_laws.proofs.Tokens.{Token, MayPrecede, token_fits}

-- the bytes of pieces are lexed as their lexemes
record Lexed (ps : List Piece) : Type 0 where
  utf8 : IsUtf8 (bytes_of ps)
  unmarked : mark_len (bytes_of ps) ≡ 0
  items : List Item
  tail : List ℕ
  lexes : Lexes class_of is_piece bars (bytes_of ps) items tail
  texts : texts_of items ≡ lexemes_of ps

-- ---- a blank
blank_utf8 : IsUtf8 (32 ∷ [])
unfolding is_utf8 chars lib.Utf8.encode
blank_utf8 = IsUtf8-from_is_utf8 (32 ∷ []) refl

blank_spelled : (after : List ℕ) → spelled_piece (chars (32 ∷ [])) after ≡ true
unfolding chars kind_of
blank_spelled after = refl

blank_piece : (after : List ℕ) → IsUtf8 after → is_piece (32 ∷ []) after ≡ true
unfolding is_piece
blank_piece after u =
    both (are_utf8 (32 ∷ []) after) (spelled_piece (chars (32 ∷ [])) (chars after))
    (both (is_utf8 (32 ∷ [])) (is_utf8 after) (is_utf8-from_IsUtf8 (32 ∷ []) blank_utf8) (is_utf8-from_IsUtf8 after u)) (blank_spelled (chars after))

blank_first : (after : List ℕ) → ends_identifier (chars (32 ∷ []) ++ after) ≡ true
unfolding chars kind_of
blank_first after = refl

blank_ends : (bytes : List ℕ) → ends_identifier (chars (32 ∷ bytes)) ≡ true
blank_ends bytes = ap ends_identifier (chars-append (32 ∷ []) bytes blank_utf8) ∙ blank_first (chars bytes)

-- the same items with a blank in front
record Led (bytes : List ℕ) (items : List Item) : Type 0 where
  others : List Item
  tail : List ℕ
  lexes : Lexes class_of is_piece bars (32 ∷ bytes) others tail
  same : texts_of others ≡ texts_of items

led : {bytes : List ℕ} {items : List Item} {tail : List ℕ} → IsUtf8 bytes → Lexes class_of is_piece bars bytes items tail → Led bytes items
led u (ends tail t) =
    record {
      others = [];
      tail = 32 ∷ tail;
      lexes = ends (32 ∷ tail) (more (32 ∷ []) tail [] (blank_piece (tail ++ []) (IsUtf8-append tail [] u IsUtf8-nil)) t);
      same = refl;
    }
led u (goes item rest items tail t fits lexes) =
    record {
      others = record { trivia = 32 ∷ item.trivia; lexeme = item.lexeme } ∷ items;
      tail = tail;
      lexes = goes (record { trivia = 32 ∷ item.trivia; lexeme = item.lexeme }) rest items tail
          (more (32 ∷ []) item.trivia (item.lexeme.text ++ rest) (blank_piece (item.trivia ++ (item.lexeme.text ++ rest)) u) t) fits lexes;
      same = refl;
    }

behind_blank : (ps : List Piece) → Lexed ps → Lexed (blank ∷ ps)
behind_blank ps l =
    let front = led l.utf8 l.lexes in
    record {
      utf8 = IsUtf8-append (32 ∷ []) (bytes_of ps) blank_utf8 l.utf8;
      unmarked = refl;
      items = front.others;
      tail = front.tail;
      lexes = front.lexes;
      texts = front.same ∙ l.texts;
    }

-- ---- a lexeme
or_cases : (a b : Bool) → (a || b) ≡ true → (a ≡ true) ⊎ (b ≡ true)
or_cases true b e = inl refl
or_cases false b e = inr e

may_precede : (text : List ℕ) (ps : List Piece) → may_follow text ps ≡ true → Each Token (lexemes_of ps) → MayPrecede text (chars (bytes_of ps))
may_precede text [] may all = inr (ap ends_identifier chars-nil)
may_precede text (blank ∷ ps) may all = inr (blank_ends (bytes_of ps))
may_precede text (lexeme other ∷ ps) may all = elim (or_cases (stands_alone text) (stands_alone other) may) [
  | inl y ↦ inl y
  | inr y ↦ inr (ap ends_identifier (chars-append other (bytes_of ps) all.0.utf8) ∙ all.0.begins (chars (bytes_of ps)) y)
]

no_lexeme_marked : (rest : List ℕ) → lexeme_at (0xFEFF ∷ rest) ≡ None
unfolding kind_of general_category value_in general_category_rows
no_lexeme_marked rest = refl

-- no lexeme begins with a byte order mark
unmarked_by : (text after : List ℕ) → (token : Token text) → IsUtf8 after → MayPrecede text (chars after) → (b : Bool) → starts_with nat_eq (text ++ after) byte_order_mark ≡ b → ◌≡◌ {A = ℕ} (cond b 3 0) 0
unmarked_by text after token valid may false m = refl
unmarked_by text after token valid may true m =
    let whole : IsUtf8 (text ++ after) = IsUtf8-append text after token.utf8 valid in
    let all : chars text ++ chars after ≡ 0xFEFF ∷ chars (drop 3 (text ++ after)) =
    sym (chars-append text after token.utf8) ∙ chars_past_char (text ++ after) (drop 3 (text ++ after)) 0xFEFF whole (begins_mark (text ++ after) m) in
    absurd (none_some (sym (no_lexeme_marked (chars (drop 3 (text ++ after)))) ∙ (ap lexeme_at (sym all) ∙ token.taken (chars after) may)))

behind_lexeme : (text : List ℕ) (ps : List Piece) → (token : Token text) → MayPrecede text (chars (bytes_of ps)) → Lexed ps → Lexed (lexeme text ∷ ps)
behind_lexeme text ps token may l =
    let item : Item = record { trivia = []; lexeme = record { class = token.class; text = text } } in
    record {
      utf8 = IsUtf8-append text (bytes_of ps) token.utf8 l.utf8;
      unmarked = unmarked_by text (bytes_of ps) token l.utf8 may (starts_with nat_eq (text ++ bytes_of ps) byte_order_mark) refl;
      items = item ∷ l.items;
      tail = l.tail;
      lexes = goes item (bytes_of ps) l.items l.tail (none (text ++ bytes_of ps)) (token_fits text (bytes_of ps) token l.utf8 may) l.lexes;
      texts = ap (λ xs. text ∷ xs) l.texts;
    }

lexed : (ps : List Piece) → are_apart ps ≡ true → Each Token (lexemes_of ps) → Lexed ps
lexed [] apart all = record { utf8 = IsUtf8-nil; unmarked = refl; items = []; tail = []; lexes = ends [] (none []); texts = refl }
lexed (blank ∷ ps) apart all = behind_blank ps (lexed ps apart all)
lexed (lexeme text ∷ ps) apart all =
    behind_lexeme text ps all.0 (may_precede text ps (both_left (may_follow text ps) (are_apart ps) apart) all.1)
    (lexed ps (both_right (may_follow text ps) (are_apart ps) apart) all.1)

led_by_none : (items : List Item) (tail : List ℕ) → record { list = items; tail = tail } ≡ led_by [] items tail
led_by_none [] tail = refl
led_by_none (item ∷ items) tail = refl

pub pieces_lexed : (ps : List Piece) → are_apart ps ≡ true → Each Token (lexemes_of ps) → LexesAs (bytes_of ps) (lexemes_of ps)
pieces_lexed ps apart all =
    let l = lexed ps apart all in
    let bytes : List ℕ = bytes_of ps in
    record {
      items = record { list = l.items; tail = l.tail };
      lexes = (
        l.items,
        (
          l.tail,
          (
            subst (λ n. Lexes class_of is_piece bars (drop n bytes) l.items l.tail) (sym l.unmarked) l.lexes,
            led_by_none l.items l.tail ∙ ap (λ n. led_by (take n bytes) l.items l.tail) (sym l.unmarked),
          ),
        ),
      );
      are = l.texts;
    }
