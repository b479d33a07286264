-- A text is a variable identifier exactly where that is the one lexeme read of it.
use Rattle.std.proofs.Common.{◌≡◌, ℕ, ◌+◌, Bool, true, false, cond, not, ◌&&◌, ◌==◌, List, [], ◌∷◌, ◌++◌, length, take, drop, Option, Some, None, refl, sym, ap, subst, ◌∙◌, true≢false, arith, append-nil, length-append}
use Rattle.std.specs.List.{starts_with}
use Rattle.std.specs.Prelude.{nat_eq, nat_le}
use Rattle.std.specs.Str.{chars, IsUtf8}
use Rattle.std.proofs.lemmas.Str.{chars_past_char}
use Rattle.hr_base.specs.declared.lexeme.Class.{Class}
use Rattle.hr_base.specs.declared.lexeme.Item.{Item}
use Rattle.hr_base.specs.declared.lexeme.Items.{Items}
use Rattle.hr_rules.specs.declared.character.Kind.{Kind}
use Rattle.hr_rules.specs.Letters.{kind_of, is_in_name, is_symbol}
use Rattle.hr_rules.specs.Runs.{ends_run, is_run, begins_with}
use Rattle.hr_rules.specs.Operators.{is_dashes, is_reserved_operator}
use Rattle.hr_rules.specs.Qualified.{qualified, name_class, conid_class}
use Rattle.hr_rules.specs.Numbers.{ends_float, integer_class, integer_value, greatest_integer}
use Rattle.hr_rules.specs.Lexemes.{is_empty, spelled_class, spelled_class_by, spelled_bars, spelled_bars_by, are_utf8, class_of, is_piece, bars, byte_order_mark, mark_len, led_by, LexesText}
use Rattle.hr_rules.specs.Lexing.{Fits, Lexes}
use Rattle.hr_rules.specs.Lexing.Trivia.{none}
use Rattle.hr_rules.specs.Lexing.Lexes.{ends, goes}
use Rattle.hr_rules.proofs.Reading.{one_reading_lem, readings_join_lem}
use Rattle.ucd_category.specs.GeneralCategory.{general_category}
use Rattle.ucd_category.specs.GeneralCategoryRows.{general_category_rows}
use Rattle.ucd_table.specs.Rows.{value_in}
use Rattle.hr_lexer.proofs.Exactly.{lexeme_text}
use Rattle.hr_lexer.proofs.Marks.{begins_mark}
use Rattle.hr_lexer.specs.Words.{HasItems, IsVarId, IsOneVarId, Tells}

-- a list of no length
pub empty : (xs : List ℕ) → length xs ≡ 0 → xs ≡ []
empty [] e = refl
empty (x ∷ xs) e = absurd (omega arith)

-- where one item is read, and where none is
nothing_left : {rest : List ℕ} {items : List Item} {tail : List ℕ} → Lexes class_of is_piece bars rest items tail → items ≡ [] → rest ≡ tail
nothing_left (ends tail t) e = refl
nothing_left (goes item rest items tail t fits lexes) e = cc

one_fits : {bytes : List ℕ} {items : List Item} {tail : List ℕ} → Lexes class_of is_piece bars bytes items tail → (only : Item) → items ≡ only ∷ []
    → class_of only.lexeme.text tail ≡ Some only.lexeme.class
one_fits (ends tail t) only e = cc
one_fits (goes item rest items tail t fits lexes) only e =
    let same : item ≡ only = cc in
    let none_left : items ≡ [] = cc in
    let left : rest ≡ tail = nothing_left lexes none_left in
    subst (λ x. class_of x.lexeme.text tail ≡ Some x.lexeme.class) same (ap (λ x. class_of item.lexeme.text x) (sym left) ∙ fits.is)

led_one : (mark : List ℕ) (list : List Item) (tail : List ℕ) (bytes : List ℕ) (only : Item) (other : List ℕ) → Lexes class_of is_piece bars bytes list tail
    → record { list = only ∷ []; tail = other } ≡ led_by mark list tail → class_of only.lexeme.text other ≡ Some only.lexeme.class
led_one mark [] tail bytes only other lexes e = let no : only ∷ [] ≡ [] = ap (λ x. x.list) e in cc
led_one mark (item ∷ items) tail bytes only other lexes e =
    let list : only ∷ [] ≡ record { trivia = mark ++ item.trivia; lexeme = item.lexeme } ∷ items = ap (λ x. x.list) e in
    let first : only ≡ record { trivia = mark ++ item.trivia; lexeme = item.lexeme } = cc in
    let nil : items ≡ [] = cc in
    let last : other ≡ tail = ap (λ x. x.tail) e in
    let is : class_of item.lexeme.text tail ≡ Some item.lexeme.class = one_fits lexes item (ap (λ x. item ∷ x) nil) in
    subst (λ x. class_of only.lexeme.text x ≡ Some only.lexeme.class) (sym last)
    (subst (λ x. class_of x.lexeme.text tail ≡ Some x.lexeme.class) (sym first) is)

-- a text whose only lexeme is a variable identifier of that text is one
pub is_word_is : (text : List ℕ) (only : Item) (tail : List ℕ) → LexesText text (record { list = only ∷ []; tail = tail })
    → (only.lexeme.class ≡ Class.VarId) × (only.lexeme.text ≡ text) → IsVarId text
is_word_is text only tail lexes is =
    let all : text ≡ only.trivia ++ (only.lexeme.text ++ tail) = readings_join_lem text (record { list = only ∷ []; tail = tail }) lexes in
    let long : length text ≡ length only.trivia + (length only.lexeme.text + length tail) =
    ap length all ∙ length-append only.trivia (only.lexeme.text ++ tail) ∙ ap (λ n. length only.trivia + n) (length-append only.lexeme.text tail) in
    let same : length only.lexeme.text ≡ length text = ap length is.1 in
    let no_tail : tail ≡ [] = empty tail (omega arith) in
    let class : class_of only.lexeme.text tail ≡ Some only.lexeme.class = led_one (take (mark_len text) text) lexes.0 lexes.1.0 (drop (mark_len text) text) only tail lexes.1.1.0 lexes.1.1.1 in
    (λ k. class_of (sym is.1 k) (sym no_tail k)) ∙ class ∙ ap Some is.0

-- nothing but a small letter begins a variable identifier
abbrev is_varid : Option Class → Bool
is_varid (Some Class.VarId) = true
is_varid _ = false

never_if : (b : Bool) (x y : Option Class) → is_varid x ≡ false → is_varid y ≡ false → is_varid (cond b x y) ≡ false
never_if true x y p q = p
never_if false x y p q = q

never_qualified : (x : Option Class) → is_varid (qualified x) ≡ false
never_qualified None = refl
never_qualified (Some Class.VarId) = refl
never_qualified (Some Class.ConId) = refl
never_qualified (Some Class.VarSym) = refl
never_qualified (Some Class.ConSym) = refl
never_qualified (Some _) = refl

never_conid : (rest after : List ℕ) → is_varid (conid_class rest after) ≡ false
never_conid [] after = never_if (ends_run is_in_name after) (Some Class.ConId) None refl refl
never_conid (c ∷ rest) after =
    never_if (is_in_name c) (conid_class rest after) (cond (c == 46) (qualified (name_class rest after)) None) (never_conid rest after)
    (never_if (c == 46) (qualified (name_class rest after)) None (never_qualified (name_class rest after)) refl)

never_integer : (x : Option ℕ) → is_varid (integer_class x) ≡ false
never_integer None = refl
never_integer (Some n) = never_if (nat_le n greatest_integer) (Some Class.Integer) None refl refl

never_operator : (a b c : Bool) → is_varid (cond a (Some (cond b Class.ReservedOp (cond c Class.ConSym Class.VarSym))) None) ≡ false
never_operator true true c = refl
never_operator true false true = refl
never_operator true false false = refl
never_operator false b c = refl

free_by : (kind : Kind) (c : ℕ) (rest after : List ℕ) → is_varid (spelled_class_by kind c rest after) ≡ true → spelled_bars_by kind c rest ≡ false
free_by Kind.Small c rest after e = refl
free_by Kind.Large c rest after e = absurd (true≢false (sym e ∙ never_conid rest after))
free_by Kind.Symbol c rest after e =
    absurd (true≢false (sym e ∙ never_operator (is_run is_symbol rest after && not (is_dashes (c ∷ rest))) (is_reserved_operator (c ∷ rest)) (begins_with 58 (c ∷ rest))))
free_by Kind.Special c rest after e = absurd (true≢false (sym e ∙ never_if (is_empty rest) (Some Class.Special) None refl refl))
free_by Kind.Digit c rest after e =
    absurd (true≢false (sym e ∙ never_if (ends_float rest) (Some Class.Float) (integer_class (integer_value c rest)) refl (never_integer (integer_value c rest))))
free_by Kind.Quote c rest after e = refl
free_by Kind.DoubleQuote c rest after e = refl
free_by Kind.WideDigit c rest after e = refl
free_by Kind.Other c rest after e = refl
free_by Kind.Blank c rest after e = absurd (true≢false (sym e))
free_by Kind.Newline c rest after e = absurd (true≢false (sym e))

free : (text after : List ℕ) → is_varid (spelled_class text after) ≡ true → spelled_bars text ≡ false
free [] after e = absurd (true≢false (sym e))
free (c ∷ rest) after e = free_by (kind_of c) c rest after e

varid_if : (b : Bool) (x : Option Class) → is_varid (cond b x None) ≡ true → is_varid x ≡ true
varid_if true x e = e
varid_if false x e = absurd (true≢false (sym e))

-- so one may begin where one stands
varid_spelled : (text after : List ℕ) → class_of text after ≡ Some Class.VarId → is_varid (spelled_class (chars text) (chars after)) ≡ true
unfolding class_of
varid_spelled text after e = varid_if (are_utf8 text after) (spelled_class (chars text) (chars after)) (ap is_varid e)

begins : (text : List ℕ) → IsVarId text → bars text ≡ false
unfolding bars
begins text e = free (chars text) (chars []) (varid_spelled text [] e)

-- and no byte order mark
no_letter : kind_of 0xFEFF ≡ Kind.Other
unfolding kind_of general_category value_in general_category_rows
no_letter = refl

unmarked_by : (text : List ℕ) → IsVarId text → (b : Bool) → starts_with nat_eq text byte_order_mark ≡ b → ◌≡◌ {A = ℕ} (cond b 3 0) 0
unmarked_by text e false m = refl
unmarked_by text e true m =
    let valid : IsUtf8 text = lexeme_text text [] Class.VarId e in
    let all : chars text ≡ 0xFEFF ∷ chars (drop 3 text) = chars_past_char text (drop 3 text) 0xFEFF valid (begins_mark text m) in
    let is : is_varid (spelled_class (0xFEFF ∷ chars (drop 3 text)) (chars [])) ≡ true = ap (λ x. is_varid (spelled_class x (chars []))) (sym all) ∙ varid_spelled text [] e in
    absurd (true≢false (sym is ∙ ap (λ x. is_varid (spelled_class_by x 0xFEFF (chars (drop 3 text)) (chars []))) no_letter))

unmarked : (text : List ℕ) → IsVarId text → mark_len text ≡ 0
unmarked text e = unmarked_by text e (starts_with nat_eq text byte_order_mark) refl

abbrev word : List ℕ → Item
word text = record { trivia = []; lexeme = record { class = Class.VarId; text = text } }

fits : (text : List ℕ) → IsVarId text → Fits class_of bars Class.VarId text []
fits text e = record {
  is = e;
  longest = λ longer rest same some. let long : length text + 0 ≡ length longer + length rest = sym (length-append text []) ∙ ap length same ∙ length-append longer rest in omega arith;
  begins = ap bars (append-nil text) ∙ begins text e;
}

lexes_word : (text : List ℕ) → IsVarId text → Lexes class_of is_piece bars text (word text ∷ []) []
lexes_word text e =
    subst (λ x. Lexes class_of is_piece bars x (word text ∷ []) []) (append-nil text)
    (goes (word text) [] [] [] (none (text ++ [])) (fits text e) (ends [] (none [])))

-- a variable identifier is read as one lexeme
word_items : (text : List ℕ) → IsVarId text → LexesText text (record { list = word text ∷ []; tail = [] })
word_items text e =
    let none_first : mark_len text ≡ 0 = unmarked text e in (
      word text ∷ [],
      (
        [],
        (
          subst (λ n. Lexes class_of is_piece bars (drop n text) (word text ∷ []) []) (sym none_first) (lexes_word text e),
          ap (λ n. led_by (take n text) (word text ∷ []) []) (sym none_first),
        ),
      ),
    )

-- the answer of a test on its items
module _ (text : List ℕ) where
  tells_by : (b : Bool) (items : List Item) (tail : List ℕ) → LexesText text (record { list = items; tail = tail }) → Tells b (IsOneVarId items text) → Tells b (IsVarId text)
  tells_by true [] tail lexes is = absurd is
  tells_by true (only ∷ []) tail lexes is = is_word_is text only tail lexes is
  tells_by true (only ∷ other ∷ items) tail lexes is = absurd is
  tells_by false items tail lexes is = λ e.
      let same : record { list = items; tail = tail } ≡ record { list = word text ∷ []; tail = [] } = one_reading_lem text (record { list = items; tail = tail }) (record { list = word text ∷ []; tail = [] }) lexes (word_items text e) in
      is (subst (λ x. IsOneVarId x text) (ap (λ x. x.list) (sym same)) (refl, refl))

  pub tells_word : (b : Bool) (items : Items) → HasItems text (Some items) → Tells b (IsOneVarId items.list text) → Tells b (IsVarId text)
  tells_word b items has is = tells_by b items.list items.tail has is

  pub no_word : HasItems text None → ¬ (IsVarId text)
  no_word has e = has (record { list = word text ∷ []; tail = [] }) (word_items text e)
