-- The lexemes of written types, each with what may stand behind it.
use Rattle.std.proofs.Common.{◌≡◌, ◌⊎◌, inl, inr, ℕ, Bool, true, false, cond, not, ◌&&◌, List, [], ◌∷◌, ◌++◌, length, take, drop, codes, Option, Some, None, refl, sym, ap, subst, ◌∙◌, true≢false}
use Rattle.std.specs.List.{AllByRecursion}
use Rattle.std.specs.Str.{chars, is_utf8, IsUtf8}
use Rattle.std.proofs.Math.Seq.{take-append_seam, drop-append_seam}
use Rattle.std.proofs.lemmas.Str.{chars-append, chars-nil, encodes-chars, scalars-chars, IsUtf8-append, IsUtf8-from_is_utf8}
use lib.Utf8.{scalars, encodes}
use Rattle.hr_base.specs.declared.lexeme.Class.{Class}
use Rattle.hr_rules.specs.Letters.{kind_of, is_symbol}
use Rattle.hr_rules.specs.Lexemes.{spelled_class, are_utf8, class_of, bars}
use Rattle.hr_rules.specs.Lexing.{Fits}
use Rattle.hr_rules.specs.Operators.{is_dashes, run_class}
use Rattle.hr_rules.specs.Runs.{is_run, ends_run}
use Rattle.hr_rules.proofs.Apart.{both, both_left}
use Rattle.hr_lexer.specs.LexemeReader.{lexeme_at}
use Rattle.hr_lexer.proofs.Bytes.{fits, none_some}
use Rattle.hr_lexer.proofs.Instances.{readers}
use Rattle.hr_lexer.proofs.NamesRead.{symbols_are}
use Rattle.hr_type_laws.specs.Blanks.{stands_alone}
use Rattle.hr_type_laws.proofs.Enclosing.{among}
use Rattle.hr_type_laws.proofs.Identifiers.{is_identifier, ends_identifier, ends_symbols, identifier_taken}

-- the text stands alone, or nothing goes on behind it
abbrev pub MayPrecede : List ℕ → List ℕ → Type 0
MayPrecede text after = (stands_alone text ≡ true) ⊎ (ends_identifier after ≡ true)

-- a lexeme that is read whole before what may stand behind it; one that stands alone lets nothing go on into it
pub record Token (text : List ℕ) : Type 0 where
  pub class : Class
  pub utf8 : IsUtf8 text
  pub taken : (after : List ℕ) → MayPrecede text after → lexeme_at (chars text ++ after) ≡ Some (record { class = class; len = length (chars text) })
  pub begins : (after : List ℕ) → stands_alone text ≡ true → ends_identifier (chars text ++ after) ≡ true

-- what is read fits
pub token_fits : (text after : List ℕ) → (token : Token text) → IsUtf8 after → MayPrecede text (chars after) → Fits class_of bars token.class text after
token_fits text after token valid may =
    let u : IsUtf8 text = token.utf8 in
    let cs : List ℕ = chars text ++ chars after in
    let n : ℕ = length (chars text) in
    let front : encodes (take n cs) ≡ text = ap encodes (take-append_seam (chars text) (chars after)) ∙ encodes-chars text u in
    let back : encodes (drop n cs) ≡ after = ap encodes (drop-append_seam (chars text) (chars after)) ∙ encodes-chars after valid in
    let all : scalars cs ≡ true = ap scalars (sym (chars-append text after u)) ∙ scalars-chars (text ++ after) (IsUtf8-append text after u valid) in
    let it = fits readers.right readers.longest cs (record { class = token.class; len = n }) all (token.taken (chars after) may) in
    subst (λ x. Fits class_of bars token.class x after) front (subst (λ y. Fits class_of bars token.class (encodes (take n cs)) y) back it)

-- ---- identifiers
alone_texts : List (List ℕ)
alone_texts = codes "(" ∷ codes ")" ∷ codes "[" ∷ codes "]" ∷ codes "," ∷ []

none_alone : AllByRecursion (λ mark. is_identifier (class_of mark []) ≡ false) alone_texts
unfolding alone_texts class_of kind_of chars is_utf8 lib.Utf8.encode
none_alone = (refl, (refl, (refl, (refl, (refl, tt)))))

not_alone : (text : List ℕ) → is_identifier (class_of text []) ≡ true → stands_alone text ≡ true → ⊥
unfolding alone_texts
not_alone text is alone = true≢false (sym is ∙ among (λ mark. is_identifier (class_of mark []) ≡ false) alone_texts text none_alone alone)

some_if : (b : Bool) (x : Option Class) (class : Class) → cond b x None ≡ Some class → (b ≡ true) × (x ≡ Some class)
some_if true x class e = (refl, e)
some_if false x class e = absurd (none_some e)

spelled_alone : (text : List ℕ) (class : Class) → class_of text [] ≡ Some class → IsUtf8 text × (spelled_class (chars text) [] ≡ Some class)
unfolding class_of
spelled_alone text class e =
    let parts = some_if (are_utf8 text []) (spelled_class (chars text) (chars [])) class e in
    (IsUtf8-from_is_utf8 text (both_left (is_utf8 text) (is_utf8 []) parts.0), ap (λ x. spelled_class (chars text) x) (sym chars-nil) ∙ parts.1)

pub identifier : (text : List ℕ) (class : Class) → class_of text [] ≡ Some class → is_identifier (Some class) ≡ true → Token text
identifier text class e is =
    let alone : stands_alone text ≡ true → ⊥ = not_alone text (ap is_identifier e ∙ is) in
    let spelled = spelled_alone text class e in
    record {
      class = class;
      utf8 = spelled.0;
      taken = λ after may. elim may [
        | inl y ↦ absurd (alone y)
        | inr y ↦ identifier_taken (chars text) after class is spelled.1 y
      ];
      begins = λ after y. absurd (alone y);
    }

-- ---- brackets, commas and arrows
pub left : Token (codes "(")
unfolding kind_of chars is_utf8 lib.Utf8.encode
left = record { class = Class.Special; utf8 = IsUtf8-from_is_utf8 (codes "(") refl; taken = λ after may. refl; begins = λ after y. refl }

pub right : Token (codes ")")
unfolding kind_of chars is_utf8 lib.Utf8.encode
right = record { class = Class.Special; utf8 = IsUtf8-from_is_utf8 (codes ")") refl; taken = λ after may. refl; begins = λ after y. refl }

pub left_square : Token (codes "[")
unfolding kind_of chars is_utf8 lib.Utf8.encode
left_square = record { class = Class.Special; utf8 = IsUtf8-from_is_utf8 (codes "[") refl; taken = λ after may. refl; begins = λ after y. refl }

pub right_square : Token (codes "]")
unfolding kind_of chars is_utf8 lib.Utf8.encode
right_square = record { class = Class.Special; utf8 = IsUtf8-from_is_utf8 (codes "]") refl; taken = λ after may. refl; begins = λ after y. refl }

pub comma : Token (codes ",")
unfolding kind_of chars is_utf8 lib.Utf8.encode
comma = record { class = Class.Special; utf8 = IsUtf8-from_is_utf8 (codes ",") refl; taken = λ after may. refl; begins = λ after y. refl }

arrow_run : (after : List ℕ) → ends_identifier after ≡ true → (is_run is_symbol (62 ∷ []) after && not (is_dashes (45 ∷ 62 ∷ []))) ≡ true
unfolding kind_of
arrow_run after e = both (ends_run is_symbol after) true (ends_symbols after e) refl

arrow_taken : (after : List ℕ) → ends_identifier after ≡ true → lexeme_at (45 ∷ (62 ∷ after)) ≡ Some (record { class = run_class (45 ∷ 62 ∷ []); len = 2 })
unfolding kind_of
arrow_taken after e = symbols_are 45 (62 ∷ []) after refl (arrow_run after e)

pub arrow : Token (codes "->")
unfolding chars is_utf8 lib.Utf8.encode
arrow = record {
  class = run_class (45 ∷ 62 ∷ []);
  utf8 = IsUtf8-from_is_utf8 (codes "->") refl;
  taken = λ after may. elim may [
    | inl y ↦ absurd (true≢false (sym y))
    | inr y ↦ arrow_taken after y
  ];
  begins = λ after y. absurd (true≢false (sym y));
}
