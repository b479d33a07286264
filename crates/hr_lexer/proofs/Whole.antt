-- The statements of each kind make those of all kinds together.
use Rattle.std.proofs.Common.{◌≡◌, ℕ, List, [], ◌∷◌, Some, None, refl, sym, ap, ◌∙◌, true≢false}
use Rattle.std.specs.Option.{is_some}
use Rattle.hr_rules.specs.declared.character.Kind.{Kind}
use Rattle.hr_rules.specs.Letters.{kind_of}
use Rattle.hr_rules.specs.Lexemes.{spelled_class_by}
use Rattle.hr_lexer.specs.LexemeReader.{lexeme_at_by}
use Rattle.hr_lexer.proofs.Statements.{KindReads, LexemeRight, LexemeLongest}

-- each kind of character that begins lexemes, by its statement
pub record EachKind : Type 0 where
  pub small : KindReads Kind.Small
  pub large : KindReads Kind.Large
  pub symbol : KindReads Kind.Symbol
  pub special : KindReads Kind.Special
  pub digit : KindReads Kind.Digit
  pub quote : KindReads Kind.Quote
  pub double_quote : KindReads Kind.DoubleQuote

-- no lexeme begins with a character of another kind
nothing : (kind : Kind) → ((c : ℕ) (rest : List ℕ) → lexeme_at_by kind c rest ≡ None) → ((c : ℕ) (front after : List ℕ) → spelled_class_by kind c front after ≡ None) → KindReads kind
nothing kind no_lexeme no_class = record {
  right = λ c rest taken k e. absurd (none_some (sym (no_lexeme c rest) ∙ e));
  longest = λ c front after k free some. absurd (true≢false (sym some ∙ ap is_some (no_class c front after)));
}
  where
    none_some : {A : Type 0} {x : A} → None ≡ Some x → ⊥
    none_some e = cc

pub of_kind : EachKind → (kind : Kind) → KindReads kind
of_kind each Kind.Small = each.small
of_kind each Kind.Large = each.large
of_kind each Kind.Symbol = each.symbol
of_kind each Kind.Special = each.special
of_kind each Kind.Digit = each.digit
of_kind each Kind.Quote = each.quote
of_kind each Kind.DoubleQuote = each.double_quote
of_kind each Kind.Blank = nothing Kind.Blank (λ c rest. refl) (λ c front after. refl)
of_kind each Kind.Newline = nothing Kind.Newline (λ c rest. refl) (λ c front after. refl)
of_kind each Kind.WideDigit = nothing Kind.WideDigit (λ c rest. refl) (λ c front after. refl)
of_kind each Kind.Other = nothing Kind.Other (λ c rest. refl) (λ c front after. refl)

pub lexeme_right : EachKind → LexemeRight
lexeme_right each [] taken e = absurd (none_some e)
  where
    none_some : {A : Type 0} {x : A} → None ≡ Some x → ⊥
    none_some e = cc
lexeme_right each (c ∷ rest) taken e = (of_kind each (kind_of c)).right c rest taken refl e

pub lexeme_longest : EachKind → LexemeLongest
lexeme_longest each [] after free some = absurd (true≢false (sym some))
lexeme_longest each (c ∷ front) after free some = (of_kind each (kind_of c)).longest c front after refl free some
