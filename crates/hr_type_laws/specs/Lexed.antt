-- What the lexical rules make of the bytes that are written for a type.
use Rattle.std.specs.Prelude.{◌≡◌, ℕ, List, map}
use Rattle.hr_base.specs.declared.lexeme.Item.{Item}
use Rattle.hr_base.specs.declared.lexeme.Items.{Items}
use Rattle.hr_rules.specs.Lexemes.{LexesText}
use Rattle.hr_type.specs.declared.mono.Mono.{Mono}
use Rattle.hr_type.specs.declared.spell.TypeScope.{TypeScope}
use Rattle.hr_type.specs.Grammar.{ReadsType, Spells}
use Rattle.hr_type.specs.Spelling.{written, bytes_of, lexemes_of}
use Rattle.hr_type_laws.specs.Scopes.{IsTypeScope}

abbrev pub texts_of : List Item → List (List ℕ)
texts_of items = map (λ item. item.lexeme.text) items

-- the bytes are lexed as items with these texts
pub record LexesAs (bytes : List ℕ) (texts : List (List ℕ)) : Type 0 where
  pub items : Items
  pub lexes : LexesText bytes items
  pub are : texts_of items.list ≡ texts

-- the bytes that are written for a type are lexed as the lexemes that are written
abbrev pub WrittenIsLexed : Type 0
WrittenIsLexed = (scope : TypeScope) → IsTypeScope scope → (t : Mono) → LexesAs (bytes_of (written scope t).pieces) (lexemes_of (written scope t).pieces)

-- bytes that spell a type, however they are lexed, read as this type and as no other
abbrev pub SpelledReadsBack : Type 0
SpelledReadsBack = (scope : TypeScope) → IsTypeScope scope → (t : Mono) (bytes : List ℕ) → Spells scope t bytes → (items : Items) → LexesText bytes items
    → ReadsType scope 0 (texts_of items.list) t × ((u : Mono) → ReadsType scope 0 (texts_of items.list) u → u ≡ t)
