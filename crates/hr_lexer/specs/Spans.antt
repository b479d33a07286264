-- The items that stand at given places of a text, by the numbers of their characters.
use Rattle.std.specs.Prelude.{◌≡◌, ℕ, ◌≤◌, List, [], ◌∷◌, ◌++◌, length, take, drop, ⊤}
use Rattle.std.specs.Str.{encode_utf8_all}
use Rattle.hr_base.specs.declared.lexeme.Item.{Item}
use Rattle.hr_lexer.specs.declared.spans.Span.{Span}

-- the item that begins these characters
abbrev pub item_at : Span → List ℕ → Item
item_at span text = record {
  trivia = encode_utf8_all (take span.trivia text);
  lexeme = record { class = span.taken.class; text = encode_utf8_all (take span.taken.len (drop span.trivia text)) };
}

-- what is behind it
abbrev pub past_span : Span → List ℕ → List ℕ
past_span span text = drop span.taken.len (drop span.trivia text)

-- the items that stand one behind the other
abbrev pub items_at : List Span → List ℕ → List Item
items_at [] text = []
items_at (span ∷ spans) text = item_at span text ∷ items_at spans (past_span span text)

-- what is behind all of them
abbrev pub past_spans : List Span → List ℕ → List ℕ
past_spans [] text = text
past_spans (span ∷ spans) text = past_spans spans (past_span span text)

-- all of them stand within the characters
abbrev pub AreWithin : List Span → List ℕ → Type 0
AreWithin [] text = ⊤
AreWithin (span ∷ spans) text = (span.trivia ≤ length text) × (span.taken.len ≤ length (drop span.trivia text)) × AreWithin spans (past_span span text)

-- the whole text ends with these bytes
abbrev pub EndsWith : List ℕ → List ℕ → Type 0
EndsWith whole bytes = (front : List ℕ) × (whole ≡ front ++ bytes)
