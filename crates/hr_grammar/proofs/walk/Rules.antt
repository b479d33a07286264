-- How the items of a tree are put together from those of its parts (Haskell 98 Report, chapter 9): rules by which
-- a property of lists of items goes over from the parts to the whole. The files beside this one go over every
-- production, and show that what goes over so is true everywhere.
use Rattle.std.proofs.Common.{◌≡◌, ℕ, Bool, false, List, [], ◌∷◌, ◌++◌}
use lib.Chars.{codes}
use Rattle.hr_base.specs.declared.lexeme.Class.{Class}
use Rattle.hr_base.specs.declared.lexeme.Item.{Item}
use Rattle.hr_rules.specs.Names.{is_one_of, is_spelled}
use Rattle.hr_grammar.specs.Words.{IsWord, IsLeftParen, IsRightParen, IsLeftSquare, IsRightSquare, IsLeftBrace, IsRightBrace, IsBackArrow}
use Rattle.hr_grammar.specs.LeftOut.{left_out}
use Rattle.hr_grammar.specs.Phrases.{Everywhere}

-- round, square and curly brackets
abbrev pub brackets : List (List ℕ)
brackets = codes "(" ∷ codes ")" ∷ codes "[" ∷ codes "]" ∷ codes "{" ∷ codes "}" ∷ []

-- the words that stand round the declarations of an expression
abbrev pub paired_words : List (List ℕ)
paired_words = codes "let" ∷ codes "in" ∷ []

-- the words that stand before and behind blocks
abbrev pub block_words : List (List ℕ)
block_words = codes "let" ∷ codes "in" ∷ codes "of" ∷ codes "where" ∷ []

-- the reserved operators that stand between a pattern and what is behind it
abbrev pub marks_between : List (List ℕ)
marks_between = codes "<-" ∷ codes "=" ∷ codes "|" ∷ codes "->" ∷ []

-- the lexemes that the grammar gives in pairs, or in square brackets alone
abbrev pub is_paired : Class → List ℕ → Bool
is_paired Class.Special text = is_one_of brackets text
is_paired Class.ReservedId text = is_one_of paired_words text
is_paired Class.ReservedOp text = is_spelled (codes "<-") text
is_paired _ text = false

-- these, and the words round blocks: outside of its brackets, what has no blocks has none of them
abbrev pub is_by_block : Class → List ℕ → Bool
is_by_block Class.ReservedId text = is_one_of block_words text
is_by_block class text = is_paired class text

-- these, and the marks between a pattern and what is behind it: no lexeme of a pattern outside of its brackets
abbrev pub is_parting : Class → List ℕ → Bool
is_parting Class.ReservedOp text = is_one_of marks_between text
is_parting class text = is_by_block class text

-- the property is true of no items, and of two lists of items one behind the other
pub record Joins (P : List Item → Type 0) : Type 0 where
  pub nothing : P []
  pub join : (xs ys : List Item) → P xs → P ys → P (xs ++ ys)

-- a property that goes over to the whole, in brackets too, from lexemes that are not set apart by a test, nor left
-- out of the language
pub record InBrackets (apart : Class → List ℕ → Bool) (P : List Item → Type 0) : Type 0 where
  pub joins : Joins P
  pub plain : (item : Item) → apart item.lexeme.class item.lexeme.text ≡ false → left_out item.lexeme.class item.lexeme.text ≡ false → P (item ∷ [])
  pub parens : (left right : Item) (xs : List Item) → IsLeftParen left → IsRightParen right → P xs → P (left ∷ (xs ++ right ∷ []))
  pub squares : (left right : Item) (xs : List Item) → IsLeftSquare left → IsRightSquare right → P xs → P (left ∷ (xs ++ right ∷ []))

-- of patterns, names, imports and exports
abbrev pub InPatterns : (List Item → Type 0) → Type 0
InPatterns = InBrackets is_parting

-- of types too, which have `->`
abbrev pub InTypes : (List Item → Type 0) → Type 0
InTypes = InBrackets is_by_block

-- two properties, P of the items of the parts of a tree, and Q of what may stand in square brackets, where
-- qualifiers stand too: both go over to the whole
pub record InTrees (P Q : List Item → Type 0) : Type 0 where
  pub joins : Joins P
  pub plain : (item : Item) → is_paired item.lexeme.class item.lexeme.text ≡ false → left_out item.lexeme.class item.lexeme.text ≡ false → P (item ∷ [])
  pub parens : (left right : Item) (xs : List Item) → IsLeftParen left → IsRightParen right → P xs → P (left ∷ (xs ++ right ∷ []))
  pub braces : (left right : Item) (xs : List Item) → IsLeftBrace left → IsRightBrace right → P xs → P (left ∷ (xs ++ right ∷ []))
  pub lets : (word in_word : Item) (xs ys : List Item) → IsWord (codes "let") word → IsWord (codes "in") in_word → P xs → P ys → P (word ∷ (xs ++ in_word ∷ ys))
  pub inside : (xs : List Item) → P xs → Q xs
  pub inside_join : (xs ys : List Item) → Q xs → Q ys → Q (xs ++ ys)
  pub inside_let : (word : Item) → IsWord (codes "let") word → Q (word ∷ [])
  pub inside_arrow : (arrow : Item) → IsBackArrow arrow → Q (arrow ∷ [])
  pub squares : (left right : Item) (xs : List Item) → IsLeftSquare left → IsRightSquare right → Q xs → P (left ∷ (xs ++ right ∷ []))

-- what goes over is true of the items of each expression and each tree
abbrev pub TreesKeep : Type 1
TreesKeep = (P Q : List Item → Type 0) → InTrees P Q → Everywhere P
