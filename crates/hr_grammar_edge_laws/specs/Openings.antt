-- The words behind which blocks begin (Haskell 98 Report, section 2.7), and the numbers of the lexemes there.
use Rattle.std.specs.Prelude.{ℕ, suc, ◌≡◌, Bool, false, if◌then◌else◌, List, [], ◌∷◌, length, map}
use Rattle.std.specs.List.{AllByRecursion}
use lib.Chars.{codes}
use Rattle.hr_base.specs.declared.lexeme.Class.{Class}
use Rattle.hr_base.specs.declared.lexeme.Item.{Item}
use Rattle.hr_rules.specs.Names.{is_one_of}
use Rattle.hr_grammar.specs.Spans.{Laid, BlockSpan}

abbrev pub opening_words : List (List ℕ)
opening_words = codes "let" ∷ codes "of" ∷ codes "where" ∷ []

abbrev pub opens_block : Class → List ℕ → Bool
opens_block Class.ReservedId text = is_one_of opening_words text
opens_block _ text = false

abbrev pub is_opening : Item → Bool
is_opening item = opens_block item.lexeme.class item.lexeme.text

-- the numbers behind the opening words among the items, where the first item has the number n
abbrev pub behind_openings : ℕ → List Item → List ℕ
behind_openings n [] = []
behind_openings n (item ∷ items) = if is_opening item then suc n ∷ behind_openings (suc n) items else behind_openings (suc n) items

-- no item is an opening word
abbrev pub IsNoOpening : Item → Type 0
IsNoOpening item = is_opening item ≡ false

abbrev pub AreNoOpenings : List Item → Type 0
AreNoOpenings = AllByRecursion IsNoOpening

-- the numbers of the first lexemes of blocks
abbrev pub block_starts : List BlockSpan → List ℕ
block_starts spans = map (λ (span : BlockSpan). span.start) spans

-- a stretch has as many lexemes as there are items, and its blocks begin behind the opening words among them,
-- whichever block is round it and however many lexemes stand before it
pub record IsLaidBy (items : List Item) (laid : Laid) : Type 0 where
  pub extent : laid.extent ≡ length items
  pub starts : (m n : ℕ) → block_starts (laid.blocks m n) ≡ behind_openings n items
