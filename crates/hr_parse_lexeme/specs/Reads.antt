-- What the parser has read, from where a cursor stood to where it stands.
use Rattle.std.specs.Prelude.{ℕ, ◌≡◌, ◌≤◌, true, List, [], ◌∷◌, Option, Some, None}
use Rattle.hr_base.specs.declared.lexeme.Item.{Item}
use Rattle.hr_rules.specs.declared.block.OpenBlock.{OpenBlock}
use Rattle.hr_rules.specs.declared.block.Placed.{Placed}
use Rattle.hr_rules.specs.Blocks.{enclosing, goes_on}
use Rattle.hr_layout.specs.Standing.{Standing}
use Rattle.hr_tree.specs.declared.lists.Listed.{Listed}
use Rattle.hr_grammar_cases.specs.Readings.{Reading, ◌▷◌, one, takes, take_all, there, in_turn}
use Rattle.hr_grammar_cases.specs.Derivations.{Derivations}
use Rattle.hr_grammar_cases.specs.Modules.{derivations}

-- a reading over the trees one level deeper, in the block at a column
abbrev pub Phrase : Type 1
Phrase = Derivations → ℕ → Reading

-- the lexemes from the first standing to the second are read so on each level from the height on, and no block
-- has opened or ended
pub record Consumes (height : ℕ) (phrase : Phrase) (before after : Standing) : Type 0 where
  pub read : (levels : ℕ) → height ≤ levels → phrase (derivations levels) (enclosing before.blocks) before.rest after.rest
  pub blocks : after.blocks ≡ before.blocks

-- a lexeme of its kind is taken
pub record Takes (Is : Item → Type 0) (item : Item) (before after : Standing) : Type 0 where
  pub is : Is item
  pub taken : Consumes 0 (λ below n. takes n item) before after

-- a lexeme that may be there: where it isn't, nothing is taken
abbrev pub Accepts : (Item → Type 0) → Option Item → Standing → Standing → Type 0
Accepts Is None before after = after ≡ before
Accepts Is (Some item) before after = Takes Is item before after

-- the next lexeme is there, goes on, and is of the kind
abbrev pub IsAhead : (Item → Type 0) → List OpenBlock → List Placed → Type 0
IsAhead Is blocks [] = ⊥
IsAhead Is blocks (next ∷ rest) = (goes_on (enclosing blocks) next ≡ true) × Is next.item

-- lexemes are taken
pub record TakesAll (items : List Item) (before after : Standing) : Type 0 where
  pub taken : Consumes 0 (λ below n. take_all n items) before after

-- the lexemes of a name or an operator of its kind are taken
pub record Spells {T : Type 0} (Is : T → Type 0) (items_of : T → List Item) (name : T) (before after : Standing) : Type 0 where
  pub is : Is name
  pub taken : TakesAll (items_of name) before after

-- trees of a kind, one in a block at a column
abbrev pub Trees : Type 0 → Type 1
Trees T = Derivations → ℕ → T → Reading

-- each of a list is read
pub record ReadsEach {T : Type 0} (height : ℕ) (of : Trees T) (list : List T) (before after : Standing) : Type 0 where
  pub reads : Consumes height (λ below n. in_turn (of below n) list) before after

-- a part and the separator behind it
abbrev pub with_separator : {T : Type 0} → (Item → Reading) → (T → Reading) → Listed T → Reading
with_separator separator of listed = of listed.part ▷ there separator listed.separator

-- parts with a separator behind each are read, and one more
pub record ReadsParts {T : Type 0} (height : ℕ) (Separates : Item → Type 0) (of : Trees T) (others : List (Listed T)) (last : T) (before after : Standing) : Type 0 where
  pub reads : Consumes height (λ below n. in_turn (with_separator (one n Separates) (of below n)) others ▷ of below n last) before after
