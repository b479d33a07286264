-- What trees say of texts.
use Rattle.std.specs.Prelude.{◌≡◌, ℕ, List, [], ◌∷◌, ◌++◌}
use Rattle.hr_base.specs.declared.lexeme.Items.{Items}
use Rattle.hr_rules.specs.Lexemes.{LexesText}
use Rattle.hr_tree.specs.Yields.{items_of}
use Rattle.hr_tree.specs.declared.modules.Module.{Module}

-- the text has the lexemes of the tree, with the blanks and comments that the tree keeps with them
abbrev pub IsTextOf : List ℕ → Module → Type 0
IsTextOf text tree = LexesText text (items_of tree)

-- each text is that of the tree in its place; behind them more trees may stand
abbrev pub AreTextsOf : List (List ℕ) → List Module → Type 0
AreTextsOf [] trees = Unit {0}
AreTextsOf (text ∷ texts) [] = ⊥
AreTextsOf (text ∷ texts) (tree ∷ trees) = IsTextOf text tree × AreTextsOf texts trees

-- a tree with the items stands behind those that there were
abbrev pub IsRead : Items → List Module → List Module → Type 0
IsRead items before after = (tree : Module) × (after ≡ before ++ tree ∷ []) × (items_of tree ≡ items)

-- a tree of the text stands behind those that there were
abbrev pub IsOneMore : List ℕ → List Module → List Module → Type 0
IsOneMore text before after = (tree : Module) × (after ≡ before ++ tree ∷ []) × IsTextOf text tree
