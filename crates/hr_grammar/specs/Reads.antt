-- What it is for the bytes of a text to be read as a tree.
use Rattle.std.specs.Prelude.{ℕ, ◌≤◌, List, length}
use Rattle.hr_base.specs.Limits.{module_limit}
use Rattle.hr_rules.specs.Lexemes.{LexesText}
use Rattle.hr_tree.specs.declared.modules.Module.{Module}
use Rattle.hr_tree.specs.Yields.{items_of}
use Rattle.hr_grammar.specs.Yields.{Yields}
use Rattle.hr_grammar.specs.Offside.{Offside}

pub record Reads (bytes : List ℕ) (tree : Module) : Type 0 where
  pub short : length bytes ≤ module_limit
  pub lexes : LexesText bytes (items_of tree)
  pub yields : Yields tree (items_of tree)
  pub offside : Offside tree
