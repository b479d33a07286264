-- An accepted rename.
use Rattle.std.specs.Prelude.{ℕ, List, length}
use Rattle.hr_base.specs.declared.bind.Binder.{Binder}
use Rattle.hr_base.specs.declared.place.Pos.{Pos}
use Rattle.hr_check.specs.Projects.{bindings_of, modules_of, texts_of}
use Rattle.hr_check.specs.declared.project.Project.{Project}
use Rattle.hr_rename.specs.Named.{IsNamed}
use Rattle.hr_rename_target.specs.Renamed.{AreRenamed}
use Rattle.hr_tree_items.specs.Texts.{AreTextsOf}

-- The project after it has what is named at the position renamed, and nothing else: each module has the lexemes of before
-- with every occurrence respelled, the blanks and comments of before, and its names bound to the same as before. Its texts
-- are those of its modules.
pub record IsRename (old new : Project) (module_name : List ℕ) (pos : Pos) (new_name : List ℕ) : Type 0 where
  pub binder : Binder
  pub named : IsNamed (length (texts_of old)) (modules_of old) (bindings_of old) module_name pos binder
  pub renamed : AreRenamed binder new_name (modules_of old) (modules_of new) (bindings_of old) (bindings_of new)
  pub read : AreTextsOf (texts_of new) (modules_of new)
