-- What a project is made of.
use Rattle.std.specs.Prelude.{ℕ, List, Option}
use Rattle.hr_base.specs.declared.bind.Binder.{Binder}
use Rattle.hr_tree.specs.declared.modules.Module.{Module}
use Rattle.hr_check.specs.declared.project.Project.{Project}

-- the texts of its modules, without Prelude and Char
abbrev pub texts_of : Project → List (List ℕ)
texts_of project = project.texts.items

-- the trees of its modules, Prelude and Char last
abbrev pub modules_of : Project → List Module
modules_of project = project.trees.items

-- what each name is bound to, by the modules and their lexemes
abbrev pub bindings_of : Project → List (List (Option Binder))
bindings_of project = project.bindings.modules
