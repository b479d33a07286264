-- What a position of a module names.
use Rattle.std.specs.Prelude.{◌≡◌, ℕ, ◌<◌, List, codes, min, slice_get, position, Option, Some, None}
use Rattle.std.specs.Option.{option_map}
use Rattle.hr_base.specs.declared.bind.Binder.{Binder}
use Rattle.hr_base.specs.declared.place.Pos.{Pos}
use Rattle.hr_base.specs.declared.place.Spot.{Spot}
use Rattle.hr_rules.specs.Counted.{greatest}
use Rattle.hr_rules.specs.Positions.{is_same_pos, positions_of}
use Rattle.hr_tree.specs.Yields.{module_items}
use Rattle.hr_tree.specs.declared.modules.Header.{Header}
use Rattle.hr_tree.specs.declared.modules.Module.{Module}
use Rattle.hr_step.specs.Names.{binder_at}

-- the name in a header; a module without one is Main (the Report, 5.1)
abbrev pub header_name : Option Header → List ℕ
header_name None = codes "Main"
header_name (Some header) = header.name.lexeme.text

abbrev pub name_of : Module → List ℕ
name_of tree = header_name tree.header

-- the number of the lexeme that begins at the position; no module has more lexemes than numbers go
abbrev pub number_at : Module → Pos → Option ℕ
number_at tree pos = option_map (min greatest) (position (is_same_pos pos) (positions_of (module_items tree)))

-- the module of that number is one of so many files, and has the name
pub record IsModule (files : ℕ) (modules : List Module) (name : List ℕ) (number : ℕ) (tree : Module) : Type 0 where
  pub within : number < files
  pub there : slice_get modules number ≡ Some tree
  pub named : name ≡ name_of tree

-- the lexeme is the one that begins at the position of the module
abbrev pub IsAt : ℕ → List Module → List ℕ → Pos → Spot → Type 0
IsAt files modules name pos spot = (tree : Module) × IsModule files modules name spot.«module» tree × (number_at tree pos ≡ Some spot.item)

-- what the lexeme that begins at the position of the module is bound to
abbrev pub IsNamed : ℕ → List Module → List (List (Option Binder)) → List ℕ → Pos → Binder → Type 0
IsNamed files modules bindings name pos binder = (spot : Spot) × IsAt files modules name pos spot × (binder_at bindings spot ≡ Some binder)
