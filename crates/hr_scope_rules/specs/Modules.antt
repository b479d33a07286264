-- Modules: their names, what they declare at top level, and the constructors of types: the Haskell 98 Report,
-- chapter 5 and section 4.2.
use Rattle.std.specs.Prelude.{ℕ, ◌≡◌, List, [], ◌∷◌, ◌++◌, if◌then◌else◌, Option, Some, None, Contains, slice_get}
use Rattle.std.specs.List.{flat_map}
use Rattle.std.specs.Str.{bytes_eq}
use lib.Chars.{codes}
use Rattle.hr_base.specs.declared.bind.Entity.{Entity}
use Rattle.hr_base.specs.declared.bind.Space.{Space}
use Rattle.hr_tree.specs.declared.names.Constructor.{Constructor}
use Rattle.hr_tree.specs.declared.modules.Header.{Header}
use Rattle.hr_tree.specs.declared.modules.Module.{Module}
use Rattle.hr_scope_rules.specs.declared.role.Role.{Role}
use Rattle.hr_scope_rules.specs.Regions.{Region, Placed, lexemes}

abbrev pub main_module : List ℕ
main_module = codes "Main"

abbrev pub prelude : List ℕ
prelude = codes "Prelude"

-- a module without a header is Main (section 5.1)
abbrev pub header_name : Option Header → List ℕ
header_name None = main_module
header_name (Some header) = header.name.lexeme.text

abbrev pub module_name : Module → List ℕ
module_name tree = header_name tree.header

abbrev pub entity_of : List ℕ → Space → List ℕ → Entity
entity_of origin space text = record { «module» = origin; space = space; text = text }

-- an entity has the space and the spelling
pub record IsNamed (space : Space) (text : List ℕ) (entity : Entity) : Type 0 where
  pub space_is : entity.space ≡ space
  pub text_is : entity.text ≡ text

-- what a lexeme declares at top level, where it declares something
abbrev pub declared_by : List ℕ → Role → List Region → List ℕ → List Entity
declared_by origin (Role.Declares space) [] text = entity_of origin space text ∷ []
declared_by origin role regions text = []

abbrev pub declared_at : List ℕ → Placed → List Entity
declared_at origin mark = declared_by origin mark.role mark.regions mark.item.lexeme.text

-- Int and Char are types of Prelude, though nothing declares them
abbrev pub undeclared_of : List ℕ → List Entity
undeclared_of origin =
    if bytes_eq origin prelude then entity_of prelude Space.TypeName (codes "Int") ∷ entity_of prelude Space.TypeName (codes "Char") ∷ [] else []

-- the top-level things of a module
abbrev pub own_entities : Module → List Entity
own_entities tree = undeclared_of (module_name tree) ++ flat_map (declared_at (module_name tree)) (lexemes tree)

-- each constructor of the module with its type: the type's declaration is the last one of a type before it
abbrev pub constructed : List ℕ → List Placed → List (List ℕ × List ℕ)
constructed ty [] = []
constructed ty (mark ∷ rest) = by mark.role mark.regions (constructed mark.item.lexeme.text rest) (constructed ty rest) where
  by : Role → List Region → List (List ℕ × List ℕ) → List (List ℕ × List ℕ) → List (List ℕ × List ℕ)
  by (Role.Declares Space.TypeName) [] of_this of_that = of_this
  by (Role.Declares Space.Constructor) [] of_this of_that = (ty, mark.item.lexeme.text) ∷ of_that
  by role regions of_this of_that = of_that

-- an entity is a constructor of a type: a part of it, which a list can name with it
pub record IsPart (modules : List Module) (ty : Entity) (part : Entity) : Type 0 where
  pub number : ℕ
  pub tree : Module
  pub at : slice_get modules number ≡ Some tree
  pub type_is : ty ≡ entity_of (module_name tree) Space.TypeName ty.text
  pub part_is : part ≡ entity_of (module_name tree) Space.Constructor part.text
  pub constructed_by : Contains (constructed [] (lexemes tree)) (ty.text, part.text)

-- the spelling of a constructor that a list names
abbrev pub constructor_text : Constructor → List ℕ
constructor_text (Constructor.Name name) = name.lexeme.text
constructor_text (Constructor.Symbol left symbol right) = symbol.lexeme.text
constructor_text _ = []
