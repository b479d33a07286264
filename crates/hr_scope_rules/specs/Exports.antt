-- What is in scope in a module, and what it exports: the Haskell 98 Report, sections 5.2, 5.3 and 5.5. A module is
-- named by its number in the list of modules.
use Rattle.std.specs.Prelude.{ℕ, zero, suc, ◌≡◌, ◌⊎◌, false, List, length, Option, Some, None, Contains, slice_get}
use lib.Chars.{codes}
use Rattle.hr_base.specs.declared.bind.Entity.{Entity}
use Rattle.hr_base.specs.declared.bind.Name.{Name}
use Rattle.hr_base.specs.declared.bind.Space.{Space}
use Rattle.hr_base.specs.declared.lexeme.Item.{Item}
use Rattle.hr_tree.specs.declared.names.Variable.{Variable}
use Rattle.hr_tree.specs.declared.modules.NameList.{NameList}
use Rattle.hr_tree.specs.declared.modules.Export.{Export}
use Rattle.hr_tree.specs.declared.modules.Header.{Header}
use Rattle.hr_tree.specs.declared.modules.Module.{Module}
use Rattle.hr_scope_rules.specs.Names.{name_of, plain_name}
use Rattle.hr_scope_rules.specs.Modules.{module_name, own_entities, IsPart, IsNamed}
use Rattle.hr_scope_rules.specs.Imports.{Access, accesses, Brings, Selects, parts_of}

-- which entities the modules export
abbrev pub Family : Type 1
Family = ℕ → Entity → Type 0

-- An entity is in scope under a qualifier, or under none, by its own spelling. Of the modules that are imported,
-- `Exported` says what they export.
pub data InScopeOver (modules : List Module) (Exported : Family) (number : ℕ) : Option (List ℕ) → Entity → Type 0 where
  -- a module's own definitions are in scope as `e` and as `M.e` (section 5.5.1)
  own : (tree : Module) (entity : Entity) → slice_get modules number ≡ Some tree → Contains (own_entities tree) entity → InScopeOver modules Exported number None entity
  own_qualified : (tree : Module) (entity : Entity) → slice_get modules number ≡ Some tree → Contains (own_entities tree) entity
      → InScopeOver modules Exported number (Some (module_name tree)) entity
  -- an import brings `e`, unless it is qualified, and `Q.e` (section 5.3.2)
  imported : (tree : Module) (access : Access) (origin : ℕ) (from : Module) (entity : Entity)
      → slice_get modules number ≡ Some tree → Contains (accesses tree) access → slice_get modules origin ≡ Some from → module_name from ≡ access.origin
      → Brings (Exported origin) (IsPart modules) access entity → access.qualified ≡ false → InScopeOver modules Exported number None entity
  imported_qualified : (tree : Module) (access : Access) (origin : ℕ) (from : Module) (entity : Entity)
      → slice_get modules number ≡ Some tree → Contains (accesses tree) access → slice_get modules origin ≡ Some from → module_name from ≡ access.origin
      → Brings (Exported origin) (IsPart modules) access entity → InScopeOver modules Exported number (Some access.qualifier) entity

-- the scope of a module
abbrev pub Scope : Type 1
Scope = Option (List ℕ) → Entity → Type 0

abbrev pub lexeme_of : Variable → Item
lexeme_of (Variable.Name name) = name
lexeme_of (Variable.Symbol left symbol right) = symbol

-- the name stands for the entity in the scope
abbrev pub StandsFor : Scope → Space → Name → Entity → Type 0
StandsFor Scoped space name entity = Scoped name.qualifier entity × IsNamed space name.text entity

-- an export item brings the entity out (section 5.2); a constructor may be in scope under any name
abbrev pub ItemExports : (modules : List Module) → Scope → Export → Entity → Type 0
ItemExports modules Scoped (Export.Variable variable) entity = StandsFor Scoped Space.Value (name_of (lexeme_of variable).lexeme) entity
ItemExports modules Scoped (Export.Type name members) entity =
    StandsFor Scoped Space.TypeName (name_of name.lexeme) entity
    ⊎ ((ty : Entity) × StandsFor Scoped Space.TypeName (name_of name.lexeme) ty × IsPart modules ty entity × Selects members entity.text
    × ((qualifier : Option (List ℕ)) × Scoped qualifier entity))
ItemExports modules Scoped (Export.«Module» word name) entity = Scoped None entity × Scoped (Some name.lexeme.text) entity

-- without a header `main` is exported; without a list all local definitions are
abbrev pub ListExports : (modules : List Module) → Scope → Module → Option (NameList Export) → Entity → Type 0
ListExports modules Scoped tree None entity = Contains (own_entities tree) entity
ListExports modules Scoped tree (Some names) entity = (item : Export) × Contains (parts_of names.list) item × ItemExports modules Scoped item entity

abbrev pub HeaderExports : (modules : List Module) → Scope → Module → Option Header → Entity → Type 0
HeaderExports modules Scoped tree None entity = StandsFor Scoped Space.Value (plain_name (codes "main")) entity
HeaderExports modules Scoped tree (Some header) entity = ListExports modules Scoped tree header.exports entity

abbrev pub ExportsOver : (modules : List Module) → Family → Family
ExportsOver modules Exported number entity =
    (tree : Module) × (slice_get modules number ≡ Some tree) × HeaderExports modules (InScopeOver modules Exported number) tree tree.header entity

-- by so many imports one behind the other
abbrev pub ExportsAt : (modules : List Module) → ℕ → Family
ExportsAt modules zero = λ number entity. ⊥
ExportsAt modules (suc depth) = ExportsOver modules (ExportsAt modules depth)

-- imports have no cycle, so no chain of them is longer than the list of modules
abbrev pub Exports : (modules : List Module) → Family
Exports modules = ExportsAt modules (length modules)

abbrev pub InScope : (modules : List Module) → ℕ → Scope
InScope modules = InScopeOver modules (Exports modules)
