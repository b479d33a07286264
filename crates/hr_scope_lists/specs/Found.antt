-- What a lexeme may be bound to, by a plain function: the list of the binders that it has.
use Rattle.std.specs.Prelude.{ℕ, ◌+◌, ◌&&◌, ◌==◌, Bool, true, false, not, List, [], ◌∷◌, ◌++◌, if◌then◌else◌, map, filter, Option, Some, None, slice_get}
use Rattle.std.specs.List.{list_all, list_any}
use Rattle.std.specs.Str.{bytes_eq}
use Rattle.hr_base.specs.declared.bind.Binder.{Binder}
use Rattle.hr_base.specs.declared.bind.Entity.{Entity}
use Rattle.hr_base.specs.declared.bind.Name.{Name}
use Rattle.hr_base.specs.declared.bind.Space.{Space}
use Rattle.hr_base.specs.declared.place.Spot.{Spot}
use Rattle.hr_tree.specs.declared.modules.Module.{Module}
use Rattle.hr_scope_rules.specs.declared.role.Role.{Role}
use Rattle.hr_scope_rules.specs.Names.{name_of}
use Rattle.hr_scope_rules.specs.Regions.{Region, Placed, lexemes}
use Rattle.hr_scope_rules.specs.Modules.{module_name, own_entities, entity_of}
use Rattle.hr_scope_lists.specs.Scopes.{same_space, same_entity, is_named, is_part, all_parts, Scoped, standing, from_modules, exports_of, scope_of}

abbrev pub same_regions : List Region → List Region → Bool
same_regions [] [] = true
same_regions (a ∷ outer) (b ∷ others) = (a.0 == b.0 && a.1 == b.1) && same_regions outer others
same_regions _ _ = false

-- what of a mark says whether it declares a spelling somewhere
abbrev pub declares : Role → Space → Bool
declares (Role.Declares space) wanted = same_space space wanted
declares role wanted = false

abbrev pub declares_in : List Region → Space → List ℕ → Placed → Bool
declares_in regions space text mark = declares mark.role space && (same_regions mark.regions regions && bytes_eq mark.item.lexeme.text text)

-- the numbers of the lexemes that declare the spelling in the region
abbrev pub declarers : List Region → Space → List ℕ → ℕ → List Placed → List ℕ
declarers regions space text number [] = []
declarers regions space text number (mark ∷ rest) =
    (if declares_in regions space text mark then number ∷ [] else []) ++ declarers regions space text (number + 1) rest

-- the regions from the innermost one on that declares the spelling
abbrev pub innermost : List Placed → Space → List ℕ → List Region → List Region
innermost marks space text [] = []
innermost marks space text (region ∷ outer) =
    if list_any (declares_in (region ∷ outer) space text) marks then region ∷ outer else innermost marks space text outer

abbrev pub globals : List Entity → List Binder
globals entities = map Binder.Global entities

abbrev pub declared_there : Module → ℕ → List Region → Space → List ℕ → List Binder
declared_there tree number [] space text =
    let entity = entity_of (module_name tree) space text in
    if list_any (same_entity entity) (own_entities tree) then Binder.Global entity ∷ [] else []
declared_there tree number (region ∷ outer) space text =
    map (λ item. Binder.Local (record { «module» = number; item = item })) (declarers (region ∷ outer) space text 0 (lexemes tree))

-- the binders of a name that the innermost region of these declares; without a region those that are in scope
abbrev pub found_in : List Scoped → Module → ℕ → Space → Name → List Region → List Binder
found_in scope tree number space name [] = globals (standing scope space name)
found_in scope tree number space name (region ∷ outer) = declared_there tree number (region ∷ outer) space name.text

abbrev pub used_by : List Scoped → Module → ℕ → List Region → Space → Name → Option (List ℕ) → List Binder
used_by scope tree number regions space name (Some qualifier) = globals (standing scope space name)
used_by scope tree number regions space name None = found_in scope tree number space name (innermost (lexemes tree) space name.text regions)

abbrev pub used : List Scoped → Module → ℕ → List Region → Space → Name → List Binder
used scope tree number regions space name = used_by scope tree number regions space name name.qualifier

-- how the lexeme of that number is spelled, if there is one
abbrev pub spelling_of : Option Placed → Option Name
spelling_of None = None
spelling_of (Some mark) = Some (name_of mark.item.lexeme)

abbrev pub spelling_at : List Placed → ℕ → Option Name
spelling_at marks number = spelling_of (slice_get marks number)

abbrev pub named_exports : List Module → Option Name → List Entity
named_exports modules None = []
named_exports modules (Some name) = from_modules (exports_of modules) 0 modules name.text

abbrev pub exported_by : List Module → Module → ℕ → List Entity
exported_by modules tree lexeme = named_exports modules (spelling_at (lexemes tree) lexeme)

-- the types for which the name stands, and those of its spelling
abbrev pub types_standing : List Scoped → Option Name → List Entity
types_standing scope None = []
types_standing scope (Some name) = standing scope Space.TypeName name

abbrev pub types_named : List Entity → Option Name → List Entity
types_named entities None = []
types_named entities (Some name) = filter (is_named Space.TypeName name.text) entities

abbrev pub is_constructor : Entity → Bool
is_constructor entity = same_space entity.space Space.Constructor

abbrev pub is_value_or_type : List ℕ → Entity → Bool
is_value_or_type text entity = not (is_constructor entity) && bytes_eq entity.text text

abbrev pub first_or : List Entity → List Entity → List Entity
first_or [] others = others
first_or (entity ∷ rest) others = entity ∷ rest

-- what a name in a hiding list is bound to
abbrev pub hidden : List Entity → List ℕ → List Entity
hidden exported text = first_or (filter (is_value_or_type text) exported) (filter (is_named Space.Constructor text) exported)

-- the parts of types that have a spelling
abbrev pub parts_named : List Module → List Entity → List ℕ → List Entity → List Entity
parts_named modules types text entities =
    filter (λ entity. bytes_eq entity.text text && list_any (λ ty. is_part (all_parts modules) ty entity) types) entities

abbrev pub listed : List Module → Module → Role → Name → List Entity
listed modules tree (Role.Exported space) name = standing (scope_of modules tree) space name
listed modules tree (Role.ExportedPart ty) name =
    parts_named modules (types_standing (scope_of modules tree) (spelling_at (lexemes tree) ty)) name.text (map (λ one. one.1) (scope_of modules tree))
listed modules tree (Role.Imported origin space) name = filter (is_named space name.text) (exported_by modules tree origin)
listed modules tree (Role.ImportedPart origin ty) name =
    parts_named modules (types_named (exported_by modules tree origin) (spelling_at (lexemes tree) ty)) name.text (exported_by modules tree origin)
listed modules tree (Role.Hidden origin) name = hidden (exported_by modules tree origin) name.text
listed modules tree _ name = []

-- the binders that a lexeme may have, by its role
abbrev pub candidates_by : List Module → ℕ → Module → List Region → Name → Role → List Binder
candidates_by modules number tree regions name Role.Plain = []
candidates_by modules number tree regions name Role.Parameter = []
candidates_by modules number tree regions name (Role.Uses space) = used (scope_of modules tree) tree number regions space name
candidates_by modules number tree regions name (Role.Declares space) = declared_there tree number regions space name.text
candidates_by modules number tree regions name Role.GoesOn = declared_there tree number regions Space.Value name.text
candidates_by modules number tree regions name Role.Signs = declared_there tree number regions Space.Value name.text
candidates_by modules number tree regions name (Role.Fixes space) = declared_there tree number regions space name.text
candidates_by modules number tree regions name role = globals (listed modules tree role name)

abbrev pub candidates : List Module → ℕ → Module → Placed → List Binder
candidates modules number tree mark = candidates_by modules number tree mark.regions (name_of mark.item.lexeme) mark.role

-- the binders of all lexemes of a module, in order
abbrev pub all_candidates : List Module → ℕ → Module → List (List Binder)
all_candidates modules number tree = map (candidates modules number tree) (lexemes tree)

abbrev pub same_binder : Binder → Binder → Bool
same_binder (Binder.Global a) (Binder.Global b) = same_entity a b
same_binder (Binder.Local a) (Binder.Local b) = a.«module» == b.«module» && a.item == b.item
same_binder _ _ = false

-- the binder that all of a list are, if the list has one
abbrev pub only_of : List Binder → Option Binder
only_of [] = None
only_of (binder ∷ rest) = if list_all (same_binder binder) rest then Some binder else None

abbrev pub binder_of_mark : List Module → ℕ → Module → Option Placed → Option Binder
binder_of_mark modules number tree None = None
binder_of_mark modules number tree (Some mark) = only_of (candidates modules number tree mark)

abbrev pub binder_in : List Module → Spot → Option Module → Option Binder
binder_in modules spot None = None
binder_in modules spot (Some tree) = binder_of_mark modules spot.«module» tree (slice_get (lexemes tree) spot.item)

-- what the lexeme at a spot is bound to, if it is bound to one thing
abbrev pub binder_at : List Module → Spot → Option Binder
binder_at modules spot = binder_in modules spot (slice_get modules spot.«module»)
