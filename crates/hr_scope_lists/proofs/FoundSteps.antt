-- The list of the binders that a lexeme may have is the relation.
use Rattle.std.proofs.Common.{◌≡◌, ℕ, ◌+◌, List, [], ◌∷◌, map, Bool, true, false, not, ◌&&◌, ◌≢◌, refl, sym, ◌∙◌, ap, subst, arith, Some, None, true≢false}
use Rattle.std.specs.Prelude.{Option, Contains, slice_get, filter, ◌↔◌, if◌then◌else◌}
use Rattle.std.specs.Bool.{Decides}
use Rattle.std.specs.List.{list_any}
use Rattle.std.specs.Str.{bytes_eq}
use Rattle.std.proofs.lemmas.Bool.Decides.{Decides-and, Decides-like, Decides-not}
use Rattle.std.proofs.lemmas.Slice.Eq.{bytes_eq-Decides}
use Rattle.hr_base.specs.declared.bind.Binder.{Binder}
use Rattle.hr_base.specs.declared.bind.Entity.{Entity}
use Rattle.hr_base.specs.declared.bind.Name.{Name}
use Rattle.hr_base.specs.declared.bind.Space.{Space}
use Rattle.hr_tree.specs.declared.modules.Module.{Module}
use Rattle.hr_scope_rules.specs.declared.role.Role.{Role}
use Rattle.hr_scope_rules.specs.Names.{name_of}
use Rattle.hr_scope_rules.specs.Regions.{Region, Placed, lexemes}
use Rattle.hr_scope_rules.specs.Modules.{module_name, own_entities, entity_of, IsPart, IsNamed}
use Rattle.hr_scope_rules.specs.Exports.{InScope, StandsFor}
use Rattle.hr_scope_rules.specs.Binds.{Innermost, DeclaredThere, Global, Used, IsSpelled, ExportedBy, HiddenBy, PartOf, Listed, Candidate}
use Rattle.hr_scope_rules.specs.Binds.HiddenBy.{value_or_type, constructor_alone}
use Rattle.hr_scope_lists.specs.Scopes.{Scoped, same_space, same_entity, is_named, is_part, all_parts, standing, exports_of, scope_of}
use Rattle.hr_scope_lists.specs.Found.{declarers, innermost, globals, declared_there, found_in, used_by, spelling_of, spelling_at, named_exports, exported_by, types_standing, types_named, is_constructor, is_value_or_type, first_or, hidden, parts_named, listed, candidates}
use Rattle.hr_scope_lists.proofs.Members.{none, here, single, in_map, from_map, in_filter, from_filter, any_decides, same_some}
use Rattle.hr_scope_lists.proofs.Tests.{space_decides, entity_decides, named_decides}
use Rattle.hr_scope_lists.proofs.Parts.{part_decides}
use Rattle.hr_scope_lists.proofs.ScopeSteps.{from_modules_of, in_modules_of}
use Rattle.hr_scope_lists.proofs.ExportSteps.{standing_agrees, any_agrees}
use Rattle.hr_scope_lists.proofs.RegionSteps.{innermost_is, innermost_only, declarers_sound, declarers_complete}
use Rattle.hr_scope_lists.proofs.Levels.{exports_agree, scopes_agree}

-- a binder of the name that the regions found declare; without a region one that is in scope
abbrev FoundIn : (modules : List Module) → ℕ → Module → Space → Name → Binder → List Region → Type 0
FoundIn modules number tree space name binder [] = Global modules number space name binder
FoundIn modules number tree space name binder (region ∷ outer) = DeclaredThere tree number (region ∷ outer) space name.text binder

-- a list of binders that is made of one of entities
globals_agree : (entities : List Entity) (Names : Entity → Type 0) → ((entity : Entity) → Contains entities entity ↔ Names entity)
    → (binder : Binder) → Contains (globals entities) binder ↔ ((entity : Entity) × Names entity × (binder ≡ Binder.Global entity))
globals_agree entities Names agree binder = (
  (λ h. let found = from_map Binder.Global entities binder h in (found.0, (agree found.0).0 found.1, sym found.2)),
  (λ h. subst (Contains (globals entities)) (sym h.2) (in_map Binder.Global entities h.0 ((agree h.0).1 h.1))),
)

declared_at_top : (tree : Module) (space : Space) (text : List ℕ) → Decides (list_any (same_entity (entity_of (module_name tree) space text)) (own_entities tree)) (Contains (own_entities tree) (entity_of (module_name tree) space text))
declared_at_top tree space text =
    let entity : Entity = entity_of (module_name tree) space text in
    Decides-like (list_any (same_entity entity) (own_entities tree))
    (λ h. subst (Contains (own_entities tree)) (sym h.2) h.1)
    (λ h. (entity, h, refl))
    (any_decides (same_entity entity) (λ other. entity ≡ other) (λ other. entity_decides entity other) (own_entities tree))

declared_agrees : (tree : Module) (number : ℕ) (regions : List Region) (space : Space) (text : List ℕ) (binder : Binder)
    → Contains (declared_there tree number regions space text) binder ↔ DeclaredThere tree number regions space text binder
declared_agrees tree number [] space text binder = (by (list_any (same_entity (entity_of (module_name tree) space text)) (own_entities tree)) refl, has)
  where
    by : (b : Bool) → list_any (same_entity (entity_of (module_name tree) space text)) (own_entities tree) ≡ b
        → Contains (if b then Binder.Global (entity_of (module_name tree) space text) ∷ [] else []) binder → DeclaredThere tree number [] space text binder
    by true e h = (sym (single (Binder.Global (entity_of (module_name tree) space text)) binder h), (declared_at_top tree space text).0 e)
    by false e h = absurd (none binder h)

    has : DeclaredThere tree number [] space text binder → Contains (declared_there tree number [] space text) binder
    has h =
        let test = (declared_at_top tree space text).1 h.1 in
        let one : Binder = Binder.Global (entity_of (module_name tree) space text) in
        subst (λ (b : Bool). Contains (if b then one ∷ [] else []) binder) (sym test) (subst (Contains (one ∷ [])) (sym h.0) (here one []))
declared_agrees tree number (region ∷ outer) space text binder = (
  (λ h.
      let found = from_map (λ (item : ℕ). Binder.Local (record { «module» = number; item = item })) (declarers (region ∷ outer) space text 0 (lexemes tree)) binder h in
      let d = declarers_sound (region ∷ outer) space text 0 (lexemes tree) found.0 found.1 in
      let place : d.0 ≡ found.0 = omega (arith, d.1) in
      (d.0, d.2, sym found.2 ∙ ap (λ (n : ℕ). Binder.Local (record { «module» = number; item = n })) (sym place))),
  (λ h.
      let listed_at = declarers_complete (region ∷ outer) space text 0 (lexemes tree) h.0 h.1 in
      let place : 0 + h.0 ≡ h.0 = omega arith in
      let item_at : Contains (declarers (region ∷ outer) space text 0 (lexemes tree)) h.0 = subst (Contains (declarers (region ∷ outer) space text 0 (lexemes tree))) place listed_at in
      subst (Contains (declared_there tree number (region ∷ outer) space text)) (sym h.2)
      (in_map (λ (item : ℕ). Binder.Local (record { «module» = number; item = item })) (declarers (region ∷ outer) space text 0 (lexemes tree)) h.0 item_at)),
)

module _ (modules : List Module) (number : ℕ) (tree : Module) (at : slice_get modules number ≡ Some tree) where
  in_scope : (one : Scoped) → Contains (scope_of modules tree) one ↔ InScope modules number one.0 one.1
  in_scope one = scopes_agree modules number tree one.0 one.1 at

  stands : (space : Space) (name : Name) (entity : Entity) → Contains (standing (scope_of modules tree) space name) entity ↔ StandsFor (InScope modules number) space name entity
  stands space name entity = standing_agrees modules (scope_of modules tree) (InScope modules number) in_scope space name entity

  global_agrees : (space : Space) (name : Name) (binder : Binder) → Contains (globals (standing (scope_of modules tree) space name)) binder ↔ Global modules number space name binder
  global_agrees space name binder = globals_agree (standing (scope_of modules tree) space name) (StandsFor (InScope modules number) space name) (stands space name) binder

  found_sound : (space : Space) (name : Name) (binder : Binder) (found : List Region) → Contains (found_in (scope_of modules tree) tree number space name found) binder → FoundIn modules number tree space name binder found
  found_sound space name binder [] h = (global_agrees space name binder).0 h
  found_sound space name binder (region ∷ outer) h = (declared_agrees tree number (region ∷ outer) space name.text binder).0 h

  found_complete : (space : Space) (name : Name) (binder : Binder) (found : List Region) → FoundIn modules number tree space name binder found → Contains (found_in (scope_of modules tree) tree number space name found) binder
  found_complete space name binder [] h = (global_agrees space name binder).1 h
  found_complete space name binder (region ∷ outer) h = (declared_agrees tree number (region ∷ outer) space name.text binder).1 h

  used_agrees : (regions : List Region) (space : Space) (qualifier : Option (List ℕ)) (text : List ℕ) (binder : Binder)
      → Contains (used_by (scope_of modules tree) tree number regions space (record { qualifier = qualifier; text = text }) qualifier) binder
      ↔ Used modules number tree regions space (record { qualifier = qualifier; text = text }) binder
  used_agrees regions space (Some qualifier) text binder = global_agrees space (record { qualifier = Some qualifier; text = text }) binder
  used_agrees regions space None text binder = (sound, complete)
    where
      sound : Contains (used_by (scope_of modules tree) tree number regions space (record { qualifier = None; text = text }) None) binder
          → Used modules number tree regions space (record { qualifier = None; text = text }) binder
      sound h =
          by (innermost (lexemes tree) space text regions) (innermost_is (lexemes tree) space text regions)
          (found_sound space (record { qualifier = None; text = text }) binder (innermost (lexemes tree) space text regions) h)
        where
          by : (found : List Region) → Innermost (lexemes tree) space text regions found → FoundIn modules number tree space (record { qualifier = None; text = text }) binder found
              → Used modules number tree regions space (record { qualifier = None; text = text }) binder
          by [] is h = ([], is, h)
          by (region ∷ outer) is h = (region ∷ outer, is, h)

      complete : Used modules number tree regions space (record { qualifier = None; text = text }) binder
          → Contains (used_by (scope_of modules tree) tree number regions space (record { qualifier = None; text = text }) None) binder
      complete h =
          let name : Name = record { qualifier = None; text = text } in
          subst (λ (found : List Region). Contains (found_in (scope_of modules tree) tree number space name found) binder) (innermost_only (lexemes tree) space text regions h.0 h.1)
          (found_complete space name binder h.0 h.2)

  -- how the lexeme of a number is spelled
  spelling_sound : (lexeme : ℕ) (name : Name) → spelling_at (lexemes tree) lexeme ≡ Some name → IsSpelled tree lexeme name
  spelling_sound lexeme name e = by (slice_get (lexemes tree) lexeme) refl e
    where
      by : (o : Option Placed) → slice_get (lexemes tree) lexeme ≡ o → spelling_of o ≡ Some name → IsSpelled tree lexeme name
      by None is e = let clash : ◌≡◌ {A = Option Name} None (Some name) = e in cc
      by (Some mark) is e = (mark, is, same_some (name_of mark.item.lexeme) name e)

  spelling_complete : (lexeme : ℕ) (name : Name) → IsSpelled tree lexeme name → spelling_at (lexemes tree) lexeme ≡ Some name
  spelling_complete lexeme name h = ap spelling_of h.1 ∙ ap Some h.2

  exported_sound : (lexeme : ℕ) (entity : Entity) → Contains (exported_by modules tree lexeme) entity → ExportedBy modules tree lexeme entity
  exported_sound lexeme entity h = by (spelling_at (lexemes tree) lexeme) refl h
    where
      by : (o : Option Name) → spelling_at (lexemes tree) lexeme ≡ o → Contains (named_exports modules o) entity → ExportedBy modules tree lexeme entity
      by None is g = absurd (none entity g)
      by (Some name) is g =
          let found = from_modules_of (exports_of modules) 0 modules name.text entity g in
          let place : 0 + found.0 ≡ found.0 = omega arith in
          let inside : Contains (exports_of modules found.0) entity = subst (λ n. Contains (exports_of modules n) entity) place found.4 in
          (found.0, found.1, found.2, name, spelling_sound lexeme name is, found.3, (exports_agree modules found.0 entity).0 inside)

  exported_complete : (lexeme : ℕ) (entity : Entity) → ExportedBy modules tree lexeme entity → Contains (exported_by modules tree lexeme) entity
  exported_complete lexeme entity h =
      let place : h.0 ≡ 0 + h.0 = omega arith in
      let inside : Contains (exports_of modules (0 + h.0)) entity = subst (λ n. Contains (exports_of modules n) entity) place ((exports_agree modules h.0 entity).1 h.6) in
      subst (λ (o : Option Name). Contains (named_exports modules o) entity) (sym (spelling_complete lexeme h.3 h.4))
      (in_modules_of (exports_of modules) 0 modules h.3.text entity h.0 h.1 h.2 h.5 inside)

  exported_by_agrees : (lexeme : ℕ) (entity : Entity) → Contains (exported_by modules tree lexeme) entity ↔ ExportedBy modules tree lexeme entity
  exported_by_agrees lexeme entity = (exported_sound lexeme entity, exported_complete lexeme entity)

  named_agrees : (lexeme : ℕ) (space : Space) (text : List ℕ) (entity : Entity)
      → Contains (filter (is_named space text) (exported_by modules tree lexeme)) entity ↔ (ExportedBy modules tree lexeme entity × IsNamed space text entity)
  named_agrees lexeme space text entity = (
    (λ h.
        let passing = from_filter (is_named space text) (exported_by modules tree lexeme) entity h in
        (exported_sound lexeme entity passing.0, (named_decides space text entity).0 passing.1)),
    (λ h. in_filter (is_named space text) (exported_by modules tree lexeme) entity (exported_complete lexeme entity h.0) ((named_decides space text entity).1 h.1)),
  )

  -- what a hiding list's name is bound to
  value_or_type_decides : (text : List ℕ) (entity : Entity) → Decides (is_value_or_type text entity) ((entity.space ≢ Space.Constructor) × (entity.text ≡ text))
  value_or_type_decides text entity =
      Decides-and (not (is_constructor entity)) (bytes_eq entity.text text) (Decides-not (is_constructor entity) (space_decides entity.space Space.Constructor)) (bytes_eq-Decides entity.text text)

  -- a space that can't be another one is this one
  constructor_of : (other : Entity) → ((other.space ≢ Space.Constructor) → ⊥) → other.space ≡ Space.Constructor
  constructor_of other twice = split_on (same_space other.space Space.Constructor) refl
    where
      split_on : (b : Bool) → same_space other.space Space.Constructor ≡ b → other.space ≡ Space.Constructor
      split_on true e = (space_decides other.space Space.Constructor).0 e
      split_on false e = absurd (twice (λ is. true≢false (sym ((space_decides other.space Space.Constructor).1 is) ∙ e)))

  hidden_sound : (origin : ℕ) (text : List ℕ) (entity : Entity) → Contains (hidden (exported_by modules tree origin) text) entity → HiddenBy modules tree origin text entity
  hidden_sound origin text entity h = by (filter (is_value_or_type text) (exported_by modules tree origin)) refl h
    where
      by : (others : List Entity) → filter (is_value_or_type text) (exported_by modules tree origin) ≡ others
          → Contains (first_or others (filter (is_named Space.Constructor text) (exported_by modules tree origin))) entity → HiddenBy modules tree origin text entity
      by [] is g =
          let named = (named_agrees origin Space.Constructor text entity).0 g in
          constructor_alone entity named.0 named.1
          (λ other exports spelled_so. constructor_of other (λ other_space.
          none other (subst (λ (xs : List Entity). Contains xs other) is
          (in_filter (is_value_or_type text) (exported_by modules tree origin) other (exported_complete origin other exports) ((value_or_type_decides text other).1 (other_space, spelled_so))))))
      by (first ∷ rest) is g =
          let passing = from_filter (is_value_or_type text) (exported_by modules tree origin) entity (subst (λ (xs : List Entity). Contains xs entity) (sym is) g) in
          let holds = (value_or_type_decides text entity).0 passing.1 in
          value_or_type entity (exported_sound origin entity passing.0) holds.1 holds.0

  hidden_complete : (origin : ℕ) (text : List ℕ) (entity : Entity) → HiddenBy modules tree origin text entity → Contains (hidden (exported_by modules tree origin) text) entity
  hidden_complete origin text thing (value_or_type entity exports spelled_so space_is) =
      kept_first (filter (is_value_or_type text) (exported_by modules tree origin)) (filter (is_named Space.Constructor text) (exported_by modules tree origin)) entity
      (in_filter (is_value_or_type text) (exported_by modules tree origin) entity (exported_complete origin entity exports) ((value_or_type_decides text entity).1 (space_is, spelled_so)))
    where
      kept_first : (xs ys : List Entity) (x : Entity) → Contains xs x → Contains (first_or xs ys) x
      kept_first [] ys x h = absurd (none x h)
      kept_first (first ∷ rest) ys x h = h
  hidden_complete origin text thing (constructor_alone entity exports named alone) =
      only_second (filter (is_value_or_type text) (exported_by modules tree origin)) (filter (is_named Space.Constructor text) (exported_by modules tree origin)) entity
      (λ other h.
      let passing = from_filter (is_value_or_type text) (exported_by modules tree origin) other h in
      let holds = (value_or_type_decides text other).0 passing.1 in
      holds.0 (alone other (exported_sound origin other passing.0) holds.1))
      ((named_agrees origin Space.Constructor text entity).1 (exports, named))
    where
      only_second : (xs ys : List Entity) (x : Entity) → ((other : Entity) → Contains xs other → ⊥) → Contains ys x → Contains (first_or xs ys) x
      only_second [] ys x no_one h = h
      only_second (first ∷ rest) ys x no_one h = absurd (no_one first (here first rest))

  -- the constructors that a list names with their type
  parts_agree : (types entities : List Entity) (IsType Among : Entity → Type 0) → ((ty : Entity) → Contains types ty ↔ IsType ty) → ((entity : Entity) → Contains entities entity ↔ Among entity)
      → (text : List ℕ) (entity : Entity) → Contains (parts_named modules types text entities) entity ↔ (PartOf modules IsType text entity × Among entity)
  parts_agree types entities IsType Among types_are among text entity = (
    (λ h.
        let passing = from_filter (λ (e : Entity). bytes_eq e.text text && list_any (λ ty. is_part (all_parts modules) ty e) types) entities entity h in
        let holds = decides.0 passing.1 in
        ((holds.1.0, (types_are holds.1.0).0 holds.1.1, holds.1.2, holds.0), (among entity).0 passing.0)),
    (λ h.
        in_filter (λ (e : Entity). bytes_eq e.text text && list_any (λ ty. is_part (all_parts modules) ty e) types) entities entity ((among entity).1 h.1)
        (decides.1 (h.0.3, (h.0.0, (types_are h.0.0).1 h.0.1, h.0.2)))),
  )
    where
      decides : Decides (bytes_eq entity.text text && list_any (λ ty. is_part (all_parts modules) ty entity) types) ((entity.text ≡ text) × ((ty : Entity) × Contains types ty × IsPart modules ty entity))
      decides =
          Decides-and (bytes_eq entity.text text) (list_any (λ ty. is_part (all_parts modules) ty entity) types) (bytes_eq-Decides entity.text text)
          (any_decides (λ ty. is_part (all_parts modules) ty entity) (λ ty. IsPart modules ty entity) (λ ty. part_decides modules ty entity) types)

  types_standing_agree : (lexeme : ℕ) (ty : Entity) → Contains (types_standing (scope_of modules tree) (spelling_at (lexemes tree) lexeme)) ty
      ↔ ((whole : Name) × IsSpelled tree lexeme whole × StandsFor (InScope modules number) Space.TypeName whole ty)
  types_standing_agree lexeme ty = (
    by (spelling_at (lexemes tree) lexeme) refl,
    (λ h. subst (λ (o : Option Name). Contains (types_standing (scope_of modules tree) o) ty) (sym (spelling_complete lexeme h.0 h.1)) ((stands Space.TypeName h.0 ty).1 h.2)),
  )
    where
      by : (o : Option Name) → spelling_at (lexemes tree) lexeme ≡ o → Contains (types_standing (scope_of modules tree) o) ty
          → (whole : Name) × IsSpelled tree lexeme whole × StandsFor (InScope modules number) Space.TypeName whole ty
      by None is h = absurd (none ty h)
      by (Some whole) is h = (whole, spelling_sound lexeme whole is, (stands Space.TypeName whole ty).0 h)

  types_named_agree : (origin lexeme : ℕ) (ty : Entity) → Contains (types_named (exported_by modules tree origin) (spelling_at (lexemes tree) lexeme)) ty
      ↔ ((whole : Name) × IsSpelled tree lexeme whole × ExportedBy modules tree origin ty × IsNamed Space.TypeName whole.text ty)
  types_named_agree origin lexeme ty = (
    by (spelling_at (lexemes tree) lexeme) refl,
    (λ h. subst (λ (o : Option Name). Contains (types_named (exported_by modules tree origin) o) ty) (sym (spelling_complete lexeme h.0 h.1))
        ((named_agrees origin Space.TypeName h.0.text ty).1 (h.2, h.3))),
  )
    where
      by : (o : Option Name) → spelling_at (lexemes tree) lexeme ≡ o → Contains (types_named (exported_by modules tree origin) o) ty
          → (whole : Name) × IsSpelled tree lexeme whole × ExportedBy modules tree origin ty × IsNamed Space.TypeName whole.text ty
      by None is h = absurd (none ty h)
      by (Some whole) is h =
          let named = (named_agrees origin Space.TypeName whole.text ty).0 h in
          (whole, spelling_sound lexeme whole is, named.0, named.1)

  any_in_scope : (entity : Entity) → Contains (map (λ (one : Scoped). one.1) (scope_of modules tree)) entity ↔ ((qualifier : Option (List ℕ)) × InScope modules number qualifier entity)
  any_in_scope entity = any_agrees modules (scope_of modules tree) (InScope modules number) in_scope entity

  listed_agrees : (role : Role) (name : Name) (entity : Entity) → Contains (listed modules tree role name) entity ↔ Listed modules number tree role name entity
  listed_agrees (Role.Exported space) name entity = stands space name entity
  listed_agrees (Role.ExportedPart ty) name entity =
      parts_agree (types_standing (scope_of modules tree) (spelling_at (lexemes tree) ty)) (map (λ (one : Scoped). one.1) (scope_of modules tree))
      (λ of. (whole : Name) × IsSpelled tree ty whole × StandsFor (InScope modules number) Space.TypeName whole of) (λ e. (qualifier : Option (List ℕ)) × InScope modules number qualifier e)
      (types_standing_agree ty) any_in_scope name.text entity
  listed_agrees (Role.Imported origin space) name entity = named_agrees origin space name.text entity
  listed_agrees (Role.ImportedPart origin ty) name entity =
      parts_agree (types_named (exported_by modules tree origin) (spelling_at (lexemes tree) ty)) (exported_by modules tree origin)
      (λ of. (whole : Name) × IsSpelled tree ty whole × ExportedBy modules tree origin of × IsNamed Space.TypeName whole.text of) (ExportedBy modules tree origin)
      (types_named_agree origin ty) (exported_by_agrees origin) name.text entity
  listed_agrees (Role.Hidden origin) name entity = (hidden_sound origin name.text entity, hidden_complete origin name.text entity)
  listed_agrees Role.Plain name entity = (λ h. none entity h, λ h. absurd h)
  listed_agrees (Role.Uses space) name entity = (λ h. none entity h, λ h. absurd h)
  listed_agrees (Role.Declares space) name entity = (λ h. none entity h, λ h. absurd h)
  listed_agrees Role.GoesOn name entity = (λ h. none entity h, λ h. absurd h)
  listed_agrees Role.Signs name entity = (λ h. none entity h, λ h. absurd h)
  listed_agrees (Role.Fixes space) name entity = (λ h. none entity h, λ h. absurd h)
  listed_agrees Role.Parameter name entity = (λ h. none entity h, λ h. absurd h)

  by_list : (role : Role) (name : Name) (binder : Binder) → Contains (globals (listed modules tree role name)) binder ↔ ((entity : Entity) × Listed modules number tree role name entity × (binder ≡ Binder.Global entity))
  by_list role name binder = globals_agree (listed modules tree role name) (Listed modules number tree role name) (listed_agrees role name) binder

  -- by the role of the lexeme
  role_agrees : (mark : Placed) (role : Role) (binder : Binder)
      → Contains (candidates modules number tree (record { item = mark.item; role = role; regions = mark.regions })) binder
      ↔ Candidate modules number tree (record { item = mark.item; role = role; regions = mark.regions }) binder
  role_agrees mark Role.Plain binder = (λ h. none binder h, λ h. absurd h)
  role_agrees mark Role.Parameter binder = (λ h. none binder h, λ h. absurd h)
  role_agrees mark (Role.Uses space) binder = let name = name_of mark.item.lexeme in used_agrees mark.regions space name.qualifier name.text binder
  role_agrees mark (Role.Declares space) binder = declared_agrees tree number mark.regions space (name_of mark.item.lexeme).text binder
  role_agrees mark Role.GoesOn binder = declared_agrees tree number mark.regions Space.Value (name_of mark.item.lexeme).text binder
  role_agrees mark Role.Signs binder = declared_agrees tree number mark.regions Space.Value (name_of mark.item.lexeme).text binder
  role_agrees mark (Role.Fixes space) binder = declared_agrees tree number mark.regions space (name_of mark.item.lexeme).text binder
  role_agrees mark (Role.Exported space) binder = by_list (Role.Exported space) (name_of mark.item.lexeme) binder
  role_agrees mark (Role.ExportedPart ty) binder = by_list (Role.ExportedPart ty) (name_of mark.item.lexeme) binder
  role_agrees mark (Role.Imported origin space) binder = by_list (Role.Imported origin space) (name_of mark.item.lexeme) binder
  role_agrees mark (Role.ImportedPart origin ty) binder = by_list (Role.ImportedPart origin ty) (name_of mark.item.lexeme) binder
  role_agrees mark (Role.Hidden origin) binder = by_list (Role.Hidden origin) (name_of mark.item.lexeme) binder

pub candidates_agree : (modules : List Module) (number : ℕ) (tree : Module) (mark : Placed) (binder : Binder)
    → slice_get modules number ≡ Some tree → Contains (candidates modules number tree mark) binder ↔ Candidate modules number tree mark binder
candidates_agree modules number tree mark binder at = role_agrees modules number tree at mark mark.role binder
