-- The list of what a module exports is the relation, where the list of what is in scope in it is.
use Rattle.std.proofs.Common.{◌≡◌, ℕ, List, map, ◌&&◌, inl, inr, refl, subst, Some, None}
use Rattle.std.specs.Prelude.{Option, Contains, filter, ◌↔◌}
use Rattle.std.specs.Bool.{Decides}
use Rattle.std.specs.List.{flat_map}
use lib.Chars.{codes}
use Rattle.std.proofs.lemmas.Bool.Decides.{Decides-and, Decides-like}
use Rattle.std.proofs.lemmas.List.Elements.{Contains-append_left, Contains-append_right, Contains-append_cases}
use Rattle.hr_base.specs.declared.bind.Entity.{Entity}
use Rattle.hr_base.specs.declared.bind.Name.{Name}
use Rattle.hr_base.specs.declared.bind.Space.{Space}
use Rattle.hr_tree.specs.declared.modules.Members.{Members}
use Rattle.hr_tree.specs.declared.modules.NameList.{NameList}
use Rattle.hr_tree.specs.declared.modules.Export.{Export}
use Rattle.hr_tree.specs.declared.modules.Header.{Header}
use Rattle.hr_tree.specs.declared.modules.Module.{Module}
use Rattle.hr_scope_rules.specs.Names.{name_of, plain_name}
use Rattle.hr_scope_rules.specs.Modules.{IsPart, IsNamed}
use Rattle.hr_scope_rules.specs.Imports.{Selects, parts_of}
use Rattle.hr_scope_rules.specs.Exports.{Scope, lexeme_of, StandsFor, ItemExports, ListExports, HeaderExports}
use Rattle.hr_scope_lists.specs.Scopes.{Scoped, same_qualifier, same_entity, is_named, is_part, all_parts, selects, standing, in_scope_as, under_qualifier, members_of, item_exports, list_exports, header_exports}
use Rattle.hr_scope_lists.proofs.Members.{in_map, from_map, in_flat_map, from_flat_map, in_filter, from_filter, any_decides}
use Rattle.hr_scope_lists.proofs.Tests.{entity_decides, named_decides, qualifier_decides}
use Rattle.hr_scope_lists.proofs.Parts.{part_decides, selects_decides}

entity_in : Scoped → Entity
entity_in one = one.1

module _ (modules : List Module) (scope : List Scoped) (InIt : Scope) (agree : (one : Scoped) → Contains scope one ↔ InIt one.0 one.1) where
  -- the test of what stands for a name
  stands_decides : (space : Space) (name : Name) (one : Scoped)
      → Decides (same_qualifier one.0 name.qualifier && is_named space name.text one.1) ((one.0 ≡ name.qualifier) × IsNamed space name.text one.1)
  stands_decides space name one =
      Decides-and (same_qualifier one.0 name.qualifier) (is_named space name.text one.1) (qualifier_decides one.0 name.qualifier) (named_decides space name.text one.1)

  pub standing_agrees : (space : Space) (name : Name) (entity : Entity) → Contains (standing scope space name) entity ↔ StandsFor InIt space name entity
  standing_agrees space name entity = (sound, complete)
    where
      sound : Contains (standing scope space name) entity → StandsFor InIt space name entity
      sound h =
          let found = from_map (λ (one : Scoped). one.1) (filter (λ one. same_qualifier one.0 name.qualifier && is_named space name.text one.1) scope) entity h in
          let passing = from_filter (λ (one : Scoped). same_qualifier one.0 name.qualifier && is_named space name.text one.1) scope found.0 found.1 in
          let holds = (stands_decides space name found.0).0 passing.1 in
          let P : Entity → Type 0 = λ e. StandsFor InIt space name e in
          subst P found.2 (subst (λ q. InIt q found.0.1) holds.0 ((agree found.0).0 passing.0), holds.1)

      complete : StandsFor InIt space name entity → Contains (standing scope space name) entity
      complete h =
          let one : Scoped = (name.qualifier, entity) in
          in_map (λ (one : Scoped). one.1) (filter (λ one. same_qualifier one.0 name.qualifier && is_named space name.text one.1) scope) one
          (in_filter (λ (one : Scoped). same_qualifier one.0 name.qualifier && is_named space name.text one.1) scope one ((agree one).1 h.0) ((stands_decides space name one).1 (refl, h.1)))

  under_qualifier_agrees : (qualifier : Option (List ℕ)) (entity : Entity) → Contains (under_qualifier scope qualifier) entity ↔ InIt qualifier entity
  under_qualifier_agrees qualifier entity = (sound, complete)
    where
      sound : Contains (under_qualifier scope qualifier) entity → InIt qualifier entity
      sound h =
          let found = from_map (λ (one : Scoped). one.1) (filter (λ one. same_qualifier one.0 qualifier) scope) entity h in
          let passing = from_filter (λ (one : Scoped). same_qualifier one.0 qualifier) scope found.0 found.1 in
          let holds : found.0.0 ≡ qualifier = (qualifier_decides found.0.0 qualifier).0 passing.1 in
          subst (λ e. InIt qualifier e) found.2 (subst (λ q. InIt q found.0.1) holds ((agree found.0).0 passing.0))

      complete : InIt qualifier entity → Contains (under_qualifier scope qualifier) entity
      complete h =
          let one : Scoped = (qualifier, entity) in
          in_map (λ (one : Scoped). one.1) (filter (λ one. same_qualifier one.0 qualifier) scope) one
          (in_filter (λ (one : Scoped). same_qualifier one.0 qualifier) scope one ((agree one).1 h) ((qualifier_decides qualifier qualifier).1 refl))

  in_scope_as_decides : (qualifier : Option (List ℕ)) (entity : Entity) → Decides (in_scope_as scope qualifier entity) (InIt qualifier entity)
  in_scope_as_decides qualifier entity =
      Decides-like (in_scope_as scope qualifier entity)
      (λ h. subst (λ e. InIt qualifier e) h.2.1 (subst (λ q. InIt q h.0.1) h.2.0 ((agree h.0).0 h.1)))
      (λ h. let one : Scoped = (qualifier, entity) in (one, (agree one).1 h, (refl, refl)))
      (any_decides (λ (one : Scoped). same_qualifier one.0 qualifier && same_entity one.1 entity) (λ one. (one.0 ≡ qualifier) × (one.1 ≡ entity))
      (λ one. Decides-and (same_qualifier one.0 qualifier) (same_entity one.1 entity) (qualifier_decides one.0 qualifier) (entity_decides one.1 entity)) scope)

  -- an entity that is in scope under some qualifier or under none
  pub any_agrees : (entity : Entity) → Contains (map (λ (one : Scoped). one.1) scope) entity ↔ ((qualifier : Option (List ℕ)) × InIt qualifier entity)
  any_agrees entity = (sound, complete)
    where
      sound : Contains (map (λ (one : Scoped). one.1) scope) entity → (qualifier : Option (List ℕ)) × InIt qualifier entity
      sound h =
          let found = from_map (λ (one : Scoped). one.1) scope entity h in
          (found.0.0, subst (λ e. InIt found.0.0 e) found.2 ((agree found.0).0 found.1))

      complete : (qualifier : Option (List ℕ)) × InIt qualifier entity → Contains (map (λ (one : Scoped). one.1) scope) entity
      complete h = let one : Scoped = (h.0, entity) in in_map (λ (one : Scoped). one.1) scope one ((agree one).1 h.1)

  selected_decides : (members : Option Members) (ty entity : Entity) → Decides (is_part (all_parts modules) ty entity && selects members entity.text) (IsPart modules ty entity × Selects members entity.text)
  selected_decides members ty entity =
      Decides-and (is_part (all_parts modules) ty entity) (selects members entity.text) (part_decides modules ty entity) (selects_decides members entity.text)

  item_sound : (item : Export) (entity : Entity) → Contains (item_exports (all_parts modules) scope item) entity → ItemExports modules InIt item entity
  item_sound (Export.Variable variable) entity h = (standing_agrees Space.Value (name_of (lexeme_of variable).lexeme) entity).0 h
  item_sound (Export.Type name members) entity h =
      let types : List Entity = standing scope Space.TypeName (name_of name.lexeme) in
      elim (Contains-append_cases types (flat_map (members_of (all_parts modules) scope members) types) entity h) [
        | inl first ↦ inl ((standing_agrees Space.TypeName (name_of name.lexeme) entity).0 first)
        | inr rest ↦
            let found = from_flat_map (members_of (all_parts modules) scope members) types entity rest in
            let ty : Entity = found.0 in
            let passing = from_filter (λ (e : Entity). is_part (all_parts modules) ty e && selects members e.text) (map (λ (one : Scoped). one.1) scope) entity found.2 in
            let holds = (selected_decides members ty entity).0 passing.1 in
            inr (ty, (standing_agrees Space.TypeName (name_of name.lexeme) ty).0 found.1, holds.0, holds.1, (any_agrees entity).0 passing.0)
      ]
  item_sound (Export.«Module» word name) entity h =
      let passing = from_filter (in_scope_as scope (Some name.lexeme.text)) (under_qualifier scope None) entity h in
      ((under_qualifier_agrees None entity).0 passing.0, (in_scope_as_decides (Some name.lexeme.text) entity).0 passing.1)

  item_complete : (item : Export) (entity : Entity) → ItemExports modules InIt item entity → Contains (item_exports (all_parts modules) scope item) entity
  item_complete (Export.Variable variable) entity h = (standing_agrees Space.Value (name_of (lexeme_of variable).lexeme) entity).1 h
  item_complete (Export.Type name members) entity (inl h) =
      let types : List Entity = standing scope Space.TypeName (name_of name.lexeme) in
      Contains-append_left types (flat_map (members_of (all_parts modules) scope members) types) entity ((standing_agrees Space.TypeName (name_of name.lexeme) entity).1 h)
  item_complete (Export.Type name members) entity (inr h) =
      let types : List Entity = standing scope Space.TypeName (name_of name.lexeme) in
      let inside : Contains (members_of (all_parts modules) scope members h.0) entity =
      in_filter (λ (e : Entity). is_part (all_parts modules) h.0 e && selects members e.text) (map (λ (one : Scoped). one.1) scope) entity ((any_agrees entity).1 h.4)
      ((selected_decides members h.0 entity).1 (h.2, h.3)) in
      Contains-append_right types (flat_map (members_of (all_parts modules) scope members) types) entity
      (in_flat_map (members_of (all_parts modules) scope members) types h.0 entity ((standing_agrees Space.TypeName (name_of name.lexeme) h.0).1 h.1) inside)
  item_complete (Export.«Module» word name) entity h =
      in_filter (in_scope_as scope (Some name.lexeme.text)) (under_qualifier scope None) entity ((under_qualifier_agrees None entity).1 h.0)
      ((in_scope_as_decides (Some name.lexeme.text) entity).1 h.1)

  list_agrees : (tree : Module) (names : Option (NameList Export)) (entity : Entity)
      → Contains (list_exports (all_parts modules) scope tree names) entity ↔ ListExports modules InIt tree names entity
  list_agrees tree None entity = (λ h. h, λ h. h)
  list_agrees tree (Some names) entity = (
    (λ h.
        let found = from_flat_map (item_exports (all_parts modules) scope) (parts_of names.list) entity h in
        (found.0, found.1, item_sound found.0 entity found.2)),
    (λ h. in_flat_map (item_exports (all_parts modules) scope) (parts_of names.list) h.0 entity h.1 (item_complete h.0 entity h.2)),
  )

  pub header_agrees : (tree : Module) (header : Option Header) (entity : Entity)
      → Contains (header_exports (all_parts modules) scope tree header) entity ↔ HeaderExports modules InIt tree header entity
  header_agrees tree None entity = standing_agrees Space.Value (plain_name (codes "main")) entity
  header_agrees tree (Some header) entity = list_agrees tree header.exports entity
