-- Which constructors are parts of which types, and what the lists of imports let through.
use Rattle.std.proofs.Common.{◌≡◌, ℕ, List, [], not, ◌&&◌, refl, sym, ◌∙◌, ap, subst, Some, None}
use Rattle.std.specs.Prelude.{Option, Contains, ◌↔◌}
use Rattle.std.specs.Bool.{Decides}
use Rattle.std.specs.List.{list_any}
use Rattle.std.specs.Str.{bytes_eq}
use Rattle.std.proofs.lemmas.Bool.Decides.{Decides-and, Decides-or, Decides-not, Decides-like}
use Rattle.std.proofs.lemmas.Slice.Eq.{bytes_eq-Decides}
use Rattle.hr_base.specs.declared.bind.Entity.{Entity}
use Rattle.hr_base.specs.declared.bind.Space.{Space}
use Rattle.hr_base.specs.declared.lexeme.Item.{Item}
use Rattle.hr_tree.specs.declared.modules.Members.{Members}
use Rattle.hr_tree.specs.declared.modules.ImportNames.{ImportNames}
use Rattle.hr_tree.specs.declared.modules.Imported.{Imported}
use Rattle.hr_tree.specs.declared.modules.Module.{Module}
use Rattle.hr_scope_rules.specs.Regions.{lexemes}
use Rattle.hr_scope_rules.specs.Phrases.{variable_text}
use Rattle.hr_scope_rules.specs.Modules.{module_name, entity_of, constructed, IsPart, IsNamed}
use Rattle.hr_scope_rules.specs.Imports.{member_texts, Selects, ItemNames, HidesMembers, ItemHides, parts_of, Passes, PassesNames}
use Rattle.hr_scope_lists.specs.Scopes.{same_entity, is_named, module_parts, all_parts, is_part, is_among, selects, is_part_named, item_names, hides_members, item_hides, passes, passes_names}
use Rattle.hr_scope_lists.proofs.Members.{in_map, from_map, in_flat_map, from_flat_map, any_decides, at_number, number_of}
use Rattle.hr_scope_lists.proofs.Tests.{yes, no, entity_decides, named_decides}

-- the parts of all modules, as pairs of a type and a constructor
part_of_pair : (modules : List Module) (ty part : Entity) → Contains (all_parts modules) (ty, part) → IsPart modules ty part
part_of_pair modules ty part h =
    let found = from_flat_map module_parts modules (ty, part) h in
    let tree : Module = found.0 in
    let place = number_of modules tree found.1 in
    let pair = from_map (λ (pair : List ℕ × List ℕ). (entity_of (module_name tree) Space.TypeName pair.0, entity_of (module_name tree) Space.Constructor pair.1)) (constructed [] (lexemes tree)) (ty, part) found.2 in
    let type_is : entity_of (module_name tree) Space.TypeName pair.0.0 ≡ ty = ap (λ (p : Entity × Entity). p.0) pair.2 in
    let part_is : entity_of (module_name tree) Space.Constructor pair.0.1 ≡ part = ap (λ (p : Entity × Entity). p.1) pair.2 in
    let type_text : pair.0.0 ≡ ty.text = ap (λ (e : Entity). e.text) type_is in
    let part_text : pair.0.1 ≡ part.text = ap (λ (e : Entity). e.text) part_is in
    record {
      number = place.0;
      tree = tree;
      at = place.1;
      type_is = sym type_is ∙ ap (entity_of (module_name tree) Space.TypeName) type_text;
      part_is = sym part_is ∙ ap (entity_of (module_name tree) Space.Constructor) part_text;
      constructed_by = subst (Contains (constructed [] (lexemes tree))) (λ k. (type_text k, part_text k)) pair.1;
    }

pair_of_part : (modules : List Module) (ty part : Entity) → IsPart modules ty part → Contains (all_parts modules) (ty, part)
pair_of_part modules ty part p =
    let P : Entity × Entity → Type 0 = λ pair. Contains (module_parts p.tree) pair in
    let inside : Contains (module_parts p.tree) (ty, part) =
    subst P (λ k. (sym p.type_is k, sym p.part_is k))
    (in_map (λ (pair : List ℕ × List ℕ). (entity_of (module_name p.tree) Space.TypeName pair.0, entity_of (module_name p.tree) Space.Constructor pair.1)) (constructed [] (lexemes p.tree)) (ty.text, part.text) p.constructed_by) in
    in_flat_map module_parts modules p.tree (ty, part) (at_number modules p.number p.tree p.at) inside

pub part_decides : (modules : List Module) (ty part : Entity) → Decides (is_part (all_parts modules) ty part) (IsPart modules ty part)
part_decides modules ty part =
    Decides-like (is_part (all_parts modules) ty part)
    (λ h. part_of_pair modules ty part (subst (Contains (all_parts modules)) (λ k. (h.2.0 k, h.2.1 k)) h.1))
    (λ p. ((ty, part), pair_of_part modules ty part p, (refl, refl)))
    (any_decides (λ (pair : Entity × Entity). same_entity pair.0 ty && same_entity pair.1 part) (λ pair. (pair.0 ≡ ty) × (pair.1 ≡ part))
    (λ pair. Decides-and (same_entity pair.0 ty) (same_entity pair.1 part) (entity_decides pair.0 ty) (entity_decides pair.1 part)) (all_parts modules))

pub among_decides : (texts : List (List ℕ)) (text : List ℕ) → Decides (is_among texts text) (Contains texts text)
among_decides texts text =
    Decides-like (is_among texts text)
    (λ h. subst (Contains texts) h.2 h.1)
    (λ h. (text, h, refl))
    (any_decides (λ one. bytes_eq one text) (λ one. one ≡ text) (λ one. bytes_eq-Decides one text) texts)

pub selects_decides : (members : Option Members) (text : List ℕ) → Decides (selects members text) (Selects members text)
selects_decides None text = no (λ h. h)
selects_decides (Some (Members.All left dots right)) text = yes tt
selects_decides (Some (Members.Named left list right)) text = among_decides (member_texts list) text

-- the entity is a part of a type of that name that is exported
abbrev PartNamed : (modules : List Module) → (Entity → Type 0) → List ℕ → Entity → Type 0
PartNamed modules Exported text entity = (ty : Entity) × IsNamed Space.TypeName text ty × Exported ty × IsPart modules ty entity

module _ (modules : List Module) (exported : List Entity) (Exported : Entity → Type 0) (agree : (entity : Entity) → Contains exported entity ↔ Exported entity) where
  part_named_decides : (text : List ℕ) (entity : Entity) → Decides (is_part_named (all_parts modules) exported text entity) (PartNamed modules Exported text entity)
  part_named_decides text entity =
      Decides-like (is_part_named (all_parts modules) exported text entity)
      (λ h. (h.0, h.2.0, (agree h.0).0 h.1, h.2.1))
      (λ h. (h.0, (agree h.0).1 h.2, (h.1, h.3)))
      (any_decides (λ ty. is_named Space.TypeName text ty && is_part (all_parts modules) ty entity) (λ ty. IsNamed Space.TypeName text ty × IsPart modules ty entity)
      (λ ty. Decides-and (is_named Space.TypeName text ty) (is_part (all_parts modules) ty entity) (named_decides Space.TypeName text ty) (part_decides modules ty entity)) exported)

  names_decides : (item : Imported) (entity : Entity) → Decides (item_names (all_parts modules) exported item entity) (ItemNames Exported (IsPart modules) item entity)
  names_decides (Imported.Variable variable) entity = named_decides Space.Value (variable_text variable) entity
  names_decides (Imported.Type name members) entity =
      Decides-or (is_named Space.TypeName name.lexeme.text entity) (is_part_named (all_parts modules) exported name.lexeme.text entity && selects members entity.text)
      (named_decides Space.TypeName name.lexeme.text entity)
      (Decides-like (is_part_named (all_parts modules) exported name.lexeme.text entity && selects members entity.text)
      (λ h. (h.0.0, h.0.1, h.0.2, h.0.3, h.1))
      (λ h. ((h.0, h.1, h.2, h.3), h.4))
      (Decides-and (is_part_named (all_parts modules) exported name.lexeme.text entity) (selects members entity.text) (part_named_decides name.lexeme.text entity) (selects_decides members entity.text)))

  hides_members_decides : (name : List ℕ) (members : Option Members) (entity : Entity) → Decides (hides_members (all_parts modules) exported name members entity) (HidesMembers Exported (IsPart modules) name members entity)
  hides_members_decides name None entity = no (λ h. h)
  hides_members_decides name (Some (Members.All left dots right)) entity = part_named_decides name entity
  hides_members_decides name (Some (Members.Named left list right)) entity = among_decides (member_texts list) entity.text

  hides_decides : (item : Imported) (entity : Entity) → Decides (item_hides (all_parts modules) exported item entity) (ItemHides Exported (IsPart modules) item entity)
  hides_decides (Imported.Variable variable) entity = bytes_eq-Decides entity.text (variable_text variable)
  hides_decides (Imported.Type name members) entity =
      Decides-or (bytes_eq entity.text name.lexeme.text) (hides_members (all_parts modules) exported name.lexeme.text members entity)
      (bytes_eq-Decides entity.text name.lexeme.text) (hides_members_decides name.lexeme.text members entity)

  passes_decides : (hiding : Option Item) (items : List Imported) (entity : Entity) → Decides (passes (all_parts modules) exported hiding items entity) (Passes Exported (IsPart modules) hiding items entity)
  passes_decides None items entity = any_decides (λ item. item_names (all_parts modules) exported item entity) (λ item. ItemNames Exported (IsPart modules) item entity) (λ item. names_decides item entity) items
  passes_decides (Some hiding) items entity =
      Decides-like (not (list_any (λ item. item_hides (all_parts modules) exported item entity) items))
      (λ h. λ item among hides. h (item, among, hides))
      (λ h. λ some. h some.0 some.1 some.2)
      (Decides-not (list_any (λ item. item_hides (all_parts modules) exported item entity) items)
      (any_decides (λ item. item_hides (all_parts modules) exported item entity) (λ item. ItemHides Exported (IsPart modules) item entity) (λ item. hides_decides item entity) items))

  pub passes_names_decides : (names : Option ImportNames) (entity : Entity) → Decides (passes_names (all_parts modules) exported names entity) (PassesNames Exported (IsPart modules) names entity)
  passes_names_decides None entity = yes tt
  passes_names_decides (Some names) entity = passes_decides names.hiding (parts_of names.list.list) entity
