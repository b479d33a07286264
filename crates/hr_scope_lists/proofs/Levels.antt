-- The lists are the relations, by so many imports one behind the other.
use Rattle.std.proofs.Common.{◌≡◌, ℕ, zero, suc, List, [], ◌∷◌, length, refl, sym, subst, Some, None}
use Rattle.std.specs.Prelude.{Option, Contains, slice_get, ◌↔◌}
use Rattle.hr_base.specs.declared.bind.Entity.{Entity}
use Rattle.hr_tree.specs.declared.modules.Module.{Module}
use Rattle.hr_scope_rules.specs.Exports.{Family, InScopeOver, ExportsOver, ExportsAt, Exports, InScope}
use Rattle.hr_scope_lists.specs.Scopes.{Scoped, scope_over, tree_exports, nth_exports, exports_at, exports_of, scope_of}
use Rattle.hr_scope_lists.proofs.Members.{none, same_some}
use Rattle.hr_scope_lists.proofs.ScopeSteps.{scope_sound, scope_complete}
use Rattle.hr_scope_lists.proofs.ExportSteps.{header_agrees}

module _ (modules : List Module) (known : ℕ → List Entity) where
  nth_sound : (rest : List Module) (number : ℕ) (entity : Entity) → Contains (nth_exports modules known rest number) entity
      → (tree : Module) × (slice_get rest number ≡ Some tree) × Contains (tree_exports modules known tree) entity
  nth_sound [] number entity h = absurd (none entity h)
  nth_sound (tree ∷ rest) zero entity h = (tree, refl, h)
  nth_sound (tree ∷ rest) (suc number) entity h = nth_sound rest number entity h

  nth_complete : (rest : List Module) (number : ℕ) (entity : Entity) (tree : Module) → slice_get rest number ≡ Some tree → Contains (tree_exports modules known tree) entity
      → Contains (nth_exports modules known rest number) entity
  nth_complete [] number entity tree at h = let clash : ◌≡◌ {A = Option Module} None (Some tree) = at in cc
  nth_complete (first ∷ rest) zero entity tree at h = subst (λ t. Contains (tree_exports modules known t) entity) (sym (same_some first tree at)) h
  nth_complete (first ∷ rest) (suc number) entity tree at h = nth_complete rest number entity tree at h

scope_pair_agrees : (modules : List Module) (known : ℕ → List Entity) (Exported : Family) → ((number : ℕ) (entity : Entity) → Contains (known number) entity ↔ Exported number entity)
    → (number : ℕ) (tree : Module) → slice_get modules number ≡ Some tree → (one : Scoped) → Contains (scope_over modules known tree) one ↔ InScopeOver modules Exported number one.0 one.1
scope_pair_agrees modules known Exported agree number tree at one =
    (scope_sound modules known Exported agree number tree at one, scope_complete modules known Exported agree number tree at one.0 one.1)

module _ (modules : List Module) (known : ℕ → List Entity) (Exported : Family) (below : (number : ℕ) (entity : Entity) → Contains (known number) entity ↔ Exported number entity) where
  step_sound : (number : ℕ) (entity : Entity) → Contains (nth_exports modules known modules number) entity → ExportsOver modules Exported number entity
  step_sound number entity h =
      let found = nth_sound modules known modules number entity h in
      let scoped = scope_pair_agrees modules known Exported below number found.0 found.1 in
      (found.0, found.1, (header_agrees modules (scope_over modules known found.0) (InScopeOver modules Exported number) scoped found.0 found.0.header entity).0 found.2)

  step_complete : (number : ℕ) (entity : Entity) → ExportsOver modules Exported number entity → Contains (nth_exports modules known modules number) entity
  step_complete number entity h =
      let scoped = scope_pair_agrees modules known Exported below number h.0 h.1 in
      nth_complete modules known modules number entity h.0 h.1
      ((header_agrees modules (scope_over modules known h.0) (InScopeOver modules Exported number) scoped h.0 h.0.header entity).1 h.2)

pub exports_at_agrees : (modules : List Module) (depth number : ℕ) (entity : Entity) → Contains (exports_at modules depth number) entity ↔ ExportsAt modules depth number entity
exports_at_agrees modules zero number entity = (λ h. none entity h, λ h. absurd h)
exports_at_agrees modules (suc depth) number entity = (
  step_sound modules (exports_at modules depth) (ExportsAt modules depth) (exports_at_agrees modules depth) number entity,
  step_complete modules (exports_at modules depth) (ExportsAt modules depth) (exports_at_agrees modules depth) number entity,
)

pub exports_agree : (modules : List Module) (number : ℕ) (entity : Entity) → Contains (exports_of modules number) entity ↔ Exports modules number entity
exports_agree modules number entity = exports_at_agrees modules (length modules) number entity

pub scopes_agree : (modules : List Module) (number : ℕ) (tree : Module) (qualifier : Option (List ℕ)) (entity : Entity)
    → slice_get modules number ≡ Some tree → Contains (scope_of modules tree) (qualifier, entity) ↔ InScope modules number qualifier entity
scopes_agree modules number tree qualifier entity at =
    scope_pair_agrees modules (exports_of modules) (Exports modules) (exports_agree modules) number tree at (qualifier, entity)
