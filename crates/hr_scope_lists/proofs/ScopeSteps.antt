-- The list of what is in scope is the relation, where the lists of what modules export are.
use Rattle.std.proofs.Common.{◌≡◌, ℕ, zero, suc, ◌+◌, List, [], ◌∷◌, ◌++◌, Bool, true, false, ◌⊎◌, inl, inr, refl, sym, ◌∙◌, ap, subst, arith, Some, None}
use Rattle.std.specs.Prelude.{Option, Contains, slice_get, filter, ◌↔◌, if◌then◌else◌}
use Rattle.std.specs.List.{flat_map}
use Rattle.std.specs.Str.{bytes_eq}
use Rattle.std.proofs.lemmas.Slice.Eq.{bytes_eq-Decides}
use Rattle.std.proofs.lemmas.List.Elements.{Contains-append_left, Contains-append_right, Contains-append_cases}
use Rattle.hr_base.specs.declared.bind.Entity.{Entity}
use Rattle.hr_tree.specs.declared.modules.Module.{Module}
use Rattle.hr_scope_rules.specs.Modules.{module_name, own_entities, IsPart}
use Rattle.hr_scope_rules.specs.Imports.{Access, accesses, Brings}
use Rattle.hr_scope_rules.specs.Exports.{Family, InScopeOver}
use Rattle.hr_scope_rules.specs.Exports.InScopeOver.{own, own_qualified, imported, imported_qualified}
use Rattle.hr_scope_lists.specs.Scopes.{Scoped, under, from_modules, accessed, brought, imported_from, scope_over, all_parts, passes_names}
use Rattle.hr_scope_lists.proofs.Members.{none, in_map, from_map, in_flat_map, from_flat_map, in_filter, from_filter, same_some}
use Rattle.hr_scope_lists.proofs.Parts.{passes_names_decides}

chosen : {X : Type 0} (b : Bool) (xs : List X) (x : X) → Contains (if b then xs else []) x → (b ≡ true) × Contains xs x
chosen true xs x h = (refl, h)
chosen false xs x h = absurd (none x h)

-- what stands in the lists of the modules of a name
pub from_modules_of : {X : Type 0} (of : ℕ → List X) (number : ℕ) (modules : List Module) (origin : List ℕ) (x : X) → Contains (from_modules of number modules origin) x
    → (k : ℕ) × (tree : Module) × (slice_get modules k ≡ Some tree) × (module_name tree ≡ origin) × Contains (of (number + k)) x
from_modules_of of number [] origin x h = absurd (none x h)
from_modules_of of number (tree ∷ rest) origin x h =
    elim (Contains-append_cases (if bytes_eq (module_name tree) origin then of number else []) (from_modules of (number + 1) rest origin) x h) [
      | inl first ↦
          let one = chosen (bytes_eq (module_name tree) origin) (of number) x first in
          let same : number ≡ number + 0 = omega arith in
          (zero, tree, refl, (bytes_eq-Decides (module_name tree) origin).0 one.0, subst (λ n. Contains (of n) x) same one.1)
      | inr others ↦
          let found = from_modules_of of (number + 1) rest origin x others in
          let same : (number + 1) + found.0 ≡ number + suc found.0 = omega arith in
          (suc found.0, found.1, found.2, found.3, subst (λ n. Contains (of n) x) same found.4)
    ]

pub in_modules_of : {X : Type 0} (of : ℕ → List X) (number : ℕ) (modules : List Module) (origin : List ℕ) (x : X) (k : ℕ) (tree : Module)
    → slice_get modules k ≡ Some tree → module_name tree ≡ origin → Contains (of (number + k)) x → Contains (from_modules of number modules origin) x
in_modules_of {X} of number [] origin x k tree at named h = let clash : ◌≡◌ {A = Option Module} None (Some tree) = at in cc
in_modules_of {X} of number (first ∷ rest) origin x zero tree at named h =
    let is : first ≡ tree = same_some first tree at in
    let test : bytes_eq (module_name first) origin ≡ true = (bytes_eq-Decides (module_name first) origin).1 (ap module_name is ∙ named) in
    let same : number + 0 ≡ number = omega arith in
    let inside : Contains (if bytes_eq (module_name first) origin then of number else []) x =
    subst (λ (b : Bool). Contains (if b then of number else []) x) (sym test) (subst (λ n. Contains (of n) x) same h) in
    Contains-append_left (if bytes_eq (module_name first) origin then of number else []) (from_modules of (number + 1) rest origin) x inside
in_modules_of of number (first ∷ rest) origin x (suc k) tree at named h =
    let same : number + suc k ≡ (number + 1) + k = omega arith in
    Contains-append_right (if bytes_eq (module_name first) origin then of number else []) (from_modules of (number + 1) rest origin) x
    (in_modules_of of (number + 1) rest origin x k tree at named (subst (λ n. Contains (of n) x) same h))

-- what is under a qualifier
pub in_under : (qualifier : Option (List ℕ)) (entities : List Entity) (entity : Entity) → Contains entities entity → Contains (under qualifier entities) (qualifier, entity)
in_under qualifier entities entity h = in_map (λ (one : Entity). let pair : Scoped = (qualifier, one) in pair) entities entity h

pub from_under : (qualifier : Option (List ℕ)) (entities : List Entity) (one : Scoped) → Contains (under qualifier entities) one → Contains entities one.1 × (qualifier ≡ one.0)
from_under qualifier entities one h =
    let found = from_map (λ (entity : Entity). let pair : Scoped = (qualifier, entity) in pair) entities one h in
    (subst (Contains entities) (ap (λ (s : Scoped). s.1) found.2) found.1, ap (λ (s : Scoped). s.0) found.2)

-- what an access to entities gives: each under the qualifier, and alone unless it is qualified
from_accessed : (access : Access) (entities : List Entity) (one : Scoped) → Contains (accessed access entities) one
    → Contains entities one.1 × (((access.qualified ≡ false) × (None ≡ one.0)) ⊎ (Some access.qualifier ≡ one.0))
from_accessed access entities one h =
    elim (Contains-append_cases (if access.qualified then [] else under None entities) (under (Some access.qualifier) entities) one h) [
      | inl alone ↦ by access.qualified refl alone
      | inr qualified ↦ let found = from_under (Some access.qualifier) entities one qualified in (found.0, inr found.1)
    ]
  where
    by : (b : Bool) → access.qualified ≡ b → Contains (if b then [] else under None entities) one
        → Contains entities one.1 × (((access.qualified ≡ false) × (None ≡ one.0)) ⊎ (Some access.qualifier ≡ one.0))
    by true e g = absurd (none one g)
    by false e g = let found = from_under None entities one g in (found.0, inl (e, found.1))

in_accessed_alone : (access : Access) (entities : List Entity) (entity : Entity) → Contains entities entity → access.qualified ≡ false → Contains (accessed access entities) (None, entity)
in_accessed_alone access entities entity h e =
    let one : Scoped = (None, entity) in
    Contains-append_left (if access.qualified then [] else under None entities) (under (Some access.qualifier) entities) one
    (subst (λ (b : Bool). Contains (if b then [] else under None entities) one) (sym e) (in_under None entities entity h))

in_accessed_qualified : (access : Access) (entities : List Entity) (entity : Entity) → Contains entities entity → Contains (accessed access entities) (Some access.qualifier, entity)
in_accessed_qualified access entities entity h =
    let one : Scoped = (Some access.qualifier, entity) in
    Contains-append_right (if access.qualified then [] else under None entities) (under (Some access.qualifier) entities) one (in_under (Some access.qualifier) entities entity h)

module _ (modules : List Module) (known : ℕ → List Entity) (Exported : Family) (agree : (number : ℕ) (entity : Entity) → Contains (known number) entity ↔ Exported number entity)
    (number : ℕ) (tree : Module) (at : slice_get modules number ≡ Some tree) where
  InScope : Scoped → Type 0
  InScope one = InScopeOver modules Exported number one.0 one.1

  own_in_scope : (one : Scoped) → Contains (under None (own_entities tree)) one → InScopeOver modules Exported number one.0 one.1
  own_in_scope one h =
      let found = from_under None (own_entities tree) one h in
      subst (λ q. InScopeOver modules Exported number q one.1) found.1 (own tree one.1 at found.0)

  own_qualified_in_scope : (one : Scoped) → Contains (under (Some (module_name tree)) (own_entities tree)) one → InScopeOver modules Exported number one.0 one.1
  own_qualified_in_scope one h =
      let found = from_under (Some (module_name tree)) (own_entities tree) one h in
      subst (λ q. InScopeOver modules Exported number q one.1) found.1 (own_qualified tree one.1 at found.0)

  imported_in_scope : (one : Scoped) → Contains (flat_map (imported_from modules known) (accesses tree)) one → InScopeOver modules Exported number one.0 one.1
  imported_in_scope one h =
      let import_of = from_flat_map (imported_from modules known) (accesses tree) one h in
      let access : Access = import_of.0 in
      let from = from_modules_of (λ origin. brought (all_parts modules) (known origin) access) 0 modules access.origin one import_of.2 in
      let origin : ℕ = from.0 in
      let place : 0 + origin ≡ origin = omega arith in
      let inside : Contains (brought (all_parts modules) (known origin) access) one = subst (λ n. Contains (brought (all_parts modules) (known n) access) one) place from.4 in
      let given = from_accessed access (filter (passes_names (all_parts modules) (known origin) access.names) (known origin)) one inside in
      let passing = from_filter (passes_names (all_parts modules) (known origin) access.names) (known origin) one.1 given.0 in
      let brings : Brings (Exported origin) (IsPart modules) access one.1 =
      ((agree origin one.1).0 passing.0, (passes_names_decides modules (known origin) (Exported origin) (agree origin) access.names one.1).0 passing.1) in
      elim given.1 [
        | inl alone ↦ subst (λ q. InScopeOver modules Exported number q one.1) alone.1 (imported tree access origin from.1 one.1 at import_of.1 from.2 from.3 brings alone.0)
        | inr qualified ↦ subst (λ q. InScopeOver modules Exported number q one.1) qualified (imported_qualified tree access origin from.1 one.1 at import_of.1 from.2 from.3 brings)
      ]

  pub scope_sound : (one : Scoped) → Contains (scope_over modules known tree) one → InScopeOver modules Exported number one.0 one.1
  scope_sound one h =
      elim (Contains-append_cases (under None (own_entities tree)) (under (Some (module_name tree)) (own_entities tree) ++ flat_map (imported_from modules known) (accesses tree)) one h) [
        | inl alone ↦ own_in_scope one alone
        | inr rest ↦
            elim (Contains-append_cases (under (Some (module_name tree)) (own_entities tree)) (flat_map (imported_from modules known) (accesses tree)) one rest) [
              | inl qualified ↦ own_qualified_in_scope one qualified
              | inr others ↦ imported_in_scope one others
            ]
      ]

  -- what an import brings is in the list
  brought_in_list : (access : Access) (origin : ℕ) (from : Module) (one : Scoped) → Contains (accesses tree) access → slice_get modules origin ≡ Some from → module_name from ≡ access.origin
      → Contains (brought (all_parts modules) (known origin) access) one → Contains (scope_over modules known tree) one
  brought_in_list access origin from one among at_origin named inside =
      let place : origin ≡ 0 + origin = omega arith in
      let here : Contains (brought (all_parts modules) (known (0 + origin)) access) one = subst (λ n. Contains (brought (all_parts modules) (known n) access) one) place inside in
      Contains-append_right (under None (own_entities tree)) (under (Some (module_name tree)) (own_entities tree) ++ flat_map (imported_from modules known) (accesses tree)) one
      (Contains-append_right (under (Some (module_name tree)) (own_entities tree)) (flat_map (imported_from modules known) (accesses tree)) one
      (in_flat_map (imported_from modules known) (accesses tree) access one among
      (in_modules_of (λ n. brought (all_parts modules) (known n) access) 0 modules access.origin one origin from at_origin named here)))

  passing_of : (access : Access) (origin : ℕ) (entity : Entity) → Brings (Exported origin) (IsPart modules) access entity
      → Contains (filter (passes_names (all_parts modules) (known origin) access.names) (known origin)) entity
  passing_of access origin entity brings =
      in_filter (passes_names (all_parts modules) (known origin) access.names) (known origin) entity ((agree origin entity).1 brings.0)
      ((passes_names_decides modules (known origin) (Exported origin) (agree origin) access.names entity).1 brings.1)

  same_tree : (other : Module) → slice_get modules number ≡ Some other → other ≡ tree
  same_tree other e = same_some other tree (sym e ∙ at)

  pub scope_complete : (qualifier : Option (List ℕ)) (entity : Entity) → InScopeOver modules Exported number qualifier entity → Contains (scope_over modules known tree) (qualifier, entity)
  scope_complete qualifier thing (own other entity is among) =
      let one : Scoped = (None, entity) in
      let mine : Contains (own_entities tree) entity = subst (λ t. Contains (own_entities t) entity) (same_tree other is) among in
      Contains-append_left (under None (own_entities tree)) (under (Some (module_name tree)) (own_entities tree) ++ flat_map (imported_from modules known) (accesses tree)) one
      (in_under None (own_entities tree) entity mine)
  scope_complete qualifier thing (own_qualified other entity is among) =
      let one : Scoped = (Some (module_name tree), entity) in
      let mine : Contains (own_entities tree) entity = subst (λ t. Contains (own_entities t) entity) (same_tree other is) among in
      let listed : Contains (scope_over modules known tree) one =
      Contains-append_right (under None (own_entities tree)) (under (Some (module_name tree)) (own_entities tree) ++ flat_map (imported_from modules known) (accesses tree)) one
      (Contains-append_left (under (Some (module_name tree)) (own_entities tree)) (flat_map (imported_from modules known) (accesses tree)) one
      (in_under (Some (module_name tree)) (own_entities tree) entity mine)) in
      let P : Module → Type 0 = λ t. Contains (scope_over modules known tree) (Some (module_name t), entity) in
      subst P (sym (same_tree other is)) listed
  scope_complete qualifier thing (imported other access origin from entity is among at_origin named brings alone) =
      let mine : Contains (accesses tree) access = subst (λ t. Contains (accesses t) access) (same_tree other is) among in
      brought_in_list access origin from (None, entity) mine at_origin named
      (in_accessed_alone access (filter (passes_names (all_parts modules) (known origin) access.names) (known origin)) entity (passing_of access origin entity brings) alone)
  scope_complete qualifier thing (imported_qualified other access origin from entity is among at_origin named brings) =
      let mine : Contains (accesses tree) access = subst (λ t. Contains (accesses t) access) (same_tree other is) among in
      brought_in_list access origin from (Some access.qualifier, entity) mine at_origin named
      (in_accessed_qualified access (filter (passes_names (all_parts modules) (known origin) access.names) (known origin)) entity (passing_of access origin entity brings))
