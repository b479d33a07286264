-- What it is for the plain functions to compute the relations.
use Rattle.std.specs.Prelude.{ℕ, ◌≡◌, ◌↔◌, List, Option, Some, Contains, slice_get}
use Rattle.hr_base.specs.declared.bind.Binder.{Binder}
use Rattle.hr_base.specs.declared.bind.Entity.{Entity}
use Rattle.hr_base.specs.declared.place.Spot.{Spot}
use Rattle.hr_tree.specs.declared.modules.Module.{Module}
use Rattle.hr_scope_rules.specs.Regions.{Placed}
use Rattle.hr_scope_rules.specs.Doubles.{IsFirstDouble}
use Rattle.hr_scope_rules.specs.Exports.{Exports, InScope}
use Rattle.hr_scope_rules.specs.Binds.{Candidate, Binds}
use Rattle.hr_scope_lists.specs.Scopes.{exports_of, scope_of}
use Rattle.hr_scope_lists.specs.Doubles.{first_double}
use Rattle.hr_scope_lists.specs.Found.{candidates, binder_at}

abbrev pub ExportsAgree : Type 0
ExportsAgree = (modules : List Module) (number : ℕ) (entity : Entity) → Contains (exports_of modules number) entity ↔ Exports modules number entity

abbrev pub ScopesAgree : Type 0
ScopesAgree = (modules : List Module) (number : ℕ) (tree : Module) (qualifier : Option (List ℕ)) (entity : Entity)
    → slice_get modules number ≡ Some tree → Contains (scope_of modules tree) (qualifier, entity) ↔ InScope modules number qualifier entity

abbrev pub CandidatesAgree : Type 0
CandidatesAgree = (modules : List Module) (number : ℕ) (tree : Module) (mark : Placed) (binder : Binder)
    → slice_get modules number ≡ Some tree → Contains (candidates modules number tree mark) binder ↔ Candidate modules number tree mark binder

abbrev pub BindersAgree : Type 0
BindersAgree = (modules : List Module) (spot : Spot) (binder : Binder) → (binder_at modules spot ≡ Some binder) ↔ Binds modules spot binder

abbrev pub DoublesAgree : Type 0
DoublesAgree = (marks : List Placed) (first second : ℕ) → (first_double marks ≡ Some (first, second)) ↔ IsFirstDouble marks first second
