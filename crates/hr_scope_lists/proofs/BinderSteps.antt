-- The one binder that a lexeme has is what it is bound to.
use Rattle.std.proofs.Common.{◌≡◌, List, [], ◌∷◌, Bool, true, false, ◌&&◌, ◌⊎◌, inl, inr, refl, sym, ◌∙◌, ap, subst, Some, None}
use Rattle.std.specs.Prelude.{Option, Contains, slice_get, ◌↔◌, ◌==◌, if◌then◌else◌}
use Rattle.std.specs.Bool.{Decides}
use Rattle.std.specs.List.{list_all}
use Rattle.std.proofs.lemmas.Bool.Decides.{Decides-and, Decides-like, Decides-eqb}
use Rattle.hr_base.specs.declared.bind.Binder.{Binder}
use Rattle.hr_base.specs.declared.bind.Entity.{Entity}
use Rattle.hr_base.specs.declared.place.Spot.{Spot}
use Rattle.hr_tree.specs.declared.modules.Module.{Module}
use Rattle.hr_scope_rules.specs.Regions.{Placed, lexemes}
use Rattle.hr_scope_rules.specs.Binds.{Binds}
use Rattle.hr_scope_lists.specs.Scopes.{same_entity}
use Rattle.hr_scope_lists.specs.Found.{candidates, same_binder, only_of, binder_of_mark, binder_in, binder_at}
use Rattle.hr_scope_lists.proofs.Members.{none, here, there, split, same_some}
use Rattle.hr_scope_lists.proofs.Tests.{yes, no, entity_decides}
use Rattle.hr_scope_lists.proofs.FoundSteps.{candidates_agree}

global_is : (a b : Entity) → Binder.Global a ≡ Binder.Global b → a ≡ b
global_is a b e = cc

local_is : (a b : Spot) → Binder.Local a ≡ Binder.Local b → a ≡ b
local_is a b e = cc

spot_decides : (a b : Spot) → Decides (a.«module» == b.«module» && a.item == b.item) (a ≡ b)
spot_decides a b =
    Decides-like (a.«module» == b.«module» && a.item == b.item)
    (λ h. λ k. record { «module» = h.0 k; item = h.1 k })
    (λ e. (ap (λ (s : Spot). s.«module») e, ap (λ (s : Spot). s.item) e))
    (Decides-and (a.«module» == b.«module») (a.item == b.item) (Decides-eqb a.«module» b.«module») (Decides-eqb a.item b.item))

binder_decides : (a b : Binder) → Decides (same_binder a b) (a ≡ b)
binder_decides (Binder.Global a) (Binder.Global b) = Decides-like (same_entity a b) (λ e. ap Binder.Global e) (λ e. global_is a b e) (entity_decides a b)
binder_decides (Binder.Global a) (Binder.Local b) = no (λ e. cc)
binder_decides (Binder.Local a) (Binder.Global b) = no (λ e. cc)
binder_decides (Binder.Local a) (Binder.Local b) = Decides-like (a.«module» == b.«module» && a.item == b.item) (λ e. ap Binder.Local e) (λ e. local_is a b e) (spot_decides a b)

all_decides : {X : Type 0} (p : X → Bool) (P : X → Type 0) → ((x : X) → Decides (p x) (P x)) → (xs : List X) → Decides (list_all p xs) ((x : X) → Contains xs x → P x)
all_decides p P each [] = yes (λ x h. absurd (none x h))
all_decides {X} p P each (y ∷ xs) =
    Decides-like (p y && list_all p xs)
    (λ h. λ x among. to h.0 h.1 x (split y xs x among))
    (λ h. (h y (here y xs), λ x among. h x (there y xs x among)))
    (Decides-and (p y) (list_all p xs) (each y) (all_decides p P each xs))
  where
    to : P y → ((x : X) → Contains xs x → P x) → (x : X) → (y ≡ x) ⊎ Contains xs x → P x
    to first rest x (inl e) = subst P e first
    to first rest x (inr among) = rest x among

only_sound : (binders : List Binder) (binder : Binder) → only_of binders ≡ Some binder → Contains binders binder × ((other : Binder) → Contains binders other → other ≡ binder)
only_sound [] binder e = let clash : ◌≡◌ {A = Option Binder} None (Some binder) = e in cc
only_sound (first ∷ rest) binder e = by (list_all (same_binder first) rest) refl e
  where
    by : (b : Bool) → list_all (same_binder first) rest ≡ b → ◌≡◌ {A = Option Binder} (if b then Some first else None) (Some binder)
        → Contains (first ∷ rest) binder × ((other : Binder) → Contains (first ∷ rest) other → other ≡ binder)
    by true all is =
        let same : first ≡ binder = same_some first binder is in
        let each = (all_decides (same_binder first) (λ other. first ≡ other) (λ other. binder_decides first other) rest).0 all in
        (subst (Contains (first ∷ rest)) same (here first rest), λ other among. each_is same each other (split first rest other among))
      where
        each_is : first ≡ binder → ((x : Binder) → Contains rest x → first ≡ x) → (other : Binder) → (first ≡ other) ⊎ Contains rest other → other ≡ binder
        each_is same each other (inl is) = sym is ∙ same
        each_is same each other (inr among) = sym (each other among) ∙ same
    by false all is = let clash : ◌≡◌ {A = Option Binder} None (Some binder) = is in cc

only_complete : (binders : List Binder) (binder : Binder) → Contains binders binder → ((other : Binder) → Contains binders other → other ≡ binder) → only_of binders ≡ Some binder
only_complete [] binder h only = absurd (none binder h)
only_complete (first ∷ rest) binder h only =
    let same : first ≡ binder = only first (here first rest) in
    let all = (all_decides (same_binder first) (λ other. first ≡ other) (λ other. binder_decides first other) rest).1 (λ other among. same ∙ sym (only other (there first rest other among))) in
    ap (λ (b : Bool). let found : Option Binder = if b then Some first else None in found) all ∙ ap Some same

module _ (modules : List Module) (spot : Spot) (binder : Binder) where
  mark_sound : (tree : Module) → slice_get modules spot.«module» ≡ Some tree → (mark : Option Placed) → slice_get (lexemes tree) spot.item ≡ mark
      → binder_of_mark modules spot.«module» tree mark ≡ Some binder → Binds modules spot binder
  mark_sound tree at None is e = let clash : ◌≡◌ {A = Option Binder} None (Some binder) = e in cc
  mark_sound tree at (Some mark) is e =
      let only = only_sound (candidates modules spot.«module» tree mark) binder e in
      record {
        tree = tree;
        mark = mark;
        stands = record { module_at = at; lexeme_at = is };
        candidate = (candidates_agree modules spot.«module» tree mark binder at).0 only.0;
        only = λ other h. only.1 other ((candidates_agree modules spot.«module» tree mark other at).1 h);
      }

  tree_sound : (tree : Option Module) → slice_get modules spot.«module» ≡ tree → binder_in modules spot tree ≡ Some binder → Binds modules spot binder
  tree_sound None is e = let clash : ◌≡◌ {A = Option Binder} None (Some binder) = e in cc
  tree_sound (Some tree) is e = mark_sound tree is (slice_get (lexemes tree) spot.item) refl e

  complete : Binds modules spot binder → binder_at modules spot ≡ Some binder
  complete b =
      ap (binder_in modules spot) b.stands.module_at
      ∙ ap (binder_of_mark modules spot.«module» b.tree) b.stands.lexeme_at
      ∙ only_complete (candidates modules spot.«module» b.tree b.mark) binder ((candidates_agree modules spot.«module» b.tree b.mark binder b.stands.module_at).1 b.candidate)
      (λ other h. b.only other ((candidates_agree modules spot.«module» b.tree b.mark other b.stands.module_at).0 h))

pub binders_agree : (modules : List Module) (spot : Spot) (binder : Binder) → (binder_at modules spot ≡ Some binder) ↔ Binds modules spot binder
binders_agree modules spot binder = (tree_sound modules spot binder (slice_get modules spot.«module») refl, complete modules spot binder)
