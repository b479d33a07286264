-- What the tests of names and entities tell.
use Rattle.std.proofs.Common.{◌≡◌, ℕ, List, true, false, ◌&&◌, refl, sym, ap, Some, None, true≢false}
use Rattle.std.specs.Prelude.{Option}
use Rattle.std.specs.Bool.{Decides}
use Rattle.std.specs.Str.{bytes_eq}
use Rattle.std.proofs.lemmas.Bool.Decides.{Decides-and, Decides-like}
use Rattle.std.proofs.lemmas.Slice.Eq.{bytes_eq-Decides}
use Rattle.hr_base.specs.declared.bind.Entity.{Entity}
use Rattle.hr_base.specs.declared.bind.Space.{Space}
use Rattle.hr_scope_rules.specs.Modules.{IsNamed}
use Rattle.hr_scope_lists.specs.Scopes.{same_space, same_entity, is_named, same_qualifier}

pub yes : {P : Type 0} → P → Decides true P
yes p = (λ e. p, λ q. refl)

pub no : {P : Type 0} → (P → ⊥) → Decides false P
no not_p = (λ e. absurd (true≢false (sym e)), λ p. absurd (not_p p))

pub space_decides : (a b : Space) → Decides (same_space a b) (a ≡ b)
space_decides Space.Value Space.Value = yes refl
space_decides Space.Value Space.Constructor = no (λ e. cc)
space_decides Space.Value Space.TypeName = no (λ e. cc)
space_decides Space.Constructor Space.Value = no (λ e. cc)
space_decides Space.Constructor Space.Constructor = yes refl
space_decides Space.Constructor Space.TypeName = no (λ e. cc)
space_decides Space.TypeName Space.Value = no (λ e. cc)
space_decides Space.TypeName Space.Constructor = no (λ e. cc)
space_decides Space.TypeName Space.TypeName = yes refl

pub entity_decides : (a b : Entity) → Decides (same_entity a b) (a ≡ b)
entity_decides a b =
    Decides-like (same_entity a b)
    (λ h. λ k. record { «module» = h.0 k; space = h.1.0 k; text = h.1.1 k })
    (λ e. (ap (λ x. x.«module») e, (ap (λ x. x.space) e, ap (λ x. x.text) e)))
    (Decides-and (bytes_eq a.«module» b.«module») (same_space a.space b.space && bytes_eq a.text b.text) (bytes_eq-Decides a.«module» b.«module»)
    (Decides-and (same_space a.space b.space) (bytes_eq a.text b.text) (space_decides a.space b.space) (bytes_eq-Decides a.text b.text)))

pub named_decides : (space : Space) (text : List ℕ) (entity : Entity) → Decides (is_named space text entity) (IsNamed space text entity)
named_decides space text entity =
    Decides-like (is_named space text entity)
    (λ h. record { space_is = h.0; text_is = h.1 })
    (λ n. (n.space_is, n.text_is))
    (Decides-and (same_space entity.space space) (bytes_eq entity.text text) (space_decides entity.space space) (bytes_eq-Decides entity.text text))

pub qualifier_decides : (a b : Option (List ℕ)) → Decides (same_qualifier a b) (a ≡ b)
qualifier_decides None None = yes refl
qualifier_decides None (Some b) = no (λ e. cc)
qualifier_decides (Some a) None = no (λ e. cc)
qualifier_decides (Some a) (Some b) = Decides-like (bytes_eq a b) (λ e. ap Some e) (λ e. inner a b e) (bytes_eq-Decides a b)
  where
    inner : (a b : List ℕ) → ◌≡◌ {A = Option (List ℕ)} (Some a) (Some b) → a ≡ b
    inner a b p = cc
