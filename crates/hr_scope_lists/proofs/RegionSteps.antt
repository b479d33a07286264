-- The innermost region that declares a name, and the lexemes that declare it there.
use Rattle.std.proofs.Common.{◌≡◌, ℕ, zero, suc, ◌+◌, List, [], ◌∷◌, Bool, true, false, ◌&&◌, inl, inr, refl, sym, ◌∙◌, ap, subst, arith, Some, None, true≢false}
use Rattle.std.specs.Prelude.{Option, Contains, ◌==◌, if◌then◌else◌}
use Rattle.std.specs.Bool.{Decides}
use Rattle.std.specs.List.{list_any}
use Rattle.std.specs.Str.{bytes_eq}
use Rattle.std.proofs.lemmas.Bool.Decides.{Decides-and, Decides-like, Decides-eqb}
use Rattle.std.proofs.lemmas.Slice.Eq.{bytes_eq-Decides}
use Rattle.std.proofs.lemmas.List.Elements.{Contains-append_left, Contains-append_right, Contains-append_cases}
use Rattle.hr_base.specs.declared.bind.Space.{Space}
use Rattle.hr_scope_rules.specs.declared.role.Role.{Role}
use Rattle.hr_scope_rules.specs.Regions.{Region, Placed}
use Rattle.hr_scope_rules.specs.Binds.{DeclaresIn, Innermost}
use Rattle.hr_scope_rules.specs.Binds.Innermost.{here, outside, top_level}
use Rattle.hr_scope_lists.specs.Found.{same_regions, declares, declares_in, declarers, innermost}
use Rattle.hr_scope_lists.proofs.Members.{none, single, any_decides, at_number, number_of, same_some}
use Rattle.hr_scope_lists.proofs.Tests.{yes, no, space_decides}

region_decides : (a b : Region) → Decides (a.0 == b.0 && a.1 == b.1) (a ≡ b)
region_decides a b =
    Decides-like (a.0 == b.0 && a.1 == b.1)
    (λ h. λ k. (h.0 k, h.1 k))
    (λ e. (ap (λ (r : Region). r.0) e, ap (λ (r : Region). r.1) e))
    (Decides-and (a.0 == b.0) (a.1 == b.1) (Decides-eqb a.0 b.0) (Decides-eqb a.1 b.1))

pub regions_decide : (a b : List Region) → Decides (same_regions a b) (a ≡ b)
regions_decide [] [] = yes refl
regions_decide [] (b ∷ others) = no (λ e. cc)
regions_decide (a ∷ outer) [] = no (λ e. cc)
regions_decide (a ∷ outer) (b ∷ others) =
    Decides-like ((a.0 == b.0 && a.1 == b.1) && same_regions outer others)
    (λ h. λ k. h.0 k ∷ h.1 k)
    (λ e. (heads a b outer others e, tails a b outer others e))
    (Decides-and (a.0 == b.0 && a.1 == b.1) (same_regions outer others) (region_decides a b) (regions_decide outer others))
  where
    heads : (a b : Region) (outer others : List Region) → ◌≡◌ {A = List Region} (a ∷ outer) (b ∷ others) → a ≡ b
    heads a b outer others e = cc

    tails : (a b : Region) (outer others : List Region) → ◌≡◌ {A = List Region} (a ∷ outer) (b ∷ others) → outer ≡ others
    tails a b outer others e = cc

declared_space : (a b : Space) → Role.Declares a ≡ Role.Declares b → a ≡ b
declared_space a b e = cc

declares_decides : (role : Role) (space : Space) → Decides (declares role space) (role ≡ Role.Declares space)
declares_decides (Role.Declares one) space = Decides-like (declares (Role.Declares one) space) (λ e. ap Role.Declares e) (λ e. declared_space one space e) (space_decides one space)
declares_decides Role.Plain space = no (λ e. cc)
declares_decides (Role.Uses one) space = no (λ e. cc)
declares_decides Role.GoesOn space = no (λ e. cc)
declares_decides Role.Signs space = no (λ e. cc)
declares_decides (Role.Fixes one) space = no (λ e. cc)
declares_decides Role.Parameter space = no (λ e. cc)
declares_decides (Role.Exported one) space = no (λ e. cc)
declares_decides (Role.ExportedPart ty) space = no (λ e. cc)
declares_decides (Role.Imported origin one) space = no (λ e. cc)
declares_decides (Role.ImportedPart origin ty) space = no (λ e. cc)
declares_decides (Role.Hidden origin) space = no (λ e. cc)

-- a lexeme declares the name in the region
pub record Declaring (regions : List Region) (space : Space) (text : List ℕ) (mark : Placed) : Type 0 where
  pub role_is : mark.role ≡ Role.Declares space
  pub regions_are : mark.regions ≡ regions
  pub text_is : mark.item.lexeme.text ≡ text

pub declaring_decides : (regions : List Region) (space : Space) (text : List ℕ) (mark : Placed) → Decides (declares_in regions space text mark) (Declaring regions space text mark)
declaring_decides regions space text mark =
    Decides-like (declares_in regions space text mark)
    (λ h. record { role_is = h.0; regions_are = h.1.0; text_is = h.1.1 })
    (λ d. (d.role_is, (d.regions_are, d.text_is)))
    (Decides-and (declares mark.role space) (same_regions mark.regions regions && bytes_eq mark.item.lexeme.text text) (declares_decides mark.role space)
    (Decides-and (same_regions mark.regions regions) (bytes_eq mark.item.lexeme.text text) (regions_decide mark.regions regions) (bytes_eq-Decides mark.item.lexeme.text text)))

module _ (marks : List Placed) (space : Space) (text : List ℕ) where
  some_declarer : (regions : List Region) → list_any (declares_in regions space text) marks ≡ true → (number : ℕ) × DeclaresIn marks regions space text number
  some_declarer regions e =
      let found = (any_decides (declares_in regions space text) (Declaring regions space text) (declaring_decides regions space text) marks).0 e in
      let place = number_of marks found.0 found.1 in
      (place.0, record { mark = found.0; at = place.1; role_is = found.2.role_is; regions_are = found.2.regions_are; text_is = found.2.text_is })

  declarer_found : (regions : List Region) (number : ℕ) → DeclaresIn marks regions space text number → list_any (declares_in regions space text) marks ≡ true
  declarer_found regions number d =
      (any_decides (declares_in regions space text) (Declaring regions space text) (declaring_decides regions space text) marks).1
      (d.mark, at_number marks number d.mark d.at, record { role_is = d.role_is; regions_are = d.regions_are; text_is = d.text_is })

  -- the regions that are computed are the innermost ones
  pub innermost_is : (regions : List Region) → Innermost marks space text regions (innermost marks space text regions)
  innermost_is [] = top_level
  innermost_is (region ∷ outer) = by (list_any (declares_in (region ∷ outer) space text) marks) refl (innermost_is outer)
    where
      by : (b : Bool) → list_any (declares_in (region ∷ outer) space text) marks ≡ b → Innermost marks space text outer (innermost marks space text outer)
          → Innermost marks space text (region ∷ outer) (if list_any (declares_in (region ∷ outer) space text) marks then region ∷ outer else innermost marks space text outer)
      by true e rest =
          let d = some_declarer (region ∷ outer) e in
          subst (λ (b : Bool). Innermost marks space text (region ∷ outer) (if b then region ∷ outer else innermost marks space text outer)) (sym e) (here region outer d.0 d.1)
      by false e rest =
          subst (λ (b : Bool). Innermost marks space text (region ∷ outer) (if b then region ∷ outer else innermost marks space text outer)) (sym e)
          (outside region outer (innermost marks space text outer) (λ number d. true≢false (sym (declarer_found (region ∷ outer) number d) ∙ e)) rest)

  pub innermost_only : (regions found : List Region) → Innermost marks space text regions found → found ≡ innermost marks space text regions
  innermost_only regions found (here region outer number d) =
      ap (λ (b : Bool). if b then region ∷ outer else innermost marks space text outer) (sym (declarer_found (region ∷ outer) number d))
  innermost_only regions found (outside region outer inner no_one rest) =
      innermost_only outer inner rest ∙ by (list_any (declares_in (region ∷ outer) space text) marks) refl
    where
      by : (b : Bool) → list_any (declares_in (region ∷ outer) space text) marks ≡ b
          → innermost marks space text outer ≡ (if list_any (declares_in (region ∷ outer) space text) marks then region ∷ outer else innermost marks space text outer)
      by true e = let d = some_declarer (region ∷ outer) e in absurd (no_one d.0 d.1)
      by false e = ap (λ (b : Bool). if b then region ∷ outer else innermost marks space text outer) (sym e)
  innermost_only regions found top_level = refl

-- the lexemes that declare a name in a region, by their numbers
pub declarers_sound : (regions : List Region) (space : Space) (text : List ℕ) (number : ℕ) (marks : List Placed) (n : ℕ) → Contains (declarers regions space text number marks) n
    → (k : ℕ) × (number + k ≡ n) × DeclaresIn marks regions space text k
declarers_sound regions space text number [] n h = absurd (none n h)
declarers_sound regions space text number (mark ∷ rest) n h =
    elim (Contains-append_cases (if declares_in regions space text mark then number ∷ [] else []) (declarers regions space text (number + 1) rest) n h) [
      | inl first ↦ by (declares_in regions space text mark) refl first
      | inr others ↦
          let found = declarers_sound regions space text (number + 1) rest n others in
          let place : number + suc found.0 ≡ n = omega (arith, found.1) in
          let d = found.2 in
          (suc found.0, place, record { mark = d.mark; at = d.at; role_is = d.role_is; regions_are = d.regions_are; text_is = d.text_is })
    ]
  where
    by : (b : Bool) → declares_in regions space text mark ≡ b → Contains (if b then number ∷ [] else []) n → (k : ℕ) × (number + k ≡ n) × DeclaresIn (mark ∷ rest) regions space text k
    by true e g =
        let same : number ≡ n = single number n g in
        let place : number + 0 ≡ n = omega (arith, same) in
        let d = (declaring_decides regions space text mark).0 e in
        (zero, place, record { mark = mark; at = refl; role_is = d.role_is; regions_are = d.regions_are; text_is = d.text_is })
    by false e g = absurd (none n g)

pub declarers_complete : (regions : List Region) (space : Space) (text : List ℕ) (number : ℕ) (marks : List Placed) (k : ℕ) → DeclaresIn marks regions space text k
    → Contains (declarers regions space text number marks) (number + k)
declarers_complete regions space text number [] k d = let clash : ◌≡◌ {A = Option Placed} None (Some d.mark) = d.at in cc
declarers_complete regions space text number (mark ∷ rest) zero d =
    let is : mark ≡ d.mark = same_some mark d.mark d.at in
    let declaring : Declaring regions space text d.mark = record { role_is = d.role_is; regions_are = d.regions_are; text_is = d.text_is } in
    let test : declares_in regions space text mark ≡ true = ap (declares_in regions space text) is ∙ (declaring_decides regions space text d.mark).1 declaring in
    let place : number ≡ number + 0 = omega arith in
    let one : Contains (number ∷ []) number = Contains-append_right [] (number ∷ []) number (first_of number) in
    subst (Contains (declarers regions space text number (mark ∷ rest))) place
    (Contains-append_left (if declares_in regions space text mark then number ∷ [] else []) (declarers regions space text (number + 1) rest) number
    (subst (λ (b : Bool). Contains (if b then number ∷ [] else []) number) (sym test) one))
  where
    first_of : (n : ℕ) → Contains (n ∷ []) n
    first_of n = (0, omega arith, refl)
declarers_complete regions space text number (mark ∷ rest) (suc k) d =
    let inner : DeclaresIn rest regions space text k = record { mark = d.mark; at = d.at; role_is = d.role_is; regions_are = d.regions_are; text_is = d.text_is } in
    let place : (number + 1) + k ≡ number + suc k = omega arith in
    subst (Contains (declarers regions space text number (mark ∷ rest))) place
    (Contains-append_right (if declares_in regions space text mark then number ∷ [] else []) (declarers regions space text (number + 1) rest) ((number + 1) + k)
    (declarers_complete regions space text (number + 1) rest k inner))
