-- Double declarations: the Haskell 98 Report, sections 3.17.1, 4.2, 4.4.1, 4.4.2 and 4.4.3.
use Rattle.std.specs.Prelude.{ℕ, ◌≡◌, ◌<◌, List, Some, slice_get}
use Rattle.hr_scope_rules.specs.declared.role.Role.{Role}
use Rattle.hr_scope_rules.specs.Regions.{Placed}

-- what a region has once of each spelling. An equation that goes on the one before it declares nothing
abbrev pub IsOnce : Role → Type 0
IsOnce (Role.Declares space) = Unit {0}
IsOnce Role.Signs = Unit {0}
IsOnce (Role.Fixes space) = Unit {0}
IsOnce Role.Parameter = Unit {0}
IsOnce role = ⊥

-- two lexemes declare one spelling in one region, or give it two signatures or two fixities
pub record AreDouble (marks : List Placed) (first second : ℕ) : Type 0 where
  pub in_order : first < second
  pub one : Placed
  pub other : Placed
  pub first_is : slice_get marks first ≡ Some one
  pub second_is : slice_get marks second ≡ Some other
  pub counts : IsOnce one.role
  pub same_role : one.role ≡ other.role
  pub same_region : one.regions ≡ other.regions
  pub same_text : one.item.lexeme.text ≡ other.item.lexeme.text

-- the first lexeme that declares something again, and the first declaration of it
pub record IsFirstDouble (marks : List Placed) (first second : ℕ) : Type 0 where
  pub double : AreDouble marks first second
  pub none_before : (other another : ℕ) → AreDouble marks other another → another < second → ⊥
  pub first_of_it : (other : ℕ) → AreDouble marks other second → other < first → ⊥
