-- The first double declaration of a module, by a plain function.
use Rattle.std.specs.Prelude.{ℕ, suc, ◌&&◌, Bool, true, false, List, [], ◌∷◌, ◌++◌, if◌then◌else◌, length, Option, Some, None}
use Rattle.std.specs.Str.{bytes_eq}
use Rattle.hr_scope_rules.specs.declared.role.Role.{Role}
use Rattle.hr_scope_rules.specs.Regions.{Placed}
use Rattle.hr_scope_lists.specs.Scopes.{same_space}
use Rattle.hr_scope_lists.specs.Found.{same_regions}

-- two roles that are one, of those that a region has once of each spelling
abbrev pub same_once : Role → Role → Bool
same_once (Role.Declares a) (Role.Declares b) = same_space a b
same_once Role.Signs Role.Signs = true
same_once (Role.Fixes a) (Role.Fixes b) = same_space a b
same_once Role.Parameter Role.Parameter = true
same_once _ _ = false

abbrev pub are_double : Placed → Placed → Bool
are_double one other = same_once one.role other.role && (same_regions one.regions other.regions && bytes_eq one.item.lexeme.text other.item.lexeme.text)

abbrev pub one_later : Option ℕ → Option ℕ
one_later None = None
one_later (Some number) = Some (suc number)

-- the number of the first lexeme that the other one repeats
abbrev pub first_of : Placed → List Placed → Option ℕ
first_of mark [] = None
first_of mark (one ∷ rest) = if are_double one mark then Some 0 else one_later (first_of mark rest)

abbrev pub pair_or : Option ℕ → ℕ → Option (ℕ × ℕ) → Option (ℕ × ℕ)
pair_or None number later = later
pair_or (Some first) number later = Some (first, number)

-- the first double among some lexemes and those behind them, where the former have none
abbrev pub double_behind : List Placed → List Placed → Option (ℕ × ℕ)
double_behind before [] = None
double_behind before (mark ∷ rest) = pair_or (first_of mark before) (length before) (double_behind (before ++ mark ∷ []) rest)

abbrev pub first_double : List Placed → Option (ℕ × ℕ)
first_double marks = double_behind [] marks
