-- Laws of what is written for a type.
use Rattle.std.specs.Prelude.{◌≡◌, ℕ, true, List}
use Rattle.hr_type.specs.declared.mono.Mono.{Mono}
use Rattle.hr_type.specs.declared.spell.TypeScope.{TypeScope}
use Rattle.hr_type.specs.Grammar.{ReadsType}
use Rattle.hr_type.specs.Spelling.{written}
use Rattle.hr_type_laws.specs.Blanks.{are_apart}
use Rattle.hr_type_laws.specs.Scopes.{TellsApart, IsTypeScope}

-- lexemes read as one type at most
abbrev pub OneType : Type 0
OneType = (scope : TypeScope) → TellsApart scope → (xs : List (List ℕ)) (t u : Mono) → ReadsType scope 0 xs t → ReadsType scope 0 xs u → t ≡ u

-- a scope in which types are printed tells its texts apart
abbrev pub ScopesTellApart : Type 0
ScopesTellApart = (scope : TypeScope) → IsTypeScope scope → TellsApart scope

-- in what is written for a type no two lexemes touch that may not
abbrev pub BlanksBetween : Type 0
BlanksBetween = (scope : TypeScope) (t : Mono) → are_apart (written scope t).pieces ≡ true
