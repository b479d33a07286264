-- How types are written, kind by kind, and the bytes of several pieces.
use Rattle.std.proofs.Common.{◌≡◌, ℕ, List, [], ◌∷◌, ◌++◌, map, Some, None, slice_get, refl, ap, ◌∙◌, append_assoc, sym}
use Rattle.hr_base.specs.declared.bind.Entity.{Entity}
use Rattle.hr_type.specs.declared.mono.Mono.{Mono}
use Rattle.hr_type.specs.declared.mono.Mono.TheVariants.{Var, Con, Fun}
use Rattle.hr_type.specs.declared.spell.TypeScope.{TypeScope}
use Rattle.hr_type.specs.declared.spell.Brackets.{Brackets}
use Rattle.hr_type.specs.Spelling as spec
use Rattle.hr_type.specs.Spelling.{Piece, blank, lexeme, bytes_of, Written, written, brackets_of}
use Rattle.hr_type.proofs.Terms.{value-var, value-con, value-fun}

pub bytes_of-append : (xs ys : List Piece) → bytes_of (xs ++ ys) ≡ bytes_of xs ++ bytes_of ys
bytes_of-append [] ys = refl
bytes_of-append (blank ∷ xs) ys = ap (λ x. 32 ∷ x) (bytes_of-append xs ys)
bytes_of-append (lexeme text ∷ xs) ys = ap (λ x. text ++ x) (bytes_of-append xs ys) ∙ sym (append_assoc text (bytes_of xs) (bytes_of ys))

module _ (scope : TypeScope) (t : Mono) where
  pub written_var : (n : ℕ) → t ≡ Var n → written scope t ≡ record { grade = 2; pieces = spec.variable_pieces (slice_get scope.variables n) }
  written_var n h = ap (written scope) h ∙ value-var _ _ _ _ n

  pub written_con : (e : Entity) (ts : List Mono) → t ≡ Con e ts → written scope t ≡ spec.application scope e (brackets_of e) (map (written scope) ts)
  written_con e ts h = ap (written scope) h ∙ value-con _ _ _ _ e ts

  pub written_fun : (a b : Mono) → t ≡ Fun a b → written scope t ≡ spec.arrow (written scope a) (written scope b)
  written_fun a b h = ap (written scope) h ∙ value-fun _ _ _ _ a b

  pub written_enclosed : (e : Entity) (ts : List Mono) (b : Brackets) → t ≡ Con e ts → brackets_of e ≡ Some b → written scope t ≡ spec.application scope e (Some b) (map (written scope) ts)
  written_enclosed e ts b h k = written_con e ts h ∙ ap (λ o. spec.application scope e o (map (written scope) ts)) k

  pub written_applied : (e : Entity) (ts : List Mono) → t ≡ Con e ts → brackets_of e ≡ None → written scope t ≡ spec.application scope e None (map (written scope) ts)
  written_applied e ts h k = written_con e ts h ∙ ap (λ o. spec.application scope e o (map (written scope) ts)) k

pub applied_grade-map : {X Y : Type 0} (f : X → Y) (xs : List X) → spec.applied_grade (map f xs) ≡ spec.applied_grade xs
applied_grade-map f [] = refl
applied_grade-map f (x ∷ xs) = refl

pub ruleset kinds_written = (written_var, written_con, written_fun, written_enclosed, written_applied, applied_grade-map)
