-- What a refusal shows: two types, or a variable and a type, that every unifier would have to make equal, and cannot.
use Rattle.std.specs.Prelude.{◌≡◌, ◌<◌, ℕ, List, length, slice_index_or, slice_set}
use Rattle.hr_base.specs.declared.bind.Entity.{Entity}
use Rattle.hr_type.specs.declared.mono.Mono.{Mono}
use Rattle.hr_type.specs.declared.mono.Mono.TheVariants.{Var, Con, Fun}
use Rattle.hr_type.specs.declared.mono.Mono.TheOpen.{Mono-F}
use Rattle.hr_type.specs.declared.mono.Mono.TheViews.{out-Mono}
use Rattle.hr_type.specs.Types.{variables}
use Rattle.hr_unify.specs.declared.solve.UnifyError.{UnifyError}
use Rattle.hr_unify.specs.declared.solve.UnifyError.TheVariants.{Mismatch, Occurs, Memory}
use Rattle.hr_unify.specs.Unifiers.{Equations, IsOneOf, Unifies}

-- Two types related by finitely many steps from equations: by equivalence, from two types of one constructor with
-- equally many arguments to their arguments in turn, and back from an argument to such types; `->` is a constructor.
pub data Related (equations : Equations) : Mono → Mono → Type 0 where
  given : (l r : Mono) → IsOneOf (l, r) equations → Related equations l r
  same : (t : Mono) → Related equations t t
  turned : (l r : Mono) → Related equations l r → Related equations r l
  chained : (a b c : Mono) → Related equations a b → Related equations b c → Related equations a c
  argument : (e : Entity) (ts us : List Mono) (i : ℕ) (d f : Mono) → length ts ≡ length us → i < length ts → Related equations (Con e ts) (Con e us)
      → Related equations (slice_index_or ts i d) (slice_index_or us i f)
  domain : (a b c d : Mono) → Related equations (Fun a b) (Fun c d) → Related equations a c
  range : (a b c d : Mono) → Related equations (Fun a b) (Fun c d) → Related equations b d
  replaced_argument : (e : Entity) (ts : List Mono) (i : ℕ) (u : Mono) → i < length ts → Related equations (slice_index_or ts i u) u → Related equations (Con e ts) (Con e (slice_set ts i u))
  from : (a b c : Mono) → Related equations a b → Related equations (Fun a c) (Fun b c)
  to : (a b c : Mono) → Related equations b c → Related equations (Fun a b) (Fun a c)

-- the constructor of a type with its number of arguments; a variable has none
pub data Head : Type 0 where
  no_head : Head
  arrow_head : Head
  head : Entity → ℕ → Head

abbrev pub layer_head : Mono-F Mono → Head
layer_head (Mono-F.Var n) = no_head
layer_head (Mono-F.Con e ts) = head e (length ts)
layer_head (Mono-F.Fun a b) = arrow_head

abbrev pub head_of : Mono → Head
head_of t = layer_head (out-Mono t)

-- neither is a variable, and the constructors or the numbers of arguments differ
pub record Clashes (equations : Equations) (left right : Mono) : Type 0 where
  pub related : Related equations left right
  pub left_applied : head_of left ≡ no_head → ⊥
  pub right_applied : head_of right ≡ no_head → ⊥
  pub differ : head_of left ≡ head_of right → ⊥

-- the type isn't the variable itself, and has it
pub record HoldsItself (equations : Equations) (variable : ℕ) (ty : Mono) : Type 0 where
  pub related : Related equations (Var variable) ty
  pub inside : IsOneOf variable (variables ty)
  pub other : ty ≡ Var variable → ⊥

abbrev pub HasNoUnifier : Equations → Type 0
HasNoUnifier equations = (by : ℕ → Mono) → Unifies by equations → ⊥

-- what each refusal says; want of memory says nothing
abbrev pub Shows : Equations → UnifyError → Type 0
Shows equations (Mismatch left right) = Clashes equations left right × HasNoUnifier equations
Shows equations (Occurs variable ty) = HoldsItself equations variable ty × HasNoUnifier equations
Shows equations (Memory e) = Unit {0}
