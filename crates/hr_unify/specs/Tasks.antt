-- What solving works on, as it stands for types: what is left to do, what is known, and what is settled.
use Rattle.std.specs.Prelude.{ℕ, nat_eq, List, [], ◌∷◌, ◌++◌, map, Option, Some, None, Result, Ok, Err}
use denote.Ref.{Bor}
use Rattle.indexmap.specs.IndexMap.{insert_entry}
use Rattle.hr_type.specs.declared.mono.Mono.{Mono}
use Rattle.hr_type.specs.declared.mono.Mono.TheVariants.{Var}
use Rattle.hr_unify.specs.declared.known.Known.{Known}
use Rattle.hr_unify.specs.declared.solve.UnifyError.{UnifyError}
use Rattle.hr_unify.specs.declared.work.Work as code
use Rattle.hr_unify.specs.Unifiers.{Pairs}

-- an equation, or a variable whose equation with a type is settled once the work above it is done
pub data Task : Type 0 where
  Equation : Mono → Mono → Task
  Settled : ℕ → Mono → Task

abbrev pub task_of : code.Work → Task
task_of (code.TheVariants.Equation l r) = Equation l.now r.now
task_of (code.TheVariants.Settled x y) = Settled x (Var y)

abbrev pub tasks : List code.Work → List Task
tasks = map task_of

abbrev pub seen_pairs : List (ℕ × Bor Mono) → Pairs
seen_pairs = map (λ p. (p.0, p.1.now))

abbrev pub pairs_of : Known → Pairs
pairs_of known = known.given.now.entries ++ seen_pairs known.fresh.entries

abbrev pub marks : List (ℕ × ℕ) → Pairs
marks = map (λ p. (p.0, Var p.1))

abbrev pub put : ℕ → ℕ → List (ℕ × ℕ) → List (ℕ × ℕ)
put x y entries = insert_entry nat_eq entries x y

-- an answer with what its reference points to
abbrev pub plain : {E : Type 0} → Result (Option (ℕ × Bor Mono)) E → Result (Option (ℕ × Mono)) E
plain (Ok None) = Ok None
plain (Ok (Some b)) = Ok (Some (b.0, b.1.now))
plain (Err e) = Err e
