-- The changes of a step are of files that are ready to be replaced.
use Rattle.std.proofs.Common.{◌≤◌, ◌<◌, ◌+◌, ℕ, Bool, true, false, List, [], ◌∷◌, length, All, Option, Some, None, if◌then◌else◌, get_or, suc, arith}
use Rattle.std.proofs.lemmas.List.Elements.{All-append, All-cons, All-nil}
use Rattle.std.specs.Prelude.{slice_get}
use Rattle.std.specs.Str.{bytes_eq}
use Rattle.hr_shelf.specs.Outside.{StaysReady}
use Rattle.hr_files.specs.Read.{AreReady}
use Rattle.hr_files.specs.Replaced.{IsReadyChange, change_at, changes_from}
use Rattle.hr_files.specs.RolledBack.{backs}
use Rattle.hr_files.specs.declared.replacing.Change.{Change}

module _ (ready names : List (List ℕ)) (every : AreReady ready names) where
  ready_if : (file : ℕ) (new : List ℕ) → file < length names → (same : Bool)
      → All (IsReadyChange ready names) (if same then [] else record { file = file; bytes = new } ∷ [])
  ready_if file new within true = All-nil (IsReadyChange ready names)
  ready_if file new within false =
      All-cons (IsReadyChange ready names) (record { file = file; bytes = new }) [] (within, every file [] within) (All-nil (IsReadyChange ready names))

  ready_at : (file : ℕ) (old : List ℕ) (new : Option (List ℕ)) → file < length names → All (IsReadyChange ready names) (change_at file old new)
  ready_at file old None within = All-nil (IsReadyChange ready names)
  ready_at file old (Some new) within = ready_if file new within (bytes_eq old new)

  pub ready_from : (news : List (List ℕ)) (file : ℕ) (olds : List (List ℕ)) → file + length olds ≤ length names
      → All (IsReadyChange ready names) (changes_from news file olds)
  ready_from news file [] few = All-nil (IsReadyChange ready names)
  ready_from news file (old ∷ olds) few =
      All-append (IsReadyChange ready names) (change_at file old (slice_get news file)) (changes_from news (file + 1) olds)
      (ready_at file old (slice_get news file) (omega (arith, few))) (ready_from news (file + 1) olds (omega (arith, few)))

-- changes back are ready where the changes were
pub ready_backs : (ready later names olds : List (List ℕ)) → StaysReady ready later → (changes : List Change) → All (IsReadyChange ready names) changes → All (IsReadyChange later names) (backs olds changes)
ready_backs ready later names olds stays [] every = All-nil (IsReadyChange later names)
ready_backs ready later names olds stays (change ∷ changes) every =
    let first = every 0 change (omega arith) in
    All-cons (IsReadyChange later names) (record { file = change.file; bytes = get_or olds change.file [] }) (backs olds changes) (first.0, stays _ first.1)
    (ready_backs ready later names olds stays changes (λ k d within. every (suc k) d (omega (arith, within))))
