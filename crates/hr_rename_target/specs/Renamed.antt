-- What it is for modules to be those of before with what has the binder renamed.
use Rattle.std.specs.Prelude.{◌≡◌, ℕ, ◌+◌, Bool, true, false, ◌&&◌, List, [], ◌∷◌, Option, None, if◌then◌else◌}
use Rattle.hr_base.specs.declared.bind.Binder.{Binder}
use Rattle.hr_draft.specs.declared.draft.Drafted.{Drafted}
use Rattle.hr_tree.specs.Yields.{items_of}
use Rattle.hr_tree.specs.declared.modules.Module.{Module}
use Rattle.hr_step.specs.Lexemes.{are_read}
use Rattle.hr_step.specs.Names.{first_rebound}
use Rattle.hr_step.specs.Trivia.{does_trivia_stay}
use Rattle.hr_rename_target.specs.Target.{pairs_of, target_from}

-- a module has the lexemes of the target, and before each the blanks and comments that were there
abbrev pub is_read_as : List Drafted → Module → Module → Bool
is_read_as target before after = are_read target (items_of after).list && does_trivia_stay (items_of before) target (items_of after)

-- as many modules as before, each read as its target; the first has the number
abbrev pub are_read_from : Binder → List ℕ → List (List (Option Binder)) → ℕ → List Module → List Module → Bool
are_read_from binder new bindings «module» [] [] = true
are_read_from binder new bindings «module» [] (after ∷ afters) = false
are_read_from binder new bindings «module» (before ∷ befores) [] = false
are_read_from binder new bindings «module» (before ∷ befores) (after ∷ afters) =
    if is_read_as (target_from binder new bindings «module» 0 (items_of before).list) before after
    then are_read_from binder new bindings («module» + 1) befores afters
    else false

-- Every module is read as its target; and each lexeme that was bound is bound to the same as before: to the lexeme that
-- declared it, or to its top-level thing, under its new name where it is the renamed one.
pub record AreRenamed (binder : Binder) (new : List ℕ) (befores afters : List Module) (old_bindings new_bindings : List (List (Option Binder))) : Type 0 where
  pub read : are_read_from binder new old_bindings 0 befores afters ≡ true
  pub bound : first_rebound [] (pairs_of binder new) old_bindings new_bindings [] ≡ None
