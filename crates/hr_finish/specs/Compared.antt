-- What was compared of a target before a step is accepted.
use Rattle.std.specs.Prelude.{◌≡◌, ℕ, true, List, [], All, None, Some, slice_get}
use Rattle.hr_base.specs.declared.bind.Entity.{Entity}
use Rattle.hr_draft.specs.declared.draft.Draft.{Draft}
use Rattle.hr_tree.specs.Yields.{items_of}
use Rattle.hr_tree.specs.declared.modules.Module.{Module}
use Rattle.hr_check.specs.Projects.{bindings_of, modules_of}
use Rattle.hr_check.specs.declared.project.Project.{Project}
use Rattle.hr_step.specs.Lexemes.{are_read}
use Rattle.hr_step.specs.Names.{first_rebound}
use Rattle.hr_step.specs.Trivia.{does_trivia_stay}
use Rattle.hr_finish.specs.declared.finishing.Step.{Step}

-- a module was read as its draft has it: these lexemes, and between kept ones the blanks and comments that were there
pub record IsReadAs (draft : Draft) (before after : Module) : Type 0 where
  pub lexemes : are_read draft.lexemes (items_of after).list ≡ true
  pub trivia : does_trivia_stay (items_of before) draft.lexemes (items_of after) ≡ true

-- the same of the module of the draft's number, among those before the step and after it
abbrev pub IsDraftRead : List Module → List Module → Draft → Type 0
IsDraftRead old new draft =
    (before after : Module) × (slice_get old draft.«module» ≡ Some before) × (slice_get new draft.«module» ≡ Some after) × IsReadAs draft before after

-- the project after the step is the one that the drafts mean, where top-level things have others in their place by these
-- pairs: each draft was read, and each kept lexeme is bound to the image of its old binder
pub record IsCompared (old new : Project) (pairs : List (Entity × Entity)) (drafts : List Draft) : Type 0 where
  pub read : All (IsDraftRead (modules_of old) (modules_of new)) drafts
  pub bound : first_rebound drafts pairs (bindings_of old) (bindings_of new) [] ≡ None

-- an accepted step
abbrev pub IsFinished : Project → Step → Type 0
IsFinished old step = (drafts : List Draft) × IsCompared old step.project step.map.pairs drafts
