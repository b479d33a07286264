-- The refactorings that are built, as steps of a session.
use Rattle.std.specs.Prelude.{◌≡◌, Bool, ℕ, List, [], ◌∷◌, not, is_some}
use Rattle.hr_base.specs.declared.place.Pos.{Pos}
use Rattle.hr_check.specs.Projects.{texts_of}
use Rattle.hr_check.specs.declared.project.Project.{Project}
use Rattle.hr_finish.specs.Renamed.{IsRename}
use Rattle.hr_plain_tree.specs.declared.tree.Module.{Module}
use Rattle.hr_plain.specs.Form.{IsPlain}
use Rattle.hr_plain.specs.Renaming.{IsRenamed}
use Rattle.hr_script.specs.declared.command.Command.{Command}
use Rattle.hr_script.specs.declared.command.Command.TheVariants.{Rename, AddParameter, RemoveParameter, LiftOne, LiftTop, Demote, Generalise, Move, Abstract, Undo}
use Rattle.hr_why.specs.Numbers.{number_of}
use Rattle.hr_why.specs.declared.why.Why.{Why}

-- a renaming: the module and the position of a name, and the new name
pub record Renaming : Type 0 where
  pub module_name : List ℕ
  pub pos : Pos
  pub new_name : List ℕ

-- the renaming is accepted in a text of the plain form, and these are its bytes with the name renamed
pub record IsPlainStep (renaming : Renaming) (old new : List ℕ) : Type 0 where
  pub tree : Module
  pub plain : IsPlain old tree
  pub renamed : IsRenamed tree renaming.module_name renaming.pos renaming.new_name new

-- where the project is one text of the plain form in which the renaming is accepted, the new text is that one
abbrev pub IsMeant : Renaming → List (List ℕ) → List (List ℕ) → Type 0
IsMeant renaming olds news = (old new : List ℕ) → olds ≡ old ∷ [] → IsPlainStep renaming old new → news ≡ new ∷ []

-- the texts are no text of the plain form in which the renaming is accepted
abbrev pub IsNoPlainStep : Renaming → List (List ℕ) → Type 0
IsNoPlainStep renaming olds = (old new : List ℕ) → olds ≡ old ∷ [] → IsPlainStep renaming old new → ⊥

-- the new project is the old one with what the position names renamed
pub record IsRenamedTo (renaming : Renaming) (old new : Project) : Type 0 where
  pub meant : IsMeant renaming (texts_of old) (texts_of new)
  pub renamed : IsRename old new renaming.module_name renaming.pos renaming.new_name

-- the step of a command leads from the one project to the other
abbrev pub Takes : Project → Command → Project → Type 0
Takes old (Rename m p n) new = IsRenamedTo (record { module_name = m; pos = p; new_name = n }) old new
Takes old (AddParameter m p n) new = ⊥
Takes old (RemoveParameter m p i) new = ⊥
Takes old (LiftOne m p) new = ⊥
Takes old (LiftTop m p) new = ⊥
Takes old (Demote m p) new = ⊥
Takes old (Generalise m p n) new = ⊥
Takes old (Move a n b) new = ⊥
Takes old (Abstract m t) new = ⊥
Takes old Undo new = ⊥

-- a step may be refused: what is said of why is said by its number and its fields alone
abbrev pub Refuses : Project → Command → Why → Type 0
Refuses old command why = Unit {0}

abbrev pub is_memory : Why → Bool
is_memory why = not (is_some (number_of why))
