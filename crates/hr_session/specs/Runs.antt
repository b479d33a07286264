-- What becomes of a session under commands. It is a list of the projects that can come back, the last one last, and the
-- project that stands now.
use Rattle.std.specs.Prelude.{◌≡◌, ◌≢◌, Bool, true, false, List, [], ◌∷◌, ◌++◌, not}
use Rattle.hr_script.specs.declared.command.Command.{Command}
use Rattle.hr_script.specs.declared.command.Command.TheVariants.{Undo}
use Rattle.hr_session.specs.declared.line.Line.{Line}
use Rattle.hr_session.specs.declared.line.Line.TheVariants.{Good, Refused}
use Rattle.hr_session.specs.declared.line.Report.TheVariants.{Done, Undone}

abbrev pub State : Type 0 → Type 0
State P = List P × P

-- the last step is taken back, and the project before it stands again; or there is none, and nothing changes
abbrev pub TakesBack : {P : Type 0} → State P → State P → Bool → Type 0
TakesBack old new true = old.0 ≡ new.0 ++ new.1 ∷ []
TakesBack old new false = (old.0 ≡ []) × (new ≡ old)

-- the run goes on behind the line
abbrev pub goes_on : {W : Type 0} → Bool → Line W → Bool
goes_on keeps_going (Good report) = true
goes_on keeps_going (Refused why) = keeps_going

-- the line tells of want of memory
abbrev pub tells_memory : {W : Type 0} → (W → Bool) → Line W → Bool
tells_memory is_memory (Good report) = false
tells_memory is_memory (Refused why) = is_memory why

module _ {P W : Type 0} (takes : P → Command → P → Type 0) (refuses : P → Command → W → Type 0) where
  -- a command and what becomes of it, by what is taken and what is refused of a project
  pub data Carries : State P → Command → State P → Line W → Type 0 where
    undone : (old new : State P) (back : Bool) → TakesBack old new back → Carries old Undo new (Good (Undone back))
    done : (held : List P) (now next : P) (command : Command) → command ≢ Undo → takes now command next
        → Carries (held, now) command (held ++ now ∷ [], next) (Good Done)
    refused : (held : List P) (now : P) (command : Command) (why : W) → command ≢ Undo → refuses now command why
        → Carries (held, now) command (held, now) (Refused why)

  -- the commands one after another, each with its line, up to the first that is refused where the run does not keep going
  pub data Runs (is_memory : W → Bool) (keeps_going : Bool) : State P → List Command → State P → List (Line W) → Bool → Type 0 where
    ends : (state : State P) → Runs is_memory keeps_going state [] state [] false
    goes : (state next last : State P) (command : Command) (line : Line W) (commands : List Command) (lines : List (Line W)) (stopped : Bool)
        → Carries state command next line → tells_memory is_memory line ≡ false → goes_on keeps_going line ≡ true
        → Runs is_memory keeps_going next commands last lines stopped → Runs is_memory keeps_going state (command ∷ commands) last (line ∷ lines) stopped
    stops : (state next : State P) (command : Command) (line : Line W) (commands : List Command)
        → Carries state command next line → tells_memory is_memory line ≡ false → goes_on keeps_going line ≡ false
        → Runs is_memory keeps_going state (command ∷ commands) next (line ∷ []) true

  -- the state is one that a run of the first of these commands leaves, however many they are
  abbrev pub StandsWithin : (W → Bool) → Bool → State P → List Command → State P → Type 0
  StandsWithin is_memory keeps_going initial all state =
      (done behind : List Command) × (lines : List (Line W)) × (done ++ behind ≡ all) × Runs is_memory keeps_going initial done state lines false
