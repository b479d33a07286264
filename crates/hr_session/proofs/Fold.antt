-- A run goes on by a command, ends behind the last one, or stops at a line.
use Rattle.std.proofs.Common.{◌≡◌, ℕ, ◌+◌, ◌<◌, ◌≤◌, Bool, true, false, List, [], ◌∷◌, ◌++◌, length, take, drop, get_or, refl, sym, ap, subst, not, ◌∙◌, add-one, drop-cons, append_assoc, append-nil}
use Rattle.std.proofs.lemmas.List.{take-append-drop, take_more}
use Rattle.std.specs.Prelude.{Result, Ok, Err, OnErr}
use Rattle.hr_script.specs.declared.command.Command.{Command}
use Rattle.hr_session.specs.declared.line.Line.{Line}
use Rattle.hr_session.specs.Runs.{State, Carries, Runs, StandsWithin, goes_on, tells_memory}
use Rattle.hr_session.specs.Runs.Runs.{ends, goes, stops}

-- what holds anyway, holds of an error
pub told_err : {A B : Type 0} {P : Type 0} (r : Result A B) → P → OnErr r P
told_err (Ok x) p = tt
told_err (Err e) p = p

pub goes_yet : (b : Bool) → not b ≡ false → b ≡ true
goes_yet true e = refl
goes_yet false e = sym e

pub ends_it : (b : Bool) → not b ≡ true → b ≡ false
ends_it true e = sym e
ends_it false e = refl

-- what comes up to the place of x is what comes before it, and x
up_to : {X : Type 0} (xs : List X) (place : ℕ) (x : X) → place < length xs → x ≡ get_or xs place x → take (place + 1) xs ≡ take place xs ++ x ∷ []
up_to xs place x within is = take_more xs place x within ∙ ap (λ y. take place xs ++ y ∷ []) (sym is)

-- x comes between what is before its place and what is behind it
around : {X : Type 0} (xs : List X) (place : ℕ) (x : X) → place < length xs → x ≡ get_or xs place x → take place xs ++ x ∷ drop (place + 1) xs ≡ xs
around xs place x within is =
    sym (append_assoc (take place xs) (x ∷ []) (drop (place + 1) xs)) ∙ (ap (λ front. front ++ drop (place + 1) xs) (sym (up_to xs place x within is)) ∙ take-append-drop (place + 1) xs)

module _ {P W : Type 0} (takes : P → Command → P → Type 0) (refuses : P → Command → W → Type 0) (is_memory : W → Bool) (keeps_going : Bool) where
  -- these commands were run, with these lines: whatever runs from here, runs behind them
  abbrev pub WereRun : State P → List Command → List (Line W) → State P → Type 0
  WereRun initial done lines state =
      (behind : List Command) (last : State P) (more : List (Line W)) (stopped : Bool) → Runs takes refuses is_memory keeps_going state behind last more stopped
      → Runs takes refuses is_memory keeps_going initial (done ++ behind) last (lines ++ more) stopped

  pub begins : (state : State P) → WereRun state [] [] state
  begins state behind last more stopped r = r

  pub further : (initial state next : State P) (all : List Command) (place : ℕ) (command : Command) (line : Line W) (lines : List (Line W))
      → place < length all → command ≡ get_or all place command
      → Carries takes refuses state command next line → tells_memory is_memory line ≡ false → goes_on keeps_going line ≡ true
      → WereRun initial (take place all) lines state → WereRun initial (take (place + 1) all) (lines ++ line ∷ []) next
  further initial state next all place command line lines within is carries memory on run behind last more stopped r =
      let longer = run (command ∷ behind) last (line ∷ more) stopped (goes state next last command line behind more stopped carries memory on r) in
      let commands : take place all ++ command ∷ behind ≡ take (place + 1) all ++ behind =
      sym (append_assoc (take place all) (command ∷ []) behind) ∙ ap (λ front. front ++ behind) (sym (up_to all place command within is)) in
      subst (λ cs. Runs takes refuses is_memory keeps_going initial cs last ((lines ++ line ∷ []) ++ more) stopped) commands
      (subst (λ ls. Runs takes refuses is_memory keeps_going initial (take place all ++ command ∷ behind) last ls stopped) (sym (append_assoc lines (line ∷ []) more)) longer)

  pub stopped : (initial state next : State P) (all : List Command) (place : ℕ) (command : Command) (line : Line W) (lines : List (Line W))
      → place < length all → command ≡ get_or all place command
      → Carries takes refuses state command next line → tells_memory is_memory line ≡ false → goes_on keeps_going line ≡ false
      → WereRun initial (take place all) lines state → Runs takes refuses is_memory keeps_going initial all next (lines ++ line ∷ []) true
  stopped initial state next all place command line lines within is carries memory off run =
      subst (λ cs. Runs takes refuses is_memory keeps_going initial cs next (lines ++ line ∷ []) true) (around all place command within is)
      (run (command ∷ drop (place + 1) all) next (line ∷ []) true (stops state next command line (drop (place + 1) all) carries memory off))

  pub finished : (initial state : State P) (done : List Command) (lines : List (Line W)) → WereRun initial done lines state
      → Runs takes refuses is_memory keeps_going initial done state lines false
  finished initial state done lines run =
      subst (λ ls. Runs takes refuses is_memory keeps_going initial done state ls false) (append-nil lines)
      (subst (λ cs. Runs takes refuses is_memory keeps_going initial cs state (lines ++ []) false) (append-nil done) (run [] state [] false (ends state)))

  -- a run that breaks off has carried out the commands so far
  pub broken_off : (initial state : State P) (all : List Command) (place : ℕ) (lines : List (Line W)) → WereRun initial (take place all) lines state
      → StandsWithin takes refuses is_memory keeps_going initial all state
  broken_off initial state all place lines run =
      (take place all, drop place all, lines, take-append-drop place all, finished initial state (take place all) lines run)
