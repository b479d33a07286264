-- What a session ran is a run that was asked for.
use Rattle.std.proofs.Common.{◌≡◌, ℕ, Bool, List, [], Result, Ok, Err, IfOk, MatchResult, subst, sym}
use Rattle.hr_check.specs.Projects.{modules_of, texts_of}
use Rattle.hr_check.specs.declared.project.Project.{Project}
use Rattle.hr_script.specs.declared.command.Command.{Command}
use Rattle.hr_session.specs.Runs.{Runs, State}
use Rattle.hr_session.specs.declared.line.Line.{Line}
use Rattle.hr_shelf.specs.Outside.{Store}
use Rattle.hr_tree_items.specs.Texts.{AreTextsOf}
use Rattle.hr_why.specs.declared.why.Why.{Why}
use Rattle.hr_words.specs.Words.{Request}
use Rattle.hare.specs.Ends.{HasRun, IsAsked}
use Rattle.hare.specs.Refactorings.{Refuses, Takes, is_memory}
use Rattle.hare.specs.Report.{step_lines}

pub has_run : (words : List (List ℕ)) (start : Store) (request : Request) (commands : List Command) (olds news : List (List ℕ)) (told : List ℕ) (lines : List (Line Why))
    (stopped end : Bool) (first : Project) (begun last : State Project) → IsAsked words start request commands olds → texts_of first ≡ olds → AreTextsOf (texts_of first) (modules_of first)
    → begun ≡ ([], first) → Runs Takes Refuses is_memory request.keep_going begun commands last lines stopped → stopped ≡ end → texts_of last.1 ≡ news
    → told ≡ step_lines 1 commands lines → HasRun words start request olds news end told
has_run words start request commands olds news told lines stopped end first begun last asked texts read begins runs ends new text = record {
  commands = commands;
  lines = lines;
  asked = asked;
  run = record {
    first = first;
    last = last;
    old = texts;
    read = read;
    new = new;
    runs = subst (λ state. Runs Takes Refuses is_memory request.keep_going state commands last lines end) begins
        (subst (λ is. Runs Takes Refuses is_memory request.keep_going begun commands last lines is) ends runs);
  };
  text = text;
}

-- what an answer says whose error was given another type
pub ok_given : {X E : Type 0} (F : Type 0) (r : Result X E) (y : X) (P : X → Type 0) → MatchResult r (λ x. ◌≡◌ {A = Result X F} (Ok y) (Ok x)) (λ e. ⊥) → IfOk r P → P y
ok_given F (Ok x) y P same holds = let is : y ≡ x = cc in subst P (sym is) holds
ok_given F (Err e) y P same holds = absurd same
