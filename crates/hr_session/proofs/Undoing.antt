-- Which commands are `undo`, and what a command does to a session.
use Rattle.std.proofs.Common.{◌≡◌, ◌≢◌, Bool, List, [], ◌∷◌, ◌++◌, refl, sym, subst}
use Rattle.hr_script.specs.declared.command.Command.{Command}
use Rattle.hr_script.specs.declared.command.Command.TheVariants.{Rename, AddParameter, RemoveParameter, LiftOne, LiftTop, Demote, Generalise, Move, Abstract, Undo}
use Rattle.hr_script.specs.declared.command.Verb.TheVariants as verb
use Rattle.hr_script.specs.Language.{verb_of}
use Rattle.hr_session.specs.declared.line.Line.TheVariants.{Good, Refused}
use Rattle.hr_session.specs.declared.line.Report.TheVariants.{Done, Undone}
use Rattle.hr_session.specs.Runs.{State, Carries, TakesBack}
use Rattle.hr_session.specs.Runs.Carries.{undone, done, refused}

pub is_undo : (command : Command) → verb_of command ≡ verb.Undo → command ≡ Undo
is_undo (Rename m p n) e = absurd (cc)
is_undo (AddParameter m p n) e = absurd (cc)
is_undo (RemoveParameter m p i) e = absurd (cc)
is_undo (LiftOne m p) e = absurd (cc)
is_undo (LiftTop m p) e = absurd (cc)
is_undo (Demote m p) e = absurd (cc)
is_undo (Generalise m p n) e = absurd (cc)
is_undo (Move a n b) e = absurd (cc)
is_undo (Abstract m t) e = absurd (cc)
is_undo Undo e = refl

pub no_undo : (command : Command) → verb_of command ≢ verb.Undo → command ≢ Undo
no_undo command other e = other (subst (λ c. verb_of c ≡ verb.Undo) (sym e) refl)

module _ {P W : Type 0} (takes : P → Command → P → Type 0) (refuses : P → Command → W → Type 0) where
  pub took_back : (old new : State P) (command : Command) (back : Bool) → verb_of command ≡ verb.Undo → TakesBack old new back
      → Carries takes refuses old command new (Good (Undone back))
  took_back old new command back is took =
      subst (λ c. Carries takes refuses old c new (Good (Undone back))) (sym (is_undo command is)) (undone old new back took)

  pub went_on : (old : State P) (held : List P) (now next last : P) (after : List P) (command : Command) → old ≡ (held, now) → command ≢ Undo
      → takes now command next → after ≡ held ++ now ∷ [] → last ≡ next → Carries takes refuses old command (after, last) (Good Done)
  went_on old held now next last after command is other taken holds stands =
      subst (λ o. Carries takes refuses o command (after, last) (Good Done)) (sym is)
      (subst (λ h. Carries takes refuses (held, now) command (h, last) (Good Done)) (sym holds)
      (subst (λ p. Carries takes refuses (held, now) command (held ++ now ∷ [], p) (Good Done)) (sym stands) (done held now next command other taken)))

  pub stayed : (old : State P) (held after : List P) (now : P) (command : Command) (why : W) → old ≡ (held, now) → command ≢ Undo
      → refuses now command why → after ≡ held → Carries takes refuses old command (after, now) (Refused why)
  stayed old held after now command why is other refuses_it holds =
      subst (λ o. Carries takes refuses o command (after, now) (Refused why)) (sym is)
      (subst (λ h. Carries takes refuses (held, now) command (h, now) (Refused why)) (sym holds) (refused held now command why other refuses_it))
