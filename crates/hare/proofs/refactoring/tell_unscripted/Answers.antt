use Rattle.std.proofs.Common.{subst}
use Rattle.hare.specs.Scripts.{IsUnscripted}
use Rattle.hare.proofs.refactoring.tell_unscripted.Goals as goal

pub returns-in-Unread : goal.returns-in-Unread
returns-in-Unread g c = λ words start now few cause kept.
    c.tell_no_script.ensures words start now few (subst (IsUnscripted c.args.asked.script.now start now) c.in-Unread.is cause) kept

pub returns-in-Bad : goal.returns-in-Bad
returns-in-Bad g c = λ words start now few cause kept.
    c.tell_bad.ensures words start now few (subst (IsUnscripted c.args.asked.script.now start now) c.in-Bad.is cause) kept
