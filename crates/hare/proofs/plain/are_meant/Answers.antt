use Rattle.std.proofs.Common.{◌∙◌}
use Rattle.hare.specs.Shown.{renaming_of}
use Rattle.hare.proofs.PlainSteps.{meant_without}
use Rattle.hare.proofs.plain.are_meant.Goals as goal

pub returns-in-Some : goal.returns-in-Some
returns-in-Some c =
    let meant = rw c.in-Some.is at c.in_ok-text.ensures in
    λ one old new here step. c.is_one.ensures one ∙ meant old new here step

pub returns-in-None : goal.returns-in-None
returns-in-None c =
    let none = rw c.in-None.is at c.in_ok-text.ensures in
    λ yes. meant_without (renaming_of c.args.renaming) c.args.olds.now c.args.news.now none
