use Rattle.std.proofs.Common.{◌≡◌, subst, true}
use Rattle.hr_check.specs.Projects.{texts_of}
use Rattle.hr_why.specs.declared.why.Why.{Why}
use Rattle.hare.specs.Refactorings.{IsMeant}
use Rattle.hare.specs.Shown.{renaming_of}
use Rattle.hare.proofs.Runs.{ok_given}
use Rattle.hare.proofs.steps.take_rename.Goals as goal

pub returns-then-branch : goal.returns-then-branch
returns-then-branch c =
    let renaming = renaming_of c.args.renaming in
    let meant =
    ok_given Why c.are_meant.result c.in_ok-map_err.field-0 (λ are. are ≡ true → IsMeant renaming c.texts.result.now c.texts-2.result.now) c.in_ok-map_err.ensures.cases c.are_meant.ensures
    c.if-branch.true in
    record {
      meant = subst (λ news. IsMeant renaming (texts_of c.args.project.now) news) c.texts-2.ensures (subst (λ olds. IsMeant renaming olds c.texts-2.result.now) c.texts.ensures meant);
      renamed = c.in_ok-step.ensures.renamed;
    }
