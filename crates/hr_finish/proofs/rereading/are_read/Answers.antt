use Rattle.std.proofs.Common.{◌≡◌, ◌∙◌, ap, sym}
use Rattle.std.specs.Option.{option_copied}
use Rattle.hr_finish.specs.Compared.{IsDraftRead}
use Rattle.hr_finish.proofs.Read.{read_all, read_more}
use Rattle.hr_finish.proofs.rereading.are_read.Goals as goal

pub loop-draft-preserved : goal.loop-draft-preserved
loop-draft-preserved c =
    let here : IsDraftRead c.args.old.now c.args.new.now c.draft-item.result = (
      c.in-Some-Some.before.now,
      c.in-Some-Some.after.now,
      sym c.tree_at.ensures ∙ ap option_copied c.in-Some-Some.is-0,
      sym c.tree_at-in-loop-draft.ensures ∙ ap option_copied c.in-Some-Some.is-1,
      c.in_ok-is_read.ensures c.if-not-branch.false,
    )
    in
    read_more (IsDraftRead c.args.old.now c.args.new.now) c.args.drafts.now c.loop-draft.draft-index c.draft-item.result c.loop-draft-test.true c.draft-item.is c.loop-draft.invariant
    here

pub returns : goal.returns
returns c = λ is. read_all (IsDraftRead c.args.old.now c.args.new.now) c.args.drafts.now c.loop-draft.draft-index c.loop-draft-test.false c.loop-draft.invariant
