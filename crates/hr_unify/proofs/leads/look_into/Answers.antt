use Rattle.std.proofs.Common.{[], sym}
use Rattle.hr_type.proofs.Reading.{popped}
use Rattle.hr_unify.specs.Tasks.{pairs_of}
use Rattle.hr_unify.proofs.Leading.{looked_before, looked_free, looked_bound}
use Rattle.hr_unify.proofs.leads.look_into.Goals as goal

pub returns-then-is_marked : goal.returns-then-is_marked
returns-then-is_marked c = looked_before (pairs_of c.args.known.now) c.args.variable c.args.seen.now.entries [] _ [] (c.is_marked.ensures c.if-is_marked.true)

pub returns-in_default : goal.returns-in_default
returns-in_default c = looked_free (pairs_of c.args.known.now) c.args.variable c.args.seen.now.entries _ _ [] c.in_ok-mark.ensures (sym c.in_default.ensures)

pub returns : goal.returns
returns c =
    looked_bound (pairs_of c.args.known.now) c.args.variable c.args.seen.now.entries _ _ _ _ c.in_ok-mark.ensures (sym c.in-Some.ensures) (popped (λ t. t.now) _ _ _ c.in_ok-push.ensures.items)
