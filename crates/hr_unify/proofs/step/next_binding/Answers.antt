use Rattle.std.proofs.Common.{Ok, ◌∙◌, ◌<◌, subst, sym, ap, append-nil}
use Rattle.hr_type.proofs.Reading.{popped}
use Rattle.hr_unify.specs.Tasks.{marks, pairs_of, plain, task_of, tasks}
use Rattle.hr_unify.specs.Weights.{work_load}
use Rattle.hr_unify.specs.Working.{Goes, Keeps}
use Rattle.hr_unify.proofs.step.next_binding.Goals as goal

pub loop-item-smaller : goal.loop-item-smaller
loop-item-smaller c =
    subst (λ w. work_load (pairs_of c.args.known.now) (tasks c.step.new.work.items) < work_load (pairs_of c.args.known.now) w) (sym (popped task_of _ _ _ c.in-Some.ensures.items))
    (c.in-Ok-None.ensures.lighter c.in-Ok-None.field-0-is)

pub loop-item-preserved : goal.loop-item-preserved
loop-item-preserved c = λ es k.
    let top = subst (λ work. Keeps es (pairs_of c.args.known.now) work (marks c.loop-item.settled.entries)) (popped task_of _ _ _ c.in-Some.ensures.items) (c.loop-item.invariant es k) in
    let went = c.in-Ok-None.ensures.goes es top in
    subst (λ o. Goes es (pairs_of c.args.known.now) (tasks c.step.new.work.items) (marks c.step.new.settled.entries) (plain (Ok o))) c.in-Ok-None.field-0-is went

pub returns-in-Ok-Some-clause-goes : goal.returns-in-Ok-Some-clause-goes
returns-in-Ok-Some-clause-goes c = λ es k.
    let top = subst (λ work. Keeps es (pairs_of c.args.known.now) work (marks c.loop-item.settled.entries)) (popped task_of _ _ _ c.in-Some.ensures.items) (c.loop-item.invariant es k) in
    let went = c.in-Ok-Some.ensures.goes es top in
    subst (λ o. Goes es (pairs_of c.args.known.now) (tasks c.step.new.work.items) (marks c.step.new.settled.entries) (plain (Ok o))) c.in-Ok-Some.field-0-is went

pub returns-in-Err-clause-goes : goal.returns-in-Err-clause-goes
returns-in-Err-clause-goes c = λ es k.
    let top = subst (λ work. Keeps es (pairs_of c.args.known.now) work (marks c.loop-item.settled.entries)) (popped task_of _ _ _ c.in-Some.ensures.items) (c.loop-item.invariant es k) in
    c.in-Err.ensures.goes es top

pub returns-clause-goes : goal.returns-clause-goes
returns-clause-goes c = λ es k.
    subst (λ work. Keeps es (pairs_of c.args.known.now) work (marks c.loop-item.settled.entries)) (ap tasks (c.in_default.ensures.items ∙ append-nil c.pop.new.self.items)) (c.loop-item.invariant es k)
