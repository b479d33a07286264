use Rattle.std.proofs.Common.{ap}
use Rattle.hr_unify.specs.Tasks.{marks, pairs_of, task_of, tasks}
use Rattle.hr_unify.proofs.Lists.{ok_part}
use Rattle.hr_unify.proofs.Keeping.{settles_goes, settles_lighter, keeps_item, lighter_item}
use Rattle.hr_unify.proofs.step.step.Goals as goal

pub returns-in_ok-map_err-in-Settled-clause-goes : goal.returns-in_ok-map_err-in-Settled-clause-goes
returns-in_ok-map_err-in-Settled-clause-goes c = λ es k.
    settles_goes es (pairs_of c.args.known.now) (tasks c.args.work.now.items) c.args.settled.now.entries _ (task_of c.args.item) _ _ (ap task_of c.in-Settled.is)
    (ok_part c.mark.result c.map_err.result _ _ c.map_err.ensures.variant c.in_ok-map_err-in-Settled.was c.mark.ensures) k

pub returns-in_ok-map_err-in-Settled-clause-lighter : goal.returns-in_ok-map_err-in-Settled-clause-lighter
returns-in_ok-map_err-in-Settled-clause-lighter c = λ _. settles_lighter (pairs_of c.args.known.now) (tasks c.args.work.now.items) (task_of c.args.item) _ _ (ap task_of c.in-Settled.is)

pub returns-in-Equation-clause-goes : goal.returns-in-Equation-clause-goes
returns-in-Equation-clause-goes c = λ es k. c.equate.ensures.goes es (keeps_item es (pairs_of c.args.known.now) (tasks c.args.work.now.items) (marks c.args.settled.now.entries) _ _ (ap task_of c.in-Equation.is) k)

pub returns-in-Equation-clause-lighter : goal.returns-in-Equation-clause-lighter
returns-in-Equation-clause-lighter c = lighter_item c.equate.result (pairs_of c.args.known.now) (tasks c.args.work.now.items) _ _ _ (ap task_of c.in-Equation.is) c.equate.ensures.lighter
