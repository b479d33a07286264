use Rattle.std.proofs.Common.{◌∙◌, refl, sym, subst}
use Rattle.hr_type.specs.declared.mono.Mono.TheVariants.{Var, Con, Fun}
use Rattle.hr_unify.specs.Tasks.{marks, pairs_of, plain, tasks}
use Rattle.hr_unify.specs.Working.{Keeps}
use Rattle.hr_unify.proofs.Lists.{ok_part}
use Rattle.hr_unify.proofs.Loads.{turned_load}
use Rattle.hr_unify.proofs.Keeping.{mismatch_goes, named_clash, keeps_named, load_named, keeps_turned, keeps_functions, clash_con_fun, clash_fun_con, splits_goes, splits_lighter, lighter_than, functions_lighter}
use Rattle.hr_unify.proofs.step.equate.Goals as goal

pub returns-in-Var-clause-goes : goal.returns-in-Var-clause-goes
returns-in-Var-clause-goes c = λ es k. c.meet.ensures.goes es (keeps_named es (pairs_of c.args.known.now) (tasks c.args.work.now.items) (marks c.args.settled.now.entries) _ _ _ _ c.in-Var.is refl k)

pub returns-in-Var-right-clause-goes : goal.returns-in-Var-right-clause-goes
returns-in-Var-right-clause-goes c = λ es k.
    let pairs = pairs_of c.args.known.now in
    let work = tasks c.args.work.now.items in
    let settled = marks c.args.settled.now.entries in
    c.meet-in-Var-right.ensures.goes es (keeps_named es pairs work settled _ _ _ _ c.in-Var-right.is refl (keeps_turned es pairs work settled c.args.left.now c.args.right.now k))

pub returns-in-Var-right-clause-lighter : goal.returns-in-Var-right-clause-lighter
returns-in-Var-right-clause-lighter c =
    let pairs = pairs_of c.args.known.now in
    let work = tasks c.args.work.now.items in
    lighter_than c.meet-in-Var-right.result _ _ _ (load_named pairs work c.args.right.now _ c.args.left.now c.args.left.now c.in-Var-right.is refl ∙ turned_load pairs work c.args.right.now c.args.left.now) c.meet-in-Var-right.ensures.lighter

pub returns-in-Con-right-clause-goes : goal.returns-in-Con-right-clause-goes
returns-in-Con-right-clause-goes c = λ es k.
    splits_goes (pairs_of c.args.known.now) (tasks c.args.work.now.items) _ (marks c.args.settled.now.entries) _ _ _ _ (plain c.split_constructor.result) c.split_constructor.ensures es
    (keeps_named es (pairs_of c.args.known.now) (tasks c.args.work.now.items) (marks c.args.settled.now.entries) _ _ _ _ c.in-Con.is c.in-Con-right.is k)

pub returns-in-Con-right-clause-lighter : goal.returns-in-Con-right-clause-lighter
returns-in-Con-right-clause-lighter c =
    lighter_than c.split_constructor.result _ _ _ (load_named (pairs_of c.args.known.now) (tasks c.args.work.now.items) c.args.left.now _ c.args.right.now _ c.in-Con.is c.in-Con-right.is)
    (splits_lighter (pairs_of c.args.known.now) (tasks c.args.work.now.items) _ _ _ _ _ c.split_constructor.result c.split_constructor.ensures)

pub returns-in-Fun-right-clause-goes : goal.returns-in-Fun-right-clause-goes
returns-in-Fun-right-clause-goes c = λ es k.
    mismatch_goes es (pairs_of c.args.known.now) (tasks c.args.work.now.items) (marks c.args.settled.now.entries) _ _ c.mismatch.result c.mismatch.ensures
    (named_clash es (pairs_of c.args.known.now) (tasks c.args.work.now.items) (marks c.args.settled.now.entries) _ _ _ _ c.in-Con.is c.in-Fun-right.is (clash_con_fun es (pairs_of c.args.known.now) (tasks c.args.work.now.items) (marks c.args.settled.now.entries) _ _ _ _ (keeps_named es (pairs_of c.args.known.now) (tasks c.args.work.now.items) (marks c.args.settled.now.entries) _ _ _ _ c.in-Con.is c.in-Fun-right.is k)))

pub returns-in-Var-right-2-clause-goes : goal.returns-in-Var-right-2-clause-goes
returns-in-Var-right-2-clause-goes c = λ es k.
    let pairs = pairs_of c.args.known.now in
    let work = tasks c.args.work.now.items in
    let settled = marks c.args.settled.now.entries in
    c.meet-in-Var-right-2.ensures.goes es (keeps_named es pairs work settled _ _ _ _ c.in-Var-right-2.is refl (keeps_turned es pairs work settled c.args.left.now c.args.right.now k))

pub returns-in-Var-right-2-clause-lighter : goal.returns-in-Var-right-2-clause-lighter
returns-in-Var-right-2-clause-lighter c =
    let pairs = pairs_of c.args.known.now in
    let work = tasks c.args.work.now.items in
    lighter_than c.meet-in-Var-right-2.result _ _ _ (load_named pairs work c.args.right.now _ c.args.left.now c.args.left.now c.in-Var-right-2.is refl ∙ turned_load pairs work c.args.right.now c.args.left.now) c.meet-in-Var-right-2.ensures.lighter

pub returns-in-Con-right-2-clause-goes : goal.returns-in-Con-right-2-clause-goes
returns-in-Con-right-2-clause-goes c = λ es k.
    mismatch_goes es (pairs_of c.args.known.now) (tasks c.args.work.now.items) (marks c.args.settled.now.entries) _ _ c.mismatch-in-Con-right-2.result c.mismatch-in-Con-right-2.ensures
    (named_clash es (pairs_of c.args.known.now) (tasks c.args.work.now.items) (marks c.args.settled.now.entries) _ _ _ _ c.in-Fun.is c.in-Con-right-2.is (clash_fun_con es (pairs_of c.args.known.now) (tasks c.args.work.now.items) (marks c.args.settled.now.entries) _ _ _ _ (keeps_named es (pairs_of c.args.known.now) (tasks c.args.work.now.items) (marks c.args.settled.now.entries) _ _ _ _ c.in-Fun.is c.in-Con-right-2.is k)))

pub returns-in_ok-map_err-in-Fun-right-2-clause-goes : goal.returns-in_ok-map_err-in-Fun-right-2-clause-goes
returns-in_ok-map_err-in-Fun-right-2-clause-goes c = λ es k.
    subst (λ w. Keeps es (pairs_of c.args.known.now) w (marks c.args.settled.now.entries)) (sym (ok_part c.split_function.result c.map_err.result _ _ c.map_err.ensures.variant c.in_ok-map_err-in-Fun-right-2.was c.split_function.ensures))
    (keeps_functions es (pairs_of c.args.known.now) (tasks c.args.work.now.items) (marks c.args.settled.now.entries) _ _ _ _
    (keeps_named es (pairs_of c.args.known.now) (tasks c.args.work.now.items) (marks c.args.settled.now.entries) _ _ _ _ c.in-Fun.is c.in-Fun-right-2.is k))

pub returns-in_ok-map_err-in-Fun-right-2-clause-lighter : goal.returns-in_ok-map_err-in-Fun-right-2-clause-lighter
returns-in_ok-map_err-in-Fun-right-2-clause-lighter c = λ _.
    functions_lighter (pairs_of c.args.known.now) (tasks c.args.work.now.items) _ c.args.left.now c.args.right.now _ _ _ _ c.in-Fun.is c.in-Fun-right-2.is
    (ok_part c.split_function.result c.map_err.result _ _ c.map_err.ensures.variant c.in_ok-map_err-in-Fun-right-2.was c.split_function.ensures)
