use Rattle.std.proofs.Common.{◌≡◌, ◌++◌, ◌∷◌, [], ◌<◌, Some, sym, subst}
use Rattle.hr_type.specs.declared.mono.Mono.TheVariants.{Var}
use Rattle.hr_type.specs.Types.{first_for}
use Rattle.hr_unify.specs.Tasks.{Equation, marks, pairs_of, tasks}
use Rattle.hr_unify.specs.Weights.{work_load}
use Rattle.hr_unify.specs.Working.{Keeps}
use Rattle.hr_unify.proofs.Lists.{ok_part}
use Rattle.hr_unify.proofs.Loads.{lighter_dropped}
use Rattle.hr_unify.proofs.Keeping.{keeps_same, keeps_as, load_as, opens_goes, opens_lighter}
use Rattle.hr_unify.proofs.Unifying.{binds_variable}
use Rattle.hr_unify.proofs.step.meet.Goals as goal

pub returns-then-is_variable-clause-goes : goal.returns-then-is_variable-clause-goes
returns-then-is_variable-clause-goes c = λ es k.
    keeps_same es (pairs_of c.args.known.now) (tasks c.args.work.now.items) (marks c.args.settled.now.entries) c.args.variable c.args.other.now (c.is_variable.ensures.0 c.if-is_variable.true) k

pub returns-then-is_variable-clause-lighter : goal.returns-then-is_variable-clause-lighter
returns-then-is_variable-clause-lighter c = λ _. lighter_dropped (pairs_of c.args.known.now) c.requires.good (tasks c.args.work.now.items) c.args.variable c.args.other.now

pub returns-in-Some-clause-goes : goal.returns-in-Some-clause-goes
returns-in-Some-clause-goes c = λ es k.
    let found : first_for c.args.variable (pairs_of c.args.known.now) ≡ Some c.in-Some.ty.now = sym c.in-Some.ensures in
    opens_goes (pairs_of c.args.known.now) c.args.variable c.in-Some.ty.now c.args.other.now (tasks c.args.work.now.items) _ (marks c.args.settled.now.entries) found
    (ok_part c.open.result c.map_err.result _ _ c.map_err.ensures.variant c.in_ok-map_err.was c.open.ensures) es k

pub returns-in-Some-clause-lighter : goal.returns-in-Some-clause-lighter
returns-in-Some-clause-lighter c = λ _.
    let found : first_for c.args.variable (pairs_of c.args.known.now) ≡ Some c.in-Some.ty.now = sym c.in-Some.ensures in
    opens_lighter (pairs_of c.args.known.now) c.args.variable c.in-Some.ty.now c.args.other.now (tasks c.args.work.now.items) _ (marks c.args.settled.now.entries) found c.requires.good
    (ok_part c.open.result c.map_err.result _ _ c.map_err.ensures.variant c.in_ok-map_err.was c.open.ensures)

pub returns-in-Some-known_type-clause-goes : goal.returns-in-Some-known_type-clause-goes
returns-in-Some-known_type-clause-goes c = λ es k.
    let pairs = pairs_of c.args.known.now in
    let work = tasks c.args.work.now.items in
    let settled = marks c.args.settled.now.entries in
    opens_goes pairs c.in-Var.second c.in-Some-known_type.ty.now c.args.this.now work _ settled (sym c.in-Some-known_type.ensures)
    (ok_part c.open-in-Some-known_type.result c.map_err-in-Some-known_type.result _ _ c.map_err-in-Some-known_type.ensures.variant c.in_ok-map_err-in-Var.was c.open-in-Some-known_type.ensures)
    es (keeps_as es pairs work settled c.args.variable c.in-Var.second c.args.other.now c.args.this.now c.in-Var.is c.requires.is k)

pub returns-in-Some-known_type-clause-lighter : goal.returns-in-Some-known_type-clause-lighter
returns-in-Some-known_type-clause-lighter c = λ _.
    let pairs = pairs_of c.args.known.now in
    let work = tasks c.args.work.now.items in
    let settled = marks c.args.settled.now.entries in
    subst (λ n. work_load pairs (tasks c.open-in-Some-known_type.new.work.items) < n) (load_as pairs work c.args.variable c.in-Var.second c.args.other.now c.args.this.now c.in-Var.is c.requires.is)
    (opens_lighter pairs c.in-Var.second c.in-Some-known_type.ty.now c.args.this.now work _ settled (sym c.in-Some-known_type.ensures) c.requires.good
    (ok_part c.open-in-Some-known_type.result c.map_err-in-Some-known_type.result _ _ c.map_err-in-Some-known_type.ensures.variant c.in_ok-map_err-in-Var.was c.open-in-Some-known_type.ensures))

pub returns-then-variable-second-clause-goes : goal.returns-then-variable-second-clause-goes
returns-then-variable-second-clause-goes c = λ es k.
    let pairs = pairs_of c.args.known.now in (
      keeps_as es pairs (tasks c.args.work.now.items) (marks c.args.settled.now.entries) c.args.variable c.in-Var.second c.args.other.now c.args.this.now c.in-Var.is c.requires.is k,
      binds_variable pairs c.args.variable c.in-Var.second c.args.this.now c.requires.is (sym c.in_default.ensures) (sym c.in_default-known_type.ensures) c.if-variable-second.true,
    )
