use Rattle.std.proofs.Common.{◌++◌, ◌∷◌, [], ◌∙◌, Ok, Err, sym, subst, ap, append-nil, refl, reverse}
use Rattle.hr_unify.specs.Tasks.{Equation, marks, pairs_of, plain, seen_pairs, tasks}
use Rattle.hr_unify.specs.Unifiers.{IsGood, problem}
use Rattle.hr_unify.specs.Working.{Goes, Keeps}
use Rattle.hr_unify.proofs.Lists.{ok_part, ok_value}
use Rattle.hr_unify.proofs.Unifying.{starts, solved_all, bound_at, falls_at, goes_shows, bind_shows}
use Rattle.hr_unify.proofs.unifier.bindings_found.Goals as goal

pub solving-init : goal.solving-init
solving-init c =
    let es = problem c.args.given.now.entries c.args.left.now c.args.right.now in
    let none = ap (λ ps. c.args.given.now.entries ++ seen_pairs ps) c.new.ensures.empty ∙ append-nil c.args.given.now.entries in
    let begun = ok_part c.push_equation.result c.map_err.result _ _ c.map_err.ensures.variant c.in_ok-map_err.was c.push_equation.ensures in
    record {
      good = subst IsGood (sym none) c.requires;
      keeps = starts c.args.given.now.entries _ c.args.left.now c.args.right.now _ _ none (begun ∙ ap (λ ws. tasks ws ++ Equation c.args.left.now c.args.right.now ∷ []) c.new-work.ensures.items) (ap marks c.new-settled.ensures.empty);
      same = refl;
    }

pub returns-in-Ok-None-clause-solves : goal.returns-in-Ok-None-clause-solves
returns-in-Ok-None-clause-solves c =
    let es = problem c.args.given.now.entries c.args.left.now c.args.right.now in
    let went = subst (λ o. Goes es (pairs_of c.solving.known) (tasks c.next_binding.new.work.items) (marks c.next_binding.new.settled.entries) (plain (Ok o))) c.in-Ok-None.field-0-is (c.in-Ok-None.ensures.goes es c.solving.invariant.keeps) in
    let copied = ok_value c.copies.result c.map_err-in-Ok-None.result c.in_ok-found-in-Ok-None.found _ _ c.map_err-in-Ok-None.ensures.cases c.map_err-in-Ok-None.ensures.variant c.in_ok-found-in-Ok-None.was c.copies.ensures in
    solved_all es (pairs_of c.solving.known) c.args.given.now.entries (reverse c.in_ok-found-in-Ok-None.found.items) (tasks c.next_binding.new.work.items) (marks c.next_binding.new.settled.entries)
    (λ i. c.solving.invariant.same i ++ sym copied i) c.solving.invariant.good (c.in-Ok-None.ensures.done c.in-Ok-None.field-0-is) went

pub bind-requires-clause-binds : goal.bind-requires-clause-binds
bind-requires-clause-binds c =
    let es = problem c.args.given.now.entries c.args.left.now c.args.right.now in
    let went = subst (λ o. Goes es (pairs_of c.solving.known) (tasks c.next_binding.new.work.items) (marks c.next_binding.new.settled.entries) (plain (Ok o))) c.in-Ok-Some.field-0-is (c.in-Ok-Some.ensures.goes es c.solving.invariant.keeps) in
    went.1

pub returns-in-Err-bind-clause-refuses : goal.returns-in-Err-bind-clause-refuses
returns-in-Err-bind-clause-refuses c =
    let es = problem c.args.given.now.entries c.args.left.now c.args.right.now in
    let went = subst (λ o. Goes es (pairs_of c.solving.known) (tasks c.next_binding.new.work.items) (marks c.next_binding.new.settled.entries) (plain (Ok o))) c.in-Ok-Some.field-0-is (c.in-Ok-Some.ensures.goes es c.solving.invariant.keeps) in
    bind_shows es (pairs_of c.solving.known) (tasks c.next_binding.new.work.items) (marks c.next_binding.new.settled.entries) c.in-Ok-Some.binding.0 c.in-Ok-Some.binding.1.now c.in-Err-bind.error went.0 c.in-Err-bind.ensures.bound

pub solving-smaller : goal.solving-smaller
solving-smaller c =
    let es = problem c.args.given.now.entries c.args.left.now c.args.right.now in
    let went = subst (λ o. Goes es (pairs_of c.solving.known) (tasks c.next_binding.new.work.items) (marks c.next_binding.new.settled.entries) (plain (Ok o))) c.in-Ok-Some.field-0-is (c.in-Ok-Some.ensures.goes es c.solving.invariant.keeps) in
    falls_at es (pairs_of c.solving.known) (pairs_of c.bind.new.known) (tasks c.next_binding.new.work.items) (marks c.next_binding.new.settled.entries) (c.in-Ok-Some.binding.0, c.in-Ok-Some.binding.1.now) c.in_default.ensures.bound.0 went.0 went.1.free

pub solving-preserved : goal.solving-preserved
solving-preserved c =
    let es = problem c.args.given.now.entries c.args.left.now c.args.right.now in
    let went = subst (λ o. Goes es (pairs_of c.solving.known) (tasks c.next_binding.new.work.items) (marks c.next_binding.new.settled.entries) (plain (Ok o))) c.in-Ok-Some.field-0-is (c.in-Ok-Some.ensures.goes es c.solving.invariant.keeps) in
    record {
      good = c.in_default.ensures.bound.1;
      keeps = bound_at es (pairs_of c.solving.known) (pairs_of c.bind.new.known) (tasks c.next_binding.new.work.items) (marks c.next_binding.new.settled.entries) (c.in-Ok-Some.binding.0, c.in-Ok-Some.binding.1.now) c.in_default.ensures.bound.0 went.0;
      same = c.in_default.ensures.given ∙ c.solving.invariant.same;
    }

pub returns-in-Err-clause-refuses : goal.returns-in-Err-clause-refuses
returns-in-Err-clause-refuses c =
    let es = problem c.args.given.now.entries c.args.left.now c.args.right.now in
    goes_shows es (pairs_of c.solving.known) (tasks c.next_binding.new.work.items) (marks c.next_binding.new.settled.entries) c.in-Err.error (c.in-Err.ensures.goes es c.solving.invariant.keeps)
