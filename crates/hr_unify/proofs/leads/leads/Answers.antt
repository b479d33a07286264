use Rattle.std.proofs.Common.{◌≡◌, [], map, ap, rules}
use Rattle.hr_type.proofs.Reading.{popped}
use Rattle.hr_unify.specs.Tasks.{pairs_of}
use Rattle.hr_unify.proofs.Leading as leading
use Rattle.hr_unify.proofs.Loads as loads
use Rattle.hr_unify.proofs.leads.leads.Goals as goal

pub loop-next-smaller-in-Var : goal.loop-next-smaller-in-Var
loop-next-smaller-in-Var c =
    leading.looks_smaller _ _ _ _ _ _ _ _ _ _ (popped (λ t. t.now) _ _ _ c.in-Some.ensures.items) c.in-Var.is c.if-other-variable.false c.loop-next.invariant c.requires c.in_ok-look_into.ensures

pub loop-next-preserved-in-Var : goal.loop-next-preserved-in-Var
loop-next-preserved-in-Var c =
    leading.walk_looks _ _ _ _ _ _ _ _ _ _ (popped (λ t. t.now) _ _ _ c.in-Some.ensures.items) c.in-Var.is c.if-other-variable.false c.loop-next.invariant c.in_ok-look_into.ensures

pub loop-next-smaller : goal.loop-next-smaller
loop-next-smaller c = loads.walk_parts _ _ _ _ _ (popped (λ t. t.now) _ _ _ c.in-Some.ensures.items) c.in_default-next.not-Var c.in_ok-push_parts.ensures

pub loop-next-preserved : goal.loop-next-preserved
loop-next-preserved c = leading.walk_parts _ _ _ _ _ _ _ _ (popped (λ t. t.now) _ _ _ c.in-Some.ensures.items) c.in_default-next.not-Var c.in_ok-push_parts.ensures c.loop-next.invariant

pub returns : goal.returns
returns c = λ _.
    let none : c.loop-next.left.items ≡ [] = search rules in
    leading.walk_ends _ _ _ _ _ c.requires (ap (map (λ t. t.now)) none) c.loop-next.invariant
