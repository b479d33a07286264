use Rattle.std.proofs.Common.{◌≡◌, ◌+◌, ◌-◌, ◌<◌, length, arith}
use Rattle.hr_type.proofs.Jobbing.{listed_pushed, less_left, first_pushed, none_pushed, nothing_left}
use Rattle.hr_type.proofs.write.push_listed.Goals as goal

pub loop-left-preserved : goal.loop-left-preserved
loop-left-preserved c =
    let inside : c.loop-left.left - 1 < length c.args.types.now = omega (arith, c.loop-left.invariant.within) in
    let next : c.loop-left.left ≡ (c.loop-left.left - 1) + 1 = omega arith in
    record {
      within = omega (arith, c.loop-left.invariant.within);
      some = λ _. omega arith;
      text = listed_pushed c.args.scope.now c.args.types.now (c.loop-left.left - 1) _ inside c.index-types-left.is _ next _ _ _ c.loop-left.invariant.text c.in_ok-push_type.ensures.text;
      work = less_left c.args.scope.now c.args.types.now (c.loop-left.left - 1) _ inside c.index-types-left.is _ _ _ _ next c.loop-left.invariant.work c.in_ok-push_type.ensures.work;
    }

pub returns-in_ok-push_type-2-clause-text : goal.returns-in_ok-push_type-2-clause-text
returns-in_ok-push_type-2-clause-text c =
    let inside : 0 < length c.args.types.now = omega (arith, c.loop-left.invariant.within, c.if-left-eq1.true) in
    first_pushed c.args.scope.now c.args.types.now _ inside c.index-types-0.is _ c.if-left-eq1.true _ _ _ c.loop-left.invariant.text c.in_ok-push_type-2.ensures.text

pub returns-else-left-eq1-clause-text : goal.returns-else-left-eq1-clause-text
returns-else-left-eq1-clause-text c =
    none_pushed c.args.scope.now c.args.types.now c.loop-left.left _ _ (nothing_left c.loop-left.left (length c.args.types.now) c.loop-left-test.false c.if-left-eq1.false c.loop-left.invariant.some) c.loop-left.invariant.text
    (omega (arith, c.loop-left-test.false, c.if-left-eq1.false))
