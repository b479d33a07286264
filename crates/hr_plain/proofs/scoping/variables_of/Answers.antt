use Rattle.std.proofs.Common.{◌≤◌, ◌-◌, length, drop, arith}
use Rattle.hr_plain.specs.Form.{variables_in}
use Rattle.hr_plain.proofs.Together.{apart_step, apart_stop, variables_held}
use Rattle.hr_plain.proofs.scoping.variables_of.Goals as goal

pub returns-then-not-is_new : goal.returns-then-not-is_new
returns-then-not-is_new c =
    apart_stop c.args.patterns.now c.loop-place.place c.index-patterns-place.result c.loop-place.names c.in_ok-is_new.is_new
    c.loop-place-test.true c.loop-place.invariant.0 c.index-patterns-place.is c.loop-place.invariant.1.1 c.in_ok-is_new.ensures.fresh c.if-not-is_new.true

pub loop-place-preserved : goal.loop-place-preserved
loop-place-preserved c =
    let left : c.loop-place.place - 1 ≤ length c.args.patterns.now = omega (arith, c.loop-place.invariant.0) in (
      left,
      (
        apart_step c.args.patterns.now c.loop-place.place c.index-patterns-place.result c.loop-place.names c.in_ok-is_new.is_new
            c.loop-place-test.true c.loop-place.invariant.0 c.index-patterns-place.is c.loop-place.invariant.1.1 c.in_ok-is_new.ensures.fresh c.if-not-is_new.false c.loop-place.invariant.1.0,
        variables_held c.args.patterns.now c.loop-place.place c.index-patterns-place.result c.add_variable.new.names c.loop-place-test.true c.loop-place.invariant.0 c.index-patterns-place.is
            (c.in_ok-is_new.ensures.holds (variables_in (drop c.loop-place.place c.args.patterns.now)) c.loop-place.invariant.1.1),
      ),
    )
