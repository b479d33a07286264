use Rattle.std.proofs.Common.{◌≤◌, ◌-◌, length, drop, sym, ◌∙◌, arith}
use Rattle.hr_plain.specs.Form.{defined_by}
use Rattle.hr_plain.proofs.Together.{together_step, together_stop, names_held}
use Rattle.hr_plain.proofs.scoping.top_level.Goals as goal

pub returns-then-not-either : goal.returns-then-not-either
returns-then-not-either c =
    together_stop c.args.equations.now c.loop-place.place c.index-equations-place.result c.loop-place.names c.in_ok-is_new.is_new c.defines-follows.result
    c.loop-place-test.true c.loop-place.invariant.0 c.index-equations-place.is c.loop-place.invariant.1.1 c.in_ok-is_new.ensures.fresh c.defines-follows.ensures
    (sym c.either.ensures ∙ c.if-not-either.true)

pub loop-place-preserved : goal.loop-place-preserved
loop-place-preserved c =
    let left : c.loop-place.place - 1 ≤ length c.args.equations.now = omega (arith, c.loop-place.invariant.0) in (
      left,
      (
        together_step c.args.equations.now c.loop-place.place c.index-equations-place.result c.loop-place.names c.in_ok-is_new.is_new c.defines-follows.result
            c.loop-place-test.true c.loop-place.invariant.0 c.index-equations-place.is c.loop-place.invariant.1.1 c.in_ok-is_new.ensures.fresh c.defines-follows.ensures
            (sym c.either.ensures ∙ c.if-not-either.false) c.loop-place.invariant.1.0,
        names_held c.args.equations.now c.loop-place.place c.index-equations-place.result c.add.new.names c.loop-place-test.true c.loop-place.invariant.0 c.index-equations-place.is
            (c.in_ok-is_new.ensures.holds (defined_by (drop c.loop-place.place c.args.equations.now)) c.loop-place.invariant.1.1),
      ),
    )
