use Rattle.std.proofs.Common.{◌∙◌, ◌+◌, ◌-◌, ap, take, drop, arith}
use Rattle.std.specs.Prelude.{slice_range}
use Rattle.std.specs.Rc.{rc_slice_items}
use Rattle.hr_base.proofs.Parts.{part_ends, part_of_part}
use Rattle.hr_base.proofs.text.Text.part.Goals as goal

pub overflow_cast-result : goal.overflow_cast-result
overflow_cast-result c =
    omega (arith, part_ends c.self.inside c.args.end c.self.view_is c.self.invariant c.requires.within, c.self.invariant, c.requires.ordered)

pub overflow_add-result : goal.overflow_add-result
overflow_add-result c =
    omega (arith, part_ends c.self.inside c.args.end c.self.view_is c.self.invariant c.requires.within, c.self.invariant, c.requires.ordered)

pub overflow_cast-result-2 : goal.overflow_cast-result-2
overflow_cast-result-2 c =
    omega (arith, part_ends c.self.inside c.args.end c.self.view_is c.self.invariant c.requires.within, c.self.invariant)

pub overflow_add-result-2 : goal.overflow_add-result-2
overflow_add-result-2 c =
    omega (arith, part_ends c.self.inside c.args.end c.self.view_is c.self.invariant c.requires.within, c.self.invariant)

pub returns : goal.returns
returns c =
    let ends = part_ends c.self.inside c.args.end c.self.view_is c.self.invariant c.requires.within in
    ap (λ l. slice_range l (c.self.inside.start + c.args.start) (c.self.inside.start + c.args.end)) c.in_ok-clone.ensures.cases
    ∙ part_of_part (rc_slice_items c.self.inside.shared) c.self.inside.start c.self.inside.end c.args.start c.args.end c.requires.ordered ends
    ∙ ap (λ l. take (c.args.end - c.args.start) (drop c.args.start l)) c.self.view_is
