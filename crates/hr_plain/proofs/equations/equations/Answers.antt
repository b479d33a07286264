use Rattle.std.proofs.Common.{◌≡◌, Some, sym, ◌∙◌}
use Rattle.std.specs.Vec.Iter.{into_iter_items}
use Rattle.hr_plain.specs.Reading.{equations_of, step}
use Rattle.hr_plain.proofs.Parts.{loop_moves}
use Rattle.hr_plain.proofs.equations.equations.Goals as goal

pub loop-item-preserved : goal.loop-item-preserved
loop-item-preserved c =
    let s : step c.loop-item.part c.in-Some.item ≡ Some (c.in-Some-2.ended, c.in-Some-2.next) = sym c.in_ok-ended.ensures ∙ c.in-Some-2.is in
    loop_moves c.loop-item.list.items c.push_ended.new.list.items c.loop-item.part c.in-Some.item (into_iter_items c.loop-item.item-iterator) (into_iter_items c.next.new.self)
    c.in-Some-2.ended c.in-Some-2.next (equations_of c.args.items) c.in-Some.ensures.steps.0 s c.in_ok-push_ended-in-Some-2.ensures c.loop-item.invariant
