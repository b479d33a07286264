use Rattle.std.proofs.Common.{ap, map, reverse, sym, ◌∙◌}
use Rattle.hr_type.specs.Heads.{head_of, built}
use Rattle.hr_type.proofs.Reading.{turned_popped}
use Rattle.hr_type.proofs.copy.rebuilt.Goals as goal

pub loop-node-preserved : goal.loop-node-preserved
loop-node-preserved c =
    ap (built (reverse (map (λ t. head_of t.now) c.pop.new.self.items))) c.in_ok-place.ensures
    ∙ sym (ap (λ hs. built hs c.loop-node.types.items) (turned_popped (λ t. head_of t.now) _ _ _ c.in-Some.ensures.items)) ∙ c.loop-node.invariant
