use Rattle.std.proofs.Common.{◌≡◌, [], Some, take, ap, ◌∙◌}
use Rattle.hr_fixity.specs.Reader.{IsFirstUntaken, run}
use Rattle.hr_fixity.proofs.Answered.{found, is_part, left_place, nothing, only, refusal, right_place}
use Rattle.hr_fixity.proofs.resolving.resolve.Goals as goal

pub conflict-requires-clause-left : goal.conflict-requires-clause-left
conflict-requires-clause-left c =
    let stop : IsFirstUntaken c.args.seq.now c.in-Ok-Some.number = rw c.in-Ok-Some.field-0-is at c.in-Ok-Some.ensures in
    left_place c.args.seq.now c.requires c.in-Ok-Some.number stop c.split_at.result.0.now c.index-parts-number.result
    (c.split_at.ensures.front ∙ ap (take c.in-Ok-Some.number) c.as_slice-parts.ensures)
    (is_part c.as_slice-parts.result.now c.args.seq.now.parts c.in-Ok-Some.number stop.part c.index-parts-number.result c.as_slice-parts.ensures stop.stands c.index-parts-number.is)

pub conflict-requires-clause-right : goal.conflict-requires-clause-right
conflict-requires-clause-right c =
    let stop : IsFirstUntaken c.args.seq.now c.in-Ok-Some.number = rw c.in-Ok-Some.field-0-is at c.in-Ok-Some.ensures in
    right_place c.args.seq.now c.requires c.in-Ok-Some.number stop c.split_at.result.0.now c.index-parts-number.result
    (c.split_at.ensures.front ∙ ap (take c.in-Ok-Some.number) c.as_slice-parts.ensures)
    (is_part c.as_slice-parts.result.now c.args.seq.now.parts c.in-Ok-Some.number stop.part c.index-parts-number.result c.as_slice-parts.ensures stop.stands c.index-parts-number.is)

pub returns-in-Ok-clause-tree : goal.returns-in-Ok-clause-tree
returns-in-Ok-clause-tree c =
    let taken : run c.args.seq.now.root 0 c.args.seq.now.parts [] ≡ Some c.take_parts.new.stack = rw c.in-Ok-None.field-0-is at c.in-Ok-None.ensures in
    found c.args.seq.now c.requires c.take_parts.new.stack c.as_slice-parts.result.now c.in-Ok.tree c.as_slice-parts.ensures taken c.in-Ok.ensures

pub returns-in-Ok-clause-only : goal.returns-in-Ok-clause-only
returns-in-Ok-clause-only c =
    let taken : run c.args.seq.now.root 0 c.args.seq.now.parts [] ≡ Some c.take_parts.new.stack = rw c.in-Ok-None.field-0-is at c.in-Ok-None.ensures in
    λ t r. only c.args.seq.now c.requires c.in-Ok.tree t
    (found c.args.seq.now c.requires c.take_parts.new.stack c.as_slice-parts.result.now c.in-Ok.tree c.as_slice-parts.ensures taken c.in-Ok.ensures) r

pub returns-in-Ok-Some-clause-only : goal.returns-in-Ok-Some-clause-only
returns-in-Ok-Some-clause-only c =
    let stop : IsFirstUntaken c.args.seq.now c.in-Ok-Some.number = rw c.in-Ok-Some.field-0-is at c.in-Ok-Some.ensures in
    nothing c.args.seq.now c.requires c.in-Ok-Some.number stop c.split_at.result.0.now c.index-parts-number.result
    (c.split_at.ensures.front ∙ ap (take c.in-Ok-Some.number) c.as_slice-parts.ensures)
    (is_part c.as_slice-parts.result.now c.args.seq.now.parts c.in-Ok-Some.number stop.part c.index-parts-number.result c.as_slice-parts.ensures stop.stands c.index-parts-number.is) c.conflict.result c.conflict.ensures

pub returns-in-Ok-Some-clause-refusal : goal.returns-in-Ok-Some-clause-refusal
returns-in-Ok-Some-clause-refusal c =
    let stop : IsFirstUntaken c.args.seq.now c.in-Ok-Some.number = rw c.in-Ok-Some.field-0-is at c.in-Ok-Some.ensures in
    refusal c.args.seq.now c.requires c.in-Ok-Some.number stop c.split_at.result.0.now c.index-parts-number.result
    (c.split_at.ensures.front ∙ ap (take c.in-Ok-Some.number) c.as_slice-parts.ensures)
    (is_part c.as_slice-parts.result.now c.args.seq.now.parts c.in-Ok-Some.number stop.part c.index-parts-number.result c.as_slice-parts.ensures stop.stands c.index-parts-number.is) c.conflict.result c.conflict.ensures
