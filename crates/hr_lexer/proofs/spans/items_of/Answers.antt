use Rattle.std.proofs.Common.{arith, rules}
use Rattle.std.proofs.lemmas.Grind.{common_steps}
use Rattle.hr_lexer.proofs.Shared.{ends_behind, ends_cut, ends_next}
use Rattle.hr_lexer.proofs.spans.items_of.Goals as goal

pub shared-requires : goal.shared-requires
shared-requires c =
    ends_cut c.args.whole.now c.loop-span.left.bytes.now c.split.result.0.now c.split.result.1.bytes.now _ c.loop-span.left.characters.now
    c.loop-span.invariant.ends c.loop-span.invariant.spelled c.split.ensures.text c.split.ensures.bytes

pub shared-requires-in-loop-span : goal.shared-requires-in-loop-span
shared-requires-in-loop-span c =
    ends_next c.args.whole.now c.loop-span.left.bytes.now c.split.result.0.now c.split.result.1.bytes.now c.split-in-loop-span.result.0.now c.split-in-loop-span.result.1.bytes.now
    _ _ c.loop-span.left.characters.now c.split.result.1.characters.now
    c.loop-span.invariant.ends c.loop-span.invariant.spelled c.split.ensures.text c.split.ensures.bytes c.split.ensures.characters
    c.split-in-loop-span.ensures.text c.split-in-loop-span.ensures.bytes

pub loop-span-preserved : goal.loop-span-preserved
loop-span-preserved c = record {
  spelled = search rules;
  ends = ends_behind c.args.whole.now c.split-in-loop-span.result.0.now c.split-in-loop-span.result.1.bytes.now (
      ends_next c.args.whole.now c.loop-span.left.bytes.now c.split.result.0.now c.split.result.1.bytes.now c.split-in-loop-span.result.0.now c.split-in-loop-span.result.1.bytes.now
      _ _ c.loop-span.left.characters.now c.split.result.1.characters.now
      c.loop-span.invariant.ends c.loop-span.invariant.spelled c.split.ensures.text c.split.ensures.bytes c.split.ensures.characters
      c.split-in-loop-span.ensures.text c.split-in-loop-span.ensures.bytes);
  within = grind (arith, common_steps);
  list = grind (arith, common_steps);
  tail = grind (arith, common_steps);
}
