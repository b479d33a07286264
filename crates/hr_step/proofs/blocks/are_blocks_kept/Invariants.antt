use Rattle.std.proofs.Common.{◌≡◌, drop}
use Rattle.hr_step.specs.Blocks.{blocks_from}
use Rattle.hr_step.proofs.blocks.are_blocks_kept.Given as goal

abbrev pub invariant-loop-span : goal.invariant-loop-span
invariant-loop-span l =
    blocks_from l.draft l.marks.items l.olds.items l.news.items (drop l.span-index l.old) l.left
    ≡ blocks_from l.draft l.marks.items l.olds.items l.news.items l.old l.new
