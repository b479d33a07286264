use Rattle.std.proofs.Common.{◌≡◌, drop, fold, map}
use Rattle.hr_outline.specs.Seen.{joined_seen, mark_seen}
use Rattle.hr_sequences.specs.Sequences.{begun_in, joined_behind, nothing_begun}
use Rattle.hr_sequences.proofs.reading.sequences_in.Given as goal

abbrev pub invariant-loop-joined : goal.invariant-loop-joined
invariant-loop-joined l =
    fold (joined_behind (map mark_seen l.outline.marks.items)) (begun_in l.reading) (map joined_seen (drop l.joined-index l.joined-items))
    ≡ fold (joined_behind (map mark_seen l.outline.marks.items)) nothing_begun (map joined_seen l.outline.joints.items)
