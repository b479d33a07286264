use Rattle.std.proofs.Common.{◌+◌, ◌≤◌, length, map, vec_capacity, vec_len}
use Rattle.std.specs.String.{string_bytes}
use Rattle.hr_files.proofs.RollMore.{Rolling}
use Rattle.hr_files.proofs.rolling.roll_back.Given as goal

abbrev pub invariant-loop-file : goal.invariant-loop-file
invariant-loop-file g l =
    Rolling (map string_bytes l.names) l.fn.changes.items (g.S.Shelf.store l.initial.shelf) (g.S.Shelf.store l.shelf) l.changes.items l.stayed.items × (length l.stayed.items + length l.changes.items ≤ vec_capacity l.stayed)

abbrev pub decreases-loop-file : goal.decreases-loop-file
decreases-loop-file g l = vec_len l.changes
