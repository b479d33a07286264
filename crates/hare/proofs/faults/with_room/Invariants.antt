use Rattle.std.proofs.Common.{◌≡◌, ◌++◌, drop, map}
use Rattle.std.specs.String.{string_bytes}
use Rattle.hr_files.specs.Replaced.{name_of}
use Rattle.hare.specs.Rooms.{longest, longest_lines}
use Rattle.hare.proofs.faults.with_room.Given as goal

abbrev pub invariant-loop-change : goal.invariant-loop-change
invariant-loop-change l =
    l.text.items ++ longest_lines (map (λ change. name_of (map string_bytes l.files) change) (drop l.change-index l.changes))
    ≡ l.told ++ longest (map (λ change. name_of (map string_bytes l.files) change) l.changes)
