use Rattle.std.proofs.Common.{map}
use Rattle.std.specs.String.{string_bytes}
use Rattle.std.specs.Vec.Iter.{into_iter_items}
use Rattle.hr_files.proofs.Progress.{Replacing}
use Rattle.hr_files.proofs.replacing.replace_files.Given as goal

abbrev pub invariant-loop-change : goal.invariant-loop-change
invariant-loop-change g l =
    Replacing (map string_bytes l.names) l.fn.changes.items (g.S.Shelf.store l.initial.shelf) (g.S.Shelf.store l.shelf) l.done (into_iter_items l.change-iterator)
