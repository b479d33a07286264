use Rattle.std.proofs.Common.{map}
use Rattle.std.specs.String.{string_bytes}
use Rattle.hr_files.proofs.Progress.{Progress}
use Rattle.hr_files.proofs.reading.read_files.Given as goal

abbrev pub invariant-loop-file : goal.invariant-loop-file
invariant-loop-file g l = Progress (map string_bytes l.names) (g.S.Shelf.store l.initial.shelf) (g.S.Shelf.store l.shelf) l.file l.texts.items l.total
