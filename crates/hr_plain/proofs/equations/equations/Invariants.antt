use Rattle.std.proofs.Common.{◌≡◌, ◌++◌}
use Rattle.std.specs.Option.{option_map}
use Rattle.std.specs.Vec.Iter.{into_iter_items}
use Rattle.hr_plain.specs.Reading.{equations_from, equations_of}
use Rattle.hr_plain.proofs.equations.equations.Given as goal

-- the equations that have ended, and those of what is left
abbrev pub invariant-loop-item : goal.invariant-loop-item
invariant-loop-item l = option_map (λ found. l.list.items ++ found) (equations_from l.part (into_iter_items l.item-iterator)) ≡ equations_of l.fn.items
