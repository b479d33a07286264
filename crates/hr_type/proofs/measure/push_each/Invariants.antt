use Rattle.std.proofs.Common.{◌≡◌, ◌+◌, map, max, take}
use Rattle.hr_type.specs.Sizes.{reach, size, total}
use Rattle.hr_type.specs.Inside.{deepest_of, spread}
use Rattle.hr_type.proofs.measure.push_each.Given as goal

abbrev pub invariant-loop-ty : goal.invariant-loop-ty
invariant-loop-ty l = record {
  deep : deepest_of l.stack.items ≡ max (deepest_of l.initial.stack.items) (reach l.above (take l.ty-index l.types));
  wide : spread l.stack.items ≡ spread l.initial.stack.items + total (map size (take l.ty-index l.types));
}
