use Rattle.std.proofs.Common.{◌≡◌, ◌++◌, map, take}
use Rattle.hr_type.proofs.parts.push_all.Given as goal

abbrev pub invariant-loop-ty : goal.invariant-loop-ty
invariant-loop-ty l = map (λ t. t.now) l.stack.items ≡ map (λ t. t.now) l.initial.stack.items ++ take l.ty-index l.types
