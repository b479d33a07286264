use Rattle.std.proofs.Common.{◌≡◌, drop}
use Rattle.hr_type.specs.Spelling.{name_for}
use Rattle.hr_type.proofs.spell.name_for.Given as goal

-- the pairs still to come decide
abbrev pub invariant-loop-other : goal.invariant-loop-other
invariant-loop-other l = name_for l.entity (drop l.other-index l.names) ≡ name_for l.entity l.names
