use Rattle.std.proofs.Common.{◌≡◌, drop}
use Rattle.hr_step.specs.Names.{origin}
use Rattle.hr_step.proofs.names.NameMap.origin.Given as goal

abbrev pub invariant-loop-pair : goal.invariant-loop-pair
invariant-loop-pair l = origin (drop l.pair-index l.self.pairs) l.entity ≡ origin l.self.pairs l.entity
