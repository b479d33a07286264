use Rattle.std.proofs.Common.{◌≡◌, drop}
use Rattle.hr_step.specs.Names.{partner}
use Rattle.hr_step.proofs.names.NameMap.partner.Given as goal

abbrev pub invariant-loop-pair : goal.invariant-loop-pair
invariant-loop-pair l = partner (drop l.pair-index l.self.pairs) l.entity ≡ partner l.self.pairs l.entity
