use Rattle.std.proofs.Common.{◌≡◌}
use Rattle.hr_gen.specs.Project.{module_texts}
use Rattle.hr_gen.proofs.modules.texts.Given as goal

abbrev pub invariant-loop-k : goal.invariant-loop-k
invariant-loop-k l = l.list.items ≡ module_texts l.seed l.size l.k
