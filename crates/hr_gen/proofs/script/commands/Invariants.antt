use Rattle.std.proofs.Common.{◌≡◌}
use Rattle.hr_gen.specs.Project.{module_commands}
use Rattle.hr_gen.proofs.script.commands.Given as goal

abbrev pub invariant-loop-k : goal.invariant-loop-k
invariant-loop-k l = l.list.items ≡ module_commands l.k
