use Rattle.std.proofs.Common.{◌≡◌, ◌++◌}
use Rattle.hr_gen.specs.Project.{head, import_line, first_function, functions}
use Rattle.hr_gen.proofs.modules.module_text.Given as goal

abbrev pub invariant-loop-h : goal.invariant-loop-h
invariant-loop-h l = l.text.items ≡ head l.k ++ (import_line l.k ++ (first_function l.seed l.size l.k ++ functions l.seed l.k l.h))
