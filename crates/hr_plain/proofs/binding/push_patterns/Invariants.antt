use Rattle.std.proofs.Common.{◌≡◌, ◌++◌, ◌&&◌, drop, map}
use Rattle.hr_plain.specs.Scoping as spec
use Rattle.hr_plain.proofs.binding.push_patterns.Given as goal

-- what is there, and the marks of the patterns that are left, is the whole
abbrev pub invariant-loop-pattern : goal.invariant-loop-pattern
invariant-loop-pattern l =
    l.marks.items ++ map (λ pattern. l.are_sought && spec.is_named l.text pattern) (drop l.pattern-index l.patterns)
    ≡ l.initial.marks.items ++ map (λ pattern. l.are_sought && spec.is_named l.text pattern) l.patterns
