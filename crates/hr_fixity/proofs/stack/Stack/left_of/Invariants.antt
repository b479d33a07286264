use Rattle.std.proofs.Common.{◌≡◌, length}
use Rattle.hr_fixity.specs.Reader as reader
use Rattle.hr_fixity.proofs.stack.Stack.left_of.Given as goal

abbrev pub invariant-closing : goal.invariant-closing
invariant-closing l = reader.with_left_operand l.self l.tree l.next ≡ reader.with_left_operand l.fn.self l.fn.tree l.fn.next

abbrev pub decreases-closing : goal.decreases-closing
decreases-closing l = length l.self
