use Rattle.std.proofs.Common.{◌≡◌, length}
use Rattle.hr_fixity.specs.Reader as reader
use Rattle.hr_fixity.proofs.stack.Stack.close_all.Given as goal

abbrev pub invariant-closing : goal.invariant-closing
invariant-closing l = reader.close_all l.self l.tree ≡ reader.close_all l.fn.self l.fn.tree

abbrev pub decreases-closing : goal.decreases-closing
decreases-closing l = length l.self
