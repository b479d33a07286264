use Rattle.std.proofs.Common.{◌≡◌, ◌++◌, drop}
use Rattle.hr_rules.specs.Lexing.{joined}
use Rattle.hr_rules.proofs.items.join.Given as goal

-- what is done, and then what is left, is the whole
abbrev pub invariant-loop-item : goal.invariant-loop-item
invariant-loop-item l = l.bytes.items ++ joined (drop l.item-index l.item-items) l.items.tail ≡ joined l.items.list l.items.tail
