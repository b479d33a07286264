use Rattle.std.proofs.Common.{◌≡◌, ◌++◌, drop}
use Rattle.hr_check.proofs.checking.copies.Given as goal

abbrev pub invariant-loop-text : goal.invariant-loop-text
invariant-loop-text l = l.list.items ++ drop l.text-index l.texts ≡ l.texts
