use Rattle.std.proofs.Common.{◌≡◌, drop}
use Rattle.hr_plain.specs.Renaming.{owner_at, owner_from}
use Rattle.hr_plain.proofs.binding.owner_of.Given as goal

-- what the equations that are left say of the lexemes that are left
abbrev pub invariant-loop-number : goal.invariant-loop-number
invariant-loop-number l = owner_from l.number (drop l.number l.tree.equations) l.left l.text ≡ owner_at l.tree l.lexeme l.text
