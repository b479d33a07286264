use Rattle.std.proofs.Common.{◌≡◌, drop}
use Rattle.hr_step.specs.Lexemes.{are_read}
use Rattle.hr_step.proofs.lexemes.are_lexemes_read.Given as goal

abbrev pub invariant-loop-drafted : goal.invariant-loop-drafted
invariant-loop-drafted l = are_read (drop l.drafted-index l.draft) l.left ≡ are_read l.draft l.fn.items
