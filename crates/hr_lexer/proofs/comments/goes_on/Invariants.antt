use Rattle.std.proofs.Common.{◌≡◌, length}
use Rattle.hr_rules.specs.Comments.{goes_on}
use Rattle.hr_lexer.proofs.comments.goes_on.Given as goal

abbrev pub invariant-loop-rest : goal.invariant-loop-rest
invariant-loop-rest l = goes_on l.rest ≡ goes_on l.text

abbrev pub decreases-loop-rest : goal.decreases-loop-rest
decreases-loop-rest l = length l.rest
