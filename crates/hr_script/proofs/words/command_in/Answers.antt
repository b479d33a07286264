use Rattle.std.proofs.Common.{arith}
use Rattle.hr_script.proofs.Counts.{two_are_none, five_are_none}
use Rattle.hr_script.proofs.words.command_in.Goals as goal

pub returns-in-len2 : goal.returns-in-len2
returns-in-len2 c = two_are_none (λ word. word.now) c.args.words.now (omega (arith, c.in-len2.len_at_least)) (omega (arith, c.in-len2.len_below))

pub returns-in-len5-up : goal.returns-in-len5-up
returns-in-len5-up c = five_are_none (λ word. word.now) c.args.words.now (omega (arith, c.in-len5-up.len_at_least))
