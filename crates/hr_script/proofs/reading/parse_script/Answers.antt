use Rattle.std.proofs.Common.{ap, arith, length}
use Rattle.hr_script.proofs.Scripts.{one_script_lem, refused_lem}
use Rattle.hr_script.proofs.reading.parse_script.Goals as goal

pub returns-then-len-gt-STEP_LIMIT-clause-only : goal.returns-then-len-gt-STEP_LIMIT-clause-only
returns-then-len-gt-STEP_LIMIT-clause-only c = λ commands parsed.
    omega (arith, parsed.few, ap length (one_script_lem c.args.bytes.now c.in-Ok.list.items commands c.in-Ok.ensures.read parsed.script), c.len.ensures, c.if-len-gt-STEP_LIMIT.true)

pub returns-else-len-gt-STEP_LIMIT-clause-only : goal.returns-else-len-gt-STEP_LIMIT-clause-only
returns-else-len-gt-STEP_LIMIT-clause-only c = λ commands parsed.
    one_script_lem c.args.bytes.now c.in-Ok.list.items commands c.in-Ok.ensures.read parsed.script

pub returns-in-Err-clause-only : goal.returns-in-Err-clause-only
returns-in-Err-clause-only c = λ commands parsed. refused_lem c.args.bytes.now c.in-Err.error commands c.in-Err.ensures.refused parsed.script
