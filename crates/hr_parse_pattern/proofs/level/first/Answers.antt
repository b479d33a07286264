use Rattle.hr_parse_pattern.proofs.Shorter.{takes_shorter}
use Rattle.hr_parse_pattern.proofs.level.first.Goals as goal

pub loop-left-smaller : goal.loop-left-smaller
loop-left-smaller c = takes_shorter c.in-Some.ensures
