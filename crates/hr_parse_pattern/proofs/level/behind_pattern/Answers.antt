use Rattle.hr_parse_pattern.proofs.Fronts.{own_shorter}
use Rattle.hr_parse_pattern.proofs.Patterns.{pat_shrinks}
use Rattle.hr_parse_pattern.proofs.level.behind_pattern.Goals as goal

pub loop-kind-smaller : goal.loop-kind-smaller
loop-kind-smaller c = own_shorter c.in_ok-own.own c.loop-kind.cursor c.own_operator.new.cursor _ c.in_ok-own.ensures (pat_shrinks c.in_ok-last-in-Constructor.ensures.reads)
