use Rattle.hr_type.proofs.mono.Mono.drop.Goals as goal

pub loop-next-smaller : goal.loop-next-smaller
loop-next-smaller c = c.in-Some.ensures
