use Rattle.hr_shelf.proofs.Streams.{wrote_more}
use Rattle.hr_shelf.proofs.stream.write_whole.Goals as goal

pub loop-rest-preserved : goal.loop-rest-preserved
loop-rest-preserved g c = rw c.split_at.ensures.back (wrote_more _ _ _ _ _ _ c.loop-rest.invariant c.in-Ok.ensures.bytes)
