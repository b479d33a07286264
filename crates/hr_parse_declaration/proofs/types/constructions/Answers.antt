use Rattle.hr_parse_type.proofs.Types.{more_fits}
use Rattle.hr_parse_declaration.proofs.Declared.{first_construction, next_construction, last_construction}
use Rattle.hr_parse_declaration.proofs.NoLonger.{shrinks_construction}
use Rattle.std.proofs.Common.{refl}
use Rattle.hr_parse_declaration.proofs.types.constructions.Goals as goal

pub loop-bar-init : goal.loop-bar-init
loop-bar-init c = record { reads = first_construction c.new-list.ensures.items refl c.in_ok-last.ensures.reads; fits = c.in_ok-last.ensures.fits }

pub loop-bar-preserved : goal.loop-bar-preserved
loop-bar-preserved c = record {
  reads = next_construction c.loop-bar.invariant.reads c.in-Some.ensures c.in_ok-next.ensures.reads c.take-in-loop-bar.ensures c.in_ok-push-2.ensures.items c.max-height.ensures;
  fits = more_fits c.args.depth c.loop-bar.height c.in_ok-next.field-0.height c.max-height.result c.loop-bar.invariant.fits c.in_ok-next.ensures.fits c.max-height.ensures;
}

pub loop-bar-smaller : goal.loop-bar-smaller
loop-bar-smaller c = shrinks_construction c.in_ok-next.field-0.tree c.in-Some.ensures c.in_ok-next.ensures.reads

pub returns-in_default-clause-reads : goal.returns-in_default-clause-reads
returns-in_default-clause-reads c = last_construction c.loop-bar.invariant.reads c.in_default.ensures c.take.ensures c.in_ok-push.ensures.items c.new.ensures
