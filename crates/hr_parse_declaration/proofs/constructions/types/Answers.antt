use Rattle.std.proofs.Common.{arith}
use Rattle.hr_parse_type.proofs.Types.{no_arguments, one_argument, more_fits, ty_shrinks}
use Rattle.hr_parse_declaration.proofs.Declared.{made_arguments}
use Rattle.hr_parse_declaration.proofs.constructions.types.Goals as goal

pub loop-alloc-init : goal.loop-alloc-init
loop-alloc-init c = record { reads = no_arguments _ c.new-tree.ensures; fits = omega arith }

pub loop-alloc-preserved : goal.loop-alloc-preserved
loop-alloc-preserved c = record {
  reads = one_argument c.loop-alloc.invariant.reads c.in_ok-ty.ensures.reads c.take.ensures c.in_ok-push.ensures.ok c.max-height.ensures;
  fits = more_fits c.args.depth c.loop-alloc.height c.in_ok-ty.field-0.height c.max-height.result c.loop-alloc.invariant.fits c.in_ok-ty.ensures.fits c.max-height.ensures;
}

pub loop-alloc-smaller : goal.loop-alloc-smaller
loop-alloc-smaller c = ty_shrinks c.in_ok-ty.ensures.reads

pub returns-clause-reads : goal.returns-clause-reads
returns-clause-reads c = made_arguments c.new.ensures c.loop-alloc.invariant.reads
