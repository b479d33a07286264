use Rattle.std.proofs.Common.{subst}
use Rattle.hr_tree_items.specs.Texts.{IsOneMore}
use Rattle.hr_tree_items.proofs.Texts.{completed, one_more, still}
use Rattle.hr_check.proofs.reading.read_all.Goals as goal

pub loop-text-preserved : goal.loop-text-preserved
loop-text-preserved c =
    let more = subst (λ text. IsOneMore text c.loop-text.trees.items c.read.new.trees.items) c.as_slice.ensures c.in_ok-read.ensures in
    one_more c.args.texts.now c.loop-text.text c.index-texts-text.result c.loop-text.trees.items c.read.new.trees.items c.loop-text-test.true c.index-texts-text.is
    c.loop-text.invariant more

pub loop-which-init : goal.loop-which-init
loop-which-init c = completed c.args.texts.now c.loop-text.text c.loop-text.trees.items c.loop-text-test.false c.loop-text.invariant

pub loop-which-preserved : goal.loop-which-preserved
loop-which-preserved c = still c.args.texts.now c.as_bytes.result.now c.loop-which.trees.items c.read-in-loop-which.new.trees.items c.loop-which.invariant c.in_ok-read-2.ensures
