use Rattle.hr_tree_items.specs.Texts.{AreTextsOf}
use Rattle.hr_tree_items.proofs.Texts.{Completes}
use Rattle.hr_check.proofs.reading.read_all.Given as goal

abbrev pub invariant-loop-text : goal.invariant-loop-text
invariant-loop-text l = Completes l.texts l.text l.trees.items

abbrev pub invariant-loop-which : goal.invariant-loop-which
invariant-loop-which l = AreTextsOf l.texts l.trees.items
