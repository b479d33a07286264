use Rattle.std.proofs.Common.{ap, sym, ◌∙◌}
use Rattle.hr_plain_tree.specs.Search.{passed}
use Rattle.hr_plain_tree.specs.Yields.{yield_of}
use Rattle.hr_plain_tree.proofs.Trees.{atoms_passed}
use Rattle.hr_plain_tree.proofs.search.+behind_exp.Goals as goal

pub returns-after-loop-atom : goal.returns-after-loop-atom
returns-after-loop-atom t c =
    atoms_passed c.args.search c.loop-atom.search c.as_slice-atom-items.result.now c.in-Apply.atoms c.loop-atom.atom-index c.loop-atom-test.false c.as_slice-atom-items.ensures c.loop-atom.invariant
    ∙ ap (λ e. passed c.args.search (yield_of e)) (sym c.in-Apply.is)
