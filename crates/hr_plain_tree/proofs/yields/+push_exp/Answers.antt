use Rattle.std.proofs.Common.{◌++◌, ◌∷◌, [], ap, sym, ◌∙◌}
use Rattle.hr_plain_tree.specs.Yields.{yield_of}
use Rattle.hr_plain_tree.proofs.Trees.{yield_variable, yield_integer, atoms_end, group_pushed}
use Rattle.hr_plain_tree.proofs.yields.+push_exp.Goals as goal

pub returns-in_ok-push-in-Variable : goal.returns-in_ok-push-in-Variable
returns-in_ok-push-in-Variable t c = cc (c.in_ok-push-in-Variable.ensures.items, c.in_ok-copy_of-in-Variable.ensures, yield_variable c.in-Variable.item)

pub returns-in_ok-push-in-Integer : goal.returns-in_ok-push-in-Integer
returns-in_ok-push-in-Integer t c = cc (c.in_ok-push-in-Integer.ensures.items, c.in_ok-copy_of-in-Integer.ensures, yield_integer c.in-Integer.item)

pub returns-in_ok-push-in-Group-2 : goal.returns-in_ok-push-in-Group-2
returns-in_ok-push-in-Group-2 t c =
    group_pushed c.args.list.now.items c.push-in-Group.new.self.items c.push_exp.new.list.items c.push-in-Group-2.new.self.items c.in-Group.left c.in-Group.right c.in-Group.inner
    (c.in_ok-push-in-Group.ensures.items ∙ ap (λ i. c.args.list.now.items ++ i ∷ []) c.in_ok-copy_of-in-Group.ensures)
    (c.in_ok-push_exp-in-Group.ensures ∙ ap (λ e. c.push-in-Group.new.self.items ++ yield_of e) c.get.ensures)
    (c.in_ok-push-in-Group-2.ensures.items ∙ ap (λ i. c.push_exp.new.list.items ++ i ∷ []) c.in_ok-copy_of-in-Group-2.ensures)
    ∙ ap (λ e. c.args.list.now.items ++ yield_of e) (sym c.in-Group.is)

pub returns-after-loop-atom : goal.returns-after-loop-atom
returns-after-loop-atom t c =
    atoms_end c.args.list.now.items c.loop-atom.list.items c.as_slice-atom-items.result.now c.in-Apply.atoms c.loop-atom.atom-index c.loop-atom-test.false c.as_slice-atom-items.ensures c.loop-atom.invariant
    ∙ ap (λ e. c.args.list.now.items ++ yield_of e) (sym c.in-Apply.is)
