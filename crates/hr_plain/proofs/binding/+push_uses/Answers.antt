use Rattle.std.proofs.Common.{◌++◌, ◌∷◌, [], ◌&&◌, map, ap, sym, ◌∙◌}
use Rattle.hr_plain_tree.specs.Yields.{yield_of}
use Rattle.hr_plain.specs.Scoping as spec
use Rattle.hr_plain.proofs.Marks.{atoms_marked, group_marked, atom_marked}
use Rattle.hr_plain.proofs.binding.+push_uses.Goals as goal

pub returns-in_ok-push-in-Group-2 : goal.returns-in_ok-push-in-Group-2
returns-in_ok-push-in-Group-2 t c =
    group_marked (λ item. c.args.are_sought && spec.is_named c.args.text.now item) c.args.marks.now.items c.push-in-Group.new.self.items c.push_uses.new.marks.items c.push-in-Group-2.new.self.items c.in-Group.left c.in-Group.right c.in-Group.inner
    (c.in_ok-push-in-Group.ensures.items ∙ ap (λ m. c.args.marks.now.items ++ m ∷ []) c.is_use-in-Group.ensures)
    (c.in_ok-push_uses-in-Group.ensures ∙ ap (λ e. c.push-in-Group.new.self.items ++ map (λ item. c.args.are_sought && spec.is_named c.args.text.now item) (yield_of e)) c.get.ensures)
    (c.in_ok-push-in-Group-2.ensures.items ∙ ap (λ m. c.push_uses.new.marks.items ++ m ∷ []) c.is_use-in-Group-2.ensures)
    ∙ ap (λ e. c.args.marks.now.items ++ map (λ item. c.args.are_sought && spec.is_named c.args.text.now item) (yield_of e)) (sym c.in-Group.is)

pub loop-atom-preserved : goal.loop-atom-preserved
loop-atom-preserved t c =
    atom_marked (λ item. c.args.are_sought && spec.is_named c.args.text.now item) c.loop-atom.marks.items c.push_uses-in-loop-atom.new.marks.items _ c.as_slice-atom-items.result.now c.loop-atom.atom-index c.atom-item.result c.loop-atom-test.true c.atom-item.is
    c.in_ok-push_uses-in-Apply.ensures c.loop-atom.invariant

pub returns-after-loop-atom : goal.returns-after-loop-atom
returns-after-loop-atom t c =
    atoms_marked (λ item. c.args.are_sought && spec.is_named c.args.text.now item) c.args.marks.now.items c.loop-atom.marks.items c.as_slice-atom-items.result.now c.in-Apply.atoms c.loop-atom.atom-index c.loop-atom-test.false c.as_slice-atom-items.ensures c.loop-atom.invariant
    ∙ ap (λ e. c.args.marks.now.items ++ map (λ item. c.args.are_sought && spec.is_named c.args.text.now item) (yield_of e)) (sym c.in-Apply.is)
