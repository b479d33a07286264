use Rattle.std.proofs.Common.{sym, ◌∙◌}
use Rattle.hr_plain.specs.Sets.{is_bound_in}
use Rattle.hr_plain.proofs.Together.{group_bound, atoms_unbound, atoms_bound}
use Rattle.hr_plain.proofs.scoping.+is_bound.Goals as goal

pub returns-else-not-is_bound : goal.returns-else-not-is_bound
returns-else-not-is_bound t c =
    c.is_item_bound-in-Group-2.ensures
    ∙ sym (group_bound (is_bound_in c.args.variables.now c.args.top.now) c.args.body.now c.in-Group.left c.in-Group.inner c.get.result.now c.in-Group.right c.in-Group.is c.get.ensures
    (sym c.is_item_bound-in-Group.ensures ∙ c.if-not-is_item_bound.false) (sym c.is_bound.ensures ∙ c.if-not-is_bound.false))

pub returns-then-not-is_bound-2 : goal.returns-then-not-is_bound-2
returns-then-not-is_bound-2 t c =
    sym (atoms_unbound (is_bound_in c.args.variables.now c.args.top.now) c.args.body.now c.in-Apply.atoms c.as_slice-atom-items.result.now c.loop-atom.atom-index c.atom-item.result
    c.in-Apply.is c.as_slice-atom-items.ensures c.loop-atom-test.true c.atom-item.is (sym c.is_bound-in-loop-atom.ensures ∙ c.if-not-is_bound-2.true) c.loop-atom.invariant)

pub returns-after-loop-atom : goal.returns-after-loop-atom
returns-after-loop-atom t c =
    sym (atoms_bound (is_bound_in c.args.variables.now c.args.top.now) c.args.body.now c.in-Apply.atoms c.as_slice-atom-items.result.now c.loop-atom.atom-index
    c.in-Apply.is c.as_slice-atom-items.ensures c.loop-atom-test.false c.loop-atom.invariant)
