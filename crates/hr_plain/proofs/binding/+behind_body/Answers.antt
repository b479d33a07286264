use Rattle.std.proofs.Common.{◌≡◌, ap, sym, ◌+◌, ◌<◌, length, subst, ◌∙◌, MatchOption}
use Rattle.hr_plain_tree.specs.Yields.{yield_of}
use Rattle.hr_plain.proofs.Lengths.{atoms_behind, atoms_short, group_counted, group_short}
use Rattle.hr_plain.proofs.binding.+behind_body.Goals as goal

pub returns-in-Some-behind_body : goal.returns-in-Some-behind_body
returns-in-Some-behind_body t c =
    subst (λ e. MatchOption c.checked_sub-in-Some-behind_body.result (c.args.lexemes < length (yield_of e)) (λ n. n + length (yield_of e) ≡ c.args.lexemes)) (sym c.in-Group.is)
    (group_counted c.args.lexemes c.in-Some.left c.in-Some-behind_body.behind c.in-Group.field-0 c.in-Group.field-2 c.in-Group.inner c.get.result.now c.checked_sub-in-Some-behind_body.result
    c.in-Some.ensures c.get.ensures c.in-Some-behind_body.ensures c.checked_sub-in-Some-behind_body.ensures)

pub returns-in-None-behind_body : goal.returns-in-None-behind_body
returns-in-None-behind_body t c =
    subst (λ e. c.args.lexemes < length (yield_of e)) (sym c.in-Group.is)
    (group_short c.args.lexemes c.in-Some.left c.in-Group.field-0 c.in-Group.field-2 c.in-Group.inner c.get.result.now c.in-Some.ensures c.get.ensures c.in-None-behind_body.ensures)

pub returns-in-None-behind_body-2 : goal.returns-in-None-behind_body-2
returns-in-None-behind_body-2 t c =
    subst (λ e. c.args.lexemes < length (yield_of e)) (sym c.in-Apply.is)
    (atoms_short c.loop-atom.left c.args.lexemes c.as_slice-atom-items.result.now c.in-Apply.atoms c.loop-atom.atom-index c.atom-item.result c.loop-atom-test.true c.as_slice-atom-items.ensures c.atom-item.is c.loop-atom.invariant c.in-None-behind_body-2.ensures)

pub returns-after-loop-atom : goal.returns-after-loop-atom
returns-after-loop-atom t c =
    ap (λ e. c.loop-atom.left + length (yield_of e)) c.in-Apply.is
    ∙ atoms_behind c.loop-atom.left c.args.lexemes c.as_slice-atom-items.result.now c.in-Apply.atoms c.loop-atom.atom-index c.loop-atom-test.false c.as_slice-atom-items.ensures c.loop-atom.invariant
