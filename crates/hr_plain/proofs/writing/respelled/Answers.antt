use Rattle.std.proofs.Common.{rules, [], ap, length, subst, sym, ◌∙◌}
use Rattle.hr_plain.specs.Target.{AllRespell}
use Rattle.hr_plain.proofs.Respelling.{at_start, next, whole}
use Rattle.hr_plain.proofs.writing.respelled.Goals as goal

pub loop-place-init : goal.loop-place-init
loop-place-init c = at_start c.args.new.now c.args.marks.now c.as_slice-olds.result.now c.in_ok-list.list.items _ c.in_ok-list.ensures.items (search rules)

pub loop-place-preserved : goal.loop-place-preserved
loop-place-preserved c =
    next c.args.new.now c.args.marks.now c.as_slice-olds.result.now c.loop-place.list.items c.push.new.self.items c.loop-place.place _ c.index-olds-place.result c.in_ok-respelled_item.field-0 _ _
    c.loop-place-test.true (c.requires ∙ ap length (sym c.as_slice-olds.ensures)) c.index-olds-place.is c.in_ok-push.ensures.items c.loop-place.invariant c.in_ok-respelled_item.ensures c.text_of-before.ensures

pub returns : goal.returns
returns c = record {
  lexemes = subst (λ olds. AllRespell c.args.new.now [] c.args.marks.now olds c.loop-place.list.items) c.as_slice-olds.ensures
      (whole c.args.new.now c.args.marks.now c.as_slice-olds.result.now c.loop-place.list.items c.loop-place.place c.loop-place-test.false (c.requires ∙ ap length (sym c.as_slice-olds.ensures)) c.loop-place.invariant.0);
  tail_stays = search rules;
}
