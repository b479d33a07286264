use Rattle.std.proofs.Common.{sym, ◌∙◌}
use Rattle.hr_unify.specs.Tasks.{seen_pairs}
use Rattle.hr_unify.proofs.Lists.{first_front, first_back, seen_some, seen_none}
use Rattle.hr_unify.proofs.known.known_type.Goals as goal

pub returns-in-Some : goal.returns-in-Some
returns-in-Some c = sym (first_front c.args.variable c.in-Some.ty.now c.args.known.now.given.now.entries (seen_pairs c.args.known.now.fresh.entries) (sym c.in-Some.ensures))

pub returns-in-Some-get : goal.returns-in-Some-get
returns-in-Some-get c =
    sym (first_back c.args.variable c.args.known.now.given.now.entries (seen_pairs c.args.known.now.fresh.entries) (sym c.in_default.ensures)
    ∙ seen_some c.args.variable c.args.known.now.fresh.entries _ (sym c.in-Some-get.ensures.value))

pub returns-in-None : goal.returns-in-None
returns-in-None c =
    sym (first_back c.args.variable c.args.known.now.given.now.entries (seen_pairs c.args.known.now.fresh.entries) (sym c.in_default.ensures)
    ∙ seen_none c.args.variable c.args.known.now.fresh.entries (sym c.in-None.ensures.value))
