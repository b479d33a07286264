use Rattle.std.proofs.Common.{sym, ◌∙◌}
use Rattle.hr_plain.proofs.Blanks.{plain_stop, plain_go, plain_end}
use Rattle.hr_plain.proofs.trivia.is_plain_trivia.Goals as goal

pub returns-in-None : goal.returns-in-None
returns-in-None c =
    sym (plain_stop c.args.trivia.now c.loop-b.b-index c.loop-b.inside c.loop-b-test.true (sym c.behind.ensures ∙ c.in-None.is)) ∙ c.loop-b.invariant

pub loop-b-preserved : goal.loop-b-preserved
loop-b-preserved c =
    sym (plain_go c.args.trivia.now c.loop-b.b-index c.loop-b.inside c.in-Some.next c.loop-b-test.true (sym c.behind.ensures ∙ c.in-Some.is)) ∙ c.loop-b.invariant

pub returns : goal.returns
returns c = sym (plain_end c.args.trivia.now c.loop-b.b-index c.loop-b.inside c.loop-b-test.false) ∙ c.loop-b.invariant
