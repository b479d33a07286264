use Rattle.hr_lexer.specs.Refusals.{IsStop}
use Rattle.hr_lexer.proofs.Exactly.{but_memory, no_items}
use Rattle.hr_lexer.proofs.apart.items_if_any.Goals as goal

pub returns-in_default : goal.returns-in_default
returns-in_default c = λ items lexes.
    no_items c.args.text.now c.in-Err.error items (but_memory (IsStop c.args.text.now) c.in-Err.error c.in_default.not-Memory c.in-Err.ensures.refused) lexes
