use Rattle.hr_parse_lexeme.specs.declared.mark.Mark.{Mark}
use Rattle.hr_parse_lexeme.specs.Marks.{IsMark}
use Rattle.hr_parse_lexeme.specs.Reads.{Takes}
use Rattle.hr_parse_lexeme.proofs.Phrases.{nothing_taken, taken, spells_as, takes_stay}
use Rattle.hr_parse_type.proofs.Heads.{names_type}
use Rattle.hr_parse_type.proofs.reading.type_parenthesis.Goals as goal

pub returns-in-Constructor : goal.returns-in-Constructor
returns-in-Constructor c = spells_as (names_type c.in-Constructor.named) (rw c.in-Constructor.is at c.in_ok-named.ensures)

pub returns-in-None : goal.returns-in-None
returns-in-None c = takes_stay c.in-None.ensures (rw c.in-Open.is at c.in_ok-named.ensures)

pub returns-in_ok-right-in-Some : goal.returns-in_ok-right-in-Some
returns-in_ok-right-in-Some c =
    let left : Takes (IsMark Mark.LeftParen) c.in-Open.left c.args.cursor.now c.parenthesis.new.cursor = rw c.in-Open.is at c.in_ok-named.ensures in record {
      is = (left.is, (c.in-Some.ensures.is, c.in_ok-right-in-Some.ensures.is));
      taken = taken left (taken c.in-Some.ensures (taken c.in_ok-right-in-Some.ensures (nothing_taken _)));
    }
