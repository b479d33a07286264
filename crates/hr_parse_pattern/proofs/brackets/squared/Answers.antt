use Rattle.hr_parse_lexeme.specs.declared.mark.Mark.{Mark}
use Rattle.hr_parse_lexeme.proofs.Phrases.{spells_as}
use Rattle.hr_parse_pattern.proofs.Names.{names_constructor, same_name}
use Rattle.hr_parse_pattern.proofs.Openings.{at_opening}
use Rattle.hr_parse_pattern.proofs.brackets.squared.Goals as goal

pub returns-in-Constructor-clause-reads : goal.returns-in-Constructor-clause-reads
returns-in-Constructor-clause-reads c = same_name c.new.ensures (spells_as (names_constructor c.in-Constructor.named) (at_opening Mark.LeftSquare c.args.cursor.now c.square.new.cursor c.in-Constructor.is c.in_ok-named.ensures))

pub returns-in-Open-clause-reads : goal.returns-in-Open-clause-reads
returns-in-Open-clause-reads c = at_opening Mark.LeftSquare c.args.cursor.now c.square.new.cursor c.in-Open.is c.in_ok-named.ensures
