use Rattle.hr_parse_lexeme.specs.declared.mark.Mark.{Mark}
use Rattle.hr_parse_lexeme.proofs.Phrases.{spells_as}
use Rattle.hr_parse_pattern.proofs.Behind.{behind}
use Rattle.hr_parse_pattern.proofs.Names.{names_constructor, same_name}
use Rattle.hr_parse_pattern.proofs.Openings.{at_opening}
use Rattle.hr_parse_pattern.proofs.brackets.parenthesized.Goals as goal

pub returns-in-Constructor-clause-reads : goal.returns-in-Constructor-clause-reads
returns-in-Constructor-clause-reads c =
    same_name c.new.ensures (spells_as (names_constructor c.in-Constructor.named) (at_opening Mark.LeftParen c.args.cursor.now c.parenthesis.new.cursor c.in-Constructor.is c.in_ok-named.ensures))

pub returns-then-is_next-clause-reads : goal.returns-then-is_next-clause-reads
returns-then-is_next-clause-reads c = behind _ _ _ _ c.behind_minus.ensures.reads (at_opening Mark.LeftParen c.args.cursor.now c.parenthesis.new.cursor c.in-Open.is c.in_ok-named.ensures)

pub returns-then-is_symbol-clause-reads : goal.returns-then-is_symbol-clause-reads
returns-then-is_symbol-clause-reads c = behind _ _ _ _ c.behind_symbol.ensures.reads (at_opening Mark.LeftParen c.args.cursor.now c.parenthesis.new.cursor c.in-Open.is c.in_ok-named.ensures)

pub returns-clause-reads : goal.returns-clause-reads
returns-clause-reads c = at_opening Mark.LeftParen c.args.cursor.now c.parenthesis.new.cursor c.in-Open.is c.in_ok-named.ensures
