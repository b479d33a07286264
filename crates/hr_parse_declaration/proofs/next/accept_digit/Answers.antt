use Rattle.hr_grammar.specs.Declarations.{IsDigit}
use Rattle.hr_parse_lexeme.specs.declared.sort.Sort.{Sort}
use Rattle.hr_parse_lexeme.specs.Sorts.{IsSort}
use Rattle.hr_parse_declaration.proofs.Listing.{narrowed_maybe}
use Rattle.hr_parse_declaration.proofs.next.accept_digit.Goals as goal

pub returns-then-is_digit_next : goal.returns-then-is_digit_next
returns-then-is_digit_next c =
    narrowed_maybe IsDigit (IsSort Sort.Integer) c.accept_sort.result c.args.cursor.now c.accept_sort.new.cursor (c.is_digit_next.ensures c.if-is_digit_next.true) c.accept_sort.ensures
