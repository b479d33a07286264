use Rattle.std.proofs.Common.{None, refl}
use lib.Chars.{codes}
use Rattle.hr_grammar.specs.Words.{IsImportWord}
use Rattle.hr_grammar_cases.specs.Imports.{import_names_reading}
use Rattle.hr_parse_lexeme.proofs.Phrases.{then}
use Rattle.hr_parse_declaration.proofs.Listing.{none, unread, accepted_read}
use Rattle.hr_parse_declaration.proofs.imports.shown_names.Goals as goal

pub returns-then-not-is_next : goal.returns-then-not-is_next
returns-then-not-is_next c = unread import_names_reading {a = c.args.cursor.now} refl

pub returns : goal.returns
returns c = then (accepted_read (IsImportWord (codes "hiding")) None {a = c.args.cursor.now} refl) (none 0) c.in_ok-list.ensures
