use Rattle.std.proofs.Common.{Some}
use lib.Chars.{codes}
use Rattle.hr_grammar.specs.Words.{IsImportWord}
use Rattle.hr_grammar_cases.specs.Readings.{maybe}
use Rattle.hr_grammar_cases.specs.Imports.{import_names_reading}
use Rattle.hr_parse_lexeme.proofs.Phrases.{then}
use Rattle.hr_parse_declaration.specs.Lists.{ReadsPhrase}
use Rattle.hr_parse_declaration.proofs.Listing.{none, moved, accepted_read}
use Rattle.hr_parse_declaration.proofs.imports.import_names.Goals as goal

pub returns-in-None : goal.returns-in-None
returns-in-None c =
    moved c.shown_names.result (λ names a b. ReadsPhrase (λ n. maybe (import_names_reading n) names) a b) c.args.cursor.now c.accept.new.cursor c.shown_names.new.cursor c.in-None.ensures c.shown_names.ensures

pub returns-in_ok-list-in-Some : goal.returns-in_ok-list-in-Some
returns-in_ok-list-in-Some c = then (accepted_read (IsImportWord (codes "hiding")) (Some c.in-Some.word) c.in-Some.ensures) (none 0) c.in_ok-list-in-Some.ensures
