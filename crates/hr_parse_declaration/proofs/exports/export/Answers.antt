use Rattle.hr_grammar_cases.specs.Imports.{export_reading}
use Rattle.hr_parse_lexeme.proofs.Phrases.{item, last_item}
use Rattle.hr_parse_declaration.specs.Lists.{ReadsPhrase}
use Rattle.hr_parse_declaration.proofs.Listing.{moved}
use Rattle.hr_parse_declaration.proofs.exports.export.Goals as goal

pub returns-in_ok-name-in-Some : goal.returns-in_ok-name-in-Some
returns-in_ok-name-in-Some c = item c.in-Some.ensures (last_item c.in_ok-name-in-Some.ensures)

pub returns-in-None : goal.returns-in-None
returns-in-None c =
    moved c.exported_thing.result (λ part a b. ReadsPhrase (λ n. export_reading n part) a b) c.args.cursor.now c.accept.new.cursor c.exported_thing.new.cursor c.in-None.ensures c.exported_thing.ensures
