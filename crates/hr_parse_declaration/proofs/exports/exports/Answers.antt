use Rattle.std.proofs.Common.{refl}
use Rattle.hr_grammar_cases.specs.Imports.{name_list_reading, export_reading}
use Rattle.hr_parse_declaration.proofs.Listing.{unread}
use Rattle.hr_parse_declaration.proofs.exports.exports.Goals as goal

pub returns-then-not-is_next : goal.returns-then-not-is_next
returns-then-not-is_next c = unread (λ n. name_list_reading n (export_reading n)) {a = c.args.cursor.now} refl
