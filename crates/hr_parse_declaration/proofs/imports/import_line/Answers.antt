use Rattle.hr_parse_lexeme.proofs.Phrases.{item, then}
use Rattle.hr_parse_declaration.proofs.Listing.{none, accepted_read}
use Rattle.hr_parse_declaration.proofs.imports.import_line.Goals as goal

pub returns : goal.returns
returns c =
    item c.in_ok-word.ensures
    (then (accepted_read _ c.accept-qualified.result c.accept-qualified.ensures) (none 0) (item c.in_ok-module.ensures (then c.in_ok-alias.ensures (none 0) c.in_ok-names.ensures)))
