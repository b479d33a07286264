use Rattle.std.proofs.Common.{◌≤◌, length, sym, ap, ◌∙◌, arith, drop_of_length-le}
use Rattle.hr_scan.specs.Characters.{char_at}
use Rattle.hr_scan.proofs.Characters.{some_begins, none_begins}
use Rattle.hr_scan.proofs.character.character_at.Goals as goal

-- No byte is left at the place.
pub returns-in_err-rest-clause-none : goal.returns-in_err-rest-clause-none
returns-in_err-rest-clause-none c =
    let past : length c.args.bytes.now ≤ c.args.from = omega (arith, c.in_err-rest.ensures.cases) in
    none_begins c.args.from c.args.bytes.now c.from_residual.result (c.from_residual.ensures ∙ sym (ap char_at (drop_of_length-le c.args.bytes.now past)))

pub returns-clause-some : goal.returns-clause-some
returns-clause-some c = some_begins c.args.from c.args.bytes.now c.first_character.result (c.first_character.ensures ∙ ap char_at c.in_ok-rest.ensures.cases.2)

pub returns-clause-none : goal.returns-clause-none
returns-clause-none c = none_begins c.args.from c.args.bytes.now c.first_character.result (c.first_character.ensures ∙ ap char_at c.in_ok-rest.ensures.cases.2)
