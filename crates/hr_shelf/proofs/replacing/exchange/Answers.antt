use Rattle.std.proofs.Common.{◌∙◌, sym}
use Rattle.hr_shelf.proofs.NameLists.{none_of_these}
use Rattle.hr_shelf.proofs.replacing.exchange.Goals as goal

pub returns-else-is_err : goal.returns-else-is_err
returns-else-is_err g c =
    record { spared = λ has. absurd (none_of_these _ _ _ (c.as_str-beside.ensures.value ∙ c.of-held.ensures) (sym c.has.ensures ∙ c.if-has.false) has) }
