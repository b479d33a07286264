-- What a pattern begins with, by its kind.
use Rattle.std.proofs.Common.{◌≡◌, Result, Ok, Err, IfOk, subst}
use Rattle.hr_base.specs.declared.lexeme.Item.{Item}
use Rattle.hr_layout.specs.Standing.{Standing}
use Rattle.hr_parse_lexeme.specs.declared.mark.Mark.{Mark}
use Rattle.hr_parse_lexeme.specs.declared.names.Bracket.{Bracket}
use Rattle.hr_parse_lexeme.specs.declared.stop.Stop.{Stop}
use Rattle.hr_parse_lexeme.specs.Names.{Opens}
use Rattle.hr_parse_lexeme.specs.Reads.{Takes}
use Rattle.hr_parse_pattern.specs.declared.bound.Signed.{Signed}
use Rattle.hr_parse_pattern.specs.declared.brackets.Bracketed.{Bracketed}
use Rattle.hr_parse_pattern.specs.declared.brackets.Head.{Head}
use Rattle.hr_parse_pattern.specs.declared.brackets.Start.{Start}
use Rattle.hr_parse_pattern.specs.Patterns.{ReadsBracketed, ReadsHead, ReadsSigned, ReadsStart}

pub at_start : {found start : Start} (a b : Standing) → found ≡ start → ReadsStart found a b → ReadsStart start a b
at_start a b e h = subst (λ t. ReadsStart t a b) e h

pub at_bracket : {found bracketed : Bracketed} (a b : Standing) → found ≡ bracketed → ReadsBracketed found a b → ReadsBracketed bracketed a b
at_bracket a b e h = subst (λ t. ReadsBracketed t a b) e h

pub at_signed : {found signed : Signed} (a b : Standing) → found ≡ signed → ReadsSigned found a b → ReadsSigned signed a b
at_signed a b e h = subst (λ t. ReadsSigned t a b) e h

pub at_head : {found head : Head} (a b : Standing) → found ≡ head → ReadsHead found a b → ReadsHead head a b
at_head a b e h = subst (λ t. ReadsHead t a b) e h

pub at_opening : (mark : Mark) {found bracket : Bracket} (a b : Standing) → found ≡ bracket → Opens mark found a b → Opens mark bracket a b
at_opening mark a b e h = subst (λ t. Opens mark t a b) e h

-- a lexeme that is of another kind too
pub takes_as : {Is Other : Item → Type 0} (result : Result Item Stop) (a b : Standing) → ((item : Item) → Is item → Other item) → IfOk result (λ item. Takes Is item a b) → IfOk result (λ item. Takes Other item a b)
takes_as (Ok item) a b turn h = record { is = turn item h.is; taken = h.taken }
takes_as (Err stop) a b turn h = tt

pub taken_as : {Is Other : Item → Type 0} {item : Item} {a b : Standing} → ((item : Item) → Is item → Other item) → Takes Is item a b → Takes Other item a b
taken_as {item = item} turn h = record { is = turn item h.is; taken = h.taken }
