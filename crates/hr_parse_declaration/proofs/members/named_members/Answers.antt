use Rattle.hr_grammar_cases.specs.Imports.{member_reading}
use Rattle.hr_parse_lexeme.proofs.Phrases.{stays}
use Rattle.hr_parse_declaration.proofs.Listing.{none_listed, first_part, next_part, last_part}
use Rattle.hr_parse_declaration.proofs.NoLonger.{shrinks_member}
use Rattle.hr_parse_declaration.proofs.members.named_members.Goals as goal

pub returns-then-is_next : goal.returns-then-is_next
returns-then-is_next c = none_listed member_reading c.args.cursor.now c.new-list.ensures.items

pub loop-comma-init : goal.loop-comma-init
loop-comma-init c = first_part member_reading c.in_ok-first.first c.new-list.ensures.items c.new-last.ensures c.in_ok-first.ensures

pub loop-comma-preserved : goal.loop-comma-preserved
loop-comma-preserved c = next_part member_reading c.in_ok-part.part c.loop-comma.invariant c.in-Some.ensures c.in_ok-part.ensures c.take-in-loop-comma.ensures c.new-next.ensures c.in_ok-push-2.ensures.items

pub loop-comma-smaller : goal.loop-comma-smaller
loop-comma-smaller c = shrinks_member c.in_ok-part.part c.in-Some.ensures c.in_ok-part.ensures

pub returns-in_default : goal.returns-in_default
returns-in_default c = stays c.in_default.ensures (last_part member_reading c.loop-comma.invariant c.take.ensures c.in_ok-push.ensures.items)
