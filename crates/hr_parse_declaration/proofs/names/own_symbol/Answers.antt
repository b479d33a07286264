use Rattle.std.proofs.Common.{inl}
use Rattle.hr_parse_declaration.proofs.Listing.{either_symbol}
use Rattle.hr_parse_declaration.proofs.names.own_symbol.Goals as goal

pub returns-in-Some : goal.returns-in-Some
returns-in-Some c = record { is = inl c.in-Some.ensures.is; taken = c.in-Some.ensures.taken }

pub returns-in-None : goal.returns-in-None
returns-in-None c = either_symbol c.accept_sort-in-None.result c.args.cursor.now c.accept_sort.new.cursor c.accept_sort-in-None.new.cursor c.in-None.ensures c.accept_sort-in-None.ensures
