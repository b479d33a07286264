use Rattle.std.proofs.Common.{◌≡◌, IfOk, map, subst, ap, ◌∙◌}
use Rattle.std.specs.String.{string_bytes}
use Rattle.clap.specs.Matches.{found_of}
use Rattle.hr_words.proofs.Apps.{none_there, values_there}
use Rattle.hr_words.proofs.words.values_of.Goals as goal

pub returns-in-Some : goal.returns-in-Some
returns-in-Some c =
    let there = values_there (found_of c.args.matches.now) c.args.id.now _ (rw c.in-Some.is at c.get_strs.ensures) in
    subst (λ values. IfOk c.copies.result (λ copies. map string_bytes copies.items ≡ values)) there c.copies.ensures

pub returns-in-None : goal.returns-in-None
returns-in-None c = ap (map string_bytes) c.new.ensures.items ∙ none_there (found_of c.args.matches.now) c.args.id.now (rw c.in-None.is at c.get_strs.ensures)
