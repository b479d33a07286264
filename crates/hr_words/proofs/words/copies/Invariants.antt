use Rattle.std.proofs.Common.{◌≡◌, ◌++◌, drop, map}
use Rattle.std.specs.String.{string_bytes}
use Rattle.hr_words.proofs.words.copies.Given as goal

abbrev pub invariant-loop-name : goal.invariant-loop-name
invariant-loop-name l = map string_bytes l.copies.items ++ map (λ name. name.now) (drop l.name-index l.names) ≡ map (λ name. name.now) l.names
