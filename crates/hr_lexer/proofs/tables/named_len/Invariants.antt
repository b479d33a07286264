use Rattle.std.proofs.Common.{◌≡◌, drop, map}
use Rattle.hr_rules.specs.Quotes.{named_len}
use Rattle.hr_lexer.proofs.tables.named_len.Given as goal

abbrev pub invariant-loop-name : goal.invariant-loop-name
invariant-loop-name l = named_len (map (λ word. word.now) (drop l.name-index l.table)) l.text ≡ named_len (map (λ word. word.now) l.table) l.text
