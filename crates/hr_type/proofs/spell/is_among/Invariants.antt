use Rattle.std.proofs.Common.{◌≡◌, ◌==◌, map, drop}
use Rattle.std.specs.List.{list_any}
use Rattle.std.specs.Cmp.Lexicographic.{pointwise}
use Rattle.hr_type.proofs.spell.is_among.Given as goal

-- the words still to come decide
abbrev pub invariant-loop-word : goal.invariant-loop-word
invariant-loop-word l = list_any (λ word. pointwise ◌==◌ word l.text) (map (λ word. word.now) (drop l.word-index l.words)) ≡ list_any (λ word. pointwise ◌==◌ word l.text) (map (λ word. word.now) l.words)
