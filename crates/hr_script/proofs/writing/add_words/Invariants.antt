use Rattle.std.proofs.Common.{◌≡◌, ◌++◌, ◌∷◌, map, drop}
use Rattle.std.specs.List.{join_with_byte}
use Rattle.hr_script.specs.Language.{verb_word}
use Rattle.hr_script.proofs.Joined.{spaced}
use Rattle.hr_script.proofs.writing.add_words.Given as goal

-- what is left is put behind what is there
abbrev pub invariant-loop-word : goal.invariant-loop-word
invariant-loop-word l =
    l.bytes.items ++ spaced (map (λ w. w.now) (drop l.word-index l.words)) ≡ l.fn.bytes.items ++ join_with_byte 32 (verb_word l.fn.verb ∷ map (λ w. w.now) l.words)
