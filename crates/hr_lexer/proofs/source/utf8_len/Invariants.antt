use Rattle.std.proofs.Common.{◌≡◌, ◌+◌, length, drop}
use Rattle.std.specs.Str.{encode_utf8_all}
use Rattle.hr_lexer.proofs.source.utf8_len.Given as goal

-- the bytes of what was counted and of what is left are those of all
abbrev pub invariant-loop-c : goal.invariant-loop-c
invariant-loop-c l = l.len + length (encode_utf8_all (drop l.c-index l.characters)) ≡ length (encode_utf8_all l.characters)
