use Rattle.std.proofs.Common.{◌≡◌, ◌≤◌, true, length}
use Rattle.std.specs.Str.{all_scalars, encode_utf8_all}
use Rattle.hr_lexer.specs.Spans.{items_at, past_spans, AreWithin}
use Rattle.hr_lexer.proofs.Progress.{Progress}
use Rattle.hr_lexer.proofs.lexing.spans.Given as goal

abbrev pub invariant-loop-rest : goal.invariant-loop-rest
invariant-loop-rest l = record {
  scalars : all_scalars l.left ≡ true;
  place : length (encode_utf8_all l.left) ≤ l.len;
  within : AreWithin l.spans.items l.fn.characters;
  behind : l.left ≡ past_spans l.spans.items l.fn.characters;
  progress : Progress (encode_utf8_all l.fn.characters) (items_at l.spans.items l.fn.characters) (encode_utf8_all l.left);
}

abbrev pub decreases-loop-rest : goal.decreases-loop-rest
decreases-loop-rest l = length l.left
