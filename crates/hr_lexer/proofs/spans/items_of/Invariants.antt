use Rattle.std.proofs.Common.{◌≡◌, ◌++◌, drop}
use Rattle.std.specs.Str.{encode_utf8_all}
use Rattle.hr_lexer.specs.Spans.{items_at, past_spans, AreWithin, EndsWith}
use Rattle.hr_lexer.proofs.spans.items_of.Given as goal

-- the items that are there and those of the spans that are left are the items of all spans
abbrev pub invariant-loop-span : goal.invariant-loop-span
invariant-loop-span l = record {
  spelled : l.left.bytes.now ≡ encode_utf8_all l.left.characters.now;
  ends : EndsWith l.fn.whole l.left.bytes.now;
  within : AreWithin (drop l.span-index l.spans) l.left.characters.now;
  list : l.list.items ++ items_at (drop l.span-index l.spans) l.left.characters.now ≡ items_at l.fn.spans l.fn.source.characters.now;
  tail : past_spans (drop l.span-index l.spans) l.left.characters.now ≡ past_spans l.fn.spans l.fn.source.characters.now;
}
