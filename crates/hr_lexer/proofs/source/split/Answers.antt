use Rattle.std.proofs.Common.{◌≡◌, ◌≤◌, length, take, drop, ap, ◌∙◌, arith}
use lib.Utf8.{encodes}
use Rattle.hr_lexer.proofs.Splits.{front_len, front, back}
use Rattle.hr_lexer.proofs.source.split.Goals as goal

pub utf8_len-requires : goal.utf8_len-requires
utf8_len-requires c =
    let source = c.args.source in
    let within : length (encodes (take c.args.count source.characters.now)) ≤ length source.bytes.now = front_len c.args.count source.characters.now source.bytes.now c.requires.spelled in
    let same : length (encodes c.split_at.result.0.now) ≡ length (encodes (take c.args.count source.characters.now)) = ap (λ x. length (encodes x)) c.split_at.ensures.front in
    omega arith

pub split_at-requires-2 : goal.split_at-requires-2
split_at-requires-2 c =
    let source = c.args.source in
    let within : length (encodes (take c.args.count source.characters.now)) ≤ length source.bytes.now = front_len c.args.count source.characters.now source.bytes.now c.requires.spelled in
    let same : c.utf8_len.result ≡ length (encodes (take c.args.count source.characters.now)) = c.utf8_len.ensures ∙ ap (λ x. length (encodes x)) c.split_at.ensures.front in
    omega arith

pub returns-clause-text : goal.returns-clause-text
returns-clause-text c =
    let source = c.args.source in
    let same : c.utf8_len.result ≡ length (encodes (take c.args.count source.characters.now)) = c.utf8_len.ensures ∙ ap (λ x. length (encodes x)) c.split_at.ensures.front in
    c.split_at-2.ensures.front ∙ ap (λ n. take n source.bytes.now) same ∙ front c.args.count source.characters.now source.bytes.now c.requires.spelled

pub returns-clause-bytes : goal.returns-clause-bytes
returns-clause-bytes c =
    let source = c.args.source in
    let same : c.utf8_len.result ≡ length (encodes (take c.args.count source.characters.now)) = c.utf8_len.ensures ∙ ap (λ x. length (encodes x)) c.split_at.ensures.front in
    c.split_at-2.ensures.back ∙ ap (λ n. drop n source.bytes.now) same ∙ back c.args.count source.characters.now source.bytes.now c.requires.spelled
