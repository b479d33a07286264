use Rattle.std.proofs.Common.{◌≡◌, Some, ◌∙◌, sym}
use Rattle.hr_lexer.specs.TriviaReader.{piece_len}
use Rattle.hr_lexer.proofs.TriviaRead.{one_more}
use Rattle.hr_lexer.proofs.comments.trivia_len.Goals as goal

pub loop-len-preserved : goal.loop-len-preserved
loop-len-preserved c =
    let read : piece_len c.loop-len.rest.now ≡ Some c.in-Some.len = sym c.piece_len.ensures.value ∙ c.in-Some.is in
    let next = one_more c.args.text.now c.loop-len.rest.now c.split_at.result.1.now c.in-Some.len read c.split_at.ensures.back c.loop-len.invariant.left c.loop-len.invariant.same in
    record { left = next.left; same = next.same }
