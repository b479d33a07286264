use Rattle.std.proofs.Common.{◌≡◌, ◌-◌, List, ℕ, length, take, drop, ◌∷◌, sym, ◌∙◌}
use Rattle.hr_lexer.proofs.ClosedRead.{first_and, ClosedAt, opened, shut_one, passed}
use Rattle.hr_lexer.proofs.comments.closed_len.Goals as goal

pub loop-rest-preserved-then-opens : goal.loop-rest-preserved-then-opens
loop-rest-preserved-then-opens c =
    let rest : List ℕ = c.loop-rest.rest.now in
    let tail : List ℕ = take (length rest - 1) (drop 1 rest) in
    let at : ClosedAt c.args.text.now rest c.loop-rest.depth = record { left = c.loop-rest.invariant.left; shallow = c.loop-rest.invariant.shallow; same = c.loop-rest.invariant.same } in
    let whole : rest ≡ c.c-item.result ∷ tail = first_and rest c.c-item.result c.in-len1-up.len_at_least c.c-item.is in
    let next = opened c.args.text.now rest tail c.past_mark-rest.result.now c.c-item.result c.loop-rest.depth at whole (sym c.opens.ensures ∙ c.if-opens.true) c.past_mark-rest.ensures in
    record { left = next.left; shallow = next.shallow; same = next.same }

pub loop-rest-preserved-then-shuts : goal.loop-rest-preserved-then-shuts
loop-rest-preserved-then-shuts c =
    let rest : List ℕ = c.loop-rest.rest.now in
    let tail : List ℕ = take (length rest - 1) (drop 1 rest) in
    let at : ClosedAt c.args.text.now rest c.loop-rest.depth = record { left = c.loop-rest.invariant.left; shallow = c.loop-rest.invariant.shallow; same = c.loop-rest.invariant.same } in
    let whole : rest ≡ c.c-item.result ∷ tail = first_and rest c.c-item.result c.in-len1-up.len_at_least c.c-item.is in
    let next = shut_one c.args.text.now rest tail c.past_mark-rest-then-shuts.result.now c.c-item.result c.loop-rest.depth at whole
    (sym c.opens.ensures ∙ c.if-opens.false) (sym c.shuts.ensures ∙ c.if-shuts.true) c.if-depth-eq0.false c.past_mark-rest-then-shuts.ensures in
    record { left = next.left; shallow = next.shallow; same = next.same }

pub loop-rest-preserved : goal.loop-rest-preserved
loop-rest-preserved c =
    let rest : List ℕ = c.loop-rest.rest.now in
    let tail : List ℕ = take (length rest - 1) (drop 1 rest) in
    let at : ClosedAt c.args.text.now rest c.loop-rest.depth = record { left = c.loop-rest.invariant.left; shallow = c.loop-rest.invariant.shallow; same = c.loop-rest.invariant.same } in
    let whole : rest ≡ c.c-item.result ∷ tail = first_and rest c.c-item.result c.in-len1-up.len_at_least c.c-item.is in
    let next = passed c.args.text.now rest tail c.c-item.result c.loop-rest.depth at whole (sym c.opens.ensures ∙ c.if-opens.false) (sym c.shuts.ensures ∙ c.if-shuts.false) in
    record { left = next.left; shallow = next.shallow; same = next.same }
