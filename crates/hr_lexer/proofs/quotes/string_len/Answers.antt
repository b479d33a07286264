use Rattle.std.proofs.Common.{◌≡◌, ◌≤◌, ◌-◌, List, ℕ, length, get_or, take, drop, ◌∷◌, Some, sym, ◌∙◌, arith}
use Rattle.hr_rules.specs.Quotes.{string_escape_len}
use Rattle.hr_lexer.proofs.ClosedRead.{first_and}
use Rattle.hr_lexer.proofs.StringRead.{StringAt, escaped, unended}
use Rattle.hr_lexer.proofs.quotes.string_len.Goals as goal

pub returns-in_err-rest-in-92-clause-value : goal.returns-in_err-rest-in-92-clause-value
returns-in_err-rest-in-92-clause-value c =
    let rest : List ℕ = c.loop-rest.rest.now in
    let tail : List ℕ = take (length rest - 1) (drop 1 rest) in
    let some : 1 ≤ length rest = grind arith in
    let first : 92 ≡ get_or rest 0 92 = grind arith in
    let at : StringAt c.args.text.now rest = record { left = c.loop-rest.invariant.left; same = c.loop-rest.invariant.same } in
    let whole : rest ≡ 92 ∷ tail = first_and rest 92 some first in
    let escape : string_escape_len tail ≡ Some c.in_ok-string_escape_len-in-92.field-0 = sym c.string_escape_len.ensures ∙ c.in_ok-string_escape_len-in-92.was in
    c.from_residual-in_err-rest-in-92.ensures ∙ unended c.args.text.now rest tail c.in_ok-string_escape_len-in-92.field-0 at whole escape c.in_err-rest-in-92.ensures.cases

pub loop-rest-preserved : goal.loop-rest-preserved
loop-rest-preserved c =
    let rest : List ℕ = c.loop-rest.rest.now in
    let tail : List ℕ = take (length rest - 1) (drop 1 rest) in
    let some : 1 ≤ length rest = grind arith in
    let first : 92 ≡ get_or rest 0 92 = grind arith in
    let at : StringAt c.args.text.now rest = record { left = c.loop-rest.invariant.left; same = c.loop-rest.invariant.same } in
    let whole : rest ≡ 92 ∷ tail = first_and rest 92 some first in
    let escape : string_escape_len tail ≡ Some c.in_ok-string_escape_len-in-92.field-0 = sym c.string_escape_len.ensures ∙ c.in_ok-string_escape_len-in-92.was in
    let cut = c.in_ok-rest-in-92.ensures.cases in
    let next = escaped c.args.text.now rest tail c.in_ok-rest-in-92.field-0.1.now c.in_ok-string_escape_len-in-92.field-0 at whole escape cut.0 cut.2 in
    record { left = next.left; same = next.same }
