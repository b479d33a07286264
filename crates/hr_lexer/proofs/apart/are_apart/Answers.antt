use Rattle.std.proofs.Common.{rules, ◌≡◌, ◌++◌, ℕ, List, Some, None}
use Rattle.hr_lexer.specs.Words.{HasItems}
use Rattle.hr_lexer.proofs.SideBySide.{tells_apart, never_apart}
use Rattle.hr_lexer.proofs.apart.are_apart.Goals as goal

pub returns-in-Some : goal.returns-in-Some
returns-in-Some c =
    let before : List ℕ = c.args.before.now in
    let text : List ℕ = c.args.text.now in
    let both : List ℕ = c.as_slice.result.now in
    let joined : both ≡ before ++ text = search rules in
    let has : HasItems both (Some c.in-Some.items) = search rules in
    tells_apart before text both joined c.are_lexemes.result c.in-Some.items has (search rules)

pub returns : goal.returns
returns c =
    let before : List ℕ = c.args.before.now in
    let text : List ℕ = c.args.text.now in
    let both : List ℕ = c.as_slice.result.now in
    let joined : both ≡ before ++ text = search rules in
    let has : HasItems both None = search rules in
    never_apart before text both joined has
