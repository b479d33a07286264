use Rattle.std.proofs.Common.{rules, ◌≤◌, ℕ, List, length}
use Rattle.hr_base.specs.Limits.{module_limit}
use Rattle.hr_lexer.proofs.Exactly.{refuses, reads}
use Rattle.hr_lexer.proofs.lexing.lex.Goals as goal

pub returns-clause-exact : goal.returns-clause-exact
returns-clause-exact c =
    let bytes : List ℕ = c.args.bytes.now in
    let short : length bytes ≤ module_limit = search rules in
    refuses bytes c.items.result short c.items.ensures.read c.items.ensures.refused

pub returns-clause-whole : goal.returns-clause-whole
returns-clause-whole c = λ items lexes short. reads c.args.bytes.now c.items.result c.items.ensures.read c.items.ensures.refused items lexes
