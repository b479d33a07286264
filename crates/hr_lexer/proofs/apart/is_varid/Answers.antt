use Rattle.std.proofs.Common.{rules, Some, None}
use Rattle.hr_lexer.specs.Words.{HasItems}
use Rattle.hr_lexer.proofs.OneWord.{tells_word, no_word}
use Rattle.hr_lexer.proofs.apart.is_varid.Goals as goal

pub returns-in-Some : goal.returns-in-Some
returns-in-Some c =
    let has : HasItems c.args.text.now (Some c.in-Some.items) = search rules in
    tells_word c.args.text.now c.is_word.result c.in-Some.items has (search rules)

pub returns-in-None : goal.returns-in-None
returns-in-None c = let has : HasItems c.args.text.now None = search rules in no_word c.args.text.now has
