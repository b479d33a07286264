use Rattle.std.proofs.Common.{rules}
use Rattle.hr_plain.proofs.Renames.{over_limit, renamed}
use Rattle.hr_plain.proofs.renaming.rename.Goals as goal

pub returns-clause-renamed : goal.returns-clause-renamed
returns-clause-renamed c =
    renamed c.requires.0 c.args.tree.now c.requires.1 c.args.module.now c.args.pos c.in-Some.lexeme c.in-Some.old.now c.args.new.now c.in_ok-text.text c.in_ok-items-2.items
    (search rules) (search rules) (search rules) (search rules) (search rules) (search rules)

pub returns-then-len-gt-MODULE_LIMIT-clause-refused : goal.returns-then-len-gt-MODULE_LIMIT-clause-refused
returns-then-len-gt-MODULE_LIMIT-clause-refused c =
    over_limit c.args.tree.now c.args.module.now c.args.pos c.in-Some.lexeme c.in-Some.old.now c.args.new.now c.in_ok-text.text c.in_ok-items-2.items
    (search rules) (search rules) (search rules) (search rules) (search rules) (search rules)
