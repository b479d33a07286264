use Rattle.std.proofs.Common.{◌∷◌, subst}
use Rattle.hr_plain.specs.Sets.{Holds}
use Rattle.hr_plain.proofs.Together.{added}
use Rattle.hr_plain.proofs.scoping.add.Goals as goal

pub returns-clause-holds : goal.returns-clause-holds
returns-clause-holds c = λ texts holds.
    subst (λ name. Holds c.insert.new.self (name ∷ texts)) c.in_ok-copy_of.ensures
    (added c.args.names.now c.insert.new.self c.in_ok-copy_of.field-0 texts c.in-Ok.ensures.updates.0 holds)
