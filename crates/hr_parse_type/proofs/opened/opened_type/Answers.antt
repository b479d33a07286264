use Rattle.hr_parse_type.proofs.Heads.{named_head, atom_head}
use Rattle.hr_parse_type.proofs.Types.{made, as_applied, applied_read}
use Rattle.hr_parse_type.proofs.opened.opened_type.Goals as goal

pub returns-in_ok-arguments-in-Named-clause-reads : goal.returns-in_ok-arguments-in-Named-clause-reads
returns-in_ok-arguments-in-Named-clause-reads c = λ before h.
    made c.applied.ensures
    (applied_read (named_head c.in-Named.is (c.in_ok-head.ensures.reads before (c.in_ok-bracket.ensures before h))) c.in_ok-arguments-in-Named.ensures.reads)

pub returns-in-Atom-clause-reads : goal.returns-in-Atom-clause-reads
returns-in-Atom-clause-reads c = λ before h. as_applied (atom_head c.in-Atom.is (c.in_ok-head.ensures.reads before (c.in_ok-bracket.ensures before h)))
