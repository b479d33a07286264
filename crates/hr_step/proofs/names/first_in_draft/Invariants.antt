use Rattle.std.proofs.Common.{◌≡◌, drop}
use Rattle.hr_step.specs.Names.{first_in_draft, judged}
use Rattle.hr_step.proofs.names.first_in_draft.Given as goal

abbrev pub invariant-loop-item : goal.invariant-loop-item
invariant-loop-item l =
    first_in_draft (judged l.judge.targets.now l.judge.map.now.pairs l.judge.old.now.modules l.judge.new.now.modules l.judge.also.now.modules) l.«module» l.item (drop l.item l.lexemes)
    ≡ first_in_draft (judged l.judge.targets.now l.judge.map.now.pairs l.judge.old.now.modules l.judge.new.now.modules l.judge.also.now.modules) l.«module» 0 l.lexemes
