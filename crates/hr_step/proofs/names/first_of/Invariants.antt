use Rattle.std.proofs.Common.{◌≡◌, drop}
use Rattle.hr_step.specs.Names.{first_from, judged}
use Rattle.hr_step.proofs.names.first_of.Given as goal

abbrev pub invariant-loop-module : goal.invariant-loop-module
invariant-loop-module l =
    first_from (judged l.judge.targets.now l.judge.map.now.pairs l.judge.old.now.modules l.judge.new.now.modules l.judge.also.now.modules) l.«module» l.left (drop l.«module» l.new.modules)
    ≡ first_from (judged l.judge.targets.now l.judge.map.now.pairs l.judge.old.now.modules l.judge.new.now.modules l.judge.also.now.modules) 0 l.drafts l.new.modules
