use Rattle.std.proofs.Common.{All, take}
use Rattle.hr_finish.specs.Compared.{IsDraftRead}
use Rattle.hr_finish.proofs.rereading.are_read.Given as goal

abbrev pub invariant-loop-draft : goal.invariant-loop-draft
invariant-loop-draft l = All (IsDraftRead l.old l.new) (take l.draft-index l.drafts)
