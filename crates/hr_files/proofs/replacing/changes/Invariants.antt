use Rattle.std.proofs.Common.{◌≡◌, ◌++◌, drop}
use Rattle.hr_files.specs.Replaced.{changes_from}
use Rattle.hr_files.proofs.replacing.changes.Given as goal

abbrev pub invariant-loop-file : goal.invariant-loop-file
invariant-loop-file l = l.changes.items ++ changes_from l.news l.file (drop l.file l.olds) ≡ changes_from l.news 0 l.olds
