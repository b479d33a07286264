-- The program's exit statuses.
use Rattle.std.specs.Prelude.{ℕ}
use Rattle.hare.specs.declared.status.Status.{Status}

-- the number with which the program ends
abbrev pub code_of : Status → ℕ
code_of Status.Done = 0
code_of Status.StepRefused = 1
code_of Status.BadWords = 2
code_of Status.BadScript = 3
code_of Status.NotAccepted = 4
code_of Status.ReadFault = 5
code_of Status.WriteFault = 6
code_of Status.ReportFault = 7
code_of Status.Memory = 8
code_of Status.OverLimit = 9
