use Rattle.std.proofs.Common.{◌≡◌, ◌++◌, drop}
use Rattle.hr_script.specs.Language.{script_bytes}
use Rattle.hr_script.proofs.writing.write_script.Given as goal

-- what is left is written behind what is there
abbrev pub invariant-loop-command : goal.invariant-loop-command
invariant-loop-command l = l.bytes.items ++ script_bytes (drop l.command-index l.commands) ≡ script_bytes l.commands
