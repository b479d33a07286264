use Rattle.std.proofs.Common.{◌≡◌, drop}
use Rattle.hr_plain.specs.Form.{is_ascii_text}
use Rattle.hr_plain.proofs.lexemes.is_ascii.Given as goal

-- the whole is ASCII where what is left is
abbrev pub invariant-loop-b : goal.invariant-loop-b
invariant-loop-b l = is_ascii_text (drop l.b-index l.text) ≡ is_ascii_text l.text
