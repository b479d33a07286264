-- What is so of every text.
use Rattle.std.specs.Prelude.{ℕ, ◌≤◌, ◌⊎◌, List, length}
use Rattle.hr_base.specs.declared.lexeme.Items.{Items}
use Rattle.hr_rules.specs.Lexemes.{LexesText}
use Rattle.hr_lexer.specs.declared.error.LexError.{LexError}
use Rattle.hr_base.specs.Limits.{module_limit}
use Rattle.hr_lexer.specs.Refusals.{IsCause}

-- each has items and is not too long, or there is a cause for which it is refused
abbrev pub ReadOrRefused : Type 0
ReadOrRefused = (bytes : List ℕ) → ((items : Items) × LexesText bytes items × (length bytes ≤ module_limit)) ⊎ ((error : LexError) × IsCause bytes error)
