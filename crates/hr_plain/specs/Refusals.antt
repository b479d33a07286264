-- When a text is not read, and why, and how that is shown.
use Rattle.std.specs.Prelude.{◌≡◌, ℕ, List, Option, Some, None}
use Rattle.hr_base.specs.declared.lexeme.Items.{Items}
use Rattle.hr_rules.specs.Lexemes.{LexesText}
use Rattle.hr_lexer.specs.Refusals.{IsCause}
use Rattle.hr_lexer.specs.Shown.{refusal_place, refusal_number}
use Rattle.hr_plain_tree.specs.declared.tree.Module.{Module}
use Rattle.hr_plain.specs.declared.loading.LoadError.{LoadError}
use Rattle.hr_plain.specs.Form.{IsPlain}

-- the lexer refuses the text; or it has items, and no tree of the form; the one text has the number 0
abbrev pub IsLoadRefusal : List ℕ → LoadError → Type 0
IsLoadRefusal bytes (LoadError.Lex text error) = (text ≡ 0) × IsCause bytes error
IsLoadRefusal bytes (LoadError.OutsideForm text) =
    (text ≡ 0) × ((items : Items) × LexesText bytes items) × ((tree : Module) → ¬ (IsPlain bytes tree))
IsLoadRefusal bytes (LoadError.Memory _) = Unit {0}

-- the number by which a refusal is shown; none for want of memory
abbrev pub load_number : LoadError → Option ℕ
load_number (LoadError.Lex text error) = refusal_number error
load_number (LoadError.OutsideForm text) = Some 25
load_number (LoadError.Memory _) = None

-- its place in the text in bytes from 0, where it has one
abbrev pub load_place : LoadError → Option ℕ
load_place (LoadError.Lex text error) = refusal_place error
load_place (LoadError.OutsideForm text) = None
load_place (LoadError.Memory _) = None
