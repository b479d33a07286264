-- The texts of the modules that stand behind every project.
use Rattle.std.specs.Prelude.{ℕ, List}
use Rattle.hr_prelude.specs.declared.Builtin.{Builtin}
use Rattle.hr_prelude.specs.declared.prelude.TheConstants.{PRELUDE_TEXT}
use Rattle.hr_prelude.specs.declared.characters.TheConstants.{CHAR_TEXT}

abbrev pub text_of : Builtin → List ℕ
text_of Builtin.Prelude = PRELUDE_TEXT.now
text_of Builtin.Char = CHAR_TEXT.now
