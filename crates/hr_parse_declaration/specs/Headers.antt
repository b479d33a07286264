-- A module's header, in any block: it stands where none is open.
use Rattle.std.specs.Prelude.{ℕ}
use lib.Chars.{codes}
use Rattle.hr_base.specs.declared.lexeme.Class.{Class}
use Rattle.hr_tree.specs.declared.modules.Header.{Header}
use Rattle.hr_grammar.specs.Words.{IsOf, IsWord}
use Rattle.hr_grammar_cases.specs.Readings.{Reading, ◌▷◌, one, maybe}
use Rattle.hr_grammar_cases.specs.Imports.{name_list_reading, export_reading}

abbrev pub header_in : ℕ → Header → Reading
header_in n header =
    one n (IsWord (codes "module")) header.word ▷ one n (IsOf Class.ConId) header.name
    ▷ maybe (name_list_reading n (export_reading n)) header.exports ▷ one n (IsWord (codes "where")) header.opening
