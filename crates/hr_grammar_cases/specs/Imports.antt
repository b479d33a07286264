-- How export lists and imports are read: the Haskell 98 Report, sections 5.2 and 5.3.
use Rattle.std.specs.Prelude.{ℕ}
use lib.Chars.{codes}
use Rattle.hr_base.specs.declared.lexeme.Class.{Class}
use Rattle.hr_tree.specs.declared.modules.NameList.{NameList}
use Rattle.hr_tree.specs.declared.modules.Export.{Export}
use Rattle.hr_tree.specs.declared.modules.Member.{Member}
use Rattle.hr_tree.specs.declared.modules.Members.{Members}
use Rattle.hr_tree.specs.declared.modules.Import.{Import}
use Rattle.hr_tree.specs.declared.modules.Alias.{Alias}
use Rattle.hr_tree.specs.declared.modules.ImportNames.{ImportNames}
use Rattle.hr_tree.specs.declared.modules.Imported.{Imported}
use Rattle.hr_tree.specs.declared.modules.Header.{Header}
use Rattle.hr_tree.specs.Names.{variable_items, constructor_items}
use Rattle.hr_grammar.specs.Words.{IsOf, IsWord, IsImportWord, IsLeftParen, IsRightParen, IsComma, IsDots}
use Rattle.hr_grammar.specs.Spelled.{IsVariable, IsNamedVariable, IsOwnConstructor}
use Rattle.hr_grammar.specs.Imports.{IsTypeName}
use Rattle.hr_grammar_cases.specs.Readings.{Reading, never, ◌▷◌, one, spelled, maybe, separated}

-- a constructor alone: a field is read by no tree
abbrev pub member_reading : ℕ → Member → Reading
member_reading n (Member.Constructor constructor) = spelled n IsOwnConstructor constructor_items constructor
member_reading n (Member.Field variable) = never

-- the constructors that are named with a type: all of them, or some, also none
abbrev pub members_reading : ℕ → Members → Reading
members_reading n (Members.All left dots right) = one n IsLeftParen left ▷ one n IsDots dots ▷ one n IsRightParen right
members_reading n (Members.Named left list right) =
    one n IsLeftParen left ▷ separated (one n IsComma) (member_reading n) list ▷ one n IsRightParen right

-- names in parentheses: none or more, and then perhaps a comma
abbrev pub name_list_reading : {T : Type 0} → ℕ → (T → Reading) → NameList T → Reading
name_list_reading n of names =
    one n IsLeftParen names.left ▷ separated (one n IsComma) of names.list ▷ maybe (one n IsComma) names.last_comma ▷ one n IsRightParen names.right

abbrev pub export_reading : ℕ → Export → Reading
export_reading n (Export.Variable variable) = spelled n IsNamedVariable variable_items variable
export_reading n (Export.Type name members) = one n IsTypeName name ▷ maybe (members_reading n) members
export_reading n (Export.Module word name) = one n (IsWord (codes "module")) word ▷ one n (IsOf Class.ConId) name

abbrev pub imported_reading : ℕ → Imported → Reading
imported_reading n (Imported.Variable variable) = spelled n IsVariable variable_items variable
imported_reading n (Imported.Type name members) = one n (IsOf Class.ConId) name ▷ maybe (members_reading n) members

abbrev pub alias_reading : ℕ → Alias → Reading
alias_reading n alias = one n (IsImportWord (codes "as")) alias.word ▷ one n (IsOf Class.ConId) alias.name

abbrev pub import_names_reading : ℕ → ImportNames → Reading
import_names_reading n names = maybe (one n (IsImportWord (codes "hiding"))) names.hiding ▷ name_list_reading n (imported_reading n) names.list

abbrev pub import_reading : ℕ → Import → Reading
import_reading n import =
    one n (IsWord (codes "import")) import.word ▷ maybe (one n (IsImportWord (codes "qualified"))) import.qualified ▷ one n (IsOf Class.ConId) import.«module»
    ▷ maybe (alias_reading n) import.alias ▷ maybe (import_names_reading n) import.names

-- what stands before a module's body, where no block is open
abbrev pub header_reading : Header → Reading
header_reading header =
    one 0 (IsWord (codes "module")) header.word ▷ one 0 (IsOf Class.ConId) header.name
    ▷ maybe (name_list_reading 0 (export_reading 0)) header.exports ▷ one 0 (IsWord (codes "where")) header.opening
