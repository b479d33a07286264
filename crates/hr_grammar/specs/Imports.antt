-- Export lists and imports: the Haskell 98 Report, sections 5.2 and 5.3.
use Rattle.std.specs.Prelude.{◌⊎◌, Option, Some, None}
use lib.Chars.{codes}
use Rattle.hr_base.specs.declared.lexeme.Class.{Class}
use Rattle.hr_base.specs.declared.lexeme.Item.{Item}
use Rattle.hr_tree.specs.declared.modules.NameList.{NameList}
use Rattle.hr_tree.specs.declared.modules.Export.{Export}
use Rattle.hr_tree.specs.declared.modules.Member.{Member}
use Rattle.hr_tree.specs.declared.modules.Members.{Members}
use Rattle.hr_tree.specs.declared.modules.Import.{Import}
use Rattle.hr_tree.specs.declared.modules.Alias.{Alias}
use Rattle.hr_tree.specs.declared.modules.ImportNames.{ImportNames}
use Rattle.hr_tree.specs.declared.modules.Imported.{Imported}
use Rattle.hr_grammar.specs.Words.{IsOf, IsWord, IsImportWord, IsLeftParen, IsRightParen, IsComma, IsDots}
use Rattle.hr_grammar.specs.Spelled.{Maybe, IsVariable, IsNamedVariable, IsOwnConstructor}
use Rattle.hr_grammar.specs.Separated.{AreSeparated}

-- a constructor alone: labelled fields are not of the grammar yet, so no tree has one as a member
abbrev pub IsMember : Member → Type 0
IsMember (Member.Constructor constructor) = IsOwnConstructor constructor
IsMember (Member.Field variable) = ⊥

-- the constructors that are named with a type: all of them, or some, also none
abbrev pub AreTypeMembers : Option Members → Type 0
AreTypeMembers None = Unit {0}
AreTypeMembers (Some (Members.All left dots right)) = IsLeftParen left × (IsDots dots × IsRightParen right)
AreTypeMembers (Some (Members.Named left list right)) = IsLeftParen left × (AreSeparated IsComma IsMember list × IsRightParen right)

-- names in parentheses: none or more, and then perhaps a comma
abbrev pub IsNameList : {T : Type 0} → (T → Type 0) → NameList T → Type 0
IsNameList Is names = IsLeftParen names.left × (AreSeparated IsComma Is names.list × (Maybe IsComma names.last_comma × IsRightParen names.right))

-- a type's name, qualified or not
abbrev pub IsTypeName : Item → Type 0
IsTypeName item = IsOf Class.ConId item ⊎ IsOf Class.QConId item

abbrev pub IsExport : Export → Type 0
IsExport (Export.Variable variable) = IsNamedVariable variable
IsExport (Export.Type name members) = IsTypeName name × AreTypeMembers members
IsExport (Export.Module word name) = IsWord (codes "module") word × IsOf Class.ConId name

abbrev pub AreExports : Option (NameList Export) → Type 0
AreExports None = Unit {0}
AreExports (Some names) = IsNameList IsExport names

abbrev pub IsImported : Imported → Type 0
IsImported (Imported.Variable variable) = IsVariable variable
IsImported (Imported.Type name members) = IsOf Class.ConId name × AreTypeMembers members

abbrev pub IsAlias : Option Alias → Type 0
IsAlias None = Unit {0}
IsAlias (Some alias) = IsImportWord (codes "as") alias.word × IsOf Class.ConId alias.name

abbrev pub AreImportNames : Option ImportNames → Type 0
AreImportNames None = Unit {0}
AreImportNames (Some names) = Maybe (IsImportWord (codes "hiding")) names.hiding × IsNameList IsImported names.list

abbrev pub IsImport : Import → Type 0
IsImport import =
    IsWord (codes "import") import.word × (Maybe (IsImportWord (codes "qualified")) import.qualified
    × (IsOf Class.ConId import.«module» × (IsAlias import.alias × AreImportNames import.names)))
