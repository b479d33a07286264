-- The ways to begin with an import, and with a module's header.
use Rattle.std.specs.Prelude.{ℕ, List, Option, [], ◌∷◌}
use lib.Chars.{codes}
use Rattle.hr_base.specs.declared.lexeme.Class.{Class}
use Rattle.hr_base.specs.declared.lexeme.Item.{Item}
use Rattle.hr_tree.specs.declared.lists.Listed.{Listed}
use Rattle.hr_tree.specs.declared.modules.NameList.{NameList}
use Rattle.hr_tree.specs.declared.modules.Export.{Export}
use Rattle.hr_tree.specs.declared.modules.Member.{Member}
use Rattle.hr_tree.specs.declared.modules.Members.{Members}
use Rattle.hr_tree.specs.declared.modules.Import.{Import}
use Rattle.hr_tree.specs.declared.modules.Alias.{Alias}
use Rattle.hr_tree.specs.declared.modules.ImportNames.{ImportNames}
use Rattle.hr_tree.specs.declared.modules.Imported.{Imported}
use Rattle.hr_tree.specs.declared.modules.Header.{Header}
use Rattle.hr_grammar_finder_laws.specs.Ways.{Finder, any_of, made_by, ◌▶◌, one, maybe, separated}
use Rattle.hr_grammar_finder_laws.specs.Tests.{is_of, is_word, is_import_word, is_special, is_reserved, is_either}
use Rattle.hr_grammar_finder_laws.specs.Names.{variables, named_variables, own_constructors}

-- a constructor alone
abbrev pub member : ℕ → Finder Member
member n = made_by Member.Constructor (own_constructors n)

-- the constructors that are named with a type
abbrev pub member_ways : ℕ → List (Finder Members)
member_ways n =
    made_by (λ p. Members.All p.0 p.1.0 p.1.1) (one n (is_special (codes "(")) ▶ one n (is_reserved (codes "..")) ▶ one n (is_special (codes ")")))
    ∷ made_by (λ p. Members.Named p.0 p.1.0 p.1.1)
    (one n (is_special (codes "(")) ▶ separated (one n (is_special (codes ","))) (member n) ▶ one n (is_special (codes ")")))
    ∷ []

abbrev pub members : ℕ → Finder Members
members n = any_of (member_ways n)

abbrev pub names_of : {T : Type 0} → Item × (List (Listed T) × (Option Item × Item)) → NameList T
names_of p = record { left = p.0; list = p.1.0; last_comma = p.1.1.0; right = p.1.1.1 }

-- names in parentheses
abbrev pub name_list : {T : Type 0} → ℕ → Finder T → Finder (NameList T)
name_list n of =
    made_by names_of
    (one n (is_special (codes "(")) ▶ separated (one n (is_special (codes ","))) of ▶ maybe (one n (is_special (codes ","))) ▶ one n (is_special (codes ")")))

abbrev pub export_ways : ℕ → List (Finder Export)
export_ways n =
    made_by Export.Variable (named_variables n)
    ∷ made_by (λ p. Export.Type p.0 p.1) (one n (is_either Class.ConId Class.QConId) ▶ maybe (members n))
    ∷ made_by (λ p. Export.Module p.0 p.1) (one n (is_word (codes "module")) ▶ one n (is_of Class.ConId))
    ∷ []

abbrev pub exports : ℕ → Finder Export
exports n = any_of (export_ways n)

abbrev pub imported_ways : ℕ → List (Finder Imported)
imported_ways n =
    made_by Imported.Variable (variables n)
    ∷ made_by (λ p. Imported.Type p.0 p.1) (one n (is_of Class.ConId) ▶ maybe (members n))
    ∷ []

abbrev pub imported : ℕ → Finder Imported
imported n = any_of (imported_ways n)

abbrev pub alias_of : Item × Item → Alias
alias_of p = record { word = p.0; name = p.1 }

abbrev pub aliases : ℕ → Finder Alias
aliases n = made_by alias_of (one n (is_import_word (codes "as")) ▶ one n (is_of Class.ConId))

abbrev pub import_names_of : Option Item × NameList Imported → ImportNames
import_names_of p = record { hiding = p.0; list = p.1 }

abbrev pub import_names : ℕ → Finder ImportNames
import_names n = made_by import_names_of (maybe (one n (is_import_word (codes "hiding"))) ▶ name_list n (imported n))

abbrev pub import_of : Item × (Option Item × (Item × (Option Alias × Option ImportNames))) → Import
import_of p = record { word = p.0; qualified = p.1.0; «module» = p.1.1.0; alias = p.1.1.1.0; names = p.1.1.1.1 }

abbrev pub imports : ℕ → Finder Import
imports n =
    made_by import_of
    (one n (is_word (codes "import")) ▶ maybe (one n (is_import_word (codes "qualified"))) ▶ one n (is_of Class.ConId) ▶ maybe (aliases n) ▶ maybe (import_names n))

abbrev pub header_of : Item × (Item × (Option (NameList Export) × Item)) → Header
header_of p = record { word = p.0; name = p.1.0; exports = p.1.1.0; opening = p.1.1.1 }

abbrev pub headers : Finder Header
headers = made_by header_of (one 0 (is_word (codes "module")) ▶ one 0 (is_of Class.ConId) ▶ maybe (name_list 0 (exports 0)) ▶ one 0 (is_word (codes "where")))
