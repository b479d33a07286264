-- The imports and headers that are found are those that are read.
use Rattle.std.proofs.Common.{ℕ, List, Option, refl}
use lib.Chars.{codes}
use Rattle.hr_base.specs.declared.lexeme.Class.{Class}
use Rattle.hr_base.specs.declared.lexeme.Item.{Item}
use Rattle.hr_rules.specs.declared.block.Placed.{Placed}
use Rattle.hr_tree.specs.declared.lists.Listed.{Listed}
use Rattle.hr_tree.specs.declared.modules.Export.{Export}
use Rattle.hr_tree.specs.declared.modules.Member.{Member}
use Rattle.hr_tree.specs.declared.modules.Members.{Members}
use Rattle.hr_tree.specs.declared.modules.Imported.{Imported}
use Rattle.hr_grammar.specs.Spelled.{IsVariable, IsNamedVariable, IsOwnConstructor}
use Rattle.hr_grammar.specs.Words.{IsOf, IsWord, IsComma, IsDots, IsLeftParen, IsRightParen}
use Rattle.hr_grammar.specs.Imports.{IsTypeName}
use Rattle.hr_grammar_cases.specs.Readings.{Reading}
use Rattle.hr_grammar_cases.specs.Readings as reading
use Rattle.hr_grammar_cases.specs.Imports.{member_reading, members_reading, name_list_reading, export_reading, imported_reading, alias_reading, import_names_reading, import_reading, header_reading}
use Rattle.hr_grammar_finder_laws.specs.Ways.{Among, Way, Finder}
use Rattle.hr_grammar_finder_laws.specs.Names.{own_constructors}
use Rattle.hr_grammar_finder_laws.specs.Imports.{member, member_ways, members, names_of, name_list, export_ways, exports, imported_ways, imported, alias_of, aliases, import_names_of, import_names, import_of, imports, header_of, headers}
use Rattle.hr_grammar_finder_laws.proofs.Ways.{Matches, Production, is_sound, made_sound, made_found, any_sound, chosen, produced, sound_production, made_matches, one_matches, then_matches, maybe_matches}
use Rattle.hr_grammar_finder_laws.proofs.Tests.{tests_of, tests_word, tests_import_word, tests_reserved, tests_special, tests_two}
use Rattle.hr_grammar_finder_laws.proofs.Lists.{Shrinks, separated_matches}
use Rattle.hr_grammar_finder_laws.proofs.Takes.{some, first_takes, both_stay, one_takes, maybe_stays, separated_stays}
use Rattle.hr_grammar_finder_laws.proofs.Names.{one_shrinks, variable_shrinks, constructor_shrinks, variables_match, named_variables_match, own_constructors_match}

-- members
member_complete : (n : ℕ) (x : Member) (ts us : List Placed) → member_reading n x ts us → Among {T = Way Member} (x, us) (member n ts)
member_complete n (Member.Constructor constructor) ts us r =
    made_found Member.Constructor (own_constructors n) constructor ts us ((own_constructors_match n).complete constructor ts us r)
member_complete n (Member.Field variable) ts us r = elim r [ ]

member_matches : (n : ℕ) → Matches (member_reading n) (member n)
member_matches n = record { sound = (made_sound {R = member_reading n} Member.Constructor (is_sound (own_constructors_match n))).sound; complete = member_complete n }

member_shrinks : (n : ℕ) → Shrinks (member_reading n)
member_shrinks n (Member.Constructor constructor) ts us r = constructor_shrinks n IsOwnConstructor constructor ts us r
member_shrinks n (Member.Field variable) ts us r = elim r [ ]

abbrev all_of : Item × (Item × Item) → Members
all_of p = Members.All p.0 p.1.0 p.1.1

abbrev named_of : Item × (List (Listed Member) × Item) → Members
named_of p = Members.Named p.0 p.1.0 p.1.1

abbrev all_members : (n : ℕ) → Production (members_reading n) all_of
all_members n = (_, then_matches (one_matches n (tests_special (codes "("))) (then_matches (one_matches n (tests_reserved (codes ".."))) (one_matches n (tests_special (codes ")")))))

abbrev named_members : (n : ℕ) → Production (members_reading n) named_of
named_members n = (
  _,
  then_matches (one_matches n (tests_special (codes "(")))
      (then_matches (separated_matches (one_matches n (tests_special (codes ","))) (member_matches n) (one_shrinks n IsComma) (member_shrinks n))
      (one_matches n (tests_special (codes ")")))),
)

members_complete : (n : ℕ) (x : Members) (ts us : List Placed) → members_reading n x ts us → Among {T = Way Members} (x, us) (members n ts)
members_complete n (Members.All left dots right) ts us r = chosen (member_ways n) 0 _ ts us (produced (members_reading n) all_of (all_members n) (left, (dots, right)) ts us r)
members_complete n (Members.Named left list right) ts us r = chosen (member_ways n) 1 _ ts us (produced (members_reading n) named_of (named_members n) (left, (list, right)) ts us r)

members_match : (n : ℕ) → Matches (members_reading n) (members n)
members_match n = record {
  sound = (any_sound {R = members_reading n} (member_ways n) (sound_production all_of (all_members n), (sound_production named_of (named_members n), tt))).sound;
  complete = members_complete n;
}

-- names in parentheses
name_list_match : {T : Type 0} (n : ℕ) {R : T → Reading} {f : Finder T} → Matches R f → Shrinks R → Matches (name_list_reading n R) (name_list n f)
name_list_match n {R} {f} m less =
    made_matches names_of (λ names. (names.left, (names.list, (names.last_comma, names.right)))) (λ names. refl)
    (then_matches (one_matches n (tests_special (codes "(")))
    (then_matches (separated_matches (one_matches n (tests_special (codes ","))) m (one_shrinks n IsComma) less)
    (then_matches (maybe_matches (one_matches n (tests_special (codes ",")))) (one_matches n (tests_special (codes ")"))))))

-- exports
abbrev type_of : Item × Option Members → Export
type_of p = Export.Type p.0 p.1

abbrev module_of : Item × Item → Export
module_of p = Export.Module p.0 p.1

abbrev variable_export : (n : ℕ) → Production (export_reading n) Export.Variable
variable_export n = (_, named_variables_match n)

abbrev type_export : (n : ℕ) → Production (export_reading n) type_of
type_export n = (_, then_matches (one_matches n (tests_two Class.ConId Class.QConId)) (maybe_matches (members_match n)))

abbrev module_export : (n : ℕ) → Production (export_reading n) module_of
module_export n = (_, then_matches (one_matches n (tests_word (codes "module"))) (one_matches n (tests_of Class.ConId)))

exports_complete : (n : ℕ) (x : Export) (ts us : List Placed) → export_reading n x ts us → Among {T = Way Export} (x, us) (exports n ts)
exports_complete n (Export.Variable variable) ts us r = chosen (export_ways n) 0 _ ts us (produced (export_reading n) Export.Variable (variable_export n) variable ts us r)
exports_complete n (Export.Type name members) ts us r = chosen (export_ways n) 1 _ ts us (produced (export_reading n) type_of (type_export n) (name, members) ts us r)
exports_complete n (Export.Module word name) ts us r = chosen (export_ways n) 2 _ ts us (produced (export_reading n) module_of (module_export n) (word, name) ts us r)

exports_match : (n : ℕ) → Matches (export_reading n) (exports n)
exports_match n = record {
  sound = (any_sound {R = export_reading n} (export_ways n)
      (sound_production Export.Variable (variable_export n), (sound_production type_of (type_export n), (sound_production module_of (module_export n), tt)))).sound;
  complete = exports_complete n;
}

members_shrink : (n : ℕ) → Shrinks (members_reading n)
members_shrink n (Members.All left dots right) =
    (first_takes (one_takes n IsLeftParen left) (both_stay (some (one_takes n IsDots dots)) (some (one_takes n IsRightParen right)))).fewer
members_shrink n (Members.Named left list right) =
    (first_takes (one_takes n IsLeftParen left)
    (both_stay (separated_stays (reading.one n IsComma) (member_reading n) (one_shrinks n IsComma) (member_shrinks n) list) (some (one_takes n IsRightParen right)))).fewer

exports_shrink : (n : ℕ) → Shrinks (export_reading n)
exports_shrink n (Export.Variable variable) = variable_shrinks n IsNamedVariable variable
exports_shrink n (Export.Type name members) = (first_takes (one_takes n IsTypeName name) (maybe_stays (members_reading n) (members_shrink n) members)).fewer
exports_shrink n (Export.Module word name) = (first_takes (one_takes n (IsWord (codes "module")) word) (some (one_takes n (IsOf Class.ConId) name))).fewer

-- imports
abbrev imported_type_of : Item × Option Members → Imported
imported_type_of p = Imported.Type p.0 p.1

abbrev variable_imported : (n : ℕ) → Production (imported_reading n) Imported.Variable
variable_imported n = (_, variables_match n)

abbrev type_imported : (n : ℕ) → Production (imported_reading n) imported_type_of
type_imported n = (_, then_matches (one_matches n (tests_of Class.ConId)) (maybe_matches (members_match n)))

imported_complete : (n : ℕ) (x : Imported) (ts us : List Placed) → imported_reading n x ts us → Among {T = Way Imported} (x, us) (imported n ts)
imported_complete n (Imported.Variable variable) ts us r = chosen (imported_ways n) 0 _ ts us (produced (imported_reading n) Imported.Variable (variable_imported n) variable ts us r)
imported_complete n (Imported.Type name members) ts us r = chosen (imported_ways n) 1 _ ts us (produced (imported_reading n) imported_type_of (type_imported n) (name, members) ts us r)

imported_match : (n : ℕ) → Matches (imported_reading n) (imported n)
imported_match n = record {
  sound = (any_sound {R = imported_reading n} (imported_ways n) (sound_production Imported.Variable (variable_imported n), (sound_production imported_type_of (type_imported n), tt))).sound;
  complete = imported_complete n;
}

imported_shrink : (n : ℕ) → Shrinks (imported_reading n)
imported_shrink n (Imported.Variable variable) = variable_shrinks n IsVariable variable
imported_shrink n (Imported.Type name members) = (first_takes (one_takes n (IsOf Class.ConId) name) (maybe_stays (members_reading n) (members_shrink n) members)).fewer

aliases_match : (n : ℕ) → Matches (alias_reading n) (aliases n)
aliases_match n =
    made_matches alias_of (λ alias. (alias.word, alias.name)) (λ alias. refl) (then_matches (one_matches n (tests_import_word (codes "as"))) (one_matches n (tests_of Class.ConId)))

import_names_match : (n : ℕ) → Matches (import_names_reading n) (import_names n)
import_names_match n =
    made_matches import_names_of (λ names. (names.hiding, names.list)) (λ names. refl)
    (then_matches (maybe_matches (one_matches n (tests_import_word (codes "hiding")))) (name_list_match n (imported_match n) (imported_shrink n)))

pub imports_match : (n : ℕ) → Matches (import_reading n) (imports n)
imports_match n =
    made_matches import_of (λ import. (import.word, (import.qualified, (import.«module», (import.alias, import.names))))) (λ import. refl)
    (then_matches (one_matches n (tests_word (codes "import")))
    (then_matches (maybe_matches (one_matches n (tests_import_word (codes "qualified"))))
    (then_matches (one_matches n (tests_of Class.ConId)) (then_matches (maybe_matches (aliases_match n)) (maybe_matches (import_names_match n))))))

pub headers_match : Matches header_reading headers
headers_match =
    made_matches header_of (λ header. (header.word, (header.name, (header.exports, header.opening)))) (λ header. refl)
    (then_matches (one_matches 0 (tests_word (codes "module")))
    (then_matches (one_matches 0 (tests_of Class.ConId))
    (then_matches (maybe_matches (name_list_match 0 (exports_match 0) (exports_shrink 0))) (one_matches 0 (tests_word (codes "where"))))))
