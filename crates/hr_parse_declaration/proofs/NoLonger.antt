-- What is read of names leaves no more lexemes than there were.
use Rattle.std.proofs.Common.{◌≡◌, ℕ, suc, ◌<◌, ◌≤◌, List, [], ◌∷◌, length, Option, Some, None, ap, subst, sym, arith}
use lib.Chars.{codes}
use Rattle.hr_base.specs.declared.lexeme.Class.{Class}
use Rattle.hr_base.specs.declared.lexeme.Item.{Item}
use Rattle.hr_rules.specs.declared.block.Placed.{Placed}
use Rattle.hr_rules.specs.Blocks.{enclosing}
use Rattle.hr_layout.specs.Standing.{Standing}
use Rattle.hr_tree.specs.declared.lists.Listed.{Listed}
use Rattle.hr_tree.specs.declared.declarations.Construction.{Construction}
use Rattle.hr_tree.specs.declared.modules.Member.{Member}
use Rattle.hr_tree.specs.declared.modules.Members.{Members}
use Rattle.hr_tree.specs.declared.modules.Export.{Export}
use Rattle.hr_tree.specs.declared.modules.Imported.{Imported}
use Rattle.hr_tree.specs.declared.types.Ty.{Ty}
use Rattle.hr_tree.specs.Names.{variable_items, constructor_items, operator_items}
use Rattle.hr_grammar.specs.Words.{IsOf, IsWord, IsLeftParen, IsRightParen, IsComma, IsDots}
use Rattle.hr_grammar.specs.Spelled.{IsVariable, IsNamedVariable, IsOwnConstructor, IsOwnConstructorOperator}
use Rattle.hr_grammar.specs.Imports.{IsTypeName}
use Rattle.hr_grammar.specs.Nodes.{TyPlace}
use Rattle.hr_grammar_cases.specs.Readings.{Reading, ◌▷◌, one, takes, take_all, spelled, maybe, there, in_turn, separated}
use Rattle.hr_grammar_cases.specs.Imports.{member_reading, members_reading, export_reading, imported_reading}
use Rattle.hr_grammar_cases.specs.Declarations.{construction_reading}
use Rattle.hr_grammar_cases.specs.Modules.{derivations}
use Rattle.hr_grammar_cases.proofs.Shrinks.{readings_shrink_lem}
use Rattle.hr_parse_lexeme.specs.Reads.{Consumes, Takes, Spells}
use Rattle.hr_parse_declaration.specs.Lists.{ReadsPhrase}

abbrev NoLonger : Reading → Type 0
NoLonger reading = (ts us : List Placed) → reading ts us → length us ≤ length ts

through : (a b c : ℕ) → b ≤ a → c ≤ b → c ≤ a
through a b c p q = omega arith

fewer : (a b : ℕ) → a < b → a ≤ b
fewer a b p = omega arith

then_no : {r s : Reading} → NoLonger r → NoLonger s → NoLonger (r ▷ s)
then_no p q ts us h = through (length ts) (length h.0) (length us) (p ts h.0 h.1) (q h.0 us h.2)

equal_no : (ts us : List Placed) → us ≡ ts → length us ≤ length ts
equal_no ts us e = omega (arith, ap length e)

behind_no : (next : Placed) (ts us : List Placed) → us ≡ ts → length us ≤ length (next ∷ ts)
behind_no next ts us e = omega (arith, ap length e)

takes_no : (n : ℕ) (item : Item) → NoLonger (takes n item)
takes_no n item [] us h = elim h [ ]
takes_no n item (next ∷ ts) us h = behind_no next ts us h.2

one_no : (n : ℕ) (Is : Item → Type 0) (item : Item) → NoLonger (one n Is item)
one_no n Is item ts us h = takes_no n item ts us h.1

all_no : (n : ℕ) (items : List Item) → NoLonger (take_all n items)
all_no n [] ts us e = equal_no ts us e
all_no n (item ∷ items) ts us h = then_no (takes_no n item) (all_no n items) ts us h

spelled_no : {T : Type 0} (n : ℕ) (Is : T → Type 0) (items_of : T → List Item) (x : T) → NoLonger (spelled n Is items_of x)
spelled_no n Is items_of x ts us h = all_no n (items_of x) ts us h.1

there_no : (n : ℕ) (Is : Item → Type 0) (item : Option Item) → NoLonger (there (one n Is) item)
there_no n Is None ts us h = elim h [ ]
there_no n Is (Some item) ts us h = one_no n Is item ts us h

separated_no : {T : Type 0} (n : ℕ) (Is : Item → Type 0) (of : T → Reading) → ((x : T) → NoLonger (of x)) → (list : List (Listed T)) → NoLonger (separated (one n Is) of list)
separated_no n Is of each [] ts us e = equal_no ts us e
separated_no n Is of each (listed ∷ []) ts us h = each listed.part ts us h.1
separated_no n Is of each (listed ∷ (next ∷ rest)) ts us h =
    then_no (each listed.part) (then_no (there_no n Is listed.separator) (separated_no n Is of each (next ∷ rest))) ts us h

member_no : (n : ℕ) (member : Member) → NoLonger (member_reading n member)
member_no n (Member.Constructor constructor) ts us h = spelled_no n IsOwnConstructor constructor_items constructor ts us h
member_no n (Member.Field variable) ts us h = elim h [ ]

members_no : (n : ℕ) (members : Option Members) → NoLonger (maybe (members_reading n) members)
members_no n None ts us e = equal_no ts us e
members_no n (Some (Members.All left dots right)) ts us h = then_no (one_no n IsLeftParen left) (then_no (one_no n IsDots dots) (one_no n IsRightParen right)) ts us h
members_no n (Some (Members.Named left list right)) ts us h =
    then_no (one_no n IsLeftParen left) (then_no (separated_no n IsComma (member_reading n) (member_no n) list) (one_no n IsRightParen right)) ts us h

imported_no : (n : ℕ) (part : Imported) → NoLonger (imported_reading n part)
imported_no n (Imported.Variable variable) ts us h = spelled_no n IsVariable variable_items variable ts us h
imported_no n (Imported.Type name members) ts us h = then_no (one_no n (IsOf Class.ConId) name) (members_no n members) ts us h

export_no : (n : ℕ) (part : Export) → NoLonger (export_reading n part)
export_no n (Export.Variable variable) ts us h = spelled_no n IsNamedVariable variable_items variable ts us h
export_no n (Export.Type name members) ts us h = then_no (one_no n IsTypeName name) (members_no n members) ts us h
export_no n (Export.Module word name) ts us h = then_no (one_no n (IsWord (codes "module")) word) (one_no n (IsOf Class.ConId) name) ts us h

takes_fewer : (n : ℕ) (item : Item) (ts us : List Placed) → takes n item ts us → length us < length ts
takes_fewer n item [] us h = elim h [ ]
takes_fewer n item (next ∷ ts) us h = omega (arith, ap length h.2)

-- a lexeme that is taken
pub shrinks : {Is : Item → Type 0} {item : Item} {a b : Standing} → Takes Is item a b → length b.rest < length a.rest
shrinks {item = item} {a} {b} p = takes_fewer _ item a.rest b.rest (p.taken.read 0 (omega arith))

both : (a b c : ℕ) → b < a → c ≤ b → c < a
both a b c p q = omega arith

-- a lexeme, and then a name or a part
pub shrinks_name : {Is : Item → Type 0} {item : Item} {T : Type 0} {Named : T → Type 0} {items_of : T → List Item} {x : T} {a b c : Standing}
    → Takes Is item a b → Spells Named items_of x b c → length c.rest < length a.rest
shrinks_name {items_of = items_of} {x} {a} {b} {c} p q =
    both (length a.rest) (length b.rest) (length c.rest) (shrinks p) (all_no _ (items_of x) b.rest c.rest (q.taken.taken.read 0 (omega arith)))

pub shrinks_member : {Is : Item → Type 0} {item : Item} (x : Member) {a b c : Standing} → Takes Is item a b → ReadsPhrase (λ n. member_reading n x) b c → length c.rest < length a.rest
shrinks_member x {a} {b} {c} p q = both (length a.rest) (length b.rest) (length c.rest) (shrinks p) (member_no _ x b.rest c.rest (q.read 0 (omega arith)))

pub shrinks_imported : {Is : Item → Type 0} {item : Item} (x : Imported) {a b c : Standing} → Takes Is item a b → ReadsPhrase (λ n. imported_reading n x) b c → length c.rest < length a.rest
shrinks_imported x {a} {b} {c} p q = both (length a.rest) (length b.rest) (length c.rest) (shrinks p) (imported_no _ x b.rest c.rest (q.read 0 (omega arith)))

pub shrinks_export : {Is : Item → Type 0} {item : Item} (x : Export) {a b c : Standing} → Takes Is item a b → ReadsPhrase (λ n. export_reading n x) b c → length c.rest < length a.rest
shrinks_export x {a} {b} {c} p q = both (length a.rest) (length b.rest) (length c.rest) (shrinks p) (export_no _ x b.rest c.rest (q.read 0 (omega arith)))

-- a constructor with its types
ty_no : (levels n : ℕ) (place : TyPlace) (ty : Ty) → NoLonger ((derivations levels).ty n place ty)
ty_no levels n place ty ts us h = fewer (length us) (length ts) (readings_shrink_lem.types levels n place ty ts us h)

each_no : (levels n : ℕ) (types : List Ty) → NoLonger (in_turn ((derivations levels).ty n TyPlace.Atomic) types)
each_no levels n [] ts us e = equal_no ts us e
each_no levels n (ty ∷ types) ts us h = then_no (ty_no levels n TyPlace.Atomic ty) (each_no levels n types) ts us h

construction_no : (levels n : ℕ) (part : Construction) → NoLonger (construction_reading (derivations levels) n part)
construction_no levels n (Construction.Prefix constructor types) ts us h = then_no (spelled_no n IsOwnConstructor constructor_items constructor) (each_no levels n types) ts us h
construction_no levels n (Construction.Infix first operator second) ts us h =
    then_no (ty_no levels n TyPlace.Applied first) (then_no (spelled_no n IsOwnConstructorOperator operator_items operator) (ty_no levels n TyPlace.Applied second)) ts us h
construction_no levels n (Construction.Fields constructor left fields right) ts us h = elim h [ ]

pub shrinks_construction : {Is : Item → Type 0} {item : Item} (x : Construction) {h : ℕ} {a b c : Standing} → Takes Is item a b
    → Consumes h (λ below n. construction_reading below n x) b c → length c.rest < length a.rest
shrinks_construction x {h} {a} {b} {c} p q =
    both (length a.rest) (length b.rest) (length c.rest) (shrinks p) (construction_no h _ x b.rest c.rest (q.read h (omega arith)))
