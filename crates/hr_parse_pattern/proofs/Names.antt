-- Names and operators are spelled as their lexemes are taken.
use Rattle.std.proofs.Common.{◌≡◌, true, List, [], ◌∷◌, refl, sym, ap, ◌∙◌, subst, inl, inr}
use Rattle.hr_base.specs.declared.lexeme.Item.{Item}
use Rattle.hr_layout.specs.Standing.{Standing}
use Rattle.hr_tree.specs.declared.names.Constructor.{Constructor}
use Rattle.hr_tree.specs.declared.names.Operator.{Operator}
use Rattle.hr_tree.specs.declared.names.Variable.{Variable}
use Rattle.hr_tree.specs.Names.{constructor_items, operator_items, variable_items}
use Rattle.hr_grammar.specs.Words.{IsLeftParen, IsRightParen}
use Rattle.hr_grammar.specs.Spelled.{AreCommas, IsConstructor, IsConstructorOperator, IsOperator, IsVariable}
use Rattle.hr_parse_lexeme.specs.Names.{IsNameless}
use Rattle.hr_parse_lexeme.specs.Reads.{Takes, TakesAll, Spells}
use Rattle.hr_parse_lexeme.proofs.Phrases.{nothing_taken, taken, taken_more}

-- a name that equals one that is spelled
pub same_name : {T : Type 0} {Is : T → Type 0} {items_of : T → List Item} {found name : T} {a b : Standing} → found ≡ name → Spells Is items_of name a b → Spells Is items_of found a b
same_name {Is = Is} {items_of} {a = a} {b} e p = subst (λ t. Spells Is items_of t a b) (sym e) p

-- where nothing was taken behind it
pub name_stays : {T : Type 0} {Is : T → Type 0} {items_of : T → List Item} {name : T} {a b c : Standing} → c ≡ b → Spells Is items_of name a b → Spells Is items_of name a c
name_stays {Is = Is} {items_of} {name} {a = a} e p = subst (λ s. Spells Is items_of name a s) (sym e) p

-- one lexeme, and three of them
pub one_lexeme : {T : Type 0} {Is : T → Type 0} {items_of : T → List Item} {Of : Item → Type 0} {item : Item} {name : T} {a b : Standing} → items_of name ≡ item ∷ [] → Is name → Takes Of item a b
    → Spells Is items_of name a b
one_lexeme {item = item} {a = a} {b} e is p = record { is = is; taken = subst (λ l. TakesAll l a b) (sym e) (taken p (nothing_taken b)) }

pub two_lexemes : {T : Type 0} {Is : T → Type 0} {items_of : T → List Item} {First Second : Item → Type 0} {first second : Item} {name : T} {a b c : Standing} → items_of name ≡ first ∷ second ∷ []
    → Is name → Takes First first a b → Takes Second second b c → Spells Is items_of name a c
two_lexemes {a = a} {c = c} e is p q = record { is = is; taken = subst (λ l. TakesAll l a c) (sym e) (taken p (taken q (nothing_taken c))) }

pub three_lexemes : {T : Type 0} {Is : T → Type 0} {items_of : T → List Item} {First Second Third : Item → Type 0} {first second third : Item} {name : T} {a b c d : Standing}
    → items_of name ≡ first ∷ second ∷ third ∷ [] → Is name → Takes First first a b → Takes Second second b c → Takes Third third c d → Spells Is items_of name a d
three_lexemes {a = a} {d = d} e is p q r = record { is = is; taken = subst (λ l. TakesAll l a d) (sym e) (taken p (taken q (taken r (nothing_taken d)))) }

pub names_constructor : (named : Constructor) → IsNameless named → IsConstructor named
names_constructor (Constructor.Unit left right) h = h
names_constructor (Constructor.EmptyList left right) h = h
names_constructor (Constructor.Tuple left commas right) h = h
names_constructor (Constructor.Name name) h = elim h [ ]
names_constructor (Constructor.Symbol left symbol right) h = elim h [ ]

-- commas in parentheses
pub tuple_spelled : {left right : Item} {commas : List Item} {a b c d : Standing} → Takes IsLeftParen left a b → AreCommas commas → TakesAll commas b c → Takes IsRightParen right c d
    → Spells IsConstructor constructor_items (Constructor.Tuple left commas right) a d
tuple_spelled p are q r = record { is = (p.is, (are, r.is)); taken = taken p (taken_more q r) }
