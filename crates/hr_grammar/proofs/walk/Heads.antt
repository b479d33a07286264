-- What goes over from the parts of trees to the whole is true of the beginnings of declarations: heads of types,
-- constructors, left sides, and words of fixities.
use Rattle.std.proofs.Common.{◌≡◌, ◌+◌, ℕ, Bool, true, false, List, [], ◌∷◌, ◌++◌, length, refl, ap, ◌∙◌, subst, inl, inr, arith}
use Rattle.std.specs.List.{AllByRecursion, flat_map}
use Rattle.std.proofs.lemmas.List.{append_assoc}
use lib.Chars.{codes}
use Rattle.hr_base.specs.declared.lexeme.Class.{Class}
use Rattle.hr_base.specs.declared.lexeme.Item.{Item}
use Rattle.hr_rules.specs.Names.{is_one_of}
use Rattle.hr_tree.specs.declared.lists.Listed.{Listed}
use Rattle.hr_tree.specs.declared.declarations.TypeHead.{TypeHead}
use Rattle.hr_tree.specs.declared.declarations.Construction.{Construction}
use Rattle.hr_tree.specs.declared.declarations.LeftSide.{LeftSide}
use Rattle.hr_tree.specs.declared.declarations.LeftHead.{LeftHead}
use Rattle.hr_tree.specs.declared.declarations.Closed.{Closed}
use Rattle.hr_tree.specs.Names.{constructor_items, variable_items, operator_items}
use Rattle.hr_tree.specs.Lists.{listed_items}
use Rattle.hr_tree.specs.Yields.{ty_items, pat_items, type_head_items, construction_items, left_head_items, closed_items, left_side_items}
use Rattle.hr_grammar.specs.Words.{IsOf, IsBar, IsLeftParen}
use Rattle.hr_grammar.specs.Separated.{AreSeparated}
use Rattle.hr_grammar.specs.Nodes.{TyPlace, PatPlace}
use Rattle.hr_grammar.specs.Declarations.{IsConstructionOver, IsNewConstructionOver, IsLeftHeadOver, IsClosedOver, IsLeftSideOver, IsTypeHead, fixity_words}
use Rattle.hr_grammar.specs.Yields.{nodes}
use Rattle.hr_grammar.specs.LeftOut.{left_out}
use Rattle.hr_grammar.proofs.walk.Rules.{is_parting, InPatterns, InTypes}
use Rattle.hr_grammar.proofs.walk.Lists.{put, all_items, all_of, separated}
use Rattle.hr_grammar.proofs.Tables.{one_of}
use Rattle.hr_grammar.proofs.walk.Names.{patterns_in, of_class, of_text, own_constructor, own_operator, variable}
use Rattle.hr_grammar.proofs.walk.TypesAndPatterns.{types_keep, patterns_keep}

-- heads of types and constructors
pub type_head_keeps : {P : List Item → Type 0} → InPatterns P → (head : TypeHead) → IsTypeHead head → P (type_head_items head)
type_head_keeps h head is =
    put h.joins head.name head.variables (of_class h Class.ConId head.name is.0 refl)
    (all_items h.joins (IsOf Class.VarId) (λ item o. of_class h Class.VarId item o refl) head.variables is.1)

construction_keeps : {P : List Item → Type 0} → InTypes P → (levels : ℕ) (construction : Construction) → IsConstructionOver (nodes levels) construction → P (construction_items construction)
construction_keeps h levels (Construction.Prefix named types) is =
    h.joins.join (constructor_items named) (flat_map ty_items types) (own_constructor (patterns_in h) named is.0) (all_of h.joins ty_items ((nodes levels).ty TyPlace.Atomic) (types_keep h levels TyPlace.Atomic) types is.1)
construction_keeps h levels (Construction.Infix first sign second) is =
    h.joins.join (ty_items first) (operator_items sign ++ ty_items second) (types_keep h levels TyPlace.Applied first is.0)
    (h.joins.join (operator_items sign) (ty_items second) (own_operator (patterns_in h) sign (inr is.1.0)) (types_keep h levels TyPlace.Applied second is.1.1))
construction_keeps h levels (Construction.Fields named left fields right) is = elim is [ ]

pub constructions_keep : {P : List Item → Type 0} → InTypes P → (levels : ℕ) (list : List (Listed Construction)) → AreSeparated IsBar (IsConstructionOver (nodes levels)) list → P (flat_map (listed_items construction_items) list)
constructions_keep h levels list is =
    separated h.joins construction_items IsBar (IsConstructionOver (nodes levels)) (λ item b. of_text h Class.ReservedOp (codes "|") item b refl) (construction_keeps h levels) list is

pub new_construction_keeps : {P : List Item → Type 0} → InTypes P → (levels : ℕ) (construction : Construction) → IsNewConstructionOver (nodes levels) construction → P (construction_items construction)
new_construction_keeps h levels (Construction.Prefix named []) is = elim is [ ]
new_construction_keeps h levels (Construction.Prefix named (ty ∷ [])) is =
    h.joins.join (constructor_items named) (ty_items ty ++ []) (own_constructor (patterns_in h) named is.0) (h.joins.join (ty_items ty) [] (types_keep h levels TyPlace.Atomic ty is.1) h.joins.nothing)
new_construction_keeps h levels (Construction.Prefix named (ty ∷ (next ∷ types))) is = elim is [ ]
new_construction_keeps h levels (Construction.Infix first sign second) is = elim is [ ]
new_construction_keeps h levels (Construction.Fields named left fields right) is = elim is [ ]

-- left sides
left_head_keeps : {P : List Item → Type 0} → InPatterns P → (levels : ℕ) (head : LeftHead) → IsLeftHeadOver (nodes levels) head → P (left_head_items head)
left_head_keeps h levels (LeftHead.Prefix named patterns) is =
    h.joins.join (variable_items named) (flat_map pat_items patterns) (variable h named is.0) (all_of h.joins pat_items ((nodes levels).pat PatPlace.Atomic) (patterns_keep h levels PatPlace.Atomic) patterns is.1.1)
left_head_keeps h levels (LeftHead.Infix first sign second) is =
    h.joins.join (pat_items first) (operator_items sign ++ pat_items second) (patterns_keep h levels PatPlace.Whole first is.0)
    (h.joins.join (operator_items sign) (pat_items second) (own_operator h sign (inl is.1.0)) (patterns_keep h levels PatPlace.Whole second is.1.1))

-- items before others, the first of them next to the others
abbrev turned : List Item → List Item → List Item
turned [] ys = ys
turned (x ∷ xs) ys = turned xs (x ∷ ys)

turned_back : (xs ys zs : List Item) → turned (turned xs ys) zs ≡ turned ys (xs ++ zs)
turned_back [] ys zs = refl
turned_back (x ∷ xs) ys zs = turned_back xs (x ∷ ys) zs

turned_length : (xs ys : List Item) → length (turned xs ys) ≡ length xs + length ys
turned_length [] ys = omega arith
turned_length (x ∷ xs) ys = omega (arith, turned_length xs (x ∷ ys))

turned_all : (Is : Item → Type 0) (xs ys : List Item) → AllByRecursion Is xs → AllByRecursion Is ys → AllByRecursion Is (turned xs ys)
turned_all Is [] ys p q = q
turned_all Is (x ∷ xs) ys p q = turned_all Is xs (x ∷ ys) p.1 (p.0, q)

-- parentheses that close one by one what opened before, with patterns behind each
closes_keep : {P : List Item → Type 0} → InPatterns P → (levels : ℕ) (opens inner : List Item) (closes : List Closed) → AllByRecursion IsLeftParen opens → P inner
    → AllByRecursion (IsClosedOver (nodes levels)) closes → length opens ≡ length closes → P (turned opens (inner ++ flat_map closed_items closes))
closes_keep h levels [] inner [] o p c e = h.joins.join inner [] p h.joins.nothing
closes_keep h levels [] inner (closed ∷ closes) o p c e = let no : ⊥ = omega (arith, e) in elim no [ ]
closes_keep h levels (open_one ∷ opens) inner [] o p c e = let no : ⊥ = omega (arith, e) in elim no [ ]
closes_keep {P} h levels (left ∷ opens) inner (closed ∷ closes) o p c e =
    subst (λ l. P (turned opens l))
    (append_assoc (left ∷ (inner ++ closed.right ∷ [])) (flat_map pat_items closed.patterns) (flat_map closed_items closes)
    ∙ ap (λ l. left ∷ l) (append_assoc inner (closed.right ∷ []) (flat_map pat_items closed.patterns ++ flat_map closed_items closes)))
    (closes_keep h levels opens ((left ∷ (inner ++ closed.right ∷ [])) ++ flat_map pat_items closed.patterns) closes o.1
    (h.joins.join (left ∷ (inner ++ closed.right ∷ [])) (flat_map pat_items closed.patterns) (h.parens left closed.right inner o.0 c.0.0 p)
    (all_of h.joins pat_items ((nodes levels).pat PatPlace.Atomic) (patterns_keep h levels PatPlace.Atomic) closed.patterns c.0.1.1))
    c.1 (omega (arith, e)))

pub left_side_keeps : {P : List Item → Type 0} → InPatterns P → (levels : ℕ) (left : LeftSide) → IsLeftSideOver (nodes levels) left → P (left_side_items left)
left_side_keeps {P} h levels left is =
    subst P (turned_back left.opens [] (left_head_items left.head ++ flat_map closed_items left.closes))
    (closes_keep h levels (turned left.opens []) (left_head_items left.head) left.closes (turned_all IsLeftParen left.opens [] is.0 tt) (left_head_keeps h levels left.head is.1.0) is.1.1.0
    (let e : length (turned left.opens []) ≡ length left.closes = omega (arith, turned_length left.opens [], is.1.1.1) in e))

-- a word of a fixity
fixity_word : (test : Class → List ℕ → Bool) (word : Item) → AllByRecursion (λ text. test Class.ReservedId text ≡ false) fixity_words
    → IsOf Class.ReservedId word → is_one_of fixity_words word.lexeme.text ≡ true → test word.lexeme.class word.lexeme.text ≡ false
fixity_word test word all is one = ap (λ c. test c word.lexeme.text) is ∙ one_of (test Class.ReservedId) false fixity_words word.lexeme.text all one

pub fixity_keeps : {P : List Item → Type 0} → InPatterns P → (word : Item) → IsOf Class.ReservedId word → is_one_of fixity_words word.lexeme.text ≡ true → P (word ∷ [])
fixity_keeps h word is one = h.plain word (fixity_word is_parting word (refl, (refl, (refl, tt))) is one) (fixity_word left_out word (refl, (refl, (refl, tt))) is one)
