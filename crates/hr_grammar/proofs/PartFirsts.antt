-- Which lexemes declarations and alternatives begin with.
use Rattle.std.proofs.Common.{◌≡◌, ◌≢◌, ℕ, zero, suc, true, List, [], ◌∷◌, ◌++◌, refl, sym, ap, ◌∙◌, subst}
use Rattle.std.specs.List.{flat_map}
use lib.Chars.{codes}
use Rattle.hr_base.specs.declared.lexeme.Class.{Class}
use Rattle.hr_base.specs.declared.lexeme.Item.{Item}
use Rattle.hr_rules.specs.declared.role.Role.{Role}
use Rattle.hr_rules.specs.declared.block.BlockKind.{BlockKind}
use Rattle.hr_rules.specs.Names.{is_one_of}
use Rattle.hr_rules.specs.Roles.{role_by, role_of}
use Rattle.hr_tree.specs.declared.names.Variable.{Variable}
use Rattle.hr_tree.specs.declared.lists.Listed.{Listed}
use Rattle.hr_tree.specs.declared.declarations.LeftHead.{LeftHead}
use Rattle.hr_tree.specs.declared.declarations.Closed.{Closed}
use Rattle.hr_tree.specs.declared.expressions.Exp.{Exp}
use Rattle.hr_tree.specs.declared.expressions.Decl.{Decl, out-Decl}
use Rattle.hr_tree.specs.declared.expressions.Alt.{Alt, out-Alt}
use Rattle.hr_tree.specs.declared.expressions.Qualifier.{Qualifier}
use Rattle.hr_tree.specs.declared.expressions.Decl.TheOpen.{Decl-F}
use Rattle.hr_tree.specs.Names.{variable_items, maybe_item}
use Rattle.hr_tree.specs.Lists.{listed_items}
use Rattle.hr_tree.specs.Yields.{pat_items, left_head_items, left_side_items}
use Rattle.hr_grammar.specs.Words.{IsComma}
use Rattle.hr_grammar.specs.Spelled.{IsVariable}
use Rattle.hr_grammar.specs.Separated.{AreSeparated}
use Rattle.hr_grammar.specs.Nodes.{PatPlace, DeclPlace}
use Rattle.hr_grammar.specs.Declarations.{DeclProduction, fixity_words, takes_import, takes_top, IsLeftHeadOver, IsLeftSideOver}
use Rattle.hr_grammar.specs.Yields.{nodes}
use Rattle.hr_grammar.specs.Firsts.{FirstHas, begins_pattern, kind_at, opens_part, DeclarationsBegin, AlternativesBegin}
use Rattle.hr_grammar.proofs.Firsts.{of_class, of_text, begins_more, left_paren, variable_begins, patterns_begin_lem}
use Rattle.hr_grammar.specs.Joins.{decl_joined}
use Rattle.hr_grammar.proofs.Tables.{one_of}
use Rattle.hr_grammar.proofs.Joins.{yields_join_lem}

-- what begins a pattern begins a part
wider : (kind : BlockKind) (role : Role) → begins_pattern role ≡ true → opens_part kind role ≡ true
wider kind Role.Name b = refl
wider kind Role.OpenBracket b = refl
wider kind Role.Literal b = refl
wider kind Role.Wildcard b = refl
wider kind Role.Tilde b = refl
wider kind Role.Minus b = refl
wider kind _ b = let no : ⊥ = cc in elim no [ ]

pattern_begins : (kind : BlockKind) (items : List Item) → FirstHas begins_pattern items → FirstHas (opens_part kind) items
pattern_begins kind [] b = b
pattern_begins kind (item ∷ items) b = wider kind (role_of item.lexeme) b

-- words of the top level, at a place that takes them
import_opens : (place : DeclPlace) → takes_import place ≡ true → opens_part (kind_at place) Role.TopWord ≡ true
import_opens DeclPlace.First t = refl
import_opens DeclPlace.Top t = let no : ⊥ = cc in elim no [ ]
import_opens DeclPlace.Local t = let no : ⊥ = cc in elim no [ ]

top_opens : (place : DeclPlace) → takes_top place ≡ true → opens_part (kind_at place) Role.TopWord ≡ true
top_opens DeclPlace.First t = let no : ⊥ = cc in elim no [ ]
top_opens DeclPlace.Top t = refl
top_opens DeclPlace.Local t = let no : ⊥ = cc in elim no [ ]

fixity_opens : (place : DeclPlace) → opens_part (kind_at place) Role.FixityWord ≡ true
fixity_opens DeclPlace.First = refl
fixity_opens DeclPlace.Top = refl
fixity_opens DeclPlace.Local = refl

fixity_role : (text : List ℕ) → is_one_of fixity_words text ≡ true → role_by Class.ReservedId text ≡ Role.FixityWord
fixity_role text h = one_of (role_by Class.ReservedId) Role.FixityWord fixity_words text (refl, (refl, (refl, tt))) h

names_begin : (names : List (Listed Variable)) → AreSeparated IsComma IsVariable names → names ≢ [] → (rest : List Item) → FirstHas begins_pattern (flat_map (listed_items variable_items) names ++ rest)
names_begin [] is some rest = elim (some refl) [ ]
names_begin (name ∷ []) is some rest = begins_more begins_pattern (flat_map (listed_items variable_items) (name ∷ [])) rest
    (begins_more begins_pattern (listed_items variable_items name) [] (begins_more begins_pattern (variable_items name.part) (maybe_item name.separator) (variable_begins name.part is.0)))
names_begin (name ∷ (next ∷ names)) is some rest = begins_more begins_pattern (flat_map (listed_items variable_items) (name ∷ (next ∷ names))) rest
    (begins_more begins_pattern (listed_items variable_items name) (flat_map (listed_items variable_items) (next ∷ names)) (begins_more begins_pattern (variable_items name.part) (maybe_item name.separator) (variable_begins name.part is.0)))

head_begins : (levels : ℕ) (head : LeftHead) → IsLeftHeadOver (nodes levels) head → FirstHas begins_pattern (left_head_items head)
head_begins levels (LeftHead.Prefix variable patterns) is = begins_more begins_pattern (variable_items variable) _ (variable_begins variable is.0)
head_begins levels (LeftHead.Infix first operator second) is = begins_more begins_pattern (pat_items first) _ (patterns_begin_lem levels PatPlace.Whole first is.0)

left_begins : (levels : ℕ) (opens : List Item) (head : LeftHead) (closes : List Closed) → IsLeftSideOver (nodes levels) (record { opens = opens; head = head; closes = closes })
    → FirstHas begins_pattern (left_side_items (record { opens = opens; head = head; closes = closes }))
left_begins levels [] head closes is = begins_more begins_pattern (left_head_items head) _ (head_begins levels head is.1.0)
left_begins levels (left ∷ opens) head closes is = left_paren begins_pattern refl left is.0.0

decl_level : (levels : ℕ) (place : DeclPlace) (layer : Decl-F Decl Exp Qualifier Alt) → DeclProduction (nodes levels) place layer → FirstHas (opens_part (kind_at place)) (decl_joined layer)
decl_level levels place (Decl-F.Import import) is = of_text (opens_part (kind_at place)) Class.ReservedId (codes "import") import.word is.1.0 (import_opens place is.0)
decl_level levels place (Decl-F.Synonym word head equals ty) is = of_text (opens_part (kind_at place)) Class.ReservedId (codes "type") word is.1 (top_opens place is.0)
decl_level levels place (Decl-F.Data word head equals constructions) is =
    of_text (opens_part (kind_at place)) Class.ReservedId (codes "data") word is.1 (top_opens place is.0)
decl_level levels place (Decl-F.Newtype word head equals construction) is =
    of_text (opens_part (kind_at place)) Class.ReservedId (codes "newtype") word is.1 (top_opens place is.0)
decl_level levels place (Decl-F.Signature names mark ty) is = pattern_begins (kind_at place) _ (names_begin names is.1 is.2 _)
decl_level levels place (Decl-F.Fixity word level operators) is =
    of_class (opens_part (kind_at place)) Class.ReservedId word is.1 (ap (opens_part (kind_at place)) (fixity_role word.lexeme.text is.2) ∙ fixity_opens place)
decl_level levels place (Decl-F.Equation left body locals) is =
    pattern_begins (kind_at place) _ (begins_more begins_pattern (left_side_items left) _ (left_begins levels left.opens left.head left.closes is.1))
decl_level levels place (Decl-F.Binding pattern body locals) is =
    pattern_begins (kind_at place) _ (begins_more begins_pattern (pat_items pattern) _ (patterns_begin_lem levels PatPlace.Whole pattern is.1))

pub declarations_begin_lem : DeclarationsBegin
declarations_begin_lem zero place decl is = elim is [ ]
declarations_begin_lem (suc levels) place decl is = subst (FirstHas (opens_part (kind_at place))) (sym (yields_join_lem.decl decl)) (decl_level levels place (out-Decl decl) is)

pub alternatives_begin_lem : AlternativesBegin
alternatives_begin_lem zero alt is = elim is [ ]
alternatives_begin_lem (suc levels) alt is =
    subst (FirstHas (opens_part BlockKind.Alternatives)) (sym (yields_join_lem.alt alt))
    (pattern_begins BlockKind.Alternatives _ (begins_more begins_pattern (pat_items (out-Alt alt).pattern) _ (patterns_begin_lem levels PatPlace.Whole (out-Alt alt).pattern is.0)))
