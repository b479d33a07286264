-- The ways to begin with a declaration or an alternative, each with its ending.
use Rattle.std.specs.Prelude.{ℕ, zero, suc, Bool, true, false, ◌&&◌, ◌==◌, List, [], ◌∷◌, length, Option, Some, None}
use lib.Chars.{codes}
use Rattle.hr_base.specs.declared.lexeme.Class.{Class}
use Rattle.hr_base.specs.declared.lexeme.Ending.{Ending}
use Rattle.hr_base.specs.declared.lexeme.Item.{Item}
use Rattle.hr_rules.specs.Names.{is_one_of}
use Rattle.hr_tree.specs.declared.lists.Block.{Block}
use Rattle.hr_tree.specs.declared.patterns.Pat.{Pat}
use Rattle.hr_tree.specs.declared.declarations.TypeHead.{TypeHead}
use Rattle.hr_tree.specs.declared.declarations.Construction.{Construction}
use Rattle.hr_tree.specs.declared.declarations.LeftSide.{LeftSide}
use Rattle.hr_tree.specs.declared.declarations.LeftHead.{LeftHead}
use Rattle.hr_tree.specs.declared.declarations.Closed.{Closed}
use Rattle.hr_tree.specs.declared.declarations.Body.{Body}
use Rattle.hr_tree.specs.declared.declarations.Guarded.{Guarded}
use Rattle.hr_tree.specs.declared.declarations.Where.{Where}
use Rattle.hr_tree.specs.declared.expressions.Exp.{Exp}
use Rattle.hr_tree.specs.declared.expressions.Decl.{Decl, roll-Decl}
use Rattle.hr_tree.specs.declared.expressions.Decl.TheOpen.{Decl-F}
use Rattle.hr_tree.specs.declared.expressions.Qualifier.{Qualifier}
use Rattle.hr_tree.specs.declared.expressions.Alt.{Alt, roll-Alt}
use Rattle.hr_grammar.specs.Nodes.{Colons, TyPlace, PatPlace, ExpPlace, DeclPlace}
use Rattle.hr_grammar.specs.Declarations.{fixity_words, takes_import, takes_top, takes_local}
use Rattle.hr_grammar.specs.Spans.{part_ending, top_ending}
use Rattle.hr_grammar_finder_laws.specs.Ways.{Finder, any_of, none, ◌⊕◌, on, passing, made_by, ◌▶◌, one, maybe, in_turn, separated, inside, ends_as}
use Rattle.hr_grammar_finder_laws.specs.Tests.{is_of, is_word, is_reserved, is_special, is_digit, has_one}
use Rattle.hr_grammar_finder_laws.specs.Names.{variables, own_constructors, own_variable_operators, own_constructor_operators, own_operators}
use Rattle.hr_grammar_finder_laws.specs.Finders.{Finders}
use Rattle.hr_grammar_finder_laws.specs.Imports.{imports}

abbrev pub type_head_of : Item × List Item → TypeHead
type_head_of p = record { name = p.0; variables = p.1 }

abbrev pub type_heads : ℕ → Finder TypeHead
type_heads n = made_by type_head_of (one n (is_of Class.ConId) ▶ in_turn (one n (is_of Class.VarId)))

abbrev pub construction_ways : Finders → ℕ → List (Finder Construction)
construction_ways below n =
    made_by (λ p. Construction.Prefix p.0 p.1) (own_constructors n ▶ in_turn (below.ty n TyPlace.Atomic))
    ∷ made_by (λ p. Construction.Infix p.0 p.1.0 p.1.1) (below.ty n TyPlace.Applied ▶ own_constructor_operators n ▶ below.ty n TyPlace.Applied)
    ∷ []

abbrev pub constructions : Finders → ℕ → Finder Construction
constructions below n = any_of (construction_ways below n)

-- of a `newtype`: a constructor with one type
abbrev pub has_one_type : Construction → Bool
has_one_type (Construction.Prefix constructor (ty ∷ [])) = true
has_one_type _ = false

abbrev pub new_constructions : Finders → ℕ → Finder Construction
new_constructions below n = passing has_one_type (constructions below n)

-- one pattern or more
abbrev pub arguments : Finders → ℕ → Finder (List Pat)
arguments below n = passing has_one (in_turn (below.pat n PatPlace.Atomic))

abbrev pub left_head_ways : Finders → ℕ → List (Finder LeftHead)
left_head_ways below n =
    made_by (λ p. LeftHead.Prefix p.0 p.1) (variables n ▶ arguments below n)
    ∷ made_by (λ p. LeftHead.Infix p.0 p.1.0 p.1.1) (below.pat n PatPlace.Whole ▶ own_variable_operators n ▶ below.pat n PatPlace.Whole)
    ∷ []

abbrev pub left_heads : Finders → ℕ → Finder LeftHead
left_heads below n = any_of (left_head_ways below n)

abbrev pub closed_of : Item × List Pat → Closed
closed_of p = record { right = p.0; patterns = p.1 }

abbrev pub closings : Finders → ℕ → Finder Closed
closings below n = made_by closed_of (one n (is_special (codes ")")) ▶ arguments below n)

abbrev pub left_side_of : List Item × (LeftHead × List Closed) → LeftSide
left_side_of p = record { opens = p.0; head = p.1.0; closes = p.1.1 }

-- as many parentheses close as open
abbrev pub left_sides : Finders → ℕ → Finder LeftSide
left_sides below n =
    made_by left_side_of (passing (λ p. length p.0 == length p.1.1) (in_turn (one n (is_special (codes "("))) ▶ left_heads below n ▶ in_turn (closings below n)))

abbrev pub guarded_of : Item × (Exp × (Item × (Exp × Ending))) → Guarded Exp × Ending
guarded_of p = (record { bar = p.0; guard = p.1.0; mark = p.1.1.0; body = p.1.1.1.0 }, p.1.1.1.1)

-- a guard is a sequence without `::` outside of brackets and blocks
abbrev pub guarded : Finders → ℕ → (Item → Bool) → Finder (Guarded Exp × Ending)
guarded below n is_mark =
    made_by guarded_of (one n (is_reserved (codes "|")) ▶ inside (below.exp n Colons.Barred ExpPlace.Sequence) ▶ one n is_mark ▶ below.exp n Colons.Allowed ExpPlace.Whole)

abbrev pub last_guarded : Guarded Exp × Ending → List (Guarded Exp) × Ending
last_guarded p = (p.0 ∷ [], p.1)

abbrev pub guarded_then : Guarded Exp × (List (Guarded Exp) × Ending) → List (Guarded Exp) × Ending
guarded_then p = (p.0 ∷ p.1.0, p.1.1)

-- one or more, and no more than so many
abbrev pub guards_by : Finders → ℕ → (Item → Bool) → ℕ → Finder (List (Guarded Exp) × Ending)
guards_by below n is_mark zero = none
guards_by below n is_mark (suc fuel) =
    made_by last_guarded (guarded below n is_mark)
    ⊕ made_by guarded_then (inside (guarded below n is_mark) ▶ guards_by below n is_mark fuel)

abbrev pub guards : Finders → ℕ → (Item → Bool) → Finder (List (Guarded Exp) × Ending)
guards below n is_mark ts = guards_by below n is_mark (length ts) ts

-- what stands behind `=` or `->`, or under guards
abbrev pub body_ways : Finders → ℕ → (Item → Bool) → List (Finder (Body Exp × Ending))
body_ways below n is_mark =
    ends_as (part_ending false) (made_by (λ p. (Body.Plain p.0 p.1.0, p.1.1)) (one n is_mark ▶ below.exp n Colons.Allowed ExpPlace.Whole))
    ∷ ends_as (part_ending true) (made_by (λ p. (Body.Guarded p.0, p.1)) (guards below n is_mark))
    ∷ []

abbrev pub bodies : Finders → ℕ → (Item → Bool) → Finder (Body Exp × Ending)
bodies below n is_mark = any_of (body_ways below n is_mark)

abbrev pub RightSide : Type 0
RightSide = (Body Exp × Option (Where Decl)) × Ending

abbrev pub without_where : Body Exp × Ending → RightSide
without_where p = ((p.0, None), p.1)

abbrev pub with_where : Body Exp × (Item × Block Decl) → RightSide
with_where p = ((p.0, Some (record { word = p.1.0; block = p.1.1 })), Ending.WhereBlock)

-- and then `where` with its block, or nothing
abbrev pub right_side_ways : Finders → ℕ → (Item → Bool) → List (Finder RightSide)
right_side_ways below n is_mark =
    made_by without_where (bodies below n is_mark)
    ∷ made_by with_where (inside (bodies below n is_mark) ▶ one n (is_word (codes "where")) ▶ below.declarations n DeclPlace.Local)
    ∷ []

abbrev pub right_sides : Finders → ℕ → (Item → Bool) → Finder RightSide
right_sides below n is_mark = any_of (right_side_ways below n is_mark)

abbrev pub decl_ways : Finders → ℕ → DeclPlace → List (Finder (Decl-F Decl Exp Qualifier Alt × Ending))
decl_ways below n place =
    on (takes_import place) (made_by (λ import. (Decl-F.Import import, top_ending)) (imports n))
    ∷ on (takes_top place) (made_by (λ p. (Decl-F.Synonym p.0 p.1.0 p.1.1.0 p.1.1.1, top_ending))
    (one n (is_word (codes "type")) ▶ type_heads n ▶ one n (is_reserved (codes "=")) ▶ below.ty n TyPlace.Whole))
    ∷ on (takes_top place) (made_by (λ p. (Decl-F.Data p.0 p.1.0 p.1.1.0 p.1.1.1, top_ending)) (passing (λ p. has_one p.1.1.1)
    (one n (is_word (codes "data")) ▶ type_heads n ▶ one n (is_reserved (codes "=")) ▶ separated (one n (is_reserved (codes "|"))) (constructions below n))))
    ∷ on (takes_top place) (made_by (λ p. (Decl-F.Newtype p.0 p.1.0 p.1.1.0 p.1.1.1, top_ending))
    (one n (is_word (codes "newtype")) ▶ type_heads n ▶ one n (is_reserved (codes "=")) ▶ new_constructions below n))
    ∷ on (takes_local place) (made_by (λ p. (Decl-F.Signature p.0 p.1.0 p.1.1, Ending.Signature)) (passing (λ p. has_one p.0)
    (separated (one n (is_special (codes ","))) (variables n) ▶ one n (is_reserved (codes "::")) ▶ below.ty n TyPlace.Whole)))
    ∷ on (takes_local place) (made_by (λ p. (Decl-F.Fixity p.0 p.1.0 p.1.1, Ending.Fixity)) (passing (λ p. is_one_of fixity_words p.0.lexeme.text && has_one p.1.1)
    (one n (is_of Class.ReservedId) ▶ maybe (one n is_digit) ▶ separated (one n (is_special (codes ","))) (own_operators n))))
    ∷ on (takes_local place) (made_by (λ p. (Decl-F.Equation p.0 p.1.0.0 p.1.0.1, p.1.1)) (left_sides below n ▶ right_sides below n (is_reserved (codes "="))))
    ∷ on (takes_local place) (made_by (λ p. (Decl-F.Binding p.0 p.1.0.0 p.1.0.1, p.1.1)) (below.pat n PatPlace.Whole ▶ right_sides below n (is_reserved (codes "="))))
    ∷ []

abbrev pub decl_layers : Finders → ℕ → DeclPlace → Finder (Decl-F Decl Exp Qualifier Alt × Ending)
decl_layers below n place = any_of (decl_ways below n place)

abbrev pub decl_found : Finders → ℕ → DeclPlace → Finder (Decl × Ending)
decl_found below n place = made_by (λ p. (roll-Decl p.0, p.1)) (decl_layers below n place)

abbrev pub alt_of : Pat × RightSide → Alt × Ending
alt_of p = (roll-Alt (record { pattern = p.0; body = p.1.0.0; locals = p.1.0.1 }), p.1.1)

-- an alternative has `->` in place of `=`
abbrev pub alt_found : Finders → ℕ → Finder (Alt × Ending)
alt_found below n = made_by alt_of (below.pat n PatPlace.Whole ▶ right_sides below n (is_reserved (codes "->")))
