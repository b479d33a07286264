-- What goes over from the parts of types and patterns to the whole is true of each of them.
use Rattle.std.proofs.Common.{ℕ, zero, suc, List, [], ◌∷◌, ◌++◌, refl, sym, subst}
use Rattle.std.specs.List.{flat_map}
use lib.Chars.{codes}
use Rattle.hr_base.specs.declared.lexeme.Class.{Class}
use Rattle.hr_base.specs.declared.lexeme.Item.{Item}
use Rattle.hr_tree.specs.declared.lists.Operand.{Operand}
use Rattle.hr_tree.specs.declared.types.Ty.{Ty, out-Ty}
use Rattle.hr_tree.specs.declared.types.Ty.TheOpen.{Ty-F}
use Rattle.hr_tree.specs.declared.patterns.Pat.{Pat, out-Pat}
use Rattle.hr_tree.specs.declared.patterns.Pat.TheOpen.{Pat-F}
use Rattle.hr_tree.specs.Names.{constructor_items, variable_items, maybe_item, maybe_operator}
use Rattle.hr_tree.specs.Lists.{listed_items, operand_items}
use Rattle.hr_tree.specs.Yields.{ty_items, pat_items}
use Rattle.hr_grammar.specs.Words.{IsComma}
use Rattle.hr_grammar.specs.Nodes.{TyPlace, PatPlace}
use Rattle.hr_grammar.specs.Types.{TyProduction}
use Rattle.hr_grammar.specs.Patterns.{PatProduction, ArePatOperands}
use Rattle.hr_grammar.specs.Yields.{nodes}
use Rattle.hr_grammar.specs.Joins.{ty_joined, pat_joined}
use Rattle.hr_grammar.proofs.Joins.{yields_join_lem}
use Rattle.hr_grammar.proofs.walk.Rules.{InPatterns, InTypes}
use Rattle.hr_grammar.proofs.walk.Lists.{put, absent, no_operator, all_of, separated}
use Rattle.hr_grammar.proofs.walk.Names.{patterns_in, of_class, of_text, comma, minus, literal, constructor, type_constructor, variable, constructor_operator}

ty_level : {P : List Item → Type 0} → InTypes P → (levels : ℕ) → ((place : TyPlace) (ty : Ty) → (nodes levels).ty place ty → P (ty_items ty))
    → (place : TyPlace) (layer : Ty-F Ty) → TyProduction (nodes levels) place layer → P (ty_joined layer)
ty_level h levels below place (Ty-F.Variable item) is = of_class (patterns_in h) Class.VarId item is refl
ty_level h levels below place (Ty-F.Constructor named) is = type_constructor h named is
ty_level h levels below place (Ty-F.Apply named arguments) is =
    h.joins.join (constructor_items named) (flat_map ty_items arguments) (type_constructor h named is.1) (all_of h.joins ty_items ((nodes levels).ty TyPlace.Atomic) (below TyPlace.Atomic) arguments is.3)
ty_level h levels below place (Ty-F.Function from arrow to) is =
    h.joins.join (ty_items from) (arrow ∷ ty_items to) (below TyPlace.Applied from is.1)
    (put h.joins arrow (ty_items to) (of_text h Class.ReservedOp (codes "->") arrow is.2 refl) (below TyPlace.Whole to is.3))
ty_level h levels below place (Ty-F.Tuple left parts right) is =
    h.parens left right (flat_map (listed_items ty_items) parts) is.0 is.3
    (separated h.joins ty_items IsComma ((nodes levels).ty TyPlace.Whole) (comma (patterns_in h)) (below TyPlace.Whole) parts is.1)
ty_level h levels below place (Ty-F.List left part right) is = h.squares left right (ty_items part) is.0 is.2 (below TyPlace.Whole part is.1)
ty_level h levels below place (Ty-F.Group left part right) is = h.parens left right (ty_items part) is.0 is.2 (below TyPlace.Whole part is.1)

pub types_keep : {P : List Item → Type 0} → InTypes P → (levels : ℕ) (place : TyPlace) (ty : Ty) → (nodes levels).ty place ty → P (ty_items ty)
types_keep h zero place ty is = elim is [ ]
types_keep {P} h (suc levels) place ty is = subst P (sym (yields_join_lem.ty ty)) (ty_level h levels (types_keep h levels) place (out-Ty ty) is)

-- operands of patterns
operands : {P : List Item → Type 0} → InPatterns P → (levels : ℕ) → ((place : PatPlace) (pat : Pat) → (nodes levels).pat place pat → P (pat_items pat))
    → (list : List (Operand Pat)) → ArePatOperands (nodes levels) list → P (flat_map (operand_items pat_items) list)
operands h levels below [] is = h.joins.nothing
operands h levels below (operand ∷ []) is =
    h.joins.join (operand_items pat_items operand) []
    (h.joins.join (maybe_item operand.minus) (pat_items operand.part ++ maybe_operator operand.operator) (absent h.joins operand.minus is.0)
    (h.joins.join (pat_items operand.part) (maybe_operator operand.operator) (below PatPlace.Operand operand.part is.1) (no_operator h.joins operand.operator is.2)))
    h.joins.nothing
operands {P} h levels below (operand ∷ (next ∷ rest)) is =
    h.joins.join (operand_items pat_items operand) (flat_map (operand_items pat_items) (next ∷ rest))
    (h.joins.join (maybe_item operand.minus) (pat_items operand.part ++ maybe_operator operand.operator) (absent h.joins operand.minus is.0)
    (h.joins.join (pat_items operand.part) (maybe_operator operand.operator) (below PatPlace.Operand operand.part is.1)
    (subst (λ o. P (maybe_operator o)) (sym is.2.1) (constructor_operator h is.2.0 is.2.2))))
    (operands h levels below (next ∷ rest) is.3)

pat_level : {P : List Item → Type 0} → InPatterns P → (levels : ℕ) → ((place : PatPlace) (pat : Pat) → (nodes levels).pat place pat → P (pat_items pat))
    → (place : PatPlace) (layer : Pat-F Pat) → PatProduction (nodes levels) place layer → P (pat_joined layer)
pat_level h levels below place (Pat-F.Variable bound) is = variable h bound is
pat_level h levels below place (Pat-F.Wildcard word) is = of_text h Class.ReservedId (codes "_") word is refl
pat_level h levels below place (Pat-F.Literal item) is = literal h item is
pat_level h levels below place (Pat-F.Negative mark number) is = put h.joins mark (number ∷ []) (minus h mark is.1) (of_class h Class.Integer number is.2 refl)
pat_level h levels below place (Pat-F.Constructor named) is = constructor h named is
pat_level h levels below place (Pat-F.As bound mark part) is =
    h.joins.join (variable_items bound) (mark ∷ pat_items part) (variable h bound is.0)
    (put h.joins mark (pat_items part) (of_text h Class.ReservedOp (codes "@") mark is.1 refl) (below PatPlace.Atomic part is.2))
pat_level h levels below place (Pat-F.Lazy mark part) is =
    put h.joins mark (pat_items part) (of_text h Class.ReservedOp (codes "~") mark is.0 refl) (below PatPlace.Atomic part is.1)
pat_level h levels below place (Pat-F.Apply named arguments) is =
    h.joins.join (constructor_items named) (flat_map pat_items arguments) (constructor h named is.1) (all_of h.joins pat_items ((nodes levels).pat PatPlace.Atomic) (below PatPlace.Atomic) arguments is.3)
pat_level h levels below place (Pat-F.Infix list) is = operands h levels below list is.2
pat_level h levels below place (Pat-F.Tuple left parts right) is =
    h.parens left right (flat_map (listed_items pat_items) parts) is.0 is.3 (separated h.joins pat_items IsComma ((nodes levels).pat PatPlace.Whole) (comma h) (below PatPlace.Whole) parts is.1)
pat_level h levels below place (Pat-F.List left parts right) is =
    h.squares left right (flat_map (listed_items pat_items) parts) is.0 is.3 (separated h.joins pat_items IsComma ((nodes levels).pat PatPlace.Whole) (comma h) (below PatPlace.Whole) parts is.1)
pat_level h levels below place (Pat-F.Group left part right) is = h.parens left right (pat_items part) is.0 is.2 (below PatPlace.Whole part is.1)
pat_level h levels below place (Pat-F.Fields named left fields right) is = elim is [ ]

pub patterns_keep : {P : List Item → Type 0} → InPatterns P → (levels : ℕ) (place : PatPlace) (pat : Pat) → (nodes levels).pat place pat → P (pat_items pat)
patterns_keep h zero place pat is = elim is [ ]
patterns_keep {P} h (suc levels) place pat is = subst P (sym (yields_join_lem.pat pat)) (pat_level h levels (patterns_keep h levels) place (out-Pat pat) is)
