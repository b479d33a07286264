-- What goes over from the parts of trees to the whole is true of each expression and qualifier, where it is of
-- all that stands on the level below.
use Rattle.std.proofs.Common.{◌≡◌, ℕ, ◌||◌, false, List, [], ◌∷◌, ◌++◌, refl, sym, subst}
use Rattle.std.specs.List.{flat_map}
use Rattle.std.proofs.lemmas.List.{append_assoc}
use lib.Chars.{codes}
use Rattle.hr_base.specs.declared.lexeme.Class.{Class}
use Rattle.hr_base.specs.declared.lexeme.Item.{Item}
use Rattle.hr_tree.specs.declared.lists.Operand.{Operand}
use Rattle.hr_tree.specs.declared.lists.Block.{Block}
use Rattle.hr_tree.specs.declared.expressions.Exp.{Exp}
use Rattle.hr_tree.specs.declared.expressions.Decl.{Decl}
use Rattle.hr_tree.specs.declared.expressions.Alt.{Alt}
use Rattle.hr_tree.specs.declared.expressions.Qualifier.{Qualifier, out-Qualifier}
use Rattle.hr_tree.specs.declared.expressions.Decl.TheOpen.{Exp-F, Qualifier-F}
use Rattle.hr_tree.specs.Names.{operator_items, maybe_item, maybe_operator}
use Rattle.hr_tree.specs.Lists.{listed_items, operand_items, block_items}
use Rattle.hr_tree.specs.Yields.{ty_items, pat_items, exp_items, decl_items, qualifier_items, alt_items}
use Rattle.hr_grammar.specs.Words.{IsMinus, IsComma, IsDots}
use Rattle.hr_grammar.specs.Nodes.{Colons, TyPlace, PatPlace, ExpPlace, DeclPlace}
use Rattle.hr_grammar.specs.Expressions.{ExpProduction, QualifierProduction, IsQualifierOver, AreExpOperands, last_operand}
use Rattle.hr_grammar.specs.Yields.{nodes}
use Rattle.hr_grammar.specs.Joins.{exp_joined, qualifier_joined}
use Rattle.hr_grammar.specs.LeftOut.{left_out}
use Rattle.hr_grammar.proofs.Joins.{yields_join_lem}
use Rattle.hr_grammar.proofs.walk.Rules.{is_paired, Joins, InTrees}
use Rattle.hr_grammar.proofs.walk.Lists.{put, maybe, no_operator, all_of, separated}
use Rattle.hr_grammar.proofs.walk.Names.{types_of, patterns_of, of_word, comma, minus, literal, constructor, named_variable, any_operator}
use Rattle.hr_grammar.proofs.walk.TypesAndPatterns.{types_keep, patterns_keep}

-- the property is true of all that stands on a level
pub record Below (P : List Item → Type 0) (levels : ℕ) : Type 0 where
  pub exp : (free : Colons) (place : ExpPlace) (part : Exp) → (nodes levels).exp free place part → P (exp_items part)
  pub decl : (place : DeclPlace) (part : Decl) → (nodes levels).decl place part → P (decl_items part)
  pub alt : (part : Alt) → (nodes levels).alt part → P (alt_items part)
  pub declarations : (place : DeclPlace) (block : Block Decl) → (nodes levels).declarations place block → P (block_items decl_items block)
  pub alternatives : (block : Block Alt) → (nodes levels).alternatives block → P (block_items alt_items block)

-- a word or a mark before items
pub before : {P Q : List Item → Type 0} → InTrees P Q → (class : Class) (text : List ℕ) (item : Item) (items : List Item) → (item.lexeme.class ≡ class) × (item.lexeme.text ≡ text) → (is_paired class text || left_out class text) ≡ false → P items → P (item ∷ items)
before h class text item items is t p = put h.joins item items (of_word h class text item is t) p

dots : {P Q : List Item → Type 0} → InTrees P Q → (item : Item) → IsDots item → P (item ∷ [])
dots h item is = of_word h Class.ReservedOp (codes "..") item is refl

operands : {P Q : List Item → Type 0} → InTrees P Q → (levels : ℕ) → Below P levels → (free : Colons) (last : ExpPlace) (list : List (Operand Exp)) → AreExpOperands (nodes levels) free last list → P (flat_map (operand_items exp_items) list)
operands h levels below free last [] is = h.joins.nothing
operands h levels below free last (operand ∷ []) is =
    h.joins.join (operand_items exp_items operand) []
    (h.joins.join (maybe_item operand.minus) (exp_items operand.part ++ maybe_operator operand.operator) (maybe h.joins IsMinus (minus (patterns_of h)) operand.minus is.0)
    (h.joins.join (exp_items operand.part) (maybe_operator operand.operator) (below.exp free last operand.part is.1) (no_operator h.joins operand.operator is.2)))
    h.joins.nothing
operands {P} h levels below free last (operand ∷ (next ∷ rest)) is =
    h.joins.join (operand_items exp_items operand) (flat_map (operand_items exp_items) (next ∷ rest))
    (h.joins.join (maybe_item operand.minus) (exp_items operand.part ++ maybe_operator operand.operator) (maybe h.joins IsMinus (minus (patterns_of h)) operand.minus is.0)
    (h.joins.join (exp_items operand.part) (maybe_operator operand.operator) (below.exp free ExpPlace.Operand operand.part is.1)
    (subst (λ o. P (maybe_operator o)) (sym is.2.1) (any_operator (patterns_of h) is.2.0 is.2.2))))
    (operands h levels below free last (next ∷ rest) is.3)

-- what stands in square brackets joins too
inside_joins : {P Q : List Item → Type 0} → InTrees P Q → Joins Q
inside_joins h = record { nothing = h.inside [] h.joins.nothing; join = h.inside_join }

qualifier_level : {P Q : List Item → Type 0} → InTrees P Q → (levels : ℕ) → Below P levels → (layer : Qualifier-F Decl Exp Qualifier Alt) → QualifierProduction (nodes levels) layer → Q (qualifier_joined layer)
qualifier_level h levels below (Qualifier-F.Generator pattern arrow part) is =
    h.inside_join (pat_items pattern) (arrow ∷ exp_items part) (h.inside (pat_items pattern) (patterns_keep (patterns_of h) levels PatPlace.Whole pattern is.0))
    (put (inside_joins h) arrow (exp_items part) (h.inside_arrow arrow is.1) (h.inside (exp_items part) (below.exp Colons.Allowed ExpPlace.Whole part is.2)))
qualifier_level h levels below (Qualifier-F.Locals word block) is =
    put (inside_joins h) word (block_items decl_items block) (h.inside_let word is.0) (h.inside (block_items decl_items block) (below.declarations DeclPlace.Local block is.1))
qualifier_level h levels below (Qualifier-F.Test part) is = h.inside (exp_items part) (below.exp Colons.Allowed ExpPlace.Whole part is)

qualifier : {P Q : List Item → Type 0} → InTrees P Q → (levels : ℕ) → Below P levels → (part : Qualifier) → IsQualifierOver (nodes levels) part → Q (qualifier_items part)
qualifier {P} {Q} h levels below part is = subst Q (sym (yields_join_lem.qualifier part)) (qualifier_level h levels below (out-Qualifier part) is)

-- a comma or a mark inside of square brackets, before items
inside_put : {P Q : List Item → Type 0} → InTrees P Q → (item : Item) (items : List Item) → P (item ∷ []) → Q items → Q (item ∷ items)
inside_put h item items p q = put (inside_joins h) item items (h.inside (item ∷ []) p) q

-- brackets round two lists, with the closing one written behind the second
bracketed : (P : List Item → Type 0) (left : Item) (xs ys : List Item) (right : Item) → P (left ∷ ((xs ++ ys) ++ right ∷ [])) → P (left ∷ (xs ++ (ys ++ right ∷ [])))
bracketed P left xs ys right p = subst (λ l. P (left ∷ l)) (append_assoc xs ys (right ∷ [])) p

-- and round three, with an item behind the first
bracketed_three : (P : List Item → Type 0) (left : Item) (xs : List Item) (item : Item) (ys zs : List Item) (right : Item) → P (left ∷ ((xs ++ item ∷ (ys ++ zs)) ++ right ∷ [])) → P (left ∷ (xs ++ item ∷ (ys ++ (zs ++ right ∷ []))))
bracketed_three P left xs item ys zs right p =
    subst (λ l. P (left ∷ (xs ++ item ∷ l))) (append_assoc ys zs (right ∷ [])) (bracketed P left xs (item ∷ (ys ++ zs)) right p)

pub exp_level : {P Q : List Item → Type 0} → InTrees P Q → (levels : ℕ) → Below P levels → (free : Colons) (place : ExpPlace) (layer : Exp-F Decl Exp Qualifier Alt) → ExpProduction (nodes levels) free place layer → P (exp_joined layer)
exp_level h levels below free place (Exp-F.Variable named) is = named_variable (patterns_of h) named is
exp_level h levels below free place (Exp-F.Constructor named) is = constructor (patterns_of h) named is
exp_level h levels below free place (Exp-F.Literal item) is = literal (patterns_of h) item is
exp_level h levels below free place (Exp-F.Group left part right) is = h.parens left right (exp_items part) is.0 is.2 (below.exp Colons.Allowed ExpPlace.Whole part is.1)
exp_level h levels below free place (Exp-F.Tuple left parts right) is =
    h.parens left right (flat_map (listed_items exp_items) parts) is.0 is.3
    (separated h.joins exp_items IsComma ((nodes levels).exp Colons.Allowed ExpPlace.Whole) (comma (patterns_of h)) (below.exp Colons.Allowed ExpPlace.Whole) parts is.1)
exp_level h levels below free place (Exp-F.List left parts right) is =
    h.squares left right (flat_map (listed_items exp_items) parts) is.0 is.3 (h.inside (flat_map (listed_items exp_items) parts)
    (separated h.joins exp_items IsComma ((nodes levels).exp Colons.Allowed ExpPlace.Whole) (comma (patterns_of h)) (below.exp Colons.Allowed ExpPlace.Whole) parts is.1))
exp_level {P} h levels below free place (Exp-F.From left first mark right) is =
    bracketed P left (exp_items first) (mark ∷ []) right (h.squares left right (exp_items first ++ mark ∷ []) is.0 is.3 (h.inside (exp_items first ++ mark ∷ [])
    (h.joins.join (exp_items first) (mark ∷ []) (below.exp Colons.Allowed ExpPlace.Whole first is.1) (dots h mark is.2))))
exp_level {P} h levels below free place (Exp-F.FromThen left first sign second mark right) is =
    bracketed_three P left (exp_items first) sign (exp_items second) (mark ∷ []) right
    (h.squares left right (exp_items first ++ sign ∷ (exp_items second ++ mark ∷ [])) is.0 is.5 (h.inside (exp_items first ++ sign ∷ (exp_items second ++ mark ∷ []))
    (h.joins.join (exp_items first) (sign ∷ (exp_items second ++ mark ∷ [])) (below.exp Colons.Allowed ExpPlace.Whole first is.1)
    (put h.joins sign (exp_items second ++ mark ∷ []) (comma (patterns_of h) sign is.2)
    (h.joins.join (exp_items second) (mark ∷ []) (below.exp Colons.Allowed ExpPlace.Whole second is.3) (dots h mark is.4))))))
exp_level {P} h levels below free place (Exp-F.FromTo left first mark last right) is =
    bracketed P left (exp_items first) (mark ∷ exp_items last) right (h.squares left right (exp_items first ++ mark ∷ exp_items last) is.0 is.4 (h.inside (exp_items first ++ mark ∷ exp_items last)
    (h.joins.join (exp_items first) (mark ∷ exp_items last) (below.exp Colons.Allowed ExpPlace.Whole first is.1)
    (put h.joins mark (exp_items last) (dots h mark is.2) (below.exp Colons.Allowed ExpPlace.Whole last is.3)))))
exp_level {P} h levels below free place (Exp-F.FromThenTo left first sign second mark last right) is =
    bracketed_three P left (exp_items first) sign (exp_items second) (mark ∷ exp_items last) right
    (h.squares left right (exp_items first ++ sign ∷ (exp_items second ++ mark ∷ exp_items last)) is.0 is.6 (h.inside (exp_items first ++ sign ∷ (exp_items second ++ mark ∷ exp_items last))
    (h.joins.join (exp_items first) (sign ∷ (exp_items second ++ mark ∷ exp_items last)) (below.exp Colons.Allowed ExpPlace.Whole first is.1)
    (put h.joins sign (exp_items second ++ mark ∷ exp_items last) (comma (patterns_of h) sign is.2)
    (h.joins.join (exp_items second) (mark ∷ exp_items last) (below.exp Colons.Allowed ExpPlace.Whole second is.3)
    (put h.joins mark (exp_items last) (dots h mark is.4) (below.exp Colons.Allowed ExpPlace.Whole last is.5)))))))
exp_level {P} h levels below free place (Exp-F.Comprehension left part bar qualifiers right) is =
    bracketed P left (exp_items part) (bar ∷ flat_map (listed_items qualifier_items) qualifiers) right
    (h.squares left right (exp_items part ++ bar ∷ flat_map (listed_items qualifier_items) qualifiers) is.0 is.5
    (h.inside_join (exp_items part) (bar ∷ flat_map (listed_items qualifier_items) qualifiers) (h.inside (exp_items part) (below.exp Colons.Allowed ExpPlace.Whole part is.1))
    (inside_put h bar (flat_map (listed_items qualifier_items) qualifiers) (of_word h Class.ReservedOp (codes "|") bar is.2 refl)
    (separated (inside_joins h) qualifier_items IsComma (IsQualifierOver (nodes levels)) (λ item c. h.inside (item ∷ []) (comma (patterns_of h) item c)) (qualifier h levels below) qualifiers is.3))))
exp_level {P} h levels below free place (Exp-F.LeftSection left part sign right) is =
    bracketed P left (exp_items part) (operator_items sign) right (h.parens left right (exp_items part ++ operator_items sign) is.0 is.3
    (h.joins.join (exp_items part) (operator_items sign) (below.exp Colons.Allowed ExpPlace.Sequence part is.1) (any_operator (patterns_of h) sign is.2)))
exp_level {P} h levels below free place (Exp-F.RightSection left sign part right) is =
    bracketed P left (operator_items sign) (exp_items part) right (h.parens left right (operator_items sign ++ exp_items part) is.0 is.4
    (h.joins.join (operator_items sign) (exp_items part) (any_operator (patterns_of h) sign is.1) (below.exp Colons.Allowed ExpPlace.Sequence part is.3)))
exp_level h levels below free place (Exp-F.Apply atoms) is = all_of h.joins exp_items ((nodes levels).exp free ExpPlace.Atom) (below.exp free ExpPlace.Atom) atoms is.2
exp_level h levels below free place (Exp-F.Case word part of_sign block) is =
    before h Class.ReservedId (codes "case") word (exp_items part ++ of_sign ∷ block_items alt_items block) is.1 refl
    (h.joins.join (exp_items part) (of_sign ∷ block_items alt_items block) (below.exp free ExpPlace.Whole part is.2)
    (before h Class.ReservedId (codes "of") of_sign (block_items alt_items block) is.3 refl (below.alternatives block is.4)))
exp_level h levels below free place (Exp-F.Lambda mark patterns arrow body) is =
    before h Class.ReservedOp (codes "\\") mark (flat_map pat_items patterns ++ arrow ∷ exp_items body) is.1 refl
    (h.joins.join (flat_map pat_items patterns) (arrow ∷ exp_items body)
    (all_of h.joins pat_items ((nodes levels).pat PatPlace.Atomic) (patterns_keep (patterns_of h) levels PatPlace.Atomic) patterns is.3)
    (before h Class.ReservedOp (codes "->") arrow (exp_items body) is.4 refl (below.exp free ExpPlace.Whole body is.5)))
exp_level h levels below free place (Exp-F.Let word block in_word body) is =
    h.lets word in_word (block_items decl_items block) (exp_items body) is.1 is.3 (below.declarations DeclPlace.Local block is.2) (below.exp free ExpPlace.Whole body is.4)
exp_level h levels below free place (Exp-F.If word test then_word first else_word second) is =
    before h Class.ReservedId (codes "if") word (exp_items test ++ then_word ∷ (exp_items first ++ else_word ∷ exp_items second)) is.1 refl
    (h.joins.join (exp_items test) (then_word ∷ (exp_items first ++ else_word ∷ exp_items second)) (below.exp free ExpPlace.Whole test is.2)
    (before h Class.ReservedId (codes "then") then_word (exp_items first ++ else_word ∷ exp_items second) is.3 refl
    (h.joins.join (exp_items first) (else_word ∷ exp_items second) (below.exp free ExpPlace.Whole first is.4)
    (before h Class.ReservedId (codes "else") else_word (exp_items second) is.5 refl (below.exp free ExpPlace.Whole second is.6)))))
exp_level h levels below free place (Exp-F.Infix list) is = operands h levels below free (last_operand place) list is.2
exp_level h levels below free place (Exp-F.Annotated part colons ty) is =
    h.joins.join (exp_items part) (colons ∷ ty_items ty) (below.exp Colons.Allowed ExpPlace.Annotated part is.2)
    (before h Class.ReservedOp (codes "::") colons (ty_items ty) is.3 refl (types_keep (types_of h) levels TyPlace.Whole ty is.4))
exp_level h levels below free place (Exp-F.Fields part left fields right) is = elim is [ ]
