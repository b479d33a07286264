-- What goes over from the parts of trees to the whole is true of each declaration, alternative and block, where
-- it is of all that stands on the level below; so of all that stands on any level.
use Rattle.std.proofs.Common.{ℕ, zero, suc, List, [], ◌∷◌, ◌++◌, Option, Some, None, refl, sym, subst}
use Rattle.std.specs.List.{AllByRecursion, flat_map}
use lib.Chars.{codes}
use Rattle.hr_base.specs.declared.lexeme.Class.{Class}
use Rattle.hr_base.specs.declared.lexeme.Item.{Item}
use Rattle.hr_tree.specs.declared.lists.Layout.{Layout}
use Rattle.hr_tree.specs.declared.lists.Piece.{Piece}
use Rattle.hr_tree.specs.declared.lists.Block.{Block}
use Rattle.hr_tree.specs.declared.declarations.Body.{Body}
use Rattle.hr_tree.specs.declared.declarations.Guarded.{Guarded}
use Rattle.hr_tree.specs.declared.declarations.Where.{Where}
use Rattle.hr_tree.specs.declared.expressions.Exp.{Exp, out-Exp}
use Rattle.hr_tree.specs.declared.expressions.Decl.{Decl, out-Decl}
use Rattle.hr_tree.specs.declared.expressions.Alt.{Alt, out-Alt}
use Rattle.hr_tree.specs.declared.expressions.Qualifier.{Qualifier}
use Rattle.hr_tree.specs.declared.expressions.Decl.TheOpen.{Decl-F}
use Rattle.hr_tree.specs.Names.{variable_items, operator_items, maybe_item}
use Rattle.hr_tree.specs.Lists.{listed_items, piece_items, block_items, guarded_items, body_items, where_items}
use Rattle.hr_tree.specs.Yields.{ty_items, pat_items, type_head_items, construction_items, left_side_items, exp_items, decl_items, alt_items}
use Rattle.hr_grammar.specs.Words.{IsComma, IsEquals, IsArrow}
use Rattle.hr_grammar.specs.Spelled.{IsVariable, IsOwnOperator}
use Rattle.hr_grammar.specs.Nodes.{Colons, TyPlace, PatPlace, ExpPlace, DeclPlace}
use Rattle.hr_grammar.specs.Declarations.{DeclProduction, IsGuardedOver, IsBodyOver, IsWhereOver, IsDigit}
use Rattle.hr_grammar.specs.Blocks.{IsPiece, AreBraced}
use Rattle.hr_grammar.specs.Yields.{nodes, AreDeclarationsOver}
use Rattle.hr_grammar.specs.Joins.{decl_joined}
use Rattle.hr_grammar.proofs.Joins.{yields_join_lem}
use Rattle.hr_grammar.proofs.walk.Rules.{Joins, InTrees}
use Rattle.hr_grammar.proofs.walk.Lists.{put, maybe, all_of, separated}
use Rattle.hr_grammar.proofs.walk.Names.{types_of, patterns_of, of_class, of_text, of_word, comma, own_operator, variable}
use Rattle.hr_grammar.proofs.walk.TypesAndPatterns.{types_keep, patterns_keep}
use Rattle.hr_grammar.proofs.walk.Heads.{type_head_keeps, constructions_keep, new_construction_keeps, left_side_keeps, fixity_keeps}
use Rattle.hr_grammar.proofs.walk.Imports.{import_keeps}
use Rattle.hr_grammar.proofs.walk.Expressions.{Below, before, exp_level}

-- right sides
guarded_keeps : {P Q : List Item → Type 0} → InTrees P Q → (levels : ℕ) → Below P levels → (IsMark : Item → Type 0) → ((item : Item) → IsMark item → P (item ∷ []))
    → (guarded : Guarded Exp) → IsGuardedOver (nodes levels) IsMark guarded → P (guarded_items exp_items guarded)
guarded_keeps h levels below IsMark mark guarded is =
    before h Class.ReservedOp (codes "|") guarded.bar (exp_items guarded.guard ++ guarded.mark ∷ exp_items guarded.body) is.0 refl
    (h.joins.join (exp_items guarded.guard) (guarded.mark ∷ exp_items guarded.body) (below.exp Colons.Barred ExpPlace.Sequence guarded.guard is.1.0)
    (put h.joins guarded.mark (exp_items guarded.body) (mark guarded.mark is.1.1.0) (below.exp Colons.Allowed ExpPlace.Whole guarded.body is.1.1.1)))

body_keeps : {P Q : List Item → Type 0} → InTrees P Q → (levels : ℕ) → Below P levels → (IsMark : Item → Type 0) → ((item : Item) → IsMark item → P (item ∷ []))
    → (body : Body Exp) → IsBodyOver (nodes levels) IsMark body → P (body_items exp_items body)
body_keeps h levels below IsMark mark (Body.Plain sign body) is = put h.joins sign (exp_items body) (mark sign is.0) (below.exp Colons.Allowed ExpPlace.Whole body is.1)
body_keeps h levels below IsMark mark (Body.Guarded list) is = all_of h.joins (guarded_items exp_items) (IsGuardedOver (nodes levels) IsMark) (guarded_keeps h levels below IsMark mark) list is.1

where_keeps : {P Q : List Item → Type 0} → InTrees P Q → (levels : ℕ) → Below P levels → (locals : Option (Where Decl)) → IsWhereOver (nodes levels) locals → P (where_items decl_items locals)
where_keeps h levels below None is = h.joins.nothing
where_keeps h levels below (Some locals) is = before h Class.ReservedId (codes "where") locals.word (block_items decl_items locals.block) is.0 refl (below.declarations DeclPlace.Local locals.block is.1)

equals : {P Q : List Item → Type 0} → InTrees P Q → (item : Item) → IsEquals item → P (item ∷ [])
equals h item is = of_word h Class.ReservedOp (codes "=") item is refl

arrow_mark : {P Q : List Item → Type 0} → InTrees P Q → (item : Item) → IsArrow item → P (item ∷ [])
arrow_mark h item is = of_word h Class.ReservedOp (codes "->") item is refl

decl_level : {P Q : List Item → Type 0} → InTrees P Q → (levels : ℕ) → Below P levels → (place : DeclPlace) (layer : Decl-F Decl Exp Qualifier Alt) → DeclProduction (nodes levels) place layer → P (decl_joined layer)
decl_level h levels below place (Decl-F.Import import) is = import_keeps (patterns_of h) import is.1
decl_level h levels below place (Decl-F.Synonym word head sign ty) is =
    before h Class.ReservedId (codes "type") word (type_head_items head ++ sign ∷ ty_items ty) is.1 refl
    (h.joins.join (type_head_items head) (sign ∷ ty_items ty) (type_head_keeps (patterns_of h) head is.2) (put h.joins sign (ty_items ty) (equals h sign is.3) (types_keep (types_of h) levels TyPlace.Whole ty is.4)))
decl_level h levels below place (Decl-F.Data word head sign constructions) is =
    before h Class.ReservedId (codes "data") word (type_head_items head ++ sign ∷ flat_map (listed_items construction_items) constructions) is.1 refl
    (h.joins.join (type_head_items head) (sign ∷ flat_map (listed_items construction_items) constructions) (type_head_keeps (patterns_of h) head is.2)
    (put h.joins sign (flat_map (listed_items construction_items) constructions) (equals h sign is.3)
    (constructions_keep (types_of h) levels constructions is.4)))
decl_level h levels below place (Decl-F.Newtype word head sign construction) is =
    before h Class.ReservedId (codes "newtype") word (type_head_items head ++ sign ∷ construction_items construction) is.1 refl
    (h.joins.join (type_head_items head) (sign ∷ construction_items construction) (type_head_keeps (patterns_of h) head is.2)
    (put h.joins sign (construction_items construction) (equals h sign is.3) (new_construction_keeps (types_of h) levels construction is.4)))
decl_level h levels below place (Decl-F.Signature names mark ty) is =
    h.joins.join (flat_map (listed_items variable_items) names) (mark ∷ ty_items ty)
    (separated h.joins variable_items IsComma IsVariable (comma (patterns_of h)) (variable (patterns_of h)) names is.1)
    (before h Class.ReservedOp (codes "::") mark (ty_items ty) is.3 refl (types_keep (types_of h) levels TyPlace.Whole ty is.4))
decl_level h levels below place (Decl-F.Fixity word level operators) is =
    put h.joins word (maybe_item level ++ flat_map (listed_items operator_items) operators) (fixity_keeps (patterns_of h) word is.1 is.2)
    (h.joins.join (maybe_item level) (flat_map (listed_items operator_items) operators)
    (maybe h.joins IsDigit (λ item d. of_class (patterns_of h) Class.Integer item d.0 refl) level is.3)
    (separated h.joins operator_items IsComma IsOwnOperator (comma (patterns_of h)) (own_operator (patterns_of h)) operators is.4))
decl_level h levels below place (Decl-F.Equation left body locals) is =
    h.joins.join (left_side_items left) (body_items exp_items body ++ where_items decl_items locals) (left_side_keeps (patterns_of h) levels left is.1)
    (h.joins.join (body_items exp_items body) (where_items decl_items locals) (body_keeps h levels below IsEquals (equals h) body is.2) (where_keeps h levels below locals is.3))
decl_level h levels below place (Decl-F.Binding pattern body locals) is =
    h.joins.join (pat_items pattern) (body_items exp_items body ++ where_items decl_items locals) (patterns_keep (patterns_of h) levels PatPlace.Whole pattern is.1)
    (h.joins.join (body_items exp_items body) (where_items decl_items locals) (body_keeps h levels below IsEquals (equals h) body is.2) (where_keeps h levels below locals is.3))

alt_level : {P Q : List Item → Type 0} → InTrees P Q → (levels : ℕ) → Below P levels → (part : Alt) → (nodes (suc levels)).alt part → P (alt_items part)
alt_level {P} h levels below part is =
    subst P (sym (yields_join_lem.alt part))
    (h.joins.join (pat_items (out-Alt part).pattern) (body_items exp_items (out-Alt part).body ++ where_items decl_items (out-Alt part).locals) (patterns_keep (patterns_of h) levels PatPlace.Whole (out-Alt part).pattern is.0)
    (h.joins.join (body_items exp_items (out-Alt part).body) (where_items decl_items (out-Alt part).locals) (body_keeps h levels below IsArrow (arrow_mark h) (out-Alt part).body is.1.0)
    (where_keeps h levels below (out-Alt part).locals is.1.1)))

-- blocks
piece_keeps : {P Q : List Item → Type 0} → InTrees P Q → {T : Type 0} (of : T → List Item) (Is : T → Type 0) → ((part : T) → Is part → P (of part)) → (piece : Piece T) → IsPiece Is piece → P (piece_items of piece)
piece_keeps h of Is each (Piece.Semicolon item) is = of_text (patterns_of h) Class.Special (codes ";") item is refl
piece_keeps h of Is each (Piece.Part part) is = each part is

two_keep : {P : List Item → Type 0} → Joins P → (First Top : Piece Decl → Type 0) → ((piece : Piece Decl) → First piece → P (piece_items decl_items piece)) → ((piece : Piece Decl) → Top piece → P (piece_items decl_items piece))
    → (imports others : List (Piece Decl)) → AllByRecursion First imports → AllByRecursion Top others → P (flat_map (piece_items decl_items) (imports ++ others))
two_keep joins First Top f t [] others p q = all_of joins (piece_items decl_items) Top t others q
two_keep joins First Top f t (piece ∷ imports) others p q = joins.join (piece_items decl_items piece) (flat_map (piece_items decl_items) (imports ++ others)) (f piece p.0) (two_keep joins First Top f t imports others p.1 q)

block_keeps : {P Q : List Item → Type 0} → InTrees P Q → {T : Type 0} (of : T → List Item) (layout : Layout) (pieces : List (Piece T)) → AreBraced layout pieces → P (flat_map (piece_items of) pieces) → P (block_items of (record { layout = layout; pieces = pieces }))
block_keeps h of (Layout.Implicit col) pieces braced p = h.joins.join (flat_map (piece_items of) pieces) [] p h.joins.nothing
block_keeps h of (Layout.Explicit left right) pieces braced p = h.braces left right (flat_map (piece_items of) pieces) braced.0 braced.1.0 p

pieces_keep : {P Q : List Item → Type 0} → InTrees P Q → {T : Type 0} (of : T → List Item) (Is : T → Type 0) → ((part : T) → Is part → P (of part)) → (block : Block T) → AreBraced block.layout block.pieces → AllByRecursion (IsPiece Is) block.pieces → P (block_items of block)
pieces_keep h of Is each block braced is = block_keeps h of block.layout block.pieces braced (all_of h.joins (piece_items of) (IsPiece Is) (piece_keeps h of Is each) block.pieces is)

declarations_keep : {P Q : List Item → Type 0} → InTrees P Q → (levels : ℕ) → Below P levels → (place : DeclPlace) (block : Block Decl) → AreDeclarationsOver (nodes levels) place block → P (block_items decl_items block)
declarations_keep {P} h levels below DeclPlace.Top block is =
    block_keeps h decl_items block.layout block.pieces is.0 (subst (λ pieces. P (flat_map (piece_items decl_items) pieces)) (sym is.1.2)
    (two_keep h.joins (IsPiece ((nodes levels).decl DeclPlace.First)) (IsPiece ((nodes levels).decl DeclPlace.Top)) (piece_keeps h decl_items ((nodes levels).decl DeclPlace.First) (below.decl DeclPlace.First))
    (piece_keeps h decl_items ((nodes levels).decl DeclPlace.Top) (below.decl DeclPlace.Top)) is.1.0 is.1.1 is.1.3 is.1.4))
declarations_keep h levels below DeclPlace.First block is = pieces_keep h decl_items ((nodes levels).decl DeclPlace.First) (below.decl DeclPlace.First) block is.0 is.1
declarations_keep h levels below DeclPlace.Local block is = pieces_keep h decl_items ((nodes levels).decl DeclPlace.Local) (below.decl DeclPlace.Local) block is.0 is.1

-- all that stands on a level
pub levels_keep : {P Q : List Item → Type 0} → InTrees P Q → (levels : ℕ) → Below P levels
levels_keep h zero = record {
  exp = λ free place part is. elim is [ ];
  decl = λ place part is. elim is [ ];
  alt = λ part is. elim is [ ];
  declarations = λ place block is. elim is [ ];
  alternatives = λ block is. elim is [ ];
}
levels_keep {P} h (suc levels) = let below = levels_keep h levels in record {
  exp = λ free place part is. subst P (sym (yields_join_lem.exp part)) (exp_level h levels below free place (out-Exp part) is);
  decl = λ place part is. subst P (sym (yields_join_lem.decl part)) (decl_level h levels below place (out-Decl part) is);
  alt = alt_level h levels below;
  declarations = declarations_keep h levels below;
  alternatives = λ block is. pieces_keep h alt_items (nodes levels).alt below.alt block is.0 is.1;
}
