-- The blocks of declarations and alternatives begin behind their opening words, and so those of all trees: one
-- recursion on the levels.
use Rattle.std.proofs.Common.{◌≡◌, ℕ, zero, suc, List, [], ◌∷◌, ◌++◌, map, Option, Some, None, refl, sym, ap, subst}
use Rattle.std.specs.List.{AllByRecursion, flat_map}
use Rattle.std.proofs.lemmas.List.{append-nil}
use lib.Chars.{codes}
use Rattle.hr_base.specs.declared.lexeme.Class.{Class}
use Rattle.hr_base.specs.declared.lexeme.Ending.{Ending}
use Rattle.hr_base.specs.declared.lexeme.Item.{Item}
use Rattle.hr_rules.specs.declared.block.BlockKind.{BlockKind}
use Rattle.hr_tree.specs.declared.lists.Piece.{Piece}
use Rattle.hr_tree.specs.declared.lists.Block.{Block}
use Rattle.hr_tree.specs.declared.declarations.Body.{Body}
use Rattle.hr_tree.specs.declared.declarations.Guarded.{Guarded}
use Rattle.hr_tree.specs.declared.declarations.Where.{Where}
use Rattle.hr_tree.specs.declared.patterns.Pat.{Pat}
use Rattle.hr_tree.specs.declared.expressions.Exp.{Exp, out-Exp}
use Rattle.hr_tree.specs.declared.expressions.Decl.{Decl, out-Decl, roll-Decl}
use Rattle.hr_tree.specs.declared.expressions.Alt.{Alt, out-Alt, roll-Alt}
use Rattle.hr_tree.specs.declared.expressions.Qualifier.{Qualifier}
use Rattle.hr_tree.specs.declared.expressions.Decl.TheOpen.{Decl-F}
use Rattle.hr_tree.specs.declared.expressions.Decl.TheFolds.{fold-roll-Decl, fold-roll-Alt}
use Rattle.hr_tree.specs.declared.expressions.Decl.TheViews.{roll-out-Exp, roll-out-Decl, roll-out-Alt}
use Rattle.hr_tree.specs.Names.{variable_items, operator_items, maybe_item}
use Rattle.hr_tree.specs.Lists.{listed_items, piece_items, block_items, guarded_items, body_items, where_items}
use Rattle.hr_tree.specs.Yields.{ty_items, pat_items, type_head_items, construction_items, left_side_items, import_items, exp_items, decl_items, alt_items}
use Rattle.hr_tree.proofs.ExpressionYields.{alt_whole}
use Rattle.hr_grammar.specs.Words.{IsComma, IsEquals, IsArrow}
use Rattle.hr_grammar.specs.Spelled.{IsVariable, IsOwnOperator}
use Rattle.hr_grammar.specs.Nodes.{Colons, TyPlace, PatPlace, ExpPlace, DeclPlace}
use Rattle.hr_grammar.specs.Declarations.{DeclProduction, IsAltOver, IsGuardedOver, IsBodyOver, IsWhereOver, IsDigit}
use Rattle.hr_grammar.specs.Blocks.{IsPiece}
use Rattle.hr_grammar.specs.Yields.{nodes, AreDeclarationsOver, AreAlternativesOver}
use Rattle.hr_grammar.specs.Spans.{Laid, row, piece_laid, guarded_laid, body_laid, right_side_laid, block_laid, exp_laid, decl_laid, qualifier_laid, alt_laid, laid_of, top_ending}
use Rattle.hr_grammar.proofs.Joins.{decl_layers}
use Rattle.hr_grammar.proofs.walk.Lists.{maybe, separated}
use Rattle.hr_grammar.proofs.walk.Names.{of_class, comma, variable, own_operator}
use Rattle.hr_grammar.proofs.walk.TypesAndPatterns.{types_keep, patterns_keep}
use Rattle.hr_grammar.proofs.walk.Heads.{type_head_keeps, constructions_keep, new_construction_keeps, left_side_keeps, fixity_keeps}
use Rattle.hr_grammar.proofs.walk.Imports.{import_keeps}
use Rattle.hr_grammar_edge_laws.specs.Openings.{IsNoOpening, IsLaidBy}
use Rattle.hr_grammar_edge_laws.specs.Laws.{exp_stretch, alt_stretch}
use Rattle.hr_grammar_edge_laws.proofs.Openings.{same, plain, join, ends_as, IsBlockBy, opened, piece_by, pieces_by, braced_by}
use Rattle.hr_grammar_edge_laws.proofs.Plain.{of_text, plain_types, plain_patterns}
use Rattle.hr_grammar_edge_laws.proofs.Stretches.{Below, token, opens, exp_level}

-- right sides, as they are turned with their parts
abbrev turned_guarded : Guarded Exp → Guarded Laid
turned_guarded g = record { bar = g.bar; guard = exp_stretch g.guard; mark = g.mark; body = exp_stretch g.body }

guarded_by : (levels : ℕ) → Below levels → (IsMark : Item → Type 0) → ((item : Item) → IsMark item → IsNoOpening item)
    → (guarded : Guarded Exp) → IsGuardedOver (nodes levels) IsMark guarded → IsLaidBy (guarded_items exp_items guarded) (guarded_laid (turned_guarded guarded))
guarded_by levels below IsMark sign guarded is =
    join (token (codes "|") Class.ReservedOp guarded.bar is.0 refl) (join (below.exp Colons.Barred ExpPlace.Sequence guarded.guard is.1.0)
    (join (plain (guarded.mark ∷ []) (sign guarded.mark is.1.1.0, tt)) (below.exp Colons.Allowed ExpPlace.Whole guarded.body is.1.1.1)))

guards_by : (levels : ℕ) → Below levels → (IsMark : Item → Type 0) → ((item : Item) → IsMark item → IsNoOpening item)
    → (list : List (Guarded Exp)) → AllByRecursion (IsGuardedOver (nodes levels) IsMark) list → IsLaidBy (flat_map (guarded_items exp_items) list) (row (map guarded_laid (map turned_guarded list)))
guards_by levels below IsMark sign [] is = plain [] tt
guards_by levels below IsMark sign (guarded ∷ list) is = join (guarded_by levels below IsMark sign guarded is.0) (guards_by levels below IsMark sign list is.1)

abbrev turned_body : Body Exp → Body Laid
turned_body (Body.Plain mark body) = Body.Plain mark (exp_stretch body)
turned_body (Body.Guarded list) = Body.Guarded (map turned_guarded list)

body_by : (levels : ℕ) → Below levels → (IsMark : Item → Type 0) → ((item : Item) → IsMark item → IsNoOpening item)
    → (body : Body Exp) → IsBodyOver (nodes levels) IsMark body → IsLaidBy (body_items exp_items body) (body_laid (turned_body body))
body_by levels below IsMark sign (Body.Plain mark body) is = ends_as _ (join (plain (mark ∷ []) (sign mark is.0, tt)) (below.exp Colons.Allowed ExpPlace.Whole body is.1))
body_by levels below IsMark sign (Body.Guarded list) is = ends_as _ (guards_by levels below IsMark sign list is.1)

abbrev turned_where : (Piece Decl → Piece Laid) → Where Decl → Where Laid
turned_where turn locals = record { word = locals.word; block = record { layout = locals.block.layout; pieces = map turn locals.block.pieces } }

no_where : {items : List Item} (body : Body Laid) → IsLaidBy items (body_laid body) → IsLaidBy (items ++ []) (right_side_laid body None)
no_where {items} body is = same (append-nil items) refl is

with_where : (levels : ℕ) → Below levels → {items : List Item} (body : Body Laid) → IsLaidBy items (body_laid body)
    → (locals : Where Decl) → IsWhereOver (nodes levels) (Some locals)
    → (turn : Piece Decl → Piece Laid) → ((item : Item) → turn (Piece.Semicolon item) ≡ Piece.Semicolon item) → ((part : Decl) → turn (Piece.Part part) ≡ Piece.Part (laid_of part))
    → IsLaidBy (items ++ where_items decl_items (Some locals)) (right_side_laid body (Some (turned_where turn locals)))
with_where levels below {items} body is locals w turn s p =
    ends_as Ending.WhereBlock (join is (opened locals.word (opens (codes "where") locals.word w.0 refl) (below.declarations BlockKind.Declarations DeclPlace.Local locals.block w.1 turn s p)))

equals_plain : (item : Item) → IsEquals item → IsNoOpening item
equals_plain item is = of_text Class.ReservedOp (codes "=") item is refl

arrow_plain : (item : Item) → IsArrow item → IsNoOpening item
arrow_plain item is = of_text Class.ReservedOp (codes "->") item is refl

decl_level : (levels : ℕ) → Below levels → (place : DeclPlace) (layer : Decl-F Decl Exp Qualifier Alt) → DeclProduction (nodes levels) place layer → IsLaidBy (decl_items (roll-Decl layer)) (laid_of (roll-Decl layer))
decl_level levels below place (Decl-F.Import import) is =
    same (decl_layers (Decl-F.Import import)) (fold-roll-Decl Laid Laid Laid Laid decl_laid exp_laid qualifier_laid alt_laid (Decl-F.Import import))
    (ends_as top_ending (plain (import_items import) (import_keeps plain_patterns import is.1)))
decl_level levels below place (Decl-F.Synonym word head equals ty) is =
    same (decl_layers (Decl-F.Synonym word head equals ty)) (fold-roll-Decl Laid Laid Laid Laid decl_laid exp_laid qualifier_laid alt_laid (Decl-F.Synonym word head equals ty))
    (ends_as top_ending (join (token (codes "type") Class.ReservedId word is.1 refl) (join (plain (type_head_items head) (type_head_keeps plain_patterns head is.2)) (join (token (codes "=") Class.ReservedOp equals is.3 refl) (plain (ty_items ty) (types_keep plain_types levels TyPlace.Whole ty is.4))))))
decl_level levels below place (Decl-F.Data word head equals constructions) is =
    same (decl_layers (Decl-F.Data word head equals constructions)) (fold-roll-Decl Laid Laid Laid Laid decl_laid exp_laid qualifier_laid alt_laid (Decl-F.Data word head equals constructions))
    (ends_as top_ending (join (token (codes "data") Class.ReservedId word is.1 refl) (join (plain (type_head_items head) (type_head_keeps plain_patterns head is.2)) (join (token (codes "=") Class.ReservedOp equals is.3 refl) (plain (flat_map (listed_items construction_items) constructions) (constructions_keep plain_types levels constructions is.4))))))
decl_level levels below place (Decl-F.Newtype word head equals construction) is =
    same (decl_layers (Decl-F.Newtype word head equals construction)) (fold-roll-Decl Laid Laid Laid Laid decl_laid exp_laid qualifier_laid alt_laid (Decl-F.Newtype word head equals construction))
    (ends_as top_ending (join (token (codes "newtype") Class.ReservedId word is.1 refl) (join (plain (type_head_items head) (type_head_keeps plain_patterns head is.2)) (join (token (codes "=") Class.ReservedOp equals is.3 refl) (plain (construction_items construction) (new_construction_keeps plain_types levels construction is.4))))))
decl_level levels below place (Decl-F.Signature names colons ty) is =
    same (decl_layers (Decl-F.Signature names colons ty)) (fold-roll-Decl Laid Laid Laid Laid decl_laid exp_laid qualifier_laid alt_laid (Decl-F.Signature names colons ty))
    (ends_as Ending.Signature (join (plain (flat_map (listed_items variable_items) names) (separated plain_patterns.joins variable_items IsComma IsVariable (comma plain_patterns) (variable plain_patterns) names is.1)) (join (token (codes "::") Class.ReservedOp colons is.3 refl) (plain (ty_items ty) (types_keep plain_types levels TyPlace.Whole ty is.4)))))
decl_level levels below place (Decl-F.Fixity word level operators) is =
    same (decl_layers (Decl-F.Fixity word level operators)) (fold-roll-Decl Laid Laid Laid Laid decl_laid exp_laid qualifier_laid alt_laid (Decl-F.Fixity word level operators))
    (ends_as Ending.Fixity (join (plain (word ∷ []) (fixity_keeps plain_patterns word is.1 is.2)) (join (plain (maybe_item level) (maybe plain_patterns.joins IsDigit (λ item d. of_class plain_patterns Class.Integer item d.0 refl) level is.3)) (plain (flat_map (listed_items operator_items) operators) (separated plain_patterns.joins operator_items IsComma IsOwnOperator (comma plain_patterns) (own_operator plain_patterns) operators is.4)))))
decl_level levels below place (Decl-F.Equation left (Body.Plain mark body) None) is =
    same (decl_layers (Decl-F.Equation left (Body.Plain mark body) None)) (fold-roll-Decl Laid Laid Laid Laid decl_laid exp_laid qualifier_laid alt_laid (Decl-F.Equation left (Body.Plain mark body) None))
    (join (plain (left_side_items left) (left_side_keeps plain_patterns levels left is.1)) (no_where (turned_body (Body.Plain mark body)) (body_by levels below IsEquals equals_plain (Body.Plain mark body) is.2)))
decl_level levels below place (Decl-F.Equation left (Body.Plain mark body) (Some locals)) is =
    same (decl_layers (Decl-F.Equation left (Body.Plain mark body) (Some locals))) (fold-roll-Decl Laid Laid Laid Laid decl_laid exp_laid qualifier_laid alt_laid (Decl-F.Equation left (Body.Plain mark body) (Some locals)))
    (join (plain (left_side_items left) (left_side_keeps plain_patterns levels left is.1)) (with_where levels below (turned_body (Body.Plain mark body)) (body_by levels below IsEquals equals_plain (Body.Plain mark body) is.2) locals is.3 _ (λ item. refl) (λ part. refl)))
decl_level levels below place (Decl-F.Equation left (Body.Guarded list) None) is =
    same (decl_layers (Decl-F.Equation left (Body.Guarded list) None)) (fold-roll-Decl Laid Laid Laid Laid decl_laid exp_laid qualifier_laid alt_laid (Decl-F.Equation left (Body.Guarded list) None))
    (join (plain (left_side_items left) (left_side_keeps plain_patterns levels left is.1)) (no_where (turned_body (Body.Guarded list)) (body_by levels below IsEquals equals_plain (Body.Guarded list) is.2)))
decl_level levels below place (Decl-F.Equation left (Body.Guarded list) (Some locals)) is =
    same (decl_layers (Decl-F.Equation left (Body.Guarded list) (Some locals))) (fold-roll-Decl Laid Laid Laid Laid decl_laid exp_laid qualifier_laid alt_laid (Decl-F.Equation left (Body.Guarded list) (Some locals)))
    (join (plain (left_side_items left) (left_side_keeps plain_patterns levels left is.1)) (with_where levels below (turned_body (Body.Guarded list)) (body_by levels below IsEquals equals_plain (Body.Guarded list) is.2) locals is.3 _ (λ item. refl) (λ part. refl)))
decl_level levels below place (Decl-F.Binding pattern (Body.Plain mark body) None) is =
    same (decl_layers (Decl-F.Binding pattern (Body.Plain mark body) None)) (fold-roll-Decl Laid Laid Laid Laid decl_laid exp_laid qualifier_laid alt_laid (Decl-F.Binding pattern (Body.Plain mark body) None))
    (join (plain (pat_items pattern) (patterns_keep plain_patterns levels PatPlace.Whole pattern is.1)) (no_where (turned_body (Body.Plain mark body)) (body_by levels below IsEquals equals_plain (Body.Plain mark body) is.2)))
decl_level levels below place (Decl-F.Binding pattern (Body.Plain mark body) (Some locals)) is =
    same (decl_layers (Decl-F.Binding pattern (Body.Plain mark body) (Some locals))) (fold-roll-Decl Laid Laid Laid Laid decl_laid exp_laid qualifier_laid alt_laid (Decl-F.Binding pattern (Body.Plain mark body) (Some locals)))
    (join (plain (pat_items pattern) (patterns_keep plain_patterns levels PatPlace.Whole pattern is.1)) (with_where levels below (turned_body (Body.Plain mark body)) (body_by levels below IsEquals equals_plain (Body.Plain mark body) is.2) locals is.3 _ (λ item. refl) (λ part. refl)))
decl_level levels below place (Decl-F.Binding pattern (Body.Guarded list) None) is =
    same (decl_layers (Decl-F.Binding pattern (Body.Guarded list) None)) (fold-roll-Decl Laid Laid Laid Laid decl_laid exp_laid qualifier_laid alt_laid (Decl-F.Binding pattern (Body.Guarded list) None))
    (join (plain (pat_items pattern) (patterns_keep plain_patterns levels PatPlace.Whole pattern is.1)) (no_where (turned_body (Body.Guarded list)) (body_by levels below IsEquals equals_plain (Body.Guarded list) is.2)))
decl_level levels below place (Decl-F.Binding pattern (Body.Guarded list) (Some locals)) is =
    same (decl_layers (Decl-F.Binding pattern (Body.Guarded list) (Some locals))) (fold-roll-Decl Laid Laid Laid Laid decl_laid exp_laid qualifier_laid alt_laid (Decl-F.Binding pattern (Body.Guarded list) (Some locals)))
    (join (plain (pat_items pattern) (patterns_keep plain_patterns levels PatPlace.Whole pattern is.1)) (with_where levels below (turned_body (Body.Guarded list)) (body_by levels below IsEquals equals_plain (Body.Guarded list) is.2) locals is.3 _ (λ item. refl) (λ part. refl)))

-- an alternative is a record, which is opened
alt_level : (levels : ℕ) → Below levels → (pattern : Pat) (body : Body Exp) (locals : Option (Where Decl))
    → (nodes levels).pat PatPlace.Whole pattern → IsBodyOver (nodes levels) IsArrow body → IsWhereOver (nodes levels) locals
    → IsLaidBy (pat_items pattern ++ (body_items exp_items body ++ where_items decl_items locals)) (alt_stretch (roll-Alt (record { pattern = pattern; body = body; locals = locals })))
alt_level levels below pattern (Body.Plain mark body) None p q w =
    same refl (fold-roll-Alt Laid Laid Laid Laid decl_laid exp_laid qualifier_laid alt_laid (record { pattern = pattern; body = Body.Plain mark body; locals = None }))
    (join (plain (pat_items pattern) (patterns_keep plain_patterns levels PatPlace.Whole pattern p)) (no_where (turned_body (Body.Plain mark body)) (body_by levels below IsArrow arrow_plain (Body.Plain mark body) q)))
alt_level levels below pattern (Body.Plain mark body) (Some locals) p q w =
    same refl (fold-roll-Alt Laid Laid Laid Laid decl_laid exp_laid qualifier_laid alt_laid (record { pattern = pattern; body = Body.Plain mark body; locals = (Some locals) }))
    (join (plain (pat_items pattern) (patterns_keep plain_patterns levels PatPlace.Whole pattern p)) (with_where levels below (turned_body (Body.Plain mark body)) (body_by levels below IsArrow arrow_plain (Body.Plain mark body) q) locals w _ (λ item. refl) (λ part. refl)))
alt_level levels below pattern (Body.Guarded list) None p q w =
    same refl (fold-roll-Alt Laid Laid Laid Laid decl_laid exp_laid qualifier_laid alt_laid (record { pattern = pattern; body = Body.Guarded list; locals = None }))
    (join (plain (pat_items pattern) (patterns_keep plain_patterns levels PatPlace.Whole pattern p)) (no_where (turned_body (Body.Guarded list)) (body_by levels below IsArrow arrow_plain (Body.Guarded list) q)))
alt_level levels below pattern (Body.Guarded list) (Some locals) p q w =
    same refl (fold-roll-Alt Laid Laid Laid Laid decl_laid exp_laid qualifier_laid alt_laid (record { pattern = pattern; body = Body.Guarded list; locals = (Some locals) }))
    (join (plain (pat_items pattern) (patterns_keep plain_patterns levels PatPlace.Whole pattern p)) (with_where levels below (turned_body (Body.Guarded list)) (body_by levels below IsArrow arrow_plain (Body.Guarded list) q) locals w _ (λ item. refl) (λ part. refl)))

alt_by : (levels : ℕ) → Below levels → (alt : Alt) → IsAltOver (nodes levels) alt → IsLaidBy (alt_items alt) (alt_stretch alt)
alt_by levels below alt is = same (alt_whole alt) (ap alt_stretch (sym (roll-out-Alt alt))) (alt_level levels below (out-Alt alt).pattern (out-Alt alt).body (out-Alt alt).locals is.0 is.1.0 is.1.1)

-- blocks: imports first, and then the other declarations of a body
two_by : (levels : ℕ) → Below levels → (turn : Piece Decl → Piece Laid) → ((item : Item) → turn (Piece.Semicolon item) ≡ Piece.Semicolon item) → ((part : Decl) → turn (Piece.Part part) ≡ Piece.Part (laid_of part))
    → (imports others : List (Piece Decl)) → AllByRecursion (IsPiece ((nodes levels).decl DeclPlace.First)) imports → AllByRecursion (IsPiece ((nodes levels).decl DeclPlace.Top)) others
    → IsLaidBy (flat_map (piece_items decl_items) (imports ++ others)) (row (map piece_laid (map turn (imports ++ others))))
two_by levels below turn s p [] others f t = pieces_by ((nodes levels).decl DeclPlace.Top) decl_items laid_of (below.decl DeclPlace.Top) turn s p others t
two_by levels below turn s p (piece ∷ imports) others f t =
    join (piece_by ((nodes levels).decl DeclPlace.First) decl_items laid_of (below.decl DeclPlace.First) turn s p piece f.0) (two_by levels below turn s p imports others f.1 t)

declarations_by : (levels : ℕ) → Below levels → (kind : BlockKind) (place : DeclPlace) (block : Block Decl) → AreDeclarationsOver (nodes levels) place block
    → (turn : Piece Decl → Piece Laid) → ((item : Item) → turn (Piece.Semicolon item) ≡ Piece.Semicolon item) → ((part : Decl) → turn (Piece.Part part) ≡ Piece.Part (laid_of part))
    → IsBlockBy (block_items decl_items block) (block_laid kind (record { layout = block.layout; pieces = map turn block.pieces }))
declarations_by levels below kind DeclPlace.Top block is turn s p =
    braced_by kind decl_items turn block is.0 (subst (λ pieces. IsLaidBy (flat_map (piece_items decl_items) pieces) (row (map piece_laid (map turn pieces)))) (sym is.1.2)
    (two_by levels below turn s p is.1.0 is.1.1 is.1.3 is.1.4))
declarations_by levels below kind DeclPlace.First block is turn s p =
    braced_by kind decl_items turn block is.0 (pieces_by ((nodes levels).decl DeclPlace.First) decl_items laid_of (below.decl DeclPlace.First) turn s p block.pieces is.1)
declarations_by levels below kind DeclPlace.Local block is turn s p =
    braced_by kind decl_items turn block is.0 (pieces_by ((nodes levels).decl DeclPlace.Local) decl_items laid_of (below.decl DeclPlace.Local) turn s p block.pieces is.1)

alternatives_by : (levels : ℕ) → Below levels → (block : Block Alt) → AreAlternativesOver (nodes levels) block
    → (turn : Piece Alt → Piece Laid) → ((item : Item) → turn (Piece.Semicolon item) ≡ Piece.Semicolon item) → ((part : Alt) → turn (Piece.Part part) ≡ Piece.Part (alt_stretch part))
    → IsBlockBy (block_items alt_items block) (block_laid BlockKind.Alternatives (record { layout = block.layout; pieces = map turn block.pieces }))
alternatives_by levels below block is turn s p =
    braced_by BlockKind.Alternatives alt_items turn block is.0 (pieces_by (nodes levels).alt alt_items alt_stretch below.alt turn s p block.pieces is.1)

pub all_below : (levels : ℕ) → Below levels
all_below zero = record {
  exp = λ free place part is. elim is [ ];
  decl = λ place part is. elim is [ ];
  alt = λ part is. elim is [ ];
  declarations = λ kind place block is turn s p. elim is [ ];
  alternatives = λ block is turn s p. elim is [ ];
}
all_below (suc levels) = let below = all_below levels in record {
  exp = λ free place part is. subst (λ e. IsLaidBy (exp_items e) (exp_stretch e)) (roll-out-Exp part) (exp_level levels below free place (out-Exp part) is);
  decl = λ place part is. subst (λ d. IsLaidBy (decl_items d) (laid_of d)) (roll-out-Decl part) (decl_level levels below place (out-Decl part) is);
  alt = alt_by levels below;
  declarations = declarations_by levels below;
  alternatives = alternatives_by levels below;
}
