-- The blocks of expressions, declarations and alternatives begin behind their opening words: one recursion on the
-- levels.
use Rattle.std.proofs.Common.{◌≡◌, ℕ, true, false, List, [], ◌∷◌, map, refl, sym, ap₂, ◌∙◌, subst}
use Rattle.std.specs.List.{flat_map}
use lib.Chars.{codes}
use Rattle.hr_base.specs.declared.lexeme.Class.{Class}
use Rattle.hr_base.specs.declared.lexeme.Ending.{Ending}
use Rattle.hr_base.specs.declared.lexeme.Item.{Item}
use Rattle.hr_rules.specs.declared.block.BlockKind.{BlockKind}
use Rattle.hr_tree.specs.declared.lists.Operand.{Operand}
use Rattle.hr_tree.specs.declared.lists.Piece.{Piece}
use Rattle.hr_tree.specs.declared.lists.Block.{Block}
use Rattle.hr_tree.specs.declared.expressions.Exp.{Exp, roll-Exp}
use Rattle.hr_tree.specs.declared.expressions.Decl.{Decl}
use Rattle.hr_tree.specs.declared.expressions.Alt.{Alt}
use Rattle.hr_tree.specs.declared.expressions.Qualifier.{Qualifier, out-Qualifier, roll-Qualifier}
use Rattle.hr_tree.specs.declared.expressions.Decl.TheOpen.{Exp-F, Qualifier-F}
use Rattle.hr_tree.specs.declared.expressions.Decl.TheFolds.{fold-roll-Exp, fold-roll-Qualifier}
use Rattle.hr_tree.specs.declared.expressions.Decl.TheViews.{roll-out-Qualifier}
use Rattle.hr_tree.specs.Names.{constructor_items, variable_items, operator_items, maybe_item, maybe_operator}
use Rattle.hr_tree.specs.Lists.{operand_items, block_items}
use Rattle.hr_tree.specs.Yields.{ty_items, pat_items, exp_items, decl_items, qualifier_items, alt_items}
use Rattle.hr_grammar.specs.Words.{IsText, IsMinus, IsComma, IsWord}
use Rattle.hr_grammar.specs.Nodes.{Colons, TyPlace, PatPlace, ExpPlace, DeclPlace}
use Rattle.hr_grammar.specs.Expressions.{ExpProduction, QualifierProduction, IsQualifierOver, AreExpOperands, last_operand}
use Rattle.hr_grammar.specs.Yields.{nodes}
use Rattle.hr_grammar.specs.Spans.{Laid, one, row, operand_laid, block_laid, exp_laid, decl_laid, qualifier_laid, alt_laid, laid_of}
use Rattle.hr_grammar.proofs.Joins.{exp_layers, qualifier_layers}
use Rattle.hr_grammar.proofs.walk.Lists.{maybe, no_operator, all_of}
use Rattle.hr_grammar.proofs.walk.Names.{minus, literal, constructor, named_variable, any_operator}
use Rattle.hr_grammar.proofs.walk.TypesAndPatterns.{types_keep, patterns_keep}
use Rattle.hr_grammar_edge_laws.specs.Openings.{is_opening, opens_block, IsNoOpening, AreNoOpenings, IsLaidBy}
use Rattle.hr_grammar_edge_laws.specs.Laws.{exp_stretch, qualifier_stretch, alt_stretch}
use Rattle.hr_grammar_edge_laws.proofs.Openings.{same, plain, join, ends_as, IsBlockBy, join_block, opened, all_by, separated_by}
use Rattle.hr_grammar_edge_laws.proofs.Plain.{of_text, special, plain_types, plain_patterns}

-- one lexeme
pub token : (text : List ℕ) (class : Class) (item : Item) → IsText class text item → opens_block class text ≡ false → IsLaidBy (item ∷ []) (one item)
token text class item is o = plain (item ∷ []) (of_text class text item is o, tt)

pub bracket : (text : List ℕ) (item : Item) → IsText Class.Special text item → IsLaidBy (item ∷ []) (one item)
bracket text item is = plain (item ∷ []) (special text item is, tt)

-- an opening word opens a block
pub opens : (text : List ℕ) (word : Item) → IsWord text word → opens_block Class.ReservedId text ≡ true → is_opening word ≡ true
opens text word is o = ap₂ opens_block is.0 is.1 ∙ o

comma_plain : (item : Item) → IsComma item → IsNoOpening item
comma_plain item is = special (codes ",") item is

-- all that stands on a level. A block's pieces are turned by what turns their parts
pub record Below (levels : ℕ) : Type 0 where
  pub exp : (free : Colons) (place : ExpPlace) (part : Exp) → (nodes levels).exp free place part → IsLaidBy (exp_items part) (exp_stretch part)
  pub decl : (place : DeclPlace) (part : Decl) → (nodes levels).decl place part → IsLaidBy (decl_items part) (laid_of part)
  pub alt : (part : Alt) → (nodes levels).alt part → IsLaidBy (alt_items part) (alt_stretch part)
  pub declarations : (kind : BlockKind) (place : DeclPlace) (block : Block Decl) → (nodes levels).declarations place block
      → (turn : Piece Decl → Piece Laid) → ((item : Item) → turn (Piece.Semicolon item) ≡ Piece.Semicolon item) → ((part : Decl) → turn (Piece.Part part) ≡ Piece.Part (laid_of part))
      → IsBlockBy (block_items decl_items block) (block_laid kind (record { layout = block.layout; pieces = map turn block.pieces }))
  pub alternatives : (block : Block Alt) → (nodes levels).alternatives block
      → (turn : Piece Alt → Piece Laid) → ((item : Item) → turn (Piece.Semicolon item) ≡ Piece.Semicolon item) → ((part : Alt) → turn (Piece.Part part) ≡ Piece.Part (alt_stretch part))
      → IsBlockBy (block_items alt_items block) (block_laid BlockKind.Alternatives (record { layout = block.layout; pieces = map turn block.pieces }))

abbrev turned_operand : Operand Exp → Operand Laid
turned_operand o = record { minus = o.minus; part = exp_stretch o.part; operator = o.operator }

operands : (levels : ℕ) → Below levels → (free : Colons) (last : ExpPlace) (list : List (Operand Exp)) → AreExpOperands (nodes levels) free last list
    → IsLaidBy (flat_map (operand_items exp_items) list) (row (map operand_laid (map turned_operand list)))
operands levels below free last [] is = plain [] tt
operands levels below free last (operand ∷ []) is =
    join (join (plain (maybe_item operand.minus) (maybe plain_patterns.joins IsMinus (minus plain_patterns) operand.minus is.0)) (join (below.exp free last operand.part is.1) (plain (maybe_operator operand.operator) (no_operator plain_patterns.joins operand.operator is.2)))) (plain [] tt)
operands levels below free last (operand ∷ (next ∷ rest)) is =
    join (join (plain (maybe_item operand.minus) (maybe plain_patterns.joins IsMinus (minus plain_patterns) operand.minus is.0))
    (join (below.exp free ExpPlace.Operand operand.part is.1) (plain (maybe_operator operand.operator) (subst (λ o. AreNoOpenings (maybe_operator o)) (sym is.2.1) (any_operator plain_patterns is.2.0 is.2.2)))))
    (operands levels below free last (next ∷ rest) is.3)

qualifier_level : (levels : ℕ) → Below levels → (layer : Qualifier-F Decl Exp Qualifier Alt) → QualifierProduction (nodes levels) layer → IsLaidBy (qualifier_items (roll-Qualifier layer)) (qualifier_stretch (roll-Qualifier layer))
qualifier_level levels below (Qualifier-F.Generator pattern arrow part) is =
    same (qualifier_layers (Qualifier-F.Generator pattern arrow part)) (fold-roll-Qualifier Laid Laid Laid Laid decl_laid exp_laid qualifier_laid alt_laid (Qualifier-F.Generator pattern arrow part))
    (join (plain (pat_items pattern) (patterns_keep plain_patterns levels PatPlace.Whole pattern is.0)) (join (token (codes "<-") Class.ReservedOp arrow is.1 refl) (below.exp Colons.Allowed ExpPlace.Whole part is.2)))
qualifier_level levels below (Qualifier-F.Locals word block) is =
    same (qualifier_layers (Qualifier-F.Locals word block)) (fold-roll-Qualifier Laid Laid Laid Laid decl_laid exp_laid qualifier_laid alt_laid (Qualifier-F.Locals word block))
    (opened word (opens (codes "let") word is.0 refl) (below.declarations BlockKind.Declarations DeclPlace.Local block is.1 _ (λ item. refl) (λ part. refl)))
qualifier_level levels below (Qualifier-F.Test part) is =
    same (qualifier_layers (Qualifier-F.Test part)) (fold-roll-Qualifier Laid Laid Laid Laid decl_laid exp_laid qualifier_laid alt_laid (Qualifier-F.Test part))
    (below.exp Colons.Allowed ExpPlace.Whole part is)

pub qualifier : (levels : ℕ) → Below levels → (part : Qualifier) → IsQualifierOver (nodes levels) part → IsLaidBy (qualifier_items part) (qualifier_stretch part)
qualifier levels below part is = subst (λ q. IsLaidBy (qualifier_items q) (qualifier_stretch q)) (roll-out-Qualifier part) (qualifier_level levels below (out-Qualifier part) is)

pub exp_level : (levels : ℕ) → Below levels → (free : Colons) (place : ExpPlace) (layer : Exp-F Decl Exp Qualifier Alt) → ExpProduction (nodes levels) free place layer → IsLaidBy (exp_items (roll-Exp layer)) (exp_stretch (roll-Exp layer))
exp_level levels below free place (Exp-F.Variable named) is =
    same (exp_layers (Exp-F.Variable named)) (fold-roll-Exp Laid Laid Laid Laid decl_laid exp_laid qualifier_laid alt_laid (Exp-F.Variable named)) (plain (variable_items named) (named_variable plain_patterns named is))
exp_level levels below free place (Exp-F.Constructor named) is =
    same (exp_layers (Exp-F.Constructor named)) (fold-roll-Exp Laid Laid Laid Laid decl_laid exp_laid qualifier_laid alt_laid (Exp-F.Constructor named)) (plain (constructor_items named) (constructor plain_patterns named is))
exp_level levels below free place (Exp-F.Literal item) is =
    same (exp_layers (Exp-F.Literal item)) (fold-roll-Exp Laid Laid Laid Laid decl_laid exp_laid qualifier_laid alt_laid (Exp-F.Literal item)) (plain (item ∷ []) (literal plain_patterns item is))
exp_level levels below free place (Exp-F.Group left part right) is =
    same (exp_layers (Exp-F.Group left part right)) (fold-roll-Exp Laid Laid Laid Laid decl_laid exp_laid qualifier_laid alt_laid (Exp-F.Group left part right))
    (join (bracket (codes "(") left is.0) (join (below.exp Colons.Allowed ExpPlace.Whole part is.1) (bracket (codes ")") right is.2)))
exp_level levels below free place (Exp-F.Tuple left parts right) is =
    same (exp_layers (Exp-F.Tuple left parts right)) (fold-roll-Exp Laid Laid Laid Laid decl_laid exp_laid qualifier_laid alt_laid (Exp-F.Tuple left parts right))
    (join (bracket (codes "(") left is.0) (join (separated_by IsComma comma_plain ((nodes levels).exp Colons.Allowed ExpPlace.Whole) exp_items exp_stretch (below.exp Colons.Allowed ExpPlace.Whole) parts is.1) (bracket (codes ")") right is.3)))
exp_level levels below free place (Exp-F.List left parts right) is =
    same (exp_layers (Exp-F.List left parts right)) (fold-roll-Exp Laid Laid Laid Laid decl_laid exp_laid qualifier_laid alt_laid (Exp-F.List left parts right))
    (join (bracket (codes "[") left is.0) (join (separated_by IsComma comma_plain ((nodes levels).exp Colons.Allowed ExpPlace.Whole) exp_items exp_stretch (below.exp Colons.Allowed ExpPlace.Whole) parts is.1) (bracket (codes "]") right is.3)))
exp_level levels below free place (Exp-F.From left first dots right) is =
    same (exp_layers (Exp-F.From left first dots right)) (fold-roll-Exp Laid Laid Laid Laid decl_laid exp_laid qualifier_laid alt_laid (Exp-F.From left first dots right))
    (join (bracket (codes "[") left is.0) (join (below.exp Colons.Allowed ExpPlace.Whole first is.1) (join (token (codes "..") Class.ReservedOp dots is.2 refl) (bracket (codes "]") right is.3))))
exp_level levels below free place (Exp-F.FromThen left first comma second dots right) is =
    same (exp_layers (Exp-F.FromThen left first comma second dots right)) (fold-roll-Exp Laid Laid Laid Laid decl_laid exp_laid qualifier_laid alt_laid (Exp-F.FromThen left first comma second dots right))
    (join (bracket (codes "[") left is.0) (join (below.exp Colons.Allowed ExpPlace.Whole first is.1) (join (bracket (codes ",") comma is.2) (join (below.exp Colons.Allowed ExpPlace.Whole second is.3) (join (token (codes "..") Class.ReservedOp dots is.4 refl) (bracket (codes "]") right is.5))))))
exp_level levels below free place (Exp-F.FromTo left first dots last right) is =
    same (exp_layers (Exp-F.FromTo left first dots last right)) (fold-roll-Exp Laid Laid Laid Laid decl_laid exp_laid qualifier_laid alt_laid (Exp-F.FromTo left first dots last right))
    (join (bracket (codes "[") left is.0) (join (below.exp Colons.Allowed ExpPlace.Whole first is.1) (join (token (codes "..") Class.ReservedOp dots is.2 refl) (join (below.exp Colons.Allowed ExpPlace.Whole last is.3) (bracket (codes "]") right is.4)))))
exp_level levels below free place (Exp-F.FromThenTo left first comma second dots last right) is =
    same (exp_layers (Exp-F.FromThenTo left first comma second dots last right)) (fold-roll-Exp Laid Laid Laid Laid decl_laid exp_laid qualifier_laid alt_laid (Exp-F.FromThenTo left first comma second dots last right))
    (join (bracket (codes "[") left is.0) (join (below.exp Colons.Allowed ExpPlace.Whole first is.1) (join (bracket (codes ",") comma is.2) (join (below.exp Colons.Allowed ExpPlace.Whole second is.3) (join (token (codes "..") Class.ReservedOp dots is.4 refl) (join (below.exp Colons.Allowed ExpPlace.Whole last is.5) (bracket (codes "]") right is.6)))))))
exp_level levels below free place (Exp-F.Comprehension left part bar qualifiers right) is =
    same (exp_layers (Exp-F.Comprehension left part bar qualifiers right)) (fold-roll-Exp Laid Laid Laid Laid decl_laid exp_laid qualifier_laid alt_laid (Exp-F.Comprehension left part bar qualifiers right))
    (join (bracket (codes "[") left is.0) (join (below.exp Colons.Allowed ExpPlace.Whole part is.1) (join (token (codes "|") Class.ReservedOp bar is.2 refl) (join (separated_by IsComma comma_plain (IsQualifierOver (nodes levels)) qualifier_items qualifier_stretch (qualifier levels below) qualifiers is.3) (bracket (codes "]") right is.5)))))
exp_level levels below free place (Exp-F.LeftSection left part sign right) is =
    same (exp_layers (Exp-F.LeftSection left part sign right)) (fold-roll-Exp Laid Laid Laid Laid decl_laid exp_laid qualifier_laid alt_laid (Exp-F.LeftSection left part sign right))
    (join (bracket (codes "(") left is.0) (join (below.exp Colons.Allowed ExpPlace.Sequence part is.1) (join (plain (operator_items sign) (any_operator plain_patterns sign is.2)) (bracket (codes ")") right is.3))))
exp_level levels below free place (Exp-F.RightSection left sign part right) is =
    same (exp_layers (Exp-F.RightSection left sign part right)) (fold-roll-Exp Laid Laid Laid Laid decl_laid exp_laid qualifier_laid alt_laid (Exp-F.RightSection left sign part right))
    (join (bracket (codes "(") left is.0) (join (plain (operator_items sign) (any_operator plain_patterns sign is.1)) (join (below.exp Colons.Allowed ExpPlace.Sequence part is.3) (bracket (codes ")") right is.4))))
exp_level levels below free place (Exp-F.Apply atoms) is =
    same (exp_layers (Exp-F.Apply atoms)) (fold-roll-Exp Laid Laid Laid Laid decl_laid exp_laid qualifier_laid alt_laid (Exp-F.Apply atoms))
    (all_by ((nodes levels).exp free ExpPlace.Atom) exp_items exp_stretch (below.exp free ExpPlace.Atom) atoms is.2)
exp_level levels below free place (Exp-F.Case word part of_word block) is =
    same (exp_layers (Exp-F.Case word part of_word block)) (fold-roll-Exp Laid Laid Laid Laid decl_laid exp_laid qualifier_laid alt_laid (Exp-F.Case word part of_word block))
    (ends_as (Ending.Closed true false) (join (token (codes "case") Class.ReservedId word is.1 refl) (join (below.exp free ExpPlace.Whole part is.2) (opened of_word (opens (codes "of") of_word is.3 refl) (below.alternatives block is.4 _ (λ item. refl) (λ alt. refl))))))
exp_level levels below free place (Exp-F.Lambda mark patterns arrow body) is =
    same (exp_layers (Exp-F.Lambda mark patterns arrow body)) (fold-roll-Exp Laid Laid Laid Laid decl_laid exp_laid qualifier_laid alt_laid (Exp-F.Lambda mark patterns arrow body))
    (join (token (codes "\\") Class.ReservedOp mark is.1 refl) (join (plain (flat_map pat_items patterns) (all_of plain_patterns.joins pat_items ((nodes levels).pat PatPlace.Atomic) (patterns_keep plain_patterns levels PatPlace.Atomic) patterns is.3)) (join (token (codes "->") Class.ReservedOp arrow is.4 refl) (below.exp free ExpPlace.Whole body is.5))))
exp_level levels below free place (Exp-F.Let word block in_word body) is =
    same (exp_layers (Exp-F.Let word block in_word body)) (fold-roll-Exp Laid Laid Laid Laid decl_laid exp_laid qualifier_laid alt_laid (Exp-F.Let word block in_word body))
    (opened word (opens (codes "let") word is.1 refl) (join_block (below.declarations BlockKind.Declarations DeclPlace.Local block is.2 _ (λ item. refl) (λ part. refl)) (join (token (codes "in") Class.ReservedId in_word is.3 refl) (below.exp free ExpPlace.Whole body is.4))))
exp_level levels below free place (Exp-F.If word test then_word first else_word second) is =
    same (exp_layers (Exp-F.If word test then_word first else_word second)) (fold-roll-Exp Laid Laid Laid Laid decl_laid exp_laid qualifier_laid alt_laid (Exp-F.If word test then_word first else_word second))
    (join (token (codes "if") Class.ReservedId word is.1 refl) (join (below.exp free ExpPlace.Whole test is.2) (join (token (codes "then") Class.ReservedId then_word is.3 refl) (join (below.exp free ExpPlace.Whole first is.4) (join (token (codes "else") Class.ReservedId else_word is.5 refl) (below.exp free ExpPlace.Whole second is.6))))))
exp_level levels below free place (Exp-F.Infix list) is =
    same (exp_layers (Exp-F.Infix list)) (fold-roll-Exp Laid Laid Laid Laid decl_laid exp_laid qualifier_laid alt_laid (Exp-F.Infix list))
    (operands levels below free (last_operand place) list is.2)
exp_level levels below free place (Exp-F.Annotated part colons ty) is =
    same (exp_layers (Exp-F.Annotated part colons ty)) (fold-roll-Exp Laid Laid Laid Laid decl_laid exp_laid qualifier_laid alt_laid (Exp-F.Annotated part colons ty))
    (ends_as (Ending.Annotated true false) (join (below.exp Colons.Allowed ExpPlace.Annotated part is.2) (join (token (codes "::") Class.ReservedOp colons is.3 refl) (plain (ty_items ty) (types_keep plain_types levels TyPlace.Whole ty is.4)))))
exp_level levels below free place (Exp-F.Fields part left fields right) is = elim is [ ]
