-- What the nodes of expressions, qualifiers, declarations and alternatives yield.
use Rattle.std.proofs.Common.{◌≡◌, ℕ, List, [], ◌∷◌, ◌++◌, Option, Some, None, refl, sym, ap, ap₂, ◌∙◌, map}
use Rattle.std.specs.List.{flat_map}
use Rattle.std.proofs.lemmas.List.Folds.{flat_map-map}
use Rattle.std.proofs.lemmas.List.Sums.{fold-append}
use Rattle.hr_base.specs.declared.lexeme.Item.{Item}
use Rattle.hr_tree.specs.declared.lists.Listed.{Listed}
use Rattle.hr_tree.specs.declared.lists.Operand.{Operand}
use Rattle.hr_tree.specs.declared.lists.Field.{Field}
use Rattle.hr_tree.specs.declared.lists.Piece.{Piece}
use Rattle.hr_tree.specs.declared.lists.Block.{Block}
use Rattle.hr_tree.specs.declared.names.Operator.{Operator}
use Rattle.hr_tree.specs.declared.types.Ty.{Ty}
use Rattle.hr_tree.specs.declared.patterns.Pat.{Pat}
use Rattle.hr_tree.specs.declared.declarations.LeftSide.{LeftSide}
use Rattle.hr_tree.specs.declared.declarations.Body.{Body}
use Rattle.hr_tree.specs.declared.declarations.Guarded.{Guarded}
use Rattle.hr_tree.specs.declared.declarations.Where.{Where}
use Rattle.hr_tree.specs.declared.expressions.Exp.{Exp}
use Rattle.hr_tree.specs.declared.expressions.Decl.{Decl}
use Rattle.hr_tree.specs.declared.expressions.Qualifier.{Qualifier}
use Rattle.hr_tree.specs.declared.expressions.Alt.{Alt}
use Rattle.hr_tree.specs.declared.expressions.Exp.TheVariants.{Group, Tuple, List as ListOf, From, FromThen, FromTo, FromThenTo, Comprehension, LeftSection, RightSection, Apply, Infix, Annotated, Lambda, Let, If, Case, Fields}
use Rattle.hr_tree.specs.declared.expressions.Decl.TheVariants.{Equation, Binding}
use Rattle.hr_tree.specs.declared.expressions.Qualifier.TheVariants.{Generator, Locals, Test}
use Rattle.hr_tree.specs.declared.expressions.Decl.TheOpen.{Exp-F, Decl-F, Qualifier-F}
use Rattle.hr_tree.specs.declared.expressions.Decl.TheFolds.{fold-roll-Exp, fold-roll-Decl, fold-roll-Qualifier, fold-roll-Alt}
use Rattle.hr_tree.specs.declared.expressions.Decl.TheViews.{rolls-Group, rolls-Tuple, rolls-List, rolls-From, rolls-FromThen, rolls-FromTo, rolls-FromThenTo, rolls-Comprehension, rolls-LeftSection, rolls-RightSection, rolls-Apply, rolls-Infix, rolls-Annotated, rolls-Lambda, rolls-Let, rolls-If, rolls-Case, rolls-Fields, rolls-Equation, rolls-Binding, rolls-Generator, rolls-Locals, rolls-Test, out-Alt, roll-Alt, roll-out-Alt}
use Rattle.hr_tree.specs.Names.{operator_items}
use Rattle.hr_tree.specs.Lists.{listed_items, operand_items, field_items, piece_items, block_items, opening_items, closing_items, guarded_items, body_items, where_items}
use Rattle.hr_tree.specs.Yields.{done, ty_items, pat_items, left_side_items, exp_layer, decl_layer, qualifier_layer, alt_layer, exp_items, decl_items, qualifier_items, alt_items}

-- what is yielded is the same whether the parts are yielded first or not: of the pieces of a block
pieces_same : {T : Type 0} (of : T → List Item) (turn : Piece T → Piece (List Item)) → ((item : Item) → turn (Piece.Semicolon item) ≡ Piece.Semicolon item) → ((part : T) → turn (Piece.Part part) ≡ Piece.Part (of part))
    → (pieces : List (Piece T)) → flat_map (piece_items done) (map turn pieces) ≡ flat_map (piece_items of) pieces
pieces_same of turn s p [] = refl
pieces_same of turn s p (Piece.Semicolon item ∷ pieces) = ap₂ (λ (q : Piece (List Item)) (l : List Item). piece_items done q ++ l) (s item) (pieces_same of turn s p pieces)
pieces_same of turn s p (Piece.Part part ∷ pieces) = ap₂ (λ (q : Piece (List Item)) (l : List Item). piece_items done q ++ l) (p part) (pieces_same of turn s p pieces)

abbrev guarded_of : Guarded Exp → Guarded (List Item)
guarded_of g = record { bar = g.bar; guard = exp_items g.guard; mark = g.mark; body = exp_items g.body }

-- what a `where` yields, from what its pieces yield
abbrev local_items : Where Decl → List Item → List Item
local_items locals items = locals.word ∷ (opening_items locals.block.layout ++ (items ++ closing_items locals.block.layout))

pub exp_group : (left : Item) (part : Exp) (right : Item) → exp_items (Group left part right) ≡ left ∷ (exp_items part ++ right ∷ [])
exp_group left part right =
    ap exp_items (sym (rolls-Group left part right)) ∙ fold-roll-Exp (List Item) (List Item) (List Item) (List Item) decl_layer exp_layer qualifier_layer alt_layer (Exp-F.Group left part right)

pub exp_tuple : (left : Item) (parts : List (Listed Exp)) (right : Item) → exp_items (Tuple left parts right) ≡ left ∷ (flat_map (listed_items exp_items) parts ++ right ∷ [])
exp_tuple left parts right =
    ap exp_items (sym (rolls-Tuple left parts right)) ∙ fold-roll-Exp (List Item) (List Item) (List Item) (List Item) decl_layer exp_layer qualifier_layer alt_layer (Exp-F.Tuple left parts right)
    ∙ ap (λ l. left ∷ (l ++ right ∷ [])) (flat_map-map (listed_items done) (λ (l : Listed Exp). record { part = exp_items l.part; separator = l.separator }) parts)

pub exp_list : (left : Item) (parts : List (Listed Exp)) (right : Item) → exp_items (ListOf left parts right) ≡ left ∷ (flat_map (listed_items exp_items) parts ++ right ∷ [])
exp_list left parts right =
    ap exp_items (sym (rolls-List left parts right)) ∙ fold-roll-Exp (List Item) (List Item) (List Item) (List Item) decl_layer exp_layer qualifier_layer alt_layer (Exp-F.List left parts right)
    ∙ ap (λ l. left ∷ (l ++ right ∷ [])) (flat_map-map (listed_items done) (λ (l : Listed Exp). record { part = exp_items l.part; separator = l.separator }) parts)

pub exp_from : (left : Item) (first : Exp) (dots : Item) (right : Item) → exp_items (From left first dots right) ≡ left ∷ (exp_items first ++ dots ∷ right ∷ [])
exp_from left first dots right =
    ap exp_items (sym (rolls-From left first dots right)) ∙ fold-roll-Exp (List Item) (List Item) (List Item) (List Item) decl_layer exp_layer qualifier_layer alt_layer (Exp-F.From left first dots right)

pub exp_from_then : (left : Item) (first : Exp) (comma : Item) (second : Exp) (dots : Item) (right : Item) → exp_items (FromThen left first comma second dots right) ≡ left ∷ (exp_items first ++ comma ∷ (exp_items second ++ dots ∷ right ∷ []))
exp_from_then left first comma second dots right =
    ap exp_items (sym (rolls-FromThen left first comma second dots right)) ∙ fold-roll-Exp (List Item) (List Item) (List Item) (List Item) decl_layer exp_layer qualifier_layer alt_layer (Exp-F.FromThen left first comma second dots right)

pub exp_from_to : (left : Item) (first : Exp) (dots : Item) (last : Exp) (right : Item) → exp_items (FromTo left first dots last right) ≡ left ∷ (exp_items first ++ dots ∷ (exp_items last ++ right ∷ []))
exp_from_to left first dots last right =
    ap exp_items (sym (rolls-FromTo left first dots last right)) ∙ fold-roll-Exp (List Item) (List Item) (List Item) (List Item) decl_layer exp_layer qualifier_layer alt_layer (Exp-F.FromTo left first dots last right)

pub exp_from_then_to : (left : Item) (first : Exp) (comma : Item) (second : Exp) (dots : Item) (last : Exp) (right : Item) → exp_items (FromThenTo left first comma second dots last right) ≡ left ∷ (exp_items first ++ comma ∷ (exp_items second ++ dots ∷ (exp_items last ++ right ∷ [])))
exp_from_then_to left first comma second dots last right =
    ap exp_items (sym (rolls-FromThenTo left first comma second dots last right)) ∙ fold-roll-Exp (List Item) (List Item) (List Item) (List Item) decl_layer exp_layer qualifier_layer alt_layer (Exp-F.FromThenTo left first comma second dots last right)

pub exp_comprehension : (left : Item) (part : Exp) (bar : Item) (qualifiers : List (Listed Qualifier)) (right : Item) → exp_items (Comprehension left part bar qualifiers right) ≡ left ∷ (exp_items part ++ bar ∷ (flat_map (listed_items qualifier_items) qualifiers ++ right ∷ []))
exp_comprehension left part bar qualifiers right =
    ap exp_items (sym (rolls-Comprehension left part bar qualifiers right)) ∙ fold-roll-Exp (List Item) (List Item) (List Item) (List Item) decl_layer exp_layer qualifier_layer alt_layer (Exp-F.Comprehension left part bar qualifiers right)
    ∙ ap (λ l. left ∷ (exp_items part ++ bar ∷ (l ++ right ∷ []))) (flat_map-map (listed_items done) (λ (l : Listed Qualifier). record { part = qualifier_items l.part; separator = l.separator }) qualifiers)

pub exp_left_section : (left : Item) (part : Exp) (operator : Operator) (right : Item) → exp_items (LeftSection left part operator right) ≡ left ∷ (exp_items part ++ (operator_items operator ++ right ∷ []))
exp_left_section left part operator right =
    ap exp_items (sym (rolls-LeftSection left part operator right)) ∙ fold-roll-Exp (List Item) (List Item) (List Item) (List Item) decl_layer exp_layer qualifier_layer alt_layer (Exp-F.LeftSection left part operator right)

pub exp_right_section : (left : Item) (operator : Operator) (part : Exp) (right : Item) → exp_items (RightSection left operator part right) ≡ left ∷ (operator_items operator ++ (exp_items part ++ right ∷ []))
exp_right_section left operator part right =
    ap exp_items (sym (rolls-RightSection left operator part right)) ∙ fold-roll-Exp (List Item) (List Item) (List Item) (List Item) decl_layer exp_layer qualifier_layer alt_layer (Exp-F.RightSection left operator part right)

pub exp_apply : (atoms : List Exp) → exp_items (Apply atoms) ≡ flat_map exp_items atoms
exp_apply atoms =
    ap exp_items (sym (rolls-Apply atoms)) ∙ fold-roll-Exp (List Item) (List Item) (List Item) (List Item) decl_layer exp_layer qualifier_layer alt_layer (Exp-F.Apply atoms)
    ∙ flat_map-map done exp_items atoms

pub exp_infix : (operands : List (Operand Exp)) → exp_items (Infix operands) ≡ flat_map (operand_items exp_items) operands
exp_infix operands =
    ap exp_items (sym (rolls-Infix operands)) ∙ fold-roll-Exp (List Item) (List Item) (List Item) (List Item) decl_layer exp_layer qualifier_layer alt_layer (Exp-F.Infix operands)
    ∙ flat_map-map (operand_items done) (λ (o : Operand Exp). record { minus = o.minus; part = exp_items o.part; operator = o.operator }) operands

pub exp_annotated : (part : Exp) (colons : Item) (ty : Ty) → exp_items (Annotated part colons ty) ≡ exp_items part ++ colons ∷ ty_items ty
exp_annotated part colons ty =
    ap exp_items (sym (rolls-Annotated part colons ty)) ∙ fold-roll-Exp (List Item) (List Item) (List Item) (List Item) decl_layer exp_layer qualifier_layer alt_layer (Exp-F.Annotated part colons ty)

pub exp_lambda : (mark : Item) (patterns : List Pat) (arrow : Item) (body : Exp) → exp_items (Lambda mark patterns arrow body) ≡ mark ∷ (flat_map pat_items patterns ++ arrow ∷ exp_items body)
exp_lambda mark patterns arrow body =
    ap exp_items (sym (rolls-Lambda mark patterns arrow body)) ∙ fold-roll-Exp (List Item) (List Item) (List Item) (List Item) decl_layer exp_layer qualifier_layer alt_layer (Exp-F.Lambda mark patterns arrow body)

pub exp_let : (word : Item) (block : Block Decl) (in_word : Item) (body : Exp) → exp_items (Let word block in_word body) ≡ word ∷ (block_items decl_items block ++ in_word ∷ exp_items body)
exp_let word block in_word body =
    ap exp_items (sym (rolls-Let word block in_word body)) ∙ fold-roll-Exp (List Item) (List Item) (List Item) (List Item) decl_layer exp_layer qualifier_layer alt_layer (Exp-F.Let word block in_word body)
    ∙ ap (λ l. word ∷ ((opening_items block.layout ++ (l ++ closing_items block.layout)) ++ in_word ∷ exp_items body)) (pieces_same decl_items _ (λ item. refl) (λ part. refl) block.pieces)

pub exp_if : (word : Item) (test : Exp) (then_word : Item) (first : Exp) (else_word : Item) (second : Exp) → exp_items (If word test then_word first else_word second) ≡ word ∷ (exp_items test ++ then_word ∷ (exp_items first ++ else_word ∷ exp_items second))
exp_if word test then_word first else_word second =
    ap exp_items (sym (rolls-If word test then_word first else_word second)) ∙ fold-roll-Exp (List Item) (List Item) (List Item) (List Item) decl_layer exp_layer qualifier_layer alt_layer (Exp-F.If word test then_word first else_word second)

pub exp_case : (word : Item) (part : Exp) (of_word : Item) (block : Block Alt) → exp_items (Case word part of_word block) ≡ word ∷ (exp_items part ++ of_word ∷ block_items alt_items block)
exp_case word part of_word block =
    ap exp_items (sym (rolls-Case word part of_word block)) ∙ fold-roll-Exp (List Item) (List Item) (List Item) (List Item) decl_layer exp_layer qualifier_layer alt_layer (Exp-F.Case word part of_word block)
    ∙ ap (λ l. word ∷ (exp_items part ++ of_word ∷ (opening_items block.layout ++ (l ++ closing_items block.layout)))) (pieces_same alt_items _ (λ item. refl) (λ part. refl) block.pieces)

pub exp_fields : (part : Exp) (left : Item) (fields : List (Listed (Field Exp))) (right : Item) → exp_items (Fields part left fields right) ≡ exp_items part ++ left ∷ (flat_map (listed_items (field_items exp_items)) fields ++ right ∷ [])
exp_fields part left fields right =
    ap exp_items (sym (rolls-Fields part left fields right)) ∙ fold-roll-Exp (List Item) (List Item) (List Item) (List Item) decl_layer exp_layer qualifier_layer alt_layer (Exp-F.Fields part left fields right)
    ∙ ap (λ l. exp_items part ++ left ∷ (l ++ right ∷ [])) (flat_map-map (listed_items (field_items done)) (λ (l : Listed (Field Exp)). record { part = record { name = l.part.name; equals = l.part.equals; part = exp_items l.part.part }; separator = l.separator }) fields)

pub decl_equation : (left : LeftSide) (body : Body Exp) (locals : Option (Where Decl)) → decl_items (Equation left body locals) ≡ left_side_items left ++ (body_items exp_items body ++ where_items decl_items locals)
decl_equation left (Body.Plain mark part) None = ap decl_items (sym (rolls-Equation left (Body.Plain mark part) None)) ∙ fold-roll-Decl (List Item) (List Item) (List Item) (List Item) decl_layer exp_layer qualifier_layer alt_layer (Decl-F.Equation left (Body.Plain mark part) None)
decl_equation left (Body.Plain mark part) (Some locals) =
    ap decl_items (sym (rolls-Equation left (Body.Plain mark part) (Some locals))) ∙ fold-roll-Decl (List Item) (List Item) (List Item) (List Item) decl_layer exp_layer qualifier_layer alt_layer (Decl-F.Equation left (Body.Plain mark part) (Some locals))
    ∙ ap (λ l. left_side_items left ++ ((mark ∷ exp_items part) ++ local_items locals l)) (pieces_same decl_items _ (λ item. refl) (λ part. refl) locals.block.pieces)
decl_equation left (Body.Guarded list) None =
    ap decl_items (sym (rolls-Equation left (Body.Guarded list) None)) ∙ fold-roll-Decl (List Item) (List Item) (List Item) (List Item) decl_layer exp_layer qualifier_layer alt_layer (Decl-F.Equation left (Body.Guarded list) None)
    ∙ ap (λ l. left_side_items left ++ (l ++ [])) (flat_map-map (guarded_items done) guarded_of list)
decl_equation left (Body.Guarded list) (Some locals) =
    ap decl_items (sym (rolls-Equation left (Body.Guarded list) (Some locals))) ∙ fold-roll-Decl (List Item) (List Item) (List Item) (List Item) decl_layer exp_layer qualifier_layer alt_layer (Decl-F.Equation left (Body.Guarded list) (Some locals))
    ∙ ap (λ l. left_side_items left ++ (flat_map (guarded_items done) (map guarded_of list) ++ local_items locals l)) (pieces_same decl_items _ (λ item. refl) (λ part. refl) locals.block.pieces)
    ∙ ap (λ l. left_side_items left ++ (l ++ local_items locals (flat_map (piece_items decl_items) locals.block.pieces))) (flat_map-map (guarded_items done) guarded_of list)

pub decl_binding : (pattern : Pat) (body : Body Exp) (locals : Option (Where Decl)) → decl_items (Binding pattern body locals) ≡ pat_items pattern ++ (body_items exp_items body ++ where_items decl_items locals)
decl_binding pattern (Body.Plain mark part) None = ap decl_items (sym (rolls-Binding pattern (Body.Plain mark part) None)) ∙ fold-roll-Decl (List Item) (List Item) (List Item) (List Item) decl_layer exp_layer qualifier_layer alt_layer (Decl-F.Binding pattern (Body.Plain mark part) None)
decl_binding pattern (Body.Plain mark part) (Some locals) =
    ap decl_items (sym (rolls-Binding pattern (Body.Plain mark part) (Some locals))) ∙ fold-roll-Decl (List Item) (List Item) (List Item) (List Item) decl_layer exp_layer qualifier_layer alt_layer (Decl-F.Binding pattern (Body.Plain mark part) (Some locals))
    ∙ ap (λ l. pat_items pattern ++ ((mark ∷ exp_items part) ++ local_items locals l)) (pieces_same decl_items _ (λ item. refl) (λ part. refl) locals.block.pieces)
decl_binding pattern (Body.Guarded list) None =
    ap decl_items (sym (rolls-Binding pattern (Body.Guarded list) None)) ∙ fold-roll-Decl (List Item) (List Item) (List Item) (List Item) decl_layer exp_layer qualifier_layer alt_layer (Decl-F.Binding pattern (Body.Guarded list) None)
    ∙ ap (λ l. pat_items pattern ++ (l ++ [])) (flat_map-map (guarded_items done) guarded_of list)
decl_binding pattern (Body.Guarded list) (Some locals) =
    ap decl_items (sym (rolls-Binding pattern (Body.Guarded list) (Some locals))) ∙ fold-roll-Decl (List Item) (List Item) (List Item) (List Item) decl_layer exp_layer qualifier_layer alt_layer (Decl-F.Binding pattern (Body.Guarded list) (Some locals))
    ∙ ap (λ l. pat_items pattern ++ (flat_map (guarded_items done) (map guarded_of list) ++ local_items locals l)) (pieces_same decl_items _ (λ item. refl) (λ part. refl) locals.block.pieces)
    ∙ ap (λ l. pat_items pattern ++ (l ++ local_items locals (flat_map (piece_items decl_items) locals.block.pieces))) (flat_map-map (guarded_items done) guarded_of list)

pub qualifier_generator : (pattern : Pat) (arrow : Item) (part : Exp) → qualifier_items (Generator pattern arrow part) ≡ pat_items pattern ++ arrow ∷ exp_items part
qualifier_generator pattern arrow part =
    ap qualifier_items (sym (rolls-Generator pattern arrow part)) ∙ fold-roll-Qualifier (List Item) (List Item) (List Item) (List Item) decl_layer exp_layer qualifier_layer alt_layer (Qualifier-F.Generator pattern arrow part)

pub qualifier_locals : (word : Item) (block : Block Decl) → qualifier_items (Locals word block) ≡ word ∷ block_items decl_items block
qualifier_locals word block =
    ap qualifier_items (sym (rolls-Locals word block)) ∙ fold-roll-Qualifier (List Item) (List Item) (List Item) (List Item) decl_layer exp_layer qualifier_layer alt_layer (Qualifier-F.Locals word block)
    ∙ ap (λ l. word ∷ (opening_items block.layout ++ (l ++ closing_items block.layout))) (pieces_same decl_items _ (λ item. refl) (λ part. refl) block.pieces)

pub qualifier_test : (part : Exp) → qualifier_items (Test part) ≡ exp_items part
qualifier_test part =
    ap qualifier_items (sym (rolls-Test part)) ∙ fold-roll-Qualifier (List Item) (List Item) (List Item) (List Item) decl_layer exp_layer qualifier_layer alt_layer (Qualifier-F.Test part)

pub ruleset exp_yields = (fold-append, exp_group, exp_tuple, exp_list, exp_from, exp_from_then, exp_from_to, exp_from_then_to, exp_comprehension, exp_left_section, exp_right_section, exp_apply, exp_infix, exp_annotated, exp_lambda, exp_let, exp_if, exp_case, exp_fields)

pub ruleset decl_yields = (fold-append, decl_equation, decl_binding)

pub ruleset qualifier_yields = (fold-append, qualifier_generator, qualifier_locals, qualifier_test)

-- an alternative is a record, which is opened
alt_rolled : (pattern : Pat) (body : Body Exp) (locals : Option (Where Decl)) → alt_items (roll-Alt (record { pattern = pattern; body = body; locals = locals })) ≡ pat_items pattern ++ (body_items exp_items body ++ where_items decl_items locals)
alt_rolled pattern (Body.Plain mark part) None = fold-roll-Alt (List Item) (List Item) (List Item) (List Item) decl_layer exp_layer qualifier_layer alt_layer (record { pattern = pattern; body = (Body.Plain mark part); locals = None })
alt_rolled pattern (Body.Plain mark part) (Some locals) =
    fold-roll-Alt (List Item) (List Item) (List Item) (List Item) decl_layer exp_layer qualifier_layer alt_layer (record { pattern = pattern; body = (Body.Plain mark part); locals = (Some locals) })
    ∙ ap (λ l. pat_items pattern ++ ((mark ∷ exp_items part) ++ local_items locals l)) (pieces_same decl_items _ (λ item. refl) (λ part. refl) locals.block.pieces)
alt_rolled pattern (Body.Guarded list) None =
    fold-roll-Alt (List Item) (List Item) (List Item) (List Item) decl_layer exp_layer qualifier_layer alt_layer (record { pattern = pattern; body = (Body.Guarded list); locals = None })
    ∙ ap (λ l. pat_items pattern ++ (l ++ [])) (flat_map-map (guarded_items done) guarded_of list)
alt_rolled pattern (Body.Guarded list) (Some locals) =
    fold-roll-Alt (List Item) (List Item) (List Item) (List Item) decl_layer exp_layer qualifier_layer alt_layer (record { pattern = pattern; body = (Body.Guarded list); locals = (Some locals) })
    ∙ ap (λ l. pat_items pattern ++ (flat_map (guarded_items done) (map guarded_of list) ++ local_items locals l)) (pieces_same decl_items _ (λ item. refl) (λ part. refl) locals.block.pieces)
    ∙ ap (λ l. pat_items pattern ++ (l ++ local_items locals (flat_map (piece_items decl_items) locals.block.pieces))) (flat_map-map (guarded_items done) guarded_of list)

pub alt_whole : (alt : Alt) → alt_items alt ≡ pat_items (out-Alt alt).pattern ++ (body_items exp_items (out-Alt alt).body ++ where_items decl_items (out-Alt alt).locals)
alt_whole alt = ap alt_items (sym (roll-out-Alt alt)) ∙ alt_rolled (out-Alt alt).pattern (out-Alt alt).body (out-Alt alt).locals

pub ruleset alt_yields = (fold-append, alt_whole)
