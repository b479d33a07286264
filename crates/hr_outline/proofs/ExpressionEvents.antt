-- What is read of the nodes of expressions, qualifiers, declarations and alternatives.
use Rattle.std.proofs.Common.{◌≡◌, ℕ, ◌+◌, Bool, true, false, List, [], ◌∷◌, ◌++◌, Option, Some, None, refl, sym, ap, ap₂, ◌∙◌, map}
use Rattle.std.specs.List.{flat_map}
use Rattle.std.proofs.lemmas.List.Folds.{flat_map-map}
use Rattle.std.proofs.lemmas.List.Sums.{fold-append}
use Rattle.hr_base.specs.declared.lexeme.Item.{Item}
use Rattle.hr_tree.specs.declared.lists.Listed.{Listed}
use Rattle.hr_tree.specs.declared.lists.Operand.{Operand}
use Rattle.hr_tree.specs.declared.lists.Field.{Field}
use Rattle.hr_tree.specs.declared.lists.Piece.{Piece}
use Rattle.hr_tree.specs.declared.lists.Block.{Block}
use Rattle.hr_tree.specs.declared.names.Operator.{Operator}
use Rattle.hr_tree.specs.declared.types.Ty.{Ty}
use Rattle.hr_tree.specs.declared.patterns.Pat.{Pat}
use Rattle.hr_tree.specs.declared.declarations.LeftSide.{LeftSide}
use Rattle.hr_tree.specs.declared.declarations.Body.{Body}
use Rattle.hr_tree.specs.declared.declarations.Guarded.{Guarded}
use Rattle.hr_tree.specs.declared.declarations.Where.{Where}
use Rattle.hr_tree.specs.declared.expressions.Exp.{Exp}
use Rattle.hr_tree.specs.declared.expressions.Decl.{Decl}
use Rattle.hr_tree.specs.declared.expressions.Qualifier.{Qualifier}
use Rattle.hr_tree.specs.declared.expressions.Alt.{Alt}
use Rattle.hr_tree.specs.declared.expressions.Exp.TheVariants.{Group, Tuple, List as ListOf, From, FromThen, FromTo, FromThenTo, Comprehension, LeftSection, RightSection, Apply, Infix, Annotated, Lambda, Let, If, Case, Fields}
use Rattle.hr_tree.specs.declared.expressions.Decl.TheVariants.{Equation, Binding}
use Rattle.hr_tree.specs.declared.expressions.Qualifier.TheVariants.{Generator, Locals, Test}
use Rattle.hr_tree.specs.declared.expressions.Decl.TheOpen.{Exp-F, Decl-F, Qualifier-F}
use Rattle.hr_tree.specs.declared.expressions.Decl.TheFolds.{fold-roll-Exp, fold-roll-Decl, fold-roll-Qualifier, fold-roll-Alt}
use Rattle.hr_tree.specs.declared.expressions.Decl.TheViews.{rolls-Group, rolls-Tuple, rolls-List, rolls-From, rolls-FromThen, rolls-FromTo, rolls-FromThenTo, rolls-Comprehension, rolls-LeftSection, rolls-RightSection, rolls-Apply, rolls-Infix, rolls-Annotated, rolls-Lambda, rolls-Let, rolls-If, rolls-Case, rolls-Fields, rolls-Equation, rolls-Binding, rolls-Generator, rolls-Locals, rolls-Test, out-Alt, roll-Alt, roll-out-Alt}
use Rattle.hr_tree.specs.Lists.{opening_items, closing_items}
use Rattle.hr_scope_rules.specs.declared.naming.Naming.{Naming}
use Rattle.hr_scope_rules.specs.declared.joint.Joint.{Joint}
use Rattle.hr_scope_rules.specs.Events.{Event, plain, plain_events}
use Rattle.hr_scope_rules.specs.Phrases.{done, listed_events, maybe_events, operand_events, sequence_events, operator_events, field_events, ty_events, pat_events}
use Rattle.hr_scope_rules.specs.Outline.{Declared, Qualified, as_declared, as_qualified, goes_on, head_text, piece_events, passed, pieces_events, block_events, alternative_events, alternatives_events, guarded_events, body_events, where_entered, where_events, rest_events, left_side_events, entering, leaving, left_behind, all_entered, all_left, qualifiers_events, decl_layer, exp_layer, qualifier_layer, alt_layer, declared_of, exp_events, qualified_of, alt_events}

-- what is read is the same whether the parts are read first or not: of the declarations of a block
declarations_same : {T : Type 0} (of : T → Declared) (turn : Piece T → Piece Declared) → ((item : Item) → turn (Piece.Semicolon item) ≡ Piece.Semicolon item) → ((part : T) → turn (Piece.Part part) ≡ Piece.Part (of part))
    → (before : Option (List ℕ)) (pieces : List (Piece T)) → pieces_events as_declared before (map turn pieces) ≡ pieces_events of before pieces
declarations_same of turn s p before [] = refl
declarations_same of turn s p before (Piece.Semicolon item ∷ pieces) =
    ap (λ (q : Piece Declared). piece_events as_declared before q ++ pieces_events as_declared (passed as_declared before q) (map turn pieces)) (s item)
    ∙ ap (λ l. plain item ∷ l) (declarations_same of turn s p before pieces)
declarations_same of turn s p before (Piece.Part part ∷ pieces) =
    ap (λ (q : Piece Declared). piece_events as_declared before q ++ pieces_events as_declared (passed as_declared before q) (map turn pieces)) (p part)
    ∙ ap (λ l. (of part).events (goes_on before (of part).equation) ++ l) (declarations_same of turn s p (of part).equation pieces)

-- of the alternatives of a block
alternatives_same : {T : Type 0} (of : T → List Event) (turn : Piece T → Piece (List Event)) → ((item : Item) → turn (Piece.Semicolon item) ≡ Piece.Semicolon item) → ((part : T) → turn (Piece.Part part) ≡ Piece.Part (of part))
    → (pieces : List (Piece T)) → flat_map (alternative_events done) (map turn pieces) ≡ flat_map (alternative_events of) pieces
alternatives_same of turn s p [] = refl
alternatives_same of turn s p (Piece.Semicolon item ∷ pieces) = ap₂ (λ (q : Piece (List Event)) (l : List Event). alternative_events done q ++ l) (s item) (alternatives_same of turn s p pieces)
alternatives_same of turn s p (Piece.Part part ∷ pieces) = ap₂ (λ (q : Piece (List Event)) (l : List Event). alternative_events done q ++ l) (p part) (alternatives_same of turn s p pieces)

-- of qualifiers
abbrev qualifier_turned : Listed Qualifier → Listed Qualified
qualifier_turned l = record { part = qualified_of l.part; separator = l.separator }

entered_same : (index : ℕ) (list : List (Listed Qualifier)) → all_entered as_qualified index (map qualifier_turned list) ≡ all_entered qualified_of index list
entered_same index [] = refl
entered_same index (l ∷ list) = ap (λ k. entering index (qualified_of l.part).opens ++ k) (entered_same (index + 1) list)

left_same : (list : List (Listed Qualifier)) → all_left as_qualified (map qualifier_turned list) ≡ all_left qualified_of list
left_same list = flat_map-map (left_behind as_qualified) qualifier_turned list

qualifiers_same : (index : ℕ) (list : List (Listed Qualifier)) → qualifiers_events as_qualified index (map qualifier_turned list) ≡ qualifiers_events qualified_of index list
qualifiers_same index [] = refl
qualifiers_same index (l ∷ list) =
    ap (λ k. (qualified_of l.part).events index ++ (maybe_events l.separator ++ (entering index (qualified_of l.part).opens ++ k))) (qualifiers_same (index + 1) list)

abbrev guarded_of : Guarded Exp → Guarded (List Event)
guarded_of g = record { bar = g.bar; guard = exp_events g.guard; mark = g.mark; body = exp_events g.body }

-- a block, from what is read of its declarations or alternatives
abbrev block_of : {T : Type 0} → Block T → List Event → List Event
block_of block pieces = plain_events (opening_items block.layout) ++ (pieces ++ plain_events (closing_items block.layout))

abbrev where_of : Where Decl → List Event → List Event
where_of locals pieces = plain locals.word ∷ (block_of locals.block pieces ++ Event.Leave ∷ [])

-- a comprehension, from what is read of its parts
abbrev comprehension_of : Item → List Event → Item → Item → List Event → List Event → List Event → List Event
comprehension_of left part bar right entered behind left_all =
    Event.Begin ∷ plain left ∷ (entered ++ (part ++ (left_all ++ plain bar ∷ (behind ++ (left_all ++ plain right ∷ Event.End ∷ [])))))

pub exp_group : (left : Item) (part : Exp) (right : Item) → exp_events (Group left part right) ≡ plain left ∷ (exp_events part ++ plain right ∷ [])
exp_group left part right =
    ap exp_events (sym (rolls-Group left part right)) ∙ fold-roll-Exp Declared (List Event) Qualified (List Event) decl_layer exp_layer qualifier_layer alt_layer (Exp-F.Group left part right)

pub exp_tuple : (left : Item) (parts : List (Listed Exp)) (right : Item) → exp_events (Tuple left parts right) ≡ plain left ∷ (flat_map (listed_events exp_events) parts ++ plain right ∷ [])
exp_tuple left parts right =
    ap exp_events (sym (rolls-Tuple left parts right)) ∙ fold-roll-Exp Declared (List Event) Qualified (List Event) decl_layer exp_layer qualifier_layer alt_layer (Exp-F.Tuple left parts right)
    ∙ ap (λ l. plain left ∷ (l ++ plain right ∷ [])) (flat_map-map (listed_events done) (λ (l : Listed Exp). record { part = exp_events l.part; separator = l.separator }) parts)

pub exp_list : (left : Item) (parts : List (Listed Exp)) (right : Item) → exp_events (ListOf left parts right) ≡ plain left ∷ (flat_map (listed_events exp_events) parts ++ plain right ∷ [])
exp_list left parts right =
    ap exp_events (sym (rolls-List left parts right)) ∙ fold-roll-Exp Declared (List Event) Qualified (List Event) decl_layer exp_layer qualifier_layer alt_layer (Exp-F.List left parts right)
    ∙ ap (λ l. plain left ∷ (l ++ plain right ∷ [])) (flat_map-map (listed_events done) (λ (l : Listed Exp). record { part = exp_events l.part; separator = l.separator }) parts)

pub exp_from : (left : Item) (first : Exp) (dots : Item) (right : Item) → exp_events (From left first dots right) ≡ plain left ∷ (exp_events first ++ plain dots ∷ plain right ∷ [])
exp_from left first dots right =
    ap exp_events (sym (rolls-From left first dots right)) ∙ fold-roll-Exp Declared (List Event) Qualified (List Event) decl_layer exp_layer qualifier_layer alt_layer (Exp-F.From left first dots right)

pub exp_from_then : (left : Item) (first : Exp) (comma : Item) (second : Exp) (dots : Item) (right : Item) → exp_events (FromThen left first comma second dots right) ≡ plain left ∷ (exp_events first ++ plain comma ∷ (exp_events second ++ plain dots ∷ plain right ∷ []))
exp_from_then left first comma second dots right =
    ap exp_events (sym (rolls-FromThen left first comma second dots right)) ∙ fold-roll-Exp Declared (List Event) Qualified (List Event) decl_layer exp_layer qualifier_layer alt_layer (Exp-F.FromThen left first comma second dots right)

pub exp_from_to : (left : Item) (first : Exp) (dots : Item) (last : Exp) (right : Item) → exp_events (FromTo left first dots last right) ≡ plain left ∷ (exp_events first ++ plain dots ∷ (exp_events last ++ plain right ∷ []))
exp_from_to left first dots last right =
    ap exp_events (sym (rolls-FromTo left first dots last right)) ∙ fold-roll-Exp Declared (List Event) Qualified (List Event) decl_layer exp_layer qualifier_layer alt_layer (Exp-F.FromTo left first dots last right)

pub exp_from_then_to : (left : Item) (first : Exp) (comma : Item) (second : Exp) (dots : Item) (last : Exp) (right : Item) → exp_events (FromThenTo left first comma second dots last right) ≡ plain left ∷ (exp_events first ++ plain comma ∷ (exp_events second ++ plain dots ∷ (exp_events last ++ plain right ∷ [])))
exp_from_then_to left first comma second dots last right =
    ap exp_events (sym (rolls-FromThenTo left first comma second dots last right)) ∙ fold-roll-Exp Declared (List Event) Qualified (List Event) decl_layer exp_layer qualifier_layer alt_layer (Exp-F.FromThenTo left first comma second dots last right)

pub exp_comprehension : (left : Item) (part : Exp) (bar : Item) (qualifiers : List (Listed Qualifier)) (right : Item) → exp_events (Comprehension left part bar qualifiers right)
    ≡ Event.Begin ∷ plain left ∷ (all_entered qualified_of 0 qualifiers ++ (exp_events part ++ (all_left qualified_of qualifiers ++ plain bar ∷ (qualifiers_events qualified_of 0 qualifiers ++ (all_left qualified_of qualifiers ++ plain right ∷ Event.End ∷ [])))))
exp_comprehension left part bar qualifiers right =
    ap exp_events (sym (rolls-Comprehension left part bar qualifiers right)) ∙ fold-roll-Exp Declared (List Event) Qualified (List Event) decl_layer exp_layer qualifier_layer alt_layer (Exp-F.Comprehension left part bar qualifiers right)
    ∙ ap (λ l. comprehension_of left (exp_events part) bar right l (qualifiers_events as_qualified 0 (map qualifier_turned qualifiers)) (all_left as_qualified (map qualifier_turned qualifiers))) (entered_same 0 qualifiers)
    ∙ ap (λ l. comprehension_of left (exp_events part) bar right (all_entered qualified_of 0 qualifiers) l (all_left as_qualified (map qualifier_turned qualifiers))) (qualifiers_same 0 qualifiers)
    ∙ ap (λ l. comprehension_of left (exp_events part) bar right (all_entered qualified_of 0 qualifiers) (qualifiers_events qualified_of 0 qualifiers) l) (left_same qualifiers)

pub exp_left_section : (left : Item) (part : Exp) (operator : Operator) (right : Item) → exp_events (LeftSection left part operator right) ≡ plain left ∷ (exp_events part ++ (operator_events Naming.Used operator ++ plain right ∷ []))
exp_left_section left part operator right =
    ap exp_events (sym (rolls-LeftSection left part operator right)) ∙ fold-roll-Exp Declared (List Event) Qualified (List Event) decl_layer exp_layer qualifier_layer alt_layer (Exp-F.LeftSection left part operator right)

pub exp_right_section : (left : Item) (operator : Operator) (part : Exp) (right : Item) → exp_events (RightSection left operator part right) ≡ plain left ∷ (operator_events Naming.Used operator ++ (exp_events part ++ plain right ∷ []))
exp_right_section left operator part right =
    ap exp_events (sym (rolls-RightSection left operator part right)) ∙ fold-roll-Exp Declared (List Event) Qualified (List Event) decl_layer exp_layer qualifier_layer alt_layer (Exp-F.RightSection left operator part right)

pub exp_apply : (atoms : List Exp) → exp_events (Apply atoms) ≡ flat_map exp_events atoms
exp_apply atoms =
    ap exp_events (sym (rolls-Apply atoms)) ∙ fold-roll-Exp Declared (List Event) Qualified (List Event) decl_layer exp_layer qualifier_layer alt_layer (Exp-F.Apply atoms)
    ∙ flat_map-map done exp_events atoms

pub exp_infix : (operands : List (Operand Exp)) → exp_events (Infix operands) ≡ sequence_events Joint.Expression exp_events operands
exp_infix operands =
    ap exp_events (sym (rolls-Infix operands)) ∙ fold-roll-Exp Declared (List Event) Qualified (List Event) decl_layer exp_layer qualifier_layer alt_layer (Exp-F.Infix operands)
    ∙ ap (λ l. Event.Join Joint.Expression ∷ (l ++ Event.Join Joint.End ∷ [])) (flat_map-map (operand_events done) (λ (o : Operand Exp). record { minus = o.minus; part = exp_events o.part; operator = o.operator }) operands)

pub exp_annotated : (part : Exp) (colons : Item) (ty : Ty) → exp_events (Annotated part colons ty) ≡ exp_events part ++ plain colons ∷ ty_events ty
exp_annotated part colons ty =
    ap exp_events (sym (rolls-Annotated part colons ty)) ∙ fold-roll-Exp Declared (List Event) Qualified (List Event) decl_layer exp_layer qualifier_layer alt_layer (Exp-F.Annotated part colons ty)

pub exp_lambda : (mark : Item) (patterns : List Pat) (arrow : Item) (body : Exp) → exp_events (Lambda mark patterns arrow body)
    ≡ Event.Begin ∷ plain mark ∷ Event.Enter 0 ∷ (flat_map pat_events patterns ++ plain arrow ∷ (exp_events body ++ Event.Leave ∷ Event.End ∷ []))
exp_lambda mark patterns arrow body =
    ap exp_events (sym (rolls-Lambda mark patterns arrow body)) ∙ fold-roll-Exp Declared (List Event) Qualified (List Event) decl_layer exp_layer qualifier_layer alt_layer (Exp-F.Lambda mark patterns arrow body)

pub exp_let : (word : Item) (block : Block Decl) (in_word : Item) (body : Exp) → exp_events (Let word block in_word body)
    ≡ Event.Begin ∷ plain word ∷ Event.Enter 0 ∷ (block_events declared_of block ++ plain in_word ∷ (exp_events body ++ Event.Leave ∷ Event.End ∷ []))
exp_let word block in_word body =
    ap exp_events (sym (rolls-Let word block in_word body)) ∙ fold-roll-Exp Declared (List Event) Qualified (List Event) decl_layer exp_layer qualifier_layer alt_layer (Exp-F.Let word block in_word body)
    ∙ ap (λ l. Event.Begin ∷ plain word ∷ Event.Enter 0 ∷ (block_of block l ++ plain in_word ∷ (exp_events body ++ Event.Leave ∷ Event.End ∷ []))) (declarations_same declared_of _ (λ item. refl) (λ part. refl) None block.pieces)

pub exp_if : (word : Item) (test : Exp) (then_word : Item) (first : Exp) (else_word : Item) (second : Exp) → exp_events (If word test then_word first else_word second) ≡ plain word ∷ (exp_events test ++ plain then_word ∷ (exp_events first ++ plain else_word ∷ exp_events second))
exp_if word test then_word first else_word second =
    ap exp_events (sym (rolls-If word test then_word first else_word second)) ∙ fold-roll-Exp Declared (List Event) Qualified (List Event) decl_layer exp_layer qualifier_layer alt_layer (Exp-F.If word test then_word first else_word second)

pub exp_case : (word : Item) (part : Exp) (of_word : Item) (block : Block Alt) → exp_events (Case word part of_word block) ≡ plain word ∷ (exp_events part ++ plain of_word ∷ alternatives_events alt_events block)
exp_case word part of_word block =
    ap exp_events (sym (rolls-Case word part of_word block)) ∙ fold-roll-Exp Declared (List Event) Qualified (List Event) decl_layer exp_layer qualifier_layer alt_layer (Exp-F.Case word part of_word block)
    ∙ ap (λ l. plain word ∷ (exp_events part ++ plain of_word ∷ block_of block l)) (alternatives_same alt_events _ (λ item. refl) (λ part. refl) block.pieces)

pub exp_fields : (part : Exp) (left : Item) (fields : List (Listed (Field Exp))) (right : Item) → exp_events (Fields part left fields right) ≡ exp_events part ++ plain left ∷ (flat_map (listed_events (field_events exp_events)) fields ++ plain right ∷ [])
exp_fields part left fields right =
    ap exp_events (sym (rolls-Fields part left fields right)) ∙ fold-roll-Exp Declared (List Event) Qualified (List Event) decl_layer exp_layer qualifier_layer alt_layer (Exp-F.Fields part left fields right)
    ∙ ap (λ l. exp_events part ++ plain left ∷ (l ++ plain right ∷ [])) (flat_map-map (listed_events (field_events done)) (λ (l : Listed (Field Exp)). record { part = record { name = l.part.name; equals = l.part.equals; part = exp_events l.part.part }; separator = l.separator }) fields)

pub decl_equation : (left : LeftSide) (body : Body Exp) (locals : Option (Where Decl)) (goes_on : Bool) → (declared_of (Equation left body locals)).events goes_on
    ≡ Event.Begin ∷ (left_side_events (Naming.Defined goes_on) left ++ (rest_events exp_events declared_of body locals ++ Event.Leave ∷ Event.End ∷ []))
decl_equation left (Body.Plain mark part) None goes_on =
    ap (λ (d : Declared). d.events goes_on) (ap declared_of (sym (rolls-Equation left (Body.Plain mark part) None)) ∙ fold-roll-Decl Declared (List Event) Qualified (List Event) decl_layer exp_layer qualifier_layer alt_layer (Decl-F.Equation left (Body.Plain mark part) None))
decl_equation left (Body.Plain mark part) (Some locals) goes_on =
    ap (λ (d : Declared). d.events goes_on) (ap declared_of (sym (rolls-Equation left (Body.Plain mark part) (Some locals))) ∙ fold-roll-Decl Declared (List Event) Qualified (List Event) decl_layer exp_layer qualifier_layer alt_layer (Decl-F.Equation left (Body.Plain mark part) (Some locals)))
    ∙ ap (λ l. Event.Begin ∷ (left_side_events (Naming.Defined goes_on) left ++ (((Event.Enter 1 ∷ []) ++ ((plain mark ∷ exp_events part) ++ where_of locals l)) ++ Event.Leave ∷ Event.End ∷ []))) (declarations_same declared_of _ (λ item. refl) (λ part. refl) None locals.block.pieces)
decl_equation left (Body.Guarded list) None goes_on =
    ap (λ (d : Declared). d.events goes_on) (ap declared_of (sym (rolls-Equation left (Body.Guarded list) None)) ∙ fold-roll-Decl Declared (List Event) Qualified (List Event) decl_layer exp_layer qualifier_layer alt_layer (Decl-F.Equation left (Body.Guarded list) None))
    ∙ ap (λ l. Event.Begin ∷ (left_side_events (Naming.Defined goes_on) left ++ (([] ++ (l ++ [])) ++ Event.Leave ∷ Event.End ∷ []))) (flat_map-map (guarded_events done) guarded_of list)
decl_equation left (Body.Guarded list) (Some locals) goes_on =
    ap (λ (d : Declared). d.events goes_on) (ap declared_of (sym (rolls-Equation left (Body.Guarded list) (Some locals))) ∙ fold-roll-Decl Declared (List Event) Qualified (List Event) decl_layer exp_layer qualifier_layer alt_layer (Decl-F.Equation left (Body.Guarded list) (Some locals)))
    ∙ ap (λ l. Event.Begin ∷ (left_side_events (Naming.Defined goes_on) left ++ (((Event.Enter 1 ∷ []) ++ (flat_map (guarded_events done) (map guarded_of list) ++ where_of locals l)) ++ Event.Leave ∷ Event.End ∷ []))) (declarations_same declared_of _ (λ item. refl) (λ part. refl) None locals.block.pieces)
    ∙ ap (λ l. Event.Begin ∷ (left_side_events (Naming.Defined goes_on) left ++ (((Event.Enter 1 ∷ []) ++ (l ++ where_of locals (pieces_events declared_of None locals.block.pieces))) ++ Event.Leave ∷ Event.End ∷ []))) (flat_map-map (guarded_events done) guarded_of list)

pub decl_binding : (pattern : Pat) (body : Body Exp) (locals : Option (Where Decl)) (goes_on : Bool) → (declared_of (Binding pattern body locals)).events goes_on
    ≡ Event.Begin ∷ (pat_events pattern ++ (rest_events exp_events declared_of body locals ++ Event.End ∷ []))
decl_binding pattern (Body.Plain mark part) None goes_on =
    ap (λ (d : Declared). d.events goes_on) (ap declared_of (sym (rolls-Binding pattern (Body.Plain mark part) None)) ∙ fold-roll-Decl Declared (List Event) Qualified (List Event) decl_layer exp_layer qualifier_layer alt_layer (Decl-F.Binding pattern (Body.Plain mark part) None))
decl_binding pattern (Body.Plain mark part) (Some locals) goes_on =
    ap (λ (d : Declared). d.events goes_on) (ap declared_of (sym (rolls-Binding pattern (Body.Plain mark part) (Some locals))) ∙ fold-roll-Decl Declared (List Event) Qualified (List Event) decl_layer exp_layer qualifier_layer alt_layer (Decl-F.Binding pattern (Body.Plain mark part) (Some locals)))
    ∙ ap (λ l. Event.Begin ∷ (pat_events pattern ++ (((Event.Enter 1 ∷ []) ++ ((plain mark ∷ exp_events part) ++ where_of locals l)) ++ Event.End ∷ []))) (declarations_same declared_of _ (λ item. refl) (λ part. refl) None locals.block.pieces)
decl_binding pattern (Body.Guarded list) None goes_on =
    ap (λ (d : Declared). d.events goes_on) (ap declared_of (sym (rolls-Binding pattern (Body.Guarded list) None)) ∙ fold-roll-Decl Declared (List Event) Qualified (List Event) decl_layer exp_layer qualifier_layer alt_layer (Decl-F.Binding pattern (Body.Guarded list) None))
    ∙ ap (λ l. Event.Begin ∷ (pat_events pattern ++ (([] ++ (l ++ [])) ++ Event.End ∷ []))) (flat_map-map (guarded_events done) guarded_of list)
decl_binding pattern (Body.Guarded list) (Some locals) goes_on =
    ap (λ (d : Declared). d.events goes_on) (ap declared_of (sym (rolls-Binding pattern (Body.Guarded list) (Some locals))) ∙ fold-roll-Decl Declared (List Event) Qualified (List Event) decl_layer exp_layer qualifier_layer alt_layer (Decl-F.Binding pattern (Body.Guarded list) (Some locals)))
    ∙ ap (λ l. Event.Begin ∷ (pat_events pattern ++ (((Event.Enter 1 ∷ []) ++ (flat_map (guarded_events done) (map guarded_of list) ++ where_of locals l)) ++ Event.End ∷ []))) (declarations_same declared_of _ (λ item. refl) (λ part. refl) None locals.block.pieces)
    ∙ ap (λ l. Event.Begin ∷ (pat_events pattern ++ (((Event.Enter 1 ∷ []) ++ (l ++ where_of locals (pieces_events declared_of None locals.block.pieces))) ++ Event.End ∷ []))) (flat_map-map (guarded_events done) guarded_of list)

pub equation_named : (left : LeftSide) (body : Body Exp) (locals : Option (Where Decl)) → (declared_of (Equation left body locals)).equation ≡ Some (head_text left.head)
equation_named left body locals = ap (λ (d : Declared). d.equation) (ap declared_of (sym (rolls-Equation left body locals)) ∙ fold-roll-Decl Declared (List Event) Qualified (List Event) decl_layer exp_layer qualifier_layer alt_layer (Decl-F.Equation left body locals))

pub binding_unnamed : (pattern : Pat) (body : Body Exp) (locals : Option (Where Decl)) → (declared_of (Binding pattern body locals)).equation ≡ None
binding_unnamed pattern body locals = ap (λ (d : Declared). d.equation) (ap declared_of (sym (rolls-Binding pattern body locals)) ∙ fold-roll-Decl Declared (List Event) Qualified (List Event) decl_layer exp_layer qualifier_layer alt_layer (Decl-F.Binding pattern body locals))

pub qualifier_generator : (pattern : Pat) (arrow : Item) (part : Exp) (index : ℕ) → (qualified_of (Generator pattern arrow part)).events index ≡ Event.Enter index ∷ (pat_events pattern ++ Event.Leave ∷ plain arrow ∷ exp_events part)
qualifier_generator pattern arrow part index =
    ap (λ (q : Qualified). q.events index) (ap qualified_of (sym (rolls-Generator pattern arrow part)) ∙ fold-roll-Qualifier Declared (List Event) Qualified (List Event) decl_layer exp_layer qualifier_layer alt_layer (Qualifier-F.Generator pattern arrow part))

pub qualifier_locals : (word : Item) (block : Block Decl) (index : ℕ) → (qualified_of (Locals word block)).events index ≡ plain word ∷ Event.Enter index ∷ (block_events declared_of block ++ Event.Leave ∷ [])
qualifier_locals word block index =
    ap (λ (q : Qualified). q.events index) (ap qualified_of (sym (rolls-Locals word block)) ∙ fold-roll-Qualifier Declared (List Event) Qualified (List Event) decl_layer exp_layer qualifier_layer alt_layer (Qualifier-F.Locals word block))
    ∙ ap (λ l. plain word ∷ Event.Enter index ∷ (block_of block l ++ Event.Leave ∷ [])) (declarations_same declared_of _ (λ item. refl) (λ part. refl) None block.pieces)

pub qualifier_test : (part : Exp) (index : ℕ) → (qualified_of (Test part)).events index ≡ exp_events part
qualifier_test part index =
    ap (λ (q : Qualified). q.events index) (ap qualified_of (sym (rolls-Test part)) ∙ fold-roll-Qualifier Declared (List Event) Qualified (List Event) decl_layer exp_layer qualifier_layer alt_layer (Qualifier-F.Test part))

pub generator_opens : (pattern : Pat) (arrow : Item) (part : Exp) → (qualified_of (Generator pattern arrow part)).opens ≡ true
generator_opens pattern arrow part = ap (λ (q : Qualified). q.opens) (ap qualified_of (sym (rolls-Generator pattern arrow part)) ∙ fold-roll-Qualifier Declared (List Event) Qualified (List Event) decl_layer exp_layer qualifier_layer alt_layer (Qualifier-F.Generator pattern arrow part))

pub locals_open : (word : Item) (block : Block Decl) → (qualified_of (Locals word block)).opens ≡ true
locals_open word block = ap (λ (q : Qualified). q.opens) (ap qualified_of (sym (rolls-Locals word block)) ∙ fold-roll-Qualifier Declared (List Event) Qualified (List Event) decl_layer exp_layer qualifier_layer alt_layer (Qualifier-F.Locals word block))

pub test_opens_none : (part : Exp) → (qualified_of (Test part)).opens ≡ false
test_opens_none part = ap (λ (q : Qualified). q.opens) (ap qualified_of (sym (rolls-Test part)) ∙ fold-roll-Qualifier Declared (List Event) Qualified (List Event) decl_layer exp_layer qualifier_layer alt_layer (Qualifier-F.Test part))

-- an alternative is a record, which is opened
alt_rolled : (pattern : Pat) (body : Body Exp) (locals : Option (Where Decl)) → alt_events (roll-Alt (record { pattern = pattern; body = body; locals = locals }))
    ≡ Event.Begin ∷ Event.Enter 0 ∷ (pat_events pattern ++ (rest_events exp_events declared_of body locals ++ Event.Leave ∷ Event.End ∷ []))
alt_rolled pattern (Body.Plain mark part) None =
    fold-roll-Alt Declared (List Event) Qualified (List Event) decl_layer exp_layer qualifier_layer alt_layer (record { pattern = pattern; body = (Body.Plain mark part); locals = None })
alt_rolled pattern (Body.Plain mark part) (Some locals) =
    fold-roll-Alt Declared (List Event) Qualified (List Event) decl_layer exp_layer qualifier_layer alt_layer (record { pattern = pattern; body = (Body.Plain mark part); locals = (Some locals) })
    ∙ ap (λ l. Event.Begin ∷ Event.Enter 0 ∷ (pat_events pattern ++ (((Event.Enter 1 ∷ []) ++ ((plain mark ∷ exp_events part) ++ where_of locals l)) ++ Event.Leave ∷ Event.End ∷ []))) (declarations_same declared_of _ (λ item. refl) (λ part. refl) None locals.block.pieces)
alt_rolled pattern (Body.Guarded list) None =
    fold-roll-Alt Declared (List Event) Qualified (List Event) decl_layer exp_layer qualifier_layer alt_layer (record { pattern = pattern; body = (Body.Guarded list); locals = None })
    ∙ ap (λ l. Event.Begin ∷ Event.Enter 0 ∷ (pat_events pattern ++ (([] ++ (l ++ [])) ++ Event.Leave ∷ Event.End ∷ []))) (flat_map-map (guarded_events done) guarded_of list)
alt_rolled pattern (Body.Guarded list) (Some locals) =
    fold-roll-Alt Declared (List Event) Qualified (List Event) decl_layer exp_layer qualifier_layer alt_layer (record { pattern = pattern; body = (Body.Guarded list); locals = (Some locals) })
    ∙ ap (λ l. Event.Begin ∷ Event.Enter 0 ∷ (pat_events pattern ++ (((Event.Enter 1 ∷ []) ++ (flat_map (guarded_events done) (map guarded_of list) ++ where_of locals l)) ++ Event.Leave ∷ Event.End ∷ []))) (declarations_same declared_of _ (λ item. refl) (λ part. refl) None locals.block.pieces)
    ∙ ap (λ l. Event.Begin ∷ Event.Enter 0 ∷ (pat_events pattern ++ (((Event.Enter 1 ∷ []) ++ (l ++ where_of locals (pieces_events declared_of None locals.block.pieces))) ++ Event.Leave ∷ Event.End ∷ []))) (flat_map-map (guarded_events done) guarded_of list)

pub alt_whole : (alt : Alt) → alt_events alt ≡ Event.Begin ∷ Event.Enter 0 ∷ (pat_events (out-Alt alt).pattern ++ (rest_events exp_events declared_of (out-Alt alt).body (out-Alt alt).locals ++ Event.Leave ∷ Event.End ∷ []))
alt_whole alt = ap alt_events (sym (roll-out-Alt alt)) ∙ alt_rolled (out-Alt alt).pattern (out-Alt alt).body (out-Alt alt).locals

pub ruleset exp_read = (fold-append, exp_group, exp_tuple, exp_list, exp_from, exp_from_then, exp_from_to, exp_from_then_to, exp_comprehension, exp_left_section, exp_right_section, exp_apply, exp_infix, exp_annotated, exp_lambda, exp_let, exp_if, exp_case, exp_fields)

pub ruleset decl_read = (fold-append, decl_equation, decl_binding)

pub ruleset decl_named = (equation_named, binding_unnamed)

pub ruleset qualifier_read = (fold-append, qualifier_generator, qualifier_locals, qualifier_test)

pub ruleset qualifier_opens = (generator_opens, locals_open, test_opens_none)

pub ruleset alt_read = (fold-append, alt_whole)
