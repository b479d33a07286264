-- What the layout definitions and the yield say of a tree, production by production, so that both compute on
-- a tree that is written out.
use Rattle.std.proofs.Common.{◌≡◌, true, false, List, [], ◌∷◌, ◌++◌, Option, Some, None, sym, ap, ◌∙◌}
use Rattle.hr_base.specs.declared.lexeme.Ending.{Ending}
use Rattle.hr_base.specs.declared.lexeme.Item.{Item}
use Rattle.hr_tree.specs.declared.names.Variable.{Variable as Named}
use Rattle.hr_tree.specs.declared.names.Constructor.{Constructor as Built}
use Rattle.hr_tree.specs.declared.names.Operator.{Operator}
use Rattle.hr_tree.specs.declared.lists.Listed.{Listed}
use Rattle.hr_tree.specs.declared.lists.Operand.{Operand}
use Rattle.hr_tree.specs.declared.lists.Layout.{Layout}
use Rattle.hr_tree.specs.declared.lists.Piece.{Piece}
use Rattle.hr_tree.specs.declared.declarations.Body.{Body}
use Rattle.hr_tree.specs.declared.declarations.Where.{Where}
use Rattle.hr_tree.specs.declared.types.Ty.{Ty}
use Rattle.hr_tree.specs.declared.types.Ty.TheVariants.{Constructor as TypeOf}
use Rattle.hr_tree.specs.declared.types.Ty.TheOpen.{Ty-F}
use Rattle.hr_tree.specs.declared.types.Ty.TheFolds.{fold-roll-Ty}
use Rattle.hr_tree.specs.declared.types.Ty.TheViews.{rolls-Constructor as rolls-TypeOf}
use Rattle.hr_tree.specs.declared.patterns.Pat.{Pat}
use Rattle.hr_tree.specs.declared.patterns.Pat.TheVariants.{Variable as Bound, Constructor as Built_by}
use Rattle.hr_tree.specs.declared.patterns.Pat.TheOpen.{Pat-F}
use Rattle.hr_tree.specs.declared.patterns.Pat.TheFolds.{fold-roll-Pat}
use Rattle.hr_tree.specs.declared.patterns.Pat.TheViews.{rolls-Variable as rolls-Bound, rolls-Constructor as rolls-Built_by}
use Rattle.hr_tree.specs.declared.expressions.Exp.{Exp}
use Rattle.hr_tree.specs.declared.expressions.Decl.{Decl}
use Rattle.hr_tree.specs.declared.expressions.Alt.{Alt, roll-Alt}
use Rattle.hr_tree.specs.declared.expressions.Qualifier.{Qualifier}
use Rattle.hr_tree.specs.declared.expressions.Exp.TheVariants.{Variable, Constructor, Literal, Group, Tuple, From, Comprehension, LeftSection, Infix, Annotated, Lambda, Let, If, Case}
use Rattle.hr_tree.specs.declared.expressions.Decl.TheVariants.{Binding}
use Rattle.hr_tree.specs.declared.expressions.Qualifier.TheVariants.{Generator}
use Rattle.hr_tree.specs.declared.expressions.Decl.TheOpen.{Exp-F, Decl-F, Qualifier-F, Alt-F}
use Rattle.hr_tree.specs.declared.expressions.Decl.TheFolds.{fold-Exp, fold-Decl, fold-Qualifier, fold-Alt, fold-roll-Exp, fold-roll-Decl, fold-roll-Qualifier, fold-roll-Alt}
use Rattle.hr_tree.specs.declared.expressions.Decl.TheViews.{rolls-Variable, rolls-Constructor, rolls-Literal, rolls-Group, rolls-Tuple, rolls-From, rolls-Comprehension, rolls-LeftSection, rolls-Infix, rolls-Annotated, rolls-Lambda, rolls-Let, rolls-If, rolls-Case, rolls-Binding, rolls-Generator}
use Rattle.hr_tree.specs.Names.{variable_items, constructor_items}
use Rattle.hr_tree.specs.Lists.{body_items, where_items}
use Rattle.hr_tree.specs.Yields.{done, ty_layer, ty_items, pat_layer, pat_items, decl_layer, exp_layer, qualifier_layer, alt_layer}
use Rattle.hr_grammar.specs.Spans.{Laid, blockless, one, ending_as, ◌▷◌, right_side_laid, decl_laid, exp_laid, qualifier_laid, alt_laid}

-- a function of a tree, by what each node gives
pub record Algebra (T : Type 0) : Type 0 where
  pub decl : Decl-F T T T T → T
  pub exp : Exp-F T T T T → T
  pub qualifier : Qualifier-F T T T T → T
  pub alt : Alt-F T T T T → T

abbrev pub of_exp : {T : Type 0} → Algebra T → Exp → T
of_exp {T} g = fold-Exp T T T T g.decl g.exp g.qualifier g.alt

abbrev pub of_decl : {T : Type 0} → Algebra T → Decl → T
of_decl {T} g = fold-Decl T T T T g.decl g.exp g.qualifier g.alt

abbrev pub of_qualifier : {T : Type 0} → Algebra T → Qualifier → T
of_qualifier {T} g = fold-Qualifier T T T T g.decl g.exp g.qualifier g.alt

abbrev pub of_alt : {T : Type 0} → Algebra T → Alt → T
of_alt {T} g = fold-Alt T T T T g.decl g.exp g.qualifier g.alt

abbrev pub laid_by : Algebra Laid
laid_by = record { decl = decl_laid; exp = exp_laid; qualifier = qualifier_laid; alt = alt_laid }

abbrev pub yield_by : Algebra (List Item)
yield_by = record { decl = decl_layer; exp = exp_layer; qualifier = qualifier_layer; alt = alt_layer }

-- what both give of a node
pub record ReadExp (exp : Exp) : Type 0 where
  pub laid : Laid
  pub laid_is : of_exp laid_by exp ≡ laid
  pub items : List Item
  pub items_is : of_exp yield_by exp ≡ items

pub record ReadDecl (decl : Decl) : Type 0 where
  pub laid : Laid
  pub laid_is : of_decl laid_by decl ≡ laid
  pub items : List Item
  pub items_is : of_decl yield_by decl ≡ items

pub record ReadQualifier (qualifier : Qualifier) : Type 0 where
  pub laid : Laid
  pub laid_is : of_qualifier laid_by qualifier ≡ laid
  pub items : List Item
  pub items_is : of_qualifier yield_by qualifier ≡ items

pub record ReadAlt (alt : Alt) : Type 0 where
  pub laid : Laid
  pub laid_is : of_alt laid_by alt ≡ laid
  pub items : List Item
  pub items_is : of_alt yield_by alt ≡ items

pub record ReadPat (pat : Pat) : Type 0 where
  pub items : List Item
  pub items_is : pat_items pat ≡ items

pub record ReadTy (ty : Ty) : Type 0 where
  pub items : List Item
  pub items_is : ty_items ty ≡ items

abbrev pub read_bound : {variable : Named} → ReadPat (Bound variable)
read_bound {variable} = record {
  items = variable_items variable;
  items_is = ap pat_items (sym (rolls-Bound variable)) ∙ fold-roll-Pat (List Item) pat_layer (Pat-F.Variable variable);
}

abbrev pub read_built : {constructor : Built} → ReadPat (Built_by constructor)
read_built {constructor} = record {
  items = constructor_items constructor;
  items_is = ap pat_items (sym (rolls-Built_by constructor)) ∙ fold-roll-Pat (List Item) pat_layer (Pat-F.Constructor constructor);
}

abbrev pub read_type : {constructor : Built} → ReadTy (TypeOf constructor)
read_type {constructor} = record {
  items = constructor_items constructor;
  items_is = ap ty_items (sym (rolls-TypeOf constructor)) ∙ fold-roll-Ty (List Item) ty_layer (Ty-F.Constructor constructor);
}

pub fold_variable : {T : Type 0} (g : Algebra T) (variable : Named) → of_exp g (Variable variable) ≡ g.exp (Exp-F.Variable variable)
fold_variable {T} g variable = ap (of_exp g) (sym (rolls-Variable variable)) ∙ fold-roll-Exp T T T T g.decl g.exp g.qualifier g.alt (Exp-F.Variable variable)

abbrev pub read_variable : {variable : Named} → ReadExp (Variable variable)
read_variable {variable} = record {
  laid = exp_laid (Exp-F.Variable variable);
  laid_is = fold_variable laid_by variable;
  items = exp_layer (Exp-F.Variable variable);
  items_is = fold_variable yield_by variable;
}

pub fold_constructor : {T : Type 0} (g : Algebra T) (constructor : Built) → of_exp g (Constructor constructor) ≡ g.exp (Exp-F.Constructor constructor)
fold_constructor {T} g constructor = ap (of_exp g) (sym (rolls-Constructor constructor)) ∙ fold-roll-Exp T T T T g.decl g.exp g.qualifier g.alt (Exp-F.Constructor constructor)

abbrev pub read_constructor : {constructor : Built} → ReadExp (Constructor constructor)
read_constructor {constructor} = record {
  laid = exp_laid (Exp-F.Constructor constructor);
  laid_is = fold_constructor laid_by constructor;
  items = exp_layer (Exp-F.Constructor constructor);
  items_is = fold_constructor yield_by constructor;
}

pub fold_literal : {T : Type 0} (g : Algebra T) (literal : Item) → of_exp g (Literal literal) ≡ g.exp (Exp-F.Literal literal)
fold_literal {T} g literal = ap (of_exp g) (sym (rolls-Literal literal)) ∙ fold-roll-Exp T T T T g.decl g.exp g.qualifier g.alt (Exp-F.Literal literal)

abbrev pub read_literal : {literal : Item} → ReadExp (Literal literal)
read_literal {literal} = record {
  laid = exp_laid (Exp-F.Literal literal);
  laid_is = fold_literal laid_by literal;
  items = exp_layer (Exp-F.Literal literal);
  items_is = fold_literal yield_by literal;
}

pub fold_group : {T : Type 0} (g : Algebra T) (left : Item) (part : Exp) (right : Item) → of_exp g (Group left part right) ≡ g.exp (Exp-F.Group left (of_exp g part) right)
fold_group {T} g left part right = ap (of_exp g) (sym (rolls-Group left part right)) ∙ fold-roll-Exp T T T T g.decl g.exp g.qualifier g.alt (Exp-F.Group left part right)

abbrev pub read_group : {left : Item} {part : Exp} {right : Item} → ReadExp part → ReadExp (Group left part right)
read_group {left} {part} {right} the_part = record {
  laid = exp_laid (Exp-F.Group left the_part.laid right);
  laid_is = fold_group laid_by left part right ∙ (λ j. exp_laid (Exp-F.Group left (the_part.laid_is j) right));
  items = exp_layer (Exp-F.Group left the_part.items right);
  items_is = fold_group yield_by left part right ∙ (λ j. exp_layer (Exp-F.Group left (the_part.items_is j) right));
}

pub fold_from : {T : Type 0} (g : Algebra T) (left : Item) (first : Exp) (dots : Item) (right : Item) → of_exp g (From left first dots right) ≡ g.exp (Exp-F.From left (of_exp g first) dots right)
fold_from {T} g left first dots right = ap (of_exp g) (sym (rolls-From left first dots right)) ∙ fold-roll-Exp T T T T g.decl g.exp g.qualifier g.alt (Exp-F.From left first dots right)

abbrev pub read_from : {left : Item} {first : Exp} {dots : Item} {right : Item} → ReadExp first → ReadExp (From left first dots right)
read_from {left} {first} {dots} {right} the_first = record {
  laid = exp_laid (Exp-F.From left the_first.laid dots right);
  laid_is = fold_from laid_by left first dots right ∙ (λ j. exp_laid (Exp-F.From left (the_first.laid_is j) dots right));
  items = exp_layer (Exp-F.From left the_first.items dots right);
  items_is = fold_from yield_by left first dots right ∙ (λ j. exp_layer (Exp-F.From left (the_first.items_is j) dots right));
}

pub fold_left_section : {T : Type 0} (g : Algebra T) (left : Item) (part : Exp) (operator : Operator) (right : Item) → of_exp g (LeftSection left part operator right) ≡ g.exp (Exp-F.LeftSection left (of_exp g part) operator right)
fold_left_section {T} g left part operator right = ap (of_exp g) (sym (rolls-LeftSection left part operator right)) ∙ fold-roll-Exp T T T T g.decl g.exp g.qualifier g.alt (Exp-F.LeftSection left part operator right)

abbrev pub read_left_section : {left : Item} {part : Exp} {operator : Operator} {right : Item} → ReadExp part → ReadExp (LeftSection left part operator right)
read_left_section {left} {part} {operator} {right} the_part = record {
  laid = exp_laid (Exp-F.LeftSection left the_part.laid operator right);
  laid_is = fold_left_section laid_by left part operator right ∙ (λ j. exp_laid (Exp-F.LeftSection left (the_part.laid_is j) operator right));
  items = exp_layer (Exp-F.LeftSection left the_part.items operator right);
  items_is = fold_left_section yield_by left part operator right ∙ (λ j. exp_layer (Exp-F.LeftSection left (the_part.items_is j) operator right));
}

pub fold_if : {T : Type 0} (g : Algebra T) (word : Item) (test : Exp) (then_word : Item) (first : Exp) (else_word : Item) (second : Exp) → of_exp g (If word test then_word first else_word second) ≡ g.exp (Exp-F.If word (of_exp g test) then_word (of_exp g first) else_word (of_exp g second))
fold_if {T} g word test then_word first else_word second = ap (of_exp g) (sym (rolls-If word test then_word first else_word second)) ∙ fold-roll-Exp T T T T g.decl g.exp g.qualifier g.alt (Exp-F.If word test then_word first else_word second)

abbrev pub read_if : {word : Item} {test : Exp} {then_word : Item} {first : Exp} {else_word : Item} {second : Exp} → ReadExp test → ReadExp first → ReadExp second → ReadExp (If word test then_word first else_word second)
read_if {word} {test} {then_word} {first} {else_word} {second} the_test the_first the_second = record {
  laid = exp_laid (Exp-F.If word the_test.laid then_word the_first.laid else_word the_second.laid);
  laid_is = fold_if laid_by word test then_word first else_word second ∙ (λ j. exp_laid (Exp-F.If word (the_test.laid_is j) then_word (the_first.laid_is j) else_word (the_second.laid_is j)));
  items = exp_layer (Exp-F.If word the_test.items then_word the_first.items else_word the_second.items);
  items_is = fold_if yield_by word test then_word first else_word second ∙ (λ j. exp_layer (Exp-F.If word (the_test.items_is j) then_word (the_first.items_is j) else_word (the_second.items_is j)));
}

-- `p = body` without `where`
pub fold_binding : {T : Type 0} (g : Algebra T) (pattern : Pat) (mark : Item) (body : Exp) → of_decl g (Binding pattern (Body.Plain mark body) None) ≡ g.decl (Decl-F.Binding pattern (Body.Plain mark (of_exp g body)) None)
fold_binding {T} g pattern mark body =
    ap (of_decl g) (sym (rolls-Binding pattern (Body.Plain mark body) None)) ∙ fold-roll-Decl T T T T g.decl g.exp g.qualifier g.alt (Decl-F.Binding pattern (Body.Plain mark body) None)

abbrev pub read_binding : {pattern : Pat} {mark : Item} {body : Exp} → ReadPat pattern → ReadExp body → ReadDecl (Binding pattern (Body.Plain mark body) None)
read_binding {pattern} {mark} {body} the_pattern the_body = record {
  laid = blockless the_pattern.items ▷ right_side_laid (Body.Plain mark the_body.laid) None;
  laid_is = fold_binding laid_by pattern mark body ∙ (λ j. blockless (the_pattern.items_is j) ▷ right_side_laid (Body.Plain mark (the_body.laid_is j)) None);
  items = the_pattern.items ++ (body_items done (Body.Plain mark the_body.items) ++ []);
  items_is = fold_binding yield_by pattern mark body ∙ (λ j. the_pattern.items_is j ++ (body_items done (Body.Plain mark (the_body.items_is j)) ++ []));
}

-- an expression with a block of one part
pub fold_let : {T : Type 0} (g : Algebra T) (word : Item) (layout : Layout) (decl : Decl) (in_word : Item) (body : Exp)
    → of_exp g (Let word (record { layout = layout; pieces = Piece.Part decl ∷ [] }) in_word body) ≡ g.exp (Exp-F.Let word (record { layout = layout; pieces = Piece.Part (of_decl g decl) ∷ [] }) in_word (of_exp g body))
fold_let {T} g word layout decl in_word body =
    ap (of_exp g) (sym (rolls-Let word (record { layout = layout; pieces = Piece.Part decl ∷ [] }) in_word body))
    ∙ fold-roll-Exp T T T T g.decl g.exp g.qualifier g.alt (Exp-F.Let word (record { layout = layout; pieces = Piece.Part decl ∷ [] }) in_word body)

abbrev pub read_let : {word : Item} {layout : Layout} {decl : Decl} {in_word : Item} {body : Exp} → ReadDecl decl → ReadExp body → ReadExp (Let word (record { layout = layout; pieces = Piece.Part decl ∷ [] }) in_word body)
read_let {word} {layout} {decl} {in_word} {body} the_decl the_body = record {
  laid = exp_laid (Exp-F.Let word (record { layout = layout; pieces = Piece.Part the_decl.laid ∷ [] }) in_word the_body.laid);
  laid_is = fold_let laid_by word layout decl in_word body ∙ (λ j. exp_laid (Exp-F.Let word (record { layout = layout; pieces = Piece.Part (the_decl.laid_is j) ∷ [] }) in_word (the_body.laid_is j)));
  items = exp_layer (Exp-F.Let word (record { layout = layout; pieces = Piece.Part the_decl.items ∷ [] }) in_word the_body.items);
  items_is = fold_let yield_by word layout decl in_word body ∙ (λ j. exp_layer (Exp-F.Let word (record { layout = layout; pieces = Piece.Part (the_decl.items_is j) ∷ [] }) in_word (the_body.items_is j)));
}

pub fold_case : {T : Type 0} (g : Algebra T) (word : Item) (part : Exp) (of_word : Item) (layout : Layout) (alt : Alt)
    → of_exp g (Case word part of_word (record { layout = layout; pieces = Piece.Part alt ∷ [] })) ≡ g.exp (Exp-F.Case word (of_exp g part) of_word (record { layout = layout; pieces = Piece.Part (of_alt g alt) ∷ [] }))
fold_case {T} g word part of_word layout alt =
    ap (of_exp g) (sym (rolls-Case word part of_word (record { layout = layout; pieces = Piece.Part alt ∷ [] })))
    ∙ fold-roll-Exp T T T T g.decl g.exp g.qualifier g.alt (Exp-F.Case word part of_word (record { layout = layout; pieces = Piece.Part alt ∷ [] }))

abbrev pub read_case : {word : Item} {part : Exp} {of_word : Item} {layout : Layout} {alt : Alt} → ReadExp part → ReadAlt alt → ReadExp (Case word part of_word (record { layout = layout; pieces = Piece.Part alt ∷ [] }))
read_case {word} {part} {of_word} {layout} {alt} the_part the_alt = record {
  laid = exp_laid (Exp-F.Case word the_part.laid of_word (record { layout = layout; pieces = Piece.Part the_alt.laid ∷ [] }));
  laid_is = fold_case laid_by word part of_word layout alt ∙ (λ j. exp_laid (Exp-F.Case word (the_part.laid_is j) of_word (record { layout = layout; pieces = Piece.Part (the_alt.laid_is j) ∷ [] })));
  items = exp_layer (Exp-F.Case word the_part.items of_word (record { layout = layout; pieces = Piece.Part the_alt.items ∷ [] }));
  items_is = fold_case yield_by word part of_word layout alt ∙ (λ j. exp_layer (Exp-F.Case word (the_part.items_is j) of_word (record { layout = layout; pieces = Piece.Part (the_alt.items_is j) ∷ [] })));
}

-- `p -> body` without `where`
pub fold_alt : {T : Type 0} (g : Algebra T) (pattern : Pat) (mark : Item) (body : Exp) → of_alt g (roll-Alt (record { pattern = pattern; body = Body.Plain mark body; locals = None })) ≡ g.alt (record { pattern = pattern; body = Body.Plain mark (of_exp g body); locals = None })
fold_alt {T} g pattern mark body = fold-roll-Alt T T T T g.decl g.exp g.qualifier g.alt (record { pattern = pattern; body = Body.Plain mark body; locals = None })

abbrev pub read_alt : {pattern : Pat} {mark : Item} {body : Exp} → ReadPat pattern → ReadExp body → ReadAlt (roll-Alt (record { pattern = pattern; body = Body.Plain mark body; locals = None }))
read_alt {pattern} {mark} {body} the_pattern the_body = record {
  laid = blockless the_pattern.items ▷ right_side_laid (Body.Plain mark the_body.laid) None;
  laid_is = fold_alt laid_by pattern mark body ∙ (λ j. blockless (the_pattern.items_is j) ▷ right_side_laid (Body.Plain mark (the_body.laid_is j)) None);
  items = the_pattern.items ++ (body_items done (Body.Plain mark the_body.items) ++ []);
  items_is = fold_alt yield_by pattern mark body ∙ (λ j. the_pattern.items_is j ++ (body_items done (Body.Plain mark (the_body.items_is j)) ++ []));
}

-- a lambda of one pattern
pub fold_lambda : {T : Type 0} (g : Algebra T) (mark : Item) (pattern : Pat) (arrow : Item) (body : Exp) → of_exp g (Lambda mark (pattern ∷ []) arrow body) ≡ g.exp (Exp-F.Lambda mark (pattern ∷ []) arrow (of_exp g body))
fold_lambda {T} g mark pattern arrow body =
    ap (of_exp g) (sym (rolls-Lambda mark (pattern ∷ []) arrow body)) ∙ fold-roll-Exp T T T T g.decl g.exp g.qualifier g.alt (Exp-F.Lambda mark (pattern ∷ []) arrow body)

abbrev pub read_lambda : {mark : Item} {pattern : Pat} {arrow : Item} {body : Exp} → ReadPat pattern → ReadExp body → ReadExp (Lambda mark (pattern ∷ []) arrow body)
read_lambda {mark} {pattern} {arrow} {body} the_pattern the_body = record {
  laid = one mark ▷ blockless (the_pattern.items ++ []) ▷ one arrow ▷ the_body.laid;
  laid_is = fold_lambda laid_by mark pattern arrow body ∙ (λ j. one mark ▷ blockless (the_pattern.items_is j ++ []) ▷ one arrow ▷ the_body.laid_is j);
  items = mark ∷ ((the_pattern.items ++ []) ++ arrow ∷ the_body.items);
  items_is = fold_lambda yield_by mark pattern arrow body ∙ (λ j. mark ∷ ((the_pattern.items_is j ++ []) ++ arrow ∷ the_body.items_is j));
}

pub fold_annotated : {T : Type 0} (g : Algebra T) (part : Exp) (colons : Item) (ty : Ty) → of_exp g (Annotated part colons ty) ≡ g.exp (Exp-F.Annotated (of_exp g part) colons ty)
fold_annotated {T} g part colons ty = ap (of_exp g) (sym (rolls-Annotated part colons ty)) ∙ fold-roll-Exp T T T T g.decl g.exp g.qualifier g.alt (Exp-F.Annotated part colons ty)

abbrev pub read_annotated : {part : Exp} {colons : Item} {ty : Ty} → ReadExp part → ReadTy ty → ReadExp (Annotated part colons ty)
read_annotated {part} {colons} {ty} the_part the_ty = record {
  laid = ending_as (Ending.Annotated true false) (the_part.laid ▷ one colons ▷ blockless the_ty.items);
  laid_is = fold_annotated laid_by part colons ty ∙ (λ j. ending_as (Ending.Annotated true false) (the_part.laid_is j ▷ one colons ▷ blockless (the_ty.items_is j)));
  items = the_part.items ++ colons ∷ the_ty.items;
  items_is = fold_annotated yield_by part colons ty ∙ (λ j. the_part.items_is j ++ colons ∷ the_ty.items_is j);
}

-- a tuple of two parts
abbrev both_of : {T : Type 0} → T → Item → T → List (Listed T)
both_of first comma second = record { part = first; separator = Some comma } ∷ record { part = second; separator = None } ∷ []

pub fold_tuple : {T : Type 0} (g : Algebra T) (left : Item) (first : Exp) (comma : Item) (second : Exp) (right : Item) → of_exp g (Tuple left (both_of first comma second) right) ≡ g.exp (Exp-F.Tuple left (both_of (of_exp g first) comma (of_exp g second)) right)
fold_tuple {T} g left first comma second right =
    ap (of_exp g) (sym (rolls-Tuple left (both_of first comma second) right)) ∙ fold-roll-Exp T T T T g.decl g.exp g.qualifier g.alt (Exp-F.Tuple left (both_of first comma second) right)

abbrev pub read_tuple : {left : Item} {first : Exp} (comma : Item) {second : Exp} {right : Item} → ReadExp first → ReadExp second
    → ReadExp (Tuple left (record { part = first; separator = Some comma } ∷ record { part = second; separator = None } ∷ []) right)
read_tuple {left} {first} comma {second} {right} the_first the_second = record {
  laid = exp_laid (Exp-F.Tuple left (both_of the_first.laid comma the_second.laid) right);
  laid_is = fold_tuple laid_by left first comma second right ∙ (λ j. exp_laid (Exp-F.Tuple left (both_of (the_first.laid_is j) comma (the_second.laid_is j)) right));
  items = exp_layer (Exp-F.Tuple left (both_of the_first.items comma the_second.items) right);
  items_is = fold_tuple yield_by left first comma second right ∙ (λ j. exp_layer (Exp-F.Tuple left (both_of (the_first.items_is j) comma (the_second.items_is j)) right));
}

-- two operands with an operator between them
abbrev sum_of : {T : Type 0} → T → Operator → T → List (Operand T)
sum_of first operator second = record { minus = None; part = first; operator = Some operator } ∷ record { minus = None; part = second; operator = None } ∷ []

pub fold_infix : {T : Type 0} (g : Algebra T) (first : Exp) (operator : Operator) (second : Exp) → of_exp g (Infix (sum_of first operator second)) ≡ g.exp (Exp-F.Infix (sum_of (of_exp g first) operator (of_exp g second)))
fold_infix {T} g first operator second =
    ap (of_exp g) (sym (rolls-Infix (sum_of first operator second))) ∙ fold-roll-Exp T T T T g.decl g.exp g.qualifier g.alt (Exp-F.Infix (sum_of first operator second))

abbrev pub read_infix : {first : Exp} (operator : Operator) {second : Exp} → ReadExp first → ReadExp second
    → ReadExp (Infix (record { minus = None; part = first; operator = Some operator } ∷ record { minus = None; part = second; operator = None } ∷ []))
read_infix {first} operator {second} the_first the_second = record {
  laid = exp_laid (Exp-F.Infix (sum_of the_first.laid operator the_second.laid));
  laid_is = fold_infix laid_by first operator second ∙ (λ j. exp_laid (Exp-F.Infix (sum_of (the_first.laid_is j) operator (the_second.laid_is j))));
  items = exp_layer (Exp-F.Infix (sum_of the_first.items operator the_second.items));
  items_is = fold_infix yield_by first operator second ∙ (λ j. exp_layer (Exp-F.Infix (sum_of (the_first.items_is j) operator (the_second.items_is j))));
}

pub fold_generator : {T : Type 0} (g : Algebra T) (pattern : Pat) (arrow : Item) (part : Exp) → of_qualifier g (Generator pattern arrow part) ≡ g.qualifier (Qualifier-F.Generator pattern arrow (of_exp g part))
fold_generator {T} g pattern arrow part =
    ap (of_qualifier g) (sym (rolls-Generator pattern arrow part)) ∙ fold-roll-Qualifier T T T T g.decl g.exp g.qualifier g.alt (Qualifier-F.Generator pattern arrow part)

abbrev pub read_generator : {pattern : Pat} {arrow : Item} {part : Exp} → ReadPat pattern → ReadExp part → ReadQualifier (Generator pattern arrow part)
read_generator {pattern} {arrow} {part} the_pattern the_part = record {
  laid = blockless the_pattern.items ▷ one arrow ▷ the_part.laid;
  laid_is = fold_generator laid_by pattern arrow part ∙ (λ j. blockless (the_pattern.items_is j) ▷ one arrow ▷ the_part.laid_is j);
  items = the_pattern.items ++ arrow ∷ the_part.items;
  items_is = fold_generator yield_by pattern arrow part ∙ (λ j. the_pattern.items_is j ++ arrow ∷ the_part.items_is j);
}

-- a comprehension of one qualifier
abbrev alone : {T : Type 0} → T → List (Listed T)
alone part = record { part = part; separator = None } ∷ []

pub fold_comprehension : {T : Type 0} (g : Algebra T) (left : Item) (part : Exp) (bar : Item) (qualifier : Qualifier) (right : Item)
    → of_exp g (Comprehension left part bar (alone qualifier) right) ≡ g.exp (Exp-F.Comprehension left (of_exp g part) bar (alone (of_qualifier g qualifier)) right)
fold_comprehension {T} g left part bar qualifier right =
    ap (of_exp g) (sym (rolls-Comprehension left part bar (alone qualifier) right)) ∙ fold-roll-Exp T T T T g.decl g.exp g.qualifier g.alt (Exp-F.Comprehension left part bar (alone qualifier) right)

abbrev pub read_comprehension : {left : Item} {part : Exp} {bar : Item} {qualifier : Qualifier} {right : Item} → ReadExp part → ReadQualifier qualifier
    → ReadExp (Comprehension left part bar (record { part = qualifier; separator = None } ∷ []) right)
read_comprehension {left} {part} {bar} {qualifier} {right} the_part the_qualifier = record {
  laid = exp_laid (Exp-F.Comprehension left the_part.laid bar (alone the_qualifier.laid) right);
  laid_is = fold_comprehension laid_by left part bar qualifier right ∙ (λ j. exp_laid (Exp-F.Comprehension left (the_part.laid_is j) bar (alone (the_qualifier.laid_is j)) right));
  items = exp_layer (Exp-F.Comprehension left the_part.items bar (alone the_qualifier.items) right);
  items_is = fold_comprehension yield_by left part bar qualifier right ∙ (λ j. exp_layer (Exp-F.Comprehension left (the_part.items_is j) bar (alone (the_qualifier.items_is j)) right));
}

-- `p = body where` with a block of one part
abbrev wheres : {D : Type 0} → Item → Layout → D → Option (Where D)
wheres word layout decl = Some (record { word = word; block = record { layout = layout; pieces = Piece.Part decl ∷ [] } })

pub fold_where : {T : Type 0} (g : Algebra T) (pattern : Pat) (mark : Item) (body : Exp) (word : Item) (layout : Layout) (decl : Decl)
    → of_decl g (Binding pattern (Body.Plain mark body) (wheres word layout decl)) ≡ g.decl (Decl-F.Binding pattern (Body.Plain mark (of_exp g body)) (wheres word layout (of_decl g decl)))
fold_where {T} g pattern mark body word layout decl =
    ap (of_decl g) (sym (rolls-Binding pattern (Body.Plain mark body) (wheres word layout decl)))
    ∙ fold-roll-Decl T T T T g.decl g.exp g.qualifier g.alt (Decl-F.Binding pattern (Body.Plain mark body) (wheres word layout decl))

abbrev pub read_where : {pattern : Pat} {mark : Item} {body : Exp} {word : Item} {layout : Layout} {decl : Decl} → ReadPat pattern → ReadExp body → ReadDecl decl
    → ReadDecl (Binding pattern (Body.Plain mark body) (Some (record { word = word; block = record { layout = layout; pieces = Piece.Part decl ∷ [] } })))
read_where {pattern} {mark} {body} {word} {layout} {decl} the_pattern the_body the_decl = record {
  laid = blockless the_pattern.items ▷ right_side_laid (Body.Plain mark the_body.laid) (wheres word layout the_decl.laid);
  laid_is = fold_where laid_by pattern mark body word layout decl ∙ (λ j. blockless (the_pattern.items_is j) ▷ right_side_laid (Body.Plain mark (the_body.laid_is j)) (wheres word layout (the_decl.laid_is j)));
  items = the_pattern.items ++ (body_items done (Body.Plain mark the_body.items) ++ where_items done (wheres word layout the_decl.items));
  items_is = fold_where yield_by pattern mark body word layout decl ∙ (λ j. the_pattern.items_is j ++ (body_items done (Body.Plain mark (the_body.items_is j)) ++ where_items done (wheres word layout (the_decl.items_is j))));
}
