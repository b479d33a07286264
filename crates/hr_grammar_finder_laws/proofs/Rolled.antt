-- Trees that are written out are those that are made of their layers, as a finder makes them.
use Rattle.std.proofs.Common.{◌≡◌, ℕ, List, [], ◌∷◌, Some, None, refl, ◌∙◌}
use lib.Chars.{codes}
use Rattle.hr_base.specs.declared.lexeme.Item.{Item}
use Rattle.hr_base.specs.declared.lexeme.Class.{Class}
use Rattle.hr_rules.specs.CanFollow.{can_follow}
use Rattle.hr_rules.specs.Roles.{role_of}
use Rattle.hr_tree.specs.declared.names.Constructor.{Constructor as Built}
use Rattle.hr_tree.specs.declared.names.Operator.{Operator}
use Rattle.hr_tree.specs.declared.declarations.Body.{Body}
use Rattle.hr_tree.specs.declared.patterns.Pat.{Pat, roll-Pat}
use Rattle.hr_tree.specs.declared.patterns.Pat.TheVariants.{Variable as Bound}
use Rattle.hr_tree.specs.declared.patterns.Pat.TheOpen.{Pat-F}
use Rattle.hr_tree.specs.declared.patterns.Pat.TheViews.{rolls-Variable as rolls-Bound}
use Rattle.hr_tree.specs.declared.expressions.Exp.{Exp, roll-Exp}
use Rattle.hr_tree.specs.declared.expressions.Decl.{Decl, roll-Decl}
use Rattle.hr_tree.specs.declared.expressions.Alt.{Alt}
use Rattle.hr_tree.specs.declared.expressions.Qualifier.{Qualifier, roll-Qualifier}
use Rattle.hr_tree.specs.declared.expressions.Exp.TheVariants.{Constructor, Literal, Tuple, From, Comprehension, Infix, Let, Case}
use Rattle.hr_tree.specs.declared.expressions.Decl.TheVariants.{Binding}
use Rattle.hr_tree.specs.declared.expressions.Qualifier.TheVariants.{Generator}
use Rattle.hr_tree.specs.declared.expressions.Decl.TheOpen.{Exp-F, Decl-F, Qualifier-F}
use Rattle.hr_tree.specs.declared.expressions.Decl.TheViews.{rolls-Variable, rolls-Constructor, rolls-Literal, rolls-Tuple, rolls-From, rolls-Comprehension, rolls-Infix, rolls-Let, rolls-Case, rolls-Binding, rolls-Generator}
use Rattle.hr_tree.specs.declared.modules.Module.{Module}
use Rattle.hr_grammar.specs.Yields.{nesting_limit}
use Rattle.hr_grammar_finder_laws.specs.Modules.{trees_of}
use Rattle.hr_grammar_finder_laws.specs.Worked.{IsAlone, case_in_tuple_items, case_in_comprehension_items, case_in_sequence_items, case_in_case_items, where_in_let_items}
use Rattle.hr_grammar.specs.Worked.{item, word, bracket, joint, case_of, reserved, name, variable, number, bound, only, alternative, defines, case_in_tuple, case_in_comprehension, case_in_sequence, case_in_case, where_in_let}

-- a tree, and what it is made of
record Made {T : Type 0} (tree : T) : Type 0 where
  made : T
  same : made ≡ tree

abbrev made_bound : (text : List ℕ) → Made (bound text)
made_bound text = record { made = roll-Pat (Pat-F.Variable (name (codes " ") text)); same = rolls-Bound (name (codes " ") text) }

abbrev made_variable : (text : List ℕ) → Made (variable text)
made_variable text = record { made = roll-Exp (Exp-F.Variable (name (codes " ") text)); same = rolls-Variable (name (codes " ") text) }

abbrev made_literal : (literal : Item) → Made (Literal literal)
made_literal literal = record { made = roll-Exp (Exp-F.Literal literal); same = rolls-Literal literal }

abbrev made_constructor : (named : Built) → Made (Constructor named)
made_constructor named = record { made = roll-Exp (Exp-F.Constructor named); same = rolls-Constructor named }

abbrev made_alternative : {pattern : Pat} {body : Exp} → Made pattern → Made body → Made (alternative pattern body)
made_alternative p b = record {
  made = alternative p.made b.made;
  same = λ j. alternative (p.same j) (b.same j);
}

abbrev made_case : {part : Exp} {alt : Alt} (first of_word : Item) (col : ℕ) → Made part → Made alt → Made (Case first part of_word (only col alt))
made_case {part} {alt} first of_word col p a = record {
  made = roll-Exp (Exp-F.Case first p.made of_word (only col a.made));
  same = (λ j. roll-Exp (Exp-F.Case first (p.same j) of_word (only col (a.same j)))) ∙ rolls-Case first part of_word (only col alt);
}

abbrev made_from : {part : Exp} (left dots right : Item) → Made part → Made (From left part dots right)
made_from {part} left dots right p = record {
  made = roll-Exp (Exp-F.From left p.made dots right);
  same = (λ j. roll-Exp (Exp-F.From left (p.same j) dots right)) ∙ rolls-From left part dots right;
}

abbrev made_pair : {first second : Exp} (left comma right : Item) → Made first → Made second
    → Made (Tuple left (record { part = first; separator = Some comma } ∷ (record { part = second; separator = None } ∷ [])) right)
made_pair {first} {second} left comma right p q = record {
  made = roll-Exp (Exp-F.Tuple left (record { part = p.made; separator = Some comma } ∷ (record { part = q.made; separator = None } ∷ [])) right);
  same = (λ j. roll-Exp (Exp-F.Tuple left (record { part = p.same j; separator = Some comma } ∷ (record { part = q.same j; separator = None } ∷ [])) right))
      ∙ rolls-Tuple left (record { part = first; separator = Some comma } ∷ (record { part = second; separator = None } ∷ [])) right;
}

abbrev made_infix : {first second : Exp} (operator : Operator) → Made first → Made second
    → Made (Infix (record { minus = None; part = first; operator = Some operator } ∷ (record { minus = None; part = second; operator = None } ∷ [])))
made_infix {first} {second} operator p q = record {
  made = roll-Exp (Exp-F.Infix (record { minus = None; part = p.made; operator = Some operator } ∷ (record { minus = None; part = q.made; operator = None } ∷ [])));
  same = (λ j. roll-Exp (Exp-F.Infix (record { minus = None; part = p.same j; operator = Some operator } ∷ (record { minus = None; part = q.same j; operator = None } ∷ []))))
      ∙ rolls-Infix (record { minus = None; part = first; operator = Some operator } ∷ (record { minus = None; part = second; operator = None } ∷ []));
}

abbrev made_generator : {pattern : Pat} {part : Exp} (arrow : Item) → Made pattern → Made part → Made (Generator pattern arrow part)
made_generator {pattern} {part} arrow p q = record {
  made = roll-Qualifier (Qualifier-F.Generator p.made arrow q.made);
  same = (λ j. roll-Qualifier (Qualifier-F.Generator (p.same j) arrow (q.same j))) ∙ rolls-Generator pattern arrow part;
}

abbrev made_comprehension : {part : Exp} {qualifier : Qualifier} (left bar right : Item) → Made part → Made qualifier
    → Made (Comprehension left part bar (record { part = qualifier; separator = None } ∷ []) right)
made_comprehension {part} {qualifier} left bar right p q = record {
  made = roll-Exp (Exp-F.Comprehension left p.made bar (record { part = q.made; separator = None } ∷ []) right);
  same = (λ j. roll-Exp (Exp-F.Comprehension left (p.same j) bar (record { part = q.same j; separator = None } ∷ []) right))
      ∙ rolls-Comprehension left part bar (record { part = qualifier; separator = None } ∷ []) right;
}

abbrev made_binding : {pattern : Pat} {body : Exp} (sign : Item) → Made pattern → Made body → Made (Binding pattern (Body.Plain sign body) None)
made_binding {pattern} {body} sign p b = record {
  made = roll-Decl (Decl-F.Binding p.made (Body.Plain sign b.made) None);
  same = (λ j. roll-Decl (Decl-F.Binding (p.same j) (Body.Plain sign (b.same j)) None)) ∙ rolls-Binding pattern (Body.Plain sign body) None;
}

abbrev made_where : {pattern : Pat} {body : Exp} {local : Decl} (sign first : Item) (col : ℕ) → Made pattern → Made body → Made local
    → Made (Binding pattern (Body.Plain sign body) (Some (record { word = first; block = only col local })))
made_where {pattern} {body} {local} sign first col p b l = record {
  made = roll-Decl (Decl-F.Binding p.made (Body.Plain sign b.made) (Some (record { word = first; block = only col l.made })));
  same = (λ j. roll-Decl (Decl-F.Binding (p.same j) (Body.Plain sign (b.same j)) (Some (record { word = first; block = only col (l.same j) }))))
      ∙ rolls-Binding pattern (Body.Plain sign body) (Some (record { word = first; block = only col local }));
}

abbrev made_let : {decl : Decl} {body : Exp} (first in_word : Item) (col : ℕ) → Made decl → Made body → Made (Let first (only col decl) in_word body)
made_let {decl} {body} first in_word col d b = record {
  made = roll-Exp (Exp-F.Let first (only col d.made) in_word b.made);
  same = (λ j. roll-Exp (Exp-F.Let first (only col (d.same j)) in_word (b.same j))) ∙ rolls-Let first (only col decl) in_word body;
}

abbrev made_module : {body : Exp} (text : List ℕ) → Made body → Made (defines text body)
made_module {body} text b =
    let p : Made (Bound (name [] text)) = record { made = roll-Pat (Pat-F.Variable (name [] text)); same = rolls-Bound (name [] text) } in
    let d = made_binding (reserved (codes "=")) p b in
    record {
      made = record { header = None; body = only 1 d.made; tail = [] };
      same = λ j. record { header = None; body = only 1 (d.same j); tail = [] };
    }

abbrev made_number : (text : List ℕ) → Made (number text)
made_number text = made_literal (item Class.Integer (codes " ") text)

-- `case x of y -> ..`
abbrev made_case_of : {body : Exp} (first : Item) (col : ℕ) → Made body → Made (case_of first (codes "x") col (bound (codes "y")) body)
made_case_of first col b = made_case first (word (codes "of")) col (made_variable (codes "x")) (made_alternative (made_bound (codes "y")) b)

abbrev made_tuple : Made (defines (codes "a") case_in_tuple)
made_tuple =
    made_module (codes "a")
    (made_pair (bracket (codes "(")) (joint (codes ",")) (joint (codes ")")) (made_case_of (item Class.ReservedId [] (codes "case")) 16 (made_number (codes "1"))) (made_number (codes "2")))

abbrev made_qualified : Made (defines (codes "a") case_in_comprehension)
made_qualified =
    made_module (codes "a")
    (made_comprehension (bracket (codes "[")) (reserved (codes "|")) (joint (codes "]"))
    (made_case_of (item Class.ReservedId [] (codes "case")) 16
    (made_infix (Operator.Symbol (reserved (codes ":"))) (made_number (codes "1")) (made_constructor (Built.EmptyList (bracket (codes "[")) (joint (codes "]"))))))
    (made_generator (reserved (codes "<-")) (made_bound (codes "y")) (made_variable (codes "z"))))

abbrev made_sequence : Made (defines (codes "a") case_in_sequence)
made_sequence =
    made_module (codes "a")
    (made_from (bracket (codes "[")) (reserved (codes "..")) (joint (codes "]")) (made_case_of (item Class.ReservedId [] (codes "case")) 16 (made_number (codes "1"))))

abbrev made_nested : Made (defines (codes "a") case_in_case)
made_nested =
    made_module (codes "a")
    (made_case (word (codes "case")) (word (codes "of")) 30 (made_case_of (word (codes "case")) 20 (made_variable (codes "y"))) (made_alternative (made_bound (codes "z")) (made_variable (codes "z"))))

abbrev made_locals : Made (defines (codes "a") where_in_let)
made_locals =
    made_module (codes "a")
    (made_let (word (codes "let")) (word (codes "in")) 9
    (made_where (reserved (codes "=")) (word (codes "where")) 21 (made_bound (codes "b")) (made_variable (codes "c"))
    (made_binding (reserved (codes "=")) (made_bound (codes "c")) (made_number (codes "1"))))
    (made_variable (codes "b")))

-- so the reader finds just this tree
only_made : (tree : Module) (made : Made tree) (items : List Item) → trees_of nesting_limit (record { list = items; tail = tree.tail }) ≡ made.made ∷ [] → IsAlone tree items
only_made tree made items e = e ∙ (λ j. made.same j ∷ [])

pub tuple_alone : IsAlone (defines (codes "a") case_in_tuple) case_in_tuple_items
unfolding can_follow role_of
tuple_alone = only_made (defines (codes "a") case_in_tuple) made_tuple case_in_tuple_items refl

pub comprehension_alone : IsAlone (defines (codes "a") case_in_comprehension) case_in_comprehension_items
unfolding can_follow role_of
comprehension_alone = only_made (defines (codes "a") case_in_comprehension) made_qualified case_in_comprehension_items refl

pub sequence_alone : IsAlone (defines (codes "a") case_in_sequence) case_in_sequence_items
unfolding can_follow role_of
sequence_alone = only_made (defines (codes "a") case_in_sequence) made_sequence case_in_sequence_items refl

pub nested_alone : IsAlone (defines (codes "a") case_in_case) case_in_case_items
unfolding can_follow role_of
nested_alone = only_made (defines (codes "a") case_in_case) made_nested case_in_case_items refl

pub locals_alone : IsAlone (defines (codes "a") where_in_let) where_in_let_items
unfolding can_follow role_of
locals_alone = only_made (defines (codes "a") where_in_let) made_locals where_in_let_items refl
