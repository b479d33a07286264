-- The stretch of an expression, a declaration and an alternative has a lexeme and ends as the tree is read.
use Rattle.std.proofs.Common.{◌≡◌, ◌≢◌, ◌+◌, ℕ, zero, suc, Bool, true, false, if◌then◌else◌, List, [], ◌∷◌, map, Option, Some, None, refl, sym, ap, ◌∙◌, subst, suc-ne-zero, arith, ne_eqb}
use Rattle.hr_base.specs.declared.lexeme.Ending.{Ending}
use Rattle.hr_base.specs.declared.lexeme.Item.{Item}
use Rattle.hr_rules.specs.declared.block.BlockKind.{BlockKind}
use Rattle.hr_rules.specs.declared.block.Placed.{Placed}
use Rattle.hr_tree.specs.declared.names.Variable.{Variable}
use Rattle.hr_tree.specs.declared.names.Constructor.{Constructor}
use Rattle.hr_tree.specs.declared.names.Operator.{Operator}
use Rattle.hr_tree.specs.declared.lists.Operand.{Operand}
use Rattle.hr_tree.specs.declared.declarations.Body.{Body}
use Rattle.hr_tree.specs.declared.declarations.Guarded.{Guarded}
use Rattle.hr_tree.specs.declared.declarations.Where.{Where}
use Rattle.hr_tree.specs.declared.expressions.Exp.{Exp, out-Exp, roll-Exp}
use Rattle.hr_tree.specs.declared.expressions.Decl.{Decl, out-Decl, roll-Decl}
use Rattle.hr_tree.specs.declared.expressions.Alt.{Alt, out-Alt}
use Rattle.hr_tree.specs.declared.expressions.Qualifier.{Qualifier}
use Rattle.hr_tree.specs.declared.expressions.Decl.TheOpen.{Decl-F, Exp-F}
use Rattle.hr_tree.specs.declared.expressions.Decl.TheFolds.{fold-roll-Exp, fold-roll-Decl}
use Rattle.hr_tree.specs.declared.expressions.Decl.TheViews.{roll-out-Exp, roll-out-Decl}
use Rattle.std.specs.List.{flat_map}
use Rattle.hr_tree.specs.Yields.{pat_items, left_side_items}
use Rattle.hr_tree.specs.Names.{maybe_item, maybe_operator, variable_items, constructor_items, operator_items}
use Rattle.hr_grammar.specs.Nodes.{Colons, ExpPlace, DeclPlace}
use Rattle.hr_grammar.specs.Expressions.{last_operand}
use Rattle.hr_grammar.specs.Words.{IsEquals, IsArrow}
use Rattle.hr_grammar.specs.Spans.{Laid, blockless, one as one_laid, row, part_ending, operand_laid, guarded_laid, block_laid, decl_laid, exp_laid, qualifier_laid, alt_laid}
use Rattle.hr_grammar.specs.Patterns.{HasTwo}
use Rattle.hr_grammar_cases.specs.Readings.{in_turn, inside}
use Rattle.hr_grammar_cases.specs.Derivations.{Derivations}
use Rattle.hr_grammar_cases.specs.Expressions.{applied, exp_operands, atom_reading, exp_reading}
use Rattle.hr_grammar_cases.specs.Declarations.{guarded_reading, guards_reading, body_reading, right_side_reading, decl_reading}
use Rattle.hr_grammar_cases.specs.Modules.{derivations}
use Rattle.hr_grammar_cases.proofs.Stretches.{beside}
use Rattle.hr_grammar_cases.proofs.StandingTrees.{laid_exp, laid_decl, laid_qualifier, laid_alt, separated_laid, operand_by, operands_laid, guarded_by, guards_laid}
use Rattle.hr_grammar_cases.proofs.StandingBlocks.{block_by}
use Rattle.hr_grammar_cases.proofs.StandingExpressions.{exp_let}
use Rattle.hr_grammar_cases.proofs.StandingDeclarations.{body_by, right_side_by, decl_equation, decl_binding, alt_whole}

-- a stretch that has a lexeme, and its ending
pub record EndsAs (laid : Laid) (ending : Ending) : Type 0 where
  pub some : laid.extent ≢ 0
  pub ends : laid.ending ≡ ending

same_ends : {laid other : Laid} {ending : Ending} → laid ≡ other → EndsAs laid ending → EndsAs other ending
same_ends {ending = ending} e h = subst (λ l. EndsAs l ending) e h

sum_second : (a b : ℕ) → b ≢ 0 → a + b ≢ 0
sum_second a b other = λ e. other (omega arith)

sum_first : (a b : ℕ) → a ≢ 0 → a + b ≢ 0
sum_first a b other = λ e. other (omega arith)

then_ends : (first : Laid) {second : Laid} {ending : Ending} → EndsAs second ending → EndsAs (beside first second) ending
then_ends first {second} h = record {
  some = sum_second first.extent second.extent h.some;
  ends = ap (λ (t : Bool). if t then first.ending else second.ending) (ne_eqb second.extent 0 h.some) ∙ h.ends;
}

alone_ends : {laid : Laid} {ending : Ending} → EndsAs laid ending → EndsAs (beside laid (blockless [])) ending
alone_ends {laid} h = record { some = sum_first laid.extent 0 h.some; ends = h.ends }

one_ends : (item : Item) → EndsAs (one_laid item) applied
one_ends item = record { some = suc-ne-zero 0; ends = refl }

variable_ends : (variable : Variable) → EndsAs (blockless (variable_items variable)) applied
variable_ends (Variable.Name name) = record { some = suc-ne-zero 0; ends = refl }
variable_ends (Variable.Symbol left symbol right) = record { some = suc-ne-zero 2; ends = refl }

constructor_ends : (constructor : Constructor) → EndsAs (blockless (constructor_items constructor)) applied
constructor_ends (Constructor.Name name) = record { some = suc-ne-zero 0; ends = refl }
constructor_ends (Constructor.Symbol left symbol right) = record { some = suc-ne-zero 2; ends = refl }
constructor_ends (Constructor.Unit left right) = record { some = suc-ne-zero 1; ends = refl }
constructor_ends (Constructor.EmptyList left right) = record { some = suc-ne-zero 1; ends = refl }
constructor_ends (Constructor.Tuple left commas right) = record { some = suc-ne-zero _; ends = refl }

pub record AllEnd (below : Derivations) : Type 0 where
  pub exp : (n : ℕ) (free : Colons) (place : ExpPlace) (exp : Exp) (ending : Ending) (ts us : List Placed) → below.exp n free place exp ending ts us → EndsAs (laid_exp exp) ending
  pub atom : (n : ℕ) (free : Colons) (exp : Exp) (ending : Ending) (ts us : List Placed) → below.exp n free ExpPlace.Atom exp ending ts us → ending ≡ applied
  pub decl : (n : ℕ) (place : DeclPlace) (decl : Decl) (ending : Ending) (ts us : List Placed) → below.decl n place decl ending ts us → EndsAs (laid_decl decl) ending
  pub alt : (n : ℕ) (alt : Alt) (ending : Ending) (ts us : List Placed) → below.alt n alt ending ts us → EndsAs (laid_alt alt) ending

-- ---- expressions
no_operator : (laid : Laid) (operator : Option Operator) {ending : Ending} → operator ≡ None → EndsAs laid ending → EndsAs (beside laid (blockless (maybe_operator operator))) ending
no_operator laid operator {ending} e h = subst (λ (o : Option Operator). EndsAs (beside laid (blockless (maybe_operator o))) ending) (sym e) (alone_ends h)

operands_end : (below : Derivations) → AllEnd below → (n : ℕ) (free : Colons) (last : ExpPlace) (operands : List (Operand Exp)) (ending : Ending) (ts us : List Placed)
    → exp_operands below n free last operands ending ts us → EndsAs (operands_laid operands) ending
operands_end below each n free last [] ending ts us r = elim r [ ]
operands_end below each n free last (operand ∷ []) ending ts us r =
    alone_ends (then_ends (blockless (maybe_item operand.minus)) (no_operator (laid_exp operand.part) operand.operator r.0 (each.exp n free last operand.part ending r.1.0 us r.1.2)))
operands_end below each n free last (operand ∷ (next ∷ rest)) ending ts us r =
    then_ends (operand_laid (operand_by laid_exp operand)) (operands_end below each n free last (next ∷ rest) ending r.2.2.0 us r.2.2.2)

atoms_end : (below : Derivations) → AllEnd below → (n : ℕ) (free : Colons) (atom : Exp) (atoms : List Exp) (ts us : List Placed)
    → in_turn (λ x. inside (below.exp n free ExpPlace.Atom x)) (atom ∷ atoms) ts us → EndsAs (row (map laid_exp (atom ∷ atoms))) applied
atoms_end below each n free atom [] ts us r =
    let e = each.exp n free ExpPlace.Atom atom r.1.0 ts r.0 r.1.1 in
    alone_ends (record { some = e.some; ends = e.ends ∙ each.atom n free atom r.1.0 ts r.0 r.1.1 })
atoms_end below each n free atom (next ∷ atoms) ts us r = then_ends (laid_exp atom) (atoms_end below each n free next atoms r.0 us r.2)

two_atoms_end : (below : Derivations) → AllEnd below → (n : ℕ) (free : Colons) (atoms : List Exp) (ts us : List Placed) → HasTwo atoms
    → in_turn (λ x. inside (below.exp n free ExpPlace.Atom x)) atoms ts us → EndsAs (row (map laid_exp atoms)) applied
two_atoms_end below each n free [] ts us two r = elim two [ ]
two_atoms_end below each n free (atom ∷ atoms) ts us two r = atoms_end below each n free atom atoms ts us r

turned : {laid : Laid} {ending other : Ending} → other ≡ ending → EndsAs laid ending → EndsAs laid other
turned e h = record { some = h.some; ends = h.ends ∙ sym e }

-- behind its first lexeme
one_more : (k : ℕ) → 1 + k ≢ 0
one_more k = λ e. omega arith

atom_ends : (below : Derivations) (n : ℕ) (layer : Exp-F Decl Exp Qualifier Alt) (ts us : List Placed) → atom_reading below n layer ts us → EndsAs (laid_exp (roll-Exp layer)) applied
atom_ends below n (Exp-F.Variable used) ts us r = same_ends (sym (fold-roll-Exp Laid Laid Laid Laid decl_laid exp_laid qualifier_laid alt_laid (Exp-F.Variable used))) (variable_ends used)
atom_ends below n (Exp-F.Constructor named) ts us r = same_ends (sym (fold-roll-Exp Laid Laid Laid Laid decl_laid exp_laid qualifier_laid alt_laid (Exp-F.Constructor named))) (constructor_ends named)
atom_ends below n (Exp-F.Literal literal) ts us r = same_ends (sym (fold-roll-Exp Laid Laid Laid Laid decl_laid exp_laid qualifier_laid alt_laid (Exp-F.Literal literal))) (one_ends literal)
atom_ends below n (Exp-F.Group left part right) ts us r = same_ends (sym (fold-roll-Exp Laid Laid Laid Laid decl_laid exp_laid qualifier_laid alt_laid (Exp-F.Group left part right))) (then_ends (one_laid left) (then_ends (laid_exp part) (one_ends right)))
atom_ends below n (Exp-F.Tuple left parts right) ts us r = same_ends (sym (fold-roll-Exp Laid Laid Laid Laid decl_laid exp_laid qualifier_laid alt_laid (Exp-F.Tuple left parts right))) (then_ends (one_laid left) (then_ends (separated_laid laid_exp parts) (one_ends right)))
atom_ends below n (Exp-F.List left parts right) ts us r = same_ends (sym (fold-roll-Exp Laid Laid Laid Laid decl_laid exp_laid qualifier_laid alt_laid (Exp-F.List left parts right))) (then_ends (one_laid left) (then_ends (separated_laid laid_exp parts) (one_ends right)))
atom_ends below n (Exp-F.From left first dots right) ts us r = same_ends (sym (fold-roll-Exp Laid Laid Laid Laid decl_laid exp_laid qualifier_laid alt_laid (Exp-F.From left first dots right))) (then_ends (one_laid left) (then_ends (laid_exp first) (then_ends (one_laid dots) (one_ends right))))
atom_ends below n (Exp-F.FromThen left first comma second dots right) ts us r = same_ends (sym (fold-roll-Exp Laid Laid Laid Laid decl_laid exp_laid qualifier_laid alt_laid (Exp-F.FromThen left first comma second dots right))) (then_ends (one_laid left) (then_ends (laid_exp first) (then_ends (one_laid comma) (then_ends (laid_exp second) (then_ends (one_laid dots) (one_ends right))))))
atom_ends below n (Exp-F.FromTo left first dots last right) ts us r = same_ends (sym (fold-roll-Exp Laid Laid Laid Laid decl_laid exp_laid qualifier_laid alt_laid (Exp-F.FromTo left first dots last right))) (then_ends (one_laid left) (then_ends (laid_exp first) (then_ends (one_laid dots) (then_ends (laid_exp last) (one_ends right)))))
atom_ends below n (Exp-F.FromThenTo left first comma second dots last right) ts us r = same_ends (sym (fold-roll-Exp Laid Laid Laid Laid decl_laid exp_laid qualifier_laid alt_laid (Exp-F.FromThenTo left first comma second dots last right))) (then_ends (one_laid left) (then_ends (laid_exp first) (then_ends (one_laid comma) (then_ends (laid_exp second) (then_ends (one_laid dots) (then_ends (laid_exp last) (one_ends right)))))))
atom_ends below n (Exp-F.Comprehension left part bar qualifiers right) ts us r = same_ends (sym (fold-roll-Exp Laid Laid Laid Laid decl_laid exp_laid qualifier_laid alt_laid (Exp-F.Comprehension left part bar qualifiers right))) (then_ends (one_laid left) (then_ends (laid_exp part) (then_ends (one_laid bar) (then_ends (separated_laid laid_qualifier qualifiers) (one_ends right)))))
atom_ends below n (Exp-F.LeftSection left part operator right) ts us r = same_ends (sym (fold-roll-Exp Laid Laid Laid Laid decl_laid exp_laid qualifier_laid alt_laid (Exp-F.LeftSection left part operator right))) (then_ends (one_laid left) (then_ends (laid_exp part) (then_ends (blockless (operator_items operator)) (one_ends right))))
atom_ends below n (Exp-F.RightSection left operator part right) ts us r = same_ends (sym (fold-roll-Exp Laid Laid Laid Laid decl_laid exp_laid qualifier_laid alt_laid (Exp-F.RightSection left operator part right))) (then_ends (one_laid left) (then_ends (blockless (operator_items operator)) (then_ends (laid_exp part) (one_ends right))))
atom_ends below n (Exp-F.Apply atoms) ts us r = elim r [ ]
atom_ends below n (Exp-F.Infix operands) ts us r = elim r [ ]
atom_ends below n (Exp-F.Annotated part colons ty) ts us r = elim r [ ]
atom_ends below n (Exp-F.Lambda mark patterns arrow body) ts us r = elim r [ ]
atom_ends below n (Exp-F.Let word block in_word body) ts us r = elim r [ ]
atom_ends below n (Exp-F.If word test then_word first else_word second) ts us r = elim r [ ]
atom_ends below n (Exp-F.Case word part of_word block) ts us r = elim r [ ]
atom_ends below n (Exp-F.Fields part left fields right) ts us r = elim r [ ]

exp_ends : (below : Derivations) → AllEnd below → (n : ℕ) (free : Colons) (place : ExpPlace) (layer : Exp-F Decl Exp Qualifier Alt) (ending : Ending) (ts us : List Placed)
    → exp_reading below n free place layer ending ts us → EndsAs (laid_exp (roll-Exp layer)) ending
exp_ends below each n free place (Exp-F.Apply atoms) ending ts us r =
    same_ends (sym (fold-roll-Exp Laid Laid Laid Laid decl_laid exp_laid qualifier_laid alt_laid (Exp-F.Apply atoms))) (turned r.0.0 (two_atoms_end below each n free atoms ts us r.0.1.1 r.1))
exp_ends below each n free place (Exp-F.Case word part of_word block) ending ts us r =
    same_ends (sym (fold-roll-Exp Laid Laid Laid Laid decl_laid exp_laid qualifier_laid alt_laid (Exp-F.Case word part of_word block))) (turned r.0.0 (record { some = one_more _; ends = refl }))
exp_ends below each n free place (Exp-F.Lambda mark patterns arrow body) ending ts us r =
    same_ends (sym (fold-roll-Exp Laid Laid Laid Laid decl_laid exp_laid qualifier_laid alt_laid (Exp-F.Lambda mark patterns arrow body))) (then_ends (one_laid mark) (then_ends (blockless (flat_map pat_items patterns)) (then_ends (one_laid arrow) (each.exp n free ExpPlace.Whole body ending r.1.2.2.0 us r.1.2.2.2))))
exp_ends below each n free place (Exp-F.Let word block in_word body) ending ts us r =
    same_ends (sym (exp_let word block in_word body))
    (then_ends (one_laid word) (then_ends (block_laid BlockKind.Declarations (block_by laid_decl block)) (then_ends (one_laid in_word) (each.exp n free ExpPlace.Whole body ending r.1.2.2.0 us r.1.2.2.2))))
exp_ends below each n free place (Exp-F.If word test then_word first else_word second) ending ts us r =
    same_ends (sym (fold-roll-Exp Laid Laid Laid Laid decl_laid exp_laid qualifier_laid alt_laid (Exp-F.If word test then_word first else_word second))) (then_ends (one_laid word) (then_ends (laid_exp test) (then_ends (one_laid then_word) (then_ends (laid_exp first) (then_ends (one_laid else_word) (each.exp n free ExpPlace.Whole second ending r.1.2.2.2.2.0 us r.1.2.2.2.2.2))))))
exp_ends below each n free place (Exp-F.Infix operands) ending ts us r =
    same_ends (sym (fold-roll-Exp Laid Laid Laid Laid decl_laid exp_laid qualifier_laid alt_laid (Exp-F.Infix operands))) (operands_end below each n free (last_operand place) operands ending ts us r.1)
exp_ends below each n free place (Exp-F.Annotated part colons ty) ending ts us r =
    same_ends (sym (fold-roll-Exp Laid Laid Laid Laid decl_laid exp_laid qualifier_laid alt_laid (Exp-F.Annotated part colons ty))) (turned r.0.0 (record { some = sum_second (laid_exp part).extent _ (one_more _); ends = refl }))
exp_ends below each n free place (Exp-F.Fields part left fields right) ending ts us r = elim r [ ]
exp_ends below each n free place (Exp-F.Variable used) ending ts us r = turned r.0 (atom_ends below n (Exp-F.Variable used) ts us r.1)
exp_ends below each n free place (Exp-F.Constructor named) ending ts us r = turned r.0 (atom_ends below n (Exp-F.Constructor named) ts us r.1)
exp_ends below each n free place (Exp-F.Literal literal) ending ts us r = turned r.0 (atom_ends below n (Exp-F.Literal literal) ts us r.1)
exp_ends below each n free place (Exp-F.Group left part right) ending ts us r = turned r.0 (atom_ends below n (Exp-F.Group left part right) ts us r.1)
exp_ends below each n free place (Exp-F.Tuple left parts right) ending ts us r = turned r.0 (atom_ends below n (Exp-F.Tuple left parts right) ts us r.1)
exp_ends below each n free place (Exp-F.List left parts right) ending ts us r = turned r.0 (atom_ends below n (Exp-F.List left parts right) ts us r.1)
exp_ends below each n free place (Exp-F.From left first dots right) ending ts us r = turned r.0 (atom_ends below n (Exp-F.From left first dots right) ts us r.1)
exp_ends below each n free place (Exp-F.FromThen left first comma second dots right) ending ts us r = turned r.0 (atom_ends below n (Exp-F.FromThen left first comma second dots right) ts us r.1)
exp_ends below each n free place (Exp-F.FromTo left first dots last right) ending ts us r = turned r.0 (atom_ends below n (Exp-F.FromTo left first dots last right) ts us r.1)
exp_ends below each n free place (Exp-F.FromThenTo left first comma second dots last right) ending ts us r = turned r.0 (atom_ends below n (Exp-F.FromThenTo left first comma second dots last right) ts us r.1)
exp_ends below each n free place (Exp-F.Comprehension left part bar qualifiers right) ending ts us r = turned r.0 (atom_ends below n (Exp-F.Comprehension left part bar qualifiers right) ts us r.1)
exp_ends below each n free place (Exp-F.LeftSection left part operator right) ending ts us r = turned r.0 (atom_ends below n (Exp-F.LeftSection left part operator right) ts us r.1)
exp_ends below each n free place (Exp-F.RightSection left operator part right) ending ts us r = turned r.0 (atom_ends below n (Exp-F.RightSection left operator part right) ts us r.1)

not_true : {P : Type 0} → false ≡ true → P
not_true e = let no : ⊥ = cc in elim no [ ]

-- at the place of an atom each production that is left ends so
atoms_applied : (below : Derivations) (n : ℕ) (free : Colons) (layer : Exp-F Decl Exp Qualifier Alt) (ending : Ending) (ts us : List Placed) → exp_reading below n free ExpPlace.Atom layer ending ts us → ending ≡ applied
atoms_applied below n free (Exp-F.Apply atoms) ending ts us r = r.0.0
atoms_applied below n free (Exp-F.Case word part of_word block) ending ts us r = not_true r.0.1
atoms_applied below n free (Exp-F.Lambda mark patterns arrow body) ending ts us r = not_true r.0.0
atoms_applied below n free (Exp-F.Let word block in_word body) ending ts us r = not_true r.0
atoms_applied below n free (Exp-F.If word test then_word first else_word second) ending ts us r = not_true r.0
atoms_applied below n free (Exp-F.Infix operands) ending ts us r = not_true r.0.0
atoms_applied below n free (Exp-F.Annotated part colons ty) ending ts us r = not_true r.0.1.0
atoms_applied below n free (Exp-F.Fields part left fields right) ending ts us r = elim r [ ]
atoms_applied below n free (Exp-F.Variable used) ending ts us r = r.0
atoms_applied below n free (Exp-F.Constructor named) ending ts us r = r.0
atoms_applied below n free (Exp-F.Literal literal) ending ts us r = r.0
atoms_applied below n free (Exp-F.Group left part right) ending ts us r = r.0
atoms_applied below n free (Exp-F.Tuple left parts right) ending ts us r = r.0
atoms_applied below n free (Exp-F.List left parts right) ending ts us r = r.0
atoms_applied below n free (Exp-F.From left first dots right) ending ts us r = r.0
atoms_applied below n free (Exp-F.FromThen left first comma second dots right) ending ts us r = r.0
atoms_applied below n free (Exp-F.FromTo left first dots last right) ending ts us r = r.0
atoms_applied below n free (Exp-F.FromThenTo left first comma second dots last right) ending ts us r = r.0
atoms_applied below n free (Exp-F.Comprehension left part bar qualifiers right) ending ts us r = r.0
atoms_applied below n free (Exp-F.LeftSection left part operator right) ending ts us r = r.0
atoms_applied below n free (Exp-F.RightSection left operator part right) ending ts us r = r.0

-- ---- right sides
guarded_ends : (below : Derivations) → AllEnd below → (n : ℕ) (IsMark : Item → Type 0) (guarded : Guarded Exp) (ending : Ending) (ts us : List Placed)
    → guarded_reading below n IsMark guarded ending ts us → EndsAs (guarded_laid (guarded_by laid_exp guarded)) ending
guarded_ends below each n IsMark guarded ending ts us r = then_ends (one_laid guarded.bar) (then_ends (laid_exp guarded.guard) (then_ends (one_laid guarded.mark) (each.exp n Colons.Allowed ExpPlace.Whole guarded.body ending r.2.2.0 us r.2.2.2)))

guards_end : (below : Derivations) → AllEnd below → (n : ℕ) (IsMark : Item → Type 0) (list : List (Guarded Exp)) (ending : Ending) (ts us : List Placed)
    → guards_reading below n IsMark list ending ts us → EndsAs (guards_laid list) ending
guards_end below each n IsMark [] ending ts us r = elim r [ ]
guards_end below each n IsMark (guarded ∷ []) ending ts us r = alone_ends (guarded_ends below each n IsMark guarded ending ts us r)
guards_end below each n IsMark (guarded ∷ (next ∷ rest)) ending ts us r =
    then_ends (guarded_laid (guarded_by laid_exp guarded)) (guards_end below each n IsMark (next ∷ rest) ending r.0 us r.2)

body_ends : (below : Derivations) → AllEnd below → (n : ℕ) (IsMark : Item → Type 0) (body : Body Exp) (ending : Ending) (ts us : List Placed)
    → body_reading below n IsMark body ending ts us → EndsAs (body_by body) ending
body_ends below each n IsMark (Body.Plain mark body) ending ts us r =
    record { some = one_more (laid_exp body).extent; ends = ap (part_ending false) (each.exp n Colons.Allowed ExpPlace.Whole body r.0 r.2.0 us r.2.2).ends ∙ sym r.1 }
body_ends below each n IsMark (Body.Guarded list) ending ts us r =
    let e = guards_end below each n IsMark list r.0 ts us r.2 in record { some = e.some; ends = ap (part_ending true) e.ends ∙ sym r.1 }

right_side_ends : (below : Derivations) → AllEnd below → (n : ℕ) (IsMark : Item → Type 0) (body : Body Exp) (locals : Option (Where Decl)) (ending : Ending) (ts us : List Placed)
    → right_side_reading below n IsMark body locals ending ts us → EndsAs (right_side_by body locals) ending
right_side_ends below each n IsMark body None ending ts us r = body_ends below each n IsMark body ending ts us r
right_side_ends below each n IsMark body (Some locals) ending ts us r =
    turned r.0 (record { some = sum_second (body_by body).extent _ (one_more _); ends = refl })

-- ---- declarations
decl_ends : (below : Derivations) → AllEnd below → (n : ℕ) (place : DeclPlace) (layer : Decl-F Decl Exp Qualifier Alt) (ending : Ending) (ts us : List Placed)
    → decl_reading below n place layer ending ts us → EndsAs (laid_decl (roll-Decl layer)) ending
decl_ends below each n place (Decl-F.Import import) ending ts us r =
    same_ends (sym (fold-roll-Decl Laid Laid Laid Laid decl_laid exp_laid qualifier_laid alt_laid (Decl-F.Import import))) (turned r.0.0 (record { some = suc-ne-zero _; ends = refl }))
decl_ends below each n place (Decl-F.Synonym word head equals ty) ending ts us r =
    same_ends (sym (fold-roll-Decl Laid Laid Laid Laid decl_laid exp_laid qualifier_laid alt_laid (Decl-F.Synonym word head equals ty))) (turned r.0.0 (record { some = one_more _; ends = refl }))
decl_ends below each n place (Decl-F.Data word head equals constructions) ending ts us r =
    same_ends (sym (fold-roll-Decl Laid Laid Laid Laid decl_laid exp_laid qualifier_laid alt_laid (Decl-F.Data word head equals constructions))) (turned r.0.0 (record { some = one_more _; ends = refl }))
decl_ends below each n place (Decl-F.Newtype word head equals construction) ending ts us r =
    same_ends (sym (fold-roll-Decl Laid Laid Laid Laid decl_laid exp_laid qualifier_laid alt_laid (Decl-F.Newtype word head equals construction))) (turned r.0.0 (record { some = one_more _; ends = refl }))
decl_ends below each n place (Decl-F.Signature names colons ty) ending ts us r =
    same_ends (sym (fold-roll-Decl Laid Laid Laid Laid decl_laid exp_laid qualifier_laid alt_laid (Decl-F.Signature names colons ty))) (turned r.0.0 (record { some = sum_second _ _ (one_more _); ends = refl }))
decl_ends below each n place (Decl-F.Fixity word level operators) ending ts us r =
    same_ends (sym (fold-roll-Decl Laid Laid Laid Laid decl_laid exp_laid qualifier_laid alt_laid (Decl-F.Fixity word level operators))) (turned r.0.0 (record { some = one_more _; ends = refl }))
decl_ends below each n place (Decl-F.Equation left body locals) ending ts us r =
    same_ends (sym (decl_equation left body locals)) (then_ends (blockless (left_side_items left)) (right_side_ends below each n IsEquals body locals ending r.1.0 us r.1.2))
decl_ends below each n place (Decl-F.Binding pattern body locals) ending ts us r =
    same_ends (sym (decl_binding pattern body locals)) (then_ends (blockless (pat_items pattern)) (right_side_ends below each n IsEquals body locals ending r.1.0 us r.1.2))

pub levels_end : (levels : ℕ) → AllEnd (derivations levels)
levels_end zero = record {
  exp = λ n free place exp ending ts us r. elim r [ ];
  atom = λ n free exp ending ts us r. elim r [ ];
  decl = λ n place decl ending ts us r. elim r [ ];
  alt = λ n alt ending ts us r. elim r [ ];
}
levels_end (suc levels) = record {
  exp = λ n free place exp ending ts us r. same_ends (ap laid_exp (roll-out-Exp exp)) (exp_ends (derivations levels) (levels_end levels) n free place (out-Exp exp) ending ts us r);
  atom = λ n free exp ending ts us r. atoms_applied (derivations levels) n free (out-Exp exp) ending ts us r;
  decl = λ n place decl ending ts us r. same_ends (ap laid_decl (roll-out-Decl decl)) (decl_ends (derivations levels) (levels_end levels) n place (out-Decl decl) ending ts us r);
  alt = λ n alt ending ts us r.
      same_ends (sym (alt_whole alt)) (then_ends (blockless (pat_items (out-Alt alt).pattern)) (right_side_ends (derivations levels) (levels_end levels) n IsArrow (out-Alt alt).body (out-Alt alt).locals ending r.0 us r.2));
}
