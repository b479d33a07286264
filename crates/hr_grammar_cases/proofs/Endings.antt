-- An expression, a declaration and an alternative don't end as an empty part does.
use Rattle.std.proofs.Common.{◌≡◌, ◌≢◌, ℕ, zero, suc, Bool, true, false, List, [], ◌∷◌, Option, Some, None, refl, sym, ap, ◌∙◌}
use Rattle.hr_base.specs.declared.lexeme.Ending.{Ending}
use Rattle.hr_base.specs.declared.lexeme.Item.{Item}
use Rattle.hr_rules.specs.declared.block.Placed.{Placed}
use Rattle.hr_tree.specs.declared.lists.Operand.{Operand}
use Rattle.hr_tree.specs.declared.declarations.Body.{Body}
use Rattle.hr_tree.specs.declared.declarations.Guarded.{Guarded}
use Rattle.hr_tree.specs.declared.declarations.Where.{Where}
use Rattle.hr_tree.specs.declared.expressions.Exp.{Exp, out-Exp}
use Rattle.hr_tree.specs.declared.expressions.Decl.{Decl, out-Decl}
use Rattle.hr_tree.specs.declared.expressions.Alt.{Alt, out-Alt}
use Rattle.hr_tree.specs.declared.expressions.Qualifier.{Qualifier}
use Rattle.hr_tree.specs.declared.expressions.Decl.TheOpen.{Decl-F, Exp-F}
use Rattle.hr_grammar.specs.Words.{IsEquals, IsArrow}
use Rattle.hr_grammar.specs.Nodes.{Colons, ExpPlace, DeclPlace}
use Rattle.hr_grammar.specs.Expressions.{last_operand}
use Rattle.hr_grammar.specs.Spans.{part_ending}
use Rattle.hr_grammar_cases.specs.Derivations.{Derivations}
use Rattle.hr_grammar_cases.specs.Expressions.{applied, closed, annotated, exp_operands, exp_reading}
use Rattle.hr_grammar_cases.specs.Declarations.{guards_reading, body_reading, right_side_reading, decl_reading}
use Rattle.hr_grammar_cases.specs.Modules.{derivations}
use Rattle.hr_grammar_cases.specs.Laws.{EndingsAreSome, PartsEnd}

-- an ending that is not that of an empty part
abbrev is_some : Ending → Bool
is_some Ending.Nothing = false
is_some _ = true

some_is : (ending other : Ending) → ending ≡ other → is_some other ≡ true → ending ≢ Ending.Nothing
some_is ending other e o = λ n. let h : true ≡ false = sym o ∙ ap is_some (sym e ∙ n) in let g : ⊥ = cc in g

applied_ends : (ending : Ending) → ending ≡ applied → ending ≢ Ending.Nothing
applied_ends ending e = some_is ending applied e refl

closed_ends : (ending : Ending) → ending ≡ closed → ending ≢ Ending.Nothing
closed_ends ending e = some_is ending closed e refl

annotated_ends : (ending : Ending) → ending ≡ annotated → ending ≢ Ending.Nothing
annotated_ends ending e = some_is ending annotated e refl

where_ends : (ending : Ending) → ending ≡ Ending.WhereBlock → ending ≢ Ending.Nothing
where_ends ending e = some_is ending Ending.WhereBlock e refl

operands_end : (read : Derivations) → EndingsAreSome read → (n : ℕ) (free : Colons) (last : ExpPlace) (operands : List (Operand Exp)) (ending : Ending) (ts us : List Placed)
    → exp_operands read n free last operands ending ts us → ending ≢ Ending.Nothing
operands_end read each n free last [] ending ts us r = elim r [ ]
operands_end read each n free last (operand ∷ []) ending ts us r = each.exp n free last operand.part ending r.1.0 us r.1.2
operands_end read each n free last (operand ∷ (next ∷ rest)) ending ts us r = operands_end read each n free last (next ∷ rest) ending r.2.2.0 us r.2.2.2

exp_ends : (read : Derivations) → EndingsAreSome read → (n : ℕ) (free : Colons) (place : ExpPlace) (layer : Exp-F Decl Exp Qualifier Alt) (ending : Ending) (ts us : List Placed)
    → exp_reading read n free place layer ending ts us → ending ≢ Ending.Nothing
exp_ends read each n free place (Exp-F.Apply atoms) ending ts us r = applied_ends ending r.0.0
exp_ends read each n free place (Exp-F.Case word part of_word block) ending ts us r = closed_ends ending r.0.0
exp_ends read each n free place (Exp-F.Lambda mark patterns arrow body) ending ts us r = each.exp n free ExpPlace.Whole body ending r.1.2.2.0 us r.1.2.2.2
exp_ends read each n free place (Exp-F.Let word block in_word body) ending ts us r = each.exp n free ExpPlace.Whole body ending r.1.2.2.0 us r.1.2.2.2
exp_ends read each n free place (Exp-F.If word test then_word first else_word second) ending ts us r = each.exp n free ExpPlace.Whole second ending r.1.2.2.2.2.0 us r.1.2.2.2.2.2
exp_ends read each n free place (Exp-F.Infix operands) ending ts us r = operands_end read each n free (last_operand place) operands ending ts us r.1
exp_ends read each n free place (Exp-F.Annotated part colons ty) ending ts us r = annotated_ends ending r.0.0
exp_ends read each n free place (Exp-F.Fields part left fields right) ending ts us r = elim r [ ]
exp_ends read each n free place (Exp-F.Variable used) ending ts us r = applied_ends ending r.0
exp_ends read each n free place (Exp-F.Constructor named) ending ts us r = applied_ends ending r.0
exp_ends read each n free place (Exp-F.Literal literal) ending ts us r = applied_ends ending r.0
exp_ends read each n free place (Exp-F.Group left part right) ending ts us r = applied_ends ending r.0
exp_ends read each n free place (Exp-F.Tuple left parts right) ending ts us r = applied_ends ending r.0
exp_ends read each n free place (Exp-F.List left parts right) ending ts us r = applied_ends ending r.0
exp_ends read each n free place (Exp-F.From left first dots right) ending ts us r = applied_ends ending r.0
exp_ends read each n free place (Exp-F.FromThen left first comma second dots right) ending ts us r = applied_ends ending r.0
exp_ends read each n free place (Exp-F.FromTo left first dots last right) ending ts us r = applied_ends ending r.0
exp_ends read each n free place (Exp-F.FromThenTo left first comma second dots last right) ending ts us r = applied_ends ending r.0
exp_ends read each n free place (Exp-F.Comprehension left part bar qualifiers right) ending ts us r = applied_ends ending r.0
exp_ends read each n free place (Exp-F.LeftSection left part operator right) ending ts us r = applied_ends ending r.0
exp_ends read each n free place (Exp-F.RightSection left operator part right) ending ts us r = applied_ends ending r.0

guards_end : (read : Derivations) → EndingsAreSome read → (n : ℕ) (IsMark : Item → Type 0) (list : List (Guarded Exp)) (ending : Ending) (ts us : List Placed)
    → guards_reading read n IsMark list ending ts us → ending ≢ Ending.Nothing
guards_end read each n IsMark [] ending ts us r = elim r [ ]
guards_end read each n IsMark (guarded ∷ []) ending ts us r = each.exp n Colons.Allowed ExpPlace.Whole guarded.body ending r.2.2.0 us r.2.2.2
guards_end read each n IsMark (guarded ∷ (next ∷ rest)) ending ts us r = guards_end read each n IsMark (next ∷ rest) ending r.0 us r.2

-- a part ends in an empty part only if its body does
part_some : (guarded : Bool) (inner : Ending) → inner ≢ Ending.Nothing → is_some (part_ending guarded inner) ≡ true
part_some guarded Ending.Nothing i = let h : ⊥ = i refl in elim h [ ]
part_some guarded (Ending.Applied where_free other) i = refl
part_some guarded (Ending.Closed where_free other) i = refl
part_some guarded (Ending.Annotated where_free other) i = refl
part_some guarded Ending.Signature i = refl
part_some guarded Ending.WhereBlock i = refl
part_some guarded Ending.Fixity i = refl

body_ends : (read : Derivations) → EndingsAreSome read → (n : ℕ) (IsMark : Item → Type 0) (body : Body Exp) (ending : Ending) (ts us : List Placed)
    → body_reading read n IsMark body ending ts us → ending ≢ Ending.Nothing
body_ends read each n IsMark (Body.Plain mark body) ending ts us r =
    some_is ending (part_ending false r.0) r.1 (part_some false r.0 (each.exp n Colons.Allowed ExpPlace.Whole body r.0 r.2.0 us r.2.2))
body_ends read each n IsMark (Body.Guarded list) ending ts us r =
    some_is ending (part_ending true r.0) r.1 (part_some true r.0 (guards_end read each n IsMark list r.0 ts us r.2))

right_side_ends : (read : Derivations) → EndingsAreSome read → (n : ℕ) (IsMark : Item → Type 0) (body : Body Exp) (locals : Option (Where Decl)) (ending : Ending) (ts us : List Placed)
    → right_side_reading read n IsMark body locals ending ts us → ending ≢ Ending.Nothing
right_side_ends read each n IsMark body None ending ts us r = body_ends read each n IsMark body ending ts us r
right_side_ends read each n IsMark body (Some locals) ending ts us r = where_ends ending r.0

decl_ends : (read : Derivations) → EndingsAreSome read → (n : ℕ) (place : DeclPlace) (layer : Decl-F Decl Exp Qualifier Alt) (ending : Ending) (ts us : List Placed)
    → decl_reading read n place layer ending ts us → ending ≢ Ending.Nothing
decl_ends read each n place (Decl-F.Import import) ending ts us r = where_ends ending r.0.0
decl_ends read each n place (Decl-F.Synonym word head equals ty) ending ts us r = where_ends ending r.0.0
decl_ends read each n place (Decl-F.Data word head equals constructions) ending ts us r = where_ends ending r.0.0
decl_ends read each n place (Decl-F.Newtype word head equals construction) ending ts us r = where_ends ending r.0.0
decl_ends read each n place (Decl-F.Signature names colons ty) ending ts us r = some_is ending Ending.Signature r.0.0 refl
decl_ends read each n place (Decl-F.Fixity word level operators) ending ts us r = some_is ending Ending.Fixity r.0.0 refl
decl_ends read each n place (Decl-F.Equation left body locals) ending ts us r = right_side_ends read each n IsEquals body locals ending r.1.0 us r.1.2
decl_ends read each n place (Decl-F.Binding pattern body locals) ending ts us r = right_side_ends read each n IsEquals body locals ending r.1.0 us r.1.2

pub parts_end_lem : PartsEnd
parts_end_lem zero = record {
  exp = λ n free place exp ending ts us r. elim r [ ];
  decl = λ n place decl ending ts us r. elim r [ ];
  alt = λ n alt ending ts us r. elim r [ ];
}
parts_end_lem (suc levels) = record {
  exp = λ n free place exp ending ts us r. exp_ends (derivations levels) (parts_end_lem levels) n free place (out-Exp exp) ending ts us r;
  decl = λ n place decl ending ts us r. decl_ends (derivations levels) (parts_end_lem levels) n place (out-Decl decl) ending ts us r;
  alt = λ n alt ending ts us r. right_side_ends (derivations levels) (parts_end_lem levels) n IsArrow (out-Alt alt).body (out-Alt alt).locals ending r.0 us r.2;
}
