-- Declarations, alternatives, blocks and modules that are read with so many levels are read with more.
use Rattle.std.proofs.Common.{◌≡◌, arith, ℕ, zero, suc, true, false, List, [], ◌∷◌, Option, Some, None}
use Rattle.hr_base.specs.declared.lexeme.Ending.{Ending}
use Rattle.hr_base.specs.declared.lexeme.Item.{Item}
use Rattle.hr_rules.specs.declared.block.BlockKind.{BlockKind}
use Rattle.hr_tree.specs.declared.lists.Block.{Block}
use Rattle.hr_tree.specs.declared.types.Ty.{out-Ty}
use Rattle.hr_tree.specs.declared.patterns.Pat.{Pat, out-Pat}
use Rattle.hr_tree.specs.declared.declarations.Construction.{Construction}
use Rattle.hr_tree.specs.declared.declarations.LeftSide.{LeftSide}
use Rattle.hr_tree.specs.declared.declarations.LeftHead.{LeftHead}
use Rattle.hr_tree.specs.declared.declarations.Closed.{Closed}
use Rattle.hr_tree.specs.declared.declarations.Body.{Body}
use Rattle.hr_tree.specs.declared.declarations.Guarded.{Guarded}
use Rattle.hr_tree.specs.declared.declarations.Where.{Where}
use Rattle.hr_tree.specs.declared.expressions.Exp.{Exp, out-Exp}
use Rattle.hr_tree.specs.declared.expressions.Decl.{Decl, out-Decl}
use Rattle.hr_tree.specs.declared.expressions.Decl.TheOpen.{Decl-F}
use Rattle.hr_tree.specs.declared.expressions.Qualifier.{Qualifier}
use Rattle.hr_tree.specs.declared.expressions.Alt.{Alt, out-Alt}
use Rattle.hr_grammar.specs.Words.{IsEquals, IsArrow, IsBar}
use Rattle.hr_grammar.specs.Nodes.{Colons, TyPlace, PatPlace, ExpPlace, DeclPlace}
use Rattle.hr_grammar.specs.Spans.{part_ending}
use Rattle.hr_grammar_cases.specs.Readings.{one}
use Rattle.hr_grammar_cases.specs.Derivations.{Derivations}
use Rattle.hr_grammar_cases.specs.Declarations.{construction_reading, new_construction_reading, arguments_reading, left_head_reading, closed_reading, left_side_reading, guarded_reading, guards_reading, body_reading, right_side_reading, decl_reading, alt_over}
use Rattle.hr_grammar_cases.specs.Modules.{comes_behind, decl_parts, alt_parts, declarations_over, alternatives_over, derivations}
use Rattle.hr_grammar_cases.specs.Widening.{Widens, AllWiden, LevelsWiden, ModulesWiden}
use Rattle.hr_grammar_cases.proofs.Widening.{same_widens, never_widens, then_widens, given_widens, inside_widens, ends_as_widens, in_turn_widens, separated_widens, PartsWiden, block_widens}
use Rattle.hr_grammar_cases.proofs.WideningExpressions.{ty_widens, pat_widens, exp_widens}

pub construction_widens : (below more : Derivations) → AllWiden below more → (n : ℕ) (construction : Construction) → Widens (construction_reading below n construction) (construction_reading more n construction)
construction_widens below more each n (Construction.Prefix constructor types) = then_widens same_widens (in_turn_widens _ _ (each.ty n TyPlace.Atomic) types)
construction_widens below more each n (Construction.Infix first operator second) =
    then_widens (each.ty n TyPlace.Applied first) (then_widens same_widens (each.ty n TyPlace.Applied second))
construction_widens below more each n (Construction.Fields constructor left fields right) = same_widens

pub new_construction_widens : (below more : Derivations) → AllWiden below more → (n : ℕ) (construction : Construction)
    → Widens (new_construction_reading below n construction) (new_construction_reading more n construction)
new_construction_widens below more each n (Construction.Prefix constructor []) = same_widens
new_construction_widens below more each n (Construction.Prefix constructor (ty ∷ [])) = construction_widens below more each n (Construction.Prefix constructor (ty ∷ []))
new_construction_widens below more each n (Construction.Prefix constructor (ty ∷ (next ∷ rest))) = same_widens
new_construction_widens below more each n (Construction.Infix first operator second) = same_widens
new_construction_widens below more each n (Construction.Fields constructor left fields right) = same_widens

pub arguments_widen : (below more : Derivations) → AllWiden below more → (n : ℕ) (patterns : List Pat) → Widens (arguments_reading below n patterns) (arguments_reading more n patterns)
arguments_widen below more each n patterns = given_widens _ (in_turn_widens _ _ (each.pat n PatPlace.Atomic) patterns)

left_head_widens : (below more : Derivations) → AllWiden below more → (n : ℕ) (head : LeftHead) → Widens (left_head_reading below n head) (left_head_reading more n head)
left_head_widens below more each n (LeftHead.Prefix variable patterns) = then_widens same_widens (arguments_widen below more each n patterns)
left_head_widens below more each n (LeftHead.Infix first operator second) =
    then_widens (each.pat n PatPlace.Whole first) (then_widens same_widens (each.pat n PatPlace.Whole second))

closed_widens : (below more : Derivations) → AllWiden below more → (n : ℕ) (closed : Closed) → Widens (closed_reading below n closed) (closed_reading more n closed)
closed_widens below more each n closed = then_widens same_widens (arguments_widen below more each n closed.patterns)

pub left_side_widens : (below more : Derivations) → AllWiden below more → (n : ℕ) (left : LeftSide) → Widens (left_side_reading below n left) (left_side_reading more n left)
left_side_widens below more each n left =
    given_widens _ (then_widens same_widens (then_widens (left_head_widens below more each n left.head) (in_turn_widens _ _ (closed_widens below more each n) left.closes)))

pub guarded_widens : (below more : Derivations) → AllWiden below more → (n : ℕ) (IsMark : Item → Type 0) (guarded : Guarded Exp) (ending : Ending)
    → Widens (guarded_reading below n IsMark guarded ending) (guarded_reading more n IsMark guarded ending)
guarded_widens below more each n IsMark guarded ending =
    then_widens same_widens (then_widens (inside_widens (each.exp n Colons.Barred ExpPlace.Sequence guarded.guard)) (then_widens same_widens (each.exp n Colons.Allowed ExpPlace.Whole guarded.body ending)))

pub guards_widen : (below more : Derivations) → AllWiden below more → (n : ℕ) (IsMark : Item → Type 0) (list : List (Guarded Exp)) (ending : Ending)
    → Widens (guards_reading below n IsMark list ending) (guards_reading more n IsMark list ending)
guards_widen below more each n IsMark [] ending = same_widens
guards_widen below more each n IsMark (guarded ∷ []) ending = guarded_widens below more each n IsMark guarded ending
guards_widen below more each n IsMark (guarded ∷ (next ∷ rest)) ending =
    then_widens (inside_widens (guarded_widens below more each n IsMark guarded)) (guards_widen below more each n IsMark (next ∷ rest) ending)

pub body_widens : (below more : Derivations) → AllWiden below more → (n : ℕ) (IsMark : Item → Type 0) (body : Body Exp) (ending : Ending)
    → Widens (body_reading below n IsMark body ending) (body_reading more n IsMark body ending)
body_widens below more each n IsMark (Body.Plain mark body) ending =
    ends_as_widens (part_ending false) (λ inner. then_widens same_widens (each.exp n Colons.Allowed ExpPlace.Whole body inner)) ending
body_widens below more each n IsMark (Body.Guarded list) ending = ends_as_widens (part_ending true) (guards_widen below more each n IsMark list) ending

pub right_side_widens : (below more : Derivations) → AllWiden below more → (n : ℕ) (IsMark : Item → Type 0) (body : Body Exp) (locals : Option (Where Decl)) (ending : Ending)
    → Widens (right_side_reading below n IsMark body locals ending) (right_side_reading more n IsMark body locals ending)
right_side_widens below more each n IsMark body None ending = body_widens below more each n IsMark body ending
right_side_widens below more each n IsMark body (Some locals) ending =
    given_widens _ (then_widens (inside_widens (body_widens below more each n IsMark body)) (then_widens same_widens (each.declarations n DeclPlace.Local locals.block)))

pub decl_widens : (below more : Derivations) → AllWiden below more → (n : ℕ) (place : DeclPlace) (layer : Decl-F Decl Exp Qualifier Alt) (ending : Ending)
    → Widens (decl_reading below n place layer ending) (decl_reading more n place layer ending)
decl_widens below more each n place (Decl-F.Import import) ending = same_widens
decl_widens below more each n place (Decl-F.Synonym word head equals ty) ending =
    given_widens _ (then_widens same_widens (then_widens same_widens (then_widens same_widens (each.ty n TyPlace.Whole ty))))
decl_widens below more each n place (Decl-F.Data word head equals constructions) ending =
    given_widens _ (then_widens same_widens (then_widens same_widens (then_widens same_widens (separated_widens (one n IsBar) _ _ (construction_widens below more each n) constructions))))
decl_widens below more each n place (Decl-F.Newtype word head equals construction) ending =
    given_widens _ (then_widens same_widens (then_widens same_widens (then_widens same_widens (new_construction_widens below more each n construction))))
decl_widens below more each n place (Decl-F.Signature names colons ty) ending = given_widens _ (then_widens same_widens (then_widens same_widens (each.ty n TyPlace.Whole ty)))
decl_widens below more each n place (Decl-F.Fixity word level operators) ending = same_widens
decl_widens below more each n place (Decl-F.Equation left body locals) ending =
    given_widens _ (then_widens (left_side_widens below more each n left) (right_side_widens below more each n IsEquals body locals ending))
decl_widens below more each n place (Decl-F.Binding pattern body locals) ending =
    given_widens _ (then_widens (each.pat n PatPlace.Whole pattern) (right_side_widens below more each n IsEquals body locals ending))

pub alt_widens : (below more : Derivations) → AllWiden below more → (n : ℕ) (alt : Alt) (ending : Ending) → Widens (alt_over below n alt ending) (alt_over more n alt ending)
alt_widens below more each n alt ending =
    then_widens (each.pat n PatPlace.Whole (out-Alt alt).pattern) (right_side_widens below more each n IsArrow (out-Alt alt).body (out-Alt alt).locals ending)

pub decl_parts_widen : (below more : Derivations) → AllWiden below more → PartsWiden (decl_parts below) (decl_parts more)
decl_parts_widen below more each n place next decl ending = given_widens (comes_behind place next ≡ true) (each.decl n next decl ending)

pub alt_parts_widen : (below more : Derivations) → AllWiden below more → PartsWiden (alt_parts below) (alt_parts more)
alt_parts_widen below more each n place next alt ending = given_widens (next ≡ place) (each.alt n alt ending)

pub declarations_widen : (below more : Derivations) → AllWiden below more → (m : ℕ) (place : DeclPlace) (block : Block Decl)
    → Widens (declarations_over below m place block) (declarations_over more m place block)
declarations_widen below more each m DeclPlace.First block = never_widens
declarations_widen below more each m DeclPlace.Top block =
    block_widens (decl_parts below) (decl_parts more) (decl_parts_widen below more each) BlockKind.Body m DeclPlace.First block
declarations_widen below more each m DeclPlace.Local block =
    block_widens (decl_parts below) (decl_parts more) (decl_parts_widen below more each) BlockKind.Declarations m DeclPlace.Local block

pub alternatives_widen : (below more : Derivations) → AllWiden below more → (m : ℕ) (block : Block Alt) → Widens (alternatives_over below m block) (alternatives_over more m block)
alternatives_widen below more each m block =
    block_widens (alt_parts below) (alt_parts more) (alt_parts_widen below more each) BlockKind.Alternatives m DeclPlace.Local block

pub levels_widen_lem : LevelsWiden
levels_widen_lem zero more h = record {
  ty = λ n place ty. never_widens;
  pat = λ n place pat. never_widens;
  exp = λ n free place exp ending. never_widens;
  decl = λ n place decl ending. never_widens;
  alt = λ n alt ending. never_widens;
  declarations = λ m place block. never_widens;
  alternatives = λ m block. never_widens;
}
levels_widen_lem (suc levels) zero h = let no : ⊥ = omega arith in elim no [ ]
levels_widen_lem (suc levels) (suc more) h =
    let each : AllWiden (derivations levels) (derivations more) = levels_widen_lem levels more (omega arith) in record {
      ty = λ n place ty. ty_widens (derivations levels) (derivations more) each n place (out-Ty ty);
      pat = λ n place pat. pat_widens (derivations levels) (derivations more) each n place (out-Pat pat);
      exp = λ n free place exp ending. exp_widens (derivations levels) (derivations more) each n free place (out-Exp exp) ending;
      decl = λ n place decl ending. decl_widens (derivations levels) (derivations more) each n place (out-Decl decl) ending;
      alt = alt_widens (derivations levels) (derivations more) each;
      declarations = declarations_widen (derivations levels) (derivations more) each;
      alternatives = alternatives_widen (derivations levels) (derivations more) each;
    }

pub modules_widen_lem : ModulesWiden
modules_widen_lem levels more tree items h d =
    (d.0, d.1, ((levels_widen_lem levels more h).declarations 0 DeclPlace.Top tree.body).widens d.0 [] d.2)
