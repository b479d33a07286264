-- Declarations and alternatives that are read stand.
use Rattle.std.proofs.Common.{◌≡◌, ◌≢◌, ℕ, true, false, List, [], ◌∷◌, Option, Some, None, refl, sym, ap, ◌∙◌}
use lib.Chars.{codes}
use Rattle.hr_base.specs.declared.lexeme.Class.{Class}
use Rattle.hr_base.specs.declared.lexeme.Ending.{Ending}
use Rattle.hr_base.specs.declared.lexeme.Item.{Item}
use Rattle.hr_rules.specs.declared.block.BlockKind.{BlockKind}
use Rattle.hr_rules.specs.Names.{is_one_of}
use Rattle.hr_tree.specs.declared.lists.Piece.{Piece}
use Rattle.hr_tree.specs.declared.patterns.Pat.{Pat}
use Rattle.hr_tree.specs.declared.declarations.LeftSide.{LeftSide}
use Rattle.hr_tree.specs.declared.declarations.Body.{Body}
use Rattle.hr_tree.specs.declared.declarations.Guarded.{Guarded}
use Rattle.hr_tree.specs.declared.declarations.Where.{Where}
use Rattle.hr_tree.specs.declared.expressions.Exp.{Exp}
use Rattle.hr_tree.specs.declared.expressions.Decl.{Decl, out-Decl, roll-Decl}
use Rattle.hr_tree.specs.declared.expressions.Decl.TheOpen.{Decl-F}
use Rattle.hr_tree.specs.declared.expressions.Decl.TheFolds.{fold-roll-Decl, fold-roll-Alt}
use Rattle.hr_tree.specs.declared.expressions.Decl.TheViews.{roll-out-Decl, roll-out-Alt}
use Rattle.hr_tree.specs.declared.expressions.Qualifier.{Qualifier}
use Rattle.hr_tree.specs.declared.expressions.Alt.{Alt, out-Alt, roll-Alt}
use Rattle.hr_tree.specs.Names.{variable_items, operator_items}
use Rattle.hr_tree.specs.Yields.{construction_items, left_side_items, pat_items}
use Rattle.hr_grammar.specs.Words.{IsOf, IsWord, IsEquals, IsArrow, IsBar, IsComma, IsDoubleColon}
use Rattle.hr_grammar.specs.Spelled.{IsVariable, IsOwnOperator}
use Rattle.hr_grammar.specs.Nodes.{Colons, TyPlace, PatPlace, ExpPlace, DeclPlace}
use Rattle.hr_grammar.specs.Declarations.{fixity_words, IsDigit, takes_import, takes_top, takes_local}
use Rattle.hr_grammar.specs.Spans.{Laid, blockless, one as one_laid, ending_as, part_ending, guarded_laid, block_laid, decl_laid, exp_laid, qualifier_laid, alt_laid, top_ending}
use Rattle.hr_grammar_cases.specs.Derivations.{Derivations}
use Rattle.hr_grammar_cases.specs.Declarations.{construction_reading, guarded_reading, guards_reading, body_reading, right_side_reading, decl_reading, decl_over, alt_over}
use Rattle.hr_grammar_cases.proofs.Taken.{AllTake, separated_takes, spelled_takes, maybe_one_takes}
use Rattle.hr_grammar_cases.proofs.Heads.{type_head_takes, construction_takes, new_construction_takes, left_side_takes}
use Rattle.hr_grammar_cases.proofs.Imports.{import_takes}
use Rattle.hr_grammar_cases.proofs.Stretches.{beside, Text}
use Rattle.hr_grammar_cases.proofs.Standing.{Stands, same_stands, never_stands, given_stands, ending_stands, inside_stands, ends_as_stands, then_stands}
use Rattle.hr_grammar_cases.proofs.StandingLexemes.{one_stands, taken_stands, opens_stands}
use Rattle.hr_grammar_cases.proofs.StandingBlocks.{block_by}
use Rattle.hr_grammar_cases.proofs.StandingTrees.{laid_exp, laid_decl, laid_alt, AllStand, guards_laid, guarded_by, pieces_turned, alone_stands}

-- ---- right sides
abbrev pub body_by : Body Exp → Laid
body_by (Body.Plain mark body) = ending_as (part_ending false (laid_exp body).ending) (beside (one_laid mark) (laid_exp body))
body_by (Body.Guarded list) = ending_as (part_ending true (guards_laid list).ending) (guards_laid list)

abbrev pub right_side_by : Body Exp → Option (Where Decl) → Laid
right_side_by body None = body_by body
right_side_by body (Some locals) = ending_as Ending.WhereBlock (beside (body_by body) (beside (one_laid locals.word) (block_laid BlockKind.Declarations (block_by laid_decl locals.block))))

-- what a `where` makes of a right side, from its pieces
abbrev where_by : Laid → Where Decl → List (Piece Laid) → Laid
where_by body locals pieces =
    ending_as Ending.WhereBlock (beside body (beside (one_laid locals.word) (block_laid BlockKind.Declarations (record { layout = locals.block.layout; pieces = pieces }))))

pub decl_equation : (left : LeftSide) (body : Body Exp) (locals : Option (Where Decl)) → laid_decl (roll-Decl (Decl-F.Equation left body locals)) ≡ beside (blockless (left_side_items left)) (right_side_by body locals)
decl_equation left (Body.Plain mark part) None = fold-roll-Decl Laid Laid Laid Laid decl_laid exp_laid qualifier_laid alt_laid (Decl-F.Equation left (Body.Plain mark part) None)
decl_equation left (Body.Plain mark part) (Some locals) =
    fold-roll-Decl Laid Laid Laid Laid decl_laid exp_laid qualifier_laid alt_laid (Decl-F.Equation left (Body.Plain mark part) (Some locals))
    ∙ ap (λ ps. beside (blockless (left_side_items left)) (where_by (body_by (Body.Plain mark part)) locals ps)) (pieces_turned laid_decl _ (λ item. refl) (λ decl. refl) locals.block.pieces)
decl_equation left (Body.Guarded list) None = fold-roll-Decl Laid Laid Laid Laid decl_laid exp_laid qualifier_laid alt_laid (Decl-F.Equation left (Body.Guarded list) None)
decl_equation left (Body.Guarded list) (Some locals) =
    fold-roll-Decl Laid Laid Laid Laid decl_laid exp_laid qualifier_laid alt_laid (Decl-F.Equation left (Body.Guarded list) (Some locals))
    ∙ ap (λ ps. beside (blockless (left_side_items left)) (where_by (body_by (Body.Guarded list)) locals ps)) (pieces_turned laid_decl _ (λ item. refl) (λ decl. refl) locals.block.pieces)

pub decl_binding : (pattern : Pat) (body : Body Exp) (locals : Option (Where Decl)) → laid_decl (roll-Decl (Decl-F.Binding pattern body locals)) ≡ beside (blockless (pat_items pattern)) (right_side_by body locals)
decl_binding pattern (Body.Plain mark part) None = fold-roll-Decl Laid Laid Laid Laid decl_laid exp_laid qualifier_laid alt_laid (Decl-F.Binding pattern (Body.Plain mark part) None)
decl_binding pattern (Body.Plain mark part) (Some locals) =
    fold-roll-Decl Laid Laid Laid Laid decl_laid exp_laid qualifier_laid alt_laid (Decl-F.Binding pattern (Body.Plain mark part) (Some locals))
    ∙ ap (λ ps. beside (blockless (pat_items pattern)) (where_by (body_by (Body.Plain mark part)) locals ps)) (pieces_turned laid_decl _ (λ item. refl) (λ decl. refl) locals.block.pieces)
decl_binding pattern (Body.Guarded list) None = fold-roll-Decl Laid Laid Laid Laid decl_laid exp_laid qualifier_laid alt_laid (Decl-F.Binding pattern (Body.Guarded list) None)
decl_binding pattern (Body.Guarded list) (Some locals) =
    fold-roll-Decl Laid Laid Laid Laid decl_laid exp_laid qualifier_laid alt_laid (Decl-F.Binding pattern (Body.Guarded list) (Some locals))
    ∙ ap (λ ps. beside (blockless (pat_items pattern)) (where_by (body_by (Body.Guarded list)) locals ps)) (pieces_turned laid_decl _ (λ item. refl) (λ decl. refl) locals.block.pieces)

alt_rolled : (pattern : Pat) (body : Body Exp) (locals : Option (Where Decl))
    → laid_alt (roll-Alt (record { pattern = pattern; body = body; locals = locals })) ≡ beside (blockless (pat_items pattern)) (right_side_by body locals)
alt_rolled pattern (Body.Plain mark part) None = fold-roll-Alt Laid Laid Laid Laid decl_laid exp_laid qualifier_laid alt_laid (record { pattern = pattern; body = Body.Plain mark part; locals = None })
alt_rolled pattern (Body.Plain mark part) (Some locals) =
    fold-roll-Alt Laid Laid Laid Laid decl_laid exp_laid qualifier_laid alt_laid (record { pattern = pattern; body = Body.Plain mark part; locals = Some locals })
    ∙ ap (λ ps. beside (blockless (pat_items pattern)) (where_by (body_by (Body.Plain mark part)) locals ps)) (pieces_turned laid_decl _ (λ item. refl) (λ decl. refl) locals.block.pieces)
alt_rolled pattern (Body.Guarded list) None = fold-roll-Alt Laid Laid Laid Laid decl_laid exp_laid qualifier_laid alt_laid (record { pattern = pattern; body = Body.Guarded list; locals = None })
alt_rolled pattern (Body.Guarded list) (Some locals) =
    fold-roll-Alt Laid Laid Laid Laid decl_laid exp_laid qualifier_laid alt_laid (record { pattern = pattern; body = Body.Guarded list; locals = Some locals })
    ∙ ap (λ ps. beside (blockless (pat_items pattern)) (where_by (body_by (Body.Guarded list)) locals ps)) (pieces_turned laid_decl _ (λ item. refl) (λ decl. refl) locals.block.pieces)

pub alt_whole : (alt : Alt) → laid_alt alt ≡ beside (blockless (pat_items (out-Alt alt).pattern)) (right_side_by (out-Alt alt).body (out-Alt alt).locals)
alt_whole alt = ap laid_alt (sym (roll-out-Alt alt)) ∙ alt_rolled (out-Alt alt).pattern (out-Alt alt).body (out-Alt alt).locals

guarded_stands : (text : Text) (below : Derivations) → AllStand text below → (n : ℕ) (IsMark : Item → Type 0) (guarded : Guarded Exp) (ending : Ending)
    → Stands text n false (guarded_laid (guarded_by laid_exp guarded)) (guarded_reading below n IsMark guarded ending)
guarded_stands text below each n IsMark guarded ending =
    then_stands (one_stands IsBar guarded.bar)
    (then_stands (inside_stands (each.exp n Colons.Barred ExpPlace.Sequence guarded.guard)) (then_stands (one_stands IsMark guarded.mark) (each.exp n Colons.Allowed ExpPlace.Whole guarded.body ending)))

guards_stand : (text : Text) (below : Derivations) → AllStand text below → (n : ℕ) (IsMark : Item → Type 0) (list : List (Guarded Exp)) (ending : Ending)
    → Stands text n false (guards_laid list) (guards_reading below n IsMark list ending)
guards_stand text below each n IsMark [] ending = never_stands
guards_stand text below each n IsMark (guarded ∷ []) ending = alone_stands (guarded_stands text below each n IsMark guarded ending)
guards_stand text below each n IsMark (guarded ∷ (next ∷ rest)) ending =
    then_stands (inside_stands (guarded_stands text below each n IsMark guarded)) (guards_stand text below each n IsMark (next ∷ rest) ending)

body_stands : (text : Text) (below : Derivations) → AllStand text below → (n : ℕ) (IsMark : Item → Type 0) (body : Body Exp) (ending : Ending) → Stands text n false (body_by body) (body_reading below n IsMark body ending)
body_stands text below each n IsMark (Body.Plain mark body) ending =
    ending_stands (part_ending false (laid_exp body).ending) (ends_as_stands (part_ending false) (λ inner. then_stands (one_stands IsMark mark) (each.exp n Colons.Allowed ExpPlace.Whole body inner)) ending)
body_stands text below each n IsMark (Body.Guarded list) ending =
    ending_stands (part_ending true (guards_laid list).ending) (ends_as_stands (part_ending true) (guards_stand text below each n IsMark list) ending)

right_side_stands : (text : Text) (below : Derivations) → AllStand text below → (n : ℕ) (IsMark : Item → Type 0) (body : Body Exp) (locals : Option (Where Decl)) (ending : Ending)
    → Stands text n false (right_side_by body locals) (right_side_reading below n IsMark body locals ending)
right_side_stands text below each n IsMark body None ending = body_stands text below each n IsMark body ending
right_side_stands text below each n IsMark body (Some locals) ending =
    given_stands (ending ≡ Ending.WhereBlock)
    (ending_stands Ending.WhereBlock (then_stands (inside_stands (body_stands text below each n IsMark body)) (opens_stands (IsWord (codes "where")) locals.word (each.declarations n locals.block))))

-- one level, where trees on the level below stand
decl_stands : (text : Text) (below : Derivations) → AllTake below → AllStand text below → (n : ℕ) (place : DeclPlace) (layer : Decl-F Decl Exp Qualifier Alt) (ending : Ending)
    → Stands text n false (laid_decl (roll-Decl layer)) (decl_reading below n place layer ending)
decl_stands text below take each n place (Decl-F.Import import) ending =
    same_stands (sym (fold-roll-Decl Laid Laid Laid Laid decl_laid exp_laid qualifier_laid alt_laid (Decl-F.Import import)))
    (given_stands ((ending ≡ top_ending) × (takes_import place ≡ true)) (ending_stands top_ending (taken_stands (import_takes n import))))
decl_stands text below take each n place (Decl-F.Synonym word head equals ty) ending =
    same_stands (sym (fold-roll-Decl Laid Laid Laid Laid decl_laid exp_laid qualifier_laid alt_laid (Decl-F.Synonym word head equals ty)))
    (given_stands ((ending ≡ top_ending) × (takes_top place ≡ true))
    (ending_stands top_ending
    (then_stands (one_stands (IsWord (codes "type")) word) (then_stands (taken_stands (type_head_takes n head)) (then_stands (one_stands IsEquals equals) (taken_stands (take.ty n TyPlace.Whole ty)))))))
decl_stands text below take each n place (Decl-F.Data word head equals constructions) ending =
    same_stands (sym (fold-roll-Decl Laid Laid Laid Laid decl_laid exp_laid qualifier_laid alt_laid (Decl-F.Data word head equals constructions)))
    (given_stands ((ending ≡ top_ending) × ((takes_top place ≡ true) × (constructions ≢ [])))
    (ending_stands top_ending
    (then_stands (one_stands (IsWord (codes "data")) word) (then_stands (taken_stands (type_head_takes n head)) (then_stands (one_stands IsEquals equals)
    (taken_stands (separated_takes n IsBar construction_items (construction_reading below n) (construction_takes below take n) constructions)))))))
decl_stands text below take each n place (Decl-F.Newtype word head equals construction) ending =
    same_stands (sym (fold-roll-Decl Laid Laid Laid Laid decl_laid exp_laid qualifier_laid alt_laid (Decl-F.Newtype word head equals construction)))
    (given_stands ((ending ≡ top_ending) × (takes_top place ≡ true))
    (ending_stands top_ending
    (then_stands (one_stands (IsWord (codes "newtype")) word) (then_stands (taken_stands (type_head_takes n head)) (then_stands (one_stands IsEquals equals) (taken_stands (new_construction_takes below take n construction)))))))
decl_stands text below take each n place (Decl-F.Signature names colons ty) ending =
    same_stands (sym (fold-roll-Decl Laid Laid Laid Laid decl_laid exp_laid qualifier_laid alt_laid (Decl-F.Signature names colons ty)))
    (given_stands ((ending ≡ Ending.Signature) × ((takes_local place ≡ true) × (names ≢ [])))
    (ending_stands Ending.Signature
    (then_stands (taken_stands (separated_takes n IsComma variable_items _ (spelled_takes n IsVariable variable_items) names)) (then_stands (one_stands IsDoubleColon colons) (taken_stands (take.ty n TyPlace.Whole ty))))))
decl_stands text below take each n place (Decl-F.Fixity word level operators) ending =
    same_stands (sym (fold-roll-Decl Laid Laid Laid Laid decl_laid exp_laid qualifier_laid alt_laid (Decl-F.Fixity word level operators)))
    (given_stands ((ending ≡ Ending.Fixity) × ((takes_local place ≡ true) × ((is_one_of fixity_words word.lexeme.text ≡ true) × (operators ≢ []))))
    (ending_stands Ending.Fixity
    (then_stands (one_stands (IsOf Class.ReservedId) word) (then_stands (taken_stands (maybe_one_takes n IsDigit level)) (taken_stands (separated_takes n IsComma operator_items _ (spelled_takes n IsOwnOperator operator_items) operators))))))
decl_stands text below take each n place (Decl-F.Equation left body locals) ending =
    same_stands (sym (decl_equation left body locals))
    (given_stands (takes_local place ≡ true) (then_stands (taken_stands (left_side_takes below take n left)) (right_side_stands text below each n IsEquals body locals ending)))
decl_stands text below take each n place (Decl-F.Binding pattern body locals) ending =
    same_stands (sym (decl_binding pattern body locals))
    (given_stands (takes_local place ≡ true) (then_stands (taken_stands (take.pat n PatPlace.Whole pattern)) (right_side_stands text below each n IsEquals body locals ending)))

pub decl_over_stands : (text : Text) (below : Derivations) → AllTake below → AllStand text below → (n : ℕ) (place : DeclPlace) (decl : Decl) (ending : Ending)
    → Stands text n false (laid_decl decl) (decl_over below n place decl ending)
decl_over_stands text below take each n place decl ending = same_stands (ap laid_decl (roll-out-Decl decl)) (decl_stands text below take each n place (out-Decl decl) ending)

pub alt_over_stands : (text : Text) (below : Derivations) → AllTake below → AllStand text below → (n : ℕ) (alt : Alt) (ending : Ending) → Stands text n false (laid_alt alt) (alt_over below n alt ending)
alt_over_stands text below take each n alt ending =
    same_stands (sym (alt_whole alt)) (then_stands (taken_stands (take.pat n PatPlace.Whole (out-Alt alt).pattern)) (right_side_stands text below each n IsArrow (out-Alt alt).body (out-Alt alt).locals ending))
