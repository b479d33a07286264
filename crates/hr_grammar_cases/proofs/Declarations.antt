-- Declarations and alternatives that are read take their own items.
use Rattle.std.proofs.Common.{◌≡◌, ◌≢◌, ℕ, true, false, List, [], ◌∷◌, ◌++◌, Option, Some, None, sym, ap, ◌∙◌}
use Rattle.std.specs.List.{flat_map}
use lib.Chars.{codes}
use Rattle.hr_base.specs.declared.lexeme.Class.{Class}
use Rattle.hr_base.specs.declared.lexeme.Ending.{Ending}
use Rattle.hr_base.specs.declared.lexeme.Item.{Item}
use Rattle.hr_rules.specs.Names.{is_one_of}
use Rattle.hr_tree.specs.declared.declarations.Body.{Body}
use Rattle.hr_tree.specs.declared.declarations.Guarded.{Guarded}
use Rattle.hr_tree.specs.declared.declarations.Where.{Where}
use Rattle.hr_tree.specs.declared.expressions.Exp.{Exp}
use Rattle.hr_tree.specs.declared.expressions.Decl.{Decl, out-Decl, roll-Decl}
use Rattle.hr_tree.specs.declared.expressions.Decl.TheOpen.{Decl-F}
use Rattle.hr_tree.specs.declared.expressions.Decl.TheFolds.{fold-roll-Decl}
use Rattle.hr_tree.specs.declared.expressions.Decl.TheViews.{roll-out-Decl, rolls-Equation, rolls-Binding}
use Rattle.hr_tree.specs.declared.expressions.Qualifier.{Qualifier}
use Rattle.hr_tree.specs.declared.expressions.Alt.{Alt, out-Alt}
use Rattle.hr_tree.specs.Names.{variable_items, operator_items}
use Rattle.hr_tree.specs.Lists.{guarded_items, body_items, where_items}
use Rattle.hr_tree.specs.Yields.{construction_items, decl_layer, exp_layer, qualifier_layer, alt_layer, exp_items, decl_items, alt_items}
use Rattle.hr_tree.proofs.ExpressionYields.{decl_equation, decl_binding, alt_whole}
use Rattle.hr_grammar.specs.Words.{IsOf, IsWord, IsEquals, IsArrow, IsBar, IsComma, IsDoubleColon}
use Rattle.hr_grammar.specs.Spelled.{IsVariable, IsOwnOperator}
use Rattle.hr_grammar.specs.Nodes.{Colons, TyPlace, PatPlace, ExpPlace, DeclPlace}
use Rattle.hr_grammar.specs.Declarations.{fixity_words, IsDigit, takes_import, takes_top, takes_local}
use Rattle.hr_grammar.specs.Spans.{part_ending, top_ending}
use Rattle.hr_grammar_cases.specs.Derivations.{Derivations}
use Rattle.hr_grammar_cases.specs.Declarations.{construction_reading, guarded_reading, guards_reading, body_reading, right_side_reading, decl_reading, decl_over, alt_over}
use Rattle.hr_grammar_cases.specs.Laws.{Gives, AllGive}
use Rattle.hr_grammar_cases.proofs.Readings.{append_nothing, same_gives, never_gives, then_gives, given_gives, one_gives, spelled_gives, separated_gives, maybe_one_gives, inside_gives, ends_as_gives}
use Rattle.hr_grammar_cases.proofs.Taken.{AllTake, taken_gives}
use Rattle.hr_grammar_cases.proofs.Heads.{type_head_takes, construction_takes, new_construction_takes, left_side_takes}
use Rattle.hr_grammar_cases.proofs.Imports.{import_takes}

guarded_gives : (below : Derivations) → AllGive below → (n : ℕ) (IsMark : Item → Type 0) (guarded : Guarded Exp) (ending : Ending)
    → Gives (guarded_items exp_items guarded) (guarded_reading below n IsMark guarded ending)
guarded_gives below each n IsMark guarded ending =
    then_gives (one_gives n IsBar guarded.bar)
    (then_gives (inside_gives (each.exp n Colons.Barred ExpPlace.Sequence guarded.guard)) (then_gives (one_gives n IsMark guarded.mark) (each.exp n Colons.Allowed ExpPlace.Whole guarded.body ending)))

guards_give : (below : Derivations) → AllGive below → (n : ℕ) (IsMark : Item → Type 0) (list : List (Guarded Exp)) (ending : Ending)
    → Gives (flat_map (guarded_items exp_items) list) (guards_reading below n IsMark list ending)
guards_give below each n IsMark [] ending = never_gives
guards_give below each n IsMark (guarded ∷ []) ending =
    same_gives (sym (append_nothing (guarded_items exp_items guarded))) (guarded_gives below each n IsMark guarded ending)
guards_give below each n IsMark (guarded ∷ (next ∷ rest)) ending =
    then_gives (inside_gives (guarded_gives below each n IsMark guarded)) (guards_give below each n IsMark (next ∷ rest) ending)

body_gives : (below : Derivations) → AllGive below → (n : ℕ) (IsMark : Item → Type 0) (body : Body Exp) (ending : Ending)
    → Gives (body_items exp_items body) (body_reading below n IsMark body ending)
body_gives below each n IsMark (Body.Plain mark body) ending =
    ends_as_gives (part_ending false) (λ inner. then_gives (one_gives n IsMark mark) (each.exp n Colons.Allowed ExpPlace.Whole body inner)) ending
body_gives below each n IsMark (Body.Guarded list) ending = ends_as_gives (part_ending true) (guards_give below each n IsMark list) ending

right_side_gives : (below : Derivations) → AllGive below → (n : ℕ) (IsMark : Item → Type 0) (body : Body Exp) (locals : Option (Where Decl)) (ending : Ending)
    → Gives (body_items exp_items body ++ where_items decl_items locals) (right_side_reading below n IsMark body locals ending)
right_side_gives below each n IsMark body None ending = same_gives (sym (append_nothing (body_items exp_items body))) (body_gives below each n IsMark body ending)
right_side_gives below each n IsMark body (Some locals) ending =
    given_gives (ending ≡ Ending.WhereBlock)
    (then_gives (inside_gives (body_gives below each n IsMark body)) (then_gives (one_gives n (IsWord (codes "where")) locals.word) (each.declarations n DeclPlace.Local locals.block)))

-- one level, where trees on the level below take their own items
decl_gives : (below : Derivations) → AllTake below → AllGive below → (n : ℕ) (place : DeclPlace) (layer : Decl-F Decl Exp Qualifier Alt) (ending : Ending)
    → Gives (decl_items (roll-Decl layer)) (decl_reading below n place layer ending)
decl_gives below takes each n place (Decl-F.Import import) ending =
    same_gives (sym (fold-roll-Decl (List Item) (List Item) (List Item) (List Item) decl_layer exp_layer qualifier_layer alt_layer (Decl-F.Import import))) (given_gives ((ending ≡ top_ending) × (takes_import place ≡ true)) (taken_gives (import_takes n import)))
decl_gives below takes each n place (Decl-F.Synonym word head equals ty) ending =
    same_gives (sym (fold-roll-Decl (List Item) (List Item) (List Item) (List Item) decl_layer exp_layer qualifier_layer alt_layer (Decl-F.Synonym word head equals ty)))
    (given_gives ((ending ≡ top_ending) × (takes_top place ≡ true))
    (then_gives (one_gives n (IsWord (codes "type")) word) (then_gives (taken_gives (type_head_takes n head)) (then_gives (one_gives n IsEquals equals) (each.ty n TyPlace.Whole ty)))))
decl_gives below takes each n place (Decl-F.Data word head equals constructions) ending =
    same_gives (sym (fold-roll-Decl (List Item) (List Item) (List Item) (List Item) decl_layer exp_layer qualifier_layer alt_layer (Decl-F.Data word head equals constructions)))
    (given_gives ((ending ≡ top_ending) × ((takes_top place ≡ true) × (constructions ≢ [])))
    (then_gives (one_gives n (IsWord (codes "data")) word) (then_gives (taken_gives (type_head_takes n head)) (then_gives (one_gives n IsEquals equals)
    (separated_gives n IsBar construction_items (construction_reading below n) (λ construction. taken_gives (construction_takes below takes n construction)) constructions)))))
decl_gives below takes each n place (Decl-F.Newtype word head equals construction) ending =
    same_gives (sym (fold-roll-Decl (List Item) (List Item) (List Item) (List Item) decl_layer exp_layer qualifier_layer alt_layer (Decl-F.Newtype word head equals construction)))
    (given_gives ((ending ≡ top_ending) × (takes_top place ≡ true))
    (then_gives (one_gives n (IsWord (codes "newtype")) word) (then_gives (taken_gives (type_head_takes n head)) (then_gives (one_gives n IsEquals equals) (taken_gives (new_construction_takes below takes n construction))))))
decl_gives below takes each n place (Decl-F.Signature names colons ty) ending =
    same_gives (sym (fold-roll-Decl (List Item) (List Item) (List Item) (List Item) decl_layer exp_layer qualifier_layer alt_layer (Decl-F.Signature names colons ty)))
    (given_gives ((ending ≡ Ending.Signature) × ((takes_local place ≡ true) × (names ≢ [])))
    (then_gives (separated_gives n IsComma variable_items _ (spelled_gives n IsVariable variable_items) names) (then_gives (one_gives n IsDoubleColon colons) (each.ty n TyPlace.Whole ty))))
decl_gives below takes each n place (Decl-F.Fixity word level operators) ending =
    same_gives (sym (fold-roll-Decl (List Item) (List Item) (List Item) (List Item) decl_layer exp_layer qualifier_layer alt_layer (Decl-F.Fixity word level operators)))
    (given_gives ((ending ≡ Ending.Fixity) × ((takes_local place ≡ true) × ((is_one_of fixity_words word.lexeme.text ≡ true) × (operators ≢ []))))
    (then_gives (one_gives n (IsOf Class.ReservedId) word) (then_gives (maybe_one_gives n IsDigit level) (separated_gives n IsComma operator_items _ (spelled_gives n IsOwnOperator operator_items) operators))))
decl_gives below takes each n place (Decl-F.Equation left body locals) ending =
    same_gives (sym (ap decl_items (rolls-Equation left body locals) ∙ decl_equation left body locals))
    (given_gives (takes_local place ≡ true) (then_gives (taken_gives (left_side_takes below takes n left)) (right_side_gives below each n IsEquals body locals ending)))
decl_gives below takes each n place (Decl-F.Binding pattern body locals) ending =
    same_gives (sym (ap decl_items (rolls-Binding pattern body locals) ∙ decl_binding pattern body locals))
    (given_gives (takes_local place ≡ true) (then_gives (each.pat n PatPlace.Whole pattern) (right_side_gives below each n IsEquals body locals ending)))

pub decl_over_gives : (below : Derivations) → AllTake below → AllGive below → (n : ℕ) (place : DeclPlace) (decl : Decl) (ending : Ending) → Gives (decl_items decl) (decl_over below n place decl ending)
decl_over_gives below takes each n place decl ending = same_gives (ap decl_items (roll-out-Decl decl)) (decl_gives below takes each n place (out-Decl decl) ending)

pub alt_over_gives : (below : Derivations) → AllGive below → (n : ℕ) (alt : Alt) (ending : Ending) → Gives (alt_items alt) (alt_over below n alt ending)
alt_over_gives below each n alt ending =
    same_gives (sym (alt_whole alt)) (then_gives (each.pat n PatPlace.Whole (out-Alt alt).pattern) (right_side_gives below each n IsArrow (out-Alt alt).body (out-Alt alt).locals ending))
