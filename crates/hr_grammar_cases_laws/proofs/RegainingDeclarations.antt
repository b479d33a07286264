-- Declarations and alternatives of the grammar that stand are read.
use Rattle.std.proofs.Common.{◌≡◌, ◌≢◌, ℕ, true, false, List, [], ◌∷◌, ◌++◌, Option, Some, None, refl, sym, ap, ◌∙◌, subst, inr}
use Rattle.std.specs.List.{AllByRecursion, flat_map}
use lib.Chars.{codes}
use Rattle.hr_base.specs.declared.lexeme.Class.{Class}
use Rattle.hr_base.specs.declared.lexeme.Ending.{Ending}
use Rattle.hr_base.specs.declared.lexeme.Item.{Item}
use Rattle.hr_rules.specs.Blocks.{is_open_brace}
use Rattle.hr_rules.specs.Roles.{role_of}
use Rattle.hr_tree.specs.declared.declarations.Body.{Body}
use Rattle.hr_tree.specs.declared.declarations.Guarded.{Guarded}
use Rattle.hr_tree.specs.declared.declarations.Where.{Where}
use Rattle.hr_tree.specs.declared.expressions.Exp.{Exp}
use Rattle.hr_tree.specs.declared.expressions.Decl.{Decl, out-Decl, roll-Decl}
use Rattle.hr_tree.specs.declared.expressions.Decl.TheOpen.{Decl-F}
use Rattle.hr_tree.specs.declared.expressions.Decl.TheFolds.{fold-roll-Decl}
use Rattle.hr_tree.specs.declared.expressions.Decl.TheViews.{roll-out-Decl, rolls-Equation, rolls-Binding}
use Rattle.hr_tree.specs.declared.expressions.Qualifier.{Qualifier}
use Rattle.hr_tree.specs.declared.expressions.Alt.{Alt, out-Alt}
use Rattle.hr_tree.specs.Names.{variable_items, operator_items}
use Rattle.hr_tree.specs.Lists.{guarded_items, body_items, where_items}
use Rattle.hr_tree.specs.Yields.{construction_items, decl_layer, exp_layer, qualifier_layer, alt_layer, exp_items, decl_items, alt_items}
use Rattle.hr_tree.proofs.ExpressionYields.{decl_equation, decl_binding, alt_whole}
use Rattle.hr_grammar.specs.Words.{IsOf, IsWord, IsEquals, IsArrow, IsBar, IsComma, IsDoubleColon}
use Rattle.hr_grammar.specs.Spelled.{IsVariable, IsOwnOperator}
use Rattle.hr_grammar.specs.Nodes.{Nodes, Colons, TyPlace, PatPlace, ExpPlace, DeclPlace}
use Rattle.hr_grammar.specs.Declarations.{IsDigit, IsConstructionOver, IsGuardedOver, IsBodyOver, IsWhereOver, DeclProduction, IsDeclOver, IsAltOver}
use Rattle.hr_grammar.specs.Spans.{Laid, part_ending, guarded_laid, decl_laid, exp_laid, qualifier_laid, alt_laid, top_ending}
use Rattle.hr_grammar_cases.specs.Readings.{inside}
use Rattle.hr_grammar_cases.specs.Derivations.{Derivations}
use Rattle.hr_grammar_cases.specs.Declarations.{construction_reading, guarded_reading, guards_reading, body_reading, right_side_reading, decl_reading, decl_over, alt_over}
use Rattle.hr_grammar_cases.proofs.Readings.{append_nothing}
use Rattle.hr_grammar_cases.proofs.Stretches.{Text}
use Rattle.hr_grammar_cases.proofs.StandingTrees.{laid_exp, laid_decl, laid_alt, guards_laid, guarded_by}
use Rattle.hr_grammar_cases.proofs.StandingDeclarations.{body_by, right_side_by, decl_equation as decl_equation_laid, decl_binding as decl_binding_laid, alt_whole as alt_whole_laid}
use Rattle.hr_grammar_cases_laws.proofs.Retaken.{separated_retakes, spelled_retakes, maybe_one_retakes}
use Rattle.hr_grammar_cases_laws.proofs.RetakenLeaves.{AllRetake, type_head_retakes, construction_retakes, new_construction_retakes, left_side_retakes, import_retakes}
use Rattle.hr_grammar_cases_laws.proofs.Regaining.{text_firm, nothing_firm, Regains, same_regains, through, ending_regains, then_regains, bare_then_regains, one_then_regains, retaken_regains, nothing_regains, opens_regains}
use Rattle.hr_grammar_cases_laws.proofs.RegainingTrees.{firm_text, AllRegain}

-- ---- right sides
-- a mark is no `{`
abbrev pub MarksFirm : (Item → Type 0) → Type 0
MarksFirm IsMark = (item : Item) → IsMark item → is_open_brace (role_of item.lexeme) ≡ false

equals_firm : MarksFirm IsEquals
equals_firm item is = text_firm Class.ReservedOp (codes "=") item is refl

arrow_firm : MarksFirm IsArrow
arrow_firm item is = text_firm Class.ReservedOp (codes "->") item is refl

guarded_regains : (text : Text) (below : Derivations) (allowed : Nodes) → AllRegain text below allowed → (n : ℕ) (IsMark : Item → Type 0) → MarksFirm IsMark → (guarded : Guarded Exp)
    → IsGuardedOver allowed IsMark guarded → Regains text n false (guarded_laid (guarded_by laid_exp guarded)) (guarded_items exp_items guarded) (inside (guarded_reading below n IsMark guarded))
guarded_regains text below allowed each n IsMark firm guarded is =
    through (λ ts us r. (r.2.2.2.0, (r.0, r.1, (r.2.0, r.2.1, (r.2.2.0, r.2.2.1, r.2.2.2.1)))))
    (one_then_regains IsBar guarded.bar is.0
    (then_regains (inr (λ rest nb. firm guarded.mark is.1.1.0)) (each.exp n Colons.Barred ExpPlace.Sequence guarded.guard is.1.0)
    (one_then_regains IsMark guarded.mark is.1.1.0 (each.exp n Colons.Allowed ExpPlace.Whole guarded.body is.1.1.1))))

guards_regain : (text : Text) (below : Derivations) (allowed : Nodes) → AllRegain text below allowed → (n : ℕ) (IsMark : Item → Type 0) → MarksFirm IsMark → (list : List (Guarded Exp)) → list ≢ []
    → AllByRecursion (IsGuardedOver allowed IsMark) list → Regains text n false (guards_laid list) (flat_map (guarded_items exp_items) list) (inside (guards_reading below n IsMark list))
guards_regain text below allowed each n IsMark firm [] some are = absurd (some refl)
guards_regain text below allowed each n IsMark firm (guarded ∷ []) some are =
    through (λ ts us r. (r.1.0, subst (λ l. guarded_reading below n IsMark guarded r.1.0 ts l) (sym r.2) r.1.1))
    (then_regains (inr nothing_firm) (guarded_regains text below allowed each n IsMark firm guarded are.0) nothing_regains)
guards_regain text below allowed each n IsMark firm (guarded ∷ (next ∷ rest)) some are =
    through (λ ts us r. (r.2.0, (r.0, r.1, r.2.1)))
    (then_regains (inr (firm_text Class.ReservedOp (codes "|") next.bar [] are.1.0.0 refl)) (guarded_regains text below allowed each n IsMark firm guarded are.0)
    (guards_regain text below allowed each n IsMark firm (next ∷ rest) (not_none next rest) are.1))
  where
    not_none : (x : Guarded Exp) (xs : List (Guarded Exp)) → x ∷ xs ≢ []
    not_none x xs = λ e. cc

body_regains : (text : Text) (below : Derivations) (allowed : Nodes) → AllRegain text below allowed → (n : ℕ) (IsMark : Item → Type 0) → MarksFirm IsMark → (body : Body Exp)
    → IsBodyOver allowed IsMark body → Regains text n false (body_by body) (body_items exp_items body) (inside (body_reading below n IsMark body))
body_regains text below allowed each n IsMark firm (Body.Plain mark body) is =
    through (λ ts us r. (part_ending false r.2.0, (r.2.0, refl, (r.0, r.1, r.2.1))))
    (ending_regains (part_ending false (laid_exp body).ending) (one_then_regains IsMark mark is.0 (each.exp n Colons.Allowed ExpPlace.Whole body is.1)))
body_regains text below allowed each n IsMark firm (Body.Guarded list) is =
    through (λ ts us r. (part_ending true r.0, (r.0, refl, r.1)))
    (ending_regains (part_ending true (guards_laid list).ending) (guards_regain text below allowed each n IsMark firm list is.0 is.1))

right_side_regains : (text : Text) (below : Derivations) (allowed : Nodes) → AllRegain text below allowed → (n : ℕ) (IsMark : Item → Type 0) → MarksFirm IsMark → (body : Body Exp) (locals : Option (Where Decl))
    → IsBodyOver allowed IsMark body → IsWhereOver allowed locals
    → Regains text n false (right_side_by body locals) (body_items exp_items body ++ where_items decl_items locals) (inside (right_side_reading below n IsMark body locals))
right_side_regains text below allowed each n IsMark firm body None is there =
    same_regains refl (sym (append_nothing (body_items exp_items body))) (through (λ ts us r. r) (body_regains text below allowed each n IsMark firm body is))
right_side_regains text below allowed each n IsMark firm body (Some locals) is there =
    through (λ ts us r. (Ending.WhereBlock, (refl, r)))
    (ending_regains Ending.WhereBlock
    (then_regains (inr (firm_text Class.ReservedId (codes "where") locals.word [] there.0 refl)) (body_regains text below allowed each n IsMark firm body is)
    (opens_regains (IsWord (codes "where")) locals.word there.0 (each.declarations n locals.block there.1))))

-- one level, where trees on the level below are read
decl_regains : (text : Text) (below : Derivations) (allowed : Nodes) → AllRetake below allowed → AllRegain text below allowed → (n : ℕ) (place : DeclPlace) (layer : Decl-F Decl Exp Qualifier Alt)
    → DeclProduction allowed place layer → Regains text n false (laid_decl (roll-Decl layer)) (decl_items (roll-Decl layer)) (inside (decl_reading below n place layer))
decl_regains text below allowed take each n place (Decl-F.Import import) is =
    same_regains (sym (fold-roll-Decl Laid Laid Laid Laid decl_laid exp_laid qualifier_laid alt_laid (Decl-F.Import import)))
    (sym (fold-roll-Decl (List Item) (List Item) (List Item) (List Item) decl_layer exp_layer qualifier_layer alt_layer (Decl-F.Import import)))
    (through (λ ts us r. (top_ending, ((refl, is.0), r))) (ending_regains top_ending (retaken_regains (import_retakes n import is.1))))
decl_regains text below allowed take each n place (Decl-F.Synonym word head equals ty) is =
    same_regains (sym (fold-roll-Decl Laid Laid Laid Laid decl_laid exp_laid qualifier_laid alt_laid (Decl-F.Synonym word head equals ty)))
    (sym (fold-roll-Decl (List Item) (List Item) (List Item) (List Item) decl_layer exp_layer qualifier_layer alt_layer (Decl-F.Synonym word head equals ty)))
    (through (λ ts us r. (top_ending, ((refl, is.0), r)))
    (ending_regains top_ending
    (one_then_regains (IsWord (codes "type")) word is.1
    (bare_then_regains (type_head_retakes n head is.2) (one_then_regains IsEquals equals is.3 (retaken_regains (take.ty n TyPlace.Whole ty is.4)))))))
decl_regains text below allowed take each n place (Decl-F.Data word head equals constructions) is =
    same_regains (sym (fold-roll-Decl Laid Laid Laid Laid decl_laid exp_laid qualifier_laid alt_laid (Decl-F.Data word head equals constructions)))
    (sym (fold-roll-Decl (List Item) (List Item) (List Item) (List Item) decl_layer exp_layer qualifier_layer alt_layer (Decl-F.Data word head equals constructions)))
    (through (λ ts us r. (top_ending, ((refl, (is.0, is.5)), r)))
    (ending_regains top_ending
    (one_then_regains (IsWord (codes "data")) word is.1
    (bare_then_regains (type_head_retakes n head is.2)
    (one_then_regains IsEquals equals is.3
    (retaken_regains (separated_retakes n IsBar construction_items (construction_reading below n) (IsConstructionOver allowed) (construction_retakes below allowed take n) constructions is.4)))))))
decl_regains text below allowed take each n place (Decl-F.Newtype word head equals construction) is =
    same_regains (sym (fold-roll-Decl Laid Laid Laid Laid decl_laid exp_laid qualifier_laid alt_laid (Decl-F.Newtype word head equals construction)))
    (sym (fold-roll-Decl (List Item) (List Item) (List Item) (List Item) decl_layer exp_layer qualifier_layer alt_layer (Decl-F.Newtype word head equals construction)))
    (through (λ ts us r. (top_ending, ((refl, is.0), r)))
    (ending_regains top_ending
    (one_then_regains (IsWord (codes "newtype")) word is.1
    (bare_then_regains (type_head_retakes n head is.2)
    (one_then_regains IsEquals equals is.3 (retaken_regains (new_construction_retakes below allowed take n construction is.4)))))))
decl_regains text below allowed take each n place (Decl-F.Signature names colons ty) is =
    same_regains (sym (fold-roll-Decl Laid Laid Laid Laid decl_laid exp_laid qualifier_laid alt_laid (Decl-F.Signature names colons ty)))
    (sym (fold-roll-Decl (List Item) (List Item) (List Item) (List Item) decl_layer exp_layer qualifier_layer alt_layer (Decl-F.Signature names colons ty)))
    (through (λ ts us r. (Ending.Signature, ((refl, (is.0, is.2)), r)))
    (ending_regains Ending.Signature
    (bare_then_regains (separated_retakes n IsComma variable_items _ IsVariable (spelled_retakes n IsVariable variable_items) names is.1)
    (one_then_regains IsDoubleColon colons is.3 (retaken_regains (take.ty n TyPlace.Whole ty is.4))))))
decl_regains text below allowed take each n place (Decl-F.Fixity word level operators) is =
    same_regains (sym (fold-roll-Decl Laid Laid Laid Laid decl_laid exp_laid qualifier_laid alt_laid (Decl-F.Fixity word level operators)))
    (sym (fold-roll-Decl (List Item) (List Item) (List Item) (List Item) decl_layer exp_layer qualifier_layer alt_layer (Decl-F.Fixity word level operators)))
    (through (λ ts us r. (Ending.Fixity, ((refl, (is.0, (is.2, is.5))), r)))
    (ending_regains Ending.Fixity
    (one_then_regains (IsOf Class.ReservedId) word is.1
    (bare_then_regains (maybe_one_retakes n IsDigit level is.3)
    (retaken_regains (separated_retakes n IsComma operator_items _ IsOwnOperator (spelled_retakes n IsOwnOperator operator_items) operators is.4))))))
decl_regains text below allowed take each n place (Decl-F.Equation left body locals) is =
    same_regains (sym (decl_equation_laid left body locals)) (sym (ap decl_items (rolls-Equation left body locals) ∙ decl_equation left body locals))
    (through (λ ts us r. (r.2.0, (is.0, (r.0, r.1, r.2.1))))
    (bare_then_regains (left_side_retakes below allowed take n left is.1) (right_side_regains text below allowed each n IsEquals equals_firm body locals is.2 is.3)))
decl_regains text below allowed take each n place (Decl-F.Binding pattern body locals) is =
    same_regains (sym (decl_binding_laid pattern body locals)) (sym (ap decl_items (rolls-Binding pattern body locals) ∙ decl_binding pattern body locals))
    (through (λ ts us r. (r.2.0, (is.0, (r.0, r.1, r.2.1))))
    (bare_then_regains (take.pat n PatPlace.Whole pattern is.1) (right_side_regains text below allowed each n IsEquals equals_firm body locals is.2 is.3)))

pub decl_over_regains : (text : Text) (below : Derivations) (allowed : Nodes) → AllRetake below allowed → AllRegain text below allowed → (n : ℕ) (place : DeclPlace) (decl : Decl)
    → IsDeclOver allowed place decl → Regains text n false (laid_decl decl) (decl_items decl) (inside (decl_over below n place decl))
decl_over_regains text below allowed take each n place decl is =
    same_regains (ap laid_decl (roll-out-Decl decl)) (ap decl_items (roll-out-Decl decl)) (decl_regains text below allowed take each n place (out-Decl decl) is)

pub alt_over_regains : (text : Text) (below : Derivations) (allowed : Nodes) → AllRetake below allowed → AllRegain text below allowed → (n : ℕ) (alt : Alt)
    → IsAltOver allowed alt → Regains text n false (laid_alt alt) (alt_items alt) (inside (alt_over below n alt))
alt_over_regains text below allowed take each n alt is =
    same_regains (sym (alt_whole_laid alt)) (sym (alt_whole alt))
    (through (λ ts us r. (r.2.0, (r.0, r.1, r.2.1)))
    (bare_then_regains (take.pat n PatPlace.Whole (out-Alt alt).pattern is.0) (right_side_regains text below allowed each n IsArrow arrow_firm (out-Alt alt).body (out-Alt alt).locals is.1.0 is.1.1)))
