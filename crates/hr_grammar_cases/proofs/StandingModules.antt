-- The blocks of a module that is read stand as the layout rule says.
use Rattle.std.proofs.Common.{◌≡◌, ◌+◌, ℕ, zero, suc, true, false, List, [], ◌∷◌, length, drop, refl, sym, ap, ◌∙◌, subst, zero-add, one-add, drop-drop}
use Rattle.hr_base.specs.declared.lexeme.Item.{Item}
use Rattle.hr_rules.specs.declared.block.BlockKind.{BlockKind}
use Rattle.hr_rules.specs.declared.block.Placed.{Placed}
use Rattle.hr_rules.specs.Blocks.{placed_of}
use Rattle.hr_tree.specs.declared.lists.Block.{Block}
use Rattle.hr_tree.specs.declared.expressions.Decl.{Decl}
use Rattle.hr_tree.specs.declared.modules.Module.{Module}
use Rattle.hr_tree.specs.Yields.{header_items, module_items}
use Rattle.hr_grammar.specs.Nodes.{DeclPlace}
use Rattle.hr_grammar.specs.Spans.{BlockSpan, block_laid, piece_of, spans_of}
use Rattle.hr_grammar.specs.Offside.{StandsWell, Offside}
use Rattle.hr_grammar.specs.Yields.{nesting_limit}
use Rattle.hr_grammar_cases.specs.Readings.{takes, take_all}
use Rattle.hr_grammar_cases.specs.Derivations.{Derivations}
use Rattle.hr_grammar_cases.specs.Modules.{comes_behind, decl_parts, alt_parts, derivations, Derives}
use Rattle.hr_grammar_cases.specs.Laws.{EndingsAreSome, ModulesStand, ModulesYield}
use Rattle.hr_grammar_cases.proofs.Endings.{parts_end_lem}
use Rattle.hr_grammar_cases.proofs.Imports.{header_takes}
use Rattle.hr_grammar_cases.proofs.Modules.{levels_take, modules_give_lem}
use Rattle.hr_grammar_cases.proofs.GrammaticalModules.{items_same, modules_are_lem}
use Rattle.hr_grammar_cases.proofs.Stretches.{Has, all_are, is_empty_at, Text, lexemes}
use Rattle.hr_grammar_cases.proofs.Standing.{never_stands, given_stands}
use Rattle.hr_grammar_cases.proofs.StandingPieces.{PartsStand, Agree}
use Rattle.hr_grammar_cases.proofs.StandingBlocks.{block_by, block_stands, stands_there}
use Rattle.hr_grammar_cases.proofs.StandingTrees.{laid_decl, laid_alt, AllStand, pieces_turned}
use Rattle.hr_grammar_cases.proofs.StandingExpressions.{exp_over_stands}
use Rattle.hr_grammar_cases.proofs.StandingDeclarations.{decl_over_stands, alt_over_stands}
use Rattle.hr_grammar_cases.proofs.EndingsAgree.{AllEnd, levels_end}

-- ---- parts
decl_parts_stand : (text : Text) (below : Derivations) → AllStand text below → AllEnd below → EndingsAreSome below → PartsStand text laid_decl (decl_parts below)
decl_parts_stand text below each ends some = record {
  stands = λ n place next decl ending. given_stands (comes_behind place next ≡ true) (each.decl n next decl ending);
  some = λ n place next decl ending ts us r. (ends.decl n next decl ending ts us r.1).some;
  ends = λ n place next decl ending ts us r. some.decl n next decl ending ts us r.1;
}

alt_parts_stand : (text : Text) (below : Derivations) → AllStand text below → AllEnd below → EndingsAreSome below → PartsStand text laid_alt (alt_parts below)
alt_parts_stand text below each ends some = record {
  stands = λ n place next alt ending. given_stands (next ≡ place) (each.alt n alt ending);
  some = λ n place next alt ending ts us r. (ends.alt n alt ending ts us r.1).some;
  ends = λ n place next alt ending ts us r. some.alt n alt ending ts us r.1;
}

pub stays_local : (next : DeclPlace) → comes_behind DeclPlace.Local next ≡ true → next ≡ DeclPlace.Local
stays_local DeclPlace.First e = let no : ⊥ = cc in elim no [ ]
stays_local DeclPlace.Top e = let no : ⊥ = cc in elim no [ ]
stays_local DeclPlace.Local e = refl

decls_agree : (below : Derivations) → AllEnd below → Agree laid_decl (decl_parts below) DeclPlace.Local
decls_agree below ends n next decl ending ts us r =
    (stays_local next r.0, (ends.decl n next decl ending ts us r.1).ends)

alts_agree : (below : Derivations) → AllEnd below → Agree laid_alt (alt_parts below) DeclPlace.Local
alts_agree below ends n next alt ending ts us r = (r.0, (ends.alt n alt ending ts us r.1).ends)

-- ---- levels
levels_stand : (text : Text) (levels : ℕ) → AllStand text (derivations levels)
levels_stand text zero = record {
  exp = λ n free place exp ending. never_stands;
  decl = λ n place decl ending. never_stands;
  alt = λ n alt ending. never_stands;
  declarations = λ m block. never_stands;
  alternatives = λ m block. never_stands;
}
levels_stand text (suc levels) =
    let below = derivations levels in let each = levels_stand text levels in let take = levels_take levels in let ends = levels_end levels in let some = parts_end_lem levels in
    record {
      exp = exp_over_stands text below take each;
      decl = decl_over_stands text below take each;
      alt = alt_over_stands text below take each;
      declarations = λ m block. block_stands (decl_parts_stand text below each ends some) BlockKind.Declarations m DeclPlace.Local (decls_agree below ends) block;
      alternatives = λ m block. block_stands (alt_parts_stand text below each ends some) BlockKind.Alternatives m DeclPlace.Local (alts_agree below ends) block;
    }

-- ---- modules
taken_behind : (n : ℕ) (item : Item) (ts us : List Placed) → takes n item ts us → us ≡ drop 1 ts
taken_behind n item [] us r = elim r [ ]
taken_behind n item (next ∷ ts) us r = r.2

all_behind : (n : ℕ) (items : List Item) (ts us : List Placed) → take_all n items ts us → us ≡ drop (length items) ts
all_behind n [] ts us r = r
all_behind n (item ∷ items) ts us r =
    all_behind n items r.0 us r.2 ∙ ap (λ l. drop (length items) l) (taken_behind n item ts r.0 r.1) ∙ drop-drop (length items) 1 ts ∙ ap (λ k. drop k ts) (one-add (length items))

-- the blocks of a module are those of its body
abbrev pub body_spans : Module → List BlockSpan
body_spans tree = (block_laid BlockKind.Body (block_by laid_decl tree.body)).blocks 0 (0 + length (header_items tree.header))

pub spans_are : (tree : Module) → spans_of tree ≡ body_spans tree
spans_are tree =
    ap (λ ps. (block_laid BlockKind.Body (record { layout = tree.body.layout; pieces = ps })).blocks 0 (0 + length (header_items tree.header)))
    (pieces_turned laid_decl piece_of (λ item. refl) (λ decl. refl) tree.body.pieces)

body_stands : (levels : ℕ) (text : Text) (block : Block Decl) (start : ℕ) (ts : List Placed) → text.spans ≡ (block_laid BlockKind.Body (block_by laid_decl block)).blocks 0 start → ts ≡ drop start text.placed
    → (derivations levels).declarations 0 DeclPlace.Top block ts [] → (span : BlockSpan) → Has ((block_laid BlockKind.Body (block_by laid_decl block)).blocks 0 start) span
    → StandsWell text.spans (lexemes text) span
body_stands zero text block start ts same e r span has = elim r [ ]
body_stands (suc levels) text block start ts same e r span has =
    let parts = decl_parts_stand text (derivations levels) (levels_stand text levels) (levels_end levels) (parts_end_lem levels) in
    (stands_there parts BlockKind.Body 0 DeclPlace.First block.layout block.pieces ts [] (λ col q h. refl) r false start
    (record { marks = λ i a h. ap (λ l. is_empty_at l i) same; among = λ other h. subst (λ l. Has l other) (sym same) h }) e).blocks span has

module_stands : (levels : ℕ) (tree : Module) → Derives levels tree (module_items tree) → Offside tree
module_stands levels tree d =
    let text : Text = record { placed = placed_of (module_items tree); spans = spans_of tree } in
    let start = length (header_items tree.header) in
    let here = all_behind 0 (header_items tree.header) (placed_of (module_items tree)) d.0 ((header_takes tree.header).takes_all (placed_of (module_items tree)) d.0 d.1) in
    all_are (StandsWell (spans_of tree) (lexemes text)) (spans_of tree)
    (λ span has. body_stands levels text tree.body (0 + start) d.0 (spans_are tree) (here ∙ ap (λ k. drop k (placed_of (module_items tree))) (sym (zero-add start))) d.2 span (subst (λ l. Has l span) (spans_are tree) has))

pub modules_stand_lem : ModulesStand
modules_stand_lem levels tree items d = module_stands levels tree (subst (λ l. Derives levels tree l) (modules_give_lem levels tree items d) d)

pub modules_yield_lem : ModulesYield
modules_yield_lem = record {
  yields = λ tree items d. (modules_are_lem.yields tree items d, modules_stand_lem nesting_limit tree items d);
  deep = λ levels tree items d. record {
    deep = record { grammar = (levels, modules_are_lem.grammar levels tree items d); offside = modules_stand_lem levels tree items d };
    items_are = items_same levels tree items d;
  };
}
