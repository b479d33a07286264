-- A module of the grammar that stands is read of its own items.
use Rattle.std.proofs.Common.{◌≡◌, ◌≤◌, ◌+◌, ◌||◌, ℕ, zero, suc, not, nat_lt, Bool, true, false, List, [], ◌∷◌, ◌++◌, length, drop, refl, sym, ap, ◌∙◌, subst, inl, inr, arith, lt-ltb}
use Rattle.std.specs.List.{AllByRecursion}
use Rattle.hr_base.specs.declared.lexeme.Item.{Item}
use Rattle.hr_rules.specs.declared.block.BlockKind.{BlockKind}
use Rattle.hr_rules.specs.declared.block.Placed.{Placed}
use Rattle.hr_rules.specs.Blocks.{placed_of, goes_on}
use Rattle.hr_rules.proofs.Margins.{items-placed, columns-one}
use Rattle.hr_tree.specs.declared.lists.Piece.{Piece}
use Rattle.hr_tree.specs.declared.expressions.Decl.{Decl}
use Rattle.hr_tree.specs.declared.expressions.Alt.{Alt}
use Rattle.hr_tree.specs.declared.modules.Module.{Module}
use Rattle.hr_tree.specs.Lists.{block_items}
use Rattle.hr_tree.specs.Yields.{pat_items, exp_items, decl_items, alt_items, header_items, module_items}
use Rattle.hr_grammar.specs.Blocks.{IsPiece}
use Rattle.hr_grammar.specs.Nodes.{Nodes, DeclPlace}
use Rattle.hr_grammar.specs.Firsts.{kind_at}
use Rattle.hr_grammar.specs.Spans.{BlockSpan, block_laid, spans_of}
use Rattle.hr_grammar.specs.Offside.{placed_among, StandsWell, Offside, Next}
use Rattle.hr_grammar.specs.Yields.{nodes, IsModule}
use Rattle.hr_grammar.proofs.Firsts.{patterns_begin_lem, expressions_begin_lem}
use Rattle.hr_grammar.proofs.PartFirsts.{declarations_begin_lem, alternatives_begin_lem}
use Rattle.hr_grammar_cases.specs.Readings.{take_all}
use Rattle.hr_grammar_cases.specs.Modules.{comes_behind, decl_parts, alt_parts, derivations, Derives}
use Rattle.hr_grammar_cases.specs.Laws.{items_left}
use Rattle.hr_grammar_cases.proofs.Readings.{append_nothing}
use Rattle.hr_grammar_cases.proofs.Stretches.{Has, is_empty_at, Text, lexemes, seen, lexemes_at, mark_or}
use Rattle.hr_grammar_cases.proofs.Standing.{GoesAt}
use Rattle.hr_grammar_cases.proofs.StandingPieces.{laids}
use Rattle.hr_grammar_cases.proofs.StandingTrees.{laid_decl, laid_alt}
use Rattle.hr_grammar_cases.proofs.StandingModules.{spans_are}
use Rattle.hr_grammar_cases.proofs.EndingsAgree.{levels_end}
use Rattle.hr_grammar_cases_laws.proofs.RetakenLeaves.{levels_retake, header_retakes}
use Rattle.hr_grammar_cases_laws.proofs.Regaining.{items_behind, Given, through, the_first}
use Rattle.hr_grammar_cases_laws.proofs.RegainingPieces.{PartsRegain, EndsAlike, PiecesFit}
use Rattle.hr_grammar_cases_laws.proofs.RegainingBlocks.{regains_there, block_size, block_regains}
use Rattle.hr_grammar_cases_laws.proofs.RegainingTrees.{pattern_begun, expression_begun, part_begun, AllRegain}
use Rattle.hr_grammar_cases_laws.proofs.RegainingExpressions.{exp_over_regains}
use Rattle.hr_grammar_cases_laws.proofs.RegainingDeclarations.{decl_over_regains, alt_over_regains}

-- ---- parts at their places
abbrev FitsTop : Nodes → DeclPlace → DeclPlace → Decl → Type 0
FitsTop allowed place next decl = (comes_behind place next ≡ true) × allowed.decl next decl

abbrev FitsLocal : Nodes → DeclPlace → DeclPlace → Decl → Type 0
FitsLocal allowed place next decl = (place ≡ DeclPlace.Local) × FitsTop allowed place next decl

abbrev FitsAlternative : Nodes → DeclPlace → DeclPlace → Alt → Type 0
FitsAlternative allowed place next alt = (next ≡ place) × allowed.alt alt

top_parts : (text : Text) (levels : ℕ) → AllRegain text (derivations levels) (nodes levels) → PartsRegain text laid_decl decl_items (decl_parts (derivations levels)) (FitsTop (nodes levels))
top_parts text levels each = record {
  regains = λ n place next decl fit. through (λ ts us r. (r.0, (fit.0, r.1))) (each.decl n next decl fit.1);
  begins = λ place next decl fit. part_begun (kind_at next) (decl_items decl) (declarations_begin_lem levels next decl fit.1);
}

local_parts : (text : Text) (levels : ℕ) → AllRegain text (derivations levels) (nodes levels) → PartsRegain text laid_decl decl_items (decl_parts (derivations levels)) (FitsLocal (nodes levels))
local_parts text levels each =
    let parts = top_parts text levels each in
    record { regains = λ n place next decl fit. parts.regains n place next decl fit.1; begins = λ place next decl fit. parts.begins place next decl fit.1 }

alternative_parts : (text : Text) (levels : ℕ) → AllRegain text (derivations levels) (nodes levels) → PartsRegain text laid_alt alt_items (alt_parts (derivations levels)) (FitsAlternative (nodes levels))
alternative_parts text levels each = record {
  regains = λ n place next alt fit. through (λ ts us r. (r.0, (fit.0, r.1))) (each.alt n alt fit.1);
  begins = λ place next alt fit. part_begun BlockKind.Alternatives (alt_items alt) (alternatives_begin_lem levels alt fit.1);
}

locals_alike : (levels : ℕ) → EndsAlike laid_decl (decl_parts (derivations levels)) (FitsLocal (nodes levels))
locals_alike levels n place next decl ending ts us fit r = ((levels_end levels).decl n next decl ending ts us r.1).ends

alternatives_alike : (levels : ℕ) → EndsAlike laid_alt (alt_parts (derivations levels)) (FitsAlternative (nodes levels))
alternatives_alike levels n place next alt ending ts us fit r = ((levels_end levels).alt n alt ending ts us r.1).ends

locals_fit : (allowed : Nodes) (pieces : List (Piece Decl)) → AllByRecursion (IsPiece (allowed.decl DeclPlace.Local)) pieces → PiecesFit (FitsLocal allowed) DeclPlace.Local pieces
locals_fit allowed [] are = tt
locals_fit allowed (Piece.Semicolon item ∷ pieces) are = (are.0, locals_fit allowed pieces are.1)
locals_fit allowed (Piece.Part decl ∷ pieces) are = (DeclPlace.Local, (refl, (refl, are.0)), locals_fit allowed pieces are.1)

alternatives_fit : (allowed : Nodes) (pieces : List (Piece Alt)) → AllByRecursion (IsPiece allowed.alt) pieces → PiecesFit (FitsAlternative allowed) DeclPlace.Local pieces
alternatives_fit allowed [] are = tt
alternatives_fit allowed (Piece.Semicolon item ∷ pieces) are = (are.0, alternatives_fit allowed pieces are.1)
alternatives_fit allowed (Piece.Part alt ∷ pieces) are = (DeclPlace.Local, (refl, are.0), alternatives_fit allowed pieces are.1)

others_fit : (allowed : Nodes) (place : DeclPlace) → comes_behind place DeclPlace.Top ≡ true → (pieces : List (Piece Decl)) → AllByRecursion (IsPiece (allowed.decl DeclPlace.Top)) pieces
    → PiecesFit (FitsTop allowed) place pieces
others_fit allowed place behind [] are = tt
others_fit allowed place behind (Piece.Semicolon item ∷ pieces) are = (are.0, others_fit allowed place behind pieces are.1)
others_fit allowed place behind (Piece.Part decl ∷ pieces) are = (DeclPlace.Top, (behind, are.0), others_fit allowed DeclPlace.Top refl pieces are.1)

-- imports come before the others
tops_fit : (allowed : Nodes) (imports others : List (Piece Decl)) → AllByRecursion (IsPiece (allowed.decl DeclPlace.First)) imports → AllByRecursion (IsPiece (allowed.decl DeclPlace.Top)) others
    → PiecesFit (FitsTop allowed) DeclPlace.First (imports ++ others)
tops_fit allowed [] others are behind = others_fit allowed DeclPlace.First refl others behind
tops_fit allowed (Piece.Semicolon item ∷ imports) others are behind = (are.0, tops_fit allowed imports others are.1 behind)
tops_fit allowed (Piece.Part decl ∷ imports) others are behind = (DeclPlace.First, (refl, are.0), tops_fit allowed imports others are.1 behind)

-- ---- levels
levels_regain : (text : Text) → ((i : ℕ) → GoesAt text 0 i) → (levels : ℕ) → AllRegain text (derivations levels) (nodes levels)
levels_regain text columns zero = record {
  pat_begins = λ place pat is. elim is [ ];
  exp_begins = λ free place exp is. elim is [ ];
  exp = λ n free place exp is. elim is [ ];
  decl = λ n place decl is. elim is [ ];
  alt = λ n alt is. elim is [ ];
  declarations = λ m block are. elim are [ ];
  alternatives = λ m block are. elim are [ ];
}
levels_regain text columns (suc levels) =
    let below = derivations levels in let allowed = nodes levels in let take = levels_retake levels in let each = levels_regain text columns levels in
    record {
      pat_begins = λ place pat is. pattern_begun (pat_items pat) (patterns_begin_lem (suc levels) place pat is);
      exp_begins = λ free place exp is. expression_begun (exp_items exp) (expressions_begin_lem (suc levels) free place exp is);
      exp = λ n free place exp is. exp_over_regains text below allowed take each n free place exp is;
      decl = λ n place decl is. decl_over_regains text below allowed take each n place decl is;
      alt = λ n alt is. alt_over_regains text below allowed take each n alt is;
      declarations = λ m block are.
          block_regains columns (local_parts text levels each) (locals_alike levels) BlockKind.Declarations m DeclPlace.Local block (locals_fit allowed block.pieces are.1) are.0;
      alternatives = λ m block are.
          block_regains columns (alternative_parts text levels each) (alternatives_alike levels) BlockKind.Alternatives m DeclPlace.Local block (alternatives_fit allowed block.pieces are.1) are.0;
    }

-- ---- where no block is open, each lexeme goes on
goes_from : (first right : Bool) → right ≡ true → (not first || right) ≡ true
goes_from true right e = e
goes_from false right e = refl

columns_drop : (i : ℕ) (ts : List Placed) → AllByRecursion (λ next. 1 ≤ next.pos.col) ts → AllByRecursion (λ next. 1 ≤ next.pos.col) (drop i ts)
columns_drop zero ts all = all
columns_drop (suc i) [] all = tt
columns_drop (suc i) (next ∷ ts) all = columns_drop i ts all.1

column_goes : (spans : List BlockSpan) (i : ℕ) (ts : List Placed) → AllByRecursion (λ next. 1 ≤ next.pos.col) ts → Next (λ next. goes_on 0 next ≡ true) (placed_among spans i ts)
column_goes spans i [] all = tt
column_goes spans i (next ∷ ts) all = goes_from _ (nat_lt 0 next.pos.col) (lt-ltb 0 next.pos.col all.0)

columns_go : (text : Text) → AllByRecursion (λ next. 1 ≤ next.pos.col) text.placed → (i : ℕ) → GoesAt text 0 i
columns_go text all i =
    subst (λ l. Next (λ next. goes_on 0 next ≡ true) l) (sym (lexemes_at text i)) (column_goes text.spans i (drop i text.placed) (columns_drop i text.placed all))

columns_take : (items rest : List Item) (ts : List Placed) → AllByRecursion (λ next. 1 ≤ next.pos.col) ts → items_left ts ≡ items ++ rest → take_all 0 items ts (drop (length items) ts)
columns_take [] rest ts all e = refl
columns_take (item ∷ items) rest [] all e = let no : ⊥ = cc in elim no [ ]
columns_take (item ∷ items) rest (next ∷ ts) all e =
    (ts, (goes_from next.first (nat_lt 0 next.pos.col) (lt-ltb 0 next.pos.col all.0), the_first e, refl), columns_take items rest ts all.1 (ap (λ (l : List Item). drop 1 l) e))

-- ---- modules
stands_each : (P : BlockSpan → Type 0) (spans : List BlockSpan) → AllByRecursion P spans → (span : BlockSpan) → Has spans span → P span
stands_each P [] all span has = elim has [ ]
stands_each P (x ∷ spans) all span (inl same) = subst P same all.0
stands_each P (x ∷ spans) all span (inr has) = stands_each P spans all.1 span has

none_seen : (empty : Bool) (ts : List Placed) → items_left ts ≡ [] → mark_or empty ts ≡ []
none_seen empty [] e = refl
none_seen empty (next ∷ ts) e = let no : ⊥ = cc in elim no [ ]

pub derived : (levels : ℕ) (tree : Module) → IsModule levels tree → Offside tree → Derives levels tree (module_items tree)
derived zero tree is stands = elim is.1 [ ]
derived (suc levels) tree is stands =
    let items = module_items tree in
    let placed = placed_of items in
    let text : Text = record { placed = placed; spans = spans_of tree } in
    let are : items_left placed ≡ items = (items-placed items).items_are in
    let columns = columns_go text (columns-one items) in
    let start = 0 + length (header_items tree.header) in
    let body = block_items decl_items tree.body in
    let here : items_left (drop start placed) ≡ body ++ [] =
    items_behind text 0 (length (header_items tree.header)) (header_items tree.header) (body ++ []) refl (are ∙ ap (λ (l : List Item). header_items tree.header ++ l) (sym (append_nothing body))) in
    let allowed = nodes levels in
    let parts = top_parts text levels (levels_regain text columns levels) in
    let fit : PiecesFit (FitsTop allowed) DeclPlace.First tree.body.pieces =
    subst (λ l. PiecesFit (FitsTop allowed) DeclPlace.First l) (sym is.1.1.2) (tops_fit allowed is.1.1.0 is.1.1.1 is.1.1.3 is.1.1.4) in
    let extent = (block_laid BlockKind.Body (record { layout = tree.body.layout; pieces = laids laid_decl tree.body.pieces })).extent in
    let size = block_size parts BlockKind.Body DeclPlace.First tree.body.layout tree.body.pieces fit in
    let end : seen text false (start + extent) ≡ [] = none_seen (is_empty_at text.spans (start + extent)) (drop (start + extent) placed) (items_behind text start extent body [] size here) in
    let given : Given text 0 true start (block_laid BlockKind.Body (record { layout = tree.body.layout; pieces = laids laid_decl tree.body.pieces })) body [] (λ i. ⊥) = record {
      known = record {
        marks = λ i a h. ap (λ l. is_empty_at l i) (spans_are tree);
        among = λ span has. subst (λ l. Has l span) (sym (spans_are tree)) has;
      };
      owned = λ span has l h. subst (λ l. Has l span) (spans_are tree) has;
      stands = λ span has. stands_each (StandsWell (spans_of tree) (lexemes text)) (spans_of tree) stands span (subst (λ l. Has l span) (sym (spans_are tree)) has);
      each = λ i a h. inl (inl (columns i));
      items_are = here;
      clear = inr tt;
    } in
    let reading = regains_there columns parts BlockKind.Body 0 DeclPlace.First tree.body.layout tree.body.pieces fit is.1.0 start [] given (inl end) in (
      drop start placed,
      (header_retakes tree.header is.0).retakes placed (drop start placed)
          (subst (λ k. take_all 0 (header_items tree.header) placed (drop k placed)) (none_before (length (header_items tree.header))) (columns_take (header_items tree.header) body placed (columns-one items) are)),
      subst (λ us. (derivations (suc levels)).declarations 0 DeclPlace.Top tree.body (drop start placed) us) end reading,
    )
  where
    none_before : (k : ℕ) → k ≡ 0 + k
    none_before k = omega arith
