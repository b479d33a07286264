-- The blocks of a module begin where its body does and behind the opening words of its body.
use Rattle.std.proofs.Common.{◌≡◌, ℕ, ◌+◌, ◌∷◌, length, map, drop, refl, sym, ap, ◌∙◌, arith}
use Rattle.std.proofs.Math.Seq.{drop-append_seam}
use Rattle.hr_rules.specs.declared.block.BlockKind.{BlockKind}
use Rattle.hr_tree.specs.declared.modules.Module.{Module}
use Rattle.hr_tree.specs.Lists.{block_items}
use Rattle.hr_tree.specs.Yields.{decl_items, header_items, module_items}
use Rattle.hr_grammar.specs.Nodes.{DeclPlace}
use Rattle.hr_grammar.specs.Yields.{IsModule}
use Rattle.hr_grammar.specs.Spans.{Laid, block_laid, piece_of, spans_of}
use Rattle.hr_grammar_edge_laws.specs.Openings.{behind_openings, block_starts}
use Rattle.hr_grammar_edge_laws.specs.Laws.{body_start, BlocksBegin}
use Rattle.hr_grammar_edge_laws.proofs.Openings.{IsBlockBy}
use Rattle.hr_grammar_edge_laws.proofs.Stretches.{qualifier}
use Rattle.hr_grammar_edge_laws.proofs.PartStretches.{all_below}

abbrev body_laid_of : Module → Laid
body_laid_of tree = block_laid BlockKind.Body (record { layout = tree.body.layout; pieces = map piece_of tree.body.pieces })

body_by : (levels : ℕ) (tree : Module) → IsModule levels tree → IsBlockBy (block_items decl_items tree.body) (body_laid_of tree)
body_by levels tree is = (all_below levels).declarations BlockKind.Body DeclPlace.Top tree.body is.1 piece_of (λ item. refl) (λ part. refl)

-- the items behind the header are those of the body
behind_header : (tree : Module) → drop (body_start tree) (module_items tree) ≡ block_items decl_items tree.body
behind_header tree = drop-append_seam (header_items tree.header) (block_items decl_items tree.body)

modules_begin : (levels : ℕ) (tree : Module) → IsModule levels tree → block_starts (spans_of tree) ≡ body_start tree ∷ behind_openings (body_start tree) (drop (body_start tree) (module_items tree))
modules_begin levels tree is =
    let e : 0 + body_start tree ≡ body_start tree = omega arith in
    (body_by levels tree is).starts 0 (0 + body_start tree) ∙ ap (λ n. n ∷ behind_openings n (block_items decl_items tree.body)) e
    ∙ ap (λ l. body_start tree ∷ behind_openings (body_start tree) l) (sym (behind_header tree))

pub blocks_begin_lem : BlocksBegin
blocks_begin_lem = record {
  expressions = λ levels. (all_below levels).exp;
  declarations = λ levels. (all_below levels).decl;
  qualifiers = λ levels. qualifier levels (all_below levels);
  alternatives = λ levels. (all_below levels).alt;
  modules = modules_begin;
  bodies = λ levels tree is. (body_by levels tree is).extent ∙ ap length (sym (behind_header tree));
}
