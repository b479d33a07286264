-- Where the blocks of trees begin.
use Rattle.std.specs.Prelude.{ℕ, ◌≡◌, List, [], ◌∷◌, length, drop}
use Rattle.hr_tree.specs.declared.expressions.Exp.{Exp}
use Rattle.hr_tree.specs.declared.expressions.Decl.{Decl}
use Rattle.hr_tree.specs.declared.expressions.Qualifier.{Qualifier}
use Rattle.hr_tree.specs.declared.expressions.Alt.{Alt}
use Rattle.hr_tree.specs.declared.expressions.Decl.TheFolds.{fold-Exp, fold-Qualifier, fold-Alt}
use Rattle.hr_tree.specs.declared.modules.Module.{Module}
use Rattle.hr_tree.specs.Yields.{exp_items, decl_items, qualifier_items, alt_items, header_items, module_items}
use Rattle.hr_grammar.specs.Nodes.{Colons, ExpPlace, DeclPlace}
use Rattle.hr_grammar.specs.Expressions.{IsQualifierOver}
use Rattle.hr_grammar.specs.Yields.{nodes, IsModule}
use Rattle.hr_grammar.specs.Spans.{Laid, BlockSpan, decl_laid, exp_laid, qualifier_laid, alt_laid, laid_of, spans_of}
use Rattle.hr_grammar_edge_laws.specs.Openings.{behind_openings, block_starts, IsLaidBy}

-- the stretches of expressions, qualifiers and alternatives; `laid_of` gives those of declarations
abbrev pub exp_stretch : Exp → Laid
exp_stretch = fold-Exp Laid Laid Laid Laid decl_laid exp_laid qualifier_laid alt_laid

abbrev pub qualifier_stretch : Qualifier → Laid
qualifier_stretch = fold-Qualifier Laid Laid Laid Laid decl_laid exp_laid qualifier_laid alt_laid

abbrev pub alt_stretch : Alt → Laid
alt_stretch = fold-Alt Laid Laid Laid Laid decl_laid exp_laid qualifier_laid alt_laid

-- the number of the first lexeme of a module's body: that behind its header
abbrev pub body_start : Module → ℕ
body_start tree = length (header_items tree.header)

-- the number of lexemes of a module's body, its first block
abbrev pub body_extent : List BlockSpan → ℕ
body_extent [] = 0
body_extent (body ∷ others) = body.extent

-- the blocks of a tree begin behind its opening words, and those of a module also where its body does, which has
-- all the lexemes behind the header
pub record BlocksBegin : Type 0 where
  pub expressions : (levels : ℕ) (free : Colons) (place : ExpPlace) (exp : Exp) → (nodes levels).exp free place exp → IsLaidBy (exp_items exp) (exp_stretch exp)
  pub declarations : (levels : ℕ) (place : DeclPlace) (decl : Decl) → (nodes levels).decl place decl → IsLaidBy (decl_items decl) (laid_of decl)
  pub qualifiers : (levels : ℕ) (qualifier : Qualifier) → IsQualifierOver (nodes levels) qualifier → IsLaidBy (qualifier_items qualifier) (qualifier_stretch qualifier)
  pub alternatives : (levels : ℕ) (alt : Alt) → (nodes levels).alt alt → IsLaidBy (alt_items alt) (alt_stretch alt)
  pub modules : (levels : ℕ) (tree : Module) → IsModule levels tree
      → block_starts (spans_of tree) ≡ body_start tree ∷ behind_openings (body_start tree) (drop (body_start tree) (module_items tree))
  pub bodies : (levels : ℕ) (tree : Module) → IsModule levels tree → body_extent (spans_of tree) ≡ length (drop (body_start tree) (module_items tree))
