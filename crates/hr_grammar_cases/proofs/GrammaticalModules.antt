-- What is read as a module is yielded by a tree of the grammar.
use Rattle.std.proofs.Common.{◌≡◌, ℕ, zero, suc, List, [], sym, ap}
use Rattle.hr_base.specs.declared.lexeme.Item.{Item}
use Rattle.hr_base.specs.declared.lexeme.Items.{Items}
use Rattle.hr_rules.specs.Blocks.{placed_of}
use Rattle.hr_tree.specs.declared.types.Ty.{out-Ty}
use Rattle.hr_tree.specs.declared.patterns.Pat.{out-Pat}
use Rattle.hr_tree.specs.declared.expressions.Exp.{out-Exp}
use Rattle.hr_tree.specs.declared.expressions.Decl.{out-Decl}
use Rattle.hr_tree.specs.declared.modules.Module.{Module}
use Rattle.hr_tree.specs.Yields.{module_items}
use Rattle.hr_grammar.specs.Nodes.{DeclPlace}
use Rattle.hr_grammar.specs.Yields.{nodes, nesting_limit, IsModule}
use Rattle.hr_grammar_cases.specs.Modules.{derivations, Derives}
use Rattle.hr_grammar_cases.specs.Laws.{LevelsAre, ModulesAre}
use Rattle.hr_grammar_cases.proofs.Modules.{modules_give_lem}
use Rattle.hr_grammar_cases.proofs.GrammaticalLeaves.{ty_is, pat_is, header_is}
use Rattle.hr_grammar_cases.proofs.GrammaticalExpressions.{exp_is}
use Rattle.hr_grammar_cases.proofs.GrammaticalDeclarations.{decl_is, alt_is}
use Rattle.hr_grammar_cases.proofs.GrammaticalBlocks.{declarations_are, alternatives_are}

pub levels_are_lem : LevelsAre
levels_are_lem zero = record {
  ty = λ n place ty ts us r. r;
  pat = λ n place pat ts us r. r;
  exp = λ n free place exp ending ts us r. r;
  decl = λ n place decl ending ts us r. r;
  alt = λ n alt ending ts us r. r;
  declarations = λ m place block ts us r. r;
  alternatives = λ m block ts us r. r;
}
levels_are_lem (suc levels) = record {
  ty = λ n place ty ts us r. ty_is (derivations levels) (nodes levels) (levels_are_lem levels) n place (out-Ty ty) ts us r;
  pat = λ n place pat ts us r. pat_is (derivations levels) (nodes levels) (levels_are_lem levels) n place (out-Pat pat) ts us r;
  exp = λ n free place exp ending ts us r. exp_is (derivations levels) (nodes levels) (levels_are_lem levels) n free place (out-Exp exp) ending ts us r;
  decl = λ n place decl ending ts us r. decl_is (derivations levels) (nodes levels) (levels_are_lem levels) n place (out-Decl decl) ending ts us r;
  alt = λ n alt ending ts us r. alt_is (derivations levels) (nodes levels) (levels_are_lem levels) n alt ending ts us r;
  declarations = λ m place block ts us r. declarations_are (derivations levels) (nodes levels) (levels_are_lem levels) m place block ts us r;
  alternatives = λ m block ts us r. alternatives_are (derivations levels) (nodes levels) (levels_are_lem levels) m block ts us r;
}

is_module : (levels : ℕ) (tree : Module) (items : List Item) → Derives levels tree items → IsModule levels tree
is_module levels tree items d =
    (header_is tree.header (placed_of items) d.0 d.1, (levels_are_lem levels).declarations 0 DeclPlace.Top tree.body d.0 [] d.2)

pub items_same : (levels : ℕ) (tree : Module) (items : List Item) → Derives levels tree items → ◌≡◌ {A = Items} (record { list = module_items tree; tail = tree.tail }) (record { list = items; tail = tree.tail })
items_same levels tree items d = ap (λ (l : List Item). record { list = l; tail = tree.tail }) (sym (modules_give_lem levels tree items d))

pub modules_are_lem : ModulesAre
modules_are_lem = record {
  grammar = is_module;
  yields = λ tree items d. record { grammar = is_module nesting_limit tree items d; items_are = items_same nesting_limit tree items d };
}
