-- A module that is read takes its own items, and so does each tree in it.
use Rattle.std.proofs.Common.{◌≡◌, ℕ, zero, suc, true, [], sym, ◌∙◌}
use Rattle.hr_rules.specs.declared.block.BlockKind.{BlockKind}
use Rattle.hr_rules.specs.Blocks.{placed_of}
use Rattle.hr_rules.proofs.Margins.{items-placed}
use Rattle.hr_tree.specs.declared.lists.Block.{Block}
use Rattle.hr_tree.specs.declared.expressions.Decl.{Decl}
use Rattle.hr_tree.specs.declared.modules.Module.{Module}
use Rattle.hr_tree.specs.Lists.{block_items}
use Rattle.hr_tree.specs.Yields.{decl_items, alt_items, module_items}
use Rattle.hr_grammar.specs.Nodes.{DeclPlace}
use Rattle.hr_grammar_cases.specs.Derivations.{Derivations}
use Rattle.hr_grammar_cases.specs.Modules.{comes_behind, decl_parts, alt_parts, declarations_over, derivations, module_reading}
use Rattle.hr_grammar_cases.specs.Laws.{Gives, AllGive, LevelsGive, ModulesGive}
use Rattle.hr_grammar_cases.proofs.Readings.{append_nothing, never_gives, then_gives, given_gives}
use Rattle.hr_grammar_cases.proofs.Taken.{AllTake, taken_gives}
use Rattle.hr_grammar_cases.proofs.Types.{types_take_lem, types_give_lem}
use Rattle.hr_grammar_cases.proofs.Patterns.{patterns_take_lem, patterns_give_lem}
use Rattle.hr_grammar_cases.proofs.Imports.{header_takes}
use Rattle.hr_grammar_cases.proofs.Blocks.{PartsGive, block_gives}
use Rattle.hr_grammar_cases.proofs.Expressions.{exp_over_gives}
use Rattle.hr_grammar_cases.proofs.Declarations.{decl_over_gives, alt_over_gives}

decl_parts_give : (below : Derivations) → AllGive below → PartsGive decl_items (decl_parts below)
decl_parts_give below each n place next decl ending = given_gives (comes_behind place next ≡ true) (each.decl n next decl ending)

alt_parts_give : (below : Derivations) → AllGive below → PartsGive alt_items (alt_parts below)
alt_parts_give below each n place next alt ending = given_gives (next ≡ place) (each.alt n alt ending)

declarations_give : (below : Derivations) → AllGive below → (m : ℕ) (place : DeclPlace) (block : Block Decl) → Gives (block_items decl_items block) (declarations_over below m place block)
declarations_give below each m DeclPlace.First block = never_gives
declarations_give below each m DeclPlace.Top block = block_gives decl_items (decl_parts below) (decl_parts_give below each) BlockKind.Body m DeclPlace.First block
declarations_give below each m DeclPlace.Local block = block_gives decl_items (decl_parts below) (decl_parts_give below each) BlockKind.Declarations m DeclPlace.Local block

pub levels_take : (levels : ℕ) → AllTake (derivations levels)
levels_take levels = record { ty = types_take_lem levels; pat = patterns_take_lem levels }

pub levels_give_lem : LevelsGive
levels_give_lem zero = record {
  ty = λ n place ty. never_gives;
  pat = λ n place pat. never_gives;
  exp = λ n free place exp ending. never_gives;
  decl = λ n place decl ending. never_gives;
  alt = λ n alt ending. never_gives;
  declarations = λ m place block. never_gives;
  alternatives = λ m block. never_gives;
}
levels_give_lem (suc levels) = record {
  ty = types_give_lem (suc levels);
  pat = patterns_give_lem (suc levels);
  exp = exp_over_gives (derivations levels) (levels_give_lem levels);
  decl = decl_over_gives (derivations levels) (levels_take levels) (levels_give_lem levels);
  alt = alt_over_gives (derivations levels) (levels_give_lem levels);
  declarations = declarations_give (derivations levels) (levels_give_lem levels);
  alternatives = λ m block.
      block_gives alt_items (alt_parts (derivations levels)) (alt_parts_give (derivations levels) (levels_give_lem levels)) BlockKind.Alternatives m DeclPlace.Local block;
}

module_gives : (levels : ℕ) (tree : Module) → Gives (module_items tree) (module_reading levels tree)
module_gives levels tree = then_gives (taken_gives (header_takes tree.header)) ((levels_give_lem levels).declarations 0 DeclPlace.Top tree.body)

pub modules_give_lem : ModulesGive
modules_give_lem levels tree items d =
    sym (items-placed items).items_are ∙ (module_gives levels tree).gives (placed_of items) [] d ∙ append_nothing (module_items tree)
