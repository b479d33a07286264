-- The plain reader of the whole grammar: the levels, and modules.
use Rattle.std.specs.Prelude.{ℕ, zero, suc, List, [], ◌∷◌, Option}
use Rattle.std.specs.List.{flat_map}
use Rattle.hr_base.specs.declared.lexeme.Ending.{Ending}
use Rattle.hr_base.specs.declared.lexeme.Items.{Items}
use Rattle.hr_rules.specs.declared.block.BlockKind.{BlockKind}
use Rattle.hr_rules.specs.declared.block.Placed.{Placed}
use Rattle.hr_rules.specs.Blocks.{placed_of}
use Rattle.hr_tree.specs.declared.lists.Block.{Block}
use Rattle.hr_tree.specs.declared.expressions.Decl.{Decl}
use Rattle.hr_tree.specs.declared.expressions.Alt.{Alt}
use Rattle.hr_tree.specs.declared.modules.Header.{Header}
use Rattle.hr_tree.specs.declared.modules.Module.{Module}
use Rattle.hr_grammar.specs.Nodes.{DeclPlace}
use Rattle.hr_grammar_cases.specs.Modules.{comes_behind}
use Rattle.hr_grammar_finder_laws.specs.Ways.{Finder, any_of, Way, none, on, made_by, ◌▶◌, maybe}
use Rattle.hr_grammar_finder_laws.specs.Finders.{Finders, no_finders}
use Rattle.hr_grammar_finder_laws.specs.Types.{ty_found}
use Rattle.hr_grammar_finder_laws.specs.Patterns.{pat_found}
use Rattle.hr_grammar_finder_laws.specs.Blocks.{PartFinder, block}
use Rattle.hr_grammar_finder_laws.specs.Expressions.{exp_found}
use Rattle.hr_grammar_finder_laws.specs.Declarations.{decl_found, alt_found}
use Rattle.hr_grammar_finder_laws.specs.Imports.{headers}

-- a declaration of this place, where it comes behind those of another one
abbrev pub decl_of_place : Finders → ℕ → DeclPlace → DeclPlace → Finder (Decl × (DeclPlace × Ending))
decl_of_place below n place next = on (comes_behind place next) (made_by (λ p. (p.0, (next, p.1))) (below.decl n next))

abbrev pub decl_parts_found : Finders → PartFinder Decl
decl_parts_found below n place =
    any_of (decl_of_place below n place DeclPlace.First ∷ decl_of_place below n place DeclPlace.Top ∷ decl_of_place below n place DeclPlace.Local ∷ [])

abbrev pub alt_parts_found : Finders → PartFinder Alt
alt_parts_found below n place = made_by (λ p. (p.0, (place, p.1))) (below.alt n)

abbrev pub declarations_found : Finders → ℕ → DeclPlace → Finder (Block Decl)
declarations_found below m DeclPlace.First = none
declarations_found below m DeclPlace.Top = block (decl_parts_found below) BlockKind.Body m DeclPlace.First
declarations_found below m DeclPlace.Local = block (decl_parts_found below) BlockKind.Declarations m DeclPlace.Local

abbrev pub alternatives_found : Finders → ℕ → Finder (Block Alt)
alternatives_found below m = block (alt_parts_found below) BlockKind.Alternatives m DeclPlace.Local

-- what is found on some level, with fewer than so many levels below it: the levels are those of the relation
abbrev pub finders : ℕ → Finders
finders zero = no_finders
finders (suc levels) = record {
  ty = ty_found (finders levels);
  pat = pat_found (finders levels);
  exp = exp_found (finders levels);
  decl = decl_found (finders levels);
  alt = alt_found (finders levels);
  declarations = declarations_found (finders levels);
  alternatives = alternatives_found (finders levels);
}

-- a module, with what is behind its last lexeme
abbrev pub module_of : List ℕ → Option Header × Block Decl → Module
module_of tail p = record { header = p.0; body = p.1; tail = tail }

abbrev pub module_finder : ℕ → List ℕ → Finder Module
module_finder levels tail = made_by (module_of tail) (maybe headers ▶ (finders levels).declarations 0 DeclPlace.Top)

-- the tree of a way that leaves no lexeme
abbrev pub complete : {T : Type 0} → Way T → List T
complete way = if_none_left way.0 way.1
  where
    if_none_left : {T : Type 0} → T → List Placed → List T
    if_none_left x [] = x ∷ []
    if_none_left x (next ∷ ts) = []

-- all trees of the items
abbrev pub trees_of : ℕ → Items → List Module
trees_of levels items = flat_map complete (module_finder levels items.tail (placed_of items.list))
