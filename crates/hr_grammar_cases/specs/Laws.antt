-- Laws of the relation.
use Rattle.std.specs.Prelude.{ℕ, ◌≡◌, ◌≢◌, ◌⊎◌, ◌<◌, ◌≤◌, Bool, true, List, ◌++◌, map, length, drop, Option}
use Rattle.hr_base.specs.declared.lexeme.Ending.{Ending}
use Rattle.hr_base.specs.declared.lexeme.Item.{Item}
use Rattle.hr_rules.specs.declared.block.Placed.{Placed}
use Rattle.hr_rules.specs.declared.block.BlockKind.{BlockKind}
use Rattle.hr_rules.specs.Blocks.{mark}
use Rattle.hr_rules.specs.BlockLaws.{nothing_goes_on}
use Rattle.hr_tree.specs.declared.lists.Piece.{Piece}
use Rattle.hr_tree.specs.declared.types.Ty.{Ty}
use Rattle.hr_tree.specs.declared.patterns.Pat.{Pat}
use Rattle.hr_tree.specs.declared.modules.Import.{Import}
use Rattle.hr_tree.specs.declared.modules.Header.{Header}
use Rattle.hr_tree.specs.declared.modules.Module.{Module}
use Rattle.hr_tree.specs.declared.lists.Block.{Block}
use Rattle.hr_tree.specs.declared.expressions.Exp.{Exp}
use Rattle.hr_tree.specs.declared.expressions.Decl.{Decl}
use Rattle.hr_tree.specs.declared.expressions.Alt.{Alt}
use Rattle.hr_tree.specs.Lists.{block_items}
use Rattle.hr_tree.specs.Yields.{ty_items, pat_items, exp_items, decl_items, alt_items, import_items, header_items, module_items}
use Rattle.hr_grammar.specs.Nodes.{Nodes, Colons, TyPlace, PatPlace, ExpPlace, DeclPlace}
use Rattle.hr_grammar.specs.Yields.{nodes, nesting_limit, IsModule, Yields}
use Rattle.hr_grammar.specs.Deep.{DeepYields}
use Rattle.hr_grammar.specs.Offside.{Offside}
use Rattle.hr_grammar_cases.specs.Readings.{Reading, maybe}
use Rattle.hr_grammar_cases.specs.Blocks.{pieces_reading}
use Rattle.hr_grammar_cases.specs.Imports.{import_reading, header_reading}
use Rattle.hr_grammar_cases.specs.Modules.{decl_parts, alt_parts, derivations, Derives}
use Rattle.hr_grammar_cases.specs.Derivations.{Derivations}

-- the items of the lexemes that are left
abbrev pub items_left : List Placed → List Item
items_left ts = map (λ next. next.item) ts

-- the lexemes are the others, but for whether the first of them counts as first on its line
abbrev pub AreLeft : List Placed → List Placed → Type 0
AreLeft us vs = (us ≡ vs) ⊎ ((first : Bool) × (us ≡ mark first vs))

-- a reading takes the items: they stand before those that are left behind it, and the lexemes left are those behind
-- them, with their places
pub record Gives (items : List Item) (reading : Reading) : Type 0 where
  pub gives : (ts us : List Placed) → reading ts us → items_left ts ≡ items ++ items_left us
  pub leaves : (ts us : List Placed) → reading ts us → AreLeft us (drop (length items) ts)

abbrev pub TypesGive : Type 0
TypesGive = (levels n : ℕ) (place : TyPlace) (ty : Ty) → Gives (ty_items ty) ((derivations levels).ty n place ty)

abbrev pub PatternsGive : Type 0
PatternsGive = (levels n : ℕ) (place : PatPlace) (pat : Pat) → Gives (pat_items pat) ((derivations levels).pat n place pat)

-- what stands in a module's head, and its imports
pub record ImportsGive : Type 0 where
  pub imports : (n : ℕ) (import : Import) → Gives (import_items import) (import_reading n import)
  pub headers : (header : Option Header) → Gives (header_items header) (maybe header_reading header)

-- the trees that are read on some level take their own items
pub record AllGive (below : Derivations) : Type 0 where
  pub ty : (n : ℕ) (place : TyPlace) (ty : Ty) → Gives (ty_items ty) (below.ty n place ty)
  pub pat : (n : ℕ) (place : PatPlace) (pat : Pat) → Gives (pat_items pat) (below.pat n place pat)
  pub exp : (n : ℕ) (free : Colons) (place : ExpPlace) (exp : Exp) (ending : Ending) → Gives (exp_items exp) (below.exp n free place exp ending)
  pub decl : (n : ℕ) (place : DeclPlace) (decl : Decl) (ending : Ending) → Gives (decl_items decl) (below.decl n place decl ending)
  pub alt : (n : ℕ) (alt : Alt) (ending : Ending) → Gives (alt_items alt) (below.alt n alt ending)
  pub declarations : (m : ℕ) (place : DeclPlace) (block : Block Decl) → Gives (block_items decl_items block) (below.declarations m place block)
  pub alternatives : (m : ℕ) (block : Block Alt) → Gives (block_items alt_items block) (below.alternatives m block)

abbrev pub LevelsGive : Type 0
LevelsGive = (levels : ℕ) → AllGive (derivations levels)

-- the items that are read as a module are those that it yields
abbrev pub ModulesGive : Type 0
ModulesGive = (levels : ℕ) (tree : Module) (items : List Item) → Derives levels tree items → items ≡ module_items tree

-- the trees that are read on some level are trees of the grammar on that level
pub record AllAre (read : Derivations) (allowed : Nodes) : Type 0 where
  pub ty : (n : ℕ) (place : TyPlace) (ty : Ty) (ts us : List Placed) → read.ty n place ty ts us → allowed.ty place ty
  pub pat : (n : ℕ) (place : PatPlace) (pat : Pat) (ts us : List Placed) → read.pat n place pat ts us → allowed.pat place pat
  pub exp : (n : ℕ) (free : Colons) (place : ExpPlace) (exp : Exp) (ending : Ending) (ts us : List Placed) → read.exp n free place exp ending ts us → allowed.exp free place exp
  pub decl : (n : ℕ) (place : DeclPlace) (decl : Decl) (ending : Ending) (ts us : List Placed) → read.decl n place decl ending ts us → allowed.decl place decl
  pub alt : (n : ℕ) (alt : Alt) (ending : Ending) (ts us : List Placed) → read.alt n alt ending ts us → allowed.alt alt
  pub declarations : (m : ℕ) (place : DeclPlace) (block : Block Decl) (ts us : List Placed) → read.declarations m place block ts us → allowed.declarations place block
  pub alternatives : (m : ℕ) (block : Block Alt) (ts us : List Placed) → read.alternatives m block ts us → allowed.alternatives block

abbrev pub LevelsAre : Type 0
LevelsAre = (levels : ℕ) → AllAre (derivations levels) (nodes levels)

-- what is read as a module is a tree of the grammar, and is yielded by it within the limit on nesting
pub record ModulesAre : Type 0 where
  pub grammar : (levels : ℕ) (tree : Module) (items : List Item) → Derives levels tree items → IsModule levels tree
  pub yields : (tree : Module) (items : List Item) → Derives nesting_limit tree items → Yields tree (record { list = items; tail = tree.tail })

-- what is read of types, patterns, expressions, declarations and alternatives is a lexeme or more, and a block leaves no
-- more lexemes than there were
pub record ReadingsShrink : Type 0 where
  pub types : (levels n : ℕ) (place : TyPlace) (ty : Ty) (ts us : List Placed) → (derivations levels).ty n place ty ts us → length us < length ts
  pub patterns : (levels n : ℕ) (place : PatPlace) (pat : Pat) (ts us : List Placed) → (derivations levels).pat n place pat ts us → length us < length ts
  pub expressions : (levels n : ℕ) (free : Colons) (place : ExpPlace) (exp : Exp) (ending : Ending) (ts us : List Placed)
      → (derivations levels).exp n free place exp ending ts us → length us < length ts
  pub declarations : (levels n : ℕ) (place : DeclPlace) (decl : Decl) (ending : Ending) (ts us : List Placed) → (derivations levels).decl n place decl ending ts us → length us < length ts
  pub alternatives : (levels n : ℕ) (alt : Alt) (ending : Ending) (ts us : List Placed) → (derivations levels).alt n alt ending ts us → length us < length ts
  pub declaration_blocks : (levels m : ℕ) (place : DeclPlace) (block : Block Decl) (ts us : List Placed) → (derivations levels).declarations m place block ts us → length us ≤ length ts
  pub alternative_blocks : (levels m : ℕ) (block : Block Alt) (ts us : List Placed) → (derivations levels).alternatives m block ts us → length us ≤ length ts

-- where the pieces of a block go on or end behind a part, nothing can go on in the part
pub record PiecesStop : Type 0 where
  pub declarations : (levels n : ℕ) (kind : BlockKind) (place : DeclPlace) (ending : Ending) (pieces : List (Piece Decl)) (ts us : List Placed)
      → pieces_reading (decl_parts (derivations levels)) kind n place ending pieces ts us → ending ≢ Ending.Nothing → nothing_goes_on n ending ts ≡ true
  pub alternatives : (levels n : ℕ) (kind : BlockKind) (place : DeclPlace) (ending : Ending) (pieces : List (Piece Alt)) (ts us : List Placed)
      → pieces_reading (alt_parts (derivations levels)) kind n place ending pieces ts us → ending ≢ Ending.Nothing → nothing_goes_on n ending ts ≡ true

-- an expression, a declaration and an alternative don't end as an empty part does
pub record EndingsAreSome (read : Derivations) : Type 0 where
  pub exp : (n : ℕ) (free : Colons) (place : ExpPlace) (exp : Exp) (ending : Ending) (ts us : List Placed) → read.exp n free place exp ending ts us → ending ≢ Ending.Nothing
  pub decl : (n : ℕ) (place : DeclPlace) (decl : Decl) (ending : Ending) (ts us : List Placed) → read.decl n place decl ending ts us → ending ≢ Ending.Nothing
  pub alt : (n : ℕ) (alt : Alt) (ending : Ending) (ts us : List Placed) → read.alt n alt ending ts us → ending ≢ Ending.Nothing

abbrev pub PartsEnd : Type 0
PartsEnd = (levels : ℕ) → EndingsAreSome (derivations levels)

-- the blocks of what is read as a module stand as the layout rule says
abbrev pub ModulesStand : Type 0
ModulesStand = (levels : ℕ) (tree : Module) (items : List Item) → Derives levels tree items → Offside tree

-- what is read as a module within the limit on nesting is yielded by a tree of the grammar that stands so, and what is
-- read on any level by a deep one
pub record ModulesYield : Type 0 where
  pub yields : (tree : Module) (items : List Item) → Derives nesting_limit tree items → Yields tree (record { list = items; tail = tree.tail }) × Offside tree
  pub deep : (levels : ℕ) (tree : Module) (items : List Item) → Derives levels tree items → DeepYields tree (record { list = items; tail = tree.tail })
