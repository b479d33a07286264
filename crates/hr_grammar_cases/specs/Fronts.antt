-- What a loop has read so far: the pieces of a block before it ends, and operands before the last one.
use Rattle.std.specs.Prelude.{ℕ, ◌≡◌, Bool, true, false, List, [], ◌∷◌, ◌++◌, None}
use Rattle.hr_base.specs.declared.lexeme.Ending.{Ending}
use Rattle.hr_rules.specs.declared.block.Placed.{Placed}
use Rattle.hr_rules.specs.declared.block.BlockKind.{BlockKind}
use Rattle.hr_tree.specs.declared.lists.Operand.{Operand}
use Rattle.hr_tree.specs.declared.lists.Piece.{Piece}
use Rattle.hr_tree.specs.declared.patterns.Pat.{Pat}
use Rattle.hr_tree.specs.declared.expressions.Exp.{Exp}
use Rattle.hr_tree.specs.Names.{operator_items}
use Rattle.hr_grammar.specs.Words.{IsMinus, IsSemicolon}
use Rattle.hr_grammar.specs.Spelled.{IsOperator, IsConstructorOperator}
use Rattle.hr_grammar.specs.Nodes.{Colons, PatPlace, ExpPlace, DeclPlace}
use Rattle.hr_grammar_cases.specs.Readings.{Reading, nothing, ◌▷◌, given, one, spelled, maybe, there, in_turn, inside}
use Rattle.hr_grammar_cases.specs.Derivations.{Derivations}
use Rattle.hr_grammar_cases.specs.Patterns.{pat_operands}
use Rattle.hr_grammar_cases.specs.Expressions.{exp_operands}
use Rattle.hr_grammar_cases.specs.Blocks.{Parts, takes_semicolon, ends_here, starts, part_then, pieces_reading, braced_reading}
use Rattle.hr_grammar_cases.specs.Modules.{decl_parts, alt_parts, derivations}

-- of a block at column n: from the place and the ending behind which the pieces begin to those behind them
abbrev pub pieces_front : {T : Type 0} → Parts T → ℕ → DeclPlace → Ending → List (Piece T) → DeclPlace → Ending → Reading
pieces_front parts n place ending [] reached last = given ((reached ≡ place) × (last ≡ ending)) nothing
pieces_front parts n place ending (Piece.Semicolon item ∷ pieces) reached last =
    given (IsSemicolon item) (takes_semicolon n item) ▷ pieces_front parts n place Ending.Nothing pieces reached last
pieces_front parts n place ending (Piece.Part part ∷ pieces) reached last =
    starts n ending ▷ part_then (λ next end. parts n place next part end) (λ next end. pieces_front parts n next end pieces reached last)

-- of a block in braces: the mark says whether a part may begin
abbrev pub braced_front : {T : Type 0} → Parts T → DeclPlace → Bool → List (Piece T) → DeclPlace → Bool → Reading
braced_front parts place begins [] reached free = given ((reached ≡ place) × (free ≡ begins)) nothing
braced_front parts place begins (Piece.Semicolon item ∷ pieces) reached free = one 0 IsSemicolon item ▷ braced_front parts place true pieces reached free
braced_front parts place begins (Piece.Part part ∷ pieces) reached free =
    given (begins ≡ true) (part_then (λ next end. parts 0 place next part end) (λ next end. braced_front parts next false pieces reached free))

-- where the block ends behind the pieces that have been read, they are its pieces
abbrev pub FrontCloses : {T : Type 0} → Parts T → Type 0
FrontCloses {T} parts = (kind : BlockKind) (n : ℕ) (place : DeclPlace) (ending : Ending) (pieces : List (Piece T)) (reached : DeclPlace) (last : Ending) (ts vs us : List Placed)
    → pieces_front parts n place ending pieces reached last ts vs → ends_here kind n last vs us → pieces_reading parts kind n place ending pieces ts us

abbrev pub BracedFrontCloses : {T : Type 0} → Parts T → Type 0
BracedFrontCloses {T} parts = (place : DeclPlace) (begins : Bool) (pieces : List (Piece T)) (reached : DeclPlace) (free : Bool) (ts us : List Placed)
    → braced_front parts place begins pieces reached free ts us → braced_reading parts place begins pieces ts us

-- an operand with its operator, before others
abbrev pub exp_operand_front : Derivations → ℕ → Colons → Operand Exp → Reading
exp_operand_front below n free operand =
    maybe (one n IsMinus) operand.minus ▷ inside (below.exp n free ExpPlace.Operand operand.part) ▷ there (spelled n IsOperator operator_items) operand.operator

abbrev pub pat_operand_front : Derivations → ℕ → Operand Pat → Reading
pat_operand_front below n operand =
    given (operand.minus ≡ None) (below.pat n PatPlace.Operand operand.part ▷ there (spelled n IsConstructorOperator operator_items) operand.operator)

-- behind such operands the last one closes the sequence
pub record OperandsClose (below : Derivations) : Type 0 where
  pub expressions : (n : ℕ) (free : Colons) (last : ExpPlace) (fronts : List (Operand Exp)) (operand : Operand Exp) (ending : Ending) (ts vs us : List Placed)
      → in_turn (exp_operand_front below n free) fronts ts vs → exp_operands below n free last (operand ∷ []) ending vs us → exp_operands below n free last (fronts ++ operand ∷ []) ending ts us
  pub patterns : (n : ℕ) (fronts : List (Operand Pat)) (operand : Operand Pat) (ts vs us : List Placed)
      → in_turn (pat_operand_front below n) fronts ts vs → pat_operands below n (operand ∷ []) vs us → pat_operands below n (fronts ++ operand ∷ []) ts us

pub record FrontsClose : Type 0 where
  pub operands : (levels : ℕ) → OperandsClose (derivations levels)
  pub declarations : (levels : ℕ) → FrontCloses (decl_parts (derivations levels)) × BracedFrontCloses (decl_parts (derivations levels))
  pub alternatives : (levels : ℕ) → FrontCloses (alt_parts (derivations levels)) × BracedFrontCloses (alt_parts (derivations levels))
