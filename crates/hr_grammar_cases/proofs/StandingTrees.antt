-- The stretches of trees, and lists of trees that stand where each of them does.
use Rattle.std.proofs.Common.{◌≡◌, ℕ, Bool, true, false, List, [], ◌∷◌, map, Option, refl, sym, ap₂, subst}
use Rattle.hr_base.specs.declared.lexeme.Ending.{Ending}
use Rattle.hr_base.specs.declared.lexeme.Item.{Item}
use Rattle.hr_rules.specs.declared.block.BlockKind.{BlockKind}
use Rattle.hr_rules.specs.declared.block.Placed.{Placed}
use Rattle.hr_tree.specs.declared.lists.Listed.{Listed}
use Rattle.hr_tree.specs.declared.lists.Operand.{Operand}
use Rattle.hr_tree.specs.declared.lists.Block.{Block}
use Rattle.hr_tree.specs.declared.lists.Piece.{Piece}
use Rattle.hr_tree.specs.declared.declarations.Guarded.{Guarded}
use Rattle.hr_tree.specs.declared.expressions.Exp.{Exp}
use Rattle.hr_tree.specs.declared.expressions.Decl.{Decl}
use Rattle.hr_tree.specs.declared.expressions.Alt.{Alt}
use Rattle.hr_tree.specs.declared.expressions.Qualifier.{Qualifier}
use Rattle.hr_tree.specs.declared.expressions.Decl.TheFolds.{fold-Decl, fold-Exp, fold-Qualifier, fold-Alt}
use Rattle.hr_tree.specs.Names.{maybe_item}
use Rattle.hr_grammar.specs.Nodes.{Colons, ExpPlace, DeclPlace}
use Rattle.hr_grammar.specs.Spans.{Laid, blockless, row, listed_laid, operand_laid, guarded_laid, block_laid, decl_laid, exp_laid, qualifier_laid, alt_laid}
use Rattle.hr_grammar_cases.specs.Readings.{Reading, one, take_all, separated}
use Rattle.hr_grammar_cases.specs.Derivations.{Derivations}
use Rattle.hr_grammar_cases.proofs.Taken.{one_there_takes}
use Rattle.hr_grammar_cases.proofs.Stretches.{beside, Text}
use Rattle.hr_grammar_cases.proofs.Standing.{Stands, then_stands}
use Rattle.hr_grammar_cases.proofs.StandingLexemes.{nothing_stands, taken_stands, all_stand}
use Rattle.hr_grammar_cases.proofs.StandingPieces.{laids}
use Rattle.hr_grammar_cases.proofs.StandingBlocks.{block_by}

abbrev pub laid_exp : Exp → Laid
laid_exp = fold-Exp Laid Laid Laid Laid decl_laid exp_laid qualifier_laid alt_laid

abbrev pub laid_decl : Decl → Laid
laid_decl = fold-Decl Laid Laid Laid Laid decl_laid exp_laid qualifier_laid alt_laid

abbrev pub laid_qualifier : Qualifier → Laid
laid_qualifier = fold-Qualifier Laid Laid Laid Laid decl_laid exp_laid qualifier_laid alt_laid

abbrev pub laid_alt : Alt → Laid
laid_alt = fold-Alt Laid Laid Laid Laid decl_laid exp_laid qualifier_laid alt_laid

-- the trees that are read on some level stand
pub record AllStand (text : Text) (below : Derivations) : Type 0 where
  pub exp : (n : ℕ) (free : Colons) (place : ExpPlace) (exp : Exp) (ending : Ending) → Stands text n false (laid_exp exp) (below.exp n free place exp ending)
  pub decl : (n : ℕ) (place : DeclPlace) (decl : Decl) (ending : Ending) → Stands text n false (laid_decl decl) (below.decl n place decl ending)
  pub alt : (n : ℕ) (alt : Alt) (ending : Ending) → Stands text n false (laid_alt alt) (below.alt n alt ending)
  pub declarations : (m : ℕ) (block : Block Decl) → Stands text m true (block_laid BlockKind.Declarations (block_by laid_decl block)) (below.declarations m DeclPlace.Local block)
  pub alternatives : (m : ℕ) (block : Block Alt) → Stands text m true (block_laid BlockKind.Alternatives (block_by laid_alt block)) (below.alternatives m block)

abbrev pub listed_by : {T : Type 0} → (T → Laid) → Listed T → Listed Laid
listed_by of listed = record { part = of listed.part; separator = listed.separator }

abbrev pub operand_by : {T : Type 0} → (T → Laid) → Operand T → Operand Laid
operand_by of operand = record { minus = operand.minus; part = of operand.part; operator = operand.operator }

abbrev pub guarded_by : {T : Type 0} → (T → Laid) → Guarded T → Guarded Laid
guarded_by of guarded = record { bar = guarded.bar; guard = of guarded.guard; mark = guarded.mark; body = of guarded.body }

abbrev pub separated_laid : {T : Type 0} → (T → Laid) → List (Listed T) → Laid
separated_laid of list = row (map listed_laid (map (listed_by of) list))

abbrev pub operands_laid : List (Operand Exp) → Laid
operands_laid operands = row (map operand_laid (map (operand_by laid_exp) operands))

abbrev pub guards_laid : List (Guarded Exp) → Laid
guards_laid list = row (map guarded_laid (map (guarded_by laid_exp) list))

-- whichever way the pieces of a block are laid out, if it is piece by piece
pub pieces_turned : {T : Type 0} (of : T → Laid) (turn : Piece T → Piece Laid) → ((item : Item) → turn (Piece.Semicolon item) ≡ Piece.Semicolon item) → ((part : T) → turn (Piece.Part part) ≡ Piece.Part (of part))
    → (pieces : List (Piece T)) → map turn pieces ≡ laids of pieces
pieces_turned of turn s p [] = refl
pieces_turned of turn s p (Piece.Semicolon item ∷ pieces) = ap₂ (λ (q : Piece Laid) (l : List (Piece Laid)). q ∷ l) (s item) (pieces_turned of turn s p pieces)
pieces_turned of turn s p (Piece.Part part ∷ pieces) = ap₂ (λ (q : Piece Laid) (l : List (Piece Laid)). q ∷ l) (p part) (pieces_turned of turn s p pieces)

-- a reading that says more than another one
pub through : {text : Text} {n : ℕ} {opened : Bool} {laid : Laid} {first second : Reading} → ((ts us : List Placed) → second ts us → first ts us) → Stands text n opened laid first → Stands text n opened laid second
through f s = record { within = λ ts us r. s.within ts us (f ts us r); stands = λ ts us r. s.stands ts us (f ts us r) }

-- a last part, behind which nothing stands
pub alone_stands : {text : Text} {n : ℕ} {laid : Laid} {reading : Reading} → Stands text n false laid reading → Stands text n false (beside laid (blockless [])) reading
alone_stands s = through (λ ts us r. (us, r, refl)) (then_stands s nothing_stands)

pub separated_stands : {T : Type 0} {text : Text} {n : ℕ} (Is : Item → Type 0) (of : T → Laid) (reading : T → Reading) → ((x : T) → Stands text n false (of x) (reading x))
    → (list : List (Listed T)) → Stands text n false (separated_laid of list) (separated (one n Is) reading list)
separated_stands Is of reading each [] = nothing_stands
separated_stands {n = n} Is of reading each (listed ∷ []) =
    through (λ ts us r. (us, (us, r.1, subst (λ (s : Option Item). take_all n (maybe_item s) us us) (sym r.0) refl), refl))
    (then_stands (then_stands (each listed.part) (all_stand (maybe_item listed.separator))) nothing_stands)
separated_stands {n = n} Is of reading each (listed ∷ (next ∷ rest)) =
    through (λ ts us r. (r.2.0, (r.0, r.1, r.2.1), r.2.2))
    (then_stands (then_stands (each listed.part) (taken_stands (one_there_takes n Is listed.separator))) (separated_stands Is of reading each (next ∷ rest)))
