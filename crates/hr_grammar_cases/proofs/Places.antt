-- What is read at a place is read at each place where more may stand.
use Rattle.std.proofs.Common.{◌≡◌, ℕ, zero, suc, true, false, List, [], ◌∷◌}
use Rattle.hr_base.specs.declared.lexeme.Ending.{Ending}
use Rattle.hr_tree.specs.declared.lists.Operand.{Operand}
use Rattle.hr_tree.specs.declared.types.Ty.{Ty, out-Ty}
use Rattle.hr_tree.specs.declared.types.Ty.TheOpen.{Ty-F}
use Rattle.hr_tree.specs.declared.patterns.Pat.{Pat, out-Pat}
use Rattle.hr_tree.specs.declared.patterns.Pat.TheOpen.{Pat-F}
use Rattle.hr_tree.specs.declared.expressions.Exp.{Exp, out-Exp}
use Rattle.hr_tree.specs.declared.expressions.Decl.{Decl, out-Decl}
use Rattle.hr_tree.specs.declared.expressions.Alt.{Alt}
use Rattle.hr_tree.specs.declared.expressions.Qualifier.{Qualifier}
use Rattle.hr_tree.specs.declared.expressions.Decl.TheOpen.{Decl-F, Exp-F}
use Rattle.hr_grammar.specs.Nodes.{Colons, TyPlace, PatPlace, ExpPlace, DeclPlace}
use Rattle.hr_grammar.specs.Expressions.{takes_operand, takes_open, takes_infix, takes_annotation, last_operand}
use Rattle.hr_grammar_cases.specs.Readings.{Reading, given}
use Rattle.hr_grammar_cases.specs.Derivations.{Derivations}
use Rattle.hr_grammar_cases.specs.Types.{ty_reading}
use Rattle.hr_grammar_cases.specs.Patterns.{pat_reading}
use Rattle.hr_grammar_cases.specs.Expressions.{whole, exp_operands, exp_reading}
use Rattle.hr_grammar_cases.specs.Declarations.{decl_reading}
use Rattle.hr_grammar_cases.specs.Modules.{derivations}
use Rattle.hr_grammar_cases.specs.Widening.{Widens}
use Rattle.hr_grammar_cases.specs.Places.{ExpsWiden, LevelsWidenPlaces}
use Rattle.hr_grammar_cases.proofs.Widening.{same_widens, never_widens, then_widens, given_widens, inside_widens, in_turn_widens}

-- on a condition, where another one follows from it
condition_widens : {P Q : Type 0} {reading : Reading} → (P → Q) → Widens (given P reading) (given Q reading)
condition_widens turn = record { widens = λ ts us r. (turn r.0, r.1) }

-- on one that is false
not_true : {C : Type 0} → false ≡ true → C
not_true {C} e = let no : ⊥ = cc in elim no [ ]

-- ---- types and patterns
atomic_type : (below : Derivations) (n : ℕ) (layer : Ty-F Ty) → Widens (ty_reading below n TyPlace.Atomic layer) (ty_reading below n TyPlace.Applied layer)
atomic_type below n (Ty-F.Apply named arguments) = condition_widens (λ p. not_true p.0)
atomic_type below n (Ty-F.Function from arrow to) = condition_widens (λ p. not_true p)
atomic_type below n (Ty-F.Variable name) = same_widens
atomic_type below n (Ty-F.Constructor named) = same_widens
atomic_type below n (Ty-F.Tuple left parts right) = same_widens
atomic_type below n (Ty-F.List left part right) = same_widens
atomic_type below n (Ty-F.Group left part right) = same_widens

applied_type : (below : Derivations) (n : ℕ) (layer : Ty-F Ty) → Widens (ty_reading below n TyPlace.Applied layer) (ty_reading below n TyPlace.Whole layer)
applied_type below n (Ty-F.Function from arrow to) = condition_widens (λ p. not_true p)
applied_type below n (Ty-F.Variable name) = same_widens
applied_type below n (Ty-F.Constructor named) = same_widens
applied_type below n (Ty-F.Tuple left parts right) = same_widens
applied_type below n (Ty-F.List left part right) = same_widens
applied_type below n (Ty-F.Group left part right) = same_widens
applied_type below n (Ty-F.Apply named arguments) = same_widens

atomic_pattern : (below : Derivations) (n : ℕ) (layer : Pat-F Pat) → Widens (pat_reading below n PatPlace.Atomic layer) (pat_reading below n PatPlace.Operand layer)
atomic_pattern below n (Pat-F.Negative minus number) = condition_widens (λ p. not_true p)
atomic_pattern below n (Pat-F.Apply named arguments) = condition_widens (λ p. not_true p.0)
atomic_pattern below n (Pat-F.Infix operands) = condition_widens (λ p. not_true p.0)
atomic_pattern below n (Pat-F.Variable bound) = same_widens
atomic_pattern below n (Pat-F.Wildcard word) = same_widens
atomic_pattern below n (Pat-F.Literal literal) = same_widens
atomic_pattern below n (Pat-F.Constructor named) = same_widens
atomic_pattern below n (Pat-F.As bound mark part) = same_widens
atomic_pattern below n (Pat-F.Lazy mark part) = same_widens
atomic_pattern below n (Pat-F.Tuple left parts right) = same_widens
atomic_pattern below n (Pat-F.List left parts right) = same_widens
atomic_pattern below n (Pat-F.Group left part right) = same_widens
atomic_pattern below n (Pat-F.Fields named left fields right) = same_widens

operand_pattern : (below : Derivations) (n : ℕ) (layer : Pat-F Pat) → Widens (pat_reading below n PatPlace.Operand layer) (pat_reading below n PatPlace.Whole layer)
operand_pattern below n (Pat-F.Infix operands) = condition_widens (λ p. not_true p.0)
operand_pattern below n (Pat-F.Variable bound) = same_widens
operand_pattern below n (Pat-F.Wildcard word) = same_widens
operand_pattern below n (Pat-F.Literal literal) = same_widens
operand_pattern below n (Pat-F.Constructor named) = same_widens
operand_pattern below n (Pat-F.As bound mark part) = same_widens
operand_pattern below n (Pat-F.Lazy mark part) = same_widens
operand_pattern below n (Pat-F.Tuple left parts right) = same_widens
operand_pattern below n (Pat-F.List left parts right) = same_widens
operand_pattern below n (Pat-F.Group left part right) = same_widens
operand_pattern below n (Pat-F.Fields named left fields right) = same_widens
operand_pattern below n (Pat-F.Negative minus number) = same_widens
operand_pattern below n (Pat-F.Apply named arguments) = same_widens

-- ---- expressions
-- more may stand at the second place than at the first
record IsWider (below : Derivations) (place wider : ExpPlace) : Type 0 where
  operand : takes_operand place ≡ true → takes_operand wider ≡ true
  far : takes_open place ≡ true → takes_open wider ≡ true
  sequence : takes_infix place ≡ true → takes_infix wider ≡ true
  annotation : takes_annotation place ≡ true → takes_annotation wider ≡ true
  last : takes_infix place ≡ true → ExpsWiden below (last_operand place) (last_operand wider)

-- the same operands, where the last one stands at a wider place
last_widens : (below : Derivations) (last wider : ExpPlace) → ExpsWiden below last wider → (n : ℕ) (free : Colons) (operands : List (Operand Exp)) (ending : Ending)
    → Widens (exp_operands below n free last operands ending) (exp_operands below n free wider operands ending)
last_widens below last wider each n free [] ending = same_widens
last_widens below last wider each n free (operand ∷ []) ending = given_widens _ (then_widens same_widens (each n free operand.part ending))
last_widens below last wider each n free (operand ∷ (next ∷ rest)) ending =
    then_widens same_widens (then_widens same_widens (then_widens same_widens (last_widens below last wider each n free (next ∷ rest) ending)))

exp_widens : (below : Derivations) (place wider : ExpPlace) → IsWider below place wider → (n : ℕ) (free : Colons) (layer : Exp-F Decl Exp Qualifier Alt) (ending : Ending)
    → Widens (exp_reading below n free place layer ending) (exp_reading below n free wider layer ending)
exp_widens below place wider w n free (Exp-F.Apply atoms) ending = condition_widens (λ p. (p.0, (w.operand p.1.0, p.1.1)))
exp_widens below place wider w n free (Exp-F.Case word part of_word block) ending = condition_widens (λ p. (p.0, w.operand p.1))
exp_widens below place wider w n free (Exp-F.Lambda mark patterns arrow body) ending = condition_widens (λ p. (w.far p.0, p.1))
exp_widens below place wider w n free (Exp-F.Let word block in_word body) ending = condition_widens (λ p. w.far p)
exp_widens below place wider w n free (Exp-F.If word test then_word first else_word second) ending = condition_widens (λ p. w.far p)
exp_widens below place wider w n free (Exp-F.Infix operands) ending = record {
  widens = λ ts us r. ((w.sequence r.0.0, r.0.1), (last_widens below (last_operand place) (last_operand wider) (w.last r.0.0) n free operands ending).widens ts us r.1);
}
exp_widens below place wider w n free (Exp-F.Annotated part colons ty) ending = condition_widens (λ p. (p.0, (w.annotation p.1.0, p.1.1)))
exp_widens below place wider w n free (Exp-F.Variable used) ending = same_widens
exp_widens below place wider w n free (Exp-F.Constructor named) ending = same_widens
exp_widens below place wider w n free (Exp-F.Literal literal) ending = same_widens
exp_widens below place wider w n free (Exp-F.Group left part right) ending = same_widens
exp_widens below place wider w n free (Exp-F.Tuple left parts right) ending = same_widens
exp_widens below place wider w n free (Exp-F.List left parts right) ending = same_widens
exp_widens below place wider w n free (Exp-F.From left first dots right) ending = same_widens
exp_widens below place wider w n free (Exp-F.FromThen left first comma second dots right) ending = same_widens
exp_widens below place wider w n free (Exp-F.FromTo left first dots last right) ending = same_widens
exp_widens below place wider w n free (Exp-F.FromThenTo left first comma second dots last right) ending = same_widens
exp_widens below place wider w n free (Exp-F.Comprehension left part bar qualifiers right) ending = same_widens
exp_widens below place wider w n free (Exp-F.LeftSection left part operator right) ending = same_widens
exp_widens below place wider w n free (Exp-F.RightSection left operator part right) ending = same_widens
exp_widens below place wider w n free (Exp-F.Fields part left fields right) ending = same_widens

same_last : (below : Derivations) (place : ExpPlace) → ExpsWiden below place place
same_last below place n free exp ending = same_widens

atom_wider : (below : Derivations) → IsWider below ExpPlace.Atom ExpPlace.Operand
atom_wider below = record { operand = not_true; far = not_true; sequence = not_true; annotation = not_true; last = not_true }

operand_wider : (below : Derivations) → IsWider below ExpPlace.Operand ExpPlace.LastOperand
operand_wider below = record { operand = λ e. e; far = not_true; sequence = not_true; annotation = not_true; last = not_true }

operand_annotated : (below : Derivations) → IsWider below ExpPlace.Operand ExpPlace.Annotated
operand_annotated below = record { operand = λ e. e; far = not_true; sequence = not_true; annotation = not_true; last = not_true }

last_operand_wider : (below : Derivations) → IsWider below ExpPlace.LastOperand ExpPlace.Sequence
last_operand_wider below = record { operand = λ e. e; far = λ e. e; sequence = not_true; annotation = not_true; last = not_true }

annotated_wider : (below : Derivations) → ExpsWiden below ExpPlace.Operand ExpPlace.LastOperand → IsWider below ExpPlace.Annotated ExpPlace.Sequence
annotated_wider below each = record { operand = λ e. e; far = not_true; sequence = λ e. e; annotation = not_true; last = λ e. each }

sequence_wider : (below : Derivations) → IsWider below ExpPlace.Sequence ExpPlace.Whole
sequence_wider below = record { operand = λ e. e; far = λ e. e; sequence = λ e. e; annotation = not_true; last = λ e. same_last below ExpPlace.LastOperand }

-- ---- where no `::` may stand
abbrev BarredWiden : Derivations → Type 0
BarredWiden below = (n : ℕ) (place : ExpPlace) (exp : Exp) (ending : Ending) → Widens (below.exp n Colons.Barred place exp ending) (below.exp n Colons.Allowed place exp ending)

barred_whole : (below : Derivations) → BarredWiden below → (n : ℕ) (part : Exp) → Widens (whole below n Colons.Barred part) (whole below n Colons.Allowed part)
barred_whole below each n part = inside_widens (each n ExpPlace.Whole part)

barred_operands : (below : Derivations) → BarredWiden below → (n : ℕ) (last : ExpPlace) (operands : List (Operand Exp)) (ending : Ending)
    → Widens (exp_operands below n Colons.Barred last operands ending) (exp_operands below n Colons.Allowed last operands ending)
barred_operands below each n last [] ending = same_widens
barred_operands below each n last (operand ∷ []) ending = given_widens _ (then_widens same_widens (each n last operand.part ending))
barred_operands below each n last (operand ∷ (next ∷ rest)) ending =
    then_widens same_widens (then_widens (inside_widens (each n ExpPlace.Operand operand.part)) (then_widens same_widens (barred_operands below each n last (next ∷ rest) ending)))

barred_is_allowed : {C : Type 0} → Colons.Barred ≡ Colons.Allowed → C
barred_is_allowed {C} e = let no : ⊥ = cc in elim no [ ]

barred_exp : (below : Derivations) → BarredWiden below → (n : ℕ) (place : ExpPlace) (layer : Exp-F Decl Exp Qualifier Alt) (ending : Ending)
    → Widens (exp_reading below n Colons.Barred place layer ending) (exp_reading below n Colons.Allowed place layer ending)
barred_exp below each n place (Exp-F.Apply atoms) ending = given_widens _ (in_turn_widens _ _ (λ atom. inside_widens (each n ExpPlace.Atom atom)) atoms)
barred_exp below each n place (Exp-F.Case word part of_word block) ending = given_widens _ (then_widens same_widens (then_widens (barred_whole below each n part) same_widens))
barred_exp below each n place (Exp-F.Lambda mark patterns arrow body) ending =
    given_widens _ (then_widens same_widens (then_widens same_widens (then_widens same_widens (each n ExpPlace.Whole body ending))))
barred_exp below each n place (Exp-F.Let word block in_word body) ending =
    given_widens _ (then_widens same_widens (then_widens same_widens (then_widens same_widens (each n ExpPlace.Whole body ending))))
barred_exp below each n place (Exp-F.If word test then_word first else_word second) ending =
    given_widens _
    (then_widens same_widens
    (then_widens (barred_whole below each n test)
    (then_widens same_widens (then_widens (barred_whole below each n first) (then_widens same_widens (each n ExpPlace.Whole second ending))))))
barred_exp below each n place (Exp-F.Infix operands) ending = given_widens _ (barred_operands below each n (last_operand place) operands ending)
barred_exp below each n place (Exp-F.Annotated part colons ty) ending = condition_widens (λ p. barred_is_allowed p.1.1)
barred_exp below each n place (Exp-F.Variable used) ending = same_widens
barred_exp below each n place (Exp-F.Constructor named) ending = same_widens
barred_exp below each n place (Exp-F.Literal literal) ending = same_widens
barred_exp below each n place (Exp-F.Group left part right) ending = same_widens
barred_exp below each n place (Exp-F.Tuple left parts right) ending = same_widens
barred_exp below each n place (Exp-F.List left parts right) ending = same_widens
barred_exp below each n place (Exp-F.From left first dots right) ending = same_widens
barred_exp below each n place (Exp-F.FromThen left first comma second dots right) ending = same_widens
barred_exp below each n place (Exp-F.FromTo left first dots last right) ending = same_widens
barred_exp below each n place (Exp-F.FromThenTo left first comma second dots last right) ending = same_widens
barred_exp below each n place (Exp-F.Comprehension left part bar qualifiers right) ending = same_widens
barred_exp below each n place (Exp-F.LeftSection left part operator right) ending = same_widens
barred_exp below each n place (Exp-F.RightSection left operator part right) ending = same_widens
barred_exp below each n place (Exp-F.Fields part left fields right) ending = same_widens

atom_anywhere : (below : Derivations) (n : ℕ) (free other : Colons) (layer : Exp-F Decl Exp Qualifier Alt) (ending : Ending)
    → Widens (exp_reading below n free ExpPlace.Atom layer ending) (exp_reading below n other ExpPlace.Atom layer ending)
atom_anywhere below n free other (Exp-F.Apply atoms) ending = record { widens = λ ts us r. not_true r.0.1.0 }
atom_anywhere below n free other (Exp-F.Case word part of_word block) ending = record { widens = λ ts us r. not_true r.0.1 }
atom_anywhere below n free other (Exp-F.Lambda mark patterns arrow body) ending = record { widens = λ ts us r. not_true r.0.0 }
atom_anywhere below n free other (Exp-F.Let word block in_word body) ending = record { widens = λ ts us r. not_true r.0 }
atom_anywhere below n free other (Exp-F.If word test then_word first else_word second) ending = record { widens = λ ts us r. not_true r.0 }
atom_anywhere below n free other (Exp-F.Infix operands) ending = record { widens = λ ts us r. not_true r.0.0 }
atom_anywhere below n free other (Exp-F.Annotated part colons ty) ending = record { widens = λ ts us r. not_true r.0.1.0 }
atom_anywhere below n free other (Exp-F.Variable used) ending = same_widens
atom_anywhere below n free other (Exp-F.Constructor named) ending = same_widens
atom_anywhere below n free other (Exp-F.Literal literal) ending = same_widens
atom_anywhere below n free other (Exp-F.Group left part right) ending = same_widens
atom_anywhere below n free other (Exp-F.Tuple left parts right) ending = same_widens
atom_anywhere below n free other (Exp-F.List left parts right) ending = same_widens
atom_anywhere below n free other (Exp-F.From left first dots right) ending = same_widens
atom_anywhere below n free other (Exp-F.FromThen left first comma second dots right) ending = same_widens
atom_anywhere below n free other (Exp-F.FromTo left first dots last right) ending = same_widens
atom_anywhere below n free other (Exp-F.FromThenTo left first comma second dots last right) ending = same_widens
atom_anywhere below n free other (Exp-F.Comprehension left part bar qualifiers right) ending = same_widens
atom_anywhere below n free other (Exp-F.LeftSection left part operator right) ending = same_widens
atom_anywhere below n free other (Exp-F.RightSection left operator part right) ending = same_widens
atom_anywhere below n free other (Exp-F.Fields part left fields right) ending = same_widens

-- ---- declarations
local_decl : (below : Derivations) (n : ℕ) (layer : Decl-F Decl Exp Qualifier Alt) (ending : Ending)
    → Widens (decl_reading below n DeclPlace.Local layer ending) (decl_reading below n DeclPlace.Top layer ending)
local_decl below n (Decl-F.Import import) ending = condition_widens (λ p. not_true p.1)
local_decl below n (Decl-F.Synonym word head equals ty) ending = condition_widens (λ p. not_true p.1)
local_decl below n (Decl-F.Data word head equals constructions) ending = condition_widens (λ p. not_true p.1.0)
local_decl below n (Decl-F.Newtype word head equals construction) ending = condition_widens (λ p. not_true p.1)
local_decl below n (Decl-F.Signature names colons ty) ending = same_widens
local_decl below n (Decl-F.Fixity word level operators) ending = same_widens
local_decl below n (Decl-F.Equation left body locals) ending = same_widens
local_decl below n (Decl-F.Binding pattern body locals) ending = same_widens

-- ---- levels
pub levels_widen_places_lem : LevelsWidenPlaces
levels_widen_places_lem zero = record {
  atomic_types = λ n ty. never_widens;
  applied_types = λ n ty. never_widens;
  atomic_patterns = λ n pat. never_widens;
  operand_patterns = λ n pat. never_widens;
  atoms = λ n free exp ending. never_widens;
  operands = λ n free exp ending. never_widens;
  operands_annotated = λ n free exp ending. never_widens;
  last_operands = λ n free exp ending. never_widens;
  annotated = λ n free exp ending. never_widens;
  sequences = λ n free exp ending. never_widens;
  barred = λ n place exp ending. never_widens;
  atoms_anywhere = λ n free other exp ending. never_widens;
  locals = λ n decl ending. never_widens;
}
levels_widen_places_lem (suc levels) =
    let below = derivations levels in let each = levels_widen_places_lem levels in
    record {
      atomic_types = λ n ty. atomic_type below n (out-Ty ty);
      applied_types = λ n ty. applied_type below n (out-Ty ty);
      atomic_patterns = λ n pat. atomic_pattern below n (out-Pat pat);
      operand_patterns = λ n pat. operand_pattern below n (out-Pat pat);
      atoms = λ n free exp ending. exp_widens below ExpPlace.Atom ExpPlace.Operand (atom_wider below) n free (out-Exp exp) ending;
      operands = λ n free exp ending. exp_widens below ExpPlace.Operand ExpPlace.LastOperand (operand_wider below) n free (out-Exp exp) ending;
      operands_annotated = λ n free exp ending. exp_widens below ExpPlace.Operand ExpPlace.Annotated (operand_annotated below) n free (out-Exp exp) ending;
      last_operands = λ n free exp ending. exp_widens below ExpPlace.LastOperand ExpPlace.Sequence (last_operand_wider below) n free (out-Exp exp) ending;
      annotated = λ n free exp ending. exp_widens below ExpPlace.Annotated ExpPlace.Sequence (annotated_wider below each.operands) n free (out-Exp exp) ending;
      sequences = λ n free exp ending. exp_widens below ExpPlace.Sequence ExpPlace.Whole (sequence_wider below) n free (out-Exp exp) ending;
      barred = λ n place exp ending. barred_exp below each.barred n place (out-Exp exp) ending;
      atoms_anywhere = λ n free other exp ending. atom_anywhere below n free other (out-Exp exp) ending;
      locals = λ n decl ending. local_decl below n (out-Decl decl) ending;
    }
