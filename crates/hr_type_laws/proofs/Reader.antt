-- A reader of types: the type that lexemes begin with, and those that are left. It goes no deeper than its first
-- argument says.
use Rattle.std.proofs.Common.{ℕ, zero, suc, cond, List, [], ◌∷◌, length, codes, Option, Some, None}
use Rattle.std.specs.Prelude.{◌==◌}
use Rattle.std.specs.Str.{bytes_eq}
use Rattle.hr_base.specs.declared.bind.Entity.{Entity}
use Rattle.hr_base.specs.declared.bind.Space.TheVariants.{TypeName}
use Rattle.hr_type.specs.declared.mono.Mono.{Mono}
use Rattle.hr_type.specs.declared.mono.Mono.TheVariants.{Var, Con, Fun}
use Rattle.hr_type.specs.declared.spell.TypeScope.{TypeScope}
use Rattle.hr_type.specs.declared.spell.Brackets.TheVariants.{Round}
use Rattle.hr_type.specs.Spelling.{round_texts, arity_by}
use Rattle.hr_type_laws.proofs.Found.{variable_of, entity_of}

abbrev pub Lexemes : Type 0
Lexemes = List (List ℕ)

abbrev pub One : Type 0
One = Option (Mono × Lexemes)

abbrev pub Many : Type 0
Many = Option (List Mono × Lexemes)

-- ---- the constructors of lists, tuples and ()
abbrev pub prelude_type : List ℕ → Entity
prelude_type text = record { «module» = codes "Prelude"; space = TypeName; text = text }

abbrev pub text_by : List (List ℕ) → ℕ → List ℕ
text_by [] n = []
text_by (text ∷ texts) n = cond (arity_by (length text) Round == n) text (text_by texts n)

abbrev pub round_of : ℕ → Entity
round_of n = prelude_type (text_by round_texts n)

abbrev pub in_round : List Mono → Mono
in_round [] = Con (round_of 0) []
in_round (t ∷ []) = t
in_round (t ∷ u ∷ ts) = Con (round_of (length (t ∷ u ∷ ts))) (t ∷ u ∷ ts)

-- ---- types behind one another
abbrev pub with_first : Mono → Many → Many
with_first t None = None
with_first t (Some (ts, rest)) = Some (t ∷ ts, rest)

abbrev pub listed_next : (Lexemes → Many) → List ℕ → One → Many
listed_next more closing None = None
listed_next more closing (Some (t, [])) = None
listed_next more closing (Some (t, x ∷ rest)) =
    cond (bytes_eq x (codes ",")) (with_first t (more rest)) (cond (bytes_eq x closing) (Some (t ∷ [], rest)) None)

-- a type and those behind commas, up to the closing bracket: no more than so many
abbrev pub listed_by : (Lexemes → One) → List ℕ → ℕ → Lexemes → Many
listed_by inner closing zero ts = None
listed_by inner closing (suc k) ts = listed_next (listed_by inner closing k) closing (inner ts)

abbrev pub arguments_next : (Lexemes → List Mono × Lexemes) → Lexemes → One → List Mono × Lexemes
arguments_next more ts None = ([], ts)
arguments_next more ts (Some (t, rest)) = (t ∷ (more rest).0, (more rest).1)

-- arguments, as many as there are: no more than so many
abbrev pub arguments_by : (Lexemes → One) → ℕ → Lexemes → List Mono × Lexemes
arguments_by atom zero ts = ([], ts)
arguments_by atom (suc k) ts = arguments_next (arguments_by atom k) ts (atom ts)

-- ---- what brackets enclose
abbrev pub rounded : Many → Lexemes → One
rounded None [] = None
rounded None (x ∷ rest) = cond (bytes_eq x (codes ")")) (Some (in_round [], rest)) None
rounded (Some (ts, left)) rest = Some (in_round ts, left)

abbrev pub squared : Many → One
squared None = None
squared (Some (ts, left)) = Some (Con (prelude_type (codes "[]")) ts, left)

abbrev pub bracketed : (Lexemes → One) → List ℕ → Lexemes → One
bracketed inner x rest =
    cond (bytes_eq x (codes "(")) (rounded (listed_by inner (codes ")") (length rest) rest) rest)
    (cond (bytes_eq x (codes "[")) (squared (listed_by inner (codes "]") (length rest) rest)) None)

abbrev pub atom_at : (Lexemes → One) → List ℕ → Lexemes → Option ℕ → Option Entity → One
atom_at inner x rest (Some n) e = Some (Var n, rest)
atom_at inner x rest None (Some e) = Some (Con e [], rest)
atom_at inner x rest None None = bracketed inner x rest

abbrev pub applied_to : Entity → List Mono × Lexemes → One
applied_to e q = Some (Con e q.0, q.1)

abbrev pub function_to : Mono → One → One
function_to t None = None
function_to t (Some (u, rest)) = Some (Fun t u, rest)

abbrev pub arrow_by : (Lexemes → One) → One → One
arrow_by inner None = None
arrow_by inner (Some (t, [])) = Some (t, [])
arrow_by inner (Some (t, x ∷ rest)) = cond (bytes_eq x (codes "->")) (function_to t (inner rest)) (Some (t, x ∷ rest))

module _ (scope : TypeScope) where
  -- what stands as an argument
  abbrev pub atom_by : (Lexemes → One) → Lexemes → One
  atom_by inner [] = None
  atom_by inner (x ∷ rest) = atom_at inner x rest (variable_of scope x) (entity_of scope x)

  abbrev pub head_by : (Lexemes → One) → List ℕ → Lexemes → Option Entity → One
  head_by inner x rest (Some e) = applied_to e (arguments_by (atom_by inner) (length rest) rest)
  head_by inner x rest None = atom_by inner (x ∷ rest)

  -- what stands before an arrow
  abbrev pub operand_by : (Lexemes → One) → Lexemes → One
  operand_by inner [] = None
  operand_by inner (x ∷ rest) = head_by inner x rest (entity_of scope x)

  abbrev pub type_at : ℕ → Lexemes → One
  type_at zero ts = None
  type_at (suc d) ts = arrow_by (type_at d) (operand_by (type_at d) ts)
