-- How a type is written: arrows to the right, arguments behind their constructor, lists, tuples and () in their own
-- brackets (Haskell 98 Report, section 4.1.2), with parentheses only where the grammar needs them.
use Rattle.std.specs.Prelude.{ℕ, ◌-◌, Bool, true, false, not, ◌&&◌, ◌||◌, ◌==◌, nat_eq, nat_lt, if◌then◌else◌, List, [], ◌∷◌, ◌++◌, length, Option, Some, None, is_some, codes, slice_get}
use Rattle.std.specs.List.{list_all, list_any}
use Rattle.std.specs.Cmp.Lexicographic.{pointwise}
use Rattle.hr_base.specs.declared.bind.Entity.{Entity}
use Rattle.hr_base.specs.declared.bind.Name.{Name}
use Rattle.hr_base.specs.declared.bind.Space.{Space}
use Rattle.hr_base.specs.declared.bind.Space.TheVariants.{Value, Constructor, TypeName}
use Rattle.hr_type.specs.declared.mono.Mono.{Mono}
use Rattle.hr_type.specs.declared.mono.Mono.TheOpen.{Mono-F}
use Rattle.hr_type.specs.declared.mono.Mono.TheViews.{out-Mono}
use Rattle.hr_type.specs.declared.spell.TypeScope.{TypeScope}
use Rattle.hr_type.specs.declared.spell.Brackets.{Brackets}
use Rattle.hr_type.specs.declared.spell.Brackets.TheVariants.{Square, Round}
use Rattle.hr_type.specs.Types.{value, same_entity}

-- the types of syntax are entities of Prelude by these texts: (), and the tuples of 2 to 15
abbrev pub round_texts : List (List ℕ)
round_texts =
    codes "()" ∷ codes "(,)" ∷ codes "(,,)" ∷ codes "(,,,)" ∷ codes "(,,,,)" ∷ codes "(,,,,,)" ∷ codes "(,,,,,,)" ∷ codes "(,,,,,,,)"
    ∷ codes "(,,,,,,,,)" ∷ codes "(,,,,,,,,,)" ∷ codes "(,,,,,,,,,,)" ∷ codes "(,,,,,,,,,,,)" ∷ codes "(,,,,,,,,,,,,)"
    ∷ codes "(,,,,,,,,,,,,,)" ∷ codes "(,,,,,,,,,,,,,,)" ∷ []

abbrev pub is_type_name : Space → Bool
is_type_name Value = false
is_type_name Constructor = false
is_type_name TypeName = true

abbrev pub is_prelude_type : Entity → Bool
is_prelude_type e = is_type_name e.space && pointwise nat_eq e.«module» (codes "Prelude")

unfoldable pub brackets_by : List ℕ → Option Brackets
brackets_by text =
    if pointwise nat_eq text (codes "[]") then Some Square
    else (if list_any (λ word. pointwise nat_eq word text) round_texts then Some Round else None)

-- the brackets in which the type of an entity has its arguments, where it is syntax
unfoldable pub brackets_of : Entity → Option Brackets
brackets_of e = if is_prelude_type e then brackets_by e.text else None

-- how many arguments it has: one for a list, none for (), and one more than commas for a tuple
abbrev pub arity_by : ℕ → Brackets → ℕ
arity_by size Square = 1
arity_by size Round = if size == 2 then 0 else size - 1

abbrev pub is_arrow : Entity → Bool
is_arrow e = (is_type_name e.space && pointwise nat_eq e.«module» (codes "Prelude")) && pointwise nat_eq e.text (codes "->")

abbrev pub fits_arity : Entity → ℕ → Option Brackets → Bool
fits_arity e n (Some brackets) = n == arity_by (length e.text) brackets
fits_arity e n None = not (is_arrow e)

-- in the type `->` stands as a function type alone, and lists, tuples and () have their numbers of arguments
abbrev pub has_arities : Mono → Bool
has_arities = value Bool (λ e inner. fits_arity e (length inner) (brackets_of e) && list_all (λ b. b) inner) ◌&&◌ (λ _. true)

-- the same of the outermost layer alone
abbrev pub layer_arity : Mono-F Mono → Bool
layer_arity (Mono-F.Var n) = true
layer_arity (Mono-F.Con e ts) = fits_arity e (length ts) (brackets_of e)
layer_arity (Mono-F.Fun a b) = true

unfoldable pub has_arity : Mono → Bool
has_arity t = layer_arity (out-Mono t)

-- the name that a scope has for an entity, by the first pair with it
abbrev pub name_for : Entity → List (Entity × Name) → Option Name
name_for e [] = None
name_for e (p ∷ ps) = if same_entity e p.0 then Some p.1 else name_for e ps

-- each constructor is syntax or has a name, and each variable has a text
abbrev pub is_spellable : TypeScope → Mono → Bool
is_spellable scope =
    value Bool (λ e inner. (is_some (brackets_of e) || is_some (name_for e scope.names)) && list_all (λ b. b) inner) ◌&&◌
    (λ n. nat_lt n (length scope.variables))

-- the same of the outermost layer alone
abbrev pub layer_spelling : TypeScope → Mono-F Mono → Bool
layer_spelling scope (Mono-F.Var n) = nat_lt n (length scope.variables)
layer_spelling scope (Mono-F.Con e ts) = is_some (brackets_of e) || is_some (name_for e scope.names)
layer_spelling scope (Mono-F.Fun a b) = true

unfoldable pub has_spelling : TypeScope → Mono → Bool
has_spelling scope t = layer_spelling scope (out-Mono t)

-- what a text is made of: lexemes, and single blanks
pub data Piece : Type 0 where
  blank : Piece
  lexeme : List ℕ → Piece

abbrev pub bytes_of : List Piece → List ℕ
bytes_of [] = []
bytes_of (blank ∷ rest) = 32 ∷ bytes_of rest
bytes_of (lexeme text ∷ rest) = text ++ bytes_of rest

abbrev pub lexemes_of : List Piece → List (List ℕ)
lexemes_of [] = []
lexemes_of (blank ∷ rest) = lexemes_of rest
lexemes_of (lexeme text ∷ rest) = text ∷ lexemes_of rest

-- A written type, with its grade: 0 for a function type, 1 for a constructor with arguments, 2 for what stands as an
-- argument.
pub record Written : Type 0 where
  pub grade : ℕ
  pub pieces : List Piece

abbrev pub within : ℕ → Written → List Piece
within least w = if nat_lt w.grade least then lexeme (codes "(") ∷ (w.pieces ++ lexeme (codes ")") ∷ []) else w.pieces

abbrev pub arguments : List Written → List Piece
arguments [] = []
arguments (w ∷ ws) = blank ∷ (within 2 w ++ arguments ws)

abbrev pub listed_rest : List Written → List Piece
listed_rest [] = []
listed_rest (w ∷ ws) = lexeme (codes ",") ∷ blank ∷ (w.pieces ++ listed_rest ws)

abbrev pub listed : List Written → List Piece
listed [] = []
listed (w ∷ ws) = w.pieces ++ listed_rest ws

abbrev pub opening : Brackets → List ℕ
opening Square = codes "["
opening Round = codes "("

abbrev pub closing : Brackets → List ℕ
closing Square = codes "]"
closing Round = codes ")"

abbrev pub dotted : Option (List ℕ) → List ℕ → List ℕ
dotted None text = text
dotted (Some qualifier) text = qualifier ++ 46 ∷ text

abbrev pub name_text : Name → List ℕ
name_text name = dotted name.qualifier name.text

abbrev pub name_pieces : Option Name → List Piece
name_pieces None = []
name_pieces (Some name) = lexeme (name_text name) ∷ []

abbrev pub variable_pieces : Option (List ℕ) → List Piece
variable_pieces None = []
variable_pieces (Some text) = lexeme text ∷ []

abbrev pub applied_grade : {X : Type 0} → List X → ℕ
applied_grade [] = 2
applied_grade (x ∷ xs) = 1

abbrev pub application : TypeScope → Entity → Option Brackets → List Written → Written
application scope e (Some brackets) ws = record { grade = 2; pieces = lexeme (opening brackets) ∷ (listed ws ++ lexeme (closing brackets) ∷ []) }
application scope e None ws = record { grade = applied_grade ws; pieces = name_pieces (name_for e scope.names) ++ arguments ws }

abbrev pub arrow : Written → Written → Written
arrow a b = record { grade = 0; pieces = within 1 a ++ blank ∷ lexeme (codes "->") ∷ blank ∷ b.pieces }

-- a type as it is written in a scope
abbrev pub written : TypeScope → Mono → Written
written scope =
    value Written (λ e ws. application scope e (brackets_of e) ws) arrow
    (λ n. record { grade = 2; pieces = variable_pieces (slice_get scope.variables n) })
