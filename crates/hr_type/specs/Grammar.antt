-- Types as texts over lexemes, graded as in the Haskell 98 Report, section 4.1.2: 0 for type, 1 for btype, 2 for atype.
use Rattle.std.specs.Prelude.{◌≡◌, ℕ, suc, true, List, [], ◌∷◌, ◌++◌, length, Some, None, codes, slice_get}
use Rattle.hr_base.specs.declared.bind.Entity.{Entity}
use Rattle.hr_base.specs.declared.bind.Name.{Name}
use Rattle.hr_type.specs.declared.mono.Mono.{Mono}
use Rattle.hr_type.specs.declared.mono.Mono.TheVariants.{Var, Con, Fun}
use Rattle.hr_type.specs.declared.spell.TypeScope.{TypeScope}
use Rattle.hr_type.specs.declared.spell.Brackets.{Brackets}
use Rattle.hr_type.specs.Spelling.{brackets_of, arity_by, name_for, name_text, opening, closing, is_spellable, written, bytes_of, lexemes_of}

mutual
  -- in a scope, the lexemes read as the type, at a grade
  pub data ReadsType (scope : TypeScope) : ℕ → List (List ℕ) → Mono → Type 0 where
    variable : (n : ℕ) (text : List ℕ) → slice_get scope.variables n ≡ Some text → ReadsType scope 2 (text ∷ []) (Var n)
    constructor : (e : Entity) (name : Name) → brackets_of e ≡ None → name_for e scope.names ≡ Some name → ReadsType scope 2 (name_text name ∷ []) (Con e [])
    enclosed : (e : Entity) (brackets : Brackets) (xs : List (List ℕ)) (ts : List Mono) → brackets_of e ≡ Some brackets → length ts ≡ arity_by (length e.text) brackets
        → Lists scope xs ts → ReadsType scope 2 (opening brackets ∷ (xs ++ closing brackets ∷ [])) (Con e ts)
    parenthesised : (xs : List (List ℕ)) (t : Mono) → ReadsType scope 0 xs t → ReadsType scope 2 (codes "(" ∷ (xs ++ codes ")" ∷ [])) t
    applied : (e : Entity) (name : Name) (xs : List (List ℕ)) (t : Mono) (ts : List Mono) → brackets_of e ≡ None → name_for e scope.names ≡ Some name → Arguments scope xs (t ∷ ts)
        → ReadsType scope 1 (name_text name ∷ xs) (Con e (t ∷ ts))
    arrow : (xs ys : List (List ℕ)) (a b : Mono) → ReadsType scope 1 xs a → ReadsType scope 0 ys b → ReadsType scope 0 (xs ++ codes "->" ∷ ys) (Fun a b)
    lower : (g : ℕ) (xs : List (List ℕ)) (t : Mono) → ReadsType scope (suc g) xs t → ReadsType scope g xs t

  -- the lexemes of arguments, one after another
  pub data Arguments (scope : TypeScope) : List (List ℕ) → List Mono → Type 0 where
    no_more : Arguments scope [] []
    one_more : (xs ys : List (List ℕ)) (t : Mono) (ts : List Mono) → ReadsType scope 2 xs t → Arguments scope ys ts → Arguments scope (xs ++ ys) (t ∷ ts)

  -- the lexemes of types with a comma between each two
  pub data Lists (scope : TypeScope) : List (List ℕ) → List Mono → Type 0 where
    nothing : Lists scope [] []
    first : (xs ys : List (List ℕ)) (t : Mono) (ts : List Mono) → ReadsType scope 0 xs t → Follows scope ys ts → Lists scope (xs ++ ys) (t ∷ ts)

  pub data Follows (scope : TypeScope) : List (List ℕ) → List Mono → Type 0 where
    ends : Follows scope [] []
    comma : (xs ys : List (List ℕ)) (t : Mono) (ts : List Mono) → ReadsType scope 0 xs t → Follows scope ys ts → Follows scope (codes "," ∷ (xs ++ ys)) (t ∷ ts)

-- What is written for a type: each of its constructors and variables has a name, the text is exactly this, and its
-- lexemes read as the type.
pub record Spells (scope : TypeScope) (ty : Mono) (bytes : List ℕ) : Type 0 where
  pub named : is_spellable scope ty ≡ true
  pub text : bytes ≡ bytes_of (written scope ty).pieces
  pub reads : ReadsType scope 0 (lexemes_of (written scope ty).pieces) ty
