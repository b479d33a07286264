-- The scopes in which a text has one reading as a type.
use Rattle.std.specs.Prelude.{◌≡◌, ◌⊎◌, ℕ, Bool, false, List, [], ◌∷◌, Some, codes, slice_get}
use Rattle.std.specs.List.{list_any}
use Rattle.std.specs.Str.{bytes_eq}
use Rattle.hr_base.specs.declared.bind.Entity.{Entity}
use Rattle.hr_base.specs.declared.bind.Name.{Name}
use Rattle.hr_base.specs.declared.lexeme.Class.{Class}
use Rattle.hr_rules.specs.Lexemes.{class_of}
use Rattle.hr_type.specs.declared.spell.TypeScope.{TypeScope}
use Rattle.hr_type.specs.Spelling.{name_for, name_text}

-- the brackets, the comma and the arrow of types
abbrev pub marks : List (List ℕ)
marks = codes "(" ∷ codes ")" ∷ codes "[" ∷ codes "]" ∷ codes "," ∷ codes "->" ∷ []

abbrev pub is_mark : List ℕ → Bool
is_mark text = list_any (λ mark. bytes_eq mark text) marks

abbrev pub HasVariable : TypeScope → ℕ → List ℕ → Type 0
HasVariable scope n text = slice_get scope.variables n ≡ Some text

abbrev pub HasName : TypeScope → Entity → Name → Type 0
HasName scope e name = name_for e scope.names ≡ Some name

-- no two variables have one text
abbrev pub OneTextEach : TypeScope → Type 0
OneTextEach scope = (n m : ℕ) (text : List ℕ) → HasVariable scope n text → HasVariable scope m text → n ≡ m

-- no two constructors share a spelling
abbrev pub OneSpellingEach : TypeScope → Type 0
OneSpellingEach scope =
    (e f : Entity) (name other : Name) → HasName scope e name → HasName scope f other → name_text name ≡ name_text other → e ≡ f

-- no two variables have one text and no two constructors one spelling, and a text is a variable's, a constructor's or
-- a mark's alone
pub record TellsApart (scope : TypeScope) : Type 0 where
  pub variables : OneTextEach scope
  pub names : OneSpellingEach scope
  pub apart : (n : ℕ) (e : Entity) (name : Name) → HasVariable scope n (name_text name) → HasName scope e name → ⊥
  pub variable_no_mark : (n : ℕ) (text : List ℕ) → HasVariable scope n text → is_mark text ≡ false
  pub name_no_mark : (e : Entity) (name : Name) → HasName scope e name → is_mark (name_text name) ≡ false

-- a conid or a qualified conid (Haskell 98 Report, section 2.4)
abbrev pub IsConid : List ℕ → Type 0
IsConid text = (class_of text [] ≡ Some Class.ConId) ⊎ (class_of text [] ≡ Some Class.QConId)

-- A scope in which types are printed: its variables are distinct variable identifiers, its names are conids, and no two
-- constructors share a spelling.
pub record IsTypeScope (scope : TypeScope) : Type 0 where
  pub variables : (n : ℕ) (text : List ℕ) → HasVariable scope n text → class_of text [] ≡ Some Class.VarId
  pub distinct : OneTextEach scope
  pub names : (e : Entity) (name : Name) → HasName scope e name → IsConid (name_text name)
  pub spelled_once : OneSpellingEach scope
