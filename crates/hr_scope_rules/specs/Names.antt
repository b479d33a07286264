-- Names as lexemes spell them: the Haskell 98 Report, sections 2.4 and 5.5.1.
use Rattle.std.specs.Prelude.{ℕ, ◌==◌, if◌then◌else◌, List, [], ◌∷◌, Some, None}
use Rattle.hr_base.specs.declared.bind.Name.{Name}
use Rattle.hr_base.specs.declared.lexeme.Class.{Class}
use Rattle.hr_base.specs.declared.lexeme.Lexeme.{Lexeme}

-- what stands before the first dot, and what stands behind it
abbrev pub before_dot : List ℕ → List ℕ
before_dot [] = []
before_dot (c ∷ cs) = if c == 46 then [] else c ∷ before_dot cs

abbrev pub behind_dot : List ℕ → List ℕ
behind_dot [] = []
behind_dot (c ∷ cs) = if c == 46 then cs else behind_dot cs

abbrev pub plain_name : List ℕ → Name
plain_name text = record { qualifier = None; text = text }

abbrev pub qualified_name : List ℕ → List ℕ → Name
qualified_name qualifier text = record { qualifier = Some qualifier; text = text }

abbrev pub spelled_qualified : List ℕ → Name
spelled_qualified text = qualified_name (before_dot text) (behind_dot text)

-- a qualified name is a module's name, a dot and a name
abbrev pub name_by : Class → List ℕ → Name
name_by Class.QVarId text = spelled_qualified text
name_by Class.QConId text = spelled_qualified text
name_by Class.QVarSym text = spelled_qualified text
name_by Class.QConSym text = spelled_qualified text
name_by _ text = plain_name text

abbrev pub name_of : Lexeme → Name
name_of lexeme = name_by lexeme.class lexeme.text
