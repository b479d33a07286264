-- Qualified names: the Haskell 98 Report, section 2.4. A conid, a dot and a name, with nothing between.
use Rattle.std.specs.Prelude.{ℕ, Bool, false, ◌&&◌, ◌==◌, if◌then◌else◌, List, [], ◌∷◌, Option, Some, None, take}
use Rattle.std.specs.List.{prefix_len}
use Rattle.hr_base.specs.declared.lexeme.Class.{Class}
use Rattle.hr_rules.specs.declared.character.Kind.{Kind}
use Rattle.hr_rules.specs.Letters.{kind_of, is_in_name}
use Rattle.hr_rules.specs.Runs.{ends_run}
use Rattle.hr_rules.specs.Names.{small_class, large_class, is_reserved_word}
use Rattle.hr_rules.specs.Operators.{symbol_class}

-- the class that a name has with a qualifier before it: none where its word or operator is reserved
abbrev pub qualified : Option Class → Option Class
qualified (Some Class.VarId) = Some Class.QVarId
qualified (Some Class.ConId) = Some Class.QConId
qualified (Some Class.VarSym) = Some Class.QVarSym
qualified (Some Class.ConSym) = Some Class.QConSym
qualified _ = None

-- a name without a qualifier, by the kind of its first character
abbrev pub name_class_by : Kind → ℕ → List ℕ → List ℕ → Option Class
name_class_by Kind.Small c rest after = small_class c rest after
name_class_by Kind.Large c rest after = large_class rest after
name_class_by Kind.Symbol c rest after = symbol_class c rest after
name_class_by _ c rest after = None

abbrev pub name_class : List ℕ → List ℕ → Option Class
name_class [] after = None
name_class (c ∷ rest) after = name_class_by (kind_of c) c rest after

-- a conid or a qualified name, behind its large letter
abbrev pub conid_class : List ℕ → List ℕ → Option Class
conid_class [] after = if ends_run is_in_name after then Some Class.ConId else None
conid_class (c ∷ rest) after =
    if is_in_name c then conid_class rest after
    else (if c == 46 then qualified (name_class rest after) else None)

-- behind a large letter: a conid's end, a dot, and a whole word that is reserved
abbrev pub qualifies_reserved : List ℕ → Bool
qualifies_reserved [] = false
qualifies_reserved (c ∷ rest) =
    if is_in_name c then qualifies_reserved rest
    else c == 46 && is_reserved_word (take (prefix_len is_in_name rest) rest)
