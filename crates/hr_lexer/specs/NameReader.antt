-- What is read where a name or an operator begins: its class and how many characters it has.
use Rattle.std.specs.Prelude.{ℕ, ◌+◌, ◌==◌, if◌then◌else◌, List, [], ◌∷◌, Option, Some, None, take, drop}
use Rattle.std.specs.List.{prefix_len}
use Rattle.hr_base.specs.declared.lexeme.Class.{Class}
use Rattle.hr_rules.specs.declared.character.Kind.{Kind}
use Rattle.hr_rules.specs.Letters.{kind_of, is_in_name, is_symbol}
use Rattle.hr_rules.specs.Names.{word_class}
use Rattle.hr_rules.specs.Operators.{is_dashes, run_class}
use Rattle.hr_lexer.specs.declared.taken.Taken.{Taken}

abbrev pub word_at : List ℕ → Taken
word_at text =
    let n = prefix_len is_in_name text in
    record { class = word_class (take n text); len = n }

abbrev pub symbols_at : List ℕ → Option Taken
symbols_at text =
    let n = prefix_len is_symbol text in
    if is_dashes (take n text) then None else Some (record { class = run_class (take n text); len = n })

abbrev pub name_at_by : Kind → List ℕ → Option Taken
name_at_by Kind.Small text = Some (word_at text)
name_at_by Kind.Large text = Some (record { class = Class.ConId; len = prefix_len is_in_name text })
name_at_by Kind.Symbol text = symbols_at text
name_at_by _ text = None

-- a name without a qualifier
abbrev pub name_at : List ℕ → Option Taken
name_at [] = None
name_at (c ∷ rest) = name_at_by (kind_of c) (c ∷ rest)

-- the name behind a dot
abbrev pub behind_dot : List ℕ → Option Taken
behind_dot [] = None
behind_dot (c ∷ rest) = if c == 46 then name_at rest else None

abbrev pub with_qualifier_by : Class → ℕ → ℕ → Option Taken
with_qualifier_by Class.VarId n m = Some (record { class = Class.QVarId; len = n + 1 + m })
with_qualifier_by Class.ConId n m = Some (record { class = Class.QConId; len = n + 1 + m })
with_qualifier_by Class.VarSym n m = Some (record { class = Class.QVarSym; len = n + 1 + m })
with_qualifier_by Class.ConSym n m = Some (record { class = Class.QConSym; len = n + 1 + m })
with_qualifier_by Class.ReservedId n m = None
with_qualifier_by _ n m = Some (record { class = Class.ConId; len = n })

-- a conid of n characters, and what is behind its dot: none where that is a reserved word
abbrev pub with_qualifier : ℕ → Option Taken → Option Taken
with_qualifier n None = Some (record { class = Class.ConId; len = n })
with_qualifier n (Some taken) = with_qualifier_by taken.class n taken.len

abbrev pub conid_at : List ℕ → Option Taken
conid_at text = let n = prefix_len is_in_name text in with_qualifier n (behind_dot (drop n text))
