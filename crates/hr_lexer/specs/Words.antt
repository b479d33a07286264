-- Texts that are one lexeme, and lexemes that stand side by side (Haskell 98 Report, sections 2.2 and 2.4).
use Rattle.std.specs.Prelude.{◌≡◌, ℕ, Bool, true, false, List, [], ◌∷◌, ◌++◌, Option, Some, None}
use Rattle.hr_base.specs.declared.lexeme.Class.{Class}
use Rattle.hr_base.specs.declared.lexeme.Item.{Item}
use Rattle.hr_base.specs.declared.lexeme.Items.{Items}
use Rattle.hr_rules.specs.Lexemes.{class_of, LexesText}

-- a test has told whether this is so
abbrev pub Tells : Bool → Type 0 → Type 0
Tells true P = P
Tells false P = ¬ P

-- the text is a variable identifier
abbrev pub IsVarId : List ℕ → Type 0
IsVarId text = class_of text [] ≡ Some Class.VarId

-- the two texts, one directly behind the other, are read as two lexemes, the first text and the second
abbrev pub AreApart : List ℕ → List ℕ → Type 0
AreApart before text =
    (class other : Class) × LexesText (before ++ text)
    (record {
      list = record { trivia = []; lexeme = record { class = class; text = before } }
          ∷ record { trivia = []; lexeme = record { class = other; text = text } } ∷ [];
      tail = [];
    })

-- these are the items of the text, if it has any
abbrev pub HasItems : List ℕ → Option Items → Type 0
HasItems text (Some items) = LexesText text items
HasItems text None = (items : Items) → ¬ (LexesText text items)

-- the only lexeme is a variable identifier of this text
abbrev pub IsOneVarId : List Item → List ℕ → Type 0
IsOneVarId (only ∷ []) text = (only.lexeme.class ≡ Class.VarId) × (only.lexeme.text ≡ text)
IsOneVarId _ text = ⊥

-- the lexemes are two of these texts
abbrev pub AreLexemes : List Item → List ℕ → List ℕ → Type 0
AreLexemes (first ∷ second ∷ []) before text = (first.lexeme.text ≡ before) × (second.lexeme.text ≡ text)
AreLexemes _ before text = ⊥
