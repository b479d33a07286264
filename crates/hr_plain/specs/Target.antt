-- The target of a renaming: the lexemes of the module, the marked ones with the new text; what stands
-- between lexemes stays, but for one blank where two of them would be read as one.
use Rattle.std.specs.Prelude.{◌≡◌, ℕ, Bool, true, false, List, [], ◌∷◌}
use Rattle.hr_base.specs.declared.lexeme.Item.{Item}
use Rattle.hr_base.specs.declared.lexeme.Items.{Items}
use Rattle.hr_lexer.specs.Words.{AreApart}

-- what stands before the new text of a lexeme, behind a lexeme of this text: what stood there; but one blank
-- (32) where that was nothing and the two would not be read apart. Before the first lexeme there is none.
pub data IsParted (new : List ℕ) : List ℕ → List ℕ → List ℕ → Type 0 where
  first : (old : List ℕ) → IsParted new [] old old
  kept : (before : List ℕ) (c : ℕ) (old : List ℕ) → IsParted new before (c ∷ old) (c ∷ old)
  apart : (before : List ℕ) → AreApart before new → IsParted new before [] []
  put : (c : ℕ) (before : List ℕ) → ¬ (AreApart (c ∷ before) new) → IsParted new (c ∷ before) [] (32 ∷ [])

-- an item of the target and the one that it comes from, behind a lexeme of this text
abbrev pub Respells : List ℕ → Bool → List ℕ → Item → Item → Type 0
Respells new false before old item = item ≡ old
Respells new true before old item =
    (item.lexeme ≡ record { class = old.lexeme.class; text = new }) × IsParted new before old.trivia item.trivia

-- the same of lists of items, one by one, behind a lexeme of this text
pub data AllRespell (new : List ℕ) : List ℕ → List Bool → List Item → List Item → Type 0 where
  none : (before : List ℕ) → AllRespell new before [] [] []
  more : (before : List ℕ) (mark : Bool) (marks : List Bool) (old item : Item) (olds items : List Item)
      → Respells new mark before old item → AllRespell new item.lexeme.text marks olds items
      → AllRespell new before (mark ∷ marks) (old ∷ olds) (item ∷ items)

-- and of a whole module; what is behind the last item stays
pub record RespellsAll (new : List ℕ) (marks : List Bool) (old items : Items) : Type 0 where
  pub lexemes : AllRespell new [] marks old.list items.list
  pub tail_stays : items.tail ≡ old.tail
