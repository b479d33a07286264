-- What is so of every text, and of every renaming in a text of the plain form.
use Rattle.std.specs.Prelude.{◌≢◌, ℕ, ◌⊎◌, List, None}
use Rattle.hr_base.specs.declared.place.Pos.{Pos}
use Rattle.hr_lexer.specs.declared.error.LexError.{LexError}
use Rattle.hr_lexer.specs.Refusals.{IsCause}
use Rattle.hr_plain_tree.specs.declared.tree.Module.{Module}
use Rattle.hr_plain.specs.declared.loading.LoadError.{LoadError}
use Rattle.hr_plain.specs.declared.renaming.Why.{Why}
use Rattle.hr_plain.specs.Form.{IsPlain}
use Rattle.hr_plain.specs.Refusals.{IsLoadRefusal}
use Rattle.hr_plain.specs.Renaming.{IsRenamed, IsWhy, number_of}

-- a text has a tree of the form; or there is a cause for which the lexer refuses it; or it has items and no tree
abbrev pub PlainOrRefused : Type 0
PlainOrRefused =
    (bytes : List ℕ) → ((tree : Module) × IsPlain bytes tree) ⊎ (((error : LexError) × IsCause bytes error) ⊎ IsLoadRefusal bytes (LoadError.OutsideForm 0))

-- in such a tree each renaming has a text that it writes, or there is a numbered reason why it is refused
abbrev pub RenamedOrRefused : Type 0
RenamedOrRefused =
    (bytes : List ℕ) (tree : Module) → IsPlain bytes tree → (module_name : List ℕ) (pos : Pos) (new : List ℕ)
    → ((text : List ℕ) × IsRenamed tree module_name pos new text) ⊎ ((why : Why) × IsWhy tree module_name pos new why × (number_of why ≢ None))
