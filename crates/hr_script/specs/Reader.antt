-- A reader of lines: what `parse_script` computes of each.
use Rattle.std.specs.Prelude.{ℕ, Bool, ◌&&◌, List, [], ◌∷◌, Option, Some, None}
use Rattle.std.specs.List.{find}
use Rattle.std.specs.Str.{bytes_eq}
use Rattle.std.specs.Option.{option_map, option_and_then}
use Rattle.hr_base.specs.declared.place.Pos.{Pos}
use Rattle.hr_script.specs.declared.command.Command.{Command}
use Rattle.hr_script.specs.declared.command.Command.TheVariants.{Rename, AddParameter, RemoveParameter, LiftOne, LiftTop, Demote, Generalise, Move, Abstract, Undo}
use Rattle.hr_script.specs.declared.command.Verb.{Verb}
use Rattle.hr_script.specs.declared.command.Verb.TheVariants as verb
use Rattle.hr_script.specs.Texts.{is_module_name, is_word}
use Rattle.hr_script.specs.Language.{is_built, verb_word}
use Rattle.hr_script.specs.Numbers.{when, number_in, position_in}

abbrev pub verbs : List Verb
verbs = verb.Rename ∷ verb.AddParameter ∷ verb.RemoveParameter ∷ verb.LiftOne ∷ verb.LiftTop
    ∷ verb.Demote ∷ verb.Generalise ∷ verb.Move ∷ verb.Abstract ∷ verb.Undo ∷ []

abbrev pub has_word : List ℕ → Verb → Bool
has_word word v = bytes_eq (verb_word v) word

abbrev pub verb_named : List ℕ → Option Verb
verb_named word = find (has_word word) verbs

-- a module's name and a position
unfoldable pub spot_of : List ℕ → List ℕ → Option (List ℕ × Pos)
spot_of m place = when (is_module_name m) (option_map (λ pos. (m, pos)) (position_in place))

abbrev pub at_spot : Option Verb → List ℕ × Pos → Option Command
at_spot (Some verb.LiftOne) s = Some (LiftOne s.0 s.1)
at_spot (Some verb.LiftTop) s = Some (LiftTop s.0 s.1)
at_spot (Some verb.Demote) s = Some (Demote s.0 s.1)
at_spot _ s = None

unfoldable pub of_two : Option Verb → List ℕ → List ℕ → Option Command
of_two (Some verb.Abstract) m t = when (is_module_name m && is_word t) (Some (Abstract m t))
of_two v m place = option_and_then (at_spot v) (spot_of m place)

abbrev pub with_text : Option Verb → List ℕ → List ℕ × Pos → Option Command
with_text (Some verb.Rename) n s = when (is_word n) (Some (Rename s.0 s.1 n))
with_text (Some verb.AddParameter) n s = when (is_word n) (Some (AddParameter s.0 s.1 n))
with_text (Some verb.Generalise) n s = when (is_word n) (Some (Generalise s.0 s.1 n))
with_text (Some verb.RemoveParameter) n s = option_map (RemoveParameter s.0 s.1) (number_in n)
with_text _ n s = None

unfoldable pub of_three : Option Verb → List ℕ → List ℕ → List ℕ → Option Command
of_three (Some verb.Move) a n b = when (is_module_name a && (is_word n && is_module_name b)) (Some (Move a n b))
of_three v m place n = option_and_then (with_text v n) (spot_of m place)

abbrev pub without_words : Option Verb → Option Command
without_words (Some verb.Undo) = Some Undo
without_words _ = None

-- the command that the words are
unfoldable pub command_in : List (List ℕ) → Option Command
command_in (v ∷ []) = without_words (verb_named v)
command_in (v ∷ m ∷ t ∷ []) = of_two (verb_named v) m t
command_in (v ∷ m ∷ t ∷ n ∷ []) = of_three (verb_named v) m t n
command_in _ = None

-- a command that is built
abbrev pub when_built : Option Command → Option Command
when_built None = None
when_built (Some c) = when (is_built c) (Some c)
