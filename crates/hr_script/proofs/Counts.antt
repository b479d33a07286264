-- A command has one, three or four words.
use Rattle.std.proofs.Common.{◌≡◌, ℕ, ◌<◌, ◌≤◌, List, [], ◌∷◌, length, map, Option, None, refl, arith}
use Rattle.hr_script.specs.declared.command.Command.{Command}
use Rattle.hr_script.specs.Reader.{command_in}

pub two_are_none : {A : Type 0} (f : A → List ℕ) (words : List A) → 2 ≤ length words → length words < 3 → ◌≡◌ {A = Option Command} None (command_in (map f words))
unfolding command_in
two_are_none f [] some few = absurd (omega arith)
two_are_none f (a ∷ []) some few = absurd (omega arith)
two_are_none f (a ∷ b ∷ []) some few = refl
two_are_none f (a ∷ b ∷ c ∷ words) some few = absurd (omega arith)

pub five_are_none : {A : Type 0} (f : A → List ℕ) (words : List A) → 5 ≤ length words → ◌≡◌ {A = Option Command} None (command_in (map f words))
unfolding command_in
five_are_none f [] some = absurd (omega arith)
five_are_none f (a ∷ []) some = absurd (omega arith)
five_are_none f (a ∷ b ∷ []) some = absurd (omega arith)
five_are_none f (a ∷ b ∷ c ∷ []) some = absurd (omega arith)
five_are_none f (a ∷ b ∷ c ∷ d ∷ []) some = absurd (omega arith)
five_are_none f (a ∷ b ∷ c ∷ d ∷ e ∷ words) some = refl
