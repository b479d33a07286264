-- The room that is kept for the report of a replace that failed is enough.
use Rattle.std.proofs.Common.{◌≡◌, ℕ, ◌+◌, ◌≤◌, ◌<◌, List, [], ◌∷◌, ◌++◌, length, map, take, drop, get_or, suc, zero, Option, arith, refl, sym, ap, ◌∙◌}
use Rattle.std.proofs.lemmas.List.{at_drop_more, length-append}
use Rattle.std.specs.Prelude.{codes}
use Rattle.hr_shelf.specs.Outside.{Files}
use Rattle.hr_files.specs.Replaced.{name_of}
use Rattle.hr_files.specs.RolledBack.{RollsBack, backs}
use Rattle.hr_files.specs.RolledBack.RollsBack.{back, nothing, stays}
use Rattle.hr_files.specs.declared.replacing.Change.{Change}
use Rattle.hare.specs.Report.{back_lines, line, stayed_line, stayed_lines, write_fault, write_line}
use Rattle.hare.specs.Rooms.{longest, longest_lines}

-- the files of changes back are those of the changes
pub same_names : (names olds : List (List ℕ)) (changes : List Change) → map (λ change. name_of names change) (backs olds changes) ≡ map (λ change. name_of names change) changes
same_names names olds [] = refl
same_names names olds (change ∷ changes) = ap (λ list. name_of names change ∷ list) (same_names names olds changes)

module _ (names : List (List ℕ)) where
  abbrev name : ℕ → List ℕ
  name file = get_or names file []

  abbrev named : List Change → List (List ℕ)
  named changes = map (λ change. name_of names change) changes

  two_parts : (a b : List ℕ) → length (a ++ b) ≡ length a + length b
  two_parts a b = length-append a b

  one_more_line : (front : List Change) (change : Change) → length (stayed_lines (named (front ++ change ∷ []))) ≡ length (stayed_lines (named front)) + length (stayed_line (name_of names change))
  one_more_line [] change =
      let parts = two_parts (stayed_line (name_of names change)) [] in
      omega (arith, parts)
  one_more_line (first ∷ front) change =
      let rest = one_more_line front change in
      let whole = two_parts (stayed_line (name_of names first)) (stayed_lines (named (front ++ change ∷ []))) in
      let before = two_parts (stayed_line (name_of names first)) (stayed_lines (named front)) in
      omega (arith, rest, whole, before)

  -- those that stayed are some of those that were tried
  some_of_them : (told after : Option Files) (all : List Change) (stayed : List ℕ) → RollsBack names told all stayed after
      → length (stayed_lines (map name stayed)) ≤ length (stayed_lines (named all))
  some_of_them told after all stayed (nothing t) = omega arith
  some_of_them told after all stayed (back t u every front change kept is rolls) =
      let rest = some_of_them _ after front stayed rolls in
      let more : length (stayed_lines (named all)) ≡ length (stayed_lines (named front)) + length (stayed_line (name_of names change)) =
      ap (λ list. length (stayed_lines (named list))) is ∙ one_more_line front change in
      omega (arith, rest, more)
  some_of_them told after all stayed (stays t u every front change kept is rolls) =
      let rest = some_of_them _ after front kept rolls in
      let more : length (stayed_lines (named all)) ≡ length (stayed_lines (named front)) + length (stayed_line (name_of names change)) =
      ap (λ list. length (stayed_lines (named list))) is ∙ one_more_line front change in
      let head = two_parts (stayed_line (name change.file)) (stayed_lines (map name kept)) in
      omega (arith, rest, more, head)

  -- the refused one, and those before it
  refused_and_before : (changes : List Change) (refused : ℕ) → refused < length changes
      → length (write_line (get_or (named changes) refused [])) + length (stayed_lines (named (take refused changes))) ≤ length (longest_lines (named changes))
  refused_and_before [] refused within = absurd (omega (arith, within))
  refused_and_before (change ∷ changes) zero within =
      let whole = two_parts (write_line (name_of names change) ++ stayed_line (name_of names change)) (longest_lines (named changes)) in
      let both = two_parts (write_line (name_of names change)) (stayed_line (name_of names change)) in
      omega (arith, whole, both)
  refused_and_before (change ∷ changes) (suc refused) within =
      let rest = refused_and_before changes refused (omega (arith, within)) in
      let whole = two_parts (write_line (name_of names change) ++ stayed_line (name_of names change)) (longest_lines (named changes)) in
      let both = two_parts (write_line (name_of names change)) (stayed_line (name_of names change)) in
      let before = two_parts (stayed_line (name_of names change)) (stayed_lines (named (take refused changes))) in
      omega (arith, rest, whole, both, before)

  last_lines : (files : List (List ℕ)) → length (back_lines files) ≤ length (line (codes "rolled back")) + length (stayed_lines files)
  last_lines [] = omega arith
  last_lines (file ∷ files) = omega arith

  refused_name : (changes : List Change) (refused : ℕ) → refused < length changes
      → name (get_or (map (λ change. change.file) changes) refused 0) ≡ get_or (named changes) refused []
  refused_name [] refused within = absurd (omega (arith, within))
  refused_name (change ∷ changes) zero within = refl
  refused_name (change ∷ changes) (suc refused) within = refused_name changes refused (omega (arith, within))

  pub room_enough : (changes : List Change) (refused : ℕ) (told after : Option Files) (stayed : List ℕ) → refused < length changes
      → RollsBack names told (take refused changes) stayed after
      → length (write_fault (name (get_or (map (λ change. change.file) changes) refused 0)) (map name stayed)) ≤ length (longest (named changes))
  room_enough changes refused told after stayed within rolls =
      let file = name (get_or (map (λ change. change.file) changes) refused 0) in
      let whole = two_parts (write_line file) (back_lines (map name stayed)) in
      let ends = last_lines (map name stayed) in
      let some = some_of_them told after (take refused changes) stayed rolls in
      let most = refused_and_before changes refused within in
      let same : length (write_line file) ≡ length (write_line (get_or (named changes) refused [])) = ap (λ n. length (write_line n)) (refused_name changes refused within) in
      let all = two_parts (line (codes "rolled back")) (longest_lines (named changes)) in
      omega (arith, whole, ends, some, most, same, all)

  -- the line of the next file, and those behind it
  pub next_line : (stayed : List ℕ) (i file : ℕ) → i < length stayed → file ≡ get_or stayed i 0
      → stayed_lines (map name (drop i stayed)) ≡ stayed_line (name file) ++ stayed_lines (map name (drop (i + 1) stayed))
  next_line stayed i file within is =
      at_drop_more (λ left. stayed_lines (map name left)) stayed i 0 within
      ∙ ap (λ f. stayed_line (name f) ++ stayed_lines (map name (drop (i + 1) stayed))) (sym is)

  pub next_length : (stayed : List ℕ) (i file : ℕ) → i < length stayed → file ≡ get_or stayed i 0
      → length (stayed_lines (map name (drop i stayed))) ≡ length (stayed_line (name file)) + length (stayed_lines (map name (drop (i + 1) stayed)))
  next_length stayed i file within is =
      ap length (next_line stayed i file within is) ∙ two_parts (stayed_line (name file)) (stayed_lines (map name (drop (i + 1) stayed)))

  pub no_files : (stayed : List ℕ) → length stayed < 1 → back_lines (map name stayed) ≡ line (codes "rolled back")
  no_files [] few = refl
  no_files (file ∷ stayed) few = absurd (omega (arith, few))

  pub some_files : (stayed : List ℕ) → 1 ≤ length stayed → stayed_lines (map name stayed) ≡ back_lines (map name stayed)
  some_files [] many = absurd (omega (arith, many))
  some_files (file ∷ stayed) many = refl
