-- What a search has found behind items.
use Rattle.std.proofs.Common.{◌≡◌, ℕ, suc, ◌+◌, ◌<◌, ◌≤◌, ◌^◌, min, Bool, true, false, cond, List, [], ◌∷◌, length, Option, Some, None, position, refl, sym, ap, ap₂, ◌∙◌, arith}
use Rattle.std.specs.Option.{option_map, option_or}
use Rattle.std.specs.List.{position_from}
use Rattle.std.proofs.lemmas.Iterator.Adapters.{position_from-zero}
use Rattle.hr_base.specs.declared.place.Pos.{Pos}
use Rattle.hr_base.specs.declared.lexeme.Item.{Item}
use Rattle.hr_rules.specs.Counted.{greatest, counted, pos_of}
use Rattle.hr_rules.specs.Positions.{behind, is_same_pos, origin, positions_from, positions_of}
use Rattle.hr_rules.proofs.Behind.{counted-behind, counted-same}
use Rattle.hr_plain_tree.specs.declared.search.Search.{Search}
use Rattle.hr_plain_tree.specs.Search.{passed, passed_item}

or_none : (o : Option ℕ) → option_or o None ≡ o
or_none None = refl
or_none (Some n) = refl

-- it is found here, or further on
found_or : (o : Option ℕ) (t : Bool) (n : ℕ) (m : ℕ) (more : Option ℕ) → m ≡ min greatest n
    → option_or (option_or o (cond t (Some m) None)) (option_map (min greatest) more) ≡ option_or o (option_map (min greatest) (cond t (Some n) more))
found_or (Some f) t n m more e = refl
found_or None true n m more e = ap (λ k. Some k) e
found_or None false n m more e = refl

-- what is found behind items of which the first begins at the position and has the number n
pub found_from : (items : List Item) (search : Search) (at : Pos) (n : ℕ) → search.pos.line ≤ 4294967295 → search.pos.col ≤ 4294967295
    → search.reached ≡ counted at → search.passed ≡ min greatest n
    → (passed search items).found ≡ option_or search.found (option_map (min greatest) (position_from (is_same_pos search.pos) n (positions_from at items)))
found_from [] search at n h k r c = sym (or_none search.found)
found_from (item ∷ items) search at n h k r c =
    let lexeme : counted (behind (pos_of search.reached) item.trivia) ≡ counted (behind at item.trivia) =
    ap (λ r. counted (behind (pos_of r) item.trivia)) r ∙ sym (counted-behind at item.trivia) in
    let there = behind at item.trivia in
    let reached : counted (behind (pos_of (counted (behind (pos_of search.reached) item.trivia))) item.lexeme.text) ≡ counted (behind there item.lexeme.text) =
    ap (λ r. counted (behind (pos_of r) item.lexeme.text)) lexeme ∙ sym (counted-behind there item.lexeme.text) in
    let test : is_same_pos search.pos (pos_of (counted (behind (pos_of search.reached) item.trivia))) ≡ is_same_pos search.pos there =
    ap (λ r. is_same_pos search.pos (pos_of r)) lexeme ∙ counted-same search.pos there h k in
    found_from items (passed_item search item) (behind there item.lexeme.text) (n + 1) h k reached (omega (arith, c))
    ∙ ap (λ t. option_or (option_or search.found (cond t (Some search.passed) None)) (option_map (min greatest) (position_from (is_same_pos search.pos) (n + 1) (positions_from (behind there item.lexeme.text) items)))) test
    ∙ found_or search.found (is_same_pos search.pos there) n search.passed _ c

-- numbers that fit are shown as they are
shown_whole : (test : Pos → Bool) (places : List Pos) (n : ℕ) → n + length places ≤ greatest + 1 → option_map (min greatest) (position_from test n places) ≡ position_from test n places
shown_whole test [] n h = refl
shown_whole test (place ∷ places) n h =
    let more = shown_whole test places (n + 1) (omega arith) in
    let here : n ≤ greatest = omega arith in
    elim (test place) as (λ t. option_map (min greatest) (cond t (Some n) (position_from test (n + 1) places)) ≡ cond t (Some n) (position_from test (n + 1) places)) [
      | true ↦ ap (λ k. Some k) (omega arith)
      | false ↦ more
    ]

length-positions : (at : Pos) (items : List Item) → length (positions_from at items) ≡ length items
length-positions at [] = refl
length-positions at (item ∷ items) = ap suc (length-positions (behind (behind at item.trivia) item.lexeme.text) items)

-- the number of the lexeme that begins at a position
pub found_at : (items : List Item) (search : Search) → search.pos.line ≤ 4294967295 → search.pos.col ≤ 4294967295 → search.reached ≡ counted origin → search.passed ≡ 0 → search.found ≡ None
    → (passed search items).found ≡ option_map (min greatest) (position (is_same_pos search.pos) (positions_of items))
found_at items search h k r c f =
    found_from items search origin 0 h k r c
    ∙ ap₂ (λ (o p : Option ℕ). option_or o (option_map (min greatest) p)) f (sym (position_from-zero (is_same_pos search.pos) (positions_of items)))

pub number_fits : (items : List Item) (pos : Pos) → length items < 2 ^ 64
    → option_map (min greatest) (position (is_same_pos pos) (positions_of items)) ≡ position (is_same_pos pos) (positions_of items)
number_fits items pos h =
    let same = position_from-zero (is_same_pos pos) (positions_of items) in
    ap (option_map (min greatest)) same
    ∙ shown_whole (is_same_pos pos) (positions_of items) 0 (omega (arith, length-positions origin items))
    ∙ sym same
