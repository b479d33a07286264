-- A part of a part of a list.
use Rattle.std.proofs.Common.{◌≡◌, ◌∙◌, ℕ, ◌+◌, ◌-◌, ◌<◌, ◌≤◌, ◌^◌, List, length, take, drop, sym, ap, arith, length-drop, length-take, take-take, drop-drop, subst}
use Rattle.std.proofs.lemmas.List.{drop-take}
use Rattle.std.specs.Prelude.{slice_range}
use Rattle.std.specs.Rc.{rc_slice_items}
use Rattle.hr_base.specs.declared.text.Text.TheInside.{Inside}

-- where the part ends in the list
pub part_end : (xs : List ℕ) (from to end : ℕ) → from ≤ to → to ≤ length xs → end ≤ length (slice_range xs from to) → from + end ≤ to
part_end xs from to end ordered within short =
    omega (arith, length-take (to - from) (drop from xs), length-drop from xs)

-- where a part of the text ends in the bytes that it shares
pub part_ends : (t : Inside) (end : ℕ) {text : List ℕ} → slice_range (rc_slice_items t.shared) t.start t.end ≡ text
    → (t.start ≤ t.end) × (t.end ≤ length (rc_slice_items t.shared)) × (t.end < 2 ^ 32) → end ≤ length text → t.start + end ≤ t.end
part_ends t end is holds short = part_end (rc_slice_items t.shared) t.start t.end end holds.0 holds.1 (subst (λ l. end ≤ length l) (sym is) short)

pub part_of_part : (xs : List ℕ) (from to start end : ℕ) → start ≤ end → from + end ≤ to
    → slice_range xs (from + start) (from + end) ≡ take (end - start) (drop start (slice_range xs from to))
part_of_part xs from to start end ordered within =
    let more : ℕ = to - from - start in
    let whole : to - from ≡ start + more = omega arith in
    let len : (from + end) - (from + start) ≡ end - start = omega arith in
    let fits : end - start ≤ more = omega arith in
    ap (λ n. take n (drop (from + start) xs)) len
    ∙ ap (take (end - start)) (sym (drop-drop start from xs))
    ∙ sym (take-take (end - start) more (drop start (drop from xs)) fits)
    ∙ ap (take (end - start)) (sym (drop-take start more (drop from xs)))
    ∙ ap (λ n. take (end - start) (drop start (take n (drop from xs)))) (sym whole)
