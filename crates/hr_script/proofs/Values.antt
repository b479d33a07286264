-- The value of digits never falls as more of them are read.
use Rattle.std.proofs.Common.{◌≡◌, ℕ, ◌+◌, ◌-◌, ◌*◌, ◌<◌, ◌≤◌, List, [], ◌∷◌, true, false, nat_le, fold, drop, length, get_or, arith, sym, ap, ◌∙◌, add-one, drop-cons, refl, Option, Some, None, if◌then◌else◌}
use Rattle.std.proofs.lemmas.Bool.Decides.{nat_tests}

pub grows : (n : ℕ) (digits : List ℕ) → n ≤ fold (λ n c. n * 10 + (c - 48)) n digits
grows n [] = omega arith
grows n (d ∷ digits) = omega (arith, grows (n * 10 + (d - 48)) digits)

pub none_past : (total limit : ℕ) → limit < total → ◌≡◌ {A = Option ℕ} None (if nat_le total limit then Some total else None)
none_past total limit h =
    let test : nat_le total limit ≡ false = grind (arith, nat_tests) in
    rw test refl

pub some_within : (total limit : ℕ) → total ≤ limit → ◌≡◌ {A = Option ℕ} (Some total) (if nat_le total limit then Some total else None)
some_within total limit h =
    let test : nat_le total limit ≡ true = grind (arith, nat_tests) in
    rw test refl

-- once the value so far is past the limit, the whole value is
pub too_large : (value new i total : ℕ) (digits : List ℕ) → i < length digits → new ≡ value * 10 + (get_or digits i 0 - 48) → 4294967295 < new
    → fold (λ n c. n * 10 + (c - 48)) value (drop i digits) ≡ total → ◌≡◌ {A = Option ℕ} None (if nat_le total 4294967295 then Some total else None)
too_large value new i total digits within same over is =
    let here : drop i digits ≡ get_or digits i 0 ∷ drop (i + 1) digits = rw (add-one, drop-cons digits i 0) refl in
    let whole : fold (λ n c. n * 10 + (c - 48)) new (drop (i + 1) digits) ≡ total = ap (λ x. fold (λ n c. n * 10 + (c - 48)) x (drop (i + 1) digits)) same ∙ ap (fold (λ n c. n * 10 + (c - 48)) value) (sym here) ∙ is in
    none_past total 4294967295 (omega (arith, over, grows new (drop (i + 1) digits), whole))
