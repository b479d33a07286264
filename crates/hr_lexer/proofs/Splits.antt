-- The bytes of the first characters of a text, and of the others.
use Rattle.std.proofs.Common.{◌≡◌, ℕ, ◌+◌, ◌≤◌, List, ◌++◌, length, take, drop, sym, ap, ◌∙◌, arith, length-append, take-append-drop}
use Rattle.std.proofs.Math.Seq.{take-append_seam}
use Rattle.std.proofs.lemmas.Str.{encodes-append}
use lib.Utf8.{encodes}
use Rattle.std.proofs.Math.Seq.{drop-append_seam}

pub parts : (n : ℕ) (cs bytes : List ℕ) → bytes ≡ encodes cs → bytes ≡ encodes (take n cs) ++ encodes (drop n cs)
parts n cs bytes e = e ∙ ap encodes (sym (take-append-drop n cs)) ∙ encodes-append (take n cs) (drop n cs)

pub front_len : (n : ℕ) (cs bytes : List ℕ) → bytes ≡ encodes cs → length (encodes (take n cs)) ≤ length bytes
front_len n cs bytes e =
    let whole : length bytes ≡ length (encodes (take n cs)) + length (encodes (drop n cs)) = ap length (parts n cs bytes e) ∙ length-append (encodes (take n cs)) (encodes (drop n cs)) in
    omega arith

pub front : (n : ℕ) (cs bytes : List ℕ) → bytes ≡ encodes cs → take (length (encodes (take n cs))) bytes ≡ encodes (take n cs)
front n cs bytes e = ap (take (length (encodes (take n cs)))) (parts n cs bytes e) ∙ take-append_seam (encodes (take n cs)) (encodes (drop n cs))

pub back : (n : ℕ) (cs bytes : List ℕ) → bytes ≡ encodes cs → drop (length (encodes (take n cs))) bytes ≡ encodes (drop n cs)
back n cs bytes e = ap (drop (length (encodes (take n cs)))) (parts n cs bytes e) ∙ drop-append_seam (encodes (take n cs)) (encodes (drop n cs))
