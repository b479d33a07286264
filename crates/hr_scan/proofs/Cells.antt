-- The laws of cells: a text is read cell by cell.
--     cells-cut      the first cell, and those behind it
--     cell_len-pos, cell_len-fits, length-cells      how long cells are
--     cells-append, cells-append_ascii      a text may be cut where a character may begin, and behind an ASCII byte
--     cells-encode, cells-ascii, cells-IsUtf8      the characters of a text in UTF-8
--     cells-one      one cell by itself
use Rattle.std.proofs.Common.{true, map, ◌≡◌, ℕ, zero, suc, ◌-◌, ◌<◌, ◌≤◌, List, [], ◌∷◌, ◌++◌, length, drop, Option, Some, None, refl, sym, ap, ap₂, ◌∙◌, arith, length-drop, length-append, length-take, append_assoc, drop_at, drop_of_length-le, subst, take}
use Rattle.std.proofs.lemmas.List.{drop-append-le}
use Rattle.std.specs.Char.{IsScalar, encode_utf8}
use Rattle.std.specs.Str.{IsCharBoundary, IsUtf8, chars, all_scalars, encode_utf8_all}
use Rattle.std.proofs.lemmas.Bool.{and_parts}
use Rattle.std.proofs.lemmas.Str.{length-encode, len_utf8_bounds, encodes-chars, scalars-chars}
use Rattle.hr_scan.specs.declared.character.Character.{Character}
use Rattle.hr_scan.specs.Characters.{char_at, cell_len, cells, cells_past, Begins}
use Rattle.hr_scan.proofs.Characters.{character, char_at-sound, char_at-before, char_at-ascii, char_at-encode, char_at-append, char_at-take}

cells_past-drop : (n : ℕ) (bytes : List ℕ) → cells_past n bytes ≡ cells (drop n bytes)
cells_past-drop zero bytes = refl
cells_past-drop (suc n) [] = refl
cells_past-drop (suc n) (first ∷ rest) = cells_past-drop n rest

len-pos : (c : Character) (bytes rest : List ℕ) → Begins c bytes rest → 1 ≤ c.len
len-pos c bytes rest b = let bounds = len_utf8_bounds c.code in omega (arith, b.len, length-encode c.code, bounds.0)

pub cell_len-pos : (bytes : List ℕ) → 1 ≤ cell_len (char_at bytes)
cell_len-pos bytes = by (char_at bytes) refl
  where
    by : (o : Option Character) → char_at bytes ≡ o → 1 ≤ cell_len o
    by None e = omega arith
    by (Some c) e = len-pos c bytes (drop c.len bytes) (char_at-sound bytes c e)

pub cell_len-fits : (bytes : List ℕ) → 0 < length bytes → cell_len (char_at bytes) ≤ length bytes
cell_len-fits bytes h = by (char_at bytes) refl
  where
    by : (o : Option Character) → char_at bytes ≡ o → cell_len o ≤ length bytes
    by None e = omega arith
    by (Some c) e =
        let b = char_at-sound bytes c e in
        omega (arith, b.len, ap length b.bytes_are, length-append (encode_utf8 c.code) (drop c.len bytes))

behind_first : (n first : ℕ) (rest : List ℕ) → 1 ≤ n → drop (n - 1) rest ≡ drop n (first ∷ rest)
behind_first zero first rest h = absurd (omega arith)
behind_first (suc n) first rest h = ap (λ k. drop k rest) (omega arith)

-- the first cell of a text, and then those behind it
pub cells-cut : (bytes : List ℕ) → 0 < length bytes → cells bytes ≡ char_at bytes ∷ cells (drop (cell_len (char_at bytes)) bytes)
cells-cut [] h = absurd (omega arith)
cells-cut (first ∷ rest) h =
    let n = cell_len (char_at (first ∷ rest)) in
    ap (λ l. char_at (first ∷ rest) ∷ l) (cells_past-drop (n - 1) rest ∙ ap cells (behind_first n first rest (cell_len-pos (first ∷ rest))))

-- there are no more cells than bytes
length-cells_past : (n : ℕ) (bytes : List ℕ) → length (cells_past n bytes) ≤ length bytes
length-cells_past n [] = omega arith
length-cells_past (suc n) (first ∷ rest) = let h = length-cells_past n rest in omega arith
length-cells_past zero (first ∷ rest) = let h = length-cells_past (cell_len (char_at (first ∷ rest)) - 1) rest in omega arith

pub length-cells : (bytes : List ℕ) → length (cells bytes) ≤ length bytes
length-cells = length-cells_past 0

cells_append_upto : (n : ℕ) (front back : List ℕ) → length front ≤ n → IsCharBoundary back 0 → cells (front ++ back) ≡ cells front ++ cells back
cells_append_upto n [] back h boundary = refl
cells_append_upto zero (first ∷ rest) back h boundary = absurd (omega arith)
cells_append_upto (suc n) (first ∷ rest) back h boundary =
    let front = first ∷ rest in
    let same = char_at-before front back (omega arith) boundary in
    let m = cell_len (char_at front) in
    let fits : m ≤ length front = cell_len-fits front (omega arith) in
    let short : length (drop m front) ≤ n = omega (arith, length-drop m front, cell_len-pos front) in
    let left : drop (cell_len (char_at (front ++ back))) (front ++ back) ≡ drop m front ++ back = ap (λ o. drop (cell_len o) (front ++ back)) same ∙ drop-append-le m front back fits in
    cells-cut (front ++ back) (omega arith)
    ∙ ap₂ (λ (o : Option Character) (l : List (Option Character)). o ∷ l) same (ap cells left ∙ cells_append_upto n (drop m front) back short boundary)
    ∙ ap (λ l. l ++ cells back) (sym (cells-cut front (omega arith)))

pub cells-append : (front back : List ℕ) → IsCharBoundary back 0 → cells (front ++ back) ≡ cells front ++ cells back
cells-append front back = cells_append_upto (length front) front back (omega arith)

ascii_boundary : (b : ℕ) (rest : List ℕ) → b < 128 → IsCharBoundary (b ∷ rest) 0
ascii_boundary b rest h = (omega arith, λ _ high. absurd (omega arith))

pub cells-ascii : (b : ℕ) (rest : List ℕ) → b < 128 → cells (b ∷ rest) ≡ Some (record { code = b; len = 1 }) ∷ cells rest
cells-ascii b rest h =
    cells-cut (b ∷ rest) (omega arith) ∙ ap (λ o. o ∷ cells (drop (cell_len o) (b ∷ rest))) (char_at-ascii b rest h)

pub cells-append_ascii : (front back : List ℕ) (b : ℕ) → b < 128 → cells ((front ++ b ∷ []) ++ back) ≡ cells (front ++ b ∷ []) ++ cells back
cells-append_ascii front back b h =
    ap cells (append_assoc front (b ∷ []) back)
    ∙ cells-append front (b ∷ back) (ascii_boundary b back h)
    ∙ ap (λ l. cells front ++ l) (cells-ascii b back h)
    ∙ sym (append_assoc (cells front) (Some (record { code = b; len = 1 }) ∷ []) (cells back))
    ∙ ap (λ l. l ++ cells back) (ap (λ l. cells front ++ l) (sym (cells-ascii b [] h)) ∙ sym (cells-append front (b ∷ []) (ascii_boundary b [] h)))

-- the first character of a text is its first cell
pub cells-encode : (c : ℕ) (rest : List ℕ) → IsScalar c → cells (encode_utf8 c ++ rest) ≡ Some (record { code = c; len = length (encode_utf8 c) }) ∷ cells rest
cells-encode c rest s =
    let some : 0 < length (encode_utf8 c ++ rest) = omega (arith, length-append (encode_utf8 c) rest, length-encode c, (len_utf8_bounds c).0) in
    cells-cut (encode_utf8 c ++ rest) some
    ∙ ap (λ o. o ∷ cells (drop (cell_len o) (encode_utf8 c ++ rest))) (char_at-encode c rest s)
    ∙ ap (λ l. Some (record { code = c; len = length (encode_utf8 c) }) ∷ cells l) (drop_at (encode_utf8 c) rest (length (encode_utf8 c)) refl)

one_alone : (b : ℕ) (rest : List ℕ) → char_at (b ∷ rest) ≡ None → char_at (b ∷ []) ≡ None
one_alone b rest e = by (char_at (b ∷ [])) refl
  where
    by : (o : Option Character) → char_at (b ∷ []) ≡ o → char_at (b ∷ []) ≡ None
    by None f = f
    by (Some c) f = let found : None ≡ Some c = sym e ∙ char_at-append (b ∷ []) rest c f in absurd (cc)

-- a cell's own bytes are that cell
pub cells-one : (bytes : List ℕ) → 0 < length bytes → cells (take (cell_len (char_at bytes)) bytes) ≡ char_at bytes ∷ []
cells-one [] h = absurd (omega arith)
cells-one (first ∷ rest) h = by (char_at (first ∷ rest)) refl
  where
    by : (o : Option Character) → char_at (first ∷ rest) ≡ o → cells (take (cell_len o) (first ∷ rest)) ≡ o ∷ []
    by None e = cells-cut (first ∷ []) (omega arith) ∙ ap (λ o. o ∷ cells (drop (cell_len o) (first ∷ []))) (one_alone first rest e)
    by (Some c) e =
        let bytes = first ∷ rest in
        let fits : c.len ≤ length bytes = subst (λ o. cell_len o ≤ length bytes) e (cell_len-fits bytes (omega arith)) in
        let long : length (take c.len bytes) ≡ c.len = omega (arith, length-take c.len bytes) in
        let some : 1 ≤ c.len = subst (λ o. 1 ≤ cell_len o) e (cell_len-pos bytes) in
        cells-cut (take c.len bytes) (omega arith)
        ∙ ap (λ o. o ∷ cells (drop (cell_len o) (take c.len bytes))) (char_at-take c.len bytes c e (omega arith))
        ∙ ap (λ l. Some c ∷ cells l) (drop_of_length-le (take c.len bytes) (omega arith))

cells_spelt : (cs : List ℕ) → all_scalars cs ≡ true → cells (encode_utf8_all cs) ≡ map (λ c. Some (character c)) cs
cells_spelt [] s = refl
cells_spelt (c ∷ cs) s =
    let p = and_parts _ _ s in
    cells-encode c (encode_utf8_all cs) p.0 ∙ ap (λ l. Some (character c) ∷ l) (cells_spelt cs p.1)

-- the cells of a text in UTF-8 are its characters
pub cells-IsUtf8 : (bytes : List ℕ) → IsUtf8 bytes → cells bytes ≡ map (λ c. Some (character c)) (chars bytes)
cells-IsUtf8 bytes u = ap cells (sym (encodes-chars bytes u)) ∙ cells_spelt (chars bytes) (scalars-chars bytes u)
