-- The laws of the decoder: `char_at` finds exactly the characters that begin the bytes in UTF-8.
--     char_at-sound, char_at-complete      it answers a character exactly where one begins, and that one
--     char_at-encode, char_at-ascii      what it answers on a character's bytes, and on an ASCII byte
--     char_at-none, char_at-none_back      it answers none exactly where no character begins
--     char_at-append, char_at-take      the character's own bytes decide
--     char_at-before      what comes behind does not, where a character may begin there
--     char_at-IsUtf8, char_at-IsValidUpTo      in UTF-8 one begins, and where UTF-8 ends none does
use Rattle.std.proofs.Common.{◌≡◌, ℕ, ◌+◌, ◌-◌, ◌⊎◌, ◌<◌, ◌≤◌, Bool, true, false, cond, List, [], ◌∷◌, ◌++◌, length, take, drop, slice_index, slice_get, Option, Some, None, IfSome, IfNone, drop-drop, drop_at, take-add, get_or, ⊎_elim, refl, sym, ap, ◌∙◌, subst, inl, inr, arith, append_assoc, append-nil, lt-ltb, le-ltb, take-append-drop, length-append, length-take, take_at, add-one}
use Rattle.std.proofs.lemmas.Bool.{cases_lt, and_parts}
use Rattle.std.proofs.lemmas.List.{nil_from_length, take-append-le, get_or-append-add, get_or_append_left}
use Rattle.std.proofs.Math.Seq.{take-append-add}
use Rattle.std.specs.Char.{IsScalar, encode_utf8}
use Rattle.std.specs.Option.{option_map}
use Rattle.std.specs.Str.{chars, is_utf8, IsUtf8, StartsWithNoChar, IsCharBoundary, IsValidUpTo, encode_utf8_all, all_scalars, continuation_len}
use Rattle.std.proofs.lemmas.Str.{chars-encodes, IsUtf8-encode, is_utf8-from_IsUtf8, IsUtf8-from_is_utf8, chars_from_encodes, encode_ascii, chars_past_char, IsUtf8-append, length-encode, len_utf8_bounds}
use lib.Utf8.{low_scalar}
use Rattle.hr_scan.specs.declared.character.Character.{Character}
use Rattle.hr_scan.proofs.Spelling.{Spelling, alone, led, spelling, lead, continues_at}
use Rattle.hr_scan.specs.Characters.{announced_len, wide_char_at, char_at, Begins}

-- the character that c stands for
abbrev pub character : ℕ → Character
character c = record { code = c; len = length (encode_utf8 c) }

chars-encode : (c : ℕ) → IsScalar c → chars (encode_utf8 c) ≡ c ∷ []
chars-encode c s = ap chars (sym (append-nil (encode_utf8 c))) ∙ chars-encodes (c ∷ []) (rw s refl)

wide_char_at-encode : (n c : ℕ) (bytes : List ℕ) → IsScalar c → take n bytes ≡ encode_utf8 c → wide_char_at n bytes ≡ Some (character c)
unfolding wide_char_at
wide_char_at-encode n c bytes s e = rw (e, is_utf8-from_IsUtf8 (encode_utf8 c) (IsUtf8-encode c s), chars-encode c s)

wide : (n first : ℕ) (rest : List ℕ) → 128 ≤ first → announced_len first ≡ n → char_at (first ∷ rest) ≡ wide_char_at n (first ∷ rest)
wide n first rest h e =
    ap (λ b. cond b (Some (record { code = first; len = 1 })) (wide_char_at (announced_len first) (first ∷ rest))) (le-ltb first 128 h)
    ∙ ap (λ k. wide_char_at k (first ∷ rest)) e

pub not_wide_char : (n : ℕ) (bytes : List ℕ) → ¬ (IsUtf8 (take n bytes)) → wide_char_at n bytes ≡ None
unfolding wide_char_at
not_wide_char n bytes h = by (is_utf8 (take n bytes)) refl
  where
    by : (t : Bool) → is_utf8 (take n bytes) ≡ t → wide_char_at n bytes ≡ None
    by true e = absurd (h (IsUtf8-from_is_utf8 _ e))
    by false e = rw e

pub wide_char_nothing : (n : ℕ) (bytes : List ℕ) → length (take n bytes) ≡ 0 → wide_char_at n bytes ≡ None
unfolding wide_char_at chars is_utf8
wide_char_nothing n bytes h = rw (nil_from_length (take n bytes) h)

pub wide_char_first : (n c : ℕ) (bytes rest : List ℕ) → IsUtf8 (take n bytes) → take n bytes ≡ encode_utf8 c ++ rest
    → wide_char_at n bytes ≡ Some (record { code = c; len = length (take n bytes) })
unfolding wide_char_at
wide_char_first n c bytes rest u e = rw (is_utf8-from_IsUtf8 (take n bytes) u, chars_past_char (take n bytes) rest c u e)

-- an ASCII byte is itself
pub char_at-ascii : (first : ℕ) (rest : List ℕ) → first < 128 → char_at (first ∷ rest) ≡ Some (record { code = first; len = 1 })
char_at-ascii first rest h = ap (λ b. cond b (Some (record { code = first; len = 1 })) (wide_char_at (announced_len first) (first ∷ rest))) (lt-ltb first 128 h)

-- the bytes of a character, before any others, give it
pub char_at-encode : (c : ℕ) (rest : List ℕ) → IsScalar c → char_at (encode_utf8 c ++ rest) ≡ Some (character c)
char_at-encode c rest s = by (spelling c)
  where
    by : Spelling c → char_at (encode_utf8 c ++ rest) ≡ Some (character c)
    by (alone h e) =
        ap (λ l. char_at (l ++ rest)) e ∙ char_at-ascii c rest h ∙ ap (λ l. Some (record { code = c; len = length l })) (sym e)
    by (led first others l n f e) =
        let long : announced_len first ≡ length (first ∷ others) = omega (arith, n) in
        ap (λ l. char_at (l ++ rest)) e
        ∙ wide (length (first ∷ others)) first (others ++ rest) (omega arith) long
        ∙ wide_char_at-encode (length (first ∷ others)) c (first ∷ others ++ rest) s (take_at (first ∷ others) rest (length (first ∷ others)) refl ∙ sym e)

-- a character that begins the bytes is the one that is found
pub char_at-complete : (c : Character) (bytes rest : List ℕ) → Begins c bytes rest → char_at bytes ≡ Some c
char_at-complete c bytes rest b =
    ap char_at b.bytes_are ∙ char_at-encode c.code rest b.scalar ∙ ap (λ n. Some (record { code = c.code; len = n })) (sym b.len)

-- bytes that the first one announces, and that are UTF-8, are one character
one_character : (first c : ℕ) (rest others : List ℕ) → take (announced_len first) (first ∷ rest) ≡ encode_utf8 c ++ others → others ≡ []
one_character first c rest others e =
    let announced : announced_len first ≡ length (encode_utf8 c) = ap (λ l. announced_len (slice_index l 0)) (sym (cut_first (continuation_len first) first rest) ∙ e) ∙ lead c others in
    nil_from_length others (omega (arith, ap length e, announced, length-append (encode_utf8 c) others, length-take (announced_len first) (first ∷ rest)))
  where
    cut_first : (n first : ℕ) (rest : List ℕ) → take (n + 1) (first ∷ rest) ≡ first ∷ take n rest
    cut_first n first rest = rw add-one

wide_char_at-sound : (n : ℕ) (bytes : List ℕ) (c : Character) → ((c : ℕ) (others : List ℕ) → take n bytes ≡ encode_utf8 c ++ others → others ≡ [])
    → wide_char_at n bytes ≡ Some c → Begins c bytes (drop n bytes)
unfolding wide_char_at
wide_char_at-sound n bytes c single e = by (is_utf8 (take n bytes)) refl
  where
    found : (cs : List ℕ) → all_scalars cs ≡ true → encode_utf8_all cs ≡ take n bytes → chars (take n bytes) ≡ cs
        → option_map {U = Character} (λ c. record { code = c; len = length (take n bytes) }) (slice_get cs 0) ≡ Some c → Begins c bytes (drop n bytes)
    found [] s spelt is e = absurd (cc)
    found (d ∷ ds) s spelt is e =
        let same : c ≡ record { code = d; len = length (take n bytes) } = cc in
        let alone : take n bytes ≡ encode_utf8 d = sym spelt ∙ ap (λ l. encode_utf8 d ++ l) (single d (encode_utf8_all ds) (sym spelt)) ∙ append-nil _ in
        let begins : Begins (record { code = d; len = length (take n bytes) }) bytes (drop n bytes) =
        record { scalar = (and_parts _ _ s).0; len = ap length alone; bytes_are = sym (take-append-drop n bytes) ∙ ap (λ l. l ++ drop n bytes) alone } in
        subst (λ c. Begins c bytes (drop n bytes)) (sym same) begins

    by : (t : Bool) → is_utf8 (take n bytes) ≡ t → Begins c bytes (drop n bytes)
    by true is =
        let u = IsUtf8-from_is_utf8 (take n bytes) is in
        let read : chars (take n bytes) ≡ u.0 = sym (chars_from_encodes u.0 (take n bytes) u u.1.1) in
        found u.0 u.1.0 u.1.1 read (ap (λ l. option_map {U = Character} (λ c. record { code = c; len = length (take n bytes) }) (slice_get l 0)) (sym read) ∙ sym (ap (λ t. cond t (option_map {U = Character} (λ c. record { code = c; len = length (take n bytes) }) (slice_get (chars (take n bytes)) 0)) None) is) ∙ e)
    by false is = let none : None ≡ Some c = sym (ap (λ t. cond t (option_map {U = Character} (λ c. record { code = c; len = length (take n bytes) }) (slice_get (chars (take n bytes)) 0)) None) is) ∙ e in absurd (cc)

-- the character that is found begins the bytes
pub char_at-sound : (bytes : List ℕ) (c : Character) → char_at bytes ≡ Some c → Begins c bytes (drop c.len bytes)
char_at-sound [] c e = absurd (cc)
char_at-sound (first ∷ rest) c e = by (cases_lt first 128)
  where
    small : first < 128 → c ≡ record { code = first; len = 1 } → Begins c (first ∷ rest) (drop c.len (first ∷ rest))
    small h same =
        let begins : Begins (record { code = first; len = 1 }) (first ∷ rest) rest =
        record { scalar = low_scalar first (omega arith); len = sym (ap length (encode_ascii first h)); bytes_are = ap (λ l. l ++ rest) (sym (encode_ascii first h)) } in
        subst (λ c. Begins c (first ∷ rest) (drop c.len (first ∷ rest))) (sym same) begins

    wide_one : 128 ≤ first → Begins c (first ∷ rest) (drop c.len (first ∷ rest))
    wide_one h =
        let begins = wide_char_at-sound (announced_len first) (first ∷ rest) c (λ d others. one_character first d rest others) (sym (wide (announced_len first) first rest h refl) ∙ e) in
        let announced : announced_len first ≡ c.len = ap (λ l. announced_len (slice_index l 0)) begins.bytes_are ∙ lead c.code _ ∙ sym begins.len in
        subst (λ n. Begins c (first ∷ rest) (drop n (first ∷ rest))) announced begins

    by : (first < 128) ⊎ (128 ≤ first) → Begins c (first ∷ rest) (drop c.len (first ∷ rest))
    by (inl h) = let same : c ≡ record { code = first; len = 1 } = let f : ◌≡◌ {A = Option Character} (Some (record { code = first; len = 1 })) (Some c) = sym (char_at-ascii first rest h) ∙ e in cc in small h same
    by (inr h) = wide_one h

-- where none is found, none begins the bytes
pub char_at-none : (bytes : List ℕ) → char_at bytes ≡ None → StartsWithNoChar bytes
char_at-none bytes e c rest s is = let found : None ≡ Some (character c) = sym e ∙ ap char_at is ∙ char_at-encode c rest s in absurd (cc)

-- and where none begins them, none is found
pub char_at-none_back : (bytes : List ℕ) → StartsWithNoChar bytes → char_at bytes ≡ None
char_at-none_back bytes h = by (char_at bytes) refl
  where
    by : (o : Option Character) → char_at bytes ≡ o → char_at bytes ≡ None
    by None e = e
    by (Some c) e = let b = char_at-sound bytes c e in absurd (h c.code (drop c.len bytes) b.scalar b.bytes_are)

-- both, of what is found at a place
pub some_begins : (from : ℕ) (bytes : List ℕ) (r : Option Character) → r ≡ char_at (drop from bytes) → IfSome r (λ c. Begins c (drop from bytes) (drop (from + c.len) bytes))
some_begins from bytes None e = tt
some_begins from bytes (Some c) e = subst (λ l. Begins c (drop from bytes) l) (drop-drop c.len from bytes) (char_at-sound (drop from bytes) c (sym e))

pub none_begins : (from : ℕ) (bytes : List ℕ) (r : Option Character) → r ≡ char_at (drop from bytes) → IfNone r (StartsWithNoChar (drop from bytes))
none_begins from bytes None e = char_at-none (drop from bytes) (sym e)
none_begins from bytes (Some c) e = tt

-- the character's own bytes decide: what comes behind them does not
pub char_at-append : (bytes more : List ℕ) (c : Character) → char_at bytes ≡ Some c → char_at (bytes ++ more) ≡ Some c
char_at-append bytes more c e =
    let b = char_at-sound bytes c e in
    char_at-complete c (bytes ++ more) (drop c.len bytes ++ more) (record {
      scalar = b.scalar;
      len = b.len;
      bytes_are = ap (λ l. l ++ more) b.bytes_are ∙ append_assoc (encode_utf8 c.code) (drop c.len bytes) more;
    })

pub char_at-take : (n : ℕ) (bytes : List ℕ) (c : Character) → char_at bytes ≡ Some c → c.len ≤ n → char_at (take n bytes) ≡ Some c
char_at-take n bytes c e h =
    let b = char_at-sound bytes c e in
    char_at-complete c (take n bytes) (take (n - c.len) (drop c.len bytes)) (record {
      scalar = b.scalar;
      len = b.len;
      bytes_are = ap (take n) b.bytes_are ∙ take_past (encode_utf8 c.code) (drop c.len bytes) n c.len b.len h;
    })
  where
    take_past : (xs ys : List ℕ) (n k : ℕ) → k ≡ length xs → k ≤ n → take n (xs ++ ys) ≡ xs ++ take (n - k) ys
    take_past xs ys n k long h = ap (λ m. take m (xs ++ ys)) (omega arith) ∙ take-append-add xs ys (n - k)

-- a character that would reach into what comes behind is none before it, if a character may begin there
pub char_at-before : (bytes more : List ℕ) → 0 < length bytes → IsCharBoundary more 0 → char_at (bytes ++ more) ≡ char_at bytes
char_at-before bytes more some boundary = by (char_at bytes) (char_at (bytes ++ more)) refl refl
  where
    reaches : (c : Character) → Begins c (bytes ++ more) (drop c.len (bytes ++ more)) → length bytes < c.len → ⊥
    reaches c b h =
        let k = length bytes in
        let long : c.len ≤ length (bytes ++ more) = omega (arith, b.len, ap length b.bytes_are, length-append (encode_utf8 c.code) (drop c.len (bytes ++ more))) in
        let here : get_or more 0 0 ≡ get_or (encode_utf8 c.code) k 0 =
        sym (get_or-append-add bytes more 0 0) ∙ ap (λ l. get_or l (k + 0) 0) b.bytes_are ∙ get_or_append_left (encode_utf8 c.code) _ 0 (k + 0) (omega (arith, b.len)) ∙ ap (λ i. get_or (encode_utf8 c.code) i 0) (omega arith) in
        let follows = continues_at c.code k (omega arith) (omega (arith, b.len)) in
        let may = boundary.1 (omega (arith, length-append bytes more)) (omega arith) in
        omega (arith, here, follows.1, may)

    inside : (c : Character) → Begins c (bytes ++ more) (drop c.len (bytes ++ more)) → c.len ≤ length bytes → char_at bytes ≡ Some c
    inside c b h =
        let n = c.len in
        let front : take n bytes ≡ encode_utf8 c.code = sym (take-append-le n bytes more h) ∙ ap (take n) b.bytes_are ∙ take_at (encode_utf8 c.code) _ n (sym b.len) in
        char_at-complete c bytes (drop n bytes) (record { scalar = b.scalar; len = b.len; bytes_are = sym (take-append-drop n bytes) ∙ ap (λ l. l ++ drop n bytes) front })

    by : (o w : Option Character) → char_at bytes ≡ o → char_at (bytes ++ more) ≡ w → char_at (bytes ++ more) ≡ char_at bytes
    by (Some c) w e f = char_at-append bytes more c e ∙ sym e
    by None None e f = f ∙ sym e
    by None (Some c) e f =
        let b = char_at-sound (bytes ++ more) c f in
        let found : char_at bytes ≡ Some c = ⊎_elim (λ h. absurd (reaches c b h)) (λ h. inside c b h) (cases_lt (length bytes) c.len) in
        f ∙ sym found

-- in UTF-8 a character begins the bytes, and what follows it is UTF-8
pub char_at-IsUtf8 : (bytes : List ℕ) → IsUtf8 bytes → 0 < length bytes → (c : Character) × (char_at bytes ≡ Some c) × IsUtf8 (drop c.len bytes)
char_at-IsUtf8 bytes (cs, (s, e)) some = by cs s e
  where
    by : (cs : List ℕ) → all_scalars cs ≡ true → encode_utf8_all cs ≡ bytes → (c : Character) × (char_at bytes ≡ Some c) × IsUtf8 (drop c.len bytes)
    by [] s e = let none = ap length e in absurd (omega arith)
    by (c ∷ cs) s e =
        let p = and_parts _ _ s in
        let rest : drop (length (encode_utf8 c)) bytes ≡ encode_utf8_all cs = ap (drop (length (encode_utf8 c))) (sym e) ∙ drop_at (encode_utf8 c) (encode_utf8_all cs) (length (encode_utf8 c)) refl in
        (character c, ap char_at (sym e) ∙ char_at-encode c (encode_utf8_all cs) p.0, (cs, (p.1, sym rest)))

-- where the longest front that is UTF-8 ends, no character begins
pub char_at-IsValidUpTo : (bytes : List ℕ) (n : ℕ) → IsValidUpTo bytes n → char_at (drop n bytes) ≡ None
char_at-IsValidUpTo bytes n v = by (char_at (drop n bytes)) refl
  where
    by : (o : Option Character) → char_at (drop n bytes) ≡ o → char_at (drop n bytes) ≡ None
    by None e = e
    by (Some c) e =
        let b = char_at-sound (drop n bytes) c e in
        let longer : take (n + c.len) bytes ≡ take n bytes ++ encode_utf8 c.code =
        take-add n c.len bytes ∙ ap (λ l. take n bytes ++ l) (ap (take c.len) b.bytes_are ∙ take_at (encode_utf8 c.code) _ c.len (sym b.len)) in
        absurd (v.longest (n + c.len) (omega (arith, b.len, length-encode c.code, (len_utf8_bounds c.code).0)) (subst IsUtf8 (sym longer) (IsUtf8-append (take n bytes) (encode_utf8 c.code) v.front (IsUtf8-encode c.code b.scalar))))
