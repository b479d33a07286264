-- What a reading in the block at a column says of the stretch that it takes: where its blocks lie, that they stand as
-- the layout rule says, and that its lexemes stand right of the column.
use Rattle.std.proofs.Common.{◌≡◌, ◌⊎◌, ◌≤◌, ◌<◌, ℕ, zero, suc, ◌+◌, Bool, true, false, List, ◌++◌, drop, refl, sym, ap, ap₂, ◌∙◌, subst, inl, inr, zero-add, suc-add, add_assoc, arith}
use Rattle.hr_base.specs.declared.lexeme.Ending.{Ending}
use Rattle.hr_base.specs.declared.lexeme.Item.{Item}
use Rattle.hr_rules.specs.declared.block.Placed.{Placed}
use Rattle.hr_rules.specs.Blocks.{goes_on}
use Rattle.hr_tree.specs.declared.lists.Layout.{Layout}
use Rattle.hr_grammar.specs.Spans.{BlockSpan, Laid, ending_as}
use Rattle.hr_grammar.specs.Offside.{StandsWell, Next}
use Rattle.hr_grammar_cases.specs.Readings.{Reading, never, ◌▷◌, given, inside, ends_as}
use Rattle.hr_grammar_cases.proofs.Stretches.{beside, Has, has_either, has_first, has_second, is_empty_at, empty_first, empty_second, Text, lexemes, seen, before_or_behind}

-- ---- lexemes
-- the lexeme of that number, if there is one, goes on in a block at the column
abbrev pub GoesAt : Text → ℕ → ℕ → Type 0
GoesAt text n i = Next (λ next. goes_on n next ≡ true) (drop i (lexemes text))

-- it stands in explicit braces of the text, which lie between the numbers
pub record Braced (text : Text) (low high i : ℕ) : Type 0 where
  pub span : BlockSpan
  pub among : Has text.spans span
  pub left : Item
  pub right : Item
  pub explicit : span.layout ≡ Layout.Explicit left right
  pub lowest : low ≤ span.start
  pub highest : span.start + span.extent ≤ high
  pub behind : span.start ≤ i
  pub before : i < span.start + span.extent

-- what an enclosing block at the column asks of a lexeme in it
abbrev pub Right : Text → ℕ → ℕ → ℕ → ℕ → Type 0
Right text n low high i = GoesAt text n i ⊎ Braced text low high i

pub wider : (text : Text) (n low high bottom top i : ℕ) → bottom ≤ low → high ≤ top → Right text n low high i → Right text n bottom top i
wider text n low high bottom top i l h (inl goes) = inl goes
wider text n low high bottom top i l h (inr b) = inr (record {
  span = b.span;
  among = b.among;
  left = b.left;
  right = b.right;
  explicit = b.explicit;
  lowest = omega (arith, b.lowest);
  highest = omega (arith, b.highest);
  behind = b.behind;
  before = b.before;
})

-- ---- stretches
-- A stretch that is opened begins with a block, behind the word that opens it; one that is begun begins with the
-- first lexeme of a part.

-- the least number at which a block of the stretch may start: a block stands behind its word, so at the first lexeme
-- only where the stretch begins with the block
abbrev pub least : Bool → ℕ → ℕ
least true start = start
least false start = suc start

-- a block that lies in the stretch
pub record Within (opened : Bool) (start extent : ℕ) (span : BlockSpan) : Type 0 where
  pub behind : least opened start ≤ span.start
  pub ends : span.start + span.extent ≤ start + extent

-- the lexemes that are left before the stretch. Behind the word that opens a block no mark tells yet whether the
-- block is left empty
abbrev pub before : Text → Bool → Bool → ℕ → List Placed
before text true begun i = drop i text.placed
before text false begun i = seen text begun i

-- a part still begins behind the stretch, where it has no lexeme
abbrev pub still : Bool → Bool → ℕ → Bool
still true begun extent = false
still false begun zero = begun
still false begun (suc extent) = false

-- the blocks of the stretch are blocks of the text, and no other one that is left empty starts in it. So a lexeme of
-- the stretch counts as first on its line exactly where the reading marks it
pub record Known (text : Text) (opened : Bool) (start extent : ℕ) (spans : List BlockSpan) : Type 0 where
  pub marks : (i : ℕ) → least opened start ≤ i → i ≤ start + extent → is_empty_at text.spans i ≡ is_empty_at spans i
  pub among : (span : BlockSpan) → Has spans span → Has text.spans span

-- the lexemes left behind the stretch, as they stand in the text; each of its lexemes, but the first one of a part,
-- which may stand at the column; its blocks
pub record Standing (text : Text) (n : ℕ) (opened begun : Bool) (start : ℕ) (laid : Laid) (us : List Placed) : Type 0 where
  pub after : us ≡ seen text (still opened begun laid.extent) (start + laid.extent)
  pub each : (i : ℕ) → start ≤ i → i < start + laid.extent → Right text n start (start + laid.extent) i ⊎ ((i ≡ start) × (begun ≡ true))
  pub blocks : (span : BlockSpan) → Has (laid.blocks n start) span → StandsWell text.spans (lexemes text) span

-- in the block at column n, what the reading takes is the stretch, and the stretch stands
pub record Stands (text : Text) (n : ℕ) (opened : Bool) (laid : Laid) (reading : Reading) : Type 0 where
  pub within : (ts us : List Placed) → reading ts us → (start : ℕ) (span : BlockSpan) → Has (laid.blocks n start) span → Within opened start laid.extent span
  pub stands : (ts us : List Placed) → reading ts us → (begun : Bool) (start : ℕ) → Known text opened start laid.extent (laid.blocks n start)
      → ts ≡ before text opened begun start → Standing text n opened begun start laid us

pub same_stands : {text : Text} {n : ℕ} {opened : Bool} {laid other : Laid} {reading : Reading} → laid ≡ other → Stands text n opened laid reading → Stands text n opened other reading
same_stands {text} {n} {opened} {reading = reading} e s = subst (λ l. Stands text n opened l reading) e s

pub never_stands : {text : Text} {n : ℕ} {opened : Bool} {laid : Laid} → Stands text n opened laid never
never_stands = record { within = λ ts us r. elim r [ ]; stands = λ ts us r. elim r [ ] }

pub given_stands : (P : Type 0) {text : Text} {n : ℕ} {opened : Bool} {laid : Laid} {reading : Reading} → Stands text n opened laid reading → Stands text n opened laid (given P reading)
given_stands P s = record { within = λ ts us r. s.within ts us r.1; stands = λ ts us r. s.stands ts us r.1 }

-- how it ends says nothing here
pub ending_stands : (ending : Ending) {text : Text} {n : ℕ} {opened : Bool} {laid : Laid} {reading : Reading} → Stands text n opened laid reading → Stands text n opened (ending_as ending laid) reading
ending_stands ending {text} {n} {opened} {laid} s = record {
  within = s.within;
  stands = λ ts us r begun start k e.
      let t = s.stands ts us r begun start (record { marks = k.marks; among = k.among }) e in
      record { after = t.after; each = t.each; blocks = t.blocks };
}

pub inside_stands : {text : Text} {n : ℕ} {opened : Bool} {laid : Laid} {reading : Ending → Reading} → ((ending : Ending) → Stands text n opened laid (reading ending)) → Stands text n opened laid (inside reading)
inside_stands s = record { within = λ ts us r. (s r.0).within ts us r.1; stands = λ ts us r. (s r.0).stands ts us r.1 }

pub ends_as_stands : {text : Text} {n : ℕ} {opened : Bool} {laid : Laid} (turn : Ending → Ending) {reading : Ending → Reading} → ((ending : Ending) → Stands text n opened laid (reading ending))
    → (ending : Ending) → Stands text n opened laid (ends_as turn reading ending)
ends_as_stands turn s ending = record { within = λ ts us r. (s r.0).within ts us r.2; stands = λ ts us r. (s r.0).stands ts us r.2 }

-- ---- one stretch behind another
pub least_next : (opened : Bool) (start : ℕ) → least opened start ≤ suc start
least_next true start = omega arith
least_next false start = omega arith

pub in_first : {opened : Bool} {start e : ℕ} (f : ℕ) {span : BlockSpan} → Within opened start e span → Within opened start (e + f) span
in_first f w = record { behind = w.behind; ends = omega (arith, w.ends) }

pub in_second : (opened : Bool) (start e f : ℕ) {span : BlockSpan} → Within false (start + e) f span → Within opened start (e + f) span
in_second opened start e f {span} w = record { behind = omega (arith, least_next opened start, w.behind); ends = omega (arith, w.ends) }

pub known_first : {text : Text} {opened : Bool} {start e f : ℕ} (spans others : List BlockSpan) → ((span : BlockSpan) → Has others span → Within false (start + e) f span)
    → Known text opened start (e + f) (spans ++ others) → Known text opened start e spans
known_first {start = start} {e = e} spans others w k = record {
  marks = λ i l h. k.marks i l (omega arith) ∙ empty_first spans others i (λ span has same. let b = (w span has).behind in omega arith);
  among = λ span has. k.among span (has_first spans others span has);
}

pub known_second : {text : Text} {opened : Bool} {start e f : ℕ} (spans others : List BlockSpan) → ((span : BlockSpan) → Has spans span → Within opened start e span)
    → Known text opened start (e + f) (spans ++ others) → Known text false (start + e) f others
known_second {opened = opened} {start = start} {e = e} spans others w k = record {
  marks = λ i l h. k.marks i (omega (arith, least_next opened start)) (omega arith) ∙ empty_second spans others i (λ span has same. let b = (w span has).ends in omega arith);
  among = λ span has. k.among span (has_second spans others span has);
}

pub still_none : (f : ℕ) → still false false f ≡ false
still_none zero = refl
still_none (suc f) = refl

pub still_both : (opened begun : Bool) (e f : ℕ) → still false (still opened begun e) f ≡ still opened begun (e + f)
still_both true begun e f = still_none f
still_both false begun zero f = ap (still false begun) (sym (zero-add f))
still_both false begun (suc e) f = still_none f ∙ sym (ap (still false begun) (suc-add e f))

excused : (opened begun : Bool) (start e i : ℕ) → i ≡ start + e → still opened begun e ≡ true → (i ≡ start) × (begun ≡ true)
excused true begun start e i same b = let no : ⊥ = cc in elim no [ ]
excused false begun start zero i same b = (omega arith, b)
excused false begun start (suc e) i same b = let no : ⊥ = cc in elim no [ ]

pub both_within : (n : ℕ) (opened : Bool) (a b : Laid) (start : ℕ) → ((span : BlockSpan) → Has (a.blocks n start) span → Within opened start a.extent span)
    → ((span : BlockSpan) → Has (b.blocks n (start + a.extent)) span → Within false (start + a.extent) b.extent span)
    → (span : BlockSpan) → Has ((beside a b).blocks n start) span → Within opened start (beside a b).extent span
both_within n opened a b start g h span has = by (has_either (a.blocks n start) (b.blocks n (start + a.extent)) span has)
  where
    by : Has (a.blocks n start) span ⊎ Has (b.blocks n (start + a.extent)) span → Within opened start (a.extent + b.extent) span
    by (inl l) = in_first b.extent (g span l)
    by (inr r) = in_second opened start a.extent b.extent (h span r)

both_stand : (text : Text) (n : ℕ) (opened begun : Bool) (start : ℕ) (a b : Laid) (vs us : List Placed) → Standing text n opened begun start a vs
    → Standing text n false (still opened begun a.extent) (start + a.extent) b us → Standing text n opened begun start (beside a b) us
both_stand text n opened begun start a b vs us s t = record {
  after = t.after ∙ ap₂ (λ (m : Bool) (k : ℕ). seen text m k) (still_both opened begun a.extent b.extent) (add_assoc start a.extent b.extent);
  each = λ i l h. by i l h (before_or_behind i (start + a.extent));
  blocks = λ span has. with_block span (has_either (a.blocks n start) (b.blocks n (start + a.extent)) span has);
}
  where
    first_one : (i : ℕ) → Right text n start (start + a.extent) i ⊎ ((i ≡ start) × (begun ≡ true)) → Right text n start (start + (a.extent + b.extent)) i ⊎ ((i ≡ start) × (begun ≡ true))
    first_one i (inl r) = inl (wider text n start (start + a.extent) start (start + (a.extent + b.extent)) i (omega arith) (omega arith) r)
    first_one i (inr x) = inr x

    second_one : (i : ℕ) → Right text n (start + a.extent) ((start + a.extent) + b.extent) i ⊎ ((i ≡ start + a.extent) × (still opened begun a.extent ≡ true))
        → Right text n start (start + (a.extent + b.extent)) i ⊎ ((i ≡ start) × (begun ≡ true))
    second_one i (inl r) = inl (wider text n (start + a.extent) ((start + a.extent) + b.extent) start (start + (a.extent + b.extent)) i (omega arith) (omega arith) r)
    second_one i (inr x) = inr (excused opened begun start a.extent i x.0 x.1)

    by : (i : ℕ) → start ≤ i → i < start + (a.extent + b.extent) → (i < start + a.extent) ⊎ (start + a.extent ≤ i) → Right text n start (start + (a.extent + b.extent)) i ⊎ ((i ≡ start) × (begun ≡ true))
    by i l h (inl c) = first_one i (s.each i l c)
    by i l h (inr c) = second_one i (t.each i c (omega arith))

    with_block : (span : BlockSpan) → Has (a.blocks n start) span ⊎ Has (b.blocks n (start + a.extent)) span → StandsWell text.spans (lexemes text) span
    with_block span (inl c) = s.blocks span c
    with_block span (inr c) = t.blocks span c

pub then_stands : {text : Text} {n : ℕ} {opened : Bool} {a b : Laid} {first second : Reading} → Stands text n opened a first → Stands text n false b second
    → Stands text n opened (beside a b) (first ▷ second)
then_stands {text} {n} {opened} {a} {b} g h = record {
  within = λ ts us r start. both_within n opened a b start (g.within ts r.0 r.1 start) (h.within r.0 us r.2 (start + a.extent));
  stands = λ ts us r begun start k e.
      let s = g.stands ts r.0 r.1 begun start (known_first (a.blocks n start) (b.blocks n (start + a.extent)) (h.within r.0 us r.2 (start + a.extent)) k) e in
      let t = h.stands r.0 us r.2 (still opened begun a.extent) (start + a.extent) (known_second (a.blocks n start) (b.blocks n (start + a.extent)) (g.within ts r.0 r.1 start) k) s.after in
      both_stand text n opened begun start a b r.0 us s t;
}
