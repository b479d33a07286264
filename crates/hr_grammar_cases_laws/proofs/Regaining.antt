-- What is needed of a stretch of a text for a reading to take it: its items, its blocks, which stand as the layout
-- rule says, and its lexemes, which go on in the nearest block or stand in another one.
use Rattle.std.proofs.Common.{◌≡◌, ◌⊎◌, ◌≤◌, ◌<◌, ℕ, zero, suc, ◌+◌, Bool, true, false, List, [], ◌∷◌, ◌++◌, length, drop, refl, sym, ap, ap₂, ◌∙◌, subst, inl, inr, arith, add_assoc, drop-drop}
use Rattle.std.proofs.Math.Seq.{drop-append_seam}
use Rattle.std.proofs.lemmas.List.{drop-map, length-append}
use Rattle.hr_base.specs.declared.lexeme.Class.{Class}
use Rattle.hr_base.specs.declared.lexeme.Ending.{Ending}
use Rattle.hr_base.specs.declared.lexeme.Item.{Item}
use Rattle.hr_rules.specs.declared.block.Placed.{Placed}
use Rattle.hr_rules.specs.Blocks.{mark, goes_on, is_open_brace}
use Rattle.hr_rules.specs.Roles.{role_by, role_of}
use Rattle.hr_grammar.specs.Words.{IsOf, IsText}
use Rattle.hr_grammar.specs.Spans.{BlockSpan, Laid, blockless, one as one_laid, ending_as}
use Rattle.hr_grammar.specs.Offside.{placed_among, StandsWell, Next}
use Rattle.hr_grammar_cases.specs.Readings.{Reading, nothing, takes, ◌▷◌, given, one, take_all}
use Rattle.hr_grammar_cases.specs.Laws.{items_left}
use Rattle.hr_grammar_cases.proofs.Readings.{append_assoc}
use Rattle.hr_grammar_cases.proofs.Stretches.{beside, bare_then, Has, has_either, has_first, has_second, is_empty_at, Text, lexemes, mark_or, seen, lexemes_at, seen_plain}
use Rattle.hr_grammar_cases.proofs.Standing.{GoesAt, least, least_next, Within, before, still, still_both, Known, known_first, known_second, both_within}
use Rattle.hr_grammar_cases.proofs.StandingLexemes.{still_opens, opens_known, opens_within}
use Rattle.hr_grammar_cases_laws.proofs.Retaken.{Retakes}

-- ---- items
-- the first item is no `{`
abbrev pub NoBrace : List Item → Type 0
NoBrace [] = Unit {0}
NoBrace (item ∷ items) = is_open_brace (role_of item.lexeme) ≡ false

-- an item of a class and text, or of a class
pub text_firm : (class : Class) (text : List ℕ) (item : Item) → IsText class text item → is_open_brace (role_by class text) ≡ false → is_open_brace (role_of item.lexeme) ≡ false
unfolding role_of
text_firm class text item is e = ap₂ (λ c w. is_open_brace (role_by c w)) is.0 is.1 ∙ e

pub class_firm : (class : Class) (item : Item) → IsOf class item → is_open_brace (role_by class item.lexeme.text) ≡ false → is_open_brace (role_of item.lexeme) ≡ false
unfolding role_of
class_firm class item is e = ap (λ c. is_open_brace (role_by c item.lexeme.text)) is ∙ e

-- nor is it one behind these
abbrev pub Firm : List Item → Type 0
Firm items = (rest : List Item) → NoBrace rest → NoBrace (items ++ rest)

pub nothing_firm : Firm []
nothing_firm rest nb = nb

pub both_firm : (items others : List Item) → Firm items → Firm others → Firm (items ++ others)
both_firm items others f g rest nb = subst NoBrace (sym (append_assoc items others rest)) (f (others ++ rest) (g rest nb))

-- the items behind those of a stretch
pub items_behind : (text : Text) (start e : ℕ) (items rest : List Item) → e ≡ length items → items_left (drop start text.placed) ≡ items ++ rest → items_left (drop (start + e) text.placed) ≡ rest
items_behind text start e items rest size are =
    ap items_left (sym (drop-drop e start text.placed)) ∙ sym (drop-map (λ next. next.item) e (drop start text.placed)) ∙ ap₂ (λ (k : ℕ) (l : List Item). drop k l) size are ∙ drop-append_seam items rest

pub sum_size : (e f : ℕ) (items others : List Item) → e ≡ length items → f ≡ length others → e + f ≡ length (items ++ others)
sum_size e f items others s t = ap₂ (λ (a b : ℕ). a + b) s t ∙ sym (length-append items others)

-- ---- lexemes
-- the lexeme of that number stands in one of the blocks
pub record Covered (spans : List BlockSpan) (i : ℕ) : Type 0 where
  pub span : BlockSpan
  pub among : Has spans span
  pub behind : span.start ≤ i
  pub before : i < span.start + span.extent

abbrev pub Held : Text → ℕ → List BlockSpan → ℕ → Type 0
Held text n spans i = GoesAt text n i ⊎ Covered spans i

-- a part begins with it, and with the stretch
abbrev pub BeginsAt : Bool → Bool → ℕ → ℕ → Type 0
BeginsAt opened begun start i = (i ≡ start) × (still opened begun 0 ≡ true)

-- ---- stretches
-- each of its lexemes goes on, or stands in one of its blocks, or is one of the others
pub record Given (text : Text) (n : ℕ) (opened : Bool) (start : ℕ) (laid : Laid) (items rest : List Item) (Other : ℕ → Type 0) : Type 0 where
  pub known : Known text opened start laid.extent (laid.blocks n start)
  pub owned : (span : BlockSpan) → Has text.spans span → least opened start ≤ span.start → span.start ≤ start + laid.extent → Has (laid.blocks n start) span
  pub stands : (span : BlockSpan) → Has (laid.blocks n start) span → StandsWell text.spans (lexemes text) span
  pub each : (i : ℕ) → start ≤ i → i < start + laid.extent → Held text n (laid.blocks n start) i ⊎ Other i
  pub items_are : items_left (drop start text.placed) ≡ items ++ rest
  -- behind a block stands no `{`
  pub clear : (laid.blocks n start ≡ []) ⊎ NoBrace rest

pub record Regains (text : Text) (n : ℕ) (opened : Bool) (laid : Laid) (items : List Item) (reading : Reading) : Type 0 where
  pub size : laid.extent ≡ length items
  pub within : (start : ℕ) (span : BlockSpan) → Has (laid.blocks n start) span → Within opened start laid.extent span
  pub regains : (begun : Bool) (start : ℕ) (rest : List Item) → Given text n opened start laid items rest (BeginsAt opened begun start)
      → reading (before text opened begun start) (seen text (still opened begun laid.extent) (start + laid.extent))

pub same_regains : {text : Text} {n : ℕ} {opened : Bool} {laid other : Laid} {items others : List Item} {reading : Reading} → laid ≡ other → items ≡ others
    → Regains text n opened laid items reading → Regains text n opened other others reading
same_regains {text} {n} {opened} {laid} {other} {items} {others} {reading} e f s = subst (λ l. Regains text n opened other l reading) f (subst (λ l. Regains text n opened l items reading) e s)

-- a reading that another one gives
pub through : {text : Text} {n : ℕ} {opened : Bool} {laid : Laid} {items : List Item} {first second : Reading} → ((ts us : List Placed) → first ts us → second ts us)
    → Regains text n opened laid items first → Regains text n opened laid items second
through {text} {n} {opened} {laid} f s = record {
  size = s.size;
  within = s.within;
  regains = λ begun start rest k. f (before text opened begun start) (seen text (still opened begun laid.extent) (start + laid.extent)) (s.regains begun start rest k);
}

pub given_regains : {text : Text} {n : ℕ} {opened : Bool} {laid : Laid} {items : List Item} {P : Type 0} {reading : Reading} → P → Regains text n opened laid items reading
    → Regains text n opened laid items (given P reading)
given_regains p s = through (λ ts us r. (p, r)) s

-- how it ends says nothing here
pub ending_regains : (ending : Ending) {text : Text} {n : ℕ} {opened : Bool} {laid : Laid} {items : List Item} {reading : Reading} → Regains text n opened laid items reading
    → Regains text n opened (ending_as ending laid) items reading
ending_regains ending {text} {n} {opened} {laid} s = record {
  size = s.size;
  within = s.within;
  regains = λ begun start rest k.
      s.regains begun start rest (record { known = record { marks = k.known.marks; among = k.known.among }; owned = k.owned; stands = k.stands; each = k.each; items_are = k.items_are; clear = k.clear });
}

-- ---- one stretch behind another
none_first : (first second : List BlockSpan) → first ++ second ≡ [] → first ≡ []
none_first [] second e = refl
none_first (x ∷ first) second e = let no : ⊥ = cc in elim no [ ]

none_second : (first second : List BlockSpan) → first ++ second ≡ [] → second ≡ []
none_second [] second e = e
none_second (x ∷ first) second e = let no : ⊥ = cc in elim no [ ]

-- where the first stretch has a block, what is behind it begins with no `{`
abbrev pub Cut : Laid → List Item → ℕ → Type 0
Cut laid others n = ((start : ℕ) → laid.blocks n start ≡ []) ⊎ Firm others

pub given_first : {text : Text} {n : ℕ} {opened : Bool} {start : ℕ} {Other First : ℕ → Type 0} (items others rest : List Item) (a b : Laid) → Cut a others n
    → ((span : BlockSpan) → Has (b.blocks n (start + a.extent)) span → Within false (start + a.extent) b.extent span)
    → ((i : ℕ) → i < start + a.extent → Other i → First i) → Given text n opened start (beside a b) (items ++ others) rest Other → Given text n opened start a items (others ++ rest) First
given_first {text} {n} {opened} {start} {Other} {First} items others rest a b cut w turn k = record {
  known = known_first (a.blocks n start) (b.blocks n (start + a.extent)) w k.known;
  owned = λ span has l h. own span h (has_either (a.blocks n start) (b.blocks n (start + a.extent)) span (k.owned span has l (omega (arith, h))));
  stands = λ span has. k.stands span (has_first (a.blocks n start) (b.blocks n (start + a.extent)) span has);
  each = λ i l h. at i h (k.each i l (omega (arith, h)));
  items_are = k.items_are ∙ append_assoc items others rest;
  clear = clear_by cut k.clear;
}
  where
    own : (span : BlockSpan) → span.start ≤ start + a.extent → Has (a.blocks n start) span ⊎ Has (b.blocks n (start + a.extent)) span → Has (a.blocks n start) span
    own span h (inl c) = c
    own span h (inr c) = let m = (w span c).behind in let no : ⊥ = omega arith in elim no [ ]

    cover : (i : ℕ) → i < start + a.extent → (c : Covered (a.blocks n start ++ b.blocks n (start + a.extent)) i) → Has (a.blocks n start) c.span ⊎ Has (b.blocks n (start + a.extent)) c.span
        → Covered (a.blocks n start) i
    cover i h c (inl d) = record { span = c.span; among = d; behind = c.behind; before = c.before }
    cover i h c (inr d) = let m = (w c.span d).behind in let l = c.behind in let no : ⊥ = omega arith in elim no [ ]

    at : (i : ℕ) → i < start + a.extent → Held text n (a.blocks n start ++ b.blocks n (start + a.extent)) i ⊎ Other i → Held text n (a.blocks n start) i ⊎ First i
    at i h (inl (inl g)) = inl (inl g)
    at i h (inl (inr c)) = inl (inr (cover i h c (has_either (a.blocks n start) (b.blocks n (start + a.extent)) c.span c.among)))
    at i h (inr x) = inr (turn i h x)

    clear_by : Cut a others n → (a.blocks n start ++ b.blocks n (start + a.extent) ≡ []) ⊎ NoBrace rest → (a.blocks n start ≡ []) ⊎ NoBrace (others ++ rest)
    clear_by (inl c) d = inl (c start)
    clear_by (inr f) (inl e) = inl (none_first (a.blocks n start) (b.blocks n (start + a.extent)) e)
    clear_by (inr f) (inr nb) = inr (f rest nb)

moved : (opened begun : Bool) (start e i : ℕ) → start + e ≤ i → i ≡ start → still opened begun 0 ≡ true → (i ≡ start + e) × (still opened begun e ≡ true)
moved true begun start e i l same s = let no : ⊥ = cc in elim no [ ]
moved false begun start zero i l same s = (omega arith, s)
moved false begun start (suc e) i l same s = let no : ⊥ = omega arith in elim no [ ]

pub given_second : {text : Text} {n : ℕ} {opened : Bool} {start : ℕ} {Other Second : ℕ → Type 0} (items others rest : List Item) (a b : Laid) → a.extent ≡ length items
    → ((span : BlockSpan) → Has (a.blocks n start) span → Within opened start a.extent span)
    → ((i : ℕ) → start + a.extent ≤ i → Other i → Second i) → Given text n opened start (beside a b) (items ++ others) rest Other → Given text n false (start + a.extent) b others rest Second
given_second {text} {n} {opened} {start} {Other} {Second} items others rest a b size w turn k = record {
  known = known_second (a.blocks n start) (b.blocks n (start + a.extent)) w k.known;
  owned = λ span has l h.
      own span l (has_either (a.blocks n start) (b.blocks n (start + a.extent)) span (k.owned span has (omega (arith, least_next opened start, l)) (omega (arith, h))));
  stands = λ span has. k.stands span (has_second (a.blocks n start) (b.blocks n (start + a.extent)) span has);
  each = λ i l h. at i l (k.each i (omega (arith, l)) (omega (arith, h)));
  items_are = items_behind text start a.extent items (others ++ rest) size (k.items_are ∙ append_assoc items others rest);
  clear = clear_by k.clear;
}
  where
    own : (span : BlockSpan) → suc (start + a.extent) ≤ span.start → Has (a.blocks n start) span ⊎ Has (b.blocks n (start + a.extent)) span → Has (b.blocks n (start + a.extent)) span
    own span l (inl c) = let m = (w span c).ends in let no : ⊥ = omega arith in elim no [ ]
    own span l (inr c) = c

    cover : (i : ℕ) → start + a.extent ≤ i → (c : Covered (a.blocks n start ++ b.blocks n (start + a.extent)) i) → Has (a.blocks n start) c.span ⊎ Has (b.blocks n (start + a.extent)) c.span
        → Covered (b.blocks n (start + a.extent)) i
    cover i l c (inl d) = let m = (w c.span d).ends in let h = c.before in let no : ⊥ = omega arith in elim no [ ]
    cover i l c (inr d) = record { span = c.span; among = d; behind = c.behind; before = c.before }

    at : (i : ℕ) → start + a.extent ≤ i → Held text n (a.blocks n start ++ b.blocks n (start + a.extent)) i ⊎ Other i → Held text n (b.blocks n (start + a.extent)) i ⊎ Second i
    at i l (inl (inl g)) = inl (inl g)
    at i l (inl (inr c)) = inl (inr (cover i l c (has_either (a.blocks n start) (b.blocks n (start + a.extent)) c.span c.among)))
    at i l (inr x) = inr (turn i l x)

    clear_by : (a.blocks n start ++ b.blocks n (start + a.extent) ≡ []) ⊎ NoBrace rest → (b.blocks n (start + a.extent) ≡ []) ⊎ NoBrace rest
    clear_by (inl e) = inl (none_second (a.blocks n start) (b.blocks n (start + a.extent)) e)
    clear_by (inr nb) = inr nb

pub then_regains : {text : Text} {n : ℕ} {opened : Bool} {a b : Laid} {items others : List Item} {first second : Reading} → Cut a others n → Regains text n opened a items first
    → Regains text n false b others second → Regains text n opened (beside a b) (items ++ others) (first ▷ second)
then_regains {text} {n} {opened} {a} {b} {items} {others} {first} {second} cut g h = record {
  size = sum_size a.extent b.extent items others g.size h.size;
  within = λ start. both_within n opened a b start (g.within start) (h.within (start + a.extent));
  regains = λ begun start rest k. (
    seen text (still opened begun a.extent) (start + a.extent),
    g.regains begun start (others ++ rest) (given_first items others rest a b cut (h.within (start + a.extent)) (λ i l x. x) k),
    subst (λ us. second (seen text (still opened begun a.extent) (start + a.extent)) us)
        (ap₂ (λ (m : Bool) (i : ℕ). seen text m i) (still_both opened begun a.extent b.extent) (add_assoc start a.extent b.extent))
        (h.regains (still opened begun a.extent) (start + a.extent) rest (given_second items others rest a b g.size (g.within start) (λ i l x. moved opened begun start a.extent i l x.0 x.1) k)),
  );
}

-- ---- lexemes without a block
pub nothing_regains : {text : Text} {n : ℕ} → Regains text n false (blockless []) [] nothing
nothing_regains {text} {n} = record {
  size = refl;
  within = λ start span has. elim has [ ];
  regains = λ begun start rest k. ap (λ (i : ℕ). seen text begun i) (none_more start);
}
  where
    none_more : (i : ℕ) → i + 0 ≡ i
    none_more i = omega arith

among_next : (P : Placed → Type 0) (spans : List BlockSpan) (i : ℕ) (placed : List Placed) → Next P (placed_among spans i placed) → Next P (mark_or (is_empty_at spans i) placed)
among_next P spans i [] h = h
among_next P spans i (next ∷ placed) h = h

-- what holds of the next lexeme in the text holds of it as it is seen
pub next_seen : (P : Placed → Type 0) (text : Text) (i : ℕ) → Next P (drop i (lexemes text)) → Next P (seen text false i)
next_seen P text i h = among_next P text.spans i (drop i text.placed) (subst (λ l. Next P l) (lexemes_at text i) h)

-- the first of the items that are left
pub the_first : {item other : Item} {items others : List Item} → item ∷ items ≡ other ∷ others → item ≡ other
the_first e = cc

not_none : {item : Item} {items : List Item} → [] ≡ item ∷ items → ⊥
not_none e = cc

begun_takes : (n : ℕ) (item : Item) (rest : List Item) (ts us : List Placed) → items_left ts ≡ item ∷ rest → us ≡ drop 1 ts → takes n item (mark false ts) us
begun_takes n item rest [] us e u = elim (not_none e) [ ]
begun_takes n item rest (next ∷ ts) us e u = (refl, the_first e, u)

next_takes : (n : ℕ) (item : Item) (rest : List Item) (empty : Bool) (ts us : List Placed) → items_left ts ≡ item ∷ rest → Next (λ next. goes_on n next ≡ true) (mark_or empty ts) → us ≡ drop 1 ts
    → takes n item (mark_or empty ts) us
next_takes n item rest empty [] us e g u = elim (not_none e) [ ]
next_takes n item rest empty (next ∷ ts) us e g u = (g, the_first e, u)

pub takes_here : (text : Text) (n : ℕ) (item : Item) (rest : List Item) (begun : Bool) (start : ℕ) (us : List Placed) → items_left (drop start text.placed) ≡ item ∷ rest
    → GoesAt text n start ⊎ (begun ≡ true) → us ≡ drop (start + 1) text.placed → takes n item (seen text begun start) us
takes_here text n item rest true start us are g u = begun_takes n item rest (drop start text.placed) us are (u ∙ sym (drop-drop 1 start text.placed))
takes_here text n item rest false start us are (inl g) u =
    next_takes n item rest (is_empty_at text.spans start) (drop start text.placed) us are (next_seen (λ next. goes_on n next ≡ true) text start g) (u ∙ sym (drop-drop 1 start text.placed))
takes_here text n item rest false start us are (inr b) u = let no : ⊥ = cc in elim no [ ]

not_covered : (text : Text) (n : ℕ) (begun : Bool) (start : ℕ) → Held text n [] start ⊎ BeginsAt false begun start start → GoesAt text n start ⊎ (begun ≡ true)
not_covered text n begun start (inl (inl g)) = inl g
not_covered text n begun start (inl (inr c)) = elim c.among [ ]
not_covered text n begun start (inr x) = inr x.1

pub takes_regains : {text : Text} {n : ℕ} (item : Item) → Regains text n false (one_laid item) (item ∷ []) (takes n item)
takes_regains {text} {n} item = record {
  size = refl;
  within = λ start span has. elim has [ ];
  regains = λ begun start rest k.
      takes_here text n item rest begun start (seen text false (start + 1)) k.items_are (not_covered text n begun start (k.each start (omega arith) (omega arith)))
      (sym (seen_plain text (start + 1) (k.known.marks (start + 1) (omega arith) (omega arith))));
}

pub one_regains : {text : Text} {n : ℕ} (Is : Item → Type 0) (item : Item) → Is item → Regains text n false (one_laid item) (item ∷ []) (one n Is item)
one_regains Is item is = given_regains is (takes_regains item)

pub all_regain : {text : Text} {n : ℕ} (items : List Item) → Regains text n false (blockless items) items (take_all n items)
all_regain [] = nothing_regains
all_regain (item ∷ items) = same_regains (bare_then item items) refl (then_regains (inl (λ start. refl)) (takes_regains item) (all_regain items))

-- a reading that knows nothing of layout
pub retaken_regains : {text : Text} {n : ℕ} {items : List Item} {reading : Reading} → Retakes n items reading → Regains text n false (blockless items) items reading
retaken_regains {items = items} t = through t.retakes (all_regain items)

-- such a reading, or an own lexeme, before another one
pub bare_then_regains : {text : Text} {n : ℕ} {b : Laid} {items others : List Item} {first second : Reading} → Retakes n items first → Regains text n false b others second
    → Regains text n false (beside (blockless items) b) (items ++ others) (first ▷ second)
bare_then_regains t h = then_regains (inl (λ start. refl)) (retaken_regains t) h

pub one_then_regains : {text : Text} {n : ℕ} {b : Laid} {others : List Item} {second : Reading} (Is : Item → Type 0) (item : Item) → Is item → Regains text n false b others second
    → Regains text n false (beside (one_laid item) b) (item ∷ others) (one n Is item ▷ second)
one_then_regains Is item is h = then_regains (inl (λ start. refl)) (one_regains Is item is) h

-- ---- the word that opens a block
given_opened : {text : Text} {n : ℕ} {begun : Bool} {start : ℕ} {items rest : List Item} (word : Item) (b : Laid) → Given text n false start (beside (one_laid word) b) (word ∷ items) rest (BeginsAt false begun start)
    → Given text n true (start + 1) b items rest (BeginsAt true false (start + 1))
given_opened {text} {n} {begun} {start} {items} {rest} word b k = record {
  known = opens_known k.known;
  owned = λ span has l h. k.owned span has (omega (arith, l)) (omega (arith, h));
  stands = k.stands;
  each = λ i l h. at i l (k.each i (omega (arith, l)) (omega (arith, h)));
  items_are = items_behind text start 1 (word ∷ []) (items ++ rest) refl k.items_are;
  clear = k.clear;
}
  where
    at : (i : ℕ) → start + 1 ≤ i → Held text n (b.blocks n (start + 1)) i ⊎ BeginsAt false begun start i → Held text n (b.blocks n (start + 1)) i ⊎ BeginsAt true false (start + 1) i
    at i l (inl h) = inl h
    at i l (inr x) = let same = x.0 in let no : ⊥ = omega arith in elim no [ ]

word_goes : (text : Text) (n : ℕ) (begun : Bool) (start f : ℕ) (spans : List BlockSpan) → ((span : BlockSpan) → Has spans span → Within true (start + 1) f span) → Held text n spans start ⊎ BeginsAt false begun start start
    → GoesAt text n start ⊎ (begun ≡ true)
word_goes text n begun start f spans w (inl (inl g)) = inl g
word_goes text n begun start f spans w (inl (inr c)) = let m = (w c.span c.among).behind in let l = c.behind in let no : ⊥ = omega arith in elim no [ ]
word_goes text n begun start f spans w (inr x) = inr x.1

pub opens_regains : {text : Text} {n : ℕ} {b : Laid} {items : List Item} {second : Reading} (Is : Item → Type 0) (word : Item) → Is word → Regains text n true b items second
    → Regains text n false (beside (one_laid word) b) (word ∷ items) (one n Is word ▷ second)
opens_regains {text} {n} {b} {items} {second} Is word is h = record {
  size = sum_size 1 b.extent (word ∷ []) items refl h.size;
  within = λ start span has. opens_within (h.within (start + 1) span has);
  regains = λ begun start rest k. (
    drop (start + 1) text.placed,
    (
      is,
      takes_here text n word (items ++ rest) begun start (drop (start + 1) text.placed) k.items_are
          (word_goes text n begun start b.extent (b.blocks n (start + 1)) (h.within (start + 1)) (k.each start (omega arith) (omega arith))) refl,
    ),
    subst (λ us. second (drop (start + 1) text.placed) us)
        (ap₂ (λ (m : Bool) (i : ℕ). seen text m i) (sym (still_opens begun b.extent)) (add_assoc start 1 b.extent))
        (h.regains false (start + 1) rest (given_opened word b k)),
  );
}
