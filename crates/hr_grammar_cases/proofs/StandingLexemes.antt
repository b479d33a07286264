-- Stretches of lexemes without a block, lists of stretches, and the word that opens a block.
use Rattle.std.proofs.Common.{◌≡◌, ◌⊎◌, ◌≤◌, ◌<◌, ℕ, ◌+◌, Bool, true, false, List, [], ◌∷◌, map, drop, refl, sym, ap, ap₂, ◌∙◌, subst, inl, inr, add-zero, one-add, add_assoc, arith}
use Rattle.hr_base.specs.declared.lexeme.Item.{Item}
use Rattle.hr_rules.specs.declared.block.Placed.{Placed}
use Rattle.hr_rules.specs.Blocks.{goes_on}
use Rattle.hr_grammar.specs.Spans.{BlockSpan, Laid, blockless, one as one_laid, row}
use Rattle.hr_grammar_cases.specs.Readings.{Reading, nothing, takes, ◌▷◌, one, take_all, in_turn}
use Rattle.hr_grammar_cases.proofs.Taken.{Takes}
use Rattle.hr_grammar.specs.Offside.{Next}
use Rattle.hr_grammar_cases.proofs.Stretches.{beside, bare_then, Text, seen, next_in, seen_plain, behind_seen, before_or_behind}
use Rattle.hr_grammar_cases.proofs.Standing.{GoesAt, Right, wider, Within, still, Known, Standing, Stands, same_stands, given_stands, then_stands}

pub none_between : (start i : ℕ) → start ≤ i → i < start + 0 → ⊥
none_between start i l h = omega arith

pub nothing_stands : {text : Text} {n : ℕ} → Stands text n false (blockless []) nothing
nothing_stands {text} {n} = record {
  within = λ ts us r start span has. elim has [ ];
  stands = λ ts us r begun start k e. record {
    after = r ∙ e ∙ ap (λ (i : ℕ). seen text begun i) (sym (add-zero start));
    each = λ i l h. elim (none_between start i l h) [ ];
    blocks = λ span has. elim has [ ];
  };
}
  where
    same_length : (u : ℕ) → u ≡ 0 + u
    same_length u = omega arith

    same_start : (i : ℕ) → i ≡ i + 0
    same_start i = omega arith

-- behind a lexeme that was taken are those behind it in the text
pub took : (text : Text) (begun : Bool) (start : ℕ) (next : Placed) (ts us : List Placed) → us ≡ ts → next ∷ ts ≡ seen text begun start → us ≡ drop (start + 1) text.placed
took text begun start next ts us u e = u ∙ ap (λ (l : List Placed). drop 1 l) e ∙ behind_seen text begun start

pub took_item : (text : Text) (n : ℕ) (item : Item) (begun : Bool) (start : ℕ) (ts us : List Placed) → takes n item ts us → ts ≡ seen text begun start → us ≡ drop (start + 1) text.placed
took_item text n item begun start [] us r e = elim r [ ]
took_item text n item begun start (next ∷ ts) us r e = took text begun start next ts us r.2 e

took_goes : (text : Text) (n : ℕ) (item : Item) (start : ℕ) (ts us : List Placed) → takes n item ts us → ts ≡ seen text false start → GoesAt text n start
took_goes text n item start [] us r e = elim r [ ]
took_goes text n item start (next ∷ ts) us r e = next_in (λ x. goes_on n x ≡ true) text start (subst (λ l. Next (λ x. goes_on n x ≡ true) l) e r.0)

pub takes_stands : {text : Text} {n : ℕ} (item : Item) → Stands text n false (one_laid item) (takes n item)
takes_stands {text} {n} item = record {
  within = λ ts us r start span has. elim has [ ];
  stands = λ ts us r begun start k e. record {
    after = took_item text n item begun start ts us r e ∙ seen_plain text (start + 1) (k.marks (start + 1) (omega arith) (omega arith));
    each = λ i l h. first_one ts us start r begun e i (omega arith);
    blocks = λ span has. elim has [ ];
  };
}
  where
    first_one : (ts us : List Placed) (start : ℕ) → takes n item ts us → (begun : Bool) → ts ≡ seen text begun start → (i : ℕ) → i ≡ start
        → Right text n start (start + 1) i ⊎ ((i ≡ start) × (begun ≡ true))
    first_one ts us start r true e i same = inr (same, refl)
    first_one ts us start r false e i same = inl (inl (subst (λ j. GoesAt text n j) (sym same) (took_goes text n item start ts us r e)))

pub one_stands : {text : Text} {n : ℕ} (Is : Item → Type 0) (item : Item) → Stands text n false (one_laid item) (one n Is item)
one_stands Is item = given_stands (Is item) (takes_stands item)

pub all_stand : {text : Text} {n : ℕ} (items : List Item) → Stands text n false (blockless items) (take_all n items)
all_stand [] = nothing_stands
all_stand (item ∷ items) = same_stands (bare_then item items) (then_stands (takes_stands item) (all_stand items))

-- a reading that knows nothing of layout
pub taken_stands : {text : Text} {n : ℕ} {items : List Item} {reading : Reading} → Takes n items reading → Stands text n false (blockless items) reading
taken_stands {text} {n} {items} t = let s : Stands text n false (blockless items) (take_all n items) = all_stand items in record {
  within = λ ts us r. s.within ts us (t.takes_all ts us r);
  stands = λ ts us r. s.stands ts us (t.takes_all ts us r);
}

-- ---- lists
pub in_turn_stands : {T : Type 0} {text : Text} {n : ℕ} (laid_of : T → Laid) (of : T → Reading) → ((x : T) → Stands text n false (laid_of x) (of x))
    → (xs : List T) → Stands text n false (row (map laid_of xs)) (in_turn of xs)
in_turn_stands laid_of of each [] = nothing_stands
in_turn_stands laid_of of each (x ∷ xs) = then_stands (each x) (in_turn_stands laid_of of each xs)

-- ---- the word that opens a block
pub opens_known : {text : Text} {start f : ℕ} {spans : List BlockSpan} → Known text false start (1 + f) spans → Known text true (start + 1) f spans
opens_known {start = start} k = record { marks = λ i l h. k.marks i (omega arith) (omega arith); among = k.among }

pub opens_within : {start f : ℕ} {span : BlockSpan} → Within true (start + 1) f span → Within false start (1 + f) span
opens_within w = record { behind = omega (arith, w.behind); ends = omega (arith, w.ends) }

pub still_opens : (begun : Bool) (f : ℕ) → still false begun (1 + f) ≡ false
still_opens begun f = ap (still false begun) (one-add f)

opens_stand : (text : Text) (n : ℕ) (begun : Bool) (start : ℕ) (word : Item) (b : Laid) (us : List Placed) → Right text n start (start + 1) start ⊎ (begun ≡ true)
    → Standing text n true false (start + 1) b us → Standing text n false begun start (beside (one_laid word) b) us
opens_stand text n begun start word b us w t = record {
  after = t.after ∙ ap₂ (λ (m : Bool) (k : ℕ). seen text m k) (sym (still_opens begun b.extent)) (add_assoc start 1 b.extent);
  each = λ i l h. by i l h (before_or_behind i (start + 1));
  blocks = t.blocks;
}
  where
    the_word : (i : ℕ) → i ≡ start → Right text n start (start + 1) start ⊎ (begun ≡ true) → Right text n start (start + (1 + b.extent)) i ⊎ ((i ≡ start) × (begun ≡ true))
    the_word i same (inl r) = inl (subst (λ j. Right text n start (start + (1 + b.extent)) j) (sym same) (wider text n start (start + 1) start (start + (1 + b.extent)) start (omega arith) (omega arith) r))
    the_word i same (inr x) = inr (same, x)

    the_rest : (i : ℕ) → Right text n (start + 1) ((start + 1) + b.extent) i ⊎ ((i ≡ start + 1) × (false ≡ true)) → Right text n start (start + (1 + b.extent)) i ⊎ ((i ≡ start) × (begun ≡ true))
    the_rest i (inl r) = inl (wider text n (start + 1) ((start + 1) + b.extent) start (start + (1 + b.extent)) i (omega arith) (omega arith) r)
    the_rest i (inr x) = let f = x.1 in let no : ⊥ = cc in elim no [ ]

    by : (i : ℕ) → start ≤ i → i < start + (1 + b.extent) → (i < start + 1) ⊎ (start + 1 ≤ i) → Right text n start (start + (1 + b.extent)) i ⊎ ((i ≡ start) × (begun ≡ true))
    by i l h (inl c) = the_word i (omega arith) w
    by i l h (inr c) = the_rest i (t.each i c (omega arith))

word_right : (text : Text) (n : ℕ) (word : Item) (begun : Bool) (start : ℕ) (ts us : List Placed) → takes n word ts us → ts ≡ seen text begun start
    → Right text n start (start + 1) start ⊎ (begun ≡ true)
word_right text n word true start ts us r e = inr refl
word_right text n word false start ts us r e = inl (inl (took_goes text n word start ts us r e))

pub opens_stands : {text : Text} {n : ℕ} {b : Laid} {second : Reading} (Is : Item → Type 0) (word : Item) → Stands text n true b second
    → Stands text n false (beside (one_laid word) b) (one n Is word ▷ second)
opens_stands {text} {n} {b} Is word h = record {
  within = λ ts us r start span has. opens_within (h.within r.0 us r.2 (start + 1) span has);
  stands = λ ts us r begun start k e.
      opens_stand text n begun start word b us (word_right text n word begun start ts r.0 r.1.1 e)
      (h.stands r.0 us r.2 false (start + 1) (opens_known k) (took_item text n word begun start ts r.0 r.1.1 e));
}
