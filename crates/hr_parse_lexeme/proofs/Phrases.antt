-- How readings are put together, from where a cursor stood to where it stands.
use Rattle.std.proofs.Common.{◌≡◌, ℕ, zero, suc, ◌+◌, ◌≤◌, List, [], ◌∷◌, ◌++◌, Option, Some, None, refl, sym, ap, ◌∙◌, subst, arith}
use Rattle.hr_base.specs.declared.lexeme.Item.{Item}
use Rattle.hr_rules.specs.declared.block.OpenBlock.{OpenBlock}
use Rattle.hr_rules.specs.declared.block.Placed.{Placed}
use Rattle.hr_rules.specs.Blocks.{enclosing}
use Rattle.hr_layout.specs.Standing.{Standing}
use Rattle.hr_tree.specs.declared.lists.Listed.{Listed}
use Rattle.hr_grammar_cases.specs.Readings.{Reading, ◌▷◌, given, one, takes, take_all, spelled, there, in_turn, separated}
use Rattle.hr_grammar_cases.specs.Derivations.{Derivations}
use Rattle.hr_grammar_cases.specs.Modules.{derivations}
use Rattle.hr_parse_lexeme.specs.Reads.{Phrase, Consumes, Takes, TakesAll, Spells, Trees, ReadsEach, with_separator, ReadsParts}

le_both : (a b c : ℕ) → a ≤ b → b ≤ c → a ≤ c
le_both a b c p q = omega arith

none_below : (a : ℕ) → 0 ≤ a
none_below a = omega arith

-- the second reading stands where the first one left the cursor, in the same blocks
at_column : {h : ℕ} {s : Phrase} {b c : Standing} {blocks : List OpenBlock} → Consumes h s b c → b.blocks ≡ blocks → (levels : ℕ) → h ≤ levels
    → s (derivations levels) (enclosing blocks) b.rest c.rest
at_column {s} {b} {c} {blocks} q e levels within = subst (λ blocks. s (derivations levels) (enclosing blocks) b.rest c.rest) e (q.read levels within)

-- the last of several
pub last : {h m : ℕ} {r : Phrase} {a b : Standing} → Consumes h r a b → h ≤ m → Consumes m r a b
last {h} {m} p within = record { read = λ levels le. p.read levels (le_both h m levels within le); blocks = p.blocks }

-- one behind another
pub then : {h m : ℕ} {r s : Phrase} {a b c : Standing} → Consumes h r a b → h ≤ m → Consumes m s b c → Consumes m (λ below n. r below n ▷ s below n) a c
then {h} {m} {b} p within q = record {
  read = λ levels le. (b.rest, p.read levels (le_both h m levels within le), at_column q p.blocks levels le);
  blocks = q.blocks ∙ p.blocks;
}

-- a lexeme, where others or trees follow, and as the last one
pub one_read : {Is : Item → Type 0} {item : Item} {a b : Standing} → Takes Is item a b → Consumes 0 (λ below n. one n Is item) a b
one_read p = record { read = λ levels le. (p.is, p.taken.read levels le); blocks = p.taken.blocks }

pub item : {Is : Item → Type 0} {item : Item} {m : ℕ} {s : Phrase} {a b c : Standing} → Takes Is item a b → Consumes m s b c
    → Consumes m (λ below n. one n Is item ▷ s below n) a c
item {m} p q = then (one_read p) (none_below m) q

pub last_item : {Is : Item → Type 0} {item : Item} {m : ℕ} {a b : Standing} → Takes Is item a b → Consumes m (λ below n. one n Is item) a b
last_item {m} p = last (one_read p) (none_below m)

-- the same for a name
pub spelled_read : {T : Type 0} {Is : T → Type 0} {items_of : T → List Item} {x : T} {a b : Standing} → Spells Is items_of x a b → Consumes 0 (λ below n. spelled n Is items_of x) a b
spelled_read p = record { read = λ levels le. (p.is, p.taken.taken.read levels le); blocks = p.taken.taken.blocks }

pub name : {T : Type 0} {Is : T → Type 0} {items_of : T → List Item} {x : T} {m : ℕ} {s : Phrase} {a b c : Standing} → Spells Is items_of x a b → Consumes m s b c
    → Consumes m (λ below n. spelled n Is items_of x ▷ s below n) a c
name {m} p q = then (spelled_read p) (none_below m) q

pub last_name : {T : Type 0} {Is : T → Type 0} {items_of : T → List Item} {x : T} {m : ℕ} {a b : Standing} → Spells Is items_of x a b → Consumes m (λ below n. spelled n Is items_of x) a b
last_name {m} p = last (spelled_read p) (none_below m)

-- on a condition
pub where_given : {m : ℕ} {r : Phrase} {a b : Standing} (P : Type 0) → P → Consumes m r a b → Consumes m (λ below n. given P (r below n)) a b
where_given P holds p = record { read = λ levels le. (holds, p.read levels le); blocks = p.blocks }

-- where nothing was taken in between
pub unmoved : {h : ℕ} {r : Phrase} {a b c : Standing} → b ≡ a → Consumes h r b c → Consumes h r a c
unmoved {h} {r} {c} e p = subst (λ s. Consumes h r s c) e p

pub stays : {h : ℕ} {r : Phrase} {a b c : Standing} → c ≡ b → Consumes h r a b → Consumes h r a c
stays {h} {r} {a} e p = subst (λ s. Consumes h r a s) (sym e) p

pub all_unmoved : {items : List Item} {a b c : Standing} → b ≡ a → TakesAll items b c → TakesAll items a c
all_unmoved e p = record { taken = unmoved e p.taken }

-- lexemes that are taken
pub nothing_taken : (a : Standing) → TakesAll [] a a
nothing_taken a = record { taken = record { read = λ levels le. refl; blocks = refl } }

pub taken : {Is : Item → Type 0} {item : Item} {items : List Item} {a b c : Standing} → Takes Is item a b → TakesAll items b c → TakesAll (item ∷ items) a c
taken {b} p q = record {
  taken = record {
    read = λ levels le. (b.rest, p.taken.read levels le, at_column q.taken p.taken.blocks levels le);
    blocks = q.taken.blocks ∙ p.taken.blocks;
  };
}

all_more : (n : ℕ) (items : List Item) (item : Item) (ts vs us : List Placed) → take_all n items ts vs → takes n item vs us → take_all n (items ++ item ∷ []) ts us
all_more n [] item ts vs us e t = (us, subst (λ l. takes n item l us) e t, refl)
all_more n (next ∷ items) item ts vs us h t = (h.0, h.1, all_more n items item h.0 vs us h.2 t)

pub taken_more : {Is : Item → Type 0} {item : Item} {items : List Item} {a b c : Standing} → TakesAll items a b → Takes Is item b c → TakesAll (items ++ item ∷ []) a c
taken_more {item} {items} {a} {b} {c} p q = record {
  taken = record {
    read = λ levels le. all_more (enclosing a.blocks) items item a.rest b.rest c.rest (p.taken.read levels le) (at_column q.taken p.taken.blocks levels le);
    blocks = q.taken.blocks ∙ p.taken.blocks;
  };
}

pub spells_as : {T : Type 0} {Is Other : T → Type 0} {items_of : T → List Item} {x : T} {a b : Standing} → (Is x → Other x) → Spells Is items_of x a b → Spells Other items_of x a b
spells_as turn p = record { is = turn p.is; taken = p.taken }

-- each of a list
turn_more_in : {T : Type 0} (of : T → Reading) (xs : List T) (x : T) (ts vs us : List Placed) → in_turn of xs ts vs → of x vs us → in_turn of (xs ++ x ∷ []) ts us
turn_more_in of [] x ts vs us e h = (us, subst (λ l. of x l us) e h, refl)
turn_more_in of (y ∷ ys) x ts vs us h g = (h.0, h.1, turn_more_in of ys x h.0 vs us h.2 g)

pub each_none : {T : Type 0} (of : Trees T) (a : Standing) → ReadsEach 0 of [] a a
each_none of a = record { reads = record { read = λ levels le. refl; blocks = refl } }

pub each_more : {T : Type 0} {of : Trees T} {h k : ℕ} {xs : List T} {x : T} {a b c : Standing} (m : ℕ)
    → ReadsEach h of xs a b → h ≤ m → Consumes k (λ below n. of below n x) b c → k ≤ m → ReadsEach m of (xs ++ x ∷ []) a c
each_more {of} {h} {k} {xs} {x} {a} {b} {c} m p in_p q in_q = record {
  reads = record {
    read = λ levels le. turn_more_in (of (derivations levels) (enclosing a.blocks)) xs x a.rest b.rest c.rest
        (p.reads.read levels (le_both h m levels in_p le)) (at_column {s = λ below n. of below n x} q p.reads.blocks levels (le_both k m levels in_q le));
    blocks = q.blocks ∙ p.reads.blocks;
  };
}

-- parts with separators: a first one alone
pub parts_begin : {T : Type 0} (Separates : Item → Type 0) (of : Trees T) {h : ℕ} (x : T) {a b : Standing} → Consumes h (λ below n. of below n x) a b → ReadsParts h Separates of [] x a b
parts_begin Separates of x {a} p = record { reads = record { read = λ levels le. (a.rest, refl, p.read levels le); blocks = p.blocks } }

-- a separator and another one
pub parts_more : {T : Type 0} {Separates : Item → Type 0} {of : Trees T} {h k : ℕ} {xs : List (Listed T)} {x : T} (y : T) {comma : Item} {a b c d : Standing} (m : ℕ)
    → ReadsParts h Separates of xs x a b → h ≤ m → Takes Separates comma b c → Consumes k (λ below n. of below n y) c d → k ≤ m
    → ReadsParts m Separates of (xs ++ record { part = x; separator = Some comma } ∷ []) y a d
parts_more {Separates} {of} {h} {k} {xs} {x} y {comma} {a} {b} {c} {d} m p in_p q r in_r = record {
  reads = record {
    read = λ levels le. (
      c.rest,
      turn_more_in (with_separator (one (enclosing a.blocks) Separates) (of (derivations levels) (enclosing a.blocks))) xs (record { part = x; separator = Some comma }) a.rest
          (p.reads.read levels (le_both h m levels in_p le)).0 c.rest (p.reads.read levels (le_both h m levels in_p le)).1
          (b.rest, (p.reads.read levels (le_both h m levels in_p le)).2, (q.is, at_column q.taken p.reads.blocks levels (none_below levels))),
      at_column {s = λ below n. of below n y} r (q.taken.blocks ∙ p.reads.blocks) levels (le_both k m levels in_r le),
    );
    blocks = r.blocks ∙ q.taken.blocks ∙ p.reads.blocks;
  };
}

separated_end : {T : Type 0} (separator : Item → Reading) (of : T → Reading) (xs : List (Listed T)) (x : T) (ts vs us : List Placed)
    → in_turn (with_separator separator of) xs ts vs → of x vs us → separated separator of (xs ++ record { part = x; separator = None } ∷ []) ts us
separated_end separator of [] x ts vs us e h = (refl, subst (λ l. of x l us) e h)
separated_end separator of (y ∷ []) x ts vs us h g = (h.1.0, h.1.1, (h.0, h.1.2, separated_end separator of [] x h.0 vs us h.2 g))
separated_end separator of (y ∷ (z ∷ zs)) x ts vs us h g = (h.1.0, h.1.1, (h.0, h.1.2, separated_end separator of (z ∷ zs) x h.0 vs us h.2 g))

-- and no other one
pub parts_close : {T : Type 0} {Separates : Item → Type 0} {of : Trees T} {h : ℕ} {xs : List (Listed T)} {x : T} {a b : Standing} → ReadsParts h Separates of xs x a b
    → Consumes h (λ below n. separated (one n Separates) (of below n) (xs ++ record { part = x; separator = None } ∷ [])) a b
parts_close {Separates} {of} {h} {xs} {x} {a} {b} p = record {
  read = λ levels le. separated_end (one (enclosing a.blocks) Separates) (of (derivations levels) (enclosing a.blocks)) xs x a.rest (p.reads.read levels le).0 b.rest
      (p.reads.read levels le).1 (p.reads.read levels le).2;
  blocks = p.reads.blocks;
}

-- behind an empty list
pub none_between : {T : Type 0} {of : Trees T} {h k : ℕ} {r : Phrase} {a b c : Standing} → ReadsEach h of [] b c → Consumes k r a b → Consumes k r a c
none_between {h} {r} {a} {b} {c} q p = record {
  read = λ levels le. subst (λ l. r (derivations levels) (enclosing a.blocks) a.rest l) (sym (q.reads.read h (omega arith))) (p.read levels le);
  blocks = q.reads.blocks ∙ p.blocks;
}

-- a node, on the level above its parts
pub raised : {h : ℕ} {r : Phrase} {a b : Standing} (node : Phrase) → ((levels n : ℕ) (ts us : List Placed) → r (derivations levels) n ts us → node (derivations (suc levels)) n ts us)
    → Consumes h r a b → Consumes (h + 1) node a b
raised {h} {r} {a} {b} node raise p = record { read = on_level p.read; blocks = p.blocks }
  where
    on_level : ((levels : ℕ) → h ≤ levels → r (derivations levels) (enclosing a.blocks) a.rest b.rest) → (levels : ℕ) → h + 1 ≤ levels → node (derivations levels) (enclosing a.blocks) a.rest b.rest
    on_level read zero le = absurd (omega arith)
    on_level read (suc levels) le = raise levels (enclosing a.blocks) a.rest b.rest (read levels (omega arith))

-- a tree at another place
pub placed_as : {h : ℕ} {r : Phrase} {a b : Standing} (other : Phrase) → ((levels n : ℕ) (ts us : List Placed) → r (derivations levels) n ts us → other (derivations levels) n ts us)
    → Consumes h r a b → Consumes h other a b
placed_as {a} {b} other turn p = record { read = λ levels le. turn levels (enclosing a.blocks) a.rest b.rest (p.read levels le); blocks = p.blocks }

-- one part alone
pub only_part : {T : Type 0} {Separates : Item → Type 0} {of : Trees T} {h : ℕ} {x : T} {a b : Standing} → ReadsParts h Separates of [] x a b → Consumes h (λ below n. of below n x) a b
only_part {of} {h} {x} {a} {b} p = record {
  read = λ levels le. subst (λ l. of (derivations levels) (enclosing a.blocks) x l b.rest) (p.reads.read levels le).1 (p.reads.read levels le).2;
  blocks = p.reads.blocks;
}

pub takes_stay : {Is : Item → Type 0} {item : Item} {a b c : Standing} → c ≡ b → Takes Is item a b → Takes Is item a c
takes_stay {Is} {item} {a} e p = subst (λ s. Takes Is item a s) (sym e) p
