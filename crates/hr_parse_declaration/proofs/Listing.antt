-- Names and lists of names are read part by part.
use Rattle.std.proofs.Common.{◌≡◌, ℕ, ◌+◌, ◌≤◌, true, List, [], ◌∷◌, ◌++◌, Option, Some, None, Result, Ok, Err, IfOk, inr, refl, sym, ap, ◌∙◌, subst, arith}
use Rattle.hr_base.specs.declared.lexeme.Item.{Item}
use Rattle.hr_rules.specs.declared.block.OpenBlock.{OpenBlock}
use Rattle.hr_rules.specs.declared.block.Placed.{Placed}
use Rattle.hr_rules.specs.Blocks.{enclosing}
use Rattle.hr_layout.specs.Standing.{Standing}
use Rattle.hr_tree.specs.declared.lists.Listed.{Listed}
use Rattle.hr_tree.specs.declared.modules.NameList.{NameList}
use Rattle.hr_base.specs.declared.lexeme.Class.{Class}
use Rattle.hr_parse_lexeme.specs.declared.stop.Stop.{Stop}
use Rattle.hr_grammar.specs.Words.{IsOf, IsComma, IsLeftParen, IsRightParen}
use Rattle.hr_grammar_cases.specs.Readings.{Reading, one, takes, spelled, maybe, separated}
use Rattle.hr_grammar_cases.specs.Imports.{name_list_reading}
use Rattle.hr_parse_lexeme.specs.Reads.{Phrase, Consumes, Takes, TakesAll, Accepts, IsAhead, Spells, ReadsParts}
use Rattle.hr_parse_lexeme.proofs.Phrases.{then, item, last_item, one_read, spelled_read, nothing_taken, taken, all_unmoved, parts_begin, parts_more, parts_close, stays, unmoved}
use Rattle.hr_parse_declaration.specs.declared.next.Next.{Next}
use Rattle.hr_parse_declaration.specs.Lists.{ReadsPhrase, ReadsNames, GoesOn, IsOwnSymbol}

pub none : (a : ℕ) → 0 ≤ a
none a = omega arith

-- a lexeme alone, where nothing was taken before it, and one between two others
pub alone : {Is : Item → Type 0} {item : Item} {a b c : Standing} → b ≡ a → Takes Is item b c → TakesAll (item ∷ []) a c
alone {c} e p = all_unmoved e (taken p (nothing_taken c))

pub single : {Is : Item → Type 0} {item : Item} {a b : Standing} → Takes Is item a b → TakesAll (item ∷ []) a b
single {b} p = taken p (nothing_taken b)

pub between : {L M R : Item → Type 0} {left middle right : Item} {a b c d : Standing} → Takes L left a b → Takes M middle b c → Takes R right c d
    → TakesAll (left ∷ middle ∷ right ∷ []) a d
between {d} p q r = taken p (taken q (taken r (nothing_taken d)))

-- a lexeme that may be there
pub accepted_read : (Is : Item → Type 0) (found : Option Item) {a b : Standing} → Accepts Is found a b → ReadsPhrase (λ n. maybe (one n Is) found) a b
accepted_read Is None e = record { read = λ levels le. ap (λ s. s.rest) e; blocks = ap (λ s. s.blocks) e }
accepted_read Is (Some item) p = one_read p

-- where nothing was taken before it
pub kept_behind : {r : Phrase} {a b c : Standing} → b ≡ a → Consumes 0 r b c → Consumes 0 r a c
kept_behind e p = unmoved e p

pub takes_unmoved : {Is : Item → Type 0} {item : Item} {a b c : Standing} → b ≡ a → Takes Is item b c → Takes Is item a c
takes_unmoved e p = record { is = p.is; taken = unmoved e p.taken }

-- what isn't there
pub unread : {T : Type 0} (of : ℕ → T → Reading) {a b : Standing} → b ≡ a → ReadsPhrase (λ n. maybe (of n) None) a b
unread of e = record { read = λ levels le. ap (λ s. s.rest) e; blocks = ap (λ s. s.blocks) e }

-- a narrower kind, which was ahead
is_ahead : (Is : Item → Type 0) (n : ℕ) (item : Item) (blocks : List OpenBlock) (ts us : List Placed) → IsAhead Is blocks ts → takes n item ts us → Is item
is_ahead Is n item blocks [] us ahead h = elim ahead [ ]
is_ahead Is n item blocks (next ∷ ts) us ahead h = subst (λ i. Is i) h.1 ahead.1

pub narrowed : {Is Wide : Item → Type 0} {item : Item} {a b : Standing} → IsAhead Is a.blocks a.rest → Takes Wide item a b → Takes Is item a b
narrowed {Is} {item = item} {a} {b} ahead p = record { is = is_ahead Is (enclosing a.blocks) item a.blocks a.rest b.rest ahead (p.taken.read 0 (none 0)); taken = p.taken }

pub narrowed_maybe : (Is Wide : Item → Type 0) (found : Option Item) (a b : Standing) → IsAhead Is a.blocks a.rest → Accepts Wide found a b → Accepts Is found a b
narrowed_maybe Is Wide None a b ahead e = e
narrowed_maybe Is Wide (Some item) a b ahead p = narrowed ahead p

-- an operator's symbol of either kind, and what is read where nothing was taken before it
pub either_symbol : (found : Option Item) (a b c : Standing) → b ≡ a → Accepts (IsOf Class.ConSym) found b c → Accepts IsOwnSymbol found a c
either_symbol None a b c e p = p ∙ e
either_symbol (Some symbol) a b c e p = record { is = inr p.is; taken = unmoved e p.taken }

pub moved : {T : Type 0} (found : Result T Stop) (P : T → Standing → Standing → Type 0) (a b c : Standing) → b ≡ a → IfOk found (λ x. P x b c) → IfOk found (λ x. P x a c)
moved found P a b c e h = subst (λ s. IfOk found (λ x. P x s c)) e h

pub behind_left : {L M R : Item → Type 0} {left middle right : Item} {a b c d f : Standing} → Takes L left a b → c ≡ b → Takes M middle c d → Takes R right d f
    → TakesAll (left ∷ middle ∷ right ∷ []) a f
behind_left p e q r = taken p (all_unmoved e (taken q (single r)))

-- one part, a comma and another part, and no other one
pub first_part : {T : Type 0} (of : ℕ → T → Reading) {list : List (Listed T)} {part : T} (x : T) {a b : Standing} → list ≡ [] → part ≡ x → ReadsPhrase (λ n. of n x) a b
    → ReadsParts 0 IsComma (λ below n. of n) list part a b
first_part of {list} {part} x {a} {b} e f p =
    subst (λ l. ReadsParts 0 IsComma (λ below n. of n) l part a b) (sym e)
    (subst (λ y. ReadsParts 0 IsComma (λ below n. of n) [] y a b) (sym f) (parts_begin IsComma (λ below n. of n) x p))

pub next_part : {T : Type 0} (of : ℕ → T → Reading) {list more : List (Listed T)} {last part next : T} (x : T) {comma : Item} {a b c d : Standing}
    → ReadsParts 0 IsComma (λ below n. of n) list last a b → Takes IsComma comma b c → ReadsPhrase (λ n. of n x) c d → part ≡ last → next ≡ x
    → more ≡ list ++ record { part = part; separator = Some comma } ∷ [] → ReadsParts 0 IsComma (λ below n. of n) more next a d
next_part of {list} {more} {last} {part} {next} x {comma} {a} {b} {c} {d} p q r e f g =
    subst (λ l. ReadsParts 0 IsComma (λ below n. of n) l next a d) (sym (g ∙ ap (λ y. list ++ record { part = y; separator = Some comma } ∷ []) e))
    (subst (λ y. ReadsParts 0 IsComma (λ below n. of n) (list ++ record { part = last; separator = Some comma } ∷ []) y a d) (sym f)
    (parts_more x 0 p (none 0) q r (none 0)))

pub last_part : {T : Type 0} (of : ℕ → T → Reading) {list all : List (Listed T)} {last part : T} {a b : Standing}
    → ReadsParts 0 IsComma (λ below n. of n) list last a b → part ≡ last → all ≡ list ++ record { part = part; separator = None } ∷ []
    → ReadsPhrase (λ n. separated (one n IsComma) (of n) all) a b
last_part of {list} {all} {last} {part} {a} {b} p e g =
    subst (λ l. ReadsPhrase (λ n. separated (one n IsComma) (of n) l) a b) (sym (g ∙ ap (λ y. list ++ record { part = y; separator = None } ∷ []) e)) (parts_close p)

not_none : {T : Type 0} (list : List T) (x : T) → list ++ x ∷ [] ≡ [] → ⊥
not_none [] x = λ e. cc
not_none (y ∷ list) x = λ e. cc

pub has_part : {T : Type 0} (list : List T) (x : T) {all : List T} → all ≡ list ++ x ∷ [] → all ≡ [] → ⊥
has_part list x g e = not_none list x (sym g ∙ e)

pub names_end : {T : Type 0} {Is : T → Type 0} {items_of : T → List Item} {list all : List (Listed T)} {last part : T} {a b c : Standing}
    → ReadsParts 0 IsComma (λ below n. spelled n Is items_of) list last a b → c ≡ b → part ≡ last → all ≡ list ++ record { part = part; separator = None } ∷ []
    → ReadsNames Is items_of all a c
names_end {Is} {items_of} {list} {part = part} p s e g = record { reads = stays s (last_part (λ n. spelled n Is items_of) p e g); some = has_part list (record { part = part; separator = None }) g }

-- names in parentheses: none of them, or some
pub none_listed : {T : Type 0} (of : ℕ → T → Reading) {list : List (Listed T)} (a : Standing) → list ≡ [] → ReadsPhrase (λ n. separated (one n IsComma) (of n) list) a a
none_listed of a e = subst (λ l. ReadsPhrase (λ n. separated (one n IsComma) (of n) l) a a) (sym e) (record { read = λ levels le. refl; blocks = refl })

pub no_names : {T : Type 0} (of : ℕ → T → Reading) {list : List (Listed T)} (comma : Option Item) {left right : Item} {a b c d : Standing} → list ≡ []
    → Takes IsLeftParen left a b → Accepts IsComma comma b c → Takes IsRightParen right c d
    → ReadsPhrase (λ n. name_list_reading n (of n) (record { left = left; list = list; last_comma = comma; right = right })) a d
no_names of comma {a} {b} {c} {d} e p q r =
    item p (then (none_listed of b e) (none 0) (then (accepted_read IsComma comma q) (none 0) (last_item r)))

pub some_names : {T : Type 0} (of : ℕ → T → Reading) {list all : List (Listed T)} {last part : T} (comma : Option Item) {left right : Item} {a b c d e : Standing}
    → Takes IsLeftParen left a b → ReadsParts 0 IsComma (λ below n. of n) list last b c → part ≡ last → all ≡ list ++ record { part = part; separator = None } ∷ []
    → Accepts IsComma comma c d → Takes IsRightParen right d e
    → ReadsPhrase (λ n. name_list_reading n (of n) (record { left = left; list = all; last_comma = comma; right = right })) a e
some_names of comma p q t g r s = item p (then (last_part of q t g) (none 0) (then (accepted_read IsComma comma r) (none 0) (last_item s)))

-- by how the list goes on
pub comma_at : {next : Next} {comma : Item} {a b : Standing} → next ≡ Next.Name comma → GoesOn next a b → Takes IsComma comma a b
comma_at {a} {b} e p = subst (λ n. GoesOn n a b) e p

pub end_at : {next : Next} {comma : Option Item} (a b : Standing) → next ≡ Next.End comma → GoesOn next a b → Accepts IsComma comma a b
end_at a b e p = subst (λ n. GoesOn n a b) e p
