-- What is still to be written of a type, and that it comes to an end.
use Rattle.std.proofs.Common.{◌≡◌, ◌≤◌, ◌<◌, ◌+◌, ◌*◌, ℕ, suc, zero, Bool, true, false, cond, nat_lt, List, [], ◌∷◌, ◌++◌, Some, None, map, length, take, drop, get_or, codes, refl, sym, ap, ◌∙◌, append_assoc, append-nil, arith, drop-cons, add-one}
use Rattle.std.proofs.lemmas.Bool.{ltb-true}
use Rattle.std.proofs.lemmas.List.{map-append, take_more}
use Rattle.hr_base.specs.declared.bind.Entity.{Entity}
use Rattle.hr_type.specs.declared.mono.Mono.{Mono}
use Rattle.hr_type.specs.declared.spell.TypeScope.{TypeScope}
use Rattle.hr_type.specs.declared.spell.Brackets.{Brackets}
use Rattle.hr_type.specs.declared.write.Job.{Job}
use Rattle.hr_type.specs.Jobs.{job_bytes, job_load, load, pending}
use Rattle.hr_type.specs.Sizes.{size, total}
use Rattle.hr_type.specs.Spelling as spec
use Rattle.hr_type.specs.Spelling.{Piece, lexeme, bytes_of, Written, written, within}
use Rattle.hr_type.proofs.Freeing.{total-append}
use Rattle.hr_type.proofs.Spellings.{bytes_of-append}

pub load-push : (js : List Job) (j : Job) → load (js ++ j ∷ []) ≡ load js + job_load j
load-push [] j = omega arith
load-push (k ∷ js) j = omega (arith, load-push js j)

pub pending-push : (scope : TypeScope) (js : List Job) (j : Job) → pending scope (js ++ j ∷ []) ≡ job_bytes scope j ++ pending scope js
pending-push scope [] j = sym (append-nil (job_bytes scope j))
pending-push scope (k ∷ js) j = ap (λ bs. bs ++ job_bytes scope k) (pending-push scope js j) ∙ append_assoc (job_bytes scope j) (pending scope js) (job_bytes scope k)

not_below : (g : ℕ) → nat_lt g 0 ≡ false
not_below g = by (nat_lt g 0) refl
  where
    by : (b : Bool) → nat_lt g 0 ≡ b → b ≡ false
    by false e = refl
    by true e = let h : g < 0 = ltb-true g 0 e in absurd (omega arith)

-- at the least grade no type stands in parentheses
within_none : (w : Written) → within 0 w ≡ w.pieces
within_none w = ap (λ b. cond b (lexeme (codes "(") ∷ (w.pieces ++ lexeme (codes ")") ∷ [])) w.pieces) (not_below w.grade)

pub within_all : (least : ℕ) (w : Written) → nat_lt w.grade least ≡ false → within least w ≡ w.pieces
within_all least w h = ap (λ b. cond b (lexeme (codes "(") ∷ (w.pieces ++ lexeme (codes ")") ∷ [])) w.pieces) h

pub within_more : (least : ℕ) (w : Written) → nat_lt w.grade least ≡ true → within least w ≡ lexeme (codes "(") ∷ (w.pieces ++ lexeme (codes ")") ∷ [])
within_more least w h = ap (λ b. cond b (lexeme (codes "(") ∷ (w.pieces ++ lexeme (codes ")") ∷ [])) w.pieces) h

-- a text behind the old one, and what waits behind it
module _ (o n p : List ℕ) where
  pub one_text : (v w : List ℕ) → n ≡ o ++ v → v ≡ w → n ++ p ≡ o ++ (w ++ p)
  one_text v w h k = ap (λ x. x ++ p) (h ∙ ap (λ x. o ++ x) k) ∙ append_assoc o w p

  pub bracket_text : (scope : TypeScope) (e : Entity) (b : Brackets) (ws : List Written) (q r : List ℕ) → n ≡ o ++ spec.opening b → q ≡ spec.closing b ++ p → r ≡ bytes_of (spec.listed ws) ++ q
      → n ++ r ≡ o ++ (bytes_of (spec.application scope e (Some b) ws).pieces ++ p)
  bracket_text scope e b ws q r h k l = (λ i. h i ++ (l ∙ ap (λ x. bytes_of (spec.listed ws) ++ x) k) i) ∙ simp (append_assoc, bytes_of-append, append-nil)

  pub argument_text : (scope : TypeScope) (e : Entity) (ws : List Written) (r : List ℕ) → n ≡ o ++ bytes_of (spec.name_pieces (spec.name_for e scope.names)) → r ≡ bytes_of (spec.arguments ws) ++ p
      → n ++ r ≡ o ++ (bytes_of (spec.application scope e None ws).pieces ++ p)
  argument_text scope e ws r h l = (λ i. h i ++ l i) ∙ simp (append_assoc, bytes_of-append)

  pub parenthesis_text : (least : ℕ) (w : Written) (q r m : List ℕ) → nat_lt w.grade least ≡ true → n ≡ o ++ codes "(" → q ≡ codes ")" ++ p → m ++ r ≡ n ++ (bytes_of w.pieces ++ q)
      → m ++ r ≡ o ++ (bytes_of (within least w) ++ p)
  parenthesis_text least w q r m low h k l =
      let whole : (o ++ codes "(") ++ (bytes_of w.pieces ++ (codes ")" ++ p)) ≡ o ++ (bytes_of (lexeme (codes "(") ∷ (w.pieces ++ lexeme (codes ")") ∷ [])) ++ p) = simp (append_assoc, bytes_of-append, append-nil) in
      l ∙ (λ i. h i ++ (bytes_of w.pieces ++ k i)) ∙ whole ∙ sym (ap (λ x. o ++ (bytes_of x ++ p)) (within_more least w low))

pub arrow_text : (o p q r : List ℕ) (a b : Written) → q ≡ (codes " -> " ++ bytes_of (within 0 b)) ++ p → r ≡ ([] ++ bytes_of (within 1 a)) ++ q → o ++ r ≡ o ++ (bytes_of (spec.arrow a b).pieces ++ p)
arrow_text o p q r a b k l =
    let whole : bytes_of (within 1 a) ++ ((codes " -> " ++ bytes_of b.pieces) ++ p) ≡ bytes_of (spec.arrow a b).pieces ++ p = simp (append_assoc, bytes_of-append) in
    ap (λ x. o ++ x) (l ∙ ap (λ x. bytes_of (within 1 a) ++ x) (k ∙ ap (λ x. (codes " -> " ++ bytes_of x) ++ p) (within_none b)) ∙ whole)

-- one more type on the stack, before the others of a list
module _ (scope : TypeScope) (ts : List Mono) (i : ℕ) (t : Mono) (inside : i < length ts) (is : t ≡ get_or ts i t) where
  here : map (written scope) (drop i ts) ≡ written scope t ∷ map (written scope) (drop (i + 1) ts)
  here = rw (add-one, drop-cons ts i t) (ap (λ x. written scope x ∷ map (written scope) (drop (suc i) ts)) (sym is))

  pub argument_pushed : (n : ℕ) → n ≡ i + 1 → (p q r : List ℕ) → q ≡ bytes_of (spec.arguments (map (written scope) (drop n ts))) ++ p → r ≡ (codes " " ++ bytes_of (within 2 (written scope t))) ++ q
      → r ≡ bytes_of (spec.arguments (map (written scope) (drop i ts))) ++ p
  argument_pushed n e p q r h k =
      let rest : List Piece = spec.arguments (map (written scope) (drop (i + 1) ts)) in
      let whole : (codes " " ++ bytes_of (within 2 (written scope t))) ++ (bytes_of rest ++ p) ≡ (32 ∷ bytes_of (within 2 (written scope t) ++ rest)) ++ p = simp (append_assoc, bytes_of-append) in
      k ∙ ap (λ x. (codes " " ++ bytes_of (within 2 (written scope t))) ++ x) (h ∙ ap (λ m. bytes_of (spec.arguments (map (written scope) (drop m ts))) ++ p) e) ∙ whole ∙ sym (ap (λ ws. bytes_of (spec.arguments ws) ++ p) here)

  pub listed_pushed : (n : ℕ) → n ≡ i + 1 → (p q r : List ℕ) → q ≡ bytes_of (spec.listed_rest (map (written scope) (drop n ts))) ++ p → r ≡ (codes ", " ++ bytes_of (within 0 (written scope t))) ++ q
      → r ≡ bytes_of (spec.listed_rest (map (written scope) (drop i ts))) ++ p
  listed_pushed n e p q r h k =
      let rest : List Piece = spec.listed_rest (map (written scope) (drop (i + 1) ts)) in
      let whole : (codes ", " ++ bytes_of (written scope t).pieces) ++ (bytes_of rest ++ p) ≡ (44 ∷ 32 ∷ bytes_of ((written scope t).pieces ++ rest)) ++ p = simp (append_assoc, bytes_of-append) in
      k ∙ (λ j. (codes ", " ++ bytes_of (within_none (written scope t) j)) ++ (h ∙ ap (λ m. bytes_of (spec.listed_rest (map (written scope) (drop m ts))) ++ p) e) j) ∙ whole ∙ sym (ap (λ ws. bytes_of (spec.listed_rest ws) ++ p) here)

  pub less_left : (n d e f : ℕ) → n ≡ i + 1 → d + 3 * total (map size (take n ts)) ≡ f → e ≡ d + 3 * size t → e + 3 * total (map size (take i ts)) ≡ f
  less_left n d e f s h k =
      let moved : total (map size (take n ts)) ≡ total (map size (take (i + 1) ts)) = ap (λ m. total (map size (take m ts))) s in
      let grown : total (map size (take (i + 1) ts)) ≡ total (map size (take i ts)) + (size t + 0) =
      ap (λ us. total (map size us)) (take_more ts i t inside ∙ ap (λ x. take i ts ++ x ∷ []) (sym is)) ∙ ap total (map-append size (take i ts) (t ∷ [])) ∙ total-append (map size (take i ts)) (size t ∷ []) in
      omega arith

pub first_pushed : (scope : TypeScope) (ts : List Mono) (t : Mono) → 0 < length ts → t ≡ get_or ts 0 t → (n : ℕ) → n ≡ 1 → (p q r : List ℕ) → q ≡ bytes_of (spec.listed_rest (map (written scope) (drop n ts))) ++ p
    → r ≡ ([] ++ bytes_of (within 0 (written scope t))) ++ q → r ≡ bytes_of (spec.listed (map (written scope) ts)) ++ p
first_pushed scope [] t inside is n e p q r h k = absurd (omega arith)
first_pushed scope (u ∷ ts) t inside is n e p q r h k =
    let rest : List Piece = spec.listed_rest (map (written scope) ts) in
    let whole : bytes_of (written scope u).pieces ++ (bytes_of rest ++ p) ≡ bytes_of ((written scope u).pieces ++ rest) ++ p = simp (append_assoc, bytes_of-append) in
    k ∙ (λ j. bytes_of (within_none (written scope t) j) ++ (h ∙ ap (λ m. bytes_of (spec.listed_rest (map (written scope) (drop m (u ∷ ts)))) ++ p) e) j) ∙ ap (λ x. bytes_of (written scope x).pieces ++ (bytes_of rest ++ p)) is ∙ whole

pub none_pushed : (scope : TypeScope) (ts : List Mono) (n : ℕ) (p q : List ℕ) → length ts ≡ 0 → q ≡ bytes_of (spec.listed_rest (map (written scope) (drop n ts))) ++ p → n ≡ 0 → q ≡ bytes_of (spec.listed (map (written scope) ts)) ++ p
none_pushed scope [] n p q e h z = h ∙ ap (λ m. bytes_of (spec.listed_rest (map (written scope) (drop {A = Mono} m []))) ++ p) z
none_pushed scope (t ∷ ts) n p q e h z = let k : suc (length ts) ≡ 0 = e in absurd (omega arith)

pub nothing_left : (left n : ℕ) → left ≤ 1 → (left ≡ 1 → ⊥) → (0 < n → 0 < left) → n ≡ 0
nothing_left left zero h k f = refl
nothing_left left (suc n) h k f = let l : 0 < left = f (omega arith) in absurd (k (omega arith))

-- the last job of the stack taken and done
pub job_smaller : (js ks ls : List Job) (j : Job) → js ≡ ks ++ j ∷ [] → load ls < load ks + job_load j → load ls < load js
job_smaller js ks ls j is h = let e : load js ≡ load ks + job_load j = ap load is ∙ load-push ks j in omega arith

pub job_done : (scope : TypeScope) (o : List ℕ) (js ks : List Job) (j : Job) → js ≡ ks ++ j ∷ [] → o ++ (job_bytes scope j ++ pending scope ks) ≡ o ++ pending scope js
job_done scope o js ks j is = ap (λ x. o ++ x) (sym (ap (pending scope) is ∙ pending-push scope ks j))
