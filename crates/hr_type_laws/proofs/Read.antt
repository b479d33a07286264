-- Each reading of lexemes as a type is the one that the reader finds.
use Rattle.std.proofs.Common.{◌≡◌, ◌⊎◌, inl, inr, ℕ, zero, suc, ◌+◌, ◌<◌, ◌≤◌, List, [], ◌∷◌, ◌++◌, length, codes, Some, None, refl, sym, ap, subst, ◌∙◌, arith, append_assoc, append-nil}
use Rattle.std.proofs.lemmas.List.{length-append}
use Rattle.hr_base.specs.declared.bind.Entity.{Entity}
use Rattle.hr_base.specs.declared.bind.Name.{Name}
use Rattle.hr_type.specs.declared.mono.Mono.{Mono}
use Rattle.hr_type.specs.declared.mono.Mono.TheVariants.{Var, Con, Fun}
use Rattle.hr_type.specs.declared.spell.TypeScope.{TypeScope}
use Rattle.hr_type.specs.declared.spell.Brackets.{Brackets}
use Rattle.hr_type.specs.declared.spell.Brackets.TheVariants.{Square, Round}
use Rattle.hr_type.specs.Spelling.{brackets_of, arity_by, name_text, opening, closing}
use Rattle.hr_type.specs.Grammar.{ReadsType, Arguments, Lists, Follows, variable, constructor, enclosed, parenthesised, applied, arrow, lower, no_more, one_more, nothing, first, ends, comma}
use Rattle.hr_type_laws.specs.Scopes.{TellsApart, HasName, HasVariable}
use Rattle.hr_type_laws.specs.Laws.{OneType}
use Rattle.hr_type_laws.proofs.Found.{variable_of, entity_of, variable_found, entity_named, no_variable_named, no_entity_by, no_variable_marked, no_entity_marked}
use Rattle.hr_type_laws.proofs.Reader.{Lexemes, One, Many, in_round, prelude_type, with_first, listed_next, listed_by, arguments_next, arguments_by, rounded, squared, bracketed, atom_at, applied_to, function_to, arrow_by, atom_by, head_by, operand_by, type_at}
use Rattle.hr_type_laws.proofs.Enclosing.{square_entity, round_entity, no_tuple_of_one}

-- a closing bracket
pub data IsClosing : List ℕ → Type 0 where
  right : IsClosing (codes ")")
  square : IsClosing (codes "]")

-- what may stand behind a type
pub data Ends : List ℕ → Type 0 where
  by_right : Ends (codes ")")
  by_square : Ends (codes "]")
  by_comma : Ends (codes ",")

-- no type goes on into these
abbrev pub EndsType : Lexemes → Type 0
EndsType [] = Unit {0}
EndsType (x ∷ rest) = Ends x

-- no argument begins these
abbrev pub NoAtom : Lexemes → Type 0
NoAtom [] = Unit {0}
NoAtom (x ∷ rest) = Ends x ⊎ (x ≡ codes "->")

ends_no_atom : (ts : Lexemes) → EndsType ts → NoAtom ts
ends_no_atom [] e = tt
ends_no_atom (x ∷ ts) e = inl e

closes : (x : List ℕ) → IsClosing x → Ends x
closes _ right = by_right
closes _ square = by_square

arrow_ends : (inner : Lexemes → One) (t : Mono) (rest : Lexemes) → EndsType rest → arrow_by inner (Some (t, rest)) ≡ Some (t, rest)
arrow_ends inner t [] e = refl
arrow_ends inner t (x ∷ rest) e = by_end x e
  where
    by_end : (x : List ℕ) → Ends x → arrow_by inner (Some (t, x ∷ rest)) ≡ Some (t, x ∷ rest)
    by_end _ by_right = refl
    by_end _ by_square = refl
    by_end _ by_comma = refl

last_listed : (more : Lexemes → Many) (x : List ℕ) (t : Mono) (rest : Lexemes) → IsClosing x → listed_next more x (Some (t, x ∷ rest)) ≡ Some (t ∷ [], rest)
last_listed more _ t rest right = refl
last_listed more _ t rest square = refl

shape_of_round : (e : Entity) (ts : List Mono) → brackets_of e ≡ Some Round → length ts ≡ arity_by (length e.text) Round → in_round ts ≡ Con e ts
shape_of_round e [] is count = ap (λ f. Con f []) (sym (round_entity e 0 is count))
shape_of_round e (t ∷ []) is count = absurd (no_tuple_of_one e is count)
shape_of_round e (t ∷ u ∷ ts) is count = ap (λ f. Con f (t ∷ u ∷ ts)) (sym (round_entity e (length (t ∷ u ∷ ts)) is count))

module _ (scope : TypeScope) (apart : TellsApart scope) where
  atom : (Lexemes → One) → Lexemes → One
  atom inner ts = atom_by scope inner ts

  -- ---- marks
  mark_read : (inner : Lexemes → One) (x : List ℕ) (rest : Lexemes) → variable_of scope x ≡ None → entity_of scope x ≡ None → atom_by scope inner (x ∷ rest) ≡ bracketed inner x rest
  mark_read inner x rest v e = λ k. atom_at inner x rest (v k) (e k)

  round_read : (inner : Lexemes → One) (rest : Lexemes) → atom_by scope inner (codes "(" ∷ rest) ≡ rounded (listed_by inner (codes ")") (length rest) rest) rest
  round_read inner rest = mark_read inner (codes "(") rest (no_variable_marked scope apart (codes "(") refl) (no_entity_marked scope apart (codes "(") refl)

  square_read : (inner : Lexemes → One) (rest : Lexemes) → atom_by scope inner (codes "[" ∷ rest) ≡ squared (listed_by inner (codes "]") (length rest) rest)
  square_read inner rest = mark_read inner (codes "[") rest (no_variable_marked scope apart (codes "[") refl) (no_entity_marked scope apart (codes "[") refl)

  end_no_atom : (inner : Lexemes → One) (x : List ℕ) (rest : Lexemes) → Ends x → atom_by scope inner (x ∷ rest) ≡ None
  end_no_atom inner _ rest by_right = mark_read inner (codes ")") rest (no_variable_marked scope apart (codes ")") refl) (no_entity_marked scope apart (codes ")") refl)
  end_no_atom inner _ rest by_square = mark_read inner (codes "]") rest (no_variable_marked scope apart (codes "]") refl) (no_entity_marked scope apart (codes "]") refl)
  end_no_atom inner _ rest by_comma = mark_read inner (codes ",") rest (no_variable_marked scope apart (codes ",") refl) (no_entity_marked scope apart (codes ",") refl)

  no_atom : (inner : Lexemes → One) (ts : Lexemes) → NoAtom ts → atom_by scope inner ts ≡ None
  no_atom inner [] e = refl
  no_atom inner (x ∷ rest) (inl e) = end_no_atom inner x rest e
  no_atom inner (x ∷ rest) (inr e) =
      subst (λ y. atom_by scope inner (y ∷ rest) ≡ None) (sym e)
      (mark_read inner (codes "->") rest (no_variable_marked scope apart (codes "->") refl) (no_entity_marked scope apart (codes "->") refl))

  no_arguments : (inner : Lexemes → One) (k : ℕ) (ts : Lexemes) → NoAtom ts → arguments_by (atom_by scope inner) k ts ≡ ([], ts)
  no_arguments inner zero ts e = refl
  no_arguments inner (suc k) ts e = ap (arguments_next (arguments_by (atom_by scope inner) k) ts) (no_atom inner ts e)

  -- no type begins with a closing bracket
  no_operand : (inner : Lexemes → One) (rest : Lexemes) → operand_by scope inner (codes ")" ∷ rest) ≡ None
  no_operand inner rest = ap (head_by scope inner (codes ")") rest) (no_entity_marked scope apart (codes ")") refl) ∙ end_no_atom inner (codes ")") rest by_right

  no_type : (d : ℕ) (rest : Lexemes) → type_at scope d (codes ")" ∷ rest) ≡ None
  no_type zero rest = refl
  no_type (suc d) rest = ap (arrow_by (type_at scope d)) (no_operand (type_at scope d) rest)

  none_listed : (d k : ℕ) (rest : Lexemes) → listed_by (type_at scope d) (codes ")") k (codes ")" ∷ rest) ≡ None
  none_listed d zero rest = refl
  none_listed d (suc k) rest = ap (listed_next (listed_by (type_at scope d) (codes ")") k) (codes ")")) (no_type d rest)

  -- ---- what is claimed of readings
  pub AtomRead : Lexemes → Mono → Type 0
  AtomRead xs t = (d : ℕ) (rest : Lexemes) → length xs ≤ d → atom_by scope (type_at scope d) (xs ++ rest) ≡ Some (t, rest)

  pub OperandRead : Lexemes → Mono → Type 0
  OperandRead xs t = (d : ℕ) (rest : Lexemes) → length xs ≤ d → NoAtom rest → operand_by scope (type_at scope d) (xs ++ rest) ≡ Some (t, rest)

  pub TypeRead : Lexemes → Mono → Type 0
  TypeRead xs t = (d : ℕ) (rest : Lexemes) → length xs < d → EndsType rest → type_at scope d (xs ++ rest) ≡ Some (t, rest)

  pub record Claim (g : ℕ) (xs : Lexemes) (t : Mono) : Type 0 where
    pub small : g ≤ 2
    pub some : 1 ≤ length xs
    pub as_atom : g ≡ 2 → AtomRead xs t
    pub as_operand : 1 ≤ g → OperandRead xs t
    pub as_type : TypeRead xs t

  pub record ArgumentsClaim (xs : Lexemes) (ts : List Mono) : Type 0 where
    pub long : length ts ≤ length xs
    pub read : (d k : ℕ) (rest : Lexemes) → length xs ≤ d → length ts ≤ k → NoAtom rest → arguments_by (atom_by scope (type_at scope d)) k (xs ++ rest) ≡ (ts, rest)

  pub record FollowsClaim (xs : Lexemes) (ts : List Mono) : Type 0 where
    pub long : length ts ≤ length xs
    pub ends_type : (x : List ℕ) (rest : Lexemes) → IsClosing x → EndsType (xs ++ x ∷ rest)
    pub read : (d k : ℕ) (t : Mono) (x : List ℕ) (rest : Lexemes) → IsClosing x → length xs < d → length ts ≤ k
        → listed_next (listed_by (type_at scope d) x k) x (Some (t, xs ++ x ∷ rest)) ≡ Some (t ∷ ts, rest)

  pub record Listed (xs : Lexemes) (ts : List Mono) : Type 0 where
    pub long : length ts ≤ length xs
    pub read : (d k : ℕ) (x : List ℕ) (rest : Lexemes) → IsClosing x → length xs < d → length ts ≤ k → listed_by (type_at scope d) x k (xs ++ x ∷ rest) ≡ Some (ts, rest)

  pub ListsClaim : Lexemes → List Mono → Type 0
  ListsClaim xs [] = xs ≡ []
  ListsClaim xs (t ∷ ts) = Listed xs (t ∷ ts)

  -- ---- from one to the next
  type_by : (xs : Lexemes) (t : Mono) → OperandRead xs t → TypeRead xs t
  unfolding OperandRead TypeRead
  type_by xs t r zero rest lt e = absurd (none lt)
    where
      none : length xs < 0 → ⊥
      none lt = omega arith
  type_by xs t r (suc d) rest lt e =
      let within : length xs ≤ d = omega arith in
      ap (arrow_by (type_at scope d)) (r d rest within (ends_no_atom rest e)) ∙ arrow_ends (type_at scope d) t rest e

  -- an atom that no constructor begins
  operand_by_mark : (x : List ℕ) (xs : Lexemes) (t : Mono) → entity_of scope x ≡ None → AtomRead (x ∷ xs) t → OperandRead (x ∷ xs) t
  unfolding AtomRead OperandRead
  operand_by_mark x xs t none r d rest within e =
      ap (head_by scope (type_at scope d) x (xs ++ rest)) none ∙ r d rest within

  atom_claim : (x : List ℕ) (xs : Lexemes) (t : Mono) → AtomRead (x ∷ xs) t → OperandRead (x ∷ xs) t → Claim 2 (x ∷ xs) t
  atom_claim x xs t a o = record {
    small = omega arith;
    some = omega arith;
    as_atom = λ _. a;
    as_operand = λ _. o;
    as_type = type_by (x ∷ xs) t o;
  }

  marked_claim : (x : List ℕ) (xs : Lexemes) (t : Mono) → entity_of scope x ≡ None → AtomRead (x ∷ xs) t → Claim 2 (x ∷ xs) t
  marked_claim x xs t none a = atom_claim x xs t a (operand_by_mark x xs t none a)

  -- ---- each way of reading
  variable_claim : (n : ℕ) (text : List ℕ) → HasVariable scope n text → Claim 2 (text ∷ []) (Var n)
  unfolding AtomRead
  variable_claim n text has =
      marked_claim text [] (Var n) (no_entity_by scope apart n text has)
      (λ d rest within. ap (λ o. atom_at (type_at scope d) text rest o (entity_of scope text)) (variable_found scope apart n text has))

  named_atom : (e : Entity) (name : Name) → HasName scope e name → AtomRead (name_text name ∷ []) (Con e [])
  unfolding AtomRead
  named_atom e name has d rest within =
      let v = no_variable_named scope apart e name has in
      let f = entity_named scope apart e name has in
      λ k. atom_at (type_at scope d) (name_text name) rest (v k) (f k)

  named_operand : (e : Entity) (name : Name) → HasName scope e name → OperandRead (name_text name ∷ []) (Con e [])
  unfolding OperandRead
  named_operand e name has d rest within stop =
      ap (head_by scope (type_at scope d) (name_text name) rest) (entity_named scope apart e name has)
      ∙ ap (applied_to e) (no_arguments (type_at scope d) (length rest) rest stop)

  constructor_claim : (e : Entity) (name : Name) → HasName scope e name → Claim 2 (name_text name ∷ []) (Con e [])
  constructor_claim e name has = atom_claim (name_text name) [] (Con e []) (named_atom e name has) (named_operand e name has)

  -- behind an opening bracket
  behind : (xs : Lexemes) (x : List ℕ) (rest : Lexemes) → (xs ++ x ∷ []) ++ rest ≡ xs ++ x ∷ rest
  behind xs x rest = append_assoc xs (x ∷ []) rest

  room : (o x : List ℕ) (xs : Lexemes) (d : ℕ) → length (o ∷ (xs ++ x ∷ [])) ≤ d → length xs < d
  room o x xs d h = omega (arith, length-append xs (x ∷ []))

  enough : (xs rest : Lexemes) (x : List ℕ) (n : ℕ) → n ≤ length xs → n ≤ length (xs ++ x ∷ rest)
  enough xs rest x n h = omega (arith, length-append xs (x ∷ rest))

  in_round_atom : (xs : Lexemes) (t : Mono) (ts : List Mono) → Listed xs (t ∷ ts) → AtomRead (codes "(" ∷ (xs ++ codes ")" ∷ [])) (in_round (t ∷ ts))
  unfolding AtomRead
  in_round_atom xs t ts l d rest within =
      let inner : Lexemes = xs ++ codes ")" ∷ rest in
      ap (λ ys. atom_by scope (type_at scope d) (codes "(" ∷ ys)) (behind xs (codes ")") rest)
      ∙ round_read (type_at scope d) inner
      ∙ ap (λ m. rounded m inner) (l.read d (length inner) (codes ")") rest right (room (codes "(") (codes ")") xs d within) (enough xs rest (codes ")") (length (t ∷ ts)) l.long))

  unit_atom : AtomRead (codes "(" ∷ ([] ++ codes ")" ∷ [])) (in_round [])
  unfolding AtomRead
  unit_atom d rest within =
      round_read (type_at scope d) (codes ")" ∷ rest) ∙ ap (λ m. rounded m (codes ")" ∷ rest)) (none_listed d (length (codes ")" ∷ rest)) rest)

  in_square_atom : (xs : Lexemes) (t : Mono) (ts : List Mono) → Listed xs (t ∷ ts) → AtomRead (codes "[" ∷ (xs ++ codes "]" ∷ [])) (Con (prelude_type (codes "[]")) (t ∷ ts))
  unfolding AtomRead
  in_square_atom xs t ts l d rest within =
      let inner : Lexemes = xs ++ codes "]" ∷ rest in
      ap (λ ys. atom_by scope (type_at scope d) (codes "[" ∷ ys)) (behind xs (codes "]") rest)
      ∙ square_read (type_at scope d) inner
      ∙ ap squared (l.read d (length inner) (codes "]") rest square (room (codes "[") (codes "]") xs d within) (enough xs rest (codes "]") (length (t ∷ ts)) l.long))

  enclosed_claim : (e : Entity) (b : Brackets) (xs : Lexemes) (ts : List Mono) → brackets_of e ≡ Some b → length ts ≡ arity_by (length e.text) b → ListsClaim xs ts
      → Claim 2 (opening b ∷ (xs ++ closing b ∷ [])) (Con e ts)
  unfolding ListsClaim
  enclosed_claim e Square xs [] is count l = absurd (none count)
    where
      none : ◌≡◌ {A = ℕ} 0 1 → ⊥
      none h = omega arith
  enclosed_claim e Square xs (t ∷ ts) is count l =
      marked_claim (codes "[") (xs ++ codes "]" ∷ []) (Con e (t ∷ ts)) (no_entity_marked scope apart (codes "[") refl)
      (subst (λ f. AtomRead (codes "[" ∷ (xs ++ codes "]" ∷ [])) (Con f (t ∷ ts))) (sym (square_entity e is)) (in_square_atom xs t ts l))
  enclosed_claim e Round xs [] is count l =
      marked_claim (codes "(") (xs ++ codes ")" ∷ []) (Con e []) (no_entity_marked scope apart (codes "(") refl)
      (subst (λ ys. AtomRead (codes "(" ∷ (ys ++ codes ")" ∷ [])) (Con e [])) (sym l)
      (subst (AtomRead (codes "(" ∷ ([] ++ codes ")" ∷ []))) (shape_of_round e [] is count) unit_atom))
  enclosed_claim e Round xs (t ∷ ts) is count l =
      marked_claim (codes "(") (xs ++ codes ")" ∷ []) (Con e (t ∷ ts)) (no_entity_marked scope apart (codes "(") refl)
      (subst (AtomRead (codes "(" ∷ (xs ++ codes ")" ∷ []))) (shape_of_round e (t ∷ ts) is count) (in_round_atom xs t ts l))

  -- a type, and those behind commas
  first_listed : (xs ys : Lexemes) (t : Mono) (ts : List Mono) → Claim 0 xs t → FollowsClaim ys ts → Listed (xs ++ ys) (t ∷ ts)
  unfolding TypeRead
  first_listed xs ys t ts c f = record { long = omega (arith, c.some, f.long, length-append xs ys); read = read }
    where
      read : (d k : ℕ) (x : List ℕ) (rest : Lexemes) → IsClosing x → length (xs ++ ys) < d → length (t ∷ ts) ≤ k → listed_by (type_at scope d) x k ((xs ++ ys) ++ x ∷ rest) ≡ Some (t ∷ ts, rest)
      read d zero x rest is within few = absurd (none few)
        where
          none : suc (length ts) ≤ 0 → ⊥
          none h = omega arith
      read d (suc k) x rest is within few =
          let long = length-append xs ys in
          let left : length xs < d = omega arith in
          let behind_it : length ys < d = omega arith in
          let fewer : length ts ≤ k = omega arith in
          ap (λ zs. listed_next (listed_by (type_at scope d) x k) x (type_at scope d zs)) (append_assoc xs ys (x ∷ rest))
          ∙ ap (listed_next (listed_by (type_at scope d) x k) x) (c.as_type d (ys ++ x ∷ rest) left (f.ends_type x rest is))
          ∙ f.read d k t x rest is behind_it fewer

  one_listed : (xs : Lexemes) (t : Mono) → Claim 0 xs t → Listed xs (t ∷ [])
  one_listed xs t c = subst (λ ys. Listed ys (t ∷ [])) (append-nil xs) (first_listed xs [] t [] c no_follow)
    where
      no_follow : FollowsClaim [] []
      no_follow = record { long = omega arith; ends_type = λ x rest is. closes x is; read = λ d k t x rest is within few. last_listed (listed_by (type_at scope d) x k) x t rest is }

  ends_claim : FollowsClaim [] []
  ends_claim = record { long = omega arith; ends_type = λ x rest is. closes x is; read = λ d k t x rest is within few. last_listed (listed_by (type_at scope d) x k) x t rest is }

  comma_claim : (xs ys : Lexemes) (t : Mono) (ts : List Mono) → Claim 0 xs t → FollowsClaim ys ts → FollowsClaim (codes "," ∷ (xs ++ ys)) (t ∷ ts)
  comma_claim xs ys t ts c f =
      let l : Listed (xs ++ ys) (t ∷ ts) = first_listed xs ys t ts c f in
      record {
        long = omega (arith, l.long);
        ends_type = λ x rest is. by_comma;
        read = λ d k u x rest is within few. ap (with_first u) (l.read d k x rest is (less d within) few);
      }
    where
      less : (d : ℕ) → suc (length (xs ++ ys)) < d → length (xs ++ ys) < d
      less d h = omega arith

  parenthesised_claim : (xs : Lexemes) (t : Mono) → Claim 0 xs t → Claim 2 (codes "(" ∷ (xs ++ codes ")" ∷ [])) t
  parenthesised_claim xs t c =
      marked_claim (codes "(") (xs ++ codes ")" ∷ []) t (no_entity_marked scope apart (codes "(") refl) (in_round_atom xs t [] (one_listed xs t c))

  one_more_claim : (xs ys : Lexemes) (t : Mono) (ts : List Mono) → Claim 2 xs t → ArgumentsClaim ys ts → ArgumentsClaim (xs ++ ys) (t ∷ ts)
  unfolding AtomRead
  one_more_claim xs ys t ts c a = record { long = omega (arith, c.some, a.long, length-append xs ys); read = read }
    where
      read : (d k : ℕ) (rest : Lexemes) → length (xs ++ ys) ≤ d → length (t ∷ ts) ≤ k → NoAtom rest → arguments_by (atom_by scope (type_at scope d)) k ((xs ++ ys) ++ rest) ≡ (t ∷ ts, rest)
      read d zero rest within few stop = absurd (none few)
        where
          none : suc (length ts) ≤ 0 → ⊥
          none h = omega arith
      read d (suc k) rest within few stop =
          let long = length-append xs ys in
          let left : length xs ≤ d = omega arith in
          let behind_it : length ys ≤ d = omega arith in
          let fewer : length ts ≤ k = omega arith in
          let more : Lexemes → List Mono × Lexemes = arguments_by (atom_by scope (type_at scope d)) k in
          ap (λ zs. arguments_next more zs (atom_by scope (type_at scope d) zs)) (append_assoc xs ys rest)
          ∙ ap (arguments_next more (xs ++ (ys ++ rest))) (c.as_atom refl d (ys ++ rest) left)
          ∙ ap (λ (q : List Mono × Lexemes). (t ∷ q.0, q.1)) (a.read d k rest behind_it fewer stop)

  no_more_claim : ArgumentsClaim [] []
  no_more_claim = record { long = omega arith; read = λ d k rest within few stop. no_arguments (type_at scope d) k rest stop }

  applied_claim : (e : Entity) (name : Name) (xs : Lexemes) (t : Mono) (ts : List Mono) → HasName scope e name → ArgumentsClaim xs (t ∷ ts) → Claim 1 (name_text name ∷ xs) (Con e (t ∷ ts))
  unfolding OperandRead
  applied_claim e name xs t ts has a = record { small = omega arith; some = omega arith; as_atom = λ h. absurd (two h); as_operand = λ _. operand; as_type = type_by (name_text name ∷ xs) (Con e (t ∷ ts)) operand }
    where
      two : ◌≡◌ {A = ℕ} 1 2 → ⊥
      two h = omega arith

      operand : OperandRead (name_text name ∷ xs) (Con e (t ∷ ts))
      operand d rest within stop =
          let left : length xs ≤ d = omega arith in
          let few : length (t ∷ ts) ≤ length (xs ++ rest) = omega (arith, a.long, length-append xs rest) in
          ap (head_by scope (type_at scope d) (name_text name) (xs ++ rest)) (entity_named scope apart e name has)
          ∙ ap (applied_to e) (a.read d (length (xs ++ rest)) rest left few stop)

  arrow_claim : (xs ys : Lexemes) (a b : Mono) → Claim 1 xs a → Claim 0 ys b → Claim 0 (xs ++ codes "->" ∷ ys) (Fun a b)
  unfolding OperandRead TypeRead
  arrow_claim xs ys a b c r = record { small = omega arith; some = omega (arith, long); as_atom = λ h. absurd (two h); as_operand = λ h. absurd (one h); as_type = read }
    where
      long : length (xs ++ codes "->" ∷ ys) ≡ length xs + suc (length ys)
      long = length-append xs (codes "->" ∷ ys)

      two : ◌≡◌ {A = ℕ} 0 2 → ⊥
      two h = omega arith

      one : 1 ≤ 0 → ⊥
      one h = omega arith

      read : TypeRead (xs ++ codes "->" ∷ ys) (Fun a b)
      read zero rest lt e = absurd (none lt)
        where
          none : length (xs ++ codes "->" ∷ ys) < 0 → ⊥
          none h = omega arith
      read (suc d) rest lt e =
          let h = long in
          let left : length xs ≤ d = omega arith in
          let behind_it : length ys < d = omega arith in
          ap (λ zs. arrow_by (type_at scope d) (operand_by scope (type_at scope d) zs)) (append_assoc xs (codes "->" ∷ ys) rest)
          ∙ ap (arrow_by (type_at scope d)) (c.as_operand (omega arith) d (codes "->" ∷ (ys ++ rest)) left (inr refl))
          ∙ ap (function_to a) (r.as_type d rest behind_it e)

  lower_claim : (g : ℕ) (xs : Lexemes) (t : Mono) → Claim (suc g) xs t → Claim g xs t
  lower_claim g xs t c = record {
    small = omega (arith, c.small);
    some = c.some;
    as_atom = λ h. absurd (two h);
    as_operand = λ _. c.as_operand (omega arith);
    as_type = c.as_type;
  }
    where
      two : g ≡ 2 → ⊥
      two h = omega (arith, c.small)

  nothing_claim : ListsClaim [] []
  unfolding ListsClaim
  nothing_claim = refl

  first_claim : (xs ys : Lexemes) (t : Mono) (ts : List Mono) → Claim 0 xs t → FollowsClaim ys ts → ListsClaim (xs ++ ys) (t ∷ ts)
  unfolding ListsClaim
  first_claim xs ys t ts c f = first_listed xs ys t ts c f

  mutual
    pub claims : (g : ℕ) (xs : Lexemes) (t : Mono) → ReadsType scope g xs t → Claim g xs t
    claims _ _ _ (variable n text has) = variable_claim n text has
    claims _ _ _ (constructor e name q has) = constructor_claim e name has
    claims _ _ _ (enclosed e b xs ts q count l) = enclosed_claim e b xs ts q count (lists_claims xs ts l)
    claims _ _ _ (parenthesised xs t r) = parenthesised_claim xs t (claims 0 xs t r)
    claims _ _ _ (applied e name xs t ts q has a) = applied_claim e name xs t ts has (arguments_claims xs (t ∷ ts) a)
    claims _ _ _ (arrow xs ys a b r s) = arrow_claim xs ys a b (claims 1 xs a r) (claims 0 ys b s)
    claims _ _ _ (lower g xs t r) = lower_claim g xs t (claims (suc g) xs t r)

    arguments_claims : (xs : Lexemes) (ts : List Mono) → Arguments scope xs ts → ArgumentsClaim xs ts
    arguments_claims _ _ no_more = no_more_claim
    arguments_claims _ _ (one_more xs ys t ts r a) = one_more_claim xs ys t ts (claims 2 xs t r) (arguments_claims ys ts a)

    lists_claims : (xs : Lexemes) (ts : List Mono) → Lists scope xs ts → ListsClaim xs ts
    lists_claims _ _ nothing = nothing_claim
    lists_claims _ _ (first xs ys t ts r f) = first_claim xs ys t ts (claims 0 xs t r) (follows_claims ys ts f)

    follows_claims : (xs : Lexemes) (ts : List Mono) → Follows scope xs ts → FollowsClaim xs ts
    follows_claims _ _ ends = ends_claim
    follows_claims _ _ (comma xs ys t ts r f) = comma_claim xs ys t ts (claims 0 xs t r) (follows_claims ys ts f)

  -- what the reader finds
  pub found : (xs : Lexemes) (t : Mono) → Claim 0 xs t → type_at scope (suc (length xs)) (xs ++ []) ≡ Some (t, [])
  unfolding TypeRead
  found xs t c = c.as_type (suc (length xs)) [] (omega arith) tt

some_one : (t u : Mono) → ◌≡◌ {A = One} (Some (t, [])) (Some (u, [])) → t ≡ u
some_one t u e = let p : ◌≡◌ {A = Mono × Lexemes} (t, []) (u, []) = cc in ap (λ q. q.0) p

pub one_type_lem : OneType
one_type_lem scope apart xs t u r s =
    some_one t u (sym (found scope apart xs t (claims scope apart 0 xs t r)) ∙ found scope apart xs u (claims scope apart 0 xs u s))
