-- What the code learns of types: their heads, their parts, and stacks of them.
use Rattle.std.proofs.Common.{◌≡◌, ◌≢◌, ◌↔◌, ◌⊎◌, ◌<◌, ◌+◌, ◌-◌, ℕ, suc, IsTrue, Bool, true, false, eqb, List, [], ◌∷◌, ◌++◌, map, length, take, drop, get_or, reverse, Result, Ok, Err, IfOk, OnOk, sym, ap, ◌∙◌, append-nil, arith, max, min, inl, inr}
use Rattle.std.proofs.lemmas.Bool.{false≢true, eq-eqb}
use Rattle.std.proofs.lemmas.Bool.Decides.{eqb_tells}
use Rattle.std.proofs.lemmas.List.{map-append, same_from_push, take_more, length-append, reverse-append}
use Rattle.std.proofs.Math.Seq.{take-append_seam, drop-append_seam}
use Rattle.hr_base.specs.declared.bind.Entity.{Entity}
use Rattle.hr_type.specs.declared.mono.Mono.{Mono}
use Rattle.hr_type.specs.declared.mono.Mono.TheVariants.{Var, Con, Fun}
use Rattle.hr_type.specs.declared.measure.Inner.{Inner}
use Rattle.hr_type.specs.Heads.{variable_head, head, arrow_head, head_of, last_function, parts, placed}
use Rattle.hr_type.specs.Inside.{deepest_of, spread}
use Rattle.hr_type.specs.Sizes.{size, depth, total, greatest, reach}
use Rattle.hr_type.proofs.Freeing.{total-append}
use Rattle.hr_type.proofs.Layers.{by_kind, head_var, head_con, head_fun, parts_var, parts_con, parts_fun, size_parts, depth_parts, same_width, same_layer}

pub on_ok : {X E : Type 0} (r : Result X E) (P Q : Type 0) → (P → Q) → OnOk r P → OnOk r Q
on_ok (Ok x) P Q f h = f h
on_ok (Err e) P Q f h = tt

pub if_ok : {X E : Type 0} (r : Result X E) (P Q : X → Type 0) → ((x : X) → P x → Q x) → IfOk r P → IfOk r Q
if_ok (Ok x) P Q f h = f x h
if_ok (Err e) P Q f h = tt

-- a type that is known by its parts
module _ (t : Mono) where
  pub is_var : (n : ℕ) → t ≡ Var n → head_of t ≡ variable_head n
  is_var n h = ap head_of h ∙ head_var n

  pub is_con : (e : Entity) (ts : List Mono) → t ≡ Con e ts → head_of t ≡ head e (length ts)
  is_con e ts h = ap head_of h ∙ head_con e ts

  pub is_fun : (a b : Mono) → t ≡ Fun a b → head_of t ≡ arrow_head
  is_fun a b h = ap head_of h ∙ head_fun a b

  pub no_parts : (n : ℕ) → t ≡ Var n → parts t ≡ []
  no_parts n h = ap parts h ∙ parts_var n

  pub arguments : (e : Entity) (ts : List Mono) → t ≡ Con e ts → parts t ≡ ts
  arguments e ts h = ap parts h ∙ parts_con e ts

  pub both : (a b : Mono) → t ≡ Fun a b → parts t ≡ a ∷ b ∷ []
  both a b h = ap parts h ∙ parts_fun a b

pub var_no_arrow : (t : Mono) (n : ℕ) → t ≡ Var n → head_of t ≡ arrow_head → ⊥
var_no_arrow t n h k = let q : variable_head n ≡ arrow_head = sym (is_var t n h) ∙ k in absurd (cc)

pub con_no_arrow : (t : Mono) (e : Entity) (ts : List Mono) → t ≡ Con e ts → head_of t ≡ arrow_head → ⊥
con_no_arrow t e ts h k = let q : head e (length ts) ≡ arrow_head = sym (is_con t e ts h) ∙ k in absurd (cc)

pub never : (P : Type 0) → (P → ⊥) → IsTrue false ↔ P
never P h = (λ t. absurd (false≢true t), λ p. absurd (h p))

-- comparing heads
pub variables_tell : (l r : Mono) (n : ℕ) (b : Bool) → l ≡ Var n → (IsTrue b ↔ (r ≡ Var n)) → IsTrue b ↔ (head_of l ≡ head_of r)
variables_tell l r n b h tells = (λ t. ap head_of (h ∙ sym (tells.0 t)), λ e. tells.1 (by_kind (λ r. variable_head n ≡ head_of r → r ≡ Var n) of_var of_con of_fun r (sym (is_var l n h) ∙ e)))
  where
    of_var : (m : ℕ) → variable_head n ≡ head_of (Var m) → Var m ≡ Var n
    of_var m e = let k : variable_head n ≡ variable_head m = e ∙ head_var m in let j : n ≡ m = cc in ap Var (sym j)

    of_con : (e : Entity) (ts : List Mono) → variable_head n ≡ head_of (Con e ts) → Con e ts ≡ Var n
    of_con e ts k = let j : variable_head n ≡ head e (length ts) = k ∙ head_con e ts in absurd (cc)

    of_fun : (a b : Mono) → variable_head n ≡ head_of (Fun a b) → Fun a b ≡ Var n
    of_fun a b k = let j : variable_head n ≡ arrow_head = k ∙ head_fun a b in absurd (cc)

pub con_var_differ : (l r : Mono) (e : Entity) (ts : List Mono) (n : ℕ) → l ≡ Con e ts → r ≡ Var n → head_of l ≡ head_of r → ⊥
con_var_differ l r e ts n h k j = let q : head e (length ts) ≡ variable_head n = sym (is_con l e ts h) ∙ j ∙ is_var r n k in absurd (cc)

pub con_fun_differ : (l r : Mono) (e : Entity) (ts : List Mono) (a b : Mono) → l ≡ Con e ts → r ≡ Fun a b → head_of l ≡ head_of r → ⊥
con_fun_differ l r e ts a b h k j = let q : head e (length ts) ≡ arrow_head = sym (is_con l e ts h) ∙ j ∙ is_fun r a b k in absurd (cc)

pub constructors_tell : (l r : Mono) (e f : Entity) (ts us : List Mono) (m n : ℕ) → l ≡ Con e ts → r ≡ Con f us → e ≡ f → m ≡ length ts → n ≡ length us → IsTrue (eqb m n) ↔ (head_of l ≡ head_of r)
constructors_tell l r e f ts us m n h k same p q = (
  λ t. is_con l e ts h ∙ (λ i. head (same i) ((sym p ∙ by_test t (eqb_tells m n) ∙ q) i)) ∙ sym (is_con r f us k),
  λ j. let w : head e (length ts) ≡ head f (length us) = sym (is_con l e ts h) ∙ j ∙ is_con r f us k in let z : length ts ≡ length us = cc in eq-eqb m n (p ∙ z ∙ sym q),
)
  where
    by_test : eqb m n ≡ true → ((eqb m n ≡ true) × (m ≡ n)) ⊎ ((eqb m n ≡ false) × (m ≢ n)) → m ≡ n
    by_test t (inl y) = y.1
    by_test t (inr y) = absurd (false≢true (sym y.0 ∙ t))

pub constructors_differ : (l r : Mono) (e f : Entity) (ts us : List Mono) → l ≡ Con e ts → r ≡ Con f us → (e ≡ f → ⊥) → head_of l ≡ head_of r → ⊥
constructors_differ l r e f ts us h k differ j = let w : head e (length ts) ≡ head f (length us) = sym (is_con l e ts h) ∙ j ∙ is_con r f us k in differ (cc)

pub constructors_fail : (l r : Mono) (e f : Entity) (ts us : List Mono) (b : Bool) → l ≡ Con e ts → r ≡ Con f us → b ≡ false → (IsTrue b ↔ (e ≡ f)) → IsTrue b ↔ (head_of l ≡ head_of r)
constructors_fail l r e f ts us b h k fails tells = (λ t. absurd (false≢true (sym fails ∙ t)), λ j. absurd (constructors_differ l r e f ts us h k (λ same. false≢true (sym fails ∙ tells.1 same)) j))

pub functions_tell : (l r : Mono) (a b : Mono) (t : Bool) → l ≡ Fun a b → (IsTrue t ↔ (head_of r ≡ arrow_head)) → IsTrue t ↔ (head_of l ≡ head_of r)
functions_tell l r a b t h tells = (λ k. is_fun l a b h ∙ sym (tells.0 k), λ j. tells.1 (sym j ∙ is_fun l a b h))

-- the last of a stack taken away
pub popped : {X Y : Type 0} (f : X → Y) (xs ys : List X) (x : X) → xs ≡ ys ++ x ∷ [] → map f xs ≡ map f ys ++ f x ∷ []
popped f xs ys x h = ap (map f) h ∙ map-append f ys (x ∷ [])

pub emptied : {X Y : Type 0} (f : X → Y) (xs ys : List X) → xs ≡ ys ++ [] → ys ≡ [] → map f xs ≡ []
emptied f xs ys h k = ap (map f) (h ∙ append-nil ys ∙ k)

-- the same, turned round
pub turned_popped : {X Y : Type 0} (f : X → Y) (xs ys : List X) (x : X) → xs ≡ ys ++ x ∷ [] → reverse (map f xs) ≡ f x ∷ reverse (map f ys)
turned_popped f xs ys x h = ap reverse (popped f xs ys x h) ∙ reverse-append (map f ys) (f x ∷ [])

-- two lists cut where their backs are equally long
lengths : (us vs ws zs : List Mono) → us ++ vs ≡ ws ++ zs → length vs ≡ length zs → length us ≡ length ws
lengths us vs ws zs e k = omega (arith, ap length e, length-append us vs, length-append ws zs)

pub cut : (us vs ws zs : List Mono) → us ++ vs ≡ ws ++ zs → length vs ≡ length zs → (us ≡ ws) × (vs ≡ zs)
cut us vs ws zs e k =
    let n : length us ≡ length ws = lengths us vs ws zs e k in (
      sym (take-append_seam us vs) ∙ ap (λ m. take m (us ++ vs)) n ∙ ap (take (length ws)) e ∙ take-append_seam ws zs,
      sym (drop-append_seam us vs) ∙ ap (λ m. drop m (us ++ vs)) n ∙ ap (drop (length ws)) e ∙ drop-append_seam ws zs,
    )

-- Two stacks whose last types have one head are one where they are with the parts of these in their places.
module _ (xs ys ls rs ns ms : List Mono) (a b : Mono) (P : Type 0) (left : xs ≡ ls ++ a ∷ []) (right : ys ≡ rs ++ b ∷ []) (tells : (xs ≡ ys) ↔ P) where
  pub heads_agree : P → head_of a ≡ head_of b
  heads_agree p = ap head_of (same_from_push ls rs a b (sym left ∙ tells.1 p ∙ right)).1

  module _ (lefts : ns ≡ ls ++ parts a) (rights : ms ≡ rs ++ parts b) (same : head_of a ≡ head_of b) where
    pub layers_tell : (ns ≡ ms) ↔ P
    layers_tell = (
      λ e. let c = cut ls (parts a) rs (parts b) (sym lefts ∙ e ∙ rights) (same_width a b same) in
          tells.0 (left ∙ (λ i. c.0 i ++ same_layer a b same c.1 i ∷ []) ∙ sym right),
      λ p. let s = same_from_push ls rs a b (sym left ∙ tells.1 p ∙ right) in lefts ∙ (λ i. s.0 i ++ parts (s.1 i)) ∙ sym rights,
    )

pub pushed_empty : (xs : List Mono) (t : Mono) → xs ++ t ∷ [] ≡ [] → ⊥
pushed_empty xs t e = let k : length (xs ++ t ∷ []) ≡ 0 = ap length e in let j : length (xs ++ t ∷ []) ≡ length xs + 1 = length-append xs (t ∷ []) in absurd (omega arith)

-- measuring: one more type on the stack
pub deepest-push : (xs : List Inner) (i : Inner) → deepest_of (xs ++ i ∷ []) ≡ max (deepest_of xs) (i.above + depth i.ty.now)
deepest-push [] i = omega arith
deepest-push (x ∷ xs) i = omega (arith, deepest-push xs i)

pub spread-push : (xs : List Inner) (i : Inner) → spread (xs ++ i ∷ []) ≡ spread xs + size i.ty.now
spread-push [] i = omega arith
spread-push (x ∷ xs) i = omega (arith, spread-push xs i)

pub reach-push : (above : ℕ) (ts : List Mono) (t : Mono) → reach above (ts ++ t ∷ []) ≡ max (reach above ts) (above + depth t)
reach-push above [] t = omega arith
reach-push above (u ∷ ts) t = omega (arith, reach-push above ts t)

pub no_deeper : (xs : List Inner) (above : ℕ) (ts : List Mono) → ts ≡ [] → deepest_of xs ≡ max (deepest_of xs) (reach above ts)
no_deeper xs above ts e = let k : reach above ts ≡ 0 = ap (reach above) e in omega arith

pub no_wider : (xs : List Inner) (ts : List Mono) → ts ≡ [] → spread xs ≡ spread xs + total (map size ts)
no_wider xs ts e = let k : total (map size ts) ≡ 0 = ap (λ us. total (map size us)) e in omega arith

pub two_deeper : (d e f above : ℕ) (ts : List Mono) (a b x y : Mono) → ts ≡ a ∷ b ∷ [] → x ≡ a → y ≡ b → e ≡ max d (above + depth x) → f ≡ max e (above + depth y) → f ≡ max d (reach above ts)
two_deeper d e f above ts a b x y is p q h k =
    let r : reach above ts ≡ max (above + depth a) (max (above + depth b) 0) = ap (reach above) is in omega (arith, ap depth p, ap depth q)

pub two_wider : (d e f : ℕ) (ts : List Mono) (a b x y : Mono) → ts ≡ a ∷ b ∷ [] → x ≡ a → y ≡ b → e ≡ d + size x → f ≡ e + size y → f ≡ d + total (map size ts)
two_wider d e f ts a b x y is p q h k =
    let r : total (map size ts) ≡ size a + (size b + 0) = ap (λ us. total (map size us)) is in omega (arith, ap size p, ap size q)

-- one more of a list of types
module _ (ts : List Mono) (i : ℕ) (t : Mono) (within : i < length ts) (is : t ≡ get_or ts i t) where
  front : take (i + 1) ts ≡ take i ts ++ t ∷ []
  front = take_more ts i t within ∙ ap (λ x. take i ts ++ x ∷ []) (sym is)

  pub each_deeper : (d e f above : ℕ) → e ≡ max d (reach above (take i ts)) → f ≡ max e (above + depth t) → f ≡ max d (reach above (take (i + 1) ts))
  each_deeper d e f above h k = let r : reach above (take (i + 1) ts) ≡ max (reach above (take i ts)) (above + depth t) = ap (reach above) front ∙ reach-push above (take i ts) t in omega arith

  pub each_wider : (d e f : ℕ) → e ≡ d + total (map size (take i ts)) → f ≡ e + size t → f ≡ d + total (map size (take (i + 1) ts))
  each_wider d e f h k =
      let r : total (map size (take (i + 1) ts)) ≡ total (map size (take i ts)) + (size t + 0) =
      ap (λ us. total (map size us)) front ∙ ap total (map-append size (take i ts) (t ∷ [])) ∙ total-append (map size (take i ts)) (size t ∷ []) in
      omega arith

reach_greatest : (above : ℕ) (ts : List Mono) → max above (reach above ts) ≡ above + greatest (map depth ts)
reach_greatest above [] = omega arith
reach_greatest above (t ∷ ts) = omega (arith, reach_greatest above ts)

pub counted_more : (end count seen a b whole : ℕ) → seen ≡ min (count + 1) end → b ≡ suc a → min (count + b) end ≡ whole → min (seen + a) end ≡ whole
counted_more end count seen a b whole s n e = omega arith

-- one layer measured
module _ (end deepest above here seen : ℕ) (xs ys zs : List Inner) (i : Inner) (whole : ℕ) where
  pub deeper : xs ≡ ys ++ i ∷ [] → here ≡ min (i.above + 1) end → seen ≡ max deepest here → deepest_of zs ≡ max (deepest_of ys) (reach here (parts i.ty.now))
      → min (max deepest (deepest_of xs)) end ≡ whole → min (max seen (deepest_of zs)) end ≡ whole
  deeper is h s d e =
      let a : deepest_of xs ≡ max (deepest_of ys) (i.above + depth i.ty.now) = ap deepest_of is ∙ deepest-push ys i in
      let b : max here (reach here (parts i.ty.now)) ≡ here + greatest (map depth (parts i.ty.now)) = reach_greatest here (parts i.ty.now) in
      let c : depth i.ty.now ≡ suc (greatest (map depth (parts i.ty.now))) = depth_parts i.ty.now in
      omega arith

  pub narrower : xs ≡ ys ++ i ∷ [] → spread zs ≡ spread ys + total (map size (parts i.ty.now)) → spread zs < spread xs
  narrower is w =
      let a : spread xs ≡ spread ys + size i.ty.now = ap spread is ∙ spread-push ys i in
      omega (arith, size_parts i.ty.now)

-- a type put on the stack from which its parts were taken
module _ (t : Mono) (old new own : List Mono) (n : ℕ) (taken : own ≡ drop (length old - n) old) (left : new ≡ take (length old - n) old) where
  pub made_con : (e f : Entity) (ts us : List Mono) → t ≡ Con e ts → f ≡ e → us ≡ own → n ≡ length ts → new ++ Con f us ∷ [] ≡ placed (head_of t) old
  made_con e f ts us h same k count =
      (λ i. left i ++ Con (same i) ((k ∙ taken) i) ∷ []) ∙ ap (λ m. take (length old - m) old ++ Con e (drop (length old - m) old) ∷ []) count ∙ sym (ap (λ x. placed x old) (is_con t e ts h))

  pub made_fun : (a b u : Mono) → t ≡ Fun a b → n ≡ 2 → u ≡ last_function (reverse own) → new ++ u ∷ [] ≡ placed (head_of t) old
  made_fun a b u h two k =
      (λ i. left i ++ (k ∙ ap (λ xs. last_function (reverse xs)) taken) i ∷ []) ∙ ap (λ m. take (length old - m) old ++ last_function (reverse (drop (length old - m) old)) ∷ []) two
      ∙ sym (ap (λ x. placed x old) (is_fun t a b h))

pub sole : (xs ys : List Mono) (t u : Mono) → xs ≡ t ∷ [] → xs ≡ ys ++ u ∷ [] → u ≡ t
sole xs ys t u h k = sym (same_from_push [] ys t u (sym h ∙ k)).1

pub sole_some : (xs : List Mono) (t : Mono) → xs ≡ t ∷ [] → xs ≡ [] → ⊥
sole_some xs t h k = let j : ◌≡◌ {A = List Mono} (t ∷ []) [] = sym h ∙ k in absurd (cc)

pub fewer : (before rest : List Mono) (t : Mono) → before ≡ rest ++ t ∷ [] → total (map size rest) < total (map size before)
fewer before rest t was =
    let b : total (map size before) ≡ total (map size rest) + (size t + 0) =
    ap (λ ts. total (map size ts)) was ∙ ap total (map-append size rest (t ∷ [])) ∙ total-append (map size rest) (size t ∷ []) in
    omega (arith, size_parts t)
