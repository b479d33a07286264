-- Types layer by layer: what is computed along a type is computed from its head and its parts.
use Rattle.std.proofs.Common.{◌≡◌, ◌<◌, ◌+◌, ◌-◌, ℕ, suc, Bool, true, false, ◌&&◌, List, [], ◌∷◌, ◌++◌, map, length, take, drop, reverse, refl, sym, ap, ◌∙◌, subst, append_assoc, append-nil, arith, max}
use Rattle.std.specs.List.{AllByRecursion as Each, list_all}
use Rattle.std.proofs.lemmas.List.{map-append, length-append, length-map}
use Rattle.std.proofs.lemmas.List.Folds.{list_all-append}
use Rattle.std.proofs.Math.Seq.{take-append_seam, drop-append_seam}
use Rattle.hr_base.specs.declared.bind.Entity.{Entity}
use Rattle.hr_type.specs.declared.mono.Mono.{Mono}
use Rattle.hr_type.specs.declared.mono.Mono.TheVariants.{Var, Con, Fun, outs-Var, outs-Con, outs-Fun}
use Rattle.hr_type.specs.declared.mono.Mono.TheOpen.{Mono-F}
use Rattle.hr_type.specs.declared.spell.TypeScope.{TypeScope}
use Rattle.hr_type.specs.Heads.{Head, variable_head, head, arrow_head, layer_head, head_of, layer_parts, parts, joined, last_function, posts, placed, built}
use Rattle.hr_type.specs.Sizes.{size, depth, total, greatest}
use Rattle.hr_type.specs.Spelling.{brackets_of, fits_arity, has_arities, has_arity, layer_arity, is_spellable, has_spelling, layer_spelling}
use Rattle.hr_type.proofs.Terms.{every_type, value-var, value-con, value-fun}
use Rattle.hr_type.proofs.Freeing.{total-append, size_var, size_con, size_fun}

pub head_var : (n : ℕ) → head_of (Var n) ≡ variable_head n
unfolding head_of
head_var n = ap layer_head (outs-Var n)

pub head_con : (e : Entity) (ts : List Mono) → head_of (Con e ts) ≡ head e (length ts)
unfolding head_of
head_con e ts = ap layer_head (outs-Con e ts)

pub head_fun : (a b : Mono) → head_of (Fun a b) ≡ arrow_head
unfolding head_of
head_fun a b = ap layer_head (outs-Fun a b)

pub parts_var : (n : ℕ) → parts (Var n) ≡ []
unfolding parts
parts_var n = ap layer_parts (outs-Var n)

pub parts_con : (e : Entity) (ts : List Mono) → parts (Con e ts) ≡ ts
unfolding parts
parts_con e ts = ap layer_parts (outs-Con e ts)

pub parts_fun : (a b : Mono) → parts (Fun a b) ≡ a ∷ b ∷ []
unfolding parts
parts_fun a b = ap layer_parts (outs-Fun a b)

-- a claim holds of every type where it holds of each kind
pub by_kind : (P : Mono → Type 0) → ((n : ℕ) → P (Var n)) → ((e : Entity) (ts : List Mono) → P (Con e ts)) → ((a b : Mono) → P (Fun a b)) → (t : Mono) → P t
by_kind P v c f = every_type P v (λ e ts _. c e ts) (λ a b _ _. f a b)

pub size_parts : (t : Mono) → size t ≡ suc (total (map size (parts t)))
size_parts =
    by_kind (λ t. size t ≡ suc (total (map size (parts t))))
    (λ n. size_var _ n refl ∙ sym (ap (λ ts. suc (total (map size ts))) (parts_var n)))
    (λ e ts. size_con _ e ts refl ∙ sym (ap (λ us. suc (total (map size us))) (parts_con e ts)))
    (λ a b. size_fun _ a b refl ∙ (let k : suc (size a + size b) ≡ suc (size a + (size b + 0)) = omega arith in k) ∙ sym (ap (λ us. suc (total (map size us))) (parts_fun a b)))

pub depth_parts : (t : Mono) → depth t ≡ suc (greatest (map depth (parts t)))
unfolding depth
depth_parts =
    by_kind (λ t. depth t ≡ suc (greatest (map depth (parts t))))
    (λ n. value-var _ _ _ _ n ∙ sym (ap (λ ts. suc (greatest (map depth ts))) (parts_var n)))
    (λ e ts. value-con _ _ _ _ e ts ∙ sym (ap (λ us. suc (greatest (map depth us))) (parts_con e ts)))
    (λ a b. value-fun _ _ _ _ a b ∙ (let k : suc (max (depth a) (depth b)) ≡ suc (max (depth a) (max (depth b) 0)) = omega arith in k) ∙ sym (ap (λ us. suc (greatest (map depth us))) (parts_fun a b)))

-- a test of each type of a list
abbrev pub every : (Mono → Bool) → List Mono → Bool
every f ts = list_all (λ b. b) (map f ts)

pub every-append : (f : Mono → Bool) (ts us : List Mono) → every f (ts ++ us) ≡ (every f ts && every f us)
every-append f ts us = ap (list_all (λ b. b)) (map-append f ts us) ∙ list_all-append (λ b. b) (map f ts) (map f us)

and_true : (b : Bool) → (b && true) ≡ b
and_true true = refl
and_true false = refl

pub and_assoc : (a b c : Bool) → (a && (b && c)) ≡ ((a && b) && c)
and_assoc true b c = refl
and_assoc false b c = refl

two_tests : (f : Mono → Bool) (a b : Mono) → (f a && f b) ≡ every f (a ∷ b ∷ [])
two_tests f a b = ap (λ x. f a && x) (sym (and_true (f b)))

pub arities_parts : (t : Mono) → has_arities t ≡ (has_arity t && every has_arities (parts t))
unfolding has_arity
arities_parts =
    by_kind (λ t. has_arities t ≡ (has_arity t && every has_arities (parts t)))
    (λ n. value-var _ _ _ _ n ∙ sym (ap (λ ts. has_arity (Var n) && every has_arities ts) (parts_var n) ∙ ap (λ x. layer_arity x && true) (outs-Var n)))
    (λ e ts. value-con _ _ _ _ e ts ∙ ap (λ n. fits_arity e n (brackets_of e) && every has_arities ts) (length-map ts has_arities)
    ∙ sym (ap (λ us. has_arity (Con e ts) && every has_arities us) (parts_con e ts) ∙ ap (λ x. layer_arity x && every has_arities ts) (outs-Con e ts)))
    (λ a b. value-fun _ _ _ _ a b ∙ two_tests has_arities a b
    ∙ sym (ap (λ us. has_arity (Fun a b) && every has_arities us) (parts_fun a b) ∙ ap (λ x. layer_arity x && every has_arities (a ∷ b ∷ [])) (outs-Fun a b)))

module _ (scope : TypeScope) where
  pub spellable_parts : (t : Mono) → is_spellable scope t ≡ (has_spelling scope t && every (is_spellable scope) (parts t))
  unfolding has_spelling
  spellable_parts =
      by_kind (λ t. is_spellable scope t ≡ (has_spelling scope t && every (is_spellable scope) (parts t)))
      (λ n. value-var _ _ _ _ n ∙ sym (ap (λ ts. has_spelling scope (Var n) && every (is_spellable scope) ts) (parts_var n) ∙ ap (λ x. layer_spelling scope x && true) (outs-Var n) ∙ and_true _))
      (λ e ts. value-con _ _ _ _ e ts
      ∙ sym (ap (λ us. has_spelling scope (Con e ts) && every (is_spellable scope) us) (parts_con e ts) ∙ ap (λ x. layer_spelling scope x && every (is_spellable scope) ts) (outs-Con e ts)))
      (λ a b. value-fun _ _ _ _ a b ∙ two_tests (is_spellable scope) a b
      ∙ sym (ap (λ us. has_spelling scope (Fun a b) && every (is_spellable scope) us) (parts_fun a b) ∙ ap (λ x. layer_spelling scope x && every (is_spellable scope) (a ∷ b ∷ [])) (outs-Fun a b)))

module _ (t : Mono) where
  pub arity_var : (n : ℕ) → t ≡ Var n → has_arity t ≡ true
  unfolding has_arity
  arity_var n h = ap has_arity h ∙ ap layer_arity (outs-Var n)

  pub arity_con : (e : Entity) (ts : List Mono) → t ≡ Con e ts → has_arity t ≡ fits_arity e (length ts) (brackets_of e)
  unfolding has_arity
  arity_con e ts h = ap has_arity h ∙ ap layer_arity (outs-Con e ts)

  pub arity_fun : (a b : Mono) → t ≡ Fun a b → has_arity t ≡ true
  unfolding has_arity
  arity_fun a b h = ap has_arity h ∙ ap layer_arity (outs-Fun a b)

module _ (scope : TypeScope) (t : Mono) where
  pub spelling_var : (n : ℕ) → t ≡ Var n → has_spelling scope t ≡ layer_spelling scope (Mono-F.Var n)
  unfolding has_spelling
  spelling_var n h = ap (has_spelling scope) h ∙ ap (layer_spelling scope) (outs-Var n)

  pub spelling_con : (e : Entity) (ts : List Mono) → t ≡ Con e ts → has_spelling scope t ≡ layer_spelling scope (Mono-F.Con e ts)
  unfolding has_spelling
  spelling_con e ts h = ap (has_spelling scope) h ∙ ap (layer_spelling scope) (outs-Con e ts)

  pub spelling_fun : (a b : Mono) → t ≡ Fun a b → has_spelling scope t ≡ true
  unfolding has_spelling
  spelling_fun a b h = ap (has_spelling scope) h ∙ ap (layer_spelling scope) (outs-Fun a b)

pub posts_parts : (t : Mono) → posts t ≡ joined (map posts (parts t)) ++ head_of t ∷ []
unfolding posts
posts_parts =
    by_kind (λ t. posts t ≡ joined (map posts (parts t)) ++ head_of t ∷ [])
    (λ n. value-var _ _ _ _ n ∙ sym (ap (λ ts. joined (map posts ts) ++ head_of (Var n) ∷ []) (parts_var n) ∙ ap (λ h. h ∷ []) (head_var n)))
    (λ e ts. value-con _ _ _ _ e ts ∙ ap (λ n. joined (map posts ts) ++ head e n ∷ []) (length-map ts posts)
    ∙ sym (ap (λ us. joined (map posts us) ++ head_of (Con e ts) ∷ []) (parts_con e ts) ∙ ap (λ h. joined (map posts ts) ++ h ∷ []) (head_con e ts)))
    (λ a b. value-fun _ _ _ _ a b ∙ flat (posts a) (posts b)
    ∙ sym (ap (λ us. joined (map posts us) ++ head_of (Fun a b) ∷ []) (parts_fun a b) ∙ ap (λ h. joined (posts a ∷ posts b ∷ []) ++ h ∷ []) (head_fun a b)))
  where
    flat : (xs ys : List Head) → xs ++ (ys ++ arrow_head ∷ []) ≡ (xs ++ (ys ++ [])) ++ arrow_head ∷ []
    flat xs ys = simp (append_assoc, append-nil)

pub joined-append : (xs ys : List (List Head)) → joined (xs ++ ys) ≡ joined xs ++ joined ys
joined-append [] ys = refl
joined-append (x ∷ xs) ys = ap (λ hs. x ++ hs) (joined-append xs ys) ∙ sym (append_assoc x (joined xs) (joined ys))

-- A stack of types from which the last one was taken, and on which its parts were put.
module _ (before after rest : List Mono) (t : Mono) (was : before ≡ rest ++ t ∷ []) (is : after ≡ rest ++ parts t) where
  pub posts_more : (found : List Head) → joined (map posts after) ++ (head_of t ∷ found) ≡ joined (map posts before) ++ found
  posts_more found =
      ap (λ ts. joined (map posts ts) ++ (head_of t ∷ found)) is ∙ ap (λ hs. hs ++ (head_of t ∷ found)) (ap joined (map-append posts rest (parts t)) ∙ joined-append (map posts rest) (map posts (parts t)))
      ∙ regroup (joined (map posts rest)) (joined (map posts (parts t))) (head_of t) found
      ∙ sym (ap (λ ts. joined (map posts ts) ++ found) was ∙ ap (λ hs. hs ++ found) (ap joined (map-append posts rest (t ∷ [])) ∙ joined-append (map posts rest) (posts t ∷ []) ∙ ap (λ hs. joined (map posts rest) ++ (hs ++ [])) (posts_parts t)))
    where
      regroup : (xs ys : List Head) (h : Head) (zs : List Head) → (xs ++ ys) ++ (h ∷ zs) ≡ (xs ++ ((ys ++ h ∷ []) ++ [])) ++ zs
      regroup xs ys h zs = simp (append_assoc, append-nil)

  total_at : (us : List Mono) → total (map size (rest ++ us)) ≡ total (map size rest) + total (map size us)
  total_at us = ap total (map-append size rest us) ∙ total-append (map size rest) (map size us)

  pub counted : total (map size before) ≡ suc (total (map size after))
  counted =
      let b : total (map size before) ≡ total (map size rest) + (size t + 0) = ap (λ ts. total (map size ts)) was ∙ total_at (t ∷ []) in
      let a : total (map size after) ≡ total (map size rest) + total (map size (parts t)) = ap (λ ts. total (map size ts)) is ∙ total_at (parts t) in
      omega (arith, size_parts t)

  pub smaller : total (map size after) < total (map size before)
  smaller = omega (arith, counted)

  -- a test that a type meets where its head and its parts do
  pub tested : (f g : Mono → Bool) → f t ≡ (g t && every f (parts t)) → g t ≡ true → every f after ≡ every f before
  tested f g e holds =
      ap (every f) is ∙ every-append f rest (parts t) ∙ ap (λ b. every f rest && b) (ap (λ b. b && every f (parts t)) (sym holds) ∙ sym e ∙ sym (and_true (f t)))
      ∙ sym (every-append f rest (t ∷ [])) ∙ sym (ap (every f) was)

  pub fails : (f g : Mono → Bool) → f t ≡ (g t && every f (parts t)) → g t ≡ false → false ≡ every f before
  fails f g e holds =
      sym (and_false (every f rest)) ∙ ap (λ b. every f rest && b) (ap (λ b. (b && every f (parts t)) && true) (sym holds) ∙ ap (λ b. b && true) (sym e)) ∙ sym (every-append f rest (t ∷ [])) ∙ sym (ap (every f) was)
    where
      and_false : (b : Bool) → (b && false) ≡ false
      and_false true = refl
      and_false false = refl

-- putting a head on a stack with its parts at the end
pub placed_parts : (t : Mono) (ts : List Mono) → placed (head_of t) (ts ++ parts t) ≡ ts ++ t ∷ []
placed_parts t ts = by_kind (λ t. (ts : List Mono) → placed (head_of t) (ts ++ parts t) ≡ ts ++ t ∷ []) of_var of_con of_fun t ts
  where
    split : (ts us : List Mono) (n : ℕ) → n ≡ length us → length (ts ++ us) - n ≡ length ts
    split ts us n e = omega (arith, length-append ts us)

    of_var : (n : ℕ) (ts : List Mono) → placed (head_of (Var n)) (ts ++ parts (Var n)) ≡ ts ++ Var n ∷ []
    of_var n ts = ap (λ h. placed h (ts ++ parts (Var n))) (head_var n) ∙ ap (λ us. (ts ++ us) ++ Var n ∷ []) (parts_var n) ∙ ap (λ us. us ++ Var n ∷ []) (append-nil ts)

    of_con : (e : Entity) (us : List Mono) (ts : List Mono) → placed (head_of (Con e us)) (ts ++ parts (Con e us)) ≡ ts ++ Con e us ∷ []
    of_con e us ts =
        ap (λ h. placed h (ts ++ parts (Con e us))) (head_con e us) ∙ ap (λ vs. placed (head e (length us)) (ts ++ vs)) (parts_con e us)
        ∙ ap (λ n. take n (ts ++ us) ++ Con e (drop n (ts ++ us)) ∷ []) (split ts us (length us) refl)
        ∙ ap (λ vs. vs ++ Con e (drop (length ts) (ts ++ us)) ∷ []) (take-append_seam ts us) ∙ ap (λ vs. ts ++ Con e vs ∷ []) (drop-append_seam ts us)

    of_fun : (a b : Mono) (ts : List Mono) → placed (head_of (Fun a b)) (ts ++ parts (Fun a b)) ≡ ts ++ Fun a b ∷ []
    of_fun a b ts =
        let two : List Mono = a ∷ b ∷ [] in
        ap (λ h. placed h (ts ++ parts (Fun a b))) (head_fun a b) ∙ ap (λ vs. placed arrow_head (ts ++ vs)) (parts_fun a b)
        ∙ ap (λ n. take n (ts ++ two) ++ last_function (reverse (drop n (ts ++ two))) ∷ []) (split ts two 2 refl)
        ∙ ap (λ vs. vs ++ last_function (reverse (drop (length ts) (ts ++ two))) ∷ []) (take-append_seam ts two)
        ∙ ap (λ vs. ts ++ last_function (reverse vs) ∷ []) (drop-append_seam ts two)

-- what is built of the heads of a type is the type
Builds : Mono → Type 0
Builds t = (hs : List Head) (ts : List Mono) → built (posts t ++ hs) ts ≡ built hs (ts ++ t ∷ [])

builds_all : (us : List Mono) → Each Builds us → (hs : List Head) (ts : List Mono) → built (joined (map posts us) ++ hs) ts ≡ built hs (ts ++ us)
unfolding Builds
builds_all [] each hs ts = ap (built hs) (sym (append-nil ts))
builds_all (u ∷ us) each hs ts =
    ap (λ xs. built xs ts) (append_assoc (posts u) (joined (map posts us)) hs) ∙ each.0 (joined (map posts us) ++ hs) ts ∙ builds_all us each.1 hs (ts ++ u ∷ []) ∙ ap (built hs) (append_assoc ts (u ∷ []) us)

builds_layer : (t : Mono) → Each Builds (parts t) → Builds t
unfolding Builds
builds_layer t each hs ts =
    ap (λ xs. built (xs ++ hs) ts) (posts_parts t) ∙ ap (λ xs. built xs ts) (append_assoc (joined (map posts (parts t))) (head_of t ∷ []) hs) ∙ builds_all (parts t) each (head_of t ∷ hs) ts
    ∙ ap (built hs) (placed_parts t ts)

builds : (t : Mono) → Builds t
builds =
    every_type Builds (λ n. builds_layer (Var n) (subst (Each Builds) (sym (parts_var n)) tt)) (λ e ts each. builds_layer (Con e ts) (subst (Each Builds) (sym (parts_con e ts)) each))
    (λ a b p q. builds_layer (Fun a b) (subst (Each Builds) (sym (parts_fun a b)) (p, (q, tt))))

pub built_type : (t : Mono) → built (posts t) [] ≡ t ∷ []
unfolding Builds
built_type t = ap (λ xs. built xs []) (sym (append-nil (posts t))) ∙ builds t [] []

-- two types with one head have equally many parts, and are one where their parts are
pub same_width : (a b : Mono) → head_of a ≡ head_of b → length (parts a) ≡ length (parts b)
same_width a b h = sym (width a) ∙ ap width_of h ∙ width b
  where
    width_of : Head → ℕ
    width_of (variable_head n) = 0
    width_of (head e n) = n
    width_of arrow_head = 2

    width : (t : Mono) → width_of (head_of t) ≡ length (parts t)
    width =
        by_kind (λ t. width_of (head_of t) ≡ length (parts t)) (λ n. ap width_of (head_var n) ∙ sym (ap length (parts_var n))) (λ e ts. ap width_of (head_con e ts) ∙ sym (ap length (parts_con e ts)))
        (λ a b. ap width_of (head_fun a b) ∙ sym (ap length (parts_fun a b)))

pub same_layer : (a b : Mono) → head_of a ≡ head_of b → parts a ≡ parts b → a ≡ b
same_layer a b h p =
    let one : a ∷ [] ≡ b ∷ [] = sym (placed_parts a []) ∙ ap (λ x. placed x (parts a)) h ∙ ap (placed (head_of b)) p ∙ placed_parts b [] in cc
