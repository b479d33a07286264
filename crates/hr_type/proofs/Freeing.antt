-- Sizes of types, and that freeing a type comes to an end in as many steps as it has parts, three times at most.
use Rattle.std.proofs.Common.{◌≡◌, ◌<◌, ◌≤◌, ◌+◌, ◌-◌, ◌*◌, ℕ, suc, List, [], ◌∷◌, ◌++◌, map, length, set, slice_get, Option, Some, None, refl, sym, ap, ◌∙◌, subst, arith}
use Rattle.std.proofs.lemmas.List.{map-append}
use Rattle.std.specs.List.{AllByRecursion as Each}
use Rattle.std.specs.Option.{IfSome}
use Rattle.hr_base.specs.declared.bind.Entity.{Entity}
use Rattle.hr_type.specs.declared.mono.Mono.{Mono}
use Rattle.hr_type.specs.declared.mono.Mono.TheVariants.{Var, Con, Fun, outs-Var, outs-Con, outs-Fun}
use Rattle.hr_type.specs.Sizes.{size, lead, first_of, total, steps, steps_beside, layer_steps}
use Rattle.hr_type.proofs.Terms.{every_type, value-var, value-con, value-fun}

pub total-append : (ms ns : List ℕ) → total (ms ++ ns) ≡ total ms + total ns
total-append [] ns = omega arith
total-append (m ∷ ms) ns = omega (arith, total-append ms ns)

module _ (t : Mono) where
  pub size_var : (n : ℕ) → t ≡ Var n → size t ≡ 1
  unfolding size
  size_var n h = ap size h ∙ value-var _ _ _ _ n

  pub size_con : (e : Entity) (ts : List Mono) → t ≡ Con e ts → size t ≡ suc (total (map size ts))
  unfolding size
  size_con e ts h = ap size h ∙ value-con _ _ _ _ e ts

  pub size_fun : (a b : Mono) → t ≡ Fun a b → size t ≡ suc (size a + size b)
  unfolding size
  size_fun a b h = ap size h ∙ value-fun _ _ _ _ a b

  pub lead_var : (n : ℕ) → t ≡ Var n → lead t ≡ 1
  unfolding lead
  lead_var n h = ap lead h ∙ value-var _ _ _ _ n

  pub lead_con : (e : Entity) (ts : List Mono) → t ≡ Con e ts → lead t ≡ suc (first_of (map lead ts))
  unfolding lead
  lead_con e ts h = ap lead h ∙ value-con _ _ _ _ e ts

  pub lead_fun : (a b : Mono) → t ≡ Fun a b → lead t ≡ suc (lead a)
  unfolding lead
  lead_fun a b h = ap lead h ∙ value-fun _ _ _ _ a b

first_within : (ts : List Mono) → Each (λ t. lead t ≤ size t) ts → first_of (map lead ts) ≤ total (map size ts)
first_within [] all = omega arith
first_within (t ∷ ts) all = omega (arith, all.0)

-- what leads down from a type is inside it
pub lead_within : (t : Mono) → lead t ≤ size t
lead_within =
    every_type (λ t. lead t ≤ size t)
    (λ n. omega (arith, lead_var (Var n) n refl, size_var (Var n) n refl))
    (λ e ts all. omega (arith, lead_con (Con e ts) e ts refl, size_con (Con e ts) e ts refl, first_within ts all))
    (λ a b p q. omega (arith, lead_fun (Fun a b) a b refl, size_fun (Fun a b) a b refl, p))

-- ---- the steps that are left
beside_is : (ty rest : Mono) → steps_beside ty rest ≡ 3 * (size ty + size rest) - suc (lead rest)
unfolding steps_beside
beside_is ty rest = refl

module _ (ty rest : Mono) where
  pub steps_var : (n : ℕ) → rest ≡ Var n → steps ty rest ≡ 3 * size ty - lead ty
  unfolding steps
  steps_var n h = ap (steps ty) h ∙ ap (layer_steps ty (Var n)) (outs-Var n)

  pub steps_con : (e : Entity) (ts : List Mono) → rest ≡ Con e ts → steps ty rest ≡ steps_beside ty rest
  unfolding steps
  steps_con e ts h = ap (steps ty) h ∙ ap (layer_steps ty (Con e ts)) (outs-Con e ts) ∙ ap (steps_beside ty) (sym h)

  pub steps_fun : (a b : Mono) → rest ≡ Fun a b → steps ty rest ≡ steps_beside ty rest
  unfolding steps
  steps_fun a b h = ap (steps ty) h ∙ ap (layer_steps ty (Fun a b)) (outs-Fun a b) ∙ ap (steps_beside ty) (sym h)

-- a variable beside a type takes no step
steps_at_most : (ty rest : Mono) → steps ty rest ≤ 3 * (size ty + size rest) - suc (lead rest)
steps_at_most ty =
    every_type (λ rest. steps ty rest ≤ 3 * (size ty + size rest) - suc (lead rest))
    (λ n. omega (arith, steps_var ty (Var n) n refl, size_var (Var n) n refl, lead_var (Var n) n refl))
    (λ e ts _. omega (arith, steps_con ty (Con e ts) e ts refl ∙ beside_is ty (Con e ts)))
    (λ a b _ _. omega (arith, steps_fun ty (Fun a b) a b refl ∙ beside_is ty (Fun a b)))

pub if_some : {X : Type 0} (o : Option X) (P Q : X → Type 0) → ((x : X) → P x → Q x) → IfSome o P → IfSome o Q
if_some None P Q f h = tt
if_some (Some x) P Q f h = f x h

pub steps_as : (m : ℕ) (t rest other ty : Mono) → m < steps t rest → ty ≡ t → other ≡ rest → m < steps ty other
steps_as m t rest other ty h p q = subst (λ x. m < steps x other) (sym p) (subst (λ x. m < steps t x) (sym q) h)

pub beside_as : (m : ℕ) (t rest other ty : Mono) → m < steps_beside t rest → ty ≡ t → other ≡ rest → steps ty other ≡ steps_beside ty other → m < steps ty other
beside_as m t rest other ty h p q is = subst (λ n. m < n) (sym is) (subst (λ x. m < steps_beside x other) (sym p) (subst (λ x. m < steps_beside t x) (sym q) h))

-- what hangs beside a variable is next
pub turned_steps : (t rest v : Mono) (m : ℕ) → rest ≡ t → v ≡ Var m → ((n : ℕ) → steps (Var n) rest ≡ steps_beside (Var n) rest) → (n : ℕ) → steps t v < steps (Var n) rest
turned_steps t rest v m h k is n = omega (arith, steps_var t v m k, is n ∙ beside_is (Var n) rest, size_var (Var n) n refl, ap size h, ap lead h, lead_within t)

-- ---- the last argument of a constructor, beside what is left of the others
whole_size : (e : Entity) (ts : List Mono) (last : Mono) → size (Con e (ts ++ last ∷ [])) ≡ suc (total (map size ts) + (size last + 0))
whole_size e ts last = size_con _ e (ts ++ last ∷ []) refl ∙ ap suc (ap total (map-append size ts (last ∷ [])) ∙ total-append (map size ts) (size last ∷ []))

first_at_most : (ts : List Mono) (last : Mono) → first_of (map lead (ts ++ last ∷ [])) ≤ total (map size ts) + lead last
first_at_most [] last = omega arith
first_at_most (t ∷ ts) last = omega (arith, lead_within t)

pub none_left : (e : Entity) (ts : List Mono) (v : Mono) (m : ℕ) → v ≡ Var m → (last : Mono) (n : ℕ) → steps last v < steps (Con e (ts ++ last ∷ [])) (Var n)
none_left e ts v m h last n =
    omega (arith, steps_var last v m h, steps_var (Con e (ts ++ last ∷ [])) (Var n) n refl, whole_size e ts last, lead_con _ e (ts ++ last ∷ []) refl, first_at_most ts last, lead_within last)

pub some_left : (e : Entity) (ts : List Mono) → (length ts ≡ 0 → ⊥) → (last : Mono) (n : ℕ) → steps last (Con e ts) < steps (Con e (ts ++ last ∷ [])) (Var n)
some_left e [] h last n = absurd (h refl)
some_left e (t ∷ ts) h last n =
    omega (
      arith,
      steps_con last (Con e (t ∷ ts)) e (t ∷ ts) refl ∙ beside_is last (Con e (t ∷ ts)),
      steps_var (Con e (t ∷ ts ++ last ∷ [])) (Var n) n refl,
      whole_size e (t ∷ ts) last,
      size_con _ e (t ∷ ts) refl,
      lead_con _ e (t ∷ ts) refl,
      lead_con _ e (t ∷ ts ++ last ∷ []) refl,
      lead_within t,
    )

pub last_steps : (e : Entity) (ts init : List Mono) (last others : Mono) → ts ≡ init ++ last ∷ [] → ((ty : Mono) (n : ℕ) → steps ty others < steps (Con e (init ++ ty ∷ [])) (Var n))
    → (n : ℕ) → steps last others < steps (Con e ts) (Var n)
last_steps e ts init last others h k n = subst (λ us. steps last others < steps (Con e us) (Var n)) (sym h) (k last n)

-- ---- what hung in the first place of some arguments
pub first_steps : (e : Entity) (ts us : List Mono) (first rest : Mono) → slice_get ts 0 ≡ Some first → us ≡ set ts 0 rest → steps first (Con e us) < steps_beside (Con e ts) rest
first_steps e [] us first rest g h = absurd (cc)
first_steps e (t ∷ ts) us first rest g h =
    let here : t ≡ first = cc in
    omega (
      arith,
      steps_con first (Con e us) e us refl ∙ beside_is first (Con e us),
      beside_is (Con e (t ∷ ts)) rest,
      size_con _ e (t ∷ ts) refl,
      size_con _ e us refl ∙ ap (λ xs. suc (total (map size xs))) h,
      lead_con _ e us refl ∙ ap (λ xs. suc (first_of (map lead xs))) h,
      ap size here,
      lead_within rest,
    )

pub closed_steps : (e : Entity) (ts : List Mono) (rest v : Mono) (n : ℕ) → v ≡ Var n → steps rest v < steps_beside (Con e ts) rest
closed_steps e ts rest v n h = omega (arith, steps_var rest v n h, beside_is (Con e ts) rest, size_con _ e ts refl, lead_within rest)

-- the same of a function's argument
pub from_steps : (a b rest : Mono) → steps a (Fun rest b) < steps_beside (Fun a b) rest
from_steps a b rest =
    omega (arith, steps_fun a (Fun rest b) rest b refl ∙ beside_is a (Fun rest b), beside_is (Fun a b) rest, size_fun _ a b refl, size_fun _ rest b refl, lead_fun _ rest b refl, lead_within rest)

pub both_steps : (a b t v : Mono) (n : ℕ) → t ≡ Fun a b → v ≡ Var n → steps b a < steps t v
both_steps a b t v n h k = omega (arith, steps_at_most b a, steps_var t v n k, size_fun t a b h, lead_fun t a b h, lead_within a)
