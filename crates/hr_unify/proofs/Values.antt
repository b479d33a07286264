-- Values of types: they depend on the values of the variables alone, and a substitution first is the same as the
-- values of what it puts in.
use Rattle.std.proofs.Common.{◌≡◌, ℕ, List, [], ◌∷◌, ◌++◌, map, refl, sym, ap, ◌∙◌, subst}
use Rattle.std.specs.List.{AllByRecursion as Each, concat}
use Rattle.hr_base.specs.declared.bind.Entity.{Entity}
use Rattle.hr_type.specs.declared.mono.Mono.{Mono}
use Rattle.hr_type.specs.declared.mono.Mono.TheVariants.{Var, Con, Fun}
use Rattle.hr_type.specs.Types.{value, replaced, variables}
use Rattle.hr_type.proofs.Terms.{every_type, value-var, value-con, value-fun}
use Rattle.hr_unify.proofs.Lists.{each_left, each_right}

pub variables_var : (n : ℕ) → variables (Var n) ≡ n ∷ []
variables_var n = value-var _ _ _ _ n

pub variables_con : (e : Entity) (ts : List Mono) → variables (Con e ts) ≡ concat (map variables ts)
variables_con e ts = value-con _ _ _ _ e ts

pub variables_fun : (a b : Mono) → variables (Fun a b) ≡ variables a ++ variables b
variables_fun a b = value-fun _ _ _ _ a b

module _ (A : Type 0) (applied : Entity → List A → A) (function : A → A → A) where
  Agrees : (ℕ → A) → (ℕ → A) → Mono → Type 0
  Agrees f g t = Each (λ n. f n ≡ g n) (variables t) → value A applied function f t ≡ value A applied function g t

  agree_all : (f g : ℕ → A) (ts : List Mono) → Each (Agrees f g) ts → Each (λ n. f n ≡ g n) (concat (map variables ts)) → map (value A applied function f) ts ≡ map (value A applied function g) ts
  unfolding Agrees
  agree_all f g [] claims h = refl
  agree_all f g (t ∷ ts) claims h =
      let here = claims.0 (each_left (λ n. f n ≡ g n) (variables t) (concat (map variables ts)) h) in
      let rest = agree_all f g ts claims.1 (each_right (λ n. f n ≡ g n) (variables t) (concat (map variables ts)) h) in
      λ i. here i ∷ rest i

  agrees_var : (f g : ℕ → A) (n : ℕ) → Agrees f g (Var n)
  unfolding Agrees
  agrees_var f g n h = value-var A applied function f n ∙ (subst (Each (λ n. f n ≡ g n)) (variables_var n) h).0 ∙ sym (value-var A applied function g n)

  agrees_con : (f g : ℕ → A) (e : Entity) (ts : List Mono) → Each (Agrees f g) ts → Agrees f g (Con e ts)
  unfolding Agrees
  agrees_con f g e ts claims h =
      value-con A applied function f e ts ∙ ap (applied e) (agree_all f g ts claims (subst (Each (λ n. f n ≡ g n)) (variables_con e ts) h)) ∙ sym (value-con A applied function g e ts)

  agrees_fun : (f g : ℕ → A) (a b : Mono) → Agrees f g a → Agrees f g b → Agrees f g (Fun a b)
  unfolding Agrees
  agrees_fun f g a b claim_a claim_b h =
      let k = subst (Each (λ n. f n ≡ g n)) (variables_fun a b) h in
      let left = claim_a (each_left (λ n. f n ≡ g n) (variables a) (variables b) k) in
      let right = claim_b (each_right (λ n. f n ≡ g n) (variables a) (variables b) k) in
      value-fun A applied function f a b ∙ (λ i. function (left i) (right i)) ∙ sym (value-fun A applied function g a b)

  pub value_agrees : (f g : ℕ → A) (t : Mono) → Each (λ n. f n ≡ g n) (variables t) → value A applied function f t ≡ value A applied function g t
  unfolding Agrees
  value_agrees f g t = every_type (Agrees f g) (agrees_var f g) (agrees_con f g) (agrees_fun f g) t

  Fuses : (ℕ → A) → (ℕ → Mono) → Mono → Type 0
  Fuses f by t = value A applied function f (replaced by t) ≡ value A applied function (λ n. value A applied function f (by n)) t

  fuse_all : (f : ℕ → A) (by : ℕ → Mono) (ts : List Mono) → Each (Fuses f by) ts → map (value A applied function f) (map (replaced by) ts) ≡ map (value A applied function (λ n. value A applied function f (by n))) ts
  unfolding Fuses
  fuse_all f by [] claims = refl
  fuse_all f by (t ∷ ts) claims = let here = claims.0 in let rest = fuse_all f by ts claims.1 in λ i. here i ∷ rest i

  fuses_var : (f : ℕ → A) (by : ℕ → Mono) (n : ℕ) → Fuses f by (Var n)
  unfolding Fuses
  fuses_var f by n = ap (value A applied function f) (value-var Mono Con Fun by n) ∙ sym (value-var A applied function (λ n. value A applied function f (by n)) n)

  fuses_con : (f : ℕ → A) (by : ℕ → Mono) (e : Entity) (ts : List Mono) → Each (Fuses f by) ts → Fuses f by (Con e ts)
  unfolding Fuses
  fuses_con f by e ts claims =
      ap (value A applied function f) (value-con Mono Con Fun by e ts) ∙ value-con A applied function f e (map (replaced by) ts) ∙ ap (applied e) (fuse_all f by ts claims)
      ∙ sym (value-con A applied function (λ n. value A applied function f (by n)) e ts)

  fuses_fun : (f : ℕ → A) (by : ℕ → Mono) (a b : Mono) → Fuses f by a → Fuses f by b → Fuses f by (Fun a b)
  unfolding Fuses
  fuses_fun f by a b claim_a claim_b =
      ap (value A applied function f) (value-fun Mono Con Fun by a b) ∙ value-fun A applied function f (replaced by a) (replaced by b) ∙ (λ i. function (claim_a i) (claim_b i))
      ∙ sym (value-fun A applied function (λ n. value A applied function f (by n)) a b)

  pub value_fuses : (f : ℕ → A) (by : ℕ → Mono) (t : Mono) → value A applied function f (replaced by t) ≡ value A applied function (λ n. value A applied function f (by n)) t
  unfolding Fuses
  value_fuses f by t = every_type (Fuses f by) (fuses_var f by) (fuses_con f by) (fuses_fun f by) t
