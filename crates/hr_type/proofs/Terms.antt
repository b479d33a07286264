-- Induction over types, the equations of `value`, and that the three kinds of type differ.
use Rattle.std.proofs.Common.{◌≡◌, ℕ, List, [], ◌∷◌, map, sym, ap, ◌∙◌, subst}
use Rattle.std.specs.List.{AllByRecursion as Each}
use Rattle.hr_base.specs.declared.bind.Entity.{Entity}
use Rattle.hr_type.specs.declared.mono.Mono.{Mono}
use Rattle.hr_type.specs.declared.mono.Mono.TheVariants.{Var, Con, Fun, rolls-Var, rolls-Con, rolls-Fun, outs-Var, outs-Con, outs-Fun}
use Rattle.hr_type.specs.declared.mono.Mono.TheOpen.{Mono-F}
use Rattle.hr_type.specs.declared.mono.Mono.TheViews.{out-Mono, roll-Mono}
use Rattle.hr_type.specs.declared.mono.Mono.TheFolds.{fold-Mono, fold-roll-Mono, ind-Mono}
use Rattle.hr_type.specs.Types.{layer, value}

module _ (A : Type 0) (applied : Entity → List A → A) (function : A → A → A) (variable : ℕ → A) where
  pub value-var : (n : ℕ) → value A applied function variable (Var n) ≡ variable n
  unfolding value
  value-var n = ap (value A applied function variable) (sym (rolls-Var n)) ∙ fold-roll-Mono A (layer A variable applied function) (Mono-F.Var n)

  pub value-con : (e : Entity) (ts : List Mono) → value A applied function variable (Con e ts) ≡ applied e (map (value A applied function variable) ts)
  unfolding value
  value-con e ts = ap (value A applied function variable) (sym (rolls-Con e ts)) ∙ fold-roll-Mono A (layer A variable applied function) (Mono-F.Con e ts)

  pub value-fun : (a b : Mono) → value A applied function variable (Fun a b) ≡ function (value A applied function variable a) (value A applied function variable b)
  unfolding value
  value-fun a b = ap (value A applied function variable) (sym (rolls-Fun a b)) ∙ fold-roll-Mono A (layer A variable applied function) (Mono-F.Fun a b)

module _ (P : Mono → Type 0) where
  each_held : (ys : List ((t : Mono) × P t)) → Each P (map (λ y. y.0) ys)
  each_held [] = tt
  each_held (y ∷ ys) = (y.1, each_held ys)

  by_layer : ((n : ℕ) → P (Var n)) → ((e : Entity) (ts : List Mono) → Each P ts → P (Con e ts)) → ((a b : Mono) → P a → P b → P (Fun a b))
      → (y : Mono-F ((t : Mono) × P t)) → (x : Mono-F Mono) → Rattle.hr_type.specs.declared.mono.Mono.TheFolds.map-Mono ((t : Mono) × P t) Mono (λ e. e.0) y ≡ x → P (roll-Mono x)
  by_layer v c f (Mono-F.Var n) x e = subst (λ z. P (roll-Mono z)) e (subst P (sym (rolls-Var n)) (v n))
  by_layer v c f (Mono-F.Con h ys) x e = subst (λ z. P (roll-Mono z)) e (subst P (sym (rolls-Con h (map (λ y. y.0) ys))) (c h (map (λ y. y.0) ys) (each_held ys)))
  by_layer v c f (Mono-F.Fun a b) x e = subst (λ z. P (roll-Mono z)) e (subst P (sym (rolls-Fun a.0 b.0)) (f a.0 b.0 a.1 b.1))

  -- induction: a claim holds of every type
  pub every_type : ((n : ℕ) → P (Var n)) → ((e : Entity) (ts : List Mono) → Each P ts → P (Con e ts)) → ((a b : Mono) → P a → P b → P (Fun a b)) → (t : Mono) → P t
  every_type v c f = ind-Mono P (λ x y e. by_layer v c f y x e)

-- the kinds of type differ, and each is known by its parts
var_layer : (n : ℕ) (t : Mono) → Var n ≡ t → ◌≡◌ {A = Mono-F Mono} (Mono-F.Var n) (out-Mono t)
var_layer n t h = sym (outs-Var n) ∙ ap out-Mono h

con_layer : (e : Entity) (ts : List Mono) (t : Mono) → Con e ts ≡ t → ◌≡◌ {A = Mono-F Mono} (Mono-F.Con e ts) (out-Mono t)
con_layer e ts t h = sym (outs-Con e ts) ∙ ap out-Mono h

fun_layer : (a b t : Mono) → Fun a b ≡ t → ◌≡◌ {A = Mono-F Mono} (Mono-F.Fun a b) (out-Mono t)
fun_layer a b t h = sym (outs-Fun a b) ∙ ap out-Mono h

pub var-var : (n m : ℕ) → Var n ≡ Var m → n ≡ m
var-var n m h = let k : ◌≡◌ {A = Mono-F Mono} (Mono-F.Var n) (Mono-F.Var m) = var_layer n (Var m) h ∙ outs-Var m in cc

pub var-con : (n : ℕ) (e : Entity) (ts : List Mono) → Var n ≡ Con e ts → ⊥
var-con n e ts h = let k : ◌≡◌ {A = Mono-F Mono} (Mono-F.Var n) (Mono-F.Con e ts) = var_layer n (Con e ts) h ∙ outs-Con e ts in cc

pub var-fun : (n : ℕ) (a b : Mono) → Var n ≡ Fun a b → ⊥
var-fun n a b h = let k : ◌≡◌ {A = Mono-F Mono} (Mono-F.Var n) (Mono-F.Fun a b) = var_layer n (Fun a b) h ∙ outs-Fun a b in cc

pub con-fun : (e : Entity) (ts : List Mono) (a b : Mono) → Con e ts ≡ Fun a b → ⊥
con-fun e ts a b h = let k : ◌≡◌ {A = Mono-F Mono} (Mono-F.Con e ts) (Mono-F.Fun a b) = con_layer e ts (Fun a b) h ∙ outs-Fun a b in cc

pub con-con : (e f : Entity) (ts us : List Mono) → Con e ts ≡ Con f us → (e ≡ f) × (ts ≡ us)
con-con e f ts us h = let k : ◌≡◌ {A = Mono-F Mono} (Mono-F.Con e ts) (Mono-F.Con f us) = con_layer e ts (Con f us) h ∙ outs-Con f us in (cc, cc)

pub fun-fun : (a b c d : Mono) → Fun a b ≡ Fun c d → (a ≡ c) × (b ≡ d)
fun-fun a b c d h = let k : ◌≡◌ {A = Mono-F Mono} (Mono-F.Fun a b) (Mono-F.Fun c d) = fun_layer a b (Fun c d) h ∙ outs-Fun c d in (cc, cc)

pub ruleset kinds = (var-var, var-con, var-fun, con-fun, con-con, fun-fun)

-- the equations of `value`, for tactics
pub ruleset layers = (value-var, value-con, value-fun)
