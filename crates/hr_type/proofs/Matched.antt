-- Matching a scheme's body with a type, layer by layer.
use Rattle.std.proofs.Common.{◌≡◌, ◌↔◌, ℕ, suc, IsTrue, Bool, true, false, List, [], ◌∷◌, ◌++◌, ◌+◌, map, length, refl, sym, ap, ◌∙◌, subst, arith, Some, None, cond, eqb, ◌⊎◌, ◌≢◌, inl, inr}
use Rattle.std.proofs.lemmas.Bool.{false≢true, eq-eqb}
use Rattle.std.proofs.lemmas.Bool.Decides.{eqb_tells}
use Rattle.std.proofs.lemmas.List.{map-append, length-map, same_from_push, length-append}
use Rattle.std.specs.Map.{lookup}
use Rattle.indexmap.specs.IndexMap.{insert_entry}
use Rattle.hr_type.specs.declared.mono.Mono.{Mono}
use Rattle.hr_type.specs.declared.mono.Mono.TheVariants.{Var, Con, Fun}
use Rattle.hr_type.specs.Heads.{head, head_of, parts}
use Rattle.hr_type.specs.Types.{bounded, first_for, replaced}
use Rattle.hr_type.specs.Matching.{Pairs, Fits, Narrows}
use Rattle.hr_type.proofs.Terms.{value-var, value-con, value-fun}
use Rattle.hr_type.proofs.Layers.{by_kind, head_con, head_fun, parts_con, parts_fun, same_width, same_layer}
use Rattle.hr_type.proofs.Reading.{cut}

abbrev pub IsApplied : Mono → Type 0
IsApplied t = (n : ℕ) → t ≡ Var n → ⊥

-- a type that is no variable keeps its head under a substitution, and its parts are replaced
module _ (by : ℕ → Mono) where
  pub head_stays : (t : Mono) → IsApplied t → head_of (replaced by t) ≡ head_of t
  head_stays =
      by_kind (λ t. IsApplied t → head_of (replaced by t) ≡ head_of t) (λ n a. absurd (a n refl))
      (λ e ts a. ap head_of (value-con Mono Con Fun by e ts) ∙ head_con e (map (replaced by) ts) ∙ ap (head e) (length-map ts (replaced by)) ∙ sym (head_con e ts))
      (λ x y a. ap head_of (value-fun Mono Con Fun by x y) ∙ head_fun (replaced by x) (replaced by y) ∙ sym (head_fun x y))

  pub parts_replaced : (t : Mono) → IsApplied t → parts (replaced by t) ≡ map (replaced by) (parts t)
  parts_replaced =
      by_kind (λ t. IsApplied t → parts (replaced by t) ≡ map (replaced by) (parts t)) (λ n a. absurd (a n refl))
      (λ e ts a. ap parts (value-con Mono Con Fun by e ts) ∙ parts_con e (map (replaced by) ts) ∙ sym (ap (map (replaced by)) (parts_con e ts)))
      (λ x y a. ap parts (value-fun Mono Con Fun by x y) ∙ parts_fun (replaced by x) (replaced by y) ∙ sym (ap (map (replaced by)) (parts_fun x y)))

pub of_variable : (by : ℕ → Mono) (t : Mono) (n : ℕ) → t ≡ Var n → replaced by t ≡ by n
of_variable by t n h = ap (replaced by) h ∙ value-var Mono Con Fun by n

-- what is chosen and what is left to match leave exactly the substitutions that give the special type
pub record Open (bound : ℕ) (general special : Mono) (chosen : Pairs) (G S : List Mono) : Type 0 where
  pub sound : (by : ℕ → Mono) → Fits by chosen → map (replaced (bounded bound by)) G ≡ S → replaced (bounded bound by) general ≡ special
  pub complete : (by : ℕ → Mono) → replaced (bounded bound by) general ≡ special → Fits by chosen × (map (replaced (bounded bound by)) G ≡ S)
  pub some : (by : ℕ → Mono) × Fits by chosen

module _ (bound : ℕ) (general special : Mono) where
  pub opens : (chosen : Pairs) (G S : List Mono) → chosen ≡ [] → G ≡ general ∷ [] → S ≡ special ∷ [] → Open bound general special chosen G S
  opens chosen G S c g s = record {
    sound = λ by f e. let k : replaced (bounded bound by) general ∷ [] ≡ special ∷ [] = sym (ap (map (replaced (bounded bound by))) g) ∙ e ∙ s in cc;
    complete = λ by h. (subst (Fits by) (sym c) tt, ap (map (replaced (bounded bound by))) g ∙ ap (λ x. x ∷ []) h ∙ sym s);
    some = (Var, subst (Fits Var) (sym c) tt);
  }

  module _ (chosen : Pairs) (G S gs ss : List Mono) (p t : Mono) (left : G ≡ gs ++ p ∷ []) (right : S ≡ ss ++ t ∷ []) (still : Open bound general special chosen G S) where
    split : (by : ℕ → Mono) → map (replaced (bounded bound by)) G ≡ S → (map (replaced (bounded bound by)) gs ≡ ss) × (replaced (bounded bound by) p ≡ t)
    split by e = same_from_push _ _ _ _ (sym (ap (map (replaced (bounded bound by))) left ∙ map-append (replaced (bounded bound by)) gs (p ∷ [])) ∙ e ∙ right)

    join : (by : ℕ → Mono) → map (replaced (bounded bound by)) gs ≡ ss → replaced (bounded bound by) p ≡ t → map (replaced (bounded bound by)) G ≡ S
    join by e h = ap (map (replaced (bounded bound by))) left ∙ map-append (replaced (bounded bound by)) gs (p ∷ []) ∙ (λ i. e i ++ h i ∷ []) ∙ sym right

    pub matched : (by : ℕ → Mono) → replaced (bounded bound by) general ≡ special → replaced (bounded bound by) p ≡ t
    matched by h = (split by (still.complete by h).1).1

    pub variable_matched : (new : Pairs) → Narrows chosen new (λ by. replaced (bounded bound by) p ≡ t) → Open bound general special new gs ss
    variable_matched new n = record {
      sound = λ by f e. still.sound by (n.kept by f) (join by e (n.holds by f));
      complete = λ by h. let w = still.complete by h in let s = split by w.1 in (n.all by w.0 s.1, s.0);
      some = n.some still.some;
    }

    pub variable_refused : ((by : ℕ → Mono) → Fits by chosen → replaced (bounded bound by) p ≡ t → ⊥) → (by : ℕ → Mono) → replaced (bounded bound by) general ≡ special → ⊥
    variable_refused h by e = let w = still.complete by e in h by w.0 (split by w.1).1

    pub layer_matched : IsApplied p → head_of p ≡ head_of t → (H T : List Mono) → H ≡ gs ++ parts p → T ≡ ss ++ parts t → Open bound general special chosen H T
    layer_matched a same H T h k = record {
      sound = λ by f e.
          let c = cut _ _ _ _ (sym (ap (map (replaced (bounded bound by))) h ∙ map-append (replaced (bounded bound by)) gs (parts p)) ∙ e ∙ k) (length-map (parts p) (replaced (bounded bound by)) ∙ same_width p t same) in
          still.sound by f (join by c.0 (same_layer _ _ (head_stays (bounded bound by) p a ∙ same) (parts_replaced (bounded bound by) p a ∙ c.1)));
      complete = λ by e.
          let w = still.complete by e in
          let s = split by w.1 in
          (w.0, ap (map (replaced (bounded bound by))) h ∙ map-append (replaced (bounded bound by)) gs (parts p) ∙ (λ i. s.0 i ++ (sym (parts_replaced (bounded bound by) p a) ∙ ap parts s.1) i) ∙ sym k);
      some = still.some;
    }

    pub layer_refused : IsApplied p → (head_of p ≡ head_of t → ⊥) → (by : ℕ → Mono) → replaced (bounded bound by) general ≡ special → ⊥
    layer_refused a differ by e = differ (sym (head_stays (bounded bound by) p a) ∙ ap head_of (matched by e))

  pub missing_refused : (chosen : Pairs) (G S gs : List Mono) (p : Mono) → G ≡ gs ++ p ∷ [] → S ≡ [] → Open bound general special chosen G S → (by : ℕ → Mono) → replaced (bounded bound by) general ≡ special → ⊥
  missing_refused chosen G S gs p left empty still by e =
      let k : length (map (replaced (bounded bound by)) G) ≡ 0 = ap length ((still.complete by e).1 ∙ empty) in
      let j : length (map (replaced (bounded bound by)) G) ≡ length gs + 1 = length-map G (replaced (bounded bound by)) ∙ ap length left ∙ length-append gs (p ∷ []) in
      absurd (omega arith)

  pub ended : (chosen : Pairs) (G S : List Mono) (b : Bool) → G ≡ [] → (IsTrue b ↔ (S ≡ [])) → Open bound general special chosen G S → IsTrue b ↔ ((by : ℕ → Mono) × (replaced (bounded bound by) general ≡ special))
  ended chosen G S b empty tells still = (
    λ t. (still.some.0, still.sound still.some.0 still.some.1 (ap (map (replaced (bounded bound still.some.0))) empty ∙ sym (tells.0 t))),
    λ w. tells.1 (sym (still.complete w.0 w.1).1 ∙ ap (map (replaced (bounded bound w.0))) empty),
  )

  pub refused_all : ((by : ℕ → Mono) → replaced (bounded bound by) general ≡ special → ⊥) → IsTrue false ↔ ((by : ℕ → Mono) × (replaced (bounded bound by) general ≡ special))
  refused_all h = (λ t. absurd (false≢true t), λ w. absurd (h w.0 w.1))

-- the first pair with a variable, by its test
pub found_as : (n : ℕ) (ps : Pairs) → lookup (eqb n) ps ≡ first_for n ps
found_as n [] = refl
found_as n (p ∷ ps) = (λ i. cond (turned (eqb_tells n p.0) (eqb_tells p.0 n) i) (Some p.1) (found_as n ps i))
  where
    turned : ((eqb n p.0 ≡ true) × (n ≡ p.0)) ⊎ ((eqb n p.0 ≡ false) × (n ≢ p.0)) → ((eqb p.0 n ≡ true) × (p.0 ≡ n)) ⊎ ((eqb p.0 n ≡ false) × (p.0 ≢ n)) → eqb n p.0 ≡ eqb p.0 n
    turned (inl a) (inl b) = a.0 ∙ sym b.0
    turned (inl a) (inr b) = absurd (b.1 (sym a.1))
    turned (inr a) (inl b) = absurd (a.1 (sym b.1))
    turned (inr a) (inr b) = a.0 ∙ sym b.0

pub inserted : (n : ℕ) (t : Mono) (ps : Pairs) → lookup (eqb n) ps ≡ None → insert_entry eqb ps n t ≡ ps ++ (n, t) ∷ []
inserted n t [] e = refl
inserted n t (p ∷ ps) e = by (eqb n p.0) refl (λ later. inserted n t ps later)
  where
    by : (b : Bool) → eqb n p.0 ≡ b → (lookup (eqb n) ps ≡ None → insert_entry eqb ps n t ≡ ps ++ (n, t) ∷ []) → insert_entry eqb (p ∷ ps) n t ≡ p ∷ (ps ++ (n, t) ∷ [])
    by true k go = let q : Some p.1 ≡ None = sym (ap (λ v. cond v (Some p.1) (lookup (eqb n) ps)) k) ∙ e in absurd (cc)
    by false k go =
        ap (λ v. cond v ((p.0, t) ∷ ps) (p ∷ insert_entry eqb ps n t)) k ∙ ap (λ xs. p ∷ xs) (go (sym (ap (λ v. cond v (Some p.1) (lookup (eqb n) ps)) k) ∙ e))

pub empty_tells : {X Y : Type 0} (f : X → Y) (xs : List X) (b : Bool) → b ≡ eqb (length xs) 0 → IsTrue b ↔ (map f xs ≡ [])
empty_tells f [] b h = (λ _. refl, λ _. h ∙ eq-eqb 0 0 refl)
empty_tells f (x ∷ xs) b h = (λ t. absurd (false≢true (sym (some_items (eqb_tells (length (x ∷ xs)) 0)) ∙ sym h ∙ t)), λ e. absurd (let k : ◌≡◌ {A = List _} (f x ∷ map f xs) [] = e in cc))
  where
    some_items : ((eqb (length (x ∷ xs)) 0 ≡ true) × (length (x ∷ xs) ≡ 0)) ⊎ ((eqb (length (x ∷ xs)) 0 ≡ false) × (length (x ∷ xs) ≢ 0)) → eqb (length (x ∷ xs)) 0 ≡ false
    some_items (inr y) = y.0
    some_items (inl y) = let k : suc (length xs) ≡ 0 = y.1 in absurd (omega arith)
