-- A whole sequence that the reader takes has the tree to which the stack closes, with the root that is demanded.
use Rattle.std.proofs.Common.{◌≡◌, ℕ, suc, ◌+◌, ◌-◌, ◌≤◌, Bool, List, [], ◌∷◌, ◌++◌, length, Option, Some, None, true, false, nat_le, ◌&&◌, cond, refl, sym, ◌∙◌, ap, subst, arith, append_assoc, append-nil, length-append}
use Rattle.std.proofs.lemmas.Bool.{leb-true}
use Rattle.std.specs.Option.{option_and_then}
use Rattle.hr_base.specs.declared.place.Place.{Place}
use Rattle.hr_fixity.specs.declared.sequence.Awaited.{Awaited}
use Rattle.hr_fixity.specs.declared.sequence.Awaited.TheVariants as await
use Rattle.hr_fixity.specs.declared.sequence.Fixity.{Fixity}
use Rattle.hr_fixity.specs.declared.sequence.Part.{Part}
use Rattle.hr_fixity.specs.declared.sequence.Part.TheVariants as part
use Rattle.hr_fixity.specs.declared.stack.Open.{Open}
use Rattle.hr_fixity.specs.declared.stack.Open.TheVariants as open_
use Rattle.hr_fixity.specs.declared.stack.Turn.{Turn}
use Rattle.hr_fixity.specs.declared.stack.Turn.TheVariants.{Closes, Opens, Clashes}
use Rattle.hr_fixity.specs.declared.tree.Graded.{Graded}
use Rattle.hr_fixity.specs.declared.tree.Graded.TheVariants as tree
use Rattle.hr_fixity.specs.Productions.{Any, Grades}
use Rattle.hr_fixity.specs.Productions as g
use Rattle.hr_fixity.specs.Sequence.{take_turns}
use Rattle.hr_fixity.specs.Reader as reader
use Rattle.hr_fixity.specs.Reader.{run, take_part, turn_at, turn_of, by_turn, close, close_all, with_left_operand, keeps_root, nothing_open, open_operator, open_minus}
use Rattle.hr_fixity.proofs.Sound.{Spine, bottom, operator, negation, literal, lower, left_operand}
use Rattle.hr_fixity.proofs.Closing.{LeftSound, left_sound, close_all_sound, fit_operand}

-- what the stack is where a part of this kind is awaited
abbrev pub At : Awaited → List Part → List Open → Type 0
At await.Term done os = Spine os done
At await.Negated done os = Spine os done
At await.Operator done os = (ps : List Part) × (ps ++ (part.Operand ∷ []) ≡ done) × Spine os ps

abbrev pub Ends : List Part → Option (List Open) → Type 0
Ends whole None = Unit {0}
Ends whole (Some os) = At await.Operator whole os

ends_same : (as_ bs : List Part) (r : Option (List Open)) → as_ ≡ bs → Ends as_ r → Ends bs r
ends_same as_ bs r e h = subst (λ cs. Ends cs r) e h

one_more : (done ps : List Part) (q : Part) → (done ++ (q ∷ [])) ++ ps ≡ done ++ (q ∷ ps)
one_more done ps q = append_assoc done (q ∷ []) ps

both : (a b : Bool) → (a && b) ≡ true → (a ≡ true) × (b ≡ true)
both true true e = (refl, refl)
both true false e = absurd (cc)
both false b e = absurd (cc)

-- the stack on which an infix operator opens
opened : (root : Option ℕ) (n : ℕ) (p : Place) (f : Fixity) (ps done : List Part) (r : Option (List Open × Graded)) → n ≡ length done → ps ++ (part.Operand ∷ []) ≡ done → f.level ≤ 9
    → LeftSound ps (part.Operand ∷ []) f r → (then_ : List Open → Option (List Open)) (rest : List Part)
    → ((os : List Open) → Spine os (done ++ (part.Operator p f ∷ [])) → Ends rest (then_ os)) → Ends rest (option_and_then then_ (open_operator root n f r))
opened root n p f ps done None count same small h then_ rest next = tt
opened root n p f ps done (Some (os, l)) count same small h then_ rest next = by (keeps_root root n (nothing_open os))
  where
    number : length h.front + length h.back ≡ n
    number = sym (length-append h.front h.back) ∙ ap length (h.same ∙ same) ∙ sym count

    list : h.front ++ (h.back ++ (part.Operator p f ∷ [])) ≡ done ++ (part.Operator p f ∷ [])
    list = sym (append_assoc h.front h.back (part.Operator p f ∷ [])) ∙ ap (λ qs. qs ++ (part.Operator p f ∷ [])) (h.same ∙ same)

    spine : Spine (open_.Operator n f l ∷ os) (done ++ (part.Operator p f ∷ []))
    spine =
        let one : Spine (open_.Operator (length h.front + length h.back) f l ∷ os) (h.front ++ (h.back ++ (part.Operator p f ∷ []))) = operator os h.front h.back p f l h.spine h.opens small h.fit in
        subst (λ k. Spine (open_.Operator k f l ∷ os) (done ++ (part.Operator p f ∷ []))) number (subst (λ qs. Spine (open_.Operator (length h.front + length h.back) f l ∷ os) qs) list one)

    by : (b : Bool) → Ends rest (option_and_then then_ (cond b (Some (open_.Operator n f l ∷ os)) None))
    by true = next (open_.Operator n f l ∷ os) spine
    by false = tt

-- the stack on which a prefix minus opens
minus_opened : (os : List Open) (o : Open) (then_ : List Open → Option (List Open)) (rest : List Part)
    → (turn_at os reader.minus ≡ Opens → Ends rest (then_ (o ∷ os))) → Ends rest (option_and_then then_ (open_minus os o))
minus_opened os o then_ rest next = by (turn_at os reader.minus) refl
  where
    by : (u : Turn) → turn_at os reader.minus ≡ u → Ends rest (option_and_then then_ (by_turn u None (Some (o ∷ os)) None))
    by Closes e = tt
    by Opens e = next e
    by Clashes e = tt

pub run_sound : (root : Option ℕ) (ps : List Part) (a : Awaited) (n : ℕ) (done : List Part) (os : List Open) → n ≡ length done → take_turns a ps ≡ true → At a done os
    → Ends (done ++ ps) (run root n ps os)
run_sound root [] await.Term n done os count turns h = absurd (cc)
run_sound root [] await.Negated n done os count turns h = absurd (cc)
run_sound root [] await.Operator n done os count turns h = (h.0, h.1 ∙ sym (append-nil done), h.2)
run_sound root (part.Operand ∷ ps) await.Term n done os count turns h =
    ends_same _ _ (run root (suc n) ps os) (one_more done ps part.Operand)
    (run_sound root ps await.Operator (suc n) (done ++ (part.Operand ∷ [])) os (omega (arith, length-append done (part.Operand ∷ []))) turns (done, refl, h))
run_sound root (part.Operand ∷ ps) await.Negated n done os count turns h =
    ends_same _ _ (run root (suc n) ps os) (one_more done ps part.Operand)
    (run_sound root ps await.Operator (suc n) (done ++ (part.Operand ∷ [])) os (omega (arith, length-append done (part.Operand ∷ []))) turns (done, refl, h))
run_sound root (part.Minus p ∷ ps) await.Term n done os count turns h =
    minus_opened os (open_.Minus n) (run root (suc n) ps) (done ++ (part.Minus p ∷ ps)) (λ e.
    let s : Spine (open_.Minus n ∷ os) (done ++ (part.Minus p ∷ [])) = subst (λ k. Spine (open_.Minus k ∷ os) (done ++ (part.Minus p ∷ []))) (sym count) (negation os done p h e) in
    ends_same _ _ (run root (suc n) ps (open_.Minus n ∷ os)) (one_more done ps (part.Minus p))
    (run_sound root ps await.Negated (suc n) (done ++ (part.Minus p ∷ [])) (open_.Minus n ∷ os) (omega (arith, length-append done (part.Minus p ∷ []))) turns s))
run_sound root (part.PatternMinus p ∷ ps) await.Term n done os count turns h =
    minus_opened os (open_.PatternMinus n) (run root (suc n) ps) (done ++ (part.PatternMinus p ∷ ps)) (λ e.
    let s : Spine (open_.PatternMinus n ∷ os) (done ++ (part.PatternMinus p ∷ [])) = subst (λ k. Spine (open_.PatternMinus k ∷ os) (done ++ (part.PatternMinus p ∷ []))) (sym count) (literal os done p h e) in
    ends_same _ _ (run root (suc n) ps (open_.PatternMinus n ∷ os)) (one_more done ps (part.PatternMinus p))
    (run_sound root ps await.Negated (suc n) (done ++ (part.PatternMinus p ∷ [])) (open_.PatternMinus n ∷ os) (omega (arith, length-append done (part.PatternMinus p ∷ []))) turns s))
run_sound root (part.Operator p f ∷ ps) await.Operator n done os count turns h =
    let t : (nat_le f.level 9 ≡ true) × (take_turns await.Term ps ≡ true) = both (nat_le f.level 9) (take_turns await.Term ps) turns in
    let small : f.level ≤ 9 = leb-true f.level 9 t.0 in
    let here : tree.Operand (n - 1) ≡ tree.Operand (length h.0) = ap tree.Operand (last n done h.0 count h.1) in
    let read : LeftSound h.0 (part.Operand ∷ []) f (with_left_operand os (tree.Operand (n - 1)) f) =
    subst (λ u. LeftSound h.0 (part.Operand ∷ []) f (with_left_operand os u f)) (sym here)
    (left_sound os h.0 (part.Operand ∷ []) (tree.Operand (length h.0)) f h.2 (fit_operand (length h.0) h.2)
    (left_operand f.direction f.level (length h.0) (part.Operand ∷ []) (tree.Operand (length h.0)) (lower (suc f.level) 10 (length h.0) (part.Operand ∷ []) (tree.Operand (length h.0)) (omega arith) (omega arith) (g.operand (length h.0))))) in
    opened root n p f h.0 done (with_left_operand os (tree.Operand (n - 1)) f) count h.1 small read (run root (suc n) ps) (done ++ (part.Operator p f ∷ ps)) (λ os' s.
    ends_same _ _ (run root (suc n) ps os') (one_more done ps (part.Operator p f))
    (run_sound root ps await.Term (suc n) (done ++ (part.Operator p f ∷ [])) os' (omega (arith, length-append done (part.Operator p f ∷ []))) t.1 s))
  where
    last : (n : ℕ) (done ps : List Part) → n ≡ length done → ps ++ (part.Operand ∷ []) ≡ done → n - 1 ≡ length ps
    last n done ps e same = omega (arith, ap length same, length-append ps (part.Operand ∷ []))
run_sound root (part.Operator p f ∷ ps) await.Term n done os count turns h = absurd (cc)
run_sound root (part.Operator p f ∷ ps) await.Negated n done os count turns h = absurd (cc)
run_sound root (part.Minus p ∷ ps) await.Negated n done os count turns h = absurd (cc)
run_sound root (part.Minus p ∷ ps) await.Operator n done os count turns h = absurd (cc)
run_sound root (part.PatternMinus p ∷ ps) await.Negated n done os count turns h = absurd (cc)
run_sound root (part.PatternMinus p ∷ ps) await.Operator n done os count turns h = absurd (cc)
run_sound root (part.Operand ∷ ps) await.Operator n done os count turns h = absurd (cc)

pub graded : (root : Option ℕ) (ps : List Part) (os : List Open) → take_turns await.Term ps ≡ true → run root 0 ps [] ≡ Some os → Grades (Any 0) 0 ps (close_all os (tree.Operand (length ps - 1)))
graded root ps os turns runs =
    let at : At await.Operator ps os = subst (λ r. Ends ps r) runs (run_sound root ps await.Term 0 [] [] refl turns bottom) in
    let e : tree.Operand (length at.0) ≡ tree.Operand (length ps - 1) = ap tree.Operand (last at.0 at.1) in
    subst (λ u. Grades (Any 0) 0 ps (close_all os u)) e
    (subst (λ qs. Grades (Any 0) 0 qs (close_all os (tree.Operand (length at.0)))) at.1
    (close_all_sound os at.0 (part.Operand ∷ []) (tree.Operand (length at.0)) at.2 (fit_operand (length at.0) at.2)))
  where
    last : (qs : List Part) → qs ++ (part.Operand ∷ []) ≡ ps → length qs ≡ length ps - 1
    last qs same = omega (arith, ap length same, length-append qs (part.Operand ∷ []))
