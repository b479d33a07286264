-- What the reader finds, as the clauses of `resolve`.
use Rattle.std.proofs.Common.{◌≡◌, ℕ, ◌-◌, List, [], length, take, get_or, Some, sym, ◌∙◌, ap, subst}
use Rattle.std.proofs.lemmas.Option.{get_or_from_slice_get}
use Rattle.std.specs.List.{slice_get}
use Rattle.std.specs.Option.{IsSome}
use Rattle.hr_fixity.specs.declared.error.FixityError.{FixityError}
use Rattle.hr_fixity.specs.declared.error.FixityError.TheVariants.{FixityConflict, Memory}
use Rattle.hr_fixity.specs.declared.sequence.Infix.{Infix}
use Rattle.hr_fixity.specs.declared.sequence.Part.{Part}
use Rattle.hr_fixity.specs.declared.stack.Open.{Open}
use Rattle.hr_fixity.specs.declared.tree.Graded.{Graded}
use Rattle.hr_fixity.specs.declared.tree.Graded.TheVariants as tree
use Rattle.hr_fixity.specs.Sequence.{IsInfixSequence}
use Rattle.hr_fixity.specs.Resolved.{IsConflict, IsMemory, IsRefused, IsResolved, ShowsPair, beside, place_at, operator_place}
use Rattle.hr_fixity.specs.Reader.{IsFirstUntaken, close_all, run}
use Rattle.hr_fixity.proofs.Complete.{complete, finishes_once}
use Rattle.hr_fixity.proofs.Rooted.{sound}
use Rattle.hr_fixity.proofs.Refusals.{refused}
use Rattle.hr_fixity.proofs.Shown.{left_there, right_there}

-- an element that was read
pub is_part : (parts ps : List Part) (k : ℕ) (q r : Part) → parts ≡ ps → slice_get ps k ≡ Some q → r ≡ get_or parts k r → r ≡ q
is_part parts ps k q r same there read = read ∙ ap (λ xs. get_or xs k r) same ∙ get_or_from_slice_get ps k q r there

module _ (seq : Infix) (is : IsInfixSequence seq) where
  pub found : (os : List Open) (parts : List Part) (t : Graded) → parts ≡ seq.parts → run seq.root 0 seq.parts [] ≡ Some os → t ≡ close_all os (tree.Operand (length parts - 1)) → IsResolved seq t
  found os parts t same runs e =
      let e' : t ≡ close_all os (tree.Operand (length seq.parts - 1)) = e ∙ ap (λ ps. close_all os (tree.Operand (length {A = Part} ps - 1))) same in
      subst (λ u. IsResolved seq u) (sym e') (sound seq os is.turns is.root runs)

  pub only : (t u : Graded) → IsResolved seq t → IsResolved seq u → t ≡ u
  only t u a b = finishes_once seq.root seq.parts t u (complete seq.root seq.parts t a.graded a.rooted) (complete seq.root seq.parts u b.graded b.rooted)

  module _ (k : ℕ) (stop : IsFirstUntaken seq k) (before : List Part) (q : Part) (front : before ≡ take k seq.parts) (here : q ≡ stop.part) where
    pub left_place : IsSome (place_at (beside before q))
    left_place =
        let one : IsSome (place_at (beside (take k seq.parts) stop.part)) = left_there seq.root seq.parts k stop.part stop.stack is.root stop.taken stop.stops in
        subst (λ p. IsSome (place_at (beside before p))) (sym here) (subst (λ ps. IsSome (place_at (beside ps stop.part))) (sym front) one)

    pub right_place : IsSome (operator_place q)
    right_place = subst (λ p. IsSome (operator_place p)) (sym here) (right_there seq.root k stop.part stop.stack stop.stops)

    conflict : (error : FixityError) → ShowsPair before q error → IsConflict seq error
    conflict error shows =
        refused seq is k stop.part stop.stack stop.stands stop.taken error stop.stops
        (subst (λ ps. ShowsPair ps stop.part error) front (subst (λ p. ShowsPair before p error) here shows))

    pub refusal : (error : FixityError) → ShowsPair before q error → IsRefused seq error
    refusal (FixityConflict left right) shows = conflict (FixityConflict left right) shows
    refusal (Memory e) shows = tt

    pub nothing : (error : FixityError) → ShowsPair before q error → (t : Graded) → IsResolved seq t → IsMemory error
    nothing (FixityConflict left right) shows t r = (conflict (FixityConflict left right) shows).refused t r
    nothing (Memory e) shows t r = tt
