-- What one operator does to another, from their levels and directions.
use Rattle.std.proofs.Common.{◌≡◌, ◌<◌, ◌≤◌, ◌⊎◌, refl, ◌∙◌, arith, inl, inr}
use Rattle.std.proofs.lemmas.Bool.{lt-ltb, le-ltb}
use Rattle.hr_fixity.specs.declared.sequence.Direction.TheVariants.{Left, Right}
use Rattle.hr_fixity.specs.declared.sequence.Fixity.{Fixity}
use Rattle.hr_fixity.specs.declared.stack.Turn.TheVariants.{Closes, Opens}
use Rattle.hr_fixity.specs.Productions.{Nonterminal, Any, LeftOnly, RightOnly}
use Rattle.hr_fixity.specs.Reader.{turn_between, turn_at_one_level}

-- what closes a tree of the nonterminal as a left operand
abbrev pub Looser : Nonterminal → Fixity → Type 0
Looser (Any i) f = f.level < i
Looser (LeftOnly i) f = (f.level < i) ⊎ ((f.level ≡ i) × (f.direction ≡ Left))
Looser (RightOnly i) f = f.level < i

-- what may stand at the root of a tree of the nonterminal
abbrev pub Within : Nonterminal → Fixity → Type 0
Within (Any i) f = i ≤ f.level
Within (LeftOnly i) f = (i < f.level) ⊎ ((f.level ≡ i) × (f.direction ≡ Left))
Within (RightOnly i) f = (i < f.level) ⊎ ((f.level ≡ i) × (f.direction ≡ Right))

pub closes_above : (f g : Fixity) → g.level < f.level → turn_between f g ≡ Closes
closes_above f g h = rw (lt-ltb g.level f.level h) refl

pub opens_below : (f g : Fixity) → f.level < g.level → turn_between f g ≡ Opens
opens_below f g h = let le : f.level ≤ g.level = omega arith in rw (le-ltb g.level f.level le, lt-ltb f.level g.level h) refl

pub at_one_level : (f g : Fixity) → g.level ≡ f.level → turn_between f g ≡ turn_at_one_level f.direction g.direction
at_one_level f g e =
    let le : f.level ≤ g.level = omega arith in
    let ge : g.level ≤ f.level = omega arith in
    rw (le-ltb g.level f.level le, le-ltb f.level g.level ge) refl

pub closes_left : (f g : Fixity) → f.direction ≡ Left → Looser (LeftOnly f.level) g → turn_between f g ≡ Closes
closes_left f g d (inl h) = closes_above f g h
closes_left f g d (inr h) = at_one_level f g h.0 ∙ (rw (d, h.1) refl)

pub opens_right : (f g : Fixity) → f.direction ≡ Right → Within (RightOnly f.level) g → turn_between f g ≡ Opens
opens_right f g d (inl h) = opens_below f g h
opens_right f g d (inr h) = at_one_level f g h.0 ∙ (rw (d, h.1) refl)
