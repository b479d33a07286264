-- Where blocks end, and where they go on.
use Rattle.std.proofs.Common.{◌≡◌, ℕ, not, ◌||◌, ◌&&◌, Bool, true, false, cond, List, [], ◌∷◌, refl, sym, ap, true≢false}
use Rattle.hr_base.specs.declared.lexeme.Ending.{Ending}
use Rattle.hr_rules.specs.declared.role.Role.{Role}
use Rattle.hr_rules.specs.declared.block.BlockKind.{BlockKind}
use Rattle.hr_rules.specs.declared.block.Placed.{Placed}
use Rattle.hr_rules.specs.CanFollow.{begins_part, begins_some_part, can_follow, follows, is_semicolon}
use Rattle.hr_rules.specs.Blocks.{role, left_of, at_margin, goes_on, ends_block}
use Rattle.hr_rules.specs.BlockLaws.{NothingGoesOnBehindEnds, PartsDoNotEnd, SemicolonsDoNotEnd}
use Rattle.hr_rules.proofs.Margins.{margins}

-- a lexeme that is neither left of the column nor at it, and can't follow
stuck : (left at goes semicolon follow begins : Bool) → goes ≡ not (left || at) → (left || cond at (not begins) (not (semicolon || follow))) ≡ true → not (goes && follow) ≡ true
stuck true at goes semicolon follow begins g e = ap (λ t. not (t && follow)) g
stuck false true goes semicolon follow begins g e = ap (λ t. not (t && follow)) g
stuck false false goes true follow begins g e = absurd (true≢false (sym e))
stuck false false goes false true begins g e = absurd (true≢false (sym e))
stuck false false goes false false begins g e = ap (λ t. not (t && false)) g

pub nothing-goes-on-behind-ends : NothingGoesOnBehindEnds
unfolding can_follow
nothing-goes-on-behind-ends n kind ending [] e = refl
nothing-goes-on-behind-ends n kind ending (next ∷ rest) e =
    stuck (left_of n next) (at_margin n next) (goes_on n next) (is_semicolon (role next)) (follows ending (role next)) (begins_part kind (role next)) (margins n next).goes e

-- a lexeme that begins a part follows an empty part
begins-some : (kind : BlockKind) (role : Role) → begins_part kind role ≡ true → begins_some_part role ≡ true
begins-some BlockKind.Body role e = ap (λ t. t || (begins_part BlockKind.Declarations role || begins_part BlockKind.Alternatives role)) e
begins-some BlockKind.Declarations role e = or-middle (begins_part BlockKind.Body role) (begins_part BlockKind.Declarations role) (begins_part BlockKind.Alternatives role) e
  where
    or-middle : (a b c : Bool) → b ≡ true → (a || (b || c)) ≡ true
    or-middle true b c e = refl
    or-middle false b c e = ap (λ t. t || c) e
begins-some BlockKind.Alternatives role e = or-last (begins_part BlockKind.Body role) (begins_part BlockKind.Declarations role) (begins_part BlockKind.Alternatives role) e
  where
    or-last : (a b c : Bool) → c ≡ true → (a || (b || c)) ≡ true
    or-last true b c e = refl
    or-last false true c e = refl
    or-last false false c e = e

-- a lexeme at the column that begins a part
begun : (left at begins follow : Bool) → (left && at) ≡ false → at ≡ true → begins ≡ true → (left || cond at (not begins) (not follow)) ≡ false
begun true true begins follow apart a b = absurd (true≢false apart)
begun true false begins follow apart a b = absurd (true≢false (sym a))
begun false true begins follow apart a b = ap not b
begun false false begins follow apart a b = absurd (true≢false (sym a))

-- a lexeme that begins a part and can follow, and is not left of the column
allowed : (left at begins follow : Bool) → left ≡ false → begins ≡ true → follow ≡ true → (left || cond at (not begins) (not follow)) ≡ false
allowed true at begins follow l b f = l
allowed false true begins follow l b f = ap not b
allowed false false begins follow l b f = ap not f

or-right : (a b : Bool) → b ≡ true → (a || b) ≡ true
or-right true b e = refl
or-right false b e = e

not-left : (t : Bool) → not t ≡ true → t ≡ false
not-left true e = absurd (true≢false (sym e))
not-left false e = refl

at-part : (n : ℕ) (kind : BlockKind) (ending : Ending) (next : Placed) (rest : List Placed) → at_margin n next ≡ true → begins_part kind (role next) ≡ true → ends_block n kind ending (next ∷ rest) ≡ false
at-part n kind ending next rest = begun (left_of n next) (at_margin n next) (begins_part kind (role next)) (can_follow ending next.item.lexeme) (margins n next).apart

pub parts-go-on : PartsDoNotEnd
unfolding can_follow
parts-go-on n kind Ending.Nothing next rest s b =
    allowed (left_of n next) (at_margin n next) (begins_part kind (role next)) (can_follow Ending.Nothing next.item.lexeme) (not-left (left_of n next) s) b
    (or-right (is_semicolon (role next)) (begins_some_part (role next)) (begins-some kind (role next) b))
parts-go-on n kind (Ending.Applied where_free guarded) next rest s b = at-part n kind (Ending.Applied where_free guarded) next rest s b
parts-go-on n kind (Ending.Closed where_free guarded) next rest s b = at-part n kind (Ending.Closed where_free guarded) next rest s b
parts-go-on n kind (Ending.Annotated where_free guarded) next rest s b = at-part n kind (Ending.Annotated where_free guarded) next rest s b
parts-go-on n kind Ending.Signature next rest s b = at-part n kind Ending.Signature next rest s b
parts-go-on n kind Ending.WhereBlock next rest s b = at-part n kind Ending.WhereBlock next rest s b
parts-go-on n kind Ending.Fixity next rest s b = at-part n kind Ending.Fixity next rest s b

pub semicolons-go-on : SemicolonsDoNotEnd
unfolding can_follow
semicolons-go-on n kind ending next rest l s =
    allowed (left_of n next) (at_margin n next) (begins_part kind (role next)) (can_follow ending next.item.lexeme) l
    (ap (begins_part kind) s) (ap (λ r. is_semicolon r || follows ending r) s)
