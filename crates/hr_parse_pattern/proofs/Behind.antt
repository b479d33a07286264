-- What a function reads behind what its caller has read.
use Rattle.std.proofs.Common.{◌≡◌, Result, Ok, Err, IfOk}
use Rattle.hr_layout.specs.Standing.{Standing}
use Rattle.hr_parse_lexeme.specs.declared.stop.Stop.{Stop}

-- the caller knows from where it has read
pub behind : {T : Type 0} (P : Standing → Type 0) (Q : T → Standing → Type 0) (result : Result T Stop) (a : Standing) → IfOk result (λ t. (before : Standing) → P before → Q t before) → P a
    → IfOk result (λ t. Q t a)
behind P Q (Ok t) a h p = h a p
behind P Q (Err stop) a h p = tt

-- the caller's caller does
pub further : {T : Type 0} (P R : Standing → Type 0) (Q S : T → Standing → Type 0) (result : Result T Stop) → IfOk result (λ t. (before : Standing) → P before → Q t before)
    → ((before : Standing) → R before → P before) → ((t : T) (before : Standing) → Q t before → S t before) → IfOk result (λ t. (before : Standing) → R before → S t before)
further P R Q S (Ok t) h turn also = λ before r. also t before (h before (turn before r))
further P R Q S (Err stop) h turn also = tt
