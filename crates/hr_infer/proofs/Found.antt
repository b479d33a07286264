-- A main that is found, and has the type that is asked for as an instance.
use Rattle.std.proofs.Common.{◌≡◌, ◌↔◌, Some, IfOk, IsTrue, Bool, Option, Result, Ok, Err, subst}
use Rattle.hr_type.specs.declared.mono.Scheme.{Scheme}
use Rattle.hr_type.specs.declared.mono.Mono.{Mono}
use Rattle.hr_type.specs.Types.{IsInstance}
use Rattle.hr_infer.specs.Main.{main_type}

pub told : {E : Type 0} (answer : Result Bool E) (found : Option Scheme) (general : Scheme) (asked : Mono)
    → found ≡ Some general → asked ≡ main_type
    → IfOk answer (λ yes. IsTrue yes ↔ IsInstance general asked)
    → IfOk answer (λ yes. IsTrue yes → (scheme : Scheme) × (found ≡ Some scheme) × IsInstance scheme main_type)
told (Ok b) found general asked is asks holds = λ sure. (general, is, subst (λ t. IsInstance general t) asks (holds.0 sure))
told (Err e) found general asked is asks holds = holds
