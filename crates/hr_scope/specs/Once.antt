-- What a region has once of each spelling: the Haskell 98 Report, sections 3.17.1, 4.2, 4.4.1, 4.4.2 and 4.4.3.
use Rattle.std.specs.Prelude.{Option, Some, None}
use Rattle.hr_scope_rules.specs.declared.role.Role.{Role}
use Rattle.hr_scope.specs.declared.double.Once.{Once}

-- an equation that goes on the one before it declares nothing
abbrev pub once_of : Role → Option Once
once_of (Role.Declares space) = Some (Once.Declared space)
once_of Role.Signs = Some Once.Signed
once_of (Role.Fixes space) = Some (Once.Fixed space)
once_of Role.Parameter = Some Once.Parameter
once_of role = None
