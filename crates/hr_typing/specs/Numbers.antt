-- The numbers by which refusals of types are shown.
use Rattle.std.specs.Prelude.{ℕ, Option, Some, None}
use Rattle.hr_tydecl.specs.declared.declared.DeclError.{DeclError}
use Rattle.hr_infer.specs.declared.error.TypeError.{TypeError}
use Rattle.hr_typing.specs.declared.error.TypingError.{TypingError}

-- a synonym that leads back to itself, a wrong number of arguments, a type variable that is not bound
abbrev pub declared_number : DeclError → Option ℕ
declared_number (DeclError.SynonymCycle name) = Some 19
declared_number (DeclError.WrongArity place) = Some 20
declared_number (DeclError.UnboundTypeVariable place) = Some 21
declared_number (DeclError.Memory error) = None

-- a group without types, a signature that is too general, no main from text to text
abbrev pub defined_number : TypeError → Option ℕ
defined_number (TypeError.IllTyped module_name group) = Some 22
defined_number (TypeError.SignatureTooGeneral place name) = Some 23
defined_number TypeError.NoMain = Some 24
defined_number (TypeError.Memory error) = None

abbrev pub typing_number : TypingError → Option ℕ
typing_number (TypingError.Declared error) = declared_number error
typing_number (TypingError.Defined error) = defined_number error
typing_number (TypingError.Memory error) = None
