-- The numbers by which refusals of a step are shown.
use Rattle.std.specs.Prelude.{ℕ, Option, Some, None}
use Rattle.hr_why.specs.declared.why.Why.{Why}

abbrev pub number_of : Why → Option ℕ
number_of (Why.NoSuchThing at) = Some 31
number_of (Why.Builtin entity) = Some 32
number_of Why.WrongForm = Some 33
number_of Why.SameName = Some 34
number_of Why.MainFixed = Some 35
number_of (Why.NotSimpleBinding place) = Some 40
number_of (Why.InfixUse place) = Some 41
number_of (Why.UsedIn first second) = Some 42
number_of (Why.Exported entity) = Some 43
number_of (Why.MentionsItself place) = Some 44
number_of (Why.LocalInExpression name) = Some 45
number_of (Why.ParameterUsed place) = Some 46
number_of (Why.TooFewArguments place) = Some 47
number_of Why.SeveralEquations = Some 48
number_of Why.SignatureHides = Some 49
number_of (Why.TypeNotNameable ty) = Some 50
number_of (Why.WouldCycle names) = Some 51
number_of (Why.NotInScopeThere name) = Some 52
number_of (Why.NotFlatCase place) = Some 53
number_of Why.NotData = Some 54
number_of (Why.OperatorConstructor name) = Some 55
number_of Why.NoExportList = Some 56
number_of Why.OverLimit = Some 57
number_of (Why.WouldRebind occ old new) = Some 36
number_of (Why.WouldDeclareTwice first second) = Some 37
number_of (Why.WouldClashExport module_name name) = Some 38
number_of (Why.WouldNotType module_name group) = Some 39
number_of (Why.Memory error) = None
