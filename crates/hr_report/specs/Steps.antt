-- How a report shows why a step is refused: `refused `, the number of the cause, and its fields, with a blank before each.
use Rattle.std.specs.Prelude.{ℕ, List, [], ◌∷◌, codes, Option, Some, None}
use Rattle.hr_base.specs.declared.bind.Bound.{Bound}
use Rattle.hr_base.specs.declared.place.Place.{Place}
use Rattle.hr_why.specs.declared.sought.Sought.{Sought}
use Rattle.hr_why.specs.declared.why.Why.{Why}
use Rattle.hr_report.specs.Places.{place_text, entity_text}

-- a binder: a top-level thing, or the place of a local one
abbrev pub bound_text : Bound → List ℕ
bound_text (Bound.Global entity) = entity_text entity
bound_text (Bound.Local place) = place_text place

-- what is missing is a dash
abbrev pub maybe_place : Option Place → List ℕ
maybe_place None = codes "-"
maybe_place (Some place) = place_text place

abbrev pub maybe_bound : Option Bound → List ℕ
maybe_bound None = codes "-"
maybe_bound (Some bound) = bound_text bound

abbrev pub place_fields : Place → List (List ℕ)
place_fields place = place_text place ∷ []

abbrev pub sought_fields : Sought → List (List ℕ)
sought_fields (Sought.At place) = place_fields place
sought_fields (Sought.Name name) = name ∷ []

-- where a name is bound otherwise, to what it was bound, and to what it would be
abbrev pub rebinding_fields : Place → Bound → Option Bound → List (List ℕ)
rebinding_fields occ old new = place_text occ ∷ bound_text old ∷ maybe_bound new ∷ []

-- the fields of a refusal; a type that can't be named is not shown yet
abbrev pub why_fields : Why → List (List ℕ)
why_fields (Why.NoSuchThing at) = sought_fields at
why_fields (Why.Builtin entity) = entity_text entity ∷ []
why_fields (Why.NotSimpleBinding place) = place_fields place
why_fields (Why.InfixUse place) = place_fields place
why_fields (Why.UsedIn first second) = maybe_place first ∷ maybe_place second ∷ []
why_fields (Why.Exported entity) = entity_text entity ∷ []
why_fields (Why.MentionsItself place) = place_fields place
why_fields (Why.LocalInExpression name) = name ∷ []
why_fields (Why.ParameterUsed place) = place_fields place
why_fields (Why.TooFewArguments place) = place_fields place
why_fields (Why.WouldCycle names) = names
why_fields (Why.NotInScopeThere name) = name ∷ []
why_fields (Why.NotFlatCase place) = place_fields place
why_fields (Why.OperatorConstructor name) = name ∷ []
why_fields (Why.WouldRebind occ old new) = rebinding_fields occ old new
why_fields (Why.WouldDeclareTwice first second) = place_text first ∷ place_text second ∷ []
why_fields (Why.WouldClashExport module_name name) = module_name ∷ name ∷ []
why_fields (Why.WouldNotType module_name group) = module_name ∷ group ∷ []
why_fields _ = []
