-- What the main of a project is: a function from text to text.
use Rattle.std.specs.Prelude.{ℕ, List, [], ◌∷◌, codes}
use Rattle.hr_base.specs.declared.bind.Entity.{Entity}
use Rattle.hr_base.specs.declared.bind.Space.TheVariants.{TypeName, Value}
use Rattle.hr_type.specs.declared.mono.Mono.{Mono}
use Rattle.hr_type.specs.declared.mono.Mono.TheVariants.{Con, Fun}

abbrev pub main_entity : Entity
main_entity = record { «module» = codes "Main"; space = Value; text = codes "main" }

abbrev pub prelude_type : List ℕ → Entity
prelude_type text = record { «module» = codes "Prelude"; space = TypeName; text = text }

-- `String`
abbrev pub text_type : Mono
text_type = Con (prelude_type (codes "[]")) (Con (prelude_type (codes "Char")) [] ∷ [])

-- `String -> String`
abbrev pub main_type : Mono
main_type = Fun text_type text_type
