-- What is still to be written of a type: a stack of texts and types, the last first.
use Rattle.std.specs.Prelude.{ℕ, ◌+◌, ◌*◌, List, [], ◌∷◌, ◌++◌}
use Rattle.hr_type.specs.declared.spell.TypeScope.{TypeScope}
use Rattle.hr_type.specs.declared.write.Job.{Job}
use Rattle.hr_type.specs.declared.write.Job.TheVariants.{Spelled, Text}
use Rattle.hr_type.specs.Sizes.{size}
use Rattle.hr_type.specs.Spelling.{bytes_of, within, written}

abbrev pub job_bytes : TypeScope → Job → List ℕ
job_bytes scope (Spelled before least ty) = before.now ++ bytes_of (within least (written scope ty.now))
job_bytes scope (Text text) = text.now

abbrev pub pending : TypeScope → List Job → List ℕ
pending scope [] = []
pending scope (job ∷ jobs) = pending scope jobs ++ job_bytes scope job

-- the work that is left
abbrev pub job_load : Job → ℕ
job_load (Spelled before least ty) = 3 * size ty.now
job_load (Text text) = 1

abbrev pub load : List Job → ℕ
load [] = 0
load (job ∷ jobs) = job_load job + load jobs
