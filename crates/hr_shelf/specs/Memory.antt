-- The shelf and the sink of memory as values, and what each of their calls answers and leaves behind. Calls are numbered from 1.
use Rattle.std.specs.Prelude.{◌≡◌, ℕ, ◌+◌, ◌-◌, ◌^◌, ◌==◌, ◌||◌, nat_lt, min, Bool, if◌then◌else◌, List, [], ◌++◌, length, Option, Some, None, Result, Ok, Err, IsOk, refl}
use Rattle.std.specs.Coded.{Coded, code_by, coded×, coded_ℕ, coded_list}
use Rattle.std.specs.FinMap as map
use Rattle.std.specs.List.{list_any}
use Rattle.hr_shelf.specs.Outside.{Files}
use Rattle.hr_shelf.specs.declared.outside.ReadError.{ReadError}
use Rattle.hr_shelf.specs.declared.outside.ReadError.TheVariants.{Absent, TooLong, Failed, Memory}

-- a counter after one more; it stays at its type's end
abbrev pub raised : ℕ → ℕ
raised count = min (count + 1) (2 ^ 64 - 1)

-- the call after so many is one of those that are to fail
abbrev pub is_listed : List ℕ → ℕ → Bool
is_listed failing calls = list_any (λ number. number == raised calls) failing

-- a shelf in memory: its files, the numbers of the calls that are to fail, and its counts
pub record ShelfState : Type 0 where
  pub files : Files
  pub failing : List ℕ
  pub calls : ℕ
  pub read_faults : ℕ
  pub replace_faults : ℕ

abbrev pub shelf_code : Coded ShelfState
shelf_code =
    code_by (Files × (List ℕ × (ℕ × (ℕ × ℕ))))
    (coded× (map.code (coded_list coded_ℕ) (coded_list coded_ℕ)) (coded× (coded_list coded_ℕ) (coded× coded_ℕ (coded× coded_ℕ coded_ℕ))))
    (λ s. (s.files, (s.failing, (s.calls, (s.read_faults, s.replace_faults)))))
    (λ p. record { files = p.0; failing = p.1.0; calls = p.1.1.0; read_faults = p.1.1.1.0; replace_faults = p.1.1.1.1 })
    (λ _. refl)

-- a shelf without files, before its first call
abbrev pub new_shelf : List ℕ → ShelfState
new_shelf failing = record { files = map.empty; failing = failing; calls = 0; read_faults = 0; replace_faults = 0 }

-- the next call of the shelf is to fail
abbrev pub shelf_fails : ShelfState → Bool
shelf_fails shelf = is_listed shelf.failing shelf.calls

-- the names of the files, each of which can be replaced
abbrev pub names : ShelfState → List (List ℕ)
names shelf = map.keys shelf.files

-- what a read that isn't to fail answers, by what the shelf holds for the name
abbrev pub within_limit : Option (List ℕ) → ℕ → Result (List ℕ) ReadError
within_limit None limit = Err Absent
within_limit (Some bytes) limit = if nat_lt limit (length bytes) then Err TooLong else Ok bytes

-- what a read answers where memory doesn't lack
abbrev pub read_answer : ShelfState → List ℕ → ℕ → Result (List ℕ) ReadError
read_answer shelf name limit = if shelf_fails shelf then Err Failed else within_limit (map.get shelf.files name) limit

-- a read whose answer with enough memory is known was refused with this error
abbrev pub Refused : Result (List ℕ) ReadError → ReadError → Type 0
Refused answer Absent = answer ≡ Err Absent
Refused answer TooLong = answer ≡ Err TooLong
Refused answer Failed = answer ≡ Err Failed
Refused answer Memory = IsOk answer

-- the shelf after a read
abbrev pub after_read : ShelfState → ShelfState
after_read shelf =
    record shelf { calls = raised shelf.calls; read_faults = if shelf_fails shelf then raised shelf.read_faults else shelf.read_faults }

-- the shelf with the bytes under the name
abbrev pub with_file : ShelfState → List ℕ → List ℕ → ShelfState
with_file shelf name bytes = record shelf { files = map.insert shelf.files name bytes }

-- the shelf after a replace that is to fail, and after one that isn't
abbrev pub after_failed_replace : ShelfState → ShelfState
after_failed_replace shelf = record shelf { calls = raised shelf.calls; replace_faults = raised shelf.replace_faults }

abbrev pub after_replace : ShelfState → List ℕ → List ℕ → ShelfState
after_replace shelf name bytes =
    if shelf_fails shelf then after_failed_replace shelf else with_file (record shelf { calls = raised shelf.calls }) name bytes

-- a sink in memory: what was written, how much it can hold, the numbers of the calls that are to fail, and its counts
pub record SinkState : Type 0 where
  pub bytes : List ℕ
  pub capacity : ℕ
  pub failing : List ℕ
  pub calls : ℕ
  pub faults : ℕ

-- an empty sink, before its first call
abbrev pub new_sink : ℕ → List ℕ → SinkState
new_sink capacity failing = record { bytes = []; capacity = capacity; failing = failing; calls = 0; faults = 0 }

-- the next call of the sink is refused: it is to fail, or the piece doesn't fit
abbrev pub sink_refuses : SinkState → List ℕ → Bool
sink_refuses sink piece = is_listed sink.failing sink.calls || nat_lt sink.capacity (length sink.bytes + length piece)

-- the sink after the piece was offered
abbrev pub after_write : SinkState → List ℕ → SinkState
after_write sink piece =
    if sink_refuses sink piece
    then record sink { calls = raised sink.calls; faults = raised sink.faults }
    else record sink { calls = raised sink.calls; bytes = sink.bytes ++ piece }
