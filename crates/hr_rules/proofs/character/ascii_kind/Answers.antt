use Rattle.std.proofs.Common.{◌≡◌, ◌<◌, ℕ, map, get_or, zero-add}
use Rattle.std.specs.List.{range_with_len}
use Rattle.std.proofs.lemmas.List.FromFn.{get_or-map-range_with_len}
use Rattle.hr_rules.specs.declared.character.Kind.{Kind}
use Rattle.hr_rules.specs.Letters.{ascii_kind}
use Rattle.hr_rules.proofs.character.ascii_kind.Goals as goal

-- the table has the kind of each code at its place
at : (code : ℕ) (d : Kind) → code < 128 → get_or (map ascii_kind (range_with_len 0 128)) code d ≡ ascii_kind code
at code d h = get_or-map-range_with_len ascii_kind 0 128 code code d h (zero-add code)

pub returns : goal.returns
returns c = at c.args.code _ c.requires
