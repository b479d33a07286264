-- Where the lexemes go that are first on their lines, when blocks move. The layout rule (Haskell 98 Report, section 9.3)
-- reads columns alone, so a block that begins elsewhere takes its lines along.
use Rattle.std.specs.Prelude.{ℕ, ◌+◌, ◌-◌, min, max, Bool, ◌==◌, if◌then◌else◌, Option, Some, None}
use Rattle.hr_rules.specs.Counted.{greatest}
use Rattle.hr_page.specs.declared.shift.Shift.{Shift}
use Rattle.hr_page.specs.declared.shift.Standing.{Standing}

-- The shift of a block is its new column less its old one. A lexeme that is first on its line moves by the shift of the
-- implicit block in which it stands:
--     f x = case x of A -> 1          ff x = case x of A -> 1
--                     B -> 2                           B -> 2
abbrev pub moved : Shift → ℕ → ℕ
moved shift column = max (min greatest (column + shift.new) - shift.old) 1

abbrev pub is_like : Shift → Shift → Bool
is_like a b = min greatest (a.new + b.old) == min greatest (b.new + a.old)

-- Behind blocks that end before it and moved by another number the lexeme stays left of the outermost of them, or that
-- block would go on:
--     total x = case x of A -> 1      t x = case x of A -> 1
--                         B -> 2                      B -> 2
--                       + 3                          + 3
abbrev pub behind_ended : Option Shift → Shift → ℕ → ℕ
behind_ended None shift column = column
behind_ended (Some ended) shift column = if is_like ended shift then column else max (min column (ended.new - 1)) 1

-- Where braces round it were taken away it stays right of the implicit block in which it stands now, or it would begin a
-- part of that block:
--     f = g (let { a = 1 } in         f = g (
--     h)                               h)
abbrev pub right_of : Standing → ℕ → ℕ
right_of standing column =
    if standing.unbraced then (if standing.implicit then max column (min greatest (standing.shift.new + 1)) else column) else column

-- the column of a lexeme that stood at the column `old`
abbrev pub wanted : ℕ → Option Shift → Standing → ℕ
wanted old ended standing = right_of standing (behind_ended ended standing.shift (moved standing.shift old))
