-- The limit on a module's length.
use Rattle.std.specs.Prelude.{ℕ}

-- the bytes of one module, at most
abbrev pub module_limit : ℕ
module_limit = 1048576
