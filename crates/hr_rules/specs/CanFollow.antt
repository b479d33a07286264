-- Which lexemes can begin a part of a layout block, and which can follow what a part ends in. The Haskell 98
-- Report, section 9.3, ends an implicit block also where the next lexeme would be an error and `}` would not;
-- here a table says which lexemes can go on, by how the last part ends.
use Rattle.std.specs.Prelude.{Bool, true, false, ◌||◌}
use Rattle.hr_base.specs.declared.lexeme.Ending.{Ending}
use Rattle.hr_base.specs.declared.lexeme.Lexeme.{Lexeme}
use Rattle.hr_rules.specs.declared.role.Role.{Role}
use Rattle.hr_rules.specs.declared.block.BlockKind.{BlockKind}
use Rattle.hr_rules.specs.Roles.{role_of}

-- declarations stand in a module's body and behind `let` and `where`
abbrev pub has_declarations : BlockKind → Bool
has_declarations BlockKind.Alternatives = false
has_declarations _ = true

abbrev pub is_body : BlockKind → Bool
is_body BlockKind.Body = true
is_body _ = false

-- what can begin a part of a block of the kind
abbrev pub begins_part : BlockKind → Role → Bool
begins_part kind Role.Name = true
begins_part kind Role.Literal = true
begins_part kind Role.OpenBracket = true
begins_part kind Role.Wildcard = true
begins_part kind Role.Tilde = true
begins_part kind Role.Minus = true
begins_part kind Role.Semicolon = true
begins_part kind Role.FixityWord = has_declarations kind
begins_part kind Role.TopWord = is_body kind
begins_part kind _ = false

-- what can begin a part of some kind of block
abbrev pub begins_some_part : Role → Bool
begins_some_part role = begins_part BlockKind.Body role || (begins_part BlockKind.Declarations role || begins_part BlockKind.Alternatives role)

-- an atom begins with a name, a literal or an open bracket
abbrev pub begins_atom : Role → Bool
begins_atom Role.Name = true
begins_atom Role.Literal = true
begins_atom Role.OpenBracket = true
begins_atom _ = false

-- an operator, perhaps in backquotes, or `::`
abbrev pub goes_on_infix : Role → Bool
goes_on_infix Role.Minus = true
goes_on_infix Role.Operator = true
goes_on_infix Role.Backquote = true
goes_on_infix Role.DoubleColon = true
goes_on_infix _ = false

-- an atomic type, which begins with a name or an open bracket, or `->`
abbrev pub goes_on_type : Role → Bool
goes_on_type Role.Name = true
goes_on_type Role.OpenBracket = true
goes_on_type Role.Arrow = true
goes_on_type _ = false

-- `where` if the part has none yet, and `|` if it is guarded
abbrev pub goes_on_part : Bool → Bool → Role → Bool
goes_on_part where_free guarded Role.Where = where_free
goes_on_part where_free guarded Role.Bar = guarded
goes_on_part where_free guarded _ = false

abbrev pub is_comma : Role → Bool
is_comma Role.Comma = true
is_comma _ = false

abbrev pub is_semicolon : Role → Bool
is_semicolon Role.Semicolon = true
is_semicolon _ = false

-- the table: what can follow, beside `;`, a part that ends so
abbrev pub follows : Ending → Role → Bool
follows Ending.Nothing role = begins_some_part role
follows (Ending.Applied where_free guarded) role = begins_atom role || (goes_on_infix role || goes_on_part where_free guarded role)
follows (Ending.Closed where_free guarded) role = goes_on_infix role || goes_on_part where_free guarded role
follows (Ending.Annotated where_free guarded) role = goes_on_type role || goes_on_part where_free guarded role
follows Ending.Signature role = goes_on_type role
follows Ending.WhereBlock role = false
follows Ending.Fixity role = is_comma role

-- the lexeme can follow a part that ends so: `;` always can
unfoldable pub can_follow : Ending → Lexeme → Bool
can_follow ending lexeme = is_semicolon (role_of lexeme) || follows ending (role_of lexeme)
