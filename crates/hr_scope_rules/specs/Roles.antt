-- The role of a lexeme, by how it stands, by its class, and by the constructs that are open round it: the numbers of
-- the lexemes with which these begin, the innermost one last.
use Rattle.std.specs.Prelude.{ℕ, ◌-◌, if◌then◌else◌, List, length, Option, Some, None, slice_index_or}
use Rattle.hr_base.specs.declared.bind.Space.{Space}
use Rattle.hr_base.specs.declared.lexeme.Class.{Class}
use Rattle.hr_scope_rules.specs.declared.role.Role.{Role}
use Rattle.hr_scope_rules.specs.declared.naming.Naming.{Naming}

-- the space of a variable or a constructor; a reserved operator, as `:` or `->`, is no name
abbrev pub space_of : Class → Option Space
space_of Class.VarId = Some Space.Value
space_of Class.QVarId = Some Space.Value
space_of Class.VarSym = Some Space.Value
space_of Class.QVarSym = Some Space.Value
space_of Class.ConId = Some Space.Constructor
space_of Class.QConId = Some Space.Constructor
space_of Class.ConSym = Some Space.Constructor
space_of Class.QConSym = Some Space.Constructor
space_of _ = None

-- the role of a name, given that of each space
abbrev pub role_of_name : (Space → Role) → Option Space → Role
role_of_name role None = Role.Plain
role_of_name role (Some space) = role space

abbrev pub role_by : (Space → Role) → Class → Role
role_by role class = role_of_name role (space_of class)

abbrev pub innermost_start : List ℕ → ℕ
innermost_start starts = slice_index_or starts (length starts - 1) 0

abbrev pub second_start : List ℕ → ℕ
second_start starts = slice_index_or starts (length starts - 2) 0

-- the name of a type is spelled as a constructor's
abbrev pub role_in : List ℕ → Naming → Class → Role
role_in starts Naming.Plain class = Role.Plain
role_in starts Naming.Used class = role_by Role.Uses class
role_in starts Naming.Type class = role_by (λ space. Role.Uses Space.TypeName) class
role_in starts Naming.Bound class = Role.Declares Space.Value
role_in starts (Naming.Defined goes_on) class = if goes_on then Role.GoesOn else Role.Declares Space.Value
role_in starts Naming.Signed class = Role.Signs
role_in starts Naming.Fixed class = role_by Role.Fixes class
role_in starts Naming.Constructed class = role_by Role.Declares class
role_in starts Naming.Headed class = Role.Declares Space.TypeName
role_in starts Naming.Parameter class = Role.Parameter
role_in starts (Naming.Exported space) class = Role.Exported space
role_in starts Naming.ExportedPart class = role_by (λ space. Role.ExportedPart (innermost_start starts)) class
role_in starts Naming.Imported class = Role.Imported (innermost_start starts) Space.Value
role_in starts Naming.ImportedType class = Role.Imported (second_start starts) Space.TypeName
role_in starts Naming.ImportedPart class = role_by (λ space. Role.ImportedPart (second_start starts) (innermost_start starts)) class
role_in starts Naming.Hidden class = role_by (λ space. Role.Hidden (innermost_start starts)) class
