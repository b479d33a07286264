-- A tree read from left to right: its lexemes, each as it stands there, and where regions are entered and left. A
-- region is where names are declared that hide others (Haskell 98 Report, section 3.1 and those on the constructs that
-- bind names).
use Rattle.std.specs.Prelude.{ℕ, ◌-◌, List, [], ◌∷◌, ◌++◌, length, take, map, fold, Option, Some, None, slice_index_or}
use Rattle.hr_base.specs.declared.lexeme.Item.{Item}
use Rattle.hr_scope_rules.specs.declared.role.Role.{Role}
use Rattle.hr_scope_rules.specs.declared.naming.Naming.{Naming}
use Rattle.hr_scope_rules.specs.declared.joint.Joint.{Joint}
use Rattle.hr_scope_rules.specs.Roles.{role_in, innermost_start}

pub data Event : Type 0 where
  Lexeme : Naming → Item → Event
  -- a construct begins with the next lexeme
  Begin : Event
  -- what follows stands in the region of that number of the innermost construct, too
  Enter : ℕ → Event
  Leave : Event
  End : Event
  -- the next lexeme is this to an infix sequence, or the innermost sequence ends before it
  Join : Joint → Event

-- a region that was entered: the number of the lexeme with which its construct begins, its number in the construct,
-- and the number of the region round it, if there is one. A region that is entered again is listed again
pub record Entered : Type 0 where
  pub at : ℕ
  pub index : ℕ
  pub outer : Option ℕ

-- a lexeme with its role, and the number of the innermost region round it; the top level is no region
pub record Mark : Type 0 where
  pub item : Item
  pub role : Role
  pub region : Option ℕ

-- what the place before the lexeme of that number is to an infix sequence
pub record Joined : Type 0 where
  pub at : ℕ
  pub joint : Joint

-- what has been read, the regions that were entered, the infix sequences, the region that is open, and the constructs
-- that are
pub record Outlined : Type 0 where
  pub marks : List Mark
  pub regions : List Entered
  pub joints : List Joined
  pub current : Option ℕ
  pub starts : List ℕ

abbrev pub outside : List Entered → Option ℕ → Option ℕ
outside regions None = None
outside regions (Some number) = (slice_index_or regions number (record { at = 0; index = 0; outer = None })).outer

abbrev pub after : Outlined → Event → Outlined
after outlined (Event.Lexeme naming item) = record {
  marks = outlined.marks ++ record { item = item; role = role_in outlined.starts naming item.lexeme.class; region = outlined.current } ∷ [];
  regions = outlined.regions;
  joints = outlined.joints;
  current = outlined.current;
  starts = outlined.starts;
}
after outlined Event.Begin = record {
  marks = outlined.marks;
  regions = outlined.regions;
  joints = outlined.joints;
  current = outlined.current;
  starts = outlined.starts ++ length outlined.marks ∷ [];
}
after outlined (Event.Enter index) = record {
  marks = outlined.marks;
  regions = outlined.regions ++ record { at = innermost_start outlined.starts; index = index; outer = outlined.current } ∷ [];
  joints = outlined.joints;
  current = Some (length outlined.regions);
  starts = outlined.starts;
}
after outlined Event.Leave = record {
  marks = outlined.marks;
  regions = outlined.regions;
  joints = outlined.joints;
  current = outside outlined.regions outlined.current;
  starts = outlined.starts;
}
after outlined Event.End = record {
  marks = outlined.marks;
  regions = outlined.regions;
  joints = outlined.joints;
  current = outlined.current;
  starts = take (length outlined.starts - 1) outlined.starts;
}
after outlined (Event.Join joint) = record {
  marks = outlined.marks;
  regions = outlined.regions;
  joints = outlined.joints ++ record { at = length outlined.marks; joint = joint } ∷ [];
  current = outlined.current;
  starts = outlined.starts;
}

abbrev pub nothing_read : Outlined
nothing_read = record { marks = []; regions = []; joints = []; current = None; starts = [] }

abbrev pub read_all : List Event → Outlined
read_all = fold after nothing_read

-- lexemes that are no names
abbrev pub plain : Item → Event
plain = Event.Lexeme Naming.Plain

abbrev pub plain_events : List Item → List Event
plain_events items = map plain items
