-- The lexemes of a module, each with its role and the regions round it.
use Rattle.std.specs.Prelude.{ℕ, zero, suc, List, [], ◌∷◌, length, map, Option, Some, None, slice_index_or}
use Rattle.hr_base.specs.declared.lexeme.Item.{Item}
use Rattle.hr_tree.specs.declared.modules.Module.{Module}
use Rattle.hr_scope_rules.specs.declared.role.Role.{Role}
use Rattle.hr_scope_rules.specs.Events.{Entered, Mark, Outlined}
use Rattle.hr_scope_rules.specs.Outline.{outline}

-- a region, by the number of the lexeme with which its construct begins, and its number in the construct
abbrev pub Region : Type 0
Region = ℕ × ℕ

-- the regions from one out, at most so many
abbrev pub outward : List Entered → ℕ → Option ℕ → List Region
outward regions zero current = []
outward regions (suc fuel) None = []
outward regions (suc fuel) (Some number) =
    let entered = slice_index_or regions number (record { at = 0; index = 0; outer = None }) in
    (entered.at, entered.index) ∷ outward regions fuel entered.outer

-- a lexeme with its role and the regions round it, the innermost first; the top level is none of them
pub record Placed : Type 0 where
  pub item : Item
  pub role : Role
  pub regions : List Region

-- a region stands in regions that were entered before it, so there are no more than were entered
abbrev pub placed_in : List Entered → Mark → Placed
placed_in regions mark = record { item = mark.item; role = mark.role; regions = outward regions (length regions) mark.region }

abbrev pub placed_of : Outlined → List Placed
placed_of outlined = map (placed_in outlined.regions) outlined.marks

abbrev pub lexemes : Module → List Placed
lexemes tree = placed_of (outline tree)
