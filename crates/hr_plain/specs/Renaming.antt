-- What a renaming in a module of the plain form writes, and when each refusal comes.
use Rattle.std.specs.Prelude.{◌≡◌, ℕ, zero, suc, ◌-◌, ◌≤◌, ◌<◌, Bool, true, false, nat_lt, nat_eq, List, [], ◌∷◌, length, Option, Some, None, slice_get, position, if◌then◌else◌, codes}
use Rattle.std.specs.List.{list_any}
use Rattle.std.specs.Cmp.Lexicographic.{pointwise}
use Rattle.hr_base.specs.Limits.{module_limit}
use Rattle.hr_base.specs.declared.place.Pos.{Pos}
use Rattle.hr_base.specs.declared.lexeme.Item.{Item}
use Rattle.hr_base.specs.declared.lexeme.Items.{Items}
use Rattle.hr_rules.specs.Lexing.{joined}
use Rattle.hr_rules.specs.Positions.{positions_of, is_same_pos}
use Rattle.hr_rules.specs.Lexemes.{LexesText}
use Rattle.hr_lexer.specs.Words.{IsVarId}
use Rattle.hr_plain_tree.specs.declared.tree.Equation.{Equation}
use Rattle.hr_plain_tree.specs.declared.tree.Module.{Module}
use Rattle.hr_plain_tree.specs.Yields.{module_items, items_of, equation_items}
use Rattle.hr_plain.specs.declared.binding.Owner.{Owner}
use Rattle.hr_plain.specs.Scoping.{is_variable, owner_in, occurrences_of}
use Rattle.hr_plain.specs.declared.renaming.Sought.{Sought}
use Rattle.hr_plain.specs.declared.renaming.Why.{Why}
use Rattle.hr_plain.specs.Binders.{binders_of}
use Rattle.hr_plain.specs.Form.{IsForm, is_ascii_text}
use Rattle.hr_plain.specs.Target.{RespellsAll}

-- what a name at a lexeme of an equation is: the first lexeme is a top-level name
abbrev pub owner_within : ℕ → Equation → ℕ → List ℕ → Owner
owner_within number equation zero text = Owner.TopLevel
owner_within number equation (suc lexeme) text = owner_in number equation text

-- what a name at a lexeme of these equations is, the first of which has this number
abbrev pub owner_from : ℕ → List Equation → ℕ → List ℕ → Owner
owner_from number [] lexeme text = Owner.TopLevel
owner_from number (equation ∷ equations) lexeme text =
    if nat_lt lexeme (length (equation_items equation)) then owner_within number equation lexeme text
    else owner_from (suc number) equations (lexeme - length (equation_items equation)) text

-- what the name at a lexeme of a module is
abbrev pub owner_at : Module → ℕ → List ℕ → Owner
owner_at tree lexeme text = owner_from 0 tree.equations lexeme text

-- some lexeme has this text
abbrev pub is_spelled : List ℕ → List Item → Bool
is_spelled text items = list_any (λ item. pointwise nat_eq item.lexeme.text text) items

-- the lexeme of that number begins at the position of the module `Main`, and is a variable
pub record IsNameAt (tree : Module) (module_name : List ℕ) (pos : Pos) (lexeme : ℕ) (item : Item) : Type 0 where
  pub is_main : module_name ≡ codes "Main"
  pub begins : position (is_same_pos pos) (positions_of (module_items tree)) ≡ Some lexeme
  pub item_is : slice_get (module_items tree) lexeme ≡ Some item
  pub variable : is_variable item ≡ true

-- the lexeme and its text of a name that was found
abbrev pub IsFound : Module → List ℕ → Pos → ℕ → List ℕ → Type 0
IsFound tree module_name pos lexeme text = (item : Item) × IsNameAt tree module_name pos lexeme item × (item.lexeme.text ≡ text)

-- no name begins there
abbrev pub NoName : Module → List ℕ → Pos → Type 0
NoName tree module_name pos = (lexeme : ℕ) (item : Item) → ¬ (IsNameAt tree module_name pos lexeme item)

-- the items of the target: every occurrence of the name at the lexeme, which has the old text, has the new one,
-- and all else stays
abbrev pub Respelled : Module → ℕ → List ℕ → List ℕ → Items → Type 0
Respelled tree lexeme old new items = RespellsAll new (occurrences_of (owner_at tree lexeme old) old tree) (items_of tree) items

-- the target of a renaming as a tree, and its text: the lexemes but the respelled ones, and what stands between
-- them but for a separating blank, stay; the text reads as the target by the lexical rules, and is of the plain
-- form again where the new name is ASCII; and each name is bound to the lexeme that it was bound to
pub record IsTarget (tree : Module) (lexeme : ℕ) (old new text : List ℕ) (target : Module) : Type 0 where
  pub respelled : Respelled tree lexeme old new (items_of target)
  pub reads : LexesText text (items_of target)
  pub form : is_ascii_text new ≡ true → IsForm target
  pub binds : binders_of target ≡ binders_of tree

-- a name that may be renamed so: it begins at the position, and the new one is a varid and stands nowhere in the
-- module
pub record MayRename (tree : Module) (module_name : List ℕ) (pos : Pos) (new : List ℕ) (lexeme : ℕ) (item : Item) : Type 0 where
  pub name : IsNameAt tree module_name pos lexeme item
  pub varid : IsVarId new
  pub fresh : is_spelled new (module_items tree) ≡ false

-- an accepted renaming
pub record IsRenamed (tree : Module) (module_name : List ℕ) (pos : Pos) (new text : List ℕ) : Type 0 where
  pub lexeme : ℕ
  pub item : Item
  pub may : MayRename tree module_name pos new lexeme item
  pub target : Module
  pub is_target : IsTarget tree lexeme item.lexeme.text new text target
  pub within : length text ≤ module_limit

-- the number of a refusal; none for want of memory
abbrev pub number_of : Why → Option ℕ
number_of (Why.NoSuchThing at) = Some 31
number_of Why.WrongForm = Some 33
number_of Why.NameInUse = Some 58
number_of Why.OverLimit = Some 57
number_of (Why.Memory error) = None

-- why a renaming is refused, the first that applies: no name begins at the position (31), the new name is no varid
-- (33), some lexeme has it as its text (58), the new text is too long (57)
abbrev pub IsWhy : Module → List ℕ → Pos → List ℕ → Why → Type 0
IsWhy tree module_name pos new (Why.NoSuchThing (Sought.Name _)) = ⊥
IsWhy tree module_name pos new (Why.NoSuchThing (Sought.At place)) =
    (place ≡ record { «module» = module_name; pos = pos }) × NoName tree module_name pos
IsWhy tree module_name pos new Why.WrongForm =
    ((lexeme : ℕ) × (item : Item) × IsNameAt tree module_name pos lexeme item) × ¬ (IsVarId new)
IsWhy tree module_name pos new Why.NameInUse =
    ((lexeme : ℕ) × (item : Item) × IsNameAt tree module_name pos lexeme item) × IsVarId new
    × (is_spelled new (module_items tree) ≡ true)
IsWhy tree module_name pos new Why.OverLimit =
    (lexeme : ℕ) × (item : Item) × (items : Items) × MayRename tree module_name pos new lexeme item
    × Respelled tree lexeme item.lexeme.text new items × (module_limit < length (joined items.list items.tail))
IsWhy tree module_name pos new (Why.Memory _) = Unit {0}
