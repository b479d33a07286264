-- What the parser of types has read.
use Rattle.std.specs.Prelude.{ℕ, List}
use Rattle.hr_layout.specs.Standing.{Standing}
use Rattle.hr_tree.specs.declared.names.Constructor.{Constructor}
use Rattle.hr_tree.specs.declared.types.Ty.{Ty}
use Rattle.hr_tree.specs.Names.{constructor_items}
use Rattle.hr_grammar.specs.Words.{IsComma}
use Rattle.hr_grammar.specs.Spelled.{IsTypeConstructor}
use Rattle.hr_grammar.specs.Nodes.{TyPlace}
use Rattle.hr_parse_lexeme.specs.declared.mark.Mark.{Mark}
use Rattle.hr_parse_lexeme.specs.declared.names.Bracket.{Bracket}
use Rattle.hr_parse_lexeme.specs.declared.nesting.Measured.{Measured}
use Rattle.hr_parse_lexeme.specs.Marks.{IsMark}
use Rattle.hr_parse_lexeme.specs.Reads.{Consumes, Takes, Spells, ReadsEach, ReadsParts}
use Rattle.hr_parse_type.specs.declared.nodes.Head.{Head}
use Rattle.hr_parse_type.specs.declared.nodes.Parts.{Parts}

-- a type of the height, at its place
abbrev pub ReadsTy : TyPlace → Measured Ty → Standing → Standing → Type 0
ReadsTy place ty = Consumes ty.height (λ below n. below.ty n place ty.tree)

-- an opening bracket, or a type's constructor that begins with it
abbrev pub OpensType : Mark → Bracket → Standing → Standing → Type 0
OpensType mark (Bracket.Constructor named) before after = Spells IsTypeConstructor constructor_items named before after
OpensType mark (Bracket.Open left) before after = Takes (IsMark mark) left before after

abbrev pub ReadsHead : Head → Standing → Standing → Type 0
ReadsHead (Head.Named named) before after = Spells IsTypeConstructor constructor_items named before after
ReadsHead (Head.Atom ty) before after = ReadsTy TyPlace.Atomic ty before after

abbrev pub head_height : Head → ℕ
head_height (Head.Named named) = 1
head_height (Head.Atom ty) = ty.height

abbrev pub ReadsArguments : Measured (List Ty) → Standing → Standing → Type 0
ReadsArguments arguments = ReadsEach arguments.height (λ below n. below.ty n TyPlace.Atomic) arguments.tree

-- types with a comma behind each but the last one
abbrev pub ReadsTypes : Parts → Standing → Standing → Type 0
ReadsTypes parts = ReadsParts parts.height IsComma (λ below n. below.ty n TyPlace.Whole) parts.others parts.last
