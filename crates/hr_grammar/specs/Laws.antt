-- Laws of the definitions, which the proof of the parser goes by.
use Rattle.std.specs.Prelude.{ℕ, ◌≡◌, Bool, true, false, List, ◌∷◌}
use Rattle.hr_base.specs.declared.lexeme.Item.{Item}
use Rattle.hr_base.specs.declared.lexeme.Items.{Items}
use Rattle.hr_rules.specs.Lexing.{joined}
use Rattle.hr_tree.specs.declared.lists.Operand.{Operand}
use Rattle.hr_tree.specs.declared.types.Ty.{Ty}
use Rattle.hr_tree.specs.declared.expressions.Exp.{Exp, out-Exp}
use Rattle.hr_tree.specs.declared.expressions.Decl.{Decl}
use Rattle.hr_tree.specs.declared.expressions.Exp.TheVariants.{Infix, Annotated}
use Rattle.hr_tree.specs.declared.expressions.Decl.TheOpen.{Exp-F}
use Rattle.hr_tree.specs.declared.expressions.Alt.{Alt}
use Rattle.hr_tree.specs.declared.expressions.Qualifier.{Qualifier}
use Rattle.hr_tree.specs.declared.modules.Module.{Module}
use Rattle.hr_tree.specs.Yields.{items_of}
use Rattle.hr_grammar.specs.Nodes.{Colons, ExpPlace}
use Rattle.hr_grammar.specs.Yields.{Yields, nodes}
use Rattle.hr_grammar.specs.Reads.{Reads}

-- a tree yields one list of items at most
abbrev pub OneYield : Type 0
OneYield = (tree : Module) (items others : Items) → Yields tree items → Yields tree others → items ≡ others

-- what reads as a tree is the tree's items, joined: so a tree has one text at most
abbrev pub ReadIsJoined : Type 0
ReadIsJoined = (bytes : List ℕ) (tree : Module) → Reads bytes tree → bytes ≡ joined (items_of tree).list (items_of tree).tail

-- lambdas, `let` and `if`
abbrev pub is_open : Exp-F Decl Exp Qualifier Alt → Bool
is_open (Exp-F.Lambda mark patterns arrow body) = true
is_open (Exp-F.Let word block in_word body) = true
is_open (Exp-F.If word test then_word first else_word second) = true
is_open _ = false

abbrev pub IsOpen : Exp → Type 0
IsOpen exp = is_open (out-Exp exp) ≡ true

-- they are operands that no operator follows
abbrev pub OpenIsLast : Type 0
OpenIsLast = (levels : ℕ) (free : Colons) (place : ExpPlace) (first second : Operand Exp) (rest : List (Operand Exp))
    → (nodes levels).exp free place (Infix (first ∷ (second ∷ rest))) → IsOpen first.part → ⊥

-- and no `::` follows them in the same expression
abbrev pub OpenIsUnannotated : Type 0
OpenIsUnannotated = (levels : ℕ) (free : Colons) (place : ExpPlace) (part : Exp) (colons : Item) (ty : Ty)
    → (nodes levels).exp free place (Annotated part colons ty) → IsOpen part → ⊥

-- an annotated expression is annotated only in brackets or a block
abbrev pub OneAnnotation : Type 0
OneAnnotation = (levels : ℕ) (free : Colons) (place : ExpPlace) (part : Exp) (colons others : Item) (ty other : Ty)
    → (nodes levels).exp free place (Annotated (Annotated part colons ty) others other) → ⊥

-- nor does `::` stand in a guard
abbrev pub NoAnnotatedGuard : Type 0
NoAnnotatedGuard = (levels : ℕ) (place : ExpPlace) (part : Exp) (colons : Item) (ty : Ty) → (nodes levels).exp Colons.Barred place (Annotated part colons ty) → ⊥
