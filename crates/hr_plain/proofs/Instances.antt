-- The items of the target of a renaming are those that its text is read as.
use Rattle.std.proofs.Common.{ℕ, List}
use Rattle.hr_base.specs.declared.lexeme.Items.{Items}
use Rattle.hr_rules.specs.Lexing.{joined}
use Rattle.hr_rules.specs.Lexemes.{LexesText}
use Rattle.hr_lexer.specs.Words.{IsVarId}
use Rattle.hr_plain_tree.specs.declared.tree.Module.{Module}
use Rattle.hr_plain_tree.specs.Yields.{items_of}
use Rattle.hr_plain.specs.declared.binding.Owner.{Owner}
use Rattle.hr_plain.specs.Scoping.{occurrences_of}
use Rattle.hr_plain.specs.Form.{IsPlain}
use Rattle.hr_plain.specs.Target.{RespellsAll}
use Rattle.hr_plain.proofs.ReadsForm.{marked_are_variables}
use Rattle.hr_plain.proofs.ReadsTarget.{target_reads}

pub reads_as_target : (bytes : List ℕ) (tree : Module) → IsPlain bytes tree → (owner : Owner) (old new : List ℕ) → IsVarId new → (items : Items)
    → RespellsAll new (occurrences_of owner old tree) (items_of tree) items → LexesText (joined items.list items.tail) items
reads_as_target bytes tree plain owner old new varid items r =
    target_reads bytes tree plain (occurrences_of owner old tree) (marked_are_variables owner old tree) new varid items r
