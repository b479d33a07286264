-- A text of the plain form has one tree.
use Rattle.std.proofs.Common.{◌≡◌, ℕ, List, Option, Some, sym, ap, ◌∙◌}
use Rattle.std.proofs.lemmas.List.Sums.{list_all-from_AllPass}
use Rattle.hr_rules.proofs.Reading.{one_reading_lem}
use Rattle.hr_plain_tree.specs.declared.tree.Equation.{Equation}
use Rattle.hr_plain_tree.specs.declared.tree.Module.{Module}
use Rattle.hr_plain_tree.specs.Yields.{items_of, module_items}
use Rattle.hr_plain.specs.Form.{IsForm, IsPlain, is_equation}
use Rattle.hr_plain.specs.Reading.{equations_of}
use Rattle.hr_plain.proofs.Parts.{form_read}

-- the equations of a module of the form are read from its items
read_tree : (tree : Module) → IsForm tree → equations_of (module_items tree) ≡ Some tree.equations
read_tree tree form = form_read tree.equations (list_all-from_AllPass is_equation tree.equations form.equations) form.margins

pub one_tree : (bytes : List ℕ) (a b : Module) → IsPlain bytes a → IsPlain bytes b → a ≡ b
one_tree bytes a b p q =
    let items : items_of a ≡ items_of b = one_reading_lem bytes (items_of a) (items_of b) p.lexes q.lexes in
    let found : ◌≡◌ {A = Option (List Equation)} (Some a.equations) (Some b.equations) = sym (read_tree a p.form) ∙ ap (λ i. equations_of i.list) items ∙ read_tree b q.form in
    let equations : a.equations ≡ b.equations = cc in
    λ k. record { equations = equations k; tail = (items k).tail }
