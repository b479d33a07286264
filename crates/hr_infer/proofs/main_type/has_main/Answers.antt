use Rattle.std.proofs.Common.{sym}
use Rattle.hr_infer.proofs.Found.{told}
use Rattle.hr_infer.proofs.main_type.has_main.Goals as goal

-- src/main_type.rt:18:1
pub returns-in-Some : goal.returns-in-Some
returns-in-Some c = told c.instance.result _ c.in-Some.scheme.now _ (sym (rw c.in_ok-main.ensures at c.in-Some.ensures.value)) c.in_ok-main_type-in-Some.ensures c.instance.ensures
