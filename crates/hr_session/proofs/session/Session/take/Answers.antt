use Rattle.std.proofs.Common.{◌≡◌, ◌++◌, ◌∷◌, [], ap, sym, inr, refl, ◌∙◌}
use Rattle.hr_history.specs.Held.{values}
use Rattle.hr_session.proofs.Undoing.{stayed, went_on}
use Rattle.hr_session.proofs.session.Session.take.Goals as goal

pub returns-in-Ok-clause-good : goal.returns-in-Ok-clause-good
returns-in-Ok-clause-good g c =
    went_on _ _ c.args.self.now (values c.self.inside.history) c.self.inside.project c.in-Ok.next _ _ c.args.command.now (sym c.self.view_is) c.requires c.in-Ok.ensures.next
    (c.push.ensures.values ∙ (ap (λ h. h ++ c.replace-old.result ∷ []) c.reserve.ensures.values ∙ ap (λ p. values c.self.inside.history ++ p ∷ []) c.replace-old.ensures.value))
    c.replace-old.ensures.after

pub returns-in-Err-take-clause-refused : goal.returns-in-Err-take-clause-refused
returns-in-Err-take-clause-refused g c =
    inr (stayed _ _ c.args.self.now (values c.self.inside.history) _ c.self.inside.project c.args.command.now c.in-Err-take.why (sym c.self.view_is) c.requires c.in-Err-take.ensures.why c.reserve.ensures.values)
