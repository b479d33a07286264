use Rattle.std.proofs.Common.{◌≡◌, ℕ, [], ap, ◌∙◌, rules}
use Rattle.hr_type.specs.declared.mono.Mono.TheVariants.{Var}
use Rattle.hr_type.specs.Heads.{built}
use Rattle.hr_type.specs.Types.{replaced}
use Rattle.hr_type.proofs.Layers.{built_type}
use Rattle.hr_type.proofs.Reading.{sole, sole_some}
use Rattle.hr_unify.proofs.Meaning.{meaning, is_meaning}
use Rattle.hr_unify.proofs.resolve.resolved.Goals as goal

pub unreachable-requires : goal.unreachable-requires
unreachable-requires c =
    let m = is_meaning c.args.bindings.now.entries c.requires in
    sole_some _ _ (c.in_ok-types.ensures ∙ ap (λ hs. built hs []) (c.in_ok-nodes.ensures (meaning c.args.bindings.now.entries) m) ∙ built_type _) (search rules)

pub returns : goal.returns
returns c = λ by m. sole _ _ _ _ (c.in_ok-types.ensures ∙ ap (λ hs. built hs []) (c.in_ok-nodes.ensures by m) ∙ built_type _) c.in-Some.ensures.items
