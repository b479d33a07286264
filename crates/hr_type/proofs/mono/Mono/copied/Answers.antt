use Rattle.std.proofs.Common.{[], ap, ◌∙◌, rules}
use Rattle.hr_type.specs.Heads.{built}
use Rattle.hr_type.proofs.Layers.{built_type}
use Rattle.hr_type.proofs.Reading.{sole, sole_some}
use Rattle.hr_type.proofs.mono.Mono.copied.Goals as goal

pub unreachable-requires : goal.unreachable-requires
unreachable-requires c = sole_some _ _ (c.in_ok-types.ensures ∙ ap (λ hs. built hs []) c.in_ok-nodes.ensures ∙ built_type c.args.self.now) (search rules)

pub returns : goal.returns
returns c = sole _ _ _ _ (c.in_ok-types.ensures ∙ ap (λ hs. built hs []) c.in_ok-nodes.ensures ∙ built_type c.args.self.now) c.in-Some.ensures.items
