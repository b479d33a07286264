use Rattle.std.proofs.Common.{◌≡◌, ℕ, Option, Some, None, IsSome, Contains, ap, sym, refl, subst, ◌∙◌}
use Rattle.std.specs.FinMap as map
use Rattle.hr_shelf.specs.Outside.{Files}
use Rattle.hr_shelf.proofs.FileMap.{lacks, sets, key_has, key_stays}
use Rattle.hr_shelf.proofs.Scan.{located}
use Rattle.hr_shelf.proofs.memory_shelf.MemoryShelfShelf.replace.Goals as goal

some : (place : Option ℕ) → (place ≡ None → ⊥) → IsSome place
some None not_none = absurd (not_none refl)
some (Some place) not_none = refl

pub unwrap-place-requires : goal.unwrap-place-requires
unwrap-place-requires c =
    let place = located _ _ _ _ _ c.as_bytes.ensures.value c.deref.ensures.value c.place_named.ensures in
    let files = ap (λ s. s.files) c.self.view_is in
    some c.place_named.result (λ none.
    key_has c.args.self.now.files c.args.name.now c.requires
    (ap (λ (m : Files). map.get m c.args.name.now) (sym files) ∙ lacks c.args.name.now c.self.inside.files.items (place ∙ none)))

pub returns-clause-after : goal.returns-clause-after
returns-clause-after c =
    let place = located _ _ _ _ _ c.as_bytes.ensures.value c.deref.ensures.value c.place_named.ensures in
    let put = sets c.args.name.now c.self.inside.files.items c.unwrap-place.result c.index_mut.result.now c.args.bytes.items (place ∙ c.unwrap-place.ensures) c.index_mut.ensures.value in
    rw (← c.self.view_is, c.if-count.ensures.counted, ← c.if-count.ensures.fails, put)

pub returns-clause-stays_ready : goal.returns-clause-stays_ready
returns-clause-stays_ready c = λ other ready.
    let place = located _ _ _ _ _ c.as_bytes.ensures.value c.deref.ensures.value c.place_named.ensures in
    let put = sets c.args.name.now c.self.inside.files.items c.unwrap-place.result c.index_mut.result.now c.args.bytes.items (place ∙ c.unwrap-place.ensures) c.index_mut.ensures.value in
    let files = ap (λ s. s.files) c.self.view_is in
    subst (λ (m : Files). Contains (map.keys m) other)
    (sym (put ∙ ap (λ (m : Files). map.insert m c.args.name.now c.args.bytes.items) files)) (key_stays _ _ _ other ready)
