use Rattle.std.proofs.Common.{◌≡◌, ◌∙◌, true, false, refl, sym}
use Rattle.qcow2_alloc.specs.ImageFile.{l2_pins}
use Rattle.qcow2_image.proofs.Images.Backings.{found_pinned, none_prepared, some_prepared}
use Rattle.qcow2_image.proofs.image.Qcow2.set_data_file.Goals as goal

pub returns-then-is_some-clause-prepared : goal.returns-then-is_some-clause-prepared
returns-then-is_some-clause-prepared g c = λ works out sound.
    let found = found_pinned (l2_pins c.args.self.now.file.caches) c.first_pinned_l2.result c.first_pinned_l2.ensures.some (sym c.is_some.ensures ∙ c.if-is_some.true) in
    ((λ _. some_prepared g.S.Storage.view g.F.BackingDisk.backing c.args.self.now out sound found.0 found.1), (λ _. refl))

pub returns-clause-prepared : goal.returns-clause-prepared
returns-clause-prepared g c = λ works out sound.
    ((λ err. absurd (let no : false ≡ true = err in cc)), (λ has. absurd (none_prepared g.S.Storage.view g.F.BackingDisk.backing c.args.self.now out sound (c.first_pinned_l2.ensures.none (sym c.is_some.ensures ∙ c.if-is_some.false)) has)))

pub returns-then-is_some-clause-pinned : goal.returns-then-is_some-clause-pinned
returns-then-is_some-clause-pinned g c = λ works.
    let found = found_pinned (l2_pins c.args.self.now.file.caches) c.first_pinned_l2.result c.first_pinned_l2.ensures.some (sym c.is_some.ensures ∙ c.if-is_some.true) in
    ((λ _. record { cluster = found.0; pins = found.1 }), (λ _. refl))
