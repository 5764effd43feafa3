use Rattle.std.proofs.Common.{◌≡◌, [], None, Ok, inr, subst, sym}
use Rattle.qcow2_image.proofs.Common.{option_flatten, IsHonestBacking, Opens, IsNewlyOpened, OpeningStep, files_missing, Qcow2OpenBuilder, in_image}
use Rattle.qcow2_image.proofs.builder.open_grown.Goals as goal

pub returns-in-Ok-resize_grow-clause-opens : goal.returns-in-Ok-resize_grow-clause-opens
returns-in-Ok-resize_grow-clause-opens g c =
    let view = g.S.Storage.view in
    let below = g.F.BackingDisk.backing in
    let image = c.in-Ok.image in
    let does = c.in-Ok-resize_grow.ensures in
    record {
      opened = image;
      new = subst (λ (b : Qcow2OpenBuilder _ _). IsNewlyOpened (view b.image) b.writable b.number image) c.write.ensures c.in-Ok.ensures.image;
      over = subst (λ (b : Qcow2OpenBuilder _ _). image.backing ≡ option_flatten b.backing) c.write.ensures c.in-Ok.ensures.over.0;
      beside = subst (λ (b : Qcow2OpenBuilder _ _). image.data_file ≡ option_flatten b.data_file) c.write.ensures c.in-Ok.ensures.over.1;
      step = subst (λ (b : Qcow2OpenBuilder _ _). OpeningStep view (view b.image) b.writable (files_missing b.backing b.data_file) (Ok image)) c.write.ensures c.in-Ok.ensures.step;
      opens = subst (λ (b : Qcow2OpenBuilder _ _). IsHonestBacking view below (option_flatten b.backing) → option_flatten b.data_file ≡ None → Opens view below (view b.image) image) c.write.ensures c.in-Ok.ensures.opens;
      takes = record { no_larger = does.no_larger; image = does.image; sees = does.sees; tables = λ usable lt sound. (does.sound (in_image []) sound).tables usable lt; last = (λ sound. (does.sound (in_image []) sound).last) };
      marks = does.step;
      may_fail = λ usable lt sound. (does.sound (in_image []) sound).may_fail usable lt;
    }

pub returns-in-Err-resize_grow-clause-refused : goal.returns-in-Err-resize_grow-clause-refused
returns-in-Err-resize_grow-clause-refused g c =
    let view = g.S.Storage.view in
    let below = g.F.BackingDisk.backing in
    let image = c.in-Ok.image in
    let does = c.in-Err-resize_grow.ensures in
    inr (
      c.resize_grow.new.self,
      sym c.into_storage.ensures,
      record {
        opened = image;
        new = subst (λ (b : Qcow2OpenBuilder _ _). IsNewlyOpened (view b.image) b.writable b.number image) c.write.ensures c.in-Ok.ensures.image;
        over = subst (λ (b : Qcow2OpenBuilder _ _). image.backing ≡ option_flatten b.backing) c.write.ensures c.in-Ok.ensures.over.0;
        beside = subst (λ (b : Qcow2OpenBuilder _ _). image.data_file ≡ option_flatten b.data_file) c.write.ensures c.in-Ok.ensures.over.1;
        step = subst (λ (b : Qcow2OpenBuilder _ _). OpeningStep view (view b.image) b.writable (files_missing b.backing b.data_file) (Ok image)) c.write.ensures c.in-Ok.ensures.step;
        opens = subst (λ (b : Qcow2OpenBuilder _ _). IsHonestBacking view below (option_flatten b.backing) → option_flatten b.data_file ≡ None → Opens view below (view b.image) image) c.write.ensures c.in-Ok.ensures.opens;
        takes = record { no_larger = does.no_larger; image = does.image; sees = does.sees; tables = λ usable lt sound. (does.sound (in_image []) sound).tables usable lt; last = (λ sound. (does.sound (in_image []) sound).last) };
        marks = does.step;
        may_fail = λ usable lt sound. (does.sound (in_image []) sound).may_fail usable lt;
      },
    )
