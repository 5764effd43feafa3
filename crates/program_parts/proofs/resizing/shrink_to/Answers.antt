use Rattle.std.proofs.Common.{◌<◌, ◌∙◌, [], ap, sym, subst}
use Rattle.program_parts.proofs.Common.{guest_of, abstract_of, Disk}
use Rattle.std.proofs.lemmas.Nat.{pow_pos}
use Rattle.qcow2_disk.specs.AbstractImages.{Guest}
use Rattle.qcow2_image.proofs.Images.Sizes.{disk_size}
use Rattle.qcow2_image.specs.Clearing.{setting_of}
use Rattle.qcow2_image.specs.ImageInvariant.{disk_of, in_image}
use Rattle.program_parts.specs.Resizing.{IsResizedDisk}
use Rattle.program_parts.proofs.Resized.{beyond_shrink, beyond_shrunk, moments_first, moments_then, resized_smaller}
use Rattle.program_parts.proofs.resizing.shrink_to.Goals as goal
use Rattle.qcow2_image.specs.declared.mapping.Place.TheVariants.{Image}

pub returns-clause-done : goal.returns-clause-done
returns-clause-done g c = λ mode out sound.
    let view = g.S.Storage.view in
    let below = g.F.BackingDisk.backing in
    let old = c.args.image.now in
    let x = setting_of view below old in
    let answer = c.in_ok-resize_shrink.field-0 in
    let one = (c.in_ok-resize_shrink.ensures.sees out).answer sound in
    let two = (c.in_ok-flush.ensures.sees out).answer one.0 in
    let d : Disk = (guest_of (abstract_of view below old out)).disk in (
      two.0,
      subst (λ (k : Disk). IsResizedDisk d c.args.size mode k) (sym (ap (λ (k : Guest). k.disk) (two.1.1 ∙ one.1.2)))
          (resized_smaller x d c.args.size (pow_pos old.file.header.fields.cluster_bits) mode answer one.1.0 (subst (λ n. c.args.size < n) (disk_size view below old out sound) c.requires) one.1.1),
      two.1.0,
    )

pub returns-clause-moments : goal.returns-clause-moments
returns-clause-moments g c = λ opened.
    let first = c.in_ok-resize_shrink.ensures.sees (in_image []) in
    moments_then g.S.Storage.view g.F.BackingDisk.backing c.args.image.now c.resize_shrink.new.self _ c.args.size opened (beyond_shrunk (setting_of g.S.Storage.view g.F.BackingDisk.backing c.args.image.now) (disk_of g.S.Storage.view g.F.BackingDisk.backing Image c.args.image.now) c.args.size (pow_pos c.args.image.now.file.header.fields.cluster_bits) c.in_ok-resize_shrink.field-0) first.acts c.flush.new.self (first.answer opened.sound).0 (c.in_ok-flush.ensures.sees (in_image [])).acts

pub returns-in_err-flush-clause-moments : goal.returns-in_err-flush-clause-moments
returns-in_err-flush-clause-moments g c = λ opened.
    let first = c.in_ok-resize_shrink.ensures.sees (in_image []) in
    moments_then g.S.Storage.view g.F.BackingDisk.backing c.args.image.now c.resize_shrink.new.self _ c.args.size opened (beyond_shrunk (setting_of g.S.Storage.view g.F.BackingDisk.backing c.args.image.now) (disk_of g.S.Storage.view g.F.BackingDisk.backing Image c.args.image.now) c.args.size (pow_pos c.args.image.now.file.header.fields.cluster_bits) c.in_ok-resize_shrink.field-0) first.acts c.flush.new.self (first.answer opened.sound).0 (c.in_err-flush.ensures.sees (in_image [])).acts

pub returns-in_err-resize_shrink-clause-moments : goal.returns-in_err-resize_shrink-clause-moments
returns-in_err-resize_shrink-clause-moments g c = λ opened. moments_first g.S.Storage.view g.F.BackingDisk.backing c.args.image.now c.resize_shrink.new.self _ c.args.size opened (beyond_shrink (setting_of g.S.Storage.view g.F.BackingDisk.backing c.args.image.now) (disk_of g.S.Storage.view g.F.BackingDisk.backing Image c.args.image.now) c.args.size (pow_pos c.args.image.now.file.header.fields.cluster_bits)) (c.in_err-resize_shrink.ensures.sees (in_image [])).acts
