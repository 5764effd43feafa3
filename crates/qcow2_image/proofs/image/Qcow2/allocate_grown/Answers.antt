use Rattle.std.proofs.Common.{sym, subst, IfErr}
use Rattle.qcow2_image.proofs.Common.{FillsOrRefuses, HasCompressedIn, HasNearEntries, HasPinnedMapping, ImageInvariant, MayFailAllocating, Qcow2, cluster_size, known_in, pending_in, rounded_up}
use Rattle.qcow2_image.specs.SoundParts.{FillsPart}
use Rattle.qcow2_image.proofs.Lemmas.{step_then}
use Rattle.qcow2_image.proofs.image.Qcow2.allocate_grown.Goals as goal
use Rattle.qcow2_image.proofs.Images.Places.{alone_of}

pub returns-clause-step : goal.returns-clause-step
returns-clause-step g c = step_then c.resize_placed_data.ensures.step.part c.fill_new_clusters.ensures.step

pub returns-clause-sound : goal.returns-clause-sound
returns-clause-sound g c = λ out sound le.
    let view = g.S.Storage.view in
    let below = g.F.BackingDisk.backing in
    let r = c.fill_new_clusters.result in
    let same = (c.resize_placed_data.ensures.none (alone_of sound)).1 in
    subst (λ (start : Qcow2 _ _). FillsPart (FillsOrRefuses view below (rounded_up (cluster_size start.file.header.fields) c.args.size) c.args.old (rounded_up (cluster_size start.file.header.fields) c.args.size) start c.fill_new_clusters.new.self out r)
    (HasNearEntries (rounded_up (cluster_size start.file.header.fields) c.args.size) start.file.header.fields
    → IfErr r (MayFailAllocating (HasPinnedMapping out) (HasPinnedMapping out) (HasCompressedIn c.args.old (rounded_up (cluster_size start.file.header.fields) c.args.size) start.file.header.fields (known_in view start.file)) ⊥))) same
    (c.fill_new_clusters.ensures.sound out (subst (λ (start : Qcow2 _ _). ImageInvariant view below (pending_in view below start out) start out) (sym same) sound) le)
