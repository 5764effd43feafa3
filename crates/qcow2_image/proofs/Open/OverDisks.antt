-- An image that was just opened, over another backing disk and with another data file.
use Rattle.std.proofs.Common.{◌≡◌, Bool, [], ℕ, None, Option, Ok}
use Rattle.qcow2_image.proofs.Common.{BackingView, StorageView, ImageInvariant, IsHonestBacking, pending_in, Opens, IsNewlyOpened, OpeningStep, Missing, Qcow2, in_image}
use Rattle.qcow2_image.proofs.Images.Places.{inside_of}

module _ {S F : Type 0} (view : S → StorageView) (before : StorageView) (writable : Bool) (missing : Missing) (image : Qcow2 S F) (disk : Option F) (file : Option S) where
  pub step_over : OpeningStep view before writable missing (Ok image) → OpeningStep view before writable missing (Ok (record image { backing = disk; data_file = file }))
  step_over step = record {
    faults = record { no_fewer = step.faults.no_fewer; rose = step.faults.rose; told = step.faults.told };
    storage = record { honest = step.storage.honest; at_once = step.storage.at_once; contents = step.storage.contents };
    since = step.since;
    another = λ honest needs. absurd (step.another honest needs).0;
    cause = step.cause;
  }

module _ {S F : Type 0} (before : StorageView) (writable : Bool) (number : ℕ) (image : Qcow2 S F) (disk : Option F) (file : Option S) where
  pub image_over : IsNewlyOpened before writable number image → IsNewlyOpened before writable number (record image { backing = disk; data_file = file })
  image_over is = record {
    number_is = is.number_is;
    works = is.works;
    writable_is = is.writable_is;
    room = is.room;
    unpinned = λ has. is.unpinned (record { cluster = has.cluster; pins = has.pins });
    unmodified = is.unmodified;
    header_cluster = is.header_cluster;
    format = is.format;
    names = is.names;
  }

module _ {S F : Type 0} (view : S → StorageView) (backing : F → BackingView) where
  sound_over : (image : Qcow2 S F) (disk : Option F) (file : Option S) → IsHonestBacking view backing disk → file ≡ None → ImageInvariant view backing (pending_in view backing image (in_image [])) image (in_image [])
      → ImageInvariant view backing (pending_in view backing image (in_image [])) (record image { backing = disk; data_file = file }) (in_image [])
  sound_over image disk file stays none sound = record {
    works = sound.works;
    file = sound.file;
    l1_table = record { cluster = sound.l1_table.cluster; bits = sound.l1_table.bits; count = sound.l1_table.count; entries = sound.l1_table.entries };
    reftable = sound.reftable;
    stands = record { inside = inside_of sound; alone = none };
    below = stays;
    ready = λ k q there. absurd cc;
    pinned = sound.pinned;
    once = sound.once;
  }

  pub opens_over : (before : StorageView) (image : Qcow2 S F) (disk : Option F) (file : Option S) → IsHonestBacking view backing disk → file ≡ None → Opens view backing before image → Opens view backing before (record image { backing = disk; data_file = file })
  opens_over before image disk file stays none opens honest consistent =
      let is = opens honest consistent in
      record { opened = record { sound = sound_over image disk file stays none is.opened.sound; clean = is.opened.clean }; surplus = is.surplus; leaks = is.leaks }
