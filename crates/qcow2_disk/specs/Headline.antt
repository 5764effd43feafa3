-- The headline. It is stated over the bytes of the storage and of the backing disk, not over the driver's state in memory.
use Rattle.std.specs.Prelude.{ℕ, ◌≡◌, List, [], Option, Some, None, is_some}
use Rattle.image_access.specs.Moments.{StorageView}
use Rattle.qcow2_metadata.specs.Bytes.{Bytes, byte_at}
use Rattle.qcow2_metadata.specs.Header.{header, cluster_size}
use Rattle.qcow2_disk.specs.Disk.{disk}
use Rattle.qcow2_disk.specs.HeaderRest.{KeepsHeaderRest}
use Rattle.qcow2_disk.specs.AbstractImages.{Setting, Guest, Abstraction, abstract_image, guest_of, stored_bytes, surplus_of}
use Rattle.qcow2_disk.specs.Runs.{Command, Reply, RefinesDisk, IsStopIn, started}

-- What unmapped clusters show: the bytes of the backing disk, or zeros if there is none.
abbrev pub shown_below : Option Bytes → Bytes
shown_below (Some below) = below
shown_below None = λ _. 0

-- The setting of an image with these bytes, over this backing disk.
abbrev pub setting_in : Option Bytes → Bytes → Setting
setting_in below b = record { cluster_size = cluster_size (header b); is_backed = is_some below; backing = shown_below below }

-- What a guest sees of an image with these bytes: the disk, and no prepared mapping.
abbrev pub guest_in : Option Bytes → Bytes → Guest
guest_in below b = record { disk = disk b (shown_below below); slots = λ _. None }

-- An image was opened from the contents of a storage, over the bytes of a backing disk if there is one, and ran these commands. When it was opened it was sound, it showed the disk of these contents, its header had the same extensions and names, every surplus was the surplus in these contents, and nothing had leaked.
-- The replies are a run of that disk. At each return the guest sees the disk of the run, the known contents are consistent, and every surplus is the one at the start. Every content that the storage had since before the opening is one that a stop may leave.
pub record IsHeadline {D P : Type 0} (spec : Abstraction D P) (before : StorageView) (below : Option Bytes) (new : D) (commands : List Command) (replies : List Reply) : Type 0 where
  pub opened : D
  pub setting : spec.setting opened ≡ setting_in below (byte_at before.contents)
  pub shows : guest_of (abstract_image spec opened []) ≡ guest_in below (byte_at before.contents)
  pub rest : KeepsHeaderRest (byte_at before.contents) (stored_bytes (abstract_image spec opened []))
  pub sound : spec.is_sound opened []
  pub surplus : spec.surplus opened [] ≡ surplus_of (header (byte_at before.contents)) (byte_at before.contents)
  pub leaks : spec.leaked opened ≡ 0
  pub refines : RefinesDisk spec opened new commands replies
  pub stops : (c : List ℕ) → (spec.storage new).had_since before.moment c
      → IsStopIn (spec.setting opened) (started (abstract_image spec opened [])) refines.end commands replies refines.run (byte_at c)
