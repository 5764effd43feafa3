-- What each call on an image does, whatever mappings are prepared.
use Rattle.qcow2_image.specs.declared.mapping.Place.{Place}
use Rattle.std.specs.Prelude.{ℕ, ◌≡◌, Bool, List, [], ◌∷◌, Option, Some, None, Result, Ok, Err, slice_get, slice_set}
use Rattle.image_access.specs.Backing.{BackingView}
use Rattle.image_access.specs.Moments.{StorageView}
use Rattle.qcow2_alloc.specs.declared.error.ImageError.{ImageError}
use Rattle.qcow2_alloc.specs.declared.error.ImageError.TheVariants as I
use Rattle.qcow2_disk.specs.Stops.{GivenBytes}
use Rattle.qcow2_disk.specs.Mappings.{IsPrepared, put_mapping, put_disk, committed, given_by_put, given_by_commit}
use Rattle.qcow2_disk.specs.AbstractImages.{Guest, AbstractImage, guest_of, stored_bytes}
use Rattle.qcow2_disk.specs.Calls.{Refusal, memory, storage, not_compressed, another, IsRefusalByFault, AnsweredEffect, RefusedEffect, IsSame, with_disk, with_slot}
use Rattle.qcow2_image.specs.declared.image.Qcow2.{Qcow2}
use Rattle.qcow2_image.specs.declared.prepared.Prepared.{Prepared}
use Rattle.qcow2_image.specs.declared.prepared.CommitRefused.{CommitRefused}
use Rattle.qcow2_image.specs.declared.prepared.CommitRefused.TheVariants.{Kept, Spent}
use Rattle.qcow2_image.specs.ImageInvariant.{abstract_of, meaning, Mappings, set_slot}

-- The refusal of an error, in the detail that the state after it depends on.
abbrev pub refusal_of : ImageError → Refusal
refusal_of I.ReadOnly = another 1
refusal_of I.BeyondSize = another 2
refusal_of I.Version = another 3
refusal_of I.UnalignedTable = another 4
refusal_of I.InvalidOption = another 5
refusal_of I.Preallocation = another 6
refusal_of I.Compressed = another 7
refusal_of I.InUse = another 8
refusal_of I.TablePrepared = another 9
refusal_of I.OutdatedMapping = another 10
refusal_of I.ForeignState = another 11
refusal_of I.Dependency = another 12
refusal_of I.Limit = another 13
refusal_of I.Memory = memory
refusal_of I.Storage = storage
refusal_of I.Failed = another 16
refusal_of I.MappingPrepared = another 17
refusal_of (I.NotCompressed offset) = not_compressed offset
refusal_of I.Metadata = another 19
refusal_of I.Overflow = another 20
refusal_of (I.StillInUse tables) = another 21

-- The error of a refused commit.
abbrev pub reason_of : CommitRefused → ImageError
reason_of (Kept e p) = e
reason_of (Spent e) = e

module _ {S F : Type 0} (view : S → StorageView) (backing : F → BackingView) (old new : Qcow2 S F) where
  -- A call that leaves the prepared mappings in their slots, and gives these values, by the file that holds guests' data. If it succeeds, `Done` says what it did. If it is refused, the guest sees what it saw.
  abbrev pub AnswersGiving : {A : Type 0} → (Place → List GivenBytes) → (A → Guest → Guest → Type 0) → Result A ImageError → Type 0
  AnswersGiving given Done (Ok a) = (out : Mappings) → let v = abstract_of view backing old out in let w = abstract_of view backing new out in AnsweredEffect v w (given out.place) [] (Done a (guest_of v) (guest_of w))
  AnswersGiving given Done (Err e) = (out : Mappings) → let v = abstract_of view backing old out in let w = abstract_of view backing new out in RefusedEffect v w (given out.place) [] (refusal_of e) (IsSame v w)

  -- The same, with the same values for each file.
  abbrev pub AnswersCall : {A : Type 0} → List GivenBytes → (A → Guest → Guest → Type 0) → Result A ImageError → Type 0
  AnswersCall given = AnswersGiving (λ place. given)

  -- The result of a prepare: a range is prepared, and its mapping is in a slot that was empty.
  abbrev pub Prepares : ℕ → ℕ → Bool → Result Prepared ImageError → Type 0
  Prepares offset n overwrite (Ok p) = (out : Mappings) (k : ℕ) → slice_get out.slots k ≡ Some None
      → let v = abstract_of view backing old out in let w = abstract_of view backing new (set_slot out k (Some p)) in AnsweredEffect v w [] []
      (IsPrepared v.setting.cluster_size (guest_of v).disk offset n overwrite (meaning view backing out.place new p) × (guest_of w ≡ with_slot (guest_of v) k (Some (meaning view backing out.place new p))))
  Prepares offset n overwrite (Err e) = (out : Mappings) → let v = abstract_of view backing old out in let w = abstract_of view backing new out in RefusedEffect v w [] [] (refusal_of e) (IsSame v w)

  -- What a put gives: nothing at offsets that are hidden until the commit.
  abbrev pub all_given_by_put : Place → AbstractImage → Prepared → ℕ → List ℕ → List GivenBytes
  all_given_by_put place v p at bytes = given_by_put (guest_of v).disk (meaning view backing place old p) at bytes ∷ []

  -- Bytes are put into a prepared mapping. Bytes at private offsets are kept for the commit, all others are written to the disk.
  abbrev pub Puts : Prepared → ℕ → List ℕ → Result (Unit {0}) ImageError → Type 0
  Puts p at bytes (Ok _) = (out : Mappings) (k : ℕ) → slice_get out.slots k ≡ Some (Some p)
      → let v = abstract_of view backing old out in let w = abstract_of view backing new out in let m = meaning view backing out.place old p in AnsweredEffect v w (all_given_by_put out.place v p at bytes) []
      (guest_of w ≡ with_slot (with_disk (guest_of v) (put_disk (guest_of v).disk m at bytes)) k (Some (put_mapping m at bytes)))
  Puts p at bytes (Err e) = (out : Mappings) (k : ℕ) → slice_get out.slots k ≡ Some (Some p)
      → let v = abstract_of view backing old out in let w = abstract_of view backing new out in RefusedEffect v w (all_given_by_put out.place v p at bytes) [] (refusal_of e) (IsSame v w)

  -- What a commit gives: the values of the disk in the whole clusters of the mapping.
  abbrev pub all_given_by_commit : Place → AbstractImage → Prepared → List GivenBytes
  all_given_by_commit place v p = given_by_commit v.setting.cluster_size (guest_of v).disk (meaning view backing place old p) ∷ []

  -- The mapping that a refused commit returns, if it returns one.
  abbrev pub handed_back : CommitRefused → Option Prepared
  handed_back (Kept e p) = Some p
  handed_back (Spent e) = None

  -- The private bytes of a mapping become visible, and its slot is empty. On a sound image only a fault refuses this. The mapping is in its slot again then, or the image failed.
  abbrev pub Commits : Prepared → Result (Unit {0}) CommitRefused → Type 0
  Commits p (Ok _) = (out : Mappings) (k : ℕ) → slice_get out.slots k ≡ Some (Some p)
      → let v = abstract_of view backing old out in let w = abstract_of view backing new (set_slot out k None) in AnsweredEffect v w (all_given_by_commit out.place v p) []
      (guest_of w ≡ with_slot (with_disk (guest_of v) (committed (guest_of v).disk (meaning view backing out.place old p))) k None)
  Commits p (Err r) = (out : Mappings) (k : ℕ) → slice_get out.slots k ≡ Some (Some p)
      → let v = abstract_of view backing old out in let w = abstract_of view backing new (set_slot out k (handed_back r)) in
      (v.is_sound → IsRefusalByFault (refusal_of (reason_of r))) × RefusedEffect v w (all_given_by_commit out.place v p) [] (refusal_of (reason_of r)) (IsSame v w)

  -- A prepared mapping is dropped, and its slot is empty.
  abbrev pub Discards : Prepared → Type 0
  Discards p = (out : Mappings) (k : ℕ) → slice_get out.slots k ≡ Some (Some p)
      → let v = abstract_of view backing old out in let w = abstract_of view backing new (set_slot out k None) in AnsweredEffect v w [] [] (guest_of w ≡ with_slot (guest_of v) k None)

  -- The known contents are on the storage.
  abbrev pub FlushesImage : Result (Unit {0}) ImageError → Type 0
  FlushesImage (Ok _) = (out : Mappings) → let v = abstract_of view backing old out in let w = abstract_of view backing new out in AnsweredEffect v w [] [] ((w.known ≡ stored_bytes w) × IsSame v w)
  FlushesImage (Err e) = (out : Mappings) → let v = abstract_of view backing old out in let w = abstract_of view backing new out in RefusedEffect v w [] [] (refusal_of e) (IsSame v w)
