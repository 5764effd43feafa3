-- The parts of a call that a guest sees.
use Rattle.qcow2_metadata.specs.Header.{cluster_size}
use Rattle.qcow2_image.specs.InternalSteps.{RefusedFillingStep, HoldsTable}
use Rattle.qcow2_alloc.specs.ImageError.{IsFault as IsFaultOfTables}
use Rattle.std.specs.Prelude.{Bool, true, false, ℕ, ◌+◌, ◌*◌, ◌/◌, ◌≡◌, ◌<◌, ◌≤◌, ◌==◌, ◌⊎◌, List, [], ◌∷◌, length, Option, Some, None, IsSome, IsSomeAnd, IsTrue, IfErr, IfSome, Result, Ok, Err, slice_get, slice_set, if◌then◌else◌}
use Rattle.image_access.specs.Backing.{BackingView}
use Rattle.image_access.specs.Contents.{overwritten}
use Rattle.image_access.specs.Moments.{StorageView, EachMomentSince, IsLeftBy}
use Rattle.qcow2_disk.specs.Calls.{IsRefusalByFault, IsSame, RefusedEffect, EffectOnSound, with_disk, with_slot}
use Rattle.qcow2_metadata.specs.Cover.{cover}
use Rattle.qcow2_image.specs.declared.prepared.ClusterMapping.TheVariants.{InPlace}
use Rattle.qcow2_disk.specs.Mappings.{is_copied_data, PreparedMapping, IsPrepared, given_by_commit, put_mapping, put_disk, committed}
use Rattle.qcow2_disk.specs.AbstractImages.{Guest, guest_of}
use Rattle.qcow2_alloc.specs.declared.error.ImageError.{ImageError}
use Rattle.qcow2_alloc.specs.declared.error.ImageError.TheVariants as I
use Rattle.qcow2_alloc.specs.ImageFile.{view_in, known_in}
use Rattle.qcow2_image.specs.declared.image.Qcow2.{Qcow2}
use Rattle.qcow2_image.specs.declared.prepared.Prepared.{Prepared}
use Rattle.qcow2_image.specs.Calls.{refusal_of, all_given_by_put}
use Rattle.qcow2_image.specs.Image.{is_failed, has_noted_change, storage_of_image}
use Rattle.qcow2_image.specs.ImageInvariant.{meaning, pending_in, abstract_of, ImageInvariant, Mappings, set_slot}
use Rattle.qcow2_image.specs.MovedTables.{MovesTables, CoversStay}

-- What a guest sees after bytes were put into the mapping of a slot.
abbrev pub put_guest : Guest → ℕ → PreparedMapping → ℕ → List ℕ → Guest
put_guest g k m at bytes = with_slot (with_disk g (put_disk g.disk m at bytes)) k (Some (put_mapping m at bytes))

-- The outcome of a write to the storage: made if it succeeded; if it was refused, made at most if the storage failed.
abbrev pub IsWriteOutcome : Result (Unit {0}) ImageError → List ℕ → List ℕ → List ℕ → Type 0
IsWriteOutcome (Ok _) old changed new = new ≡ changed
IsWriteOutcome (Err I.Storage) old changed new = (new ≡ old) ⊎ (new ≡ changed)
IsWriteOutcome (Err e) old changed new = new ≡ old

-- What a write leaves of a file: this change of its bytes, or no change if it was refused.
abbrev pub HasChanged : {S : Type 0} → (S → StorageView) → S → (List ℕ → List ℕ) → Result (Unit {0}) ImageError → S → Type 0
HasChanged view file change result now = (view file).is_honest → (view now).is_honest × IsWriteOutcome result (view file).contents (change (view file).contents) (view now).contents

-- Bytes were put into a mapping; or the put was refused and nothing changed; or the storage failed.
abbrev pub IsPut : Result (Unit {0}) ImageError → Guest → Guest → Guest → Type 0
IsPut (Ok _) old put new = new ≡ put
IsPut (Err e) old put new = (new ≡ old) ⊎ (e ≡ I.Storage)

-- Offsets that were private in the mapping of a slot, and no longer are, are visible now. All else is the same.
pub record ShowsPart (old new : Guest) (k : ℕ) (m m' : PreparedMapping) : Type 0 where
  pub slots : (j : ℕ) → new.slots j ≡ (if j == k then Some m' else old.slots j)
  pub size : new.disk.size ≡ old.disk.size
  pub from : m'.from ≡ m.from
  pub length : m'.length ≡ m.length
  pub private : (o : ℕ) → IsTrue (m'.is_private o) → IsTrue (m.is_private o) × (m'.shown o ≡ m.shown o) × (new.disk.value o ≡ old.disk.value o)
  pub visible : (o : ℕ) → m'.is_private o ≡ false → new.disk.value o ≡ (committed old.disk m).value o

-- An existing mapping: a range of copied data that is written in place. It pins no L2 table.
pub record IsExisting (p : Prepared) (number guest length : ℕ) : Type 0 where
  pub image : p.image ≡ number
  pub guest_is : p.guest ≡ guest
  pub length_is : p.length ≡ length
  pub table : p.table ≡ None
  pub clusters : p.clusters.items ≡ []

-- A mapping with all its clusters entered in the L2 table: every byte is in place.
pub record IsEntered (p q : Prepared) : Type 0 where
  pub mapping : q ≡ record p { clusters = q.clusters }
  pub table : q.table ≡ p.table
  pub many : length q.clusters.items ≡ length p.clusters.items
  pub in_place : (j : ℕ) → j < length p.clusters.items → slice_get q.clusters.items j ≡ Some InPlace

module _ {S F : Type 0} (view : S → StorageView) where
  -- The mappings of guest clusters outside of a range stay the same.
  abbrev pub StaysBeside : (from to : ℕ) → Qcow2 S F → Qcow2 S F → Type 0
  StaysBeside from to old new = (g : ℕ) → (g < from / cluster_size old.file.header.fields) ⊎ (to ≤ g * cluster_size old.file.header.fields)
      → cover old.file.header.fields (known_in view old.file) g ≡ cover new.file.header.fields (known_in view new.file) g

  -- Each guest cluster that the range touches is copied data.
  abbrev pub AreCopied : (from to : ℕ) → Qcow2 S F → Type 0
  AreCopied from to image = (g : ℕ) → from < g * cluster_size image.file.header.fields + cluster_size image.file.header.fields → g * cluster_size image.file.header.fields < to
      → is_copied_data (cover image.file.header.fields (known_in view image.file) g) ≡ true

  -- Bytes are written to the storage, and nothing else changes.
  pub record WritesBytes (old new : Qcow2 S F) (host : ℕ) (bytes : List ℕ) (result : Result (Unit {0}) ImageError) : Type 0 where
    pub rest : new ≡ record old { file = record old.file { storage = new.file.storage } }
    pub honest : (view_in view old.file).is_honest → (view_in view new.file).is_honest
    pub time : (view_in view old.file).is_honest → EachMomentSince (view_in view old.file) (view_in view new.file) (IsLeftBy (view_in view new.file))
    pub written : (view_in view old.file).is_honest → IsWriteOutcome result (view_in view old.file).contents (overwritten (view_in view old.file).contents host bytes) (view_in view new.file).contents

  -- A write to the data file makes this change of it, or is refused. The image's own storage stays the same, and the change is noted.
  pub record WritesBeside (old new : Qcow2 S F) (change : List ℕ → List ℕ) (result : Result (Unit {0}) ImageError) (file : S) : Type 0 where
    pub rest : new ≡ record old { file = record old.file { storage = new.file.storage }; data_file = new.data_file }
    pub storage : storage_of_image new ≡ storage_of_image old
    pub written : IsSomeAnd new.data_file (HasChanged view file change result)

  -- Bytes are written as data to the image's own storage. Behind the header's cluster only a fault refuses this.
  pub record WritesOwnData (old new : Qcow2 S F) (host : ℕ) (bytes : List ℕ) (result : Result (Unit {0}) ImageError) : Type 0 where
    pub fault : cluster_size old.file.header.fields ≤ host → IfErr result IsFaultOfTables
    pub written : WritesBytes old new host bytes result

  -- Bytes are written as data: to the data file, whose bytes change in this way, or, if there is none, to the image's own storage. Behind the header's cluster only a fault refuses this.
  pub record WritesData (old new : Qcow2 S F) (host : ℕ) (bytes : List ℕ) (change : List ℕ → List ℕ) (result : Result (Unit {0}) ImageError) : Type 0 where
    pub fault : cluster_size old.file.header.fields ≤ host → IfErr result IsFaultOfTables
    pub rest : new ≡ record old { file = record old.file { storage = new.file.storage }; data_file = new.data_file }
    pub time : (view_in view old.file).is_honest → EachMomentSince (view_in view old.file) (view_in view new.file) (IsLeftBy (view_in view new.file))
    pub written : old.data_file ≡ None → WritesBytes old new host bytes result
    pub beside : IfSome old.data_file (WritesBeside old new change result)

  module _ (backing : F → BackingView) where
    -- Bytes are put into a prepared mapping.
    pub record PutsPart (old new : Qcow2 S F) (out : Mappings) (k : ℕ) (p : Prepared) (at : ℕ) (bytes : List ℕ) (result : Result (Unit {0}) ImageError) : Type 0 where
      pub works : EffectOnSound (abstract_of view backing old out) (abstract_of view backing new out) (all_given_by_put view backing old new out.place (abstract_of view backing old out) p at bytes) []
      pub sound : ImageInvariant view backing (pending_in view backing new out) new out
      pub is : IsPut result (guest_of (abstract_of view backing old out)) (put_guest (guest_of (abstract_of view backing old out)) k (meaning view backing out.place old p) at bytes) (guest_of (abstract_of view backing new out))

    -- A prepared mapping is committed in part. The rest stays prepared in its slot.
    pub record CommitsPart (old new : Qcow2 S F) (out : Mappings) (k : ℕ) (p q : Prepared) : Type 0 where
      pub works : EffectOnSound (abstract_of view backing old out) (abstract_of view backing new (set_slot out k (Some q))) (given_by_commit (abstract_of view backing old out).setting.cluster_size (guest_of (abstract_of view backing old out)).disk (meaning view backing out.place old p) ∷ []) []
      pub sound : ImageInvariant view backing (pending_in view backing new (set_slot out k (Some q))) new (set_slot out k (Some q))
      pub shows : ShowsPart (guest_of (abstract_of view backing old out)) (guest_of (abstract_of view backing new (set_slot out k (Some q)))) k (meaning view backing out.place old p) (meaning view backing out.place new q)
      pub beside : StaysBeside p.guest (p.guest + p.length) old new

    -- A prepared mapping is committed, and no byte of it is private any more.
    pub record CommitsAll (old new : Qcow2 S F) (out : Mappings) (k : ℕ) (p q : Prepared) : Type 0 where
      pub part : CommitsPart old new out k p q
      pub visible : (o : ℕ) → (meaning view backing out.place new q).is_private o ≡ false

    -- All clusters of a pinned mapping are entered in its L2 table. If one of them was not in place, a change is recorded.
    abbrev pub EntersAll : Qcow2 S F → Qcow2 S F → Prepared → Prepared → Bool → Type 0
    EntersAll old new p q entered = (out : Mappings) (k : ℕ) → slice_get out.slots k ≡ Some (Some p) → IsSome p.table → ImageInvariant view backing (pending_in view backing old out) old out
        → CommitsAll old new out k p q × (IsTrue entered → IsTrue new.file.caches.is_changed)

    -- The image is sound, the guest sees what it saw, and every mapping is the same. The L1 table and the reftable may have moved.
    pub record InternalCall (old new : Qcow2 S F) (out : Mappings) : Type 0 where
      pub works : EffectOnSound (abstract_of view backing old out) (abstract_of view backing new out) [] []
      pub sound : ImageInvariant view backing (pending_in view backing new out) new out
      pub same : IsSame (abstract_of view backing old out) (abstract_of view backing new out)
      pub header : MovesTables old.file.header.fields new.file.header.fields
      pub covers : CoversStay old.file.header.fields (known_in view old.file) new.file.header.fields (known_in view new.file)

    -- A part that a fault ended, after a change was recorded if memory ran out. Once the image is marked as failed, a stop is as safe as before.
    pub record InterruptedCall (old new : Qcow2 S F) (out : Mappings) (e : ImageError) : Type 0 where
      pub fault : IsFaultOfTables e
      pub recorded : e ≡ I.Memory → IsTrue (has_noted_change new)
      pub works : EffectOnSound (abstract_of view backing old out) (abstract_of view backing (record new { is_failed = true }) out) [] []

    -- What a refused part leaves: a sound image that looks the same, or one that is about to fail.
    abbrev pub RefusedCall : Qcow2 S F → Qcow2 S F → Mappings → ImageError → Type 0
    RefusedCall old new out e = InternalCall old new out ⊎ InterruptedCall old new out e

    -- Clusters are freed at the end of a call, which guests don't see. Only a fault refuses this. If a change was recorded in the caches, the image failed then.
    abbrev pub EndsFreeing : Qcow2 S F → Qcow2 S F → Mappings → Result (Unit {0}) ImageError → Type 0
    EndsFreeing old new out (Ok _) = InternalCall old new out
    EndsFreeing old new out (Err e) =
        RefusedEffect (abstract_of view backing old out) (abstract_of view backing new out) [] [] (refusal_of e) (IsSame (abstract_of view backing old out) (abstract_of view backing new out))
        × IsRefusalByFault (refusal_of e) × (IsTrue old.file.caches.is_changed → IsTrue (is_failed new))

    -- The L2 table of an offset is found or made.
    abbrev pub FindsTable : Qcow2 S F → Qcow2 S F → Mappings → ℕ → Result ℕ ImageError → Type 0
    FindsTable old new out offset (Ok table) = InternalCall old new out × HoldsTable view backing new offset table
    FindsTable old new out offset (Err e) = RefusedCall old new out e

    -- A range is prepared, and its mapping is in a slot that was empty.
    pub record IsReadied (old new : Qcow2 S F) (out : Mappings) (k offset n : ℕ) (overwrite : Bool) (p : Prepared) : Type 0 where
      pub works : EffectOnSound (abstract_of view backing old out) (abstract_of view backing new (set_slot out k (Some p))) [] []
      pub sound : ImageInvariant view backing (pending_in view backing new (set_slot out k (Some p))) new (set_slot out k (Some p))
      pub header : MovesTables old.file.header.fields new.file.header.fields
      pub covers : CoversStay old.file.header.fields (known_in view old.file) new.file.header.fields (known_in view new.file)
      pub prepared : IsPrepared (cluster_size old.file.header.fields) (guest_of (abstract_of view backing old out)).disk offset n overwrite (meaning view backing out.place new p)
      pub is : guest_of (abstract_of view backing new (set_slot out k (Some p))) ≡ with_slot (guest_of (abstract_of view backing old out)) k (Some (meaning view backing out.place new p))

    abbrev pub Readies : Qcow2 S F → Qcow2 S F → Mappings → ℕ → ℕ → Bool → Result Prepared ImageError → Type 0
    Readies old new out offset n overwrite (Ok p) = (k : ℕ) → slice_get out.slots k ≡ Some None → IsReadied old new out k offset n overwrite p
    Readies old new out offset n overwrite (Err e) = RefusedFillingStep view backing (pending_in view backing old out) old new out e

    -- A whole prepare, which also frees clusters.
    abbrev pub PreparesRange : Qcow2 S F → Qcow2 S F → Mappings → ℕ → ℕ → Bool → Result Prepared ImageError → Type 0
    PreparesRange old new out offset n overwrite (Ok p) = (k : ℕ) → slice_get out.slots k ≡ Some None → IsReadied old new out k offset n overwrite p
    PreparesRange old new out offset n overwrite (Err e) = RefusedCall old new out e
