-- The contract of the calls that clear the whole clusters of a range, for each way to clear.
use Rattle.std.specs.Prelude.{◌+◌, ℕ, ◌≡◌, ◌<◌, ◌≤◌, List, [], Option, None, Result, Ok, Err, IfErr, IfOk, IfSome, OnOk}
use Rattle.image_access.specs.Backing.{BackingView}
use Rattle.image_access.specs.Moments.{StorageView}
use Rattle.qcow2_metadata.specs.Header.{cluster_size}
use Rattle.qcow2_disk.specs.Rules.{answered}
use Rattle.qcow2_alloc.specs.ImageFile.{known_in}
use Rattle.qcow2_alloc.specs.declared.error.ImageError.{ImageError}
use Rattle.qcow2_alloc.specs.declared.error.ImageError.TheVariants.{TablePrepared}
use Rattle.qcow2_image.specs.BehindHeader.{PreservesHeaderCluster}
use Rattle.qcow2_image.specs.Backings.{HasPinnedMapping}
use Rattle.qcow2_image.specs.Clearing.{Clears, ClearsImageCovers, ClearsOrRefuses, IsClearable, IsUnderMapping, RefusesClearing, from_in, refuses_to_clear, to_in}
use Rattle.qcow2_image.specs.Faults.{CountsImageFaults}
use Rattle.qcow2_image.specs.Image.{HasNothingToFree, IsSameImage, size_of}
use Rattle.qcow2_image.specs.ImageInvariant.{abstract_of, Mappings}
use Rattle.qcow2_image.specs.L1Entries.{HasOwnTable, NeedsOverflowingL1Entry}
use Rattle.qcow2_image.specs.Limits.{IfLimit, IsLimited}
use Rattle.qcow2_image.specs.MayFail.{MayFailAllocating}
use Rattle.qcow2_image.specs.NewTables.{IsFaultOrLacksTable}
use Rattle.qcow2_image.specs.Noted.{ChangesRose, FailsOnceWritten, RecordsPart}
use Rattle.qcow2_image.specs.PinnedTables.{RespectsPins}
use Rattle.qcow2_image.specs.Refusals.{FreesRefused, MayFailPreparing, MarksFailed}
use Rattle.qcow2_image.specs.declared.discarding.ClearMode.{ClearMode}
use Rattle.qcow2_image.specs.declared.image.Qcow2.{Qcow2}
use Rattle.qcow2_image.specs.declared.prepared.Prepared.{Prepared}

module _ {S F : Type 0} (view : S → StorageView) (backing : F → BackingView) where
  -- A clearing call, whatever the image contains: it is the same image, marked as failed by the rule. Its changes are recorded and counted, the header's cluster stays the same, and each fault is reported.
  pub record ClearsStep (old new : Qcow2 S F) (result : Result (ℕ × ℕ) ImageError) : Type 0 where
    pub image : IsSameImage old new
    pub marks : MarksFailed old new result
    pub since : RecordsPart view old new
    pub once_written : FailsOnceWritten view old new result
    pub header_cluster : PreservesHeaderCluster view old new
    pub faults : CountsImageFaults view backing old new result

  module _ (how : ClearMode) (old new : Qcow2 S F) (offset n : ℕ) (result : Result (ℕ × ℕ) ImageError) where
    abbrev pub may_clear : Type 0
    may_clear = refuses_to_clear old offset n how ≡ None

    -- The range has a whole cluster.
    abbrev pub touches_some : Type 0
    touches_some = from_in old offset n < to_in old offset n

    -- Why the call is refused: at once, with nothing changed, if a check forbids it; otherwise for a cause that comes during the work.
    -- The L2 table of the first offset changes only if it is not pinned, and the call is refused 9 only if it is.
    -- A refusal leaves no cluster waiting to be freed, except after a fault and after 9. On a sound image 13 means that there was no room for the L2 table of the first offset.
    pub record FailsToClear : Type 0 where
      pub early : IfSome (refuses_to_clear old offset n how) (λ e. (result ≡ Err e) × (new ≡ old))
      pub late : may_clear → IfErr result (MayFailPreparing new)
      pub refused : IfErr result (RefusesClearing view backing how old new offset n)
      pub pinned : touches_some → may_clear → HasOwnTable old (from_in old offset n) → RespectsPins old (from_in old offset n) result
      pub under : may_clear → touches_some → (out : Mappings) → (abstract_of view backing old out).is_sound
          → IfErr result (λ e. e ≡ TablePrepared → IsUnderMapping old.file.header.fields (from_in old offset n) out) × IfOk result (λ range. IsUnderMapping old.file.header.fields (from_in old offset n) out → ⊥)
      pub freed : may_clear → touches_some → (out : Mappings) → (abstract_of view backing old out).is_sound → IfErr result (FreesRefused new)
      pub limit : may_clear → touches_some → (out : Mappings) → (abstract_of view backing old out).is_sound → IfLimit result (IsLimited view backing [] (from_in old offset n + 1) old out)

    -- The call returns how much of the range was cleared. If no cluster is whole, it changes nothing. On a sound image the guest sees the whole clusters cleared, a change is counted, and no cluster waits to be freed.
    pub record ClearsSoundly : Type 0 where
      pub range : IfOk result (λ range. range ≡ answered (cluster_size old.file.header.fields) (size_of old) offset n)
      pub nothing : may_clear → to_in old offset n ≤ from_in old offset n → (result ≡ Ok (from_in old offset n, 0)) × (new ≡ old)
      pub sees : Clears view backing how old new offset n result
      pub covers : (out : Mappings) → (abstract_of view backing old out).is_sound
          → OnOk result (ClearsImageCovers how (from_in old offset n) (to_in old offset n) old.file.header.fields (known_in view old.file) new.file.header.fields (known_in view new.file))
      pub emptied : touches_some → OnOk result (HasNothingToFree new)
      pub changed : (out : Mappings) → (abstract_of view backing old out).is_sound → touches_some → OnOk result (ChangesRose old new)

  -- ---- the clusters between two offsets within one L2 table
  module _ (how : ClearMode) (from to : ℕ) (old new : Qcow2 S F) (out : Mappings) (result : Result (Unit {0}) ImageError) where
    -- The clusters between two cluster boundaries are cleared, or the part is refused. Each refusal has its cause in the image before the part; a limit (13) was passed at some state within it. If no mapping is pinned, a refusal is a fault, or the first offset has no L2 table of its own.
    pub record ClearsWhole : Type 0 where
      pub clears : ClearsOrRefuses view backing how from to old new out result
      pub may_fail : IfErr result (MayFailAllocating (HasPinnedMapping out) (IsUnderMapping old.file.header.fields from out) ⊥ (NeedsOverflowingL1Entry old from))
      pub limit : IfLimit result (IsLimited view backing [] (from + 1) old out)
      pub lacks : (HasPinnedMapping out → ⊥) → IfErr result (IsFaultOrLacksTable view new from)

    -- The clusters between two offsets within one L2 table are cleared, or the part is refused. It is refused 9 only if a mapping is pinned in that L2 table, and it succeeds only if none is.
    pub record ClearsInTable : Type 0 where
      pub whole : IsClearable old.file.header.fields how from to → ClearsWhole
      pub taken : IfErr result (λ e. e ≡ TablePrepared → IsUnderMapping old.file.header.fields from out)
      pub free : IfOk result (λ done. IsUnderMapping old.file.header.fields from out → ⊥)
