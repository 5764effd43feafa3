-- A range is filled step by step.
use Rattle.std.proofs.Common.{◌≡◌, ◌%◌, ◌<◌, ◌≤◌, ℕ, max, List, Option, refl, sym, ap, ◌∙◌, subst, arith}
use Rattle.qcow2_image.proofs.Common.{BackingView, StorageView, HeaderFields, cluster_size, ImageError, Qcow2, Prepared, ImageStays, ImageInvariant, abstract_of, pending_in, MovesTables, PreservesHeaderCluster, FillsPart, IsWholeRange, RefusedFill, Mappings}
use Rattle.qcow2_image.proofs.Call.Called.{works_none}
use Rattle.qcow2_image.proofs.Preallocate.Filled.{fills_none, fills_then, refused_after}
use Rattle.qcow2_image.proofs.Call.ImageSteps.{stays_then}

module _ {S F : Type 0} where
  pub stays_none : (image : Qcow2 S F) → ImageStays image image
  stays_none image = record { image = record { number = refl; size = refl; writable = refl; lacks = refl; beside = refl }; failed = refl }

-- clusters are as large, whatever tables moved
pub same_size : (h h' : HeaderFields) → MovesTables h h' → cluster_size h' ≡ cluster_size h
same_size h h' file_step = ap (λ (x : HeaderFields). cluster_size x) file_step

pub same_version : (h h' : HeaderFields) → MovesTables h h' → h'.version ≡ h.version
same_version h h' file_step = ap (λ (x : HeaderFields). x.version) file_step

pub still_at : (h h' : HeaderFields) (n : ℕ) → MovesTables h h' → n % cluster_size h ≡ 0 → n % cluster_size h' ≡ 0
still_at h h' n file_step is = ap (λ s. n % s) (same_size h h' file_step) ∙ is

module _ {S F : Type 0} (view : S → StorageView) (backing : F → BackingView) (from to : ℕ) where
  -- so far a range has zeros, up to the start of a cluster
  pub record ZeroedTo (at : ℕ) (old now : Qcow2 S F) : Type 0 where
    pub stays : ImageStays old now
    pub low : from ≤ at
    pub high : at ≤ max from to
    pub so_far : (out : Mappings) → ImageInvariant view backing (pending_in view backing old out) old out → from ≤ to → IsWholeRange old.file.header.fields from to → 3 ≤ old.file.header.fields.version
        → FillsPart view backing 0 from at old now out × (at % cluster_size old.file.header.fields ≡ 0)

  pub zeroed_first : (old : Qcow2 S F) → ZeroedTo from old old
  zeroed_first old = record {
    stays = stays_none old;
    low = omega arith;
    high = omega arith;
    so_far = λ out sound le whole version. (fills_none view backing out old 0 from sound (works_none (abstract_of view backing old out) sound), whole.0);
  }

  module _ (at : ℕ) (old now new : Qcow2 S F) (lt : at < to) (before : ZeroedTo at old now) where
    pub zeroed_next : (next : ℕ) → ImageStays now new → at ≤ next → next ≤ max at to
        → ((out : Mappings) → ImageInvariant view backing (pending_in view backing now out) now out → IsWholeRange now.file.header.fields at to → next % cluster_size now.file.header.fields ≡ 0)
        → ((out : Mappings) → ImageInvariant view backing (pending_in view backing now out) now out → at ≤ to → IsWholeRange now.file.header.fields at to → 3 ≤ now.file.header.fields.version → FillsPart view backing 0 at next now new out)
        → ZeroedTo next old new
    zeroed_next next stays le most ends fills = let low = before.low in record {
      stays = stays_then before.stays stays;
      low = omega (arith, low, le);
      high = omega (arith, lt, most);
      so_far = λ out sound first whole version.
          let so = before.so_far out sound first whole version in
          let file_step = so.0.header in
          let here : IsWholeRange now.file.header.fields at to = (still_at old.file.header.fields now.file.header.fields at file_step so.1, still_at old.file.header.fields now.file.header.fields to file_step whole.1) in (
            fills_then view backing out old now new 0 from at next low le so.0 (fills out so.0.sound (omega (arith, lt)) here (subst (λ v. 3 ≤ v) (sym (same_version old.file.header.fields now.file.header.fields file_step)) version)),
            (sym (ap (λ s. next % s) (same_size old.file.header.fields now.file.header.fields file_step)) ∙ (ends out so.0.sound here)),
          );
    }

    pub zeroed_refused : PreservesHeaderCluster view old now → (e : ImageError)
        → ((out : Mappings) → ImageInvariant view backing (pending_in view backing now out) now out → at ≤ to → IsWholeRange now.file.header.fields at to → 3 ≤ now.file.header.fields.version → RefusedFill view backing at to now new out e)
        → (out : Mappings) → ImageInvariant view backing (pending_in view backing old out) old out → from ≤ to → IsWholeRange old.file.header.fields from to → 3 ≤ old.file.header.fields.version
        → RefusedFill view backing from to old new out e
    zeroed_refused behind e refused out sound first whole version =
        let so = before.so_far out sound first whole version in
        let file_step = so.0.header in
        let here : IsWholeRange now.file.header.fields at to = (still_at old.file.header.fields now.file.header.fields at file_step so.1, still_at old.file.header.fields now.file.header.fields to file_step whole.1) in
        let low = before.low in
        refused_after view backing out old now new 0 from to from at at to (omega arith) (omega (arith, lt)) low (omega arith) so.0 (record { image = before.stays.image; header_cluster = behind }) e
        (refused out so.0.sound (omega (arith, lt)) here (subst (λ v. 3 ≤ v) (sym (same_version old.file.header.fields now.file.header.fields file_step)) version))

  -- so far a range has zeros, in clusters of its own
  pub record FilledTo (at : ℕ) (old now : Qcow2 S F) : Type 0 where
    pub stays : ImageStays old now
    pub low : from ≤ at
    pub high : at ≤ max from to
    pub so_far : (out : Mappings) → ImageInvariant view backing (pending_in view backing old out) old out → to % cluster_size old.file.header.fields ≡ 0 → FillsPart view backing to from at old now out

  pub filled_first : (old : Qcow2 S F) → FilledTo from old old
  filled_first old = record { stays = stays_none old; low = omega arith; high = omega arith; so_far = λ out sound whole. fills_none view backing out old to from sound (works_none (abstract_of view backing old out) sound) }

  module _ (at : ℕ) (old now new : Qcow2 S F) (lt : at < to) (before : FilledTo at old now) where
    pub filled_next : (next : ℕ) → ImageStays now new → at < next → next ≤ to
        → ((out : Mappings) → ImageInvariant view backing (pending_in view backing now out) now out → to % cluster_size now.file.header.fields ≡ 0 → FillsPart view backing to at next now new out) → FilledTo next old new
    filled_next next stays more most fills = let low = before.low in record {
      stays = stays_then before.stays stays;
      low = omega (arith, low, more);
      high = omega (arith, most);
      so_far = λ out sound whole.
          let so = before.so_far out sound whole in
          fills_then view backing out old now new to from at next low (omega (arith, more)) so (fills out so.sound (still_at old.file.header.fields now.file.header.fields to so.header whole));
    }

    pub filled_refused : PreservesHeaderCluster view old now → (e : ImageError)
        → ((out : Mappings) → ImageInvariant view backing (pending_in view backing now out) now out → to % cluster_size now.file.header.fields ≡ 0 → RefusedFill view backing at to now new out e)
        → (out : Mappings) → ImageInvariant view backing (pending_in view backing old out) old out → to % cluster_size old.file.header.fields ≡ 0 → RefusedFill view backing from to old new out e
    filled_refused behind e refused out sound whole =
        let so = before.so_far out sound whole in
        let low = before.low in
        refused_after view backing out old now new to from to from at at to (omega arith) (omega (arith, lt)) low (omega arith) so (record { image = before.stays.image; header_cluster = behind }) e (refused out so.sound (still_at old.file.header.fields now.file.header.fields to so.header whole))
