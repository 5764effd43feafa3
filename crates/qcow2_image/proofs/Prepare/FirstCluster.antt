-- A cluster is allocated for data, and what a refusal leaves.
use Rattle.std.proofs.Common.{◌≡◌, ◌+◌, ◌-◌, ◌*◌, ◌%◌, ◌<◌, ◌∷◌, ◌++◌, ◌⊎◌, inl, inr, ℕ, Bool, false, List, [], Option, Some, refl, sym, ap, ◌∙◌, subst, arith, Result, Ok, Err, IfOk, None}
use Rattle.qcow2_image.proofs.Common.{IsNone, BackingView, StorageView, HeaderFields, cluster_size, with_new_data, new_data_to_old_data, Pending, SafeStep, Disk, known_byte, KeepsFormat, pending_safe_throughout, pending_is_changed, IsPastLimits, run_at, Allocates, AllocatesAt, RefusedGrowth, KeepsPinsAndNotes, Allocator, ClustersToFreeEntry, ImageError, ImageFile, ListsTables, state_in, view_in, contents_in, nothing_given, KeepsHeader, InternalFileGrowth, pending_same, header_format, run_in, IsAllocatorOf, refused_kept, Qcow2, Prepared, IsUsed, NoFreeBelowHint, KeepsNoFreeBelowHint, BrokeOff, file_invariant_of, AllocatesDataAt, pending_with_listed, is_announced, IsFilled, InternalFillingStep, RefusedFillingStep, HoldsAll, ListGrows, AllocatesData, run_of, of_data, of_tables, to_free, new_data_by, over_all, disk_of, ImageInvariant, leaked_by, leaked_in, run_few, Mappings, contents_for}
use Rattle.qcow2_alloc.specs.declared.clusters_to_free.ClusterKind.TheVariants as Kind
use Rattle.qcow2_alloc.specs.FreeList.{pending_then as since_listed}
use Rattle.qcow2_alloc.proofs.ListedAfter.{listed_after_same as same_list}
use Rattle.qcow2_image.proofs.Images.Formats.{lists_grow}
use Rattle.qcow2_image.proofs.Prepare.InternalWrites.{image_step_kept, image_step_then}
use Rattle.qcow2_image.proofs.Commit.Released.{sound_while}
use Rattle.qcow2_image.proofs.Images.Moving.{file_moved_on}
use Rattle.qcow2_image.proofs.Open.Reftables.{reftable_still}
use Rattle.qcow2_image.proofs.Images.Sound.{free_more}
use Rattle.qcow2_image.specs.declared.mapping.Place.{Place}

module _ {S F : Type 0} (view : S → StorageView) (backing : F → BackingView) (out : Mappings) where
  -- with the same list all is pending that was
  pub listed_after_same : (p : Pending) (old new : Qcow2 S F) → new.file.free_list ≡ old.file.free_list → pending_with_listed p old new ≡ p
  listed_after_same p old new list = same_list p old.file.free_list new.file.free_list list

  -- with the list of another image what is pending is the same
  pub listed_after_on : (p : Pending) (old mid new : Qcow2 S F) → new.file.free_list ≡ mid.file.free_list → pending_with_listed p old mid ≡ pending_with_listed p old new
  listed_after_on p old mid new list = ap (λ l. since_listed p old.file.free_list l) (sym list)

  -- the list is another one, and a step to what is pending then is safe
  pub sound_listed : (p q : Pending) (image : Qcow2 S F) (list : List ClustersToFreeEntry) → ImageInvariant view backing p image out → SafeStep (state_in view image.file p) (state_in view image.file q) nothing_given []
      → ImageInvariant view backing q (record image { file = record image.file { free_list = list } }) out
  sound_listed p q image list sound step = record {
    works = sound.works;
    file = file_invariant_of sound.file.honest (sound_while image.file.header.fields p q image.file.caches (contents_in view image.file) step.sound sound.file.caches) sound.file.named_blocks sound.file.room;
    l1_table = record { cluster = sound.l1_table.cluster; bits = sound.l1_table.bits; count = sound.l1_table.count; entries = sound.l1_table.entries };
    reftable = reftable_still view image.file (record image.file { free_list = list }) refl refl (λ k. refl) image.allocator sound.reftable;
    stands = sound.stands;
    below = sound.below;
    ready = λ k r at. let was = sound.ready k r at in record { own = was.own; mapped = was.mapped };
    pinned = sound.pinned;
    once = sound.once;
  }

  -- ---- by the allocator
  module _ (old : Qcow2 S F) (p : Pending) (sound : ImageInvariant view backing p old out) (holds : HoldsAll view backing p out) (file : ImageFile S) (a : Allocator) (marks : KeepsPinsAndNotes old.file.caches file.caches) (lists : ListsTables old.file.free_list file.free_list) (header : KeepsHeader old.file.header file.header) (leaks : leaked_by (Some a) ≡ leaked_in old) where
    abbrev taken : Qcow2 S F
    taken = record old { file = file; allocator = Some a }

    -- what is pending then, beside what is allocated
    abbrev since : Pending
    since = pending_with_listed p old taken

    -- from what is pending to what is
    image_step_moved : (q : Pending) → HoldsAll view backing q out → InternalFileGrowth view p q old.file file → IsAllocatorOf view file a → InternalFillingStep view backing p q old taken out
    image_step_moved q still file_step reftable = image_step_kept view backing out old taken p q sound holds still (file_moved_on view backing old out p q sound file (Some a) file_step reftable leaks marks.pins (lists_grow old taken lists))

    image_step_back : (e : ImageError) → RefusedGrowth view p old.file a file since e → NoFreeBelowHint view a file ⊎ BrokeOff file e → RefusedFillingStep view backing p old taken out e
    image_step_back e leaves hint = elim (refused_kept view p since old.file file a e leaves hint) [
      | inl kept ↦ inl (image_step_moved since holds kept.0 kept.1)
      | inr broken ↦ inr (record { interrupted = broken; header = header_format old.file.header file.header header; below = refl; leaks = leaks })
    ]

    pub takes_data : (r : Result ClustersToFreeEntry ImageError) → Allocates view p old.file a file since Kind.Data 1 r → KeepsNoFreeBelowHint view a file r → AllocatesData view backing p old taken out r
    takes_data (Ok n) is hint =
        let count = is.0 in
        let run : run_at n.first_cluster 1 ≡ run_of n = ap (λ m. run_at n.first_cluster m) (sym count) in
        let allocator_step = is.2 in (
          count,
          is.1,
          subst (λ f. InternalFillingStep view backing p (with_new_data since f) old taken out) run
              (image_step_moved (with_new_data since (run_at n.first_cluster 1)) (λ k. let h = holds k in omega arith)
              allocator_step.file_step (record { reftable = allocator_step.reftable; hint = hint })),
        )
    takes_data (Err e) is hint = image_step_back e is hint

    -- so does a cluster that was asked for
    pub takes_data_at : (cluster : ℕ) (r : Result (Option ClustersToFreeEntry) ImageError) → AllocatesAt view p old.file a file since cluster r
        → IfOk r (λ run. IsNone run → IsPastLimits old.file.header.fields cluster ⊎ IsUsed view file cluster) → KeepsNoFreeBelowHint view a file r → AllocatesDataAt view backing p old taken out cluster r
    takes_data_at cluster (Ok (Some n)) is none hint =
        let run : run_at cluster 1 ≡ run_of n = ap (λ c. run_at c 1) (sym is.0) ∙ ap (λ m. run_at n.first_cluster m) (sym is.1) in (
          is.0,
          is.1,
          is.2,
          subst (λ f. InternalFillingStep view backing p (with_new_data since f) old taken out) run
              (image_step_moved (with_new_data since (run_at cluster 1)) (λ k. let h = holds k in omega arith)
              is.3.file_step (record { reftable = is.3.reftable; hint = hint })),
        )
    takes_data_at cluster (Ok None) is none hint = (image_step_moved since holds is.file_step (record { reftable = is.reftable; hint = hint }), none refl)
    takes_data_at cluster (Err e) is none hint = image_step_back e is hint

  -- ---- what was allocated goes to the list to be freed
  module _ (old : Qcow2 S F) (p : Pending) (n : ClustersToFreeEntry) (one : n.count ≡ 1) (kind : n.kind ≡ Kind.Data) (sound : ImageInvariant view backing (with_new_data p (run_of n)) old out) where
    abbrev pub left : Qcow2 S F
    left = record old { file = record old.file { free_list = old.file.free_list ++ n ∷ [] } }

    abbrev new_data : Pending
    new_data = with_new_data p (run_of n)

    abbrev after : Pending
    after = new_data_to_old_data (with_new_data p (run_of n)) (run_of n)

    safe_step : SafeStep (state_in view old.file new_data) (state_in view left.file after) nothing_given []
    safe_step = pending_is_changed.old_data (state_in view old.file new_data) (run_of n) sound.file.caches.kept.kept.crash_invariant (λ c. run_few n.first_cluster n.count c) (λ c some. omega arith)

    pub image_step_handed_back : InternalFillingStep view backing new_data after old left out
    image_step_handed_back = record {
      sound = sound_listed new_data after old left.file.free_list sound safe_step;
      safe_step = safe_step;
      since = pending_safe_throughout (view_in view old.file) (state_in view old.file new_data) (state_in view left.file after) refl safe_step;
      header = refl;
      covers = λ g. refl;
      copied = λ i copied. refl;
      below = refl;
      list = record { more = n ∷ []; is = refl };
      seen = refl;
      leaks = refl;
    }

  -- what is pending then is what was before, with that
  after_is : (start old : Qcow2 S F) (p : Pending) (n : ClustersToFreeEntry) (one : n.count ≡ 1) (kind : n.kind ≡ Kind.Data) (sound : ImageInvariant view backing (with_new_data (pending_with_listed p start old) (run_of n)) old out) → ListGrows start old
      → after old (pending_with_listed p start old) n one kind sound ≡ pending_with_listed p start (left old (pending_with_listed p start old) n one kind sound)
  after_is start old p n one kind sound grows =
      let final = left old (pending_with_listed p start old) n one kind sound in
      pending_same (after old (pending_with_listed p start old) n one kind sound) (pending_with_listed p start final)
      (λ k. omega arith)
      (λ k. refl)
      (λ k.
      let since = ap (λ l. to_free of_tables l k) grows.is ∙ free_more of_tables start.file.free_list grows.more k in
      let e = free_more of_tables old.file.free_list (n ∷ []) k in
      let none : of_tables n.kind (run_of n k) ≡ 0 = ap (λ x. of_tables x (run_of n k)) kind in
      omega arith)
      (λ k.
      let since = ap (λ l. to_free of_data l k) grows.is ∙ free_more of_data start.file.free_list grows.more k in
      let e = free_more of_data old.file.free_list (n ∷ []) k in
      let some : of_data n.kind (run_of n k) ≡ run_of n k = ap (λ x. of_data x (run_of n k)) kind in
      omega arith)
      (λ k. refl)

  -- all of it
  pub image_step_left : (start old : Qcow2 S F) (p : Pending) (n : ClustersToFreeEntry) (one : n.count ≡ 1) (kind : n.kind ≡ Kind.Data) → (image_step : InternalFillingStep view backing p (with_new_data (pending_with_listed p start old) (run_of n)) start old out)
      → let end = left old (pending_with_listed p start old) n one kind image_step.sound in InternalFillingStep view backing p (pending_with_listed p start end) start end out
  image_step_left start old p n one kind image_step =
      let q = pending_with_listed p start old in
      let end = left old q n one kind image_step.sound in
      subst (λ r. InternalFillingStep view backing p r start end out) (after_is start old p n one kind image_step.sound image_step.list)
      (image_step_then view backing out start old end p (with_new_data q (run_of n)) (after old q n one kind image_step.sound) image_step (image_step_handed_back old q n one kind image_step.sound))

  -- ---- a cluster that was allocated is new
  module _ (old mid : Qcow2 S F) (p : Pending) (n : ClustersToFreeEntry) (one : n.count ≡ 1) (holds : HoldsAll view backing p out) (image_step : InternalFillingStep view backing p (with_new_data (pending_with_listed p old mid) (run_of n)) old mid out) where
    pub taken_new_data : 0 < (with_new_data (pending_with_listed p old mid) (run_of n)).new_data n.first_cluster
    taken_new_data = let once = run_in n.first_cluster n.count n.first_cluster (omega arith) (omega (arith, one)) in omega arith

    pub taken_unused : over_all new_data_by out n.first_cluster ≡ 0
    taken_unused =
        let once = run_in n.first_cluster n.count n.first_cluster (omega arith) (omega (arith, one)) in
        let each_cluster = image_step.sound.file.caches.kept.kept.crash_invariant.each_cluster n.first_cluster in
        let tally = each_cluster.tally in
        let few = each_cluster.pending (omega arith) in
        let all = holds n.first_cluster in
        omega arith

    pub still_holds : HoldsAll view backing (with_new_data (pending_with_listed p old mid) (run_of n)) out
    still_holds k = let h = holds k in omega arith

-- what was filled in an image of the same format that shows the same disk
pub filled_as : {S F : Type 0} (view : S → StorageView) (backing : F → BackingView) (place : Place) (mid old new : Qcow2 S F) (cluster first offset length : ℕ) (overwrite : Bool) → KeepsFormat old.file.header.fields mid.file.header.fields
    → disk_of view backing place mid ≡ disk_of view backing place old → cluster ≡ first → IsFilled view backing place mid new cluster offset length overwrite → IsFilled view backing place old new first offset length overwrite
filled_as view backing place mid old new cluster first offset length overwrite header shows same filled =
    let Fills : HeaderFields → Disk → ℕ → Type 0 = λ h d c. (i : ℕ) → i < cluster_size h → is_announced (cluster_size h) offset length overwrite i ≡ false → known_byte (contents_for view backing place new (c * cluster_size h + i)) ≡ d.value (offset - offset % cluster_size h + i) in
    subst (λ c. Fills old.file.header.fields (disk_of view backing place old) c) same
    (subst (λ d. Fills old.file.header.fields d cluster) shows (subst (λ h. Fills h (disk_of view backing place mid) cluster) header filled))
