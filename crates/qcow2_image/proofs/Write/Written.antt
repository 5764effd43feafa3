-- Bytes are written where no table lies: in place over data, or to the private cluster of a prepared mapping.
use Rattle.std.proofs.Common.{◌≡◌, ◌⊎◌, ◌+◌, ◌-◌, ◌/◌, ◌<◌, inl, inr, ℕ, List, length, [], refl, sym, ap, ◌∙◌, subst, arith, Option}
use Rattle.qcow2_image.proofs.Common.{IfSome, cases_lt, BackingView, overwritten, StorageView, EachMomentSince, IsLeftBy, byte_at-overwritten, Bytes, byte_at, HeaderFields, cluster_size, named_for_tables, Pending, SameIn, SameCovers, SafeStep, SafeThroughout, GivenBytes, l1_entry, IsSameBut, WritesAt, overwritten_but, unnamed_free_l2, unnamed_free_rb, data_safe_throughout, Allocator, ImageStorage, storage_of, order_of, l2_tables, refblocks, state_in, view_in, contents_in, known_in, IsAllocatorOf, allocator_kept, file_invariant_of, Qcow2, Prepared, cluster_of, pending_in, ImageInvariant, backing_bytes, Mappings}
use Rattle.qcow2_laws.proofs.KeptSteps.{known_beside, still_agree}
use Rattle.qcow2_alloc.proofs.KeptTables.Beside.{top_beside, named_blocks_beside_write, sound_beside}
use Rattle.qcow2_alloc.proofs.CountsStay.{counts_follow, fixed_more}
use Rattle.qcow2_image.proofs.Images.Ready.{still_ready}
use Rattle.qcow2_image.proofs.Call.Stepped.{Steps}
use Rattle.qcow2_image.proofs.Images.UngivenCovers.{all_stay}

module _ {S F : Type 0} {p : Pending} (view : S → StorageView) (backing : F → BackingView) (old : Qcow2 S F) (out : Mappings) (sound : ImageInvariant view backing p old out)
    (storage : ImageStorage S) (host : ℕ) (bytes : List ℕ) (is : (view (storage_of storage)).contents ≡ overwritten (view_in view old.file).contents host bytes) where
  abbrev pub written : Qcow2 S F
  written = record old { file = record old.file { storage = storage } }

  abbrev h : HeaderFields
  h = old.file.header.fields

  pub but : IsSameBut host (length bytes) (contents_in view old.file) (contents_in view written.file)
  but = subst (λ c. IsSameBut host (length bytes) (contents_in view old.file) (byte_at c)) (sym is) (overwritten_but (view_in view old.file).contents host bytes)

  pub there : (i : ℕ) → i < length bytes → contents_in view written.file (host + i) ≡ byte_at bytes i
  there i lt = ap (λ c. byte_at c (host + i)) is ∙ byte_at-overwritten (view_in view old.file).contents host bytes i lt

  -- no table lies where a byte is written
  module _ (free : (i : ℕ) → i < length bytes → named_for_tables h (contents_in view old.file) ((host + i) / cluster_size h) ≡ 0) where
    free_at : (o : ℕ) → (contents_in view old.file o ≡ contents_in view written.file o) ⊎ (named_for_tables h (contents_in view old.file) (o / cluster_size h) ≡ 0)
    free_at o = elim (cases_lt o host) [
      | inl below ↦ inl (but o (inl below))
      | inr above ↦ elim (cases_lt o (host + length bytes)) [
        | inr past ↦ inl (but o (inr past))
        | inl inside ↦
            let e : host + (o - host) ≡ o = omega arith in
            inr (ap (λ k. named_for_tables h (contents_in view old.file) (k / cluster_size h)) (sym e) ∙ free (o - host) (omega arith))
      ]
    ]

    tables_stay : (c : ℕ) → SameIn (cluster_size h) c (contents_in view old.file) (contents_in view written.file) ⊎ (named_for_tables h (contents_in view old.file) c ≡ 0)
    tables_stay c = elim (cases_lt 0 (named_for_tables h (contents_in view old.file) c)) [
      | inr none ↦ inr (omega arith)
      | inl some ↦ inl (λ o in_c. elim (free_at o) [
        | inl same ↦ same
        | inr none ↦ absurd (let here = ap (named_for_tables h (contents_in view old.file)) in_c in omega arith)
      ])
    ]

    pub writes : WritesAt host (length bytes) (contents_in view old.file) (known_in view old.file) (contents_in view written.file) (known_in view written.file)
    writes = record {
      others = but;
      known_others = λ o outside. known_beside (cluster_size h) (l2_tables old.file.caches) (refblocks old.file.caches) (contents_in view old.file) (contents_in view written.file) o (but o outside);
      agree = still_agree (cluster_size h) (l2_tables old.file.caches) (refblocks old.file.caches) (contents_in view old.file) (contents_in view written.file) (λ o. elim (free_at o) [
        | inl same ↦ inl same
        | inr none ↦ inr (
          unnamed_free_l2 h (order_of old.file.caches) p (l2_tables old.file.caches) (refblocks old.file.caches) (contents_in view old.file) sound.file.caches.kept.kept (o / cluster_size h) none o refl,
          unnamed_free_rb h (order_of old.file.caches) p (l2_tables old.file.caches) (refblocks old.file.caches) (contents_in view old.file) sound.file.caches.kept.kept sound.file.named_blocks
              (o / cluster_size h) none o refl,
        )
      ]);
    }

    -- a step that keeps the mapping of each guest cluster
    module _ (given : Bytes → List GivenBytes) (honest : (view (storage_of storage)).is_honest) (time : EachMomentSince (view_in view old.file) (view (storage_of storage)) (IsLeftBy (view (storage_of storage))))
        (safe_step : SafeStep (state_in view old.file p) (state_in view written.file p) given [])
        (covers : SameCovers h (known_in view old.file) (known_in view written.file)) where
      reftable_written : (a : Option Allocator) → IfSome a (IsAllocatorOf view old.file) → IfSome a (IsAllocatorOf view written.file)
      reftable_written =
          let top = top_beside h p p old.file.caches (contents_in view old.file) (contents_in view written.file) sound.file.caches sound.file.named_blocks tables_stay in
          allocator_kept view old.file written.file (λ t has. record { cluster = has.cluster; bits = has.bits; count = has.count; entries = λ k. has.entries k ∙ top.reftable k })
          (λ k.
          let more = counts_follow h (order_of old.file.caches) (order_of old.file.caches) p p (contents_in view old.file) (contents_in view written.file) (known_in view old.file) (known_in view written.file) sound.file.caches.kept.kept.crash_invariant safe_step.sound covers
          (fixed_more h (contents_in view old.file) (contents_in view written.file) (λ i some. sym (top.reftable i)) (λ i. sym (top.l1 i))) k refl in
          omega arith)

      pub sound_written : ImageInvariant view backing p written out
      sound_written =
          let top = top_beside h p p old.file.caches (contents_in view old.file) (contents_in view written.file) sound.file.caches sound.file.named_blocks tables_stay in
          record {
            works = sound.works;
            file = file_invariant_of
                honest
                (sound_beside h p p old.file.caches (contents_in view old.file) (contents_in view written.file) sound.file.caches sound.file.named_blocks tables_stay safe_step.sound)
                (named_blocks_beside_write h p p old.file.caches (contents_in view old.file) (contents_in view written.file) sound.file.caches sound.file.named_blocks tables_stay)
                sound.file.room;
            l1_table = record { cluster = sound.l1_table.cluster; bits = sound.l1_table.bits; count = sound.l1_table.count; entries = λ i. sound.l1_table.entries i ∙ top.l1 i };
            reftable = reftable_written old.allocator sound.reftable;
            stands = sound.stands;
            below = sound.below;
            ready = λ k q at. let r = sound.ready k q at in record {
              own = r.own;
              mapped = still_ready h out.place (known_in view old.file) (contents_in view old.file) (known_in view written.file) (contents_in view written.file) q
                  sound.file.caches.kept.kept.crash_invariant.same_top.l1 safe_step.sound.same_top.l1 (λ i copied. sym (top.l1 i)) (λ i. covers (cluster_of h q + i)) q.table r.mapped;
            };
            pinned = sound.pinned;
            once = sound.once;
          }

      pub since_written : SafeThroughout (view_in view old.file) (view_in view written.file) (known_in view old.file) given []
      since_written = data_safe_throughout (view_in view old.file) (view_in view written.file) (state_in view old.file p) (state_in view written.file p) host bytes given time is refl refl safe_step

      pub same_l1_written : (i : ℕ) → l1_entry h (contents_in view written.file) i ≡ l1_entry h (contents_in view old.file) i
      same_l1_written i = sym ((top_beside h p p old.file.caches (contents_in view old.file) (contents_in view written.file) sound.file.caches sound.file.named_blocks tables_stay).l1 i)

-- so where nothing but what mappings hold and what is to be freed is pending
pub steps_written : {S F : Type 0} (view : S → StorageView) (backing : F → BackingView) (old : Qcow2 S F) (out : Mappings) (sound : ImageInvariant view backing (pending_in view backing old out) old out)
    (storage : ImageStorage S) (host : ℕ) (bytes : List ℕ) (is : (view (storage_of storage)).contents ≡ overwritten (view_in view old.file).contents host bytes)
    (free : (i : ℕ) → i < length bytes → named_for_tables old.file.header.fields (contents_in view old.file) ((host + i) / cluster_size old.file.header.fields) ≡ 0)
    (given : Bytes → List GivenBytes) (honest : (view (storage_of storage)).is_honest) (time : EachMomentSince (view_in view old.file) (view (storage_of storage)) (IsLeftBy (view (storage_of storage))))
    (safe_step : SafeStep (state_in view old.file (pending_in view backing old out)) (state_in view (written view backing old out sound storage host bytes is).file (pending_in view backing old out)) given [])
    (covers : SameCovers old.file.header.fields (known_in view old.file) (known_in view (written view backing old out sound storage host bytes is).file))
    → Steps view backing old (written view backing old out sound storage host bytes is) out out given (pending_in view backing old out)
steps_written view backing old out sound storage host bytes is free given honest time safe_step covers = record {
  sound = sound_written view backing old out sound storage host bytes is free given honest time safe_step covers;
  only = record { new_data = λ k. refl; new_tables = λ k. refl; old_tables = λ k. refl; old_data = λ k. refl };
  safe_step = safe_step;
  since = since_written view backing old out sound storage host bytes is free given honest time safe_step covers;
  header = refl;
  below = refl;
  surplus = refl;
  leaks = refl;
  beside = all_stay view old.file (written view backing old out sound storage host bytes is).file (pending_in view backing old out) (pending_in view backing old out) sound.file.caches.kept.kept.crash_invariant safe_step.sound (given (backing_bytes view backing old.backing)) covers;
}
