-- A prepared mapping is released: its slot is empty, and its new clusters wait to be freed.
use Rattle.std.proofs.Common.{◌≡◌, ◌-◌, ◌≤◌, ◌++◌, inl, inr, ℕ, List, [], refl, sym, ap, ◌∙◌, subst, arith, Option, Some, None}
use Rattle.qcow2_image.proofs.Common.{slice_get, slice_set, cases_lt, fun_ext, BackingView, StorageView, Bytes, HeaderFields, new_data_to_old_data, disk, Pending, CrashInvariant, DriverState, SafeStep, AreNamedBlocks, guest_of, with_slot, pending_safe_throughout, pending_is_changed, CachedTable, l2_pins, SameTables, MetadataCaches, order_of, known_of, CacheInvariant, state_in, view_in, contents_in, known_in, nothing_given, count, Qcow2, Prepared, ClusterMapping, Discards, freed_by, of_data, of_tables, new_data_by, pins_by, pending_in, abstract_of, meaning, backing_bytes, IsReadyWith, ImageInvariant, rests_none, header, cover, file_invariant_of, Mappings, set_slot, disk_of}
use Rattle.qcow2_image.proofs.Call.Answered.{same_guest}
use Rattle.qcow2_image.proofs.Images.ClusterMappings.{IsOfData, freed_data, freed_tables, of_data_at, over_all_at, ready_table}
use Rattle.qcow2_image.proofs.Images.Sound.{free_more}
use Rattle.qcow2_image.proofs.Open.Reftables.{reftable_still}
use Rattle.qcow2_image.proofs.Call.Slots.{others_left, over_all_left, slot_set}
use Rattle.qcow2_image.proofs.Call.Stepped.{Steps, stepped_sound, stepped_works}
use Rattle.qcow2_image.proofs.Images.Places.{from_image}

-- what is kept of the caches is kept while something else is pending that is guarded too
pub sound_while : {S : Type 0} (h : HeaderFields) (p q : Pending) (caches : MetadataCaches S) (on_storage : Bytes) → CrashInvariant h (order_of caches) q on_storage (known_of h caches on_storage) → CacheInvariant h p caches on_storage → CacheInvariant h q caches on_storage
sound_while h p q caches on_storage crash_invariant sound =
    let k = sound.kept.kept in
    record {
      l2_format = sound.l2_format;
      rb_format = sound.rb_format;
      l2_fit = sound.l2_fit;
      rb_fit = sound.rb_fit;
      kept = record { kept = record { crash_invariant = crash_invariant; l2_apart = k.l2_apart; rb_apart = k.rb_apart; l2_stand = k.l2_stand; rb_stand = k.rb_stand }; l2_loaded = sound.kept.l2_loaded; rb_loaded = sound.kept.rb_loaded };
    }

module _ {S F : Type 0} (view : S → StorageView) (backing : F → BackingView) (old : Qcow2 S F) (p : Prepared) (caches : MetadataCaches S) (tables : SameTables old.file.caches caches)
    (pins : (c : ℕ) → l2_pins caches c ≡ l2_pins old.file.caches c - pins_by p c) where
  abbrev pub left : Qcow2 S F
  left = record old { file = record old.file { free_list = old.file.free_list ++ freed_by p.clusters.items; caches = caches } }

  abbrev h : HeaderFields
  h = old.file.header.fields

  same_known : known_in view left.file ≡ known_in view old.file
  same_known = tables.known h (contents_in view old.file)

  module _ (out : Mappings) (k : ℕ) (at : slice_get out.slots k ≡ Some (Some p)) where
    abbrev after : Pending
    after = new_data_to_old_data (pending_in view backing old out) (new_data_by p)

    module _ (sound : ImageInvariant view backing (pending_in view backing old out) old out) where
      abbrev before : DriverState
      before = state_in view old.file (pending_in view backing old out)

      -- it holds each cluster at most once
      new_data_few : (c : ℕ) → new_data_by p c ≤ 1
      new_data_few c = elim (cases_lt 0 (new_data_by p c)) [
        | inr none ↦ omega arith
        | inl some ↦
            let all = over_all_at new_data_by out k p at c in
            let each_cluster = sound.file.caches.kept.kept.crash_invariant.each_cluster c in
            let tally = each_cluster.tally in
            let few = each_cluster.pending (omega arith) in
            omega arith
      ]

      same_stand : state_in view left.file after ≡ record before { pending = after }
      same_stand = ap (λ d. record before { pending = after; direction = d; known = known_in view left.file }) tables.order ∙ ap (λ b. record before { pending = after; known = b }) same_known

      release_prepared_safe_step : SafeStep before (state_in view left.file after) nothing_given []
      release_prepared_safe_step = subst (λ s. SafeStep before s nothing_given []) (sym same_stand)
          (pending_is_changed.old_data before (new_data_by p) sound.file.caches.kept.kept.crash_invariant new_data_few (λ c some. let all = over_all_at new_data_by out k p at c in omega arith))

      as_data : (i : ℕ) (cluster_mapping : ClusterMapping) → slice_get p.clusters.items i ≡ Some cluster_mapping → IsOfData cluster_mapping
      as_data i cluster_mapping is =
          let pending = ready_table view backing old out.place (known_in view old.file) (contents_in view old.file) p i cluster_mapping is (sound.ready k p at).mapped in
          of_data_at h out.place (known_in view old.file) (contents_in view old.file) p i cluster_mapping (pending.2.each i cluster_mapping is)

      release_prepared_sound : ImageInvariant view backing after left (set_slot out k None)
      release_prepared_sound = record {
        works = sound.works;
        file = file_invariant_of
            sound.file.honest
            (sound_while h (pending_in view backing old out) after caches (contents_in view old.file) release_prepared_safe_step.sound (tables.sound h (pending_in view backing old out) (contents_in view old.file) sound.file.caches))
            (subst (λ (ts : List CachedTable). AreNamedBlocks h ts (contents_in view old.file)) (sym tables.refblocks) sound.file.named_blocks)
            (tables.room sound.file.room);
        l1_table = record { cluster = sound.l1_table.cluster; bits = sound.l1_table.bits; count = sound.l1_table.count; entries = sound.l1_table.entries };
        reftable = reftable_still view old.file left.file refl refl (λ k. ap (λ (b : Bytes). count h b k) (sym same_known)) old.allocator sound.reftable;
        stands = sound.stands;
        below = sound.below;
        ready = λ j q there. let r = sound.ready j q (others_left out k j q there) in record { own = r.own; mapped = subst (λ (b : Bytes). IsReadyWith h out.place b (contents_in view old.file) q q.table) (sym same_known) r.mapped };
        pinned = λ table. let all = over_all_left pins_by out k p at table in let was = sound.pinned table in let now = pins table in omega arith;
        once = λ table. let all = over_all_left pins_by out k p at table in let was = sound.once table in omega arith;
      }

      release_prepared_steps : Steps view backing old left out (set_slot out k None) nothing_given after
      release_prepared_steps = record {
        sound = release_prepared_sound;
        only = record {
          new_data = λ c. let all = over_all_left new_data_by out k p at c in omega arith;
          new_tables = λ c. refl;
          old_tables = λ c. let more = free_more of_tables old.file.free_list (freed_by p.clusters.items) c in let none = freed_tables p.clusters.items as_data c in omega arith;
          old_data = λ c. let more = free_more of_data old.file.free_list (freed_by p.clusters.items) c in let one = freed_data p.clusters.items c in omega arith;
        };
        safe_step = release_prepared_safe_step;
        since = pending_safe_throughout (view_in view old.file) before (state_in view left.file after) refl release_prepared_safe_step;
        header = refl;
        below = refl;
        surplus = refl;
        leaks = refl;
        beside = λ g untouched. ap (λ (b : Bytes). cover (header b) b g) (sym same_known);
      }

    slots_left : ImageInvariant view backing (pending_in view backing old out) old out → guest_of (abstract_of view backing left (set_slot out k None)) ≡ with_slot (guest_of (abstract_of view backing old out)) k None
    slots_left sound = same_guest _ _ (from_image (λ place. disk_of view backing place left ≡ disk_of view backing place old) sound (ap (λ b. disk b (backing_bytes view backing old.backing)) same_known)) (fun_ext (λ j. slot_set (meaning view backing out.place old) out.slots k None (Some p) at j))

  pub discards : Discards view backing old left p
  discards out k at = record {
    acts = record {
      number = refl;
      works = λ sound. stepped_works view backing old left out (set_slot out k None) nothing_given (after out k at) (release_prepared_steps out k at sound);
      rests = λ failed. rests_none (abstract_of view backing old out) (abstract_of view backing left (set_slot out k None)) refl refl failed refl;
    };
    answer = λ sound. (stepped_sound view backing old left out (set_slot out k None) nothing_given (after out k at) (release_prepared_steps out k at sound), slots_left out k at sound);
  }
