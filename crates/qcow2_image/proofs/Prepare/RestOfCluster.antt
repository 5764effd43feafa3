-- A mapping of the rest of a cluster is prepared: its table is pinned, and the mapping is put into an empty slot.
use Rattle.std.proofs.Common.{◌≡◌, ◌+◌, ◌-◌, ◌*◌, ◌/◌, ◌%◌, ◌<◌, ◌≤◌, ◌∷◌, ◌&&◌, ◌==◌, ⊎_elim, inl, inr, ℕ, zero, suc, Bool, true, false, List, length, [], Option, Some, None, refl, sym, ap, ◌∙◌, subst, arith, cond, IsTrue, min}
use Rattle.qcow2_image.proofs.Common.{slice_get, slice_set, fun_ext, cases_eq, cond-false, ne_eqb, div-add-mod', div-mul-add, mod_below, pow_pos, BackingView, StorageView, Bytes, is_within, HeaderFields, cluster_size, rounded_up, CachedTable, AreNamedBlocks, with_slot, disk, Pending, SameCovers, SafeStep, StateInvariant, IsPrepared, Guest, guest_of, l2_pins, SameTables, MetadataCaches, state_in, contents_in, known_in, nothing_given, count, file_invariant_of, Qcow2, Prepared, ClusterMapping, number_of, IsReadied, InternalFillingStep, HoldsTable, to_free, of_data, of_tables, new_data_by, pins_by, pins_of, over_all, pending_in, abstract_of, meaning, is_private, backing_bytes, IsClusterMappingAt, IsPending, IsReadyWith, ImageInvariant, Mappings, set_slot, disk_of}
use Rattle.qcow2_image.proofs.Call.Answered.{same_guest}
use Rattle.qcow2_image.proofs.Images.Moved.{format_file_step, format_stay}
use Rattle.qcow2_image.proofs.Images.ClusterMappings.{private_shared}
use Rattle.qcow2_image.proofs.Open.Reftables.{reftable_still}
use Rattle.qcow2_image.proofs.Call.Slots.{get_set, over_all_put, slot_set}
use Rattle.qcow2_image.proofs.Call.Stepped.{Steps, stepped_sound, stepped_works}
use Rattle.qcow2_image.proofs.Images.UngivenCovers.{all_stay}
use Rattle.qcow2_image.proofs.Images.Places.{from_image}

-- the mapping of the rest of a guest cluster at a place, with the cluster mappings of another one
abbrev pub mapping_at : HeaderFields → ℕ → ℕ → ℕ → ℕ → Prepared → Prepared
mapping_at h number table offset host like = record like {
  image = number;
  guest = offset;
  offset = host + offset % cluster_size h;
  length = cluster_size h - offset % cluster_size h;
  table = Some table;
}

-- a single cluster mapping has no other after it
pub one_mapping : (cluster_mapping other : ClusterMapping) (i : ℕ) → slice_get (cluster_mapping ∷ []) i ≡ Some other → (i ≡ 0) × (other ≡ cluster_mapping)
one_mapping cluster_mapping other zero at = (refl, cc)
one_mapping cluster_mapping other (suc i) at = absurd cc

-- a range within one cluster rounds to that cluster
pub rounds_up : (size guest length : ℕ) → 0 < size → 0 < length → guest % size + length ≤ size → rounded_up size (guest + length) ≡ guest / size * size + size
rounds_up size guest length some any within =
    let g_is : guest / size * size + guest % size ≡ guest = div-add-mod' guest size in
    let q : (guest / size + 1) * size ≡ guest / size * size + size = omega arith in
    let e : guest + length + size - 1 ≡ (guest / size + 1) * size + (guest % size + length - 1) = omega arith in
    ap (λ o. o / size * size) e ∙ ap (λ n. n * size) (div-mul-add (guest / size + 1) size (guest % size + length - 1) (omega arith)) ∙ q

-- what is pending once it is out
pub record IsNowPending {S F : Type 0} (old : Qcow2 S F) (out : Mappings) (p : Prepared) (q : Pending) (more : ℕ → ℕ) : Type 0 where
  pub new_data : (c : ℕ) → q.new_data c ≡ over_all new_data_by out c + new_data_by p c
  pub new_tables : (c : ℕ) → q.new_tables c ≡ 0
  pub old_tables : (c : ℕ) → q.old_tables c ≡ to_free of_tables old.file.free_list c
  pub old_data : (c : ℕ) → q.old_data c ≡ to_free of_data old.file.free_list c
  pub surplus : q.surplus ≡ more

module _ {S F : Type 0} (view : S → StorageView) (backing : F → BackingView) (old mid : Qcow2 S F) (out : Mappings) (k : ℕ) (free : slice_get out.slots k ≡ Some None) (q : Pending)
    (image_step : InternalFillingStep view backing (pending_in view backing old out) q old mid out) (offset table host : ℕ) (cluster_mapping : ClusterMapping) (like : Prepared) (one : like.clusters.items ≡ cluster_mapping ∷ []) (holds : HoldsTable view backing mid offset table) (unpinned : l2_pins mid.file.caches table ≡ 0)
    (stands : IsClusterMappingAt mid.file.header.fields out.place (known_in view mid.file) (contents_in view mid.file) (mapping_at mid.file.header.fields (number_of mid) table offset host like) 0 cluster_mapping)
    (caches : MetadataCaches S) (tables : SameTables mid.file.caches caches) (pins : (c : ℕ) → l2_pins caches c ≡ l2_pins mid.file.caches c + pins_of (Some table) c)
    (is : IsNowPending mid out (mapping_at mid.file.header.fields (number_of mid) table offset host like) q (pending_in view backing old out).surplus) where
  abbrev h : HeaderFields
  h = mid.file.header.fields

  abbrev p : Prepared
  p = mapping_at h (number_of mid) table offset host like

  abbrev new : Qcow2 S F
  new = record mid { file = record mid.file { caches = caches } }

  abbrev now : Mappings
  now = set_slot out k (Some p)

  same_known : known_in view new.file ≡ known_in view mid.file
  same_known = tables.known h (contents_in view mid.file)

  same_stand : state_in view new.file q ≡ state_in view mid.file q
  same_stand = ap (λ d. record (state_in view mid.file q) { direction = d; known = known_in view new.file }) tables.order ∙ ap (λ b. record (state_in view mid.file q) { known = b }) same_known

  some_left : 0 < cluster_size h - offset % cluster_size h
  some_left = let lt = mod_below offset (cluster_size h) (pow_pos h.cluster_bits) in omega arith

  one_only : length like.clusters.items ≡ 1
  one_only = ap (λ (l : List ClusterMapping). length l) one

  whole : length like.clusters.items * cluster_size h ≡ cluster_size h
  whole = ap (λ n. n * cluster_size h) one_only ∙ omega arith

  own_mapping : (i : ℕ) (other : ClusterMapping) → slice_get like.clusters.items i ≡ Some other → IsClusterMappingAt h out.place (known_in view mid.file) (contents_in view mid.file) p i other
  own_mapping i other at =
      let is_one = one_mapping cluster_mapping other i (ap (λ (l : List ClusterMapping). slice_get l i) (sym one) ∙ at) in
      subst (λ n. IsClusterMappingAt h out.place (known_in view mid.file) (contents_in view mid.file) p n other) (sym is_one.0) (subst (λ (x : ClusterMapping). IsClusterMappingAt h out.place (known_in view mid.file) (contents_in view mid.file) p 0 x) (sym is_one.1) stands)

  own_ready : IsPending h out.place (known_in view mid.file) (contents_in view mid.file) p table
  own_ready = record {
    some = some_left;
    begins = omega arith;
    enough = let lt = mod_below offset (cluster_size h) (pow_pos h.cluster_bits) in let all = whole in omega arith;
    no_more = let some : 0 < cluster_size h = pow_pos h.cluster_bits in let lt = mod_below offset (cluster_size h) some in let all = whole in omega arith;
    within = let few = one_only in let lt = holds.entry.within in omega arith;
    named = holds.entry;
    copied = holds.copied;
    each = own_mapping;
  }

  ready_now : (j : ℕ) (r : Prepared) → slice_get now.slots j ≡ Some (Some r) → IsReadyWith h out.place (known_in view mid.file) (contents_in view mid.file) r r.table × (r.image ≡ number_of mid)
  ready_now j r at = ⊎_elim
      (λ (e : Some r ≡ Some p). let same : r ≡ p = cc in subst (λ (x : Prepared). IsReadyWith h out.place (known_in view mid.file) (contents_in view mid.file) x x.table × (x.image ≡ number_of mid)) (sym same) (own_ready, refl))
      (λ there. let ready = image_step.sound.ready j r there in (ready.mapped, ready.own)) (get_set out.slots k j (Some p) (Some r) at)

  -- its table wasn't pinned
  no_pins : over_all pins_by out table ≡ 0
  no_pins = sym (image_step.sound.pinned table) ∙ unpinned

  pinned_few : (c : ℕ) → pins_of (Some table) c ≤ 1
  pinned_few c = elim (table == c) as (λ (b : Bool). cond b 1 0 ≤ 1) [ true ↦ omega arith | false ↦ omega arith ]

  pinned_once : (c : ℕ) → over_all pins_by now c ≤ 1
  pinned_once c =
      let more = over_all_put pins_by out k p free c in
      let few = pinned_few c in
      let once = image_step.sound.once c in
      elim (cases_eq table c) [
        | inl here ↦ let none : over_all pins_by out c ≡ 0 = ap (over_all pins_by out) (sym here) ∙ no_pins in omega arith
        | inr other ↦ let none : pins_of (Some table) c ≡ 0 = cond-false {A = ℕ} _ 1 0 (ne_eqb table c other) in omega arith
      ]

  sound_now : ImageInvariant view backing q new now
  sound_now = record {
    works = image_step.sound.works;
    file = file_invariant_of
        image_step.sound.file.honest
        (tables.sound h q (contents_in view mid.file) image_step.sound.file.caches)
        (subst (λ (ts : List CachedTable). AreNamedBlocks h ts (contents_in view mid.file)) (sym tables.refblocks) image_step.sound.file.named_blocks)
        (tables.room image_step.sound.file.room);
    l1_table = record { cluster = image_step.sound.l1_table.cluster; bits = image_step.sound.l1_table.bits; count = image_step.sound.l1_table.count; entries = image_step.sound.l1_table.entries };
    reftable = reftable_still view mid.file new.file refl refl (λ k. ap (λ (b : Bytes). count h b k) (sym same_known)) mid.allocator image_step.sound.reftable;
    stands = image_step.sound.stands;
    below = image_step.sound.below;
    ready = λ j r at. let ready = ready_now j r at in record { own = ready.1; mapped = subst (λ (b : Bytes). IsReadyWith h out.place b (contents_in view mid.file) r r.table) (sym same_known) ready.0 };
    pinned = λ c. let more = over_all_put pins_by out k p free c in let was = image_step.sound.pinned c in let n = pins c in omega arith;
    once = pinned_once;
  }

  steps : StateInvariant (state_in view old.file (pending_in view backing old out)) → Steps view backing old new out now nothing_given q
  steps was = record {
    sound = sound_now;
    only = record {
      new_data = λ c. is.new_data c ∙ sym (over_all_put new_data_by out k p free c);
      new_tables = is.new_tables;
      old_tables = is.old_tables;
      old_data = is.old_data;
    };
    safe_step = subst (λ s. SafeStep (state_in view old.file (pending_in view backing old out)) s nothing_given []) (sym same_stand) image_step.safe_step;
    since = image_step.since;
    header = image_step.header;
    below = image_step.below;
    surplus = is.surplus;
    leaks = image_step.leaks;
    beside = all_stay view old.file new.file (pending_in view backing old out) q was sound_now.file.caches.kept.kept.crash_invariant []
        (format_stay old.file.header.fields mid.file.header.fields (known_in view old.file) (known_in view new.file) image_step.header (subst (λ (b : Bytes). SameCovers old.file.header.fields (known_in view old.file) b) (sym same_known) image_step.covers));
  }

  seen_now : guest_of (abstract_of view backing new now) ≡ with_slot (guest_of (abstract_of view backing old out)) k (Some (meaning view backing out.place new p))
  seen_now =
      same_guest _ (with_slot (guest_of (abstract_of view backing mid out)) k (Some (meaning view backing out.place new p))) (from_image (λ place. disk_of view backing place new ≡ disk_of view backing place mid) image_step.sound (ap (λ b. disk b (backing_bytes view backing mid.backing)) same_known)) (fun_ext (λ j. slot_set (meaning view backing out.place mid) out.slots k (Some p) None free j))
      ∙ ap (λ (x : Guest). with_slot x k (Some (meaning view backing out.place new p))) image_step.seen

  pub readied : StateInvariant (state_in view old.file (pending_in view backing old out)) → (n : ℕ) (overwrite : Bool) → IsPrepared (cluster_size old.file.header.fields) (guest_of (abstract_of view backing old out)).disk offset n overwrite (meaning view backing out.place new p) → IsReadied view backing old new out k offset n overwrite p
  readied was n overwrite prepared = record {
    works = stepped_works view backing old new out now nothing_given q (steps was);
    sound = stepped_sound view backing old new out now nothing_given q (steps was);
    header = format_file_step old.file.header.fields mid.file.header.fields image_step.header;
    covers = format_stay old.file.header.fields mid.file.header.fields (known_in view old.file) (known_in view new.file) image_step.header (subst (λ (b : Bytes). SameCovers old.file.header.fields (known_in view old.file) b) (sym same_known) image_step.covers);
    prepared = prepared;
    is = seen_now;
  }

  -- what is private lies in its cluster
  pub private_inside : (o : ℕ) → IsTrue (is_private view backing new p o) → o / cluster_size h ≡ offset / cluster_size h
  private_inside o is_so =
      let shared = private_shared view backing new p o is_so in
      let is_one = one_mapping cluster_mapping shared.cluster_mapping shared.index (ap (λ (l : List ClusterMapping). slice_get l shared.index) (sym one) ∙ shared.is) in
      shared.here ∙ (let e = is_one.0 in omega arith)

  pub prepared_by : (n : ℕ) (overwrite : Bool) → ((o : ℕ) → IsTrue (is_private view backing new p o) → (overwrite && is_within offset (min n (cluster_size h - offset % cluster_size h)) o ≡ false)
      → (meaning view backing out.place new p).shown o ≡ (guest_of (abstract_of view backing old out)).disk.value o) → IsPrepared (cluster_size old.file.header.fields) (guest_of (abstract_of view backing old out)).disk offset n overwrite (meaning view backing out.place new p)
  prepared_by n overwrite olds = subst (λ (x : HeaderFields). IsPrepared (cluster_size x) (guest_of (abstract_of view backing old out)).disk offset n overwrite (meaning view backing out.place new p)) image_step.header (record {
    from = refl;
    some = λ any. some_left;
    most = λ longer. refl;
    inside = λ o private.
        let here = private_inside o private in
        let lt = mod_below offset (cluster_size h) (pow_pos h.cluster_bits) in
        let o_is : o / cluster_size h * cluster_size h + o % cluster_size h ≡ o = div-add-mod' o (cluster_size h) in
        let o_lt = mod_below o (cluster_size h) (pow_pos h.cluster_bits) in
        let same : o / cluster_size h * cluster_size h ≡ offset / cluster_size h * cluster_size h = ap (λ c. c * cluster_size h) here in
        let up : rounded_up (cluster_size h) (offset + (cluster_size h - offset % cluster_size h)) ≡ offset / cluster_size h * cluster_size h + cluster_size h = rounds_up (cluster_size h) offset (cluster_size h - offset % cluster_size h) (pow_pos h.cluster_bits) some_left (omega arith) in
        (omega arith, omega arith);
    old_values = olds;
  })
