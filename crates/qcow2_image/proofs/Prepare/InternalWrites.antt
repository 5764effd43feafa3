-- Parts of a call that guests don't see: what is pending may change, and clusters may be written that no mapping has.
use Rattle.std.proofs.Common.{◌≡◌, ◌≢◌, ◌⊎◌, ◌+◌, ◌-◌, ◌/◌, ◌%◌, ◌<◌, ◌≤◌, ◌++◌, ◌*◌, ⊎_elim, inl, inr, ℕ, List, length, [], refl, sym, ap, ◌∙◌, subst, arith, Bool, Option, Some, Result, Ok, Err, IfOk}
use Rattle.qcow2_image.proofs.Common.{slice_get, cases_lt, mod_below, pow_pos, append_assoc, append-nil, fun_ext, BackingView, overwritten, StorageView, EachMomentSince, IsLeftBy, byte_at-overwritten, byte_at, Bytes, HeaderFields, cluster_size, named_for_tables, disk, over_guests, names, Pending, WritesAt, IsUnnamed, covers_format, format_then, size_format, safe_step_none, safe_step_then, safe_throughout_none, steps_safe_throughout, kept_aligned, tied, in_one, private_written, ImageError, ImageStorage, storage_of, order_of, state_in, view_in, contents_in, known_in, nothing_given, Qcow2, Prepared, IsWriteOutcome, WritesBytes, AreThere, InternalStep, InternalFillingStep, HoldsAll, IsInHeldCluster, SameHeld, cover, L2Mapping, Data, IsAlike, IsAlikeRun, unseen_disk, new_data_by, place_of, backing_bytes, disk_of, ImageInvariant, Mappings, contents_for}
use Rattle.qcow2_laws.proofs.Shown.{Writes}
use Rattle.qcow2_laws.proofs.Writes.{new_data_is_unnamed}
use Rattle.qcow2_alloc.specs.declared.error.ImageError.TheVariants as I
use Rattle.qcow2_image.proofs.Images.ClusterMappings.{Standing, in_new, in_kept, kept_used, over_all_at, private_stands}
use Rattle.qcow2_image.proofs.Call.Answered.{same_guest, same_slot, freeing_step_kept, still_seen}
use Rattle.qcow2_image.proofs.Call.Called.{copied_then}
use Rattle.qcow2_image.proofs.Map.Loading.{still_moved}
use Rattle.qcow2_image.proofs.Write.Written.{written, writes, sound_written, since_written, same_l1_written}
use Rattle.qcow2_image.proofs.Images.Places.{inside_of, from_image}

-- a write to the storage is there or isn't
pub written_or_not : (r : Result (Unit {0}) ImageError) (old changed new : List ℕ) → IsWriteOutcome r old changed new → (new ≡ old) ⊎ (new ≡ changed)
written_or_not (Ok done) old changed new is = inr is
written_or_not (Err I.Storage) old changed new is = is
written_or_not (Err e) old changed new is = inl is

module _ {S F : Type 0} (view : S → StorageView) (backing : F → BackingView) (out : Mappings) where
  pub image_step_kept : (a b : Qcow2 S F) (p p' : Pending) → ImageInvariant view backing p a out → HoldsAll view backing p out → HoldsAll view backing p' out → InternalStep view backing p p' a b out → InternalFillingStep view backing p p' a b out
  image_step_kept a b p p' sound holds still keeps = record {
    sound = keeps.sound;
    safe_step = keeps.safe_step;
    since = keeps.since;
    header = keeps.unseen.header;
    covers = keeps.unseen.covers;
    copied = keeps.copied;
    below = keeps.below;
    list = keeps.list;
    seen = still_seen view backing a b out p p' sound holds still (freeing_step_kept view backing a b out p p' keeps);
    leaks = keeps.leaks;
  }

  pub image_step_none : (a : Qcow2 S F) (p : Pending) → ImageInvariant view backing p a out → InternalFillingStep view backing p p a a out
  image_step_none a p sound = record {
    sound = sound;
    safe_step = safe_step_none (state_in view a.file p) sound.file.caches.kept.kept.crash_invariant;
    since = safe_throughout_none (view_in view a.file) (known_in view a.file);
    header = refl;
    covers = λ g. refl;
    copied = λ i copied. refl;
    below = refl;
    list = record { more = []; is = sym (append-nil a.file.free_list) };
    seen = refl;
    leaks = refl;
  }

  pub image_step_then : (a b c : Qcow2 S F) (p q r : Pending) → InternalFillingStep view backing p q a b out → InternalFillingStep view backing q r b c out → InternalFillingStep view backing p r a c out
  image_step_then a b c p q r first then = record {
    sound = then.sound;
    safe_step = safe_step_then (state_in view a.file p) (state_in view b.file q) (state_in view c.file r) nothing_given nothing_given [] [] first.safe_step then.safe_step;
    since = steps_safe_throughout (view_in view a.file) (view_in view b.file) (view_in view c.file) (state_in view a.file p) (state_in view b.file q) nothing_given nothing_given [] [] refl first.since first.safe_step then.since;
    header = format_then a.file.header.fields b.file.header.fields c.file.header.fields first.header then.header;
    covers = λ g. first.covers g ∙ covers_format a.file.header.fields b.file.header.fields first.header (known_in view b.file) (known_in view c.file) then.covers g;
    copied = copied_then view backing out a b c p q r first.header first.copied then.copied;
    below = then.below ∙ first.below;
    list = record { more = first.list.more ++ then.list.more; is = then.list.is ∙ ap (λ l. l ++ then.list.more) first.list.is ∙ append_assoc a.file.free_list first.list.more then.list.more };
    seen = then.seen ∙ first.seen;
    leaks = then.leaks ∙ first.leaks;
  }

  -- clusters that are held have the same bytes where no guest sees a change
  pub same_new_data : (a b : Qcow2 S F) (p : Pending) → ImageInvariant view backing p a out → InternalStep view backing p p a b out → SameHeld view backing p a b
  same_new_data a b p sound keeps o some =
      let before : contents_in view a.file o ≡ known_in view a.file o = sound.file.caches.kept.kept.crash_invariant.not_overlaid o (omega (arith, some)) in
      let here : 0 < p.new_data (o / cluster_size b.file.header.fields) = subst (λ n. 0 < p.new_data (o / n)) (sym (size_format a.file.header.fields b.file.header.fields keeps.unseen.header)) some in
      let after : contents_in view b.file o ≡ known_in view b.file o = keeps.sound.file.caches.kept.kept.crash_invariant.not_overlaid o (omega (arith, here)) in
      after ∙ keeps.unseen.bytes o (omega (arith, some)) ∙ sym before

  -- bytes are written to a cluster that is held, and that no mapping has yet
  module _ (old : Qcow2 S F) (p : Pending) (sound : ImageInvariant view backing p old out) (cluster at : ℕ) (bytes : List ℕ) (own : IsInHeldCluster view backing p old out cluster at (length bytes))
      (storage : ImageStorage S) (honest : (view (storage_of storage)).is_honest) (time : EachMomentSince (view_in view old.file) (view (storage_of storage)) (IsLeftBy (view (storage_of storage))))
      (is : (view (storage_of storage)).contents ≡ overwritten (view_in view old.file).contents at bytes) where
    abbrev h : HeaderFields
    h = old.file.header.fields

    abbrev new : Qcow2 S F
    new = written view backing old out sound storage at bytes is

    unnamed : IsUnnamed h (contents_in view old.file) (known_in view old.file) cluster
    unnamed = new_data_is_unnamed h (order_of old.file.caches) p (contents_in view old.file) (known_in view old.file) sound.file.caches.kept.kept.crash_invariant cluster own.new_data

    no_table : (i : ℕ) → i < length bytes → named_for_tables h (contents_in view old.file) ((at + i) / cluster_size h) ≡ 0
    no_table i lt = ap (named_for_tables h (contents_in view old.file)) (own.inside i lt) ∙ unnamed.no_table

    outside : (o : ℕ) → o / cluster_size h ≢ cluster → (o < at) ⊎ (at + length bytes ≤ o)
    outside o other = elim (cases_lt o at) [
      | inl below ↦ inl below
      | inr above ↦ elim (cases_lt o (at + length bytes)) [
        | inr past ↦ inr past
        | inl lt ↦ absurd (let e : at + (o - at) ≡ o = omega arith in other (ap (λ i. i / cluster_size h) (sym e) ∙ own.inside (o - at) (omega arith)))
      ]
    ]

    alone : WritesAt at (length bytes) (contents_in view old.file) (known_in view old.file) (contents_in view new.file) (known_in view new.file)
    alone = writes view backing old out sound storage at bytes is no_table

    apart : Writes cluster (state_in view old.file p) (state_in view new.file p) (λ _. []) (λ below. disk (known_in view old.file) below)
    apart = private_written (state_in view old.file p) (contents_in view new.file) (known_in view new.file) sound.file.caches.kept.kept.crash_invariant (inside_of sound) cluster own.new_data
        (λ o other. alone.others o (outside o other)) (λ o other. alone.known_others o (outside o other)) alone.agree

    -- no private byte of a mapping lies there
    elsewhere : (j : ℕ) (q : Prepared) → slice_get out.slots j ≡ Some (Some q) → (o : ℕ) → Standing h (known_in view old.file) q o → place_of h q o / cluster_size h ≢ cluster
    elsewhere j q at_j o (in_new new_data) here =
        let none = own.unused in
        let all = over_all_at new_data_by out j q at_j cluster in
        let mine : 0 < new_data_by q cluster = subst (λ c. 0 < new_data_by q c) here new_data in
        absurd (omega arith)
    elsewhere j q at_j o (in_kept host kept place) here =
        let state = state_in view old.file p in
        let crash_invariant = sound.file.caches.kept.kept.crash_invariant in
        let aligned = kept_aligned state crash_invariant (inside_of sound) (o / cluster_size h) host kept in
        let there : host / cluster_size h ≡ cluster = sym (ap (λ n. n / cluster_size h) place ∙ in_one (cluster_size h) host (o % cluster_size h) aligned (mod_below o (cluster_size h) (pow_pos h.cluster_bits))) ∙ here in
        let used : 0 < over_guests h (names h (known_in view old.file) cluster) = subst (λ c. 0 < over_guests h (names h (known_in view old.file) c)) there (kept_used state crash_invariant (inside_of sound) (o / cluster_size h) host kept) in
        let t = (tied h p (contents_in view old.file) (known_in view old.file) cluster).known in
        let none = unnamed.no_entry in
        absurd (omega arith)

    image_step_written : InternalFillingStep view backing p p old new out
    image_step_written = record {
      sound = sound_written view backing old out sound storage at bytes is no_table (λ _. []) honest time apart.safe_step apart.unseen.covers;
      safe_step = apart.safe_step;
      since = since_written view backing old out sound storage at bytes is no_table (λ _. []) honest time apart.safe_step apart.unseen.covers;
      header = refl;
      covers = apart.unseen.covers;
      copied = λ i copied. same_l1_written view backing old out sound storage at bytes is no_table (λ _. []) honest time apart.safe_step apart.unseen.covers i;
      below = refl;
      list = record { more = []; is = sym (append-nil old.file.free_list) };
      seen = same_guest _ _ (from_image (λ place. disk_of view backing place new ≡ disk_of view backing place old) sound (apart.shows (backing_bytes view backing old.backing)))
          (fun_ext (λ k. same_slot view backing old new out refl
          (λ j q at_j o private. from_image (λ place. contents_for view backing place new (place_of h q o) ≡ contents_for view backing place old (place_of h q o)) sound
          (sym (alone.others (place_of h q o) (outside (place_of h q o) (elsewhere j q at_j o (private_stands view backing old out p sound j q at_j o private)))))) k (slice_get out.slots k) refl));
      leaks = refl;
    }

  -- whether the write is there or isn't
  module _ (old new : Qcow2 S F) (p : Pending) (sound : ImageInvariant view backing p old out) (cluster at : ℕ) (bytes : List ℕ) (own : IsInHeldCluster view backing p old out cluster at (length bytes)) (holds : HoldsAll view backing p out)
      (r : Result (Unit {0}) ImageError) (w : WritesBytes view old new at bytes r) where
    still : (view_in view new.file).contents ≡ (view_in view old.file).contents → InternalFillingStep view backing p p old (record old { file = record old.file { storage = new.file.storage } }) out
    still same = image_step_kept old (record old { file = record old.file { storage = new.file.storage } }) p p sound holds holds (still_moved view backing old out p sound new.file.storage (w.honest sound.file.honest) (w.time sound.file.honest) same)

    pub image_step_data : InternalFillingStep view backing p p old new out
    image_step_data = subst (λ (image : Qcow2 S F). InternalFillingStep view backing p p old image out) (sym w.rest)
        (⊎_elim still (λ (is : (view_in view new.file).contents ≡ overwritten (view_in view old.file).contents at bytes). image_step_written old p sound cluster at bytes own new.file.storage (w.honest sound.file.honest) (w.time sound.file.honest) is) (written_or_not r (view_in view old.file).contents (overwritten (view_in view old.file).contents at bytes) (view_in view new.file).contents (w.written sound.file.honest)))

-- a range of the same length in an image of the same file
pub own_of : {S F : Type 0} (view : S → StorageView) (backing : F → BackingView) (p : Pending) (old new : Qcow2 S F) (out : Mappings) (cluster at n m : ℕ) → m ≡ n → new.file.header ≡ old.file.header
    → IsInHeldCluster view backing p old out cluster at n → IsInHeldCluster view backing p new out cluster at m
own_of view backing p old new out cluster at n m same file own = record {
  new_data = own.new_data;
  unused = own.unused;
  inside = λ i lt. ap (λ x. (at + i) / cluster_size x.fields) file ∙ own.inside i (omega (arith, same));
}

-- what was written is there
pub there_written : {S F : Type 0} (view : S → StorageView) (old new : Qcow2 S F) (at : ℕ) (bytes : List ℕ) (r : Result (Unit {0}) ImageError) → WritesBytes view old new at bytes r → (view_in view old.file).is_honest
    → IfOk r (λ done. AreThere view new.file at (length bytes) (byte_at bytes))
there_written view old new at bytes (Ok done) w honest = λ i lt. ap (λ c. byte_at c (at + i)) (w.written honest) ∙ byte_at-overwritten (view_in view old.file).contents at bytes i lt
there_written view old new at bytes (Err e) w honest = tt

-- where no guest sees a change the disk is the same
pub disk_kept : {S F : Type 0} (view : S → StorageView) (backing : F → BackingView) (old new : Qcow2 S F) (out : Mappings) (p : Pending) → ImageInvariant view backing p old out → InternalStep view backing p p old new out → disk_of view backing out.place new ≡ disk_of view backing out.place old
disk_kept view backing old new out p sound keeps = from_image (λ place. disk_of view backing place new ≡ disk_of view backing place old) sound (
    unseen_disk (state_in view old.file p) (state_in view new.file p) sound.file.caches.kept.kept.crash_invariant (inside_of sound) keeps.sound.file.caches.kept.kept.crash_invariant keeps.unseen (backing_bytes view backing new.backing)
    ∙ ap (λ (b : Bool × Bytes). disk (known_in view old.file) b.1) keeps.below)

-- a range within one guest cluster is mapped alike
pub alike_within : (h : HeaderFields) (b : Bytes) (offset n : ℕ) → ((i : ℕ) → i < n → (offset + i) / cluster_size h ≡ offset / cluster_size h) → IsAlikeRun h b offset n
alike_within h b offset n within i lt =
    let here = within i lt in
    subst (λ g. IsAlike ((g - offset / cluster_size h) * cluster_size h) (cover h b (offset / cluster_size h)) (cover h b g)) (sym here) (alike_self (offset / cluster_size h - offset / cluster_size h) (cluster_size h) (omega arith) (cover h b (offset / cluster_size h))) where
      alike_self : (d size : ℕ) → d ≡ 0 → (v : L2Mapping) → IsAlike (d * size) v v
      alike_self d size none (Data host copied) = (let e : d * size ≡ 0 = ap (λ n. n * size) none ∙ omega arith in omega arith, refl)
      alike_self d size none v = tt
