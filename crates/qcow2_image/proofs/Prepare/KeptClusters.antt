-- The host cluster that a zero entry keeps is filled with zeros, which guests don't see and no stop shows.
use Rattle.std.proofs.Common.{◌≡◌, ◌≢◌, ◌+◌, ◌-◌, ◌*◌, ◌/◌, ◌%◌, ◌<◌, ◌≤◌, ◌∷◌, ⊎_elim, ℕ, Bool, true, false, List, length, [], Option, Some, None, refl, sym, ap, ◌∙◌, subst, arith, Result, IfOk, IsTrue, replicate}
use Rattle.qcow2_image.proofs.Common.{slice_get, slice_get_within, append-nil, length-replicate, get_or-replicate, div-add-mod', div-mul-add, mod-mul-add, mod_below, pow_pos, fun_ext, BackingView, overwritten, StorageView, EachMomentSince, IsLeftBy, Bytes, byte_at, HeaderFields, cluster_size, entries_per_cluster, cover, known_byte, in_cluster, named_by_cover, named_for_tables, Zero, Pending, IsHostedAt, WritesRun, names, table_at, given_of, DriverState, StateInvariant, SafeStep, WritesAt, in_own, kept_aligned, kept_unlaid, kept_written, kept_zeroed, in_one, beside_tables, ImageError, ImageStorage, storage_of, state_in, view_in, contents_in, known_in, nothing_given, CopyRange, Qcow2, Prepared, ClusterMapping, WritesBytes, HasByte, l1_index_of, backing_bytes, cluster_of, new_data_by, is_private, place_of, mapping_of_cluster, ImageInvariant, HoldsAll, IsFilled, IsKeptAlone, InternalFillingStep, is_announced, IfOk-weaker, Mappings, Image, contents_for, disk_of}
use Rattle.qcow2_laws.specs.GuestLaws.{Kept as HostedKept}
use Rattle.qcow2_laws.proofs.Shown.{shown_zero}
use Rattle.qcow2_image.proofs.Images.Apart.{same_row}
use Rattle.qcow2_image.proofs.Lemmas.{same_guest, same_slot, names_inside, still_moved, image_step_kept, there_written, written_or_not, Standing, in_new, in_kept, over_all_at, private_shared, private_stands, ready_table, mapping_here, mapping_there, written, writes, there, since_written, sound_written, same_l1_written}
use Rattle.qcow2_image.proofs.Images.Places.{inside_of, ready_inside, from_image}

module _ {S F : Type 0} (view : S → StorageView) (backing : F → BackingView) (out : Mappings) (old : Qcow2 S F) (p : Pending) (sound : ImageInvariant view backing p old out) (holds : HoldsAll view backing p out) (offset host : ℕ)
    (is_kept : IsKeptAlone view backing old out offset host) (at : ℕ) (bytes : List ℕ) (fits : at + length bytes ≤ cluster_size old.file.header.fields) (zeros : (i : ℕ) → i < length bytes → byte_at bytes i ≡ 0) where
  abbrev h : HeaderFields
  h = old.file.header.fields

  abbrev size : ℕ
  size = cluster_size h

  abbrev guest : ℕ
  guest = offset / cluster_size h

  abbrev s : DriverState
  s = state_in view old.file p

  crash_invariant : StateInvariant s
  crash_invariant = sound.file.caches.kept.kept.crash_invariant

  byte_is : (i : ℕ) → guest * size + at + i ≡ guest * size + (at + i)
  byte_is i = omega arith

  here : (i : ℕ) → i < length bytes → (guest * size + at + i) / size ≡ guest
  here i lt = ap (λ n. n / size) (byte_is i) ∙ div-mul-add guest size (at + i) (omega (arith, fits, lt))

  hosts : (i : ℕ) → i < length bytes → IsHostedAt s HostedKept (guest * size + at + i) (host + at + i)
  hosts i lt =
      let rest : (guest * size + at + i) % size ≡ at + i = ap (λ n. n % size) (byte_is i) ∙ mod-mul-add guest size (at + i) (omega (arith, fits, lt)) in
      (host, ap (cover h s.known) (here i lt) ∙ is_kept.kept, omega (arith, rest))

  no_table : (i : ℕ) → i < length bytes → named_for_tables h (contents_in view old.file) ((host + at + i) / size) ≡ 0
  no_table i lt = beside_tables s HostedKept (guest * size + at + i) (host + at + i) crash_invariant (inside_of sound) (hosts i lt)

  module _ (storage : ImageStorage S) (honest : (view (storage_of storage)).is_honest) (time : EachMomentSince (view_in view old.file) (view (storage_of storage)) (IsLeftBy (view (storage_of storage))))
      (is : (view (storage_of storage)).contents ≡ overwritten (view_in view old.file).contents (host + at) bytes) where
    abbrev new : Qcow2 S F
    new = written view backing old out sound storage (host + at) bytes is

    beside : WritesAt (host + at) (length bytes) (contents_in view old.file) (known_in view old.file) (contents_in view new.file) (known_in view new.file)
    beside = writes view backing old out sound storage (host + at) bytes is no_table

    run : WritesRun (λ _. HostedKept) (guest * size + at) (host + at) bytes (given_of (guest * size + at) bytes ∷ []) s (state_in view new.file p)
    run = kept_written s (contents_in view new.file) (known_in view new.file) crash_invariant (inside_of sound) guest host at bytes is_kept.kept fits beside (there view backing old out sound storage (host + at) bytes is)

    safe_step : SafeStep s (state_in view new.file p) nothing_given []
    safe_step = kept_zeroed s (contents_in view new.file) (known_in view new.file) crash_invariant (inside_of sound) guest host at bytes is_kept.kept fits beside (there view backing old out sound storage (host + at) bytes is) zeros

    -- no private byte of a mapping lies there
    module _ (j : ℕ) (r : Prepared) (there_is : slice_get out.slots j ≡ Some (Some r)) (o : ℕ) (private : IsTrue (is_private view backing old r o)) where
      abbrev place : ℕ
      place = place_of h r o

      other : o / size ≢ guest
      other same =
          let shared = private_shared view backing old r o private in
          let none : mapping_of_cluster h r (cluster_of h r + shared.index) ≡ None = ap (mapping_of_cluster h r) (sym shared.here ∙ same) ∙ is_kept.alone j r there_is in
          absurd (let e : Some shared.cluster_mapping ≡ None = sym shared.is ∙ sym (mapping_here h r shared.index) ∙ none in cc)

      stays_new_data : 0 < new_data_by r (place / size) → contents_in view new.file place ≡ contents_in view old.file place
      stays_new_data some =
          let all = over_all_at new_data_by out j r there_is (place / size) in
          let new_data = holds (place / size) in
          sym ((run.new_data (place / size) (omega arith) (λ i lt never. absurd never)).0 place refl)

      stays_kept : (first : ℕ) → cover h s.known (o / size) ≡ Zero (Some (first, true)) → place ≡ first + o % size → contents_in view new.file place ≡ contents_in view old.file place
      stays_kept first kept place_is =
          let rest = mod_below o size (pow_pos h.cluster_bits) in
          let cluster : place / size ≡ first / size = ap (λ n. n / size) place_is ∙ in_one size first (o % size) (kept_aligned s crash_invariant (inside_of sound) (o / size) first kept) rest in
          let named : names h s.known (place / size) (o / size) ≡ 1 = names_inside h (inside_of sound) s.known (place / size) (o / size) ∙ ap (named_by_cover h (place / size)) kept ∙ ap (λ c. in_cluster h c first) cluster ∙ in_own h first in
          let known : known_in view new.file place ≡ s.known place = run.others (o / size) (λ i lt same. other (sym same ∙ here i lt)) place (omega (arith, named)) in
          let kept_now : cover h (known_in view new.file) (o / size) ≡ Zero (Some (first, true)) = sym (run.covers (o / size)) ∙ kept in
          ap (contents_in view new.file) place_is ∙ kept_unlaid (state_in view new.file p) safe_step.sound (inside_of sound) (o / size) first kept_now (o % size) rest ∙ ap (known_in view new.file) (sym place_is) ∙ known
          ∙ ap s.known place_is ∙ sym (kept_unlaid s crash_invariant (inside_of sound) (o / size) first kept (o % size) rest) ∙ ap (contents_in view old.file) (sym place_is)

      by_standing : Standing h s.known r o → contents_in view new.file place ≡ contents_in view old.file place
      by_standing (in_new new_data) = stays_new_data new_data
      by_standing (in_kept first kept place_is) = stays_kept first kept place_is

      stays : contents_in view new.file place ≡ contents_in view old.file place
      stays = by_standing (private_stands view backing old out p sound j r there_is o private)

    image_step_written : InternalFillingStep view backing p p old new out
    image_step_written = record {
      sound = sound_written view backing old out sound storage (host + at) bytes is no_table nothing_given honest time safe_step run.covers;
      safe_step = safe_step;
      since = since_written view backing old out sound storage (host + at) bytes is no_table nothing_given honest time safe_step run.covers;
      header = refl;
      covers = run.covers;
      copied = λ i copied. same_l1_written view backing old out sound storage (host + at) bytes is no_table nothing_given honest time safe_step run.covers i;
      below = refl;
      list = record { more = []; is = sym (append-nil old.file.free_list) };
      seen = same_guest _ _ (from_image (λ file. disk_of view backing file new ≡ disk_of view backing file old) sound (run.shows (backing_bytes view backing old.backing)))
          (fun_ext (λ k. same_slot view backing old new out refl (λ j q at_j o private. from_image (λ file. contents_for view backing file new (place_of old.file.header.fields q o) ≡ contents_for view backing file old (place_of old.file.header.fields q o)) sound (stays j q at_j o private)) k (slice_get out.slots k) refl));
      leaks = refl;
    }

  -- whether the write is there or isn't
  pub image_step_zeros : (new : Qcow2 S F) (r : Result (Unit {0}) ImageError) → WritesBytes view old new (host + at) bytes r → InternalFillingStep view backing p p old new out
  image_step_zeros new r w =
      subst (λ (image : Qcow2 S F). InternalFillingStep view backing p p old image out) (sym w.rest)
      (⊎_elim
      (λ (same : (view_in view new.file).contents ≡ (view_in view old.file).contents). image_step_kept view backing out old (record old { file = record old.file { storage = new.file.storage } }) p p sound holds holds
      (still_moved view backing old out p sound new.file.storage (w.honest sound.file.honest) (w.time sound.file.honest) same))
      (λ (is : (view_in view new.file).contents ≡ overwritten (view_in view old.file).contents (host + at) bytes). image_step_written new.file.storage (w.honest sound.file.honest) (w.time sound.file.honest) is)
      (written_or_not r (view_in view old.file).contents (overwritten (view_in view old.file).contents (host + at) bytes) (view_in view new.file).contents (w.written sound.file.honest)))

-- so many zeros fill a part of it
pub image_step_filled : {S F : Type 0} (view : S → StorageView) (backing : F → BackingView) (out : Mappings) (old new : Qcow2 S F) (p : Pending) → ImageInvariant view backing p old out → HoldsAll view backing p out → (offset host at n : ℕ) → IsKeptAlone view backing old out offset host
    → at + n ≤ cluster_size old.file.header.fields → (r : Result (Unit {0}) ImageError) → WritesBytes view old new (host + at) (replicate n 0) r → InternalFillingStep view backing p p old new out
image_step_filled view backing out old new p sound holds offset host at n is_kept fits r w =
    let zeros : List ℕ = replicate n 0 in
    let long = length-replicate {A = ℕ} n 0 in
    image_step_zeros view backing out old p sound holds offset host is_kept at (replicate n 0) (omega (arith, fits, long)) (λ i lt. get_or-replicate n i 0 0 (omega (arith, lt, long))) new r w

module _ {S F : Type 0} (view : S → StorageView) (backing : F → BackingView) (out : Mappings) (old new : Qcow2 S F) (p : Pending) (sound : ImageInvariant view backing p old out) (offset host length : ℕ) (overwrite : Bool)
    (kept : cover old.file.header.fields (known_in view old.file) (offset / cluster_size old.file.header.fields) ≡ Zero (Some (host, true))) where
  abbrev hf : HeaderFields
  hf = old.file.header.fields

  -- it begins where a cluster does
  pub host_whole : host / cluster_size hf * cluster_size hf ≡ host
  host_whole =
      let none = kept_aligned (state_in view old.file p) sound.file.caches.kept.kept.crash_invariant (inside_of sound) (offset / cluster_size hf) host kept in
      let is : host / cluster_size hf * cluster_size hf + host % cluster_size hf ≡ host = div-add-mod' host (cluster_size hf) in
      omega (arith, none, is)

  guest_byte : (i : ℕ) → i < cluster_size hf → (offset - offset % cluster_size hf + i) / cluster_size hf ≡ offset / cluster_size hf
  guest_byte i lt =
      let is : offset / cluster_size hf * cluster_size hf + offset % cluster_size hf ≡ offset = div-add-mod' offset (cluster_size hf) in
      let e : offset - offset % cluster_size hf + i ≡ offset / cluster_size hf * cluster_size hf + i = omega (arith, is) in
      ap (λ o. o / cluster_size hf) e ∙ div-mul-add (offset / cluster_size hf) (cluster_size hf) i lt

  -- what isn't announced is zero then
  pub filled_with_zeros : (part : CopyRange) → ((i : ℕ) → i < cluster_size hf → is_announced (cluster_size hf) offset length overwrite i ≡ false → HasByte (Some part) i)
      → (r : Result (Unit {0}) ImageError) → WritesBytes view old new (host + part.start) (replicate (part.end - part.start) 0) r → IfOk r (λ done. IsFilled view backing out.place old new (host / cluster_size hf) offset length overwrite)
  filled_with_zeros part all r w = from_image (λ place. IfOk r (λ done. IsFilled view backing place old new (host / cluster_size hf) offset length overwrite)) sound (
      IfOk-weaker r _ _
      (λ done there i lt none.
      let within = all i lt none in
      let from = within.0 in
      let below = within.1 in
      let long = length-replicate {A = ℕ} (part.end - part.start) 0 in
      let whole = host_whole in
      let place : host / cluster_size hf * cluster_size hf + i ≡ host + part.start + (i - part.start) = omega (arith, whole, from) in
      ap (λ o. known_byte (contents_in view new.file o)) place ∙ ap known_byte (there (i - part.start) (omega (arith, long, from, below)) ∙ get_or-replicate (part.end - part.start) (i - part.start) 0 0 (omega (arith, from, below)))
      ∙ sym (shown_zero (state_in view old.file p) sound.file.caches.kept.kept.crash_invariant (backing_bytes view backing old.backing) (offset - offset % cluster_size hf + i) (Some (host, true))
      (ap (cover hf (known_in view old.file)) (guest_byte i lt) ∙ kept)))
      (there_written view old new (host + part.start) (replicate (part.end - part.start) 0) r w sound.file.honest))

  -- or nothing of it isn't
  pub filled_by_none : ((i : ℕ) → i < cluster_size hf → is_announced (cluster_size hf) offset length overwrite i ≡ false → ⊥) → (image : Qcow2 S F) → IsFilled view backing out.place old image (host / cluster_size hf) offset length overwrite
  filled_by_none all image i lt none = absurd (all i lt none)

-- ---- no mapping has the guest cluster
module _ {S F : Type 0} (view : S → StorageView) (backing : F → BackingView) (out : Mappings) (image : Qcow2 S F) (p : Pending) (sound : ImageInvariant view backing p image out) (offset table : ℕ) where
  abbrev hi : HeaderFields
  hi = image.file.header.fields

  abbrev known : Bytes
  known = known_in view image.file

  own_number : (n : ℕ) → n * cluster_size hi / cluster_size hi ≡ n
  own_number n = let e : n * cluster_size hi ≡ n * cluster_size hi + 0 = omega arith in ap (λ o. o / cluster_size hi) e ∙ div-mul-add n (cluster_size hi) 0 (pow_pos hi.cluster_bits)

  module _ (place : table_at hi known (l1_index_of hi offset) ≡ table * cluster_size hi) (k : ℕ) (q : Prepared) (at : slice_get out.slots k ≡ Some (Some q)) where
    -- only one under its table could
    under : (cluster_mapping : ClusterMapping) → mapping_of_cluster hi q (offset / cluster_size hi) ≡ Some cluster_mapping → q.table ≡ Some table
    under cluster_mapping is =
        let there = mapping_there hi q (offset / cluster_size hi) cluster_mapping is in
        let ready = ready_table view backing image Image known (contents_in view image.file) q there.0 cluster_mapping there.2 (ready_inside sound k q at) in
        let row : offset / cluster_size hi / entries_per_cluster hi ≡ cluster_of hi q / entries_per_cluster hi =
        ap (λ c. c / entries_per_cluster hi) (sym there.1) ∙ same_row hi known (contents_in view image.file) q ready.0 ready.2 there.0 (slice_get_within q.clusters.items there.0 cluster_mapping there.2) in
        let places : ready.0 * cluster_size hi ≡ table * cluster_size hi = sym ready.2.named.place ∙ ap (table_at hi known) (sym row) ∙ place in
        ready.1 ∙ ap Some (sym (own_number ready.0) ∙ ap (λ o. o / cluster_size hi) places ∙ own_number table)

    pub has_none : (q.table ≡ Some table → mapping_of_cluster hi q (offset / cluster_size hi) ≡ None) → mapping_of_cluster hi q (offset / cluster_size hi) ≡ None
    has_none unless = by_mapping (mapping_of_cluster hi q (offset / cluster_size hi)) refl where
      by_mapping : (x : Option ClusterMapping) → mapping_of_cluster hi q (offset / cluster_size hi) ≡ x → x ≡ None
      by_mapping None is = refl
      by_mapping (Some cluster_mapping) is = sym is ∙ unless (under cluster_mapping is)
