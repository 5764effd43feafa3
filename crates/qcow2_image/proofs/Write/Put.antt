-- Bytes are put into a prepared mapping by one write, over bytes in place and private ones.
use Rattle.std.proofs.Common.{◌≡◌, ◌≢◌, ◌+◌, ◌-◌, ◌*◌, ◌/◌, ◌%◌, ◌<◌, ◌≤◌, ◌∷◌, if◌then◌else◌, inl, inr, ℕ, Bool, true, false, List, length, [], refl, sym, ap, ◌∙◌, subst, arith, cond, eqb, Option, Some, None, IsTrue}
use Rattle.qcow2_image.proofs.Common.{slice_get, option_map_or, cases_lt, cases_eq, cond-true, cond-false, eq-eqb, ne_eqb, div-add-mod', mod_below, pow_pos, slice_get_within, fun_ext, BackingView, overwritten, StorageView, EachMomentSince, IsLeftBy, byte_at, is_within, laid_over, HeaderFields, cluster_size, cover, known_byte, in_cluster, named_by_cover, named_for_tables, Data, Zero, AreDataAt, EffectOnSound, Disk, disk, with_bytes, Pending, names, Hosting, IsHostedAt, IsHeld, IsGivenAt, WritesRun, PreparedMapping, given_by_put, put_mapping, put_disk, guest_of, meaning_at, DriverState, GivenBytes, IsGiven, in_own, laid_inside, laid_outside, kept_aligned, kept_unlaid, in_one, run_written, ImageStorage, storage_of, state_in, view_in, contents_in, known_in, Qcow2, Prepared, ClusterMapping, InPlace, New, put_guest, new_data_by, pending_in, abstract_of, meaning, is_entered, is_new, is_private, cluster_of, place_of, mapping_of_cluster, backing_bytes, IsReadyWith, ImageInvariant, Mappings, Image, contents_for, disk_of}
use Rattle.qcow2_laws.specs.GuestLaws.{is_private_hosting as is_hosted_privately}
use Rattle.qcow2_image.proofs.Lemmas.{names_inside, apart_guests, same_guest, same_mapping, same_meaning, over_all_two, Steps, stepped_works, stepped_sound, Standing, in_new, in_kept, byte_cluster, byte_of_mapping, over_all_at, private_shared, private_stands, ready_table, written, writes, but, there, steps_written}
use Rattle.qcow2_image.proofs.Write.Hosted.{all_hosted, hosted_as, hosted_with, hosting_in, hosts_no_table}
use Rattle.qcow2_image.proofs.Images.Places.{inside_of, ready_inside, from_image}

-- what lies over counts alone where it lies
laid_same : {A : Type 0} (place n : ℕ) (top under under' : ℕ → A) (o : ℕ) → under o ≡ under' o → laid_over place n top under o ≡ laid_over place n top under' o
unfolding laid_over
laid_same place n top under under' o same = ap (λ u. if is_within place n o then top (o - place) else u) same

hosted_private : (m : Option ClusterMapping) → is_hosted_privately (hosted_as m) ≡ option_map_or is_entered m false
hosted_private (Some InPlace) = refl
hosted_private m = refl

-- what isn't hidden is given
put_has : (d : Disk) (m : PreparedMapping) (at : ℕ) (bytes : List ℕ) (i : ℕ) → i < length bytes → m.is_hidden (m.from + at + i) ≡ false → IsGiven (given_by_put d m at bytes ∷ []) (m.from + at + i) (known_byte (byte_at bytes i))
put_has d m at bytes i lt shown =
    let from = m.from + at in
    let there : from + i - from ≡ i = omega arith in
    let here : from + (from + i - from) ≡ from + i = omega arith in
    let is : (if m.is_hidden (from + (from + i - from)) then d.value (from + (from + i - from)) else known_byte (byte_at bytes (from + i - from))) ≡ known_byte (byte_at bytes i) =
    cond-false _ _ _ (ap m.is_hidden here ∙ shown) ∙ ap (λ n. known_byte (byte_at bytes n)) there in
    inl (omega arith, omega (arith, lt), sym is)

-- this holds for each cluster mapping
given_as : (d : Disk) (m : PreparedMapping) (at : ℕ) (bytes : List ℕ) (i : ℕ) → i < length bytes → (x : Option ClusterMapping) → m.is_hidden (m.from + at + i) ≡ option_map_or is_new x false
    → IsGivenAt (given_by_put d m at bytes ∷ []) (hosted_as x) (m.from + at + i) (byte_at bytes i)
given_as d m at bytes i lt (Some (New taken old_data)) is = tt
given_as d m at bytes i lt x is = put_has d m at bytes i lt is

module _ {S F : Type 0} (view : S → StorageView) (backing : F → BackingView) (old : Qcow2 S F) (out : Mappings) (sound : ImageInvariant view backing (pending_in view backing old out) old out)
    (storage : ImageStorage S) (bytes : List ℕ) (k : ℕ) (q : Prepared) (at : ℕ) (is : (view (storage_of storage)).contents ≡ overwritten (view_in view old.file).contents (q.offset + at) bytes)
    (honest : (view (storage_of storage)).is_honest) (time : EachMomentSince (view_in view old.file) (view (storage_of storage)) (IsLeftBy (view (storage_of storage))))
    (placed : slice_get out.slots k ≡ Some (Some q)) (fits : at + length bytes ≤ q.length) (in_place : q.table ≡ None → AreDataAt old.file.header.fields (known_in view old.file) true (q.guest + at) (q.offset + at) (length bytes)) where
  abbrev new : Qcow2 S F
  new = written view backing old out sound storage (q.offset + at) bytes is

  abbrev before : Pending
  before = pending_in view backing old out

  abbrev s : DriverState
  s = state_in view old.file before

  abbrev h : HeaderFields
  h = old.file.header.fields

  abbrev size : ℕ
  size = cluster_size h

  abbrev m : PreparedMapping
  m = meaning view backing out.place old q

  abbrev given_bytes : List GivenBytes
  given_bytes = given_by_put (guest_of (abstract_of view backing old out)).disk m at bytes ∷ []

  abbrev hosting : ℕ → Hosting
  hosting = hosting_in h q

  hosts : (i : ℕ) → i < length bytes → IsHostedAt s (hosting (q.guest + at + i)) (q.guest + at + i) (q.offset + at + i)
  hosts = all_hosted view backing old out sound (length bytes) k q at placed fits in_place

  hosts_with : (t : Option ℕ) → q.table ≡ t → IsReadyWith h Image s.known s.on_storage q t → (i : ℕ) → i < length bytes
      → IsHostedAt s (hosting (q.guest + at + i)) (q.guest + at + i) (q.offset + at + i) × (IsHeld (hosting (q.guest + at + i)) → 0 < new_data_by q ((q.offset + at + i) / size))
  hosts_with = hosted_with view backing old out sound (length bytes) k q at placed fits in_place

  no_table : (i : ℕ) → i < length bytes → named_for_tables h (contents_in view old.file) ((q.offset + at + i) / size) ≡ 0
  no_table = hosts_no_table view backing old out sound (length bytes) k q at placed fits in_place

  -- ---- so one write goes over them
  run : WritesRun hosting (q.guest + at) (q.offset + at) bytes given_bytes s (state_in view new.file before)
  run = run_written s (contents_in view new.file) (known_in view new.file) hosting (q.guest + at) (q.offset + at) bytes given_bytes sound.file.caches.kept.kept.crash_invariant (inside_of sound) hosts
      (λ i lt. given_as (guest_of (abstract_of view backing old out)).disk m at bytes i lt (mapping_of_cluster h q ((q.guest + at + i) / size)) refl)
      (writes view backing old out sound storage (q.offset + at) bytes is no_table) (there view backing old out sound storage (q.offset + at) bytes is)

  steps : Steps view backing old new out out (λ _. given_bytes) before
  steps = steps_written view backing old out sound storage (q.offset + at) bytes is no_table (λ _. given_bytes) honest time run.safe_step run.covers

  -- the mapping of each guest cluster stays the same
  pub put_covers : (g : ℕ) → cover h (known_in view old.file) g ≡ cover h (known_in view new.file) g
  put_covers g = run.covers g

  pub put_works : EffectOnSound (abstract_of view backing old out) (abstract_of view backing new out) given_bytes []
  put_works = stepped_works view backing old new out out (λ _. given_bytes) before steps

  pub put_sound : ImageInvariant view backing (pending_in view backing new out) new out
  put_sound = stepped_sound view backing old new out out (λ _. given_bytes) before steps

  -- ---- what the disk shows
  put_shows : (d : Disk) (o : ℕ) → cond (is_hosted_privately (hosting o)) (d.value o) ((with_bytes d (q.guest + at) bytes).value o) ≡ (put_disk d m at bytes).value o
  put_shows d o = ap (λ b. cond b (d.value o) ((with_bytes d (q.guest + at) bytes).value o)) (hosted_private (mapping_of_cluster h q (o / size)))

  disk_is : disk (known_in view new.file) (backing_bytes view backing old.backing) ≡ put_disk (disk_of view backing Image old) m at bytes
  disk_is =
      let d = disk_of view backing Image old in
      run.shows (backing_bytes view backing old.backing) ∙ ap (λ f. record d { value = f }) (fun_ext (λ o. put_shows d o))

  -- ---- what the mapping shows: the new bytes
  place_is : (o : ℕ) → IsTrue (is_private view backing old q o) → place_of h q o + q.guest ≡ q.offset + o
  place_is o private =
      let shared = private_shared view backing old q o private in
      let pending = (ready_table view backing old Image s.known s.on_storage q shared.index shared.cluster_mapping shared.is (ready_inside sound k q placed)).2 in
      let begins = pending.begins in
      let o_is : o / size * size + o % size ≡ o = div-add-mod' o size in
      let g_is : q.guest / size * size + q.guest % size ≡ q.guest = div-add-mod' q.guest size in
      let here : o / size * size ≡ (cluster_of h q + shared.index) * size = ap (λ n. n * size) shared.here in
      let r : (cluster_of h q + shared.index) * size ≡ cluster_of h q * size + shared.index * size = omega arith in
      omega arith

  new_byte : (o : ℕ) → IsTrue (is_private view backing old q o) → known_byte (contents_in view new.file (place_of h q o)) ≡ laid_over (q.guest + at) (length bytes) (λ i. known_byte (byte_at bytes i)) (λ x. known_byte (contents_in view old.file (place_of h q x))) o
  new_byte o private =
      let at_place = place_is o private in
      let same = but view backing old out sound storage (q.offset + at) bytes is in
      elim (cases_lt o (q.guest + at)) [
        | inl below ↦
            ap known_byte (sym (same (place_of h q o) (inl (omega arith))))
            ∙ sym (laid_outside (q.guest + at) (length bytes) (λ i. known_byte (byte_at bytes i)) (λ x. known_byte (contents_in view old.file (place_of h q x))) o (inl below))
        | inr above ↦ elim (cases_lt o (q.guest + at + length bytes)) [
          | inr past ↦
              ap known_byte (sym (same (place_of h q o) (inr (omega arith))))
              ∙ sym (laid_outside (q.guest + at) (length bytes) (λ i. known_byte (byte_at bytes i)) (λ x. known_byte (contents_in view old.file (place_of h q x))) o (inr past))
          | inl lt ↦
              let e : place_of h q o ≡ q.offset + at + (o - (q.guest + at)) = omega arith in
              let f : q.guest + at + (o - (q.guest + at)) ≡ o = omega arith in
              ap (λ b. known_byte (contents_in view new.file b)) e ∙ ap known_byte (there view backing old out sound storage (q.offset + at) bytes is (o - (q.guest + at)) (omega arith))
              ∙ sym (laid_inside (q.guest + at) (length bytes) (λ i. known_byte (byte_at bytes i)) (λ x. known_byte (contents_in view old.file (place_of h q x))) (o - (q.guest + at)) (omega arith))
              ∙ ap (laid_over (q.guest + at) (length bytes) (λ i. known_byte (byte_at bytes i)) (λ x. known_byte (contents_in view old.file (place_of h q x)))) f
        ]
      ]

  abbrev own : PreparedMapping
  own = meaning view backing Image old q

  own_shown : (o : ℕ) (b : Bool) → is_private view backing old q o ≡ b → (meaning view backing Image new q).shown o ≡ (put_mapping own at bytes).shown o
  own_shown o true private =
      let was : own.shown o ≡ known_byte (contents_in view old.file (place_of h q o)) = ap known_byte (cond-true _ _ _ private) in
      ap known_byte (cond-true _ _ _ private) ∙ new_byte o private
      ∙ laid_same (q.guest + at) (length bytes) (λ i. known_byte (byte_at bytes i)) (λ x. known_byte (contents_in view old.file (place_of h q x))) own.shown o (sym was)
      ∙ sym (cond-true _ _ _ private)
  own_shown o false isnt = ap known_byte (cond-false _ _ _ isnt) ∙ sym (cond-false _ _ _ isnt ∙ ap known_byte (cond-false _ _ _ isnt))

  own_meaning : meaning view backing out.place new q ≡ put_mapping m at bytes
  own_meaning = from_image (λ place. meaning view backing place new q ≡ put_mapping (meaning view backing place old q) at bytes) sound (same_mapping _ _ refl refl refl refl (fun_ext (λ o. own_shown o (is_private view backing old q o) refl)))

  -- ---- what other mappings show stays
  module _ (j : ℕ) (r : Prepared) (apart : j ≢ k) (there_is : slice_get out.slots j ≡ Some (Some r)) (o : ℕ) (private : IsTrue (is_private view backing old r o)) where
    abbrev place : ℕ
    place = place_of h r o

    -- in a cluster that it holds
    kept_new_data : 0 < new_data_by r (place / size) → contents_in view new.file place ≡ contents_in view old.file place
    kept_new_data some =
        let all = over_all_at new_data_by out j r there_is (place / size) in
        let never : (i : ℕ) → i < length bytes → IsHeld (hosting (q.guest + at + i)) → (q.offset + at + i) / size ≢ place / size = λ i lt new_data same. absurd (
        let mine : 0 < new_data_by q (place / size) = subst (λ c. 0 < new_data_by q c) same ((hosts_with q.table refl (ready_inside sound k q placed) i lt).1 new_data) in
        let both = over_all_two new_data_by out k q j r placed apart there_is (place / size) in
        let each_cluster = sound.file.caches.kept.kept.crash_invariant.each_cluster (place / size) in
        let tally = each_cluster.tally in
        let few = each_cluster.pending (omega arith) in
        omega arith) in
        sym ((run.new_data (place / size) (omega arith) never).0 place refl)

    -- in one that a zero entry keeps
    module _ (host : ℕ) (kept : cover h s.known (o / size) ≡ Zero (Some (host, true))) (here : place ≡ host + o % size) where
      elsewhere : (t : Option ℕ) → q.table ≡ t → IsReadyWith h Image s.known s.on_storage q t → (i : ℕ) → i < length bytes → (q.guest + at + i) / size ≢ o / size
      elsewhere None none ready i lt same = absurd (let stands = in_place none i lt in let e : Data stands.0 true ≡ Zero (Some (host, true)) = sym stands.1 ∙ ap (cover h s.known) same ∙ kept in cc)
      elsewhere (Some t) some pending i lt same =
          let shared = private_shared view backing old r o private in
          let ready = ready_table view backing old Image s.known s.on_storage r shared.index shared.cluster_mapping shared.is (ready_inside sound j r there_is) in
          absurd (apart_guests view backing old out before sound k q placed t some pending j r apart there_is ready.0 ready.1 ready.2
          ((q.guest % size + at + i) / size) shared.index (byte_of_mapping h q s.known s.on_storage t pending at i (length bytes) fits lt) (slice_get_within r.clusters.items shared.index shared.cluster_mapping shared.is)
          (sym (byte_cluster h q s.known s.on_storage t pending at i (length bytes) fits lt) ∙ same ∙ shared.here))

      kept_kept : contents_in view new.file place ≡ contents_in view old.file place
      kept_kept =
          let rest = mod_below o size (pow_pos h.cluster_bits) in
          let aligned = kept_aligned s sound.file.caches.kept.kept.crash_invariant (inside_of sound) (o / size) host kept in
          let cluster : place / size ≡ host / size = ap (λ n. n / size) here ∙ in_one size host (o % size) aligned rest in
          let named : names h s.known (place / size) (o / size) ≡ 1 = names_inside h (inside_of sound) s.known (place / size) (o / size) ∙ ap (named_by_cover h (place / size)) kept ∙ ap (λ c. in_cluster h c host) cluster ∙ in_own h host in
          let known : known_in view new.file place ≡ s.known place = run.others (o / size) (elsewhere q.table refl (ready_inside sound k q placed)) place (omega (arith, named)) in
          let kept_now : cover h (known_in view new.file) (o / size) ≡ Zero (Some (host, true)) = sym (run.covers (o / size)) ∙ kept in
          ap (contents_in view new.file) here ∙ kept_unlaid (state_in view new.file before) run.safe_step.sound (inside_of sound) (o / size) host kept_now (o % size) rest ∙ ap (known_in view new.file) (sym here) ∙ known
          ∙ ap s.known here ∙ sym (kept_unlaid s sound.file.caches.kept.kept.crash_invariant (inside_of sound) (o / size) host kept (o % size) rest) ∙ ap (contents_in view old.file) (sym here)

    by_standing : Standing h s.known r o → contents_in view new.file place ≡ contents_in view old.file place
    by_standing (in_new new_data) = kept_new_data new_data
    by_standing (in_kept host kept here) = kept_kept host kept here

    pub others_stay : contents_in view new.file place ≡ contents_in view old.file place
    others_stay = by_standing (private_stands view backing old out before sound j r there_is o private)

  other_slot : (j : ℕ) → j ≢ k → (x : Option (Option Prepared)) → slice_get out.slots j ≡ x → meaning_at (meaning view backing out.place new) x ≡ meaning_at (meaning view backing out.place old) x
  other_slot j apart None at_j = refl
  other_slot j apart (Some None) at_j = refl
  other_slot j apart (Some (Some r)) at_j = ap Some (same_meaning view backing old new out refl r (λ o private. from_image (λ file. contents_for view backing file new (place_of h r o) ≡ contents_for view backing file old (place_of h r o)) sound (others_stay j r apart at_j o private)))

  put_slots : (j : ℕ) → meaning_at (meaning view backing out.place new) (slice_get out.slots j) ≡ cond (eqb j k) (Some (put_mapping m at bytes)) (meaning_at (meaning view backing out.place old) (slice_get out.slots j))
  put_slots j = elim (cases_eq j k) [
    | inl here ↦ ap (λ i. meaning_at (meaning view backing out.place new) (slice_get out.slots i)) here ∙ ap (meaning_at (meaning view backing out.place new)) placed ∙ ap Some own_meaning ∙ sym (cond-true _ _ _ (eq-eqb _ _ here))
    | inr other ↦ other_slot j other (slice_get out.slots j) refl ∙ sym (cond-false _ _ _ (ne_eqb _ _ other))
  ]

  pub put_seen : guest_of (abstract_of view backing new out) ≡ put_guest (guest_of (abstract_of view backing old out)) k m at bytes
  put_seen = same_guest _ _ (from_image (λ file. disk_of view backing file new ≡ put_disk (disk_of view backing file old) m at bytes) sound disk_is) (fun_ext put_slots)
