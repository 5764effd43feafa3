-- What a prepare returns: the whole range in place, or a pinned mapping.
use Rattle.std.proofs.Common.{◌≡◌, ◌⊎◌, ◌∷◌, ◌+◌, ◌-◌, ◌*◌, ◌/◌, ◌%◌, ◌<◌, ◌≤◌, ⊎_elim, inl, inr, List, ℕ, zero, suc, length, [], Bool, true, false, Option, Some, None, refl, sym, ap, ◌∙◌, subst, arith, is_some, Err, IfOk, IsTrue, Ok, Result}
use Rattle.qcow2_image.proofs.Common.{common_steps, not, slice_get, slice_set, cases_lt, div-add-mod', div-mul-add, mod-mul-add, mod_below, pow_pos, BackingView, StorageView, Bytes, HeaderFields, Data, Zero, cluster_size, entries_per_cluster, rounded_down, rounded_up, with_tables_of, cover, IsDataAt, PreparedMapping, is_copied_data, DriverState, StateInvariant, named-is, own_data_of, Sizes-from, for_tables-top, IsTop-top, rest_of_table, ImageError, contents_in, known_in, state_in, Qcow2, Prepared, ClusterMapping, InPlace, Kept, New, IsExisting, PreparesRange, offset_of, MovesTables, CoversStay, IsAnswered, IsHeldAlone, IsKeptBy, IsTaken, IsWritableAt, BeginsInKept, Reaches, of_data, to_free, new_data_by, cluster_of, host_begin_of, is_entered, is_private, meaning, pending_in, IsPending, IsReadyWith, IsClusterMappingAt, ImageInvariant, Mappings, set_slot, Image}
use Rattle.qcow2_image.proofs.Lemmas.{get_set_same, byte_cluster, byte_place, byte_of_mapping, new_data_at, new_data_once, host_cluster, never_private, over_all_at}
use Rattle.qcow2_image.proofs.Images.ClusterMappings.{private_is as private_mapping}
use Rattle.qcow2_image.proofs.Images.Places.{inside_of, ready_inside}
use Rattle.qcow2_image.specs.declared.mapping.Place.{Place}

-- ---- the mappings of guest clusters stay the same, though tables may have moved
module _ (h k : HeaderFields) (b c : Bytes) (same : CoversStay h c (with_tables_of h k) b) (offset : ℕ) where
  data_still : (o place : ℕ) → IsDataAt (with_tables_of h k) b true o place → IsDataAt h c true o place
  data_still o place is = (is.0, same (o / cluster_size h) ∙ is.1, is.2)

  writable_still : (n place : ℕ) → IsWritableAt (with_tables_of h k) b offset n place → IsWritableAt h c offset n place
  writable_still n place is = (is.0, λ i lt. data_still (offset + i) (place + i) (is.1 i lt))

  writable_before : (n place : ℕ) → IsWritableAt h c offset n place → IsWritableAt (with_tables_of h k) b offset n place
  writable_before n place is = (is.0, λ i lt. ((is.1 i lt).0, sym (same ((offset + i) / cluster_size h)) ∙ (is.1 i lt).1, (is.1 i lt).2))

  taken_still : (n : ℕ) (out : Mappings) → IsTaken (with_tables_of h k) b offset n out → IsTaken h c offset n out
  taken_still n out is = record { place = is.place; other = is.other; is_out = is.is_out; keeps_table = is.keeps_table; same_table = is.same_table; never = λ host writable. is.never host (writable_before n host writable) }

  answered_still : (n : ℕ) (h' : HeaderFields) (now : Bytes) (p : Prepared) (m : PreparedMapping) → IsAnswered (with_tables_of h k) b offset n h' now p m → IsAnswered h c offset n h' now p m
  answered_still n h' now p m is = record {
    existing = (λ none. let there = is.existing.0 none in (there.0, writable_still n there.0 there.1), λ there. is.existing.1 (there.0, writable_before n there.0 there.1));
    whole = is.whole;
    first = is.first;
    most = is.most;
    within = is.within;
    short = is.short;
    kept = λ host at. is.kept host (sym (same (offset / cluster_size h)) ∙ at);
    private = λ o from to. is.private o from to ∙ ap (λ v. not (is_copied_data v)) (sym (same (o / cluster_size h)));
    in_place = λ i lt isnt. data_still (offset + i) (offset_of p + i) (is.in_place i lt isnt);
    stays = is.stays;
    own = λ i lt private.
        let own = is.own i lt private in (
          own.0,
          ⊎_elim (λ alone. inl alone) (λ (kept : IsKeptBy (with_tables_of h k) b ((offset + i) / cluster_size h) ((offset_of p + i) / cluster_size h)). inr (same ((offset + i) / cluster_size h) ∙ kept)) own.1,
        );
  }

-- each byte of the whole clusters of a range lies in the cluster of a byte of the range
in_range : (size offset n o : ℕ) → 0 < size → 0 < n → rounded_down size offset ≤ o → o < rounded_up size (offset + n) → (i : ℕ) × (i < n) × ((offset + i) / size ≡ o / size)
in_range size offset n o some any from to =
    let offset_is : offset / size * size + offset % size ≡ offset = div-add-mod' offset size in
    elim (cases_lt o offset) [
      | inl below ↦
          let none : offset + 0 ≡ offset = omega arith in
          let e : o ≡ offset / size * size + (o - offset / size * size) = omega arith in
          let lt = mod_below offset size some in
          (0, any, ap (λ x. x / size) none ∙ sym (ap (λ x. x / size) e ∙ div-mul-add (offset / size) size (o - offset / size * size) (omega arith)))
      | inr above ↦ elim (cases_lt o (offset + n)) [
        | inl inside ↦ let e : offset + (o - offset) ≡ o = omega arith in (o - offset, omega arith, ap (λ x. x / size) e)
        | inr past ↦
            let last = offset + (n - 1) in
            let last_is : (offset + (n - 1)) / size * size + (offset + (n - 1)) % size ≡ offset + (n - 1) = div-add-mod' (offset + (n - 1)) size in
            let lt = mod_below (offset + (n - 1)) size some in
            let up : offset + n + size - 1 ≡ ((offset + (n - 1)) / size + 1) * size + (offset + (n - 1)) % size = let q : ((offset + (n - 1)) / size + 1) * size ≡ (offset + (n - 1)) / size * size + size = omega arith in omega arith in
            let end : rounded_up size (offset + n) ≡ (offset + (n - 1)) / size * size + size =
            ap (λ x. x / size * size) up ∙ ap (λ q. q * size) (div-mul-add ((offset + (n - 1)) / size + 1) size ((offset + (n - 1)) % size) lt) ∙ omega arith in
            let e : o ≡ (offset + (n - 1)) / size * size + (o - (offset + (n - 1)) / size * size) = omega arith in
            (n - 1, omega arith, sym (ap (λ x. x / size) e ∙ div-mul-add ((offset + (n - 1)) / size) size (o - (offset + (n - 1)) / size * size) (omega arith)))
      ]
    ]

-- all of the range is written where it is
pub answered_existing : {S F : Type 0} (view : S → StorageView) (backing : F → BackingView) (file : Place) (image : Qcow2 S F) (known : Bytes) (offset n : ℕ) (p : Prepared) (number : ℕ) → 0 < n → IsExisting p number offset n
    → IsWritableAt image.file.header.fields known offset n p.offset → IsAnswered image.file.header.fields known offset n image.file.header.fields known p (meaning view backing file image p)
answered_existing view backing file image known offset n p number any existing writable =
    let h = image.file.header.fields in
    let none : is_some p.table ≡ false = ap is_some existing.table in
    let never : (o : ℕ) → is_private view backing image p o ≡ false = never_private view backing image p existing.clusters in
    record {
      existing = (λ is. (p.offset, writable), λ is. none);
      whole = λ is. existing.length_is;
      first = λ is. absurd (let e : true ≡ false = sym is ∙ none in cc);
      most = λ is. absurd (let e : true ≡ false = sym is ∙ none in cc);
      within = subst (λ l. l ≤ rest_of_table image.file.header.fields offset) (sym existing.length_is) writable.0;
      short = λ less. absurd (let long = existing.length_is in omega arith);
      kept = λ host at. absurd (let none : offset + 0 ≡ offset = omega arith in let first = writable.1 0 any in let e : Zero (Some (host, true)) ≡ Data first.0 true = sym at ∙ ap (λ o. cover h known (o / cluster_size h)) (sym none) ∙ first.1 in cc);
      private = λ o from to.
          let at = in_range (cluster_size h) offset n o (pow_pos h.cluster_bits) any (subst (λ g. rounded_down (cluster_size image.file.header.fields) g ≤ o) existing.guest_is from)
          (subst (λ l. o < rounded_up (cluster_size image.file.header.fields) (offset + l)) existing.length_is (subst (λ g. o < rounded_up (cluster_size image.file.header.fields) (g + p.length)) existing.guest_is to)) in
          let there = writable.1 at.0 at.1 in
          never o ∙ ap (λ v. not (is_copied_data v)) (sym there.1) ∙ ap (λ g. not (is_copied_data (cover image.file.header.fields known g))) at.2;
      in_place = λ i lt is. writable.1 i (subst (λ l. i < l) existing.length_is lt);
      stays = λ i lt is. writable.1 i (subst (λ l. i < l) existing.length_is lt);
      own = λ i lt is. absurd (let e : true ≡ false = sym is ∙ never (offset + i) in cc);
    }

-- the same by what was known before a part that no guest sees
module _ {S F : Type 0} (view : S → StorageView) (old mid : Qcow2 S F) (offset n : ℕ) (header : MovesTables old.file.header.fields mid.file.header.fields)
    (covers : CoversStay old.file.header.fields (known_in view old.file) mid.file.header.fields (known_in view mid.file)) where
  same : CoversStay old.file.header.fields (known_in view old.file) (with_tables_of old.file.header.fields mid.file.header.fields) (known_in view mid.file)
  same = subst (λ (x : HeaderFields). CoversStay old.file.header.fields (known_in view old.file) x (known_in view mid.file)) header covers

  pub answered_before : (h' : HeaderFields) (now : Bytes) (p : Prepared) (m : PreparedMapping) → IsAnswered mid.file.header.fields (known_in view mid.file) offset n h' now p m → IsAnswered old.file.header.fields (known_in view old.file) offset n h' now p m
  answered_before h' now p m is =
      answered_still old.file.header.fields mid.file.header.fields (known_in view mid.file) (known_in view old.file) same offset n h' now p m (subst (λ (x : HeaderFields). IsAnswered x (known_in view mid.file) offset n h' now p m) header is)

  pub taken_before : (out : Mappings) → IsTaken mid.file.header.fields (known_in view mid.file) offset n out → IsTaken old.file.header.fields (known_in view old.file) offset n out
  taken_before out is = taken_still old.file.header.fields mid.file.header.fields (known_in view mid.file) (known_in view old.file) same offset n out (subst (λ (x : HeaderFields). IsTaken x (known_in view mid.file) offset n out) header is)

  pub writable_as_before : (place : ℕ) → IsWritableAt mid.file.header.fields (known_in view mid.file) offset n place → IsWritableAt old.file.header.fields (known_in view old.file) offset n place
  writable_as_before place is = writable_still old.file.header.fields mid.file.header.fields (known_in view mid.file) (known_in view old.file) same offset n place (subst (λ (x : HeaderFields). IsWritableAt x (known_in view mid.file) offset n place) header is)

  pub nowhere_before : ((place : ℕ) → ¬ IsWritableAt mid.file.header.fields (known_in view mid.file) offset n place) → (place : ℕ) → ¬ IsWritableAt old.file.header.fields (known_in view old.file) offset n place
  nowhere_before never place at = subst (λ (x : HeaderFields). (place : ℕ) → ¬ IsWritableAt x (known_in view mid.file) offset n place) header never place (writable_before old.file.header.fields mid.file.header.fields (known_in view mid.file) (known_in view old.file) same offset n place at)

-- what is held is counted once, and nothing names it
pub new_data_alone : (s : DriverState) → StateInvariant s → s.header.incompatible ≡ 0 → (k : ℕ) → 0 < s.pending.new_data k → IsHeldAlone s.header s.known k
new_data_alone s sound inside k some =
    let sizes = Sizes-from s.header s.known (IsTop-top s.header s.on_storage s.known sound.same_top sound.top).header_reads in
    let named = named-is s.header s.known k sizes (own_data_of s.header inside) in
    let table_refs = for_tables-top s.header s.on_storage s.known k sound.same_top in
    let tally = (sound.each_cluster k).tally in
    let few = (sound.each_cluster k).pending (omega arith) in
    (omega arith, omega arith)

-- ---- how far an L2 table reaches
pub rest_as : (size entries offset : ℕ) → 0 < size → 0 < entries → size * entries - offset % (size * entries) ≡ (entries - offset / size % entries) * size - offset % size
rest_as size entries offset some any =
    let g = offset / size in
    let j = offset / size % entries in
    let lt : offset / size % entries < entries = mod_below (offset / size) entries any in
    let less : offset % size < size = mod_below offset size some in
    let offset_is : offset / size * size + offset % size ≡ offset = div-add-mod' offset size in
    let cluster_is : offset / size / entries * entries + offset / size % entries ≡ offset / size = div-add-mod' (offset / size) entries in
    let product : offset / size * size ≡ (offset / size / entries * entries + offset / size % entries) * size = ap (λ c. c * size) (sym cluster_is) in
    let split : (offset / size / entries * entries + offset / size % entries) * size ≡ offset / size / entries * (size * entries) + offset / size % entries * size = grind (arith, common_steps) in
    let e : offset ≡ offset / size / entries * (size * entries) + (offset / size % entries * size + offset % size) = omega arith in
    let all : entries ≡ offset / size % entries + (entries - offset / size % entries) = omega arith in
    let table : size * entries ≡ offset / size % entries * size + (entries - offset / size % entries) * size = ap (λ m. size * m) all ∙ grind (arith, common_steps) in
    let one : entries - offset / size % entries ≡ 1 + (entries - offset / size % entries - 1) = omega arith in
    let more : (entries - offset / size % entries) * size ≡ size + (entries - offset / size % entries - 1) * size = ap (λ m. m * size) one ∙ omega arith in
    let within : offset / size % entries * size + offset % size < size * entries = omega arith in
    let is : offset % (size * entries) ≡ offset / size % entries * size + offset % size = ap (λ o. o % (size * entries)) e ∙ mod-mul-add (offset / size / entries) (size * entries) (offset / size % entries * size + offset % size) within in
    omega arith

pub entries_some : (s : DriverState) → StateInvariant s → 0 < entries_per_cluster s.header
entries_some s sound = (Sizes-from s.header s.known (IsTop-top s.header s.on_storage s.known sound.same_top sound.top).header_reads).entries

-- ---- not all of the range is written where it is: a mapping that is out, and no guest saw it made

get_there : {X : Type 0} (xs : List X) (i : ℕ) → i < length xs → (x : X) × (slice_get xs i ≡ Some x)
get_there [] i lt = absurd (omega (arith, lt))
get_there (x ∷ xs) zero lt = (x, refl)
get_there (x ∷ xs) (suc i) lt = get_there xs i (omega (arith, lt))

-- what isn't copied data isn't in place
entered_as : (h : HeaderFields) (known on_storage : Bytes) (p : Prepared) (i : ℕ) (cluster_mapping : ClusterMapping) → IsClusterMappingAt h Image known on_storage p i cluster_mapping → is_entered cluster_mapping ≡ not (is_copied_data (cover h known (cluster_of h p + i)))
entered_as h known on_storage p i InPlace at = ap (λ v. not (is_copied_data v)) (sym at)
entered_as h known on_storage p i Kept at = ap (λ v. not (is_copied_data v)) (sym at.entry)
entered_as h known on_storage p i (New taken old_data) at = ap not (sym at.entry)

in_place_as : (h : HeaderFields) (known on_storage : Bytes) (p : Prepared) (i : ℕ) (cluster_mapping : ClusterMapping) → is_entered cluster_mapping ≡ false → IsClusterMappingAt h Image known on_storage p i cluster_mapping → cover h known (cluster_of h p + i) ≡ Data (host_begin_of h p i) true
in_place_as h known on_storage p i InPlace isnt at = at
in_place_as h known on_storage p i Kept isnt at = absurd (let e : true ≡ false = isnt in cc)
in_place_as h known on_storage p i (New taken old_data) isnt at = absurd (let e : true ≡ false = isnt in cc)

module _ {S F : Type 0} (view : S → StorageView) (backing : F → BackingView) (image : Qcow2 S F) (out : Mappings) (k : ℕ) (p : Prepared) (at : slice_get out.slots k ≡ Some (Some p)) (sound : ImageInvariant view backing (pending_in view backing image out) image out) (offset n : ℕ) (reaches : Reaches view image offset n p) where
  abbrev h : HeaderFields
  h = image.file.header.fields

  abbrev now : Bytes
  now = known_in view image.file

  pending : IsPending h Image now (contents_in view image.file) p reaches.under.0
  pending = subst (IsReadyWith h Image now (contents_in view image.file) p) reaches.under.1 (ready_inside sound k p at)

  -- the cluster mapping of a byte of the mapping
  module _ (i : ℕ) (lt : i < p.length) where
    abbrev index : ℕ
    index = (p.guest % cluster_size h + 0 + i) / cluster_size h

    its : (cluster_mapping : ClusterMapping) × (slice_get p.clusters.items index ≡ Some cluster_mapping)
    its = get_there p.clusters.items index (byte_of_mapping h p now (contents_in view image.file) reaches.under.0 pending 0 i p.length (omega arith) lt)

    here : (p.guest + i) / cluster_size h ≡ cluster_of h p + index
    here = let none : p.guest + 0 + i ≡ p.guest + i = omega arith in ap (λ o. o / cluster_size h) (sym none) ∙ byte_cluster h p now (contents_in view image.file) reaches.under.0 pending 0 i p.length (omega arith) lt

    place : p.offset + i ≡ host_begin_of h p index + (p.guest + i) % cluster_size h
    place =
        let none : p.guest + 0 + i ≡ p.guest + i = omega arith in
        let is = byte_place h p now (contents_in view image.file) reaches.under.0 pending 0 i p.length (omega arith) lt in
        let same : (p.guest + 0 + i) % cluster_size h ≡ (p.guest + i) % cluster_size h = ap (λ o. o % cluster_size h) none in
        omega arith

    stands : IsClusterMappingAt h Image now (contents_in view image.file) p index its.0
    stands = pending.each index its.0 its.1

    private_is : is_private view backing image p (p.guest + i) ≡ is_entered its.0
    private_is = private_mapping view backing image p (p.guest + i) index its.0 here its.1

    is_in_place : is_private view backing image p (p.guest + i) ≡ false → IsDataAt h now true (p.guest + i) (p.offset + i)
    is_in_place isnt = (host_begin_of h p index, ap (cover h now) here ∙ in_place_as h now (contents_in view image.file) p index its.0 (sym private_is ∙ isnt) stands, sym place)

    cluster_is : (first : ℕ) → first * cluster_size h ≡ host_begin_of h p index → (p.offset + i) / cluster_size h ≡ first
    cluster_is first at = ap (λ o. o / cluster_size h) place ∙ host_cluster h p index first at (p.guest + i)

    rest_is : (first : ℕ) → first * cluster_size h ≡ host_begin_of h p index → (p.offset + i) % cluster_size h ≡ (p.guest + i) % cluster_size h
    rest_is first at = ap (λ o. o % cluster_size h) (place ∙ ap (λ b. b + (p.guest + i) % cluster_size h) (sym at)) ∙ mod-mul-add first (cluster_size h) ((p.guest + i) % cluster_size h) (mod_below (p.guest + i) (cluster_size h) (pow_pos h.cluster_bits))

    -- what isn't in place lies at the same byte of a cluster that is held alone, or that its zero entry keeps
    abbrev IsItsOwn : Type 0
    IsItsOwn = ((p.offset + i) % cluster_size h ≡ (p.guest + i) % cluster_size h) × (IsHeldAlone h now ((p.offset + i) / cluster_size h) ⊎ IsKeptBy h now ((p.guest + i) / cluster_size h) ((p.offset + i) / cluster_size h))

    own_as : (cluster_mapping : ClusterMapping) → IsTrue (is_entered cluster_mapping) → slice_get p.clusters.items index ≡ Some cluster_mapping → IsClusterMappingAt h Image now (contents_in view image.file) p index cluster_mapping → IsItsOwn
    own_as InPlace entered is it = absurd (let e : false ≡ true = entered in cc)
    own_as Kept entered is it = (
      rest_is it.first it.place,
      inr (ap (cover h now) here ∙ it.entry ∙ ap (λ b. Zero (Some (b, true))) (sym it.place ∙ ap (λ c. c * cluster_size h) (sym (cluster_is it.first it.place)))),
    )
    own_as (New taken old_data) entered is it =
        let one : to_free of_data taken it.first ≡ 1 = ap (λ l. to_free of_data l it.first) it.is ∙ new_data_once it.first in
        let more = new_data_at p.clusters.items index taken old_data is it.first in
        let all = over_all_at new_data_by out k p at it.first in (
          rest_is it.first it.place,
          inl (subst (IsHeldAlone h now) (sym (cluster_is it.first it.place)) (new_data_alone (state_in view image.file (pending_in view backing image out)) sound.file.caches.kept.kept.crash_invariant (inside_of sound) it.first (omega (arith, one, more, all)))),
        )

  -- how far its L2 table reaches
  reach_is : rest_of_table h p.guest ≡ (entries_per_cluster h - cluster_of h p % entries_per_cluster h) * cluster_size h - p.guest % cluster_size h
  reach_is = rest_as (cluster_size h) (entries_per_cluster h) p.guest (pow_pos h.cluster_bits) (entries_some (state_in view image.file (pending_in view backing image out)) sound.file.caches.kept.kept.crash_invariant)

  pub answered_out : ((place : ℕ) → IsWritableAt h now offset n place → ⊥) → IsAnswered h now p.guest n h now p (meaning view backing out.place image p)
  answered_out never =
      let some : is_some p.table ≡ true = ap is_some reaches.under.1 in
      let guest = reaches.guest in
      record {
        existing = (λ none. absurd (let e : true ≡ false = sym some ∙ none in cc), λ w. absurd (never w.0 (subst (λ o. IsWritableAt h now o n w.0) guest w.1)));
        whole = λ none. absurd (let e : true ≡ false = sym some ∙ none in cc);
        first = λ _. subst (λ o. cluster_size h - o % cluster_size h ≤ p.length) (sym guest) reaches.first;
        most = λ _ past. subst (λ o. p.length ≡ cluster_size h - o % cluster_size h) (sym guest) (reaches.most past);
        within =
            let lt = pending.within in
            let enough = pending.enough in
            let reach = reach_is in
            let rest : entries_per_cluster h - cluster_of h p % entries_per_cluster h ≡ length p.clusters.items + (entries_per_cluster h - cluster_of h p % entries_per_cluster h - length p.clusters.items) = omega arith in
            let more : (entries_per_cluster h - cluster_of h p % entries_per_cluster h) * cluster_size h ≡ (length p.clusters.items + (entries_per_cluster h - cluster_of h p % entries_per_cluster h - length p.clusters.items)) * cluster_size h = ap (λ m. m * cluster_size h) rest in
            let parts : (length p.clusters.items + (entries_per_cluster h - cluster_of h p % entries_per_cluster h - length p.clusters.items)) * cluster_size h ≡ length p.clusters.items * cluster_size h + (entries_per_cluster h - cluster_of h p % entries_per_cluster h - length p.clusters.items) * cluster_size h = omega arith in
            omega arith;
        short = reaches.short;
        kept = subst (λ o. BeginsInKept h o (cover h now (o / cluster_size h)) p) (sym guest) reaches.kept;
        private = λ o from to.
            let byte = in_range (cluster_size h) p.guest p.length o (pow_pos h.cluster_bits) pending.some from to in
            let cluster : o / cluster_size h ≡ cluster_of h p + index byte.0 byte.1 = sym byte.2 ∙ here byte.0 byte.1 in
            let cluster_mapping = its byte.0 byte.1 in
            private_mapping view backing image p o (index byte.0 byte.1) cluster_mapping.0 cluster cluster_mapping.1 ∙ entered_as h now (contents_in view image.file) p (index byte.0 byte.1) cluster_mapping.0 (stands byte.0 byte.1) ∙ ap (λ g. not (is_copied_data (cover h now g))) (sym cluster);
        in_place = is_in_place;
        stays = is_in_place;
        own = λ i lt private. own_as i lt (its i lt).0 (sym (private_is i lt) ∙ private) (its i lt).1 (stands i lt);
      }

-- a mapping that was made ready, by what was known before
pub answered_range : {S F : Type 0} (view : S → StorageView) (backing : F → BackingView) (old new : Qcow2 S F) (out : Mappings) (k offset n : ℕ) (overwrite : Bool) (free : slice_get out.slots k ≡ Some None) → ((place : ℕ) → IsWritableAt old.file.header.fields (known_in view old.file) offset n place → ⊥)
    → (r : Result Prepared ImageError) → PreparesRange view backing old new out offset n overwrite r → IfOk r (Reaches view new offset n)
    → IfOk r (λ p. IsAnswered old.file.header.fields (known_in view old.file) offset n new.file.header.fields (known_in view new.file) p (meaning view backing out.place new p))
answered_range view backing old new out k offset n overwrite free never (Err e) readies reaches = tt
answered_range view backing old new out k offset n overwrite free never (Ok p) readies reaches =
    let is = readies k free in
    let never_now : (place : ℕ) → IsWritableAt new.file.header.fields (known_in view new.file) offset n place → ⊥ = λ place at.
    never place (writable_as_before view old new offset n is.header is.covers place at) in
    answered_before view old new offset n is.header is.covers new.file.header.fields (known_in view new.file) p (meaning view backing out.place new p)
    (subst (λ o. IsAnswered new.file.header.fields (known_in view new.file) o n new.file.header.fields (known_in view new.file) p (meaning view backing out.place new p)) reaches.guest
    (answered_out view backing new (set_slot out k (Some p)) k p (get_set_same out.slots k (Some p) None free) is.sound offset n reaches never_now))
