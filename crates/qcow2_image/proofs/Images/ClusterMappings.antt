-- The meaning of the cluster mappings of a prepared mapping: which clusters they hold, and whose bytes these have.
use Rattle.std.proofs.Common.{◌≡◌, ◌+◌, ◌-◌, ◌*◌, ◌/◌, ◌%◌, ◌<◌, ◌≤◌, ◌∷◌, ◌++◌, inl, inr, ℕ, zero, suc, Bool, true, false, List, [], length, Option, Some, None, refl, sym, ap, ◌∙◌, subst, arith, cond, IsTrue, nat_le}
use Rattle.qcow2_image.proofs.Common.{slice_get, slice_set, option_map_or, cases_lt, cond-true, cond-false, le-leb, lt-leb, div-add-mod', div-mul-add, mod-mul-add, mod_below, pow_pos, append_assoc, BackingView, StorageView, Bytes, HeaderFields, cluster_size, cover, in_cluster, named_by_cover, Zero, Pending, over_guests, names, DriverState, StateInvariant, used_by_guests, in_own, kept_aligned, tied, in_one, named_some, data_entry, ClustersToFreeEntry, state_in, contents_in, known_in, run_in, Qcow2, Prepared, ClusterMapping, InPlace, Kept, New, freed_by, HoldsAll, of_data, of_tables, to_free, new_data_in, new_data_by, over_all, is_entered, cluster_of, begin_of, host_begin_of, place_of, mapping_of_cluster, IsClusterMappingAt, IsPending, IsReadyWith, is_private, ImageInvariant, Mappings, over_slots, Image, DataFile}
use Rattle.qcow2_image.proofs.Images.Inside.{names_inside}
use Rattle.qcow2_image.proofs.Images.Sound.{free_more}
use Rattle.qcow2_image.proofs.Images.Places.{inside_of, ready_inside}
use Rattle.qcow2_image.specs.declared.mapping.Place.{Place}

-- ---- lists of cluster mappings

-- one of them holds no more than all
pub new_data_at : (clusters : List ClusterMapping) (i : ℕ) (taken old_data : List ClustersToFreeEntry) → slice_get clusters i ≡ Some (New taken old_data) → (c : ℕ) → to_free of_data taken c ≤ new_data_in clusters c
new_data_at [] i taken old_data is c = absurd cc
new_data_at (s ∷ clusters) zero taken gone is c = let e : s ≡ New taken gone = cc in subst (λ (x : ClusterMapping). to_free of_data taken c ≤ new_data_in (x ∷ clusters) c) (sym e) (omega arith)
new_data_at (InPlace ∷ clusters) (suc i) taken old_data is c = new_data_at clusters i taken old_data is c
new_data_at (Kept ∷ clusters) (suc i) taken old_data is c = new_data_at clusters i taken old_data is c
new_data_at (New more gone ∷ clusters) (suc i) taken old_data is c = let rest = new_data_at clusters i taken old_data is c in omega arith

-- what one holds that is in place from then on is held no longer
pub new_data_less : (clusters : List ClusterMapping) (i : ℕ) (cluster_mapping : ClusterMapping) → slice_get clusters i ≡ Some cluster_mapping → (c : ℕ) → new_data_in (slice_set clusters i InPlace) c + new_data_in (cluster_mapping ∷ []) c ≡ new_data_in clusters c
new_data_less [] i cluster_mapping is c = absurd cc
new_data_less (InPlace ∷ clusters) zero cluster_mapping is c = let e : InPlace ≡ cluster_mapping = cc in subst (λ (x : ClusterMapping). new_data_in clusters c + new_data_in (x ∷ []) c ≡ new_data_in clusters c) e (omega arith)
new_data_less (Kept ∷ clusters) zero cluster_mapping is c = let e : Kept ≡ cluster_mapping = cc in subst (λ (x : ClusterMapping). new_data_in clusters c + new_data_in (x ∷ []) c ≡ new_data_in clusters c) e (omega arith)
new_data_less (New taken old_data ∷ clusters) zero cluster_mapping is c = let e : New taken old_data ≡ cluster_mapping = cc in subst (λ (x : ClusterMapping). new_data_in clusters c + new_data_in (x ∷ []) c ≡ new_data_in (New taken old_data ∷ clusters) c) e (omega arith)
new_data_less (InPlace ∷ clusters) (suc i) cluster_mapping is c = new_data_less clusters i cluster_mapping is c
new_data_less (Kept ∷ clusters) (suc i) cluster_mapping is c = new_data_less clusters i cluster_mapping is c
new_data_less (New taken old_data ∷ clusters) (suc i) cluster_mapping is c = let rest = new_data_less clusters i cluster_mapping is c in omega arith

-- what is dropped of them comes to the list of those to be freed, as data
pub freed_data : (clusters : List ClusterMapping) (c : ℕ) → to_free of_data (freed_by clusters) c ≡ new_data_in clusters c
freed_data [] c = refl
freed_data (InPlace ∷ clusters) c = freed_data clusters c
freed_data (Kept ∷ clusters) c = freed_data clusters c
freed_data (New taken old_data ∷ clusters) c = let both = free_more of_data taken (freed_by clusters) c in let rest = freed_data clusters c in omega arith

abbrev pub IsOfData : ClusterMapping → Type 0
IsOfData InPlace = Unit {0}
IsOfData Kept = Unit {0}
IsOfData (New taken old_data) = (c : ℕ) → to_free of_tables taken c ≡ 0

pub freed_tables : (clusters : List ClusterMapping) → ((i : ℕ) (cluster_mapping : ClusterMapping) → slice_get clusters i ≡ Some cluster_mapping → IsOfData cluster_mapping) → (c : ℕ) → to_free of_tables (freed_by clusters) c ≡ 0
freed_tables [] each c = refl
freed_tables (InPlace ∷ clusters) each c = freed_tables clusters (λ i cluster_mapping is. each (suc i) cluster_mapping is) c
freed_tables (Kept ∷ clusters) each c = freed_tables clusters (λ i cluster_mapping is. each (suc i) cluster_mapping is) c
freed_tables (New taken old_data ∷ clusters) each c =
    let both = free_more of_tables taken (freed_by clusters) c in
    let none = each 0 (New taken old_data) refl c in
    let rest = freed_tables clusters (λ i cluster_mapping is. each (suc i) cluster_mapping is) c in
    omega arith

-- clusters in place hold nothing
pub freed_none : (clusters : List ClusterMapping) → ((j : ℕ) → j < length clusters → slice_get clusters j ≡ Some InPlace) → freed_by clusters ≡ []
freed_none [] each = refl
freed_none (InPlace ∷ clusters) each = freed_none clusters (λ j lt. each (suc j) (omega arith))
freed_none (Kept ∷ clusters) each = absurd (let e : Some Kept ≡ Some InPlace = each 0 (omega arith) in cc)
freed_none (New taken old_data ∷ clusters) each = absurd (let e : Some (New taken old_data) ≡ Some InPlace = each 0 (omega arith) in cc)

pub of_data_at : (h : HeaderFields) (place : Place) (known on_storage : Bytes) (p : Prepared) (i : ℕ) (cluster_mapping : ClusterMapping) → IsClusterMappingAt h place known on_storage p i cluster_mapping → IsOfData cluster_mapping
of_data_at h place known on_storage p i InPlace at = tt
of_data_at h place known on_storage p i Kept at = tt
of_data_at h DataFile known on_storage p i (New taken old_data) at = absurd at
of_data_at h Image known on_storage p i (New taken old_data) at = λ c. ap (λ l. to_free of_tables l c) at.is

-- one after others
pub freed_behind : (clusters : List ClusterMapping) (cluster_mapping : ClusterMapping) → freed_by (clusters ++ cluster_mapping ∷ []) ≡ freed_by clusters ++ freed_by (cluster_mapping ∷ [])
freed_behind [] cluster_mapping = refl
freed_behind (InPlace ∷ clusters) cluster_mapping = freed_behind clusters cluster_mapping
freed_behind (Kept ∷ clusters) cluster_mapping = freed_behind clusters cluster_mapping
freed_behind (New taken old_data ∷ clusters) cluster_mapping = ap (λ l. taken ++ l) (freed_behind clusters cluster_mapping) ∙ sym (append_assoc taken (freed_by clusters) (freed_by (cluster_mapping ∷ [])))

-- ---- the host offsets of a mapping's guest clusters

module _ (h : HeaderFields) (p : Prepared) where
  pub mapping_there : (g : ℕ) (cluster_mapping : ClusterMapping) → mapping_of_cluster h p g ≡ Some cluster_mapping → (i : ℕ) × (cluster_of h p + i ≡ g) × (slice_get p.clusters.items i ≡ Some cluster_mapping)
  mapping_there g cluster_mapping is = elim (cases_lt g (cluster_of h p)) [
    | inl below ↦ absurd (let none : mapping_of_cluster h p g ≡ None = cond-false _ _ _ (lt-leb (cluster_of h p) g below) in let e : Some cluster_mapping ≡ None = sym is ∙ none in cc)
    | inr above ↦ (g - cluster_of h p, omega arith, sym (cond-true (nat_le (cluster_of h p) g) (slice_get p.clusters.items (g - cluster_of h p)) None (le-leb (cluster_of h p) g above)) ∙ is)
  ]

  pub no_cluster_mapping : p.clusters.items ≡ [] → (g : ℕ) → mapping_of_cluster h p g ≡ None
  no_cluster_mapping none g =
      ap (λ (l : List ClusterMapping). cond (nat_le (cluster_of h p) g) (slice_get l (g - cluster_of h p)) None) none
      ∙ (elim (nat_le (cluster_of h p) g) as (λ (b : Bool). cond b (slice_get {X = ClusterMapping} [] (g - cluster_of h p)) None ≡ None) [ true ↦ refl | false ↦ refl ])

  pub mapping_here : (i : ℕ) → mapping_of_cluster h p (cluster_of h p + i) ≡ slice_get p.clusters.items i
  mapping_here i =
      let e : cluster_of h p + i - cluster_of h p ≡ i = omega arith in
      cond-true (nat_le (cluster_of h p) (cluster_of h p + i)) (slice_get p.clusters.items (cluster_of h p + i - cluster_of h p)) None (le-leb (cluster_of h p) (cluster_of h p + i) (omega arith)) ∙ ap (slice_get p.clusters.items) e

  -- a byte of the i-th guest cluster
  pub place_in : (o i : ℕ) → o / cluster_size h ≡ cluster_of h p + i → place_of h p o ≡ host_begin_of h p i + o % cluster_size h
  place_in o i here =
      let is : o / cluster_size h * cluster_size h + o % cluster_size h ≡ o = div-add-mod' o (cluster_size h) in
      let q : o / cluster_size h * cluster_size h ≡ (cluster_of h p + i) * cluster_size h = ap (λ n. n * cluster_size h) here in
      let r : (cluster_of h p + i) * cluster_size h ≡ cluster_of h p * cluster_size h + i * cluster_size h = omega arith in
      omega arith

  -- a byte of a range within it
  module _ {place : Place} (known on_storage : Bytes) (t : ℕ) (pending : IsPending h place known on_storage p t) (at i n : ℕ) (fits : at + n ≤ p.length) (lt : i < n) where
    abbrev within : ℕ
    within = p.guest % cluster_size h + at + i

    some_size : 0 < cluster_size h
    some_size = pow_pos h.cluster_bits

    byte_is : p.guest + at + i ≡ (cluster_of h p + within / cluster_size h) * cluster_size h + within % cluster_size h
    byte_is =
        let g_is : p.guest / cluster_size h * cluster_size h + p.guest % cluster_size h ≡ p.guest = div-add-mod' p.guest (cluster_size h) in
        let w_is : within / cluster_size h * cluster_size h + within % cluster_size h ≡ within = div-add-mod' within (cluster_size h) in
        let r : (cluster_of h p + within / cluster_size h) * cluster_size h ≡ cluster_of h p * cluster_size h + within / cluster_size h * cluster_size h = omega arith in
        omega arith

    pub byte_cluster : (p.guest + at + i) / cluster_size h ≡ cluster_of h p + within / cluster_size h
    byte_cluster = ap (λ o. o / cluster_size h) byte_is ∙ div-mul-add (cluster_of h p + within / cluster_size h) (cluster_size h) (within % cluster_size h) (mod_below within (cluster_size h) some_size)

    pub byte_rest : (p.guest + at + i) % cluster_size h ≡ within % cluster_size h
    byte_rest = ap (λ o. o % cluster_size h) byte_is ∙ mod-mul-add (cluster_of h p + within / cluster_size h) (cluster_size h) (within % cluster_size h) (mod_below within (cluster_size h) some_size)

    pub byte_place : p.offset + at + i ≡ host_begin_of h p (within / cluster_size h) + (p.guest + at + i) % cluster_size h
    byte_place =
        let w_is : within / cluster_size h * cluster_size h + within % cluster_size h ≡ within = div-add-mod' within (cluster_size h) in
        let begins = pending.begins in
        let rest = byte_rest in
        omega arith

    pub byte_of_mapping : within / cluster_size h < length p.clusters.items
    byte_of_mapping =
        let w_is : within / cluster_size h * cluster_size h + within % cluster_size h ≡ within = div-add-mod' within (cluster_size h) in
        let enough = pending.enough in
        elim (cases_lt (within / cluster_size h) (length p.clusters.items)) [
          | inl below ↦ below
          | inr past ↦
              let more : within / cluster_size h ≡ length p.clusters.items + (within / cluster_size h - length p.clusters.items) = omega arith in
              let q : within / cluster_size h * cluster_size h ≡ (length p.clusters.items + (within / cluster_size h - length p.clusters.items)) * cluster_size h = ap (λ n. n * cluster_size h) more in
              let r : (length p.clusters.items + (within / cluster_size h - length p.clusters.items)) * cluster_size h ≡ length p.clusters.items * cluster_size h + (within / cluster_size h - length p.clusters.items) * cluster_size h = omega arith in
              absurd (omega arith)
        ]

-- ---- the host cluster of a cluster that is entered
module _ (h : HeaderFields) (p : Prepared) (i first : ℕ) (place : first * cluster_size h ≡ host_begin_of h p i) where
  -- there is no cluster before the first one
  pub host_first : begin_of h p + p.guest % cluster_size h ≡ p.offset → p.offset / cluster_size h + i ≡ first
  host_first begins = elim (cases_lt first i) [
    | inl below ↦
        let some : 0 < cluster_size h = pow_pos h.cluster_bits in
        let more : i ≡ first + (i - first - 1) + 1 = omega arith in
        let q : i * cluster_size h ≡ (first + (i - first - 1) + 1) * cluster_size h = ap (λ n. n * cluster_size h) more in
        let r : (first + (i - first - 1) + 1) * cluster_size h ≡ first * cluster_size h + (i - first - 1) * cluster_size h + cluster_size h = omega arith in
        absurd (omega arith)
    | inr above ↦
        let less = mod_below p.guest (cluster_size h) (pow_pos h.cluster_bits) in
        let e : first ≡ (first - i) + i = omega arith in
        let q : first * cluster_size h ≡ ((first - i) + i) * cluster_size h = ap (λ n. n * cluster_size h) e in
        let r : ((first - i) + i) * cluster_size h ≡ (first - i) * cluster_size h + i * cluster_size h = omega arith in
        let is : p.offset ≡ (first - i) * cluster_size h + p.guest % cluster_size h = omega arith in
        let d : p.offset / cluster_size h ≡ first - i = ap (λ o. o / cluster_size h) is ∙ div-mul-add (first - i) (cluster_size h) (p.guest % cluster_size h) less in
        omega arith
  ]

  pub host_cluster : (o : ℕ) → (host_begin_of h p i + o % cluster_size h) / cluster_size h ≡ first
  host_cluster o = ap (λ n. (n + o % cluster_size h) / cluster_size h) (sym place) ∙ div-mul-add first (cluster_size h) (o % cluster_size h) (mod_below o (cluster_size h) (pow_pos h.cluster_bits))

-- a new cluster is held once
pub new_data_once : (first : ℕ) → to_free of_data (data_entry first 1 ∷ []) first ≡ 1
new_data_once first = let one = run_in first 1 first (omega arith) (omega arith) in omega arith

-- ---- private bytes

-- a byte whose cluster isn't in place
pub record IsShared (h : HeaderFields) (p : Prepared) (o : ℕ) : Type 0 where
  pub index : ℕ
  pub cluster_mapping : ClusterMapping
  pub here : o / cluster_size h ≡ cluster_of h p + index
  pub is : slice_get p.clusters.items index ≡ Some cluster_mapping
  pub entered : IsTrue (is_entered cluster_mapping)

shared_as : (h : HeaderFields) (p : Prepared) (o : ℕ) (m : Option ClusterMapping) → mapping_of_cluster h p (o / cluster_size h) ≡ m → IsTrue (option_map_or is_entered m false) → IsShared h p o
shared_as h p o None is private = absurd (let e : false ≡ true = private in cc)
shared_as h p o (Some cluster_mapping) is private = let there = mapping_there h p (o / cluster_size h) cluster_mapping is in record { index = there.0; cluster_mapping = cluster_mapping; here = sym there.1; is = there.2; entered = private }

module _ {S F : Type 0} (view : S → StorageView) (backing : F → BackingView) (image : Qcow2 S F) where
  abbrev h : HeaderFields
  h = image.file.header.fields

  pub private_shared : (p : Prepared) (o : ℕ) → IsTrue (is_private view backing image p o) → IsShared image.file.header.fields p o
  private_shared p o private = shared_as image.file.header.fields p o (mapping_of_cluster image.file.header.fields p (o / cluster_size image.file.header.fields)) refl private

  pub private_is : (p : Prepared) (o i : ℕ) (cluster_mapping : ClusterMapping) → o / cluster_size image.file.header.fields ≡ cluster_of image.file.header.fields p + i → slice_get p.clusters.items i ≡ Some cluster_mapping → is_private view backing image p o ≡ is_entered cluster_mapping
  private_is p o i cluster_mapping here is = ap (λ m. option_map_or is_entered m false) (ap (mapping_of_cluster image.file.header.fields p) here ∙ mapping_here image.file.header.fields p i ∙ is)

  -- a mapping with at least one cluster mapping isn't existing
  pub ready_table : (place : Place) (known on_storage : Bytes) (q : Prepared) (i : ℕ) (cluster_mapping : ClusterMapping) → slice_get q.clusters.items i ≡ Some cluster_mapping → IsReadyWith image.file.header.fields place known on_storage q q.table
      → (t : ℕ) × (q.table ≡ Some t) × IsPending image.file.header.fields place known on_storage q t
  ready_table place known on_storage q i cluster_mapping is ready = table_of q.table refl ready where
    table_of : (t : Option ℕ) → q.table ≡ t → IsReadyWith image.file.header.fields place known on_storage q t → (u : ℕ) × (q.table ≡ Some u) × IsPending image.file.header.fields place known on_storage q u
    table_of None at none = absurd (let e : Some cluster_mapping ≡ None = sym is ∙ ap (λ (l : List ClusterMapping). slice_get l i) none in cc)
    table_of (Some t) at pending = (t, at, pending)

-- a mapping without cluster mappings has no private bytes
pub never_private : {S F : Type 0} (view : S → StorageView) (backing : F → BackingView) (image : Qcow2 S F) (p : Prepared) → p.clusters.items ≡ [] → (o : ℕ) → is_private view backing image p o ≡ false
never_private view backing image p none o = ap (λ m. option_map_or is_entered m false) (no_cluster_mapping image.file.header.fields p none (o / cluster_size image.file.header.fields))

-- one of the mappings holds no more than all of them
pub over_all_at : (f : Prepared → ℕ → ℕ) (out : Mappings) (k : ℕ) (q : Prepared) → slice_get out.slots k ≡ Some (Some q) → (c : ℕ) → f q c ≤ over_all f out c
over_all_at f out k q at c = in_slot out.slots k at where
  in_slot : (slots : List (Option Prepared)) (k : ℕ) → slice_get slots k ≡ Some (Some q) → f q c ≤ over_slots f slots c
  in_slot [] k at = absurd cc
  in_slot (p ∷ slots) zero at = let is : p ≡ Some q = cc in subst (λ (m : Option Prepared). f q c ≤ option_map_or (λ r. f r c) m 0 + over_slots f slots c) (sym is) (omega arith)
  in_slot (p ∷ slots) (suc k) at = let rest = in_slot slots k at in omega arith

-- the host offset of a private byte lies in a cluster that its mapping holds, or that a zero entry keeps
pub data Standing (h : HeaderFields) (known : Bytes) (q : Prepared) (o : ℕ) : Type 0 where
  in_new : 0 < new_data_by q (place_of h q o / cluster_size h) → Standing h known q o
  in_kept : (host : ℕ) → cover h known (o / cluster_size h) ≡ Zero (Some (host, true)) → place_of h q o ≡ host + o % cluster_size h → Standing h known q o

module _ (h : HeaderFields) (known on_storage : Bytes) (q : Prepared) (o : ℕ) (shared : IsShared h q o) where
  place_there : place_of h q o ≡ host_begin_of h q shared.index + o % cluster_size h
  place_there = place_in h q o shared.index shared.here

  stands_as : (cluster_mapping : ClusterMapping) → IsTrue (is_entered cluster_mapping) → slice_get q.clusters.items shared.index ≡ Some cluster_mapping → IsClusterMappingAt h Image known on_storage q shared.index cluster_mapping → Standing h known q o
  stands_as InPlace entered is at = absurd (let e : false ≡ true = entered in cc)
  stands_as Kept entered is at = in_kept (host_begin_of h q shared.index) (ap (cover h known) shared.here ∙ at.entry) place_there
  stands_as (New taken old_data) entered is at =
      in_new (
      let there : place_of h q o / cluster_size h ≡ at.first = ap (λ n. n / cluster_size h) place_there ∙ host_cluster h q shared.index at.first at.place o in
      let one : to_free of_data taken at.first ≡ 1 = ap (λ l. to_free of_data l at.first) at.is ∙ new_data_once at.first in
      let all = new_data_at q.clusters.items shared.index taken old_data is at.first in
      subst (λ c. 0 < new_data_by q c) (sym there) (omega (arith, one, all)))

  pub stands_shared : IsReadyWith h Image known on_storage q q.table → Standing h known q o
  stands_shared ready = by_table q.table ready where
    by_table : (t : Option ℕ) → IsReadyWith h Image known on_storage q t → Standing h known q o
    by_table None none = absurd (let e : Some shared.cluster_mapping ≡ None = sym shared.is ∙ ap (λ (l : List ClusterMapping). slice_get l shared.index) none in cc)
    by_table (Some t) pending = stands_as shared.cluster_mapping shared.entered shared.is (pending.each shared.index shared.cluster_mapping shared.is)

-- a cluster that a zero entry keeps is used
pub kept_used : (s : DriverState) → StateInvariant s → s.header.incompatible ≡ 0 → (g host : ℕ) → cover s.header s.known g ≡ Zero (Some (host, true)) → 0 < over_guests s.header (names s.header s.known (host / cluster_size s.header))
kept_used s sound inside g host is =
    let named : names s.header s.known (host / cluster_size s.header) g ≡ in_cluster s.header (host / cluster_size s.header) host = names_inside s.header inside s.known (host / cluster_size s.header) g ∙ ap (named_by_cover s.header (host / cluster_size s.header)) is in
    let own = in_own s.header host in
    named_some s s sound (host / cluster_size s.header) g (omega arith)

-- no table is overlaid on what is used
pub used_unlaid : (s : DriverState) → StateInvariant s → (o : ℕ) → 0 < used_by_guests s (o / cluster_size s.header) → s.on_storage o ≡ s.known o
used_unlaid s sound o some = let t = (tied s.header s.pending s.on_storage s.known (o / cluster_size s.header)).known in sound.not_overlaid o (omega arith)

-- the place of a private byte of a prepared mapping is not overlaid
pub standing_used : (s : DriverState) → StateInvariant s → s.header.incompatible ≡ 0 → (q : Prepared) (o : ℕ) → new_data_by q (place_of s.header q o / cluster_size s.header) ≤ s.pending.new_data (place_of s.header q o / cluster_size s.header) → Standing s.header s.known q o
    → 0 < used_by_guests s (place_of s.header q o / cluster_size s.header)
standing_used s sound inside q o holds (in_new new_data) = omega arith
standing_used s sound inside q o holds (in_kept host is place) =
    let aligned = kept_aligned s sound inside (o / cluster_size s.header) host is in
    let here : place_of s.header q o / cluster_size s.header ≡ host / cluster_size s.header = ap (λ n. n / cluster_size s.header) place ∙ in_one (cluster_size s.header) host (o % cluster_size s.header) aligned (mod_below o (cluster_size s.header) (pow_pos s.header.cluster_bits)) in
    let used = kept_used s sound inside (o / cluster_size s.header) host is in
    subst (λ c. 0 < used_by_guests s c) (sym here) (omega arith)

module _ {S F : Type 0} (view : S → StorageView) (backing : F → BackingView) (image : Qcow2 S F) (out : Mappings) (p : Pending) (sound : ImageInvariant view backing p image out) where
  pub private_stands : (k : ℕ) (q : Prepared) → slice_get out.slots k ≡ Some (Some q) → (o : ℕ) → IsTrue (is_private view backing image q o) → Standing image.file.header.fields (known_in view image.file) q o
  private_stands k q at o private = stands_shared image.file.header.fields (known_in view image.file) (contents_in view image.file) q o (private_shared view backing image q o private) (ready_inside sound k q at)

  pub private_used : HoldsAll view backing p out → (k : ℕ) (q : Prepared) → slice_get out.slots k ≡ Some (Some q) → (o : ℕ) → IsTrue (is_private view backing image q o)
      → 0 < used_by_guests (state_in view image.file p) (place_of image.file.header.fields q o / cluster_size image.file.header.fields)
  private_used holds k q at o private =
      let place = place_of image.file.header.fields q o / cluster_size image.file.header.fields in
      let all = over_all_at new_data_by out k q at (place_of image.file.header.fields q o / cluster_size image.file.header.fields) in
      let new_data = holds (place_of image.file.header.fields q o / cluster_size image.file.header.fields) in
      standing_used (state_in view image.file p) sound.file.caches.kept.kept.crash_invariant (inside_of sound) q o (omega arith) (private_stands k q at o private)
