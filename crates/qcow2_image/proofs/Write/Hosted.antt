-- Where the bytes of a prepared mapping lie: each has an offset of its own in the file, outside of cluster 0.
use Rattle.std.proofs.Common.{◌≡◌, ◌+◌, ◌/◌, ◌%◌, ◌<◌, ◌≤◌, inl, inr, ℕ, true, List, refl, sym, ap, ◌∙◌, subst, arith, Option, Some, None, get_or}
use Rattle.qcow2_image.proofs.Common.{slice_get, div-eq_of_lt, cases_lt, pow_pos, slice_get-get_or, BackingView, StorageView, Bytes, HeaderFields, cluster_size, cover, in_cluster, named_for_tables, AreDataAt, Pending, Hosting, IsHostedAt, IsHeld, DriverState, in_own, beside_tables, shares, ClustersToFreeEntry, state_in, contents_in, known_in, Qcow2, Prepared, ClusterMapping, InPlace, Kept, New, to_free, of_data, new_data_by, pending_in, cluster_of, mapping_of_cluster, host_begin_of, IsNewAt, IsClusterMappingAt, IsPending, IsReadyWith, ImageInvariant, Mappings, Image}
use Rattle.qcow2_laws.specs.GuestLaws.{InPlace as HostedInPlace, Kept as HostedKept, Held as HostedHeld}
use Rattle.qcow2_image.proofs.Images.ClusterMappings.{byte_cluster, byte_place, byte_of_mapping, new_data_at, new_data_once, host_cluster, no_cluster_mapping, over_all_at, mapping_here}
use Rattle.qcow2_image.proofs.Images.Places.{inside_of, ready_inside}

-- each byte of a guest cluster has a place of its own, by its cluster mapping
abbrev pub hosted_as : Option ClusterMapping → Hosting
hosted_as None = HostedInPlace
hosted_as (Some InPlace) = HostedInPlace
hosted_as (Some Kept) = HostedKept
hosted_as (Some (New taken old_data)) = HostedHeld

abbrev pub hosting_in : HeaderFields → Prepared → ℕ → Hosting
hosting_in h q o = hosted_as (mapping_of_cluster h q (o / cluster_size h))

-- a place in a cluster that has no table lies past cluster 0
pub behind_tables : (h : HeaderFields) (b : Bytes) (place : ℕ) → named_for_tables h b (place / cluster_size h) ≡ 0 → cluster_size h ≤ place
behind_tables h b place none = elim (cases_lt place (cluster_size h)) [
  | inr behind ↦ behind
  | inl first ↦
      let zero : place / cluster_size h ≡ 0 = div-eq_of_lt first in
      let s = shares h b 0 in
      let at : 0 / cluster_size h ≡ 0 = let size = pow_pos h.cluster_bits in omega (arith, size) in
      let one : in_cluster h 0 0 ≡ 1 = ap (λ n. in_cluster h n 0) (sym at) ∙ in_own h 0 in
      let here : named_for_tables h b 0 ≡ 0 = ap (named_for_tables h b) (sym zero) ∙ none in
      absurd (omega (arith, s, one, here))
]

module _ {S F : Type 0} (view : S → StorageView) (backing : F → BackingView) (old : Qcow2 S F) (out : Mappings) (sound : ImageInvariant view backing (pending_in view backing old out) old out)
    (n k : ℕ) (q : Prepared) (at : ℕ) (placed : slice_get out.slots k ≡ Some (Some q)) (fits : at + n ≤ q.length) (in_place : q.table ≡ None → AreDataAt old.file.header.fields (known_in view old.file) true (q.guest + at) (q.offset + at) n) where
  abbrev before : Pending
  before = pending_in view backing old out

  abbrev s : DriverState
  s = state_in view old.file before

  abbrev h : HeaderFields
  h = old.file.header.fields

  abbrev size : ℕ
  size = cluster_size h

  -- a new cluster of it is held
  new_data_mine : (j : ℕ) (taken old_data : List ClustersToFreeEntry) → slice_get q.clusters.items j ≡ Some (New taken old_data) → (stands : IsNewAt h s.known s.on_storage q j taken old_data) → 0 < new_data_by q stands.first
  new_data_mine j taken old_data is_cluster_mapping stands =
      let one : to_free of_data taken stands.first ≡ 1 = ap (λ l. to_free of_data l stands.first) stands.is ∙ new_data_once stands.first in
      let mine = new_data_at q.clusters.items j taken old_data is_cluster_mapping stands.first in
      omega (arith, one, mine)

  hosted_mapping : (i j : ℕ) (cluster_mapping : ClusterMapping) → (q.guest + at + i) / size ≡ cluster_of h q + j → q.offset + at + i ≡ host_begin_of h q j + (q.guest + at + i) % size → slice_get q.clusters.items j ≡ Some cluster_mapping → IsClusterMappingAt h Image s.known s.on_storage q j cluster_mapping
      → IsHostedAt s (hosted_as (Some cluster_mapping)) (q.guest + at + i) (q.offset + at + i) × (IsHeld (hosted_as (Some cluster_mapping)) → 0 < new_data_by q ((q.offset + at + i) / size))
  hosted_mapping i j InPlace here place is_cluster_mapping stands = ((host_begin_of h q j, ap (cover h s.known) here ∙ stands, sym place), λ never. absurd never)
  hosted_mapping i j Kept here place is_cluster_mapping stands = ((host_begin_of h q j, ap (cover h s.known) here ∙ stands.entry, sym place), λ never. absurd never)
  hosted_mapping i j (New taken old_data) here place is_cluster_mapping stands =
      let there : (q.offset + at + i) / size ≡ stands.first = ap (λ n. n / size) place ∙ host_cluster h q j stands.first stands.place (q.guest + at + i) in
      let mine = new_data_mine j taken old_data is_cluster_mapping stands in
      let all = over_all_at new_data_by out k q placed stands.first in
      (subst (λ c. 0 < before.new_data c) (sym there) (omega (arith, mine, all)), λ _. subst (λ c. 0 < new_data_by q c) (sym there) mine)

  hosts_pending : (t : ℕ) → IsPending h Image s.known s.on_storage q t → (i : ℕ) → i < n
      → IsHostedAt s (hosting_in h q (q.guest + at + i)) (q.guest + at + i) (q.offset + at + i) × (IsHeld (hosting_in h q (q.guest + at + i)) → 0 < new_data_by q ((q.offset + at + i) / size))
  hosts_pending t pending i lt =
      let j = (q.guest % size + at + i) / size in
      let here = byte_cluster h q s.known s.on_storage t pending at i n fits lt in
      let found = slice_get-get_or q.clusters.items ((q.guest % size + at + i) / size) InPlace (byte_of_mapping h q s.known s.on_storage t pending at i n fits lt) in
      let cluster_mapping = get_or q.clusters.items ((q.guest % size + at + i) / size) InPlace in
      subst (λ (x : Option ClusterMapping). IsHostedAt s (hosted_as x) (q.guest + at + i) (q.offset + at + i) × (IsHeld (hosted_as x) → 0 < new_data_by q ((q.offset + at + i) / size)))
      (sym (ap (mapping_of_cluster h q) here ∙ mapping_here h q ((q.guest % size + at + i) / size) ∙ found)) (hosted_mapping i j cluster_mapping here (byte_place h q s.known s.on_storage t pending at i n fits lt) found (pending.each j cluster_mapping found))

  pub hosted_with : (t : Option ℕ) → q.table ≡ t → IsReadyWith h Image s.known s.on_storage q t → (i : ℕ) → i < n
      → IsHostedAt s (hosting_in h q (q.guest + at + i)) (q.guest + at + i) (q.offset + at + i) × (IsHeld (hosting_in h q (q.guest + at + i)) → 0 < new_data_by q ((q.offset + at + i) / size))
  hosted_with None none ready i lt =
      subst (λ (x : Option ClusterMapping). IsHostedAt s (hosted_as x) (q.guest + at + i) (q.offset + at + i) × (IsHeld (hosted_as x) → 0 < new_data_by q ((q.offset + at + i) / size)))
      (sym (no_cluster_mapping h q ready ((q.guest + at + i) / size))) (in_place none i lt, λ never. absurd never)
  hosted_with (Some t) some pending i lt = hosts_pending t pending i lt

  pub all_hosted : (i : ℕ) → i < n → IsHostedAt s (hosting_in h q (q.guest + at + i)) (q.guest + at + i) (q.offset + at + i)
  all_hosted i lt = (hosted_with q.table refl (ready_inside sound k q placed) i lt).0

  pub hosts_no_table : (i : ℕ) → i < n → named_for_tables h (contents_in view old.file) ((q.offset + at + i) / size) ≡ 0
  hosts_no_table i lt = beside_tables s (hosting_in h q (q.guest + at + i)) (q.guest + at + i) (q.offset + at + i) sound.file.caches.kept.kept.crash_invariant (inside_of sound) (all_hosted i lt)

  -- so do all of them
  pub hosts_behind_header : (i : ℕ) → i < n → cluster_size old.file.header.fields ≤ q.offset + at + i
  hosts_behind_header i lt = behind_tables h (contents_in view old.file) (q.offset + at + i) (hosts_no_table i lt)
