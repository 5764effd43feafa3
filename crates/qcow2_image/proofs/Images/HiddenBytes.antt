-- Bytes that are private to a prepared mapping are hidden from stops, unless a zero entry keeps their host cluster.
use Rattle.std.proofs.Common.{◌≡◌, ◌⊎◌, ◌+◌, ◌/◌, inl, inr, ℕ, true, false, List, Option, Some, IsTrue, sym, ap, ◌∙◌, subst}
use Rattle.qcow2_image.proofs.Common.{slice_get, option_map_or, BackingView, StorageView, cover, header, cluster_size, HeaderFields, Zero, IsHiddenIn, DriverState, known_header, state_in, known_in, Qcow2, Prepared, ClusterMapping, InPlace, Kept, New, pending_in, meaning, host_begin_of, is_entered, is_new, is_private, is_hidden, mapping_of_cluster, IsClusterMappingAt, ImageInvariant, Mappings, Image}
use Rattle.qcow2_image.proofs.Images.ClusterMappings.{private_shared, ready_table, mapping_here}
use Rattle.qcow2_image.proofs.Images.Places.{ready_inside}

module _ {S F : Type 0} (view : S → StorageView) (backing : F → BackingView) (image : Qcow2 S F) (out : Mappings) (sound : ImageInvariant view backing (pending_in view backing image out) image out) where
  abbrev s : DriverState
  s = state_in view image.file (pending_in view backing image out)

  -- the header is that of the known bytes
  pub header_is : header (known_in view image.file) ≡ image.file.header.fields
  header_is = known_header s sound.file.caches.kept.kept.crash_invariant

  module _ (k : ℕ) (q : Prepared) (placed : slice_get out.slots k ≡ Some (Some q)) (o : ℕ) where
    abbrev IsHere : Type 0
    IsHere = IsTrue (is_hidden view backing image q o) ⊎ ((host : ℕ) × (cover s.header s.known (o / cluster_size s.header) ≡ Zero (Some (host, true))))

    hidden_as : (i : ℕ) (cluster_mapping : ClusterMapping) → mapping_of_cluster s.header q (o / cluster_size s.header) ≡ Some cluster_mapping → cover s.header s.known (o / cluster_size s.header) ≡ cover s.header s.known (q.guest / cluster_size s.header + i)
        → IsTrue (is_entered cluster_mapping) → IsClusterMappingAt s.header Image s.known s.on_storage q i cluster_mapping → IsHere
    hidden_as i InPlace is here entered at = absurd (let e : false ≡ true = entered in cc)
    hidden_as i Kept is here entered at = inr (host_begin_of s.header q i, here ∙ at.entry)
    hidden_as i (New taken old_data) is here entered at = inl (ap (λ m. option_map_or is_new m false) is)

    hidden_at : IsTrue (is_private view backing image q o) → IsHere
    hidden_at private =
        let shared = private_shared view backing image q o private in
        let pending = (ready_table view backing image Image s.known s.on_storage q shared.index shared.cluster_mapping shared.is (ready_inside sound k q placed)).2 in
        hidden_as shared.index shared.cluster_mapping (ap (mapping_of_cluster s.header q) shared.here ∙ mapping_here s.header q shared.index ∙ shared.is) (ap (cover s.header s.known) shared.here) shared.entered (pending.each shared.index shared.cluster_mapping shared.is)

  pub hidden_in : (k : ℕ) (q : Prepared) → slice_get out.slots k ≡ Some (Some q) → IsHiddenIn (header (known_in view image.file)) (known_in view image.file) (meaning view backing out.place image q)
  hidden_in k q placed = subst (λ (h : HeaderFields). IsHiddenIn h (known_in view image.file) (meaning view backing out.place image q)) (sym header_is) (λ o private. hidden_at k q placed o private)
