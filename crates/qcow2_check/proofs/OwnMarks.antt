-- Copied marks, by offset and by cluster: each mark is on a cluster with one reference and refcount 1 exactly if each cluster with a mark is such a one.
use Rattle.std.proofs.Common.{◌≡◌, ◌≢◌, ◌/◌, ◌&&◌, ℕ, Bool, eqb, Some, refl, subst}
use Rattle.qcow2_check.proofs.Common.{IsTrue, eq-eqb, Bytes, HeaderFields, cluster_size, count, named, IsOwn, CopiedIsOwn, L2Mapping, Data, Zero, marked_at, marks_of_cover, and_from, and_parts, eqb-true}
use Rattle.qcow2_check.proofs.Terms.{one_if-some, true_from_some}

module _ (h : HeaderFields) (b : Bytes) where
  -- the cluster is named once and counted once
  abbrev pub IsOwnCluster : ℕ → Type 0
  IsOwnCluster q = (named h b q ≡ 1) × (count h b q ≡ 1)

  pub own_place : (place : ℕ) (copied : Bool) → ((q : ℕ) → marked_at h q place copied ≢ 0 → IsOwnCluster q) → IsTrue copied → IsOwn h b place
  own_place place copied each is = each (place / cluster_size h) (one_if-some _ (and_from _ _ (eq-eqb (place / cluster_size h) (place / cluster_size h) refl) is))

  pub place_own : (place : ℕ) (copied : Bool) → (IsTrue copied → IsOwn h b place) → (q : ℕ) → marked_at h q place copied ≢ 0 → IsOwnCluster q
  place_own place copied own q some =
      let test = true_from_some (eqb (place / cluster_size h) q && copied) some in
      subst IsOwnCluster (eqb-true _ _ ((and_parts _ _ test).0)) (own ((and_parts (eqb (place / cluster_size h) q) copied test).1))

  pub own_cover : (cover : L2Mapping) → ((q : ℕ) → marks_of_cover h q cover ≢ 0 → IsOwnCluster q) → CopiedIsOwn h b cover
  own_cover (Data host copied) each = own_place host copied each
  own_cover (Zero (Some k)) each = own_place k.0 k.1 each
  own_cover _ each = tt

  pub cover_own : (cover : L2Mapping) → CopiedIsOwn h b cover → (q : ℕ) → marks_of_cover h q cover ≢ 0 → IsOwnCluster q
  cover_own (Data host copied) own q some = place_own host copied own q some
  cover_own (Zero (Some k)) own q some = place_own k.0 k.1 own q some
  cover_own _ own q some = absurd (some refl)
