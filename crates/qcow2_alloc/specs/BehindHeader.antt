-- No cached table lies in the header's cluster, cluster 0.
use Rattle.std.specs.Prelude.{ℕ, ◌≡◌, None}
use Rattle.qcow2_alloc.specs.MetadataCaches.{l2_at, rb_at}
use Rattle.qcow2_alloc.specs.declared.cache.MetadataCaches.{MetadataCaches}

module _ {S : Type 0} where
  -- No cached table lies in cluster 0, and clusters have this size.
  pub record LeaveHeaderCluster (bits : ℕ) (caches : MetadataCaches S) : Type 0 where
    pub l2_bits : caches.l2.backend.header.fields.cluster_bits ≡ bits
    pub rb_bits : caches.rb.backend.header.fields.cluster_bits ≡ bits
    pub tables : l2_at caches 0 ≡ None
    pub blocks : rb_at caches 0 ≡ None

  -- A call of the caches keeps cached tables out of cluster 0.
  abbrev pub KeepBehindHeader : MetadataCaches S → MetadataCaches S → Type 0
  KeepBehindHeader caches caches' = (bits : ℕ) → LeaveHeaderCluster bits caches → LeaveHeaderCluster bits caches'
