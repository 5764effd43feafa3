-- Empty caches.
use Rattle.std.proofs.Common.{◌≡◌, ◌==◌, ℕ, inl, [], refl, sym, ap, subst}
use Rattle.qcow2_alloc.proofs.Common.{Bytes, HeaderFields, cluster_size, has_data_file, known, Neither, Pending, CrashInvariant, known_bytes, MetadataCaches, HasFormat, order_of, known_of, CacheInvariant}

-- no table is laid over the bytes
pub known_empty : (size : ℕ) (b : Bytes) → known_bytes size [] [] b ≡ b
unfolding known
known_empty size b = refl

same_format : (g h : HeaderFields) → g ≡ h → HasFormat g h
same_format g h same = record { bits = ap (λ f. f.cluster_bits) same; order = ap (λ f. f.refcount_order) same; zero_bit = ap (λ f. f.version == 3) same; external = ap (λ f. has_data_file f) same }

module _ {S : Type 0} (h : HeaderFields) (caches : MetadataCaches S) (l2 : caches.l2.entries ≡ []) (rb : caches.rb.entries ≡ []) where
  pub known_of_empty : (on_storage : Bytes) → known_of h caches on_storage ≡ on_storage
  known_of_empty on_storage = rw (l2, rb) (known_empty (cluster_size h) on_storage)

  pub sound_empty : caches.l2.backend.header.fields ≡ h → caches.rb.backend.header.fields ≡ h → order_of caches ≡ Neither
      → (p : Pending) (on_storage : Bytes) → CrashInvariant h Neither p on_storage on_storage → CacheInvariant h p caches on_storage
  sound_empty l2_header rb_header none p on_storage crash_invariant = record {
    l2_format = same_format caches.l2.backend.header.fields h l2_header;
    rb_format = same_format caches.rb.backend.header.fields h rb_header;
    l2_fit = rw l2 tt;
    rb_fit = rw rb tt;
    kept = rw (l2, rb, none) (record {
      kept = record {
        crash_invariant = subst (CrashInvariant h Neither p on_storage) (sym (known_empty (cluster_size h) on_storage)) crash_invariant;
        l2_apart = tt;
        rb_apart = tt;
        l2_stand = λ c. inl (λ o _. tt);
        rb_stand = λ c. inl (λ o _. tt);
      };
      l2_loaded = tt;
      rb_loaded = tt;
    });
  }
