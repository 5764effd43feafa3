-- Why lookups and reads are refused, whatever the image contains.
use Rattle.std.proofs.Common.{◌≡◌, ◌+◌, ◌-◌, ◌/◌, ◌%◌, ◌≤◌, inl, inr, ℕ, Bool, sym, ap, ◌∙◌, subst, arith}
use Rattle.qcow2_image.proofs.Common.{cluster_size, EntryTableView, HeaderFields, HeaderView, L2TableView, ImageError, MetadataCaches, l2_at, named_place, HasUnalignedBehind, HasUnalignedEntry, HasUnalignedFrom, IsCompressedInTables, IsUnalignedIn, MayFailFinding, MayFailPuttingAt, MayFailReading, MayFailReadingFound, MayFailTelling, IsBegun, IsSpecial, KeepsHeld, MappingKind, Prepared, Qcow2, IsCompressed, mapping_of}

-- clusters after one by the table's size, of a range from an offset on
pub unaligned_from : (h : HeaderFields) (t : L2TableView) (offset n guest max : ℕ) → guest ≡ offset / cluster_size h → max ≡ n - (cluster_size h - offset % cluster_size h) → HasUnalignedBehind t guest max → HasUnalignedFrom h t offset n
unaligned_from h t offset n guest max at is (inl here) = inl (subst (IsUnalignedIn t) at here)
unaligned_from h t offset n guest max at is (inr later) = inr (later.0, let lt = later.1 in omega (arith, lt, is), subst (λ g. IsUnalignedIn t (g + later.0 + 1)) at later.2)

unaligned_more : (h : HeaderFields) (t : L2TableView) (offset m n : ℕ) → m ≤ n → HasUnalignedFrom h t offset m → HasUnalignedFrom h t offset n
unaligned_more h t offset m n le (inl here) = inl here
unaligned_more h t offset m n le (inr later) = inr (later.0, let lt = later.1 in omega (arith, lt, le), later.2)

module _ {S F : Type 0} where
  entry_more : (image : Qcow2 S F) (offset m n : ℕ) → m ≤ n → HasUnalignedEntry image offset m → HasUnalignedEntry image offset n
  entry_more image offset m n le is = (is.0, is.1, unaligned_more image.file.header.fields is.0 offset m n le is.2)

  -- a longer range
  pub finding_more : (old new : Qcow2 S F) (offset m n : ℕ) → m ≤ n → (e : ImageError) → MayFailFinding old new offset m e → MayFailFinding old new offset n e
  finding_more old new offset m n le e (inl (is, inl table)) = inl (is, inl table)
  finding_more old new offset m n le e (inl (is, inr entry)) = inl (is, inr (entry_more new offset m n le entry))
  finding_more old new offset m n le e (inr load) = inr load

  -- a call that began did the work, and a failure was marked
  module _ (old begun mid last : Qcow2 S F) (flag : Bool) (is : IsBegun old begun) (rest : last ≡ record mid { is_failed = flag }) (offset n : ℕ) (e : ImageError) where
    pub finding_call : MayFailFinding begun mid offset n e → MayFailFinding old last offset n e
    finding_call why =
        subst (λ (i : Qcow2 S F). MayFailFinding old i offset n e) (sym rest)
        (subst (λ (k : MetadataCaches S). MayFailFinding (record old { file = record old.file { storage = begun.file.storage; caches = k } }) mid offset n e) is.caches
        (subst (λ (i : Qcow2 S F). MayFailFinding i mid offset n e) is.rest why))

    pub putting_call : (p : Prepared) → MayFailPuttingAt begun mid p offset n e → MayFailPuttingAt old last p offset n e
    putting_call p why =
        subst (λ (i : Qcow2 S F). MayFailPuttingAt old i p offset n e) (sym rest)
        (subst (λ (k : MetadataCaches S). MayFailPuttingAt (record old { file = record old.file { storage = begun.file.storage; caches = k } }) mid p offset n e) is.caches
        (subst (λ (i : Qcow2 S F). MayFailPuttingAt i mid p offset n e) is.rest why))

    compressed_call : IsCompressedInTables mid offset → IsCompressedInTables last offset
    compressed_call is = subst (λ (i : Qcow2 S F). IsCompressedInTables i offset) (sym rest) (record { named = is.named; table = is.table; held = is.held; compressed = is.compressed })

    pub found_call : MayFailReadingFound begun mid offset n e → MayFailReadingFound old last offset n e
    found_call (inl (inl finding)) = inl (inl (finding_call finding))
    found_call (inl (inr outdated)) = inl (inr outdated)
    found_call (inr compressed) = inr (compressed.0, compressed_call compressed.1)

    pub telling_call : MayFailTelling begun mid offset n e → MayFailTelling old last offset n e
    telling_call (inl finding) = inl (finding_call finding)
    telling_call (inr compressed) = inr (compressed.0, compressed_call compressed.1)

  -- what the tables in memory map stays the same
  compressed_still : (old new : Qcow2 S F) (offset : ℕ) → KeepsHeld old new → IsCompressedInTables old offset → IsCompressedInTables new offset
  compressed_still old new offset keeps is =
      let h : HeaderFields = new.file.header.fields in
      let fields : h ≡ old.file.header.fields = ap (λ (v : HeaderView). v.fields) keeps.header in
      let same : named_place h new.l1_table offset ≡ named_place old.file.header.fields old.l1_table offset = ap (λ (x : HeaderFields). named_place x new.l1_table offset) fields ∙ ap (λ (t : EntryTableView). named_place old.file.header.fields t offset) keeps.l1_table in
      record {
        named = λ none. is.named (sym same ∙ none);
        table = is.table;
        held = ap (λ (k : MetadataCaches S). l2_at k (named_place h new.l1_table offset / cluster_size h)) keeps.caches ∙ ap (λ n. l2_at old.file.caches (n / cluster_size h)) same
            ∙ ap (λ (x : HeaderFields). l2_at old.file.caches (named_place old.file.header.fields old.l1_table offset / cluster_size x)) fields ∙ is.held;
        compressed = subst (λ (x : HeaderFields). IsCompressed (mapping_of is.table (offset / cluster_size x))) (sym fields) is.compressed;
      }

  -- bytes of a kind that was looked up are read
  pub reading_found : (old mid new : Qcow2 S F) (offset n : ℕ) (kind : MappingKind) → KeepsHeld mid new → (IsSpecial kind → IsCompressedInTables mid offset) → (e : ImageError) → MayFailReading kind e → MayFailReadingFound old new offset n e
  reading_found old mid new offset n kind keeps held e (inl fault) = inl (inl (inr (inr (inl fault))))
  reading_found old mid new offset n kind keeps held e (inr (inl compressed)) = inr (compressed.0, compressed_still mid new offset keeps (held compressed.1))
  reading_found old mid new offset n kind keeps held e (inr (inr outdated)) = inl (inr outdated.0)
