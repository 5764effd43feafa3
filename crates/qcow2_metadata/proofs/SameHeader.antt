-- The header depends only on the bytes of cluster 0.
use Rattle.std.proofs.Common.{◌≡◌, ◌≢◌, ◌+◌, ◌<◌, ◌≤◌, ◌==◌, ◌∷◌, if◌then◌else◌, ℕ, Bool, List, [], length, refl, sym, ap, ◌∙◌, subst, arith}
use Rattle.qcow2_metadata.proofs.Common.{IsUtf8, ext_get_or, length-map-range_with_len, get_or-map-range_with_len, Bytes, byte_at, bytes_from, number_at, HeaderFields, HeaderView, header, cluster_size, backing_name, IsInRange, IsExtension, AreExtensions, BackingNameReads, IsWellFormed, HeaderReads, behind_extension, IsHeaderOf, IsReasonToRefuse, IsReasonNotToRead, MetadataError, Unaligned, Limit, Format, bytes_at, byte_at-bytes_at}
use Rattle.qcow2_metadata.proofs.BigEndian.{number_at-same}

-- the bytes from one place to another are the same
abbrev pub SameBetween : ℕ → ℕ → Bytes → Bytes → Type 0
SameBetween low high b c = (i : ℕ) → low ≤ i → i < high → b i ≡ c i

abbrev pub SameBelow : ℕ → Bytes → Bytes → Type 0
SameBelow high b c = (i : ℕ) → i < high → b i ≡ c i

other_way : (low high : ℕ) (b c : Bytes) → SameBetween low high b c → SameBetween low high c b
other_way low high b c same i le lt = sym (same i le lt)

number-same : (low high : ℕ) (b c : Bytes) → SameBetween low high b c → (place k : ℕ) → low ≤ place → place + k ≤ high → number_at b place k ≡ number_at c place k
number-same low high b c same place k le fits = number_at-same b c place k (λ i lt. same (place + i) (omega arith) (omega arith))

bytes-same : (low high : ℕ) (b c : Bytes) → SameBetween low high b c → (place k : ℕ) → (k ≢ 0 → low ≤ place) → place + k ≤ high → bytes_from b place k ≡ bytes_from c place k
bytes-same low high b c same place k le fits =
    let len = length-map-range_with_len b place k in
    ext_get_or 0 _ _ (len ∙ sym (length-map-range_with_len c place k)) (λ i lt.
    let within : i < k = omega (arith, len) in
    let from : low ≤ place = le (omega arith) in
    get_or-map-range_with_len b place k i (place + i) 0 within refl
    ∙ same (place + i) (omega arith) (omega arith)
    ∙ sym (get_or-map-range_with_len c place k i (place + i) 0 within refl))

-- The bytes are the same, but for those of the size, the pointers and the autoclear bits.
abbrev pub SameElsewhere : Bytes → Bytes → Type 0
SameElsewhere b c =
    (i : ℕ) → i < 104 → (24 ≤ i → i < 32 → ⊥) → (36 ≤ i → i < 60 → ⊥) → (88 ≤ i → i < 96 → ⊥) → b i ≡ c i

pub header_after : (b c : Bytes) → SameElsewhere b c → header c ≡ record (header b) {
  size = number_at c 24 8;
  l1_entries = number_at c 36 4;
  l1_offset = number_at c 40 8;
  reftable_offset = number_at c 48 8;
  reftable_clusters = number_at c 56 4;
  autoclear = if number_at b 4 4 == 2 then 0 else number_at c 88 8;
}
unfolding header
header_after b c same =
    let n : (place k : ℕ) → ((i : ℕ) → i < k → (place + i < 104) × (24 ≤ place + i → place + i < 32 → ⊥) × (36 ≤ place + i → place + i < 60 → ⊥) × (88 ≤ place + i → place + i < 96 → ⊥)) → number_at b place k ≡ number_at c place k =
    λ place k apart. number_at-same b c place k (λ i lt. let a = apart i lt in same (place + i) a.0 a.1 a.2 a.3) in
    let magic = n 0 4 (λ i lt. (omega arith, λ a e. omega arith, λ a e. omega arith, λ a e. omega arith)) in
    let version = n 4 4 (λ i lt. (omega arith, λ a e. omega arith, λ a e. omega arith, λ a e. omega arith)) in
    let backing_offset = n 8 8 (λ i lt. (omega arith, λ a e. omega arith, λ a e. omega arith, λ a e. omega arith)) in
    let backing_length = n 16 4 (λ i lt. (omega arith, λ a e. omega arith, λ a e. omega arith, λ a e. omega arith)) in
    let cluster_bits = n 20 4 (λ i lt. (omega arith, λ a e. omega arith, λ a e. omega arith, λ a e. omega arith)) in
    let crypt_method = n 32 4 (λ i lt. (omega arith, λ a e. omega arith, λ a e. omega arith, λ a e. omega arith)) in
    let snapshots = n 60 4 (λ i lt. (omega arith, λ a e. omega arith, λ a e. omega arith, λ a e. omega arith)) in
    let snapshots_offset = n 64 8 (λ i lt. (omega arith, λ a e. omega arith, λ a e. omega arith, λ a e. omega arith)) in
    let incompatible = n 72 8 (λ i lt. (omega arith, λ a e. omega arith, λ a e. omega arith, λ a e. omega arith)) in
    let compatible = n 80 8 (λ i lt. (omega arith, λ a e. omega arith, λ a e. omega arith, λ a e. omega arith)) in
    let refcount_order = n 96 4 (λ i lt. (omega arith, λ a e. omega arith, λ a e. omega arith, λ a e. omega arith)) in
    let header_length = n 100 4 (λ i lt. (omega arith, λ a e. omega arith, λ a e. omega arith, λ a e. omega arith)) in
    cc

pub header-same : (b c : Bytes) → SameBelow 104 b c → header b ≡ header c
unfolding header
header-same b c same = grind (arith, number-same)

module _ (low limit : ℕ) (b c : Bytes) (same : SameBetween low limit b c) where
  extension-same : (place : ℕ) (e : ℕ × List ℕ) → low ≤ place → IsExtension b limit place e → IsExtension c limit place e
  extension-same place e from there = record {
    not_the_end = there.not_the_end;
    kind = sym (number-same low limit b c same place 4 from (omega (arith, there.inside))) ∙ there.kind;
    size = sym (number-same low limit b c same (place + 4) 4 (omega (arith, from)) (omega (arith, there.inside))) ∙ there.size;
    bytes = sym (bytes-same low limit b c same (place + 8) (length e.1) (λ _. omega (arith, from)) (omega (arith, there.inside))) ∙ there.bytes;
    inside = there.inside;
  }

  pub extensions-same : (list : List (ℕ × List ℕ)) (place : ℕ) → low ≤ place → AreExtensions b limit place list → AreExtensions c limit place list
  extensions-same [] place from stand = (stand.0, sym (number-same low limit b c same place 4 from (omega (arith, stand.0))) ∙ stand.1)
  extensions-same (e ∷ rest) place from stand = (extension-same place e from stand.0, stand.1, extensions-same rest (behind_extension place (length e.1)) (omega arith) stand.2)

-- what comes after the header in cluster 0 is the same
module _ (h : HeaderFields) (b c : Bytes) (same : SameBetween h.header_length (cluster_size h) b c) where
  name-same : BackingNameReads h b → h.backing_offset ≢ 0 → bytes_from b h.backing_offset h.backing_length ≡ bytes_from c h.backing_offset h.backing_length
  name-same reads some = bytes-same _ _ b c same h.backing_offset h.backing_length (reads.behind_header some) (reads.inside some)

  pub well_formed-same : IsWellFormed h b → IsWellFormed h c
  well_formed-same formed = record {
    in_range = formed.in_range;
    extensions = record { list = formed.extensions.list; stand = extensions-same _ _ b c same formed.extensions.list h.header_length (omega arith) formed.extensions.stand };
    backing_name = record {
      inside = formed.backing_name.inside;
      behind_header = formed.backing_name.behind_header;
      text = λ some. subst IsUtf8 (name-same formed.backing_name some) (formed.backing_name.text some);
    };
  }

  pub backing_name-same : BackingNameReads h b → backing_name h b ≡ backing_name h c
  unfolding backing_name
  backing_name-same reads = grind (arith, name-same)

  pub reads-same : HeaderReads h b → HeaderReads h c
  reads-same reads = record { well_formed = well_formed-same reads.well_formed; within_limits = reads.within_limits }

  pub is_header_of-same : (loaded : HeaderView) → IsHeaderOf loaded h b → IsHeaderOf loaded h c
  unfolding reads-same well_formed-same
  is_header_of-same loaded is = record {
    fields = is.fields;
    reads = reads-same is.reads;
    backing_name = is.backing_name ∙ backing_name-same is.reads.well_formed.backing_name;
    backing_format = is.backing_format;
    data_file_name = is.data_file_name;
  }

pub reason-same : (h : HeaderFields) (b c : Bytes) → SameBetween h.header_length (cluster_size h) b c → (writable : Bool) (e : MetadataError) → IsReasonToRefuse h b writable e → IsReasonToRefuse h c writable e
reason-same h b c same writable Format is = λ formed. is (well_formed-same h c b (other_way _ _ b c same) formed)
reason-same h b c same writable Limit is = (well_formed-same h b c same is.0, is.1)
reason-same h b c same writable Unaligned is = (reads-same h b c same is.0, is.1)
reason-same h b c same writable _ is = is

pub unread-same : (h : HeaderFields) (b c : Bytes) → SameBetween h.header_length (cluster_size h) b c → (e : MetadataError) → IsReasonNotToRead h b e → IsReasonNotToRead h c e
unread-same h b c same Format is = λ formed. is (well_formed-same h c b (other_way _ _ b c same) formed)
unread-same h b c same Limit is = (well_formed-same h b c same is.0, is.1)
unread-same h b c same _ is = is

-- a read of the first bytes
pub same_read : (contents buf : List ℕ) (n : ℕ) → buf ≡ bytes_at contents 0 n → SameBelow n (byte_at buf) (byte_at contents)
same_read contents buf n is i lt =
    let from_start : 0 + i ≡ i = omega arith in
    ap (λ (l : List ℕ). byte_at l i) is ∙ byte_at-bytes_at contents 0 n i lt ∙ ap (byte_at contents) from_start

pub header_read : (contents buf : List ℕ) → buf ≡ bytes_at contents 0 104 → header (byte_at buf) ≡ header (byte_at contents)
header_read contents buf is = header-same _ _ (same_read contents buf 104 is)

-- numbers out of range
pub not_formed : (h k : HeaderFields) (b : Bytes) → (IsInRange h → ⊥) → h ≡ k → IsWellFormed k b → ⊥
not_formed h k b out same formed = out (subst IsInRange (sym same) formed.in_range)

-- what was found in the first cluster, of the whole contents
module _ (contents buf : List ℕ) (h : HeaderFields) (is : buf ≡ bytes_at contents 0 (cluster_size h)) (fields : h ≡ header (byte_at contents)) where
  pub loaded : (v : HeaderView) → IsHeaderOf v h (byte_at buf) → IsHeaderOf v (header (byte_at contents)) (byte_at contents)
  loaded v there = subst (λ k. IsHeaderOf v k (byte_at contents)) fields (is_header_of-same h _ _ (λ i le. same_read contents buf _ is i) v there)

  pub refused : (writable : Bool) (e : MetadataError) → IsReasonToRefuse h (byte_at buf) writable e → IsReasonToRefuse (header (byte_at contents)) (byte_at contents) writable e
  refused writable e there = subst (λ k. IsReasonToRefuse k (byte_at contents) writable e) fields (reason-same h _ _ (λ i le. same_read contents buf _ is i) writable e there)

  pub reads : HeaderReads h (byte_at buf) → HeaderReads h (byte_at contents)
  reads there = reads-same h _ _ (λ i le. same_read contents buf _ is i) there

  pub unread : (e : MetadataError) → IsReasonNotToRead h (byte_at buf) e → IsReasonNotToRead (header (byte_at contents)) (byte_at contents) e
  unread e there = subst (λ k. IsReasonNotToRead k (byte_at contents) e) fields (unread-same h _ _ (λ i le. same_read contents buf _ is i) e there)
