-- The three clusters of a new image: before the header is written the storage holds no image, afterwards a new one.
use Rattle.std.proofs.Common.{◌≡◌, ◌+◌, ◌*◌, ◌/◌, ◌%◌, ◌^◌, ◌<◌, ◌≤◌, ◌++◌, ◌==◌, ◌&&◌, ◌||◌, if◌then◌else◌, inl, inr, ℕ, false, List, [], length, replicate, Option, sym, ap, ◌∙◌, subst, arith, lit<, is_some}
use Rattle.qcow2_image.proofs.Common.{unwrap_or, cases_lt, cond-false, ne_eqb, length-append, le-div, div-mul-add, mod-mul-add, overwritten, byte_at-overwritten_below, byte_at-overwritten_behind, byte_at, number_at, HeaderFields, HeaderView, HeaderReads, backing_format_kind, cluster_size, data_file_kind, count_width, counts_per_block, entries_per_cluster, reftable_entries, IsHeaderIn, numbers_of, bytes_of_numbers, extension_size, header_bytes, header_written, name_extension, name_place, new_fields, reftable_entry, block_count, EntryTableView, entry_count, RefBlockView, IsRefBlockAt, count_at, counts_of, entry_at, IsNewImage, Sizes, Sizes-from, reftable-same, block_count-moved, begins_image, IsNewHeader, CountsThree, NamesOne, IsThreeWith}
use Rattle.image_access.proofs.Bytes.{length-overwritten, length-overwritten_within}
use Rattle.qcow2_metadata.proofs.ReadBack.{length-name_extension, length-numbers}
use Rattle.qcow2_metadata.proofs.WrittenTables.{IsRefTableOf-written}

-- ---- before the header is there
abbrev pub IsBlank : List ℕ → Type 0
IsBlank c = (i : ℕ) → i < 4 → byte_at c i ≡ 0

no_magic : (c : List ℕ) → IsBlank c → number_at (byte_at c) 0 4 ≡ 0
unfolding number_at
no_magic c blank = omega (arith, blank 0 (lit< tt), blank 1 (lit< tt), blank 2 (lit< tt), blank 3 (lit< tt))

pub no_image : (c : List ℕ) → IsBlank c → begins_image (byte_at c) ≡ false
no_image c blank = ap (λ n. (n == 0x514649fb) && (number_at (byte_at c) 4 4 == 2 || number_at (byte_at c) 4 4 == 3)) (no_magic c blank)

pub blank_still : (c : List ℕ) (at : ℕ) (bytes : List ℕ) → 4 ≤ at → IsBlank c → IsBlank (overwritten c at bytes)
blank_still c at bytes far blank i lt = byte_at-overwritten_below c at bytes i (omega (arith, far, lt)) ∙ blank i lt

-- ---- with the header

-- it is as long as its names make it
written_length : (v : HeaderView) → length (header_bytes v) ≡ name_place v.backing_format v.data_file_name + length (unwrap_or v.backing_name [])
unfolding header_bytes
written_length v =
    let n : List ℕ = bytes_of_numbers (numbers_of v.fields) in
    let f : List ℕ = name_extension backing_format_kind v.backing_format in
    let d : List ℕ = name_extension data_file_kind v.data_file_name in
    let z : List ℕ = replicate 8 0 in
    let t : List ℕ = unwrap_or v.backing_name [] in
    let f_len : length (n ++ f) ≡ 104 + extension_size v.backing_format = omega (arith, length-append n f, length-numbers v.fields, length-name_extension backing_format_kind v.backing_format) in
    let d_len : length (n ++ f ++ d) ≡ 104 + extension_size v.backing_format + extension_size v.data_file_name = omega (arith, length-append (n ++ f) d, f_len, length-name_extension data_file_kind v.data_file_name) in
    omega (arith, length-append (n ++ f ++ d) z, length-append (n ++ f ++ d ++ z) t, d_len)

module _ (v : HeaderView) (new : IsNewHeader v) where
  abbrev h : HeaderFields
  h = v.fields

  fields : v.fields ≡ new_fields v.fields.cluster_bits v.fields.refcount_order v.backing_name v.backing_format v.data_file_name
  fields = ap (λ (w : HeaderView). w.fields) new.is

  header_fits : length (header_bytes v) ≤ cluster_size h
  header_fits = omega (arith, written_length v, new.names.room)

  -- written to an empty storage, the three clusters are all that it holds
  module _ (block : RefBlockView) (counts : CountsThree v.fields block) (t : EntryTableView) (names : NamesOne v.fields t) (c1 c2 : List ℕ) (first : c1 ≡ overwritten [] (2 * cluster_size v.fields) block.bytes)
      (second : c2 ≡ overwritten c1 (cluster_size v.fields) t.bytes) where
    first_length : length c1 ≡ 3 * cluster_size h
    first_length =
        let whole = counts.whole in
        let room = new.names.room in
        let longest = length-overwritten [] (2 * cluster_size h) block.bytes (omega (arith, whole, room)) in
        omega (arith, whole, longest, ap (λ (l : List ℕ). length l) first)

    second_length : length c2 ≡ 3 * cluster_size h
    second_length =
        let whole = names.whole in
        let long = first_length in
        let same = length-overwritten_within c1 (cluster_size h) t.bytes (omega (arith, whole, long)) in
        omega (arith, long, same, ap (λ (l : List ℕ). length l) second)

    pub three_with : IsThreeWith v (header_written v c2)
    three_with =
        let fits = header_fits in
        let long = second_length in
        let size = written_length v in
        record {
          ends = length-overwritten_within c2 0 (header_bytes v) (omega (arith, fits, long)) ∙ long;
          zeros = λ o past lt.
              byte_at-overwritten_behind c2 0 (header_bytes v) o (omega (arith, size, past)) ∙ ap (λ (l : List ℕ). byte_at l o) second ∙ byte_at-overwritten_below c1 (cluster_size h) t.bytes o lt
              ∙ ap (λ (l : List ℕ). byte_at l o) first ∙ byte_at-overwritten_below [] (2 * cluster_size h) block.bytes o (omega (arith, lt));
        }

  module _ (block : RefBlockView) (counts : CountsThree v.fields block) (t : EntryTableView) (names : NamesOne v.fields t) (c1 c2 : List ℕ) (first : IsRefBlockAt (byte_at c1) (2 * cluster_size v.fields) block)
      (second : c2 ≡ overwritten c1 (cluster_size v.fields) t.bytes) (there : IsHeaderIn v (header_written v c2)) where
    abbrev c3 : List ℕ
    c3 = header_written v c2

    reads : HeaderReads h (byte_at c3)
    reads = subst (λ (k : HeaderFields). HeaderReads k (byte_at c3)) (sym there.fields) there.reads

    sizes : Sizes h
    sizes = Sizes-from h (byte_at c3) reads

    offset : h.reftable_offset ≡ cluster_size h
    offset = ap (λ (f : HeaderFields). f.reftable_offset) fields

    clusters : h.reftable_clusters ≡ 1
    clusters = ap (λ (f : HeaderFields). f.reftable_clusters) fields

    -- all bytes after the header stay the same
    behind : (o : ℕ) → cluster_size h ≤ o → byte_at c3 o ≡ byte_at c2 o
    behind o past = let fits = header_fits in byte_at-overwritten_behind c2 0 (header_bytes v) o (omega (arith, fits, past))

    entries_are : reftable_entries h ≡ entry_count t
    entries_are =
        let whole = names.whole in
        let one : h.reftable_clusters * entries_per_cluster h ≡ 1 * entries_per_cluster h = ap (λ n. n * entries_per_cluster h) clusters in
        omega (arith, whole, one)

    not_first : (o k : ℕ) → o / cluster_size h ≡ (h.reftable_offset + 8 * k) / cluster_size h → cluster_size h ≤ o
    not_first o k in_c = elim (cases_lt o (cluster_size h)) [
      | inl low ↦
          let some = sizes.some in
          let one : 1 ≤ (h.reftable_offset + 8 * k) / cluster_size h = le-div 1 (h.reftable_offset + 8 * k) (cluster_size h) some (omega (arith, offset)) in
          let e : o ≡ 0 * cluster_size h + o = omega arith in
          let none : o / cluster_size h ≡ 0 = ap (λ n. n / cluster_size h) e ∙ div-mul-add 0 (cluster_size h) o low in
          absurd (omega (arith, one, none, in_c))
      | inr past ↦ past
    ]

    entry_is : (k : ℕ) → reftable_entry h (byte_at c3) k ≡ entry_at t.bytes k
    entry_is k =
        let whole = names.whole in
        let some = sizes.some in
        let once : h.reftable_offset ≡ 1 * cluster_size h + 0 = omega (arith, offset) in
        let aligned : h.reftable_offset % cluster_size h ≡ 0 = ap (λ n. n % cluster_size h) once ∙ mod-mul-add 1 (cluster_size h) 0 some in
        reftable-same h (byte_at c3) (byte_at c2) k sizes aligned (λ lt o in_c. behind o (not_first o k in_c))
        ∙ ap (λ (l : List ℕ). reftable_entry h (byte_at l) k) second
        ∙ sym (IsRefTableOf-written h c1 (cluster_size h) t (omega (arith, whole)) (offset, entries_are) k)

    count_is : (i : ℕ) → i < counts_per_block h → block_count (byte_at c3) (count_width h) (2 * cluster_size h) i ≡ count_at block i
    count_is i lt =
        let width : 2 ^ block.refcount_order ≡ count_width h = ap (λ n. 2 ^ n) counts.order in
        let many : counts_of block ≡ counts_per_block h = ap (λ n. n * 8 / 2 ^ block.refcount_order) (ap (λ n. 2 ^ n) counts.bits) ∙ ap (λ n. cluster_size h * 8 / n) width in
        block_count-moved h (byte_at c3) (byte_at c1) (2 * cluster_size h) (2 * cluster_size h) i sizes lt (λ k within.
        behind (2 * cluster_size h + k) (omega arith) ∙ ap (λ (l : List ℕ). byte_at l (2 * cluster_size h + k)) second
        ∙ byte_at-overwritten_behind c1 (cluster_size h) t.bytes (2 * cluster_size h + k) (let whole = names.whole in let eights = sizes.eights in omega (arith, whole, eights)))
        ∙ ap (λ n. block_count (byte_at c1) n (2 * cluster_size h) i) (sym width) ∙ sym (first i (subst (λ n. i < n) (sym many) lt))

    pub is_new_image : IsNewImage h (byte_at c3)
    is_new_image = record {
      header_is = sym there.fields;
      reads = reads;
      no_l1_table = (ap (λ (f : HeaderFields). f.l1_entries) fields, ap (λ (f : HeaderFields). f.l1_offset) fields);
      reftable_offset = offset;
      reftable_clusters = clusters;
      no_snapshots = ap (λ (f : HeaderFields). f.snapshots) fields;
      no_data_file = ap (λ (f : HeaderFields). f.incompatible) fields ∙ ap (λ (d : Option (List ℕ)). if is_some d then 4 else 0) new.own_data;
      refblock = entry_is 0 ∙ names.entries 0;
      no_other = λ k other. entry_is k ∙ names.entries k ∙ cond-false {A = ℕ} (k == 0) (2 * cluster_size h) 0 (ne_eqb k 0 other);
      counts = λ i lt. count_is i lt ∙ counts.counts i;
    }
