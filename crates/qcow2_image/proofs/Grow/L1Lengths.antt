-- The number of L1 entries after the parts of a call.
use Rattle.std.proofs.Common.{◌≡◌, ◌+◌, ◌-◌, ◌*◌, ◌/◌, ◌%◌, ◌^◌, ◌<◌, ◌≤◌, inl, inr, ℕ, List, Option, max, sym, ap, ◌∙◌, subst, arith}
use Rattle.qcow2_image.proofs.Common.{div-zero, cases_lt, div-add-mod', div-mul-add, mod_below, pow_pos, BackingView, StorageView, HeaderFields, l1_entry, EntryTableView, entry_count, HeaderView, cluster_size, entries_per_cluster, rounded_up, entry_at, Pending, KeepsFormat, div_mono, contents_in, Qcow2, Prepared, l1_index_of, FitsSize, ImageInvariant, ReachesOffset, ReachingStays, HasOwnTable, KeepsL1Place, MovesTables, NamesOwn, Mappings}

-- a table that stays where it is does so where a header is the same
pub place_same : (h : HeaderFields) (v v' : HeaderView) → v' ≡ v → KeepsL1Place h v.fields → KeepsL1Place h v'.fields
place_same h v v' same kept = subst (λ (x : HeaderView). KeepsL1Place h x.fields) (sym same) kept

-- ---- offsets
pub index_moved : (h h' : HeaderFields) (offset : ℕ) → MovesTables h h' → l1_index_of h' offset ≡ l1_index_of h offset
index_moved h h' offset file_step = ap (λ (x : HeaderFields). l1_index_of x offset) file_step

pub index_rising : (h : HeaderFields) (a b : ℕ) → a ≤ b → l1_index_of h a ≤ l1_index_of h b
index_rising h a b le = elim (cases_lt 0 (entries_per_cluster h)) [
  | inl rows ↦ div_mono (a / cluster_size h) (b / cluster_size h) (entries_per_cluster h) rows (div_mono a b (cluster_size h) (pow_pos h.cluster_bits) le)
  | inr none ↦
      let no_rows : entries_per_cluster h ≡ 0 = omega (arith, none) in
      let first : l1_index_of h a ≡ 0 = ap (λ n. a / cluster_size h / n) no_rows ∙ div-zero (a / cluster_size h) in
      omega (arith, first)
]

-- a table that is made as long as a larger size asks for has no more entries than that
pub fits_grown : (h h' : HeaderFields) (size : ℕ) → FitsSize h → h.size < size → h'.cluster_bits ≡ h.cluster_bits → h'.size ≡ size → ReachesOffset (size - 1) h h' → FitsSize h'
fits_grown h h' size fits larger bits size_is reaches = (
  λ none. absurd (omega (arith, larger, size_is, none)),
  λ some.
      let index : l1_index_of h' (h'.size - 1) ≡ l1_index_of h (size - 1) = ap (λ n. l1_index_of h' (n - 1)) size_is ∙ ap (λ b. (size - 1) / 2 ^ b / (2 ^ b / 8)) bits in
      let few : h.l1_entries ≤ l1_index_of h (size - 1) + 1 = elim (cases_lt 0 h.size) [
        | inl any ↦ let is = fits.1 any in let rising = index_rising h (h.size - 1) (size - 1) (omega (arith, larger)) in omega (arith, is, rising)
        | inr le ↦ let is = fits.0 (omega (arith, le)) in omega (arith, is)
      ] in
      omega (arith, reaches, index, few),
)

-- the last bytes of a size and of its last cluster lie in one cluster
pub last_cluster : (cs n : ℕ) → 0 < cs → 0 < n → (rounded_up cs n - 1) / cs ≡ (n - 1) / cs
last_cluster cs n some any =
    let k = (n - 1) / cs in
    let parts : (n - 1) / cs * cs + (n - 1) % cs ≡ n - 1 = div-add-mod' (n - 1) cs in
    let below = mod_below (n - 1) cs some in
    let at : n + cs - 1 ≡ (k + 1) * cs + (n - 1) % cs = omega (arith, parts, any, some) in
    let up : (n + cs - 1) / cs ≡ (n - 1) / cs + 1 = ap (λ x. x / cs) at ∙ div-mul-add (k + 1) cs ((n - 1) % cs) below in
    let end : rounded_up cs n - 1 ≡ (n - 1) / cs * cs + (cs - 1) = let e : rounded_up cs n ≡ (k + 1) * cs = ap (λ x. x * cs) up in omega (arith, e, some) in
    ap (λ x. x / cs) end ∙ div-mul-add k cs (cs - 1) (omega (arith, some))

-- ---- parts, one after another
pub reaching_stays_then : (h h' h'' : HeaderFields) (to : ℕ) → MovesTables h h' → ReachingStays to h h' → ReachingStays to h' h'' → ReachingStays to h h''
reaching_stays_then h h' h'' to file_step first then within =
    let same = first within in
    let entries = same.1 in
    let index = index_moved h h' (to - 1) file_step in
    let is = then (omega (arith, within, entries, index)) in
    (is.0 ∙ same.0, is.1 ∙ entries)

pub reaching_stays_shorter : (h h' : HeaderFields) (mid to : ℕ) → mid ≤ to → ReachingStays mid h h' → ReachingStays to h h'
reaching_stays_shorter h h' mid to le stays within =
    let rising = index_rising h (mid - 1) (to - 1) (omega (arith, le)) in
    stays (omega (arith, within, rising))

-- one that reaches an offset and stays does so where it reached further
pub reaching_stays : (h h' : HeaderFields) (offset to entries : ℕ) → offset < to → entries ≡ h.l1_entries → (l1_index_of h offset < entries → KeepsL1Place h h') → ReachingStays to h h'
reaching_stays h h' offset to entries lt count stays within =
    let rising = index_rising h offset (to - 1) (omega (arith, lt)) in
    stays (omega (arith, count, within, rising))

-- where a call began, only the reftable may have moved
pub reaches_begun : (h h' h'' : HeaderFields) (offset : ℕ) → KeepsFormat h h' → ReachesOffset offset h' h'' → ReachesOffset offset h h''
reaches_begun h h' h'' offset keeps is = is ∙ ap (λ (x : HeaderFields). max x.l1_entries (l1_index_of x offset + 1)) keeps

-- one that reaches the last byte of a size reaches that of its last cluster, and stays
pub reaches_end : (h h' : HeaderFields) (size : ℕ) → 0 < size → MovesTables h h' → ReachesOffset (size - 1) h h' → l1_index_of h' (rounded_up (cluster_size h') size - 1) < h'.l1_entries
reaches_end h h' size any file_step is =
    let index = index_moved h h' (size - 1) file_step in
    let last : l1_index_of h' (rounded_up (cluster_size h') size - 1) ≡ l1_index_of h' (size - 1) = ap (λ x. x / entries_per_cluster h') (last_cluster (cluster_size h') size (pow_pos h'.cluster_bits) any) in
    omega (arith, is, index, last)

pub reaches_on : (h h' h'' : HeaderFields) (size : ℕ) → 0 < size → MovesTables h h' → ReachesOffset (size - 1) h h' → ReachingStays (rounded_up (cluster_size h') size) h' h'' → ReachesOffset (size - 1) h h''
reaches_on h h' h'' size any file_step is stays = (stays (reaches_end h h' size any file_step is)).1 ∙ is

module _ {S F : Type 0} (view : S → StorageView) (backing : F → BackingView) (out : Mappings) where
  -- the headers say what the L1 tables in memory have
  pub reaches_told : (p p' : Pending) (old new : Qcow2 S F) (offset : ℕ) → ImageInvariant view backing p old out → ImageInvariant view backing p' new out → entry_count new.l1_table ≡ max (entry_count old.l1_table) (l1_index_of old.file.header.fields offset + 1)
      → ReachesOffset offset old.file.header.fields new.file.header.fields
  reaches_told p p' old new offset was is length =
      let a = was.l1_table.count in
      let b = is.l1_table.count in
      omega (arith, a, b, length)

  -- the L2 table that an L1 entry names on the storage, marked copied, is one of its own still once clusters were freed
  pub own_after : (p : Pending) (mid freed : Qcow2 S F) → ImageInvariant view backing p mid out → (offset index : ℕ) → l1_index_of mid.file.header.fields offset ≡ index → NamesOwn (l1_entry mid.file.header.fields (contents_in view mid.file) index)
      → freed.l1_table ≡ mid.l1_table → freed.file.header ≡ mid.file.header → HasOwnTable freed offset
  own_after p mid freed sound offset index at own table header =
      let here : NamesOwn (entry_at mid.l1_table.bytes index) = subst NamesOwn (sym (sound.l1_table.entries index)) own in
      let same : l1_index_of freed.file.header.fields offset ≡ index = ap (λ (v : HeaderView). l1_index_of v.fields offset) header ∙ at in
      subst (λ (t : EntryTableView). NamesOwn (entry_at t.bytes (l1_index_of freed.file.header.fields offset))) (sym table) (subst (λ i. NamesOwn (entry_at mid.l1_table.bytes i)) (sym same) here)
