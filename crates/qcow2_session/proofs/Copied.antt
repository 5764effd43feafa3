-- What a write leaves: copied data, in the image's own file.
use Rattle.std.proofs.Common.{◌≡◌, ◌+◌, ◌-◌, ◌*◌, ◌/◌, ◌%◌, ◌^◌, ◌<◌, ◌≤◌, ◌∷◌, ⊎_elim, inl, inr, ℕ, Bool, true, false, Option, Some, None, List, [], drop, length, take, is_some, refl, sym, ap, ◌∙◌, subst, arith, Ok, not}
use Rattle.qcow2_image.specs.Found.{kind_in}
use Rattle.qcow2_session.proofs.Common.{IsSome, common_steps, div-div-eq-div-mul, cases_lt, cond-false, le-ltb, div-add-mod', div-mul-add, mod_below, pow_pos, BackingView, StorageView, Bytes, cover, cluster_size, entries_per_cluster, HeaderFields, L2Mapping, Data, Zero, Compressed, Uncovered, Setting, AreDataAt, IsAlike, IsDataAt, EffectOnSound, raw, rest_of_table, given_of, is_copied_data, IsRightlyWritten, GivenBytes, IsUngiven, Touches, contents_in, known_in, IsEntryAt, ShowsKnown, header_is, l1_index_of, mapping_of, abstract_of, meaning, pending_in, ImageInvariant, is_beside, guest_offset_of, length_of, offset_of, IsAnswered, Prepares, StandsByPart, LeavesCopied, Writes, ReleasesOneMapping, Qcow2, Prepared, Mappings}
use Rattle.std.proofs.Math.Pow.{shr_mono}
use Rattle.qcow2_metadata.specs.Entries.{host_offset, l1_entry}
use Rattle.qcow2_alloc.proofs.KeptTables.Mapping.{shown_if}
use Rattle.qcow2_image.proofs.Map.Looked.{cached_says}
use Rattle.qcow2_image.specs.CallParts.{AreCopied}
use Rattle.qcow2_image.specs.HeldMappings.{IsHeldAs, IsMappedByNamed, named_place}
use Rattle.qcow2_image.proofs.Preallocate.FilledGrowth.{up_least}
use Rattle.qcow2_session.proofs.WrittenParts.{writes_none, writes_on}
use Rattle.qcow2_image.specs.Found.{is_data_file}
use Rattle.qcow2_image.specs.declared.mapping.MappingKind.TheVariants.{Raw}
use Rattle.qcow2_image.specs.declared.mapping.Place.{Place}

-- what is reported as writable is copied data there
record IsCopiedFrom (h : HeaderFields) (offset place : ℕ) (m : L2Mapping) : Type 0 where
  host : ℕ
  is : m ≡ Data host true
  place_is : host + offset % cluster_size h ≡ place

raw_copied : (h : HeaderFields) (external is_beside is_backed : Bool) (offset place : ℕ) (m : L2Mapping) → raw external place true ≡ kind_in h is_beside is_backed offset m → IsCopiedFrom h offset place m
raw_copied h external is_beside is_backed offset place (Data host copied) is =
    let marked : true ≡ copied = cc in
    let there : place ≡ host + offset % cluster_size h = cc in
    record { host = host; is = ap (Data host) (sym marked); place_is = sym there }
raw_copied h external is_beside is_backed offset place (Zero kept) is = absurd cc
raw_copied h external is_beside is_backed offset place (Compressed host sectors) is = absurd cc
raw_copied h external is_beside true offset place Uncovered is = absurd cc
raw_copied h external is_beside false offset place Uncovered is = absurd cc

same_host : (host other : ℕ) (copied : Bool) → Data host copied ≡ Data other true → (host ≡ other) × (copied ≡ true)
same_host host other copied is = (cc, cc)

-- so does what is mapped like it
alike_copied : (distance host : ℕ) (a b : L2Mapping) → IsAlike distance a b → a ≡ Data host true → b ≡ Data (host + distance) true
alike_copied distance host (Data first copied) (Data next marked) alike is =
    let same = same_host first host copied is in
    ap (λ n. Data n marked) (alike.0 ∙ ap (λ n. n + distance) same.0) ∙ ap (Data (host + distance)) (alike.1 ∙ same.1)
alike_copied distance host (Data first copied) (Zero kept) alike is = absurd alike
alike_copied distance host (Data first copied) (Compressed next sectors) alike is = absurd alike
alike_copied distance host (Data first copied) Uncovered alike is = absurd alike
alike_copied distance host (Zero kept) b alike is = absurd (let no : false ≡ true = ap is_copied_data is in cc)
alike_copied distance host (Compressed place sectors) b alike is = absurd (let no : false ≡ true = ap is_copied_data is in cc)
alike_copied distance host Uncovered b alike is = absurd (let no : false ≡ true = ap is_copied_data is in cc)

-- so it is of guest byte o
abbrev pub IsCopiedAt : HeaderFields → Bytes → ℕ → Type 0
IsCopiedAt h known o = is_copied_data (cover h known (o / cluster_size h)) ≡ true

-- an L1 entry that names a table is one of the L1 table
entry_none : (h : HeaderFields) (b : Bytes) (i : ℕ) → h.l1_entries ≤ i → l1_entry h b i ≡ 0
unfolding l1_entry
entry_none h b i past = cond-false _ _ _ (le-ltb i h.l1_entries past)

is_below : (h : HeaderFields) (b : Bytes) (i : ℕ) → (host_offset (l1_entry h b i) ≡ 0 → ⊥) → i < h.l1_entries
is_below h b i real = elim (cases_lt i h.l1_entries) [ inl lt ↦ lt | inr past ↦ absurd (real (ap host_offset (entry_none h b i past))) ]

-- what lies within the reach of an offset's L2 table has the same L1 entry
pub same_index : (h : HeaderFields) (offset i : ℕ) → i < rest_of_table h offset → l1_index_of h (offset + i) ≡ l1_index_of h offset
same_index h offset i lt =
    let whole = cluster_size h * entries_per_cluster h in
    let split : offset / whole * whole + offset % whole ≡ offset = div-add-mod' offset whole in
    let e : offset + i ≡ offset / whole * whole + (offset % whole + i) = omega (arith, split) in
    div-div-eq-div-mul (offset + i) (cluster_size h) (entries_per_cluster h) ∙ ap (λ n. n / whole) e ∙ div-mul-add (offset / whole) whole (offset % whole + i) (omega (arith, lt))
    ∙ sym (div-div-eq-div-mul offset (cluster_size h) (entries_per_cluster h))

-- an L2 table that reaches past an offset has entries
has_entries : (h : HeaderFields) (offset i : ℕ) → i < rest_of_table h offset → 0 < entries_per_cluster h
has_entries h offset i lt = elim (cases_lt 0 (entries_per_cluster h)) [
  | inl some ↦ some
  | inr least ↦
      let none : entries_per_cluster h ≡ 0 = omega (arith, least) in
      let all : cluster_size h * entries_per_cluster h ≡ 0 = ap (λ n. cluster_size h * n) none ∙ omega arith in
      absurd (omega (arith, lt, all))
]

-- a byte of data that is marked copied
data_copied : (h : HeaderFields) (known : Bytes) (o place : ℕ) → IsDataAt h known true o place → IsCopiedAt h known o
data_copied h known o place is = ap is_copied_data is.1

module _ {S F : Type 0} (view : S → StorageView) where
  -- the guest clusters that a range touches are those of its bytes
  pub clusters_copied : (image : Qcow2 S F) (offset n : ℕ) → 0 < n → ((i : ℕ) → i < n → IsCopiedAt image.file.header.fields (known_in view image.file) (offset + i)) → AreCopied view offset (offset + n) image
  clusters_copied image offset n some each g first last =
      let h = image.file.header.fields in
      let size = cluster_size h in
      let known = known_in view image.file in
      elim (cases_lt offset (g * size)) [
        | inl behind ↦
            let whole : offset + (g * size - offset) ≡ g * size + 0 = omega (arith, behind) in
            let here : (offset + (g * size - offset)) / size ≡ g = ap (λ o. o / size) whole ∙ div-mul-add g size 0 (pow_pos h.cluster_bits) in
            subst (λ k. is_copied_data (cover h known k) ≡ true) here (each (g * size - offset) (omega (arith, behind, last)))
        | inr within ↦
            let split : offset + 0 ≡ g * size + (offset - g * size) = omega (arith, within) in
            let here : (offset + 0) / size ≡ g = ap (λ o. o / size) split ∙ div-mul-add g size (offset - g * size) (omega (arith, first, within)) in
            subst (λ k. is_copied_data (cover h known k) ≡ true) here (each 0 some)
      ]

  module _ (backing : F → BackingView) (image : Qcow2 S F) (out : Mappings) (sound : ImageInvariant view backing (pending_in view backing image out) image out) where
    abbrev h : HeaderFields
    h = image.file.header.fields

    abbrev known : Bytes
    known = known_in view image.file

    abbrev on_storage : Bytes
    on_storage = contents_in view image.file

    module _ (offset : ℕ) where
      abbrev index : ℕ
      index = l1_index_of h offset

      -- the L1 table in memory is the one on the storage, and the known one
      named_there : host_offset (l1_entry h on_storage index) ≡ named_place h image.l1_table offset
      named_there = ap host_offset (sym (sound.l1_table.entries index))

      named_known : host_offset (l1_entry h known index) ≡ named_place h image.l1_table offset
      named_known = ap host_offset (sym (sound.file.caches.kept.kept.crash_invariant.same_top.l1 index)) ∙ named_there

      -- so each entry of the L2 table that it names is a known one
      named_at : ¬ (named_place h image.l1_table offset ≡ 0) → (column : ℕ) → column < entries_per_cluster h → IsEntryAt h known index (named_place h image.l1_table offset / cluster_size h) column
      named_at named column lt =
          let place = named_place h image.l1_table offset in
          let below = is_below h on_storage index (λ none. named (sym named_there ∙ none)) in
          let aligned : place % cluster_size h ≡ 0 = ap (λ n. n % cluster_size h) (sym named_there) ∙ sound.file.caches.kept.kept.crash_invariant.top.l2_tables_aligned index below in
          let split = div-add-mod' place (cluster_size h) in
          record { real = λ none. named (sym named_known ∙ none); place = named_known ∙ omega (arith, split, aligned); within = lt }

    -- a byte of a range that the tables in memory map as copied data is copied data in the known contents
    held_data : (file : Place) (offset place n i : ℕ) → IsHeldAs image offset (Raw file place true) n → i < n → IsDataAt h known true (offset + i) (place + i)
    held_data file offset place n i held lt = ⊎_elim
        (λ none. absurd (let no : false ≡ true = ap is_copied_data (raw_copied h (is_data_file file) (is_beside image) (is_some image.backing) offset place Uncovered none.kind_is).is in cc)) (λ by. by_table by)
        held.mapped
      where
        by_table : IsMappedByNamed h (is_beside image) (is_some image.backing) image.l1_table image.file.caches offset (Raw file place true) n → IsDataAt h known true (offset + i) (place + i)
        by_table by =
            let t = by.table in
            let size = cluster_size h in
            let within = held.within in
            let reach : i < rest_of_table h offset = omega (arith, lt, within) in
            let shows : ShowsKnown image.file.caches (named_place h image.l1_table offset / size) t = shown_if image.file.caches (named_place h image.l1_table offset / size) (Some t) (sym by.held) in
            let at = λ (g : ℕ). named_at offset by.named (g % entries_per_cluster h) (mod_below g (entries_per_cluster h) (has_entries h offset i reach)) in
            let bits = (shows h (pending_in view backing image out) (contents_in view image.file) (l1_index_of h offset) (offset / size % entries_per_cluster h) sound.file.caches (at (offset / size))).format.bits in
            let says = λ (g : ℕ) (here : g / entries_per_cluster h ≡ l1_index_of h offset). cached_says view image.file (pending_in view backing image out) t (named_place h image.l1_table offset / size) (l1_index_of h offset) g sound.file shows (at g) here in
            let first = raw_copied h (is_data_file file) (is_beside image) (is_some image.backing) offset place (mapping_of t (offset / size)) by.mapped.first in
            let there = first.place_is in
            let begins = div-add-mod' offset size in
            let ends = div-add-mod' (offset + i) size in
            let behind : offset / size ≤ (offset + i) / size = shr_mono h.cluster_bits (omega arith) in
            elim (cases_lt (offset / size) ((offset + i) / size)) [
              | inl after ↦
                  let k = (offset + i) / size - offset / size - 1 in
                  let is : (offset + i) / size ≡ offset / size + (k + 1) = omega (arith, after) in
                  let far : (offset + i) / size * size ≡ offset / size * size + k * size + size = ap (λ q. q * size) is ∙ omega arith in
                  let bytes : k * 2 ^ t.cluster_bits ≡ k * size = ap (λ b. k * 2 ^ b) bits in
                  let one : 2 ^ t.cluster_bits ≡ size = ap (λ b. 2 ^ b) bits in
                  let short : size - offset % size + k * 2 ^ t.cluster_bits < n = omega (arith, begins, ends, far, bytes, lt) in
                  let distance = (k + 1) * 2 ^ t.cluster_bits in
                  let stood : mapping_of t ((offset + i) / size) ≡ Data (first.host + distance) true =
                  ap (mapping_of t) is ∙ alike_copied distance first.host (mapping_of t (offset / size)) (mapping_of t (offset / size + (k + 1))) (by.mapped.alike k short) first.is in
                  (first.host + distance, sym (says ((offset + i) / size) (same_index h offset i reach)) ∙ stood, omega (arith, begins, ends, far, bytes, one, there))
              | inr same ↦
                  let is : offset / size ≡ (offset + i) / size = omega (arith, same, behind) in
                  let whole : offset / size * size ≡ (offset + i) / size * size = ap (λ q. q * size) is in
                  (first.host, sym (says ((offset + i) / size) (same_index h offset i reach)) ∙ ap (mapping_of t) (sym is) ∙ first.is, omega (arith, begins, ends, whole, there))
            ]

    -- so does the range that was put at the begin of a mapping, once that was let go
    pub kept_data : (new : Qcow2 S F) (file : Place) (offset place m n : ℕ) → m ≡ n → ReleasesOneMapping view image new → IsHeldAs image (offset + 0) (Raw file (place + 0) true) m → AreDataAt new.file.header.fields (known_in view new.file) true offset place n
    kept_data new file offset place m n long released held i lt =
        let begin : offset + 0 + i ≡ offset + i = omega arith in
        let at : place + 0 + i ≡ place + i = omega arith in
        subst (λ (f : HeaderFields). IsDataAt f (known_in view new.file) true (offset + i) (place + i)) (sym (ap (λ (q : Qcow2 S F). q.file.header.fields) released.rest))
        (subst (λ (b : Bytes). IsDataAt h b true (offset + i) (place + i)) (sym released.known)
        (subst (λ o. IsDataAt h known true o (place + i)) begin (subst (IsDataAt h known true (offset + 0 + i)) at (held_data file (offset + 0) (place + 0) m i held (omega (arith, lt, long))))))

-- a mapping is existing, or it isn't
pub existing_or_not : {X : Type 0} (table : Option ℕ) → (table ≡ None → X) → (IsSome table → X) → X
existing_or_not None existing not = existing refl
existing_or_not (Some t) existing not = not refl

module _ {S F : Type 0} (view : S → StorageView) (backing : F → BackingView) (old new : Qcow2 S F) (out : Mappings) where
  -- clusters stay as large
  pub same_size : {given : List GivenBytes} {asked : List ℕ} → EffectOnSound (abstract_of view backing old out) (abstract_of view backing new out) given asked → cluster_size new.file.header.fields ≡ cluster_size old.file.header.fields
  same_size effect = ap (λ (x : Setting). x.cluster_size) effect.setting

  -- by the headers of the images, the mapping of a guest cluster stays the same if no byte of it is given
  pub kept_cover : ImageInvariant view backing (pending_in view backing old out) old out → ImageInvariant view backing (pending_in view backing new out) new out → {given : List GivenBytes} {asked : List ℕ}
      → EffectOnSound (abstract_of view backing old out) (abstract_of view backing new out) given asked → (g : ℕ) → IsUngiven (cluster_size old.file.header.fields) given g
      → cover old.file.header.fields (known_in view old.file) g ≡ cover new.file.header.fields (known_in view new.file) g
  kept_cover sound sound' effect g untouched =
      ap (λ (h : HeaderFields). cover h (known_in view old.file) g) (sym (header_is view backing old out sound))
      ∙ effect.beside sound' g untouched
      ∙ ap (λ (h : HeaderFields). cover h (known_in view new.file) g) (header_is view backing new out sound')

module _ {S F : Type 0} (view : S → StorageView) (backing : F → BackingView) (old new : Qcow2 S F) (out : Mappings)
    (sound : ImageInvariant view backing (pending_in view backing old out) old out) (sound' : ImageInvariant view backing (pending_in view backing new out) new out) where
  -- what a part of a write leaves is still copied data after the next part
  range_on : (offset at done count : ℕ) (bytes : List ℕ) → at ≡ offset + done → EffectOnSound (abstract_of view backing old out) (abstract_of view backing new out) (given_of at bytes ∷ []) []
      → AreCopied view offset (offset + done) old → AreCopied view at (at + count) new → AreCopied view offset (offset + (done + count)) new
  range_on offset at done count bytes there effect before next g first last =
      let size = cluster_size new.file.header.fields in
      let same : size ≡ cluster_size old.file.header.fields = same_size view backing old new out effect in
      elim (cases_lt at (g * size + size)) [
        | inl touched ↦ next g touched (omega (arith, last, there))
        | inr past ↦
            let times : g * size ≡ g * cluster_size old.file.header.fields = ap (λ n. g * n) same in
            let known = kept_cover view backing old new out sound sound' effect g ((λ touched. let lies = touched.1 in omega (arith, lies, past, same, times)), tt) in
            subst (λ (m : L2Mapping). is_copied_data m ≡ true) known (before g (omega (arith, first, same, times)) (omega (arith, past, there, same, times, cluster_some)))
      ]
    where
      cluster_some : 0 < cluster_size old.file.header.fields
      cluster_some = pow_pos old.file.header.fields.cluster_bits

  -- all copied data lie where they lay, if those that a part touches do
  stay_beside : (offset : ℕ) (bytes : List ℕ) → EffectOnSound (abstract_of view backing old out) (abstract_of view backing new out) (given_of offset bytes ∷ []) []
      → ((g host : ℕ) → Touches (cluster_size old.file.header.fields) offset (offset + length bytes) g → cover old.file.header.fields (known_in view old.file) g ≡ Data host true → cover new.file.header.fields (known_in view new.file) g ≡ Data host true)
      → (g host : ℕ) → cover old.file.header.fields (known_in view old.file) g ≡ Data host true → cover new.file.header.fields (known_in view new.file) g ≡ Data host true
  stay_beside offset bytes effect touched g host is =
      let size = cluster_size old.file.header.fields in
      let beside : (Touches size offset (offset + length bytes) g → ⊥) → cover new.file.header.fields (known_in view new.file) g ≡ Data host true = λ never. sym (kept_cover view backing old new out sound sound' effect g (never, tt)) ∙ is in
      elim (cases_lt offset (offset + length bytes)) [
        | inr none ↦ beside (λ t. let some = t.0 in omega (arith, some, none))
        | inl some ↦ elim (cases_lt offset (g * size + size)) [
          | inr past ↦ beside (λ t. let low = t.1 in omega (arith, low, past))
          | inl low ↦ elim (cases_lt (g * size) (offset + length bytes)) [ inl high ↦ touched g host (some, low, high) is | inr before ↦ beside (λ t. let high = t.2 in omega (arith, high, before)) ]
        ]
      ]

-- a byte of a cluster that a range touches
byte_of : (h : HeaderFields) (offset n g : ℕ) → Touches (cluster_size h) offset (offset + n) g → (i : ℕ) × (i < n) × ((offset + i) / cluster_size h ≡ g)
byte_of h offset n g touched =
    let size = cluster_size h in
    let some = touched.0 in
    let low = touched.1 in
    let high = touched.2 in
    elim (cases_lt offset (g * size)) [
      | inl behind ↦
          let whole : offset + (g * size - offset) ≡ g * size + 0 = omega (arith, behind) in
          (g * size - offset, omega (arith, behind, high), ap (λ o. o / size) whole ∙ div-mul-add g size 0 (pow_pos h.cluster_bits))
      | inr within ↦
          let split : offset + 0 ≡ g * size + (offset - g * size) = omega (arith, within) in
          (0, omega (arith, some), ap (λ o. o / size) split ∙ div-mul-add g size (offset - g * size) (omega (arith, low, within)))
    ]

-- a cluster lies where it lay if one byte of it does
byte_stays : (h h' : HeaderFields) (known known' : Bytes) (g host o place : ℕ) → cluster_size h' ≡ cluster_size h → o / cluster_size h ≡ g → cover h known g ≡ Data host true → IsDataAt h known true o place → IsDataAt h' known' true o place → cover h' known' g ≡ Data host true
byte_stays h h' known known' g host o place size here is was now =
    let before = same_host was.0 host true (sym was.1 ∙ ap (cover h known) here ∙ is) in
    let there : o / cluster_size h' ≡ g = ap (λ s. o / s) size ∙ here in
    let rest : o % cluster_size h' ≡ o % cluster_size h = ap (λ s. o % s) size in
    let first = before.0 in
    let a = was.2 in
    let b = now.2 in
    let same : now.0 ≡ host = omega (arith, first, a, b, rest) in
    ap (cover h' known') (sym there) ∙ now.1 ∙ ap (λ n. Data n true) same

module _ {S F : Type 0} (view : S → StorageView) (backing : F → BackingView) (old mid new : Qcow2 S F) (out : Mappings)
    (sound : ImageInvariant view backing (pending_in view backing old out) old out) (sound' : ImageInvariant view backing (pending_in view backing new out) new out) where
  -- the first part of a write: a mapping was prepared and put, and its first bytes are copied data at its place
  pub part_copied : (offset : ℕ) (p : Prepared) (bytes chunk : List ℕ) → 0 < length chunk → length chunk ≤ length_of p → guest_offset_of p ≡ offset
      → IsAnswered old.file.header.fields (known_in view old.file) offset (length bytes) mid.file.header.fields (known_in view mid.file) p (meaning view backing out.place mid p)
      → Prepares view backing old mid offset (length bytes) true (Ok p) → EffectOnSound (abstract_of view backing old out) (abstract_of view backing new out) (given_of offset chunk ∷ []) []
      → AreDataAt new.file.header.fields (known_in view new.file) true offset (offset_of p) (length chunk) → LeavesCopied view backing old new offset bytes (length chunk)
  part_copied offset p bytes chunk some fits begins answered prepares effect stood =
      let here : offset ≡ offset + 0 = omega arith in
      let all : length bytes ≡ length bytes - 0 = omega arith in
      record {
        range = clusters_copied view new offset (length chunk) some (λ i lt. data_copied new.file.header.fields (known_in view new.file) (offset + i) (offset_of p + i) (stood i lt));
        placed = λ i lt. record {
          done = 0;
          mapping = p;
          part = record {
            before = old;
            written = λ out. writes_none (abstract_of view backing old out) offset bytes;
            begun = λ none. refl;
            ready = mid;
            prepares = subst (λ o. Prepares view backing old mid o (length bytes - 0) true (Ok p)) here (subst (λ k. Prepares view backing old mid offset k true (Ok p)) all prepares);
          };
          from = omega arith;
          to = omega (arith, lt, fits);
          stands = let at : i ≡ i - 0 = omega arith in subst (λ k. IsDataAt new.file.header.fields (known_in view new.file) true (offset + i) (offset_of p + k)) at (stood i lt);
        };
        stay = stay_beside view backing old new out sound sound' offset chunk effect (λ g host touched is.
            let h = old.file.header.fields in
            let size = cluster_size h in
            let known = known_in view old.file in
            let m = meaning view backing out.place mid p in
            let at = byte_of h offset (length chunk) g touched in
            let lt = at.1 in
            let copied : is_copied_data (cover h known ((offset + at.0) / size)) ≡ true = ap (λ k. is_copied_data (cover h known k)) at.2 ∙ ap is_copied_data is in
            let down = div-add-mod' (guest_offset_of p) size in
            let up = up_least size (guest_offset_of p + length_of p) (pow_pos h.cluster_bits) in
            let visible : m.is_private (offset + at.0) ≡ false = answered.private (offset + at.0) (omega (arith, down, begins)) (omega (arith, up, begins, lt, fits)) ∙ ap not copied in
            byte_stays h new.file.header.fields known (known_in view new.file) g host (offset + at.0) (offset_of p + at.0) (same_size view backing old new out effect) at.2 is (answered.in_place at.0 (omega (arith, lt, fits)) visible) (stood at.0 lt));
      }

module _ {S F : Type 0} (view : S → StorageView) (backing : F → BackingView) (begin old new : Qcow2 S F) (out : Mappings)
    (sound : ImageInvariant view backing (pending_in view backing old out) old out) (sound' : ImageInvariant view backing (pending_in view backing new out) new out) where
  -- one part after others
  pub copied_on : (offset at done count : ℕ) (bytes : List ℕ) → done ≤ length bytes → at ≡ offset + done → Writes view backing begin old offset (take done bytes) (Ok tt) → 0 < done
      → EffectOnSound (abstract_of view backing old out) (abstract_of view backing new out) (given_of at (take count (drop done bytes)) ∷ []) []
      → LeavesCopied view backing begin old offset bytes done → LeavesCopied view backing old new at (drop done bytes) count → LeavesCopied view backing begin new offset bytes (done + count)
  copied_on offset at done count bytes le there so_far later effect before next = record {
    range = range_on view backing old new out sound sound' offset at done count (take count (drop done bytes)) there effect before.range next.range;
    placed = λ i lt. elim (cases_lt i done) [ inl first ↦ placed_before i (before.placed i first) | inr behind ↦ placed_behind i behind (next.placed (i - done) (omega (arith, lt, behind))) ];
    stay = λ g host is. next.stay g host (before.stay g host is);
  }
    where
      size : cluster_size new.file.header.fields ≡ cluster_size old.file.header.fields
      size = same_size view backing old new out effect

      placed_before : (i : ℕ) → StandsByPart view backing begin old offset bytes i → StandsByPart view backing begin new offset bytes i
      placed_before i is = record {
        done = is.done;
        mapping = is.mapping;
        part = is.part;
        from = is.from;
        to = is.to;
        stands = (
          is.stands.0,
          ap (λ s. cover new.file.header.fields (known_in view new.file) ((offset + i) / s)) size ∙ next.stay ((offset + i) / cluster_size old.file.header.fields) is.stands.0 is.stands.1,
          ap (λ s. is.stands.0 + (offset + i) % s) size ∙ is.stands.2,
        );
      }

      placed_behind : (i : ℕ) → done ≤ i → StandsByPart view backing old new at (drop done bytes) (i - done) → StandsByPart view backing begin new offset bytes i
      placed_behind i behind is =
          let low = is.from in
          let high = is.to in
          let long : length (drop done bytes) ≡ length bytes - done = grind (arith, common_steps) in
          let from : at + is.done ≡ offset + (done + is.done) = omega (arith, there) in
          let rest : length (drop done bytes) - is.done ≡ length bytes - (done + is.done) = omega (arith, long) in
          let byte : at + (i - done) ≡ offset + i = omega (arith, there, behind) in
          let place : i - done - is.done ≡ i - (done + is.done) = omega arith in
          let part = is.part in record {
            done = done + is.done;
            mapping = is.mapping;
            part = record {
              before = part.before;
              begun = λ none. absurd (omega (arith, none, later));
              written = λ out. writes_on offset at done is.done bytes le there (abstract_of view backing begin out) (abstract_of view backing old out) (abstract_of view backing part.before out) (so_far out) (part.written out);
              ready = part.ready;
              prepares = subst (λ o. Prepares view backing part.before part.ready o (length bytes - (done + is.done)) true (Ok is.mapping)) from (subst (λ k. Prepares view backing part.before part.ready (at + is.done) k true (Ok is.mapping)) rest part.prepares);
            };
            from = omega (arith, low, behind);
            to = omega (arith, high, behind);
            stands = subst (λ o. IsDataAt new.file.header.fields (known_in view new.file) true o (offset_of is.mapping + (i - (done + is.done)))) byte
                (subst (λ k. IsDataAt new.file.header.fields (known_in view new.file) true (at + (i - done)) (offset_of is.mapping + k)) place is.stands);
          }

-- what a run reports, by the header in the known bytes
pub rightly_written : {S F : Type 0} (view : S → StorageView) (backing : F → BackingView) (image : Qcow2 S F) (out : Mappings) → ImageInvariant view backing (pending_in view backing image out) image out → (offset n : ℕ)
    → (0 < n → AreCopied view offset (offset + n) image) → IsRightlyWritten offset n (known_in view image.file)
rightly_written view backing image out sound offset n copied =
    let known = known_in view image.file in
    subst (λ (h : HeaderFields). (g : ℕ) → Touches (cluster_size h) offset (offset + n) g → is_copied_data (cover h known g) ≡ true) (sym (header_is view backing image out sound))
    (λ g touched. let some = touched.0 in copied (omega (arith, some)) g touched.1 touched.2)
