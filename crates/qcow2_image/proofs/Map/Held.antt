-- What a lookup finds in the tables in memory, of an image in any state.
use Rattle.std.proofs.Common.{if◌then◌else◌, length, None, ◌≡◌, ◌+◌, ◌-◌, ◌*◌, ◌/◌, ◌%◌, ◌^◌, ◌<◌, ◌≤◌, ⊎_elim, inl, inr, ℕ, Bool, true, false, List, IfErr, Option, Some, IsSome, Result, Ok, Err, is_some, min, refl, sym, ap, ◌∙◌, subst, arith}
use Rattle.qcow2_image.proofs.Common.{DataFile, MatchOption, bytes_at, is_beside, cases_lt, EntryTableView, HeaderView, cluster_size, L2TableView, HeaderFields, L2Mapping, Data, Zero, Compressed, Uncovered, kind_in, raw, writable_place, Image, rest_of_table, l2_at, MetadataCaches, ImageError, OutdatedMapping, ImageStorage, Qcow2, MappingKind, found_kind, mapping_of, IsRunBehind, FitsTables, IsBegun, IsCompressedInTables, IsHeldAs, IsLongestSo, IsSpecial, MayFailReading, ReadsAs, RefusesHeld, StaysHeld, StorageView, view_in, IsMappedBy, IsMappedSo, KeepsHeld, named_place}
use Rattle.qcow2_image.specs.declared.mapping.MappingKind.TheVariants as M
use Rattle.qcow2_alloc.specs.declared.error.ImageError.TheVariants as E
use Rattle.qcow2_alloc.specs.KeptEntries.{KeepsCached}
use Rattle.qcow2_image.proofs.Map.Looked.{never_past, product_le, same_kind}

below_count : (k count size : ℕ) → k * size < count * size → k < count
below_count k count size lt = ⊎_elim (λ (less : k < count). less) (λ (le : count ≤ k). absurd (let p = product_le count k size le in omega (arith, lt, p))) (cases_lt k count)

-- data lie in the file that holds them
raw_there : (beside : Bool) (host : ℕ) → found_kind (M.Raw (if beside then DataFile else Image) host true) ≡ raw beside host true
raw_there true host = refl
raw_there false host = refl

module _ {S : Type 0} (h : HeaderFields) (is_beside is_backed : Bool) (l1_table : EntryTableView) (caches : MetadataCaches S) (offset : ℕ) where
  -- a shorter range is mapped so
  pub mapped_less : (kind : MappingKind) (m n : ℕ) → m ≤ n → IsMappedSo h is_beside is_backed l1_table caches offset kind n → IsMappedSo h is_beside is_backed l1_table caches offset kind m
  mapped_less kind m n le is = record {
    below = let b = is.below in omega (arith, b, le);
    within = let w = is.within in omega (arith, w, le);
    mapped = ⊎_elim (λ none. inl none) (λ by. inr (record {
      named = by.named;
      table = by.table;
      held = by.held;
      mapped = record { first = by.mapped.first; alike = λ k lt. by.mapped.alike k (omega (arith, lt, le)) };
    })) is.mapped;
  }

  -- the same held table maps it
  the_same : (a b : L2TableView) (cluster : ℕ) → l2_at caches cluster ≡ Some a → l2_at caches cluster ≡ Some b → a ≡ b
  the_same a b cluster one other = let both : Some a ≡ Some b = sym one ∙ other in cc

  -- ranges that are mapped at one offset are so by the same kind
  pub one_kind : (a b : MappingKind) (m n : ℕ) → IsMappedSo h is_beside is_backed l1_table caches offset a m → IsMappedSo h is_beside is_backed l1_table caches offset b n → a ≡ b
  one_kind a b m n one other =
      ⊎_elim
      (λ none. ⊎_elim (λ also. same_kind a b (none.kind_is ∙ sym also.kind_is)) (λ by. absurd (by.named none.none)) other.mapped)
      (λ by. ⊎_elim (λ none. absurd (by.named none.none))
      (λ also.
      let same = the_same by.table also.table (named_place h l1_table offset / cluster_size h) by.held also.held in
      same_kind a b (by.mapped.first ∙ ap (λ (t : L2TableView). kind_in h is_beside is_backed offset (mapping_of t (offset / cluster_size h))) same ∙ sym also.mapped.first)) other.mapped)
      one.mapped

  -- nothing lies past the end among what is mapped
  pub none_eof : (n : ℕ) → IsMappedSo h is_beside is_backed l1_table caches offset M.Eof n → ⊥
  none_eof n is = ⊎_elim (λ none. never_past h is_beside is_backed offset Uncovered none.kind_is) (λ by. never_past h is_beside is_backed offset (mapping_of by.table (offset / cluster_size h)) by.mapped.first) is.mapped

  -- what may be written in place is copied data
  data_place : (v : L2Mapping) (host : ℕ) → writable_place (kind_in h is_beside is_backed offset v) ≡ Some host → kind_in h is_beside is_backed offset v ≡ raw is_beside host true
  data_place (Data place true) host is = let same : place + offset % cluster_size h ≡ host = cc in ap (λ k. raw is_beside k true) same
  data_place (Data place false) host is = absurd cc
  data_place (Zero kept) host is = absurd cc
  data_place (Compressed place sectors) host is = absurd cc
  data_place Uncovered host is = backed is_backed is
    where
      backed : (b : Bool) → writable_place (kind_in h is_beside b offset Uncovered) ≡ Some host → kind_in h is_beside b offset Uncovered ≡ raw is_beside host true
      backed true is = absurd cc
      backed false is = absurd cc

  pub writable_held : (kind : MappingKind) (n host : ℕ) → writable_place (found_kind kind) ≡ Some host → IsMappedSo h is_beside is_backed l1_table caches offset kind n → IsMappedSo h is_beside is_backed l1_table caches offset (M.Raw (if is_beside then DataFile else Image) host true) n
  writable_held kind n host place is = record {
    below = is.below;
    within = is.within;
    mapped = ⊎_elim
        (λ none. inl (record { none = none.none; kind_is = raw_there is_beside host ∙ sym (data_place Uncovered host (sym (ap writable_place none.kind_is) ∙ place)) }))
        (λ by. inr (record {
          named = by.named;
          table = by.table;
          held = by.held;
          mapped = record { first = raw_there is_beside host ∙ sym (data_place (mapping_of by.table (offset / cluster_size h)) host (sym (ap writable_place by.mapped.first) ∙ place)); alike = by.mapped.alike };
        }))
        is.mapped;
  }

  -- the same with the same tables
  pub same_tables : (caches' : MetadataCaches S) → ((cluster : ℕ) → l2_at caches' cluster ≡ l2_at caches cluster) → (kind : MappingKind) (n : ℕ) → IsMappedSo h is_beside is_backed l1_table caches offset kind n → IsMappedSo h is_beside is_backed l1_table caches' offset kind n
  same_tables caches' same kind n is = record {
    below = is.below;
    within = is.within;
    mapped = ⊎_elim (λ none. inl (record { none = none.none; kind_is = none.kind_is }))
        (λ by. inr (record { named = by.named; table = by.table; held = same (named_place h l1_table offset / cluster_size h) ∙ by.held; mapped = record { first = by.mapped.first; alike = by.mapped.alike } })) is.mapped;
  }

  -- the same after the L2 table of the offset was loaded
  pub still_loaded : (caches' : MetadataCaches S) (cluster : ℕ) → (cluster ≡ named_place h l1_table offset / cluster_size h) × ¬ (named_place h l1_table offset ≡ 0) → KeepsCached (λ (t : L2TableView). t.is_modified) cluster caches.l2 caches'.l2
      → (kind : MappingKind) (n : ℕ) → IsMappedSo h is_beside is_backed l1_table caches offset kind n → IsMappedSo h is_beside is_backed l1_table caches' offset kind n
  still_loaded caches' cluster own kept kind n is = record {
    below = is.below;
    within = is.within;
    mapped = ⊎_elim (λ none. inl (record { none = none.none; kind_is = none.kind_is })) (λ by. inr (record {
      named = by.named;
      table = by.table;
      held = let there : l2_at caches cluster ≡ Some by.table = ap (l2_at caches) own.0 ∙ by.held in
          let some : IsSome (l2_at caches cluster) = subst (λ (o : Option L2TableView). IsSome o) (sym there) refl in
          ap (l2_at caches') (sym own.0) ∙ kept.all (inl some) cluster some ∙ there;
      mapped = record { first = by.mapped.first; alike = by.mapped.alike };
    })) is.mapped;
  }

  module _ (max limit : ℕ) (short : max ≡ min (min limit (h.size - offset)) (rest_of_table h offset)) (below : offset < h.size) where
    -- where the L1 table names none
    pub uncovered_held : (kind : MappingKind) → named_place h l1_table offset ≡ 0 → found_kind kind ≡ kind_in h is_beside is_backed offset Uncovered → IsLongestSo h is_beside is_backed l1_table caches offset limit kind max
    uncovered_held kind none is = record {
      mapped = record { below = omega (arith, short, below); within = omega (arith, short); mapped = inl (record { none = none; kind_is = is }) };
      at_most = omega (arith, short);
      longest = λ lt more. let b = more.below in let w = more.within in omega (arith, short, lt, b, w);
    }

    -- where it names a held one
    module _ (t : L2TableView) (named : ¬ (named_place h l1_table offset ≡ 0)) (held : l2_at caches (named_place h l1_table offset / cluster_size h) ≡ Some t) (kind : MappingKind)
        (first : found_kind kind ≡ kind_in h is_beside is_backed offset (mapping_of t (offset / cluster_size h))) (n : ℕ) (run : IsRunBehind t (offset / cluster_size h) (max - (cluster_size h - offset % cluster_size h)) n) where
      abbrev whole_run : ℕ
      whole_run = min (cluster_size h - offset % cluster_size h + n) max

      run_mapped : IsMappedSo h is_beside is_backed l1_table caches offset kind whole_run
      run_mapped = record {
        below = omega (arith, short, below);
        within = omega (arith, short);
        mapped = inr (record {
          named = named;
          table = t;
          held = held;
          mapped = record {
            first = first;
            alike = λ k lt.
                let is = run.whole in
                let less = below_count k run.count (2 ^ t.cluster_bits) (omega (arith, lt, is)) in
                run.alike (k + 1) (omega arith) (omega (arith, less));
          };
        });
      }

      not_longer : whole_run < max → ¬ IsMappedSo h is_beside is_backed l1_table caches offset kind (whole_run + 1)
      not_longer lt more =
          ⊎_elim (λ none. named none.none) (λ by.
          let same = the_same by.table t (named_place h l1_table offset / cluster_size h) by.held held in
          let there : IsMappedBy h is_beside is_backed l1_table caches offset t kind (whole_run + 1) = subst (λ (x : L2TableView). IsMappedBy h is_beside is_backed l1_table caches offset x kind (whole_run + 1)) same by.mapped in
          let is = run.whole in
          run.longest (omega (arith, lt)) (there.alike run.count (omega (arith, lt, is)))) more.mapped

      pub run_held : IsLongestSo h is_beside is_backed l1_table caches offset limit kind whole_run
      run_held = record {
        mapped = run_mapped;
        at_most = omega (arith, short);
        longest = λ lt more. ⊎_elim (λ (less : whole_run < max). not_longer less more) (λ (le : max ≤ whole_run). let b = more.below in let w = more.within in omega (arith, short, lt, le, b, w)) (cases_lt whole_run max);
      }

  -- a whole range that is mapped as it is wanted is what a lookup finds
  pub held_whole : (max n : ℕ) (kind wanted : MappingKind) → IsLongestSo h is_beside is_backed l1_table caches offset max kind n → IsMappedSo h is_beside is_backed l1_table caches offset wanted max → (wanted ≡ kind) × (max ≤ n)
  held_whole max n kind wanted run whole =
      let same = one_kind wanted kind max n whole run.mapped in (
        same,
        ⊎_elim (λ (lt : n < max). absurd (run.longest lt (mapped_less kind (n + 1) max (omega (arith, lt)) (subst (λ k. IsMappedSo h is_beside is_backed l1_table caches offset k max) same whole)))) (λ le. le) (cases_lt n max),
      )

-- the tables in memory stay, and so does what they map
pub held_as : {S F : Type 0} (old new : Qcow2 S F) (offset : ℕ) (kind : MappingKind) (n : ℕ) → KeepsHeld old new → IsHeldAs old offset kind n → IsHeldAs new offset kind n
held_as old new offset kind n keeps is =
    subst (λ (h : HeaderFields). IsMappedSo h (is_beside new) (is_some new.backing) new.l1_table new.file.caches offset kind n) (sym (ap (λ (v : HeaderView). v.fields) keeps.header))
    (subst (λ (b : Bool). IsMappedSo old.file.header.fields b (is_some new.backing) new.l1_table new.file.caches offset kind n) (sym keeps.beside)
    (subst (λ (b : Bool). IsMappedSo old.file.header.fields (is_beside old) b new.l1_table new.file.caches offset kind n) (sym keeps.backed)
    (subst (λ (t : EntryTableView). IsMappedSo old.file.header.fields (is_beside old) (is_some old.backing) t new.file.caches offset kind n) (sym keeps.l1_table)
    (subst (λ (c : MetadataCaches _). IsMappedSo old.file.header.fields (is_beside old) (is_some old.backing) old.l1_table c offset kind n) (sym keeps.caches) is))))

module _ {S F : Type 0} where
  pub keeps_back : {old new : Qcow2 S F} → KeepsHeld old new → KeepsHeld new old
  keeps_back keeps = record { header = sym keeps.header; beside = sym keeps.beside; backed = sym keeps.backed; l1_table = sym keeps.l1_table; caches = sym keeps.caches }

  -- bytes are read or written
  pub keeps_storage : (old new : Qcow2 S F) (storage : ImageStorage S) (file : Option S) → new ≡ record old { file = record old.file { storage = storage }; data_file = file } → is_beside new ≡ is_beside old → KeepsHeld old new
  keeps_storage old new storage file rest beside = record {
    header = ap (λ (i : Qcow2 S F). i.file.header) rest;
    beside = beside;
    backed = ap (λ (i : Qcow2 S F). is_some i.backing) rest;
    l1_table = ap (λ (i : Qcow2 S F). i.l1_table) rest;
    caches = ap (λ (i : Qcow2 S F). i.file.caches) rest;
  }

  -- a failure is marked
  pub keeps_marked : (old new : Qcow2 S F) (failed : Bool) → new ≡ record old { is_failed = failed } → KeepsHeld old new
  keeps_marked old new failed rest = record {
    header = ap (λ (i : Qcow2 S F). i.file.header) rest;
    beside = ap (λ (i : Qcow2 S F). is_beside i) rest;
    backed = ap (λ (i : Qcow2 S F). is_some i.backing) rest;
    l1_table = ap (λ (i : Qcow2 S F). i.l1_table) rest;
    caches = ap (λ (i : Qcow2 S F). i.file.caches) rest;
  }

  module _ {A : Type 0} (offset : ℕ) (kind : MappingKind) (n : ℕ) where
    -- so a part that isn't refused 10 respects them
    pub heeds_then : (old new : Qcow2 S F) (result : Result A ImageError) → (result ≡ Err OutdatedMapping → ⊥) → (result ≡ Err E.Compressed → IsSpecial kind) → IsHeldAs new offset kind n → FitsTables old new offset kind n result
    heeds_then old new (Ok done) current special is = is
    heeds_then old new (Err e) current special is = record { outdated = λ outdated. absurd (current (ap Err outdated)); compressed = λ compressed. (is, special (ap Err compressed)) }

    -- the same after calls that leave the tables in memory unchanged
    pub heeds_on : (old mid new : Qcow2 S F) (result : Result A ImageError) → KeepsHeld mid new → FitsTables old mid offset kind n result → FitsTables old new offset kind n result
    heeds_on old mid new (Ok done) keeps is = held_as mid new offset kind n keeps is
    heeds_on old mid new (Err e) keeps isnt = record {
      outdated = λ outdated. ((isnt.outdated outdated).0, λ is. (isnt.outdated outdated).1 (held_as new mid offset kind n (keeps_back keeps) is));
      compressed = λ compressed. (held_as mid new offset kind n keeps (isnt.compressed compressed).0, (isnt.compressed compressed).1);
    }

    -- the same from an earlier moment on
    pub heeds_from : (start old new : Qcow2 S F) (result : Result A ImageError) → StaysHeld start old offset → FitsTables old new offset kind n result → FitsTables start new offset kind n result
    heeds_from start old new (Ok done) stays is = is
    heeds_from start old new (Err e) stays isnt = record { outdated = λ outdated. (λ was. (isnt.outdated outdated).0 (stays kind n was), (isnt.outdated outdated).1); compressed = isnt.compressed }

  -- a refusal by another number says nothing of them
  pub heeds_else : (old new : Qcow2 S F) (offset : ℕ) (kind : MappingKind) (n : ℕ) (P : ImageError → Type 0) (e : ImageError) → (P OutdatedMapping → ⊥) → (P E.Compressed → ⊥) → P e → RefusesHeld old new offset kind n e
  heeds_else old new offset kind n P e none plain is = record { outdated = λ outdated. absurd (none (subst P outdated is)); compressed = λ compressed. absurd (plain (subst P compressed is)) }

  -- a failure is marked
  pub plain_marked : (old new : Qcow2 S F) (failed : Bool) (offset : ℕ) → new ≡ record old { is_failed = failed } → ¬ IsCompressedInTables old offset → ¬ IsCompressedInTables new offset
  plain_marked old new failed offset rest plain =
      subst (λ (image : Qcow2 S F). ¬ IsCompressedInTables image offset) (sym rest) (λ compressed. plain (record { named = compressed.named; table = compressed.table; held = compressed.held; compressed = compressed.compressed }))

  -- a call begins
  pub held_begun : (old new : Qcow2 S F) (offset : ℕ) → IsBegun old new → StaysHeld old new offset
  held_begun old new offset begun kind n is =
      let caches : MetadataCaches S = record old.file.caches { is_changed = false } in
      let there : IsMappedSo old.file.header.fields (is_beside old) (is_some old.backing) old.l1_table caches offset kind n = same_tables old.file.header.fields (is_beside old) (is_some old.backing) old.l1_table old.file.caches offset caches (λ cluster. refl) kind n is in
      subst (λ (image : Qcow2 S F). IsHeldAs image offset kind n) (sym begun.rest)
      (subst (λ (c : MetadataCaches S). IsMappedSo old.file.header.fields (is_beside old) (is_some old.backing) old.l1_table c offset kind n) (sym begun.caches) there)

-- a read is refused 7 only for compressed bytes
pub special_of : {A : Type 0} (kind : MappingKind) (result : Result A ImageError) → IfErr result (MayFailReading kind) → result ≡ Err E.Compressed → IsSpecial kind
special_of kind (Ok done) why is = absurd cc
special_of kind (Err e) why is =
    let compressed : e ≡ E.Compressed = cc in
    elim why [
      | inl (inl storage) ↦ let no : E.Storage ≡ E.Compressed = sym storage ∙ compressed in absurd cc
      | inl (inr memory) ↦ let no : E.Memory ≡ E.Compressed = sym memory ∙ compressed in absurd cc
      | inr (inl special) ↦ special.1
      | inr (inr past) ↦ let no : OutdatedMapping ≡ E.Compressed = sym past.0 ∙ compressed in absurd cc
    ]

-- what was read, from an earlier moment on
pub reads_from : {S F : Type 0} (view : S → StorageView) (start old new : Qcow2 S F) (kind : MappingKind) (bytes : List ℕ) → old.data_file ≡ start.data_file → ((view_in view start.file).is_honest → (view_in view old.file).is_honest) → ReadsAs view old new kind bytes → ReadsAs view start new kind bytes
reads_from {S} view start old new (M.Raw place host writable) bytes same honest read = by old.data_file start.data_file same read where
  by : (was is : Option S) → was ≡ is → MatchOption was ((view_in view old.file).is_honest → bytes ≡ bytes_at (view_in view new.file).contents host (length bytes)) (λ file. (view file).is_honest → bytes ≡ bytes_at (view file).contents host (length bytes))
      → MatchOption is ((view_in view start.file).is_honest → bytes ≡ bytes_at (view_in view new.file).contents host (length bytes)) (λ file. (view file).is_honest → bytes ≡ bytes_at (view file).contents host (length bytes))
  by None None same read = λ was. read (honest was)
  by (Some a) (Some b) same read = subst (λ file. (view file).is_honest → bytes ≡ bytes_at (view file).contents host (length bytes)) (let one : a ≡ b = cc in one) read
  by None (Some b) same read = absurd cc
  by (Some a) None same read = absurd cc
reads_from view start old new (M.Indirect offset) bytes same honest read = tt
reads_from view start old new kind bytes same honest read = read

-- the same once a failure is marked
pub reads_marked : {S F : Type 0} (view : S → StorageView) (start old new : Qcow2 S F) (failed : Bool) (kind : MappingKind) (bytes : List ℕ) → old.data_file ≡ start.data_file → ((view_in view start.file).is_honest → (view_in view old.file).is_honest) → ReadsAs view old new kind bytes
    → ReadsAs view start (record new { is_failed = failed }) kind bytes
reads_marked view start old new failed (M.Raw place host writable) bytes same honest read = reads_from view start old new (M.Raw place host writable) bytes same honest read
reads_marked view start old new failed (M.Indirect offset) bytes same honest read = tt
reads_marked view start old new failed kind bytes same honest read = read

-- how much was found, of what was answered
abbrev found_of : {A E : Type 0} → Result (A × ℕ) E → ℕ
found_of (Ok x) = x.1
found_of (Err e) = 0

pub same_found : {A E : Type 0} (a b : A) (m n : ℕ) → ◌≡◌ {A = Result (A × ℕ) E} (Ok (a, m)) (Ok (b, n)) → m ≡ n
same_found a b m n same = ap found_of same
