-- Calls that keep tables out of cluster 0 and leave its bytes the same, one after another.
use Rattle.std.proofs.Common.{◌≡◌, ◌⊎◌, ◌+◌, ◌*◌, ◌/◌, ◌^◌, ◌<◌, ◌≤◌, ◌∙◌, inl, inr, ℕ, List, length, Result, Option, Some, None, true, false, zero, suc, refl, sym, ap, subst, arith, IsSome}
use Rattle.qcow2_image.proofs.Common.{IfSome, w64, to_be_bytes, mul-le, overwritten, StorageView, Calls, Changes, ContentsStay, QuietCalls, StorageError, byte_at-overwritten_outside, whole_or_nothing, byte_at, EntryTableView, entry_count, entry_table, without_autoclear, HeaderFields, bytes_of_numbers, l1_table_pointer_written, size_written, L2TableView, LeaveHeaderCluster, KeepBehindHeader, view_in, storage_of, CachesSpareHeader, SparesBytes, SparesHeader, PreservesHeaderButPointer, StandsBehindHeader, Allocator, MetadataCaches, ImageFile, ImageStorage, below_others, bytes_stay, bytes_then, call_keeps, fewer_stay, quiet_keeps, same_kept, Qcow2, IsBegun, IsBesideNumbers, IsL1TableBehind, KeepsL1TableBehind, KeepsTablesBehind, NamesTablesBehind, PreservesHeaderCluster, TablesBehindHeader}
use Rattle.qcow2_alloc.specs.HeaderClusters.{IsInHeaderCluster, IsBesidePointer, SameAt}

-- a byte of cluster 0 lies below each offset after it
below_first : (bits o at : ℕ) → o / 2 ^ bits ≡ 0 → 2 ^ bits ≤ at → o < at
below_first bits o at in_first behind = let low = below_others bits 1 o (omega arith) in_first in omega (arith, low, behind)

-- a cluster that isn't cluster 0 begins after it
pub behind_zero : (bits own cluster : ℕ) → own ≡ bits → 0 < cluster → 2 ^ bits ≤ cluster * 2 ^ own
behind_zero bits own cluster same some =
    let first : 1 * 2 ^ bits ≤ cluster * 2 ^ bits = mul-le 1 (2 ^ bits) cluster (2 ^ bits) (omega (arith, some)) (omega arith) in
    let moved : cluster * 2 ^ own ≡ cluster * 2 ^ bits = ap (λ n. cluster * 2 ^ n) same in
    omega (arith, first, moved)

-- a cluster that begins after the first byte isn't cluster 0
pub behind_first : (bits cluster offset : ℕ) → cluster * 2 ^ bits ≡ offset → 0 < offset → 0 < cluster
behind_first bits zero offset is some = absurd (omega (arith, is, some))
behind_first bits (suc n) offset is some = omega arith

pub above_zero : (cluster : ℕ) → ¬ (Some cluster ≡ Some 0) → 0 < cluster
above_zero zero other = absurd (other refl)
above_zero (suc n) other = omega arith

pub not_zero : (cluster : ℕ) → 0 < cluster → ¬ (Some cluster ≡ Some 0)
not_zero cluster some is = let e : cluster ≡ 0 = cc in omega (arith, some, e)

-- a place that was compared with the size of a cluster
pub behind_guard : (bits own n at : ℕ) → own ≡ bits → n ≡ 2 ^ own → n ≤ at → 2 ^ bits ≤ at
behind_guard bits own n at same size behind = let moved : 2 ^ own ≡ 2 ^ bits = ap (λ m. 2 ^ m) same in omega (arith, size, behind, moved)

-- where an L1 table begins, and where its entries lie
pub begins_behind : (t : EntryTableView) (bits : ℕ) → IsL1TableBehind bits t → IfSome t.cluster (λ c. 2 ^ bits ≤ c * 2 ^ t.cluster_bits)
begins_behind t bits lies = begins t.cluster lies.elsewhere
  where
    begins : (cluster : Option ℕ) → ¬ (cluster ≡ Some 0) → IfSome cluster (λ c. 2 ^ bits ≤ c * 2 ^ t.cluster_bits)
    begins None other = tt
    begins (Some c) other = behind_zero bits t.cluster_bits c lies.l1_bits (above_zero c other)

-- an L2 table that was given a cluster
pub table_behind : (t t' : L2TableView) (cluster : ℕ) → t' ≡ record t { cluster = Some cluster } → (bits : ℕ) → t.cluster_bits ≡ bits → 0 < cluster → IfSome t'.cluster (λ c. 2 ^ bits ≤ c * 2 ^ t'.cluster_bits)
table_behind t t' cluster is bits as_wide some = subst (λ (x : L2TableView). IfSome x.cluster (λ c. 2 ^ bits ≤ c * 2 ^ x.cluster_bits)) (sym is) (behind_zero bits t.cluster_bits cluster as_wide some)

-- an L1 table that was loaded: one without entries lies nowhere
pub l1_nowhere : (h : HeaderFields) (t : EntryTableView) (bytes : List ℕ) → t ≡ entry_table h None bytes → IsL1TableBehind h.cluster_bits t
l1_nowhere h t bytes is = record {
  l1_bits = ap (λ (x : EntryTableView). x.cluster_bits) is;
  elsewhere = λ first. let never : None ≡ Some 0 = sym (ap (λ (x : EntryTableView). x.cluster) is) ∙ first in cc;
}

pub l1_somewhere : (h : HeaderFields) (t : EntryTableView) (cluster : ℕ) (bytes : List ℕ) → t ≡ entry_table h (Some cluster) bytes → cluster * 2 ^ h.cluster_bits ≡ h.l1_offset → 0 < h.l1_offset → IsL1TableBehind h.cluster_bits t
l1_somewhere h t cluster bytes is at some = record {
  l1_bits = ap (λ (x : EntryTableView). x.cluster_bits) is;
  elsewhere = λ first. not_zero cluster (behind_first h.cluster_bits cluster h.l1_offset at some) (sym (ap (λ (x : EntryTableView). x.cluster) is) ∙ first);
}

-- the autoclear bits name no table
pub named_before : (h h' : HeaderFields) → h' ≡ without_autoclear h → NamesTablesBehind h' → NamesTablesBehind h
named_before h h' is names = let same = subst NamesTablesBehind is names in record { reftable = same.reftable; l1_table = same.l1_table }

-- an L1 table that was placed past cluster 0, or of which only entries changed
pub l1_placed : (l1 l1' t t' : EntryTableView) (cluster : ℕ) → l1' ≡ l1 → t' ≡ record t { cluster = Some cluster } → t.cluster_bits ≡ l1.cluster_bits → 0 < cluster → KeepsL1TableBehind l1' t'
l1_placed l1 l1' t t' cluster same is as_wide some = λ bits lies. record {
  l1_bits = ap (λ (x : EntryTableView). x.cluster_bits) is ∙ as_wide ∙ ap (λ (x : EntryTableView). x.cluster_bits) (sym same) ∙ lies.l1_bits;
  elsewhere = λ first. not_zero cluster some (sym (ap (λ (x : EntryTableView). x.cluster) is) ∙ first);
}

pub l1_entered : (l1 l1' : EntryTableView) → l1' ≡ record l1 { bytes = l1'.bytes } → KeepsL1TableBehind l1 l1'
l1_entered l1 l1' is = λ bits lies. record { l1_bits = ap (λ (x : EntryTableView). x.cluster_bits) is ∙ lies.l1_bits; elsewhere = λ first. lies.elsewhere (sym (ap (λ (x : EntryTableView). x.cluster) is) ∙ first) }

pub entry_behind : (l1 l1' : EntryTableView) (index : ℕ) → l1' ≡ record l1 { bytes = l1'.bytes } → (bits : ℕ) → IsL1TableBehind bits l1 → IfSome l1'.cluster (λ c. 2 ^ bits ≤ c * 2 ^ l1'.cluster_bits + 8 * index)
entry_behind l1 l1' index is bits lies = further l1'.cluster (begins_behind l1' bits (l1_entered l1 l1' is bits lies))
  where
    further : (cluster : Option ℕ) → IfSome cluster (λ c. 2 ^ bits ≤ c * 2 ^ l1'.cluster_bits) → IfSome cluster (λ c. 2 ^ bits ≤ c * 2 ^ l1'.cluster_bits + 8 * index)
    further None lies = tt
    further (Some c) lies = omega (arith, lies)

-- the pointer to the reftable is one of the header's numbers
beside_pointer : (bits o : ℕ) → IsBesideNumbers bits o → IsBesidePointer bits o
beside_pointer bits o kept = (
  kept.0,
  elim kept.1 [
    | inl below ↦ inl (omega (arith, below))
    | inr other ↦ elim other [ inl between ↦ inl (let high = between.1 in omega (arith, high)) | inr above ↦ inr above ]
  ],
)

module _ {S : Type 0} where
  -- no call, and one after another
  pub behind_none : {own : ℕ} {l1 : EntryTableView} {v : StorageView} {caches : MetadataCaches S} {a : Option Allocator} → KeepsTablesBehind own l1 v caches a own l1 v caches a
  behind_none {own} {l1} {v} {caches} {a} = record { kept = λ bits lies. lies; bytes = λ bits lies honest. bytes_stay (IsBesideNumbers bits) v }

  pub behind_then : {own own' own'' : ℕ} {l1 l1' l1'' : EntryTableView} {v v' v'' : StorageView} {caches caches' caches'' : MetadataCaches S} {a a' a'' : Option Allocator}
      → KeepsTablesBehind own l1 v caches a own' l1' v' caches' a' → KeepsTablesBehind own' l1' v' caches' a' own'' l1'' v'' caches'' a'' → KeepsTablesBehind own l1 v caches a own'' l1'' v'' caches'' a''
  behind_then {v} {v'} {v''} first then' = record {
    kept = λ bits lies. then'.kept bits (first.kept bits lies);
    bytes = λ bits lies honest.
        let one = first.bytes bits lies honest in
        bytes_then (IsBesideNumbers bits) v v' v'' one (then'.bytes bits (first.kept bits lies) (one.moments.honest honest));
  }

  module _ {own : ℕ} {l1 : EntryTableView} {a : Option Allocator} where
    -- caches that change in memory alone
    pub behind_tables : {v : StorageView} {caches caches' : MetadataCaches S} → KeepBehindHeader caches caches' → KeepsTablesBehind own l1 v caches a own l1 v caches' a
    behind_tables {v} {caches} {caches'} keeps = record {
      kept = λ bits lies. record { header = lies.header; l1 = lies.l1; caches = keeps bits lies.caches; reftable = lies.reftable };
      bytes = λ bits lies honest. bytes_stay (IsBesideNumbers bits) v;
    }

    -- a call of the caches
    pub behind_caches : {view : S → StorageView} {old new : ImageStorage S} {caches caches' : MetadataCaches S} → CachesSpareHeader view old caches new caches'
        → KeepsTablesBehind own l1 (view (storage_of old)) caches a own l1 (view (storage_of new)) caches' a
    behind_caches {view} {old} {new} {caches} {caches'} spares = record {
      kept = λ bits lies. record { header = lies.header; l1 = lies.l1; caches = spares.behind bits lies.caches; reftable = lies.reftable };
      bytes = λ bits lies honest. fewer_stay (IsInHeaderCluster bits) (IsBesideNumbers bits) (view (storage_of old)) (view (storage_of new)) (λ o kept. kept.0) (spares.bytes bits lies.caches honest);
    }

    -- a call of the storage that changes nothing
    pub behind_read : {T : Type 0} {v v' : StorageView} {caches : MetadataCaches S} (result : Result T StorageError) → QuietCalls v v' result → ContentsStay v v' → KeepsTablesBehind own l1 v caches a own l1 v' caches a
    behind_read {v} {v'} {caches} result calls same = record {
      kept = λ bits lies. lies;
      bytes = λ bits lies honest. quiet_keeps (IsBesideNumbers bits) v v' result calls same honest;
    }

    -- A write outside of the bytes that stay. The kind of the write was set before.
    pub behind_write : {T : Type 0} {v told v' : StorageView} {caches : MetadataCaches S} (result : Result T StorageError) (at : ℕ) (bytes : List ℕ) → told ≡ v
        → ((bits : ℕ) → TablesBehindHeader bits own l1 caches a → (o : ℕ) → IsBesideNumbers bits o → (o < at) ⊎ (at + length bytes ≤ o))
        → Changes told v' result (λ b. overwritten b at bytes) → Calls told v' result → KeepsTablesBehind own l1 v caches a own l1 v' caches a
    behind_write {v} {told} {v'} {caches} result at bytes same beside wrote calls = subst (λ (s : StorageView). KeepsTablesBehind own l1 s caches a own l1 v' caches a) same (record {
      kept = λ bits lies. lies;
      bytes = λ bits lies honest. call_keeps (IsBesideNumbers bits) told v' result calls honest
          (written (IsBesideNumbers bits) (beside bits lies) (whole_or_nothing result told.contents (overwritten told.contents at bytes) v'.contents (wrote honest)));
    })
      where
        written : (IsKept : ℕ → Type 0) → ((o : ℕ) → IsKept o → (o < at) ⊎ (at + length bytes ≤ o)) → (v'.contents ≡ told.contents) ⊎ (v'.contents ≡ overwritten told.contents at bytes) → SameAt IsKept told.contents v'.contents
        written IsKept outside (inl is) = same_kept IsKept told.contents v'.contents is
        written IsKept outside (inr is) = λ o kept. sym (ap (λ l. byte_at l o) is ∙ byte_at-overwritten_outside told.contents at bytes o (outside o kept))

    -- a table past cluster 0
    pub behind_wrote : {T : Type 0} {v told v' : StorageView} {caches : MetadataCaches S} (result : Result T StorageError) (at : ℕ) (bytes : List ℕ) → told ≡ v → ((bits : ℕ) → TablesBehindHeader bits own l1 caches a → 2 ^ bits ≤ at)
        → Changes told v' result (λ b. overwritten b at bytes) → Calls told v' result → KeepsTablesBehind own l1 v caches a own l1 v' caches a
    behind_wrote result at bytes same behind wrote calls = behind_write result at bytes same (λ bits lies o kept. inl (below_first bits o at kept.0 (behind bits lies))) wrote calls

    -- one to a place in a cluster that isn't cluster 0
    pub behind_placed : {T : Type 0} {v told v' : StorageView} {caches : MetadataCaches S} (result : Result T StorageError) (cluster : Option ℕ) (at : ℕ → ℕ) (bytes : List ℕ) → told ≡ v → IsSome cluster
        → ((bits : ℕ) → TablesBehindHeader bits own l1 caches a → IfSome cluster (λ c. 2 ^ bits ≤ at c)) → IfSome cluster (λ c. Changes told v' result (λ b. overwritten b (at c) bytes)) → Calls told v' result
        → KeepsTablesBehind own l1 v caches a own l1 v' caches a
    behind_placed result (Some c) at bytes same some behind wrote calls = behind_wrote result (at c) bytes same behind wrote calls
    behind_placed result None at bytes same some behind wrote calls = absurd (let e : false ≡ true = some in cc)

    pub behind_size : {T : Type 0} {v told v' : StorageView} {caches : MetadataCaches S} (result : Result T StorageError) (h : HeaderFields) → told ≡ v → Changes told v' result (size_written h) → Calls told v' result
        → KeepsTablesBehind own l1 v caches a own l1 v' caches a
    behind_size result h same wrote calls = behind_write result 24 (to_be_bytes w64 h.size) same (λ bits lies o kept. beside o kept.1) wrote calls
      where
        beside : (o : ℕ) → (o < 24) ⊎ (((32 ≤ o) × (o < 36)) ⊎ (60 ≤ o)) → (o < 24) ⊎ (32 ≤ o)
        beside o (inl below) = inl below
        beside o (inr (inl between)) = inr between.0
        beside o (inr (inr above)) = inr (omega (arith, above))

    -- of the place of the L1 table
    pub behind_pointer : {T : Type 0} {v told v' : StorageView} {caches : MetadataCaches S} (result : Result T StorageError) (h : HeaderFields) → told ≡ v → Changes told v' result (l1_table_pointer_written h) → Calls told v' result
        → KeepsTablesBehind own l1 v caches a own l1 v' caches a
    unfolding bytes_of_numbers
    behind_pointer result h same wrote calls = behind_write result 36 _ same (λ bits lies o kept. beside o kept.1) wrote calls
      where
        beside : (o : ℕ) → (o < 24) ⊎ (((32 ≤ o) × (o < 36)) ⊎ (60 ≤ o)) → (o < 36) ⊎ (48 ≤ o)
        beside o (inl below) = inl (omega (arith, below))
        beside o (inr (inl between)) = inl between.1
        beside o (inr (inr above)) = inr (omega (arith, above))

  -- a header with clusters of as many bits
  pub behind_bits : {own own' : ℕ} {l1 : EntryTableView} {v : StorageView} {caches : MetadataCaches S} {a : Option Allocator} → own' ≡ own → KeepsTablesBehind own l1 v caches a own' l1 v caches a
  behind_bits {own} {own'} {l1} {v} {caches} {a} same = subst (λ n. KeepsTablesBehind own l1 v caches a n l1 v caches a) (sym same) behind_none

  -- the L1 table lies past cluster 0 if the old one did
  pub behind_l1 : {own : ℕ} {l1 l1' : EntryTableView} {v : StorageView} {caches : MetadataCaches S} {a : Option Allocator} → KeepsL1TableBehind l1 l1' → KeepsTablesBehind own l1 v caches a own l1' v caches a
  behind_l1 {v} keeps = record {
    kept = λ bits lies. record { header = lies.header; l1 = keeps bits lies.l1; caches = lies.caches; reftable = lies.reftable };
    bytes = λ bits lies honest. bytes_stay (IsBesideNumbers bits) v;
  }

  -- a call of the allocator
  module _ {view : S → StorageView} {l1 : EntryTableView} where
    behind_spared : (IsKept : ℕ → ℕ → Type 0) → ((bits o : ℕ) → IsBesideNumbers bits o → IsKept bits o) → {before after : Allocator} {old new : ImageFile S} {a : Option Allocator} → a ≡ Some before → SparesBytes view IsKept before.reftable old after.reftable new
        → KeepsTablesBehind old.header.fields.cluster_bits l1 (view_in view old) old.caches a new.header.fields.cluster_bits l1 (view_in view new) new.caches (Some after)
    behind_spared IsKept fewer {before} {after} {old} {new} {a} is spares = record {
      kept = λ bits lies.
          let stands = spares.behind bits (stood bits lies) in
          record { header = stands.header; l1 = lies.l1; caches = stands.caches; reftable = (stands.reftable_bits, stands.elsewhere) };
      bytes = λ bits lies honest. fewer_stay (IsKept bits) (IsBesideNumbers bits) (view_in view old) (view_in view new) (fewer bits) (spares.bytes bits (stood bits lies) honest);
    }
      where
        stood : (bits : ℕ) → TablesBehindHeader bits old.header.fields.cluster_bits l1 old.caches a → StandsBehindHeader bits before.reftable old
        stood bits lies =
            let own = subst (λ (x : Option Allocator). IfSome x (λ r. (r.reftable.cluster_bits ≡ bits) × (0 < entry_count r.reftable → ¬ (r.reftable.cluster ≡ Some 0)))) is lies.reftable in
            record { header = lies.header; caches = lies.caches; reftable_bits = own.0; elsewhere = own.1 }

    pub behind_allocated : {before after : Allocator} {old new : ImageFile S} {a : Option Allocator} → a ≡ Some before → PreservesHeaderButPointer view before.reftable old after.reftable new
        → KeepsTablesBehind old.header.fields.cluster_bits l1 (view_in view old) old.caches a new.header.fields.cluster_bits l1 (view_in view new) new.caches (Some after)
    behind_allocated is spares = behind_spared IsBesidePointer beside_pointer is spares

    pub behind_freed : {before after : Allocator} {old new : ImageFile S} {a : Option Allocator} → a ≡ Some before → SparesHeader view before.reftable old after.reftable new
        → KeepsTablesBehind old.header.fields.cluster_bits l1 (view_in view old) old.caches a new.header.fields.cluster_bits l1 (view_in view new) new.caches (Some after)
    behind_freed is spares = behind_spared IsInHeaderCluster (λ bits o kept. kept.0) is spares

  -- a file whose caches and whose header's clusters stayed
  pub stands_still : {bits : ℕ} {reftable : EntryTableView} {file file' : ImageFile S} → file'.caches ≡ file.caches → file'.header.fields.cluster_bits ≡ file.header.fields.cluster_bits → StandsBehindHeader bits reftable file
      → StandsBehindHeader file'.header.fields.cluster_bits reftable file'
  stands_still {bits} {reftable} {file} {file'} same as_wide stands =
      let now : StandsBehindHeader bits reftable file' = record { header = as_wide ∙ stands.header; caches = subst (LeaveHeaderCluster bits) (sym same) stands.caches; reftable_bits = stands.reftable_bits; elsewhere = stands.elsewhere } in
      subst (λ n. StandsBehindHeader n reftable file') (sym now.header) now

  -- tables that were loaded
  pub behind_loaded : {bits : ℕ} {l1 : EntryTableView} {a : Allocator} {file : ImageFile S} → StandsBehindHeader bits a.reftable file → IsL1TableBehind file.header.fields.cluster_bits l1
      → TablesBehindHeader file.header.fields.cluster_bits file.header.fields.cluster_bits l1 file.caches (Some a)
  behind_loaded {bits} {l1} {a} {file} stands l1_lies =
      let lies : TablesBehindHeader bits file.header.fields.cluster_bits l1 file.caches (Some a) =
      record { header = stands.header; l1 = subst (λ n. IsL1TableBehind n l1) stands.header l1_lies; caches = stands.caches; reftable = (stands.reftable_bits, stands.elsewhere) } in
      subst (λ n. TablesBehindHeader n file.header.fields.cluster_bits l1 file.caches (Some a)) (sym stands.header) lies

module _ {S F : Type 0} (view : S → StorageView) where
  -- a step that makes an image so
  pub behind_by : {own : ℕ} {l1 : EntryTableView} {v : StorageView} {caches : MetadataCaches S} {a : Option Allocator} {new is : Qcow2 S F} → new ≡ is
      → KeepsTablesBehind own l1 v caches a is.file.header.fields.cluster_bits is.l1_table (view_in view is.file) is.file.caches is.allocator
      → KeepsTablesBehind own l1 v caches a new.file.header.fields.cluster_bits new.l1_table (view_in view new.file) new.file.caches new.allocator
  behind_by {own} {l1} {v} {caches} {a} same keeps =
      subst (λ (i : Qcow2 S F). KeepsTablesBehind own l1 v caches a i.file.header.fields.cluster_bits i.l1_table (view_in view i.file) i.file.caches i.allocator) (sym same) keeps

  -- the beginning of a call
  pub behind_begun : {old new : Qcow2 S F} → IsBegun old new → PreservesHeaderCluster view old new
  behind_begun {old} {new} begun =
      let same : view_in view old.file ≡ view_in view new.file = ap view (sym begun.storage) in
      behind_by begun.rest
      (subst (λ (v : StorageView). KeepsTablesBehind old.file.header.fields.cluster_bits old.l1_table (view_in view old.file) old.file.caches old.allocator old.file.header.fields.cluster_bits old.l1_table v new.file.caches old.allocator) same
      (behind_tables (λ bits are. subst (λ (c : MetadataCaches S). LeaveHeaderCluster bits c) (sym begun.caches) (record { l2_bits = are.l2_bits; rb_bits = are.rb_bits; tables = are.tables; blocks = are.blocks }))))

  -- a call, whose end is marked
  pub behind_call : {old begun new is : Qcow2 S F} → IsBegun old begun
      → KeepsTablesBehind begun.file.header.fields.cluster_bits begun.l1_table (view_in view begun.file) begun.file.caches begun.allocator is.file.header.fields.cluster_bits is.l1_table (view_in view is.file) is.file.caches is.allocator
      → new ≡ is → PreservesHeaderCluster view old new
  behind_call begins keeps marked = behind_then (behind_begun begins) (behind_by marked keeps)
