-- Reading the tables again returns what was in memory.
use Rattle.std.proofs.Common.{◌≡◌, ℕ, Bool, List, Option, Some, Result, refl, sym, ap, ◌∙◌, subst, is_some}
use Rattle.qcow2_image.proofs.Common.{BackingView, StorageView, IsLeftBy, passes_if, passes_none, passes_on, Bytes, byte_at, l1_entry, EntryTableView, HeaderView, header, with_fields, with_tables_of, OnlyReads, MetadataError, HeaderFields, Pending, IsTop, view_in, HasReftable, storage_of, IsAllocatorOf, IsPassed, Allocator, ImageFile, ImageStorage, HasL1Table, ImageInvariant, InternalStep, ContentsStayThroughout, Qcow2, Prepared, CountsChanges, counts_none, changes_of, is_changed_of, SameNotes, KeepsNotes, StandsBehindHeader, same_kept, notes_of_storage, IsBesideNumbers, IsL1TableBehind, KeepsTablesBehind, NamesTablesBehind, TablesBehindHeader, leaked_by, leaked_in, ReadsPlaces, ReadsTables, MetadataCaches, Mappings}
use Rattle.qcow2_image.proofs.Map.Loading.{still_moved}

-- ---- storages whose contents stay

pub silent_read : {T : Type 0} (old new : StorageView) (result : Result T MetadataError) → OnlyReads old new result → old.is_honest → ContentsStayThroughout old new
silent_read old new result reads honest = (reads.same, reads.time honest)

pub silent_none : (v : StorageView) → ContentsStayThroughout v v
silent_none v = ((λ honest. refl), passes_none v (IsLeftBy v))

pub silent_then : (old mid new : StorageView) → old.is_honest → ContentsStayThroughout old mid → (mid.is_honest → ContentsStayThroughout mid new) → ContentsStayThroughout old new
silent_then old mid new honest first then =
    let there = first.1.honest honest in
    let last = then there in
    let same = first.0 honest in
    ((λ _. last.0 there ∙ same), passes_on (IsLeftBy old) first.1 last.1 (λ c is. is ∙ same))

-- places that were found in the header of a sound image are those in memory
pub same_places : (h w : HeaderFields) (b : Bytes) → IsTop h b → with_tables_of h (header b) ≡ w → w ≡ h
same_places h w b top there = sym there ∙ ap (λ (k : HeaderFields). with_tables_of h k) top.header_is

-- ---- tables that were read before the last bytes were
module _ {S F : Type 0} (view : S → StorageView) (backing : F → BackingView) (file : ImageFile S) (storage' : ImageStorage S) (same : (view (storage_of storage')).contents ≡ (view_in view file).contents) where
  pub l1_still : (t : EntryTableView) → HasL1Table view backing file t → HasL1Table view backing (record file { storage = storage' }) t
  l1_still t has = record { cluster = has.cluster; bits = has.bits; count = has.count; entries = λ k. has.entries k ∙ ap (λ (c : List ℕ). l1_entry file.header.fields (byte_at c) k) (sym same) }

-- an allocator that begins anew
pub begins_of : {S : Type 0} (view : S → StorageView) (file : ImageFile S) (a : Allocator) → ((k : ℕ) → ¬ IsPassed a k) → HasReftable view file a.reftable → IsAllocatorOf view file a
begins_of view file a passed reftable = record { reftable = reftable; hint = λ k is. absurd (passed k is) }

-- ---- a sound image whose storage was read
module _ {S F : Type 0} (view : S → StorageView) (backing : F → BackingView) (image : Qcow2 S F) (out : Mappings) (p : Pending) (sound : ImageInvariant view backing p image out) where
  pub silent_moved : (storage' : ImageStorage S) → ContentsStayThroughout (view_in view image.file) (view (storage_of storage')) → InternalStep view backing p p image (record image { file = record image.file { storage = storage' } }) out
  silent_moved storage' silent =
      let honest = sound.file.honest in
      still_moved view backing image out p sound storage' (silent.1.honest honest) (passes_if _ (λ c is. is ∙ sym (silent.0 honest)) silent.1) (silent.0 honest)

-- ---- what reading keeps of recorded changes, and of the header's cluster
module _ {S : Type 0} (view : S → StorageView) where
  pub kept_silent : (a b : ImageStorage S) → SameNotes a b → ((view (storage_of a)).is_honest → ContentsStayThroughout (view (storage_of a)) (view (storage_of b))) → ((view (storage_of a)).is_honest → (view (storage_of b)).is_honest) → KeepsNotes view a b
  kept_silent a b same silent honest = record {
    honest = honest;
    changes = subst (λ (x : Bool). CountsChanges (is_changed_of a) (changes_of a) x (changes_of b)) (sym same.note) (subst (λ n. CountsChanges (is_changed_of a) (changes_of a) (is_changed_of a) n) (sym same.count) (counts_none (is_changed_of a) (changes_of a)));
    contents = λ none h. (silent h).0 h;
  }

  pub same_notes : (a b : ImageStorage S) → b ≡ record a { storage = storage_of b } → SameNotes a b
  same_notes a b rest = record { note = ap (λ (s : ImageStorage S). is_changed_of s) rest; count = ap (λ (s : ImageStorage S). changes_of s) rest }

  pub notes_through : (a b c : ImageStorage S) → SameNotes a b → SameNotes b c → SameNotes a c
  notes_through a b c first then = record { note = then.note ∙ first.note; count = then.count ∙ first.count }

-- tables stay out of the header's cluster while the storage is read
pub behind_silent : {S : Type 0} {own own' : ℕ} {l1 l1' : EntryTableView} {v v' : StorageView} {caches : MetadataCaches S} {o o' : Option Allocator} → ((bits : ℕ) → TablesBehindHeader bits own l1 caches o → TablesBehindHeader bits own' l1' caches o')
    → (v.is_honest → ContentsStayThroughout v v') → KeepsTablesBehind own l1 v caches o own' l1' v' caches o'
behind_silent {v = v} {v' = v'} kept silent = record {
  kept = kept;
  bytes = λ bits lies honest. let same = silent honest in record {
    moments = passes_if _ (λ c is. same_kept (IsBesideNumbers bits) v.contents c is) same.1;
    contents = same_kept (IsBesideNumbers bits) v.contents v'.contents (same.0 honest);
  };
}

module _ {S F : Type 0} (view : S → StorageView) (old : Qcow2 S F) (storage' : ImageStorage S) (same : SameNotes old.file.storage storage') (silent : (view_in view old.file).is_honest → ContentsStayThroughout (view_in view old.file) (view (storage_of storage')))
    (honest : (view_in view old.file).is_honest → (view (storage_of storage')).is_honest) where
  pub places_read : ReadsPlaces view old (record old { file = record old.file { storage = storage' } })
  places_read = record {
    part = record {
      stays = record { image = record { number = refl; size = refl; writable = refl; lacks = refl; beside = refl }; failed = refl };
      notes = notes_of_storage (kept_silent view old.file.storage storage' same silent honest);
      header_cluster = behind_silent (λ bits lies. lies) silent;
    };
    rest = refl;
    silent = silent;
  }

-- a header that takes over the tables of another one
pub takes_over : (v v' : HeaderView) (h : HeaderFields) → v' ≡ with_fields v (with_tables_of v.fields h) → v' ≡ with_fields v (with_tables_of v.fields v'.fields)
takes_over v v' h is = subst (λ (x : HeaderView). x ≡ with_fields v (with_tables_of v.fields x.fields)) (sym is) refl

pub stays_over : (v v' : HeaderView) → v' ≡ v → v' ≡ with_fields v (with_tables_of v.fields v'.fields)
stays_over v v' is = subst (λ (x : HeaderView). x ≡ with_fields v (with_tables_of v.fields x.fields)) (sym is) refl

module _ {S F : Type 0} (view : S → StorageView) (old : Qcow2 S F) (storage' : ImageStorage S) (table : EntryTableView) (allocator : Option Allocator) (same : SameNotes old.file.storage storage')
    (silent : (view_in view old.file).is_honest → ContentsStayThroughout (view_in view old.file) (view (storage_of storage'))) (honest : (view_in view old.file).is_honest → (view (storage_of storage')).is_honest)
    (some : is_some allocator ≡ is_some old.allocator) (leaks : leaked_by allocator ≡ leaked_in old)
    (kept : NamesTablesBehind old.file.header.fields → (bits : ℕ) → TablesBehindHeader bits old.file.header.fields.cluster_bits old.l1_table old.file.caches old.allocator → TablesBehindHeader bits old.file.header.fields.cluster_bits table old.file.caches allocator) where
  pub tables_read : ReadsTables view old (record old { file = record old.file { storage = storage' }; l1_table = table; allocator = allocator })
  tables_read = record {
    part = record {
      stays = record { image = record { number = refl; size = refl; writable = some; lacks = refl; beside = refl }; failed = refl };
      notes = notes_of_storage (kept_silent view old.file.storage storage' same silent honest);
      header_cluster = λ names. behind_silent (kept names) silent;
    };
    rest = refl;
    leaks = leaks;
    silent = silent;
  }

-- the L1 table that was read lies past the header's cluster, and the other tables lie where they lay
pub l1_behind : {S : Type 0} {bits own : ℕ} {l1 table : EntryTableView} {caches : MetadataCaches S} {o : Option Allocator} → TablesBehindHeader bits own l1 caches o → IsL1TableBehind own table → TablesBehindHeader bits own table caches o
l1_behind {table = table} lies l1 = record { header = lies.header; l1 = subst (λ n. IsL1TableBehind n table) lies.header l1; caches = lies.caches; reftable = lies.reftable }

-- and so does the reftable
pub both_behind : {S : Type 0} {bits own : ℕ} {l1 table : EntryTableView} {file : ImageFile S} {caches : MetadataCaches S} {o : Option Allocator} {a : Allocator} → TablesBehindHeader bits own l1 caches o → IsL1TableBehind own table → StandsBehindHeader own a.reftable file
    → TablesBehindHeader bits own table caches (Some a)
both_behind {table = table} {a = a} lies l1 stands = record {
  header = lies.header;
  l1 = subst (λ n. IsL1TableBehind n table) lies.header l1;
  caches = lies.caches;
  reftable = (stands.reftable_bits ∙ lies.header, stands.elsewhere);
}
