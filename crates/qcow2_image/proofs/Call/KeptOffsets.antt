-- Causes in the tables in memory stay while these keep their offsets.
use Rattle.std.proofs.Common.{◌≡◌, ◌+◌, ℕ, inl, inr, Option, Some, None, refl, sym, ap, ◌∙◌, subst}
use Rattle.std.specs.Prelude.{IsSomeAnd, IfSome}
use Rattle.qcow2_image.proofs.Common.{HasCompressedCached, MayFailFilling, L2Mapping, option_map, L2TableView, HeaderFields, HeaderView, EntryTableView, l2_at, Allocator, MetadataCaches, Qcow2, ImageError, HasUnalignedAt, HasUnalignedCached, HasUnalignedOffset, IsUnalignedIn, KeepsOffsets, MayFailFinding, MayFailOn, MayFailPuttingAt, Prepared, ReleasesOneMapping, StorageView, ImageFile, Result}
use Rattle.qcow2_alloc.specs.Allocation.{HasUnaligned}
use Rattle.qcow2_alloc.specs.KeptMarks.{KeepsHeldTables}
use Rattle.qcow2_alloc.specs.TableCaches.{cleared_l2}
use Rattle.qcow2_alloc.specs.Leaks.{FreesOff}
use Rattle.qcow2_alloc.proofs.FreedEach.{each_tables}
use Rattle.qcow2_disk.specs.Found.{IsCompressed}
use Rattle.qcow2_image.specs.Found.{mapping_of}
use Rattle.qcow2_image.specs.UnalignedTables.{IsTableUnaligned}
use Rattle.qcow2_image.proofs.Call.FailingErrors.{fault_met, met_if, met_with}
use Rattle.qcow2_image.proofs.Call.CacheErrors.{in_use_met}
use Rattle.qcow2_image.specs.PinnedTables.{own_table}
use Rattle.qcow2_alloc.specs.declared.error.ImageError.TheVariants as I

-- an entry for a range of bytes is an entry
pub cached_at : {S : Type 0} (h : HeaderFields) (caches : MetadataCaches S) (cluster offset n : ℕ) → HasUnalignedAt h caches cluster offset n → HasUnalignedCached caches
cached_at h caches cluster offset n at = elim at.2 [
  | inl here ↦ record { cluster = cluster; table = at.0; is = at.1; guest = _; off = here }
  | inr later ↦ record { cluster = cluster; table = at.0; is = at.1; guest = _; off = later.2 }
]

-- the same entries in a table that may have been written
entries_in : (now : Option L2TableView) (was : L2TableView) (guest : ℕ) → option_map cleared_l2 now ≡ Some (cleared_l2 was) → IsUnalignedIn was guest → (t : L2TableView) × (now ≡ Some t) × IsUnalignedIn t guest
entries_in None was guest same off = absurd cc
entries_in (Some t) was guest same off = let is : cleared_l2 t ≡ cleared_l2 was = cc in (t, λ i. Some t, subst (λ (x : L2TableView). IsUnalignedIn x guest) (sym is) off)

compressed_in : (now : Option L2TableView) (was : L2TableView) (guest : ℕ) → option_map cleared_l2 now ≡ Some (cleared_l2 was) → IsCompressed (mapping_of was guest) → (t : L2TableView) × (now ≡ Some t) × IsCompressed (mapping_of t guest)
compressed_in None was guest same is = absurd cc
compressed_in (Some t) was guest same is = let same_table : cleared_l2 t ≡ cleared_l2 was = cc in (t, λ i. Some t, subst (λ (x : L2TableView). IsCompressed (mapping_of x guest)) (sym same_table) is)

pub compressed_kept : {S : Type 0} (caches caches' : MetadataCaches S) → KeepsHeldTables caches caches' → HasCompressedCached caches → HasCompressedCached caches'
compressed_kept caches caches' keeps has =
    let found = compressed_in (l2_at caches' has.cluster) has.table has.guest (keeps has.cluster ∙ ap (option_map cleared_l2) has.is) has.compressed in
    record { cluster = has.cluster; table = found.0; is = found.1; guest = has.guest; compressed = found.2 }

pub cached_kept : {S : Type 0} (caches caches' : MetadataCaches S) → KeepsHeldTables caches caches' → HasUnalignedCached caches → HasUnalignedCached caches'
cached_kept caches caches' keeps has =
    let found = entries_in (l2_at caches' has.cluster) has.table has.guest (keeps has.cluster ∙ ap (option_map cleared_l2) has.is) has.off in
    record { cluster = has.cluster; table = found.0; is = found.1; guest = has.guest; off = found.2 }

blocks_kept : (h h' : HeaderFields) (was now : Option Allocator) → h' ≡ h → IfSome was (λ w. IsSomeAnd now (λ n. n.reftable ≡ w.reftable)) → IsSomeAnd was (λ a. HasUnaligned h a.reftable) → IsSomeAnd now (λ a. HasUnaligned h' a.reftable)
blocks_kept h h' None now same keeps has = absurd has
blocks_kept h h' (Some w) None same keeps has = absurd keeps
blocks_kept h h' (Some w) (Some n) same keeps has = subst (λ x. HasUnaligned x n.reftable) (sym same) (subst (λ (t : EntryTableView). HasUnaligned h t) (sym keeps) has)

module _ {S F : Type 0} {old new : Qcow2 S F} (keeps : KeepsOffsets old new) where
  pub offsets_kept : HasUnalignedOffset old → HasUnalignedOffset new
  offsets_kept (inl block) = inl (blocks_kept old.file.header.fields new.file.header.fields old.allocator new.allocator (ap (λ (h : HeaderView). h.fields) keeps.header) keeps.reftable block)
  offsets_kept (inr (inl table)) = inr (inl (table.0, subst (λ (h : HeaderView). IsTableUnaligned (record new { file = record new.file { header = h } }) table.0) (sym keeps.header) (subst (λ (t : EntryTableView). IsTableUnaligned (record old { l1_table = t }) table.0) (sym keeps.l1_table) table.1)))
  offsets_kept (inr (inr cached)) = inr (inr (cached_kept old.file.caches new.file.caches keeps.tables cached))

  pub met_kept : (e : ImageError) → MayFailOn old e → MayFailOn new e
  met_kept e met = met_if (record { unaligned = offsets_kept; compressed = compressed_kept old.file.caches new.file.caches keeps.tables }) e met

-- a mapping is dropped
same_blocks : (was now : Option Allocator) → now ≡ was → IfSome was (λ w. IsSomeAnd now (λ n. n.reftable ≡ w.reftable))
same_blocks was now same = subst (λ (x : Option Allocator). IfSome was (λ w. IsSomeAnd x (λ n. n.reftable ≡ w.reftable))) (sym same) (own was) where
  own : (was : Option Allocator) → IfSome was (λ w. IsSomeAnd was (λ n. n.reftable ≡ w.reftable))
  own None = tt
  own (Some w) = refl

pub released_offsets : {S F : Type 0} (view : S → StorageView) (old new : Qcow2 S F) → ReleasesOneMapping view old new → KeepsOffsets old new
released_offsets view old new released = record {
  header = ap (λ (m : Qcow2 _ _). m.file.header) released.rest;
  l1_table = ap (λ (m : Qcow2 _ _). m.l1_table) released.rest;
  reftable = same_blocks old.allocator new.allocator (ap (λ (m : Qcow2 _ _). m.allocator) released.rest);
  tables = λ c. ap (option_map cleared_l2) (released.held c);
}

-- nothing changes
pub offsets_none : {S F : Type 0} (image : Qcow2 S F) → KeepsOffsets image image
offsets_none image = record { header = refl; l1_table = refl; reftable = same_blocks image.allocator image.allocator refl; tables = λ c. refl }

-- clusters are freed
pub freed_offsets : {S F : Type 0} (view : S → StorageView) (old : Qcow2 S F) (allocator allocator' : Allocator) (file : ImageFile S) (result : Result (Unit {0}) ImageError) → old.allocator ≡ Some allocator → file.header ≡ old.file.header → allocator'.reftable ≡ allocator.reftable
    → FreesOff old.file.header.fields allocator.reftable allocator old.file.caches old.file.free_list allocator' file.caches file.free_list result → KeepsOffsets old (record old { file = file; allocator = Some allocator' })
freed_offsets view old allocator allocator' file result is header reftable each = record {
  header = header;
  l1_table = refl;
  reftable = subst (λ (x : Option Allocator). IfSome x (λ w. allocator'.reftable ≡ w.reftable)) (sym is) reftable;
  tables = each_tables old.file.header.fields allocator.reftable each.off allocator allocator' old.file.caches file.caches result each.each;
}

-- ---- what a lookup or a put meets is met on the image that it leaves
pub finding_met : {S F : Type 0} (old new : Qcow2 S F) (offset n : ℕ) (e : ImageError) → MayFailFinding old new offset n e → MayFailOn new e
finding_met old new offset n e (inl off) = subst (MayFailOn new) (sym off.0) (elim off.1 [
  | inl table ↦ inr (inl (offset, table))
  | inr entry ↦ inr (inr (cached_at new.file.header.fields new.file.caches (own_table new offset) offset n entry))
])
finding_met old new offset n e (inr load) = in_use_met _ _ _ e load

-- of a put, unless its range is mapped differently
pub putting_met : {S F : Type 0} (old new : Qcow2 S F) (p : Prepared) (at n : ℕ) (e : ImageError) → (e ≡ I.OutdatedMapping → ⊥) → MayFailPuttingAt old new p at n e → MayFailOn new e
putting_met old new p at n e current (inl fault) = fault_met _ e fault
putting_met old new p at n e current (inr (inl again)) = elim again.1 [
  | inl finding ↦ finding_met old new (p.guest + at) n e finding
  | inr outdated ↦ absurd (current outdated)
]
putting_met old new p at n e current (inr (inr (inl past))) = subst (MayFailOn new) (sym past.0) tt
putting_met old new p at n e current (inr (inr (inr first))) = subst (MayFailOn new) (sym first.0) tt

-- a cluster whose old mapping was looked up in a cached table is not filled
pub filling_held : {S F : Type 0} (old new : Qcow2 S F) (mapping : L2Mapping) → (IsCompressed mapping → HasCompressedCached old.file.caches) → (e : ImageError) → MayFailFilling old new mapping e → MayFailOn new e
filling_held old new mapping held e met = met_with new (λ still. compressed_kept old.file.caches new.file.caches still.tables (held still.compressed)) e met

-- other parts of the call come before and after, which keep the cached tables
pub filling_since : {S F : Type 0} (old mid new : Qcow2 S F) (mapping : L2Mapping) → KeepsHeldTables old.file.caches mid.file.caches → (e : ImageError) → MayFailFilling mid new mapping e → MayFailFilling old new mapping e
filling_since old mid new mapping keeps e met = met_with new (λ still. record { compressed = still.compressed; tables = λ c. still.tables c ∙ keeps c }) e met
