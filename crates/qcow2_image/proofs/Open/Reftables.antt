-- The allocator still belongs to its file if no refcount and no reftable entry changes.
use Rattle.std.proofs.Common.{◌≡◌, ◌/◌, Option, Some, sym, ap, ◌∙◌, ℕ, arith}
use Rattle.qcow2_image.proofs.Common.{IfSome, StorageView, count, reftable_entry, EntryTableView, cluster_size, reftable_entries, HeaderFields, Pending, Allocator, ImageFile, contents_in, known_in, HasReftable, InternalFileStep, IsAllocatorOf, allocator_kept}

module _ {S : Type 0} (view : S → StorageView) (old new : ImageFile S) where
  -- the same header and the same bytes on the storage
  table_still : new.header.fields ≡ old.header.fields → contents_in view new ≡ contents_in view old → (t : EntryTableView) → HasReftable view old t → HasReftable view new t
  table_still header same t has = record {
    cluster = has.cluster ∙ ap (λ (h : HeaderFields). Some (h.reftable_offset / cluster_size h)) (sym header);
    bits = has.bits ∙ ap (λ (h : HeaderFields). h.cluster_bits) (sym header);
    count = has.count ∙ ap reftable_entries (sym header);
    entries = λ k. has.entries k ∙ ap (λ b. reftable_entry old.header.fields b k) (sym same) ∙ ap (λ h. reftable_entry h (contents_in view new) k) (sym header);
  }

  -- each cluster is counted as often
  pub reftable_still : new.header.fields ≡ old.header.fields → contents_in view new ≡ contents_in view old → ((k : ℕ) → count old.header.fields (known_in view old) k ≡ count new.header.fields (known_in view new) k)
      → (a : Option Allocator) → IfSome a (IsAllocatorOf view old) → IfSome a (IsAllocatorOf view new)
  reftable_still header same counts = allocator_kept view old new (table_still header same) (λ k. let e = counts k in omega arith)

  -- a step of the file that leaves the same pending
  pub allocator_moved : (p : Pending) → InternalFileStep view p p old new → ((t : EntryTableView) → HasReftable view old t → HasReftable view new t) → (a : Option Allocator) → IfSome a (IsAllocatorOf view old) → IfSome a (IsAllocatorOf view new)
  allocator_moved p file_step table = allocator_kept view old new table (λ k. let e = file_step.counts k in omega arith)
