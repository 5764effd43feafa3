-- An allocator still belongs to its file after steps, and after refused calls.
use Rattle.std.proofs.Common.{◌≡◌, ◌⊎◌, ◌≤◌, inl, inr, subst, sym, ℕ, List, Option, Some, None, arith, IfSome}
use Rattle.qcow2_alloc.proofs.Common.{StorageView, count, EntryTableView, Pending, Allocator, ImageError, ImageFile, RefusedGrowth, InternalAllocatorStep, known_in, HasReftable, InternalFileGrowth, InterruptedFileStep, NoFreeBelowHint, SearchesAnew, BrokeOff, IsIn}
use Rattle.qcow2_alloc.specs.KeptAllocators.{IsAllocatorOf}
use Rattle.qcow2_alloc.proofs.AllocationSteps.{on_of}

module _ {S : Type 0} (view : S → StorageView) where
  -- no count falls, and the reftable is the one on the storage still
  pub allocator_kept : (old new : ImageFile S) → ((t : EntryTableView) → HasReftable view old t → HasReftable view new t)
      → ((k : ℕ) → count old.header.fields (known_in view old) k ≤ count new.header.fields (known_in view new) k) → (a : Option Allocator) → IfSome a (IsAllocatorOf view old) → IfSome a (IsAllocatorOf view new)
  allocator_kept old new table counts None is = tt
  allocator_kept old new table counts (Some a) is = record {
    reftable = table a.reftable is.reftable;
    hint = λ k below zero. is.hint k below (let le = counts k in omega (arith, le, zero));
  }

  -- an allocator that only spares other clusters, all of which are in use
  pub spared_kept : (file : ImageFile S) (t t' : Allocator) → t' ≡ record t { named = t'.named } → (NoFreeBelowHint view t file → NoFreeBelowHint view t' file) → IsAllocatorOf view file t → IsAllocatorOf view file t'
  spared_kept file t t' rest hint is = record { reftable = subst (λ (x : Allocator). HasReftable view file x.reftable) (sym rest) is.reftable; hint = hint is.hint }

  -- an allocator whose search begins anew
  pub anew_kept : (file : ImageFile S) (t t' : Allocator) → SearchesAnew t t' → IsAllocatorOf view file t → IsAllocatorOf view file t'
  anew_kept file t t' anew is = record {
    reftable = subst (HasReftable view file) (sym anew.reftable) is.reftable;
    hint = λ k passed. elim passed [
      | inl below ↦ absurd (let zero = anew.first in omega (arith, below, zero))
      | inr (inl spared) ↦ is.hint k (inr (inl (subst (λ (runs : List (ℕ × ℕ)). IsIn runs k) anew.named spared)))
      | inr (inr covered) ↦ absurd (anew.unread k covered.0)
    ];
  }

  -- a refused call left both as they are kept, or broke off
  pub refused_kept : (p q : Pending) (a b : ImageFile S) (t : Allocator) (e : ImageError) → RefusedGrowth view p a t b q e → NoFreeBelowHint view t b ⊎ BrokeOff b e → (InternalFileGrowth view p q a b × IsAllocatorOf view b t) ⊎ InterruptedFileStep view a b e
  refused_kept p q a b t e leaves hint = elim hint [
    | inl kept ↦ elim leaves [ inl grows ↦ inl (grows.file_step, record { reftable = grows.reftable; hint = kept }) | inr interrupted ↦ inr interrupted ]
    | inr interruption ↦ inr (elim leaves [ inl grows ↦ record { fault = interruption.0; recorded = interruption.1; since = grows.file_step.since } | inr interrupted ↦ interrupted ])
  ]

  -- so did one that frees
  pub freed_kept : (p q : Pending) (a b : ImageFile S) (t : Allocator) (e : ImageError) → InternalAllocatorStep view p a t b q ⊎ InterruptedFileStep view a b e → NoFreeBelowHint view t b ⊎ BrokeOff b e
      → (InternalFileGrowth view p q a b × IsAllocatorOf view b t) ⊎ InterruptedFileStep view a b e
  freed_kept p q a b t e leaves hint = refused_kept p q a b t e (elim leaves [ inl step ↦ inl (on_of view p q a b t step) | inr interrupted ↦ inr interrupted ]) hint
