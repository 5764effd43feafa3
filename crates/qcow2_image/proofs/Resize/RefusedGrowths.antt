-- What a refused growth leaves waiting to be freed.
use Rattle.std.proofs.Common.{◌≡◌, ◌⊎◌, ◌++◌, [], ◌∙◌, inl, inr, ap, Bool, Err}
use Rattle.qcow2_image.proofs.Common.{StorageView, PreallocateMode, IsFault, IsFaultOrLimit, ImageError, Qcow2, Lasts, LastsPart, ListGrows}
use Rattle.qcow2_alloc.specs.declared.error.ImageError.TheVariants.{Limit}
use Rattle.qcow2_image.specs.ListedClusters.{LeavesListed}

-- a limit is no fault
no_fault : (e : ImageError) → IsFault e → e ≡ Limit → ⊥
no_fault e (inl storage) is = cc
no_fault e (inr memory) is = cc

-- a part that is refused lasts as a call does
pub part_lasts : {S F : Type 0} (view : S → StorageView) (old new : Qcow2 S F) (e : ImageError) → LastsPart view old new (Err e) → Lasts view old new []
part_lasts view old new e (inl known) = known.since
part_lasts view old new e (inr broken) = broken.1

module _ {S F : Type 0} where
  -- after a fault anything may wait
  pub fault_listed : (old new : Qcow2 S F) (mode : PreallocateMode) (e : ImageError) → IsFault e → LeavesListed mode old new e
  fault_listed old new mode e fault = record { freed = inl (inl fault); unfilled = λ none is. absurd (no_fault e fault is) }

  -- after a limit that the L1 table met, what waited waits still
  pub limit_listed : (old begun mid : Qcow2 S F) (marked : Bool) (mode : PreallocateMode) (e : ImageError) → begun.file.free_list ≡ old.file.free_list → IsFaultOrLimit e → IsFault e ⊎ ListGrows begun mid
      → LeavesListed mode old (record mid { is_failed = marked }) e
  limit_listed old begun mid marked mode e list why (inl fault) = fault_listed old (record mid { is_failed = marked }) mode e fault
  limit_listed old begun mid marked mode e list (inl fault) (inr grows) = fault_listed old (record mid { is_failed = marked }) mode e fault
  limit_listed old begun mid marked mode e list (inr limit) (inr grows) =
      let still : ListGrows old (record mid { is_failed = marked }) = record { more = grows.more; is = grows.is ∙ ap (λ l. l ++ grows.more) list } in
      record { freed = inr (limit, still); unfilled = λ none is. still }
