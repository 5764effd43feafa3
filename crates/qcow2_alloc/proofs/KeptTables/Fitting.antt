-- The tables of a cache have the image's format, whatever is flushed, loaded or inserted.
use Rattle.std.proofs.Common.{◌≡◌, ℕ, Bool, true, eqb, List, Option, Some, Result, Ok, sym, subst}
use Rattle.qcow2_alloc.proofs.Common.{lookup_entry, remove_entry, promoted, StorageView, MetadataError, Slot, CacheError, table_steps, Unit₀, Flushes, GetsNew, InsertsNew, Replaces, AllValuesFit, Steps}
use Rattle.qcow2_alloc.proofs.CachedEntries.Each.{IsOfEach, each_flushed, each_got, each_inserted, each_promoted, each_replaced}

fits_each : {V : Type 0} (IsFit : V → Type 0) → IsOfEach (λ k v. IsFit v) (AllValuesFit IsFit)
fits_each IsFit = record { none = tt; more = λ e es fits all. (fits, all); first = λ e es all. all.0; rest = λ e es all. all.1 }

pub fit_promoted : {V : Type 0} (IsFit : V → Type 0) (test : ℕ → Bool) (es : List (ℕ × Slot V)) → AllValuesFit IsFit es → AllValuesFit IsFit (promoted test es)
fit_promoted IsFit test es all = each_promoted (fits_each IsFit) test es all

module _ {S V : Type 0} (view : S → StorageView) (bits : ℕ) (bytes : V → List ℕ) (is_modified : V → Bool) (cleared : V → V) (IsFit : V → Type 0) (still : (v : V) → IsFit v → IsFit (cleared v)) where
  abbrev Steps₀ : Steps S ℕ V MetadataError
  Steps₀ = table_steps view bits bytes is_modified cleared IsFit

  pub flush_fits : (s t : S) (es fs : List (ℕ × Slot V)) (r : Result Unit₀ (CacheError ℕ MetadataError)) → AllValuesFit IsFit es → Flushes Steps₀ s es r t fs → AllValuesFit IsFit fs
  flush_fits s t es fs r all f = each_flushed (fits_each IsFit) Steps₀ (λ s t k v w flushed fits. subst IsFit (sym flushed.clean) (still v fits)) s t es fs r f all

  module _ (size : ℕ) (may_flush : Bool) where
    pub get_fits : (s t : S) (k : ℕ) (es fs : List (ℕ × Slot V)) (r : Result Bool (CacheError ℕ MetadataError)) → AllValuesFit IsFit es → GetsNew Steps₀ eqb size may_flush k s es r t fs → AllValuesFit IsFit fs
    get_fits s t k es fs r all h = each_got (fits_each IsFit) Steps₀ may_flush k s t es fs r all size (λ q v loads. loads.fits) h

    pub insert_fits : (s t : S) (k : ℕ) (v : V) (es fs : List (ℕ × Slot V)) (r : Result Bool (CacheError ℕ MetadataError)) (left : Option V) → (r ≡ Ok true → IsFit v) → AllValuesFit IsFit es
        → InsertsNew Steps₀ eqb size may_flush k v s es r t fs left → AllValuesFit IsFit fs
    insert_fits s t k v es fs r left is all h = each_inserted (fits_each IsFit) Steps₀ may_flush k s t es fs r all size v left is h

  pub replace_fits : (may_flush : Bool) (s t : S) (k : ℕ) (v : V) (es fs : List (ℕ × Slot V)) (e : ℕ × Slot V) (r : Result Bool (CacheError ℕ MetadataError)) (left : Option V) → lookup_entry (eqb k) es ≡ Some e → (r ≡ Ok true → IsFit v) → AllValuesFit IsFit es
      → Replaces (table_steps view bits bytes is_modified cleared IsFit) k e (remove_entry (eqb k) es) v may_flush s es r t fs left → AllValuesFit IsFit fs
  replace_fits may_flush s t k v es fs e r left found is all h = each_replaced (fits_each IsFit) Steps₀ may_flush k s t es fs r all v e left found is h
