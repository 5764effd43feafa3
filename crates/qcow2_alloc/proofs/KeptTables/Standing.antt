-- The modified tables of a cache lie where the image has tables, whatever is flushed, loaded or inserted. So flushes and loads are refused only by the storage or because memory runs out.
use Rattle.std.proofs.Common.{◌≡◌, ◌⊎◌, ◌+◌, ◌*◌, ◌/◌, ◌^◌, ◌≤◌, ◌&&◌, ◌∷◌, ◌++◌, inl, inr, ℕ, Bool, true, false, eqb, List, [], length, Option, Some, None, Result, Ok, Err, IfErr, refl, sym, ap, ◌∙◌, subst, arith, IfSome}
use Rattle.qcow2_alloc.proofs.Common.{cases_Bool, cases_eq, option_or, lookup_entry, remove_entry, div-mul-add, pow_pos, promoted, Contains-lookup_entry, StorageView, is_within, MetadataError, HasPlace, IsOfStorageOrMemory, CachedTable, overlays, IsFreeOf, overlays_within, within_cluster, cluster_within, no_overlay, unmodified_over, differs, Slot, CacheError, InUse, StillInUse, Memory, Backend, slot_of, oldest_free, Steps, table_steps, Unit₀, FlushesEntry, FlushesAll, Flushes, HasNoRoom, GetsNew, InsertsNew, Replaces, cached_table, cached_tables, AllValuesFit, same_number, IsOfTable}
pub use Rattle.qcow2_alloc.specs.CacheCauses.{IsStanding, AreStanding}
use Rattle.qcow2_alloc.proofs.KeptTables.Entries.{split_oldest}
use Rattle.qcow2_alloc.proofs.KeptTables.Getting.{cluster_aligned}
use Rattle.qcow2_alloc.proofs.CachedEntries.Each.{IsOfEach, each_flushed, each_found, each_got, each_inserted, each_promoted, each_replaced}

-- what refuses a call of a cache; that all is in use only where this holds, and a limit only where the tables don't fit
abbrev pub IsCause : Type 0 → Type 0 → CacheError ℕ MetadataError → Type 0
IsCause fit in_use InUse = in_use
IsCause fit in_use (StillInUse _) = ⊥
IsCause fit in_use Memory = Unit {0}
IsCause fit in_use (Backend x) = IsOfTable x × (fit → IsOfStorageOrMemory x)

-- there is no room, and no entry may go
abbrev pub IsFull : {V : Type 0} → ℕ → List (ℕ × Slot V) → Type 0
IsFull size es = (size ≤ length es) × (oldest_free es ≡ None)

module _ {V : Type 0} (is_modified : V → Bool) (IsFit : V → Type 0) (Named : ℕ → Type 0) where
  pub clean_stands : (k : ℕ) (v : V) → IsFit v → is_modified v ≡ false → IsStanding is_modified IsFit Named k v
  clean_stands k v fits clean = record { fits = fits; named = λ m. absurd (differ (is_modified v) m clean) }
    where
      differ : (b : Bool) → b ≡ true → b ≡ false → ⊥
      differ b is isnt = cc

  pub stands_each : IsOfEach (IsStanding is_modified IsFit Named) (AreStanding is_modified IsFit Named)
  stands_each = record { none = tt; more = λ e es one all. (one, all); first = λ e es all. all.0; rest = λ e es all. all.1 }

  pub stand_promoted : (test : ℕ → Bool) (es : List (ℕ × Slot V)) → AreStanding is_modified IsFit Named es → AreStanding is_modified IsFit Named (promoted test es)
  stand_promoted test es all = each_promoted stands_each test es all

  -- the oldest entry with no pin
  pub stand_oldest : (es : List (ℕ × Slot V)) (e : ℕ × Slot V) → oldest_free es ≡ Some e → AreStanding is_modified IsFit Named es → IsStanding is_modified IsFit Named e.0 e.1.value
  stand_oldest es e eviction all = let s = split_oldest es e eviction in in_list s.front s.back (subst (AreStanding is_modified IsFit Named) s.is all)
    where
      in_list : (front back : List (ℕ × Slot V)) → AreStanding is_modified IsFit Named (front ++ e ∷ back) → IsStanding is_modified IsFit Named e.0 e.1.value
      in_list [] back all = all.0
      in_list (f ∷ front) back all = in_list front back all.1

  -- another value in the place of one
  pub stand_set : (key : ℕ) (front back : List (ℕ × Slot V)) (v w : V) (pins : ℕ) → IsStanding is_modified IsFit Named key w → AreStanding is_modified IsFit Named (front ++ (key, slot_of v pins) ∷ back) → AreStanding is_modified IsFit Named (front ++ (key, slot_of w pins) ∷ back)
  stand_set key [] back v w pins is all = (is, all.1)
  stand_set key (f ∷ front) back v w pins is all = (all.0, stand_set key front back v w pins is all.1)

module _ {S V : Type 0} (view : S → StorageView) (bits : ℕ) (bytes : V → List ℕ) (is_modified : V → Bool) (cleared : V → V) (IsFit : V → Type 0)
    (unmodified : (v : V) → is_modified (cleared v) ≡ false) (still : (v : V) → IsFit v → IsFit (cleared v)) (Named : ℕ → Type 0) where
  abbrev Steps₀ : Steps S ℕ V MetadataError
  Steps₀ = table_steps view bits bytes is_modified cleared IsFit

  abbrev One : ℕ → V → Type 0
  One = IsStanding is_modified IsFit Named

  abbrev All : List (ℕ × Slot V) → Type 0
  All = AreStanding is_modified IsFit Named

  module _ (place : (k : ℕ) → Named k → HasPlace bits k) where
    -- the first failure of a flush of all
    abbrev Fails : Type 0 → Option MetadataError → Type 0
    Fails fit x = IfSome x (λ e. IsOfTable e × (fit → IsOfStorageOrMemory e))

    fails_less : (P Q : Type 0) (x : Option MetadataError) → (Q → P) → Fails P x → Fails Q x
    fails_less P Q None less is = tt
    fails_less P Q (Some x) less is = (is.0, λ fit. is.1 (less fit))

    one_cause : (s t : S) (e : ℕ × Slot V) (x : Option MetadataError) (d : Slot V) → FlushesEntry Steps₀ s e x t d → Fails (One e.0 e.1.value) x
    one_cause s t e None d f = tt
    one_cause s t e (Some x) d f = (f.0.among, λ is. f.0.cause is.fits (place e.0 (is.named f.0.modified)))

    first_cause : (fit : Type 0) (a b : Option MetadataError) → Fails fit a → Fails fit b → Fails fit (option_or a b)
    first_cause fit None b ha hb = hb
    first_cause fit (Some x) b ha hb = ha

    all_cause : (s t : S) (es fs : List (ℕ × Slot V)) (x : Option MetadataError) → FlushesAll Steps₀ s es x t fs → Fails (All es) x
    all_cause s t [] fs x f = rw f.0 tt
    all_cause s t (e ∷ es) fs x f = rw f.7 (first_cause (All (e ∷ es)) f.0 f.3 (fails_less (One e.0 e.1.value) (All (e ∷ es)) f.0 (λ all. all.0) (one_cause s f.1 e f.0 f.2 f.5)) (fails_less (All es) (All (e ∷ es)) f.3 (λ all. all.1) (all_cause f.1 t es f.4 f.3 f.6)))

    pub flush_stands : (s t : S) (es fs : List (ℕ × Slot V)) (r : Result Unit₀ (CacheError ℕ MetadataError)) → All es → Flushes Steps₀ s es r t fs → All fs
    flush_stands s t es fs r all f =
        each_flushed (stands_each is_modified IsFit Named) Steps₀ (λ s t k v w flushed one. subst (One k) (sym flushed.clean) (clean_stands is_modified IsFit Named k (cleared v) (still v one.fits) (unmodified v))) s t es fs r f all

    pub flush_cause : (s t : S) (es fs : List (ℕ × Slot V)) (r : Result Unit₀ (CacheError ℕ MetadataError)) → Flushes Steps₀ s es r t fs → IfErr r (IsCause (All es) ⊥)
    flush_cause s t es fs (Ok _) f = tt
    flush_cause s t es fs (Err (Backend x)) f = all_cause s t es fs (Some x) f
    flush_cause s t es fs (Err InUse) f = absurd f
    flush_cause s t es fs (Err Memory) f = absurd f
    flush_cause s t es fs (Err (StillInUse _)) f = absurd f

    module _ (size : ℕ) (may_flush : Bool) where
      no_room_cause : (s t : S) (es fs : List (ℕ × Slot V)) (r : Result Bool (CacheError ℕ MetadataError)) → HasNoRoom Steps₀ eqb size may_flush s es r t fs → IfErr r (IsCause (All es) (IsFull size es × (fs ≡ es)))
      no_room_cause s t es fs (Ok true) h = tt
      no_room_cause s t es fs (Ok false) h = tt
      no_room_cause s t es fs (Err InUse) h = ((h.0.full, h.1), h.3)
      no_room_cause s t es fs (Err (StillInUse _)) h = absurd h
      no_room_cause s t es fs (Err Memory) h = absurd h
      no_room_cause s t es fs (Err (Backend x)) h = (h.failed.among, λ all. let is = stand_oldest is_modified IsFit Named es h.entry h.eviction all in h.failed.cause is.fits (place h.entry.0 (is.named h.failed.modified)))

      pub get_stands : (s t : S) (k : ℕ) (es fs : List (ℕ × Slot V)) (r : Result Bool (CacheError ℕ MetadataError)) → All es → GetsNew Steps₀ eqb size may_flush k s es r t fs → All fs
      get_stands s t k es fs r all h =
          each_got (stands_each is_modified IsFit Named) Steps₀ may_flush k s t es fs r all size (λ q v loads. clean_stands is_modified IsFit Named k v loads.fits loads.unmodified) h

      pub get_cause : (s t : S) (k : ℕ) (es fs : List (ℕ × Slot V)) (r : Result Bool (CacheError ℕ MetadataError)) → GetsNew Steps₀ eqb size may_flush k s es r t fs → IfErr r (IsCause (All es × HasPlace bits k) (IsFull size es × (fs ≡ es)))
      get_cause s t k es fs (Ok _) h = tt
      get_cause s t k es fs (Err InUse) h = no_room_cause s t es fs (Err InUse) h
      get_cause s t k es fs (Err (StillInUse _)) h = absurd h
      get_cause s t k es fs (Err Memory) h = tt
      get_cause s t k es fs (Err (Backend x)) h = elim h [
        | inl none ↦ let cause = no_room_cause s t es fs (Err (Backend x)) none in (cause.0, λ fit. cause.1 fit.0)
        | inr failed ↦ (failed.2.among, λ fit. failed.2.cause fit.1)
      ]

      pub insert_stands : (s t : S) (k : ℕ) (v : V) (es fs : List (ℕ × Slot V)) (r : Result Bool (CacheError ℕ MetadataError)) (left : Option V) → (r ≡ Ok true → IsStanding is_modified IsFit Named k v) → All es
          → InsertsNew Steps₀ eqb size may_flush k v s es r t fs left → All fs
      insert_stands s t k v es fs r left is all h = each_inserted (stands_each is_modified IsFit Named) Steps₀ may_flush k s t es fs r all size v left is h

      pub insert_cause : (s t : S) (k : ℕ) (v : V) (es fs : List (ℕ × Slot V)) (r : Result Bool (CacheError ℕ MetadataError)) (left : Option V)
          → InsertsNew Steps₀ eqb size may_flush k v s es r t fs left → IfErr r (IsCause (All es) (IsFull size es × (fs ≡ es)))
      insert_cause s t k v es fs (Ok _) left h = tt
      insert_cause s t k v es fs (Err Memory) left h = tt
      insert_cause s t k v es fs (Err InUse) left h = no_room_cause s t es fs (Err InUse) h.0
      insert_cause s t k v es fs (Err (StillInUse _)) left h = absurd h
      insert_cause s t k v es fs (Err (Backend x)) left h = no_room_cause s t es fs (Err (Backend x)) h.0

    module _ (may_flush : Bool) (s t : S) (k : ℕ) (v : V) (es fs : List (ℕ × Slot V)) (e : ℕ × Slot V) where
      pub replace_stands : (r : Result Bool (CacheError ℕ MetadataError)) (left : Option V) → lookup_entry (eqb k) es ≡ Some e → (r ≡ Ok true → IsStanding is_modified IsFit Named e.0 v) → All es
          → Replaces Steps₀ k e (remove_entry (eqb k) es) v may_flush s es r t fs left → All fs
      replace_stands r left found is all h = each_replaced (stands_each is_modified IsFit Named) Steps₀ may_flush k s t es fs r all v e left found is h

      pub replace_cause : (full : Type 0) (r : Result Bool (CacheError ℕ MetadataError)) (left : Option V) → lookup_entry (eqb k) es ≡ Some e
          → Replaces Steps₀ k e (remove_entry (eqb k) es) v may_flush s es r t fs left → IfErr r (IsCause (All es) full)
      replace_cause full (Ok _) left found h = tt
      replace_cause full (Err (Backend x)) left found h = (
        h.1.among,
        λ all.
            let is = each_found (stands_each is_modified IsFit Named) (eqb k) es e found all in
            let own : e.0 ≡ k = sym (same_number k e.0 (Contains-lookup_entry (eqb k) es e found).1) in
            h.1.cause is.fits (subst (HasPlace bits) own (place e.0 (is.named h.1.modified))),
      )
      replace_cause full (Err InUse) left found h = absurd h
      replace_cause full (Err (StillInUse _)) left found h = absurd h
      replace_cause full (Err Memory) left found h = absurd h

-- ---- what the caches keep says that their modified tables stand

pub own_cluster : (bits k : ℕ) → k * 2 ^ bits / 2 ^ bits ≡ k
own_cluster bits k = let e : k * 2 ^ bits ≡ k * 2 ^ bits + 0 = omega arith in ap (λ n. n / 2 ^ bits) e ∙ div-mul-add k (2 ^ bits) 0 (pow_pos bits)

module _ {V : Type 0} (bits : ℕ) (bytes : V → List ℕ) (is_modified : V → Bool) (IsFit : V → Type 0) (Named : ℕ → Type 0) where
  abbrev tables : List (ℕ × Slot V) → List CachedTable
  tables = cached_tables bits bytes is_modified

  covers_own : (e : ℕ × Slot V) → is_modified e.1.value ≡ true → overlays (2 ^ bits) (cached_table bits bytes is_modified e) (e.0 * 2 ^ bits) ≡ true
  covers_own e modified = ap (λ m. m && is_within (e.0 * 2 ^ bits) (2 ^ bits) (e.0 * 2 ^ bits)) modified ∙ cluster_within (e.0 * 2 ^ bits) (2 ^ bits) (e.0 * 2 ^ bits) (pow_pos bits) (cluster_aligned e.0 bits) refl

  pub standing_of : (es : List (ℕ × Slot V)) → AllValuesFit IsFit es → ((c : ℕ) → IsFreeOf (2 ^ bits) (tables es) c ⊎ Named c) → AreStanding is_modified IsFit Named es
  standing_of [] fits each = tt
  standing_of (e ∷ es) fits each = (
    record {
      fits = fits.0;
      named = λ modified. elim (each e.0) [
        | inl free ↦ absurd (differs (overlays (2 ^ bits) (cached_table bits bytes is_modified e) (e.0 * 2 ^ bits)) (covers_own e modified) (free (e.0 * 2 ^ bits) (own_cluster bits e.0)).0)
        | inr named ↦ named
      ];
    },
    standing_of es fits.1 (λ c. elim (each c) [ inl free ↦ inl (λ o in_c. (free o in_c).1) | inr named ↦ inr named ]),
  )

  pub free_or_named : (es : List (ℕ × Slot V)) → AreStanding is_modified IsFit Named es → (c : ℕ) → IsFreeOf (2 ^ bits) (tables es) c ⊎ Named c
  free_or_named [] all c = inl (λ o in_c. tt)
  free_or_named (e ∷ es) all c =
      let t : CachedTable = cached_table bits bytes is_modified e in
      elim (free_or_named es all.1 c) [
        | inr named ↦ inr named
        | inl free ↦ elim (cases_Bool (is_modified e.1.value)) [
          | inr clean ↦ inl (λ o in_c. (unmodified_over (2 ^ bits) t o clean, free o in_c))
          | inl modified ↦ elim (cases_eq e.0 c) [
            | inl same ↦ inr (subst Named same (all.0.named modified))
            | inr other ↦ inl (λ o in_c. (
              no_overlay (2 ^ bits) t o (λ over. other (sym (own_cluster bits e.0) ∙ sym (within_cluster (e.0 * 2 ^ bits) (2 ^ bits) o (cluster_aligned e.0 bits) (overlays_within (2 ^ bits) t o over)) ∙ in_c)),
              free o in_c,
            ))
          ]
        ]
      ]
