-- One cached table is written, or a whole cache is flushed: the invariant holds, the known contents stay the same, and a stop is as safe as before.
use Rattle.std.proofs.Common.{◌≡◌, ◌+◌, ◌-◌, ◌*◌, ◌/◌, ◌^◌, ◌<◌, ◌≤◌, ◌⊎◌, ◌&&◌, ◌∷◌, ◌++◌, ℕ, Bool, true, false, cond, inl, inr, List, [], Option, Some, None, Result, Ok, Err, length, refl, sym, ap, ◌∙◌, subst, append_assoc, arith}
use Rattle.qcow2_alloc.proofs.Common.{cases_lt, and_from, le-leb, lt-ltb, fun_ext, option_or, overwritten, StorageView, EachMomentSince, IsLeftBy, byte_at-overwritten, byte_at-overwritten_outside, passes_none, passes_on, passes_if, Bytes, byte_at, is_within, HeaderFields, MetadataError, cluster_size, host_offset, block_offset, named_by_reftable, named_by_l1_table, CachedTable, known, StopOkEverywhere, Direction, Pending, SameTop, known_bytes, AreClean, HasL2, HasBlock, CacheInvariantOver, BlocksMayGo, TablesMayGo, IsWrittenSo, IsSafeBetween, InternalTableWrite, SameTop-sym, SameTop-trans, table_has, block_has, rbs_free, l2s_free, differs, table_is_written, Slot, CacheError, slot_of, FlushesTable, FailsToFlush, table_steps, FlushesEntry, FlushesAll, cached_table, cached_tables, AreElsewhere, AreKept, IsSafeSince}
use Rattle.qcow2_disk.proofs.Within.{within_is}
use Rattle.qcow2_alloc.proofs.KeptTables.Loaded.{stays_free, loaded_written, loaded_beside}
use Rattle.qcow2_alloc.proofs.KeptTables.Switching.{safe_none, safe_then}

-- ---- how safe a stop is while tables are written, as far as it is told

pub record Safety : Type 1 where
  -- of a write of one table, and of all since an earlier view of the storage, over what is known
  pub Safe : Bytes → Bytes → Bytes → Type 0
  pub Since : StorageView → StorageView → Bytes → Type 0
  pub same : (b known c : Bytes) → c ≡ b → Safe b known c
  pub none : (v : StorageView) (known : Bytes) → Since v v known
  pub one : (old new : StorageView) (known : Bytes) → EachMomentSince old new (IsLeftBy new) → Safe (byte_at old.contents) known (byte_at new.contents) → Since old new known
  pub more : (old mid new : StorageView) (known known' : Bytes) → known' ≡ known → Since old mid known → Since mid new known' → Since old new known

-- it is as safe as before
abbrev pub crash_safety : Safety
crash_safety = record {
  Safe = IsSafeBetween;
  Since = IsSafeSince;
  same = λ b known c is backing m ok known_ok. subst (StopOkEverywhere backing m) (sym is) ok;
  none = safe_none;
  one = λ old new known time safe. record { moments = passes_if _ (λ l is. subst (λ l'. IsSafeBetween (byte_at old.contents) known (byte_at l')) (sym is) safe) time; contents = safe };
  more = safe_then;
}

-- nothing is told
abbrev pub no_safety : Safety
no_safety = record {
  Safe = λ b known c. Unit {0};
  Since = λ old new known. Unit {0};
  same = λ b known c is. tt;
  none = λ v known. tt;
  one = λ old new known time safe. tt;
  more = λ old mid new known known' same first second. tt;
}

-- ---- one table of either cache is written

-- where two images are known alike, their header, L1 table and reftable are the same
same_top : (h : HeaderFields) (d : Direction) (p : Pending) (l2s rbs l2s' rbs' : List CachedTable) (on_storage on_storage' : Bytes) → InternalTableWrite h d p l2s rbs on_storage l2s' rbs' on_storage' → CacheInvariantOver h d p l2s rbs on_storage → SameTop h on_storage' on_storage
same_top h d p l2s rbs l2s' rbs' on_storage on_storage' keeps kept =
    SameTop-trans h on_storage' (known_bytes (cluster_size h) l2s rbs on_storage) on_storage
    (subst (SameTop h on_storage') keeps.known keeps.kept.crash_invariant.same_top)
    (SameTop-sym h on_storage (known_bytes (cluster_size h) l2s rbs on_storage) kept.crash_invariant.same_top)

l2_named : (h : HeaderFields) (on_storage on_storage' : Bytes) → SameTop h on_storage' on_storage → (c : ℕ) → HasL2 h on_storage' c → HasL2 h on_storage c
l2_named h on_storage on_storage' top c has =
    let e = ap host_offset (top.l1 has.0) in
    (has.0, (λ none. has.1 (e ∙ none)), ap (λ n. n / cluster_size h) (sym e) ∙ has.2)

pub block_named : (h : HeaderFields) (on_storage on_storage' : Bytes) → SameTop h on_storage' on_storage → (c : ℕ) → HasBlock h on_storage' c → HasBlock h on_storage c
block_named h on_storage on_storage' top c has =
    let e = ap block_offset (top.reftable has.0) in
    (has.0, (λ none. has.1 (e ∙ none)), ap (λ n. n / cluster_size h) (sym e) ∙ has.2)

-- what one write of a table leaves
pub record Wrote (h : HeaderFields) (d : Direction) (p : Pending) (l2s rbs : List CachedTable) (on_storage : Bytes) (l2s' rbs' : List CachedTable) (on_storage' : Bytes) : Type 0 where
  pub kept : AreKept h d p l2s' rbs' on_storage'
  pub known : known_bytes (cluster_size h) l2s' rbs' on_storage' ≡ known_bytes (cluster_size h) l2s rbs on_storage
  pub safe : IsSafeBetween on_storage (known_bytes (cluster_size h) l2s rbs on_storage) on_storage'

pub l2_wrote : (h : HeaderFields) (d : Direction) (p : Pending) (rbs front back : List CachedTable) (t t' : CachedTable) (on_storage on_storage' : Bytes) → AreKept h d p (front ++ t ∷ back) rbs on_storage
    → TablesMayGo d rbs → IsWrittenSo (cluster_size h) t t' on_storage on_storage' → Wrote h d p (front ++ t ∷ back) rbs on_storage (front ++ t' ∷ back) rbs on_storage'
l2_wrote h d p rbs front back t t' on_storage on_storage' are may so =
    let k = table_is_written.table h d p front back rbs t t' on_storage on_storage' are.kept may so in
    let top = same_top h d p (front ++ t ∷ back) rbs (front ++ t' ∷ back) rbs on_storage on_storage' k are.kept in
    record {
      kept = record {
        kept = k.kept;
        l2_loaded = loaded_written (cluster_size h) t t' on_storage on_storage' so (HasL2 h on_storage) (HasL2 h on_storage') front back (l2_named h on_storage on_storage' top) are.l2_loaded;
        rb_loaded = loaded_beside (cluster_size h) (HasBlock h on_storage) (HasBlock h on_storage') on_storage on_storage' rbs (λ c is.
            let has = block_named h on_storage on_storage' top c is in (
              has,
              stays_free (cluster_size h) t t' on_storage on_storage' so front back c
                  (l2s_free h d p (front ++ t ∷ back) rbs on_storage are.kept c
                  (let one : 1 ≤ named_by_reftable h on_storage c = subst (λ n. 1 ≤ named_by_reftable h on_storage n) has.2 (block_has h on_storage has.0 has.1) in omega arith)),
            )) are.rb_loaded;
      };
      known = k.known;
      safe = k.safe;
    }

pub rb_wrote : (h : HeaderFields) (d : Direction) (p : Pending) (l2s front back : List CachedTable) (t t' : CachedTable) (on_storage on_storage' : Bytes) → AreKept h d p l2s (front ++ t ∷ back) on_storage
    → BlocksMayGo d l2s → IsWrittenSo (cluster_size h) t t' on_storage on_storage' → Wrote h d p l2s (front ++ t ∷ back) on_storage l2s (front ++ t' ∷ back) on_storage'
rb_wrote h d p l2s front back t t' on_storage on_storage' are may so =
    let k = table_is_written.block h d p l2s front back t t' on_storage on_storage' are.kept may so in
    let top = same_top h d p l2s (front ++ t ∷ back) l2s (front ++ t' ∷ back) on_storage on_storage' k are.kept in
    record {
      kept = record {
        kept = k.kept;
        rb_loaded = loaded_written (cluster_size h) t t' on_storage on_storage' so (HasBlock h on_storage) (HasBlock h on_storage') front back (block_named h on_storage on_storage' top) are.rb_loaded;
        l2_loaded = loaded_beside (cluster_size h) (HasL2 h on_storage) (HasL2 h on_storage') on_storage on_storage' l2s (λ c is.
            let has = l2_named h on_storage on_storage' top c is in (
              has,
              stays_free (cluster_size h) t t' on_storage on_storage' so front back c
                  (rbs_free h d p l2s (front ++ t ∷ back) on_storage are.kept c
                  (let one : 1 ≤ named_by_l1_table h on_storage c = subst (λ n. 1 ≤ named_by_l1_table h on_storage n) has.2 (table_has h on_storage has.0 has.1) in omega arith)),
            )) are.l2_loaded;
      };
      known = k.known;
      safe = k.safe;
    }

-- ---- what a backend's flush writes

outside_of : (place size o : ℕ) → is_within place size o ≡ false → (o < place) ⊎ (place + size ≤ o)
outside_of place size o isnt = elim (cases_lt o place) [
  | inl below ↦ inl below
  | inr above ↦ elim (cases_lt o (place + size)) [
    | inl lt ↦ absurd (differs (is_within place size o) (and_from _ _ (le-leb place o above) (lt-ltb o (place + size) lt)) isnt)
    | inr past ↦ inr past
  ]
]

-- a cluster is overwritten with a table's bytes
pub laid : (size place : ℕ) (contents bytes : List ℕ) (m : Bool) → length bytes ≡ size → m ≡ true
    → byte_at (overwritten contents place bytes) ≡ known size ((record { place = place; bytes = byte_at bytes; is_modified = m }) ∷ []) (byte_at contents)
unfolding known
laid size place contents bytes m fits modified = fun_ext (λ o. (elim (is_within place size o) as (λ b. is_within place size o ≡ b → byte_at (overwritten contents place bytes) o ≡ cond (m && is_within place size o) (byte_at bytes (o - place)) (byte_at contents o)) [
  | true ↦ λ is.
      let w = within_is place size o is in
      let e : o ≡ place + (o - place) = omega arith in
      ap (byte_at (overwritten contents place bytes)) e ∙ byte_at-overwritten contents place bytes (o - place) (omega (arith, w)) ∙ rw (modified, is) refl
  | false ↦ λ isnt. byte_at-overwritten_outside contents place bytes o (subst (λ n. (o < place) ⊎ (place + n ≤ o)) (sym fits) (outside_of place size o isnt)) ∙ rw (modified, isnt) refl
]) refl)

module _ {S V : Type 0} (view : S → StorageView) (bits : ℕ) (bytes : V → List ℕ) (is_modified : V → Bool) (cleared : V → V) (IsFit : V → Type 0)
    (unmodified : (v : V) → is_modified (cleared v) ≡ false) (same_bytes : (v : V) → bytes (cleared v) ≡ bytes v) where
  abbrev table : ℕ × Slot V → CachedTable
  table = cached_table bits bytes is_modified

  abbrev contents : S → Bytes
  contents s = byte_at (view s).contents

  -- what a flush of an entry leaves of it, and of the bytes
  pub flushed_so : (s t : S) (k : ℕ) (v w : V) (n m : ℕ) → (view s).is_honest → FlushesTable view bits bytes is_modified cleared IsFit s k v w t
      → IsWrittenSo (2 ^ bits) (table (k, record { value = v; pins = n })) (table (k, record { value = w; pins = m })) (contents s) (contents t)
  flushed_so s t k v w n m honest f = record {
    place = refl;
    bytes = ap (λ l. byte_at l) (ap bytes f.clean ∙ same_bytes v);
    outcome = (elim (is_modified v) as (λ b. is_modified v ≡ b → Outcome) [
      | false ↦ λ is. inl (ap (λ l. byte_at l) (f.skips is honest), ap is_modified f.clean ∙ unmodified v ∙ sym is)
      | true ↦ λ is. let g = f.writes is in inr (ap (λ l. byte_at l) (g.written honest) ∙ laid (2 ^ bits) (k * 2 ^ bits) (view s).contents (bytes v) (is_modified v) g.fits is, inr (ap is_modified f.clean ∙ unmodified v))
    ]) refl;
  }
    where
      t0 : CachedTable
      t0 = table (k, record { value = v; pins = n })

      t1 : CachedTable
      t1 = table (k, record { value = w; pins = m })

      Outcome : Type 0
      Outcome = ((contents t ≡ contents s) × (t1.is_modified ≡ t0.is_modified)) ⊎ ((contents t ≡ known (2 ^ bits) (t0 ∷ []) (contents s)) × ((t1.is_modified ≡ t0.is_modified) ⊎ (t1.is_modified ≡ false)))

  pub failed_so : (s t : S) (k : ℕ) (v : V) (n : ℕ) (e : MetadataError) → (view s).is_honest → FailsToFlush view bits bytes is_modified cleared IsFit s k v e t
      → IsWrittenSo (2 ^ bits) (table (k, record { value = v; pins = n })) (table (k, record { value = v; pins = n })) (contents s) (contents t)
  failed_so s t k v n e honest f = record {
    place = refl;
    bytes = refl;
    outcome = elim (f.stopped honest) [
      | inl same ↦ inl (ap (λ l. byte_at l) same, refl)
      | inr done ↦ inr (ap (λ l. byte_at l) done.1 ∙ laid (2 ^ bits) (k * 2 ^ bits) (view s).contents (bytes v) (is_modified v) done.0 f.modified, inl refl)
    ];
  }

  pub entry_so : (s t : S) (e : ℕ × Slot V) (x : Option MetadataError) (d : Slot V) → (view s).is_honest → FlushesEntry (table_steps view bits bytes is_modified cleared IsFit) s e x t d
      → IsWrittenSo (2 ^ bits) (table e) (table (e.0, d)) (contents s) (contents t)
  entry_so s t e None d honest f = flushed_so s t e.0 e.1.value d.value e.1.pins d.pins honest f.0
  entry_so s t e (Some x) d honest f =
      subst (λ (y : Slot V). IsWrittenSo (2 ^ bits) (table e) (table (e.0, y)) (contents s) (contents t)) (sym f.1) (failed_so s t e.0 e.1.value e.1.pins x honest f.0)

  entry_calls : (s t : S) (e : ℕ × Slot V) (x : Option MetadataError) (d : Slot V) → (view s).is_honest → FlushesEntry (table_steps view bits bytes is_modified cleared IsFit) s e x t d
      → (view t).is_honest × EachMomentSince (view s) (view t) (IsLeftBy (view t))
  entry_calls s t e None d honest f = (f.0.calls.honest honest, f.0.calls.time honest)
  entry_calls s t e (Some x) d honest f = (f.0.calls.honest honest, f.0.calls.time honest)

  -- ---- a whole cache is flushed, where each write of one of its tables keeps P and what is known
  module _ (P : List CachedTable → Bytes → Type 0) (all : List CachedTable → Bytes → Bytes) (safety : Safety) where
    -- what the write of one table does
    abbrev pub WritesOne : Type 0
    WritesOne =
        (front back : List CachedTable) (t t' : CachedTable) (on_storage on_storage' : Bytes) → P (front ++ t ∷ back) on_storage → IsWrittenSo (2 ^ bits) t t' on_storage on_storage'
        → P (front ++ t' ∷ back) on_storage' × (all (front ++ t' ∷ back) on_storage' ≡ all (front ++ t ∷ back) on_storage) × safety.Safe on_storage (all (front ++ t ∷ back) on_storage) on_storage'

    pub record Flushed (s t : S) (before after : List CachedTable) : Type 0 where
      pub honest : (view t).is_honest
      pub kept : P after (contents t)
      pub known : all after (contents t) ≡ all before (contents s)
      pub since : safety.Since (view s) (view t) (all before (contents s))
      -- at each moment it is so with some tables
      pub moments : EachMomentSince (view s) (view t) (λ c. (ts : List CachedTable) × P ts (byte_at c))

    -- entries before which a value of a key comes to stand
    pub record Ready (k : ℕ) (v : V) (s t : S) (es fs : List (ℕ × Slot V)) : Type 0 where
      pub rest : List (ℕ × Slot V)
      pub pins : ℕ
      pub done : Flushed s t (cached_tables bits bytes is_modified es) (cached_tables bits bytes is_modified rest)
      pub away : AreElsewhere (k * 2 ^ bits) (cached_tables bits bytes is_modified rest)
      pub is : fs ≡ (k, slot_of v pins) ∷ rest

    -- what an answer leaves: entries before which the value stands, or nothing new
    abbrev pub Puts : ℕ → V → S → S → List (ℕ × Slot V) → List (ℕ × Slot V) → Result Bool (CacheError ℕ MetadataError) → Type 0
    Puts k v s t es fs (Ok true) = Ready k v s t es fs
    Puts k v s t es fs (Ok false) = Flushed s t (cached_tables bits bytes is_modified es) (cached_tables bits bytes is_modified fs)
    Puts k v s t es fs (Err e) = Flushed s t (cached_tables bits bytes is_modified es) (cached_tables bits bytes is_modified fs)

    pub flushed_none : (s : S) (ts : List CachedTable) → (view s).is_honest → P ts (contents s) → Flushed s s ts ts
    flushed_none s ts honest kept = record {
      honest = honest;
      kept = kept;
      known = refl;
      since = safety.none (view s) (all ts (contents s));
      moments = passes_none (view s) _;
    }

    pub flushed_then : (r s t : S) (xs ys zs : List CachedTable) → Flushed r s xs ys → Flushed s t ys zs → Flushed r t xs zs
    flushed_then r s t xs ys zs f g = record {
      honest = g.honest;
      kept = g.kept;
      known = g.known ∙ f.known;
      since = safety.more (view r) (view s) (view t) _ _ f.known f.since g.since;
      moments = passes_on _ f.moments g.moments (λ c now. now);
    }

    module _ (step : WritesOne) where
      pub flushed_entry : (s t : S) (front back : List CachedTable) (e : ℕ × Slot V) (x : Option MetadataError) (d : Slot V) → (view s).is_honest → P (front ++ table e ∷ back) (contents s)
          → FlushesEntry (table_steps view bits bytes is_modified cleared IsFit) s e x t d → Flushed s t (front ++ table e ∷ back) (front ++ table (e.0, d) ∷ back)
      flushed_entry s t front back e x d honest kept f =
          let w = step front back (table e) (table (e.0, d)) (contents s) (contents t) kept (entry_so s t e x d honest f) in
          let c = entry_calls s t e x d honest f in
          record {
            honest = c.0;
            kept = w.0;
            known = w.1;
            since = safety.one (view s) (view t) (all (front ++ table e ∷ back) (contents s)) c.1 w.2;
            moments = passes_if _ (λ l is. (front ++ table (e.0, d) ∷ back, subst (λ l'. P (front ++ table (e.0, d) ∷ back) (byte_at l')) (sym is) w.0)) c.1;
          }

      pub flushed_all : (s t : S) (front : List CachedTable) (es fs : List (ℕ × Slot V)) (x : Option MetadataError) → (view s).is_honest → P (front ++ cached_tables bits bytes is_modified es) (contents s)
          → FlushesAll (table_steps view bits bytes is_modified cleared IsFit) s es x t fs
          → Flushed s t (front ++ cached_tables bits bytes is_modified es) (front ++ cached_tables bits bytes is_modified fs)
      flushed_all s t front [] fs x honest kept f = rw (f.1, f.2) (flushed_none s (front ++ []) honest kept)
      flushed_all s t front (e ∷ es) fs x honest kept f =
          let r : S = f.1 in
          let d : Slot V = f.2 in
          let rest : List (ℕ × Slot V) = f.4 in
          let back : List CachedTable = cached_tables bits bytes is_modified es in
          let back' : List CachedTable = cached_tables bits bytes is_modified rest in
          let first = flushed_entry s r front back e f.0 d honest kept f.5 in
          let moved : front ++ table (e.0, d) ∷ back ≡ (front ++ table (e.0, d) ∷ []) ++ back = sym (append_assoc front (table (e.0, d) ∷ []) back) in
          let more = flushed_all r t (front ++ table (e.0, d) ∷ []) es rest f.3 first.honest (subst (λ l. P l (contents r)) moved first.kept) f.6 in
          let moved' : (front ++ table (e.0, d) ∷ []) ++ back' ≡ front ++ table (e.0, d) ∷ back' = append_assoc front (table (e.0, d) ∷ []) back' in
          rw f.8 (flushed_then s r t (front ++ table e ∷ back) (front ++ table (e.0, d) ∷ back) (front ++ table (e.0, d) ∷ back') first
          (subst (λ l. Flushed r t l (front ++ table (e.0, d) ∷ back')) (sym moved) (subst (λ l. Flushed r t ((front ++ table (e.0, d) ∷ []) ++ back) l) moved' more)))

  -- a flush without a failure leaves nothing modified
  pub flushed_clean : (s t : S) (es fs : List (ℕ × Slot V)) (x : Option MetadataError) → x ≡ None → FlushesAll (table_steps view bits bytes is_modified cleared IsFit) s es x t fs → AreClean (cached_tables bits bytes is_modified fs)
  flushed_clean s t [] fs x is f = rw f.2 tt
  flushed_clean s t (e ∷ es) fs x is f =
      let none = none_of f.0 f.3 (sym f.7 ∙ is) in
      rw f.8 (clean_entry f.0 f.1 f.2 none.0 f.5, flushed_clean f.1 t es f.4 f.3 none.1 f.6)
    where
      none_of : (a b : Option MetadataError) → option_or a b ≡ None → (a ≡ None) × (b ≡ None)
      none_of None b h = (refl, h)
      none_of (Some y) b h = cc

      clean_entry : (a : Option MetadataError) (r : S) (d : Slot V) → a ≡ None → FlushesEntry (table_steps view bits bytes is_modified cleared IsFit) s e a r d → is_modified d.value ≡ false
      clean_entry None r d h f = ap is_modified f.0.clean ∙ unmodified e.1.value
      clean_entry (Some y) r d h f = cc

-- ---- an answer, with what it leaves
module _ {S V : Type 0} (view : S → StorageView) (bits : ℕ) (bytes : V → List ℕ) (is_modified : V → Bool) (cleared : V → V) (IsFit : V → Type 0)
    (unmodified : (v : V) → is_modified (cleared v) ≡ false) (same_bytes : (v : V) → bytes (cleared v) ≡ bytes v)
    (P : List CachedTable → Bytes → Type 0) (all : List CachedTable → Bytes → Bytes) (safety : Safety) (k : ℕ) (v : V) (s t : S) (es fs : List (ℕ × Slot V)) where
  abbrev Leaves : Result Bool (CacheError ℕ MetadataError) → Type 0
  Leaves = Puts view bits bytes is_modified cleared IsFit unmodified same_bytes P all safety k v s t es fs

  pub nothing_new : (r : Result Bool (CacheError ℕ MetadataError)) → (r ≡ Ok true → ⊥) → Leaves r
      → Flushed view bits bytes is_modified cleared IsFit unmodified same_bytes P all safety s t (cached_tables bits bytes is_modified es) (cached_tables bits bytes is_modified fs)
  nothing_new (Ok true) isnt h = absurd (isnt refl)
  nothing_new (Ok false) isnt h = h
  nothing_new (Err e) isnt h = h

  pub made_ready : (r : Result Bool (CacheError ℕ MetadataError)) → r ≡ Ok true → Leaves r → Ready view bits bytes is_modified cleared IsFit unmodified same_bytes P all safety k v s t es fs
  made_ready r is h = subst Leaves is h
