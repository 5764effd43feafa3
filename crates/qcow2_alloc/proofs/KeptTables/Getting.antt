-- A table moves to the front of a cache, is loaded, or is evicted: the invariant holds, the known contents stay the same, and a stop is as safe as before.
use Rattle.std.proofs.Common.{◌≡◌, ◌⊎◌, ◌+◌, ◌*◌, ◌%◌, ◌^◌, ◌<◌, ◌∷◌, ◌++◌, ℕ, Bool, true, false, eqb, inl, inr, List, Option, Some, None, Result, Ok, Err, refl, sym, ap, ◌∙◌, subst, arith}
use Rattle.qcow2_alloc.proofs.Common.{mod-mul-add, pow_pos, option_map_or, lookup, lookup_entry, remove_entry, promoted, Contains-lookup_entry, StorageView, EachMomentSince, byte_at-bytes_at, passes_if, Bytes, byte_at, MetadataError, CachedTable, Slot, CacheError, InUse, StillInUse, Memory, Backend, slot_of, LoadsTable, FailsToLoad, FlushesTable, FailsToFlush, table_steps, Evicts, HasRoomForEntry, HasNoRoom, GetsNew, InsertsNew, Replaces, same_number, cached_table, cached_tables, AreElsewhere, IsCurrent}
use Rattle.qcow2_alloc.proofs.CachedEntries.Lists.{lookup_none-removed}
use Rattle.qcow2_alloc.proofs.KeptTables.Writing.{Safety, WritesOne, Flushed, Puts, flushed_none, flushed_then, flushed_entry}
use Rattle.qcow2_alloc.proofs.KeptTables.Entries.{AreDistinct, away_from, split_oldest, split_found, tables_at, tables_both, removed_at, elsewhere_of_none}

pub cluster_aligned : (k bits : ℕ) → k * 2 ^ bits % 2 ^ bits ≡ 0
cluster_aligned k bits = let e : k * 2 ^ bits ≡ k * 2 ^ bits + 0 = omega arith in ap (λ m. m % 2 ^ bits) e ∙ mod-mul-add k (2 ^ bits) 0 (pow_pos bits)

-- it holds what stands in its cluster, or what is known of it
abbrev pub HoldsWhatStands : (List CachedTable → Bytes → Bytes) → ℕ → CachedTable → List CachedTable → Bytes → Type 0
HoldsWhatStands all size t ts on_storage = IsCurrent size t on_storage ⊎ ((i : ℕ) → i < size → t.bytes i ≡ all ts on_storage (t.place + i))

module _ {S V : Type 0} (view : S → StorageView) (bits : ℕ) (bytes : V → List ℕ) (is_modified : V → Bool) (cleared : V → V) (IsFit : V → Type 0)
    (unmodified : (v : V) → is_modified (cleared v) ≡ false) (same_bytes : (v : V) → bytes (cleared v) ≡ bytes v)
    (P : List CachedTable → Bytes → Type 0) (all : List CachedTable → Bytes → Bytes) (safety : Safety)
    (distinct : (ts : List CachedTable) (on_storage : Bytes) → P ts on_storage → AreDistinct ts)
    (drop_clean : (front back : List CachedTable) (t : CachedTable) (on_storage : Bytes) → P (front ++ t ∷ back) on_storage → t.is_modified ≡ false → P (front ++ back) on_storage × (all (front ++ back) on_storage ≡ all (front ++ t ∷ back) on_storage))
    (add : (t : CachedTable) (ts : List CachedTable) (on_storage : Bytes) → P ts on_storage → t.place % 2 ^ bits ≡ 0 → AreElsewhere t.place ts → t.is_modified ≡ false → HoldsWhatStands all (2 ^ bits) t ts on_storage
    → P (t ∷ ts) on_storage × (all (t ∷ ts) on_storage ≡ all ts on_storage))
    (promote : (front back : List CachedTable) (t : CachedTable) (on_storage : Bytes) → P (front ++ t ∷ back) on_storage → P (t ∷ (front ++ back)) on_storage × (all (t ∷ (front ++ back)) on_storage ≡ all (front ++ t ∷ back) on_storage)) where
  abbrev tables : List (ℕ × Slot V) → List CachedTable
  tables = cached_tables bits bytes is_modified

  abbrev table : ℕ × Slot V → CachedTable
  table = cached_table bits bytes is_modified

  abbrev contents : S → Bytes
  contents s = byte_at (view s).contents

  abbrev Done : S → S → List (ℕ × Slot V) → List (ℕ × Slot V) → Type 0
  Done s t es fs = Flushed view bits bytes is_modified cleared IsFit unmodified same_bytes P all safety s t (tables es) (tables fs)

  pub done_none : (s t : S) (es fs : List (ℕ × Slot V)) → (view s).is_honest → P (tables es) (contents s) → t ≡ s → fs ≡ es → Done s t es fs
  done_none s t es fs honest kept t_is fs_is =
      subst (λ x. Done s x es fs) (sym t_is) (subst (λ l. Done s s es l) (sym fs_is) (flushed_none view bits bytes is_modified cleared IsFit unmodified same_bytes P all safety s (tables es) honest kept))

  pub done_then : (r s t : S) (xs ys zs : List (ℕ × Slot V)) → Done r s xs ys → Done s t ys zs → Done r t xs zs
  done_then r s t xs ys zs = flushed_then view bits bytes is_modified cleared IsFit unmodified same_bytes P all safety r s t (tables xs) (tables ys) (tables zs)

  -- the list alone changes
  relisted : (s : S) (es fs : List (ℕ × Slot V)) → (view s).is_honest → P (tables es) (contents s) → P (tables fs) (contents s) × (all (tables fs) (contents s) ≡ all (tables es) (contents s)) → Done s s es fs
  relisted s es fs honest kept new =
      let none = flushed_none view bits bytes is_modified cleared IsFit unmodified same_bytes P all safety s (tables es) honest kept in
      record { honest = honest; kept = new.0; known = new.1; since = none.since; moments = none.moments }

  -- ---- a hit
  hit_of : (s : S) (k : ℕ) (es : List (ℕ × Slot V)) (o : Option (ℕ × Slot V)) → lookup_entry (eqb k) es ≡ o → (view s).is_honest → P (tables es) (contents s)
      → Done s s es (option_map_or (λ e. e ∷ remove_entry (eqb k) es) o es)
  hit_of s k es None h honest kept = done_none s s es es honest kept refl refl
  hit_of s k es (Some e) h honest kept =
      let f = split_found (eqb k) es e h in
      let at = tables_at bits bytes is_modified f.front f.back e in
      let kept' : P (tables f.front ++ table e ∷ tables f.back) (contents s) = subst (λ l. P l (contents s)) (ap tables f.is ∙ at) kept in
      let new = promote (tables f.front) (tables f.back) (table e) (contents s) kept' in
      let fs_is : tables (e ∷ remove_entry (eqb k) es) ≡ table e ∷ (tables f.front ++ tables f.back) = ap (λ l. table e ∷ l) (ap tables f.rest ∙ (tables_both bits bytes is_modified f.front f.back)) in
      relisted s es (e ∷ remove_entry (eqb k) es) honest kept
      (subst (λ l. P l (contents s)) (sym fs_is) new.0, ap (λ l. all l (contents s)) fs_is ∙ new.1 ∙ sym (ap (λ l. all l (contents s)) (ap tables f.is ∙ at)))

  pub hit_done : (s : S) (k : ℕ) (es : List (ℕ × Slot V)) → (view s).is_honest → P (tables es) (contents s) → Done s s es (promoted (eqb k) es)
  hit_done s k es = hit_of s k es (lookup_entry (eqb k) es) refl

  -- ---- a load
  loaded_done : (s t : S) (k : ℕ) (v : V) (es : List (ℕ × Slot V)) → (view s).is_honest → P (tables es) (contents s) → lookup (eqb k) es ≡ None
      → LoadsTable view bits bytes is_modified cleared IsFit s k v t → Done s t es es × Done s t es ((k, slot_of v 0) ∷ es)
  loaded_done s t k v es honest kept missing l =
      let same : contents t ≡ contents s = ap (λ c. byte_at c) (l.keeps honest) in
      let kept' : P (tables es) (contents t) = subst (λ b. P (tables es) b) (sym same) kept in
      let aligned : k * 2 ^ bits % 2 ^ bits ≡ 0 = cluster_aligned k bits in
      let added = add (table (k, slot_of v 0)) (tables es) (contents t) kept' aligned (elsewhere_of_none bits bytes is_modified k es missing) l.unmodified
      (inl (λ i lt. ap (λ c. byte_at c i) (l.read honest) ∙ byte_at-bytes_at (view s).contents (k * 2 ^ bits) (2 ^ bits) i lt ∙ ap (λ (b : Bytes). b (k * 2 ^ bits + i)) (sym same))) in
      let stays : all (tables es) (contents t) ≡ all (tables es) (contents s) = ap (λ b. all (tables es) b) same in
      let still : safety.Safe (contents s) (all (tables es) (contents s)) (contents t) = safety.same (contents s) (all (tables es) (contents s)) (contents t) same in
      let moments : EachMomentSince (view s) (view t) (λ c. (ts : List CachedTable) × P ts (byte_at c)) = passes_if _ (λ c is. (tables es, subst (λ l'. P (tables es) (byte_at l')) (sym is) kept')) l.calls.time in
      let since : safety.Since (view s) (view t) (all (tables es) (contents s)) = safety.one (view s) (view t) (all (tables es) (contents s)) l.calls.time still in (
        record { honest = l.calls.honest honest; kept = kept'; known = stays; since = since; moments = moments },
        record { honest = l.calls.honest honest; kept = added.0; known = added.1 ∙ stays; since = since; moments = moments },
      )

  failed_load : (s t : S) (k : ℕ) (x : MetadataError) (es : List (ℕ × Slot V)) → (view s).is_honest → P (tables es) (contents s) → FailsToLoad view bits bytes is_modified cleared IsFit s k x t → Done s t es es
  failed_load s t k x es honest kept l =
      let same : contents t ≡ contents s = ap (λ c. byte_at c) (l.keeps honest) in
      let still : safety.Safe (contents s) (all (tables es) (contents s)) (contents t) = safety.same (contents s) (all (tables es) (contents s)) (contents t) same in
      record {
        honest = l.calls.honest honest;
        kept = subst (λ b. P (tables es) b) (sym same) kept;
        known = ap (λ b. all (tables es) b) same;
        since = safety.one (view s) (view t) (all (tables es) (contents s)) l.calls.time still;
        moments = passes_if _ (λ c is. (tables es, subst (λ l'. P (tables es) (byte_at l')) (sym (is ∙ l.keeps honest)) kept)) l.calls.time;
      }

  -- ---- with room for one more, which an eviction may make
  module _ (size : ℕ) (may_flush : Bool) (step : may_flush ≡ true → WritesOne view bits bytes is_modified cleared IsFit unmodified same_bytes P all safety) where
    evicted : (s t : S) (es fs : List (ℕ × Slot V)) → (view s).is_honest → P (tables es) (contents s)
        → Evicts (table_steps view bits bytes is_modified cleared IsFit) eqb size may_flush s es t fs → Done s t es fs
    evicted s t es fs honest kept v =
        let e : ℕ × Slot V = v.entry in
        let w : ℕ × Slot V = (e.0, record { value = v.clean; pins = e.1.pins }) in
        let sp = split_oldest es e v.eviction in
        let whole : tables es ≡ tables sp.front ++ table e ∷ tables sp.back = ap tables sp.is ∙ (tables_at bits bytes is_modified sp.front sp.back e) in
        let kept' : P (tables sp.front ++ table e ∷ tables sp.back) (contents s) = subst (λ l. P l (contents s)) whole kept in
        let one = flushed_entry view bits bytes is_modified cleared IsFit unmodified same_bytes P all safety (step v.must.may) s t (tables sp.front) (tables sp.back) e None w.1 honest kept' (v.flushed, refl) in
        let clean : is_modified v.clean ≡ false = ap is_modified v.flushed.clean ∙ unmodified e.1.value in
        let old_data = drop_clean (tables sp.front) (tables sp.back) (table w) (contents t) one.kept clean in
        let apart : AreDistinct (tables (sp.front ++ e ∷ sp.back)) = subst (λ l. AreDistinct (tables l)) sp.is (distinct (tables es) (contents s) kept) in
        let rest : fs ≡ sp.front ++ sp.back = v.rest ∙ ap (remove_entry (eqb e.0)) sp.is ∙ removed_at bits bytes is_modified sp.front sp.back e apart in
        let fs_is : tables fs ≡ tables sp.front ++ tables sp.back = ap tables rest ∙ (tables_both bits bytes is_modified sp.front sp.back) in
        record {
          honest = one.honest;
          kept = subst (λ l. P l (contents t)) (sym fs_is) old_data.0;
          known = ap (λ l. all l (contents t)) fs_is ∙ old_data.1 ∙ one.known ∙ sym (ap (λ l. all l (contents s)) whole);
          since = rw whole one.since;
          moments = one.moments;
        }

    pub room_done : (s t : S) (es fs : List (ℕ × Slot V)) → (view s).is_honest → P (tables es) (contents s)
        → HasRoomForEntry (table_steps view bits bytes is_modified cleared IsFit) eqb size may_flush s es t fs → Done s t es fs
    room_done s t es fs honest kept room = elim room [
      | inl there ↦ done_none s t es fs honest kept there.1 there.2
      | inr evicts ↦ evicted s t es fs honest kept evicts
    ]

    pub no_room_done : (s t : S) (es fs : List (ℕ × Slot V)) (r : Result Bool (CacheError ℕ MetadataError)) → (view s).is_honest → P (tables es) (contents s)
        → HasNoRoom (table_steps view bits bytes is_modified cleared IsFit) eqb size may_flush s es r t fs → Done s t es fs
    no_room_done s t es fs (Ok true) honest kept h = absurd h
    no_room_done s t es fs (Ok false) honest kept h = done_none s t es fs honest kept h.2 h.3
    no_room_done s t es fs (Err InUse) honest kept h = done_none s t es fs honest kept h.2 h.3
    no_room_done s t es fs (Err (StillInUse _)) honest kept h = absurd h
    no_room_done s t es fs (Err Memory) honest kept h = absurd h
    no_room_done s t es fs (Err (Backend x)) honest kept h =
        let e : ℕ × Slot V = h.entry in
        let sp = split_oldest es e h.eviction in
        let whole : tables es ≡ tables sp.front ++ table e ∷ tables sp.back = ap tables sp.is ∙ tables_at bits bytes is_modified sp.front sp.back e in
        let kept' : P (tables sp.front ++ table e ∷ tables sp.back) (contents s) = subst (λ l. P l (contents s)) whole kept in
        let one = flushed_entry view bits bytes is_modified cleared IsFit unmodified same_bytes P all safety (step h.must.may) s t (tables sp.front) (tables sp.back) e (Some x) e.1 honest kept' (h.failed, refl) in
        rw (h.same, whole) one

    -- a missing key is still missing once there is room
    pub still_missing : (s t : S) (k : ℕ) (es fs : List (ℕ × Slot V)) → lookup (eqb k) es ≡ None → HasRoomForEntry (table_steps view bits bytes is_modified cleared IsFit) eqb size may_flush s es t fs
        → lookup (eqb k) fs ≡ None
    still_missing s t k es fs missing room = elim room [
      | inl there ↦ ap (lookup (eqb k)) there.2 ∙ missing
      | inr evicts ↦ ap (lookup (eqb k)) evicts.rest ∙ lookup_none-removed (eqb k) (eqb evicts.entry.0) es missing
    ]

    pub get_done : (s t : S) (k : ℕ) (es fs : List (ℕ × Slot V)) (r : Result Bool (CacheError ℕ MetadataError)) → (view s).is_honest → P (tables es) (contents s) → lookup (eqb k) es ≡ None
        → GetsNew (table_steps view bits bytes is_modified cleared IsFit) eqb size may_flush k s es r t fs → Done s t es fs
    get_done s t k es fs (Ok true) honest kept missing (r, gs, v, room, loads, is) =
        let first = room_done s r es gs honest kept room in
        let second = (loaded_done r t k v gs first.honest first.kept (still_missing s r k es gs missing room) loads).1 in
        subst (λ l. Done s t es l) (sym is) (done_then s r t es gs ((k, slot_of v 0) ∷ gs) first second)
    get_done s t k es fs (Ok false) honest kept missing h = no_room_done s t es fs (Ok false) honest kept h
    get_done s t k es fs (Err InUse) honest kept missing h = no_room_done s t es fs (Err InUse) honest kept h
    get_done s t k es fs (Err (StillInUse _)) honest kept missing h = absurd h
    get_done s t k es fs (Err Memory) honest kept missing (r, v, room, loads) =
        let first = room_done s r es fs honest kept room in
        done_then s r t es fs fs first (loaded_done r t k v fs first.honest first.kept (still_missing s r k es fs missing room) loads).0
    get_done s t k es fs (Err (Backend x)) honest kept missing h = elim h [
      | inl none ↦ no_room_done s t es fs (Err (Backend x)) honest kept none
      | inr failed ↦
          let first = room_done s failed.0 es fs honest kept failed.1 in
          done_then s failed.0 t es fs fs first (failed_load failed.0 t k x fs first.honest first.kept failed.2)
    ]

    -- ---- a table is put in
    module _ (k : ℕ) (v : V) where
      pub insert_put : (s t : S) (es fs : List (ℕ × Slot V)) (r : Result Bool (CacheError ℕ MetadataError)) (left : Option V) → (view s).is_honest → P (tables es) (contents s) → lookup (eqb k) es ≡ None
          → InsertsNew (table_steps view bits bytes is_modified cleared IsFit) eqb size may_flush k v s es r t fs left → Puts view bits bytes is_modified cleared IsFit unmodified same_bytes P all safety k v s t es fs r
      insert_put s t es fs (Ok true) left honest kept missing h = record {
        rest = h.0.0;
        pins = 0;
        done = room_done s t es h.0.0 honest kept h.0.1;
        away = elsewhere_of_none bits bytes is_modified k h.0.0 (still_missing s t k es h.0.0 missing h.0.1);
        is = h.0.2;
      }
      insert_put s t es fs (Ok false) left honest kept missing h = no_room_done s t es fs (Ok false) honest kept h.0
      insert_put s t es fs (Err Memory) left honest kept missing h = room_done s t es fs honest kept h.0
      insert_put s t es fs (Err InUse) left honest kept missing h = no_room_done s t es fs (Err InUse) honest kept h.0
      insert_put s t es fs (Err (StillInUse _)) left honest kept missing h = absurd h
      insert_put s t es fs (Err (Backend x)) left honest kept missing h = no_room_done s t es fs (Err (Backend x)) honest kept h.0

      -- in the place of another one
      module _ (s t : S) (es : List (ℕ × Slot V)) (e : ℕ × Slot V) (found : lookup_entry (eqb k) es ≡ Some e) (honest : (view s).is_honest) (kept : P (tables es) (contents s)) where
        own_key : e.0 ≡ k
        own_key = let passes = (Contains-lookup_entry (eqb k) es e found).1 in sym (same_number k e.0 passes)

        whole : tables es ≡ tables (split_found (eqb k) es e found).front ++ table e ∷ tables (split_found (eqb k) es e found).back
        whole = let f = split_found (eqb k) es e found in ap tables f.is ∙ tables_at bits bytes is_modified f.front f.back e

        kept' : P (tables (split_found (eqb k) es e found).front ++ table e ∷ tables (split_found (eqb k) es e found).back) (contents s)
        kept' = subst (λ l. P l (contents s)) whole kept

        rest_is : tables (remove_entry (eqb k) es) ≡ tables (split_found (eqb k) es e found).front ++ tables (split_found (eqb k) es e found).back
        rest_is = let f = split_found (eqb k) es e found in ap tables f.rest ∙ tables_both bits bytes is_modified f.front f.back

        pub replace_put : (fs : List (ℕ × Slot V)) (r : Result Bool (CacheError ℕ MetadataError)) (left : Option V)
            → Replaces (table_steps view bits bytes is_modified cleared IsFit) k e (remove_entry (eqb k) es) v may_flush s es r t fs left → Puts view bits bytes is_modified cleared IsFit unmodified same_bytes P all safety k v s t es fs r
        replace_put fs (Ok true) left h =
            let f = split_found (eqb k) es e found in
            let w : V = h.1.0 in
            let one = flushed_entry view bits bytes is_modified cleared IsFit unmodified same_bytes P all safety (step h.0) s t (tables f.front) (tables f.back) e None (record { value = w; pins = e.1.pins }) honest kept'
            (subst (λ n. FlushesTable view bits bytes is_modified cleared IsFit s n e.1.value w t) (sym own_key) h.1.1, refl) in
            let gone = drop_clean (tables f.front) (tables f.back) (table (e.0, record { value = w; pins = e.1.pins })) (contents t) one.kept (ap is_modified h.1.1.clean ∙ unmodified e.1.value) in
            let apart : AreDistinct (tables f.front ++ table e ∷ tables f.back) = distinct _ (contents s) kept' in
            record {
              rest = remove_entry (eqb k) es;
              pins = e.1.pins;
              done = record {
                honest = one.honest;
                kept = subst (λ l. P l (contents t)) (sym rest_is) gone.0;
                known = ap (λ l. all l (contents t)) rest_is ∙ gone.1 ∙ one.known ∙ sym (ap (λ l. all l (contents s)) whole);
                since = rw whole one.since;
                moments = one.moments;
              };
              away = subst (λ l. AreElsewhere (k * 2 ^ bits) l) (sym rest_is)
                  (subst (λ n. AreElsewhere (n * 2 ^ bits) (tables f.front ++ tables f.back)) own_key (away_from (tables f.front) (tables f.back) (table e) apart));
              is = h.2 ∙ ap (λ n. (n, slot_of v e.1.pins) ∷ remove_entry (eqb k) es) own_key;
            }
        replace_put fs (Ok false) left h = done_none s t es fs honest kept h.1 h.2
        replace_put fs (Err (Backend x)) left h =
            let f = split_found (eqb k) es e found in
            let one = flushed_entry view bits bytes is_modified cleared IsFit unmodified same_bytes P all safety (step h.0) s t (tables f.front) (tables f.back) e (Some x) e.1 honest kept'
            (subst (λ n. FailsToFlush view bits bytes is_modified cleared IsFit s n e.1.value x t) (sym own_key) h.1, refl) in
            let front = promote (tables f.front) (tables f.back) (table e) (contents t) one.kept in
            let fs_is : tables fs ≡ table e ∷ (tables f.front ++ tables f.back) = ap tables h.2 ∙ ap (λ l. table e ∷ l) rest_is in
            record {
              honest = one.honest;
              kept = subst (λ l. P l (contents t)) (sym fs_is) front.0;
              known = ap (λ l. all l (contents t)) fs_is ∙ front.1 ∙ one.known ∙ sym (ap (λ l. all l (contents s)) whole);
              since = rw whole one.since;
              moments = one.moments;
            }
        replace_put fs (Err InUse) left h = absurd h
        replace_put fs (Err (StillInUse _)) left h = absurd h
        replace_put fs (Err Memory) left h = absurd h

      -- ---- one that isn't modified
      module _ (clean : is_modified v ≡ false) where
        abbrev Holds : S → List (ℕ × Slot V) → Type 0
        Holds s es = (i : ℕ) → i < 2 ^ bits → byte_at (bytes v) i ≡ all (tables es) (contents s) (k * 2 ^ bits + i)

        added : (t : S) (n : ℕ) (es : List (ℕ × Slot V)) → (view t).is_honest → P (tables es) (contents t) → AreElsewhere (k * 2 ^ bits) (tables es) → Holds t es → Done t t es ((k, slot_of v n) ∷ es)
        added t n es honest kept away holds =
            let aligned : k * 2 ^ bits % 2 ^ bits ≡ 0 = cluster_aligned k bits in
            relisted t es ((k, slot_of v n) ∷ es) honest kept (add (table (k, slot_of v n)) (tables es) (contents t) kept aligned away clean (inr holds))

        still_holds : (s t : S) (es fs : List (ℕ × Slot V)) → Done s t es fs → Holds s es → Holds t fs
        still_holds s t es fs d holds i lt = holds i lt ∙ ap (λ (m : Bytes). m (k * 2 ^ bits + i)) (sym d.known)

        pub put_done : (s t : S) (es fs : List (ℕ × Slot V)) (r : Result Bool (CacheError ℕ MetadataError)) → Holds s es → Puts view bits bytes is_modified cleared IsFit unmodified same_bytes P all safety k v s t es fs r → Done s t es fs
        put_done s t es fs (Ok true) holds ready =
            subst (λ l. Done s t es l) (sym ready.is) (done_then s t t es ready.rest ((k, slot_of v ready.pins) ∷ ready.rest) ready.done
            (added t ready.pins ready.rest ready.done.honest ready.done.kept ready.away (still_holds s t es ready.rest ready.done holds)))
        put_done s t es fs (Ok false) holds done = done
        put_done s t es fs (Err e) holds done = done
