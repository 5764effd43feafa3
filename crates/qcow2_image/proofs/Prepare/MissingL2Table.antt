-- If a part that needs an L2 table is refused, and not by a fault, the offset still has no L2 table of its own.
use Rattle.std.proofs.Common.{◌≡◌, ◌*◌, ◌/◌, ◌%◌, ◌^◌, ◌<◌, ◌≤◌, ◌∷◌, ◌==◌, ◌↔◌, inl, inr, ℕ, suc, Bool, true, false, cond, List, [], length, Option, Some, Result, Ok, Err, refl, sym, ap, ◌∙◌, subst, arith, IfErr, IsTrue}
use Rattle.qcow2_image.proofs.Common.{lookup, option_map_or, cases_lt, eq-eqb, ltb-true, mod_below, pow_pos, BackingView, StorageView, Bytes, HeaderFields, host_offset, l1_entry, entry_count, cluster_size, HasPlace, Pending, table_at, KeepsFormat, has_table, is_pinned, pinned, AreAllPinned, IsInUseOrFault, Slot, ImageError, IsFault, contents_in, HasPinnedMapping, Qcow2, Prepared, l1_index_of, ImageInvariant, RefusedMove, MayFailLooking, IsFaultOrKeepsL1Table, IsFaultOrLacksTable, LacksTable, MayName, OwnsTable, RefusedStep, pending_with_listed, Mappings}
use Rattle.qcow2_image.proofs.Images.Backings.{pinned_by}
use Rattle.qcow2_image.proofs.Prepare.UnlinkedL2Table.{may_still}

-- ---- entries with a pin
module _ {V : Type 0} where
  pinned_few : (es : List (ℕ × Slot V)) → length (pinned es) ≤ length es
  pinned_few [] = omega arith
  pinned_few (e ∷ es) = let few = pinned_few es in elim (is_pinned e.1) as (λ b. length (cond b (e ∷ pinned es) (pinned es)) ≤ suc (length es)) [ true ↦ omega (arith, few) | false ↦ omega (arith, few) ]

  first_pinned : (b : Bool) (e : ℕ × Slot V) (es : List (ℕ × Slot V)) → is_pinned e.1 ≡ b → cond b (e ∷ pinned es) (pinned es) ≡ e ∷ es → is_pinned e.1 ≡ true
  first_pinned true e es is all = is
  first_pinned false e es is all = let few = pinned_few es in let n = ap length all in absurd (omega (arith, few, n))

module _ {V : Type 0} where
  -- where all of some have one, a key has one
  pub some_pinned : (size : ℕ) (es : List (ℕ × Slot V)) → 0 < size → size ≤ length es → pinned es ≡ es → (t : ℕ) × (0 < option_map_or (λ (s : Slot V). s.pins) (lookup (λ k. t == k) es) 0)
  some_pinned size [] some le all = absurd (omega (arith, some, le))
  some_pinned size (e ∷ es) some le all =
      let lt : 0 < e.1.pins = ltb-true 0 e.1.pins (first_pinned (is_pinned e.1) e es refl all) in
      (e.0, subst (λ b. 0 < option_map_or (λ (s : Slot V). s.pins) (cond b (Some e.1) (lookup (λ k. e.0 == k) es)) 0) (sym (eq-eqb e.0 e.0 refl)) lt)

-- what a table has no entry for lies past it
pub not_within : (b : Bool) (i n : ℕ) → (IsTrue b ↔ (i < n)) → b ≡ false → n ≤ i
not_within b i n is not = elim (cases_lt i n) [ inl lt ↦ absurd (let e : false ≡ true = sym not ∙ is.1 lt in cc) | inr le ↦ le ]

-- ---- offsets
same_index : (h h' : HeaderFields) (offset : ℕ) → KeepsFormat h h' → l1_index_of h' offset ≡ l1_index_of h offset
same_index h h' offset format = ap (λ (x : HeaderFields). l1_index_of x offset) format

-- the cluster of a table that an entry names begins within 64 bits
pub named_place : (h : HeaderFields) (b : Bytes) (i cluster : ℕ) → table_at h b i ≡ cluster * cluster_size h → HasPlace h.cluster_bits cluster
named_place h b i cluster at =
    let low : l1_entry h b i / 2 ^ 9 % 2 ^ 47 < 2 ^ 47 = mod_below (l1_entry h b i / 2 ^ 9) (2 ^ 47) (pow_pos 47) in
    let below : host_offset (l1_entry h b i) < 2 ^ 64 = omega arith in
    subst (λ n. n < 2 ^ 64) at below

module _ {S F : Type 0} (view : S → StorageView) (backing : F → BackingView) (out : Mappings) where
  -- ---- refusals of a cache
  module _ (p : Pending) (image : Qcow2 S F) (sound : ImageInvariant view backing p image out) where
    -- where no table may leave the cache of L2 tables, a mapping is prepared
    pub pinned_prepared : AreAllPinned image.file.caches → HasPinnedMapping out
    pinned_prepared all =
        let one = some_pinned image.file.caches.l2.size image.file.caches.l2.entries sound.file.room.tables all.0 all.1 in
        pinned_by out one.0 (subst (λ n. 0 < n) (sound.pinned one.0) one.1)

    -- a table is loaded but for a fault, or where a mapping is prepared
    pub loads_looking : (e : ImageError) → IsInUseOrFault image.file.caches e → MayFailLooking (HasPinnedMapping out) e
    loads_looking e cause = elim cause [ inl used ↦ inr (used.0, pinned_prepared used.1) | inr fault ↦ inl fault ]

    -- without a prepared mapping it has a place
    pub fault_alone : (HasPinnedMapping out → ⊥) → (e : ImageError) → IsInUseOrFault image.file.caches e → IsFault e
    fault_alone none e cause = elim cause [ inl used ↦ absurd (none (pinned_prepared used.1)) | inr fault ↦ fault ]

  -- a refusal that is a fault
  pub fault_or_lacking : {A : Type 0} (image : Qcow2 S F) (offset : ℕ) (r : Result A ImageError) → IfErr r IsFault → IfErr r (IsFaultOrLacksTable view image offset)
  fault_or_lacking image offset (Ok x) fault = tt
  fault_or_lacking image offset (Err e) fault = inl fault

  module _ (p : Pending) (old new : Qcow2 S F) (sound : ImageInvariant view backing p old out) (offset : ℕ) where
    -- no entry is that far
    pub lacks_past : entry_count old.l1_table ≤ l1_index_of old.file.header.fields offset → LacksTable view old offset
    lacks_past past own = let lt = has_table old.file.header.fields (contents_in view old.file) (l1_index_of old.file.header.fields offset) own.0 in let count = sound.l1_table.count in absurd (omega (arith, past, lt, count))

    -- the L1 table is the same
    module _ (lacks : LacksTable view old offset) where
      left_lacking : (e : ImageError) → RefusedStep view backing p old new out e → IsFaultOrKeepsL1Table old new e → IsFaultOrLacksTable view new offset e
      left_lacking e left kept = elim kept [
        | inl fault ↦ inl fault
        | inr same ↦ elim left [
          | inl keeps ↦ inr (subst (MayName view new) (sym (same_index old.file.header.fields new.file.header.fields offset keeps.unseen.header)) (may_still view backing out p (pending_with_listed p old new) old new sound keeps.sound same (l1_index_of old.file.header.fields offset) lacks))
          | inr interrupted ↦ inl interrupted.interrupted.fault
        ]
      ]

      pub owns_or_lacks : (r : Result ℕ ImageError) → OwnsTable view backing p old new out (l1_index_of old.file.header.fields offset) r → IfErr r (IsFaultOrKeepsL1Table old new) → IfErr r (IsFaultOrLacksTable view new offset)
      owns_or_lacks (Ok cluster) owned kept = tt
      owns_or_lacks (Err e) left kept = left_lacking e left kept

    -- no longer L1 table was made
    pub short_lacking : entry_count old.l1_table ≤ l1_index_of old.file.header.fields offset → (e : ImageError) → RefusedMove view backing p old new out e → IsFaultOrLacksTable view new offset e
    short_lacking past e left = elim left [
      | inl keeps ↦ inr (λ own.
          let lt = has_table new.file.header.fields (contents_in view new.file) (l1_index_of new.file.header.fields offset) own.0 in
          let entries : new.file.header.fields.l1_entries ≡ old.file.header.fields.l1_entries = ap (λ (x : HeaderFields). x.l1_entries) keeps.unseen.header in
          let index = same_index old.file.header.fields new.file.header.fields offset keeps.unseen.header in
          let count = sound.l1_table.count in
          absurd (omega (arith, past, lt, entries, index, count)))
      | inr interruption ↦ inl interruption.interrupted.fault
    ]
