-- Why a range is refused 9 (table prepared).
use Rattle.std.proofs.Common.{◌≡◌, ◌/◌, ◌%◌, ◌<◌, ◌∷◌, ◌==◌, inl, inr, ℕ, suc, Bool, true, false, List, [], Option, Some, None, refl, sym, ap, ◌∙◌, subst, arith, is_some}
use Rattle.qcow2_image.proofs.Common.{slice_get, cases_eq, cases_lt, eqb-true, BackingView, StorageView, Bytes, one_if, HeaderFields, cluster_size, entries_per_cluster, host_offset, table_at, table_once, shares, two_tables, own_cluster, Pending, l2_pins, order_of, IsEntryAt, contents_in, known_in, Qcow2, Prepared, l1_index_of, IsPlaceOf, IsTaken, HoldsTable, over_all, pins_by, pins_of, IsPending, IsReadyWith, ImageInvariant, Mappings, over_slots}
use Rattle.qcow2_image.specs.declared.mapping.Place.{Place}

-- a pin that is counted is one of a mapping
pinned_by : (pinned : Option ℕ) (table : ℕ) → 0 < pins_of pinned table → pinned ≡ Some table
pinned_by None table some = absurd (omega arith)
pinned_by (Some t) table some = by_test (t == table) refl some where
  by_test : (b : Bool) → (t == table) ≡ b → 0 < one_if b → Some t ≡ Some table
  by_test true is one = ap Some (eqb-true t table is)
  by_test false is none = absurd (omega arith)

-- a mapping that is out and keeps the table
pub record Keeper (out : Mappings) (table : ℕ) : Type 0 where
  pub place : ℕ
  pub other : Prepared
  pub is_out : slice_get out.slots place ≡ Some (Some other)
  pub keeps : other.table ≡ Some table

pub keeper : (out : Mappings) (table : ℕ) → 0 < over_all pins_by out table → Keeper out table
keeper out table some = at out.place out.slots some where
  at : (place : Place) (slots : List (Option Prepared)) → 0 < over_slots pins_by slots table → Keeper (record { place = place; slots = slots }) table
  at place [] some = absurd (omega arith)
  at place (None ∷ slots) some = let rest = at place slots (omega (arith, some)) in record { place = suc rest.place; other = rest.other; is_out = rest.is_out; keeps = rest.keeps }
  at place (Some q ∷ slots) some = elim (cases_lt 0 (pins_by q table)) [
    | inl here ↦ record { place = 0; other = q; is_out = refl; keeps = pinned_by q.table table here }
    | inr none ↦ let rest = at place slots (omega arith) in record { place = suc rest.place; other = rest.other; is_out = rest.is_out; keeps = rest.keeps }
  ]

module _ {S F : Type 0} (view : S → StorageView) (backing : F → BackingView) (image : Qcow2 S F) (p : Pending) (out : Mappings) (sound : ImageInvariant view backing p image out) where
  abbrev h : HeaderFields
  h = image.file.header.fields

  -- two L1 entries that name the same table are one
  one_entry : (i j table a b : ℕ) → IsEntryAt h (known_in view image.file) i table a → IsEntryAt h (known_in view image.file) j table b → i ≡ j
  one_entry i j table a b at_i at_j = elim (cases_eq i j) [
    | inl same ↦ same
    | inr other ↦
        let on_storage = contents_in view image.file in
        let crash_invariant = sound.file.caches.kept.kept.crash_invariant in
        let e_i = ap host_offset (crash_invariant.same_top.l1 i) in
        let e_j = ap host_offset (crash_invariant.same_top.l1 j) in
        let in_i : table_at h on_storage i / cluster_size h ≡ table = ap (λ n. n / cluster_size h) (e_i ∙ at_i.place) ∙ own_cluster h.cluster_bits table in
        let in_j : table_at h on_storage j / cluster_size h ≡ table = ap (λ n. n / cluster_size h) (e_j ∙ at_j.place) ∙ own_cluster h.cluster_bits table in
        let two = two_tables h on_storage table i j other (λ none. at_i.real (sym e_i ∙ none)) (λ none. at_j.real (sym e_j ∙ none)) in_i in_j in
        let parts = shares h on_storage table in
        let once = table_once h (order_of image.file.caches) p on_storage (known_in view image.file) crash_invariant table (omega (arith, two, parts)) in
        absurd (omega (arith, two, parts, once))
  ]

  -- a mapping that is out keeps the table that is held for an offset
  module _ (offset table : ℕ) (holds : HoldsTable view backing image offset table) where
    pub in_same : (q : Prepared) (t : Option ℕ) → t ≡ Some table → IsReadyWith h out.place (known_in view image.file) (contents_in view image.file) q t → l1_index_of h q.guest ≡ l1_index_of h offset
    in_same q None is ready = absurd cc
    in_same q (Some t) is ready =
        let pending : IsPending h out.place (known_in view image.file) (contents_in view image.file) q t = ready in
        let same : t ≡ table = cc in
        one_entry (l1_index_of h q.guest) (l1_index_of h offset) table _ _ (subst (λ c. IsEntryAt h (known_in view image.file) (l1_index_of h q.guest) c (q.guest / cluster_size h % entries_per_cluster h)) same pending.named) holds.entry

    pub taken_by : (known : Bytes) (n : ℕ) → 0 < l2_pins image.file.caches table → IsPlaceOf h known offset n None → IsTaken h known offset n out
    taken_by known n pinned never =
        let found = keeper out table (subst (λ k. 0 < k) (sound.pinned table) pinned) in
        record {
          place = found.place;
          other = found.other;
          is_out = found.is_out;
          keeps_table = ap (λ (o : Option ℕ). is_some o) found.keeps;
          same_table = in_same found.other found.other.table found.keeps (sound.ready found.place found.other found.is_out).mapped;
          never = never;
        }
