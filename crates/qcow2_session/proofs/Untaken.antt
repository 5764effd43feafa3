-- A prepared range lies in no L2 table that another mapping pins, unless it is existing.
use Rattle.std.proofs.Common.{◌≡◌, ◌+◌, ◌*◌, ◌/◌, ◌%◌, ◌<◌, ◌∷◌, ◌∙◌, inl, inr, ℕ, suc, false, true, List, Option, Some, None, refl, sym, ap, subst, arith}
use Rattle.qcow2_session.proofs.Common.{IsNone, IsSome, slice_get, slice_set, cases_lt, div-mul-add, pow_pos, BackingView, StorageView, Bytes, cluster_size, entries_per_cluster, HeaderFields, PreparedMapping, contents_in, known_in, IsEntryAt, l1_index_of, IsPending, IsReadyWith, abstract_of, cluster_of, pins_by, IsAnswered, IsTaken, Qcow2, Prepared, get_set_same, Mappings, set_slot}
use Rattle.qcow2_image.proofs.Images.Apart.{pins_own}
use Rattle.qcow2_image.proofs.Call.Slots.{get_set_other, over_all_two}
use Rattle.qcow2_image.proofs.Images.Places.{put_first}

pub row_as : (h h' : HeaderFields) → cluster_size h' ≡ cluster_size h → (o : ℕ) → l1_index_of h' o ≡ l1_index_of h o
row_as h h' same o = ap (λ size. o / size / (size / 8)) same

module _ {S F : Type 0} (view : S → StorageView) (backing : F → BackingView) (image : Qcow2 S F) (out : Mappings) (sound : (abstract_of view backing image out).is_sound) where
  pending_at : (k : ℕ) (q : Prepared) (t : ℕ) → slice_get out.slots k ≡ Some (Some q) → q.table ≡ Some t → IsPending image.file.header.fields out.place (known_in view image.file) (contents_in view image.file) q t
  pending_at k q t at is = subst (λ (o : Option ℕ). IsReadyWith image.file.header.fields out.place (known_in view image.file) (contents_in view image.file) q o) is (sound.ready k q at).mapped

  own_place : (n : ℕ) → n * cluster_size image.file.header.fields / cluster_size image.file.header.fields ≡ n
  own_place n =
      let e : n * cluster_size image.file.header.fields ≡ n * cluster_size image.file.header.fields + 0 = omega arith in
      ap (λ o. o / cluster_size image.file.header.fields) e ∙ div-mul-add n (cluster_size image.file.header.fields) 0 (pow_pos image.file.header.fields.cluster_bits)

  -- two mappings that are out pin two tables
  pub apart_tables : (k j : ℕ) (q r : Prepared) (t u : ℕ) → (j ≡ k → ⊥) → slice_get out.slots k ≡ Some (Some q) → slice_get out.slots j ≡ Some (Some r) → q.table ≡ Some t → r.table ≡ Some u
      → l1_index_of image.file.header.fields q.guest ≡ l1_index_of image.file.header.fields r.guest → ⊥
  apart_tables k j q r t u apart at_k at_j is_t is_u rows =
      let first = pending_at k q t at_k is_t in
      let moved = subst (λ (i : ℕ). IsEntryAt image.file.header.fields (known_in view image.file) i t (cluster_of image.file.header.fields q % entries_per_cluster image.file.header.fields)) rows first.named in
      let places : t * cluster_size image.file.header.fields ≡ u * cluster_size image.file.header.fields = sym moved.place ∙ (pending_at j r u at_j is_u).named.place in
      let tables : t ≡ u = sym (own_place t) ∙ ap (λ o. o / cluster_size image.file.header.fields) places ∙ own_place u in
      let both = over_all_two pins_by out k q j r at_k apart at_j t in
      let mine = pins_own q t is_t in
      let theirs = pins_own r t (is_u ∙ ap Some (sym tables)) in
      let once = sound.once t in
      absurd (omega arith)

module _ {S F : Type 0} (view : S → StorageView) (backing : F → BackingView) (h : HeaderFields) (known : Bytes) (new : Qcow2 S F) (out : Mappings) (slot : ℕ) (p : Prepared) (m : PreparedMapping) (offset n : ℕ)
    (free : slice_get out.slots slot ≡ Some None) (sound : (abstract_of view backing new (set_slot out slot (Some p))).is_sound) (size : cluster_size new.file.header.fields ≡ cluster_size h) (guest : p.guest ≡ offset)
    (is : 0 < n → IsAnswered h known offset n new.file.header.fields (known_in view new.file) p m) where
  with_tables : (a b : Option ℕ) (taken : IsTaken h known offset n out) → 0 < n → p.table ≡ a → taken.other.table ≡ b → ⊥
  with_tables None b taken some none its = let place = (is some).existing.0 (subst (λ (o : Option ℕ). IsNone o) (sym none) refl) in taken.never place.0 place.1
  with_tables (Some t) None taken some is_t none = let no : false ≡ true = subst (λ (o : Option ℕ). IsSome o) none taken.keeps_table in cc
  with_tables (Some t) (Some u) taken some is_t is_u =
      let apart : taken.place ≡ slot → ⊥ = λ same. let no = sym free ∙ ap (slice_get out.slots) (sym same) ∙ taken.is_out in cc in
      apart_tables view backing new (set_slot out slot (Some p)) sound slot taken.place p taken.other t u apart
      (get_set_same out.slots slot (Some p) None free) (get_set_other out.slots slot taken.place (Some p) apart ∙ taken.is_out) is_t is_u
      (ap (l1_index_of new.file.header.fields) guest ∙ row_as h new.file.header.fields size offset ∙ sym taken.same_table ∙ sym (row_as h new.file.header.fields size taken.other.guest))

  pub prepared_untaken : ¬ IsTaken h known offset n out
  prepared_untaken taken = elim (cases_lt 0 n) [
    | inl some ↦ with_tables p.table taken.other.table taken some refl refl
    | inr none ↦ taken.never 0 (omega (arith, none), λ i lt. absurd (omega (arith, none, lt)))
  ]

-- an empty slot in front makes no difference to a pinned table
taken_beside : {h : HeaderFields} {known : Bytes} {offset n : ℕ} {out : Mappings} → IsTaken h known offset n out → IsTaken h known offset n (put_first None out)
taken_beside taken = record { place = suc taken.place; other = taken.other; is_out = taken.is_out; keeps_table = taken.keeps_table; same_table = taken.same_table; never = taken.never }

-- a mapping that was prepared in that slot
pub untaken_beside : {S F : Type 0} (view : S → StorageView) (backing : F → BackingView) (h : HeaderFields) (known : Bytes) (new : Qcow2 S F) (out : Mappings) (p : Prepared) (m : PreparedMapping) (offset n : ℕ)
    → (abstract_of view backing new (put_first (Some p) out)).is_sound → cluster_size new.file.header.fields ≡ cluster_size h → p.guest ≡ offset → IsAnswered h known offset n new.file.header.fields (known_in view new.file) p m → ¬ IsTaken h known offset n out
untaken_beside view backing h known new out p m offset n sound size guest is taken = prepared_untaken view backing h known new (put_first None out) 0 p m offset n refl sound size guest (λ some. is) (taken_beside taken)
