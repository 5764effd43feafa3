-- A range is filled part by part, and no entry that has to change lies in an L2 table that a prepared mapping pins.
use Rattle.std.proofs.Common.{◌≡◌, ◌⊎◌, ◌+◌, ◌-◌, ◌*◌, ◌/◌, ◌<◌, ◌≤◌, ◌∷◌, inl, inr, ℕ, suc, true, false, List, Option, Some, None, refl, sym, ap, ◌∙◌, subst, arith, IsSome}
use Rattle.qcow2_image.proofs.Common.{slice_get, cases_lt, div-mul-add, pow_pos, BackingView, StorageView, PreallocateMode, Bytes, cluster_size, entries_per_cluster, rounded_up, HeaderFields, rest_of_table, is_copied_data, table_at, Sizes, own_cluster, contents_in, known_in, Qcow2, Prepared, InternalCall, IsUnderMapping, l1_index_of, size_of, ImageInvariant, IsPending, IsReadyWith, pending_in, pins_by, CoversStay, MovesTables, ChangesFree, FilledCovers, GrownFree, Mappings}
use Rattle.qcow2_image.specs.Preallocation.{Touches, first_zeros}
use Rattle.qcow2_image.proofs.Images.Apart.{pins_own}
use Rattle.qcow2_image.proofs.Call.Slots.{over_all_two}
use Rattle.qcow2_image.proofs.Clear.ClearCalls.{under_after}
use Rattle.qcow2_image.proofs.Map.Looked.{same_table}
use Rattle.qcow2_image.proofs.Preallocate.Covers.{in_one, touches_or}
use Rattle.qcow2_image.proofs.Images.Places.{put_first}

-- clusters that a range within one L2 table touches have the same L1 entry
pub same_row : (h : HeaderFields) → Sizes h → (from g : ℕ) → from < g * cluster_size h + cluster_size h → g * cluster_size h < from + rest_of_table h from → l1_index_of h (g * cluster_size h) ≡ l1_index_of h from
same_row h sizes from g low high = elim (cases_lt (g * cluster_size h) from) [
  | inr behind ↦
      let e : from + (g * cluster_size h - from) ≡ g * cluster_size h = omega (arith, behind) in
      ap (λ n. l1_index_of h n) (sym e) ∙ same_table h from sizes (g * cluster_size h - from) (omega (arith, behind, high))
  | inl before ↦
      let start : g * cluster_size h ≡ g * cluster_size h + 0 = omega arith in
      let here : from ≡ g * cluster_size h + (from - g * cluster_size h) = omega (arith, before) in
      let first : g * cluster_size h / cluster_size h ≡ g = ap (λ n. n / cluster_size h) start ∙ div-mul-add g (cluster_size h) 0 (pow_pos h.cluster_bits) in
      let its : from / cluster_size h ≡ g = ap (λ n. n / cluster_size h) here ∙ div-mul-add g (cluster_size h) (from - g * cluster_size h) (omega (arith, low, before)) in
      ap (λ n. n / entries_per_cluster h) (first ∙ sym its)
]

-- where whole clusters of one L2 table are cleared
pub untaken_cleared : (h : HeaderFields) (known : Bytes) → Sizes h → (out : Mappings) (from to : ℕ) → to ≤ from + rest_of_table h from → (IsUnderMapping h from out → ⊥) → ChangesFree (cluster_size h) 0 from to h known out
untaken_cleared h known sizes out from to within free = λ g t change under. let high = t.2 in
    free (record { place = under.place; other = under.other; is_out = under.is_out; keeps_table = under.keeps_table; same_table = under.same_table ∙ same_row h sizes from g t.1 (omega (arith, high, within)) })

module _ (cs : ℕ) (some : 0 < cs) (out : Mappings) where
  -- nothing is filled
  pub untaken_none : (first from : ℕ) (h : HeaderFields) (known : Bytes) → ChangesFree cs first from from h known out
  untaken_none first from h known = λ g t change under. let none = t.0 in absurd (omega (arith, none))

  -- where all are zeros, those from an offset on are
  pub untaken_zeros : (first from to : ℕ) (h : HeaderFields) (known : Bytes) → ChangesFree cs 0 from to h known out → ChangesFree cs first from to h known out
  untaken_zeros first from to h known free = λ g t change under. free g t (inl (omega arith)) under

  module _ (first : ℕ) (a : HeaderFields) (ka : Bytes) (b : HeaderFields) (kb : Bytes) (file_step : MovesTables a b) where
    both : (x y x' y' from to : ℕ) → ((g : ℕ) → Touches cs from to g → Touches cs x y g ⊎ Touches cs x' y' g) → FilledCovers cs first x y a ka b kb → ChangesFree cs first x y a ka out → ChangesFree cs first x' y' b kb out
        → ChangesFree cs first from to a ka out
    both x y x' y' from to split covers before then = λ g t change under. elim (touches_or cs some x y g) [
      | inl earlier ↦ before g earlier change under
      | inr none ↦ elim (split g t) [
        | inl earlier ↦ none earlier
        | inr second ↦ then g second (elim change [ inl le ↦ inl le | inr other ↦ inr (ap is_copied_data (sym (covers.beside g none)) ∙ other) ]) (under_after a b (g * cs) out file_step under)
      ]
    ]

    -- one part after another
    pub untaken_then : (from mid to : ℕ) → from ≤ mid → mid ≤ to → FilledCovers cs first from mid a ka b kb → ChangesFree cs first from mid a ka out → ChangesFree cs first mid to b kb out → ChangesFree cs first from to a ka out
    untaken_then from mid to low high covers before then = both from mid mid to from to (in_one cs some from mid to low high) covers before then

    -- the later one first
    pub untaken_before : (from mid to : ℕ) → from ≤ mid → mid ≤ to → FilledCovers cs first mid to a ka b kb → ChangesFree cs first mid to a ka out → ChangesFree cs first from mid b kb out → ChangesFree cs first from to a ka out
    untaken_before from mid to low high covers before then =
        both mid to from mid from to (λ g t. elim (in_one cs some from mid to low high g t) [ inl second ↦ inr second | inr earlier ↦ inl earlier ]) covers before then

    -- a step that keeps all mappings, and then such a part
    pub untaken_behind : (from to : ℕ) → CoversStay a ka b kb → ChangesFree cs first from to b kb out → ChangesFree cs first from to a ka out
    untaken_behind from to same then = λ g t change under.
        then g t (elim change [ inl le ↦ inl le | inr other ↦ inr (ap is_copied_data (sym (same g)) ∙ other) ]) (under_after a b (g * cs) out file_step under)

module _ {S F : Type 0} (view : S → StorageView) (backing : F → BackingView) where
  -- no two mappings that aren't existing lie under one L2 table
  module _ (image : Qcow2 S F) (p : Prepared) (out : Mappings) (sound : ImageInvariant view backing (pending_in view backing image (put_first (Some p) out)) image (put_first (Some p) out)) (t : ℕ) (table_is : p.table ≡ Some t) where
    never_with : (r : Prepared) (place : ℕ) → slice_get out.slots place ≡ Some (Some r) → (x : Option ℕ) → r.table ≡ x → IsSome x → l1_index_of image.file.header.fields r.guest ≡ l1_index_of image.file.header.fields p.guest
        → IsReadyWith image.file.header.fields out.place (known_in view image.file) (contents_in view image.file) r x → ⊥
    never_with r place there None is is_some rows ready = absurd (let e : false ≡ true = is_some in cc)
    never_with r place there (Some u) is is_some rows ready =
        let h = image.file.header.fields in
        let pending : IsPending image.file.header.fields out.place (known_in view image.file) (contents_in view image.file) r u = ready in
        let mine : IsPending image.file.header.fields out.place (known_in view image.file) (contents_in view image.file) p t =
        subst (IsReadyWith image.file.header.fields out.place (known_in view image.file) (contents_in view image.file) p) table_is (sound.ready 0 p refl).mapped in
        let places : u * cluster_size image.file.header.fields ≡ t * cluster_size image.file.header.fields = sym pending.named.place ∙ ap (table_at image.file.header.fields (known_in view image.file)) rows ∙ mine.named.place in
        let tables : u ≡ t = sym (own_cluster h.cluster_bits u) ∙ ap (λ o. o / cluster_size image.file.header.fields) places ∙ own_cluster h.cluster_bits t in
        let own = pins_own p t table_is in
        let others = pins_own r t (is ∙ ap Some tables) in
        let all = over_all_two pins_by (put_first (Some p) out) 0 p (suc place) r refl (λ e. absurd (omega (arith, e))) there t in
        let once = sound.once t in
        omega (arith, own, others, all, once)

    pub never_two : (offset : ℕ) → IsUnderMapping image.file.header.fields offset out → l1_index_of image.file.header.fields offset ≡ l1_index_of image.file.header.fields p.guest → ⊥
    never_two offset under row = never_with under.other under.place under.is_out under.other.table refl under.keeps_table (under.same_table ∙ row) (sound.ready (suc under.place) under.other under.is_out).mapped

  -- after a longer L1 table
  pub untaken_grown : (out : Mappings) (old long : Qcow2 S F) (size : ℕ) (mode : PreallocateMode) → InternalCall view backing old long out → GrownFree mode (size_of long) size long.file.header.fields (known_in view long.file) out
      → GrownFree mode (size_of old) size old.file.header.fields (known_in view old.file) out
  untaken_grown out old long size mode call free hides =
      let h = old.file.header.fields in
      let h' = long.file.header.fields in
      let k' = known_in view long.file in
      let moved : size_of long ≡ size_of old = ap (λ (x : HeaderFields). x.size) call.header in
      let large : cluster_size long.file.header.fields ≡ cluster_size old.file.header.fields = ap (λ (x : HeaderFields). cluster_size x) call.header in
      untaken_behind (cluster_size h) (pow_pos h.cluster_bits) out (first_zeros (cluster_size h) (size_of old) size mode) h (known_in view old.file) h' k' call.header (size_of old) (rounded_up (cluster_size h) size) call.covers
      (subst (λ cs. ChangesFree cs (first_zeros cs (size_of old) size mode) (size_of old) (rounded_up cs size) h' k' out) large
      (subst (λ n. ChangesFree (cluster_size h') (first_zeros (cluster_size h') n size mode) n (rounded_up (cluster_size h') size) h' k' out) moved (free hides)))
