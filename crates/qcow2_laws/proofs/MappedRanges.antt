-- Mapping guest clusters one after another is mapping the range.
use Rattle.std.proofs.Common.{◌≡◌, ◌+◌, ◌-◌, ◌*◌, ◌/◌, ◌<◌, ◌≤◌, ◌⊎◌, ◌∷◌, ℕ, zero, suc, [], refl, sym, ap, ◌∙◌, arith, inl, inr, subst}
use Rattle.qcow2_laws.proofs.Common.{fun_ext, cases_lt, cond-true, cond-false, eq-eqb, ne_eqb, div-mul-add, pow_pos, Bytes, laid_over, HeaderFields, cluster_size, cover, named_by_guest, Value, known_byte, L2Mapping, Zero, Uncovered, Disk, disk, with_values, IsIn, IsGiven, given_shown, names, guest_at, EntryChanges, DriverState, StateInvariant, SafeStep, used_by_guests, with_cluster, MapsEntry, MapsInTurn, IsZeros, ClustersInTurnAreARange, laid_inside, laid_outside}
use Rattle.qcow2_laws.proofs.Lemmas.{over_guests-change, guest_within, safe_step_none, safe_step_then, safe_step_less}
use Rattle.qcow2_laws.proofs.MappedAnew.{Maps, pending_after, entry_unseen, entry_zeroed, entry_uncovered}

-- what they do together: the range shows these values over each backing disk
pub record MapsRange (first n : ℕ) (old new : DriverState) (values : Bytes → ℕ → Value) : Type 0 where
  pub safe_step : SafeStep old new (λ backing. given_shown (disk new.known backing) (first * cluster_size old.header) ((first + n) * cluster_size old.header) ∷ []) []
  pub header : new.header ≡ old.header
  pub covers : (g : ℕ) → (g < first) ⊎ (first + n ≤ g) → cover old.header old.known g ≡ cover old.header new.known g
  pub used : (c : ℕ) → 0 < used_by_guests new c → 0 < used_by_guests old c
  pub bytes : (o : ℕ) → 0 < used_by_guests new (o / cluster_size old.header) → new.known o ≡ old.known o
  pub shows : (backing : Bytes) → disk new.known backing
      ≡ with_values (disk old.known backing) (first * cluster_size old.header) ((first + n) * cluster_size old.header - first * cluster_size old.header) (λ i. values backing (first * cluster_size old.header + i))

-- ---- numbers
module _ (values : ℕ → Value) (under : ℕ → Value) (from : ℕ) where
  abbrev laid : ℕ → ℕ → Value
  laid n = laid_over from n (λ i. values (from + i)) under

  laid_in : (n o : ℕ) → from ≤ o → o < from + n → laid n o ≡ values o
  laid_in n o above below =
      let e : from + (o - from) ≡ o = omega arith in
      ap (laid n) (sym e) ∙ laid_inside from n (λ i. values (from + i)) under (o - from) (omega arith) ∙ ap values e

  laid_out : (n o : ℕ) → (o < from) ⊎ (from + n ≤ o) → laid n o ≡ under o
  laid_out n o out = laid_outside from n (λ i. values (from + i)) under o out

within : (o g size : ℕ) → 0 < size → o / size ≡ g → (g * size ≤ o) × (o < g * size + size)
within o g size some here = grind arith

here_at : (o g size : ℕ) → g * size ≤ o → o < g * size + size → o / size ≡ g
here_at o g size above below =
    let e : o ≡ g * size + (o - g * size) = omega arith in
    ap (λ n. n / size) e ∙ div-mul-add g size (o - g * size) (omega arith)

-- a disk with one more cluster after a range of it
module _ (size first n : ℕ) (some : 0 < size) (values : ℕ → Value) (d : Disk) where
  abbrev range : ℕ → Disk
  range k = with_values d (first * size) ((first + k) * size - first * size) (λ i. values (first * size + i))

  pub one_more_at : (o : ℕ) → (with_cluster size (range n) (first + n) values).value o ≡ (range (suc n)).value o
  one_more_at o =
      let e : (first + n) * size ≡ first * size + n * size = omega arith in
      let e' : (first + suc n) * size ≡ first * size + n * size + size = omega arith in
      elim (cases_lt o (first * size + n * size)) [
        | inl before ↦
            cond-false _ _ _ (ne_eqb _ _ (λ here. let w = within o (first + n) size some here in absurd (omega (arith, w.0))))
            ∙ elim (cases_lt o (first * size)) [
              | inl below ↦ laid_out values d.value (first * size) _ o (inl below) ∙ sym (laid_out values d.value (first * size) _ o (inl below))
              | inr above ↦ laid_in values d.value (first * size) _ o above (omega arith) ∙ sym (laid_in values d.value (first * size) _ o above (omega arith))
            ]
        | inr behind ↦ elim (cases_lt o (first * size + n * size + size)) [
          | inl inside ↦ cond-true _ _ _ (eq-eqb _ _ (here_at o (first + n) size (omega arith) (omega arith))) ∙ sym (laid_in values d.value (first * size) _ o (omega arith) (omega arith))
          | inr past ↦
              cond-false _ _ _ (ne_eqb _ _ (λ here. let w = within o (first + n) size some here in absurd (omega (arith, w.1))))
              ∙ laid_out values d.value (first * size) _ o (inr (omega arith)) ∙ sym (laid_out values d.value (first * size) _ o (inr (omega arith)))
        ]
      ]

-- a disk with an empty range
pub nothing_laid : (size first : ℕ) (values : ℕ → Value) (d : Disk) → d ≡ with_values d (first * size) ((first + 0) * size - first * size) (λ i. values (first * size + i))
nothing_laid size first values d =
    let e : (first + 0) * size - first * size ≡ 0 = omega arith in
    let value : d.value ≡ laid values d.value (first * size) ((first + 0) * size - first * size) = fun_ext (λ o. sym (laid_out values d.value (first * size) _ o (nowhere o (first * size) _ e))) in
    λ j. record d { value = value j }
  where
    nowhere : (o from n : ℕ) → n ≡ 0 → (o < from) ⊎ (from + n ≤ o)
    nowhere o from n none = elim (cases_lt o from) [ inl below ↦ inl below | inr above ↦ inr (omega arith) ]

-- ---- none, and one more
pub maps_none : (s : DriverState) (first : ℕ) (values : Bytes → ℕ → Value) → StateInvariant s → MapsRange first 0 s s values
maps_none s first values sound = record {
  safe_step = safe_step_less s s (λ _. []) _ [] (λ backing o v given. absurd given) (safe_step_none s sound);
  header = refl;
  covers = λ g out. refl;
  used = λ c some. some;
  bytes = λ o some. refl;
  shows = λ backing. nothing_laid (cluster_size s.header) first (values backing) (disk s.known backing);
}

module _ (first n : ℕ) (a b c : DriverState) (values : Bytes → ℕ → Value) (one : MapsRange first n a b values) (two : Maps (first + n) b c values)
    (less : (k : ℕ) → 0 < used_by_guests c k → 0 < used_by_guests b k) where
  then_shows : (backing : Bytes) → disk c.known backing ≡ with_cluster (cluster_size a.header) (disk b.known backing) (first + n) (values backing)
  then_shows backing = subst (λ h. disk c.known backing ≡ with_cluster (cluster_size h) (disk b.known backing) (first + n) (values backing)) one.header (two.shows backing)

  then_safe_step : SafeStep b c (λ backing. given_shown (disk c.known backing) ((first + n) * cluster_size a.header) ((first + n) * cluster_size a.header + cluster_size a.header) ∷ []) []
  then_safe_step =
      subst (λ h. SafeStep b c (λ backing. given_shown (disk c.known backing) ((first + n) * cluster_size h) ((first + n) * cluster_size h + cluster_size h) ∷ []) []) one.header two.safe_step

  before : (backing : Bytes) (o : ℕ) → o < (first + n) * cluster_size a.header → (disk c.known backing).value o ≡ (disk b.known backing).value o
  before backing o lt =
      ap (λ (d : Disk). d.value o) (then_shows backing)
      ∙ cond-false _ _ _ (ne_eqb _ _ (λ here. let w = within o (first + n) (cluster_size a.header) (pow_pos a.header.cluster_bits) here in absurd (omega (arith, w.0))))

  both_shown : (backing : Bytes) (o : ℕ) (v : Value)
      → IsGiven (given_shown (disk c.known backing) ((first + n) * cluster_size a.header) ((first + n) * cluster_size a.header + cluster_size a.header)
      ∷ given_shown (disk b.known backing) (first * cluster_size a.header) ((first + n) * cluster_size a.header) ∷ []) o v
      → IsIn (given_shown (disk c.known backing) (first * cluster_size a.header) ((first + suc n) * cluster_size a.header)) o v
  both_shown backing o v (inl (above, below, is)) = grind arith
  both_shown backing o v (inr (inl (above, below, is))) = grind (arith, before)
  both_shown backing o v (inr (inr none)) = absurd none

  pub maps_next : MapsRange first (suc n) a c values
  maps_next = record {
    safe_step = safe_step_less a c _ _ [] (λ backing o v given. inr (inl (both_shown backing o v given))) (safe_step_then a b c _ _ [] [] one.safe_step then_safe_step);
    header = two.unseen.header ∙ one.header;
    covers = λ g out.
        one.covers g (elim out [ inl below ↦ inl below | inr past ↦ inr (omega arith) ])
        ∙ subst (λ h. cover h b.known g ≡ cover h c.known g) one.header (two.unseen.covers g (λ e. elim out [ inl below ↦ absurd (omega arith) | inr past ↦ absurd (omega arith) ]));
    used = λ k some. one.used k (less k some);
    bytes = λ o some.
        let in_b : 0 < used_by_guests b (o / cluster_size a.header) = less (o / cluster_size a.header) some in
        two.unseen.bytes o (subst (λ h. 0 < used_by_guests b (o / cluster_size h)) (sym one.header) in_b) ∙ one.bytes o in_b;
    shows = λ backing.
        let value = fun_ext (one_more_at (cluster_size a.header) first n (pow_pos a.header.cluster_bits) (values backing) (disk a.known backing)) in
        then_shows backing
        ∙ ap (λ d. with_cluster (cluster_size a.header) d (first + n) (values backing)) (one.shows backing)
        ∙ (λ j. record (disk a.known backing) { value = value j });
  }

-- ---- entries that change in turn
-- guests use no cluster that they didn't use, or that wasn't held for them
entry_used : (s : DriverState) (known' : Bytes) (i j : ℕ) (c : ℕ) → StateInvariant s → EntryChanges s known' i j
    → used_by_guests (record s { pending = pending_after s known' (guest_at s.header i j); known = known' }) c ≤ used_by_guests s c
entry_used s known' i j c sound changes =
    let others = (entry_unseen s known' i j sound changes s.pending).covers in
    let in_guests = guest_within s.header s.direction s.pending s.on_storage s.known known' sound i j changes.real changes.within changes.outside changes.entries in
    let sum = over_guests-change s.header (names s.header known' c) (names s.header s.known c) (guest_at s.header i j) in_guests (λ g ne. ap (named_by_guest s.header c) (sym (others g ne))) in
    let new_data = changes.new_data c in
    omega (arith, sum, new_data)

module _ (kind : L2Mapping → Type 0) (values : Bytes → ℕ → Value) (first : ℕ)
    (are : (s : DriverState) (known' : Bytes) (i j : ℕ) → StateInvariant s → s.header.incompatible ≡ 0 → EntryChanges s known' i j → kind (cover s.header known' (guest_at s.header i j))
    → Maps (guest_at s.header i j) s (record s { pending = pending_after s known' (guest_at s.header i j); known = known' }) values) where
  entry_then : (n : ℕ) (a b c : DriverState) → a.header.incompatible ≡ 0 → MapsRange first n a b values → MapsEntry kind (first + n) b c → MapsRange first (suc n) a c values
  entry_then n a b c inside one entry =
      subst (λ c. MapsRange first (suc n) a c values) (sym entry.is)
      (maps_next first n a b _ values one (subst (λ g. Maps g b (record b { pending = pending_after b entry.known (guest_at b.header entry.row entry.column); known = entry.known }) values) entry.here
      (are b entry.known entry.row entry.column one.safe_step.sound (ap (λ (h : HeaderFields). h.incompatible) one.header ∙ inside) entry.changes entry.maps))
      (λ k some. let le = entry_used b entry.known entry.row entry.column k one.safe_step.sound entry.changes in omega arith))

  pub maps_in_turn : (n : ℕ) (s new : DriverState) → StateInvariant s → s.header.incompatible ≡ 0 → MapsInTurn kind first n s new → MapsRange first n s new values
  maps_in_turn zero s new sound inside same = subst (λ (b : DriverState). MapsRange first 0 s b values) (sym same) (maps_none s first values sound)
  maps_in_turn (suc n) s new sound inside turn = entry_then n s turn.0 new inside (maps_in_turn n s turn.0 sound inside turn.1) turn.2

zeros_map : (s : DriverState) (known' : Bytes) (i j : ℕ) → StateInvariant s → s.header.incompatible ≡ 0 → EntryChanges s known' i j → (v : L2Mapping) → cover s.header known' (guest_at s.header i j) ≡ v → IsZeros v
    → Maps (guest_at s.header i j) s (record s { pending = pending_after s known' (guest_at s.header i j); known = known' }) (λ backing o. known_byte 0)
zeros_map s known' i j sound inside changes (Zero kept) is zeros = entry_zeroed s known' i j sound changes inside kept is
zeros_map s known' i j sound inside changes _ is zeros = absurd zeros

pub clusters_in_turn_are_a_range : ClustersInTurnAreARange
clusters_in_turn_are_a_range = record {
  zeroed = λ s new first n sound inside turn.
      let r = maps_in_turn IsZeros (λ backing o. known_byte 0) first (λ s known' i j sound inside changes zeros. zeros_map s known' i j sound inside changes _ refl zeros) n s new sound inside turn in
      record { safe_step = r.safe_step; shows = r.shows };
  uncovered = λ s new first n sound inside turn.
      let r = maps_in_turn (λ v. v ≡ Uncovered) (λ backing o. known_byte (backing o)) first (λ s known' i j sound inside changes none. entry_uncovered s known' i j sound changes inside none) n s new sound inside turn in
      record { safe_step = r.safe_step; shows = r.shows };
}
