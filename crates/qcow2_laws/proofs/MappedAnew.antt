-- One guest cluster gets another mapping: what it then shows, and that everything else stays the same.
use Rattle.std.proofs.Common.{◌≡◌, ◌+◌, ◌-◌, ◌*◌, ◌/◌, ◌%◌, ◌<◌, ◌≤◌, ◌⊎◌, ◌∷◌, ℕ, Bool, true, cond, eqb, [], refl, sym, ap, ◌∙◌, arith, inl, inr, subst}
use Rattle.qcow2_laws.proofs.Common.{Option, fun_ext, cases_eq, cases_lt, eq-eqb, ne_eqb, cond-true, cond-false, div-add-mod', mod_below, pow_pos, Bytes, header, cluster_size, cover, Value, known_byte, value_under, in_cluster, named_for_tables, named_by_guest, CoverIsAligned, Data, Zero, Uncovered, disk, given_shown, names, table_at, Pending, remapped, DriverState, StateInvariant, SafeStep, guest_at, EntryChanges, IsMappedAnew, with_cluster}
use Rattle.qcow2_laws.proofs.Lemmas.{in_one, own_names, own_data_of, for_tables-top, IsTop-top, tied, value_is, new_data_is_unnamed, shares, table_has, entry_top, entry_others, entry_is_changed, table_bytes, named_some, size_stays, value_stays}
use Rattle.qcow2_laws.proofs.CachedChanges.{in_most}
use Rattle.qcow2_laws.proofs.Opened.{in_cluster-is}
use Rattle.qcow2_laws.proofs.Shown.{shown_under}

-- what such a step does: it gives what the guest cluster shows then, which are these values over each backing disk
pub record Maps (guest : ℕ) (old new : DriverState) (values : Bytes → ℕ → Value) : Type 0 where
  pub safe_step : SafeStep old new (λ backing. given_shown (disk new.known backing) (guest * cluster_size old.header) (guest * cluster_size old.header + cluster_size old.header) ∷ []) []
  pub unseen : IsMappedAnew guest old new
  pub shows : (backing : Bytes) → disk new.known backing ≡ with_cluster (cluster_size old.header) (disk old.known backing) guest (values backing)

-- what is pending after an entry changed
abbrev pub pending_after : DriverState → Bytes → ℕ → Pending
pending_after s known' guest = remapped s.pending (λ c. names s.header s.known c guest) (λ c. names s.header known' c guest)

in_cluster_of : (o g size : ℕ) → 0 < size → o / size ≡ g → (g * size ≤ o) × (o < g * size + (g * size + size - g * size)) × (g * size + (o - g * size) ≡ o)
in_cluster_of o g size some here =
    let is : o / size * size + o % size ≡ o = div-add-mod' o size in
    let below = mod_below o size some in
    let q : o / size * size ≡ g * size = ap (λ n. n * size) here in
    (omega arith, omega arith, omega arith)

module _ (s : DriverState) (known' : Bytes) (i j : ℕ) (sound : StateInvariant s) (changes : EntryChanges s known' i j) where
  -- whatever is pending then
  pub entry_unseen : (p' : Pending) → IsMappedAnew (guest_at s.header i j) s (record s { pending = p'; known = known' })
  entry_unseen p' =
      let table_refs : 0 < named_for_tables s.header s.on_storage (table_at s.header s.known i / cluster_size s.header) =
      let e = for_tables-top s.header s.on_storage s.known (table_at s.header s.known i / cluster_size s.header) sound.same_top in
      let parts = shares s.header s.known (table_at s.header s.known i / cluster_size s.header) in
      let one = table_has s.header s.known i changes.real in
      omega arith in
      record {
        header = refl;
        covers = entry_others s.header s.direction s.pending s.on_storage s.known known' sound i j changes.real changes.within changes.outside changes.entries;
        bytes = table_bytes s (record s { pending = p'; known = known' }) sound (table_at s.header s.known i / cluster_size s.header) table_refs changes.outside;
      }

  pub new_header : header known' ≡ s.header
  new_header =
      let top = entry_top s.header s.direction s.pending s.on_storage s.known known' sound i j changes.real changes.within changes.outside changes.entries in
      (IsTop-top s.header s.known known' top (IsTop-top s.header s.on_storage s.known sound.same_top sound.top)).header_is

  safe_step_on : SafeStep s (record s { pending = pending_after s known' (guest_at s.header i j); known = known' })
      (λ backing. given_shown (disk known' backing) (guest_at s.header i j * cluster_size s.header) (guest_at s.header i j * cluster_size s.header + cluster_size s.header) ∷ []) []
  safe_step_on =
      entry_is_changed s known' i j _ sound changes (λ backing o here.
      let inside = in_cluster_of o (guest_at s.header i j) (cluster_size s.header) (pow_pos s.header.cluster_bits) here in
      inr (inl (inside.0, inside.1, sym (value_is s.header known' backing o new_header) ∙ ap (disk known' backing).value (sym inside.2))))

  -- it shows what its new cover gives
  module _ (inside : s.header.incompatible ≡ 0) (values : Bytes → ℕ → Value)
      (are : (backing : Bytes) (o : ℕ) → o / cluster_size s.header ≡ guest_at s.header i j → value_under s.header known' known' backing o (cover s.header known' (guest_at s.header i j)) ≡ values backing o) where
    value_now : (backing : Bytes) (o : ℕ)
        → (disk known' backing).value o ≡ cond (eqb (o / cluster_size s.header) (guest_at s.header i j)) (values backing o) ((disk s.known backing).value o)
    value_now backing o =
        let new : DriverState = record s { pending = pending_after s known' (guest_at s.header i j); known = known' } in
        elim (cases_eq (o / cluster_size s.header) (guest_at s.header i j)) [
          | inl here ↦
              shown_under new safe_step_on.sound backing o (cover s.header known' (guest_at s.header i j)) (ap (cover s.header known') here)
              ∙ are backing o here
              ∙ sym (cond-true _ _ _ (eq-eqb _ _ here))
          | inr other ↦
              let unseen = entry_unseen (pending_after s known' (guest_at s.header i j)) in
              value_stays s new sound inside safe_step_on.sound refl backing o (unseen.covers (o / cluster_size s.header) other) (λ place some.
              unseen.bytes place (let named = named_some s new sound (place / cluster_size s.header) (o / cluster_size s.header) some in omega arith))
              ∙ sym (cond-false _ _ _ (ne_eqb _ _ other))
        ]

    pub entry_maps : Maps (guest_at s.header i j) s (record s { pending = pending_after s known' (guest_at s.header i j); known = known' }) values
    entry_maps = record {
      safe_step = safe_step_on;
      unseen = entry_unseen (pending_after s known' (guest_at s.header i j));
      shows = λ backing.
          let new : DriverState = record s { pending = pending_after s known' (guest_at s.header i j); known = known' } in
          let value : (disk known' backing).value ≡ (with_cluster (cluster_size s.header) (disk s.known backing) (guest_at s.header i j) (values backing)).value = fun_ext (λ o. value_now backing o) in
          λ k. record { size = size_stays s new sound inside safe_step_on.sound refl backing k; value = value k };
    }

  -- ---- as zeros, or as nothing
  pub entry_zeroed : s.header.incompatible ≡ 0 → (kept : Option (ℕ × Bool)) → cover s.header known' (guest_at s.header i j) ≡ Zero kept
      → Maps (guest_at s.header i j) s (record s { pending = pending_after s known' (guest_at s.header i j); known = known' }) (λ backing o. known_byte 0)
  entry_zeroed inside kept is = entry_maps inside (λ backing o. known_byte 0) (λ backing o here. ap (value_under s.header known' known' backing o) is)

  pub entry_uncovered : s.header.incompatible ≡ 0 → cover s.header known' (guest_at s.header i j) ≡ Uncovered
      → Maps (guest_at s.header i j) s (record s { pending = pending_after s known' (guest_at s.header i j); known = known' }) (λ backing o. known_byte (backing o))
  entry_uncovered inside is = entry_maps inside (λ backing o. known_byte (backing o)) (λ backing o here. ap (value_under s.header known' known' backing o) is)

  -- ---- as data of a host cluster that is held
  module _ (inside : s.header.incompatible ≡ 0) (host : ℕ) (is : cover s.header known' (guest_at s.header i j) ≡ Data host true) (some : 0 < s.pending.new_data (host / cluster_size s.header)) where
    aligned : host % cluster_size s.header ≡ 0
    aligned = subst (CoverIsAligned s.header) is changes.aligned

    -- nothing is overlaid on it, and the entry that changes is elsewhere
    host_bytes : (k : ℕ) → k < cluster_size s.header → known' (host + k) ≡ s.on_storage (host + k)
    host_bytes k lt =
        let here = in_one (cluster_size s.header) host k aligned lt in
        let new_data : 0 < s.pending.new_data ((host + k) / cluster_size s.header) = subst (λ n. 0 < s.pending.new_data n) (sym here) some in
        (entry_unseen s.pending).bytes (host + k) (omega arith) ∙ sym (sound.not_overlaid (host + k) (omega arith))

    pub private_committed : Maps (guest_at s.header i j) s (record s { pending = pending_after s known' (guest_at s.header i j); known = known' })
        (λ backing o. known_byte (s.on_storage (host + o % cluster_size s.header)))
    private_committed = entry_maps inside (λ backing o. known_byte (s.on_storage (host + o % cluster_size s.header))) (λ backing o here.
        ap (value_under s.header known' known' backing o) is ∙ ap known_byte (host_bytes (o % cluster_size s.header) (mod_below o (cluster_size s.header) (pow_pos s.header.cluster_bits))))

    -- what the guest cluster named before isn't the new host cluster
    either : (c : ℕ) → (in_cluster s.header c host ≡ 0) ⊎ ((in_cluster s.header c host ≡ 1) × (names s.header s.known c (guest_at s.header i j) ≡ 0) × (0 < s.pending.new_data c))
    either c = elim (cases_lt 0 (in_cluster s.header c host)) [
      | inr none ↦ inl (omega arith)
      | inl here ↦
          let most = in_most s.header c host in
          let new_data : 0 < s.pending.new_data c = subst (λ n. 0 < s.pending.new_data n) (in_cluster-is s.header c host here) some in
          let unnamed = new_data_is_unnamed s.header s.direction s.pending s.on_storage s.known sound c new_data in
          let t = (tied s.header s.pending s.on_storage s.known c).known in
          let old : names s.header s.known c (guest_at s.header i j) ≡ 0 = elim (cases_lt 0 (names s.header s.known c (guest_at s.header i j))) [
            | inl named ↦ absurd (let sum = named_some s s sound c (guest_at s.header i j) named in omega (arith, unnamed.no_entry))
            | inr none ↦ omega arith
          ] in
          inr (omega arith, old, new_data)
    ]

    names_new : (c : ℕ) → names s.header known' c (guest_at s.header i j) ≡ in_cluster s.header c host
    names_new c = ap (named_by_guest s.header c) is ∙ own_names s.header c (Data host true) (own_data_of s.header inside)

    -- what of it is pending then
    pub committed_new_data : (c : ℕ) → (pending_after s known' (guest_at s.header i j)).new_data c ≡ s.pending.new_data c - in_cluster s.header c host
    committed_new_data c = let now = names_new c in elim (either c) [ inl none ↦ omega arith | inr one ↦ omega (arith, one.0, one.1) ]

    pub committed_old_data : (c : ℕ) → (pending_after s known' (guest_at s.header i j)).old_data c ≡ s.pending.old_data c + names s.header s.known c (guest_at s.header i j)
    committed_old_data c = let now = names_new c in elim (either c) [ inl none ↦ omega arith | inr one ↦ omega (arith, one.0, one.1) ]
