-- A cluster that a zero entry keeps: bytes are written into it, and it becomes data.
use Rattle.std.proofs.Common.{◌≡◌, ◌+◌, ◌-◌, ◌*◌, ◌/◌, ◌%◌, ◌<◌, ◌≤◌, ◌⊎◌, ◌∷◌, ℕ, true, List, [], length, sym, ap, ◌∙◌, arith, inl, inr, subst, Some}
use Rattle.qcow2_laws.proofs.Common.{div-mul-add, mod-mul-add, mod_below, pow_pos, Bytes, byte_at, cluster_size, cover, Value, known_byte, value_under, in_cluster, named_by_guest, CoverIsAligned, Data, Zero, disk, IsGiven, given_of, names, named_in_either, Pending, WritesAt, DriverState, StateInvariant, SafeStep, guest_at, EntryChanges, used_by_guests, Kept, IsHostedAt, WritesRun, KeptClusterIsWritten, KeptClusterIsCommitted}
use Rattle.qcow2_laws.proofs.Lemmas.{own_names, own_data_of, in_one, tied, in_own, safe_step_less, named_some}
use Rattle.qcow2_laws.proofs.Shown.{shown_zero}
use Rattle.qcow2_laws.proofs.PutRuns.{run_written, given_has}
use Rattle.qcow2_laws.proofs.MappedAnew.{Maps, pending_after, entry_unseen, entry_maps}

module _ (s : DriverState) (sound : StateInvariant s) (inside : s.header.incompatible ≡ 0) (g host : ℕ) (is : cover s.header s.known g ≡ Zero (Some (host, true))) where
  pub kept_aligned : host % cluster_size s.header ≡ 0
  kept_aligned = subst (CoverIsAligned s.header) is (sound.known_aligned g)

  kept_names : (c : ℕ) → names s.header s.known c g ≡ in_cluster s.header c host
  kept_names c = ap (named_by_guest s.header c) is ∙ own_names s.header c (Zero (Some (host, true))) (own_data_of s.header inside)

  -- its bytes are used, and no table is overlaid on them
  pub kept_unlaid : (k : ℕ) → k < cluster_size s.header → s.on_storage (host + k) ≡ s.known (host + k)
  kept_unlaid k lt =
      sound.not_overlaid (host + k) (
      let here = in_one (cluster_size s.header) host k kept_aligned lt in
      let named = kept_names (host / cluster_size s.header) in
      let own = in_own s.header host in
      let some = named_some s s sound (host / cluster_size s.header) g (omega arith) in
      let t = (tied s.header s.pending s.on_storage s.known (host / cluster_size s.header)).known in
      subst (λ n. 0 < named_in_either s.header s.on_storage s.known n + s.pending.new_data n) (sym here) (omega arith))

-- ---- bytes are written into it
module _ (s : DriverState) (on_storage' known' : Bytes) (sound : StateInvariant s) (inside : s.header.incompatible ≡ 0) (g host at : ℕ) (bytes : List ℕ) (is : cover s.header s.known g ≡ Zero (Some (host, true))) (fits : at + length bytes ≤ cluster_size s.header)
    (writes : WritesAt (host + at) (length bytes) s.on_storage s.known on_storage' known') (there : (i : ℕ) → i < length bytes → on_storage' (host + at + i) ≡ byte_at bytes i) where
  kept_there : (i : ℕ) → i < length bytes → IsHostedAt s Kept (g * cluster_size s.header + at + i) (host + at + i)
  kept_there i lt =
      let e : g * cluster_size s.header + at + i ≡ g * cluster_size s.header + (at + i) = omega arith in
      let here : (g * cluster_size s.header + at + i) / cluster_size s.header ≡ g = ap (λ n. n / cluster_size s.header) e ∙ div-mul-add g (cluster_size s.header) (at + i) (omega arith) in
      let rest : (g * cluster_size s.header + at + i) % cluster_size s.header ≡ at + i = ap (λ n. n % cluster_size s.header) e ∙ mod-mul-add g (cluster_size s.header) (at + i) (omega arith) in
      (host, ap (cover s.header s.known) here ∙ is, omega arith)

  pub kept_written : WritesRun (λ _. Kept) (g * cluster_size s.header + at) (host + at) bytes (given_of (g * cluster_size s.header + at) bytes ∷ []) s (record s { on_storage = on_storage'; known = known' })
  kept_written =
      run_written s on_storage' known' (λ _. Kept) (g * cluster_size s.header + at) (host + at) bytes (given_of (g * cluster_size s.header + at) bytes ∷ []) sound inside kept_there (given_has (g * cluster_size s.header + at) bytes) writes there

  -- zeros are what is shown there
  zeros_shown : ((i : ℕ) → i < length bytes → byte_at bytes i ≡ 0) → (backing : Bytes) (o : ℕ) (v : Value) → IsGiven (given_of (g * cluster_size s.header + at) bytes ∷ []) o v
      → (v ≡ (disk s.known backing).value o) ⊎ IsGiven [] o v
  zeros_shown zeros backing o v (inr none) = absurd none
  zeros_shown zeros backing o v (inl (above, below, v_is)) =
      let e : o ≡ g * cluster_size s.header + (o - g * cluster_size s.header) = omega arith in
      let here : o / cluster_size s.header ≡ g = ap (λ n. n / cluster_size s.header) e ∙ div-mul-add g (cluster_size s.header) (o - g * cluster_size s.header) (omega arith) in
      inl (v_is ∙ ap known_byte (zeros (o - (g * cluster_size s.header + at)) (omega arith)) ∙ sym (shown_zero s sound backing o (Some (host, true)) (ap (cover s.header s.known) here ∙ is)))

  pub kept_zeroed : ((i : ℕ) → i < length bytes → byte_at bytes i ≡ 0) → SafeStep s (record s { on_storage = on_storage'; known = known' }) (λ _. []) []
  kept_zeroed zeros = safe_step_less s (record s { on_storage = on_storage'; known = known' }) _ (λ _. []) [] (λ backing o v given. zeros_shown zeros backing o v given) kept_written.safe_step

pub kept_cluster_is_written : KeptClusterIsWritten
kept_cluster_is_written = record {
  bytes = λ s on_storage' known' g host at bytes sound inside is fits writes there.
      let w = kept_written s on_storage' known' sound inside g host at bytes is fits writes there in (w.safe_step, w.shows);
  zeros = λ s on_storage' known' g host at bytes sound inside is fits writes there zeros. kept_zeroed s on_storage' known' sound inside g host at bytes is fits writes there zeros;
}

-- ---- it becomes data
module _ (s : DriverState) (known' : Bytes) (i j host : ℕ) (sound : StateInvariant s) (inside : s.header.incompatible ≡ 0) (changes : EntryChanges s known' i j)
    (was : cover s.header s.known (guest_at s.header i j) ≡ Zero (Some (host, true))) (is : cover s.header known' (guest_at s.header i j) ≡ Data host true) where
  pub kept_pending : pending_after s known' (guest_at s.header i j) ≡ s.pending
  kept_pending = grind arith

  host_bytes : (k : ℕ) → k < cluster_size s.header → known' (host + k) ≡ s.on_storage (host + k)
  host_bytes k lt =
      let here = in_one (cluster_size s.header) host k (kept_aligned s sound inside (guest_at s.header i j) host was) lt in
      let named = kept_names s sound inside (guest_at s.header i j) host was (host / cluster_size s.header) in
      let own = in_own s.header host in
      let some = named_some s s sound (host / cluster_size s.header) (guest_at s.header i j) (omega arith) in
      let used : 0 < used_by_guests s ((host + k) / cluster_size s.header) = subst (λ n. 0 < used_by_guests s n) (sym here) (omega arith) in
      (entry_unseen s known' i j sound changes s.pending).bytes (host + k) used ∙ sym (kept_unlaid s sound inside (guest_at s.header i j) host was k lt)

  pub kept_committed : Maps (guest_at s.header i j) s (record s { known = known' }) (λ backing o. known_byte (s.on_storage (host + o % cluster_size s.header)))
  kept_committed =
      subst (λ (p : Pending). Maps (guest_at s.header i j) s (record s { pending = p; known = known' }) (λ backing o. known_byte (s.on_storage (host + o % cluster_size s.header)))) kept_pending
      (entry_maps s known' i j sound changes inside (λ backing o. known_byte (s.on_storage (host + o % cluster_size s.header))) (λ backing o here.
      ap (value_under s.header known' known' backing o) is ∙ ap known_byte (host_bytes (o % cluster_size s.header) (mod_below o (cluster_size s.header) (pow_pos s.header.cluster_bits)))))

pub kept_cluster_is_committed : KeptClusterIsCommitted
kept_cluster_is_committed s known' i j host sound inside changes was is = let m = kept_committed s known' i j host sound inside changes was is in (m.safe_step, m.shows)
