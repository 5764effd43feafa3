-- What guests read in contiguous data and in clusters that are mapped alike, and how long such a run is.
use Rattle.std.proofs.Common.{◌≡◌, ◌+◌, ◌-◌, ◌*◌, ◌/◌, ◌%◌, ◌<◌, ◌≤◌, ℕ, Bool, refl, sym, ap, ◌∙◌, arith, inl, inr, subst, min}
use Rattle.qcow2_laws.proofs.Common.{Option, cases_lt, div-add-mod', div-mul-add, mod-mul-add, pow_pos, Bytes, HeaderFields, cluster_size, cover, known_byte, L2Mapping, Data, Zero, Uncovered, disk, DriverState, StateInvariant, IsDataAt, AreDataAt, IsAlike, IsAlikeAt, IsAlikeRun, IsLongestRun}
use Rattle.qcow2_laws.proofs.Places.{in_one, div_mono}
use Rattle.qcow2_laws.proofs.Shown.{shown_data, shown_zero, shown_uncovered}

-- ---- a guest byte that lies at a place
module _ (s : DriverState) (sound : StateInvariant s) (inside : s.header.incompatible ≡ 0) (copied : Bool) (o place : ℕ) (at : IsDataAt s.header s.known copied o place) where
  pub at_shown : (backing : Bytes) → (disk s.known backing).value o ≡ known_byte (s.on_storage place)
  at_shown backing = shown_data s sound inside backing o at.0 copied at.1 ∙ ap (λ n. known_byte (s.on_storage n)) at.2

-- ---- bytes that are contiguous

-- ---- what is mapped alike
pub alike_self : (v : L2Mapping) → IsAlike 0 v v
alike_self (Data host copied) = (omega arith, refl)
alike_self _ = tt

alike_data : (distance host : ℕ) (copied : Bool) (v : L2Mapping) → IsAlike distance (Data host copied) v → v ≡ Data (host + distance) copied
alike_data distance host copied (Data next marked) alike = λ j. Data (alike.0 j) (alike.1 j)
alike_data distance host copied _ alike = absurd alike

alike_zero : (distance : ℕ) (kept : Option (ℕ × Bool)) (v : L2Mapping) → IsAlike distance (Zero kept) v → (k : Option (ℕ × Bool)) × (v ≡ Zero k)
alike_zero distance kept (Zero k) alike = (k, refl)
alike_zero distance kept _ alike = absurd alike

alike_uncovered : (distance : ℕ) (v : L2Mapping) → IsAlike distance Uncovered v → v ≡ Uncovered
alike_uncovered distance Uncovered alike = refl
alike_uncovered distance _ alike = absurd alike

-- a row of bytes goes on by as much as their clusters lie apart
along : (size offset i : ℕ) → 0 < size → ((offset + i) / size - offset / size) * size + (offset + i) % size ≡ offset % size + i
along size offset i some =
    let from : offset / size * size + offset % size ≡ offset = div-add-mod' offset size in
    let to : (offset + i) / size * size + (offset + i) % size ≡ offset + i = div-add-mod' (offset + i) size in
    let le = div_mono offset (offset + i) size some (omega arith) in
    let apart : (offset + i) / size ≡ offset / size + ((offset + i) / size - offset / size) = omega arith in
    let rows : (offset + i) / size * size ≡ (offset / size + ((offset + i) / size - offset / size)) * size = ap (λ n. n * size) apart in
    omega arith

-- data that are contiguous are mapped alike
pub are_alike : (h : HeaderFields) (b : Bytes) (copied : Bool) (offset place n : ℕ) → AreDataAt h b copied offset place n → IsAlikeRun h b offset n
are_alike h b copied offset place n are i lt =
    let distance = ((offset + i) / cluster_size h - offset / cluster_size h) * cluster_size h in
    let on = along (cluster_size h) offset i (pow_pos h.cluster_bits) in
    let first = are 0 (omega arith) in
    let here = are i lt in
    let none : offset + 0 ≡ offset = omega arith in
    let starts : first.0 + offset % cluster_size h ≡ place = let e : (offset + 0) % cluster_size h ≡ offset % cluster_size h = ap (λ o. o % cluster_size h) none in let f = first.2 in omega arith in
    let ends : here.0 + (offset + i) % cluster_size h ≡ place + i = here.2 in
    let far : here.0 ≡ first.0 + distance = omega arith in
    let begins : cover h b (offset / cluster_size h) ≡ Data first.0 copied = ap (λ o. cover h b (o / cluster_size h)) (sym none) ∙ first.1 in
    subst (λ v. IsAlike distance v (cover h b ((offset + i) / cluster_size h))) (sym begins) (subst (IsAlike distance (Data first.0 copied)) (sym here.1) (far, refl))

module _ (h : HeaderFields) (b : Bytes) (offset n : ℕ) (run : IsAlikeRun h b offset n) where
  pub run_data : (host : ℕ) (copied : Bool) → cover h b (offset / cluster_size h) ≡ Data host copied → AreDataAt h b copied offset (host + offset % cluster_size h) n
  run_data host copied is i lt =
      let distance = ((offset + i) / cluster_size h - offset / cluster_size h) * cluster_size h in
      let on = along (cluster_size h) offset i (pow_pos h.cluster_bits) in (
        host + distance,
        alike_data distance host copied (cover h b ((offset + i) / cluster_size h)) (subst (λ v. IsAlike distance v (cover h b ((offset + i) / cluster_size h))) is (run i lt)),
        omega arith,
      )

  pub run_zero : (kept : Option (ℕ × Bool)) → cover h b (offset / cluster_size h) ≡ Zero kept → (i : ℕ) → i < n → (k : Option (ℕ × Bool)) × (cover h b ((offset + i) / cluster_size h) ≡ Zero k)
  run_zero kept is i lt =
      let distance = ((offset + i) / cluster_size h - offset / cluster_size h) * cluster_size h in
      alike_zero distance kept (cover h b ((offset + i) / cluster_size h)) (subst (λ v. IsAlike distance v (cover h b ((offset + i) / cluster_size h))) is (run i lt))

  pub run_uncovered : cover h b (offset / cluster_size h) ≡ Uncovered → (i : ℕ) → i < n → cover h b ((offset + i) / cluster_size h) ≡ Uncovered
  run_uncovered is i lt =
      let distance = ((offset + i) / cluster_size h - offset / cluster_size h) * cluster_size h in
      alike_uncovered distance (cover h b ((offset + i) / cluster_size h)) (subst (λ v. IsAlike distance v (cover h b ((offset + i) / cluster_size h))) is (run i lt))

-- ---- what guests read of a run
module _ (s : DriverState) (sound : StateInvariant s) (offset n : ℕ) (run : IsAlikeRun s.header s.known offset n) (backing : Bytes) where
  pub run_shows_data : s.header.incompatible ≡ 0 → (host : ℕ) (copied : Bool) → cover s.header s.known (offset / cluster_size s.header) ≡ Data host copied
      → (i : ℕ) → i < n → (disk s.known backing).value (offset + i) ≡ known_byte (s.on_storage (host + offset % cluster_size s.header + i))
  run_shows_data inside host copied is i lt =
      at_shown s sound inside copied (offset + i) (host + offset % cluster_size s.header + i) (run_data s.header s.known offset n run host copied is i lt) backing

  pub run_shows_zero : (kept : Option (ℕ × Bool)) → cover s.header s.known (offset / cluster_size s.header) ≡ Zero kept → (i : ℕ) → i < n → (disk s.known backing).value (offset + i) ≡ known_byte 0
  run_shows_zero kept is i lt = let at = run_zero s.header s.known offset n run kept is i lt in shown_zero s sound backing (offset + i) at.0 at.1

  pub run_shows_uncovered : cover s.header s.known (offset / cluster_size s.header) ≡ Uncovered → (i : ℕ) → i < n → (disk s.known backing).value (offset + i) ≡ known_byte (backing (offset + i))
  run_shows_uncovered is i lt = shown_uncovered s sound backing (offset + i) (run_uncovered s.header s.known offset n run is i lt)

-- ---- how long a run is
module _ (h : HeaderFields) (b : Bytes) (offset : ℕ) where
  -- within one cluster all is alike
  pub alike_within : (i k : ℕ) → (offset + i) / cluster_size h ≡ (offset + k) / cluster_size h → IsAlikeAt h b offset i → IsAlikeAt h b offset k
  alike_within i k same = subst (λ c. IsAlike ((c - offset / cluster_size h) * cluster_size h) (cover h b (offset / cluster_size h)) (cover h b c)) same

  alike_here : (i : ℕ) → (offset + i) / cluster_size h ≡ offset / cluster_size h → IsAlikeAt h b offset i
  alike_here i here = grind arith

  -- the rest of the first cluster
  pub run_first : (n : ℕ) → n ≤ cluster_size h - offset % cluster_size h → IsAlikeRun h b offset n
  run_first n le i lt = alike_here i (
      let is : offset / cluster_size h * cluster_size h + offset % cluster_size h ≡ offset = div-add-mod' offset (cluster_size h) in
      let e : offset + i ≡ offset / cluster_size h * cluster_size h + (offset % cluster_size h + i) = omega arith in
      ap (λ k. k / cluster_size h) e ∙ div-mul-add (offset / cluster_size h) (cluster_size h) (offset % cluster_size h + i) (omega arith))

  pub run_less : (m n : ℕ) → m ≤ n → IsAlikeRun h b offset n → IsAlikeRun h b offset m
  run_less m n le run i lt = run i (omega arith)

  -- one cluster more
  pub run_more : (n : ℕ) → (offset + n) % cluster_size h ≡ 0 → IsAlikeAt h b offset n → IsAlikeRun h b offset n → IsAlikeRun h b offset (n + cluster_size h)
  run_more n boundary alike run i lt = elim (cases_lt i n) [
    | inl below ↦ run i below
    | inr above ↦ alike_within n i (
        let e : offset + i ≡ offset + n + (i - n) = omega arith in
        sym (ap (λ k. k / cluster_size h) e ∙ in_one (cluster_size h) (offset + n) (i - n) boundary (omega arith))) alike
  ]

  -- the guest cluster that begins after a run, and how far from the first it lies
  module _ (n next distance : ℕ) (begins : offset + n ≡ next * cluster_size h) (far : offset / cluster_size h * cluster_size h + distance ≡ next * cluster_size h) where
    next_is : (offset + n) / cluster_size h ≡ next
    next_is = let e : offset + n ≡ next * cluster_size h + 0 = omega arith in ap (λ k. k / cluster_size h) e ∙ div-mul-add next (cluster_size h) 0 (pow_pos h.cluster_bits)

    next_begins : (offset + n) % cluster_size h ≡ 0
    next_begins = let e : offset + n ≡ next * cluster_size h + 0 = omega arith in ap (λ k. k % cluster_size h) e ∙ mod-mul-add next (cluster_size h) 0 (pow_pos h.cluster_bits)

    next_far : ((offset + n) / cluster_size h - offset / cluster_size h) * cluster_size h ≡ distance
    next_far =
        let on = along (cluster_size h) offset n (pow_pos h.cluster_bits) in
        let boundary = next_begins in
        let is : offset / cluster_size h * cluster_size h + offset % cluster_size h ≡ offset = div-add-mod' offset (cluster_size h) in
        omega arith

    next_alike : IsAlikeAt h b offset n ≡ IsAlike distance (cover h b (offset / cluster_size h)) (cover h b next)
    next_alike =
        ap (λ d. IsAlike d (cover h b (offset / cluster_size h)) (cover h b ((offset + n) / cluster_size h))) next_far
        ∙ ap (λ c. IsAlike distance (cover h b (offset / cluster_size h)) (cover h b c)) next_is

    -- where it is alike the run goes on
    pub run_on : IsAlike distance (cover h b (offset / cluster_size h)) (cover h b next) → IsAlikeRun h b offset n → IsAlikeRun h b offset (n + cluster_size h)
    run_on alike run = run_more n next_begins (subst (λ X. X) (sym next_alike) alike) run

    -- where it isn't the run ends
    pub run_ends : (IsAlike distance (cover h b (offset / cluster_size h)) (cover h b next) → ⊥) → IsAlikeAt h b offset n → ⊥
    run_ends other alike = other (subst (λ X. X) next_alike alike)

  -- after the rest of the first cluster and k clusters more
  pub run_begins : (k : ℕ) → offset + (cluster_size h - offset % cluster_size h + k * cluster_size h) ≡ (offset / cluster_size h + k + 1) * cluster_size h
  run_begins k = grind (arith, pow_pos)

  pub run_far : (k : ℕ) → offset / cluster_size h * cluster_size h + (k * cluster_size h + cluster_size h) ≡ (offset / cluster_size h + k + 1) * cluster_size h
  run_far k = omega arith

  pub clusters_on : (k : ℕ) → IsAlike (k * cluster_size h + cluster_size h) (cover h b (offset / cluster_size h)) (cover h b (offset / cluster_size h + k + 1))
      → IsAlikeRun h b offset (cluster_size h - offset % cluster_size h + k * cluster_size h) → IsAlikeRun h b offset (cluster_size h - offset % cluster_size h + (k * cluster_size h + cluster_size h))
  clusters_on k alike run =
      let e : cluster_size h - offset % cluster_size h + k * cluster_size h + cluster_size h ≡ cluster_size h - offset % cluster_size h + (k * cluster_size h + cluster_size h) = omega arith in
      subst (IsAlikeRun h b offset) e (run_on _ (offset / cluster_size h + k + 1) (k * cluster_size h + cluster_size h) (run_begins k) (run_far k) alike run)

  pub clusters_end : (k : ℕ) → (IsAlike (k * cluster_size h + cluster_size h) (cover h b (offset / cluster_size h)) (cover h b (offset / cluster_size h + k + 1)) → ⊥)
      → IsAlikeAt h b offset (cluster_size h - offset % cluster_size h + k * cluster_size h) → ⊥
  clusters_end k other = run_ends _ (offset / cluster_size h + k + 1) (k * cluster_size h + cluster_size h) (run_begins k) (run_far k) other

  -- ---- the longest run
  pub run_longest : (limit n : ℕ) → IsAlikeRun h b offset n → (n < limit → IsAlikeAt h b offset n → ⊥) → IsLongestRun h b offset limit (min n limit)
  run_longest limit n run stop = grind arith

  module _ (limit n : ℕ) (longest : IsLongestRun h b offset limit n) where
    -- no run is longer
    pub longest_is : (m : ℕ) → m ≤ limit → IsAlikeRun h b offset m → m ≤ n
    longest_is m fits run = elim (cases_lt n m) [ inr le ↦ le | inl more ↦ absurd (longest.longest (omega arith) (run n more)) ]
