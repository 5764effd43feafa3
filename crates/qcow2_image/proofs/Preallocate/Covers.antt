-- The mappings of guest clusters after parts of a range are filled.
use Rattle.std.proofs.Common.{◌≡◌, ◌⊎◌, ◌+◌, ◌-◌, ◌*◌, ◌/◌, ◌%◌, ◌<◌, ◌≤◌, inl, inr, ℕ, true, false, Option, Some, None, refl, sym, ap, ◌∙◌, arith}
use Rattle.std.proofs.Math.Nat.{mul-le-mul_right}
use Rattle.qcow2_image.proofs.Common.{and_from, and_left, and_right, cases_lt, cond-false, cond-true, le-leb, le-ltb, lt-leb, lt-ltb, div-add-mod', mod-mul-add, mod_below, pow_pos, Bytes, HeaderFields, L2Mapping, cover, cluster_size, copied_host, zero_cover, is_copied_data, ClearsImageCovers, cover_once_cleared, is_between, KeptZeros, CoversStay, FilledCovers}
use Rattle.qcow2_image.specs.Preallocation.{Touches}

-- ---- numbers
-- the end of a cluster comes before each later boundary, or is it
pub boundary : (cs from to : ℕ) → 0 < cs → to % cs ≡ 0 → from < to → from + (cs - from % cs) ≤ to
boundary cs from to some whole lt =
    let f : from / cs * cs + from % cs ≡ from = div-add-mod' from cs in
    let t : to / cs * cs + to % cs ≡ to = div-add-mod' to cs in
    let b = mod_below from cs some in
    elim (cases_lt (from / cs) (to / cs)) [
      | inl before ↦ let m : (from / cs + 1) * cs ≤ to / cs * cs = mul-le-mul_right cs (omega (arith, before)) in omega (arith, f, t, b, m, whole)
      | inr behind ↦ let m : to / cs * cs ≤ from / cs * cs = mul-le-mul_right cs behind in absurd (omega (arith, f, t, m, whole, lt))
    ]

module _ (cs : ℕ) (some : 0 < cs) where
  -- a boundary that begins before a cluster's end begins before it, or with it
  reach : (from g : ℕ) → from % cs ≡ 0 → from < g * cs + cs → from ≤ g * cs
  reach from g whole low = elim (cases_lt (g * cs) from) [
    | inr is ↦ is
    | inl past ↦
        let next = boundary cs (g * cs) from some whole past in
        let e : g * cs ≡ g * cs + 0 = omega arith in
        let none : g * cs % cs ≡ 0 = ap (λ x. x % cs) e ∙ mod-mul-add g cs 0 some in
        absurd (omega (arith, next, none, low))
  ]

  below_first : (from g : ℕ) → g * cs + cs ≤ from → g < from / cs
  below_first from g before = elim (cases_lt g (from / cs)) [
    | inl is ↦ is
    | inr past ↦
        let f : from / cs * cs + from % cs ≡ from = div-add-mod' from cs in
        let b = mod_below from cs some in
        let m : from / cs * cs ≤ g * cs = mul-le-mul_right cs past in
        absurd (omega (arith, f, b, m, before))
  ]

  pub touches_or : (from to g : ℕ) → Touches cs from to g ⊎ (Touches cs from to g → ⊥)
  touches_or from to g = elim (cases_lt from to) [
    | inr none ↦ inr (λ t. omega (arith, none, t.0))
    | inl range ↦ elim (cases_lt from (g * cs + cs)) [
      | inr before ↦ inr (λ t. omega (arith, before, t.1))
      | inl low ↦ elim (cases_lt (g * cs) to) [ inr past ↦ inr (λ t. omega (arith, past, t.2)) | inl high ↦ inl (range, low, high) ]
    ]
  ]

  -- a range in two parts
  module _ (from mid to : ℕ) (low : from ≤ mid) (high : mid ≤ to) where
    pub in_one : (g : ℕ) → Touches cs from to g → Touches cs from mid g ⊎ Touches cs mid to g
    in_one g t = let a = t.0 in let b = t.1 in let c = t.2 in elim (cases_lt mid (g * cs + cs)) [
      | inr before ↦ inl (omega (arith, before, b), b, omega (arith, before, some))
      | inl after ↦ elim (cases_lt mid to) [ inl range ↦ inr (range, after, c) | inr end ↦ inl (omega (arith, end, a), b, omega (arith, end, c)) ]
    ]

    first_in : (g : ℕ) → Touches cs from mid g → Touches cs from to g
    first_in g t = let a = t.0 in let c = t.2 in (omega (arith, a, high), t.1, omega (arith, c, high))

    second_in : (g : ℕ) → Touches cs mid to g → Touches cs from to g
    second_in g t = let a = t.0 in let b = t.1 in (omega (arith, a, low), omega (arith, b, low), t.2)

  cleared_twice : (v : L2Mapping) → cover_once_cleared KeptZeros (cover_once_cleared KeptZeros v) ≡ cover_once_cleared KeptZeros v
  cleared_twice v = by_host (copied_host v) where
    by_host : (x : Option ℕ) → zero_cover (copied_host (zero_cover x)) ≡ zero_cover x
    by_host None = refl
    by_host (Some host) = refl

  -- nothing is filled
  pub covers_none : (first from : ℕ) (h : HeaderFields) (known : Bytes) → FilledCovers cs first from from h known h known
  covers_none first from h known = record { beside = λ g outside. refl; zeros = λ g t le. absurd (omega (arith, t.0)); copied = λ g t lt. absurd (omega (arith, t.0)) }

  module _ (first : ℕ) (a : HeaderFields) (ka : Bytes) (b : HeaderFields) (kb : Bytes) (c : HeaderFields) (kc : Bytes) where
    both : (x y x' y' from to : ℕ) → ((g : ℕ) → Touches cs from to g → Touches cs x y g ⊎ Touches cs x' y' g) → ((g : ℕ) → Touches cs x y g → Touches cs from to g) → ((g : ℕ) → Touches cs x' y' g → Touches cs from to g)
        → FilledCovers cs first x y a ka b kb → FilledCovers cs first x' y' b kb c kc → FilledCovers cs first from to a ka c kc
    both x y x' y' from to split one other before then = record {
      beside = λ g outside. before.beside g (λ t. outside (one g t)) ∙ then.beside g (λ t. outside (other g t));
      zeros = λ g t le. elim (touches_or x' y' g) [
        | inl second ↦ then.zeros g second le ∙ elim (touches_or x y g) [
          | inl earlier ↦ ap (λ v. cover_once_cleared KeptZeros v) (before.zeros g earlier le) ∙ cleared_twice (cover a ka g)
          | inr none ↦ ap (λ v. cover_once_cleared KeptZeros v) (sym (before.beside g none))
        ]
        | inr none ↦ sym (then.beside g none) ∙ elim (split g t) [ inl earlier ↦ before.zeros g earlier le | inr second ↦ absurd (none second) ]
      ];
      copied = λ g t lt. elim (touches_or x' y' g) [
        | inl second ↦ then.copied g second lt
        | inr none ↦ ap is_copied_data (sym (then.beside g none)) ∙ elim (split g t) [ inl earlier ↦ before.copied g earlier lt | inr second ↦ absurd (none second) ]
      ];
    }

    -- one part after another
    pub covers_then : (from mid to : ℕ) → from ≤ mid → mid ≤ to → FilledCovers cs first from mid a ka b kb → FilledCovers cs first mid to b kb c kc → FilledCovers cs first from to a ka c kc
    covers_then from mid to low high before then = both from mid mid to from to (in_one from mid to low high) (first_in from mid to low high) (second_in from mid to low high) before then

    -- the later one first
    pub covers_before : (from mid to : ℕ) → from ≤ mid → mid ≤ to → FilledCovers cs first mid to a ka b kb → FilledCovers cs first from mid b kb c kc → FilledCovers cs first from to a ka c kc
    covers_before from mid to low high before then =
        both mid to from mid from to (λ g t. elim (in_one from mid to low high g t) [ inl second ↦ inr second | inr earlier ↦ inl earlier ]) (second_in from mid to low high) (first_in from mid to low high) before then

    -- a step that keeps all mappings, and then such a part
    pub stay_covers : (from to : ℕ) → CoversStay a ka b kb → FilledCovers cs first from to b kb c kc → FilledCovers cs first from to a ka c kc
    stay_covers from to same then = record {
      beside = λ g outside. same g ∙ then.beside g outside;
      zeros = λ g t le. then.zeros g t le ∙ ap (λ v. cover_once_cleared KeptZeros v) (sym (same g));
      copied = then.copied;
    }

    -- and then a step that keeps all mappings
    pub covers_stay : (from to : ℕ) → FilledCovers cs first from to a ka b kb → CoversStay b kb c kc → FilledCovers cs first from to a ka c kc
    covers_stay from to before same = record {
      beside = λ g outside. before.beside g outside ∙ same g;
      zeros = λ g t le. sym (same g) ∙ before.zeros g t le;
      copied = λ g t lt. ap is_copied_data (sym (same g)) ∙ before.copied g t lt;
    }

  module _ (from to : ℕ) (a : HeaderFields) (ka : Bytes) (b : HeaderFields) (kb : Bytes) where
    -- where all are zeros, those from the start on are
    pub covers_from : from % cs ≡ 0 → FilledCovers cs 0 from to a ka b kb → FilledCovers cs from from to a ka b kb
    covers_from whole is = record {
      beside = is.beside;
      zeros = λ g t le. is.zeros g t (omega arith);
      copied = λ g t lt. let near = reach from g whole t.1 in absurd (omega (arith, near, lt));
    }

    -- clusters of their own, and nothing beside them
    pub covers_own : from < to → ((g : ℕ) → (g < from / cs) ⊎ (to ≤ g * cs) → cover a ka g ≡ cover b kb g) → ((g : ℕ) → from < g * cs + cs → g * cs < to → is_copied_data (cover b kb g) ≡ true) → (first : ℕ) → to ≤ first → FilledCovers cs first from to a ka b kb
    covers_own range beside copied first high = record {
      beside = λ g outside. elim (cases_lt from (g * cs + cs)) [
        | inr before ↦ beside g (inl (below_first from g before))
        | inl low ↦ elim (cases_lt (g * cs) to) [ inr past ↦ beside g (inr past) | inl lt ↦ absurd (outside (range, low, lt)) ]
      ];
      zeros = λ g t le. let c = t.2 in absurd (omega (arith, c, le, high));
      copied = λ g t lt. copied g t.1 t.2;
    }

-- whole clusters are cleared
pub covers_cleared : (h h' : HeaderFields) (known known' : Bytes) (from to : ℕ) → from % cluster_size h ≡ 0 → ClearsImageCovers KeptZeros from to h known h' known' → FilledCovers (cluster_size h) 0 from to h known h' known'
covers_cleared h h' known known' from to whole clears =
    let cs = cluster_size h in
    record {
      beside = λ g outside. sym (clears g ∙ cond-false (is_between h from to g) (cover_once_cleared KeptZeros (cover h known g)) (cover h known g) (not_between g outside));
      zeros = λ g t le. clears g ∙ cond-true (is_between h from to g) (cover_once_cleared KeptZeros (cover h known g)) (cover h known g)
          (and_from _ _ (le-leb from (g * cluster_size h) (reach (cluster_size h) (pow_pos h.cluster_bits) from g whole t.1)) (lt-ltb (g * cluster_size h) to t.2));
      copied = λ g t lt. absurd (omega (arith, lt));
    }
  where
    not_between : (g : ℕ) → (Touches (cluster_size h) from to g → ⊥) → is_between h from to g ≡ false
    not_between g outside = elim (cases_lt (g * cluster_size h) from) [
      | inl before ↦ and_left _ _ (lt-leb from (g * cluster_size h) before)
      | inr above ↦ elim (cases_lt (g * cluster_size h) to) [
        | inr past ↦ and_right _ _ (le-ltb (g * cluster_size h) to past)
        | inl lt ↦ absurd (outside (omega (arith, above, lt), (let some : 0 < cluster_size h = pow_pos h.cluster_bits in omega (arith, above, some)), lt))
      ]
    ]
