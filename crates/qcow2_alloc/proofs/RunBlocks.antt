-- Refblocks whose refcounts are those of a run.
use Rattle.std.proofs.Common.{◌≡◌, ◌+◌, ◌-◌, ◌^◌, ◌<◌, ◌≤◌, inl, inr, ℕ, zero, suc, Bool, true, false, IsTrue, IsFalse, refl, sym, ap, ◌∙◌, subst, arith}
use Rattle.qcow2_alloc.proofs.Common.{cases_eq, pow_pos, RefBlockView, IsRefBlock, ChangesCount, count_at, count_limit, run_at}
use Rattle.qcow2_alloc.proofs.Runs.{run_in, run_after, run_last, none_there}

-- the greatest count is above 0
pub limit_above : (n : ℕ) → 0 < n → 2 ≤ 2 ^ n
limit_above zero some = absurd (omega arith)
limit_above (suc n) some = let p = pow_pos n in omega arith

-- a count that rises, or doesn't, leaves the refblock what it is
pub raised_kept : (old new : RefBlockView) (done : Bool) (at count : ℕ) → (IsFalse done → new ≡ old) → (IsTrue done → new ≡ record old { bytes = new.bytes; is_modified = true }) → (IsTrue done → ChangesCount old.refcount_order old.bytes new.bytes at count)
    → (new.cluster ≡ old.cluster) × (new.cluster_bits ≡ old.cluster_bits) × (new.refcount_order ≡ old.refcount_order) × (IsRefBlock old → IsRefBlock new)
raised_kept old new false at count unchanged same counted =
    let e = unchanged refl in (ap (λ (b : RefBlockView). b.cluster) e, ap (λ (b : RefBlockView). b.cluster_bits) e, ap (λ (b : RefBlockView). b.refcount_order) e, λ whole. subst IsRefBlock (sym e) whole)
raised_kept old new true at count unchanged same counted =
    let e = same refl in (
      ap (λ (b : RefBlockView). b.cluster) e,
      ap (λ (b : RefBlockView). b.cluster_bits) e,
      ap (λ (b : RefBlockView). b.refcount_order) e,
      λ whole. subst IsRefBlock (sym e) (record { whole = (counted refl).as_long ∙ whole.whole; bits = whole.bits; order = whole.order; placed = whole.placed }),
    )

pub raised_modified : (old new : RefBlockView) (done : Bool) → (IsFalse done → new ≡ old) → (IsTrue done → new ≡ record old { bytes = new.bytes; is_modified = true }) → old.is_modified ≡ true → new.is_modified ≡ true
raised_modified old new false unchanged same modified = ap (λ (b : RefBlockView). b.is_modified) (unchanged refl) ∙ modified
raised_modified old new true unchanged same modified = ap (λ (b : RefBlockView). b.is_modified) (same refl)

-- the count of the next cluster rises
pub counts_next : (old new : RefBlockView) (done : Bool) (low begin at : ℕ) → low ≤ at → begin ≤ at → ((i : ℕ) → count_at old i ≡ run_at low (at - low) (begin + i)) → (IsFalse done → count_at old (at - begin) + 1 ≡ count_limit old)
    → (IsTrue done → ChangesCount old.refcount_order old.bytes new.bytes (at - begin) (count_at old (at - begin) + 1)) → (IsTrue done → new.refcount_order ≡ old.refcount_order)
    → (i : ℕ) → count_at new i ≡ run_at low (at + 1 - low) (begin + i)
counts_next old new false low begin at low_le begin_le before full counted same i = absurd (
    let two = limit_above (2 ^ old.refcount_order) (pow_pos old.refcount_order) in
    let is = full refl in
    let none = before (at - begin) ∙ run_after low (at - low) (begin + (at - begin)) (omega arith) in
    omega arith)
counts_next old new true low begin at low_le begin_le before full counted same i =
    let changed = counted refl in
    let order = ap (λ (o : ℕ). count_at (record new { refcount_order = o }) i) (same refl) in
    elim (cases_eq i (at - begin)) [
      | inl e ↦
          let none = before (at - begin) ∙ run_after low (at - low) (begin + (at - begin)) (omega arith) in
          let one = run_in low (at + 1 - low) (begin + i) (omega arith) (omega arith) in
          order ∙ ap (λ k. count_at (record new { refcount_order = old.refcount_order }) k) e ∙ changed.count_is ∙ ap (λ n. n + 1) none ∙ sym one
      | inr other ↦
          let last = run_last low (at - low) (begin + i) in
          let more : at - low + 1 ≡ at + 1 - low = omega arith in
          let apart = none_there (low + (at - low)) (begin + i) (λ e. other (omega arith)) in
          order ∙ changed.others i other ∙ before i ∙ (let same_run = ap (λ n. run_at low n (begin + i)) more in omega (arith, last, apart, same_run))
    ]
