-- The refblock of a new image counts the image's clusters, one after another.
use Rattle.std.proofs.Common.{◌≡◌, ◌≢◌, ◌+◌, ◌-◌, ◌^◌, ◌≤◌, if◌then◌else◌, inl, inr, ℕ, Bool, true, false, IsTrue, IsFalse, refl, sym, ap, ◌∙◌, subst, arith, nat_lt, length}
use Rattle.qcow2_image.proofs.Common.{cases_eq, cases_lt, cond-true, cond-false, lt-ltb, le-ltb, pow_pos, pow_mono, RefBlockView, IsRefBlock, ChangesCount, count_at, count_limit, counts_of}
use Rattle.qcow2_metadata.proofs.Sizes.{counts_in_block}
use Rattle.qcow2_alloc.proofs.RunBlocks.{limit_above}

-- a refblock counts more than three clusters
pub many_counts : (b : RefBlockView) → IsRefBlock b → 64 ≤ counts_of b
many_counts b whole =
    let bits = whole.bits.0 in
    let order = whole.order in
    let wide : 6 ≤ b.cluster_bits + 3 - b.refcount_order = omega (arith, bits, order) in
    let more : 2 ^ 6 ≤ 2 ^ (b.cluster_bits + 3 - b.refcount_order) = pow_mono wide in
    subst (λ n. 64 ≤ n) (sym (counts_in_block b.cluster_bits b.refcount_order (omega (arith, bits, order)))) more

-- the clusters below one are counted
abbrev pub CountsBelow : ℕ → RefBlockView → Type 0
CountsBelow n b = (i : ℕ) → count_at b i ≡ (if nat_lt i n then 1 else 0)

below_itself : (n : ℕ) → nat_lt n n ≡ false
below_itself n = le-ltb n n (omega arith)

-- one that is as long, and counts them
pub record Counts (n : ℕ) (old b : RefBlockView) : Type 0 where
  pub bits : b.cluster_bits ≡ old.cluster_bits
  pub order : b.refcount_order ≡ old.refcount_order
  pub counts : CountsBelow n b
  pub as_long : length b.bytes ≡ length old.bytes

counted_next : (n : ℕ) (old new : RefBlockView) → CountsBelow n old → ChangesCount old.refcount_order old.bytes new.bytes n (count_at old n + 1) → new.refcount_order ≡ old.refcount_order → CountsBelow (n + 1) new
counted_next n old new below changed same i =
    let order = ap (λ (o : ℕ). count_at (record new { refcount_order = o }) i) same in
    let none : count_at old n ≡ 0 = below n ∙ cond-false {A = ℕ} (nat_lt n n) 1 0 (below_itself n) in
    elim (cases_eq i n) [
      | inl e ↦
          order ∙ ap (λ k. count_at (record new { refcount_order = old.refcount_order }) k) e ∙ changed.count_is ∙ ap (λ m. m + 1) none
          ∙ sym (cond-true {A = ℕ} (nat_lt i (n + 1)) 1 0 (lt-ltb i (n + 1) (omega (arith, e))))
      | inr other ↦ order ∙ changed.others i other ∙ below i ∙ still i other
    ]
  where
    still : (i : ℕ) → i ≢ n → ◌≡◌ {A = ℕ} (if nat_lt i n then 1 else 0) (if nat_lt i (n + 1) then 1 else 0)
    still i other = elim (cases_lt i n) [
      | inl lt ↦ cond-true {A = ℕ} (nat_lt i n) 1 0 (lt-ltb i n lt) ∙ sym (cond-true {A = ℕ} (nat_lt i (n + 1)) 1 0 (lt-ltb i (n + 1) (omega (arith, lt))))
      | inr le ↦ cond-false {A = ℕ} (nat_lt i n) 1 0 (le-ltb i n le) ∙ sym (cond-false {A = ℕ} (nat_lt i (n + 1)) 1 0 (le-ltb i (n + 1) (omega (arith, le, other))))
    ]

pub counts_next : (n : ℕ) (first old new : RefBlockView) (done : Bool) → Counts n first old → (IsFalse done → count_at old n + 1 ≡ count_limit old) → (IsTrue done → ChangesCount old.refcount_order old.bytes new.bytes n (count_at old n + 1))
    → (IsTrue done → new ≡ record old { bytes = new.bytes; is_modified = true }) → Counts (n + 1) first new
counts_next n first old new false below full counted same = absurd (nothing below.counts full)
  where
    nothing : CountsBelow n old → (IsFalse false → count_at old n + 1 ≡ count_limit old) → ⊥
    nothing below full =
        let two = limit_above (2 ^ old.refcount_order) (pow_pos old.refcount_order) in
        let is = full refl in
        let none : count_at old n ≡ 0 = below n ∙ cond-false {A = ℕ} (nat_lt n n) 1 0 (below_itself n) in
        absurd (omega (arith, two, is, none))
counts_next n first old new true below full counted same = record {
  bits = ap (λ (b : RefBlockView). b.cluster_bits) (same refl) ∙ below.bits;
  order = ap (λ (b : RefBlockView). b.refcount_order) (same refl) ∙ below.order;
  counts = counted_next n old new below.counts (counted refl) (ap (λ (b : RefBlockView). b.refcount_order) (same refl));
  as_long = (counted refl).as_long ∙ below.as_long;
}
