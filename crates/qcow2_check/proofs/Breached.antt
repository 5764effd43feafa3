-- The clusters with a breach, which have references or copied marks.
use Rattle.std.proofs.Common.{arith, ◌≡◌, ◌&&◌, ℕ, Bool, true, false, cond, eqb, refl, sym, ap, ◌∙◌}
use Rattle.qcow2_check.proofs.Common.{cond-false, Counts, Tally, TallyMap, tally_in, no_tally, count_in, counted_in, with_count, lines, is_breached, numbered}
use Rattle.qcow2_check.proofs.Rising.{lines-same}

module _ (m : TallyMap) (c : Counts) where
  abbrev shows : ℕ → Tally
  shows q = with_count (count_in c q) (tally_in m q)

  -- neither named nor marked, or with its count
  blank_or_same : (q : ℕ) (b : Bool) → (eqb (tally_in m q).named 0 && eqb (tally_in m q).marked 0) ≡ b
      → cond b ((shows q ≡ no_tally) × (is_breached (counted_in m c q) ≡ false)) (shows q ≡ counted_in m c q)
  blank_or_same q true is = grind arith
  blank_or_same q false is = cond-false _ _ _ is

  tests_alike : (q : ℕ) (b : Bool) → cond b ((shows q ≡ no_tally) × (is_breached (counted_in m c q) ≡ false)) (shows q ≡ counted_in m c q)
      → is_breached (shows q) ≡ is_breached (counted_in m c q)
  tests_alike q true both = ap is_breached both.0 ∙ sym both.1
  tests_alike q false same = ap is_breached same

  same_line : (q : ℕ) (b : Bool) → cond b ((shows q ≡ no_tally) × (is_breached (counted_in m c q) ≡ false)) (shows q ≡ counted_in m c q)
      → is_breached (counted_in m c q) ≡ true → numbered q (shows q) ≡ numbered q (counted_in m c q)
  same_line q true both is = let none = both.1 in cc
  same_line q false same is = ap (numbered q) same

  pub breached_lines : (n : ℕ) → lines n is_breached numbered shows ≡ lines n is_breached numbered (counted_in m c)
  breached_lines n =
      lines-same is_breached numbered shows (counted_in m c) n
      (λ q. tests_alike q _ (blank_or_same q _ refl)) (λ q. same_line q _ (blank_or_same q _ refl))
