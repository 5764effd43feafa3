use Rattle.qcow2_image.proofs.Common.{nat_tests, div-lt_iff_lt-mul}
use Rattle.std.proofs.Common.{◌≡◌, ◌-◌, ◌*◌, ◌/◌, ◌^◌, ◌<◌, ◌≤◌, ◌↔◌, ℕ, nat_lt, true, mul-pos, ◌∙◌, ap, sym, subst, arith, pow_mono}
use Rattle.qcow2_image.proofs.builder.has_l1_entries.Goals as goal

-- the last byte before a size lies in a cluster that so many entries cover
covered : (m n s : ℕ) → 0 < m → 0 < n → ((s - 1) / m / n < 4194304) ↔ (s ≤ 4194304 * n * m)
covered m n s some entries =
    let all : 0 < 4194304 * n * m = mul-pos {m = 4194304 * n} {n = m} (mul-pos {m = 4194304} {n = n} (omega arith) entries) some in (
      λ lt. (let byte = (div-lt_iff_lt-mul some).0 ((div-lt_iff_lt-mul entries).0 lt) in omega (arith, byte)),
      λ le. (div-lt_iff_lt-mul entries).1 ((div-lt_iff_lt-mul some).1 (omega (arith, le, all))),
    )

pub returns : goal.returns
returns c =
    let m = 2 ^ c.args.cluster_bits in
    let long : 2 ^ 9 ≤ m = pow_mono c.requires.low in
    let is : c.l1_index.result ≡ (c.args.size - 1) / m / (m / 8) = c.l1_index.ensures ∙ ap (λ n. n / m / (m / 8)) (c.new.ensures ∙ c.saturating_sub.ensures) in
    let holds = covered m (m / 8) c.args.size (omega (arith, long)) (omega (arith, long)) in (
      λ yes. holds.0 (subst (λ n. n < 4194304) is (let lt : nat_lt c.l1_index.result 4194304 ≡ true = yes in grind (arith, nat_tests))),
      λ le. (let lt : c.l1_index.result < 4194304 = subst (λ n. n < 4194304) (sym is) (holds.1 le) in grind (arith, nat_tests)),
    )
