-- The range that a call touches: whole clusters within one L2 table.
use Rattle.std.proofs.Common.{◌≡◌, ◌+◌, ◌-◌, ◌*◌, ◌/◌, ◌%◌, ◌<◌, ◌≤◌, ◌==◌, inl, inr, ℕ, Bool, true, false, sym, ap, ◌∙◌, arith, cond, min, mul_assoc}
use Rattle.std.proofs.Math.Nat.{mul-le-mul_right}
use Rattle.qcow2_image.proofs.Common.{cases_lt, div-add-mod', mod-mul-add, mod_below, HeaderFields, cluster_size, entries_per_cluster, rounded_up, rounded_down, rest_of_table, touched_from, touched_to}

-- where the touched range ends, by the rest of a table
module _ (h : HeaderFields) (some : 0 < cluster_size h) (rows : 0 < entries_per_cluster h) (from : ℕ) where
  abbrev table : ℕ
  table = cluster_size h / 8 * cluster_size h

  table_is : cluster_size h * entries_per_cluster h ≡ table
  table_is = omega arith

  some_table : 0 < table
  some_table = let m : 1 * cluster_size h ≤ entries_per_cluster h * cluster_size h = mul-le-mul_right (cluster_size h) (omega (arith, rows)) in omega (arith, m, some)

  pub table_end : from + rest_of_table h from ≡ rounded_down (cluster_size h / 8 * cluster_size h) from + cluster_size h / 8 * cluster_size h
  table_end =
      let is : from / table * table + from % table ≡ from = div-add-mod' from table in
      let below = mod_below from table some_table in
      ap (λ t. from + (t - from % t)) table_is ∙ omega (arith, is, below)

  -- it is a cluster's
  pub table_whole : (rounded_down table from + table) % cluster_size h ≡ 0
  table_whole =
      let a : from / table * table ≡ from / table * (cluster_size h / 8) * cluster_size h = sym (mul_assoc (from / table) (cluster_size h / 8) (cluster_size h)) in
      let r : (from / table * (cluster_size h / 8) + cluster_size h / 8) * cluster_size h ≡ from / table * (cluster_size h / 8) * cluster_size h + cluster_size h / 8 * cluster_size h = omega arith in
      let e : rounded_down table from + table ≡ (from / table * (cluster_size h / 8) + cluster_size h / 8) * cluster_size h + 0 = omega (arith, a, r) in
      ap (λ x. x % cluster_size h) e ∙ mod-mul-add (from / table * (cluster_size h / 8) + cluster_size h / 8) (cluster_size h) 0 some

module _ (h : HeaderFields) (some : 0 < cluster_size h) (rows : 0 < entries_per_cluster h) (size offset n : ℕ) where
  multiple : (k : ℕ) → k * cluster_size h % cluster_size h ≡ 0
  multiple k = let e : k * cluster_size h ≡ k * cluster_size h + 0 = omega arith in ap (λ x. x % cluster_size h) e ∙ mod-mul-add k (cluster_size h) 0 some

  pub from_whole : touched_from (cluster_size h) offset % cluster_size h ≡ 0
  from_whole = multiple ((offset + cluster_size h - 1) / cluster_size h)

  end_whole : (b : Bool) → cond b (rounded_up (cluster_size h) (offset + n)) (rounded_down (cluster_size h) (offset + n)) % cluster_size h ≡ 0
  end_whole true = multiple ((offset + n + cluster_size h - 1) / cluster_size h)
  end_whole false = multiple ((offset + n) / cluster_size h)

  lesser : (a b : ℕ) → a % cluster_size h ≡ 0 → b % cluster_size h ≡ 0 → min a b % cluster_size h ≡ 0
  lesser a b at bt = elim (cases_lt a b) [
    | inl is ↦ let e : min a b ≡ a = omega (arith, is) in ap (λ x. x % cluster_size h) e ∙ at
    | inr is ↦ let e : min a b ≡ b = omega (arith, is) in ap (λ x. x % cluster_size h) e ∙ bt
  ]

  pub to_whole : touched_to (cluster_size h) size offset n % cluster_size h ≡ 0
  to_whole = lesser _ _ (end_whole (offset + n == size)) (table_whole h some rows (touched_from (cluster_size h) offset))

  pub to_within : touched_to (cluster_size h) size offset n ≤ touched_from (cluster_size h) offset + rest_of_table h (touched_from (cluster_size h) offset)
  to_within =
      let e = table_end h some rows (touched_from (cluster_size h) offset) in
      let e1 = cond (offset + n == size) (rounded_up (cluster_size h) (offset + n)) (rounded_down (cluster_size h) (offset + n)) in
      omega (arith, e)
