use Rattle.std.proofs.Common.{◌≡◌, ◌/◌, length, ℕ, ap, ◌∙◌}
use Rattle.qcow2_check.proofs.Common.{sum_by, byte_at, sum_below, host_offset, entry_at}
use Rattle.qcow2_check.proofs.WholeL1.{whole_l1, whole_data}
use Rattle.qcow2_check.proofs.l1.names_of_l1_table.Goals as goal

pub returns-clause-grows : goal.returns-clause-grows
returns-clause-grows g c honest are =
    let l1 = c.args.l1.now in
    let sums : (f : ℕ → ℕ) → sum_by f c.deref.result.now ≡ sum_below (length l1 / 8) (λ i. f (host_offset (entry_at l1 i))) =
    λ f. ap (sum_by f) c.deref.ensures.value ∙ c.in_ok-places.ensures.sums f in
    whole_l1 c.args.header.now (byte_at (g.S.Storage.view c.args.storage.now).contents) l1 c.deref.result.now (length l1 / 8) are sums _ _ _
    c.in_ok-names_of_l1_entries.ensures.grows (c.in_ok-names_of_l2_tables.ensures.grows honest)

pub returns-clause-offsets : goal.returns-clause-offsets
returns-clause-offsets g c honest are =
    let l1 = c.args.l1.now in
    let sums : (f : ℕ → ℕ) → sum_by f c.deref.result.now ≡ sum_below (length l1 / 8) (λ i. f (host_offset (entry_at l1 i))) =
    λ f. ap (sum_by f) c.deref.ensures.value ∙ c.in_ok-places.ensures.sums f in
    whole_data c.args.header.now (byte_at (g.S.Storage.view c.args.storage.now).contents) l1 c.deref.result.now (length l1 / 8) are sums _ _
    (c.in_ok-names_of_l2_tables.ensures.offsets honest)
