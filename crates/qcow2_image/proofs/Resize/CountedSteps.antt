-- Steps of a shrink that pass a cluster boundary change something, and the change is counted.
use Rattle.std.proofs.Common.{◌≡◌, ◌<◌, inl, inr, ℕ, ap, arith}
use Rattle.qcow2_image.proofs.Common.{cases_lt, pow_pos, cluster_size, rounded_up, Qcow2, ChangesRose, NoFewerChanges, boundary_in}
use Rattle.qcow2_image.proofs.Lemmas.{changes_before, changes_later, none_between}

module _ {S F : Type 0} (old now new : Qcow2 S F) (size at next : ℕ) where
  pub turns_counted : cluster_size now.file.header.fields ≡ cluster_size old.file.header.fields → NoFewerChanges old now → NoFewerChanges now new → (boundary_in old size < at → ChangesRose old now) → (boundary_in now at < next → ChangesRose now new)
      → boundary_in old size < next → ChangesRose old new
  turns_counted same first then' before turn past = elim (cases_lt (boundary_in old size) at) [
    | inl lt ↦ changes_later old now new then' (before lt)
    | inr le ↦
        let up = none_between (cluster_size old.file.header.fields) (pow_pos old.file.header.fields.cluster_bits) size at le in
        let here : boundary_in now at ≡ boundary_in old at = ap (λ n. rounded_up n at) same in
        changes_before old now new first (turn (omega (arith, past, up, here)))
  ]
