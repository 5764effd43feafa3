-- The parts of a write respect the prepared mappings: no byte is written under an L2 table that another mapping pins, unless it is written in place.
use Rattle.std.proofs.Common.{◌≡◌, ◌+◌, ◌-◌, ◌*◌, ◌/◌, ◌%◌, ◌<◌, ◌≤◌, ◌∙◌, inl, inr, ℕ, List, Option, take, drop, length, refl, sym, ap, subst, arith, Ok}
use Rattle.qcow2_session.proofs.Common.{cases_lt, common_steps, BackingView, StorageView, cluster_size, rest_of_table, known_in, l1_index_of, IsTaken, Qcow2, Prepared, RespectsFirst, IsRespectedAt, Writes, Mappings}
use Rattle.qcow2_session.proofs.Lemmas.{same_index, writes_none}

module _ {S F : Type 0} (view : S → StorageView) (backing : F → BackingView) (old : Qcow2 S F) (out : Mappings) (offset : ℕ) (bytes : List ℕ) where
  -- one part more, after the bytes that are written
  pub heeded_more : (done count at : ℕ) (before : Qcow2 S F) → at ≡ offset + done → cluster_size before.file.header.fields ≡ cluster_size old.file.header.fields → Writes view backing old before offset (take done bytes) (Ok tt) → (done ≡ 0 → before ≡ old)
      → 0 < length (drop done bytes) → RespectsFirst view backing before out at (length (drop done bytes)) (Ok count) → ((i : ℕ) → i < done → IsRespectedAt view backing old out offset bytes i) → (i : ℕ) → i < done + count → IsRespectedAt view backing old out offset bytes i
  heeded_more done count at before there size written begun some respects so_far i lt = elim (cases_lt i done) [
    | inl earlier ↦ so_far i earlier
    | inr here ↦
        let first = respects some in
        let h = old.file.header.fields in
        let place : offset + i ≡ at + (i - done) = omega (arith, there, here) in
        let reach : rest_of_table before.file.header.fields at ≡ rest_of_table h at = ap (λ s. s * (s / 8) - at % (s * (s / 8))) size in
        let near : i - done < rest_of_table h at = let within = first.0 in omega (arith, within, reach, lt, here) in
        let rest : length (drop done bytes) ≡ length bytes - done = grind (arith, common_steps) in
        record {
          from = done;
          low = here;
          same_table = ap (l1_index_of h) place ∙ same_index h at (i - done) near ∙ ap (l1_index_of h) there;
          before = before;
          written = written;
          begun = begun;
          untaken = λ taken.
              let known = known_in view before.file in
              let all = subst (λ n. IsTaken before.file.header.fields known (offset + done) n out) (sym rest) taken in
              first.1 (subst (λ k. IsTaken before.file.header.fields known k (length (drop done bytes)) out) (sym there) all);
        }
  ]

  -- the first part
  pub heeded_first : (count : ℕ) → count ≤ length bytes → RespectsFirst view backing old out offset (length bytes) (Ok count) → (i : ℕ) → i < count → IsRespectedAt view backing old out offset bytes i
  heeded_first count within respects i lt =
      heeded_more 0 count offset old (omega arith) refl (λ out. writes_none _ offset bytes) (λ none. refl) (omega (arith, within, lt)) respects (λ k none. absurd (omega (arith, none))) i (omega (arith, lt))
