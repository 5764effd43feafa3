-- A write continues by one part, or is refused.
use Rattle.std.proofs.Common.{◌≡◌, ◌+◌, ◌%◌, ◌<◌, ◌≤◌, ◌∷◌, ⊎_elim, inl, inr, ℕ, min, subst, List, [], take, drop, length, sym, ap, ◌∙◌, arith}
use Rattle.qcow2_session.proofs.Common.{common_steps, take-append-drop, Disk, with_bytes, given_of, AbstractImage, Guest, guest_of, Refusal, memory, storage, not_compressed, another, AnsweredEffect, RefusedEffect, MayWrite, WritesSome, with_disk, Qcow2, cluster_size_of, EndsCluster, touches_part}
use Rattle.std.proofs.Math.Seq.{take-add}
use Rattle.qcow2_session.proofs.Bytes.{no_bytes, with_both, part_within, rest_long, rest_part}
use Rattle.qcow2_session.proofs.Turns.{IsWithin, does_if, refuses_if, does_then, refuses_then}

-- a cluster ends where it ends of the image as it was
pub ends_on : {S F : Type 0} (old mid : Qcow2 S F) → cluster_size_of mid ≡ cluster_size_of old → (offset done count at : ℕ) → at ≡ offset + done → EndsCluster mid (at + count) → EndsCluster old (offset + (done + count))
ends_on old mid same offset done count at there ends =
    let place : at + count ≡ offset + (done + count) = omega (arith, there) in
    subst (λ k. k % cluster_size_of old ≡ 0) place (subst (λ size. (at + count) % size ≡ 0) same ends)

-- a mapping that is shorter than the bytes ends where a cluster does
pub chunk_ends : {S F : Type 0} (image mid : Qcow2 S F) (offset n count m : ℕ) → count ≡ min n m → count < n → cluster_size_of mid ≡ cluster_size_of image → (m < n → (offset + m) % cluster_size_of mid ≡ 0) → EndsCluster image (offset + count)
chunk_ends image mid offset n count m is short same ends =
    let all : count ≡ m = omega (arith, is, short) in
    subst (λ k. (offset + k) % cluster_size_of image ≡ 0) (sym all) (subst (λ size. (offset + m) % size ≡ 0) same (ends (omega (arith, is, short))))

module _ (offset at count : ℕ) (bytes : List ℕ) (le : count ≤ length bytes) (there : at ≡ offset + count) where
  after_first : at ≡ offset + length (take count bytes)
  after_first = there ∙ grind (arith, common_steps)

  pub more_bytes : (d : Disk) (n : ℕ) → with_bytes (with_bytes d offset (take count bytes)) at (take n (drop count bytes)) ≡ with_bytes d offset (take (count + n) bytes)
  more_bytes d n =
      ap (λ k. with_bytes (with_bytes d offset (take count bytes)) k (take n (drop count bytes))) after_first
      ∙ with_both d offset (take count bytes) (take n (drop count bytes)) ∙ ap (with_bytes d offset) (sym (take-add count n bytes))

  all_bytes : (d : Disk) → with_bytes (with_bytes d offset (take count bytes)) at (drop count bytes) ≡ with_bytes d offset bytes
  all_bytes d =
      ap (λ k. with_bytes (with_bytes d offset (take count bytes)) k (drop count bytes)) after_first
      ∙ with_both d offset (take count bytes) (drop count bytes) ∙ ap (with_bytes d offset) (take-append-drop count bytes)

  no_more : (d : Disk) → with_bytes d at (take 0 (drop count bytes)) ≡ d
  no_more d = no_bytes d at (take 0 (drop count bytes)) (grind (arith, common_steps))

  -- the rest was refused before any of it was written, or where memory is missing after some
  pub may_write_more : (e : Refusal) (g g' new : Guest) → g' ≡ with_disk g (with_bytes g.disk offset (take count bytes)) → MayWrite e g' at (drop count bytes) 0 new → MayWrite e g offset bytes count new
  may_write_more memory g g' new so_far may =
      let d : Disk = may.1.0 in
      let some : WritesSome g'.disk at (drop count bytes) 0 d = may.1.1 in
      let disk-is : g'.disk ≡ with_bytes g.disk offset (take count bytes) = ap (λ (v : Guest). v.disk) so_far in (
        le,
        (
          d,
          record {
            size = some.size ∙ ap (λ (k : Disk). k.size) disk-is;
            values = λ o. ⊎_elim
                (λ (e : d.value o ≡ (with_bytes g'.disk at (take 0 (drop count bytes))).value o). inl (e ∙ ap (λ (k : Disk). k.value o) (no_more g'.disk ∙ disk-is)))
                (λ (e : d.value o ≡ (with_bytes g'.disk at (drop count bytes)).value o).
                inr (e ∙ ap (λ (k : Disk). (with_bytes k at (drop count bytes)).value o) disk-is ∙ ap (λ (k : Disk). k.value o) (all_bytes g.disk)))
                (some.values o);
          },
          may.1.2 ∙ ap (λ (v : Guest). with_disk v d) so_far,
        ),
      )
  may_write_more storage g g' new so_far may = (le, may.1 ∙ ap (λ (d : Disk). with_disk g' d) (no_more g'.disk) ∙ so_far)
  may_write_more (not_compressed n) g g' new so_far may = (le, may.1 ∙ ap (λ (d : Disk). with_disk g' d) (no_more g'.disk) ∙ so_far)
  may_write_more (another n) g g' new so_far may = (le, may.1 ∙ ap (λ (d : Disk). with_disk g' d) (no_more g'.disk) ∙ so_far)

  module _ (old mid new : AbstractImage) (first : AnsweredEffect old mid (given_of offset bytes ∷ []) [] (guest_of mid ≡ with_disk (guest_of old) (with_bytes (guest_of old).disk offset (take count bytes)))) where
    rest_within : IsWithin mid (given_of at (drop count bytes) ∷ []) (given_of offset bytes ∷ [])
    rest_within = record {
      values = λ o w h. inr (part_within offset at count bytes (drop count bytes) there (rest_long count bytes le) (λ i lt. rest_part count bytes i le lt) o w h);
      touches = let begins = there in let long = rest_long count bytes le in touches_part mid.setting.cluster_size _ _ _ _ (omega (arith, begins)) (omega (arith, begins, long));
    }

    pub writes_more : (n : ℕ) → AnsweredEffect mid new (given_of at (drop count bytes) ∷ []) [] (guest_of new ≡ with_disk (guest_of mid) (with_bytes (guest_of mid).disk at (take n (drop count bytes))))
        → AnsweredEffect old new (given_of offset bytes ∷ []) [] (guest_of new ≡ with_disk (guest_of old) (with_bytes (guest_of old).disk offset (take (count + n) bytes)))
    writes_more n next =
        does_if (λ h. h.1 ∙ ap (λ (v : Guest). with_disk v (with_bytes v.disk at (take n (drop count bytes)))) h.0 ∙ ap (λ (d : Disk). with_disk (guest_of old) d) (more_bytes (guest_of old).disk n))
        (does_then (λ _ _. rest_within) first next)

    pub write_refused : (e : Refusal) → RefusedEffect mid new (given_of at (drop count bytes) ∷ []) [] e (MayWrite e (guest_of mid) at (drop count bytes) 0 (guest_of new))
        → RefusedEffect old new (given_of offset bytes ∷ []) [] e (MayWrite e (guest_of old) offset bytes count (guest_of new))
    write_refused e next = refuses_if (λ h. may_write_more e (guest_of old) (guest_of mid) (guest_of new) h.0 h.1) (refuses_then (λ _ _. rest_within) first next)
