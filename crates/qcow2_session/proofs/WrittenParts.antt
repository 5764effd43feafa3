-- What a session's write has done up to some part: the bytes of the parts that succeeded are written, and no others were given.
use Rattle.std.proofs.Common.{◌≡◌, ◌+◌, ◌-◌, ◌<◌, ◌≤◌, ◌∷◌, ⊎_elim, inl, inr, ℕ, List, [], take, drop, length, refl, sym, ap, ◌∙◌, subst, arith, Ok}
use Rattle.qcow2_session.proofs.Common.{common_steps, take-take, BackingView, StorageView, byte_at, Disk, with_bytes, given_of, AbstractImage, Guest, guest_of, AnsweredEffect, with_disk, ListsNoMore, Qcow2, touches_part, StopsFor, Writes}
use Rattle.qcow2_session.proofs.Bytes.{cut_part, cut_short, no_bytes, part_within, rest_part}
use Rattle.qcow2_session.proofs.Converting.{does_nothing}
use Rattle.qcow2_session.proofs.Turns.{IsWithin, none_within, does_if, does_less, does_then}
use Rattle.qcow2_session.proofs.Writing.{more_bytes}

-- ---- what parts give

-- a part of the bytes gives no more than they do
given_part : (v : AbstractImage) (offset place k : ℕ) (bytes part : List ℕ) → place ≡ offset + k → k + length part ≤ length bytes → ((i : ℕ) → i < length part → byte_at part i ≡ byte_at bytes (k + i)) → IsWithin v (given_of place part ∷ []) (given_of offset bytes ∷ [])
given_part v offset place k bytes part at short same = record {
  values = λ o w h. inr (part_within offset place k bytes part at short same o w h);
  touches = touches_part v.setting.cluster_size _ _ _ _ (omega (arith, at)) (omega (arith, at, short));
}

pub first_given : (v : AbstractImage) (offset n : ℕ) (bytes : List ℕ) → IsWithin v (given_of offset (take n bytes) ∷ []) (given_of offset bytes ∷ [])
first_given v offset n bytes = given_part v offset offset 0 bytes (take n bytes) (omega arith) (omega (arith, cut_short n bytes)) (λ i lt. cut_part n bytes i lt ∙ ap (byte_at bytes) (omega arith))

-- the first bytes of some, and then the next
both_long : (count n : ℕ) (bytes : List ℕ) → count ≤ length bytes → count + length (take n (drop count bytes)) ≡ length (take (count + n) bytes)
both_long count n bytes le = grind (arith, common_steps)

module _ (offset at count n : ℕ) (bytes : List ℕ) (le : count ≤ length bytes) (there : at ≡ offset + count) where
  start_given : (v : AbstractImage) → IsWithin v (given_of offset (take count bytes) ∷ []) (given_of offset (take (count + n) bytes) ∷ [])
  start_given v = subst (λ b. IsWithin v (given_of offset b ∷ []) (given_of offset (take (count + n) bytes) ∷ [])) (take-take count (count + n) bytes (omega arith)) (first_given v offset count (take (count + n) bytes))

  next_given : (v : AbstractImage) → IsWithin v (given_of at (take n (drop count bytes)) ∷ []) (given_of offset (take (count + n) bytes) ∷ [])
  next_given v =
      let long = both_long count n bytes le in
      given_part v offset at count (take (count + n) bytes) (take n (drop count bytes)) there (omega (arith, long))
      (λ i lt. let short = cut_short n (drop count bytes) in
      cut_part n (drop count bytes) i lt ∙ rest_part count bytes i le (omega (arith, lt, short)) ∙ sym (cut_part (count + n) bytes (count + i) (omega (arith, lt, long))))

  -- the first bytes are written, and then the next
  pub writes_on : (old mid new : AbstractImage)
      → AnsweredEffect old mid (given_of offset (take count bytes) ∷ []) [] (guest_of mid ≡ with_disk (guest_of old) (with_bytes (guest_of old).disk offset (take count bytes)))
      → AnsweredEffect mid new (given_of at (take n (drop count bytes)) ∷ []) [] (guest_of new ≡ with_disk (guest_of mid) (with_bytes (guest_of mid).disk at (take n (drop count bytes))))
      → AnsweredEffect old new (given_of offset (take (count + n) bytes) ∷ []) [] (guest_of new ≡ with_disk (guest_of old) (with_bytes (guest_of old).disk offset (take (count + n) bytes)))
  writes_on old mid new first next =
      does_if (λ h. h.1 ∙ ap (λ (v : Guest). with_disk v (with_bytes v.disk at (take n (drop count bytes)))) h.0 ∙ ap (λ (d : Disk). with_disk (guest_of old) d) (more_bytes offset at count bytes le there (guest_of old).disk n))
      (does_then (λ _ _. next_given mid) (does_less (start_given old) first) next)

-- no bytes are written yet
pub writes_none : (v : AbstractImage) (offset : ℕ) (bytes : List ℕ) → AnsweredEffect v v (given_of offset (take 0 bytes) ∷ []) [] (guest_of v ≡ with_disk (guest_of v) (with_bytes (guest_of v).disk offset (take 0 bytes)))
writes_none v offset bytes =
    let none : with_bytes (guest_of v).disk offset (take 0 bytes) ≡ (guest_of v).disk = no_bytes (guest_of v).disk offset (take 0 bytes) (grind (arith, common_steps)) in
    does_if (λ same. sym (ap (λ (d : Disk). with_disk (guest_of v) d) none)) (does_less (none_within v (given_of offset (take 0 bytes) ∷ [])) (does_nothing v))

-- ---- where a write is refused
-- a part after others isn't the first
pub never_first : {X : Type 0} (done : ℕ) → 0 < done → done ≡ 0 → X
never_first done later first = absurd (omega (arith, later, first))

module _ {S F : Type 0} (view : S → StorageView) (backing : F → BackingView) (old : Qcow2 S F) (cause : (at rest : ℕ) → Qcow2 S F → Type 0) (offset : ℕ) (bytes : List ℕ) where
  rest_is : (done : ℕ) → length (drop done bytes) ≡ length bytes - done
  rest_is done = grind (arith, common_steps)

  -- after the parts that were answered
  pub stops_behind : (done at : ℕ) (before : Qcow2 S F) → at ≡ offset + done → Writes view backing old before offset (take done bytes) (Ok tt) → (done ≡ 0 → before ≡ old) → cause at (length (drop done bytes)) before → StopsFor view backing old cause offset bytes done
  stops_behind done at before there written begun refused = record {
    before = before;
    written = written;
    begun = begun;
    refused = subst (λ k. cause k (length bytes - done) before) there (subst (λ n. cause at n before) (rest_is done) refused);
  }

  -- at its first part
  pub stops_first : cause offset (length bytes) old → StopsFor view backing old cause offset bytes 0
  stops_first refused = stops_behind 0 offset old (omega arith) (λ out. writes_none _ offset bytes) (λ none. refl) refused

-- ---- what is to be freed
pub no_more_then : {S F : Type 0} (old mid new : Qcow2 S F) → ListsNoMore old mid → ListsNoMore mid new → ListsNoMore old new
no_more_then old mid new first next = ⊎_elim (λ same. ⊎_elim (λ before. inl (same ∙ before)) (λ empty. inr (same ∙ empty)) first) (λ empty. inr empty) next
