-- A part of a write: prepared, put and committed. If one of these is refused, the mapping is released.
use Rattle.std.proofs.Common.{◌≡◌, ◌⊎◌, ◌+◌, ◌-◌, ◌%◌, ◌<◌, ◌≤◌, ◌∷◌, ⊎_elim, inl, inr, ℕ, suc, eqb, min, List, [], take, length, true, false, Option, Some, None, refl, sym, ap, ◌∙◌, subst, arith}
use Rattle.qcow2_session.proofs.Common.{cond-true, cond-false, cases_Bool, ne_eqb, common_steps, fun_ext, byte_at, laid_over, is_within, rounded_down, Value, known_byte, Disk, with_bytes, GivenBytes, IsGiven, PreparedMapping, IsPrepared, put_disk, put_mapping, committed, given_of, given_by_put, given_by_commit, Setting, Abstraction, HasFreePlaces, Guest, abstract_image, guest_of, Refusal, memory, storage, not_compressed, another, IsRefusalByFault, AnsweredEffect, RefusedEffect, IsSame, MayWrite, WritesSome, with_disk, with_slot, shown_is, touches_part, in_image}
use Rattle.qcow2_disk.proofs.ForUsers.{put_given}
use Rattle.qcow2_disk.proofs.Within.{within_is}
use Rattle.qcow2_session.proofs.Bytes.{byte_in, laid_in, laid_out, no_bytes, same_values, part_within}
use Rattle.qcow2_session.proofs.Places.{enters, leaves}
use Rattle.qcow2_session.proofs.Turns.{none_within, does_if, refuses_if, refuses_fault, refuses_why, does_less, does_then, refuses_then, refused_then, IsWithin}
use Rattle.qcow2_image.proofs.Images.WholeClusters.{commit_touches}

some_is : {X : Type 0} {a b : X} → Some a ≡ Some b → a ≡ b
some_is e = cc

-- ---- one mapping, and the first bytes that are put into it
module _ (cluster_size : ℕ) (d : Disk) (m : PreparedMapping) (offset asked : ℕ) (bytes chunk : List ℕ)
    (long : length chunk ≡ min asked m.length) (short : length chunk ≤ length bytes) (part : (i : ℕ) → i < length chunk → byte_at chunk i ≡ byte_at bytes i)
    (prepared : IsPrepared cluster_size d offset asked true m) where
  place : m.from + 0 ≡ offset
  place = omega (arith, prepared.from)

  -- what is put is part of the bytes, or where it is hidden what was there
  pub put_within : (now : Disk) (o : ℕ) (w : Value) → IsGiven (given_by_put now m 0 chunk ∷ []) o w → (w ≡ now.value o) ⊎ IsGiven (given_of offset bytes ∷ []) o w
  put_within now o w given =
      let is = put_given now m 0 chunk o w given in
      elim (cases_Bool (m.is_hidden o)) [
        | inl hidden ↦ inl (is.2 ∙ cond-true (m.is_hidden o) (now.value o) (known_byte (byte_at chunk (o - (m.from + 0)))) hidden)
        | inr shown ↦ inr (part_within offset (m.from + 0) 0 bytes chunk (omega (arith, place)) (omega (arith, short)) (λ i lt. part i lt ∙ ap (byte_at bytes) (omega arith)) o w
            (inl (is.0, is.1, is.2 ∙ cond-false (m.is_hidden o) (now.value o) (known_byte (byte_at chunk (o - (m.from + 0)))) shown)))
      ]

  -- where nothing is put in place, nothing changed
  put_out : (o : ℕ) → (m.is_private o ≡ true) ⊎ (is_within offset (length chunk) o ≡ false) → (put_disk d m 0 chunk).value o ≡ d.value o
  put_out o (inl private) = cond-true (m.is_private o) (d.value o) ((with_bytes d (m.from + 0) chunk).value o) private
  put_out o (inr outside) = elim (cases_Bool (m.is_private o)) [
    | inl private ↦ cond-true (m.is_private o) (d.value o) ((with_bytes d (m.from + 0) chunk).value o) private
    | inr plain ↦
        cond-false (m.is_private o) (d.value o) ((with_bytes d (m.from + 0) chunk).value o) plain
        ∙ ap (λ (k : ℕ). (with_bytes d k chunk).value o) place ∙ laid_out offset (length chunk) _ d.value o outside
  ]

  -- after the commit the disk has the chunk, and nothing else changed
  chunk_value : (o : ℕ) → (committed (put_disk d m 0 chunk) (put_mapping m 0 chunk)).value o ≡ (with_bytes d offset chunk).value o
  chunk_value o =
      let f = λ (i : ℕ). known_byte (byte_at chunk i) in
      elim (cases_Bool (m.is_private o)) [
        | inl private ↦
            let shown : (put_mapping m 0 chunk).shown o ≡ laid_over (m.from + 0) (length chunk) f m.shown o = cond-true (m.is_private o) (laid_over (m.from + 0) (length chunk) f m.shown o) (m.shown o) private in
            cond-true (m.is_private o) ((put_mapping m 0 chunk).shown o) ((put_disk d m 0 chunk).value o) private
            ∙ shown
            ∙ ap (λ (k : ℕ). laid_over k (length chunk) f m.shown o) place
            ∙ elim (cases_Bool (is_within offset (length chunk) o)) [
              | inl inside ↦ laid_in offset (length chunk) f m.shown o inside ∙ sym (laid_in offset (length chunk) f d.value o inside)
              | inr outside ↦
                  laid_out offset (length chunk) f m.shown o outside
                  ∙ prepared.old_values o private (subst (λ (k : ℕ). is_within offset k o ≡ false) long outside)
                  ∙ sym (laid_out offset (length chunk) f d.value o outside)
            ]
        | inr plain ↦
            cond-false (m.is_private o) ((put_mapping m 0 chunk).shown o) ((put_disk d m 0 chunk).value o) plain
            ∙ cond-false (m.is_private o) (d.value o) ((with_bytes d (m.from + 0) chunk).value o) plain
            ∙ ap (λ (k : ℕ). (with_bytes d k chunk).value o) place
      ]

  pub chunk_disk : committed (put_disk d m 0 chunk) (put_mapping m 0 chunk) ≡ with_bytes d offset chunk
  chunk_disk = same_values _ _ refl chunk_value

  -- what becomes visible is what was put, or was there
  pub commit_within : (size : ℕ) (o : ℕ) (w : Value) → IsGiven (given_by_commit size (put_disk d m 0 chunk) (put_mapping m 0 chunk) ∷ []) o w
      → (w ≡ (put_disk d m 0 chunk).value o) ⊎ IsGiven (given_of offset bytes ∷ []) o w
  commit_within size o w (inr h) = absurd h
  commit_within size o w (inl h) =
      let from = rounded_down size m.from in
      let back : from + (o - from) ≡ o = omega (arith, h.0) in
      let w-is : w ≡ (with_bytes d offset chunk).value o = h.2 ∙ ap (λ (k : ℕ). (committed (put_disk d m 0 chunk) (put_mapping m 0 chunk)).value k) back ∙ chunk_value o in
      elim (cases_Bool (is_within offset (length chunk) o)) [
        | inl inside ↦
            let at = within_is offset (length chunk) o inside in
            inr (part_within offset offset 0 bytes chunk (omega arith) (omega (arith, short)) (λ i lt. part i lt ∙ ap (byte_at bytes) (omega arith)) o w (inl (at.0, at.1, w-is ∙ byte_in d offset chunk o at.0 at.1)))
        | inr outside ↦ inl (w-is ∙ laid_out offset (length chunk) _ d.value o outside ∙ sym (put_out o (inr outside)))
      ]

  -- bytes that were put in place and not committed
  pub put_some : WritesSome d offset bytes 0 (put_disk d m 0 chunk)
  put_some =
      let none : with_bytes d offset (take 0 bytes) ≡ d = no_bytes d offset (take 0 bytes) (grind (arith, common_steps)) in
      record {
        size = refl;
        values = λ o. elim (cases_Bool (m.is_private o)) [
          | inl private ↦ inl (put_out o (inl private) ∙ sym (ap (λ (e : Disk). e.value o) none))
          | inr plain ↦ elim (cases_Bool (is_within offset (length chunk) o)) [
            | inr outside ↦ inl (put_out o (inr outside) ∙ sym (ap (λ (e : Disk). e.value o) none))
            | inl inside ↦
                let at = within_is offset (length chunk) o inside in
                inr (cond-false (m.is_private o) (d.value o) ((with_bytes d (m.from + 0) chunk).value o) plain ∙ ap (λ (k : ℕ). (with_bytes d k chunk).value o) place
                ∙ byte_in d offset chunk o at.0 at.1 ∙ ap known_byte (part (o - offset) (omega (arith, at.0, at.1))) ∙ sym (byte_in d offset bytes o at.0 (omega (arith, at.1, short))))
          ]
        ];
      }

-- nothing was written
pub may_write_none : (e : Refusal) (g g' : Guest) (offset : ℕ) (bytes : List ℕ) → g' ≡ g → MayWrite e g offset bytes 0 g'
may_write_none e g g' offset bytes same =
    let none : with_bytes g.disk offset (take 0 bytes) ≡ g.disk = no_bytes g.disk offset (take 0 bytes) (grind (arith, common_steps)) in
    let plain : g' ≡ with_disk g (with_bytes g.disk offset (take 0 bytes)) = same ∙ sym (ap (λ (d : Disk). with_disk g d) none) in
    elim e as (λ k. MayWrite k g offset bytes 0 g') [
      | memory ↦ (omega arith, (g.disk, record { size = refl; values = λ o. inl (sym (ap (λ (d : Disk). d.value o) none)) }, same))
      | storage ↦ (omega arith, plain)
      | not_compressed n ↦ (omega arith, plain)
      | another n ↦ (omega arith, plain)
    ]

-- ---- the calls together

abbrev shift : Guest → Guest
shift g = record { disk = g.disk; slots = λ k. g.slots (suc k) }

shift_slot : (g : Guest) (m : Option PreparedMapping) → shift (with_slot g 0 m) ≡ shift g
shift_slot g m = ap (λ (f : ℕ → Option PreparedMapping). record g { slots = f }) (fun_ext (λ k. cond-false (eqb (suc k) 0) m (g.slots (suc k)) (ne_eqb (suc k) 0 (λ e. absurd (omega arith)))))

module _ {D P : Type 0} (spec : Abstraction D P) (has : HasFreePlaces spec) (in_image : (d : D) (out : List (Option P)) → spec.is_sound d out → spec.data_bytes d ≡ spec.known d) (d0 d1 : D) (p : P) (out : List (Option P)) (offset asked : ℕ) (bytes chunk : List ℕ) (long : length chunk ≡ min asked (spec.means d1 p).length) (short : length chunk ≤ length bytes) (part : (i : ℕ) → i < length chunk → byte_at chunk i ≡ byte_at bytes i)
    (positive : 0 < (spec.setting d0).cluster_size) (none : length bytes ≡ 0 → (spec.means d1 p).length ≡ 0) (most : length bytes < (spec.means d1 p).length → asked < (spec.means d1 p).length) where
  abbrev Ready : Type 0
  Ready =
      IsPrepared (spec.setting d0).cluster_size (guest_of (abstract_image spec d0 (None ∷ out))).disk offset asked true (spec.means d1 p)
      × (guest_of (abstract_image spec d1 (Some p ∷ out)) ≡ with_slot (guest_of (abstract_image spec d0 (None ∷ out))) 0 (Some (spec.means d1 p)))

  abbrev given_bytes : List GivenBytes
  given_bytes = given_of offset bytes ∷ []

  abbrev put_given_bytes : List GivenBytes
  put_given_bytes = given_by_put (guest_of (abstract_image spec d1 (Some p ∷ out))).disk (spec.means d1 p) 0 chunk ∷ []

  guest1 : Ready → shift (guest_of (abstract_image spec d1 (Some p ∷ out))) ≡ guest_of (abstract_image spec d0 out)
  guest1 r = ap shift r.1 ∙ shift_slot (guest_of (abstract_image spec d0 (None ∷ out))) (Some (spec.means d1 p))

  puts_within : spec.is_sound d1 (Some p ∷ out) → Ready → IsWithin (abstract_image spec d1 (Some p ∷ out)) put_given_bytes given_bytes
  puts_within sound r = record {
    values = λ o w h. ⊎_elim (λ (e : w ≡ (guest_of (abstract_image spec d1 (Some p ∷ out))).disk.value o). inl (e ∙ ap (λ (d : Disk). d.value o) (shown_is (abstract_image spec d1 (Some p ∷ out)) (in_image d1 (Some p ∷ out) sound)))) (λ (g : IsGiven given_bytes o w). inr g)
        (put_within (spec.setting d0).cluster_size (guest_of (abstract_image spec d0 out)).disk (spec.means d1 p) offset asked bytes chunk long short part r.0 (guest_of (abstract_image spec d1 (Some p ∷ out))).disk o w h);
    touches = let from = r.0.from in let few = short in touches_part (spec.setting d1).cluster_size _ _ _ _ (omega (arith, from)) (omega (arith, from, few));
  }

  module _ (prepares : AnsweredEffect (abstract_image spec d0 (None ∷ out)) (abstract_image spec d1 (Some p ∷ out)) [] [] Ready) where
    ready : AnsweredEffect (abstract_image spec d0 out) (abstract_image spec d1 (Some p ∷ out)) given_bytes [] Ready
    ready = does_if (λ a. a.1) (does_then (λ _ _. none_within (abstract_image spec d0 (None ∷ out)) given_bytes) (does_less (none_within (abstract_image spec d0 out) given_bytes) (enters spec has d0 out)) prepares)

    pub put_refused : (d2 d3 : D) (e : Refusal) → RefusedEffect (abstract_image spec d1 (Some p ∷ out)) (abstract_image spec d2 (Some p ∷ out)) put_given_bytes [] e (IsSame (abstract_image spec d1 (Some p ∷ out)) (abstract_image spec d2 (Some p ∷ out)))
        → AnsweredEffect (abstract_image spec d2 (Some p ∷ out)) (abstract_image spec d3 (None ∷ out)) [] [] (guest_of (abstract_image spec d3 (None ∷ out)) ≡ with_slot (guest_of (abstract_image spec d2 (Some p ∷ out))) 0 None)
        → RefusedEffect (abstract_image spec d0 out) (abstract_image spec d3 out) given_bytes [] e (MayWrite e (guest_of (abstract_image spec d0 out)) offset bytes 0 (guest_of (abstract_image spec d3 out)))
    put_refused d2 d3 e refuses discards =
        refuses_if (λ h. may_write_none e (guest_of (abstract_image spec d0 out)) (guest_of (abstract_image spec d3 out)) offset bytes
        (ap shift h.0.1 ∙ shift_slot (guest_of (abstract_image spec d2 (Some p ∷ out))) None ∙ ap shift h.0.0.1 ∙ guest1 h.0.0.0))
        (refused_then (has.works d3 out) (refused_then (has.works d3 (None ∷ out)) (refuses_then (λ sound. puts_within (ready.answer sound).0) ready refuses) discards) (leaves spec has d3 out))

    module _ (d2 : D) (puts : AnsweredEffect (abstract_image spec d1 (Some p ∷ out)) (abstract_image spec d2 (Some p ∷ out)) put_given_bytes []
        (guest_of (abstract_image spec d2 (Some p ∷ out)) ≡ with_slot (with_disk (guest_of (abstract_image spec d1 (Some p ∷ out))) (put_disk (guest_of (abstract_image spec d1 (Some p ∷ out))).disk (spec.means d1 p) 0 chunk)) 0 (Some (put_mapping (spec.means d1 p) 0 chunk)))) where
      abbrev Put : Type 0
      Put =
          Ready × (guest_of (abstract_image spec d2 (Some p ∷ out))
          ≡ with_slot (with_disk (guest_of (abstract_image spec d1 (Some p ∷ out))) (put_disk (guest_of (abstract_image spec d1 (Some p ∷ out))).disk (spec.means d1 p) 0 chunk)) 0 (Some (put_mapping (spec.means d1 p) 0 chunk)))

      abbrev disk2 : Disk
      disk2 = put_disk (guest_of (abstract_image spec d0 out)).disk (spec.means d1 p) 0 chunk

      abbrev mapping2 : PreparedMapping
      mapping2 = put_mapping (spec.means d1 p) 0 chunk

      put_done : AnsweredEffect (abstract_image spec d0 out) (abstract_image spec d2 (Some p ∷ out)) given_bytes [] Put
      put_done = does_then (λ sound. puts_within (ready.answer sound).0) ready puts

      guest2 : Put → shift (guest_of (abstract_image spec d2 (Some p ∷ out))) ≡ with_disk (guest_of (abstract_image spec d0 out)) disk2
      guest2 h =
          ap shift h.1 ∙ shift_slot (with_disk (guest_of (abstract_image spec d1 (Some p ∷ out))) (put_disk (guest_of (abstract_image spec d1 (Some p ∷ out))).disk (spec.means d1 p) 0 chunk)) (Some mapping2)
          ∙ ap (λ (g : Guest). with_disk g (put_disk g.disk (spec.means d1 p) 0 chunk)) (guest1 h.0)

      meaning2 : Put → spec.means d2 p ≡ mapping2
      meaning2 h = some_is (ap (λ (g : Guest). g.slots 0) h.1)

      abbrev commit_given_bytes : List GivenBytes
      commit_given_bytes = given_by_commit (spec.setting d2).cluster_size (guest_of (abstract_image spec d2 (Some p ∷ out))).disk (spec.means d2 p) ∷ []

      commits_within : (abstract_image spec d0 out).is_sound → Put → IsWithin (abstract_image spec d2 (Some p ∷ out)) commit_given_bytes given_bytes
      commits_within sound h = record {
        values = λ o w given.
            let size = (spec.setting d2).cluster_size in
            let disk-is : (guest_of (abstract_image spec d2 (Some p ∷ out))).disk ≡ disk2 = ap (λ (g : Guest). g.disk) (guest2 h) in
            let there : IsGiven (given_by_commit size disk2 mapping2 ∷ []) o w =
            subst (λ (d : Disk). IsGiven (given_by_commit size d mapping2 ∷ []) o w) disk-is
            (subst (λ (m : PreparedMapping). IsGiven (given_by_commit size (guest_of (abstract_image spec d2 (Some p ∷ out))).disk m ∷ []) o w) (meaning2 h) given) in
            ⊎_elim (λ (e : w ≡ disk2.value o). inl (e ∙ ap (λ (d : Disk). d.value o) (sym disk-is ∙ shown_is (abstract_image spec d2 (Some p ∷ out)) (in_image d2 (Some p ∷ out) (put_done.answer sound).0)))) (λ g. inr g)
            (commit_within (spec.setting d0).cluster_size (guest_of (abstract_image spec d0 out)).disk (spec.means d1 p) offset asked bytes chunk long short part h.0.0 size o w there);
        touches =
            let prepared = h.0.0 in
            let same : (spec.setting d2).cluster_size ≡ (spec.setting d0).cluster_size = ap (λ (x : Setting). x.cluster_size) (put_done.acts.works sound).setting in
            let from_is : (spec.means d2 p).from ≡ offset = ap (λ (m : PreparedMapping). m.from) (meaning2 h) ∙ prepared.from in
            let long_is : (spec.means d2 p).length ≡ (spec.means d1 p).length = ap (λ (m : PreparedMapping). m.length) (meaning2 h) in
            commit_touches (spec.setting d2).cluster_size (subst (λ size. 0 < size) (sym same) positive) (guest_of (abstract_image spec d2 (Some p ∷ out))).disk (spec.means d2 p) (given_of offset bytes) offset (length bytes) from_is refl refl
            (λ zero. long_is ∙ none zero) (λ past. long_is ∙ prepared.most (most (omega (arith, past, long_is))) ∙ ap (λ size. size - offset % size) (sym same));
      }

      -- all was done
      pub written : (d3 : D) → AnsweredEffect (abstract_image spec d2 (Some p ∷ out)) (abstract_image spec d3 (None ∷ out)) commit_given_bytes []
          (guest_of (abstract_image spec d3 (None ∷ out)) ≡ with_slot (with_disk (guest_of (abstract_image spec d2 (Some p ∷ out))) (committed (guest_of (abstract_image spec d2 (Some p ∷ out))).disk (spec.means d2 p))) 0 None)
          → AnsweredEffect (abstract_image spec d0 out) (abstract_image spec d3 out) given_bytes [] (guest_of (abstract_image spec d3 out) ≡ with_disk (guest_of (abstract_image spec d0 out)) (with_bytes (guest_of (abstract_image spec d0 out)).disk offset chunk))
      written d3 commits =
          does_if (λ h. let put = h.0.0 in
          ap shift h.0.1 ∙ shift_slot (with_disk (guest_of (abstract_image spec d2 (Some p ∷ out))) (committed (guest_of (abstract_image spec d2 (Some p ∷ out))).disk (spec.means d2 p))) None
          ∙ ap (λ (m : PreparedMapping). with_disk (shift (guest_of (abstract_image spec d2 (Some p ∷ out)))) (committed (guest_of (abstract_image spec d2 (Some p ∷ out))).disk m)) (meaning2 put)
          ∙ ap (λ (g : Guest). with_disk g (committed g.disk mapping2)) (guest2 put)
          ∙ ap (λ (d : Disk). with_disk (guest_of (abstract_image spec d0 out)) d) (chunk_disk (spec.setting d0).cluster_size (guest_of (abstract_image spec d0 out)).disk (spec.means d1 p) offset asked bytes chunk long short part put.0.0))
          (does_then (λ _ _. none_within (abstract_image spec d3 (None ∷ out)) given_bytes) (does_then commits_within put_done commits) (leaves spec has d3 out))

      -- what was put in place may stay
      ended : (d4 : D) (e : Refusal) → RefusedEffect (abstract_image spec d0 out) (abstract_image spec d4 (None ∷ out)) given_bytes [] e
          (Put × ((shift (guest_of (abstract_image spec d4 (None ∷ out))) ≡ shift (guest_of (abstract_image spec d2 (Some p ∷ out)))) × IsRefusalByFault e))
          → RefusedEffect (abstract_image spec d0 out) (abstract_image spec d4 out) given_bytes [] e (MayWrite e (guest_of (abstract_image spec d0 out)) offset bytes 0 (guest_of (abstract_image spec d4 out)))
      ended d4 e r =
          refuses_fault (λ k. MayWrite k (guest_of (abstract_image spec d0 out)) offset bytes 0 (guest_of (abstract_image spec d4 out))) e (λ h. h.0.1.1)
          (λ h. (omega arith, (disk2, put_some (spec.setting d0).cluster_size (guest_of (abstract_image spec d0 out)).disk (spec.means d1 p) offset asked bytes chunk long short part h.0.0.0.0, h.0.1.0 ∙ guest2 h.0.0)))
          (refused_then (has.works d4 out) r (leaves spec has d4 out))

      -- the commit was refused, and spent the mapping
      pub commit_old_tables : (d3 : D) (e : Refusal) → ((abstract_image spec d2 (Some p ∷ out)).is_sound → IsRefusalByFault e)
          → RefusedEffect (abstract_image spec d2 (Some p ∷ out)) (abstract_image spec d3 (None ∷ out)) commit_given_bytes [] e (IsSame (abstract_image spec d2 (Some p ∷ out)) (abstract_image spec d3 (None ∷ out)))
          → RefusedEffect (abstract_image spec d0 out) (abstract_image spec d3 out) given_bytes [] e (MayWrite e (guest_of (abstract_image spec d0 out)) offset bytes 0 (guest_of (abstract_image spec d3 out)))
      commit_old_tables d3 e why refuses = ended d3 e (refuses_if (λ h. (h.0, (ap shift h.1.0, h.1.1))) (refuses_then commits_within put_done (refuses_why why refuses)))

      -- the commit was refused, and the mapping was let go
      pub commit_kept : (d3 d4 : D) (e : Refusal) → ((abstract_image spec d2 (Some p ∷ out)).is_sound → IsRefusalByFault e)
          → RefusedEffect (abstract_image spec d2 (Some p ∷ out)) (abstract_image spec d3 (Some p ∷ out)) commit_given_bytes [] e (IsSame (abstract_image spec d2 (Some p ∷ out)) (abstract_image spec d3 (Some p ∷ out)))
          → AnsweredEffect (abstract_image spec d3 (Some p ∷ out)) (abstract_image spec d4 (None ∷ out)) [] [] (guest_of (abstract_image spec d4 (None ∷ out)) ≡ with_slot (guest_of (abstract_image spec d3 (Some p ∷ out))) 0 None)
          → RefusedEffect (abstract_image spec d0 out) (abstract_image spec d4 out) given_bytes [] e (MayWrite e (guest_of (abstract_image spec d0 out)) offset bytes 0 (guest_of (abstract_image spec d4 out)))
      commit_kept d3 d4 e why refuses discards =
          ended d4 e (refuses_if (λ h. (h.0.0, (ap shift h.1 ∙ shift_slot (guest_of (abstract_image spec d3 (Some p ∷ out))) None ∙ ap shift h.0.1.0, h.0.1.1)))
          (refused_then (has.works d4 (None ∷ out)) (refuses_then commits_within put_done (refuses_why why refuses)) discards))
