use Rattle.std.proofs.Common.{Bool, ◌&&◌, ◌≡◌, ◌∷◌, ◌+◌, ◌<◌, ◌≤◌, sym, subst, ap, ◌∙◌, Err, [], Some, None, min, length, refl, arith, ℕ, ⊎_elim, List, inl, inr, take, true, false, rules, Ok, Option, Result, IfErr, is_some, length-take}
use Rattle.qcow2_session.specs.Sessions.{IsOfWriting}
use Rattle.qcow2_alloc.specs.declared.error.ImageError.TheVariants as I
use Rattle.qcow2_session.proofs.Common.{MayFailOn, freed_untaken, met_any, met_kept, met_untaken, released_offsets, file_of, is_failed, lacks_data_file, nat_lt, not, option_or, passes, refuse_if, MarksAtOnce, counts_on, counts_released, IsUnderMapping, IfSome, IfOk, IsOk, given_of, Setting, guest_of, refusal_of, Commits, reason_of, CountsImageFaults, is_writable, number_of, size_of, IsHandedBackBy, image_of, length_of, guest_offset_of, offset_of, table_of, refuses_mapping, refuses_to_prepare, MayFailPreparing, Kept, abstract_of, image_abstraction, meaning, AreDataAt, cluster_size_of, LeavesCopied, WritesFirst, RespectsFirst, free_places, data_inside, Qcow2, cases_Bool, cases_lt, pow_pos, IsOfNothing, Prepared, common_steps, ImageError, counted_still, faults_then, IsFaultOrLimit, freeing_met, behind_then, written_then, known_in, fault_unlimited, limited_upto, other_limit, fault_of, NeedsOverflowingL1Entry, IfLimit, IsLimited, CopiesCompressed, IsCacheHeld, MayFailAllocating, HasPinnedMapping, taking_as, putting_met, abstraction_at}
use Rattle.qcow2_session.proofs.Lemmas.{commit_at_once, in_parts, parts_answered, parts_before, parts_behind, parts_handed, refused_at_once, cut_long, cut_part, cut_short, may_write_none, put_refused, written, commit_old_tables, commit_kept, chunk_ends, no_more_then, none_refused, refused_is, none_within, refuses_if, refuses_less, nothing_refused, nothing_prepared, prepare_same, put_same, commit_since, mapping_usable, not_failed_yet, prepares_usable, prepares_within, prepares_writable, put_met, under_taken, untaken_beside, quiet_commit, quiet_image, quiet_release, existing_or_not, kept_data, part_copied, existing_found, existing_long, existing_near, put_unlimited, compressed_behind, put_looking, put_current}
use Rattle.qcow2_session.proofs.session.write_some.Goals as goal
use Rattle.qcow2_image.proofs.Images.Places.{put_first}

-- what refused a call that begins another one before any work refused that one
one_cause : {A E : Type 0} (r : Result A E) (e x : E) → r ≡ Err e → r ≡ Err x → e ≡ x
one_cause r e x was is = cc

early_handed : {A B E : Type 0} (S : Type 0) (o : Option E) (r : Result A E) (e : E) (r' : Result B E) → IfSome o (λ x. (r ≡ Err x) × S) → r ≡ Err e → r' ≡ Err e → IfSome o (λ x. (r' ≡ Err x) × S)
early_handed S None r e r' early was handed = tt
early_handed S (Some x) r e r' early was handed = (handed ∙ ap Err (one_cause r e x was early.0), early.1)

-- why a write is refused before it begins
writing_early : (failed lacks beyond closed : Bool) (x : ImageError) → option_or (option_or (refuse_if failed I.Failed) (refuse_if lacks I.Dependency)) (option_or (refuse_if beyond I.BeyondSize) (refuse_if closed I.ReadOnly)) ≡ Some x → IsOfWriting x
writing_early true lacks beyond closed x is = let same : I.Failed ≡ x = cc in subst IsOfWriting same (inl (inr (inr (inl refl))))
writing_early false true beyond closed x is = let same : I.Dependency ≡ x = cc in subst IsOfWriting same (inl (inr (inr (inr refl))))
writing_early false false true closed x is = let same : I.BeyondSize ≡ x = cc in subst IsOfWriting same (inl (inr (inl refl)))
writing_early false false false true x is = let same : I.ReadOnly ≡ x = cc in subst IsOfWriting same (inr (inl refl))
writing_early false false false false x is = absurd cc

refused_writing : {A : Type 0} (S : Type 0) (o : Option ImageError) (r : Result A ImageError) (e : ImageError) → IfSome o (λ x. (r ≡ Err x) × S) → r ≡ Err e → ((x : ImageError) → o ≡ Some x → IsOfWriting x) → (o ≡ None → IsOfWriting e) → IsOfWriting e
refused_writing S None r e early was each late = late refl
refused_writing S (Some x) r e early was each late = subst IsOfWriting (sym (one_cause r e x was early.0)) (each x refl)

-- a range of no bytes is prepared as a mapping of none
none_long : {S F : Type 0} (old : Qcow2 S F) (offset n : ℕ) (new : Qcow2 S F) (r : Result Prepared ImageError) (p : Prepared) → IfSome (refuses_to_prepare old offset n) (λ e. (r ≡ Err e) × (new ≡ old))
    → (refuses_to_prepare old offset 0 ≡ None → n ≡ 0 → IsOk r × IfOk r IsOfNothing × (new ≡ old)) → r ≡ Ok p → n ≡ 0 → length_of p ≡ 0
none_long old offset n new r p early nothing was zero = (subst (λ x. IfOk x IsOfNothing) was (nothing (unrefused (refuses_to_prepare old offset 0) (subst (λ k. IfSome (refuses_to_prepare old offset k) (λ e. (r ≡ Err e) × (new ≡ old))) zero early)) zero).1).2
  where
    unrefused : (o : Option ImageError) → IfSome o (λ e. (r ≡ Err e) × (new ≡ old)) → o ≡ None
    unrefused None refuses = refl
    unrefused (Some e) refuses = absurd (let no : Ok p ≡ Err e = sym was ∙ refuses.0 in cc)

-- no bytes are put into a mapping where none were to be prepared, or it has none
none_of_none : (k n m : ℕ) → k ≡ min n m → (n ≡ 0 → m ≡ 0) → k ≡ 0 → m ≡ 0
none_of_none k n m long none zero = elim (cases_lt 0 n) [
  | inl some ↦ omega (arith, long, some, zero)
  | inr least ↦ none (omega (arith, least))
]

pub returns-in_err-prepared-clause-sees : goal.returns-in_err-prepared-clause-sees
returns-in_err-prepared-clause-sees g c =
    let view = g.S.Storage.view in
    let below = g.F.BackingDisk.backing in
    let old = c.args.image.now in
    let new = c.prepare_data_mapping.new.self in
    let e = c.in_err-prepared.field-0.0 in
    subst (λ r. WritesFirst view below old new c.args.offset c.args.bytes.now r) (sym (refused_is _ e c.from_residual.ensures))
    (λ out. refuses_if (may_write_none (refusal_of e) (guest_of (abstract_of view below old out)) (guest_of (abstract_of view below new out)) c.args.offset c.args.bytes.now)
    (refuses_less (none_within (abstract_of view below old out) (given_of c.args.offset c.args.bytes.now ∷ [])) (c.in_err-prepared.ensures.sees out)))

pub returns-in-Err-clause-sees : goal.returns-in-Err-clause-sees
returns-in-Err-clause-sees g c = λ out.
    let view = g.S.Storage.view in
    let below = g.F.BackingDisk.backing in
    let p = c.in_ok-prepared.prepared in
    put_refused (abstraction_at view below out.place) (free_places view below out.place) (data_inside view below out.place) c.args.image.now c.prepare_data_mapping.new.self p out.slots c.args.offset (length c.args.bytes.now) c.args.bytes.now (take c.min-count.result c.args.bytes.now)
    (cut_long c.min-count.result (length_of p) c.args.bytes.now (c.min-count.ensures ∙ ap (λ k. min (length c.args.bytes.now) k) c.length.ensures)) (cut_short c.min-count.result c.args.bytes.now) (cut_part c.min-count.result c.args.bytes.now) (pow_pos c.args.image.now.file.header.fields.cluster_bits) (none_long c.args.image.now c.args.offset (length c.args.bytes.now) c.prepare_data_mapping.new.self c.prepare_data_mapping.result p c.prepare_data_mapping.ensures.refusals.early c.prepare_data_mapping.ensures.refusals.nothing c.in_ok-prepared.was) (λ past. past) (c.in_ok-prepared.ensures.sees (put_first None out) 0 refl)
    c.write_mapped.new.self c.release.new.image (refusal_of c.in-Err.refusal) (c.in-Err.ensures.sees (put_first (Some p) out) 0 refl) (c.release.ensures.sees (put_first (Some p) out) 0 refl)

pub returns-in-Ok-clause-sees : goal.returns-in-Ok-clause-sees
returns-in-Ok-clause-sees g c = λ out.
    let view = g.S.Storage.view in
    let below = g.F.BackingDisk.backing in
    let old = c.args.image.now in
    let mid = c.prepare_data_mapping.new.self in
    let p = c.in_ok-prepared.prepared in
    let n = length c.args.bytes.now in
    let count = c.min-count.result in
    let chunk = take count c.args.bytes.now in
    let long : length chunk ≡ min n (length_of p) = cut_long count (length_of p) c.args.bytes.now (c.min-count.ensures ∙ ap (λ k. min n k) c.length.ensures) in
    written (abstraction_at view below out.place) (free_places view below out.place) (data_inside view below out.place) old mid p out.slots c.args.offset n chunk chunk long (omega arith) (λ i lt. refl) (pow_pos old.file.header.fields.cluster_bits)
    (none_of_none (length chunk) n (length_of p) long (none_long old c.args.offset n mid c.prepare_data_mapping.result p c.prepare_data_mapping.ensures.refusals.early c.prepare_data_mapping.ensures.refusals.nothing c.in_ok-prepared.was)) (λ past. omega (arith, past, long)) (c.in_ok-prepared.ensures.sees (put_first None out) 0 refl)
    c.write_mapped.new.self (c.in_default.ensures.sees (put_first (Some p) out) 0 refl) c.commit_data_mapping.new.self (c.in-Ok.ensures.sees (put_first (Some p) out) 0 refl)

pub returns-in-Err-Spent-clause-sees : goal.returns-in-Err-Spent-clause-sees
returns-in-Err-Spent-clause-sees g c = λ out.
    let view = g.S.Storage.view in
    let below = g.F.BackingDisk.backing in
    let p = c.in_ok-prepared.prepared in
    let refused = subst (λ r. Commits view below c.write_mapped.new.self c.commit_data_mapping.new.self p (Err r)) c.in-Err-Spent.field-0-is c.in-Err-Spent.ensures.sees (put_first (Some p) out) 0 refl in
    commit_old_tables (abstraction_at view below out.place) (free_places view below out.place) (data_inside view below out.place) c.args.image.now c.prepare_data_mapping.new.self p out.slots c.args.offset (length c.args.bytes.now) c.args.bytes.now (take c.min-count.result c.args.bytes.now)
    (cut_long c.min-count.result (length_of p) c.args.bytes.now (c.min-count.ensures ∙ ap (λ k. min (length c.args.bytes.now) k) c.length.ensures)) (cut_short c.min-count.result c.args.bytes.now) (cut_part c.min-count.result c.args.bytes.now) (pow_pos c.args.image.now.file.header.fields.cluster_bits) (none_long c.args.image.now c.args.offset (length c.args.bytes.now) c.prepare_data_mapping.new.self c.prepare_data_mapping.result p c.prepare_data_mapping.ensures.refusals.early c.prepare_data_mapping.ensures.refusals.nothing c.in_ok-prepared.was) (λ past. past) (c.in_ok-prepared.ensures.sees (put_first None out) 0 refl)
    c.write_mapped.new.self (c.in_default.ensures.sees (put_first (Some p) out) 0 refl) c.commit_data_mapping.new.self (refusal_of c.in-Err-Spent.refusal) refused.0 refused.1

pub returns-in-Err-Kept-clause-sees : goal.returns-in-Err-Kept-clause-sees
returns-in-Err-Kept-clause-sees g c = λ out.
    let view = g.S.Storage.view in
    let below = g.F.BackingDisk.backing in
    let p = c.in_ok-prepared.prepared in
    let same : c.in-Err-Kept.prepared ≡ p = subst (λ r. IsHandedBackBy p r) c.in-Err-Kept.field-0-is c.in-Err-Kept.ensures.refusals.kept in
    let refused = subst (λ r. Commits view below c.write_mapped.new.self c.commit_data_mapping.new.self p (Err r)) (c.in-Err-Kept.field-0-is ∙ ap (λ q. Kept c.in-Err-Kept.refusal q) same) c.in-Err-Kept.ensures.sees (put_first (Some p) out) 0 refl in
    commit_kept (abstraction_at view below out.place) (free_places view below out.place) (data_inside view below out.place) c.args.image.now c.prepare_data_mapping.new.self p out.slots c.args.offset (length c.args.bytes.now) c.args.bytes.now (take c.min-count.result c.args.bytes.now)
    (cut_long c.min-count.result (length_of p) c.args.bytes.now (c.min-count.ensures ∙ ap (λ k. min (length c.args.bytes.now) k) c.length.ensures)) (cut_short c.min-count.result c.args.bytes.now) (cut_part c.min-count.result c.args.bytes.now) (pow_pos c.args.image.now.file.header.fields.cluster_bits) (none_long c.args.image.now c.args.offset (length c.args.bytes.now) c.prepare_data_mapping.new.self c.prepare_data_mapping.result p c.prepare_data_mapping.ensures.refusals.early c.prepare_data_mapping.ensures.refusals.nothing c.in_ok-prepared.was) (λ past. past) (c.in_ok-prepared.ensures.sees (put_first None out) 0 refl)
    c.write_mapped.new.self (c.in_default.ensures.sees (put_first (Some p) out) 0 refl) c.commit_data_mapping.new.self c.release-in-Err-Kept.new.image (refusal_of c.in-Err-Kept.refusal) refused.0 refused.1
    (c.release-in-Err-Kept.ensures.sees (put_first (Some p) out) 0 (ap (λ q. Some (Some q)) (sym same)))

-- more than none
some_bytes : (n : ℕ) → (n ≡ 0 → ⊥) → 0 < n
some_bytes n none = elim (cases_lt 0 n) [
  | inl some ↦ some
  | inr least ↦ absurd (none (omega (arith, least)))
]

pub returns-in-Err-clause-fails : goal.returns-in-Err-clause-fails
returns-in-Err-clause-fails g c =
    let old = c.args.image.now in
    let mid = c.prepare_data_mapping.new.self in
    let p = c.in_ok-prepared.prepared in
    let n = length c.args.bytes.now in
    let may : refuses_to_prepare old c.args.offset n ≡ None → MayFailOn c.write_mapped.new.self c.in-Err.refusal = λ none. put_met old mid c.prepare_data_mapping.ensures.step.image (image_of p) c.args.offset n (length (take c.min-count.result c.args.bytes.now)) c.in-Err.refusal
    c.in_ok-prepared.ensures.answer.own c.in_ok-prepared.ensures.step.marks (λ empty. grind (arith, common_steps)) none (λ usable writes current. putting_met c.prepare_data_mapping.new.self c.write_mapped.new.self c.in_ok-prepared.prepared 0 (length (take c.min-count.result c.args.bytes.now)) c.in-Err.refusal current (c.in-Err.ensures.refusals.late usable writes)) (λ usable empty. let no = (c.in-Err.ensures.refusals.nothing usable empty).0 in absurd cc)
    (λ usable some more. put_current mid c.write_mapped.new.self p c.args.offset n (length (take c.min-count.result c.args.bytes.now)) c.in-Err.refusal (c.in_ok-prepared.ensures.existing some none)
    (let long = length-take c.min-count.result c.args.bytes.now in omega (arith, long)) c.in-Err.ensures.private (λ existing. c.in-Err.ensures.held usable existing more)) in
    record {
      early = nothing_refused _ _ (refuses_to_prepare c.args.image.now c.args.offset (length c.args.bytes.now)) c.prepare_data_mapping.result c.in_ok-prepared.prepared c.prepare_data_mapping.ensures.refusals.early c.in_ok-prepared.was;
      late = λ none. (
        inl (met_kept (released_offsets g.S.Storage.view c.write_mapped.new.self c.release.new.image c.release.ensures.rest) c.in-Err.refusal (may none)),
        some_bytes n (λ empty.
            let usable = mapping_usable old mid c.prepare_data_mapping.ensures.step.image (image_of p) c.in_ok-prepared.ensures.answer.own c.in_ok-prepared.ensures.step.marks (prepares_usable old c.args.offset n none) in
            let no = (c.in-Err.ensures.refusals.nothing usable (grind (arith, common_steps))).0 in absurd cc),
      );
      beyond = search rules;
      cause = inl (inl (met_any c.write_mapped.new.self c.in-Err.refusal (may (none_refused _ (refuses_to_prepare old c.args.offset n) c.in_ok-prepared.prepared c.in_ok-prepared.ensures.refusals.early))));
    }

pub returns-in-Err-Spent-clause-fails : goal.returns-in-Err-Spent-clause-fails
returns-in-Err-Spent-clause-fails g c = record {
  early = search rules;
  late = λ none.
      let old = c.args.image.now in
      let n = length c.args.bytes.now in
      let own = c.in_ok-prepared.ensures.answer.own ∙ sym (c.write_mapped.ensures.step.image.number ∙ c.prepare_data_mapping.ensures.step.image.number) in
      let works = c.in_default.ensures.step.marks ∙ c.in_ok-prepared.ensures.step.marks ∙ not_failed_yet old c.prepare_data_mapping.new.self c.prepare_data_mapping.ensures.step.image (prepares_usable old c.args.offset n none) in (
        inl (freeing_met _ c.in-Err-Spent.refusal (subst (λ r. IsFaultOrLimit (reason_of r)) c.in-Err-Spent.field-0-is (c.in-Err-Spent.ensures.refusals.late own works))),
        some_bytes n (λ empty.
            let nothing = (c.in_ok-prepared.ensures.refusals.nothing (ap (λ k. refuses_to_prepare old c.args.offset k) (sym empty) ∙ none) empty).1 in
            let no = (c.in-Err-Spent.ensures.existing own works nothing.0).0 in absurd cc),
      );
  beyond = search rules;
  cause = let old = c.args.image.now in
      let n = length c.args.bytes.now in
      let none = none_refused _ (refuses_to_prepare old c.args.offset n) c.in_ok-prepared.prepared c.in_ok-prepared.ensures.refusals.early in
      let own = c.in_ok-prepared.ensures.answer.own ∙ sym (c.write_mapped.ensures.step.image.number ∙ c.prepare_data_mapping.ensures.step.image.number) in
      let works = c.in_default.ensures.step.marks ∙ c.in_ok-prepared.ensures.step.marks ∙ not_failed_yet old c.prepare_data_mapping.new.self c.prepare_data_mapping.ensures.step.image (prepares_usable old c.args.offset n none) in
      inl (inl (freeing_met _ c.in-Err-Spent.refusal (subst (λ r. IsFaultOrLimit (reason_of r)) c.in-Err-Spent.field-0-is (c.in-Err-Spent.ensures.refusals.late own works))));
}

pub returns-in-Err-Kept-clause-fails : goal.returns-in-Err-Kept-clause-fails
returns-in-Err-Kept-clause-fails g c = record {
  early = nothing_refused _ _ (refuses_to_prepare c.args.image.now c.args.offset (length c.args.bytes.now)) c.prepare_data_mapping.result c.in_ok-prepared.prepared c.prepare_data_mapping.ensures.refusals.early c.in_ok-prepared.was;
  late = λ none.
      let old = c.args.image.now in
      let n = length c.args.bytes.now in
      let own = c.in_ok-prepared.ensures.answer.own ∙ sym (c.write_mapped.ensures.step.image.number ∙ c.prepare_data_mapping.ensures.step.image.number) in
      let works = c.in_default.ensures.step.marks ∙ c.in_ok-prepared.ensures.step.marks ∙ not_failed_yet old c.prepare_data_mapping.new.self c.prepare_data_mapping.ensures.step.image (prepares_usable old c.args.offset n none) in (
        inl (freeing_met _ c.in-Err-Kept.refusal (subst (λ r. IsFaultOrLimit (reason_of r)) c.in-Err-Kept.field-0-is (c.in-Err-Kept.ensures.refusals.late own works))),
        some_bytes n (λ empty.
            let nothing = (c.in_ok-prepared.ensures.refusals.nothing (ap (λ k. refuses_to_prepare old c.args.offset k) (sym empty) ∙ none) empty).1 in
            let no = (c.in-Err-Kept.ensures.existing own works nothing.0).0 in absurd cc),
      );
  beyond = search rules;
  cause = let old = c.args.image.now in
      let n = length c.args.bytes.now in
      let none = none_refused _ (refuses_to_prepare old c.args.offset n) c.in_ok-prepared.prepared c.in_ok-prepared.ensures.refusals.early in
      let own = c.in_ok-prepared.ensures.answer.own ∙ sym (c.write_mapped.ensures.step.image.number ∙ c.prepare_data_mapping.ensures.step.image.number) in
      let works = c.in_default.ensures.step.marks ∙ c.in_ok-prepared.ensures.step.marks ∙ not_failed_yet old c.prepare_data_mapping.new.self c.prepare_data_mapping.ensures.step.image (prepares_usable old c.args.offset n none) in
      inl (inl (freeing_met _ c.in-Err-Kept.refusal (subst (λ r. IsFaultOrLimit (reason_of r)) c.in-Err-Kept.field-0-is (c.in-Err-Kept.ensures.refusals.late own works))));
}

pub returns-in_err-prepared-clause-fails : goal.returns-in_err-prepared-clause-fails
returns-in_err-prepared-clause-fails g c = record {
  early = early_handed _ (refuses_to_prepare c.args.image.now c.args.offset (length c.args.bytes.now)) c.prepare_data_mapping.result c.in_err-prepared.field-0.0 c.from_residual.result
      c.prepare_data_mapping.ensures.refusals.early c.in_err-prepared.was (refused_is _ c.in_err-prepared.field-0.0 c.from_residual.ensures);
  late = λ none.
      let old = c.args.image.now in
      let n = length c.args.bytes.now in
      subst (λ r. IfErr r (λ e. MayFailPreparing c.prepare_data_mapping.new.self e × (0 < n))) (sym (refused_is _ c.in_err-prepared.field-0.0 c.from_residual.ensures))
      (c.in_err-prepared.ensures.refusals.late none, some_bytes n (λ empty. let no = (c.in_err-prepared.ensures.refusals.nothing (ap (λ k. refuses_to_prepare old c.args.offset k) (sym empty) ∙ none) empty).0 in absurd cc));
  beyond = search rules;
  cause = let old = c.args.image.now in
      let n = length c.args.bytes.now in
      let e = c.in_err-prepared.field-0.0 in
      subst (λ (r : Result _ _). IfErr r IsOfWriting) (sym (refused_is _ e c.from_residual.ensures))
      (refused_writing _ (refuses_to_prepare old c.args.offset n) c.prepare_data_mapping.result e c.prepare_data_mapping.ensures.refusals.early c.in_err-prepared.was
      (λ x is. writing_early (is_failed old) (lacks_data_file old) (passes (size_of old) c.args.offset n) (nat_lt 0 n && not (is_writable old)) x is)
      (λ none. elim (c.in_err-prepared.ensures.refusals.late none) [ inl may ↦ inl (inl (met_any c.prepare_data_mapping.new.self e may)) | inr pinned ↦ inr (inr pinned.0) ]));
}

-- so many of the first bytes are put
chunk_long : (n m : ℕ) (bytes : List ℕ) → n ≡ min (length bytes) m → length (take n bytes) ≡ n
chunk_long n m bytes is = grind (arith, common_steps)

pub returns-in-Err-clause-step : goal.returns-in-Err-clause-step
returns-in-Err-clause-step g c = record {
  image = search rules;
  faults = search rules;
  header_cluster = behind_then (behind_then c.prepare_data_mapping.ensures.step.header_cluster c.write_mapped.ensures.step.header_cluster) c.release.ensures.header_cluster;
  marks = parts_before g.S.Storage.view (Some c.in-Err.refusal) c.args.image.now c.write_mapped.new.self c.release.new.image c.release.ensures.marks (counts_released g.S.Storage.view c.write_mapped.new.self c.release.new.image c.release.ensures.rest)
      (parts_behind g.S.Storage.view (Some c.in-Err.refusal) c.args.image.now c.prepare_data_mapping.new.self c.write_mapped.new.self c.in_ok-prepared.ensures.step.marks c.in_ok-prepared.ensures.step.once_written.counts (in_parts g.S.Storage.view (refused_at_once g.S.Storage.view c.prepare_data_mapping.new.self c.write_mapped.new.self c.in-Err.refusal c.in-Err.ensures.step.once_written c.in-Err.ensures.step.marks)));
  quiet = λ reading.
      let view = g.S.Storage.view in
      let old = c.args.image.now in
      let mid = c.prepare_data_mapping.new.self in
      let made = prepare_same old reading _ c.args.offset (length c.args.bytes.now) c.prepare_data_mapping.ensures.refusals.early c.prepare_data_mapping.ensures.refusals.nothing in
      let put = c.write_mapped.new.self in
      let same : put ≡ old = put_same mid (ap is_writable made ∙ reading) _ (refuses_mapping mid (image_of c.in_ok-prepared.prepared)) _ c.write_mapped.ensures.refusals.early c.write_mapped.ensures.refusals.read_only c.write_mapped.ensures.refusals.nothing ∙ made in
      written_then view (quiet_image view old put same) (quiet_release view put c.release.new.image c.release.ensures.rest);
}

pub returns-in-Ok-clause-step : goal.returns-in-Ok-clause-step
returns-in-Ok-clause-step g c = record {
  image = search rules;
  faults = search rules;
  header_cluster = behind_then (behind_then c.prepare_data_mapping.ensures.step.header_cluster c.write_mapped.ensures.step.header_cluster) c.commit_data_mapping.ensures.step.header_cluster;
  marks = parts_answered g.S.Storage.view c.args.image.now c.commit_data_mapping.new.self (c.in-Ok.ensures.step.marks ∙ c.in_default.ensures.step.marks ∙ c.in_ok-prepared.ensures.step.marks) (counts_on g.S.Storage.view c.args.image.now c.write_mapped.new.self c.commit_data_mapping.new.self (counts_on g.S.Storage.view c.args.image.now c.prepare_data_mapping.new.self c.write_mapped.new.self c.in_ok-prepared.ensures.step.once_written.counts c.in_default.ensures.step.once_written.counts) c.in-Ok.ensures.step.once_written.counts);
  quiet = λ reading.
      let view = g.S.Storage.view in
      let old = c.args.image.now in
      let mid = c.prepare_data_mapping.new.self in
      let made = prepare_same old reading _ c.args.offset (length c.args.bytes.now) c.prepare_data_mapping.ensures.refusals.early c.prepare_data_mapping.ensures.refusals.nothing in
      let put = c.write_mapped.new.self in
      let p = c.in_ok-prepared.prepared in
      let same : put ≡ old = put_same mid (ap is_writable made ∙ reading) _ (refuses_mapping mid (image_of p)) _ c.write_mapped.ensures.refusals.early c.write_mapped.ensures.refusals.read_only c.write_mapped.ensures.refusals.nothing ∙ made in
      let none = nothing_prepared old reading _ p c.args.offset (length c.args.bytes.now) c.in_ok-prepared.ensures.refusals.early c.in_ok-prepared.ensures.refusals.nothing in
      let own = c.in_ok-prepared.ensures.answer.own ∙ sym (ap number_of same) in
      written_then view (quiet_image view old put same) (quiet_commit view put c.commit_data_mapping.new.self (c.commit_data_mapping.ensures.refusals.failed own) (λ works. c.commit_data_mapping.ensures.existing own works none.0));
}

pub returns-in-Err-Spent-clause-step : goal.returns-in-Err-Spent-clause-step
returns-in-Err-Spent-clause-step g c = record {
  image = search rules;
  faults = let view = g.S.Storage.view in
      let below = g.F.BackingDisk.backing in
      let first = faults_then view below c.args.image.now c.prepare_data_mapping.new.self c.write_mapped.new.self c.in_ok-prepared.ensures.step.faults.told c.in_default.ensures.step.faults.told in
      commit_since view below c.args.image.now c.write_mapped.new.self c.commit_data_mapping.new.self c.in-Err-Spent.field-0 c.in-Err-Spent.refusal (ap reason_of c.in-Err-Spent.field-0-is) first c.in-Err-Spent.ensures.step.faults;
  header_cluster = behind_then (behind_then c.prepare_data_mapping.ensures.step.header_cluster c.write_mapped.ensures.step.header_cluster) c.commit_data_mapping.ensures.step.header_cluster;
  marks = parts_behind g.S.Storage.view (Some c.in-Err-Spent.refusal) c.args.image.now c.write_mapped.new.self c.commit_data_mapping.new.self (c.in_default.ensures.step.marks ∙ c.in_ok-prepared.ensures.step.marks) (counts_on g.S.Storage.view c.args.image.now c.prepare_data_mapping.new.self c.write_mapped.new.self c.in_ok-prepared.ensures.step.once_written.counts c.in_default.ensures.step.once_written.counts) (in_parts g.S.Storage.view (subst (λ r. MarksAtOnce g.S.Storage.view (Some (reason_of r)) c.write_mapped.new.self c.commit_data_mapping.new.self) c.in-Err-Spent.field-0-is (commit_at_once g.S.Storage.view c.write_mapped.new.self c.commit_data_mapping.new.self _ c.in-Err-Spent.ensures.step.once_written c.in-Err-Spent.ensures.step.marks)));
  quiet = λ reading.
      let view = g.S.Storage.view in
      let old = c.args.image.now in
      let mid = c.prepare_data_mapping.new.self in
      let made = prepare_same old reading _ c.args.offset (length c.args.bytes.now) c.prepare_data_mapping.ensures.refusals.early c.prepare_data_mapping.ensures.refusals.nothing in
      let put = c.write_mapped.new.self in
      let p = c.in_ok-prepared.prepared in
      let same : put ≡ old = put_same mid (ap is_writable made ∙ reading) _ (refuses_mapping mid (image_of p)) _ c.write_mapped.ensures.refusals.early c.write_mapped.ensures.refusals.read_only c.write_mapped.ensures.refusals.nothing ∙ made in
      let none = nothing_prepared old reading _ p c.args.offset (length c.args.bytes.now) c.in_ok-prepared.ensures.refusals.early c.in_ok-prepared.ensures.refusals.nothing in
      let own = c.in_ok-prepared.ensures.answer.own ∙ sym (ap number_of same) in
      written_then view (quiet_image view old put same) (quiet_commit view put c.commit_data_mapping.new.self (c.commit_data_mapping.ensures.refusals.failed own) (λ works. c.commit_data_mapping.ensures.existing own works none.0));
}

pub returns-in-Err-Kept-clause-step : goal.returns-in-Err-Kept-clause-step
returns-in-Err-Kept-clause-step g c = record {
  image = search rules;
  faults = let view = g.S.Storage.view in
      let below = g.F.BackingDisk.backing in
      let e = c.in-Err-Kept.refusal in
      let first = faults_then view below c.args.image.now c.prepare_data_mapping.new.self c.write_mapped.new.self c.in_ok-prepared.ensures.step.faults.told c.in_default.ensures.step.faults.told in
      let told : CountsImageFaults view below {T = ℕ} c.args.image.now c.commit_data_mapping.new.self (Err e) = commit_since view below c.args.image.now c.write_mapped.new.self c.commit_data_mapping.new.self c.in-Err-Kept.field-0 e (ap reason_of c.in-Err-Kept.field-0-is) first c.in-Err-Kept.ensures.step.faults in
      counted_still view below c.args.image.now c.commit_data_mapping.new.self c.release-in-Err-Kept.new.image (Err e) told c.release-in-Err-Kept.ensures.faults;
  header_cluster = behind_then (behind_then (behind_then c.prepare_data_mapping.ensures.step.header_cluster c.write_mapped.ensures.step.header_cluster) c.commit_data_mapping.ensures.step.header_cluster) c.release-in-Err-Kept.ensures.header_cluster;
  marks = parts_before g.S.Storage.view (Some c.in-Err-Kept.refusal) c.args.image.now c.commit_data_mapping.new.self c.release-in-Err-Kept.new.image c.release-in-Err-Kept.ensures.marks (counts_released g.S.Storage.view c.commit_data_mapping.new.self c.release-in-Err-Kept.new.image c.release-in-Err-Kept.ensures.rest)
      (parts_behind g.S.Storage.view (Some c.in-Err-Kept.refusal) c.args.image.now c.write_mapped.new.self c.commit_data_mapping.new.self (c.in_default.ensures.step.marks ∙ c.in_ok-prepared.ensures.step.marks) (counts_on g.S.Storage.view c.args.image.now c.prepare_data_mapping.new.self c.write_mapped.new.self c.in_ok-prepared.ensures.step.once_written.counts c.in_default.ensures.step.once_written.counts) (in_parts g.S.Storage.view (subst (λ r. MarksAtOnce g.S.Storage.view (Some (reason_of r)) c.write_mapped.new.self c.commit_data_mapping.new.self) c.in-Err-Kept.field-0-is (commit_at_once g.S.Storage.view c.write_mapped.new.self c.commit_data_mapping.new.self _ c.in-Err-Kept.ensures.step.once_written c.in-Err-Kept.ensures.step.marks))));
  quiet = λ reading.
      let view = g.S.Storage.view in
      let old = c.args.image.now in
      let mid = c.prepare_data_mapping.new.self in
      let made = prepare_same old reading _ c.args.offset (length c.args.bytes.now) c.prepare_data_mapping.ensures.refusals.early c.prepare_data_mapping.ensures.refusals.nothing in
      let put = c.write_mapped.new.self in
      let p = c.in_ok-prepared.prepared in
      let same : put ≡ old = put_same mid (ap is_writable made ∙ reading) _ (refuses_mapping mid (image_of p)) _ c.write_mapped.ensures.refusals.early c.write_mapped.ensures.refusals.read_only c.write_mapped.ensures.refusals.nothing ∙ made in
      let none = nothing_prepared old reading _ p c.args.offset (length c.args.bytes.now) c.in_ok-prepared.ensures.refusals.early c.in_ok-prepared.ensures.refusals.nothing in
      let own = c.in_ok-prepared.ensures.answer.own ∙ sym (ap number_of same) in
      let second = written_then view (quiet_image view old put same) (quiet_commit view put c.commit_data_mapping.new.self (c.commit_data_mapping.ensures.refusals.failed own) (λ works. c.commit_data_mapping.ensures.existing own works none.0)) in
      written_then view second (quiet_release view c.commit_data_mapping.new.self c.release-in-Err-Kept.new.image c.release-in-Err-Kept.ensures.rest);
}

pub returns-in_err-prepared-clause-step : goal.returns-in_err-prepared-clause-step
returns-in_err-prepared-clause-step g c = record {
  image = search rules;
  faults = search rules;
  header_cluster = search rules;
  marks = parts_handed g.S.Storage.view _ c.in_err-prepared.field-0.0 c.args.image.now c.prepare_data_mapping.new.self (refused_is _ c.in_err-prepared.field-0.0 c.from_residual.ensures) (in_parts g.S.Storage.view (refused_at_once g.S.Storage.view c.args.image.now c.prepare_data_mapping.new.self c.in_err-prepared.field-0.0 c.in_err-prepared.ensures.step.once_written c.in_err-prepared.ensures.step.marks));
  quiet = λ reading.
      let old = c.args.image.now in
      quiet_image g.S.Storage.view old c.prepare_data_mapping.new.self (prepare_same old reading _ c.args.offset (length c.args.bytes.now) c.prepare_data_mapping.ensures.refusals.early c.prepare_data_mapping.ensures.refusals.nothing);
}

pub returns-in_err-prepared-clause-sound : goal.returns-in_err-prepared-clause-sound
returns-in_err-prepared-clause-sound g c = λ out sound. record {
  refused = λ none.
      let view = g.S.Storage.view in
      let old = c.args.image.now in
      let n = length c.args.bytes.now in
      let some = some_bytes n (λ empty. let no = (c.in_err-prepared.ensures.refusals.nothing (ap (λ k. refuses_to_prepare old c.args.offset k) (sym empty) ∙ none) empty).0 in absurd cc) in
      let new = c.prepare_data_mapping.new.self in
      let e = c.in_err-prepared.field-0.0 in
      let call = c.in_err-prepared.ensures.sees out in
      record {
        may_fail = subst (λ r. IfErr r (MayFailAllocating (HasPinnedMapping out) (IsUnderMapping old.file.header.fields c.args.offset out) (CopiesCompressed c.args.offset n true new.file.header.fields (known_in view new.file)) (NeedsOverflowingL1Entry old c.args.offset))) (sym (refused_is _ e c.from_residual.ensures))
            (⊎_elim (λ still. taking_as (λ held. held) (λ taken. under_taken taken) (compressed_behind view g.F.BackingDisk.backing out old new sound still.0 (call.acts.works sound) c.args.offset n) (λ far. far) e ((c.in_err-prepared.ensures.sound out sound).may_fail none some)) (λ failed. inl (inl (inl (fault_of e failed.0)))) (call.answer sound));
        taken = subst (λ r. RespectsFirst g.S.Storage.view g.F.BackingDisk.backing old out c.args.offset n r) (sym (refused_is _ c.in_err-prepared.field-0.0 c.from_residual.ensures))
            (λ is. (
              elim (cases_lt 0 n) [
                | inl some ↦ some
                | inr least ↦ absurd (let empty : n ≡ 0 = omega (arith, least) in let no = (c.in_err-prepared.ensures.refusals.nothing (ap (λ k. refuses_to_prepare old c.args.offset k) (sym empty) ∙ none) empty).0 in cc)
              ],
              (c.in_err-prepared.ensures.sound out sound).taken none is,
            ));
        limit = subst (λ r. IfLimit r (IsLimited view g.F.BackingDisk.backing [] (c.args.offset + n) old out)) (sym (refused_is _ e c.from_residual.ensures))
            (λ is. limited_upto (omega (arith, some)) ((c.in_err-prepared.ensures.sound out sound).limit none some is));
      };
  freeing = search rules;
  ends = search rules;
  copied = search rules;
}

pub returns-in-Ok-clause-sound : goal.returns-in-Ok-clause-sound
returns-in-Ok-clause-sound g c = λ out sound. record {
  refused = λ none.
      let view = g.S.Storage.view in
      let below = g.F.BackingDisk.backing in
      let old = c.args.image.now in
      let mid = c.prepare_data_mapping.new.self in
      let p = c.in_ok-prepared.prepared in
      let n = length c.args.bytes.now in
      let call = c.in_ok-prepared.ensures.sees (put_first None out) 0 refl in
      let free_place = (free_places view below out.place).free old [] out.slots sound in
      let prepared = call.answer free_place in
      let same : cluster_size_of mid ≡ cluster_size_of old = ap (λ (x : Setting). x.cluster_size) (call.acts.works free_place).setting in
      record {
        may_fail = search rules;
        limit = search rules;
        taken = λ some. let maps = (c.in_ok-prepared.ensures.sound out sound).maps some in
            let count_is : c.min-count.result ≡ min n (length_of p) = c.min-count.ensures ∙ ap (λ k. min n k) c.length.ensures in
            let within = maps.within in (
              omega (arith, count_is, within),
              untaken_beside view below old.file.header.fields (known_in view old.file) mid out p (meaning view below out.place mid p) c.args.offset n prepared.0 same prepared.1.0.from maps,
            );
      };
  freeing =
      let old = c.args.image.now in
      let p = c.in_ok-prepared.prepared in
      let n = length c.args.bytes.now in
      let prepared = (c.in_ok-prepared.ensures.sees (put_first None out) 0 refl).answer ((free_places g.S.Storage.view g.F.BackingDisk.backing out.place).free old [] out.slots sound) in
      let ready = (c.in_default.ensures.sees (put_first (Some p) out) 0 refl).answer prepared.0 in
      let own = c.in_ok-prepared.ensures.answer.own ∙ sym (c.write_mapped.ensures.step.image.number ∙ c.prepare_data_mapping.ensures.step.image.number) in
      existing_or_not (table_of p)
      (λ existing.
      let none = ap is_some existing in
      let stays = (c.in-Ok.ensures.stands (put_first (Some p) out) 0 refl ready.0).freeing none ∙ c.write_mapped.ensures.step.list in
      no_more_then old c.prepare_data_mapping.new.self c.commit_data_mapping.new.self ((c.in_ok-prepared.ensures.sound out sound).freeing none) (inl stays))
      (λ table. elim (cases_Bool (is_writable old)) [
        | inl writable ↦ inr (c.in-Ok.ensures.emptied own table (c.write_mapped.ensures.step.image.writable ∙ c.prepare_data_mapping.ensures.step.image.writable ∙ writable))
        | inr reading ↦
            let nothing = nothing_prepared old reading _ p c.args.offset n c.in_ok-prepared.ensures.refusals.early c.in_ok-prepared.ensures.refusals.nothing in
            absurd (let no : false ≡ true = sym nothing.0 ∙ table in cc)
      ]);
  ends = λ short.
      let old = c.args.image.now in
      let mid = c.prepare_data_mapping.new.self in
      let maps = (c.in_ok-prepared.ensures.sound out sound).maps (omega arith) in
      let prepared = c.in_ok-prepared.ensures.sees (put_first None out) 0 refl in
      let same : cluster_size_of mid ≡ cluster_size_of old = ap (λ (x : Setting). x.cluster_size) (prepared.acts.works ((free_places g.S.Storage.view g.F.BackingDisk.backing out.place).free old [] out.slots sound)).setting in
      chunk_ends old mid c.args.offset (length c.args.bytes.now) c.min-count.result (length_of c.in_ok-prepared.prepared) (c.min-count.ensures ∙ ap (λ k. min (length c.args.bytes.now) k) c.length.ensures) short same (λ less. (maps.short less).cluster);
  copied = λ some.
      let view = g.S.Storage.view in
      let below = g.F.BackingDisk.backing in
      let old = c.args.image.now in
      let mid = c.prepare_data_mapping.new.self in
      let put = c.write_mapped.new.self in
      let new = c.commit_data_mapping.new.self in
      let p = c.in_ok-prepared.prepared in
      let offset = c.args.offset in
      let count = c.min-count.result in
      let n = length c.args.bytes.now in
      let count_is : count ≡ min n (length_of p) = c.min-count.ensures ∙ ap (λ k. min n k) c.length.ensures in
      let long : length (take count c.args.bytes.now) ≡ count = chunk_long count (length_of p) c.args.bytes.now count_is in
      let less : 0 < length_of p = c.in_ok-prepared.ensures.answer.some some in
      let any : 0 < count = omega (arith, count_is, some, less) in
      let prepared = (c.in_ok-prepared.ensures.sees (put_first None out) 0 refl).answer ((free_places view below out.place).free old [] out.slots sound) in
      let ready = (c.in_default.ensures.sees (put_first (Some p) out) 0 refl).answer prepared.0 in
      let from_is : guest_offset_of p ≡ offset = prepared.1.0.from in
      let none = none_refused _ (refuses_to_prepare old offset n) p c.in_ok-prepared.ensures.refusals.early in
      let usable = mapping_usable old mid c.prepare_data_mapping.ensures.step.image (image_of p) c.in_ok-prepared.ensures.answer.own c.in_ok-prepared.ensures.step.marks (prepares_usable old offset n none) in
      let own = c.in_ok-prepared.ensures.answer.own ∙ sym (c.write_mapped.ensures.step.image.number ∙ c.prepare_data_mapping.ensures.step.image.number) in
      let stood : AreDataAt new.file.header.fields (known_in view new.file) true (guest_offset_of p) (offset_of p) count =
      existing_or_not (table_of p)
      (λ existing.
      kept_data view below put (put_first (Some p) out) ready.0 new (file_of p) (guest_offset_of p) (offset_of p) (length (take count c.args.bytes.now)) count long (c.commit_data_mapping.ensures.existing own ready.0.works (ap is_some existing)).1
      (c.in_default.ensures.held usable existing (omega (arith, any, long))))
      (λ table i lt. (c.in-Ok.ensures.stands (put_first (Some p) out) 0 refl ready.0).copied table i (omega (arith, lt, count_is))) in
      let chunk = take count c.args.bytes.now in
      let cut : length chunk ≡ min n (length_of p) = cut_long count (length_of p) c.args.bytes.now count_is in
      let done = written (abstraction_at view below out.place) (free_places view below out.place) (data_inside view below out.place) old mid p out.slots c.args.offset n chunk chunk cut (omega arith) (λ i lt. refl) (pow_pos old.file.header.fields.cluster_bits)
      (none_of_none (length chunk) n (length_of p) cut (none_long old c.args.offset n mid c.prepare_data_mapping.result p c.prepare_data_mapping.ensures.refusals.early c.prepare_data_mapping.ensures.refusals.nothing c.in_ok-prepared.was)) (λ past. omega (arith, past, cut)) (c.in_ok-prepared.ensures.sees (put_first None out) 0 refl)
      put (c.in_default.ensures.sees (put_first (Some p) out) 0 refl) new (c.in-Ok.ensures.sees (put_first (Some p) out) 0 refl) in
      let all = subst (λ k. AreDataAt new.file.header.fields (known_in view new.file) true offset (offset_of p) k) (sym long) (subst (λ k. AreDataAt new.file.header.fields (known_in view new.file) true k (offset_of p) count) from_is stood) in
      subst (LeavesCopied view below old new offset c.args.bytes.now) long
      (part_copied view below old mid new out sound (done.answer sound).0 offset p c.args.bytes.now chunk (omega (arith, any, long)) (omega (arith, cut)) from_is ((c.in_ok-prepared.ensures.sound out sound).maps some) c.in_ok-prepared.ensures.sees
      (done.acts.works sound) all);
}

pub returns-in-Err-clause-sound : goal.returns-in-Err-clause-sound
returns-in-Err-clause-sound g c = λ out sound. record {
  refused = λ none.
      let view = g.S.Storage.view in
      let old = c.args.image.now in
      let below = g.F.BackingDisk.backing in
      let p = c.in_ok-prepared.prepared in
      let n = length c.args.bytes.now in
      let mid = c.prepare_data_mapping.new.self in
      let usable = mapping_usable old c.prepare_data_mapping.new.self c.prepare_data_mapping.ensures.step.image (image_of p) c.in_ok-prepared.ensures.answer.own c.in_ok-prepared.ensures.step.marks (prepares_usable old c.args.offset n none) in
      let some : 0 < n = some_bytes n (λ empty. let no = (c.in-Err.ensures.refusals.nothing usable (grind (arith, common_steps))).0 in absurd cc) in
      let prepared = (c.in_ok-prepared.ensures.sees (put_first None out) 0 refl).answer ((free_places g.S.Storage.view g.F.BackingDisk.backing out.place).free old [] out.slots sound) in
      let offset = c.args.offset in
      let count = c.min-count.result in
      record {
        may_fail = let usable = mapping_usable old mid c.prepare_data_mapping.ensures.step.image (image_of p) c.in_ok-prepared.ensures.answer.own c.in_ok-prepared.ensures.step.marks (prepares_usable old offset n none) in
            let call = c.in_ok-prepared.ensures.sees (put_first None out) 0 refl in
            let free_place = (free_places view below out.place).free old [] out.slots sound in
            let prepared = call.answer free_place in
            let same : cluster_size_of mid ≡ cluster_size_of old = ap (λ (x : Setting). x.cluster_size) (call.acts.works free_place).setting in
            let maps = (c.in_ok-prepared.ensures.sound out sound).maps some in
            let fits : offset + n ≤ size_of mid = let s = c.prepare_data_mapping.ensures.step.image.size in let b = prepares_within old offset n none some in omega (arith, s, b) in
            let long : table_of p ≡ None → length (take count c.args.bytes.now) ≡ n = λ existing.
            let whole = existing_long view below out old mid p offset n prepared.0 same maps some existing in
            let count_is : count ≡ min n (length_of p) = c.min-count.ensures ∙ ap (λ k. min n k) c.length.ensures in
            chunk_long count (length_of p) c.args.bytes.now count_is ∙ (grind (arith, common_steps, count_is, whole)) in
            elim (put_looking (IsCacheHeld mid (put_first (Some p) out)) out p c.in-Err.refusal (λ held. held.1) (λ existing. existing_near view below out old mid p offset n prepared.0 same maps some existing)
            (λ existing outdated. (c.in-Err.ensures.sound (put_first (Some p) out) prepared.0).outdated existing (ap Err outdated) (existing_found view below out old mid p offset n prepared.0 same maps some existing fits c.in_ok-prepared.ensures.answer.place prepared.1.0.from (length (take count c.args.bytes.now)) (long existing)))
            ((c.in-Err.ensures.sound (put_first (Some p) out) prepared.0).may_fail 0 refl (c.prepare_data_mapping.ensures.step.image.writable ∙ prepares_writable old offset n none some))) [ inl fault ↦ inl (inl (inl fault)) | inr used ↦ inr (inl used) ];
        taken = λ is. absurd (met_untaken _ c.in-Err.refusal (put_met c.args.image.now c.prepare_data_mapping.new.self c.prepare_data_mapping.ensures.step.image (image_of c.in_ok-prepared.prepared) c.args.offset (length c.args.bytes.now) (length (take c.min-count.result c.args.bytes.now)) c.in-Err.refusal
            c.in_ok-prepared.ensures.answer.own c.in_ok-prepared.ensures.step.marks (λ empty. grind (arith, common_steps)) none (λ usable writes current. putting_met c.prepare_data_mapping.new.self c.write_mapped.new.self c.in_ok-prepared.prepared 0 (length (take c.min-count.result c.args.bytes.now)) c.in-Err.refusal current (c.in-Err.ensures.refusals.late usable writes)) (λ usable empty. let no = (c.in-Err.ensures.refusals.nothing usable empty).0 in absurd cc)
            (λ usable some more. put_current c.prepare_data_mapping.new.self c.write_mapped.new.self c.in_ok-prepared.prepared c.args.offset (length c.args.bytes.now) (length (take c.min-count.result c.args.bytes.now)) c.in-Err.refusal (c.in_ok-prepared.ensures.existing some none)
            (let long = length-take c.min-count.result c.args.bytes.now in omega (arith, long)) c.in-Err.ensures.private (λ existing. c.in-Err.ensures.held usable existing more))) is);
        limit = other_limit _ c.in-Err.refusal (put_unlimited _ p 0 c.in-Err.refusal ((c.in-Err.ensures.sound (put_first (Some p) out) prepared.0).may_fail 0 refl (c.prepare_data_mapping.ensures.step.image.writable ∙ prepares_writable old c.args.offset n none some)));
      };
  freeing = search rules;
  ends = search rules;
  copied = search rules;
}

pub returns-in-Err-Spent-clause-sound : goal.returns-in-Err-Spent-clause-sound
returns-in-Err-Spent-clause-sound g c = λ out sound. record {
  refused = λ none.
      let view = g.S.Storage.view in
      let below = g.F.BackingDisk.backing in
      let p = c.in_ok-prepared.prepared in
      let ready = (c.in_default.ensures.sees (put_first (Some p) out) 0 refl).answer ((c.in_ok-prepared.ensures.sees (put_first None out) 0 refl).answer ((free_places view below out.place).free c.args.image.now [] out.slots sound)).0 in
      let refused = subst (λ r. Commits view below c.write_mapped.new.self c.commit_data_mapping.new.self p (Err r)) c.in-Err-Spent.field-0-is c.in-Err-Spent.ensures.sees (put_first (Some p) out) 0 refl in
      record {
        may_fail = inl (inl (inl (fault_of c.in-Err-Spent.refusal (refused.0 ready.0))));
        taken = λ is. absurd (freed_untaken c.in-Err-Spent.refusal (subst (λ r. IsFaultOrLimit (reason_of r)) c.in-Err-Spent.field-0-is
            (c.in-Err-Spent.ensures.refusals.late (c.in_ok-prepared.ensures.answer.own ∙ sym (c.write_mapped.ensures.step.image.number ∙ c.prepare_data_mapping.ensures.step.image.number))
            (c.in_default.ensures.step.marks ∙ c.in_ok-prepared.ensures.step.marks ∙ not_failed_yet c.args.image.now c.prepare_data_mapping.new.self c.prepare_data_mapping.ensures.step.image (prepares_usable c.args.image.now c.args.offset (length c.args.bytes.now) none)))) is);
        limit = other_limit _ c.in-Err-Spent.refusal (fault_unlimited c.in-Err-Spent.refusal (fault_of c.in-Err-Spent.refusal (refused.0 ready.0)));
      };
  freeing = search rules;
  ends = search rules;
  copied = search rules;
}

pub returns-in-Err-Kept-clause-sound : goal.returns-in-Err-Kept-clause-sound
returns-in-Err-Kept-clause-sound g c = λ out sound. record {
  refused = λ none.
      let view = g.S.Storage.view in
      let below = g.F.BackingDisk.backing in
      let p = c.in_ok-prepared.prepared in
      let same : c.in-Err-Kept.prepared ≡ p = subst (λ r. IsHandedBackBy p r) c.in-Err-Kept.field-0-is c.in-Err-Kept.ensures.refusals.kept in
      let ready = (c.in_default.ensures.sees (put_first (Some p) out) 0 refl).answer ((c.in_ok-prepared.ensures.sees (put_first None out) 0 refl).answer ((free_places view below out.place).free c.args.image.now [] out.slots sound)).0 in
      let refused = subst (λ r. Commits view below c.write_mapped.new.self c.commit_data_mapping.new.self p (Err r)) (c.in-Err-Kept.field-0-is ∙ ap (λ q. Kept c.in-Err-Kept.refusal q) same) c.in-Err-Kept.ensures.sees (put_first (Some p) out) 0 refl in
      record {
        may_fail = inl (inl (inl (fault_of c.in-Err-Kept.refusal (refused.0 ready.0))));
        taken = λ is. absurd (freed_untaken c.in-Err-Kept.refusal (subst (λ r. IsFaultOrLimit (reason_of r)) c.in-Err-Kept.field-0-is
            (c.in-Err-Kept.ensures.refusals.late (c.in_ok-prepared.ensures.answer.own ∙ sym (c.write_mapped.ensures.step.image.number ∙ c.prepare_data_mapping.ensures.step.image.number))
            (c.in_default.ensures.step.marks ∙ c.in_ok-prepared.ensures.step.marks ∙ not_failed_yet c.args.image.now c.prepare_data_mapping.new.self c.prepare_data_mapping.ensures.step.image (prepares_usable c.args.image.now c.args.offset (length c.args.bytes.now) none)))) is);
        limit = other_limit _ c.in-Err-Kept.refusal (fault_unlimited c.in-Err-Kept.refusal (fault_of c.in-Err-Kept.refusal (refused.0 ready.0)));
      };
  freeing = search rules;
  ends = search rules;
  copied = search rules;
}
