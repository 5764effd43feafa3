use Rattle.qcow2_session.proofs.Lemmas.{answered_at_once, at_rest, refused_at_once, quiet_left, found_at, none_at, does_put, refuses_put, is_past, mapping_first, error_is, not_both, put_same, begun_with, is_answered, is_misused, is_refused, none_of, not_free, own_mapping, put_reads, put_writes, same_error, same_mapping, some_error, then_early, then_none}
use Rattle.std.proofs.Common.{◌≡◌, ◌⊎◌, ◌+◌, ◌<◌, ◌≤◌, ◌&&◌, refl, length, arith, rules, ◌∙◌, inl, inr, ℕ, ap, subst, List, Option, Some, None, Err, not, Result, Ok}
use Rattle.qcow2_session.proofs.Common.{reads_none, done_as, refused_as, none_as, image_abstraction, misuse, image_of, length_of, table_of, refuses_mapping, unusable, nat_lt, slice_get, IfSome, cases_lt, ImageError, ReadOnly, is_writable, Prepared, behind_none, Mappings, in_image}
use Rattle.qcow2_session.specs.declared.session.Command.TheVariants as C
use Rattle.qcow2_session.specs.declared.session.Reply.TheVariants as R
use Rattle.qcow2_session.proofs.session.write_mapped.Goals as goal
use Rattle.qcow2_session.proofs.session.write_mapped.Goals.{then-at-length-via-then-at-length, then-at-length-via-else-at-length+then-len-length}

-- the slot holds a mapping that the bytes lie in
in_mapping : {p : Prepared} (out : List (Option Prepared)) (slot at n : ℕ) → slice_get out slot ≡ Some (Some p) → at + n ≤ length_of p
    → (slice_get out slot ≡ Some None) ⊎ ((q : Prepared) × (slice_get out slot ≡ Some (Some q)) × (length_of q < at + n)) → ⊥
in_mapping out slot at n there within (inl free) = not_free out slot there free
in_mapping out slot at n there within (inr past) = let same = ap length_of (same_mapping out slot there past.1) in omega (arith, past.2, same, within)

pub returns-in_default : goal.returns-in_default
returns-in_default g c = record {
  keeps = search rules;
  size = search rules;
  counts = search rules;
  marks = at_rest g.S.Storage.view None c.args.image.now refl;
  header_cluster = λ _. behind_none;
  slots = search rules;
  steps = λ _ x s stands founds.
      let spec = image_abstraction g.S.Storage.view g.F.BackingDisk.backing in
      none_as x _ s _ _ misuse refl stands (record { sized = λ _. tt; failed = λ _. tt; may = λ _. tt }) (λ _. (is_past (c.args.at) (length c.args.bytes.now.items) (none_at spec c.args.image.now c.args.slots.now.prepared.items c.args.slot c.in_default.ensures) tt, refl)) (λ f. f) (λ _ _. refl) tt;
  finds = search rules;
  after = refl;
  reports = tt;
  causes = is_misused g.S.Storage.view g.F.BackingDisk.backing c.args.image.now c.args.image.now (in_image c.args.slots.now.prepared.items) (C.WriteMapped c.args.slot c.args.at c.args.bytes.now) (λ _. inl c.in_default.ensures, λ _. refl) refl (λ is. absurd cc, tt);
  quiet = λ reading existing. record { reading = reading; quiet = reads_none g.S.Storage.view c.args.image.now; existing = existing };
}

pub returns-then-at-length : goal.returns-then-at-length
returns-then-at-length g c = record {
  keeps = search rules;
  size = search rules;
  counts = search rules;
  marks = at_rest g.S.Storage.view None c.args.image.now refl;
  header_cluster = λ _. behind_none;
  slots = search rules;
  steps = λ _ x s stands founds.
      let spec = image_abstraction g.S.Storage.view g.F.BackingDisk.backing in
      none_as x _ s _ _ misuse refl stands (record { sized = λ _. tt; failed = λ _. tt; may = λ _. tt }) (λ _. (
        is_past c.args.at (length c.args.bytes.now.items) (found_at spec c.args.image.now c.args.slots.now.prepared.items c.args.slot c.in-Some.prepared.now c.in-Some.ensures)
            (elim c.then-at-length.branch [
              | then-at-length-via-then-at-length w ↦ omega (arith, w.if-at-length.true, c.length-length.ensures)
              | then-at-length-via-else-at-length+then-len-length w ↦ omega (arith, w.if-at-length.false, w.if-len-length.true, w.len.ensures, c.length-length.ensures)
            ]),
        refl,
      )) (λ f. f) (λ _ _. refl) tt;
  finds = search rules;
  after = refl;
  reports = tt;
  causes = let past : length_of c.in-Some.prepared.now < c.args.at + length c.args.bytes.now.items = elim c.then-at-length.branch [
    | then-at-length-via-then-at-length w ↦ omega (arith, w.if-at-length.true, c.length-length.ensures)
    | then-at-length-via-else-at-length+then-len-length w ↦ omega (arith, w.if-at-length.false, w.if-len-length.true, w.len.ensures, c.length-length.ensures)
  ] in
      is_misused g.S.Storage.view g.F.BackingDisk.backing c.args.image.now c.args.image.now (in_image c.args.slots.now.prepared.items) (C.WriteMapped c.args.slot c.args.at c.args.bytes.now) (λ _. inr (c.in-Some.prepared.now, c.in-Some.ensures, past), λ _. refl) refl (λ is. absurd cc, tt);
  quiet = λ reading existing. record { reading = reading; quiet = reads_none g.S.Storage.view c.args.image.now; existing = existing };
}

pub returns-in-Ok : goal.returns-in-Ok
returns-in-Ok g c = record {
  keeps = search rules;
  size = search rules;
  counts = search rules;
  marks = answered_at_once g.S.Storage.view c.args.image.now c.write_mapped.new.self c.in-Ok.ensures.step.once_written c.in-Ok.ensures.step.marks;
  header_cluster = λ _. search rules;
  slots = search rules;
  steps = λ _ x s stands founds.
      let spec = image_abstraction g.S.Storage.view g.F.BackingDisk.backing in
      let out = (in_image c.args.slots.now.prepared.items) in
      done_as x _ _ s _ _ _ refl stands (record { sized = λ _. tt; failed = λ f. absurd (not_both (mapping_first c.args.image.now _ _ c.in-Ok.ensures.refusals.early f)); may = λ _. tt }) (does_put s.found c.args.slot _ (found_at spec c.args.image.now out.slots c.args.slot c.in-Some.prepared.now c.in-Some.ensures) c.args.at c.args.bytes.now.items (omega (arith, c.if-at-length.false, c.if-len-length.false, c.len.ensures, c.length-length.ensures))
      (rw c.deref.ensures.value at (c.in-Ok.ensures.sees out c.args.slot c.in-Some.ensures))) (λ f. f) (λ _ _. refl) (λ _. tt);
  finds = search rules;
  after = refl;
  reports = tt;
  causes = let p = c.in-Some.prepared.now in
      let usable = own_mapping c.args.image.now (image_of p) (c.args.slots.now.own c.args.slot p c.in-Some.ensures ∙ c.requires) in
      let n = length c.args.bytes.now.items in
      is_answered g.S.Storage.view g.F.BackingDisk.backing c.args.image.now c.write_mapped.new.self (in_image c.args.slots.now.prepared.items) (C.WriteMapped c.args.slot c.args.at c.args.bytes.now) {A = Unit {0}} (c.write_mapped.new.self ≡ c.args.image.now) tt R.Done (λ is. absurd cc) (λ is. absurd cc, λ is. absurd (in_mapping c.args.slots.now.prepared.items c.args.slot c.args.at n c.in-Some.ensures (omega (arith, c.if-at-length.false, c.if-len-length.false, c.len.ensures, c.length-length.ensures)) is)) refl
      (then_early (unusable c.args.image.now) (nat_lt 0 n && not (is_writable c.args.image.now)) ReadOnly (λ (e : ImageError). (◌≡◌ {A = Result (Unit {0}) ImageError} (Ok tt) (Err e)) × (c.write_mapped.new.self ≡ c.args.image.now)) (subst (λ o. IfSome o (λ (e : ImageError). (◌≡◌ {A = Result (Unit {0}) ImageError} (Ok tt) (Err e)) × (c.write_mapped.new.self ≡ c.args.image.now))) usable c.in-Ok.ensures.refusals.early)
      (λ none reads. let r = put_reads n (is_writable c.args.image.now) reads in (rw c.deref.ensures.value at c.in-Ok.ensures.refusals.read_only) r.0 (usable ∙ none) r.1)) (λ _ _. (λ is. absurd cc, tt));
  quiet = λ reading existing. quiet_left g.S.Storage.view c.args.image.now c.write_mapped.new.self c.args.slots.now.prepared.items (put_same c.args.image.now reading _ (refuses_mapping c.args.image.now (image_of c.in-Some.prepared.now)) _ c.write_mapped.ensures.refusals.early c.write_mapped.ensures.refusals.read_only c.write_mapped.ensures.refusals.nothing
      ) reading existing;
}

pub returns-in-Err : goal.returns-in-Err
returns-in-Err g c = record {
  keeps = search rules;
  size = search rules;
  counts = search rules;
  marks = refused_at_once g.S.Storage.view c.args.image.now c.write_mapped.new.self c.in-Err.refusal c.in-Err.ensures.step.once_written c.in-Err.ensures.step.marks;
  header_cluster = λ _. search rules;
  slots = search rules;
  steps = λ _ x s stands founds.
      let spec = image_abstraction g.S.Storage.view g.F.BackingDisk.backing in
      let out = (in_image c.args.slots.now.prepared.items) in
      refused_as x _ _ s _ _ _ _ refl stands (record { sized = λ _. tt; failed = λ f. error_is (mapping_first c.args.image.now _ _ c.in-Err.ensures.refusals.early f); may = λ _. tt }) (refuses_put s.found c.args.slot _ (found_at spec c.args.image.now out.slots c.args.slot c.in-Some.prepared.now c.in-Some.ensures) c.args.at c.args.bytes.now.items
      (rw c.deref.ensures.value at (c.in-Err.ensures.sees out c.args.slot c.in-Some.ensures))) (λ f. f) (λ f. f) (λ _ _. refl) tt;
  finds = search rules;
  after = refl;
  reports = tt;
  causes = let p = c.in-Some.prepared.now in
      let e = c.in-Err.refusal in
      let usable = own_mapping c.args.image.now (image_of p) (c.args.slots.now.own c.args.slot p c.in-Some.ensures ∙ c.requires) in
      let n = length c.args.bytes.now.items in
      is_refused g.S.Storage.view g.F.BackingDisk.backing c.args.image.now c.write_mapped.new.self (in_image c.args.slots.now.prepared.items) (C.WriteMapped c.args.slot c.args.at c.args.bytes.now) e (R.Refused e) (λ is. absurd cc) (λ is. absurd cc, λ is. absurd (in_mapping c.args.slots.now.prepared.items c.args.slot c.args.at n c.in-Some.ensures (omega (arith, c.if-at-length.false, c.if-len-length.false, c.len.ensures, c.length-length.ensures)) is)) refl
      (then_early (unusable c.args.image.now) (nat_lt 0 n && not (is_writable c.args.image.now)) ReadOnly (λ (x : ImageError). (e ≡ x) × (c.write_mapped.new.self ≡ c.args.image.now)) (begun_with (Unit {0}) (c.write_mapped.new.self ≡ c.args.image.now) e (unusable c.args.image.now) (subst (λ o. IfSome o (λ (x : ImageError). (◌≡◌ {A = Result (Unit {0}) ImageError} (Err e) (Err x)) × (c.write_mapped.new.self ≡ c.args.image.now))) usable c.in-Err.ensures.refusals.early))
      (λ none reads. let r = put_reads n (is_writable c.args.image.now) reads in let h = (rw c.deref.ensures.value at c.in-Err.ensures.refusals.read_only) r.0 (usable ∙ none) r.1 in (same_error h.0, h.1)))
      (λ none.
      let first = then_none (unusable c.args.image.now) (nat_lt 0 n && not (is_writable c.args.image.now)) ReadOnly none in
      elim (cases_lt 0 n) [
        | inl some ↦ (p, c.in-Some.ensures, (rw c.deref.ensures.value at c.in-Err.ensures.refusals.late) (usable ∙ first.0) (put_writes n (is_writable c.args.image.now) first.1 some))
        | inr least ↦ absurd (let no = ((rw c.deref.ensures.value at c.in-Err.ensures.refusals.nothing) (usable ∙ first.0) (omega (arith, least))).0 in cc)
      ])
      (λ _ _. tt)
      (λ none empty. let first = then_none (unusable c.args.image.now) (nat_lt 0 n && not (is_writable c.args.image.now)) ReadOnly none in let no = ((rw c.deref.ensures.value at c.in-Err.ensures.refusals.nothing) (usable ∙ first.0) empty).0 in absurd cc)
      (λ none sound. (
        λ is.
            let existing = none_of (table_of p) (λ some. c.in-Err.ensures.private some (ap Err (some_error is))) in
            record { mapping = p; there = c.in-Some.ensures; existing = existing; moved = (rw c.deref.ensures.value at ((c.in-Err.ensures.sound (in_image c.args.slots.now.prepared.items) sound).outdated existing)) (ap Err (some_error is)) },
        let first = then_none (unusable c.args.image.now) (nat_lt 0 n && not (is_writable c.args.image.now)) ReadOnly none in
            elim (cases_lt 0 n) [
              | inl some ↦ (p, c.in-Some.ensures, (c.in-Err.ensures.sound (in_image c.args.slots.now.prepared.items) sound).may_fail c.args.slot c.in-Some.ensures (put_writes n (is_writable c.args.image.now) first.1 some))
              | inr least ↦ absurd (let no = ((rw c.deref.ensures.value at c.in-Err.ensures.refusals.nothing) (usable ∙ first.0) (omega (arith, least))).0 in cc)
            ],
      ));
  quiet = λ reading existing. quiet_left g.S.Storage.view c.args.image.now c.write_mapped.new.self c.args.slots.now.prepared.items (put_same c.args.image.now reading _ (refuses_mapping c.args.image.now (image_of c.in-Some.prepared.now)) _ c.write_mapped.ensures.refusals.early c.write_mapped.ensures.refusals.read_only c.write_mapped.ensures.refusals.nothing
      ) reading existing;
}
