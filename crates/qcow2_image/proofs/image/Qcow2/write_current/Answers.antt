use Rattle.qcow2_image.proofs.Lemmas.{filling_none, filling_written, keeping_of_filling, keeping_then, Quietly, quiet_sound, heeds_then, held_as, keeps_storage, hands_met, met_as, told_sum, past_existing}
use Rattle.qcow2_image.proofs.image.Qcow2.write_current.Goals as goal
use Rattle.std.proofs.Common.{◌≡◌, ◌+◌, ◌^◌, ◌≤◌, ⊎_elim, inl, inr, None, Err, length, refl, sym, ap, ◌∙◌, subst, true, arith, rules, Result}
use Rattle.qcow2_image.proofs.Common.{overwritten, view_in, OutdatedMapping, Overflow, handed_on, always_ok, Qcow2, Raw, IsFoundWhole, IsMappedAs, PutsPart, IsWriteOutcome, pending_in, FitsTables, IsHeldAs, cases_lt, IsFault, IsCacheHeld, MayFailPutting, changes_of, storage_of_image, PutsOnce, MayFailPuttingAt, cluster_size, HeaderView, MayFailWriting}
use Rattle.qcow2_image.proofs.Write.PutParts.{mapped_in_place, puts_nothing, puts_refused, puts_then, puts_written}
use Rattle.qcow2_image.proofs.Write.Hosted.{hosts_behind_header}
use Rattle.qcow2_image.proofs.Write.ToldPuts.{written_current, written_plain, checked_unseen, put_beside, put_refused, put_unwritten}
use Rattle.qcow2_image.proofs.Images.Places.{alone_of}

pub returns-in_err-check_in_place-clause-in_place : goal.returns-in_err-check_in_place-clause-in_place
returns-in_err-check_in_place-clause-in_place g c = λ none p out sound.
    record {
      outdated = λ some is whole. let here = subst (λ o. IsFoundWhole g.S.Storage.view c.args.self.now (c.args.prepared.now.guest + c.args.at) (Raw c.args.prepared.now.place o true) (length c.args.bytes.now)) (sym c.in-Some.ensures.1) whole in
          handed_on (λ r. r ≡ Err OutdatedMapping → ⊥) c.from_residual.result c.in_err-check_in_place.field-0.0 c.from_residual.ensures (λ was. (c.in_err-check_in_place.ensures.sound p out sound).outdated some was here) is;
      mapped = search rules;
    }

pub returns-in_err-check_in_place-clause-puts : goal.returns-in_err-check_in_place-clause-puts
returns-in_err-check_in_place-clause-puts g c = λ fits some out k placed sound.
    let old = c.args.self.now in
    let below = g.F.BackingDisk.backing in
    let view = g.S.Storage.view in
    record {
      may_fail = let may_fail = (c.in_err-check_in_place.ensures.sound (pending_in view below old out) out sound).may_fail in
          hands_met (MayFailPutting (IsCacheHeld old out) c.args.prepared.now c.args.at) c.from_residual.result c.in_err-check_in_place.field-0.0 c.from_residual.ensures (inr (may_fail.0, inl may_fail.1));
      puts = let new = c.check_in_place.new.self in
          let p = c.args.prepared.now in
          let e = c.in_err-check_in_place.field-0.0 in
          handed_on (λ r. PutsPart view below old new out k p c.args.at c.args.bytes.now r) c.from_residual.result e c.from_residual.ensures
          (puts_refused view below out k p c.args.at c.args.bytes.now placed old new e (record { keeps = (c.check_in_place.ensures.sound (pending_in view below old out) out sound).keeps; list = c.check_in_place.ensures.step.list }) sound);
    }

pub returns-clause-in_place : goal.returns-clause-in_place
returns-clause-in_place g c = λ none p out sound.
    record {
      outdated = search rules;
      mapped = always_ok c.write_data.result
          (subst (λ o. IsFoundWhole g.S.Storage.view c.args.self.now (c.args.prepared.now.guest + c.args.at) (Raw c.args.prepared.now.place o true) (length c.args.bytes.now)) c.in-Some.ensures.1 ((c.in_ok-check_in_place.ensures.sound p out sound).found none));
    }

pub returns-clause-puts : goal.returns-clause-puts
returns-clause-puts g c = λ fits some out k placed sound.
    let old = c.args.self.now in
    let below = g.F.BackingDisk.backing in
    let view = g.S.Storage.view in
    let mid = c.check_in_place.new.self in
    let p = c.args.prepared.now in
    let quiet : Quietly view below out old mid = record { keeps = (c.in_ok-check_in_place.ensures.sound (pending_in view below old out) out sound).keeps; list = c.in_ok-check_in_place.ensures.step.list } in
    record {
      may_fail = let n = length c.args.bytes.now in
          let mapped : p.table ≡ None → IsMappedAs view mid (p.guest + c.args.at) (Raw c.args.prepared.now.place (p.offset + c.args.at) true) n = λ none.
          subst (λ o. IsMappedAs view mid (p.guest + c.args.at) (Raw c.args.prepared.now.place o true) n) c.in-Some.ensures.1 ((c.in_ok-check_in_place.ensures.sound (pending_in view below old out) out sound).mapped none some) in
          let behind = hosts_behind_header view below mid out (quiet_sound view below out old mid (λ _. quiet) sound) n k p c.args.at placed fits (mapped_in_place view below out k p c.args.at c.args.bytes.now placed mid mapped) 0 some in
          let host_is = c.in-Some.ensures.1 in
          met_as IsFault (MayFailPutting (IsCacheHeld old out) p c.args.at) c.write_data.result (λ e fault. inl fault) (c.write_data.ensures.puts.fault (omega (arith, behind, host_is)));
      puts = let at = c.args.at in
          let bytes = c.args.bytes.now in
          let still = quiet_sound view below out old mid (λ _. quiet) sound in
          let host_is : c.in-Some.host ≡ p.offset + at = c.in-Some.ensures.1 in
          let w = c.write_data.ensures.puts.written (alone_of still) in
          let contents = (view_in view mid.file).contents in
          let storage = c.write_data.new.self.file.storage in
          let done = subst (λ o. IsWriteOutcome c.write_data.result contents (overwritten contents o bytes) (view_in view c.write_data.new.self.file).contents) host_is (w.written still.file.honest) in
          let mapped : p.table ≡ None → IsMappedAs view mid (p.guest + at) (Raw c.args.prepared.now.place (p.offset + at) true) (length bytes) = λ none.
          subst (λ o. IsMappedAs view mid (p.guest + at) (Raw c.args.prepared.now.place o true) (length bytes)) host_is ((c.in_ok-check_in_place.ensures.sound (pending_in view below old out) out sound).mapped none some) in
          subst (λ (image : Qcow2 _ _). PutsPart view below old image out k p at bytes c.write_data.result) (sym w.rest)
          (puts_then view below out k p at bytes placed old mid (record mid { file = record mid.file { storage = storage } }) c.write_data.result quiet sound
          (puts_written view below out k p at bytes placed mid still fits (mapped_in_place view below out k p at bytes placed mid mapped) storage (w.honest still.file.honest) (w.time still.file.honest) c.write_data.result done));
    }

pub returns-in_default-clause-puts : goal.returns-in_default-clause-puts
returns-in_default-clause-puts g c = λ fits some out k placed sound.
    let old = c.args.self.now in
    let below = g.F.BackingDisk.backing in
    let view = g.S.Storage.view in
    record {
      may_fail = let p = c.args.prepared.now in
          let past : 2 ^ 64 ≤ p.offset + c.args.at = elim (cases_lt (p.offset + c.args.at) (2 ^ 64)) [ inl lt ↦ absurd (told_sum c.checked_add.result (p.offset + c.args.at) c.checked_add.ensures lt c.in_default.is) | inr past ↦ past ] in
          inr ((past_existing view below old out (pending_in view below old out) sound p (sound.ready k p placed).mapped c.args.at (length c.args.bytes.now) fits some past), inr (refl, past));
      puts = puts_nothing view below out k c.args.prepared.now c.args.at c.args.bytes.now placed old Overflow sound;
    }

pub returns-in_err-check_in_place-clause-held : goal.returns-in_err-check_in_place-clause-held
returns-in_err-check_in_place-clause-held g c = λ none some.
    let n = length c.args.bytes.now in
    let new = c.check_in_place.new.self in
    let e = c.in_err-check_in_place.field-0.0 in
    handed_on (λ (r : Result _ _). FitsTables c.args.self.now new (c.args.prepared.now.guest + c.args.at) (Raw c.args.prepared.now.place (c.args.prepared.now.offset + c.args.at) true) n r) c.from_residual.result e c.from_residual.ensures
    (subst (λ o. FitsTables c.args.self.now new (c.args.prepared.now.guest + c.args.at) {A = Unit {0}} (Raw c.args.prepared.now.place o true) n (Err e)) c.in-Some.ensures.1 (c.in_err-check_in_place.ensures.held none some))

pub returns-clause-held : goal.returns-clause-held
returns-clause-held g c = λ none some.
    let n = length c.args.bytes.now in
    let mid = c.check_in_place.new.self in
    let new = c.write_data.new.self in
    let at = c.args.prepared.now.guest + c.args.at in
    let kind = Raw c.args.prepared.now.place (c.args.prepared.now.offset + c.args.at) true in
    let held = subst (λ o. IsHeldAs mid at (Raw c.args.prepared.now.place o true) n) c.in-Some.ensures.1 (c.in_ok-check_in_place.ensures.held none some) in
    heeds_then at kind n c.args.self.now new c.write_data.result (written_current c.write_data.result c.write_data.ensures.fails.cause) (written_plain kind c.write_data.result c.write_data.ensures.fails.cause) (held_as mid new at kind n (keeps_storage mid new new.file.storage new.data_file c.write_data.ensures.puts.rest c.write_data.ensures.step.stays.image.beside) held)

pub returns-in_default-clause-once : goal.returns-in_default-clause-once
returns-in_default-clause-once g c = put_refused g.S.Storage.view g.F.BackingDisk.backing c.args.prepared.now c.args.at c.args.bytes.now c.args.self.now Overflow

pub returns-in_err-check_in_place-clause-once : goal.returns-in_err-check_in_place-clause-once
returns-in_err-check_in_place-clause-once g c =
    let p = c.args.prepared.now in
    let new = c.check_in_place.new.self in
    let e = c.in_err-check_in_place.field-0.0 in
    handed_on (PutsOnce g.S.Storage.view g.F.BackingDisk.backing p c.args.at c.args.bytes.now c.args.self.now new) c.from_residual.result e c.from_residual.ensures
    (put_unwritten g.S.Storage.view g.F.BackingDisk.backing p c.args.at c.args.bytes.now c.args.self.now new e c.check_in_place.ensures.step.notes.storage.honest (λ some. (c.check_in_place.ensures.private some).1) c.check_in_place.ensures.looks.quiet c.check_in_place.ensures.looks.data_file
    (λ out sound. checked_unseen g.S.Storage.view g.F.BackingDisk.backing c.args.self.now new out (λ p out sound. (c.check_in_place.ensures.sound p out sound).keeps) c.check_in_place.ensures.step.list sound))

pub returns-clause-once : goal.returns-clause-once
returns-clause-once g c =
    let view = g.S.Storage.view in
    let mid = c.check_in_place.new.self in
    let contents = (view_in view mid.file).contents in
    record {
      before = mid;
      quiet = c.check_in_place.ensures.looks.quiet;
      honest = c.check_in_place.ensures.step.notes.storage.honest;
      unseen = λ out sound. checked_unseen view g.F.BackingDisk.backing c.args.self.now mid out (λ p out sound. (c.check_in_place.ensures.sound p out sound).keeps) c.check_in_place.ensures.step.list sound;
      idle = λ some. let same = (c.check_in_place.ensures.private some).1 in (ap (λ (i : Qcow2 _ _). storage_of_image i) same, ap (λ (i : Qcow2 _ _). changes_of i.file.storage) same);
      time = c.write_data.ensures.puts.time;
      written = λ none honest. subst (λ o. IsWriteOutcome c.write_data.result contents (overwritten contents o c.args.bytes.now) (view_in view c.write_data.new.self.file).contents) c.in-Some.ensures.1 ((c.write_data.ensures.puts.written (c.check_in_place.ensures.looks.data_file ∙ none)).written honest);
      beside = put_beside view c.args.self.now.data_file mid c.write_data.new.self c.in-Some.host (c.args.prepared.now.offset + c.args.at) c.args.bytes.now c.write_data.result c.check_in_place.ensures.looks.data_file c.in-Some.ensures.1 c.write_data.ensures.puts.beside;
    }

pub returns-clause-step : goal.returns-clause-step
returns-clause-step g c = keeping_then c.check_in_place.ensures.step (keeping_of_filling (filling_written c.write_data.ensures.step c.write_data.ensures.puts.rest))

pub returns-in_default-clause-step : goal.returns-in_default-clause-step
returns-in_default-clause-step g c = keeping_of_filling filling_none

pub returns-in_default-clause-in_place : goal.returns-in_default-clause-in_place
returns-in_default-clause-in_place g c = λ none p out sound. record { outdated = λ some is. absurd (cc); mapped = tt }

pub returns-in_default-clause-fails : goal.returns-in_default-clause-fails
returns-in_default-clause-fails g c = record {
  faults = search rules;
  cause = let p = c.args.prepared.now in
      let past : 2 ^ 64 ≤ p.offset + c.args.at = elim (cases_lt (p.offset + c.args.at) (2 ^ 64)) [ inl lt ↦ absurd (told_sum c.checked_add.result (p.offset + c.args.at) c.checked_add.ensures lt c.in_default.is) | inr past ↦ past ] in
      inr (inr (inl (refl, past)));
}

pub returns-in_err-check_in_place-clause-fails : goal.returns-in_err-check_in_place-clause-fails
returns-in_err-check_in_place-clause-fails g c = record {
  faults = search rules;
  cause = hands_met (MayFailPuttingAt c.args.self.now c.check_in_place.new.self c.args.prepared.now c.args.at (length c.args.bytes.now)) c.from_residual.result c.in_err-check_in_place.field-0.0 c.from_residual.ensures (inr (inl c.in_err-check_in_place.ensures.fails.cause));
}

pub returns-clause-fails : goal.returns-clause-fails
returns-clause-fails g c =
    let old = c.args.self.now in
    let mid = c.check_in_place.new.self in
    let p = c.args.prepared.now in
    let Why = MayFailPuttingAt old c.write_data.new.self p c.args.at (length c.args.bytes.now) in
    let size : cluster_size mid.file.header.fields ≡ cluster_size old.file.header.fields = ap (λ (h : HeaderView). cluster_size h.fields) c.check_in_place.ensures.step.header in
    record {
      faults = search rules;
      cause = elim (cases_lt c.in-Some.host (cluster_size mid.file.header.fields)) [
        | inl lt ↦ met_as MayFailWriting Why c.write_data.result (λ e why. ⊎_elim (λ fault. inl fault) (λ header. inr (inr (inr (header, let at = c.in-Some.ensures.1 in omega (arith, lt, at, size))))) why) c.write_data.ensures.fails.cause
        | inr le ↦ met_as IsFault Why c.write_data.result (λ e fault. inl fault) (c.write_data.ensures.puts.fault le)
      ];
    }

pub returns-clause-private : goal.returns-clause-private
returns-clause-private g c = λ some. written_current c.write_data.result c.write_data.ensures.fails.cause
