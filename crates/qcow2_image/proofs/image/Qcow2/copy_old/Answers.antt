use Rattle.std.proofs.Common.{◌≡◌, ◌+◌, ◌/◌, ◌≤◌, ℕ, List, length, replicate, refl, sym, ap, ◌∙◌, subst, arith, rules, is_some, inl}
use Rattle.qcow2_image.proofs.Common.{length-replicate, get_or-replicate, cover, known_byte, cluster_size, HeaderView, Disk, known_in, state_in, found_kind, IsMappedAs, backing_bytes, MayFailOn, MayFailCopying, MayFailReading, MayFailWriting, IsFault, IfOk-weaker, contents_for, IfOk, byte_at, IsSpecial, MayFailUncopied}
use Rattle.qcow2_image.specs.InternalSteps.{IsCopied}
use Rattle.qcow2_image.proofs.Call.FailingErrors.{reading_copied, writing_met, uncopied_met}
use Rattle.qcow2_image.proofs.Map.Reading.{none_below, zero_shown}
use Rattle.qcow2_image.proofs.Lemmas.{disk_kept, image_step_data, image_step_kept, image_step_then, own_of, there_written, hands_unlimited, hands_met, met_as, filling_of_read, filling_then, filling_written}
use Rattle.qcow2_image.proofs.image.Qcow2.copy_old.Goals as goal
use Rattle.qcow2_image.proofs.Images.Places.{alone_of, inside_of, from_image}

pub returns-in-Zero-clause-image_step : goal.returns-in-Zero-clause-image_step
returns-in-Zero-clause-image_step g c = λ p out cluster sound holds own.
    let view = g.S.Storage.view in
    let below = g.F.BackingDisk.backing in
    let old = c.args.self.now in
    let zeros : List ℕ = replicate c.args.length 0 in
    image_step_data view below out old c.write_zeros.new.self p sound cluster c.args.at zeros (own_of view below p old old out cluster c.args.at c.args.length (length zeros) (length-replicate {A = ℕ} c.args.length 0) refl own) holds
    c.write_zeros.result (c.write_zeros.ensures.puts.written (alone_of sound))

pub returns-in-Zero-clause-copies : goal.returns-in-Zero-clause-copies
returns-in-Zero-clause-copies g c = λ p out sound mapped.
    let view = g.S.Storage.view in
    let below = g.F.BackingDisk.backing in
    let old = c.args.self.now in
    let h = old.file.header.fields in
    let zeros : List ℕ = replicate c.args.length 0 in
    from_image (λ place. IfOk c.write_zeros.result (λ done. IsCopied view below place old c.write_zeros.new.self c.args.at c.args.guest c.args.length)) sound (IfOk-weaker c.write_zeros.result _ _
    (λ done there i lt.
    ap known_byte (there i (let n = length-replicate {A = ℕ} c.args.length 0 in omega arith) ∙ get_or-replicate c.args.length i 0 0 lt)
    ∙ sym (zero_shown (state_in view old.file p) sound.file.caches.kept.kept.crash_invariant (inside_of sound) c.args.guest c.args.length mapped.alike (is_some old.backing) (backing_bytes view below old.backing)
    (cover h (known_in view old.file) (c.args.guest / cluster_size h)) refl (none_below view below old.backing) c.in-Zero.explicit (ap found_kind (sym c.in-Zero.is) ∙ mapped.kind_is) i lt))
    (there_written view old c.write_zeros.new.self c.args.at zeros c.write_zeros.result (c.write_zeros.ensures.puts.written (alone_of sound)) sound.file.honest))

pub returns-in_err-read_as-clause-image_step : goal.returns-in_err-read_as-clause-image_step
returns-in_err-read_as-clause-image_step g c = λ p out cluster sound holds own.
    image_step_kept g.S.Storage.view g.F.BackingDisk.backing out c.args.self.now c.read_as.new.self p p sound holds holds (c.read_as.ensures.keeps p out sound)

pub returns-clause-image_step : goal.returns-clause-image_step
returns-clause-image_step g c = λ p out cluster sound holds own.
    let view = g.S.Storage.view in
    let below = g.F.BackingDisk.backing in
    let old = c.args.self.now in
    let mid = c.read_as.new.self in
    let bytes = c.read_as.new.bytes in
    let long : length bytes ≡ c.args.length = search rules in
    let first = c.read_as.ensures.keeps p out sound in
    image_step_then view below out old mid c.write_data.new.self p p p (image_step_kept view below out old mid p p sound holds holds first)
    (image_step_data view below out mid c.write_data.new.self p first.sound cluster c.args.at bytes (own_of view below p old mid out cluster c.args.at c.args.length (length bytes) long c.read_as.ensures.step.header own) holds c.write_data.result
    (c.write_data.ensures.puts.written (alone_of first.sound)))

pub returns-clause-copies : goal.returns-clause-copies
returns-clause-copies g c = λ p out sound mapped.
    let view = g.S.Storage.view in
    let below = g.F.BackingDisk.backing in
    let old = c.args.self.now in
    let mid = c.read_as.new.self in
    let bytes = c.read_as.new.bytes in
    let long : length c.as_mut_slice-bytes.result.now ≡ c.args.length = search rules in
    let still : length bytes ≡ c.args.length = search rules in
    let first = c.in_ok-read_as.ensures.keeps p out sound in
    let read = c.in_ok-read_as.ensures.shows p out sound (subst (IsMappedAs view old c.args.guest c.args.kind.now) (sym long) mapped) in
    IfOk-weaker c.write_data.result _ _
    (λ done there i lt. ap known_byte (from_image (λ place. contents_for view below place c.write_data.new.self (c.args.at + i) ≡ byte_at bytes i) sound (there i (omega (arith, still, lt)))) ∙ sym (read i (omega (arith, still, lt))) ∙ ap (λ (d : Disk). d.value (c.args.guest + i)) (disk_kept view below old mid out p sound first))
    (there_written view mid c.write_data.new.self c.args.at bytes c.write_data.result (c.write_data.ensures.puts.written (alone_of first.sound)) first.sound.file.honest)

pub returns-in-Zero-clause-may_fail : goal.returns-in-Zero-clause-may_fail
returns-in-Zero-clause-may_fail g c = λ behind. met_as IsFault (MayFailReading c.args.kind.now) c.write_zeros.result (λ e fault. inl fault) (c.write_zeros.ensures.puts.fault behind)

pub returns-in_err-read_as-clause-may_fail : goal.returns-in_err-read_as-clause-may_fail
returns-in_err-read_as-clause-may_fail g c = λ behind. hands_met (MayFailReading c.args.kind.now) c.from_residual-in_err-read_as.result c.in_err-read_as.field-0.0 c.from_residual-in_err-read_as.ensures c.in_err-read_as.ensures.fails.cause

pub returns-clause-may_fail : goal.returns-clause-may_fail
returns-clause-may_fail g c = λ behind.
    met_as IsFault (MayFailReading c.args.kind.now) c.write_data.result (λ e fault. inl fault) (c.write_data.ensures.puts.fault (subst (λ (v : HeaderView). cluster_size v.fields ≤ c.args.at) (sym c.read_as.ensures.step.header) behind))

pub returns-in-Zero-clause-step : goal.returns-in-Zero-clause-step
returns-in-Zero-clause-step g c = filling_written c.write_zeros.ensures.step c.write_zeros.ensures.puts.rest

pub returns-in_err-read_as-clause-step : goal.returns-in_err-read_as-clause-step
returns-in_err-read_as-clause-step g c = filling_of_read c.read_as.ensures.step c.read_as.ensures.allocator c.read_as.ensures.tables

pub returns-in_err-read_as-clause-fails : goal.returns-in_err-read_as-clause-fails
returns-in_err-read_as-clause-fails g c = record {
  faults = search rules;
  cause = hands_met (MayFailCopying c.read_as.new.self c.args.kind.now) c.from_residual-in_err-read_as.result c.in_err-read_as.field-0.0 c.from_residual-in_err-read_as.ensures (reading_copied c.read_as.new.self c.args.kind.now c.in_err-read_as.field-0.0 c.in_err-read_as.ensures.fails.cause);
  limited = hands_unlimited c.from_residual-in_err-read_as.result c.in_err-read_as.field-0.0 c.from_residual-in_err-read_as.ensures c.in_err-read_as.ensures.fails.limited;
}

pub returns-clause-step : goal.returns-clause-step
returns-clause-step g c = filling_then (filling_of_read c.read_as.ensures.step c.read_as.ensures.allocator c.read_as.ensures.tables) (filling_written c.write_data.ensures.step c.write_data.ensures.puts.rest)

pub returns-clause-fails : goal.returns-clause-fails
returns-clause-fails g c = record {
  faults = search rules;
  cause = met_as MayFailWriting (MayFailCopying c.write_data.new.self c.args.kind.now) c.write_data.result (λ e why. inl (writing_met _ e why)) c.write_data.ensures.fails.cause;
  limited = search rules;
}

pub returns-in-Zero-clause-fails : goal.returns-in-Zero-clause-fails
returns-in-Zero-clause-fails g c = record {
  faults = search rules;
  cause = met_as (MayFailUncopied c.write_zeros.new.self) (MayFailCopying c.write_zeros.new.self c.args.kind.now) c.write_zeros.result (λ e why. inl (uncopied_met c.write_zeros.new.self (IsSpecial c.args.kind.now) e why)) c.write_zeros.ensures.fails.cause;
  limited = search rules;
}
