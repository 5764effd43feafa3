use Rattle.std.proofs.Common.{◌≡◌, ◌+◌, ◌-◌, ◌*◌, ◌/◌, ◌%◌, ◌^◌, ◌<◌, ◌⊎◌, ◌≤◌, ℕ, sym, ap, ◌∙◌, arith, is_some, inl, inr, rules}
use Rattle.qcow2_image.proofs.Map.Looked.{kind_alone}
use Rattle.qcow2_image.proofs.Common.{is_beside, div-mul-add, div-add-mod', cluster_size, contents_in, known_in, IsMappedAs, disk_of, cover, known_byte, kind_at, IsFault, IsCopiedCompressed, MayFailCopying, MayFailOn, MayFailReading, IfOk-weaker, contents_for, MayFailFilling}
use Rattle.qcow2_image.proofs.Prepare.CopiedBytes.{none_has, some_has}
use Rattle.qcow2_image.proofs.Lemmas.{copying_met, alike_within, image_step_none, behind_start, met_as, reading_met, told_sum, within_cluster, filling_none}
use Rattle.qcow2_alloc.specs.declared.error.ImageError.TheVariants as I
use Rattle.qcow2_image.proofs.image.Qcow2.fill_cluster.Goals as goal
use Rattle.qcow2_image.proofs.Images.Places.{alone_of}

pub returns-in_default-checked_add-clause-sound : goal.returns-in_default-checked_add-clause-sound
returns-in_default-checked_add-clause-sound g c = λ p out sound holds some none.
    record {
      image_step = image_step_none g.S.Storage.view g.F.BackingDisk.backing out c.args.self.now p sound;
      fills = search rules;
    }

pub returns-clause-sound : goal.returns-clause-sound
returns-clause-sound g c = λ p out sound holds some none.
    let old = c.args.self.now in
    let view = g.S.Storage.view in
    let size = cluster_size old.file.header.fields in
    let at : c.value.result ≡ c.args.cluster * size = c.value.ensures ∙ c.offset.ensures ∙ ap (λ b. c.args.cluster * 2 ^ b) c.cluster_bits-bits.ensures.value in
    let within = c.in-Some.ensures.within in
    record {
      image_step = c.copy_old.ensures.image_step p out c.args.cluster sound holds (record {
        new_data = some;
        unused = none;
        inside = λ i lt.
            let e : c.value.result + c.in-Some.range.start + i ≡ c.args.cluster * size + (c.in-Some.range.start + i) = omega (arith, at) in
            ap (λ o. o / size) e ∙ div-mul-add c.args.cluster size (c.in-Some.range.start + i) (omega (arith, within.0, within.1, lt));
      });
      fills = let offset = c.args.offset in
          let start_is : c.in_cluster_offset-start.result ≡ offset % size = c.in_cluster_offset-start.ensures ∙ ap (λ o. o % 2 ^ c.cluster_bits-bits.result) c.new.ensures ∙ ap (λ b. offset % 2 ^ b) c.cluster_bits-bits.ensures.value in
          let guest_is = c.in-Some-checked_add.ensures.1 in
          let o_is : offset / size * size + offset % size ≡ offset = div-add-mod' offset size in
          λ covered. let inside : (i : ℕ) → i < c.in-Some.range.end - c.in-Some.range.start → (c.in-Some-checked_add.guest + i) / size ≡ offset / size = λ i lt.
          let e : c.in-Some-checked_add.guest + i ≡ offset / size * size + (c.in-Some.range.start + i) = omega (arith, guest_is, start_is, o_is) in
          ap (λ o. o / size) e ∙ div-mul-add (offset / size) size (c.in-Some.range.start + i) (omega (arith, within.0, within.1, lt)) in
          let real : 0 < c.in-Some.range.end - c.in-Some.range.start = omega (arith, within.0) in
          let zero_more : c.in-Some-checked_add.guest + 0 ≡ c.in-Some-checked_add.guest = omega arith in
          let here : c.in-Some-checked_add.guest / size ≡ offset / size = ap (λ o. o / size) (sym zero_more) ∙ inside 0 real in
          let mapped : IsMappedAs view old c.in-Some-checked_add.guest c.kind_of-kind.result (c.in-Some.range.end - c.in-Some.range.start) = record {
            kind_is = c.kind_of-kind.ensures.value ∙ kind_alone old (alone_of sound) c.in-Some-checked_add.guest c.args.old.now ∙ ap (kind_at old.file.header.fields (is_some old.backing) c.in-Some-checked_add.guest) (sym (ap (cover old.file.header.fields (known_in view old.file)) here ∙ covered));
            alike = alike_within old.file.header.fields (known_in view old.file) c.in-Some-checked_add.guest (c.in-Some.range.end - c.in-Some.range.start) (λ i lt. inside i lt ∙ sym here);
          } in
          IfOk-weaker c.copy_old.result _ _
          (λ done there i lt none.
          let range = some_has c.part_to_fill.result c.in-Some.range i c.in-Some.is (c.part_to_fill.ensures.all i lt none) in
          let from = range.0 in
          let below = range.1 in
          let place : c.args.cluster * size + i ≡ c.value.result + c.in-Some.range.start + (i - c.in-Some.range.start) = omega (arith, at, from) in
          let guest : c.in-Some-checked_add.guest + (i - c.in-Some.range.start) ≡ offset - offset % size + i = omega (arith, guest_is, from, start_is, o_is) in
          ap (λ o. known_byte (contents_for view g.F.BackingDisk.backing out.place c.copy_old.new.self o)) place ∙ there (i - c.in-Some.range.start) (omega (arith, from, below))
          ∙ ap (disk_of view g.F.BackingDisk.backing out.place old).value guest)
          (c.copy_old.ensures.copies p out sound mapped);
    }

pub returns-in_default-clause-sound : goal.returns-in_default-clause-sound
returns-in_default-clause-sound g c = λ p out sound holds some none.
    record {
      image_step = search rules;
      fills = λ covered i lt announced. absurd (none_has c.part_to_fill.result i c.in_default.is (c.part_to_fill.ensures.all i lt announced));
    }

pub returns-in_default-checked_add-clause-may_fail : goal.returns-in_default-checked_add-clause-may_fail
returns-in_default-checked_add-clause-may_fail g c = λ some.
    let offset = c.args.offset in
    let bits = c.args.self.now.file.header.fields.cluster_bits in
    let start_is : c.in_cluster_offset-start.result ≡ offset % 2 ^ bits = c.in_cluster_offset-start.ensures ∙ ap (λ o. o % 2 ^ c.cluster_bits-bits.result) c.new.ensures ∙ ap (λ b. offset % 2 ^ b) c.cluster_bits-bits.ensures.value in
    let within = c.in-Some.ensures.within in
    let few : bits ≤ 64 = let high = c.cluster_bits-bits.ensures.high in let is = c.cluster_bits-bits.ensures.value in omega (arith, high, is) in
    let near : c.args.offset < 2 ^ 64 = omega (arith, c.ranges.offset) in
    let fits = within_cluster bits offset c.in-Some.range.start few near (omega (arith, within.0, within.1)) in
    absurd (told_sum c.checked_add.result (offset - c.in_cluster_offset-start.result + c.in-Some.range.start) c.checked_add.ensures (omega (arith, fits, start_is)) c.in_default-checked_add.is)

pub returns-clause-may_fail : goal.returns-clause-may_fail
returns-clause-may_fail g c = λ some.
    let image = c.args.self.now in
    let size = cluster_size image.file.header.fields in
    let at : c.value.result ≡ c.args.cluster * size = c.value.ensures ∙ c.offset.ensures ∙ ap (λ b. c.args.cluster * 2 ^ b) c.cluster_bits-bits.ensures.value in
    met_as (MayFailReading c.kind_of-kind.result) (λ e. IsFault e ⊎ ((e ≡ I.Compressed) × IsCopiedCompressed image.file.header.fields c.args.old.now c.args.offset c.args.length c.args.overwrite)) c.copy_old.result
    (λ e why. elim (reading_met image.file.header.fields (is_beside image) (is_some image.backing) c.in-Some-checked_add.guest c.args.old.now c.kind_of-kind.result c.kind_of-kind.ensures.value e why) [
      | inl fault ↦ inl fault
      | inr compressed ↦ inr (compressed.0, (compressed.1, c.in-Some.ensures.left))
    ])
    (c.copy_old.ensures.may_fail (behind_start size c.args.cluster (c.value.result + c.in-Some.range.start) some (omega (arith, at))))

pub returns-in_default-clause-step : goal.returns-in_default-clause-step
returns-in_default-clause-step g c = filling_none

pub returns-in_default-checked_add-clause-step : goal.returns-in_default-checked_add-clause-step
returns-in_default-checked_add-clause-step g c = filling_none

pub returns-clause-fails : goal.returns-clause-fails
returns-clause-fails g c = record {
  faults = search rules;
  cause = met_as (MayFailCopying c.copy_old.new.self c.kind_of-kind.result) (MayFailFilling c.args.self.now c.copy_old.new.self c.args.old.now) c.copy_old.result
      (copying_met c.args.self.now c.copy_old.new.self c.args.self.now.file.header.fields (is_beside c.args.self.now) (is_some c.args.self.now.backing) c.in-Some-checked_add.guest c.args.old.now c.kind_of-kind.result c.kind_of-kind.ensures.value c.copy_old.ensures.step.cached) c.copy_old.ensures.fails.cause;
  limited = search rules;
}
