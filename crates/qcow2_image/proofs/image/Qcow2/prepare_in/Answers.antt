use Rattle.qcow2_image.proofs.Lemmas.{taking_where, where_then, where_with, back_refused, free_places, counted_as, counted_still, step_none, goes_step, hands_limit, limited_from, places_enter, alone_as, compressed_as, compressed_at, hands_met, taking_as}
use Rattle.qcow2_image.proofs.Call.KeptOffsets.{met_kept, released_offsets}
use Rattle.qcow2_image.proofs.image.Qcow2.prepare_in.Goals as goal
use Rattle.std.proofs.Common.{◌≡◌, ◌+◌, ◌-◌, ◌/◌, ◌%◌, ◌∷◌, ◌<◌, [], refl, sym, ap, ◌∙◌, subst, arith, inl, rules, None, Err, ℕ, Option, IsSome}
use Rattle.qcow2_image.proofs.Common.{cover, cluster_size, HeaderFields, known_in, handed_on, header_format, header_then, IsReadied, PreparesRange, GoesTo, pow_pos, mod_below, CopiesCompressed, MayFailAllocating, HasPinnedMapping, l2_pins}
use Rattle.qcow2_image.proofs.Prepare.RangeByParts.{release_prepared_broken, refused_free}
use Rattle.qcow2_image.proofs.Images.Places.{put_first}

pub returns-in-Ok-clause-reaches : goal.returns-in-Ok-clause-reaches
returns-in-Ok-clause-reaches g c = λ out k free sound holds.
    let view = g.S.Storage.view in
    let old = c.args.self.now in
    let mid = c.prepare_first.new.self in
    let new = c.prepare_rest.new.self in
    let p = c.in_ok-prepared.prepared in
    let first = c.in_ok-prepared.ensures.begins.first in
    let longer = c.in-Ok.ensures.longer in
    let ready = subst (λ o. IsReadied view g.F.BackingDisk.backing old mid out k o c.args.length c.args.overwrite p) (sym first.guest) ((c.in_ok-prepared.ensures.sound out sound holds).readies k free) in
    let on = (c.in-Ok.ensures.sound old out k free first.under ready).does in
    let size : cluster_size new.file.header.fields ≡ cluster_size old.file.header.fields = ap (λ (x : HeaderFields). cluster_size x) (header_format old.file.header new.file.header (header_then old.file.header mid.file.header new.file.header c.in_ok-prepared.ensures.step.header c.in-Ok.ensures.step.header)) in
    let rest : cluster_size new.file.header.fields - c.args.offset % cluster_size new.file.header.fields ≡ p.length = ap (λ s. s - c.args.offset % s) size ∙ sym first.rest in
    let same = ap (λ s. cover new.file.header.fields (known_in view new.file) (c.args.offset / s)) size ∙ sym (on.0.covers (c.args.offset / cluster_size old.file.header.fields)) in
    record {
      guest = longer.guest ∙ first.guest;
      under = (c.args.table, longer.under ∙ first.under);
      first = let more = longer.more in omega arith;
      most = λ past. longer.most past ∙ sym rest;
      short = on.1;
      kept = λ host at. longer.place ∙ (c.in_ok-prepared.ensures.sound out sound holds).kept host (sym same ∙ at) ∙ ap (λ s. host + c.args.offset % s) (sym size);
    }

pub returns-in-Ok-clause-some : goal.returns-in-Ok-clause-some
returns-in-Ok-clause-some g c =
    let old = c.args.self.now in
    let new = c.prepare_rest.new.self in
    let h = old.file.header.fields in
    let first = c.in_ok-prepared.ensures.begins.first in
    let longer = c.in-Ok.ensures.longer in
    let size : cluster_size new.file.header.fields ≡ cluster_size h = ap (λ (x : HeaderFields). cluster_size x) (header_format old.file.header new.file.header (header_then old.file.header c.prepare_first.new.self.file.header new.file.header c.in_ok-prepared.ensures.step.header c.in-Ok.ensures.step.header)) in
    let within = mod_below c.args.offset (cluster_size h) (pow_pos h.cluster_bits) in
    record { some = (let rest = first.rest in let more = longer.more in omega (arith, within)); behind = λ none. let begins = c.in_ok-prepared.ensures.begins.behind (sym (c.prepare_rest.ensures.step.stays.image.beside ∙ c.prepare_first.ensures.step.stays.image.beside) ∙ none) in let place = longer.place in omega (arith, size) }

pub returns-in-Err-clause-step : goal.returns-in-Err-clause-step
returns-in-Err-clause-step g c = where_then (where_then c.prepare_first.ensures.step (taking_where c.prepare_rest.ensures.step)) (where_with (record { stays = c.release_prepared.ensures.step.stays; notes = c.release_prepared.ensures.step.notes; header_cluster = λ _. c.release_prepared.ensures.step.header_cluster }) c.release_prepared.ensures.header)

pub returns-in-Err-clause-fails : goal.returns-in-Err-clause-fails
returns-in-Err-clause-fails g c = record {
  cause = inl (met_kept (released_offsets g.S.Storage.view c.prepare_rest.new.self c.release_prepared.new.self c.release_prepared.ensures.rest) c.in-Err.refusal c.in-Err.ensures.fails.cause);
  faults = let view = g.S.Storage.view in
      let below = g.F.BackingDisk.backing in
      let old = c.args.self.now in
      let e = c.in-Err.refusal in
      counted_still view below old c.prepare_rest.new.self c.release_prepared.new.self (Err e)
      (counted_as view below old c.prepare_first.new.self c.prepare_rest.new.self c.prepare_rest.result e c.in_ok-prepared.ensures.fails.faults.told c.prepare_rest.ensures.fails.faults c.in-Err.is) c.release_prepared.ensures.faults;
}

pub returns-in-Ok-clause-step : goal.returns-in-Ok-clause-step
returns-in-Ok-clause-step g c = where_then c.prepare_first.ensures.step (taking_where c.prepare_rest.ensures.step)

pub returns-in_err-prepared-clause-sound : goal.returns-in_err-prepared-clause-sound
returns-in_err-prepared-clause-sound g c = λ out sound holds.
    let view = g.S.Storage.view in
    let h = c.args.self.now.file.header.fields in
    let below = g.F.BackingDisk.backing in
    let known = known_in g.S.Storage.view c.args.self.now.file in
    let old = c.args.self.now in
    let offset = c.args.offset in
    let mid = c.prepare_first.new.self in
    let n = c.args.length in
    record {
      readies = handed_on (λ r. PreparesRange view below old mid out c.args.offset c.args.length c.args.overwrite r) c.from_residual.result c.in_err-prepared.field-0.0 c.from_residual.ensures
          (back_refused view below out old mid c.in_err-prepared.field-0.0 sound ((c.in_err-prepared.ensures.sound out sound holds).readies));
      may_fail = λ some. hands_met (MayFailAllocating (HasPinnedMapping out) (0 < l2_pins c.args.self.now.file.caches c.args.table) (CopiesCompressed offset n c.args.overwrite h known) ⊥) c.from_residual.result c.in_err-prepared.field-0.0 c.from_residual.ensures
          (taking_as (λ held. held) (λ kept. kept) (λ copied. compressed_at h known offset n offset n c.args.overwrite (omega arith) some refl (inl refl) copied) (λ no. no) c.in_err-prepared.field-0.0 ((c.in_err-prepared.ensures.sound out sound holds).may_fail));
      limit = λ some. hands_limit c.from_residual.result c.in_err-prepared.field-0.0 c.from_residual.ensures ((c.in_err-prepared.ensures.sound out sound holds).limit);
    }

pub returns-in-Ok-clause-sound : goal.returns-in-Ok-clause-sound
returns-in-Ok-clause-sound g c = λ out sound holds.
    let view = g.S.Storage.view in
    let below = g.F.BackingDisk.backing in
    let old = c.args.self.now in
    let first = c.in_ok-prepared.ensures.begins.first in
    record {
      may_fail = search rules;
      limit = search rules;
      readies = λ k free. let ready = subst (λ o. IsReadied view below old c.prepare_first.new.self out k o c.args.length c.args.overwrite c.in_ok-prepared.prepared) (sym first.guest) ((c.in_ok-prepared.ensures.sound out sound holds).readies k free) in
          let on = (c.in-Ok.ensures.sound old out k free first.under ready).does in
          subst (λ o. IsReadied view below old c.prepare_rest.new.self out k o c.args.length c.args.overwrite c.prepare_rest.new.prepared) (c.in-Ok.ensures.longer.guest ∙ first.guest) on.0;
    }

pub returns-in-Err-clause-sound : goal.returns-in-Err-clause-sound
returns-in-Err-clause-sound g c = λ out sound holds.
    let view = g.S.Storage.view in
    let below = g.F.BackingDisk.backing in
    let old = c.args.self.now in
    let mid = c.prepare_first.new.self in
    let new = c.prepare_rest.new.self in
    let p = c.in_ok-prepared.prepared in
    let n = c.args.length in
    let q = c.prepare_rest.new.prepared in
    let first = c.in_ok-prepared.ensures.begins.first in
    let h = old.file.header.fields in
    let placed = (free_places view below out.place).free old [] out.slots sound in
    let hm = mid.file.header.fields in
    let ready = subst (λ o. IsReadied view below old mid (put_first None out) 0 o c.args.length c.args.overwrite p) (sym first.guest) ((c.in_ok-prepared.ensures.sound (put_first None out) placed holds).readies 0 refl) in
    let broken = (c.in-Err.ensures.sound old (put_first None out) 0 refl first.under ready).does in
    record {
      readies = refused_free view below out old c.release_prepared.new.self c.in-Err.refusal
          (release_prepared_broken view below old new c.release_prepared.new.self (put_first None out) 0 c.args.length c.args.overwrite q c.in-Err.refusal refl c.release_prepared.ensures.rest c.release_prepared.ensures.sees broken);
      may_fail = λ some. let ready = subst (λ o. IsReadied view below old mid (put_first None out) 0 o n c.args.overwrite p) (sym first.guest) ((c.in_ok-prepared.ensures.sound (put_first None out) placed holds).readies 0 refl) in
          let size : cluster_size hm ≡ cluster_size h = ap (λ (x : HeaderFields). cluster_size x) (header_format old.file.header mid.file.header c.in_ok-prepared.ensures.step.header) in
          inl (alone_as (λ found. compressed_as h hm (known_in view old.file) (known_in view mid.file) c.args.offset n c.args.overwrite size ready.covers (subst (λ o. CopiesCompressed o n c.args.overwrite hm (known_in view mid.file)) first.guest found)) (λ no. no)
          c.in-Err.refusal ((c.in-Err.ensures.sound old (put_first None out) 0 refl first.under ready).may_fail));
      limit = λ some is. let goes : GoesTo view old mid = record { image = c.prepare_first.ensures.step.stays.image; header_cluster = c.prepare_first.ensures.step.header_cluster some } in
          limited_from (omega arith) (omega arith) (goes_step step_none) placed (places_enter view below old out) ((c.in-Err.ensures.sound old (put_first None out) 0 refl first.under ready).limit goes is);
    }

pub returns-in-Ok-clause-pins : goal.returns-in-Ok-clause-pins
returns-in-Ok-clause-pins g c = subst (λ (t : Option ℕ). IsSome t) (sym (c.in-Ok.ensures.longer.under ∙ c.in_ok-prepared.ensures.begins.first.under)) refl

pub returns-in-Ok-clause-own : goal.returns-in-Ok-clause-own
returns-in-Ok-clause-own g c = let longer = c.in-Ok.ensures.longer in let own = c.in_ok-prepared.ensures.begins.own in (longer.image ∙ own.0, longer.file ∙ own.1)
