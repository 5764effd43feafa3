use Rattle.qcow2_session.proofs.Lemmas.{answered_at_once, refused_at_once, quiet_left, resizes_failed, resized_itself, resizes_reading, same_early, begun_with, grow_meets, is_answered, is_refused, same_error, some_error, takes_larger, then_early, then_none}
use Rattle.std.proofs.Common.{◌&&◌, inl, inr, ap, arith, refl, rules}
use Rattle.qcow2_session.proofs.Common.{cases_lt, size_of, refuses_to_resize, takes_over, nat_lt, Preallocation, in_image}
use Rattle.qcow2_session.proofs.Resized.{none_early, grow_done, grow_refused}
use Rattle.qcow2_session.specs.declared.session.Command.TheVariants as C
use Rattle.qcow2_session.specs.declared.session.Reply.TheVariants as R
use Rattle.qcow2_session.proofs.sizing.grow.Goals as goal

pub returns-in-Ok : goal.returns-in-Ok
returns-in-Ok g c = λ slots. record {
  keeps = resized_itself c.args.image.now c.resize_grow.new.self _ _ _ (size_of c.args.image.now) c.args.size c.in-Ok.ensures.early c.in-Ok.ensures.no_larger c.in-Ok.ensures.image;
  size = λ failed. ap size_of (same_early _ (refuses_to_resize c.args.image.now) (resizes_failed c.args.image.now failed) c.resize_grow.ensures.early);
  counts = search rules;
  marks = answered_at_once g.S.Storage.view c.args.image.now c.resize_grow.new.self c.in-Ok.ensures.step.once_written c.in-Ok.ensures.step.marks;
  header_cluster = λ _. search rules;
  slots = refl;
  steps = λ _ x s stands founds.
      grow_done g.S.Storage.view g.F.BackingDisk.backing c.args.image.now c.resize_grow.new.self c.args.size (in_image slots.prepared.items) x s stands (λ out sound. (c.in-Ok.ensures.sound out sound).last.last) c.args.mode c.in-Ok.ensures.early
      (λ sound larger. ((c.in-Ok.ensures.sound (in_image slots.prepared.items) sound).tables (none_early _ tt _ c.in-Ok.ensures.early) larger).covers) c.in-Ok.ensures.sees;
  finds = search rules;
  after = refl;
  reports = tt;
  causes = let before = (in_image slots.prepared.items) in
      is_answered g.S.Storage.view g.F.BackingDisk.backing c.args.image.now c.resize_grow.new.self before (C.ResizeGrow c.args.size c.args.mode) _ tt R.Done (λ is. absurd cc) (λ is. absurd cc, λ is. absurd is) refl
      (then_early (refuses_to_resize c.args.image.now) (nat_lt (size_of c.args.image.now) c.args.size && takes_over c.args.image.now c.args.mode) Preallocation _ c.in-Ok.ensures.early
      (λ none takes. let t = takes_larger (size_of c.args.image.now) c.args.size (takes_over c.args.image.now c.args.mode) takes in c.in-Ok.ensures.preallocation none t.0 t.1)) (λ _ _ larger is. absurd cc);
  quiet = λ reading existing. quiet_left g.S.Storage.view c.args.image.now c.resize_grow.new.self slots.prepared.items (same_early _ (refuses_to_resize c.args.image.now) (resizes_reading c.args.image.now reading) c.resize_grow.ensures.early) reading existing;
}

pub returns-in-Err : goal.returns-in-Err
returns-in-Err g c = λ slots. record {
  keeps = resized_itself c.args.image.now c.resize_grow.new.self _ _ _ (size_of c.args.image.now) c.args.size c.in-Err.ensures.early c.in-Err.ensures.no_larger c.in-Err.ensures.image;
  size = λ failed. ap size_of (same_early _ (refuses_to_resize c.args.image.now) (resizes_failed c.args.image.now failed) c.resize_grow.ensures.early);
  counts = search rules;
  marks = refused_at_once g.S.Storage.view c.args.image.now c.resize_grow.new.self c.in-Err.refusal c.in-Err.ensures.step.once_written c.in-Err.ensures.step.marks;
  header_cluster = λ _. search rules;
  slots = refl;
  steps = λ _ x s stands founds.
      grow_refused g.S.Storage.view g.F.BackingDisk.backing c.args.image.now c.resize_grow.new.self c.args.size (in_image slots.prepared.items) x s stands (λ out sound. (c.in-Err.ensures.sound out sound).last.last) c.args.mode _ c.in-Err.ensures.early c.in-Err.ensures.no_larger c.in-Err.ensures.sees;
  finds = search rules;
  after = refl;
  reports = tt;
  causes = let before = (in_image slots.prepared.items) in
      let old = c.args.image.now in
      let e = c.in-Err.refusal in
      let first = then_none (refuses_to_resize old) (nat_lt (size_of old) c.args.size && takes_over old c.args.mode) Preallocation in
      is_refused g.S.Storage.view g.F.BackingDisk.backing old c.resize_grow.new.self before (C.ResizeGrow c.args.size c.args.mode) e (R.Refused e) (λ is. absurd cc) (λ is. absurd cc, λ is. absurd is) refl
      (then_early (refuses_to_resize old) (nat_lt (size_of old) c.args.size && takes_over old c.args.mode) Preallocation _ (begun_with _ _ _ (refuses_to_resize old) c.in-Err.ensures.early)
      (λ none takes. let t = takes_larger (size_of old) c.args.size (takes_over old c.args.mode) takes in let h = c.in-Err.ensures.preallocation none t.0 t.1 in (same_error h.0, h.1)))
      (λ none. grow_meets e (size_of old) c.args.size (takes_over old c.args.mode) (first none).1 (λ le. let no = (c.in-Err.ensures.no_larger (first none).0 le).0 in absurd cc) (c.in-Err.ensures.late (first none).0))
      (λ none sound. elim (cases_lt (size_of old) c.args.size) [
        | inl larger ↦ grow_meets e (size_of old) c.args.size (takes_over old c.args.mode) (first none).1 (λ le. omega (arith, le, larger)) ((c.in-Err.ensures.sound before sound).may_fail (first none).0 larger)
        | inr le ↦ absurd (let no = (c.in-Err.ensures.no_larger (first none).0 le).0 in cc)
      ])
      (λ none le. let no = (c.in-Err.ensures.no_larger (first none).0 le).0 in absurd cc)
      (λ none sound larger is. ((c.in-Err.ensures.sound before sound).tables (first none).0 larger).taken (some_error is));
  quiet = λ reading existing. quiet_left g.S.Storage.view c.args.image.now c.resize_grow.new.self slots.prepared.items (same_early _ (refuses_to_resize c.args.image.now) (resizes_reading c.args.image.now reading) c.resize_grow.ensures.early) reading existing;
}
