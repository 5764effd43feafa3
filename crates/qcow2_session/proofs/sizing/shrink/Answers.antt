use Rattle.qcow2_session.proofs.Lemmas.{answered_at_once, refused_at_once, quiet_left, resizes_failed, resized_itself, resizes_reading, same_early, begun_with, is_answered, is_refused, some_error, none_refused}
use Rattle.qcow2_session.proofs.Common.{ap, refl, rules, size_of, refuses_to_resize, in_image}
use Rattle.qcow2_session.proofs.Resized.{shrink_done, shrink_refused}
use Rattle.qcow2_session.specs.declared.session.Command.TheVariants as C
use Rattle.qcow2_session.specs.declared.session.Reply.TheVariants as R
use Rattle.qcow2_session.proofs.sizing.shrink.Goals as goal

pub returns-in-Ok : goal.returns-in-Ok
returns-in-Ok g c = λ slots. record {
  keeps = resized_itself c.args.image.now c.resize_shrink.new.self _ _ _ c.args.size (size_of c.args.image.now) c.in-Ok.ensures.early c.in-Ok.ensures.no_smaller c.in-Ok.ensures.image;
  size = λ failed. ap size_of (same_early _ (refuses_to_resize c.args.image.now) (resizes_failed c.args.image.now failed) c.resize_shrink.ensures.early);
  counts = search rules;
  marks = answered_at_once g.S.Storage.view c.args.image.now c.resize_shrink.new.self c.in-Ok.ensures.step.once_written c.in-Ok.ensures.step.marks;
  header_cluster = λ _. search rules;
  slots = refl;
  steps = λ _ x s stands founds.
      shrink_done g.S.Storage.view g.F.BackingDisk.backing c.args.image.now c.resize_shrink.new.self c.args.size (in_image slots.prepared.items) x s stands (λ out sound. (c.in-Ok.ensures.sound out sound).last) _ c.in-Ok.ensures.early c.in-Ok.ensures.sees;
  finds = search rules;
  after = refl;
  reports = λ le. let is = (c.in-Ok.ensures.no_smaller (none_refused _ (refuses_to_resize c.args.image.now) _ c.in-Ok.ensures.early) le).0 in (cc);
  causes = let before = (in_image slots.prepared.items) in
      is_answered g.S.Storage.view g.F.BackingDisk.backing c.args.image.now c.resize_shrink.new.self before (C.ResizeShrink c.args.size) _ _ (R.Shrunk c.in-Ok.offset) (λ is. absurd cc) (λ is. absurd cc, λ is. absurd is) refl c.in-Ok.ensures.early
      (λ none sound smaller. (λ is. absurd cc, λ prepared. let no = ((c.in-Ok.ensures.prepared none smaller).prepared before sound prepared).0 in absurd cc));
  quiet = λ reading existing. quiet_left g.S.Storage.view c.args.image.now c.resize_shrink.new.self slots.prepared.items (same_early _ (refuses_to_resize c.args.image.now) (resizes_reading c.args.image.now reading) c.resize_shrink.ensures.early) reading existing;
}

pub returns-in-Err : goal.returns-in-Err
returns-in-Err g c = λ slots. record {
  keeps = resized_itself c.args.image.now c.resize_shrink.new.self _ _ _ c.args.size (size_of c.args.image.now) c.in-Err.ensures.early c.in-Err.ensures.no_smaller c.in-Err.ensures.image;
  size = λ failed. ap size_of (same_early _ (refuses_to_resize c.args.image.now) (resizes_failed c.args.image.now failed) c.resize_shrink.ensures.early);
  counts = search rules;
  marks = refused_at_once g.S.Storage.view c.args.image.now c.resize_shrink.new.self c.in-Err.refusal c.in-Err.ensures.step.once_written c.in-Err.ensures.step.marks;
  header_cluster = λ _. search rules;
  slots = refl;
  steps = λ _ x s stands founds.
      shrink_refused g.S.Storage.view g.F.BackingDisk.backing c.args.image.now c.resize_shrink.new.self c.args.size (in_image slots.prepared.items) x s stands (λ out sound. (c.in-Err.ensures.sound out sound).last) _ c.in-Err.ensures.early c.in-Err.ensures.no_smaller c.in-Err.ensures.sees;
  finds = search rules;
  after = refl;
  reports = tt;
  causes = let before = (in_image slots.prepared.items) in
      let old = c.args.image.now in
      let e = c.in-Err.refusal in
      is_refused g.S.Storage.view g.F.BackingDisk.backing old c.resize_shrink.new.self before (C.ResizeShrink c.args.size) e (R.Refused e) (λ is. absurd cc) (λ is. absurd cc, λ is. absurd is) refl (begun_with _ _ _ (refuses_to_resize old) c.in-Err.ensures.early)
      (λ none. (c.in-Err.ensures.late none).cause) (λ _ _. tt) (λ none le. let no = (c.in-Err.ensures.no_smaller none le).0 in absurd cc)
      (λ none sound smaller. (λ is. (c.in-Err.ensures.late none).prepared (some_error is) before sound, λ prepared. let same = ((c.in-Err.ensures.prepared none smaller).prepared before sound prepared).0 in cc));
  quiet = λ reading existing. quiet_left g.S.Storage.view c.args.image.now c.resize_shrink.new.self slots.prepared.items (same_early _ (refuses_to_resize c.args.image.now) (resizes_reading c.args.image.now reading) c.resize_shrink.ensures.early) reading existing;
}
