use Rattle.std.proofs.Common.{◌≡◌, ◌∙◌, Ok, ap, refl, sym, subst, inl, inr}
use Rattle.qcow2_alloc.proofs.Common.{Pending, counts_per_block, Allocator, RefusedGrowth, AllocatesCluster, pending_then, IsUsed, NoFreeBelowHint, AllocatesClusterSoundly}
use Rattle.qcow2_alloc.proofs.Lemmas.{passed_same, hint_more, hint_raised, hint_refused, raised_used, range_as, uses_raised, uses_refused, handed_on, leaves_as, leaves_on, may_still, is_sound_on, takes_on, lists_used_still, hint_kept, header_counts, fails_ok, fails_on, fails_since, step_as, step_on, step_then}
use Rattle.qcow2_alloc.proofs.allocation.Allocator.allocate_cluster.Goals.{then-cluster-self, else-cluster-self}
use Rattle.qcow2_alloc.proofs.allocation.Allocator.allocate_cluster.Goals as goal

pub returns-in_err-ensure_refblock-clause-step : goal.returns-in_err-ensure_refblock-clause-step
returns-in_err-ensure_refblock-clause-step g c = record { header = c.ensure_refblock.ensures.step.header; list = c.ensure_refblock.ensures.step.list; former = c.ensure_refblock.ensures.step.former; marks = c.ensure_refblock.ensures.step.marks; header_cluster = c.ensure_refblock.ensures.step.header_cluster }

pub returns-in_err-taken-clause-step : goal.returns-in_err-taken-clause-step
returns-in_err-taken-clause-step g c = step_then (record { header = c.ensure_refblock.ensures.step.header; list = c.ensure_refblock.ensures.step.list; former = c.ensure_refblock.ensures.step.former; marks = c.ensure_refblock.ensures.step.marks; header_cluster = c.ensure_refblock.ensures.step.header_cluster }) (step_on c.increment_refcount.ensures.step)

pub returns-clause-step : goal.returns-clause-step
returns-clause-step g c =
    let recorded : c.if-cluster-self.self.reftable ≡ c.record_used.new.self.reftable = elim c.if-cluster-self.branch [
      | then-cluster-self w ↦ ap (λ (t : Allocator). t.reftable) w.self-is
      | else-cluster-self w ↦ ap (λ (t : Allocator). t.reftable) w.self-is
    ] in
    let same : c.if-cluster-self.self.reftable ≡ c.increment_refcount.new.self.reftable = recorded ∙ ap (λ (t : Allocator). t.reftable) c.record_used.ensures.kept.rest in
    step_as same refl (step_then (record { header = c.ensure_refblock.ensures.step.header; list = c.ensure_refblock.ensures.step.list; former = c.ensure_refblock.ensures.step.former; marks = c.ensure_refblock.ensures.step.marks; header_cluster = c.ensure_refblock.ensures.step.header_cluster }) (step_on c.increment_refcount.ensures.step))

pub returns-in_err-ensure_refblock-clause-fails : goal.returns-in_err-ensure_refblock-clause-fails
returns-in_err-ensure_refblock-clause-fails g c = fails_on c.from_residual.result c.in_err-ensure_refblock.field-0.0 c.from_residual.ensures c.in_err-ensure_refblock.ensures.fails

pub returns-in_err-taken-clause-fails : goal.returns-in_err-taken-clause-fails
returns-in_err-taken-clause-fails g c = fails_on c.from_residual-in_err-taken.result c.in_err-taken.field-0.0 c.from_residual-in_err-taken.ensures (fails_since c.in_ok-ensure_refblock.ensures.fails.told c.in_err-taken.ensures.fails)

pub returns-clause-fails : goal.returns-clause-fails
returns-clause-fails g c = fails_ok (c.in_ok-taken.ensures.fails.told ∙ c.in_ok-ensure_refblock.ensures.fails.told)

pub returns-in_err-ensure_refblock-clause-sound : goal.returns-in_err-ensure_refblock-clause-sound
returns-in_err-ensure_refblock-clause-sound g c = λ p d sound may.
    let reached = c.in_err-ensure_refblock.ensures.sound p sound in
    handed_on (AllocatesClusterSoundly g.S.Storage.view p d c.args.self.now c.args.file.now c.ensure_refblock.new.self c.ensure_refblock.new.file c.args.cluster) c.from_residual.result c.in_err-ensure_refblock.field-0.0 c.from_residual.ensures (record {
      takes = reached.reaches;
      leaks = reached.leaks;
      listed = reached.listed;
      uses = reached.uses;
      used = λ hint. tt;
      free = tt;
      hint = reached.hint;
      limit = reached.limit;
    })

pub returns-in_err-taken-clause-sound : goal.returns-in_err-taken-clause-sound
returns-in_err-taken-clause-sound g c = λ p d sound may.
    let view = g.S.Storage.view in
    let a = c.args.file.now in
    let b = c.ensure_refblock.new.file in
    let q : Pending = pending_then p a.free_list b.free_list in
    let reached = c.in_ok-ensure_refblock.ensures.sound p sound in
    let one = reached.reaches in
    let two = c.in_err-taken.ensures.sound q d (is_sound_on view p q a b c.ensure_refblock.new.self one) (may_still d a b c.ensure_refblock.ensures.step.marks.order may) in
    let e = c.in_err-taken.field-0.0 in
    handed_on (AllocatesClusterSoundly view p d c.args.self.now a c.increment_refcount.new.self c.increment_refcount.new.file c.args.cluster) c.from_residual-in_err-taken.result e c.from_residual-in_err-taken.ensures (record {
      takes = subst (λ (r : Pending). RefusedGrowth view p a c.increment_refcount.new.self c.increment_refcount.new.file r e) (ap (pending_then p a.free_list) (sym c.increment_refcount.ensures.step.list))
          (leaves_on view p q q a b c.increment_refcount.new.file c.ensure_refblock.new.self c.increment_refcount.new.self e (λ k some. some) one (leaves_as view q b c.increment_refcount.new.file c.increment_refcount.new.self e two.takes));
      leaks = ap (λ (t : Allocator). t.leaked_clusters) c.increment_refcount.ensures.same ∙ reached.leaks;
      listed = lists_used_still view a b c.increment_refcount.new.file (reached.listed) c.increment_refcount.ensures.step.list;
      uses = elim (uses_refused view q b c.increment_refcount.new.file c.increment_refcount.new.self e two.takes) [ inl kept ↦ inl (λ k used. kept k (reached.uses k used)) | inr interruption ↦ inr interruption ];
      used = λ hint. tt;
      free = tt;
      hint = λ hint. hint_refused view q b c.increment_refcount.new.file c.ensure_refblock.new.self c.increment_refcount.new.self e (passed_same c.ensure_refblock.new.self c.increment_refcount.new.self c.increment_refcount.ensures.same) two.takes (reached.hint hint);
      limit = λ hint near. inl two.fault;
    })

pub returns-clause-sound : goal.returns-clause-sound
returns-clause-sound g c = λ p d sound may.
    let view = g.S.Storage.view in
    let a = c.args.file.now in
    let b = c.ensure_refblock.new.file in
    let q : Pending = pending_then p a.free_list b.free_list in
    let reached = c.in_ok-ensure_refblock.ensures.sound p sound in
    let one = reached.reaches in
    let two = c.in_ok-taken.ensures.sound q d (is_sound_on view p q a b c.ensure_refblock.new.self one) (may_still d a b c.ensure_refblock.ensures.step.marks.order may) in
    let t = c.increment_refcount.new.self in
    let file = c.increment_refcount.new.file in
    let recorded = c.record_used.new.self in
    let kept = c.record_used.ensures.kept in
    let same_noted : c.if-cluster-self.self.reftable ≡ recorded.reftable = elim c.if-cluster-self.branch [
      | then-cluster-self w ↦ ap (λ (t : Allocator). t.reftable) w.self-is
      | else-cluster-self w ↦ ap (λ (t : Allocator). t.reftable) w.self-is
    ] in
    let same : c.if-cluster-self.self.reftable ≡ t.reftable = same_noted ∙ ap (λ (t : Allocator). t.reftable) kept.rest in
    let leaks_noted : c.if-cluster-self.self.leaked_clusters ≡ recorded.leaked_clusters = elim c.if-cluster-self.branch [
      | then-cluster-self w ↦ ap (λ (t : Allocator). t.leaked_clusters) w.self-is
      | else-cluster-self w ↦ ap (λ (t : Allocator). t.leaked_clusters) w.self-is
    ] in
    let leaks : c.if-cluster-self.self.leaked_clusters ≡ t.leaked_clusters = leaks_noted ∙ ap (λ (t : Allocator). t.leaked_clusters) kept.rest in
    let used = λ (hint : NoFreeBelowHint view c.args.self.now a). two.used (reached.hint hint) (range_as c.ensure_refblock.new.self.reftable c.args.cluster (counts_per_block a.header.fields) (counts_per_block b.header.fields) (header_counts a.header b.header c.ensure_refblock.ensures.step.header) c.in_ok-ensure_refblock.ensures.has) in
    record {
      takes = subst (λ (r : Pending). AllocatesCluster view p a c.if-cluster-self.self file r d c.args.cluster (Ok c.in_ok-taken.taken)) (ap (pending_then p a.free_list) (sym c.increment_refcount.ensures.step.list))
          (takes_on view p q a b file c.ensure_refblock.new.self t c.if-cluster-self.self d c.args.cluster c.in_ok-taken.taken (λ k some. some) same one two.takes);
      leaks = leaks ∙ ap (λ (t : Allocator). t.leaked_clusters) c.increment_refcount.ensures.same ∙ reached.leaks;
      listed = lists_used_still view a b file (reached.listed) c.increment_refcount.ensures.step.list;
      uses = λ k before. uses_raised view q d c.args.cluster b file t c.in_ok-taken.taken two.takes k (reached.uses k before);
      used = used;
      free = λ taken before. two.free taken (reached.uses c.args.cluster before);
      hint = λ hint.
          let raised = hint_raised view q d c.args.cluster b file c.ensure_refblock.new.self t c.in_ok-taken.taken (passed_same c.ensure_refblock.new.self c.increment_refcount.new.self c.increment_refcount.ensures.same) two.takes (reached.hint hint) in
          let here = raised_used view q d c.args.cluster b file t c.in_ok-taken.taken two.takes (used hint) in
          let known = hint_kept view file t recorded (λ k. k ≡ c.args.cluster) kept (λ k same. subst (IsUsed view file) (sym same) here) raised in
          elim c.if-cluster-self.branch [
            | then-cluster-self w ↦ subst (λ t. NoFreeBelowHint view t file) (sym w.self-is) (hint_more view file recorded c.args.cluster known (sym w.if-cluster-self.true) here)
            | else-cluster-self w ↦ subst (λ t. NoFreeBelowHint view t file) (sym w.self-is) known
          ];
      limit = λ hint near. tt;
    }
