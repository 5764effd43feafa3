use Rattle.std.proofs.Common.{◌≡◌, refl, ap, subst, sym, ◌∙◌}
use Rattle.qcow2_alloc.proofs.Common.{HeaderView, KeepsNoFreeBelowHint, NoFreeBelowHint, SearchContinuesIn, PassesKnown, Allocator}
use Rattle.qcow2_alloc.proofs.Lemmas.{if_no_ok, handed_on, allocator_step_as, allocator_step_then, is_sound_now, leaves_then, hint_passed, hint_refused, hint_stays, passed_still, moved_on, stayed, stood_still, fails_ok, fails_on, fails_since, table_step_as, table_step_then}
use Rattle.qcow2_alloc.proofs.allocation.Allocator.next_free_from.Goals.{then-cluster-self, else-cluster-self}
use Rattle.qcow2_alloc.proofs.allocation.Allocator.next_free_from.Goals as goal

pub returns-in_err-keep_range-clause-sound : goal.returns-in_err-keep_range-clause-sound
returns-in_err-keep_range-clause-sound g c = λ p sound.
    handed_on (PassesKnown g.S.Storage.view p c.args.self.now c.args.file.now c.keep_range.new.self c.keep_range.new.file c.args.cluster) c.from_residual.result c.in_err-keep_range.field-0.0 c.from_residual.ensures (c.in_err-keep_range.ensures.sound p sound)

pub returns-in_err-keep_range-clause-hint : goal.returns-in_err-keep_range-clause-hint
returns-in_err-keep_range-clause-hint g c = λ p sound hint.
    handed_on (KeepsNoFreeBelowHint g.S.Storage.view c.keep_range.new.self c.keep_range.new.file) c.from_residual.result c.in_err-keep_range.field-0.0 c.from_residual.ensures (c.in_err-keep_range.ensures.hint p sound hint)

pub returns-in_err-keep_range-clause-moves : goal.returns-in_err-keep_range-clause-moves
returns-in_err-keep_range-clause-moves g c = record {
  rest = c.keep_range.ensures.rest ∙ ap (λ n. record c.args.self.now { first_free_cluster = n; read = c.keep_range.new.self.read; free = c.keep_range.new.self.free; crowded = c.keep_range.new.self.crowded }) (sym (ap (λ (t : Allocator). t.first_free_cluster) c.keep_range.ensures.rest));
  first = ap (λ (t : Allocator). t.first_free_cluster) c.keep_range.ensures.rest ∙ stood_still c.args.self.now.first_free_cluster c.args.cluster c.from_residual.result c.in_err-keep_range.field-0.0 c.from_residual.ensures;
}

pub returns-in_err-next : goal.returns-in_err-next
returns-in_err-next g c = record {
  step = table_step_then c.keep_range.ensures.step c.next_open.ensures.step;
  moves = record {
    rest = c.keep_range.ensures.rest ∙ ap (λ n. record c.args.self.now { first_free_cluster = n; read = c.keep_range.new.self.read; free = c.keep_range.new.self.free; crowded = c.keep_range.new.self.crowded }) (sym (ap (λ (t : Allocator). t.first_free_cluster) c.keep_range.ensures.rest));
    first = ap (λ (t : Allocator). t.first_free_cluster) c.keep_range.ensures.rest ∙ stood_still c.args.self.now.first_free_cluster c.args.cluster c.from_residual-in_err-next.result c.in_err-next.field-0.0 c.from_residual-in_err-next.ensures;
  };
  sound = λ p sound.
      let view = g.S.Storage.view in
      let kept = c.in_ok-keep_range.ensures.sound p sound in
      let went = c.in_err-next.ensures.sound p (is_sound_now view p p c.args.file.now c.keep_range.new.file c.keep_range.new.self kept) in
      handed_on (PassesKnown view p c.args.self.now c.args.file.now c.keep_range.new.self c.next_open.new.file c.args.cluster) c.from_residual-in_err-next.result c.in_err-next.field-0.0 c.from_residual-in_err-next.ensures
      (went.0, leaves_then view p c.args.file.now c.keep_range.new.file c.next_open.new.file c.keep_range.new.self c.in_err-next.field-0.0 kept.file_step went.1);
  fails = fails_on c.from_residual-in_err-next.result c.in_err-next.field-0.0 c.from_residual-in_err-next.ensures (fails_since c.in_ok-keep_range.ensures.fails.told c.in_err-next.ensures.fails);
  behind = if_no_ok _ c.from_residual-in_err-next.result c.in_err-next.field-0.0 c.from_residual-in_err-next.ensures;
  far = if_no_ok _ c.from_residual-in_err-next.result c.in_err-next.field-0.0 c.from_residual-in_err-next.ensures;
  hint = λ p sound hint.
      let view = g.S.Storage.view in
      let kept = c.in_ok-keep_range.ensures.sound p sound in
      let went = c.in_err-next.ensures.sound p (is_sound_now view p p c.args.file.now c.keep_range.new.file c.keep_range.new.self kept) in
      handed_on (KeepsNoFreeBelowHint view c.keep_range.new.self c.next_open.new.file) c.from_residual-in_err-next.result c.in_err-next.field-0.0 c.from_residual-in_err-next.ensures
      (hint_refused view p c.keep_range.new.file c.next_open.new.file c.keep_range.new.self c.keep_range.new.self c.in_err-next.field-0.0 (passed_still c.keep_range.new.self) went.1 (c.in_ok-keep_range.ensures.hint p sound hint));
}

pub returns : goal.returns
returns g c = record {
  step =
      let same : c.if-cluster-self.self.reftable ≡ c.keep_range.new.self.reftable = elim c.if-cluster-self.branch [ then-cluster-self w ↦ ap (λ (t : Allocator). t.reftable) w.self-is | else-cluster-self w ↦ ap (λ (t : Allocator). t.reftable) w.self-is ] in
      table_step_as same refl (table_step_then c.keep_range.ensures.step c.next_open.ensures.step);
  moves =
      let stood = ap (λ (t : Allocator). t.first_free_cluster) c.keep_range.ensures.rest in
      let rest = c.keep_range.ensures.rest in
      elim c.if-cluster-self.branch [
        | then-cluster-self w ↦ record {
          rest = w.self-is ∙ ap (λ (t : Allocator). record t { first_free_cluster = c.in_ok-next.next }) rest ∙ sym (ap (λ (t : Allocator). record c.args.self.now { first_free_cluster = t.first_free_cluster; read = t.read; free = t.free; crowded = t.crowded }) w.self-is);
          first = ap (λ (t : Allocator). t.first_free_cluster) w.self-is ∙ moved_on c.args.self.now.first_free_cluster c.args.cluster c.in_ok-next.next (w.if-cluster-self.true ∙ stood);
        }
        | else-cluster-self w ↦ record {
          rest = w.self-is ∙ rest ∙ sym (ap (λ (t : Allocator). record c.args.self.now { first_free_cluster = t.first_free_cluster; read = t.read; free = t.free; crowded = t.crowded }) (w.self-is ∙ rest));
          first = ap (λ (t : Allocator). t.first_free_cluster) w.self-is ∙ stood ∙ stayed c.args.self.now.first_free_cluster c.args.cluster c.in_ok-next.next (λ same. w.if-cluster-self.false (same ∙ sym stood));
        }
      ];
  sound = λ p sound.
      let view = g.S.Storage.view in
      let kept = c.in_ok-keep_range.ensures.sound p sound in
      let went = c.in_ok-next.ensures.sound p (is_sound_now view p p c.args.file.now c.keep_range.new.file c.keep_range.new.self kept) in
      let same : c.if-cluster-self.self.reftable ≡ c.keep_range.new.self.reftable = elim c.if-cluster-self.branch [ then-cluster-self w ↦ ap (λ (t : Allocator). t.reftable) w.self-is | else-cluster-self w ↦ ap (λ (t : Allocator). t.reftable) w.self-is ] in (
        allocator_step_as view p p c.args.file.now c.next_open.new.file c.keep_range.new.self c.if-cluster-self.self same (allocator_step_then view p p c.args.file.now c.keep_range.new.file c.next_open.new.file c.keep_range.new.self c.keep_range.new.self kept went.0),
        λ hint. went.1 (c.in_ok-keep_range.ensures.hint p sound hint),
      );
  fails = fails_ok (c.in_ok-next.ensures.fails.told ∙ c.in_ok-keep_range.ensures.fails.told);
  behind = c.in_ok-next.ensures.behind;
  far =
      let h = c.args.file.now.header.fields in
      let caches = c.next_open.new.file.caches in
      let far : SearchContinuesIn h c.keep_range.new.self caches c.args.cluster c.in_ok-next.next = subst (λ (x : HeaderView). SearchContinuesIn x.fields c.keep_range.new.self caches c.args.cluster c.in_ok-next.next) c.keep_range.ensures.step.header c.in_ok-next.ensures.far in
      elim c.if-cluster-self.branch [
        | then-cluster-self w ↦ subst (λ (t : Allocator). SearchContinuesIn h t caches c.args.cluster c.in_ok-next.next) (sym w.self-is) far
        | else-cluster-self w ↦ subst (λ (t : Allocator). SearchContinuesIn h t caches c.args.cluster c.in_ok-next.next) (sym w.self-is) far
      ];
  hint = λ p sound hint.
      let view = g.S.Storage.view in
      let kept = c.in_ok-keep_range.ensures.sound p sound in
      let went = c.in_ok-next.ensures.sound p (is_sound_now view p p c.args.file.now c.keep_range.new.file c.keep_range.new.self kept) in
      let now = c.in_ok-keep_range.ensures.hint p sound hint in
      elim c.if-cluster-self.branch [
        | then-cluster-self w ↦
            subst (λ (t : Allocator). NoFreeBelowHint view t c.next_open.new.file) (sym w.self-is)
            (hint_passed view p c.keep_range.new.file c.next_open.new.file c.keep_range.new.self c.args.cluster c.in_ok-next.next went.0 (went.1 now) w.if-cluster-self.true now)
        | else-cluster-self w ↦
            subst (λ (t : Allocator). NoFreeBelowHint view t c.next_open.new.file) (sym w.self-is)
            (hint_stays view p c.keep_range.new.file c.next_open.new.file c.keep_range.new.self c.keep_range.new.self went.0 (passed_still c.keep_range.new.self) now)
      ];
}

pub returns-in_err-keep_range-clause-fails : goal.returns-in_err-keep_range-clause-fails
returns-in_err-keep_range-clause-fails g c = fails_on c.from_residual.result c.in_err-keep_range.field-0.0 c.from_residual.ensures c.in_err-keep_range.ensures.fails
