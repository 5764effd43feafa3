use Rattle.std.proofs.Common.{◌≡◌, ◌+◌, ◌/◌, ◌^◌, ◌⊎◌, max, ap, ◌∙◌, sym, subst, inl, IsTrue}
use Rattle.qcow2_image.proofs.Common.{IfErr-weaker, IsPlacedNear, entry_count, Pending, handed_on, always_ok, l1_index_of, ImageInvariant, pending_in, MakesEntry, on_no_ok, on_ok, pending_with_listed, LastsPart, IsFault, ListGrows}
use Rattle.qcow2_image.proofs.Lemmas.{all_listed, beside, freed_then, listed_moved, refused_moved, stays_moved, hands_met, faults_or_limit, faults_unlimited, hands_either, hands_limit, limited_more, limited_unseen, unlimited_all, step_then, freed_part, lasts_step, moved_part}
use Rattle.qcow2_image.proofs.image.Qcow2.lengthen_l1_table.Goals as goal

pub returns-in_err-grow_l1_table-clause-longer : goal.returns-in_err-grow_l1_table-clause-longer
returns-in_err-grow_l1_table-clause-longer g c = record {
  length = on_no_ok _ c.from_residual.result c.in_err-grow_l1_table.field-0.0 c.from_residual.ensures;
  emptied = on_no_ok _ c.from_residual.result c.in_err-grow_l1_table.field-0.0 c.from_residual.ensures;
  recorded = on_no_ok _ c.from_residual.result c.in_err-grow_l1_table.field-0.0 c.from_residual.ensures;
  placed = λ bits. on_no_ok _ c.from_residual.result c.in_err-grow_l1_table.field-0.0 c.from_residual.ensures;
  sound = λ out sound.
      let view = g.S.Storage.view in
      let below = g.F.BackingDisk.backing in
      let old = c.args.self.now in
      let mid = c.grow_l1_table.new.self in
      let p = pending_in view below old out in
      let e = c.in_err-grow_l1_table.field-0.0 in
      let idx : c.l1_index-index.result ≡ l1_index_of c.args.self.now.file.header.fields c.args.offset =
      c.l1_index-index.ensures ∙ ap (λ n. n / 2 ^ c.cluster_bits.result / (2 ^ c.cluster_bits.result / 8)) c.new.ensures ∙ ap (λ b. c.args.offset / 2 ^ b / (2 ^ b / 8)) c.cluster_bits.ensures.value in
      record {
        makes = handed_on (MakesEntry view below old mid out) c.from_residual.result e c.from_residual.ensures (refused_moved view below out old mid sound e (c.in_err-grow_l1_table.ensures.lengthens p out sound));
        fault = hands_either c.from_residual.result e c.from_residual.ensures (c.in_err-grow_l1_table.ensures.fault c.requires.writable p out sound);
        limit = hands_limit c.from_residual.result e c.from_residual.ensures (λ is. limited_more (limited_unseen sound (c.in_err-grow_l1_table.ensures.limit p out sound c.args.offset idx is)));
        listed = hands_met (λ x. IsFault x ⊎ ListGrows old mid) c.from_residual.result e c.from_residual.ensures (listed_moved view below p old mid out e (c.in_err-grow_l1_table.ensures.lengthens p out sound));
      };
  lasts = λ out sound.
      let view = g.S.Storage.view in
      let below = g.F.BackingDisk.backing in
      let old = c.args.self.now in
      let p = pending_in view below old out in
      let e = c.in_err-grow_l1_table.field-0.0 in
      handed_on (LastsPart view old c.grow_l1_table.new.self) c.from_residual.result e c.from_residual.ensures
      (moved_part view below out p (pending_with_listed p old c.grow_l1_table.new.self) old c.grow_l1_table.new.self e (c.in_err-grow_l1_table.ensures.lengthens p out sound));
}

pub returns-clause-longer : goal.returns-clause-longer
returns-clause-longer g c = record {
  emptied = c.process_free_list.ensures.emptied (subst IsTrue (sym c.grow_l1_table.ensures.step.stays.image.writable) c.requires.writable);
  length = let old = c.args.self.now in
      let idx : c.l1_index-index.result ≡ l1_index_of old.file.header.fields c.args.offset =
      c.l1_index-index.ensures ∙ ap (λ n. n / 2 ^ c.cluster_bits.result / (2 ^ c.cluster_bits.result / 8)) c.new.ensures ∙ ap (λ b. c.args.offset / 2 ^ b / (2 ^ b / 8)) c.cluster_bits.ensures.value in
      always_ok c.process_free_list.result
      (ap entry_count c.process_free_list.ensures.offsets.l1_table ∙ c.in_ok-grow_l1_table.ensures.length ∙ ap (λ i. max (entry_count old.l1_table) (i + 1)) idx);
  recorded = on_ok _ c.process_free_list.result (c.process_free_list.ensures.step.notes.tables.recorded c.in_ok-grow_l1_table.ensures.recorded);
  placed = λ bits. on_ok _ c.process_free_list.result (subst IsPlacedNear (sym c.process_free_list.ensures.offsets.l1_table) (c.in_ok-grow_l1_table.ensures.placed bits));
  sound = λ out sound.
      let view = g.S.Storage.view in
      let below = g.F.BackingDisk.backing in
      let old = c.args.self.now in
      let mid = c.grow_l1_table.new.self in
      let first = stays_moved view below out old mid sound (c.in_ok-grow_l1_table.ensures.lengthens (pending_in view below old out) out sound) in
      let listed = subst (λ (x : Pending). ImageInvariant view below x mid out) (all_listed view below mid out) first.sound in
      let fault = c.process_free_list.ensures.faults (beside view below mid out) out listed in
      record {
        makes = freed_then view below out old mid c.process_free_list.new.self first c.process_free_list.result (c.process_free_list.ensures.frees (beside view below mid out) out listed);
        fault = faults_or_limit c.process_free_list.result fault;
        limit = unlimited_all c.process_free_list.result _ (faults_unlimited c.process_free_list.result fault);
        listed = IfErr-weaker c.process_free_list.result _ _ (λ e is. inl is) fault;
      };
  lasts = λ out sound.
      let view = g.S.Storage.view in
      let below = g.F.BackingDisk.backing in
      let old = c.args.self.now in
      let mid = c.grow_l1_table.new.self in
      let p = pending_in view below old out in
      let moves = c.in_ok-grow_l1_table.ensures.lengthens p out sound in
      let first = stays_moved view below out old mid sound moves in
      let listed = subst (λ (x : Pending). ImageInvariant view below x mid out) (all_listed view below mid out) first.sound in
      freed_part view below out (beside view below mid out) old mid c.process_free_list.new.self c.process_free_list.result (lasts_step view p (pending_with_listed p old mid) old mid moves.safe_step moves.since)
      (c.process_free_list.ensures.frees (beside view below mid out) out listed);
}

pub returns-clause-step : goal.returns-clause-step
returns-clause-step g c = step_then c.grow_l1_table.ensures.step c.process_free_list.ensures.step
