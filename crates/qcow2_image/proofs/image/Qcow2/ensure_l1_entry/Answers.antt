use Rattle.std.proofs.Common.{◌≡◌, ◌+◌, ◌/◌, ◌^◌, ◌≤◌, max, sym, ap, ◌∙◌, subst, arith, rules, IfErr}
use Rattle.qcow2_image.proofs.Common.{IsPlacedNear, entry_count, Pending, handed_on, always_ok, l1_index_of, ImageInvariant, pending_in, MakesEntry, IsFaultOrLacksTable}
use Rattle.qcow2_image.proofs.Lemmas.{step_none, step_then, all_listed, beside, freed_then, makes_none, refused_moved, stays_moved, fault_or_lacking, not_within, short_lacking, faults_unlimited, hands_limit, limited_more, limited_unseen, unlimited_all, faults_or_limit, hands_either}
use Rattle.qcow2_image.proofs.image.Qcow2.ensure_l1_entry.Goals as goal

pub returns-then-in_bounds-clause-length : goal.returns-then-in_bounds-clause-length
returns-then-in_bounds-clause-length g c =
    let idx : c.l1_index-index.result ≡ l1_index_of c.args.self.now.file.header.fields c.args.offset =
    c.l1_index-index.ensures ∙ ap (λ n. n / 2 ^ c.cluster_bits.result / (2 ^ c.cluster_bits.result / 8)) c.new.ensures ∙ ap (λ b. c.args.offset / 2 ^ b / (2 ^ b / 8)) c.cluster_bits.ensures.value in
    let lt = c.in_bounds.ensures.0 c.if-in_bounds.true in
    omega (arith, lt, idx)

pub returns-clause-length : goal.returns-clause-length
returns-clause-length g c =
    let old = c.args.self.now in
    let idx : c.l1_index-index.result ≡ l1_index_of old.file.header.fields c.args.offset =
    c.l1_index-index.ensures ∙ ap (λ n. n / 2 ^ c.cluster_bits.result / (2 ^ c.cluster_bits.result / 8)) c.new.ensures ∙ ap (λ b. c.args.offset / 2 ^ b / (2 ^ b / 8)) c.cluster_bits.ensures.value in
    always_ok c.process_free_list.result
    (ap entry_count c.process_free_list.ensures.offsets.l1_table ∙ c.in_ok-grow_l1_table.ensures.length ∙ ap (λ i. max (entry_count old.l1_table) (i + 1)) idx)

pub returns-then-in_bounds-clause-placed : goal.returns-then-in_bounds-clause-placed
returns-then-in_bounds-clause-placed g c = λ past bits.
    let idx : c.l1_index-index.result ≡ l1_index_of c.args.self.now.file.header.fields c.args.offset =
    c.l1_index-index.ensures ∙ ap (λ n. n / 2 ^ c.cluster_bits.result / (2 ^ c.cluster_bits.result / 8)) c.new.ensures ∙ ap (λ b. c.args.offset / 2 ^ b / (2 ^ b / 8)) c.cluster_bits.ensures.value in
    absurd (let lt = c.in_bounds.ensures.0 c.if-in_bounds.true in omega (arith, lt, idx, past))

pub returns-clause-placed : goal.returns-clause-placed
returns-clause-placed g c = λ past bits. always_ok c.process_free_list.result (subst IsPlacedNear (sym c.process_free_list.ensures.offsets.l1_table) (c.in_ok-grow_l1_table.ensures.placed bits))

pub returns-then-in_bounds-clause-step : goal.returns-then-in_bounds-clause-step
returns-then-in_bounds-clause-step g c = step_none

pub returns-clause-step : goal.returns-clause-step
returns-clause-step g c = step_then c.grow_l1_table.ensures.step c.process_free_list.ensures.step

pub returns-then-in_bounds-clause-sound : goal.returns-then-in_bounds-clause-sound
returns-then-in_bounds-clause-sound g c = λ out sound.
    record {
      fault = search rules;
      limit = search rules;
      lacks = search rules;
      makes = makes_none g.S.Storage.view g.F.BackingDisk.backing out c.args.self.now sound;
    }

pub returns-in_err-grow_l1_table-clause-sound : goal.returns-in_err-grow_l1_table-clause-sound
returns-in_err-grow_l1_table-clause-sound g c = λ out sound.
    let view = g.S.Storage.view in
    let below = g.F.BackingDisk.backing in
    let old = c.args.self.now in
    let e = c.in_err-grow_l1_table.field-0.0 in
    let at = l1_index_of old.file.header.fields c.args.offset in
    record {
      makes = handed_on (MakesEntry view below old c.grow_l1_table.new.self out) c.from_residual.result e c.from_residual.ensures
          (refused_moved view below out old c.grow_l1_table.new.self sound e (c.in_err-grow_l1_table.ensures.lengthens (pending_in view below old out) out sound));
      fault = hands_either c.from_residual.result c.in_err-grow_l1_table.field-0.0 c.from_residual.ensures (c.in_err-grow_l1_table.ensures.fault c.requires.writable (pending_in g.S.Storage.view g.F.BackingDisk.backing c.args.self.now out) out sound);
      limit = let idx : c.l1_index-index.result ≡ at =
          c.l1_index-index.ensures ∙ ap (λ n. n / 2 ^ c.cluster_bits.result / (2 ^ c.cluster_bits.result / 8)) c.new.ensures ∙ ap (λ b. c.args.offset / 2 ^ b / (2 ^ b / 8)) c.cluster_bits.ensures.value in
          hands_limit c.from_residual.result e c.from_residual.ensures (λ is. limited_more (limited_unseen sound (c.in_err-grow_l1_table.ensures.limit (pending_in view below old out) out sound c.args.offset idx is)));
      lacks = let idx : c.l1_index-index.result ≡ l1_index_of old.file.header.fields c.args.offset =
          c.l1_index-index.ensures ∙ ap (λ n. n / 2 ^ c.cluster_bits.result / (2 ^ c.cluster_bits.result / 8)) c.new.ensures ∙ ap (λ b. c.args.offset / 2 ^ b / (2 ^ b / 8)) c.cluster_bits.ensures.value in
          let p = pending_in view below old out in
          let past = subst (λ i. entry_count old.l1_table ≤ i) idx (not_within c.in_bounds.result c.l1_index-index.result (entry_count old.l1_table) c.in_bounds.ensures c.if-in_bounds.false) in
          handed_on (λ r. IfErr r (IsFaultOrLacksTable view c.grow_l1_table.new.self c.args.offset)) c.from_residual.result e c.from_residual.ensures
          (short_lacking view below out p old c.grow_l1_table.new.self sound c.args.offset past e (c.in_err-grow_l1_table.ensures.lengthens p out sound));
    }

pub returns-clause-sound : goal.returns-clause-sound
returns-clause-sound g c = λ out sound.
    let view = g.S.Storage.view in
    let below = g.F.BackingDisk.backing in
    let old = c.args.self.now in
    let mid = c.grow_l1_table.new.self in
    let first = stays_moved view below out old mid sound (c.in_ok-grow_l1_table.ensures.lengthens (pending_in view below old out) out sound) in
    let listed = subst (λ (x : Pending). ImageInvariant view below x mid out) (all_listed view below mid out) first.sound in
    record {
      makes = freed_then view below out old mid c.process_free_list.new.self first c.process_free_list.result (c.process_free_list.ensures.frees (beside view below mid out) out listed);
      fault = faults_or_limit c.process_free_list.result (c.process_free_list.ensures.faults (beside view below mid out) out listed);
      limit = unlimited_all c.process_free_list.result _
          (faults_unlimited c.process_free_list.result (c.process_free_list.ensures.faults (beside view below mid out) out listed));
      lacks = fault_or_lacking view below out c.process_free_list.new.self c.args.offset c.process_free_list.result (c.process_free_list.ensures.faults (beside view below mid out) out listed);
    }
