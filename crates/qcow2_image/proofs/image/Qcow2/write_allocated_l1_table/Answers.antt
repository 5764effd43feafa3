use Rattle.qcow2_image.proofs.image.Qcow2.write_allocated_l1_table.Goals as goal
use Rattle.std.proofs.Common.{◌<◌, ◌≡◌, refl, sym, subst, IfErr, Result, Some}
use Rattle.qcow2_image.proofs.Common.{ImageInvariant, with_table, NamesTable, OnOk, IsFault}

pub returns-clause-names : goal.returns-clause-names
returns-clause-names g c = λ p out sound recorded longer.
    let view = g.S.Storage.view in
    let below = g.F.BackingDisk.backing in
    let old = c.args.self.now in
    let named = c.write_l1_table-done.new.self in (
      named,
      refl,
      c.write_l1_table-done.ensures.list,
      subst (NamesTable view below p old named out c.args.table c.args.taken.first_cluster) (sym c.keep_or_list.ensures.answer)
          (subst (λ n. ImageInvariant view below (with_table p c.args.table n) old out → NamesTable view below p old named out c.args.table n c.write_l1_table-done.result) c.cluster.ensures
          (λ s. c.write_l1_table-done.ensures.names p out s recorded longer) sound),
    )

pub returns-clause-fault : goal.returns-clause-fault
returns-clause-fault g c = λ p out sound longer.
    subst (λ (r : Result _ _). IfErr r IsFault) (sym c.keep_or_list.ensures.answer)
    (c.write_l1_table-done.ensures.fault p out (subst (λ n. ImageInvariant g.S.Storage.view g.F.BackingDisk.backing (with_table p c.args.table n) c.args.self.now out) (sym c.cluster.ensures) sound) longer)

pub returns-clause-placed : goal.returns-clause-placed
returns-clause-placed g c =
    subst (λ (r : Result _ _). OnOk r (c.write_l1_table-done.new.self.l1_table ≡ record c.args.table { cluster = Some c.args.taken.first_cluster })) (sym c.keep_or_list.ensures.answer)
    (subst (λ n. OnOk c.write_l1_table-done.result (c.write_l1_table-done.new.self.l1_table ≡ record c.args.table { cluster = Some n })) c.cluster.ensures c.write_l1_table-done.ensures.placed)

pub returns-clause-step : goal.returns-clause-step
returns-clause-step g c =
    let step = c.write_l1_table-done.ensures.step in
    let is = c.write_l1_table-done.ensures.step.stays in
    record {
      stays = record { image = record { number = is.image.number; size = is.image.size; writable = is.image.writable; lacks = is.image.lacks; beside = is.image.beside }; failed = is.failed };
      notes = step.notes;
      header_cluster = λ behind. step.header_cluster (behind.0, subst (λ n. 0 < n) (sym c.cluster.ensures) behind.1);
    }
