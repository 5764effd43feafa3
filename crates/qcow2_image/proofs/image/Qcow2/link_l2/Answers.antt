use Rattle.qcow2_image.proofs.image.Qcow2.link_l2.Goals as goal
use Rattle.std.proofs.Common.{◌+◌, ◌*◌, ◌^◌, refl, subst, sym, IsSome, ap, rules, arith}
use Rattle.qcow2_image.proofs.Common.{or_right, of_storage, storage_of, is_changed_of, handed_on, fault_of_storage, NamesNew, placed_kept, notes_of_storage, EntryTableView, mul-pos, pow_pos}
use Rattle.qcow2_image.proofs.Lemmas.{safe_throughout_named, named_so, behind_l1, behind_placed, behind_then, entry_behind, l1_entered}

pub returns-in_err-write_l1_entry-clause-names : goal.returns-in_err-write_l1_entry-clause-names
returns-in_err-write_l1_entry-clause-names g c = λ p out table sound may recorded says whole ready.
    let old = c.args.self.now in
    handed_on (NamesNew g.S.Storage.view g.F.BackingDisk.backing p old (record old { file = record old.file { storage = c.write_l1_entry.new.self }; l1_table = c.enter_l2_table.new.self }) out c.args.index c.args.cluster)
    c.from_residual.result (of_storage c.in_err-write_l1_entry.field-0.0) c.from_residual.ensures (record {
      interrupted = record {
        fault = fault_of_storage c.in_err-write_l1_entry.field-0.0;
        recorded = λ is. or_right (is_changed_of c.write_l1_entry.new.self) old.file.caches.is_changed recorded;
        since = safe_throughout_named g.S.Storage.view g.F.BackingDisk.backing old out p c.args.index c.args.cluster c.enter_l2_table.new.self table sound may says whole ready c.requires.enter.within c.requires.enter.nameable c.enter_l2_table.ensures.rest
            c.enter_l2_table.ensures.entry c.enter_l2_table.ensures.offset c.enter_l2_table.ensures.copied c.write_l1_entry.ensures.fits c.write_l1_entry.new.self (storage_of c.set_write_kind.new.self) c.write_l1_entry.result c.set_write_kind.ensures.storage
            c.write_l1_entry.ensures.writes.written c.write_l1_entry.ensures.writes.calls;
      };
      leaks = refl;
    })

pub returns-clause-names : goal.returns-clause-names
returns-clause-names g c = λ p out table sound may recorded says whole ready.
    named_so g.S.Storage.view g.F.BackingDisk.backing c.args.self.now out p c.args.index c.args.cluster c.enter_l2_table.new.self table sound may says whole ready c.requires.enter.within c.requires.enter.nameable c.enter_l2_table.ensures.rest
    c.enter_l2_table.ensures.entry c.enter_l2_table.ensures.offset c.enter_l2_table.ensures.copied c.write_l1_entry.ensures.fits c.write_l1_entry.new.self (storage_of c.set_write_kind.new.self) c.write_l1_entry.result c.set_write_kind.ensures.storage
    c.write_l1_entry.ensures.writes.written c.write_l1_entry.ensures.writes.calls c.in_ok-write_l1_entry.field-0 c.in_ok-write_l1_entry.was

pub returns-in_err-write_l1_entry-clause-step : goal.returns-in_err-write_l1_entry-clause-step
returns-in_err-write_l1_entry-clause-step g c = record {
  stays = search rules;
  notes = notes_of_storage (placed_kept c.args.self.now.file.storage c.set_write_kind.new.self c.write_l1_entry.new.self c.write_l1_entry.result c.set_write_kind.ensures.storage c.set_write_kind.ensures.changed c.enter_l2_table.new.self.cluster _ (subst (λ (x : EntryTableView). IsSome x.cluster) (sym c.enter_l2_table.ensures.rest) c.requires.enter.placed) c.write_l1_entry.ensures.writes.written c.write_l1_entry.ensures.writes.calls c.write_l1_entry.ensures.writes.recorded);
  header_cluster = behind_then
      (behind_placed c.write_l1_entry.result c.enter_l2_table.new.self.cluster (λ k. k * 2 ^ c.enter_l2_table.new.self.cluster_bits + 8 * c.args.index) _ (ap g.S.Storage.view c.set_write_kind.ensures.storage) (subst (λ (x : EntryTableView). IsSome x.cluster) (sym c.enter_l2_table.ensures.rest) c.requires.enter.placed)
      (λ bits lies. entry_behind c.args.self.now.l1_table c.enter_l2_table.new.self c.args.index c.enter_l2_table.ensures.rest bits lies.l1) c.write_l1_entry.ensures.writes.written c.write_l1_entry.ensures.writes.calls)
      (behind_l1 (l1_entered c.args.self.now.l1_table c.enter_l2_table.new.self c.enter_l2_table.ensures.rest));
}

pub returns-clause-step : goal.returns-clause-step
returns-clause-step g c = record {
  stays = search rules;
  notes = notes_of_storage (placed_kept c.args.self.now.file.storage c.set_write_kind.new.self c.write_l1_entry.new.self c.write_l1_entry.result c.set_write_kind.ensures.storage c.set_write_kind.ensures.changed c.enter_l2_table.new.self.cluster _ (subst (λ (x : EntryTableView). IsSome x.cluster) (sym c.enter_l2_table.ensures.rest) c.requires.enter.placed) c.write_l1_entry.ensures.writes.written c.write_l1_entry.ensures.writes.calls c.write_l1_entry.ensures.writes.recorded);
  header_cluster = behind_then
      (behind_placed c.write_l1_entry.result c.enter_l2_table.new.self.cluster (λ k. k * 2 ^ c.enter_l2_table.new.self.cluster_bits + 8 * c.args.index) _ (ap g.S.Storage.view c.set_write_kind.ensures.storage) (subst (λ (x : EntryTableView). IsSome x.cluster) (sym c.enter_l2_table.ensures.rest) c.requires.enter.placed)
      (λ bits lies. entry_behind c.args.self.now.l1_table c.enter_l2_table.new.self c.args.index c.enter_l2_table.ensures.rest bits lies.l1) c.write_l1_entry.ensures.writes.written c.write_l1_entry.ensures.writes.calls)
      (behind_l1 (l1_entered c.args.self.now.l1_table c.enter_l2_table.new.self c.enter_l2_table.ensures.rest));
}

pub returns-clause-own : goal.returns-clause-own
returns-clause-own g c = λ some. ((λ none. let place = c.enter_l2_table.ensures.offset in let more = mul-pos some (pow_pos c.args.self.now.l1_table.cluster_bits) in omega (arith, place, none, more)), c.enter_l2_table.ensures.copied)
