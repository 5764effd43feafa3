use Rattle.qcow2_image.proofs.image.Qcow2.clear_in_table.Goals as goal
use Rattle.std.proofs.Common.{◌≡◌, ◌<◌, ◌-◌, ◌/◌, ◌%◌, ◌^◌, ◌++◌, inl, ap, ◌∙◌, subst, arith, sym, inr, refl}
use Rattle.qcow2_image.proofs.Common.{handed_on, cluster_size, l2_pins, Qcow2, ClearsTable, ReadsAll, ClearsInTable, l2_index_of, ImageFails, MayFailPreparing, notes_then, TablePrepared}
use Rattle.qcow2_image.proofs.Lemmas.{clears_between, no_pins, pinned_under, under_pinned, some_prepared, table_kept, behind_by, behind_tables, behind_then, found_pins, heeds_refused, met_untaken, other_limit, fault_unlimited, reading_fault, taking_as, counted_ok, faults_then, untouched}
use Rattle.qcow2_image.proofs.Call.Fails.{fails_on}
use Rattle.qcow2_image.proofs.Clear.ClearedCalls.{counted_other}

pub returns-clause-step : goal.returns-clause-step
returns-clause-step g c =
    let rest = c.clear_entries.ensures.clears.rest in
    let was = c.writable_l2_table.ensures.step.stays in
    let is = c.clear_entries.ensures.stays in
    record {
      stays = record { image = record { number = is.image.number ∙ was.image.number; size = is.image.size ∙ was.image.size; writable = is.image.writable ∙ was.image.writable; lacks = is.image.lacks ∙ was.image.lacks; beside = is.image.beside ∙ was.image.beside }; failed = is.failed ∙ was.failed };
      notes = notes_then c.writable_l2_table.ensures.step.notes (table_kept c.writable_l2_table.new.self c.clear_entries.new.self (ap (λ (i : Qcow2 _ _). i.file.storage) rest) c.clear_entries.ensures.clears.marks);
      header_cluster = behind_then c.writable_l2_table.ensures.step.header_cluster (behind_by g.S.Storage.view rest (behind_tables c.clear_entries.ensures.clears.behind));
    }

pub returns-in_err-table-clause-fails : goal.returns-in_err-table-clause-fails
returns-in_err-table-clause-fails g c = fails_on c.writable_l2_table.result c.in_err-table.field-0.0 c.from_residual.result c.from_residual.ensures c.in_err-table.was (λ x may_fail. inl may_fail) c.writable_l2_table.ensures.fails

pub returns-then-l2_is_pinned-clause-fails : goal.returns-then-l2_is_pinned-clause-fails
returns-then-l2_is_pinned-clause-fails g c = record {
  faults = counted_other g.S.Storage.view g.F.BackingDisk.backing c.args.self.now c.writable_l2_table.new.self TablePrepared (λ is. cc) c.in_ok-table.ensures.fails.faults.told;
  cause = inr (refl, record { cluster = c.in_ok-table.table; pins = c.l2_is_pinned.ensures.0 c.if-l2_is_pinned.true });
}

pub returns-in_err-old_data-clause-fails : goal.returns-in_err-old_data-clause-fails
returns-in_err-old_data-clause-fails g c =
    let view = g.S.Storage.view in
    let below = g.F.BackingDisk.backing in
    let old = c.args.self.now in
    let mid = c.writable_l2_table.new.self in
    let e = c.in_err-old_data.field-0.0 in
    handed_on (λ r. ImageFails view below old mid r (MayFailPreparing mid)) c.from_residual-in_err-old_data.result e c.from_residual-in_err-old_data.ensures
    (record { faults = counted_other view below old mid e c.in_err-old_data.ensures.faults c.in_ok-table.ensures.fails.faults.told; cause = inl c.in_err-old_data.ensures.cause })

pub returns-clause-fails : goal.returns-clause-fails
returns-clause-fails g c =
    let view = g.S.Storage.view in
    let below = g.F.BackingDisk.backing in
    let old = c.args.self.now in
    let mid = c.writable_l2_table.new.self in
    let b = c.clear_entries.new.self in
    let rest = c.clear_entries.ensures.clears.rest in
    let new = record b { file = record b.file { free_list = c.hand_back.new.list } } in
    record {
      faults = counted_ok view below old new tt (faults_then view below old mid new c.in_ok-table.ensures.fails.faults.told (untouched view below mid new (ap (λ (i : Qcow2 _ _). i.file.storage) rest) (ap (λ (i : Qcow2 _ _). i.backing) rest) (ap (λ (i : Qcow2 _ _). i.data_file) rest)));
      cause = tt;
    }

pub returns-in_err-table-clause-sound : goal.returns-in_err-table-clause-sound
returns-in_err-table-clause-sound g c = λ out sound.
    let e = c.in_err-table.field-0.0 in
    let found = c.in_err-table.ensures.sound out sound in
    handed_on (λ r. ClearsInTable g.S.Storage.view g.F.BackingDisk.backing c.args.how c.args.from c.args.to c.args.self.now c.writable_l2_table.new.self out r) c.from_residual.result e c.from_residual.ensures (record {
      whole = λ whole. record {
        clears = found.finds;
        may_fail = taking_as (λ held. held) (λ no. absurd no) (λ no. no) (λ far. far) e found.may_fail;
        limit = found.limit;
        lacks = found.lacks;
      };
      taken = λ is. absurd (met_untaken _ e c.in_err-table.ensures.fails.cause is);
      free = tt;
    })

pub returns-then-l2_is_pinned-clause-sound : goal.returns-then-l2_is_pinned-clause-sound
returns-then-l2_is_pinned-clause-sound g c = λ out sound.
    let view = g.S.Storage.view in
    let below = g.F.BackingDisk.backing in
    let mid = c.writable_l2_table.new.self in
    let table = c.in_ok-table.table in
    let found = (c.in_ok-table.ensures.sound out sound).finds in
    let pins = c.l2_is_pinned.ensures.0 c.if-l2_is_pinned.true in
    let under = pinned_under view below out c.args.self.now mid c.args.from table found.0 found.1 pins in
    record {
      whole = λ whole. record {
        clears = inl found.0;
        may_fail = inr (inr (refl, under));
        limit = λ is. absurd (cc);
        lacks = λ none. absurd (none (some_prepared view below mid out found.0.sound table pins));
      };
      taken = λ _. under;
      free = tt;
    }

pub returns-in_err-old_data-clause-sound : goal.returns-in_err-old_data-clause-sound
returns-in_err-old_data-clause-sound g c = λ out sound.
    let view = g.S.Storage.view in
    let below = g.F.BackingDisk.backing in
    let old = c.args.self.now in
    let mid = c.writable_l2_table.new.self in
    let from = c.args.from in
    let found = (c.in_ok-table.ensures.sound out sound).finds in
    let bits = c.cluster_bits-bits.ensures.value in
    let first : c.cluster-first.result ≡ c.args.from / cluster_size c.writable_l2_table.new.self.file.header.fields = c.cluster-first.ensures ∙ ap (λ o. o / 2 ^ c.cluster_bits-bits.result) c.new.ensures ∙ ap (λ n. from / 2 ^ n) bits in
    let e = c.in_err-old_data.field-0.0 in
    handed_on (λ r. ClearsInTable view below c.args.how from c.args.to old mid out r) c.from_residual-in_err-old_data.result e c.from_residual-in_err-old_data.ensures (record {
      whole = λ whole.
          let fault = reading_fault view below out old mid c.args.how from c.args.to c.in_ok-table.table found.0 found.1 whole c.requires.some c.cluster-first.result ((c.args.to - from) / 2 ^ c.cluster_bits-bits.result) e first (ap (λ n. (c.args.to - from) / 2 ^ n) bits) c.in_err-old_data.ensures.only_faults in
          record {
            clears = inl found.0;
            may_fail = inl (inl (inl fault));
            limit = other_limit _ e (fault_unlimited e fault);
            lacks = λ none. inl fault;
          };
      taken = λ is. absurd (met_untaken _ e c.in_err-old_data.ensures.cause is);
      free = tt;
    })

pub returns-clause-sound : goal.returns-clause-sound
returns-clause-sound g c = λ out sound.
    let view = g.S.Storage.view in
    let below = g.F.BackingDisk.backing in
    let mid = c.writable_l2_table.new.self in
    let b = c.clear_entries.new.self in
    let how = c.args.how in
    let from = c.args.from in
    let to = c.args.to in
    let table = c.in_ok-table.table in
    let list = c.in_ok-old_data.old_data in
    let h = mid.file.header.fields in
    let found = (c.in_ok-table.ensures.sound out sound).finds in
    let bits = c.cluster_bits-bits.ensures.value in
    let first : c.cluster-first.result ≡ c.args.from / cluster_size c.writable_l2_table.new.self.file.header.fields = c.cluster-first.ensures ∙ ap (λ o. o / 2 ^ c.cluster_bits-bits.result) c.new.ensures ∙ ap (λ n. from / 2 ^ n) bits in
    let column : c.l2_index.result ≡ l2_index_of c.writable_l2_table.new.self.file.header.fields c.args.from = c.l2_index.ensures.value ∙ ap (λ x. x % (2 ^ c.cluster_bits-bits.result / 8)) first ∙ ap (λ n. from / cluster_size h % (2 ^ n / 8)) bits in
    let count : (c.args.to - c.args.from) / 2 ^ c.cluster_bits-bits.result ≡ (c.args.to - c.args.from) / cluster_size c.writable_l2_table.new.self.file.header.fields = ap (λ n. (to - from) / 2 ^ n) bits in
    let reads = subst (λ n. ReadsAll view below how table (from / cluster_size h) n mid list) count (subst (λ n. ReadsAll view below how table n ((to - from) / 2 ^ c.cluster_bits-bits.result) mid list) first c.in_ok-old_data.ensures.reads) in
    let clears = subst (λ n. ClearsTable view below how table (l2_index_of h from) n mid b) count (subst (λ n. ClearsTable view below how table n ((to - from) / 2 ^ c.cluster_bits-bits.result) mid b) column c.clear_entries.ensures.clears) in
    let none = no_pins c.l2_is_pinned.result (l2_pins mid.file.caches table) c.l2_is_pinned.ensures c.if-l2_is_pinned.false in
    record {
      whole = λ whole. record {
        clears = clears_between view below out c.args.self.now mid b (record b { file = record b.file { free_list = c.hand_back.new.list } }) how from to table found.0 found.1 whole c.requires.some none list reads clears
            (ap (λ l. record b { file = record b.file { free_list = l } }) (c.hand_back.ensures ∙ ap (λ l. b.file.free_list ++ l) c.take.ensures.taken));
        may_fail = tt;
        limit = tt;
        lacks = λ unprepared. tt;
      };
      taken = tt;
      free = λ under. let pinned = under_pinned view below out c.args.self.now mid from table found.0 found.1 under in omega (arith, pinned, none);
    }

pub returns-in_err-table-clause-pinned : goal.returns-in_err-table-clause-pinned
returns-in_err-table-clause-pinned g c = λ own. heeds_refused c.args.self.now c.args.from c.from_residual.result c.in_err-table.field-0.0 c.from_residual.ensures (λ is. absurd (met_untaken _ c.in_err-table.field-0.0 c.in_err-table.ensures.fails.cause is))

pub returns-then-l2_is_pinned-clause-pinned : goal.returns-then-l2_is_pinned-clause-pinned
returns-then-l2_is_pinned-clause-pinned g c = λ own is.
    subst (λ n. 0 < n) (found_pins c.args.self.now c.writable_l2_table.new.self c.args.from c.in_ok-table.table (c.in_ok-table.ensures.own own)) (c.l2_is_pinned.ensures.0 c.if-l2_is_pinned.true)

pub returns-in_err-old_data-clause-pinned : goal.returns-in_err-old_data-clause-pinned
returns-in_err-old_data-clause-pinned g c = λ own. heeds_refused c.args.self.now c.args.from c.from_residual-in_err-old_data.result c.in_err-old_data.field-0.0 c.from_residual-in_err-old_data.ensures (λ is. absurd (met_untaken _ c.in_err-old_data.field-0.0 c.in_err-old_data.ensures.cause is))

pub returns-clause-pinned : goal.returns-clause-pinned
returns-clause-pinned g c = λ own.
    sym (found_pins c.args.self.now c.writable_l2_table.new.self c.args.from c.in_ok-table.table (c.in_ok-table.ensures.own own)) ∙ no_pins c.l2_is_pinned.result (l2_pins c.writable_l2_table.new.self.file.caches c.in_ok-table.table) c.l2_is_pinned.ensures c.if-l2_is_pinned.false
