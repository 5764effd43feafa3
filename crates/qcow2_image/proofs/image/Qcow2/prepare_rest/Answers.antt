use Rattle.qcow2_image.proofs.Lemmas.{taking_none, taking_then, get_set_same, length_set, counted_ok, counted_on, faults_then, goes_then, hands_limit, limited_from, hands_alone, next_begins, alone_as, compressed_as, compressed_at}
use Rattle.std.proofs.Common.{◌≡◌, ◌-◌, ◌*◌, ◌%◌, ◌<◌, ◌≤◌, ◌+◌, length, true, false, inr, refl, sym, ap, ◌∙◌, subst, arith, min, rules, Ok, Err, Some, None}
use Rattle.qcow2_image.proofs.Common.{slice_set, vec_capacity, cluster_size, handed_on, header_same, header_format, Prepared, IsReadied, GoesTo, BreaksOff, Ends, GoesNext, GoesOn, HeaderFields, known_in, CopiesCompressed, set_slot}
use Rattle.qcow2_image.proofs.Prepare.RangeByParts.{may_go_on, so_far_all, so_far_ends, so_far_next}
use Rattle.qcow2_image.proofs.image.Qcow2.prepare_rest.Goals as goal

pub loop-prepared-init : goal.loop-prepared-init
loop-prepared-init g c = record {
  turns = record {
    stays = record { image = record { number = refl; size = refl; writable = refl; lacks = refl; beside = refl }; failed = refl };
    header = header_same _ _ refl;
    longer = record { image = refl; file = refl; guest = refl; place = refl; under = refl; first = λ cluster_mapping at. at; more = omega arith; most = λ past. refl; whole = λ less. c.requires.whole };
    room =
        let bound = c.min-end.ensures ∙ ap (min c.args.length) c.rest_of_table.ensures.value in
        subst (λ m. c.args.prepared.now.guest % cluster_size c.args.self.now.file.header.fields + m < vec_capacity c.args.prepared.now.clusters * cluster_size c.args.self.now.file.header.fields) (sym bound) c.requires.room;
    image_step = λ start out k free under is. is;
  };
  faults = record { storage = refl; below = refl; beside = refl };
  step = taking_none;
}

pub loop-prepared-preserved : goal.loop-prepared-preserved
loop-prepared-preserved g c =
    let view = g.S.Storage.view in
    let below = g.F.BackingDisk.backing in
    let now = c.loop-prepared.self in
    let new = c.prepare_next.new.self in
    let q = c.loop-prepared.prepared in
    let r = c.prepare_next.new.prepared in
    let n = c.args.length in
    let bound = c.min-end.ensures ∙ ap (min c.args.length) c.rest_of_table.ensures.value in
    record {
      turns = so_far_next view below c.args.self.now now c.args.prepared.now q n c.min-end.result c.args.table c.args.overwrite c.loop-prepared.invariant.turns bound c.loop-prepared-test.true new r c.prepare_next.ensures.step.stays c.prepare_next.ensures.step.header
          (c.prepare_next.ensures.next (c.in_ok-prepare_next.was ∙ ap Ok c.if-not-branch.false)) c.prepare_next.ensures.room
          (λ out k at may sound. subst (λ b. GoesNext view below now new out k n c.args.overwrite q r (Ok b)) c.if-not-branch.false ((c.in_ok-prepare_next.ensures.sound out k at may sound).does));
      faults = faults_then view below c.args.self.now now new c.loop-prepared.invariant.faults c.in_ok-prepare_next.ensures.fails.faults.told;
      step = taking_then c.loop-prepared.invariant.step c.prepare_next.ensures.step;
    }

pub returns-in_err-prepare_next-clause-step : goal.returns-in_err-prepare_next-clause-step
returns-in_err-prepare_next-clause-step g c = taking_then c.loop-prepared.invariant.step c.prepare_next.ensures.step

pub returns-in_err-prepare_next-clause-fails : goal.returns-in_err-prepare_next-clause-fails
returns-in_err-prepare_next-clause-fails g c = record {
  cause = search rules;
  faults = counted_on g.S.Storage.view g.F.BackingDisk.backing c.args.self.now c.loop-prepared.self c.prepare_next.new.self c.prepare_next.result c.in_err-prepare_next.field-0.0 c.from_residual.result c.loop-prepared.invariant.faults c.prepare_next.ensures.fails.faults
      c.in_err-prepare_next.was c.from_residual.ensures;
}

pub returns-then-not-branch-clause-step : goal.returns-then-not-branch-clause-step
returns-then-not-branch-clause-step g c = taking_then c.loop-prepared.invariant.step c.prepare_next.ensures.step

pub returns-then-not-branch-clause-fails : goal.returns-then-not-branch-clause-fails
returns-then-not-branch-clause-fails g c = record {
  cause = search rules;
  faults = counted_ok g.S.Storage.view g.F.BackingDisk.backing c.args.self.now c.prepare_next.new.self tt
      (faults_then g.S.Storage.view g.F.BackingDisk.backing c.args.self.now c.loop-prepared.self c.prepare_next.new.self c.loop-prepared.invariant.faults c.in_ok-prepare_next.ensures.fails.faults.told);
}

pub returns-clause-fails : goal.returns-clause-fails
returns-clause-fails g c = record { faults = counted_ok g.S.Storage.view g.F.BackingDisk.backing c.args.self.now c.loop-prepared.self tt c.loop-prepared.invariant.faults; cause = search rules }

pub returns-in_err-prepare_next-clause-sound : goal.returns-in_err-prepare_next-clause-sound
returns-in_err-prepare_next-clause-sound g c = λ start out k free under is.
    let view = g.S.Storage.view in
    let below = g.F.BackingDisk.backing in
    let old = c.args.self.now in
    let now = c.loop-prepared.self in
    let new = c.prepare_next.new.self in
    let p = c.args.prepared.now in
    let q = c.loop-prepared.prepared in
    let n = c.args.length in
    let e = c.in_err-prepare_next.field-0.0 in
    let h = old.file.header.fields in
    let so = c.loop-prepared.invariant.turns in
    let bound = c.min-end.ensures ∙ ap (min c.args.length) c.rest_of_table.ensures.value in
    let same : c.prepare_next.new.prepared ≡ q = c.prepare_next.ensures.same (λ ok. absurd (let f : Err e ≡ Ok true = sym c.in_err-prepare_next.was ∙ ok in cc)) in
    let less = c.loop-prepared-test.true in
    let before = so.image_step start out k free under is in
    let may = may_go_on view below old now p q n c.min-end.result c.args.table c.args.overwrite so bound less start out k under is in
    let size : cluster_size now.file.header.fields ≡ cluster_size h = ap (λ (x : HeaderFields). cluster_size x) (header_format old.file.header now.file.header so.header) in
    let guest = so.longer.guest in
    record {
      does = handed_on (λ r. GoesOn view below start new out k n c.args.overwrite c.prepare_next.new.prepared r) c.from_residual.result e c.from_residual.ensures
          (subst (λ (x : Prepared). BreaksOff view below start new out k n c.args.overwrite x e) (sym same)
          (record {
            mid = now;
            readied = before;
            refused = (c.in_err-prepare_next.ensures.sound (set_slot out k (Some q)) k (get_set_same out.slots k (Some q) None free)
                (may_go_on view below old now p q n c.min-end.result c.args.table c.args.overwrite so bound c.loop-prepared-test.true start out k under is) before.sound).does;
          }));
      may_fail = hands_alone (CopiesCompressed p.guest n c.args.overwrite h (known_in view old.file)) ⊥ c.from_residual.result e c.from_residual.ensures
          (alone_as
          (λ copied.
          compressed_as h now.file.header.fields (known_in view old.file) (known_in view now.file) p.guest n c.args.overwrite size (λ j. sym (is.covers j) ∙ before.covers j)
          (compressed_at now.file.header.fields (known_in view now.file) p.guest n (q.guest + q.length) (n - q.length) c.args.overwrite (omega (arith, guest)) (omega (arith, bound, less)) (omega (arith, guest, bound, less))
          (inr (next_begins view below now (set_slot out k (Some q)) k q (get_set_same out.slots k (Some q) None free) n c.args.table c.args.overwrite may before.sound)) copied))
          (λ no. no) e ((c.in_err-prepare_next.ensures.sound (set_slot out k (Some q)) k (get_set_same out.slots k (Some q) None free) may before.sound).may_fail));
      limit = λ goes. let may = may_go_on view below old now p q n c.min-end.result c.args.table c.args.overwrite so bound c.loop-prepared-test.true start out k under is in
          let so_far : GoesTo view old now = record { image = so.stays.image; header_cluster = c.loop-prepared.invariant.step.header_cluster } in
          hands_limit c.from_residual.result e c.from_residual.ensures
          (λ limit. limited_from (subst (λ n. n ≤ length out.slots) (sym (length_set out.slots k (Some q))) (omega arith)) (omega arith) (goes_then goes so_far) before.sound before.works ((c.in_err-prepare_next.ensures.sound (set_slot out k (Some q)) k (get_set_same out.slots k (Some q) None free) may before.sound).limit limit));
    }

pub returns-then-not-branch-clause-sound : goal.returns-then-not-branch-clause-sound
returns-then-not-branch-clause-sound g c = λ start out k free under is.
    let view = g.S.Storage.view in
    let below = g.F.BackingDisk.backing in
    let now = c.loop-prepared.self in
    let q = c.loop-prepared.prepared in
    let new = c.prepare_next.new.self in
    let n = c.args.length in
    let bound = c.min-end.ensures ∙ ap (min c.args.length) c.rest_of_table.ensures.value in
    let never : c.prepare_next.result ≡ Ok true → ⊥ = λ ok. (let f : Ok c.in_ok-prepare_next.field-0 ≡ Ok true = sym c.in_ok-prepare_next.was ∙ ok in let yes : c.in_ok-prepare_next.field-0 ≡ true = cc in absurd (let no : false ≡ true = sym c.if-not-branch.true ∙ yes in cc)) in
    let same : c.prepare_next.new.prepared ≡ q = c.prepare_next.ensures.same never in
    record {
      may_fail = search rules;
      limit = search rules;
      does = subst (λ (x : Prepared). IsReadied view below start new out k x.guest n c.args.overwrite x × (x.length < c.args.length → Ends view new x)) (sym same)
          (so_far_ends view below c.args.self.now now c.args.prepared.now q n c.min-end.result c.args.table c.args.overwrite c.loop-prepared.invariant.turns bound c.loop-prepared-test.true new start out k free under is
          (λ may sound.
          subst (λ b. GoesNext view below now new (set_slot out k (Some q)) k n c.args.overwrite q c.prepare_next.new.prepared (Ok b)) c.if-not-branch.true
          ((c.in_ok-prepare_next.ensures.sound (set_slot out k (Some q)) k (get_set_same out.slots k (Some q) None free) may sound).does)));
    }

pub returns-clause-sound : goal.returns-clause-sound
returns-clause-sound g c = λ start out k free under is.
    let bound = c.min-end.ensures ∙ ap (min c.args.length) c.rest_of_table.ensures.value in
    record {
      may_fail = search rules;
      limit = search rules;
      does = so_far_all g.S.Storage.view g.F.BackingDisk.backing c.args.self.now c.loop-prepared.self c.args.prepared.now c.loop-prepared.prepared c.args.length c.min-end.result c.args.table c.args.overwrite c.loop-prepared.invariant.turns bound start out k free under is
          (omega (arith, c.loop-prepared-test.false));
    }
