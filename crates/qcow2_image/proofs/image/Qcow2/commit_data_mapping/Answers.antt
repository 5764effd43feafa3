use Rattle.qcow2_image.proofs.image.Qcow2.commit_data_mapping.Goals as goal
use Rattle.std.proofs.Common.{◌≡◌, ◌++◌, ℕ, inl, inr, [], None, Err, refl, sym, ap, ◌∙◌, subst, rules, Option, false, true, IsTrue, IsSome}
use Rattle.qcow2_image.proofs.Common.{storage, storage_of, Qcow2, CommitRefused, Commits, refusal_of, is_failed, append-nil, contents_in, known_in, freed_by, IsReadyWith, abstract_of, pending_in, CountsImageFaults, notes_then, rests_none, cases_Bool}
use Rattle.qcow2_image.specs.declared.prepared.CommitRefused.TheVariants.{Kept}
use Rattle.qcow2_image.proofs.Lemmas.{may_mark_refused, is_fault, outcome, fewer_of, counted_as, faults_then, once_marked, commit_fails_none, counts_begun, counts_on, counts_released, behind_begun, behind_then}
use Rattle.qcow2_image.proofs.Commit.CommitCalls.{commit_interruption, commit_break_off, commit_done, commit_existing, commit_kept, refuses_unsound}
use Rattle.qcow2_image.proofs.Commit.Copied.{stands_copied}
use Rattle.qcow2_image.proofs.image.Qcow2.commit_data_mapping.Goals.{then-entered, else-entered}

pub returns-in-Ok-clause-step : goal.returns-in-Ok-clause-step
returns-in-Ok-clause-step g c =
    let view = g.S.Storage.view in
    let freed = c.process_free_list_at_end.new.self in
    record {
      image = search rules;
      header = search rules;
      marks = search rules;
      once_written = let new = c.release_prepared-in-Ok.new.self in
          let first = counts_begun view c.args.self.now c.begin_call.new.self c.begin_call.ensures.begun freed (notes_then c.enter_mappings-entered.ensures.step.notes c.process_free_list_at_end.ensures.notes) in
          record { counts = counts_on view c.args.self.now freed new first (counts_released view freed new c.release_prepared-in-Ok.ensures.rest); memory = tt };
      header_cluster = behind_then (behind_then (behind_then (behind_begun g.S.Storage.view c.begin_call.ensures.begun) c.enter_mappings-entered.ensures.step.header_cluster) c.process_free_list_at_end.ensures.header_cluster) c.release_prepared-in-Ok.ensures.step.header_cluster;
      faults = let below = g.F.BackingDisk.backing in
          let old = c.args.self.now in
          let entered = c.enter_mappings-entered.new.self in
          let first = faults_then view below old c.begin_call.new.self entered c.begin_call.ensures.faults c.enter_mappings-entered.ensures.faults in
          let all = faults_then view below old freed c.release_prepared-in-Ok.new.self (faults_then view below old entered freed first c.in-Ok.ensures.fails.faults.told) c.release_prepared-in-Ok.ensures.faults in
          (fewer_of view below old c.release_prepared-in-Ok.new.self all, tt, all);
    }

pub returns-in-Ok-clause-stands : goal.returns-in-Ok-clause-stands
returns-in-Ok-clause-stands g c = λ out k placed sound.
    let old = c.args.self.now in
    let below = g.F.BackingDisk.backing in
    let view = g.S.Storage.view in
    record {
      copied = λ some. stands_copied view below old c.begin_call.new.self c.enter_mappings-entered.new.self c.process_free_list_at_end.new.self c.release_prepared-in-Ok.new.self c.args.prepared c.enter_mappings-entered.new.prepared c.enter_mappings-entered.result some c.process_free_list_at_end.result
          (λ out sound. record { keeps = c.begin_call.ensures.keeps (pending_in view below old out) out sound; list = c.begin_call.ensures.list }) c.enter_mappings-entered.ensures.enters c.enter_mappings-entered.ensures.in_place c.process_free_list_at_end.ensures.frees c.in-Ok.is
          c.release_prepared-in-Ok.ensures.rest out k placed sound;
      freeing = let some : IsSome c.args.prepared.table = search rules in
          λ existing. absurd (let e : false ≡ true = sym existing ∙ some in cc);
    }

pub returns-after-entered-clause-step : goal.returns-after-entered-clause-step
returns-after-entered-clause-step g c = record {
  image = search rules;
  header = search rules;
  marks = search rules;
  once_written = record {
    counts = counts_begun g.S.Storage.view c.args.self.now c.begin_call.new.self c.begin_call.ensures.begun c.process_free_list_at_end.new.self (notes_then c.enter_mappings-entered.ensures.step.notes c.process_free_list_at_end.ensures.notes);
    memory = λ memory. once_marked g.S.Storage.view c.args.self.now c.begin_call.new.self c.begin_call.ensures.begun c.enter_mappings-entered.new.self c.process_free_list_at_end.new.self c.process_free_list_at_end.result (notes_then c.enter_mappings-entered.ensures.step.notes c.process_free_list_at_end.ensures.notes)
        (c.enter_mappings-entered.ensures.step.stays.failed ∙ c.begin_call.ensures.stays.failed) c.process_free_list_at_end.ensures.marks (c.in-Err.is ∙ ap Err (sym c.refused_commit.ensures.reason ∙ memory));
  };
  header_cluster = behind_then (behind_then (behind_begun g.S.Storage.view c.begin_call.ensures.begun) c.enter_mappings-entered.ensures.step.header_cluster) c.process_free_list_at_end.ensures.header_cluster;
  faults = let view = g.S.Storage.view in
      let below = g.F.BackingDisk.backing in
      let old = c.args.self.now in
      let entered = c.enter_mappings-entered.new.self in
      let first = faults_then view below old c.begin_call.new.self entered c.begin_call.ensures.faults c.enter_mappings-entered.ensures.faults in
      let told : CountsImageFaults view below {T = Unit {0}} old c.process_free_list_at_end.new.self (Err c.in-Err.refusal) = counted_as view below old entered c.process_free_list_at_end.new.self c.process_free_list_at_end.result c.in-Err.refusal first c.process_free_list_at_end.ensures.fails.faults c.in-Err.is in
      (told.no_fewer, λ is. told.rose (sym c.refused_commit.ensures.reason ∙ is), λ other. told.told (λ is. other (c.refused_commit.ensures.reason ∙ is)));
}

pub returns-then-prepared-self-clause-step : goal.returns-then-prepared-self-clause-step
returns-then-prepared-self-clause-step g c = record {
  image = search rules;
  header = search rules;
  marks = search rules;
  once_written = commit_fails_none g.S.Storage.view c.args.self.now _;
  header_cluster = search rules;
  faults = search rules;
}

pub returns-then-self-clause-step : goal.returns-then-self-clause-step
returns-then-self-clause-step g c = record {
  image = search rules;
  header = search rules;
  marks = search rules;
  once_written = commit_fails_none g.S.Storage.view c.args.self.now _;
  header_cluster = search rules;
  faults = search rules;
}

pub returns-then-is_none-clause-step : goal.returns-then-is_none-clause-step
returns-then-is_none-clause-step g c = record {
  image = search rules;
  header = search rules;
  marks = search rules;
  once_written = record { counts = counts_released g.S.Storage.view c.args.self.now c.release_prepared.new.self c.release_prepared.ensures.rest; memory = tt };
  header_cluster = c.release_prepared.ensures.step.header_cluster;
  faults = search rules;
}

pub returns-then-is_none-clause-stands : goal.returns-then-is_none-clause-stands
returns-then-is_none-clause-stands g c = λ out k placed sound.
    let old = c.args.self.now in
    let view = g.S.Storage.view in
    let none : c.args.prepared.table ≡ None = search rules in
    record {
      copied = λ some. absurd (let e : false ≡ true = subst (λ (x : Option _). IsSome x) none some in cc);
      freeing = let nothing : c.args.prepared.clusters.items ≡ [] = subst (λ (o : Option ℕ). IsReadyWith old.file.header.fields out.place (known_in view old.file) (contents_in view old.file) c.args.prepared o) none (sound.ready k c.args.prepared placed).mapped in
          λ existing. c.release_prepared.ensures.list ∙ ap (λ clusters. old.file.free_list ++ freed_by clusters) nothing ∙ append-nil old.file.free_list;
    }

pub returns-then-prepared-self-clause-sees : goal.returns-then-prepared-self-clause-sees
returns-then-prepared-self-clause-sees g c = λ out k placed.
    let unsound : (abstract_of g.S.Storage.view g.F.BackingDisk.backing c.args.self.now out).is_sound → ⊥ = λ sound. c.if-prepared-self.true (sound.ready k c.args.prepared placed).own in
    (unsound, refuses_unsound _ _ _ _ _ refl unsound (λ failed. rests_none _ _ refl refl failed refl) (λ never. absurd cc))

pub returns-then-is_none-clause-sees : goal.returns-then-is_none-clause-sees
returns-then-is_none-clause-sees g c = λ out k placed.
    let none : c.args.prepared.table ≡ None = search rules in
    commit_existing g.S.Storage.view g.F.BackingDisk.backing c.args.self.now c.args.prepared none c.release_prepared.new.self c.if-self.false c.release_prepared.ensures.sees out k placed

pub returns-in-Ok-clause-sees : goal.returns-in-Ok-clause-sees
returns-in-Ok-clause-sees g c = λ out k placed.
    let some : IsSome c.args.prepared.table = search rules in
    commit_done g.S.Storage.view g.F.BackingDisk.backing c.args.self.now c.args.prepared c.begin_call.new.self c.enter_mappings-entered.new.self c.process_free_list_at_end.new.self c.enter_mappings-entered.new.prepared c.enter_mappings-entered.result c.if-self.false some c.process_free_list_at_end.result
    (λ out sound. record { keeps = c.begin_call.ensures.keeps (pending_in g.S.Storage.view g.F.BackingDisk.backing c.args.self.now out) out sound; list = c.begin_call.ensures.list }) c.enter_mappings-entered.ensures.enters c.process_free_list_at_end.ensures.frees out k placed c.in-Ok.is c.release_prepared-in-Ok.new.self c.release_prepared-in-Ok.ensures.sees
    (c.release_prepared-in-Ok.ensures.step.stays.image.number ∙ c.process_free_list_at_end.ensures.image.number ∙ c.enter_mappings-entered.ensures.step.stays.image.number ∙ c.begin_call.ensures.stays.image.number)

pub returns-in-Ok-clause-emptied : goal.returns-in-Ok-clause-emptied
returns-in-Ok-clause-emptied g c = λ own some writable.
    let freed : c.process_free_list_at_end.new.self.file.free_list ≡ [] = c.in-Ok.ensures.emptied (c.enter_mappings-entered.ensures.step.stays.image.writable ∙ c.begin_call.ensures.stays.image.writable ∙ writable) in
    c.release_prepared-in-Ok.ensures.list ∙ ap (λ l. c.process_free_list_at_end.new.self.file.free_list ++ l) c.enter_mappings-entered.ensures.left ∙ ap (λ l. l ++ []) freed

pub returns-after-entered-clause-sees : goal.returns-after-entered-clause-sees
returns-after-entered-clause-sees g c =
    let view = g.S.Storage.view in
    let below = g.F.BackingDisk.backing in
    let old = c.args.self.now in
    let p = c.args.prepared in
    let begun = c.begin_call.new.self in
    let entered = c.enter_mappings-entered.new.self in
    let freed = c.process_free_list_at_end.new.self in
    let q = c.enter_mappings-entered.new.prepared in
    let x = c.in-Err.refusal in
    let some : IsSome c.args.prepared.table = search rules in
    let number = c.process_free_list_at_end.ensures.image.number ∙ c.enter_mappings-entered.ensures.step.stays.image.number ∙ c.begin_call.ensures.stays.image.number in
    let marked : refusal_of c.in-Err.refusal ≡ storage → IsTrue (is_failed c.process_free_list_at_end.new.self) =
    is_fault x (is_failed entered) (is_failed freed) (outcome x (is_failed entered) (is_failed freed) (may_mark_refused entered freed x c.in-Err.ensures.marks)) in
    elim c.if-entered.branch [
      | then-entered w ↦
          subst (λ (r : CommitRefused). Commits view below old freed p (Err r)) (sym (c.refused_commit.ensures.failed (w.refused_commit-is ∙ w.if-entered.true)))
          (λ out k placed. commit_break_off view below old p begun entered freed q c.enter_mappings-entered.result c.if-self.false some c.process_free_list_at_end.result
          (λ out sound. record { keeps = c.begin_call.ensures.keeps (pending_in view below old out) out sound; list = c.begin_call.ensures.list }) c.enter_mappings-entered.ensures.enters c.process_free_list_at_end.ensures.frees out k placed number x c.in-Err.is marked w.if-entered.true)
      | else-entered w ↦ elim (cases_Bool (is_failed freed)) [
        | inl failed ↦
            subst (λ (r : CommitRefused). Commits view below old freed p (Err r)) (sym (c.refused_commit.ensures.failed (w.refused_commit-is ∙ failed)))
            (λ out k placed. commit_interruption view below old p begun entered freed q c.enter_mappings-entered.result c.if-self.false some c.process_free_list_at_end.result
            (λ out sound. record { keeps = c.begin_call.ensures.keeps (pending_in view below old out) out sound; list = c.begin_call.ensures.list }) c.enter_mappings-entered.ensures.enters c.process_free_list_at_end.ensures.frees out k placed number x c.in-Err.is marked (λ _. failed))
        | inr works ↦
            let same = c.enter_mappings-entered.ensures.none w.if-entered.false in
            subst (λ (r : CommitRefused). Commits view below old freed p (Err r)) (sym (c.refused_commit.ensures.kept (w.refused_commit-is ∙ works) ∙ ap (Kept x) same.1))
            (λ out k placed. commit_kept view below old p begun entered freed q c.enter_mappings-entered.result c.if-self.false some c.process_free_list_at_end.result
            (λ out sound. record { keeps = c.begin_call.ensures.keeps (pending_in view below old out) out sound; list = c.begin_call.ensures.list }) c.enter_mappings-entered.ensures.enters c.process_free_list_at_end.ensures.frees out k placed number x c.in-Err.is marked same)
      ]
    ]

pub returns-in-Ok-clause-quiet : goal.returns-in-Ok-clause-quiet
returns-in-Ok-clause-quiet g c = λ nothing none.
    ap (λ (image : Qcow2 _ _). storage_of image.file.storage) c.release_prepared-in-Ok.ensures.rest.rest
    ∙ ap (λ (image : Qcow2 _ _). storage_of image.file.storage) (c.process_free_list_at_end.ensures.idle (c.enter_mappings-entered.ensures.quiet none ∙ c.begin_call.ensures.list ∙ nothing)).1
    ∙ ap (λ (image : Qcow2 _ _). storage_of image.file.storage) c.enter_mappings-entered.ensures.rest ∙ c.begin_call.ensures.storage

pub returns-after-entered-clause-quiet : goal.returns-after-entered-clause-quiet
returns-after-entered-clause-quiet g c = λ nothing none.
    ap (λ (image : Qcow2 _ _). storage_of image.file.storage) (c.process_free_list_at_end.ensures.idle (c.enter_mappings-entered.ensures.quiet none ∙ c.begin_call.ensures.list ∙ nothing)).1
    ∙ ap (λ (image : Qcow2 _ _). storage_of image.file.storage) c.enter_mappings-entered.ensures.rest ∙ c.begin_call.ensures.storage

pub returns-then-prepared-self-clause-refusals : goal.returns-then-prepared-self-clause-refusals
returns-then-prepared-self-clause-refusals g c = record { foreign = search rules; failed = search rules; kept = search rules; late = search rules }

pub returns-then-self-clause-refusals : goal.returns-then-self-clause-refusals
returns-then-self-clause-refusals g c = record { foreign = search rules; failed = search rules; kept = search rules; late = search rules }

pub returns-then-is_none-clause-refusals : goal.returns-then-is_none-clause-refusals
returns-then-is_none-clause-refusals g c = record { foreign = search rules; failed = search rules; kept = search rules; late = search rules }

pub returns-in-Ok-clause-refusals : goal.returns-in-Ok-clause-refusals
returns-in-Ok-clause-refusals g c = record { foreign = search rules; failed = search rules; kept = search rules; late = search rules }

pub returns-after-entered-clause-refusals : goal.returns-after-entered-clause-refusals
returns-after-entered-clause-refusals g c = record { foreign = search rules; failed = search rules; kept = search rules; late = search rules }

pub returns-then-prepared-self-clause-stands : goal.returns-then-prepared-self-clause-stands
returns-then-prepared-self-clause-stands g c = λ out k placed sound. record { copied = λ some. tt; freeing = λ existing. tt }

pub returns-then-self-clause-stands : goal.returns-then-self-clause-stands
returns-then-self-clause-stands g c = λ out k placed sound. record { copied = λ some. tt; freeing = λ existing. tt }

pub returns-after-entered-clause-stands : goal.returns-after-entered-clause-stands
returns-after-entered-clause-stands g c = λ out k placed sound. record { copied = λ some. tt; freeing = λ existing. tt }
