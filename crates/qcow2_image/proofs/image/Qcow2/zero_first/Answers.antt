use Rattle.std.proofs.Common.{◌≡◌, ◌+◌, ◌-◌, ◌^◌, ◌<◌, ◌∷◌, ◌∙◌, [], inl, min, ap, subst, arith, rules}
use Rattle.qcow2_image.proofs.Common.{rest_of_table, entry_count, Pending, Sizes-from, handed_on, contents_in, known_in, IsClearable, KeptZeros, ImageInvariant, abstract_of, pending_in, FillsFirst, given_by_zeros, HasPinnedMapping, MayFailAllocating}
use Rattle.qcow2_image.proofs.Lemmas.{works_none, all_listed, beside, freed_refused, tidy_stays, cleared_fills, fill_unseen, fills_none, fills_refused, fills_stays, next_whole, next_within, taken_here, untaken_cleared, fault_unlimited, limited_giving, limited_upto, under_prepared, never_far, hands_met, taking_as, step_none, step_then}
use Rattle.qcow2_image.proofs.Call.FailingErrors.{freeing_met}
use Rattle.qcow2_image.proofs.image.Qcow2.zero_first.Goals as goal

pub returns-clause-whole : goal.returns-clause-whole
returns-clause-whole g c = λ out sound whole.
    let old = c.args.self.now in
    let h = old.file.header.fields in
    let from = c.args.from in
    let to = c.args.to in
    let sizes = Sizes-from h (contents_in g.S.Storage.view old.file) sound.file.caches.kept.kept.crash_invariant.top.header_reads in
    let is : c.min-next.result ≡ min c.args.to (min (c.args.from + rest_of_table c.args.self.now.file.header.fields c.args.from) (2 ^ 64 - 1)) =
    c.min-next.ensures ∙ ap (min to) (c.saturating_add.ensures ∙ ap (λ n. min (from + n) (2 ^ 64 - 1)) c.rest_of_table.ensures.value) in
    let high : c.args.to < 2 ^ 64 = search rules in
    next_whole h sizes.some sizes.entries from to c.min-next.result whole.1 is high

pub returns-then-to-from-clause-step : goal.returns-then-to-from-clause-step
returns-then-to-from-clause-step g c = step_none

pub returns-in_err-process_free_list-clause-step : goal.returns-in_err-process_free_list-clause-step
returns-in_err-process_free_list-clause-step g c = step_then c.clear_between.ensures.step c.process_free_list.ensures.step

pub returns-clause-step : goal.returns-clause-step
returns-clause-step g c = step_then c.clear_between.ensures.step c.process_free_list.ensures.step

pub returns-then-to-from-clause-sound : goal.returns-then-to-from-clause-sound
returns-then-to-from-clause-sound g c = λ out sound order whole third.
    let view = g.S.Storage.view in
    let below = g.F.BackingDisk.backing in
    let old = c.args.self.now in
    record {
      may_fail = search rules;
      fills = fills_none view below out old 0 c.args.from sound (works_none (abstract_of view below old out) sound);
    }

pub returns-in_err-clear_between-clause-sound : goal.returns-in_err-clear_between-clause-sound
returns-in_err-clear_between-clause-sound g c = λ out sound order whole third.
    let view = g.S.Storage.view in
    let below = g.F.BackingDisk.backing in
    let old = c.args.self.now in
    let new = c.clear_between.new.self in
    let h = old.file.header.fields in
    let from = c.args.from in
    let to = c.args.to in
    let e = c.in_err-clear_between.field-0.0 in
    let sizes = Sizes-from h (contents_in view old.file) sound.file.caches.kept.kept.crash_invariant.top.header_reads in
    let is : c.min-next.result ≡ min c.args.to (min (c.args.from + rest_of_table c.args.self.now.file.header.fields c.args.from) (2 ^ 64 - 1)) = c.min-next.ensures ∙ ap (min to) (c.saturating_add.ensures ∙ ap (λ n. min (from + n) (2 ^ 64 - 1)) c.rest_of_table.ensures.value) in
    let high : c.args.to < 2 ^ 64 = search rules in
    let lt = c.if-to-from.false in
    record {
      fills = let can : IsClearable c.args.self.now.file.header.fields KeptZeros c.args.from c.min-next.result = record {
        begins = whole.0;
        ends = next_whole h sizes.some sizes.entries from to c.min-next.result whole.1 is high;
        within = next_within h sizes.some sizes.entries from to c.min-next.result whole.1 is high;
        version = λ _. third;
      } in
          handed_on (λ r. FillsFirst view below 0 from to old new out r) c.from_residual.result e c.from_residual.ensures
          (record {
            left = fill_unseen view below out old new from to e (((c.in_err-clear_between.ensures.sound out sound).whole can).clears);
            taken = λ same. taken_here h from to out c.if-to-from.false ((c.in_err-clear_between.ensures.sound out sound).taken same);
            limit = λ limit. limited_giving (given_by_zeros from to ∷ []) (limited_upto (omega (arith, lt)) (((c.in_err-clear_between.ensures.sound out sound).whole can).limit limit));
          });
      may_fail = λ near. let can : IsClearable c.args.self.now.file.header.fields KeptZeros c.args.from c.min-next.result = record {
        begins = whole.0;
        ends = next_whole h sizes.some sizes.entries from to c.min-next.result whole.1 is high;
        within = next_within h sizes.some sizes.entries from to c.min-next.result whole.1 is high;
        version = λ _. third;
      } in
          hands_met (MayFailAllocating (HasPinnedMapping out) (HasPinnedMapping out) ⊥ ⊥) c.from_residual.result e c.from_residual.ensures
          (taking_as (λ held. held) (under_prepared h from out) (λ no. no) (never_far view below out (pending_in view below old out) old sound from to c.if-to-from.false near) e (((c.in_err-clear_between.ensures.sound out sound).whole can).may_fail));
    }

pub returns-in_err-process_free_list-clause-sound : goal.returns-in_err-process_free_list-clause-sound
returns-in_err-process_free_list-clause-sound g c = λ out sound order whole third.
    let view = g.S.Storage.view in
    let below = g.F.BackingDisk.backing in
    let old = c.args.self.now in
    let mid = c.clear_between.new.self in
    let new = c.process_free_list.new.self in
    let h = old.file.header.fields in
    let from = c.args.from in
    let to = c.args.to in
    let next = c.min-next.result in
    let sizes = Sizes-from h (contents_in view old.file) sound.file.caches.kept.kept.crash_invariant.top.header_reads in
    let e = c.in_err-process_free_list.field-0.0 in
    let rest = c.rest_of_table.ensures.value in
    let is : c.min-next.result ≡ min c.args.to (min (c.args.from + rest_of_table c.args.self.now.file.header.fields c.args.from) (2 ^ 64 - 1)) = c.min-next.ensures ∙ ap (min to) (c.saturating_add.ensures ∙ ap (λ n. min (from + n) (2 ^ 64 - 1)) rest) in
    let high : c.args.to < 2 ^ 64 = search rules in
    record {
      fills = let can : IsClearable c.args.self.now.file.header.fields KeptZeros c.args.from c.min-next.result = record {
        begins = whole.0;
        ends = next_whole h sizes.some sizes.entries from to c.min-next.result whole.1 is high;
        within = next_within h sizes.some sizes.entries from to c.min-next.result whole.1 is high;
        version = λ _. third;
      } in
          let part = cleared_fills view below out old mid from next (let lt = c.if-to-from.false in let some = c.rest_of_table.ensures.some in omega (arith, is, lt, some, rest, high)) (entry_count old.l1_table) sound.l1_table.count c.in_ok-clear_between.ensures.l1_place whole.0
          (((c.in_ok-clear_between.ensures.sound out sound).whole can).clears)
          (untaken_cleared h (known_in view old.file) sizes out from next (next_within h sizes.some sizes.entries from to next whole.1 is high) ((c.in_ok-clear_between.ensures.sound out sound).free)) in
          let listed = subst (λ (x : Pending). ImageInvariant view below x mid out) (all_listed view below mid out) part.sound in
          handed_on (λ r. FillsFirst view below 0 from to old new out r) c.from_residual-in_err-process_free_list.result e c.from_residual-in_err-process_free_list.ensures
          (fills_refused view below out old mid new 0 from next part to e (omega (arith, is)) (freeing_met _ e c.in_err-process_free_list.ensures.cause) (fault_unlimited e (c.in_err-process_free_list.ensures.faults (beside view below mid out) out listed))
          (freed_refused view below mid out new e part.sound (c.in_err-process_free_list.ensures.frees (beside view below mid out) out listed)) c.process_free_list.ensures.keeps_rest.header);
      may_fail = λ near. let part = ((c.in_ok-clear_between.ensures.sound out sound).whole (record {
        begins = whole.0;
        ends = next_whole h sizes.some sizes.entries from to next whole.1 is high;
        within = next_within h sizes.some sizes.entries from to next whole.1 is high;
        version = λ _. third;
      })).clears in
          let listed = subst (λ (x : Pending). ImageInvariant view below x mid out) (all_listed view below mid out) part.sound in
          hands_met (MayFailAllocating (HasPinnedMapping out) (HasPinnedMapping out) ⊥ ⊥) c.from_residual-in_err-process_free_list.result c.in_err-process_free_list.field-0.0 c.from_residual-in_err-process_free_list.ensures
          (inl (inl (inl (c.in_err-process_free_list.ensures.faults (beside view below mid out) out listed))));
    }

pub returns-clause-sound : goal.returns-clause-sound
returns-clause-sound g c = λ out sound order whole third.
    let view = g.S.Storage.view in
    let below = g.F.BackingDisk.backing in
    let old = c.args.self.now in
    let mid = c.clear_between.new.self in
    let new = c.process_free_list.new.self in
    let h = old.file.header.fields in
    let from = c.args.from in
    let to = c.args.to in
    let next = c.min-next.result in
    let sizes = Sizes-from h (contents_in view old.file) sound.file.caches.kept.kept.crash_invariant.top.header_reads in
    let rest = c.rest_of_table.ensures.value in
    let is : c.min-next.result ≡ min c.args.to (min (c.args.from + rest_of_table c.args.self.now.file.header.fields c.args.from) (2 ^ 64 - 1)) = c.min-next.ensures ∙ ap (min to) (c.saturating_add.ensures ∙ ap (λ n. min (from + n) (2 ^ 64 - 1)) rest) in
    let high : c.args.to < 2 ^ 64 = search rules in
    record {
      may_fail = search rules;
      fills = let can : IsClearable c.args.self.now.file.header.fields KeptZeros c.args.from c.min-next.result = record {
        begins = whole.0;
        ends = next_whole h sizes.some sizes.entries from to c.min-next.result whole.1 is high;
        within = next_within h sizes.some sizes.entries from to c.min-next.result whole.1 is high;
        version = λ _. third;
      } in
          let part = cleared_fills view below out old mid from next (let lt = c.if-to-from.false in let some = c.rest_of_table.ensures.some in omega (arith, is, lt, some, rest, high)) (entry_count old.l1_table) sound.l1_table.count c.in_ok-clear_between.ensures.l1_place whole.0
          (((c.in_ok-clear_between.ensures.sound out sound).whole can).clears)
          (untaken_cleared h (known_in view old.file) sizes out from next (next_within h sizes.some sizes.entries from to next whole.1 is high) ((c.in_ok-clear_between.ensures.sound out sound).free)) in
          let listed = subst (λ (x : Pending). ImageInvariant view below x mid out) (all_listed view below mid out) part.sound in
          fills_stays view below out old mid new 0 from next part (tidy_stays view below mid out new part.sound (c.in_ok-process_free_list.ensures.frees (beside view below mid out) out listed)) c.process_free_list.ensures.keeps_rest.header;
    }
