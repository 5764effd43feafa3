use Rattle.std.proofs.Common.{◌≡◌, ◌^◌, ◌≤◌, ◌++◌, ◌∷◌, ℕ, IsSome, inl, inr, Result, refl, ◌∙◌, [], List, sym, ap, subst, arith, Err, IfErr}
use Rattle.qcow2_alloc.proofs.Common.{IsUsed, KeepsUsed, entry_count, HeaderView, counts_per_block, entries_per_cluster, Pending, ClustersToFreeEntry, InternalAllocatorGrowth, RefusedGrowth, GrowsTable, ImageError, pending_then, IsLeastLength, IsLongEnough, IsFaultOr, HasNoRoomFor, CantGrow, IsAllocatedMetadata, AllocatesOnly}
use Rattle.qcow2_alloc.proofs.Lemmas.{never_unaligned, tables_more, spares_listed, handed_on, lacking_clone, on_none, cause_as, listed_after_same, on_no_ok, made_entered, made_unentered, growth_step_none, growth_step_on, fails_by, fails_ok, fails_on}
use Rattle.qcow2_alloc.proofs.FullRooms.{cant_grow}
use Rattle.qcow2_alloc.proofs.GrownReftables.{grown}
use Rattle.qcow2_alloc.proofs.allocation.Allocator.grow_reftable.Goals as goal

pub returns-in_err-table-clause-step : goal.returns-in_err-table-clause-step
returns-in_err-table-clause-step g c = growth_step_none c.from_residual.result c.in_err-table.field-0.0 c.from_residual.ensures

pub returns-in_err-former-clause-step : goal.returns-in_err-former-clause-step
returns-in_err-former-clause-step g c = growth_step_none c.from_residual-in_err-former.result c.in_err-former.field-0.0 c.from_residual-in_err-former.ensures

pub returns-in-Ok-clause-step : goal.returns-in-Ok-clause-step
returns-in-Ok-clause-step g c =
    let clone = c.in_ok-table.ensures.entries in
    let names = lacking_clone c.args.self.now.reftable c.in_ok-table.table c.enter_reftable.new.self.reftable clone.bits clone.entries c.in-Ok.ensures.entered.entered.lacking in
    record {
      header = c.enter_reftable.ensures.step.header;
      list = record {
        more = c.in_ok-former.former ∷ [];
        is = c.hand_back.ensures ∙ ap (λ (l : List ClustersToFreeEntry). l ++ c.in_ok-former.former ∷ []) c.enter_reftable.ensures.step.list;
        tables = rw c.in_ok-former.ensures.kind refl;
      };
      former = (
        c.in_ok-former.former,
        c.in_ok-former.ensures.of_table,
        c.hand_back.ensures ∙ ap (λ (l : List ClustersToFreeEntry). l ++ c.in_ok-former.former ∷ []) c.enter_reftable.ensures.step.list,
        c.in-Ok.ensures.entered.fills c.in_ok-table.ensures.length.enough.whole,
        names.0,
        names.1,
      );
      marks = c.enter_reftable.ensures.step.marks;
      header_cluster = spares_listed c.hand_back.new.list (c.enter_reftable.ensures.step.header_cluster tt);
    }

pub returns-in-Err-clause-step : goal.returns-in-Err-clause-step
returns-in-Err-clause-step g c = growth_step_on (Err c.in-Err.refusal) c.enter_reftable.ensures.step (c.in-Err.ensures.kept, c.enter_reftable.ensures.step.list)

pub returns-in-Ok-clause-sound : goal.returns-in-Ok-clause-sound
returns-in-Ok-clause-sound g c = λ p sound.
    let list = c.hand_back.ensures ∙ ap (λ (l : List ClustersToFreeEntry). l ++ c.in_ok-former.former ∷ []) c.enter_reftable.ensures.step.list in
    record {
      grows = let view = g.S.Storage.view in
          let old = c.args.file.now in
          let allocator_step = (c.in-Ok.ensures.sound p sound c.in_ok-table.ensures.entries c.in_ok-table.ensures.length.enough.whole).enters in
          let run = rw sound.reftable.cluster at c.in_ok-former.ensures.run in
          subst (λ (l : List ClustersToFreeEntry). InternalAllocatorGrowth view p old c.enter_reftable.new.self (record c.enter_reftable.new.file { free_list = l }) (pending_then p old.free_list l)) (sym list)
          (grown view p old c.enter_reftable.new.file c.enter_reftable.new.self c.args.self.now.reftable _ c.in_ok-former.former sound.sound sound.reftable c.in_ok-former.ensures.is_table sound.reftable.cluster run allocator_step old.free_list);
      leaks = c.enter_reftable.ensures.leaks p sound;
      made = let clone = c.in_ok-table.ensures.entries in
          let names = lacking_clone c.args.self.now.reftable c.in_ok-table.table c.enter_reftable.new.self.reftable clone.bits clone.entries c.in-Ok.ensures.entered.entered.lacking in
          let count = c.in-Ok.ensures.entered.entered.count in
          let longer = c.in_ok-table.ensures.length.enough.longer in
          made_entered g.S.Storage.view p c.args.file.now c.enter_reftable.new.file c.args.self.now c.enter_reftable.new.self sound c.in_ok-former.former c.hand_back.new.list c.in_ok-former.ensures.of_table list (omega (arith, count, longer)) names.1
          ((c.in-Ok.ensures.sound p sound clone c.in_ok-table.ensures.length.enough.whole).enters) tt;
      uses = (c.in-Ok.ensures.sound p sound c.in_ok-table.ensures.entries c.in_ok-table.ensures.length.enough.whole).uses;
      lowest = λ hint. let lies = ((c.in-Ok.ensures.sound p sound c.in_ok-table.ensures.entries c.in_ok-table.ensures.length.enough.whole).lowest hint) in
          record { first = lies.first; blocks = lies.blocks; above = lies.above; behind = lies.behind; lacked = lies.lacked; lowest = lies.lowest };
      limit = λ _. tt;
    }

pub returns-in-Err-clause-sound : goal.returns-in-Err-clause-sound
returns-in-Err-clause-sound g c = λ p sound.
    record {
      grows = subst (λ (q : Pending). RefusedGrowth g.S.Storage.view p c.args.file.now c.enter_reftable.new.self c.enter_reftable.new.file q c.in-Err.refusal)
          (sym (listed_after_same p c.args.file.now.free_list c.enter_reftable.new.file.free_list c.enter_reftable.ensures.step.list))
          ((c.in-Err.ensures.sound p sound c.in_ok-table.ensures.entries c.in_ok-table.ensures.length.enough.whole).enters);
      leaks = c.enter_reftable.ensures.leaks p sound;
      made = made_unentered g.S.Storage.view p c.args.file.now c.enter_reftable.new.file c.args.self.now c.enter_reftable.new.self sound c.in-Err.refusal c.enter_reftable.ensures.step.list c.in-Err.ensures.kept ((c.in-Err.ensures.sound p sound c.in_ok-table.ensures.entries c.in_ok-table.ensures.length.enough.whole).enters);
      uses = (c.in-Err.ensures.sound p sound c.in_ok-table.ensures.entries c.in_ok-table.ensures.length.enough.whole).uses;
      lowest = λ _. tt;
      limit = λ hint. let view = g.S.Storage.view in
          let t = c.args.self.now.reftable in
          let old = c.args.file.now in
          let new = c.enter_reftable.new.file in
          let length : ℕ = entry_count c.in_ok-table.table in
          let header = c.enter_reftable.ensures.step.header in
          cause_as ((c.enter_reftable.new.self.reftable ≡ t) × HasNoRoomFor (IsUsed view new) new.header.fields (λ k. 0) t length) ((c.enter_reftable.new.self.reftable ≡ t) × CantGrow (IsUsed view new) new.header.fields (λ k. 0) t c.args.index) c.in-Err.refusal
          (λ none. (
            none.0,
            cant_grow view new (λ k. 0) t c.args.index length (entries_per_cluster old.header.fields) (counts_per_block old.header.fields)
                (ap (λ (h : HeaderView). entries_per_cluster h.fields) header) (ap (λ (h : HeaderView). counts_per_block h.fields) header) c.in_ok-table.ensures.length none.1,
          ))
          (((c.in-Err.ensures.sound p sound c.in_ok-table.ensures.entries c.in_ok-table.ensures.length.enough.whole).limit hint));
    }

pub returns-in_err-table-clause-sound : goal.returns-in_err-table-clause-sound
returns-in_err-table-clause-sound g c = λ p sound.
    let old = c.args.file.now in
    record {
      grows = let same = sym (listed_after_same p old.free_list old.free_list refl) in
          handed_on (GrowsTable g.S.Storage.view p old c.args.self.now old (pending_then p old.free_list old.free_list)) c.from_residual.result c.in_err-table.field-0.0 c.from_residual.ensures
          (inl (subst (λ (q : Pending). InternalAllocatorGrowth g.S.Storage.view p old c.args.self.now old q) same (on_none g.S.Storage.view p old c.args.self.now sound)));
      leaks = refl;
      made = handed_on (AllocatesOnly g.S.Storage.view (λ done k. 0) (IsAllocatedMetadata c.args.file.now.header.fields c.args.self.now.reftable c.args.self.now.reftable) c.args.file.now c.args.file.now) c.from_residual.result c.in_err-table.field-0.0 c.from_residual.ensures (inl ((λ k used. inl used), λ k. omega arith));
      uses = handed_on (KeepsUsed g.S.Storage.view c.args.file.now c.args.file.now) c.from_residual.result c.in_err-table.field-0.0 c.from_residual.ensures (inl (λ k used. used));
      lowest = λ _. on_no_ok _ c.from_residual.result c.in_err-table.field-0.0 c.from_residual.ensures;
      limit = λ hint. let view = g.S.Storage.view in
          let t = c.args.self.now.reftable in
          let Enough : ℕ → Type 0 = IsLongEnough (entry_count t) c.args.index (entries_per_cluster old.header.fields) (counts_per_block old.header.fields) in
          handed_on (λ (r : Result (Unit {0}) ImageError). IfErr r (IsFaultOr ((t ≡ t) × CantGrow (IsUsed view old) old.header.fields (λ k. 0) t c.args.index))) c.from_residual.result c.in_err-table.field-0.0 c.from_residual.ensures
          (cause_as ((n : ℕ) → n ≤ 2 ^ 20 → Enough n → ⊥) ((t ≡ t) × CantGrow (IsUsed view old) old.header.fields (λ k. 0) t c.args.index) c.in_err-table.field-0.0
          (λ none. (refl, λ n small least end low near. absurd (none n small least.enough))) c.in_err-table.ensures.limit);
    }

pub returns-in_err-former-clause-sound : goal.returns-in_err-former-clause-sound
returns-in_err-former-clause-sound g c = λ p sound.
    record {
      grows = let old = c.args.file.now in
          let same = sym (listed_after_same p old.free_list old.free_list refl) in
          handed_on (GrowsTable g.S.Storage.view p old c.args.self.now old (pending_then p old.free_list old.free_list)) c.from_residual-in_err-former.result c.in_err-former.field-0.0 c.from_residual-in_err-former.ensures
          (inl (subst (λ (q : Pending). InternalAllocatorGrowth g.S.Storage.view p old c.args.self.now old q) same (on_none g.S.Storage.view p old c.args.self.now sound)));
      leaks = refl;
      made = handed_on (AllocatesOnly g.S.Storage.view (λ done k. 0) (IsAllocatedMetadata c.args.file.now.header.fields c.args.self.now.reftable c.args.self.now.reftable) c.args.file.now c.args.file.now) c.from_residual-in_err-former.result c.in_err-former.field-0.0 c.from_residual-in_err-former.ensures (inl ((λ k used. inl used), λ k. omega arith));
      uses = handed_on (KeepsUsed g.S.Storage.view c.args.file.now c.args.file.now) c.from_residual-in_err-former.result c.in_err-former.field-0.0 c.from_residual-in_err-former.ensures (inl (λ k used. used));
      lowest = λ _. on_no_ok _ c.from_residual-in_err-former.result c.in_err-former.field-0.0 c.from_residual-in_err-former.ensures;
      limit = λ hint. let t = c.args.self.now.reftable in
          let some : IsSome t.cluster = rw sound.reftable.cluster refl in
          handed_on (λ (r : Result (Unit {0}) ImageError). IfErr r (IsFaultOr ((t ≡ t) × CantGrow (IsUsed g.S.Storage.view c.args.file.now) c.args.file.now.header.fields (λ k. 0) t c.args.index))) c.from_residual-in_err-former.result c.in_err-former.field-0.0 c.from_residual-in_err-former.ensures
          (inl (inr (c.in_err-former.ensures.placed some)));
    }

pub returns-in_err-table-clause-fails : goal.returns-in_err-table-clause-fails
returns-in_err-table-clause-fails g c = fails_on c.from_residual.result c.in_err-table.field-0.0 c.from_residual.ensures (fails_by c.in_err-table.field-0.0 (λ is. c.in_err-table.ensures.no_fault (ap Err is)) refl (never_unaligned _ c.in_err-table.field-0.0 c.in_err-table.ensures.cause))

pub returns-in_err-former-clause-fails : goal.returns-in_err-former-clause-fails
returns-in_err-former-clause-fails g c = fails_on c.from_residual-in_err-former.result c.in_err-former.field-0.0 c.from_residual-in_err-former.ensures (fails_by c.in_err-former.field-0.0 (λ is. c.in_err-former.ensures.no_fault (ap Err is)) refl (tables_more (λ none. inr none) c.in_err-former.field-0.0 c.in_err-former.ensures.cause))

pub returns-in-Ok-clause-fails : goal.returns-in-Ok-clause-fails
returns-in-Ok-clause-fails g c = fails_ok c.in-Ok.ensures.fails.told

pub returns-in-Err-clause-fails : goal.returns-in-Err-clause-fails
returns-in-Err-clause-fails g c = c.in-Err.ensures.fails

pub returns-in_err-table-clause-grown : goal.returns-in_err-table-clause-grown
returns-in_err-table-clause-grown g c = on_no_ok _ c.from_residual.result c.in_err-table.field-0.0 c.from_residual.ensures

pub returns-in_err-former-clause-grown : goal.returns-in_err-former-clause-grown
returns-in_err-former-clause-grown g c = on_no_ok _ c.from_residual-in_err-former.result c.in_err-former.field-0.0 c.from_residual-in_err-former.ensures

pub returns-in-Ok-clause-grown : goal.returns-in-Ok-clause-grown
returns-in-Ok-clause-grown g c = record {
  length = subst (IsLeastLength (entry_count c.args.self.now.reftable) c.args.index (entries_per_cluster c.args.file.now.header.fields) (counts_per_block c.args.file.now.header.fields)) (sym c.in-Ok.ensures.entered.entered.count) c.in_ok-table.ensures.length;
  elsewhere = (c.in-Ok.ensures.entered.fills c.in_ok-table.ensures.length.enough.whole).elsewhere;
  recorded = c.in-Ok.ensures.entered.entered.recorded;
}
