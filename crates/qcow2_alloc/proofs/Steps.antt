-- Steps of the allocator one after another, and refusals that are passed on.
use Rattle.std.proofs.Common.{◌≡◌, ◌≢◌, inl, inr, ℕ, List, Option, Some, None, Result, Ok, Err, IsErr, IsErrAnd, refl, sym, ap, ◌∙◌, subst, arith, IfErr}
use Rattle.qcow2_alloc.proofs.Common.{StorageView, HasCause, StorageError, MetadataError, storage_result, EntryTableView, FaultsReported, KeepsPinsAndNotes, HeldStep, ReplacesReftable, OldReftablesQueued, KeepsHeaderCluster, view_in, of_storage, of_metadata, IsOfReftableLoad, IsOfTablesIf, IsReasonNotToLoad, KeepMarksAndTables, KeepsMarks, KeepsNotes, kept_then, ClustersToFreeEntry, CachesSpareHeader, KeepBehindHeader, MetadataCaches, ImageStorage, err_of, FailsFor, TableStep, FileStep, KeepsMarksInTurn, DataStep, PointerStep, PointerStepTo, GrowthStep, FreeStep, FreeStepInTurn, PartStep, ImageError, ImageFile}
use Rattle.image_access.specs.declared.error.StorageError.TheVariants as S
use Rattle.qcow2_metadata.specs.declared.error.MetadataError.TheVariants as M
use Rattle.qcow2_alloc.specs.declared.error.ImageError.TheVariants as I
use Rattle.qcow2_alloc.specs.Allocation.{HasUnaligned}
use Rattle.qcow2_alloc.specs.CacheSteps.{KeepMarksInTurn}
use Rattle.qcow2_alloc.specs.ImageError.{IsFault}
use Rattle.qcow2_metadata.specs.declared.header.HeaderFields.{HeaderFields}
use Rattle.qcow2_alloc.proofs.AllocationSteps.{handed_on, named_then}
use Rattle.qcow2_alloc.proofs.CachePins.{marks_then}
use Rattle.qcow2_alloc.proofs.FormerReftables.{former_none, former_same, former_then}
use Rattle.qcow2_alloc.proofs.HeaderClusters.{header_cluster_none}
use Rattle.qcow2_alloc.proofs.KeptTables.Held.{held_same}
use Rattle.qcow2_alloc.proofs.KeptMarks.{kept_marks_none, kept_marks_then, marks_of_caches}
use Rattle.qcow2_alloc.proofs.ListedAfter.{header_same, header_then, lists_none, lists_same, lists_then}
use Rattle.qcow2_alloc.proofs.Outcomes.{entries_none}
use Rattle.qcow2_alloc.proofs.SparedHeaders.{spares_none, spares_then, spares_less, spares_cached, spares_listed, spares_parts, spares_tables}

-- ---- what stays
module _ {S : Type 0} {view : S → StorageView} where
  -- no call at all, one call after another, and one whose state is known by another name
  pub table_step_none : {t : EntryTableView} {f : ImageFile S} → TableStep view t f t f
  table_step_none {t} {f} = record { header = refl; list = refl; named = entries_none _ t; marks = kept_marks_none; header_cluster = spares_none }

  pub table_step_then : {t t' t'' : EntryTableView} {a b c : ImageFile S} → TableStep view t a t' b → TableStep view t' b t'' c → TableStep view t a t'' c
  table_step_then {t} {t'} {t''} first then = record {
    header = then.header ∙ first.header;
    list = then.list ∙ first.list;
    named = named_then t t' t'' first.named then.named;
    marks = kept_marks_then first.marks then.marks;
    header_cluster = spares_then first.header_cluster then.header_cluster;
  }

  pub table_step_as : {t t' t'' : EntryTableView} {a b c : ImageFile S} → t'' ≡ t' → c ≡ b → TableStep view t a t' b → TableStep view t a t'' c
  table_step_as {t} {t'} {t''} {a} {b} {c} table file step = subst (λ x. TableStep view t a x c) (sym table) (subst (TableStep view t a t') (sym file) step)

  -- a call of the caches, or of them alone
  pub table_step_cached : {t : EntryTableView} {f : ImageFile S} {storage : ImageStorage S} {caches : MetadataCaches S} → KeepMarksAndTables view f.storage f.caches storage caches → CachesSpareHeader view f.storage f.caches storage caches
      → TableStep view t f t (record f { storage = storage; caches = caches })
  table_step_cached {t} {f} {storage} {caches} marks spare = record { header = refl; list = refl; named = entries_none _ t; marks = marks; header_cluster = spares_cached t f storage caches spare }

  pub table_step_tables : {t : EntryTableView} {f : ImageFile S} {caches : MetadataCaches S} → KeepMarksAndTables view f.storage f.caches f.storage caches → KeepBehindHeader f.caches caches → TableStep view t f t (record f { caches = caches })
  table_step_tables {t} {f} {caches} marks keep = record { header = refl; list = refl; named = entries_none _ t; marks = marks; header_cluster = spares_tables t f caches keep }

  pub table_step_dropped : {t : EntryTableView} {a b : ImageFile S} → b ≡ record a { caches = b.caches } → HeldStep a.caches b.caches → b.caches.l2 ≡ a.caches.l2 → TableStep view t a t b
  table_step_dropped {t} {a} {b} same held tables = table_step_as refl same (table_step_tables (marks_of_caches held.marks held.order (held_same a.caches b.caches tables)) held.header_cluster)

  -- ---- of a part of a call, which leaves the reftable
  pub part_none : {bits : ℕ} {f : ImageFile S} → PartStep view bits f f
  part_none {bits} {f} = record { header = refl; list = refl; marks = kept_marks_none; header_cluster = header_cluster_none bits (view_in view f); behind = λ n are. are }

  pub table_step_part : {t : EntryTableView} {bits : ℕ} {a b : ImageFile S} → bits ≡ a.header.fields.cluster_bits → PartStep view bits a b → TableStep view t a t b
  table_step_part {t} {bits} {a} {b} is step = record {
    header = step.header;
    list = step.list;
    named = entries_none _ t;
    marks = step.marks;
    header_cluster = spares_parts t t a b (ap (λ h. h.fields.cluster_bits) step.header) refl refl (λ has. has) step.behind (λ n stands. subst (λ m. KeepsHeaderCluster m (view_in view a) (view_in view b)) (is ∙ stands.header) step.header_cluster);
  }

  -- so it is where the reftable may give way
  pub step_on : {t t' : EntryTableView} {a b : ImageFile S} → TableStep view t a t' b → FileStep view t a t' b
  step_on {t} {t'} {a} {b} step = record {
    header = header_same a.header b.header step.header;
    list = lists_same a.free_list b.free_list step.list;
    former = former_same t t' a.free_list b.free_list step.named step.list;
    marks = step.marks;
    header_cluster = spares_less step.header_cluster;
  }

  pub step_none : {t : EntryTableView} {f : ImageFile S} → FileStep view t f t f
  step_none = step_on table_step_none

  pub step_then : {t t' t'' : EntryTableView} {a b c : ImageFile S} → FileStep view t a t' b → FileStep view t' b t'' c → FileStep view t a t'' c
  step_then {t} {t'} {t''} {a} {b} {c} first then = record {
    header = header_then a.header b.header c.header first.header then.header;
    list = lists_then a.free_list b.free_list c.free_list first.list then.list;
    former = former_then t t' t'' a.free_list b.free_list c.free_list first.former then.former;
    marks = kept_marks_then first.marks then.marks;
    header_cluster = spares_then first.header_cluster then.header_cluster;
  }

  pub step_as : {t t' t'' : EntryTableView} {a b c : ImageFile S} → t'' ≡ t' → c ≡ b → FileStep view t a t' b → FileStep view t a t'' c
  step_as {t} {t'} {t''} {a} {b} {c} table file step = subst (λ x. FileStep view t a x c) (sym table) (subst (FileStep view t a t') (sym file) step)

  -- ---- where the order of writes turns
  pub in_turn : {a b : ImageFile S} → KeepsMarks view a b → KeepsMarksInTurn view a b
  in_turn marks = record { pins = marks.pins; notes = marks.notes; tables = marks.tables }

  pub in_turn_then : {a b c : ImageFile S} → KeepsMarksInTurn view a b → KeepsMarksInTurn view b c → KeepsMarksInTurn view a c
  in_turn_then {a} {b} {c} first then = record { pins = marks_then a.caches b.caches c.caches first.pins then.pins; notes = kept_then a.storage b.storage c.storage first.notes then.notes; tables = λ k. then.tables k ∙ first.tables k }

  -- the caches turned, and then clusters are taken
  pub data_cached : {t : EntryTableView} {f : ImageFile S} {storage : ImageStorage S} {caches : MetadataCaches S} → KeepMarksInTurn view f.storage f.caches storage caches → CachesSpareHeader view f.storage f.caches storage caches
      → DataStep view t f t (record f { storage = storage; caches = caches })
  data_cached {t} {f} {storage} {caches} marks spare = record {
    header = header_same f.header f.header refl;
    list = lists_none f.free_list;
    former = former_none t f.free_list;
    marks = record { pins = marks.pins; notes = marks.notes; tables = marks.tables };
    header_cluster = spares_less (spares_cached t f storage caches spare);
  }

  pub data_then : {t t' t'' : EntryTableView} {a b c : ImageFile S} → DataStep view t a t' b → FileStep view t' b t'' c → DataStep view t a t'' c
  data_then {t} {t'} {t''} {a} {b} {c} first then = record {
    header = header_then a.header b.header c.header first.header then.header;
    list = lists_then a.free_list b.free_list c.free_list first.list then.list;
    former = former_then t t' t'' a.free_list b.free_list c.free_list first.former then.former;
    marks = in_turn_then first.marks (in_turn then.marks);
    header_cluster = spares_then first.header_cluster then.header_cluster;
  }

  -- ---- where nothing is said of the list
  pub free_step_of : {t t' : EntryTableView} {a b : ImageFile S} → t' ≡ t → TableStep view t a t' b → FreeStep view t a t' b
  free_step_of same step = record { header = step.header; reftable = same; marks = step.marks; header_cluster = step.header_cluster }

  pub free_step_none : {t : EntryTableView} {f : ImageFile S} → FreeStep view t f t f
  free_step_none = free_step_of refl table_step_none

  pub free_step_then : {t t' t'' : EntryTableView} {a b c : ImageFile S} → FreeStep view t a t' b → FreeStep view t' b t'' c → FreeStep view t a t'' c
  free_step_then first then = record { header = then.header ∙ first.header; reftable = then.reftable ∙ first.reftable; marks = kept_marks_then first.marks then.marks; header_cluster = spares_then first.header_cluster then.header_cluster }

  pub free_step_listed : {t t' : EntryTableView} {a b : ImageFile S} (list : List ClustersToFreeEntry) → FreeStep view t a t' b → FreeStep view t a t' (record b { free_list = list })
  free_step_listed list step = record { header = step.header; reftable = step.reftable; marks = step.marks; header_cluster = spares_listed list step.header_cluster }

  pub free_in_turn : {t t' : EntryTableView} {a b : ImageFile S} → FreeStep view t a t' b → FreeStepInTurn view t a t' b
  free_in_turn step = record { header = step.header; reftable = step.reftable; marks = in_turn step.marks; header_cluster = step.header_cluster }

  pub turn_cached : {t : EntryTableView} {f : ImageFile S} {storage : ImageStorage S} {caches : MetadataCaches S} → KeepMarksInTurn view f.storage f.caches storage caches → CachesSpareHeader view f.storage f.caches storage caches
      → FreeStepInTurn view t f t (record f { storage = storage; caches = caches })
  turn_cached {t} {f} {storage} {caches} marks spare = record { header = refl; reftable = refl; marks = record { pins = marks.pins; notes = marks.notes; tables = marks.tables }; header_cluster = spares_cached t f storage caches spare }

  pub turn_then : {t t' t'' : EntryTableView} {a b c : ImageFile S} → FreeStepInTurn view t a t' b → FreeStepInTurn view t' b t'' c → FreeStepInTurn view t a t'' c
  turn_then first then = record { header = then.header ∙ first.header; reftable = then.reftable ∙ first.reftable; marks = in_turn_then first.marks then.marks; header_cluster = spares_then first.header_cluster then.header_cluster }

  -- ---- where the header's pointer may change
  pub pointer_step_on : {t t' : EntryTableView} {a b : ImageFile S} → TableStep view t a t' b → PointerStep view t a t' b
  pointer_step_on {t} {t'} {a} {b} step = record { header = header_same a.header b.header step.header; list = step.list; marks = step.marks; header_cluster = λ _. spares_less step.header_cluster }

  pub pointer_step_then : {t t' t'' : EntryTableView} {a b c : ImageFile S} → PointerStep view t a t' b → PointerStep view t' b t'' c → PointerStep view t a t'' c
  pointer_step_then {t} {t'} {t''} {a} {b} {c} first then = record {
    header = header_then a.header b.header c.header first.header then.header;
    list = then.list ∙ first.list;
    marks = kept_marks_then first.marks then.marks;
    header_cluster = λ _. spares_then (first.header_cluster tt) (then.header_cluster tt);
  }

  -- so it is where the table is one to be named
  pub pointer_step_to : {IsToName : Type 0} {t t' : EntryTableView} {a b : ImageFile S} → IsToName → PointerStepTo view IsToName t a t' b → PointerStep view t a t' b
  pointer_step_to is step = record { header = step.header; list = step.list; marks = step.marks; header_cluster = λ _. step.header_cluster is }

  -- the reftable stays, or gives way to a longer one, whose former clusters are listed
  pub growth_step_on : {t t' : EntryTableView} {a b : ImageFile S} (r : Result (Unit {0}) ImageError) → PointerStep view t a t' b → ReplacesReftable t t' a.free_list b.free_list r → GrowthStep view t a t' b r
  growth_step_on {t} {t'} {a} {b} r step former = record { header = step.header; list = lists_same a.free_list b.free_list step.list; former = former; marks = step.marks; header_cluster = step.header_cluster tt }

  pub growth_step_none : {t : EntryTableView} {f : ImageFile S} (r : Result (Unit {0}) ImageError) (e : ImageError) → IsErr r × IsErrAnd r (λ x. x ≡ e) → GrowthStep view t f t f r
  growth_step_none {t} {f} r e on = growth_step_on r (pointer_step_on table_step_none) (handed_on (ReplacesReftable t t f.free_list f.free_list) r e on (refl, refl))

  -- with what the reftable says of it, it is one of a file
  pub step_grown : {t t' : EntryTableView} {a b : ImageFile S} {r : Result (Unit {0}) ImageError} → GrowthStep view t a t' b r → OldReftablesQueued t t' a.free_list b.free_list → FileStep view t a t' b
  step_grown step former = record { header = step.header; list = step.list; former = former; marks = step.marks; header_cluster = step.header_cluster }

-- ---- why a call is refused
-- it isn't
pub fails_ok : {Refuses : ImageError → Type 0} {before now : ℕ} → now ≡ before → FailsFor before now None Refuses
fails_ok same = record { no_fewer = omega (arith, same); rose = λ bad. absurd cc; told = same; cause = tt }

-- it is, by a refusal of its own
pub fails_by : {Refuses : ImageError → Type 0} {before now : ℕ} (e : ImageError) → e ≢ I.Storage → now ≡ before → Refuses e → FailsFor before now (Some e) Refuses
fails_by e other same cause = record { no_fewer = omega (arith, same); rose = λ is. absurd (other (let e : e ≡ I.Storage = cc in e)); told = λ _. same; cause = cause }

pub limit_other : I.Limit ≢ I.Storage
limit_other bad = absurd cc

pub memory_other : I.Memory ≢ I.Storage
memory_other bad = absurd cc

pub other_as : {x e : ImageError} → e ≡ x → x ≢ I.Storage → e ≢ I.Storage
other_as same other bad = other (sym same ∙ bad)

-- what `?` hands on
pub fails_on : {T : Type 0} {Refuses : ImageError → Type 0} {before now : ℕ} (r : Result T ImageError) (e : ImageError) → IsErr r × IsErrAnd r (λ x. x ≡ e) → FailsFor before now (Some e) Refuses → FailsFor before now (err_of r) Refuses
fails_on {T} {Refuses} {before} {now} r e on fails = handed_on (λ (x : Result T ImageError). FailsFor before now (err_of x) Refuses) r e on fails

-- one call after others that counted no fault
pub fails_since : {Refuses : ImageError → Type 0} {before mid now : ℕ} {e : Option ImageError} → mid ≡ before → FailsFor mid now e Refuses → FailsFor before now e Refuses
fails_since {Refuses} {before} {mid} {now} {e} same then = subst (λ n. FailsFor n now e Refuses) same then

-- by a cause that implies another
pub fails_as : {P Q : ImageError → Type 0} {before now : ℕ} {r : Option ImageError} → ((e : ImageError) → P e → Q e) → FailsFor before now r P → FailsFor before now r Q
fails_as {P} {Q} {before} {now} {r} more fails = by r fails where
  by : (r : Option ImageError) → FailsFor before now r P → FailsFor before now r Q
  by None fails = record { no_fewer = fails.no_fewer; rose = fails.rose; told = fails.told; cause = tt }
  by (Some e) fails = record { no_fewer = fails.no_fewer; rose = fails.rose; told = fails.told; cause = more e fails.cause }

-- followed by one that counted none
pub fails_still : {Refuses : ImageError → Type 0} {before mid now : ℕ} {e : Option ImageError} → FailsFor before mid e Refuses → now ≡ mid → FailsFor before now e Refuses
fails_still {Refuses} {before} {mid} {now} {e} fails same = subst (λ n. FailsFor before n e Refuses) (sym same) fails

-- over the same reftable and header
pub fails_moved : {h h' : HeaderFields} {r r' : EntryTableView} {before now : ℕ} {e : Option ImageError} → h' ≡ h → r' ≡ r → FailsFor before now e (IsOfTablesIf (HasUnaligned h r)) → FailsFor before now e (IsOfTablesIf (HasUnaligned h' r'))
fails_moved {h} {h'} {r} {r'} {before} {now} {e} header reftable fails = subst (λ x. FailsFor before now e (IsOfTablesIf (HasUnaligned x r'))) (sym header) (subst (λ x. FailsFor before now e (IsOfTablesIf (HasUnaligned h x))) (sym reftable) fails)

-- among the refusals of tables
fault_of_tables : (unaligned : Type 0) (e : ImageError) → IsFault e → IsOfTablesIf unaligned e
fault_of_tables unaligned e (inl storage) = subst (IsOfTablesIf unaligned) (sym storage) tt
fault_of_tables unaligned e (inr memory) = subst (IsOfTablesIf unaligned) (sym memory) tt

pub tables_more : {P Q : Type 0} (more : P → Q) (e : ImageError) → IsOfTablesIf P e → IsOfTablesIf Q e
tables_more more I.UnalignedTable is = more is
tables_more more I.InUse is = tt
tables_more more I.Limit is = tt
tables_more more I.Memory is = tt
tables_more more I.Storage is = tt
tables_more more e is = absurd is

pub fails_by_fault : {unaligned : Type 0} {before now : ℕ} {e : Option ImageError} → FailsFor before now e IsFault → FailsFor before now e (IsOfTablesIf unaligned)
fails_by_fault {unaligned} fails = fails_as (fault_of_tables unaligned) fails

-- never by 4
pub never_unaligned : (unaligned : Type 0) (e : ImageError) → IsOfTablesIf ⊥ e → IsOfTablesIf unaligned e
never_unaligned unaligned e is = tables_more {P = ⊥} {Q = unaligned} (λ bad. absurd bad) e is

pub fails_aligned : {unaligned : Type 0} {before now : ℕ} {e : Option ImageError} → FailsFor before now e (IsOfTablesIf ⊥) → FailsFor before now e (IsOfTablesIf unaligned)
fails_aligned {unaligned} fails = fails_as (never_unaligned unaligned) fails

-- to and from the clauses `storage_faults` and `cause`
pub fails_of : {T : Type 0} {Refuses : ImageError → Type 0} {before now : ℕ} (r : Result T ImageError) → FaultsReported before now r → IfErr r Refuses → FailsFor before now (err_of r) Refuses
fails_of (Ok x) told cause = fails_ok told.told
fails_of {T} (Err e) told cause = record { no_fewer = told.no_fewer; rose = λ is. told.rose (let same : e ≡ I.Storage = cc in ap Err same); told = told.told; cause = cause }

pub told_of : {T : Type 0} {Refuses : ImageError → Type 0} {before now : ℕ} (r : Result T ImageError) → FailsFor before now (err_of r) Refuses → FaultsReported before now r
told_of (Ok x) fails = record { no_fewer = fails.no_fewer; rose = λ bad. absurd cc; told = fails.told }
told_of (Err e) fails = record { no_fewer = fails.no_fewer; rose = λ is. fails.rose (let same : e ≡ I.Storage = cc in ap Some same); told = fails.told }

-- ---- refusals of the layers below
-- what the storage is told before a write leaves the number of its faults
pub same_faults : {S : Type 0} (view : S → StorageView) {before now : S} → now ≡ before → (view now).faults ≡ (view before).faults
same_faults view same = ap (λ s. (view s).faults) same

-- what the storage answered, which `?` hands on
pub fails_storage : {T A unaligned : Type 0} {before now : ℕ} (r : Result T ImageError) (e : StorageError) → IsErr r × IsErrAnd r (λ x. x ≡ of_storage e) → HasCause {T = A} before now (Err e) → FailsFor before now (err_of r) (IsOfTablesIf unaligned)
fails_storage {T} {A} {unaligned} {before} {now} r e on cause = fails_on r (of_storage e) on (answered e cause) where
  answered : (e : StorageError) → HasCause {T = A} before now (Err e) → FailsFor before now (Some (of_storage e)) (IsOfTablesIf unaligned)
  answered S.Fault cause = record { no_fewer = cause.no_fewer; rose = λ is. cause.fault refl; told = λ other. absurd (other refl); cause = tt }
  answered S.Memory cause = fails_by I.Memory memory_other (cause.told (λ bad. cc)) tt

-- what the load of the reftable answered
pub fails_loaded : {T : Type 0} (IsTooLong IsUnread A : Type 0) {before now : ℕ} (r : Result T ImageError) (e : MetadataError) → IsErr r × IsErrAnd r (λ x. x ≡ of_metadata e) → IsReasonNotToLoad IsTooLong IsUnread e → HasCause before now (storage_result {T = A} (Err e))
    → FailsFor before now (err_of r) IsOfReftableLoad
fails_loaded {T} IsTooLong IsUnread A {before} {now} r e on why cause = fails_on r (of_metadata e) on (answered e why cause) where
  answered : (e : MetadataError) → IsReasonNotToLoad IsTooLong IsUnread e → HasCause before now (storage_result {T = A} (Err e)) → FailsFor before now (Some (of_metadata e)) IsOfReftableLoad
  answered (M.Storage S.Fault) why cause = record { no_fewer = cause.no_fewer; rose = λ is. cause.fault refl; told = λ other. absurd (other refl); cause = inr tt }
  answered (M.Storage S.Memory) why cause = fails_by I.Memory memory_other (cause.told (λ bad. cc)) (inr tt)
  answered M.Memory why cause = fails_by I.Memory memory_other (cause.told (λ bad. cc)) (inr tt)
  answered M.Version why cause = absurd why
  answered M.Unaligned why cause = absurd why
  answered M.Limit why cause = fails_by (of_metadata M.Limit) (λ bad. absurd cc) cause.told (inr tt)
  answered M.Format why cause = fails_by (of_metadata M.Format) (λ bad. absurd cc) cause.told (inl refl)
