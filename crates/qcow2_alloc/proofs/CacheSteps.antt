-- How steps of the caches compose, and how one cache call is such a step.
use Rattle.std.proofs.Common.{◌≡◌, ◌≢◌, ◌⊎◌, inr, ℕ, Bool, eqb, List, Option, Some, Result, Ok, Err, IsErr, IsErrAnd, OnOk, OnErr, refl, sym, ◌∙◌, subst, IsFalse}
use Rattle.qcow2_alloc.proofs.Common.{keys_of, IsDistinct, StorageView, MetadataError, byte_at, L2TableView, RefBlockView, HeaderFields, Pending, MayTurn, AreClean, BlocksMayGo, TablesMayGo, CacheError, L2CacheBackend, RefBlockCacheBackend, MetadataCaches, ImageError, ImageStorage, Cache, KeepsPins, with_entries, Unit₀, Flushes, TablesGo, BlocksGo, CacheStep, TurnStep, LoadStep, PutStep, HeldStep, KeepsSoundly, PutsSoundly, KeepsL2Written, of_cache, IsFaultOr, IsOfTablesIf, storage_of, KeepsNotes, order, order_of, l2_tables, refblocks, known_of, CacheInvariant, err_of, FailsFor, l2_steps, rb_steps}
use Rattle.qcow2_laws.specs.Clusters as Order
use Rattle.qcow2_metadata.specs.Tables.{CachedTable}
use Rattle.qcow2_alloc.specs.CachePins.{SameChanges}
use Rattle.qcow2_alloc.specs.CacheSteps.{FlushesTables, SwitchesOrder}
use Rattle.qcow2_alloc.proofs.KeptTables.Quiet.{quiet_none}
use Rattle.qcow2_alloc.specs.declared.cache.Direction.{Direction}
use Rattle.qcow2_alloc.specs.declared.error.ImageError.TheVariants as I
use Rattle.qcow2_alloc.proofs.CachePins.{marks_none, marks_tables, marks_blocks}
use Rattle.qcow2_alloc.proofs.Faults.{CacheReports, cache_told}
use Rattle.qcow2_alloc.proofs.KeptMarks.{kept_marks_none, kept_marks_then, load_marks_then, marks_alone}
use Rattle.qcow2_alloc.proofs.KeptTables.AllWritten.{written_none, written_then, written_turned, tables_flushed_written, blocks_flushed_written}
use Rattle.qcow2_alloc.proofs.KeptTables.ApartCalls.{apart_none, apart_then, apart_turned, tables_flushed_apart, blocks_flushed_apart}
use Rattle.qcow2_alloc.proofs.KeptTables.BehindHeader.{caches_none, caches_then, turned_behind, tables_flushed_behind, blocks_flushed_behind}
use Rattle.qcow2_alloc.proofs.KeptTables.Causes.{given_err, fits_less, fault_or_of_tables, in_use_of_tables}
use Rattle.qcow2_alloc.proofs.KeptTables.Clean.{blocks_go, tables_go}
use Rattle.qcow2_alloc.proofs.KeptTables.Flushing.{tables_flushed, blocks_flushed}
use Rattle.qcow2_alloc.proofs.KeptTables.Held.{tables_held}
use Rattle.qcow2_alloc.proofs.KeptTables.InOrder.{order_none, order_then, tables_in_order, blocks_in_order}
use Rattle.qcow2_alloc.proofs.KeptTables.Switching.{keep_none, keep_then, keep_turned}
use Rattle.qcow2_alloc.proofs.Outcomes.{on_err, on_no_ok}
use Rattle.qcow2_alloc.proofs.Steps.{fails_of, fails_as}

-- a call that doesn't reach the storage, and does nothing
pub held_none : {S : Type 0} {c : MetadataCaches S} → HeldStep c c
held_none {S} {c} = record { marks = marks_none c; order = refl; header_cluster = λ bits are. are }

module _ {S : Type 0} {view : S → StorageView} where
  -- ---- no call at all, and one call after another
  pub cache_step_none : {s : ImageStorage S} {c : MetadataCaches S} → CacheStep view s c s c
  cache_step_none {s} {c} = record { marks = kept_marks_none; header_cluster = caches_none; all_written = written_none view s c }

  pub cache_step_then : {r s t : ImageStorage S} {a b c : MetadataCaches S} → CacheStep view r a s b → CacheStep view s b t c → CacheStep view r a t c
  cache_step_then first then =
      record { marks = kept_marks_then first.marks then.marks; header_cluster = caches_then first.header_cluster then.header_cluster; all_written = written_then view first.all_written then.all_written }

  -- a flush, and then the order of writes turns
  pub step_turned : {r s : ImageStorage S} {a b : MetadataCaches S} (d : Direction) → CacheStep view r a s b → TurnStep view r a s (record b { direction = d })
  step_turned d step = record {
    marks = record { pins = record { pins = step.marks.pins.pins; room = λ r. let now = step.marks.pins.room r in record { tables = now.tables; some = now.some; free = now.free }; changes = step.marks.pins.changes }; notes = step.marks.notes; tables = step.marks.tables };
    header_cluster = turned_behind d step.header_cluster;
    all_written = written_turned d step.all_written;
  }

  pub step_in_turn : {r s : ImageStorage S} {a b : MetadataCaches S} → CacheStep view r a s b → TurnStep view r a s b
  step_in_turn step = record { marks = record { pins = step.marks.pins; notes = step.marks.notes; tables = step.marks.tables }; header_cluster = step.header_cluster; all_written = step.all_written }

  -- loads
  pub load_step_on : {r s : ImageStorage S} {a b : MetadataCaches S} {cluster : ℕ} → CacheStep view r a s b → LoadStep view r a s b cluster
  load_step_on step = record { marks = marks_alone step.marks; header_cluster = λ _. step.header_cluster; all_written = step.all_written }

  pub load_step_then : {r s t : ImageStorage S} {a b c : MetadataCaches S} {cluster : ℕ} → LoadStep view r a s b cluster → LoadStep view s b t c cluster → LoadStep view r a t c cluster
  load_step_then first then = record {
    marks = load_marks_then first.marks then.marks;
    header_cluster = λ above. caches_then (first.header_cluster above) (then.header_cluster above);
    all_written = written_then view first.all_written then.all_written;
  }

  -- what is put in for a cluster
  pub put_step_on : {r s : ImageStorage S} {a b : MetadataCaches S} {cluster : ℕ} → CacheStep view r a s b → PutStep view r a s b (Some cluster)
  put_step_on step = record { marks = marks_alone step.marks; header_cluster = λ _. step.header_cluster }

  pub put_step_then : {r s t : ImageStorage S} {a b c : MetadataCaches S} {cluster : ℕ} → PutStep view r a s b (Some cluster) → PutStep view s b t c (Some cluster) → PutStep view r a t c (Some cluster)
  put_step_then first then = record { marks = load_marks_then first.marks then.marks; header_cluster = λ above. caches_then (first.header_cluster above) (then.header_cluster above) }

  pub put_step_as : {r s : ImageStorage S} {a b : MetadataCaches S} {place : Option ℕ} {cluster : ℕ} → place ≡ Some cluster → PutStep view r a s b (Some cluster) → PutStep view r a s b place
  put_step_as {r} {s} {a} {b} is step = subst (PutStep view r a s b) (sym is) step

  -- ---- on sound caches
  pub soundly_none : {s : ImageStorage S} {c : MetadataCaches S} → KeepsSoundly view s c s c
  soundly_none {s} {c} = record { keeps = keep_none view s c; apart = apart_none; ordered = order_none view s c }

  pub soundly_then : {r s t : ImageStorage S} {a b c : MetadataCaches S} → order_of b ≡ order_of a → KeepsSoundly view r a s b → KeepsSoundly view s b t c → KeepsSoundly view r a t c
  soundly_then {r} {s} {t} {a} {b} {c} same first then = record {
    keeps = keep_then view r s t a b c first.keeps then.keeps;
    apart = apart_then same first.apart then.apart;
    ordered = order_then view r s t a b first.keeps first.ordered same then.ordered;
  }

  -- the order of writes turns then
  pub soundly_turned : {r s : ImageStorage S} {a b : MetadataCaches S} (to : Direction) → KeepsSoundly view r a s b
      → ((h : HeaderFields) (p : Pending) → CacheInvariant h p b (byte_at (view (storage_of s)).contents) → MayTurn (order_of b) (order to) h (byte_at (view (storage_of s)).contents) (known_of h b (byte_at (view (storage_of s)).contents)))
      → KeepsSoundly view r a s (record b { direction = to })
  soundly_turned {r} {s} {a} {b} to kept may = record { keeps = keep_turned view r s a b to kept.keeps may; apart = apart_turned to kept.apart; ordered = kept.ordered }

  -- ---- what the storage was told before, whether a failure is watched for
  pub watched_step : {s t : ImageStorage S} {a b : MetadataCaches S} (is_met : Bool) → CacheStep view (record s { met_fault = is_met }) a t b → CacheStep view s a t b
  watched_step is_met step = record {
    marks = record { pins = step.marks.pins; order = step.marks.order; notes = record { honest = step.marks.notes.honest; changes = step.marks.notes.changes; contents = step.marks.notes.contents }; tables = step.marks.tables };
    header_cluster = record { bytes = step.header_cluster.bytes; behind = step.header_cluster.behind };
    all_written = record { tables = step.all_written.tables; quiet = step.all_written.quiet };
  }

  pub watched_soundly : {s t : ImageStorage S} {a b : MetadataCaches S} (is_met : Bool) → KeepsSoundly view (record s { met_fault = is_met }) a t b → KeepsSoundly view s a t b
  watched_soundly is_met kept = record { keeps = kept.keeps; apart = record { stays = kept.apart.stays }; ordered = kept.ordered }

-- ---- the orders of writes differ
pub differ : {P : Type 0} {d a b : Order.Direction} → d ≡ a → d ≡ b → a ≢ b → P
differ is was other = absurd (other (sym is ∙ was))

pub neither_l2 : Order.Neither ≢ Order.L2DependsOnRb
neither_l2 bad = absurd cc

pub neither_rb : Order.Neither ≢ Order.RbDependsOnL2
neither_rb bad = absurd cc

pub l2_not_rb : Order.L2DependsOnRb ≢ Order.RbDependsOnL2
l2_not_rb bad = absurd cc

pub rb_not_l2 : Order.RbDependsOnL2 ≢ Order.L2DependsOnRb
rb_not_l2 bad = absurd cc

-- ---- the order of writes turns to one, from the other one
module _ {S A : Type 0} {view : S → StorageView} {to from : Order.Direction} {tables : MetadataCaches S → List CachedTable} {others : MetadataCaches S → A} {MayGo : MetadataCaches S → Type 0} {s : ImageStorage S} {a b : MetadataCaches S} where
  -- No table had to be written for it.
  pub switched_at_once : order_of b ≡ to → (order_of a ≡ from → ⊥) → others b ≡ others a → SameChanges a b → SwitchesOrder view to from tables others MayGo s a s b (Ok tt)
  switched_at_once is other rest changes = record { order = is; refused = tt; turned = tt; written = λ was. absurd (other was); others_stay = rest; changes = changes; storage_stays = λ _. refl; quiet = λ _ honest. quiet_none _ honest }

  -- The tables of one kind were written for it, or that was refused.
  pub switched_after : {t : ImageStorage S} {c : MetadataCaches S} {written result : Result (Unit {0}) ImageError} → FlushesTables view tables others s a t b written → order_of a ≡ from → (MayGo a → AreClean (tables a)) → others c ≡ others b → SameChanges b c
      → OnOk result (order_of c ≡ to) → OnErr result (order_of c ≡ order_of a) → OnOk result (AreClean (tables c)) → SwitchesOrder view to from tables others MayGo s a t c result
  switched_after {result} flushes was goes rest changes is refused all = record {
    order = is;
    refused = refused;
    turned = on_err _ result was;
    written = λ _. all;
    others_stay = rest ∙ flushes.others_stay;
    changes = (changes.0 ∙ flushes.changes.0, changes.1 ∙ flushes.changes.1);
    storage_stays = λ other. absurd (other was);
    quiet = λ may. flushes.quiet (goes may);
  }

-- ---- why a call of a cache is refused, which `?` hands on
pub fails_cache : {T A : Type 0} {Refuses : ImageError → Type 0} {before now : ℕ} (answer : Result A (CacheError ℕ MetadataError)) (e : CacheError ℕ MetadataError) (r : Result T ImageError) → CacheReports before now answer → answer ≡ Err e
    → IsErr r × IsErrAnd r (λ x. x ≡ of_cache e) → Refuses (of_cache e) → FailsFor before now (err_of r) Refuses
fails_cache {Refuses = Refuses} {before = before} {now = now} answer e r reports is on cause = fails_of r (cache_told before now answer e r reports is on) (given_err r (of_cache e) Refuses on cause)

-- with less in the way, and among the refusals of tables
pub fails_less : {P Q : Type 0} {before now : ℕ} {r : Option ImageError} → (Q → P) → FailsFor before now r (IsFaultOr (¬ P)) → FailsFor before now r (IsFaultOr (¬ Q))
fails_less {P} {Q} less fails = fails_as (λ e. fits_less P Q e less) fails

pub fails_putting : {Full P Q : Type 0} {before now : ℕ} {r : Option ImageError} → (Q → P) → FailsFor before now r (IsFaultOr (¬ P)) → FailsFor before now r (λ e. ((e ≡ I.InUse) × Full) ⊎ IsFaultOr (¬ Q) e)
fails_putting {Full} {P} {Q} less fails = fails_as (λ e is. inr (fits_less P Q e less is)) fails

pub fails_of_tables : {P unaligned : Type 0} {before now : ℕ} {r : Option ImageError} → FailsFor before now r (IsFaultOr P) → FailsFor before now r (IsOfTablesIf unaligned)
fails_of_tables {P} {unaligned} fails = fails_as (fault_or_of_tables unaligned P) fails

pub loads_of_tables : {Full P unaligned : Type 0} {before now : ℕ} {r : Option ImageError} → FailsFor before now r (λ e. ((e ≡ I.InUse) × Full) ⊎ IsFaultOr P e) → FailsFor before now r (IsOfTablesIf unaligned)
loads_of_tables {Full} {P} {unaligned} fails = fails_as (in_use_of_tables unaligned Full P) fails

-- ---- a call of one cache
abbrev seen_by : {S : Type 0} → (S → StorageView) → ImageStorage S → StorageView
seen_by view s = view (storage_of s)

module _ {S : Type 0} (view : S → StorageView) (old new : ImageStorage S) (caches : MetadataCaches S) where
  -- L2 tables are flushed
  module _ (l2 : Cache (L2CacheBackend S) ℕ L2TableView) (others : l2 ≡ with_entries caches.l2 l2.entries) where
    module _ (answer : Result Unit₀ (CacheError ℕ MetadataError)) (flushes : Flushes (l2_steps (seen_by view) caches.l2.backend.header.fields) old caches.l2.entries answer new l2.entries) where
      pub l2_flushed_step : KeepsPins eqb caches.l2.entries l2.entries → KeepsNotes view old new → CacheStep view old caches new (record caches { l2 = l2 })
      l2_flushed_step pins notes = record {
        marks = record { pins = marks_tables caches l2 others pins; order = refl; notes = notes; tables = tables_held view old new caches l2 answer flushes };
        header_cluster = tables_flushed_behind view old new caches l2 answer others flushes;
        all_written = tables_flushed_written view old new caches l2 answer flushes;
      }

      pub l2_flushed_soundly : IsDistinct eqb (keys_of caches.l2.entries) → TablesGo caches → KeepsSoundly view old caches new (record caches { l2 = l2 })
      l2_flushed_soundly distinct may = record {
        keeps = tables_flushed view old new caches l2 others answer flushes may;
        apart = tables_flushed_apart view old new caches l2 others distinct answer flushes may;
        ordered = tables_in_order view old new caches l2 answer flushes may;
      }

  -- refblocks are flushed
  module _ (rb : Cache (RefBlockCacheBackend S) ℕ RefBlockView) (others : rb ≡ with_entries caches.rb rb.entries) where
    module _ (answer : Result Unit₀ (CacheError ℕ MetadataError)) (flushes : Flushes (rb_steps (seen_by view) caches.rb.backend.header.fields) old caches.rb.entries answer new rb.entries) where
      pub rb_flushed_step : KeepsPins eqb caches.rb.entries rb.entries → KeepsNotes view old new → CacheStep view old caches new (record caches { rb = rb })
      rb_flushed_step pins notes = record {
        marks = record { pins = marks_blocks caches rb others pins; order = refl; notes = notes; tables = λ k. refl };
        header_cluster = blocks_flushed_behind view old new caches rb answer others flushes;
        all_written = blocks_flushed_written view old new caches rb answer flushes;
      }

      pub rb_flushed_soundly : IsDistinct eqb (keys_of caches.rb.entries) → BlocksGo caches → KeepsSoundly view old caches new (record caches { rb = rb })
      rb_flushed_soundly distinct may = record {
        keeps = blocks_flushed view old new caches rb others answer flushes may;
        apart = blocks_flushed_apart view old new caches rb others distinct answer flushes may;
        ordered = blocks_in_order view old new caches rb answer flushes may;
      }

-- ---- putting in
-- What is refused changes nothing known.
pub puts_refused : {S : Type 0} {view : S → StorageView} {old new : ImageStorage S} {caches caches' : MetadataCaches S} {IsFit : HeaderFields → Type 0} {place : Option ℕ} {bytes : List ℕ} {is_modified : Bool} {Overlays OverlaysApart : Type 0}
    (r : Result (Unit {0}) ImageError) (e : ImageError) → IsErr r × IsErrAnd r (λ x. x ≡ e) → KeepsSoundly view old caches new caches' → PutsSoundly view IsFit place bytes is_modified Overlays OverlaysApart old caches new caches' r
puts_refused r e on kept = record {
  keeps = λ h p honest sound fits clean holds. kept.keeps h p honest sound;
  laid = on_no_ok _ r e on;
  laid_apart = on_no_ok _ r e on;
  refused = on_err _ r kept.keeps;
  apart = on_err _ r kept.apart;
  ordered = kept.ordered;
}

-- where the order of writes stays, tables that are written may go still
pub keeps_written : {S : Type 0} {is_modified : Bool} {caches caches' : MetadataCaches S} → order_of caches' ≡ order_of caches → (AreClean (l2_tables caches) → IsFalse is_modified → AreClean (l2_tables caches'))
    → (AreClean (refblocks caches) → AreClean (refblocks caches')) → KeepsL2Written is_modified caches caches'
keeps_written {S} {is_modified} {caches} {caches'} same clean blocks = record {
  clean = clean;
  blocks = blocks;
  first = λ may unmodified. subst (λ (d : Order.Direction). BlocksMayGo d (l2_tables caches')) (sym same) (blocks_go (order_of caches) (l2_tables caches) (l2_tables caches') (λ all. clean all unmodified) may);
  may_go = λ may. subst (λ (d : Order.Direction). TablesMayGo d (refblocks caches')) (sym same) (tables_go (order_of caches) (refblocks caches) (refblocks caches') blocks may);
}
