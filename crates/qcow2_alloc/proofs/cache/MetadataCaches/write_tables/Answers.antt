use Rattle.qcow2_alloc.proofs.Common.{ℕ, false, Err, inl, refl, ◌∙◌, sym, ap, subst, of_cache, IsFaultOr, TablesFit, storage_of, met_fault_of, L2TableView, IsFreeOf, Cache, cached_tables, L2CacheBackend, l2_steps}
use Rattle.qcow2_alloc.proofs.Lemmas.{tables_written, tables_flush_refused, flush_free, tables_quiet, flush_refused, told_as, l2_flush_tells, watched_step, watched_soundly, l2_flushed_step, l2_flushed_soundly, fails_ok, fails_of}
use Rattle.qcow2_alloc.proofs.cache.MetadataCaches.write_tables.Goals as goal

pub returns-in-Err : goal.returns-in-Err
returns-in-Err g c = record {
  step = watched_step false (l2_flushed_step g.S.Storage.view (record c.args.storage.now { met_fault = false }) c.flush.new.store c.args.self.now c.flush.new.self c.flush.ensures.others c.flush.result (rw c.watch_faults.ensures at c.flush.ensures.flushed) c.flush.ensures.pins (rw c.watch_faults.ensures at c.flush.ensures.keeps).0);
  fails =
      fails_of {T = Unit {0}} (Err c.refusal_to_report.result) (flush_refused g.S.Storage.view (record c.args.storage.now { met_fault = false }) c.flush.new.store c.flush.result c.in-Err.refusal c.refusal_to_report.result refl (rw c.watch_faults.ensures at c.flush.ensures.keeps).1
      (l2_flush_tells g.S.Storage.view c.args.self.now.l2.backend.header.fields (record c.args.storage.now { met_fault = false }) c.flush.new.store c.args.self.now.l2.entries c.flush.new.self.entries c.flush.result (rw c.watch_faults.ensures at c.flush.ensures.flushed)) c.in-Err.is c.refusal_to_report.ensures.met (λ none. c.refusal_to_report.ensures.unmet none ∙ c.into.ensures))
      (told_as (IsFaultOr (¬ TablesFit c.args.self.now)) (met_fault_of c.flush.new.store) c.refusal_to_report.result (of_cache c.in-Err.refusal) c.refusal_to_report.ensures.met (λ none. c.refusal_to_report.ensures.unmet none ∙ c.into.ensures) (inl (inl refl))
      (tables_flush_refused g.S.Storage.view (record c.args.storage.now { met_fault = false }) c.flush.new.store c.args.self.now c.flush.new.self c.flush.result (rw c.watch_faults.ensures at c.flush.ensures.flushed) c.in-Err.refusal c.in-Err.is));
  sound = λ may. watched_soundly false (l2_flushed_soundly g.S.Storage.view (record c.args.storage.now { met_fault = false }) c.flush.new.store c.args.self.now c.flush.new.self c.flush.ensures.others c.flush.result (rw c.watch_faults.ensures at c.flush.ensures.flushed) c.flush.ensures.distinct may);
  flushes = record {
    direction = refl;
    others_stay = refl;
    changes = (refl, refl);
    written = tt;
    quiet = tables_quiet g.S.Storage.view (record c.args.storage.now { met_fault = false }) c.flush.new.store c.args.self.now c.flush.new.self c.flush.result (rw c.watch_faults.ensures at c.flush.ensures.flushed);
  };
  free = λ size cluster free.
      subst (λ (n : L2CacheBackend g.row.S.Denot). IsFreeOf size (cached_tables n.header.fields.cluster_bits (λ (t : L2TableView). t.bytes) (λ t. t.is_modified) c.flush.new.self.entries) cluster)
      (sym (ap (λ (l2 : Cache (L2CacheBackend g.row.S.Denot) ℕ L2TableView). l2.backend) c.flush.ensures.others))
      (λ o in_c. flush_free (l2_steps (λ s. g.S.Storage.view (storage_of s)) c.args.self.now.l2.backend.header.fields) c.args.self.now.l2.backend.header.fields.cluster_bits (λ (t : L2TableView). t.bytes) (λ t. t.is_modified)
      (λ s t k v w h. ap (λ (t : L2TableView). t.is_modified) h.clean) size o (record c.args.storage.now { met_fault = false }) c.flush.new.store c.args.self.now.l2.entries c.flush.new.self.entries c.flush.result (rw c.watch_faults.ensures at c.flush.ensures.flushed) (free o in_c));
}

pub returns : goal.returns
returns g c = record {
  step = watched_step false (l2_flushed_step g.S.Storage.view (record c.args.storage.now { met_fault = false }) c.flush.new.store c.args.self.now c.flush.new.self c.flush.ensures.others c.flush.result (rw c.watch_faults.ensures at c.flush.ensures.flushed) c.flush.ensures.pins (rw c.watch_faults.ensures at c.flush.ensures.keeps).0);
  fails = fails_ok ((l2_flush_tells g.S.Storage.view c.args.self.now.l2.backend.header.fields (record c.args.storage.now { met_fault = false }) c.flush.new.store c.args.self.now.l2.entries c.flush.new.self.entries c.flush.result (rw c.watch_faults.ensures at c.flush.ensures.flushed)).same _ c.in_default.is);
  sound = λ may. watched_soundly false (l2_flushed_soundly g.S.Storage.view (record c.args.storage.now { met_fault = false }) c.flush.new.store c.args.self.now c.flush.new.self c.flush.ensures.others c.flush.result (rw c.watch_faults.ensures at c.flush.ensures.flushed) c.flush.ensures.distinct may);
  flushes = record {
    direction = refl;
    others_stay = refl;
    changes = (refl, refl);
    written = tables_written g.S.Storage.view (record c.args.storage.now { met_fault = false }) c.flush.new.store c.args.self.now c.flush.new.self c.flush.ensures.others c.flush.result (rw c.watch_faults.ensures at c.flush.ensures.flushed) c.in_default.is;
    quiet = tables_quiet g.S.Storage.view (record c.args.storage.now { met_fault = false }) c.flush.new.store c.args.self.now c.flush.new.self c.flush.result (rw c.watch_faults.ensures at c.flush.ensures.flushed);
  };
  free = λ size cluster free.
      subst (λ (n : L2CacheBackend g.row.S.Denot). IsFreeOf size (cached_tables n.header.fields.cluster_bits (λ (t : L2TableView). t.bytes) (λ t. t.is_modified) c.flush.new.self.entries) cluster)
      (sym (ap (λ (l2 : Cache (L2CacheBackend g.row.S.Denot) ℕ L2TableView). l2.backend) c.flush.ensures.others))
      (λ o in_c. flush_free (l2_steps (λ s. g.S.Storage.view (storage_of s)) c.args.self.now.l2.backend.header.fields) c.args.self.now.l2.backend.header.fields.cluster_bits (λ (t : L2TableView). t.bytes) (λ t. t.is_modified)
      (λ s t k v w h. ap (λ (t : L2TableView). t.is_modified) h.clean) size o (record c.args.storage.now { met_fault = false }) c.flush.new.store c.args.self.now.l2.entries c.flush.new.self.entries c.flush.result (rw c.watch_faults.ensures at c.flush.ensures.flushed) (free o in_c));
}
