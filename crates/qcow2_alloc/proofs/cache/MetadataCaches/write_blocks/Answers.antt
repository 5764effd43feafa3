use Rattle.qcow2_alloc.proofs.Common.{false, Err, inl, refl, ◌∙◌, ap, of_cache, IsFaultOr, BlocksFit, storage_of, met_fault_of, RefBlockView, rb_steps}
use Rattle.qcow2_alloc.proofs.Lemmas.{blocks_written, blocks_flush_refused, clean_as, flush_clean, blocks_quiet, flush_refused, told_as, rb_flush_tells, watched_step, watched_soundly, rb_flushed_step, rb_flushed_soundly, fails_ok, fails_of}
use Rattle.qcow2_alloc.proofs.KeptTables.Held.{blocks_held}
use Rattle.qcow2_alloc.proofs.cache.MetadataCaches.write_blocks.Goals as goal

pub returns-in-Err : goal.returns-in-Err
returns-in-Err g c = record {
  step = watched_step false (rb_flushed_step g.S.Storage.view (record c.args.storage.now { met_fault = false }) c.flush.new.store c.args.self.now c.flush.new.self c.flush.ensures.others c.flush.result (rw c.watch_faults.ensures at c.flush.ensures.flushed) c.flush.ensures.pins (rw c.watch_faults.ensures at c.flush.ensures.keeps).0);
  fails =
      fails_of {T = Unit {0}} (Err c.refusal_to_report.result) (flush_refused g.S.Storage.view (record c.args.storage.now { met_fault = false }) c.flush.new.store c.flush.result c.in-Err.refusal c.refusal_to_report.result refl (rw c.watch_faults.ensures at c.flush.ensures.keeps).1
      (rb_flush_tells g.S.Storage.view c.args.self.now.rb.backend.header.fields (record c.args.storage.now { met_fault = false }) c.flush.new.store c.args.self.now.rb.entries c.flush.new.self.entries c.flush.result (rw c.watch_faults.ensures at c.flush.ensures.flushed)) c.in-Err.is c.refusal_to_report.ensures.met (λ none. c.refusal_to_report.ensures.unmet none ∙ c.into.ensures))
      (told_as (IsFaultOr (¬ BlocksFit c.args.self.now)) (met_fault_of c.flush.new.store) c.refusal_to_report.result (of_cache c.in-Err.refusal) c.refusal_to_report.ensures.met (λ none. c.refusal_to_report.ensures.unmet none ∙ c.into.ensures) (inl (inl refl))
      (blocks_flush_refused g.S.Storage.view (record c.args.storage.now { met_fault = false }) c.flush.new.store c.args.self.now c.flush.new.self c.flush.result (rw c.watch_faults.ensures at c.flush.ensures.flushed) c.in-Err.refusal c.in-Err.is));
  sound = λ may. watched_soundly false (rb_flushed_soundly g.S.Storage.view (record c.args.storage.now { met_fault = false }) c.flush.new.store c.args.self.now c.flush.new.self c.flush.ensures.others c.flush.result (rw c.watch_faults.ensures at c.flush.ensures.flushed) c.flush.ensures.distinct may);
  flushes = record {
    direction = refl;
    others_stay = refl;
    changes = (refl, refl);
    written = tt;
    quiet = blocks_quiet g.S.Storage.view (record c.args.storage.now { met_fault = false }) c.flush.new.store c.args.self.now c.flush.new.self c.flush.result (rw c.watch_faults.ensures at c.flush.ensures.flushed);
  };
  clean = λ all.
      flush_clean (rb_steps (λ s. g.S.Storage.view (storage_of s)) c.args.self.now.rb.backend.header.fields) c.flush.new.self.backend.header.fields.cluster_bits (λ (b : RefBlockView). b.bytes) (λ b. b.is_modified)
      (λ s t k v w h. ap (λ (b : RefBlockView). b.is_modified) h.clean) (record c.args.storage.now { met_fault = false }) c.flush.new.store c.args.self.now.rb.entries c.flush.new.self.entries c.flush.result (rw c.watch_faults.ensures at c.flush.ensures.flushed)
      (clean_as _ _ (λ (b : RefBlockView). b.bytes) (λ b. b.is_modified) c.args.self.now.rb.entries all);
  held = blocks_held g.S.Storage.view (record c.args.storage.now { met_fault = false }) c.flush.new.store c.args.self.now c.flush.new.self c.flush.result (rw c.watch_faults.ensures at c.flush.ensures.flushed);
}

pub returns : goal.returns
returns g c = record {
  step = watched_step false (rb_flushed_step g.S.Storage.view (record c.args.storage.now { met_fault = false }) c.flush.new.store c.args.self.now c.flush.new.self c.flush.ensures.others c.flush.result (rw c.watch_faults.ensures at c.flush.ensures.flushed) c.flush.ensures.pins (rw c.watch_faults.ensures at c.flush.ensures.keeps).0);
  fails = fails_ok ((rb_flush_tells g.S.Storage.view c.args.self.now.rb.backend.header.fields (record c.args.storage.now { met_fault = false }) c.flush.new.store c.args.self.now.rb.entries c.flush.new.self.entries c.flush.result (rw c.watch_faults.ensures at c.flush.ensures.flushed)).same _ c.in_default.is);
  sound = λ may. watched_soundly false (rb_flushed_soundly g.S.Storage.view (record c.args.storage.now { met_fault = false }) c.flush.new.store c.args.self.now c.flush.new.self c.flush.ensures.others c.flush.result (rw c.watch_faults.ensures at c.flush.ensures.flushed) c.flush.ensures.distinct may);
  flushes = record {
    direction = refl;
    others_stay = refl;
    changes = (refl, refl);
    written = blocks_written g.S.Storage.view (record c.args.storage.now { met_fault = false }) c.flush.new.store c.args.self.now c.flush.new.self c.flush.ensures.others c.flush.result (rw c.watch_faults.ensures at c.flush.ensures.flushed) c.in_default.is;
    quiet = blocks_quiet g.S.Storage.view (record c.args.storage.now { met_fault = false }) c.flush.new.store c.args.self.now c.flush.new.self c.flush.result (rw c.watch_faults.ensures at c.flush.ensures.flushed);
  };
  clean = λ all.
      flush_clean (rb_steps (λ s. g.S.Storage.view (storage_of s)) c.args.self.now.rb.backend.header.fields) c.flush.new.self.backend.header.fields.cluster_bits (λ (b : RefBlockView). b.bytes) (λ b. b.is_modified)
      (λ s t k v w h. ap (λ (b : RefBlockView). b.is_modified) h.clean) (record c.args.storage.now { met_fault = false }) c.flush.new.store c.args.self.now.rb.entries c.flush.new.self.entries c.flush.result (rw c.watch_faults.ensures at c.flush.ensures.flushed)
      (clean_as _ _ (λ (b : RefBlockView). b.bytes) (λ b. b.is_modified) c.args.self.now.rb.entries all);
  held = blocks_held g.S.Storage.view (record c.args.storage.now { met_fault = false }) c.flush.new.store c.args.self.now c.flush.new.self c.flush.result (rw c.watch_faults.ensures at c.flush.ensures.flushed);
}
