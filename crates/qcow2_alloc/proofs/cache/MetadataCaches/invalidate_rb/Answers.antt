use Rattle.qcow2_alloc.proofs.Common.{refl}
use Rattle.qcow2_alloc.proofs.Lemmas.{left_of, left_err, blocks_taken, blocks_left_behind, blocks_taken_apart, marks_blocks}
use Rattle.qcow2_alloc.proofs.cache.MetadataCaches.invalidate_rb.Goals as goal

pub returns-in_err-invalidate-clause-left : goal.returns-in_err-invalidate-clause-left
returns-in_err-invalidate-clause-left g c =
    left_err c.args.self.now.rb.entries c.invalidate.new.self.entries c.invalidate.result c.in_err-invalidate.field-0.0 c.in_err-invalidate.was c.invalidate.ensures.answer c.from_residual.result c.from_residual.ensures

pub returns-in_err-invalidate-clause-taken : goal.returns-in_err-invalidate-clause-taken
returns-in_err-invalidate-clause-taken g c =
    blocks_taken c.args.self.now c.invalidate.new.self c.invalidate.ensures.others (left_of c.args.self.now.rb.entries c.invalidate.new.self.entries c.invalidate.result c.invalidate.ensures.answer)

pub returns-clause-taken : goal.returns-clause-taken
returns-clause-taken g c =
    blocks_taken c.args.self.now c.invalidate.new.self c.invalidate.ensures.others (left_of c.args.self.now.rb.entries c.invalidate.new.self.entries c.invalidate.result c.invalidate.ensures.answer)

pub returns-in_err-invalidate-clause-taken_apart : goal.returns-in_err-invalidate-clause-taken_apart
returns-in_err-invalidate-clause-taken_apart g c = blocks_taken_apart c.args.self.now c.invalidate.new.self c.invalidate.ensures.others (left_of c.args.self.now.rb.entries c.invalidate.new.self.entries c.invalidate.result c.invalidate.ensures.answer) c.invalidate.ensures.distinct

pub returns-clause-taken_apart : goal.returns-clause-taken_apart
returns-clause-taken_apart g c = blocks_taken_apart c.args.self.now c.invalidate.new.self c.invalidate.ensures.others (left_of c.args.self.now.rb.entries c.invalidate.new.self.entries c.invalidate.result c.invalidate.ensures.answer) c.invalidate.ensures.distinct

pub returns-in_err-invalidate-clause-step : goal.returns-in_err-invalidate-clause-step
returns-in_err-invalidate-clause-step g c = record {
  marks = marks_blocks c.args.self.now c.invalidate.new.self c.invalidate.ensures.others c.invalidate.ensures.pins;
  order = refl;
  header_cluster = blocks_left_behind c.args.self.now c.invalidate.new.self c.invalidate.ensures.others (left_of c.args.self.now.rb.entries c.invalidate.new.self.entries c.invalidate.result c.invalidate.ensures.answer);
}

pub returns-clause-step : goal.returns-clause-step
returns-clause-step g c = record {
  marks = marks_blocks c.args.self.now c.invalidate.new.self c.invalidate.ensures.others c.invalidate.ensures.pins;
  order = refl;
  header_cluster = blocks_left_behind c.args.self.now c.invalidate.new.self c.invalidate.ensures.others (left_of c.args.self.now.rb.entries c.invalidate.new.self.entries c.invalidate.result c.invalidate.ensures.answer);
}
