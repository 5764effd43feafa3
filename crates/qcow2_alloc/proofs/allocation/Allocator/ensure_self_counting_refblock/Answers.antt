use Rattle.std.proofs.Common.{◌≡◌, ◌*◌, ◌<◌, ◌^◌, mul-pos, inl, inr, true, false, sym, ap, ◌∙◌, arith, Result, IsTrue, refl, subst, IfErr}
use Rattle.qcow2_alloc.proofs.Common.{counts_per_block, GetsBlock, IsFault, pow_pos, ImageError, IsHostCluster}
use Rattle.qcow2_alloc.proofs.Lemmas.{never_unaligned, lacking_above, search_by, search_same, named_covered, none_named, handed_on, gets_placed, gets_then, is_sound_now, none_in_memory, stands_none, placed_fault, host_below, is_able, entries_none, on_no_ok, spares_then, kept_marks_then, limit_other, memory_other, other_as, fails_by, fails_ok, fails_on, fails_since}
use Rattle.qcow2_alloc.specs.declared.error.ImageError.TheVariants as I
use Rattle.qcow2_alloc.proofs.allocation.Allocator.ensure_self_counting_refblock.Goals as goal

pub returns-in_err-load_block-clause-fails : goal.returns-in_err-load_block-clause-fails
returns-in_err-load_block-clause-fails g c = fails_on c.from_residual.result c.in_err-load_block.field-0.0 c.from_residual.ensures c.in_err-load_block.ensures.fails

pub returns-in_err-load_block-clause-sound : goal.returns-in_err-load_block-clause-sound
returns-in_err-load_block-clause-sound g c = λ p sound.
    record {
      gets = handed_on (GetsBlock g.S.Storage.view p c.args.file.now c.args.self.now c.load_block.new.file) c.from_residual.result c.in_err-load_block.field-0.0 c.from_residual.ensures (c.in_err-load_block.ensures.sound p sound).1;
      fault = λ within near. handed_on (λ (r : Result (Unit {0}) ImageError). IfErr r IsFault) c.from_residual.result c.in_err-load_block.field-0.0 c.from_residual.ensures (c.in_err-load_block.ensures.sound p sound).0;
    }

pub returns-then-is_some : goal.returns-then-is_some
returns-then-is_some g c = record {
  step = c.load_block.ensures.step;
  fails = fails_ok c.in_ok-load_block.ensures.fails.told;
  sound = λ p sound.
      record {
        gets = (c.in_ok-load_block.ensures.sound p sound).0;
        fault = λ within near. tt;
      };
  entries = entries_none _ c.args.self.now.reftable;
  leaks = refl;
  first = search_same c.args.self.now;
  has = c.in_ok-load_block.ensures.finds.has (sym c.is_some.ensures ∙ c.if-is_some.true);
}

pub returns-then-not-can_name-clause-fails : goal.returns-then-not-can_name-clause-fails
returns-then-not-can_name-clause-fails g c = fails_by I.Limit limit_other c.in_ok-load_block.ensures.fails.told tt

pub returns-then-not-can_name-clause-sound : goal.returns-then-not-can_name-clause-sound
returns-then-not-can_name-clause-sound g c = λ p sound.
    record {
      gets = let one = (c.in_ok-load_block.ensures.sound p sound).0 in inl (one.file_step, one.reftable);
      fault = λ within near. let counts : c.args.range * 2 ^ c.rb_bits.result ≡ c.args.range * counts_per_block c.args.file.now.header.fields = ap (λ n. c.args.range * n) (sym c.rb_bits.ensures.counts) ∙ ap (λ h. c.args.range * counts_per_block h.fields) c.load_block.ensures.step.header in
          let l = c.in_ok-load_block.ensures.sound p sound in
          let above = lacking_above g.S.Storage.view p c.load_block.new.file c.args.range l.0.file_step.sound (stands_none g.S.Storage.view c.load_block.new.file c.args.range c.in_ok-load_block.field-0 (sym c.is_some.ensures ∙ c.if-is_some.false) l.1) in
          let some : 0 < c.args.range * 2 ^ c.rb_bits.result = mul-pos above (pow_pos c.rb_bits.result) in
          let elsewhere : 0 < c.new.result = let is = c.new.ensures in let small = c.requires in omega (arith, is, counts, some, small) in
          let here = host_below c.args.file.now.header.fields.cluster_bits c.new.result (c.args.range * counts_per_block c.args.file.now.header.fields) (let is = c.new.ensures in omega (arith, is, counts)) near in
          let able = is_able g.S.Storage.view p c.args.file.now c.args.self.now c.cluster_bits-bits.result c.new.result (IsTrue c.can_name.result) sound
          (c.cluster_bits-bits.ensures.value ∙ ap (λ h. h.fields.cluster_bits) c.load_block.ensures.step.header) here elsewhere (c.can_name.ensures.able within) in
          let not = c.if-not-can_name.true in
          absurd (let bad : true ≡ false = sym able ∙ not in cc);
    }

pub returns-in_err-block : goal.returns-in_err-block
returns-in_err-block g c = record {
  step = c.load_block.ensures.step;
  fails = fails_on c.from_residual-in_err-block.result c.in_err-block.field-0.0 c.from_residual-in_err-block.ensures (fails_by c.in_err-block.field-0.0 (other_as c.in_err-block.ensures.memory memory_other) c.in_ok-load_block.ensures.fails.told (never_unaligned _ c.in_err-block.field-0.0 c.in_err-block.ensures.cause));
  sound = λ p sound.
      let one = (c.in_ok-load_block.ensures.sound p sound).0 in
      record {
        gets = handed_on (GetsBlock g.S.Storage.view p c.args.file.now c.args.self.now c.load_block.new.file) c.from_residual-in_err-block.result c.in_err-block.field-0.0 c.from_residual-in_err-block.ensures (inl (one.file_step, one.reftable));
        fault = λ within near. handed_on (λ (r : Result (Unit {0}) ImageError). IfErr r IsFault) c.from_residual-in_err-block.result c.in_err-block.field-0.0 c.from_residual-in_err-block.ensures (inr c.in_err-block.ensures.memory);
      };
  entries = entries_none _ c.args.self.now.reftable;
  leaks = refl;
  first = search_same c.args.self.now;
  has = on_no_ok _ c.from_residual-in_err-block.result c.in_err-block.field-0.0 c.from_residual-in_err-block.ensures;
}

pub returns-clause-step : goal.returns-clause-step
returns-clause-step g c = record {
  header = c.place_block.ensures.step.header ∙ c.load_block.ensures.step.header;
  list = c.place_block.ensures.step.list ∙ c.load_block.ensures.step.list;
  named = named_covered c.args.self.now.reftable c.place_block.new.self.reftable c.args.range
      (none_named c.args.file.now.header.fields c.args.self.now.reftable c.args.range c.in_ok-load_block.field-0 (sym c.is_some.ensures ∙ c.if-is_some.false) c.in_ok-load_block.ensures.finds.names)
      c.place_block.ensures.step.named;
  marks = kept_marks_then c.load_block.ensures.step.marks c.place_block.ensures.step.marks;
  header_cluster = spares_then c.load_block.ensures.step.header_cluster c.place_block.ensures.step.header_cluster;
}

pub returns-clause-fails : goal.returns-clause-fails
returns-clause-fails g c = fails_since c.in_ok-load_block.ensures.fails.told c.place_block.ensures.fails

pub returns-clause-sound : goal.returns-clause-sound
returns-clause-sound g c = λ p sound.
    let l = c.in_ok-load_block.ensures.sound p sound in
    let e : c.args.range * 2 ^ c.rb_bits.result ≡ c.args.range * counts_per_block c.load_block.new.file.header.fields = ap (λ n. c.args.range * n) (sym c.rb_bits.ensures.counts) in
    let same : c.args.range * counts_per_block c.load_block.new.file.header.fields ≡ c.args.range * counts_per_block c.args.file.now.header.fields = ap (λ h. c.args.range * counts_per_block h.fields) c.load_block.ensures.step.header in
    let none = none_in_memory g.S.Storage.view p c.load_block.new.file c.args.self.now.reftable l.0.file_step.sound l.0.reftable c.args.range (stands_none g.S.Storage.view c.load_block.new.file c.args.range c.in_ok-load_block.field-0 (sym c.is_some.ensures ∙ c.if-is_some.false) l.1) in
    record {
      gets = gets_then g.S.Storage.view p c.args.file.now c.load_block.new.file c.place_block.new.file c.args.self.now c.place_block.new.self c.place_block.result l.0
          (gets_placed g.S.Storage.view p c.load_block.new.file c.place_block.new.file c.place_block.new.self c.args.range _ c.place_block.result
          (c.place_block.ensures.sound p true (is_sound_now g.S.Storage.view p p c.args.file.now c.load_block.new.file c.args.self.now l.0) (record { none = none; first = omega (arith, e, same, c.requires) }) c.in_ok-block.ensures.counts));
      fault = λ within near. placed_fault g.S.Storage.view p p c.load_block.new.file c.place_block.new.file c.place_block.new.self c.args.range _ c.place_block.result
          (c.place_block.ensures.sound p true (is_sound_now g.S.Storage.view p p c.args.file.now c.load_block.new.file c.args.self.now l.0) (record { none = none; first = omega (arith, e, same, c.requires) }) c.in_ok-block.ensures.counts);
    }

pub returns-in_err-load_block-clause-first : goal.returns-in_err-load_block-clause-first
returns-in_err-load_block-clause-first g c = search_same c.args.self.now

pub returns-in_err-load_block-clause-entries : goal.returns-in_err-load_block-clause-entries
returns-in_err-load_block-clause-entries g c = entries_none _ c.args.self.now.reftable

pub returns-then-not-can_name-clause-first : goal.returns-then-not-can_name-clause-first
returns-then-not-can_name-clause-first g c = search_same c.args.self.now

pub returns-then-not-can_name-clause-entries : goal.returns-then-not-can_name-clause-entries
returns-then-not-can_name-clause-entries g c = entries_none _ c.args.self.now.reftable

pub returns-clause-first : goal.returns-clause-first
returns-clause-first g c = search_by c.args.self.now _ c.place_block.new.self c.place_block.ensures.rest refl (λ k passed. passed)

pub place_block-requires : goal.place_block-requires
place_block-requires g c = record {
  place = record {
    within = c.can_name.ensures.within c.if-not-can_name.false;
    placed = c.can_name.ensures.placed c.if-not-can_name.false;
    elsewhere = subst (λ n. 0 < n) c.new.ensures (c.can_name.ensures.elsewhere c.if-not-can_name.false);
    nameable = subst (IsHostCluster c.args.self.now.reftable.cluster_bits) c.new.ensures (c.can_name.ensures.nameable c.if-not-can_name.false);
    nameable_here = subst (IsHostCluster c.load_block.new.file.header.fields.cluster_bits) c.new.ensures (subst (λ b. IsHostCluster b c.new.result) c.cluster_bits-bits.ensures.value (c.can_name.ensures.nameable_here c.if-not-can_name.false));
  };
  block = (c.in_ok-block.ensures.format, c.in_ok-block.ensures.whole);
}
