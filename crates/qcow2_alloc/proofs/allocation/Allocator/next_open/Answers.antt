use Rattle.std.proofs.Common.{◌≡◌, ◌+◌, ◌-◌, ◌*◌, ◌/◌, ◌%◌, ◌^◌, ◌<◌, ◌≤◌, ℕ, min, Some, IsSome, inl, inr, refl, sym, ap, subst, ◌∙◌, arith, is_some}
use Rattle.qcow2_alloc.proofs.Common.{cases_lt, one_shl, mod_below, pow_pos, div-add-mod', div-mul-add, mod-mul-add, HeaderFields, EntryTableView, IsFirstZero, counts_per_block, count_at, counts_of, HasNone, NamesBlock, rb_at, PassesKnown, ReportsFirstFree, SearchContinuesAt, MetadataCaches, contents_in}
use Rattle.qcow2_alloc.proofs.Lemmas.{handed_on, counted_at, none_named, if_no_ok, fails_ok, fails_on}
use Rattle.qcow2_alloc.proofs.CachedEntries.Putting.{some_of}
use Rattle.qcow2_alloc.proofs.allocation.Allocator.next_open.Goals as goal

-- a cluster behind another one in its range
in_range : (cluster k per : ℕ) → cluster ≤ k → cluster % per + (k - cluster) < per → (cluster / per ≡ k / per) × (cluster % per + (k - cluster) ≡ k % per)
in_range cluster k per low within =
    let split = div-add-mod' cluster per in
    let is : k ≡ cluster / per * per + (cluster % per + (k - cluster)) = omega (arith, split, low) in (
      sym (ap (λ n. n / per) is ∙ div-mul-add (cluster / per) per (cluster % per + (k - cluster)) within),
      sym (ap (λ n. n % per) is ∙ mod-mul-add (cluster / per) per (cluster % per + (k - cluster)) within),
    )

pub returns-in_err-block : goal.returns-in_err-block
returns-in_err-block g c = record {
  step = c.load_block.ensures.step;
  sound = λ p sound.
      handed_on (PassesKnown g.S.Storage.view p c.args.self.now c.args.file.now c.args.self.now c.load_block.new.file c.args.cluster)
      c.from_residual.result c.in_err-block.field-0.0 c.from_residual.ensures (c.in_err-block.ensures.sound p sound);
  fails = fails_on c.from_residual.result c.in_err-block.field-0.0 c.from_residual.ensures c.in_err-block.ensures.fails;
  behind = if_no_ok _ c.from_residual.result c.in_err-block.field-0.0 c.from_residual.ensures;
  far = if_no_ok _ c.from_residual.result c.in_err-block.field-0.0 c.from_residual.ensures;
}

pub returns-in_default : goal.returns-in_default
returns-in_default g c = record {
  step = c.load_block.ensures.step;
  sound = λ p sound. ((c.in_ok-block.ensures.sound p sound).0, λ hint k low high. absurd (omega (arith, low, high)));
  fails = fails_ok c.in_ok-block.ensures.fails.told;
  behind = omega arith;
  far =
      inl (inl (
        refl,
        subst (λ n. HasNone c.args.self.now.reftable (c.args.cluster / n)) (sym c.rb_bits-bits.ensures.counts)
            (none_named c.args.file.now.header.fields c.args.self.now.reftable (c.args.cluster / 2 ^ c.rb_bits-bits.result) c.in_ok-block.field-0 (ap is_some c.in_default.is) c.in_ok-block.ensures.finds.names),
      ));
}

pub returns-clause-sound : goal.returns-clause-sound
returns-clause-sound g c = λ p sound.
    rw c.rb_used_from-used.ensures.same
    (let l = rw c.in-Some.is at (c.in_ok-block.ensures.sound p sound) in (
      l.0,
      λ hint k low high.
          let bits = c.rb_bits-bits.result in
          let index : c.rb_index-index.result ≡ c.args.cluster % 2 ^ bits = c.rb_index-index.ensures.value ∙ ap (λ n. n % 2 ^ bits) c.new.ensures in
          let few = c.rb_bits-bits.ensures.high in
          let width = one_shl bits 64 (omega (arith, few)) in
          let least = c.min.ensures in
          let place = in_range c.args.cluster k (2 ^ bits) low (omega (arith, low, high, index, width, least)) in
          let moved = place.1 in
          let at = counted_at g.S.Storage.view c.load_block.new.file c.args.file.now.header.fields (ap (λ x. x.fields) c.load_block.ensures.step.header) k _ c.in-Some.block (k % 2 ^ bits) bits l.1 c.rb_bits-bits.ensures.counts place.0 refl in
          c.rb_used_from-used.ensures.used c.load_block.new.file.header.fields p (contents_in g.S.Storage.view c.load_block.new.file) k (k % 2 ^ bits) l.0.file_step.sound.caches at (omega (arith, index, moved)) (omega (arith, low, high, index, least, moved)),
    ))

-- it goes on at the first count of 0 of its refblock, or where the next range begins
goes_far : {S : Type 0} (h : HeaderFields) (reftable : EntryTableView) (caches : MetadataCaches S) (cluster block index used per next : ℕ) → counts_per_block h ≡ per → index ≡ cluster % per → index < per
    → NamesBlock h reftable (cluster / per) (Some block) → IsSome (rb_at caches block) → ReportsFirstFree caches block index used → next ≡ cluster + min used (per - index) → SearchContinuesAt h reftable caches cluster next
goes_far h reftable caches cluster block index used per next counts at low names held first is =
    let split = div-add-mod' cluster per in
    elim (cases_lt used (per - index)) [
      | inl near ↦
          let b = some_of (rb_at caches block) held in
          let place : next ≡ cluster / per * per + (index + used) = omega (arith, is, near, split, at) in
          let there : next % per ≡ index + used = ap (λ n. n % per) place ∙ mod-mul-add (cluster / per) per (index + used) (omega (arith, near, low)) in
          inr (inr (
            block,
            b.0,
            subst (λ n. NamesBlock h reftable (cluster / n) (Some block)) (sym counts) names,
            b.1,
            λ of.
                let many : counts_of b.0 ≡ per = ap (λ n. 2 ^ n * 8 / 2 ^ b.0.refcount_order) of.bits ∙ ap (λ n. 2 ^ h.cluster_bits * 8 / 2 ^ n) of.order ∙ counts in
                let found : IsFirstZero b.0 index (index + used) = (rw b.1 at first) (omega (arith, many, low)) in
                ap (count_at b.0) (ap (λ n. next % n) counts ∙ there) ∙ found.zero (omega (arith, many, near, low)),
          ))
      | inr far ↦
          let place : next ≡ cluster / per * per + per = omega (arith, is, far, split, at, low) in
          inr (inl (ap (λ n. next % n) counts ∙ ap (λ n. n % per) place ∙ ends (cluster / per) per (omega (arith, low))))
    ]
  where
    ends : (q per : ℕ) → 0 < per → (q * per + per) % per ≡ 0
    ends q per some = let e : q * per + per ≡ (q + 1) * per + 0 = omega arith in ap (λ n. n % per) e ∙ mod-mul-add (q + 1) per 0 some

pub returns-clause-far : goal.returns-clause-far
returns-clause-far g c =
    let bits = c.rb_bits-bits.result in
    let h = c.args.file.now.header.fields in
    let t = c.args.self.now.reftable in
    let index : c.rb_index-index.result ≡ c.args.cluster % 2 ^ bits = c.rb_index-index.ensures.value ∙ ap (λ n. n % 2 ^ bits) c.new.ensures in
    let few = c.rb_bits-bits.ensures.high in
    let width = one_shl bits 64 (omega (arith, few)) in
    let names : NamesBlock h t (c.args.cluster / 2 ^ bits) (Some c.in-Some.block) = subst (NamesBlock h t (c.args.cluster / 2 ^ bits)) c.in-Some.is c.in_ok-block.ensures.finds.names in
    let held : IsSome (rb_at c.load_block.new.file.caches c.in-Some.block) = rw c.in-Some.is at c.in_ok-block.ensures.finds.held in
    let least = c.min.ensures in
    rw c.rb_used_from-used.ensures.same
    (inl (goes_far h t c.load_block.new.file.caches c.args.cluster c.in-Some.block c.rb_index-index.result c.rb_used_from-used.result (2 ^ bits) _ c.rb_bits-bits.ensures.counts index (let low = mod_below c.args.cluster (2 ^ bits) (pow_pos bits) in omega (arith, index, low))
    names held c.rb_used_from-used.ensures.first (omega (arith, least, width))))

pub returns-clause-step : goal.returns-clause-step
returns-clause-step g c = rw c.rb_used_from-used.ensures.same c.load_block.ensures.step

pub returns-clause-fails : goal.returns-clause-fails
returns-clause-fails g c = fails_ok c.in_ok-block.ensures.fails.told
