use Rattle.std.proofs.Common.{◌≡◌, ◌+◌, ◌^◌, ◌<◌, ℕ, Option, zero, suc, pow-suc, eqb, refl, sym, ap, ◌∙◌, subst, arith}
use Rattle.qcow2_alloc.proofs.Common.{pow_pos, IsNone, RefBlockView, count_at, count_limit, counts_of, value_at, SetsTableCount}
use Rattle.qcow2_alloc.proofs.Lemmas.{held_none, block_stays_apart, changed_by, count_after, count_apart, count_set, count_step, count_there, stays, raised, if_some, never}
use Rattle.qcow2_alloc.proofs.cache.MetadataCaches.rb_increment.Goals as goal

-- a count of 0 is none of the greatest
not_full : (order n : ℕ) → n ≡ 0 → n + 1 ≡ 2 ^ (2 ^ order) → ⊥
not_full order n none full = let a : 1 < 2 ^ (2 ^ order) = pow_more (2 ^ order) (pow_pos order) in omega arith
  where
    pow_more : (m : ℕ) → 0 < m → 1 < 2 ^ m
    pow_more zero some = omega arith
    pow_more (suc m) some = let p = pow_pos m in rw pow-suc (omega arith)

abbrev Refuses : ℕ → RefBlockView → Type 0
Refuses index b = index < counts_of b → count_at b index + 1 ≡ count_limit b

abbrev Sets : ℕ → RefBlockView → Unit {0} → RefBlockView → Type 0
Sets index b _ w = (count_at b index + 1 < count_limit b) × SetsTableCount b index (count_at b index + 1) w

pub returns-in_default : goal.returns-in_default
returns-in_default g c =
    let left = stays (Refuses c.args.index) (Sets c.args.index) c.args.cluster c.args.self.now.rb c.change.new.self c.change.result c.change.ensures.changes c.in_default.is in
    record {
      step = rw left.0 held_none;
      sound = rw left.0 (record {
        counted = λ bad. never bad;
        made = λ h p on_storage k sound at there counted.
            absurd (count_there c.args.self.now c.args.cluster (Refuses c.args.index) c.args.index h p on_storage k sound at there left.1 (λ b inside is refused. not_full b.refcount_order (count_at b c.args.index) (sym is ∙ counted) (refused inside)));
        apart = block_stays_apart c.args.self.now c.args.cluster c.change.ensures.distinct;
        l2 = refl;
      });
      counts = left.1;
      recorded = λ bad. never bad;
      refused = λ _. rw left.0 refl;
      missing = λ _. refl;
    }

pub returns : goal.returns
returns g c =
    let ch = changed_by (Refuses c.args.index) (Sets c.args.index) c.args.cluster c.args.self.now.rb c.change.new.self c.change.result c.change.ensures.changes _ c.in-Some.is in
    record {
      step = rw ch.is (count_step c.args.self.now c.args.cluster ch.after c.one_more-self.result c.one_more-self.ensures);
      sound =
          let is = ch.by.1.same in
          rw ch.is (record {
            counted = λ _ h p on_storage k sound at free.
                raised h p on_storage c.args.self.now sound c.args.cluster c.args.index ch.before ch.found k at ch.after (ap (λ (b : RefBlockView). b.is_modified) is) (ap (λ (b : RefBlockView). b.cluster_bits) is) (ap (λ (b : RefBlockView). b.refcount_order) is)
                (count_after c.args.self.now c.args.cluster ch.after c.one_more-self.result c.one_more-self.ensures) refl refl refl ch.by.1.counted free;
            made = λ h p on_storage k sound at there counted. refl;
            apart = count_apart c.args.self.now c.args.cluster ch.after c.one_more-self.result c.one_more-self.ensures c.change.ensures.distinct;
            l2 = refl;
          });
      counts = rw ch.is (if_some _ (value_at (eqb c.args.cluster) c.args.self.now.rb.entries) ch.before ch.found (ch.by.1.inside, ch.by.0, count_set c.args.self.now c.args.cluster ch.after c.one_more-self.result c.one_more-self.ensures ch.found ch.by.1));
      recorded = λ _. c.one_more-self.ensures;
      refused = λ bad. absurd cc;
      missing = λ none. let bad = subst (λ (o : Option RefBlockView). IsNone o) ch.found none in cc;
    }
