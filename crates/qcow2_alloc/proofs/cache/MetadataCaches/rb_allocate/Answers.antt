use Rattle.std.proofs.Common.{◌≡◌, ◌+◌, ◌<◌, ℕ, Option, eqb, refl, sym, ap, ◌∙◌, subst, arith}
use Rattle.qcow2_alloc.proofs.Common.{eq-eqb, ne_eqb, IsNone, count, RefBlockView, ChangesCount, count_at, counts_of, value_at, known_of, SetsTableCount}
use Rattle.qcow2_alloc.proofs.Lemmas.{held_none, block_stays_apart, changed_by, count_after, count_apart, count_set, count_step, count_there, stays, count_is, raised, if_some, never}
use Rattle.qcow2_alloc.proofs.cache.MetadataCaches.rb_allocate.Goals as goal

abbrev Refuses : ℕ → RefBlockView → Type 0
Refuses index b = index < counts_of b → 0 < count_at b index

abbrev Sets : ℕ → RefBlockView → Unit {0} → RefBlockView → Type 0
Sets index b _ w = (count_at b index ≡ 0) × SetsTableCount b index 1 w

-- a count above 0 isn't 0
not_zero : (n m : ℕ) → n ≡ m → 0 < m → n ≡ 0 → ⊥
not_zero n m same some none = omega (arith, same, some, none)

pub returns-in_default : goal.returns-in_default
returns-in_default g c =
    let left = stays (Refuses c.args.index) (Sets c.args.index) c.args.cluster c.args.self.now.rb c.change.new.self c.change.result c.change.ensures.changes c.in_default.is in
    record {
      step = rw left.0 held_none;
      sound = rw left.0 (record {
        counted = λ bad. never bad;
        made = λ h p on_storage k sound at there counted.
            absurd (count_there c.args.self.now c.args.cluster (Refuses c.args.index) c.args.index h p on_storage k sound at there left.1 (λ b inside is refused. not_zero _ (count_at b c.args.index) is (refused inside) counted));
        apart = block_stays_apart c.args.self.now c.args.cluster c.change.ensures.distinct;
        l2 = refl;
      });
      counts = left.1;
      zero = λ h p on_storage k sound at there. sym (ne_eqb (count h (known_of h c.args.self.now on_storage) k) 0 (λ none. count_there c.args.self.now c.args.cluster (Refuses c.args.index) c.args.index h p on_storage k sound at there left.1 (λ b inside is refused. not_zero _ (count_at b c.args.index) is (refused inside) none)));
      recorded = λ bad. never bad;
      refused = λ _. rw left.0 refl;
      missing = λ _. refl;
    }

pub returns : goal.returns
returns g c =
    let ch = changed_by (Refuses c.args.index) (Sets c.args.index) c.args.cluster c.args.self.now.rb c.change.new.self c.change.result c.change.ensures.changes _ c.in-Some.is in
    record {
      step = rw ch.is (count_step c.args.self.now c.args.cluster ch.after c.one_more-self.result c.one_more-self.ensures);
      sound =
          let is = ch.by.1.same in
          let more = subst (λ n. ChangesCount ch.before.refcount_order ch.before.bytes ch.after.bytes c.args.index (n + 1)) (sym ch.by.0) ch.by.1.counted in
          rw ch.is (record {
            counted = λ _ h p on_storage k sound at free.
                raised h p on_storage c.args.self.now sound c.args.cluster c.args.index ch.before ch.found k at ch.after (ap (λ (b : RefBlockView). b.is_modified) is) (ap (λ (b : RefBlockView). b.cluster_bits) is) (ap (λ (b : RefBlockView). b.refcount_order) is)
                (count_after c.args.self.now c.args.cluster ch.after c.one_more-self.result c.one_more-self.ensures) refl refl refl more free;
            made = λ h p on_storage k sound at there counted. refl;
            apart = count_apart c.args.self.now c.args.cluster ch.after c.one_more-self.result c.one_more-self.ensures c.change.ensures.distinct;
            l2 = refl;
          });
      counts = rw ch.is (if_some _ (value_at (eqb c.args.cluster) c.args.self.now.rb.entries) ch.before ch.found (ch.by.1.inside, ch.by.0, count_set c.args.self.now c.args.cluster ch.after c.one_more-self.result c.one_more-self.ensures ch.found ch.by.1));
      zero = λ h p on_storage k sound at there. sym (eq-eqb (count h (known_of h c.args.self.now on_storage) k) 0 (count_is h p on_storage c.args.self.now sound c.args.cluster c.args.index ch.before ch.found k at ∙ ch.by.0));
      recorded = λ _. c.one_more-self.ensures;
      refused = λ bad. absurd cc;
      missing = λ none. let bad = subst (λ (o : Option RefBlockView). IsNone o) ch.found none in cc;
    }
