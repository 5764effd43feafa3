use Rattle.std.proofs.Common.{◌≡◌, ◌+◌, ◌<◌, ℕ, Option, eqb, refl, ap, ◌∙◌, subst}
use Rattle.qcow2_alloc.proofs.Common.{IsNone, RefBlockView, ChangesCount, count_at, counts_of, value_at, changed_block, SetsTableCount}
use Rattle.qcow2_alloc.proofs.Lemmas.{held_none, block_stays_apart, changed_by, count_after, count_apart, count_set, count_step, count_there, stays, still_new_data, count_is, lowered, if_some, never}
use Rattle.qcow2_alloc.proofs.Leaks.{one_above, one_less}
use Rattle.qcow2_alloc.proofs.cache.MetadataCaches.rb_release.Goals as goal

abbrev Refuses : ℕ → RefBlockView → Type 0
Refuses index b = index < counts_of b → count_at b index ≡ 0

abbrev Sets : ℕ → RefBlockView → ℕ → RefBlockView → Type 0
Sets index b left w = (count_at b index ≡ left + 1) × SetsTableCount b index left w

pub returns-in_err-left-clause-step : goal.returns-in_err-left-clause-step
returns-in_err-left-clause-step g c =
    let left = stays (Refuses c.args.index) (Sets c.args.index) c.args.cluster c.args.self.now.rb c.change.new.self c.change.result c.change.ensures.changes c.in_err-left.was in
    rw left.0 held_none

pub returns-in_err-left-clause-sound : goal.returns-in_err-left-clause-sound
returns-in_err-left-clause-sound g c =
    let left = stays (Refuses c.args.index) (Sets c.args.index) c.args.cluster c.args.self.now.rb c.change.new.self c.change.result c.change.ensures.changes c.in_err-left.was in
    rw (left.0, c.from_residual.ensures) (record {
      counted = λ bad. never bad;
      made = λ h p on_storage k sound at there counted.
          absurd (count_there c.args.self.now c.args.cluster (Refuses c.args.index) c.args.index h p on_storage k sound at there left.1 (λ b inside is refused. counted (is ∙ refused inside)));
      apart = block_stays_apart c.args.self.now c.args.cluster c.change.ensures.distinct;
      l2 = refl;
    })

pub returns-in_err-left-clause-counts : goal.returns-in_err-left-clause-counts
returns-in_err-left-clause-counts g c =
    let left = stays (Refuses c.args.index) (Sets c.args.index) c.args.cluster c.args.self.now.rb c.change.new.self c.change.result c.change.ensures.changes c.in_err-left.was in
    rw c.from_residual.ensures left.1

pub returns-in_err-left-clause-refused : goal.returns-in_err-left-clause-refused
returns-in_err-left-clause-refused g c = λ _.
    let left = stays (Refuses c.args.index) (Sets c.args.index) c.args.cluster c.args.self.now.rb c.change.new.self c.change.result c.change.ensures.changes c.in_err-left.was in
    rw left.0 refl

pub returns : goal.returns
returns g c =
    let ch = changed_by (Refuses c.args.index) (Sets c.args.index) c.args.cluster c.args.self.now.rb c.change.new.self c.change.result c.change.ensures.changes c.in_ok-left.left c.in_ok-left.was in
    record {
      step = rw ch.is (count_step c.args.self.now c.args.cluster ch.after c.one_more-self.result c.one_more-self.ensures);
      sound =
          let is = ch.by.1.same in
          let fewer = subst (ChangesCount ch.before.refcount_order ch.before.bytes ch.after.bytes c.args.index) (one_less (count_at ch.before c.args.index) c.in_ok-left.left ch.by.0) ch.by.1.counted in
          rw ch.is (record {
            counted = λ _ h p on_storage k sound at.
                lowered h p on_storage c.args.self.now sound c.args.cluster c.args.index ch.before ch.found k at ch.after (ap (λ (b : RefBlockView). b.is_modified) is) (ap (λ (b : RefBlockView). b.cluster_bits) is) (ap (λ (b : RefBlockView). b.refcount_order) is)
                (count_after c.args.self.now c.args.cluster ch.after c.one_more-self.result c.one_more-self.ensures) refl refl refl fewer (one_above (count_at ch.before c.args.index) c.in_ok-left.left ch.by.0);
            made = λ h p on_storage k sound at there counted. refl;
            apart = count_apart c.args.self.now c.args.cluster ch.after c.one_more-self.result c.one_more-self.ensures c.change.ensures.distinct;
            l2 = refl;
          });
      counts = rw ch.is (if_some _ (value_at (eqb c.args.cluster) c.args.self.now.rb.entries) ch.before ch.found (ch.by.1.inside, ch.by.0, count_set c.args.self.now c.args.cluster ch.after c.one_more-self.result c.one_more-self.ensures ch.found ch.by.1));
      left =
          let set = count_set c.args.self.now c.args.cluster ch.after c.one_more-self.result c.one_more-self.ensures ch.found ch.by.1 in
          rw ch.is (λ h p on_storage k sound at.
          count_is h p on_storage (count_after c.args.self.now c.args.cluster ch.after c.one_more-self.result c.one_more-self.ensures) sound c.args.cluster c.args.index (changed_block ch.before set.count.bytes) set.count.here k at ∙ set.count.change.count_is);
      recorded = λ _. c.one_more-self.ensures;
      refused = λ none. absurd cc;
      cached = λ _. rw ch.is (still_new_data c.args.cluster c.args.self.now.rb.entries ch.before ch.after ch.found);
      missing = λ none. let bad = subst (λ (o : Option RefBlockView). IsNone o) ch.found none in cc;
    }
