use Rattle.std.proofs.Common.{◌≡◌, ◌+◌, ◌<◌, ℕ, arith, refl, sym, subst, ◌∙◌, eqb}
use Rattle.qcow2_alloc.proofs.Common.{IsFirstZero, RefBlockView, counts_of, value_at}
use Rattle.qcow2_alloc.proofs.Lemmas.{changed_by, if_some_then, stays, unchanged_by, count_is, if_some}
use Rattle.qcow2_alloc.proofs.cache.MetadataCaches.rb_used_from.Goals as goal

abbrev Past : ℕ → RefBlockView → Type 0
Past index b = counts_of b < index

abbrev Finds : ℕ → RefBlockView → ℕ → RefBlockView → Type 0
Finds index b a w = IsFirstZero b index a × (w ≡ b)

pub returns-in-Some : goal.returns-in-Some
returns-in-Some g c = record {
  used = λ h p on_storage k i sound at low high zero.
      let ch = changed_by (Past c.args.index) (Finds c.args.index) c.args.cluster c.args.self.now.rb c.change.new.self c.change.result c.change.ensures.changes c.in-Some.first c.in-Some.is in
      let first = ch.by.0 in
      let less = c.saturating_sub.ensures in
      first.above i low (omega (arith, low, high, less)) (sym (count_is h p on_storage c.args.self.now sound c.args.cluster i ch.before ch.found k at) ∙ zero);
  first =
      let ch = changed_by (Past c.args.index) (Finds c.args.index) c.args.cluster c.args.self.now.rb c.change.new.self c.change.result c.change.ensures.changes c.in-Some.first c.in-Some.is in
      let first = ch.by.0 in
      let behind = first.behind in
      let less = c.saturating_sub.ensures in
      let at : c.in-Some.first ≡ c.args.index + c.saturating_sub.result = omega (arith, behind, less) in
      if_some _ (value_at (eqb c.args.cluster) c.args.self.now.rb.entries) ch.before ch.found (λ within. subst (IsFirstZero ch.before c.args.index) at first);
  same =
      let ch = changed_by (Past c.args.index) (Finds c.args.index) c.args.cluster c.args.self.now.rb c.change.new.self c.change.result c.change.ensures.changes c.in-Some.first c.in-Some.is in
      rw (unchanged_by (Past c.args.index) (Finds c.args.index) c.args.cluster c.args.self.now.rb c.change.new.self c.change.result ch ch.by.1) refl;
}

pub returns-in-None-clause-first : goal.returns-in-None-clause-first
returns-in-None-clause-first g c =
    let left = stays (Past c.args.index) (Finds c.args.index) c.args.cluster c.args.self.now.rb c.change.new.self c.change.result c.change.ensures.changes c.in-None.is in
    if_some_then (Past c.args.index) _ (value_at (eqb c.args.cluster) c.args.self.now.rb.entries) left.1 (λ b past within. absurd (omega arith))

pub returns-in-None-clause-same : goal.returns-in-None-clause-same
returns-in-None-clause-same g c =
    let left = stays (Past c.args.index) (Finds c.args.index) c.args.cluster c.args.self.now.rb c.change.new.self c.change.result c.change.ensures.changes c.in-None.is in
    rw left.0 refl
