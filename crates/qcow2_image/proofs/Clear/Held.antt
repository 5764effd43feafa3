-- A table is still cached after one of its entries changes.
use Rattle.std.proofs.Common.{◌≡◌, ◌≤◌, ◌<◌, ℕ, true, false, Option, Some, None, inl, inr, refl, sym, ap, ◌∙◌, subst, IsSome}
use Rattle.qcow2_image.proofs.Common.{IfSome, cases_lt, L2TableView, entries_of, MetadataCaches, l2_at}
use Rattle.qcow2_alloc.specs.TableChanges.{SetsEntry}

module _ {S : Type 0} (old new : MetadataCaches S) (table index : ℕ) (entry : L2TableView → ℕ) (answer : Option (ℕ × ℕ)) where
  by_table : (x : Option L2TableView) → l2_at old table ≡ x → IfSome x (λ t. index < entries_of t → SetsEntry old new table index t (entry t) answer)
      → (IfSome x (λ t. entries_of t ≤ index) → (answer ≡ None) × (new ≡ old)) → IsSome x → IsSome (l2_at new table)
  by_table None is sets refused some = absurd (let e : false ≡ true = some in cc)
  by_table (Some t) is sets refused some = elim (cases_lt index (entries_of t)) [
    | inl within ↦ subst IsSome (sym (sets within).change.here) refl
    | inr past ↦ subst IsSome (sym (ap (λ (c : MetadataCaches S). l2_at c table) (refused past).1 ∙ is)) refl
  ]

  pub still_new_data : IfSome (l2_at old table) (λ t. index < entries_of t → SetsEntry old new table index t (entry t) answer)
      → (IfSome (l2_at old table) (λ t. entries_of t ≤ index) → (answer ≡ None) × (new ≡ old)) → IsSome (l2_at old table) → IsSome (l2_at new table)
  still_new_data sets refused some = by_table (l2_at old table) refl sets refused some
