-- A count that was lowered.
use Rattle.std.proofs.Common.{ap, ◌∙◌, eqb, ◌≡◌, ◌+◌, ◌-◌, ◌/◌, ◌<◌, ◌%◌, ℕ, Option, Some, None, Ok, IfSome, IsSome, refl, sym, subst, arith, is_some}
use Rattle.qcow2_alloc.proofs.Common.{option_map, value_at, cleared_l2, IsNone, HeaderFields, EntryTableView, NamesBlock, counts_per_block, RefBlockView, count_at, IsDecremented, TriesToDecrement, IsOneChange, rb_at, LeavesCount, SetsCount, MetadataCaches}
use Rattle.qcow2_alloc.specs.Leaks.{LoadsBlocks}
use Rattle.qcow2_alloc.proofs.KeptTables.Inserting.{found_or_not}

-- one less than one more
pub one_less : (n left : ℕ) → n ≡ left + 1 → left ≡ n - 1
one_less n left is = omega (arith, is)

pub one_above : (n left : ℕ) → n ≡ left + 1 → 0 < n
one_above n left is = omega (arith, is)

module _ {S : Type 0} (h : HeaderFields) (t : EntryTableView) (old before after : MetadataCaches S) (loads : LoadsBlocks old before) (at index cluster : ℕ) (is : index ≡ cluster % counts_per_block h)
    (names : NamesBlock h t (cluster / counts_per_block h) (Some at)) where
  lowered_in : (block : RefBlockView) (left : ℕ) → rb_at before at ≡ Some block → LeavesCount before after at index block (Some left) → IsOneChange after.is_changed before.changes after.changes → after.l2 ≡ before.l2 → IsDecremented h t old after cluster
  lowered_in block left new_data less recorded apart =
      let place = cluster % counts_per_block h in
      let here = subst (λ n. LeavesCount before after at n block (Some left)) is less in
      record {
        before = before;
        loads = loads;
        at = at;
        names = names;
        block = block;
        new_data = new_data;
        some = one_above (count_at block place) left here.1;
        falls = subst (SetsCount before after at place block) (one_less (count_at block place) left here.1) here.2;
        tables = λ c. ap (λ l2. option_map cleared_l2 (value_at (λ k. eqb c k) l2.entries)) apart ∙ loads.tables c;
        recorded = recorded;
      }

  pub tried : (o : Option ℕ) → IfSome (rb_at before at) (λ block. LeavesCount before after at index block o) → (IsNone (rb_at before at) → IsNone o)
      → (IsSome o → IsOneChange after.is_changed before.changes after.changes) → (IsNone o → after ≡ before) → after.l2 ≡ before.l2 → TriesToDecrement h t old after cluster (Ok (is_some o))
  tried None counts missing recorded same apart = subst (LoadsBlocks old) (sym (same refl)) loads
  tried (Some left) counts missing recorded same apart =
      found_or_not (rb_at before at)
      (λ none. absurd (let bad = missing (rw none refl) in cc))
      (λ block some. lowered_in block left some (subst (λ (o : Option RefBlockView). IfSome o (λ b. LeavesCount before after at index b (Some left))) some counts) (recorded refl) apart)
