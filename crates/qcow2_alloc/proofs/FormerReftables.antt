-- Reftables that were replaced by longer ones, and whose clusters are listed to be freed.
use Rattle.std.proofs.Common.{◌≡◌, ◌+◌, ◌-◌, ◌*◌, ◌/◌, ◌%◌, ◌^◌, ◌<◌, ◌≤◌, ◌∷◌, ◌++◌, ℕ, List, [], length, Some, refl, sym, ap, ◌∙◌, subst, append_assoc, arith}
use Rattle.qcow2_alloc.proofs.Common.{EntryTableView, entry_count, IsRefTable, NamesBehindHeader, KeepsRefblocks, KeepsEntries, KeepsNamed, metadata_entry, SamePlace, IsRunOfTable, FillsClusters, ReftableReplaced, OldReftablesQueued, ClustersToFreeEntry}
use Rattle.std.proofs.lemmas.List.{append-nil}
use Rattle.qcow2_alloc.proofs.AllocationSteps.{behind_none, behind_then, ranges_then, entries_then, entries_less}

pub place_none : (t : EntryTableView) → SamePlace t t
place_none t = record { cluster = refl; bits = refl; count = refl; others = λ k none. refl; behind = behind_none t }

place_as : (P : ℕ → Type 0) (a b : EntryTableView) → KeepsEntries P a b → SamePlace a b
place_as P a b keeps = entries_less P (λ k. ⊥) a b (λ k none. absurd none) keeps

pub place_then : (a b c : EntryTableView) → SamePlace a b → SamePlace b c → SamePlace a c
place_then = entries_then (λ k. ⊥)

run_as : (a b : EntryTableView) (e : ClustersToFreeEntry) → SamePlace a b → IsRunOfTable b e → IsRunOfTable a e
run_as a b e same run = record {
  cluster = run.cluster;
  placed = sym same.cluster ∙ run.placed;
  run = run.run ∙ ap (λ n. metadata_entry run.cluster ((8 * n + 2 ^ b.cluster_bits - 1) / 2 ^ b.cluster_bits)) same.count ∙ ap (λ n. metadata_entry run.cluster ((8 * entry_count a + 2 ^ n - 1) / 2 ^ n)) same.bits;
}

gave_as : (a b c : EntryTableView) (es : List ClustersToFreeEntry) → SamePlace a b → ReftableReplaced b es c → ReftableReplaced a es c
gave_as a b c [] same gone = place_then a b c same gone
gave_as a b c (e ∷ es) same gone = (run_as a b e same gone.0, gone.1, subst (λ n. n < entry_count gone.1) same.count gone.2, gone.3 ∙ same.bits, gone.4, gone.5)

gave_then : (a b c : EntryTableView) (es fs : List ClustersToFreeEntry) → ReftableReplaced a es b → ReftableReplaced b fs c → ReftableReplaced a (es ++ fs) c
gave_then a b c [] fs first then = gave_as a b c fs first then
gave_then a b c (e ∷ es) fs first then = (first.0, first.1, first.2, first.3, first.4, gave_then first.1 b c es fs first.5 then)

-- it became no shorter
pub gave_longer : (a b : EntryTableView) (es : List ClustersToFreeEntry) → ReftableReplaced a es b → entry_count a ≤ entry_count b
gave_longer a b [] same = let is = same.count in omega (arith, is)
gave_longer a b (e ∷ es) gone =
    let once = gone.2 in
    let then = gave_longer gone.1 b es gone.5 in
    omega (arith, once, then)

-- nothing is listed
pub former_same : (a b : EntryTableView) (l m : List ClustersToFreeEntry) → KeepsNamed a b → m ≡ l → OldReftablesQueued a b l m
former_same a b l m named is = record { more = []; is = is ∙ sym (append-nil l); gone = place_as _ a b named; behind = named.behind; ranges = named.others }

pub former_none : (a : EntryTableView) (l : List ClustersToFreeEntry) → OldReftablesQueued a a l l
former_none a l = record { more = []; is = sym (append-nil l); gone = place_none a; behind = behind_none a; ranges = λ k has. refl }

-- one step after another
pub former_then : (a b c : EntryTableView) (l m n : List ClustersToFreeEntry) → OldReftablesQueued a b l m → OldReftablesQueued b c m n → OldReftablesQueued a c l n
former_then a b c l m n first then = record {
  more = first.more ++ then.more;
  is = then.is ∙ ap (λ (x : List ClustersToFreeEntry). x ++ then.more) first.is ∙ append_assoc l first.more then.more;
  gone = gave_then a b c first.more then.more first.gone then.gone;
  behind = behind_then a b c first.behind then.behind;
  ranges = ranges_then a b c first.ranges then.ranges;
}

-- after which reftable and list stay
pub former_still : (a b c : EntryTableView) (l m n : List ClustersToFreeEntry) → OldReftablesQueued a b l m → c ≡ b → n ≡ m → OldReftablesQueued a c l n
former_still a b c l m n first same_table same_list = subst (λ (t : EntryTableView). OldReftablesQueued a t l n) (sym same_table) (subst (OldReftablesQueued a b l) (sym same_list) first)

-- one goes
pub former_one : (a b : EntryTableView) (e : ClustersToFreeEntry) (l m : List ClustersToFreeEntry) → IsRunOfTable a e → entry_count a < entry_count b → FillsClusters b → NamesBehindHeader a b → KeepsRefblocks a b → m ≡ l ++ e ∷ [] → OldReftablesQueued a b l m
former_one a b e l m run longer fills behind ranges is = record { more = e ∷ []; is = is; gone = (run, b, longer, behind.bits, fills, place_none b); behind = behind; ranges = ranges }

-- a reftable has whole entries
pub run_of_table : (t : EntryTableView) (e : ClustersToFreeEntry) (c : ℕ) → t.cluster ≡ Some c → IsRefTable t → e ≡ metadata_entry c ((length t.bytes + 2 ^ t.cluster_bits - 1) / 2 ^ t.cluster_bits) → IsRunOfTable t e
run_of_table t e c placed is run = record {
  cluster = c;
  placed = placed;
  run = run ∙ ap (λ n. metadata_entry c ((n + 2 ^ t.cluster_bits - 1) / 2 ^ t.cluster_bits)) (whole_entries (length t.bytes) is.table.whole);
}
  where
    whole_entries : (n : ℕ) → n % 8 ≡ 0 → n ≡ 8 * (n / 8)
    whole_entries n whole = omega (arith, whole)
