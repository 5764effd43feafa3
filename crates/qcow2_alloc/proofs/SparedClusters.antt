-- Sparing clusters one after another, and which these are on a sound image.
use Rattle.std.proofs.Common.{◌≡◌, ◌≢◌, ◌⊎◌, ◌+◌, ◌-◌, ◌*◌, ◌/◌, ◌^◌, ◌<◌, ◌≤◌, inl, inr, ℕ, Bool, true, false, Option, Some, None, List, IsTrue, IsFalse, sym, ap, ◌∙◌, subst, refl, arith, IfSome, is_some}
use Rattle.qcow2_alloc.proofs.Common.{cases_eq, cond-true, and_from, le-leb, lt-ltb, pow_pos, le-div, div-mul-le_self, mul-le-mul_left, pow_mono, StorageView, IsIn, IsRun, Adds, Bytes, block_offset, host_offset, reftable_entry, l1_entry, EntryTableView, IsL1TableOf, IsRefTableOf, entry_count, cluster_size, named_by_l1_table, named_by_reftable, named_for_tables, entry_at, HeaderFields, shares, block_has, table_has, in_l1, in_reftable, Pending, contents_in, AllocatorInvariant, NoFreeBelowHint, IsWithin, NamesBlockIn, NamesTableIn, IsNamedHere, Spares, Allocator, ImageFile}
use Rattle.std.specs.Prelude.{IsNone}
use Rattle.qcow2_alloc.proofs.Hints.{tables_used}

-- a number that a run was found for lies in it
pub lies_in : (runs : List (ℕ × ℕ)) (k : ℕ) (run : Option (ℕ × ℕ)) → IfSome run (IsRun runs) → IfSome run (λ r. (r.0 ≤ k) × (k < r.0 + r.1)) → IsTrue (is_some run) → IsIn runs k
lies_in runs k (Some r) is within so = is.all k within.0 within.1
lies_in runs k None is within so = absurd (let bad : false ≡ true = so in cc)

-- one that none was found for lies in none
pub lies_not : (runs : List (ℕ × ℕ)) (k : ℕ) (run : Option (ℕ × ℕ)) → (IsNone run → IsIn runs k → ⊥) → IsIn runs k → IsTrue (is_some run)
lies_not runs k (Some r) none is = refl
lies_not runs k None none is = absurd (none refl is)

-- only what is spared changes, from step to step
pub named_rest : (a b c : Allocator) → b ≡ record a { named = b.named } → c ≡ record b { named = c.named } → c ≡ record a { named = c.named }
named_rest a b c one two = two ∙ ap (λ (x : Allocator). record x { named = c.named }) one

-- nothing is named
pub spares_none : (IsNamed : ℕ → Type 0) (l : List (ℕ × ℕ)) → ((k : ℕ) → IsNamed k → ⊥) → Spares IsNamed l l true
spares_none IsNamed l none = record { was = λ k is. inl is; stays = λ k is. is; whole = λ so k named. absurd (none k named) }

-- one cluster was given, or there was no room
pub spares_one : (old new : List (ℕ × ℕ)) (cluster : ℕ) (given : Bool) → (IsTrue given → Adds old new cluster 1) → (IsFalse given → new ≡ old) → Spares (λ k. k ≡ cluster) old new given
spares_one old new cluster true adds none = let a = adds refl in record {
  was = λ k is. elim (cases_eq k cluster) [ inl same ↦ inr same | inr other ↦ inl (a.was k is (λ low high. other (omega (arith, low, high)))) ];
  stays = a.stays;
  whole = λ so k is. a.added k (omega (arith, is)) (omega (arith, is));
}
spares_one old new cluster false adds none = record {
  was = λ k is. inl (subst (λ l. IsIn l k) (none refl) is);
  stays = λ k is. subst (λ l. IsIn l k) (sym (none refl)) is;
  whole = λ so. absurd (let bad : false ≡ true = so in cc);
}

-- clusters were spared one after the other
pub spares_more : (A B C : ℕ → Type 0) (a b c : List (ℕ × ℕ)) (all : Bool) → ((k : ℕ) → A k ⊎ B k → C k) → (IsTrue all → (k : ℕ) → C k → A k ⊎ B k) → Spares A a b true → Spares B b c all → Spares C a c all
spares_more A B C a b c all to from one two = record {
  was = λ k is. elim (two.was k is) [
    | inl before ↦ elim (one.was k before) [ inl old ↦ inl old | inr first ↦ inr (to k (inl first)) ]
    | inr then ↦ inr (to k (inr then))
  ];
  stays = λ k is. two.stays k (one.stays k is);
  whole = λ so k is. elim (from so k is) [ inl first ↦ two.stays k (one.whole refl k first) | inr then ↦ two.whole so k then ];
}

-- others are named the same way
pub spares_as : (A B : ℕ → Type 0) (a b : List (ℕ × ℕ)) (all : Bool) → ((k : ℕ) → A k → B k) → (IsTrue all → (k : ℕ) → B k → A k) → Spares A a b all → Spares B a b all
spares_as A B a b all to from one = record {
  was = λ k is. elim (one.was k is) [ inl old ↦ inl old | inr first ↦ inr (to k first) ];
  stays = one.stays;
  whole = λ so k is. one.whole so k (from so k is);
}

-- one cluster more of a run
pub run_more : (first cluster : ℕ) (a b c : List (ℕ × ℕ)) → first ≤ cluster → Spares (IsWithin first cluster) a b true → Spares (λ k. k ≡ cluster) b c true → Spares (IsWithin first (cluster + 1)) a c true
run_more first cluster a b c low one two =
    spares_more (IsWithin first cluster) (λ k. k ≡ cluster) (IsWithin first (cluster + 1)) a b c true (λ k is. elim is [ inl within ↦ (within.0, (let lt = within.1 in omega (arith, lt))) | inr same ↦ (omega (arith, low, same), omega (arith, same)) ])
    (λ so k within. elim (cases_eq k cluster) [ inl same ↦ inr same | inr other ↦ inl (within.0, (let lt = within.1 in omega (arith, lt, other))) ]) one two

-- there was no room for it
pub run_ends : (first end cluster : ℕ) (a b c : List (ℕ × ℕ)) → first ≤ cluster → cluster < end → Spares (IsWithin first cluster) a b true → Spares (λ k. k ≡ cluster) b c false → Spares (IsWithin first end) a c false
run_ends first end cluster a b c low lt one two =
    spares_more (IsWithin first cluster) (λ k. k ≡ cluster) (IsWithin first end) a b c false (λ k is. elim is [ inl within ↦ (within.0, (let below = within.1 in omega (arith, below, lt))) | inr same ↦ (omega (arith, low, same), omega (arith, same, lt)) ])
    (λ so. absurd (let bad : false ≡ true = so in cc)) one two

-- the cluster of an offset of 64 bits
pub first_near : (offset bits : ℕ) → offset < 2 ^ 64 → 9 ≤ bits → offset / 2 ^ bits < 2 ^ 55
first_near offset bits near low =
    let wide : 2 ^ 9 ≤ 2 ^ bits = pow_mono low in
    let one : offset / 2 ^ bits * 2 ^ 9 ≤ offset / 2 ^ bits * 2 ^ bits = mul-le-mul_left (offset / 2 ^ bits) wide in
    let two : offset / 2 ^ bits * 2 ^ bits ≤ offset = div-mul-le_self offset (2 ^ bits) in
    omega (arith, one, two, near)

-- a run with other words for its ends
pub spares_within : (first end first' end' : ℕ) (a b : List (ℕ × ℕ)) (all : Bool) → first ≡ first' → end ≡ end' → Spares (IsWithin first end) a b all → Spares (IsWithin first' end') a b all
spares_within first end first' end' a b all same_first same_end one = subst (λ e. Spares (IsWithin first' e) a b all) same_end (subst (λ f. Spares (IsWithin f end) a b all) same_first one)

-- the clusters of the L1 table, in the words of a call
pub l1_within : (h : HeaderFields) (bits offset entries clusters : ℕ) (a b : List (ℕ × ℕ)) (all : Bool) → bits ≡ h.cluster_bits → offset ≡ h.l1_offset → entries ≡ h.l1_entries → clusters ≡ (8 * entries + 2 ^ bits - 1) / 2 ^ bits
    → Spares (IsWithin (offset / 2 ^ bits) (offset / 2 ^ bits + clusters)) a b all → Spares (IsWithin (h.l1_offset / cluster_size h) (h.l1_offset / cluster_size h + (8 * h.l1_entries + cluster_size h - 1) / cluster_size h)) a b all
l1_within h bits offset entries clusters a b all is_bits is_offset is_entries is_clusters one =
    let first : offset / 2 ^ bits ≡ h.l1_offset / cluster_size h = ap (λ n. offset / 2 ^ n) is_bits ∙ ap (λ n. n / cluster_size h) is_offset in
    let many : clusters ≡ (8 * h.l1_entries + cluster_size h - 1) / cluster_size h = is_clusters ∙ ap (λ n. (8 * entries + 2 ^ n - 1) / 2 ^ n) is_bits ∙ ap (λ n. (8 * n + cluster_size h - 1) / cluster_size h) is_entries in
    spares_within (offset / 2 ^ bits) (offset / 2 ^ bits + clusters) (h.l1_offset / cluster_size h) (h.l1_offset / cluster_size h + (8 * h.l1_entries + cluster_size h - 1) / cluster_size h) a b all first
    (ap (λ n. n + clusters) first ∙ ap (λ n. h.l1_offset / cluster_size h + n) many) one

-- those of the reftable
pub reftable_within : (h : HeaderFields) (bits offset clusters : ℕ) (a b : List (ℕ × ℕ)) (all : Bool) → bits ≡ h.cluster_bits → offset ≡ h.reftable_offset → clusters ≡ h.reftable_clusters → Spares (IsWithin (offset / 2 ^ bits) (offset / 2 ^ bits + clusters)) a b all
    → Spares (IsWithin (h.reftable_offset / cluster_size h) (h.reftable_offset / cluster_size h + h.reftable_clusters)) a b all
reftable_within h bits offset clusters a b all is_bits is_offset is_clusters one =
    let first : offset / 2 ^ bits ≡ h.reftable_offset / cluster_size h = ap (λ n. offset / 2 ^ n) is_bits ∙ ap (λ n. n / cluster_size h) is_offset in
    spares_within (offset / 2 ^ bits) (offset / 2 ^ bits + clusters) (h.reftable_offset / cluster_size h) (h.reftable_offset / cluster_size h + h.reftable_clusters) a b all first
    (ap (λ n. n + clusters) first ∙ ap (λ n. h.reftable_offset / cluster_size h + n) is_clusters) one

-- the first of two kinds is spared in part
pub spares_first : (A B : ℕ → Type 0) (a b : List (ℕ × ℕ)) → Spares A a b false → Spares (λ k. A k ⊎ B k) a b false
spares_first A B a b one = spares_as A (λ k. A k ⊎ B k) a b false (λ k is. inl is) (λ so. absurd (let bad : false ≡ true = so in cc)) one

-- the first of two kinds is spared, and of the other none, some or all
pub spares_both : (A B : ℕ → Type 0) (a b c : List (ℕ × ℕ)) (all : Bool) → Spares A a b true → Spares B b c all → Spares (λ k. A k ⊎ B k) a c all
spares_both A B a b c all one two = spares_more A B (λ k. A k ⊎ B k) a b c all (λ k is. is) (λ so k is. is) one two

-- ---- what the tables name

block_later : (size n m : ℕ) (t : EntryTableView) (k : ℕ) → n ≤ m → NamesBlockIn size n t k → NamesBlockIn size m t k
block_later size n m t k le is = record { range = is.range; within = (let lt = is.within in omega (arith, lt, le)); some = is.some; here = is.here }

-- an entry that names nothing
pub block_none : (size n : ℕ) (t : EntryTableView) (a b : List (ℕ × ℕ)) → block_offset (entry_at t.bytes n) ≡ 0 → Spares (NamesBlockIn size n t) a b true → Spares (NamesBlockIn size (n + 1) t) a b true
block_none size n t a b none one = spares_as (NamesBlockIn size n t) (NamesBlockIn size (n + 1) t) a b true (λ k is. block_later size n (n + 1) t k (omega arith) is)
    (λ so k is. elim (cases_eq is.range n) [
      | inl same ↦ absurd (is.some (subst (λ i. block_offset (entry_at t.bytes i) ≡ 0) (sym same) none))
      | inr other ↦ record { range = is.range; within = (let lt = is.within in omega (arith, lt, other)); some = is.some; here = is.here }
    ]) one

-- the next entry names a refblock
pub block_more : (size n m cluster : ℕ) (t : EntryTableView) (a b c : List (ℕ × ℕ)) (all : Bool) → n < m → block_offset (entry_at t.bytes n) ≢ 0 → block_offset (entry_at t.bytes n) / size ≡ cluster → (IsTrue all → m ≡ n + 1)
    → Spares (NamesBlockIn size n t) a b true → Spares (λ k. k ≡ cluster) b c all → Spares (NamesBlockIn size m t) a c all
block_more size n m cluster t a b c all lt some here next one two =
    spares_more (NamesBlockIn size n t) (λ k. k ≡ cluster) (NamesBlockIn size m t) a b c all
    (λ k is. elim is [ inl before ↦ block_later size n m t k (omega (arith, lt)) before | inr same ↦ record { range = n; within = lt; some = some; here = here ∙ sym same } ])
    (λ so k is. elim (cases_eq is.range n) [
      | inl same ↦ inr (sym is.here ∙ ap (λ i. block_offset (entry_at t.bytes i) / size) same ∙ here)
      | inr other ↦ inl (record { range = is.range; within = (let low = is.within in let m_is = next so in omega (arith, low, other, m_is)); some = is.some; here = is.here })
    ]) one two

table_later : (size n m : ℕ) (t : EntryTableView) (k : ℕ) → n ≤ m → NamesTableIn size n t k → NamesTableIn size m t k
table_later size n m t k le is = record { index = is.index; within = (let lt = is.within in omega (arith, lt, le)); some = is.some; here = is.here }

-- an entry that names nothing
pub table_none : (size n : ℕ) (t : EntryTableView) (a b : List (ℕ × ℕ)) → host_offset (entry_at t.bytes n) ≡ 0 → Spares (NamesTableIn size n t) a b true → Spares (NamesTableIn size (n + 1) t) a b true
table_none size n t a b none one = spares_as (NamesTableIn size n t) (NamesTableIn size (n + 1) t) a b true (λ k is. table_later size n (n + 1) t k (omega arith) is)
    (λ so k is. elim (cases_eq is.index n) [
      | inl same ↦ absurd (is.some (subst (λ i. host_offset (entry_at t.bytes i) ≡ 0) (sym same) none))
      | inr other ↦ record { index = is.index; within = (let lt = is.within in omega (arith, lt, other)); some = is.some; here = is.here }
    ]) one

-- the next entry names an L2 table
pub table_more : (size n m cluster : ℕ) (t : EntryTableView) (a b c : List (ℕ × ℕ)) (all : Bool) → n < m → host_offset (entry_at t.bytes n) ≢ 0 → host_offset (entry_at t.bytes n) / size ≡ cluster → (IsTrue all → m ≡ n + 1)
    → Spares (NamesTableIn size n t) a b true → Spares (λ k. k ≡ cluster) b c all → Spares (NamesTableIn size m t) a c all
table_more size n m cluster t a b c all lt some here next one two =
    spares_more (NamesTableIn size n t) (λ k. k ≡ cluster) (NamesTableIn size m t) a b c all
    (λ k is. elim is [ inl before ↦ table_later size n m t k (omega (arith, lt)) before | inr same ↦ record { index = n; within = lt; some = some; here = here ∙ sym same } ])
    (λ so k is. elim (cases_eq is.index n) [
      | inl same ↦ inr (sym is.here ∙ ap (λ i. host_offset (entry_at t.bytes i) / size) same ∙ here)
      | inr other ↦ inl (record { index = is.index; within = (let low = is.within in let m_is = next so in omega (arith, low, other, m_is)); some = is.some; here = is.here })
    ]) one two

-- the same refblocks
pub blocks_as : (size size' : ℕ) (t t' : EntryTableView) (a b : List (ℕ × ℕ)) (all : Bool) → size ≡ size' → t ≡ t' → Spares (NamesBlockIn size (entry_count t) t) a b all → Spares (NamesBlockIn size' (entry_count t') t') a b all
blocks_as size size' t t' a b all same_size same one = subst (λ (x : EntryTableView). Spares (NamesBlockIn size' (entry_count x) x) a b all) same (subst (λ n. Spares (NamesBlockIn n (entry_count t) t) a b all) same_size one)

-- the same L2 tables
pub tables_as : (size size' : ℕ) (t : EntryTableView) (a b : List (ℕ × ℕ)) (all : Bool) → size ≡ size' → Spares (NamesTableIn size (entry_count t) t) a b all → Spares (NamesTableIn size' (entry_count t) t) a b all
tables_as size size' t a b all same_size one = subst (λ n. Spares (NamesTableIn n (entry_count t) t) a b all) same_size one

-- ---- on a sound image

-- a cluster that is named so is named for a table
pub named_some : (h : HeaderFields) (b : Bytes) (reftable l1_table : EntryTableView) (k : ℕ) → IsRefTableOf h b reftable → IsL1TableOf h b l1_table → IsNamedHere h reftable l1_table k → 0 < named_for_tables h b k
named_some h b reftable l1_table k is_reftable is_l1 (inl (inl (inl within))) =
    let one : in_l1 h k ≡ 1 = cond-true {A = ℕ} _ 1 0 (and_from _ _ (le-leb (h.l1_offset / cluster_size h) k within.0) (lt-ltb k (h.l1_offset / cluster_size h + (8 * h.l1_entries + cluster_size h - 1) / cluster_size h) within.1)) in
    let parts = shares h b k in omega (arith, one, parts)
named_some h b reftable l1_table k is_reftable is_l1 (inl (inl (inr within))) =
    let up : h.reftable_clusters ≤ (h.reftable_clusters * cluster_size h + cluster_size h - 1) / cluster_size h =
    le-div h.reftable_clusters (h.reftable_clusters * cluster_size h + cluster_size h - 1) (cluster_size h) (pow_pos h.cluster_bits) (let some = pow_pos h.cluster_bits in omega (arith, some)) in
    let lt = within.1 in
    let one : in_reftable h k ≡ 1 = cond-true {A = ℕ} _ 1 0 (and_from _ _ (le-leb (h.reftable_offset / cluster_size h) k within.0)
    (lt-ltb k (h.reftable_offset / cluster_size h + (h.reftable_clusters * cluster_size h + cluster_size h - 1) / cluster_size h) (omega (arith, lt, up)))) in
    let parts = shares h b k in omega (arith, one, parts)
named_some h b reftable l1_table k is_reftable is_l1 (inl (inr named)) =
    let same : block_offset (entry_at reftable.bytes named.range) ≡ block_offset (reftable_entry h b named.range) = ap block_offset (is_reftable named.range) in
    let one = subst (λ n. 1 ≤ named_by_reftable h b n) (ap (λ n. n / cluster_size h) (sym same) ∙ named.here) (block_has h b named.range (λ none. named.some (same ∙ none))) in
    let parts = shares h b k in omega (arith, one, parts)
named_some h b reftable l1_table k is_reftable is_l1 (inr named) =
    let same : host_offset (entry_at l1_table.bytes named.index) ≡ host_offset (l1_entry h b named.index) = ap host_offset (is_l1 named.index) in
    let one = subst (λ n. 1 ≤ named_by_l1_table h b n) (ap (λ n. n / cluster_size h) (sym same) ∙ named.here) (table_has h b named.index (λ none. named.some (same ∙ none))) in
    let parts = shares h b k in omega (arith, one, parts)

-- on a sound image they are in use
pub spared_used : {S : Type 0} (view : S → StorageView) (p : Pending) (file : ImageFile S) (t t' : Allocator) (l1_table : EntryTableView) (all : Bool) → t' ≡ record t { named = t'.named } → Spares (IsNamedHere file.header.fields t.reftable l1_table) t.named t'.named all
    → AllocatorInvariant view t p file → IsL1TableOf file.header.fields (contents_in view file) l1_table → NoFreeBelowHint view t file → NoFreeBelowHint view t' file
spared_used view p file t t' l1_table all rest spares sound is_l1 hint = subst (λ (x : Allocator). NoFreeBelowHint view x file) (sym rest) (λ k passed. elim passed [
  | inl below ↦ hint k (inl below)
  | inr (inr covered) ↦ hint k (inr (inr covered))
  | inr (inl spared) ↦ elim (spares.was k spared) [
    | inl old ↦ hint k (inr (inl old))
    | inr named ↦ tables_used view p file k sound.sound (named_some file.header.fields (contents_in view file) t.reftable l1_table k sound.reftable.entries is_l1 named)
  ]
])
