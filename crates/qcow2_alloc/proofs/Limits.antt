-- Why an allocation is refused, other than by a fault.
use Rattle.std.proofs.Common.{◌≡◌, ◌<◌, ◌≤◌, ◌*◌, ◌^◌, ◌/◌, ◌+◌, ◌⊎◌, ◌↔◌, inl, inr, ℕ, Result, Ok, Err, ap, sym, ◌∙◌, subst, arith, Option, IsSome, refl, Bool, true, false, IsTrue, IfErr}
use Rattle.qcow2_alloc.proofs.Common.{StorageView, Pending, Allocator, ImageError, ImageFile, PlacesBlock, run_at, AllocatorInvariant, KeepsHeader, mul-le-mul_right, div-mul-le_self, IsHostCluster, greatest_offset, HeaderFields, counts_per_block, entries_per_cluster, cases_lt, EntryTableView, entry_count, IsUsed, IsLowestRun, IsLeastLength, opened, IsFaultOr, nameable_clusters, IsFull, CantGrow, CantCount}
use Rattle.qcow2_alloc.specs.declared.error.ImageError.TheVariants as I
use Rattle.qcow2_alloc.specs.ImageFile.{IsFault}
use Rattle.qcow2_alloc.proofs.ListedAfter.{header_counts}

-- another cause that follows from the one
pub cause_as : (A B : Type 0) (e : ImageError) → (A → B) → IsFaultOr A e → IsFaultOr B e
cause_as A B e to why = elim why [ inl fault ↦ inl fault | inr limit ↦ inr (limit.0, to limit.1) ]

pub limit_is_no_fault : (e : ImageError) → e ≡ I.Limit → IsFault e → ⊥
limit_is_no_fault e limit fault = elim fault [ inl storage ↦ absurd (let bad : I.Limit ≡ I.Storage = sym limit ∙ storage in cc) | inr memory ↦ absurd (let bad : I.Limit ≡ I.Memory = sym limit ∙ memory in cc) ]

-- a fault needs no other cause
pub fault_or : (result : Result (Unit {0}) ImageError) (Cause : Type 0) → IfErr result IsFault → IfErr result (IsFaultOr Cause)
fault_or (Ok done) Cause fault = tt
fault_or (Err e) Cause fault = inl fault

-- what a test says that failed
pub not_below : (n m : ℕ) (b : Bool) → IsTrue b ↔ (n < m) → b ≡ false → m ≤ n
not_below n m b reports not = elim (cases_lt n m) [ inl below ↦ absurd (let so = reports.1 below in let bad : true ≡ false = sym so ∙ not in cc) | inr above ↦ omega (arith, above) ]

-- what can be named below the end of a longer run can be named
pub host_below : (bits c k : ℕ) → c ≤ k → IsHostCluster bits k → IsHostCluster bits c
host_below bits c k le near = let h : c * 2 ^ bits ≤ k * 2 ^ bits = mul-le-mul_right (2 ^ bits) le in omega (arith, h, near)

-- the first cluster of a range, as a header of the same numbers tells it
pub range_near : (h h' : HeaderFields) (cluster bits : ℕ) → h' ≡ h → counts_per_block h ≡ 2 ^ bits → IsHostCluster h.cluster_bits cluster → IsHostCluster h'.cluster_bits (cluster / 2 ^ bits * counts_per_block h')
range_near h h' cluster bits same counts near =
    let e = ap (λ n. cluster / 2 ^ bits * n) counts in
    let le = div-mul-le_self cluster (2 ^ bits) in
    subst (λ (k : HeaderFields). IsHostCluster k.cluster_bits (cluster / 2 ^ bits * counts_per_block k)) (sym same) (host_below h.cluster_bits (cluster / 2 ^ bits * counts_per_block h) cluster (omega (arith, e, le)) near)

-- a reftable of a sound file has a place, and clusters of the file's size
pub is_able : {S : Type 0} (view : S → StorageView) (p : Pending) (file : ImageFile S) (t : Allocator) (bits c : ℕ) (Able : Type 0) → AllocatorInvariant view t p file → bits ≡ file.header.fields.cluster_bits → IsHostCluster file.header.fields.cluster_bits c → 0 < c
    → (0 < c → IsSome t.reftable.cluster → IsHostCluster t.reftable.cluster_bits c → IsHostCluster bits c → Able) → Able
is_able view p file t bits c Able sound same near some able =
    able some (subst (λ (o : Option ℕ). IsSome o) (sym sound.reftable.cluster) refl) (subst (λ n. IsHostCluster n c) (sym sound.reftable.bits) near) (subst (λ n. IsHostCluster n c) (sym same) near)

-- a refblock is placed, or a fault comes
pub placed_fault : {S : Type 0} (view : S → StorageView) (p p' : Pending) (old new : ImageFile S) (t : Allocator) (range at : ℕ) (result : Result (Unit {0}) ImageError) → PlacesBlock view p old t new p' range at result → IfErr result IsFault
placed_fault view p p' old new t range at (Ok done) placed = tt
placed_fault view p p' old new t range at (Err e) placed = placed.0

-- a cluster below the number of those that can be named
pub host_of_few : (h : HeaderFields) (c : ℕ) → c < nameable_clusters h → IsHostCluster h.cluster_bits c
host_of_few h c below =
    let le : c * 2 ^ h.cluster_bits ≤ greatest_offset / 2 ^ h.cluster_bits * 2 ^ h.cluster_bits = mul-le-mul_right (2 ^ h.cluster_bits) (omega arith) in
    let most = div-mul-le_self greatest_offset (2 ^ h.cluster_bits) in
    omega (arith, le, most)

-- what stands in the way, by the header's numbers and the clusters that can't be had
abbrev GrowsNot : HeaderFields → (ℕ → Type 0) → EntryTableView → ℕ → Type 0
GrowsNot h Busy t index =
    (length : ℕ) → length ≤ 2 ^ 20 → IsLeastLength (entry_count t) index (entries_per_cluster h) (counts_per_block h) length → (end : ℕ) → end ≤ length * counts_per_block h → end ≤ nameable_clusters h
    → (first n : ℕ) → 0 < first → n ≡ opened t (counts_per_block h) first n + length / entries_per_cluster h → first + n ≤ end → (k : ℕ) × (first ≤ k) × (k < first + n) × Busy k

grows_not_still : (h : HeaderFields) (A B : ℕ → Type 0) (t : EntryTableView) (index : ℕ) → ((k : ℕ) → A k → B k) → GrowsNot h A t index → GrowsNot h B t index
grows_not_still h A B t index to not length small least end low high first n some is within = let at = not length small least end low high first n some is within in (at.0, at.1, at.2, to at.0 at.3)

module _ {S : Type 0} (view : S → StorageView) (a b : ImageFile S) (t t' : Allocator) where
  -- a reftable that couldn't grow, as it is said of a cluster's count
  pub grown_why : (cluster bits : ℕ) (e : ImageError) → counts_per_block a.header.fields ≡ 2 ^ bits → KeepsHeader a.header b.header → entry_count t.reftable ≤ cluster / 2 ^ bits
      → IsFaultOr ((t'.reftable ≡ t.reftable) × CantGrow (IsUsed view b) b.header.fields (λ k. 0) t.reftable (cluster / 2 ^ bits)) e → IsFaultOr (CantCount (IsUsed view b) b.header.fields (λ k. 0) t' cluster) e
  grown_why cluster bits e counts keeps past why =
      let per : counts_per_block b.header.fields ≡ 2 ^ bits = header_counts a.header b.header keeps ∙ counts in
      let range : cluster / counts_per_block b.header.fields ≡ cluster / 2 ^ bits = ap (λ n. cluster / n) per in
      cause_as ((t'.reftable ≡ t.reftable) × CantGrow (IsUsed view b) b.header.fields (λ k. 0) t.reftable (cluster / 2 ^ bits)) (CantCount (IsUsed view b) b.header.fields (λ k. 0) t' cluster) e
      (λ cause. (
        (let same = ap entry_count cause.0 in omega (arith, same, range, past)),
        subst (λ (x : EntryTableView). CantGrow (IsUsed view b) b.header.fields (λ k. 0) x (cluster / counts_per_block b.header.fields)) (sym cause.0) (subst (λ n. CantGrow (IsUsed view b) b.header.fields (λ k. 0) t.reftable n) (sym range) cause.1),
      )) why

  -- after those that were taken before were given back
  pub count_back : (first taken cluster : ℕ) → b.header ≡ a.header → t'.reftable ≡ t.reftable → ((k : ℕ) → run_at first taken k ≡ 0 → IsUsed view a k → IsUsed view b k)
      → CantCount (IsUsed view a) a.header.fields (λ k. 0) t cluster → CantCount (IsUsed view b) b.header.fields (run_at first taken) t' cluster
  count_back first taken cluster same_header same kept not =
      let h : b.header.fields ≡ a.header.fields = ap (λ x. x.fields) same_header in
      let busy : (k : ℕ) → IsUsed view a k ⊎ (0 < 0) → IsUsed view b k ⊎ (0 < run_at first taken k) = λ k was. elim was [
        | inl used ↦ elim (cases_lt 0 (run_at first taken k)) [ inl some ↦ inr some | inr none ↦ inl (kept k (omega (arith, none)) used) ]
        | inr none ↦ absurd (omega (arith, none))
      ] in
      let now = grows_not_still a.header.fields (λ k. IsUsed view a k ⊎ (0 < 0)) (λ k. IsUsed view b k ⊎ (0 < run_at first taken k)) t.reftable (cluster / counts_per_block a.header.fields) busy not.1 in
      subst (λ (g : HeaderFields). (entry_count t'.reftable ≤ cluster / counts_per_block g) × GrowsNot g (λ k. IsUsed view b k ⊎ (0 < run_at first taken k)) t'.reftable (cluster / counts_per_block g)) (sym h)
      (subst (λ (x : EntryTableView). (entry_count x ≤ cluster / counts_per_block a.header.fields) × GrowsNot a.header.fields (λ k. IsUsed view b k ⊎ (0 < run_at first taken k)) x (cluster / counts_per_block a.header.fields)) (sym same) (not.0, now))

-- where the search for a run ended, each run has a cluster in use
pub full_behind : {S : Type 0} (view : S → StorageView) (file : ImageFile S) (first n limit : ℕ) → limit ≡ nameable_clusters file.header.fields → (n ≤ limit → limit < first + n) → IsLowestRun (IsUsed view file) first n → IsFull (IsUsed view file) file.header.fields n
full_behind view file first n limit is past lowest start within = let at = lowest start (let over = past (omega (arith, is, within)) in omega (arith, is, over, within)) in (at.0, at.1, at.2, at.4)
