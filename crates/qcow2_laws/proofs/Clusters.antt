-- What each step does to the numbers of one cluster.
use Rattle.std.proofs.Common.{◌+◌, ◌-◌, ◌<◌, ◌≤◌, ◌≡◌, ◌⊎◌, ℕ, arith}
use Rattle.qcow2_laws.proofs.Common.{Direction, Neither, L2DependsOnRb, RbDependsOnL2, Cluster, ClusterInvariant, Ordered}

-- how the sums of a cluster's numbers go together
pub record Tied (k : Cluster) : Type 0 where
  pub on_storage : k.in_storage ≤ k.in_either
  pub known : k.in_known ≤ k.in_either
  pub marks_in_storage : k.marks_in_storage ≤ k.marks_either
  pub marks_known : k.marks_known ≤ k.marks_either
  pub marks : k.marks_either ≤ k.in_either
  pub named : k.marks_known ≤ k.in_known
  pub based : k.marks_in_storage ≤ k.in_storage

pub record Good (d : Direction) (k : Cluster) (surplus : ℕ) : Type 0 where
  pub each_cluster : ClusterInvariant k surplus
  pub ordered : Ordered d k

-- how the numbers of a mix go with those before
pub record Nearer (k : Cluster) (a b c e n : ℕ) : Type 0 where
  pub in_storage : a ≤ k.in_either
  pub in_either : b ≤ k.in_either
  pub marks_in_storage : c ≤ k.marks_either
  pub marks_either : e ≤ k.marks_either
  pub count : (n ≡ k.storage_count) ⊎ (n ≡ k.known_count)

-- and what order asks for
abbrev pub InOrder : Direction → Cluster → ℕ → ℕ → ℕ → ℕ → ℕ → Type 0
InOrder Neither k a b c e n = Unit {0}
InOrder L2DependsOnRb k a b c e n = ((a ≡ k.in_storage) × (c ≡ k.marks_in_storage)) ⊎ (n ≡ k.known_count)
InOrder RbDependsOnL2 k a b c e n = (n ≡ k.storage_count) ⊎ ((b ≡ k.in_known) × (e ≡ k.marks_known))

pub mix : (d : Direction) (k : Cluster) (x a b c e n : ℕ) → Tied k → Nearer k a b c e n → InOrder d k a b c e n → Good d k x
    → Good d (record k { in_storage = a; in_either = b; marks_in_storage = c; marks_either = e; storage_count = n }) x
mix Neither k x a b c e n tied near order good = grind arith
mix _ k x a b c e n tied near order good = grind arith

-- what one cluster has to say of a consistent image
pub record Fine (k : Cluster) : Type 0 where
  pub counted : k.table_refs + k.in_storage ≤ k.storage_count
  pub tables : 0 < k.table_refs → k.table_refs + k.in_storage ≡ 1
  pub copied : 0 < k.copied_l1_refs + k.marks_in_storage → (k.table_refs + k.in_storage ≡ 1) × (k.storage_count ≡ 1)

pub fine : (d : Direction) (k : Cluster) (x : ℕ) → Tied k → Good d k x → Fine k
fine Neither k x tied good = grind arith
fine _ k x tied good = grind arith

pub allocate_data : (k : Cluster) (x i : ℕ) → Tied k → i ≤ 1 → (0 < i → k.known_count ≡ 0) → Good L2DependsOnRb k x
    → Good L2DependsOnRb (record k { known_count = k.known_count + i; new_data = k.new_data + i }) x
allocate_data k x i tied one empty good = grind arith

pub allocate_table : (d : Direction) (k : Cluster) (x i : ℕ) → Tied k → i ≤ 1 → (0 < i → k.known_count ≡ 0) → Good d k x
    → Good d (record k { known_count = k.known_count + i; new_tables = k.new_tables + i }) x
allocate_table Neither k x i tied one empty good = grind arith
allocate_table _ k x i tied one empty good = grind arith

pub drop_new_data : (d : Direction) (k : Cluster) (x i : ℕ) → Tied k → i ≤ 1 → (0 < i → 0 < k.new_data) → Good d k x
    → Good d (record k { new_data = k.new_data - i; old_data = k.old_data + i }) x
drop_new_data Neither k x i tied one some good = grind arith
drop_new_data _ k x i tied one some good = grind arith

pub undo : (d : Direction) (k : Cluster) (x i : ℕ) → Tied k → i ≤ 1 → (0 < i → 0 < k.new_data) → Good d k x
    → Good d (record k { new_data = k.new_data - i; old_tables = k.old_tables + i }) x
undo Neither k x i tied one some good = grind arith
undo _ k x i tied one some good = grind arith

pub abandon : (d : Direction) (k : Cluster) (x i : ℕ) → Tied k → i ≤ 1 → (0 < i → 0 < k.new_tables) → Good d k x
    → Good d (record k { new_tables = k.new_tables - i; old_tables = k.old_tables + i }) x
abandon Neither k x i tied one some good = grind arith
abandon _ k x i tied one some good = grind arith

pub free_table : (d : Direction) (k : Cluster) (x i : ℕ) → Tied k → i ≤ 1 → (0 < i → 0 < k.old_tables) → Good d k x
    → Good d (record k { known_count = k.known_count - i; old_tables = k.old_tables - i }) x
free_table Neither k x i tied one some good = grind arith
free_table _ k x i tied one some good = grind arith

pub free_data : (k : Cluster) (x i : ℕ) → Tied k → i ≤ 1 → (0 < i → 0 < k.old_data) → Good RbDependsOnL2 k x
    → Good RbDependsOnL2 (record k { known_count = k.known_count - i; old_data = k.old_data - i }) x
free_data k x i tied one some good = grind arith

-- the entries are written, as far as the direction asks
abbrev pub Written : Direction → Cluster → Type 0
Written Neither k = Unit {0}
Written L2DependsOnRb k = Unit {0}
Written RbDependsOnL2 k = (k.in_either ≡ k.in_known) × (k.marks_either ≡ k.marks_known)

pub remap : (d : Direction) (k : Cluster) (x old new known either marks_known marks_either : ℕ) → Tied k
    → new - old ≤ k.new_data → known + old ≡ k.in_known + new → either ≤ k.in_either + (new - old)
    → marks_known ≤ k.marks_known + (new - old) → marks_either ≤ k.marks_either + (new - old) → Good d k x
    → Good d (record k { in_known = known; in_either = either; marks_known = marks_known; marks_either = marks_either; new_data = k.new_data - (new - old); old_data = k.old_data + (old - new) }) x
remap Neither k x old new known either marks_known marks_either tied taken tally below marked marked_either good = grind arith
remap _ k x old new known either marks_known marks_either tied taken tally below marked marked_either good = grind arith

-- changes of the direction
pub turn_from_free : (d : Direction) (k : Cluster) (x : ℕ) → Tied k → Good Neither k x → Good d k x
turn_from_free Neither k x tied good = good
turn_from_free _ k x tied good = grind arith

pub turn_to_l2 : (k : Cluster) (x : ℕ) → Tied k → k.storage_count ≡ k.known_count → Good L2DependsOnRb k x → Good RbDependsOnL2 k x
turn_to_l2 k x tied same good = grind arith

pub turn_to_rb : (k : Cluster) (x : ℕ) → Tied k → k.in_either ≡ k.in_known → k.marks_either ≡ k.marks_known → Good RbDependsOnL2 k x → Good L2DependsOnRb k x
turn_to_rb k x tied same same_marks good = grind arith

pub turn_free : (k : Cluster) (x : ℕ) → Tied k → k.storage_count ≡ k.known_count → k.in_either ≡ k.in_known → k.marks_either ≡ k.marks_known → Good RbDependsOnL2 k x → Good Neither k x
turn_free k x tied counts same same_marks good = grind arith

pub turn_free_too : (k : Cluster) (x : ℕ) → Tied k → k.storage_count ≡ k.known_count → k.in_either ≡ k.in_known → k.marks_either ≡ k.marks_known → Good L2DependsOnRb k x → Good Neither k x
turn_free_too k x tied counts same same_marks good = grind arith

-- what pending and table clusters, and clusters that one entry has to itself, say of the entries
pub new_data_unnamed : (d : Direction) (k : Cluster) (x : ℕ) → Tied k → 0 < k.new_data → Good d k x → (k.in_either ≡ 0) × (k.table_refs ≡ 0)
new_data_unnamed Neither k x tied some good = grind arith
new_data_unnamed _ k x tied some good = grind arith

pub new_tables_unnamed : (d : Direction) (k : Cluster) (x : ℕ) → Tied k → 0 < k.new_tables → Written d k → Good d k x → (k.in_either ≡ 0) × (k.table_refs ≡ 0)
new_tables_unnamed Neither k x tied some written good = grind arith
new_tables_unnamed _ k x tied some written good = grind arith

pub named_once : (d : Direction) (k : Cluster) (x : ℕ) → Tied k → 0 < k.marks_known → Good d k x → k.in_either ≤ 1
named_once Neither k x tied some good = grind arith
named_once _ k x tied some good = grind arith

pub unused_unnamed : (d : Direction) (k : Cluster) (x : ℕ) → Tied k → k.known_count ≡ 0 → k.storage_count ≡ 0 → Good d k x → k.in_either ≡ 0
unused_unnamed Neither k x tied known on_storage good = grind arith
unused_unnamed _ k x tied known on_storage good = grind arith

-- Tables are named anew: i are fresh and counted on the storage, s are counted with it, u are no longer named. Of the first j are marked copied.
pub rename : (d : Direction) (k : Cluster) (x table_refs copied_l1_refs i j s u : ℕ) → Tied k → i + s ≤ 1 → j ≤ i → table_refs + u ≡ k.table_refs + i + s → copied_l1_refs ≤ table_refs → copied_l1_refs ≤ k.copied_l1_refs + j
    → (0 < i → 0 < k.new_tables) → (0 < i → k.storage_count ≡ k.known_count) → (0 < i → Written d k) → (0 < s → k.known_count ≡ 0) → (0 < s → k.storage_count ≡ 0) → Good d k x
    → Good d (record k { table_refs = table_refs; copied_l1_refs = copied_l1_refs; storage_count = k.storage_count + s; known_count = k.known_count + s; new_tables = k.new_tables - i; old_tables = k.old_tables + u }) x
rename Neither k x table_refs copied_l1_refs i j s u tied one marked is few fewer some same written empty empty_storage good = grind arith
rename _ k x table_refs copied_l1_refs i j s u tied one marked is few fewer some same written empty empty_storage good = grind arith
