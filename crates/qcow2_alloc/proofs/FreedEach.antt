-- Clusters leave the list one after another: a refcount falls, or a cluster is leaked.
use Rattle.std.proofs.Common.{◌≡◌, ◌+◌, ◌-◌, ◌^◌, ◌<◌, ◌≤◌, ◌==◌, ◌∷◌, ◌++◌, min, ℕ, true, false, cond, inl, inr, List, [], Option, Some, None, Result, Ok, Err, IfSome, refl, ap, ◌∙◌, subst, arith}
use Rattle.std.specs.Prelude.{count_by}
use Rattle.std.proofs.lemmas.List.Sums.{sum_by-append}
use Rattle.qcow2_alloc.proofs.Common.{MatchOption, MatchResult, option_map, eq-eqb, cases_lt, cases_eq, HeaderFields, EntryTableView, rb_at, run_at, run_of, RefBlockView, Allocator, ClustersToFreeEntry, ImageError, MetadataCaches}
use Rattle.qcow2_alloc.proofs.Runs.{run_after, run_before, run_in, run_none}
use Rattle.qcow2_alloc.proofs.UnalignedLeaks.{listed_both}
use Rattle.qcow2_alloc.specs.CachePins.{SameChanges}
use Rattle.qcow2_alloc.specs.KeptMarks.{KeepsHeldTables}
use Rattle.qcow2_alloc.specs.KeptEntries.{OnlyLoads}
use Rattle.qcow2_alloc.specs.Leaks.{DecrementsOrLeaks, FreesEach, FreesOff, KeepsBlockBytes, LoadsBlocks}

-- how often a cluster is in a list
abbrev times : List ℕ → ℕ → ℕ
times off n = count_by (λ k. k == n) off

times_both : (cs ds : List ℕ) (n : ℕ) → times (cs ++ ds) n ≡ times cs n + times ds n
times_both cs ds n = sum_by-append (λ k. cond (k == n) 1 0) cs ds

times_here : (c n : ℕ) → n ≡ c → times (c ∷ []) n ≡ 1
times_here c n is = let same : (c == n) ≡ true = ap (λ k. c == k) is ∙ eq-eqb c c refl in rw same (omega arith)

-- a run whose first cluster is taken off
first_left : (run next : ClustersToFreeEntry) → 0 < run.count → (run.first_cluster + 1 < 2 ^ 64 → next.first_cluster ≡ run.first_cluster + 1) → next.count ≡ run.count - 1
    → (n : ℕ) → n < 2 ^ 64 → run_of run n ≤ times (run.first_cluster ∷ []) n + run_of next n
first_left run next some first count n small = elim (cases_lt n run.first_cluster) [
  | inl low ↦ let none = run_before run.first_cluster run.count n low in omega (arith, none)
  | inr up ↦ elim (cases_eq n run.first_cluster) [
    | inl same ↦
        let one : run_of run n ≡ 1 = run_in run.first_cluster run.count n (omega (arith, same)) (omega (arith, same, some)) in
        let here = times_here run.first_cluster n same in
        omega (arith, one, here)
    | inr other ↦
        let begins = first (omega (arith, up, other, small)) in
        elim (cases_lt n (run.first_cluster + run.count)) [
          | inl within ↦
              let there = run_in next.first_cluster next.count n (omega (arith, begins, up, other)) (omega (arith, begins, count, within, some)) in
              let here = run_in run.first_cluster run.count n (omega (arith, up)) within in
              omega (arith, there, here)
          | inr over ↦ let none = run_after run.first_cluster run.count n over in omega (arith, none)
        ]
  ]
]

-- ---- refblocks with the same bytes

-- a refblock was there with these bytes, or is unmodified
abbrev HasBytesOf : Option RefBlockView → Option RefBlockView → Type 0
HasBytesOf old new = IfSome new (λ b. MatchOption old (b.is_modified ≡ false) (λ was. b.bytes ≡ was.bytes))

abbrev bytes_of : Option RefBlockView → Option (List ℕ)
bytes_of o = option_map (λ b. b.bytes) o

bytes_from : (old mid new : Option RefBlockView) → bytes_of mid ≡ bytes_of old → HasBytesOf mid new → HasBytesOf old new
bytes_from old mid None same has = tt
bytes_from None None (Some b) same has = has
bytes_from (Some w) None (Some b) same has = absurd (cc)
bytes_from None (Some m) (Some b) same has = absurd (cc)
bytes_from (Some w) (Some m) (Some b) same has = let here : m.bytes ≡ w.bytes = cc in has ∙ here

bytes_as : (old new : Option RefBlockView) → bytes_of new ≡ bytes_of old → HasBytesOf old new
bytes_as old None same = tt
bytes_as None (Some b) same = absurd (cc)
bytes_as (Some w) (Some b) same = cc

-- a refblock that was there with the same contents
bytes_kept : (old new : Option RefBlockView) → IfSome new (λ b. MatchOption old (b.is_modified ≡ false) (λ was. b ≡ was)) → HasBytesOf old new
bytes_kept old None kept = tt
bytes_kept None (Some b) kept = kept
bytes_kept (Some w) (Some b) kept = ap (λ (x : RefBlockView). x.bytes) kept

module _ {S : Type 0} where
  -- a load into the cache of refblocks
  pub loads_got : (f g : MetadataCaches S) → OnlyLoads (λ (b : RefBlockView). b.is_modified) f.rb g.rb → KeepsHeldTables f g → SameChanges f g → LoadsBlocks f g
  loads_got f g loads tables changes = record { held = λ c. bytes_kept (rb_at f c) (rb_at g c) (loads c); tables = tables; changes = changes }

  pub blocks_same : (caches : MetadataCaches S) → KeepsBlockBytes caches caches
  blocks_same caches = record { held = λ c. refl; tables = λ c. refl; changes = (refl, refl) }

  blocks_then : (f g i : MetadataCaches S) → KeepsBlockBytes f g → KeepsBlockBytes g i → KeepsBlockBytes f i
  blocks_then f g i first then = record { held = λ c. then.held c ∙ first.held c; tables = λ c. then.tables c ∙ first.tables c; changes = (then.changes.0 ∙ first.changes.0, then.changes.1 ∙ first.changes.1) }

  pub blocks_loaded : (f g : MetadataCaches S) → KeepsBlockBytes f g → LoadsBlocks f g
  blocks_loaded f g same = record { held = λ c. bytes_as (rb_at f c) (rb_at g c) (same.held c); tables = same.tables; changes = same.changes }

  loads_from : (f g i : MetadataCaches S) → KeepsBlockBytes f g → LoadsBlocks g i → LoadsBlocks f i
  loads_from f g i same loads = record { held = λ c. bytes_from (rb_at f c) (rb_at g c) (rb_at i c) (same.held c) (loads.held c); tables = λ c. loads.tables c ∙ same.tables c; changes = (loads.changes.0 ∙ same.changes.0, loads.changes.1 ∙ same.changes.1) }

module _ {S : Type 0} (h : HeaderFields) (t : EntryTableView) where
  -- ---- from earlier caches with the same bytes
  module _ (a b : Allocator) (f g : MetadataCaches S) (leaks : b.leaked_clusters ≡ a.leaked_clusters) (same : KeepsBlockBytes f g) where
    step_from : (next : Allocator) (mid : MetadataCaches S) (c : ℕ) → DecrementsOrLeaks h t b g next mid c (Ok tt) → DecrementsOrLeaks h t a f next mid c (Ok tt)
    step_from next mid c step = elim step [
      | inl lowered ↦ inl (
        lowered.0 ∙ leaks,
        record {
          before = lowered.1.before;
          loads = loads_from f g lowered.1.before same lowered.1.loads;
          tables = λ c. lowered.1.tables c ∙ same.tables c;
          at = lowered.1.at;
          names = lowered.1.names;
          block = lowered.1.block;
          new_data = lowered.1.new_data;
          some = lowered.1.some;
          falls = lowered.1.falls;
          recorded = lowered.1.recorded;
        },
      )
      | inr leaked ↦ inr (leaked.0 ∙ ap (λ n. min (n + 1) (2 ^ 64 - 1)) leaks, loads_from f g mid same leaked.1)
    ]

    ends_from : (r : Result (Unit {0}) ImageError) (i : MetadataCaches S) → MatchResult r (λ _. KeepsBlockBytes g i) (λ _. LoadsBlocks g i) → MatchResult r (λ _. KeepsBlockBytes f i) (λ _. LoadsBlocks f i)
    ends_from (Ok _) i ends = blocks_then f g i same ends
    ends_from (Err e) i ends = loads_from f g i same ends

    each_from : (cs : List ℕ) (c : Allocator) (i : MetadataCaches S) (r : Result (Unit {0}) ImageError) → FreesEach h t cs b g c i r → FreesEach h t cs a f c i r
    each_from [] c i r each = (each.0 ∙ leaks, ends_from r i each.1)
    each_from (d ∷ cs) c i r each = (each.0, each.1, step_from each.0 each.1 d each.2, each.3)

  -- one list of clusters after another
  each_then : (cs ds : List ℕ) (a b c : Allocator) (f g i : MetadataCaches S) (r : Result (Unit {0}) ImageError) → FreesEach h t cs a f b g (Ok tt) → FreesEach h t ds b g c i r → FreesEach h t (cs ++ ds) a f c i r
  each_then [] ds a b c f g i r first then = each_from a b f g first.0 first.1 ds c i r then
  each_then (e ∷ cs) ds a b c f g i r first then = (first.0, first.1, first.2, each_then cs ds first.0 b c first.1 g i r first.3 then)

  -- L2 tables stay
  one_tables : (a b : Allocator) (f g : MetadataCaches S) (c : ℕ) → DecrementsOrLeaks h t a f b g c (Ok tt) → KeepsHeldTables f g
  one_tables a b f g c step = elim step [ inl lowered ↦ lowered.1.tables | inr leaked ↦ leaked.1.tables ]

  pub each_tables : (cs : List ℕ) (a b : Allocator) (f g : MetadataCaches S) (r : Result (Unit {0}) ImageError) → FreesEach h t cs a f b g r → KeepsHeldTables f g
  each_tables [] a b f g (Ok u) each = each.1.tables
  each_tables [] a b f g (Err e) each = each.1.tables
  each_tables (c ∷ cs) a b f g r each = let rest = each_tables cs each.0 b each.1 g r each.3 in let first = one_tables a each.0 f each.1 c each.2 in λ k. rest k ∙ first k

  -- ---- with the lists
  pub off_none : (a : Allocator) (f g : MetadataCaches S) (l : List ClustersToFreeEntry) → KeepsBlockBytes f g → FreesOff h t a f l a g l (Ok tt)
  off_none a f g l same = record { off = []; left = λ n small. omega arith; each = (refl, same) }

  -- nothing is freed, since a call before it was refused
  pub off_refused : (a b : Allocator) (f g : MetadataCaches S) (l : List ClustersToFreeEntry) (e : ImageError) → b.leaked_clusters ≡ a.leaked_clusters → LoadsBlocks f g → FreesOff h t a f l b g l (Err e)
  off_refused a b f g l e leaks loads = record { off = []; left = λ n small. omega arith; each = (leaks, loads) }

  pub off_then : (a b c : Allocator) (f g i : MetadataCaches S) (l m n : List ClustersToFreeEntry) (r : Result (Unit {0}) ImageError) → FreesOff h t a f l b g m (Ok tt) → FreesOff h t b g m c i n r → FreesOff h t a f l c i n r
  off_then a b c f g i l m n r first then = record {
    off = first.off ++ then.off;
    left = λ k small. let one = first.left k small in let two = then.left k small in let both = times_both first.off then.off k in omega (arith, one, two, both);
    each = each_then first.off then.off a b c f g i r first.each then.each;
  }

  -- beside other entries
  pub off_beside : (a b : Allocator) (f g : MetadataCaches S) (l m rest : List ClustersToFreeEntry) (r : Result (Unit {0}) ImageError) → FreesOff h t a f l b g m r → FreesOff h t a f (l ++ rest) b g (m ++ rest) r
  off_beside a b f g l m rest r one = record {
    off = one.off;
    left = λ k small. let x = one.left k small in let u = listed_both l rest k in let v = listed_both m rest k in omega (arith, x, u, v);
    each = one.each;
  }

  -- of equal lists
  pub off_as : (a b : Allocator) (f g : MetadataCaches S) (l l' m m' : List ClustersToFreeEntry) (r : Result (Unit {0}) ImageError) → l' ≡ l → m' ≡ m → FreesOff h t a f l' b g m' r → FreesOff h t a f l b g m r
  off_as a b f g l l' m m' r same same' one = subst (λ x. FreesOff h t a f x b g m r) same (subst (λ x. FreesOff h t a f l' b g x r) same' one)

  -- a run that is worked off
  pub off_done : (a b : Allocator) (f g : MetadataCaches S) (p l : List ClustersToFreeEntry) (run : ClustersToFreeEntry) (r : Result (Unit {0}) ImageError) → run.count ≡ 0 → FreesOff h t a f l b g (p ++ run ∷ []) r → FreesOff h t a f l b g p r
  off_done a b f g p l run r none one = record {
    off = one.off;
    left = λ k small.
        let x = one.left k small in
        let u = listed_both p (run ∷ []) k in
        let empty : run_of run k ≡ 0 = ap (λ n. run_at run.first_cluster n k) none ∙ run_none run.first_cluster k in
        omega (arith, x, u, empty);
    each = one.each;
  }

  -- the first cluster of a run
  pub off_first : (a b : Allocator) (f g : MetadataCaches S) (l : List ClustersToFreeEntry) (run next : ClustersToFreeEntry) (at : ℕ) → at ≡ run.first_cluster → 0 < run.count
      → (run.first_cluster + 1 < 2 ^ 64 → next.first_cluster ≡ run.first_cluster + 1) → next.count ≡ run.count - 1 → DecrementsOrLeaks h t a f b g at (Ok tt) → FreesOff h t a f (l ++ run ∷ []) b g (l ++ next ∷ []) (Ok tt)
  off_first a b f g l run next at is some first count step = record {
    off = run.first_cluster ∷ [];
    left = λ k small.
        let x = first_left run next some first count k small in
        let u = listed_both l (run ∷ []) k in
        let v = listed_both l (next ∷ []) k in
        omega (arith, x, u, v);
    each = (b, g, subst (λ n. DecrementsOrLeaks h t a f b g n (Ok tt)) is step, (refl, blocks_same g));
  }

-- of equal headers and reftables
pub off_of : {S : Type 0} (h h' : HeaderFields) (t t' : EntryTableView) (a b : Allocator) (f g : MetadataCaches S) (l m : List ClustersToFreeEntry) (r : Result (Unit {0}) ImageError) → h' ≡ h → t' ≡ t → FreesOff h' t' a f l b g m r → FreesOff h t a f l b g m r
off_of {S} h h' t t' a b f g l m r same_header same_table one =
    subst (λ (x : HeaderFields). FreesOff x t a f l b g m r) same_header (subst (λ (x : EntryTableView). FreesOff h' x a f l b g m r) same_table one)
