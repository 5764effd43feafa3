-- The free runs that an allocator remembers: a search passes over no clusters but those that it passed before, and those in use.
use Rattle.std.proofs.Common.{◌≡◌, ◌⊎◌, ◌+◌, ◌-◌, ◌<◌, ◌≤◌, inl, inr, ℕ, List, Bool, true, false, IsTrue, IsFalse, Option, Some, None, Result, Ok, Err, ap, subst, sym, refl, ◌∙◌, arith, IfSome, IsErr, IsErrAnd}
use Rattle.qcow2_alloc.proofs.Common.{nat_tests, Pending, MetadataCaches, ImageError, AllocatorInvariant, HasReftable, passed_hint, IsFoundUsed, SparedStayOut, ReportsUsed, AddsFree, StorageView, cases_eq, cases_lt, Adds, Forgets, IsIn, SameNumbers, Allocator, ImageFile, IsCovered, IsPassed, IsUsed, KeepsRuns, NoCluster, NoFreeBelowHint, PassesNoOthers, SearchStays}
use Rattle.qcow2_alloc.proofs.Outcomes.{never}

-- a search passes over no other clusters than before, or than are said
pub passed_kept : (t t' : Allocator) (IsMore : ℕ → Type 0) → KeepsRuns t t' IsMore → (k : ℕ) → IsPassed t' k → IsPassed t k ⊎ IsMore k
passed_kept t t' IsMore kept k passed = elim passed [
  | inl below ↦ inl (inl (subst (λ n. k < n) (ap (λ (x : Allocator). x.first_free_cluster) kept.rest) below))
  | inr (inl spared) ↦ inl (inr (inl (subst (λ runs. IsIn runs k) (ap (λ (x : Allocator). x.named) kept.rest) spared)))
  | inr (inr covered) ↦ elim (kept.covered k covered) [ inl was ↦ inl (inr (inr was)) | inr more ↦ inr more ]
]

-- so it is where none are said
pub passes_kept : (t t' : Allocator) → KeepsRuns t t' NoCluster → PassesNoOthers t t'
passes_kept t t' kept k passed = elim (passed_kept t t' NoCluster kept k passed) [ inl was ↦ was | inr none ↦ absurd none ]

pub search_kept : (t t' : Allocator) → KeepsRuns t t' NoCluster → SearchStays t t'
search_kept t t' kept = record { first = ap (λ (x : Allocator). x.first_free_cluster) kept.rest; passed = passes_kept t t' kept }

-- where none are said, any may be
pub kept_more : (t t' : Allocator) (IsMore : ℕ → Type 0) → KeepsRuns t t' NoCluster → KeepsRuns t t' IsMore
kept_more t t' IsMore kept = record { rest = kept.rest; covered = λ k covered. elim (kept.covered k covered) [ inl was ↦ inl was | inr none ↦ absurd none ] }

-- numbers are forgotten of both
pub covered_still : (read read' free free' : List (ℕ × ℕ)) (first end k : ℕ) → Forgets read read' first end → Forgets free free' first end → IsIn read' k × (IsIn free' k → ⊥) → IsIn read k × (IsIn free k → ⊥)
covered_still read read' free free' first end k less fewer covered = (
  less.was k covered.0,
  λ is. elim (cases_lt k first) [
    | inl before ↦ covered.1 (fewer.before k before is)
    | inr from ↦ elim (cases_lt k end) [
      | inl within ↦ less.gone k from within covered.0
      | inr behind ↦ covered.1 (fewer.behind k behind is)
    ]
  ],
)

-- a number was taken out of the free ones
pub covered_but : (read free free' : List (ℕ × ℕ)) (cluster k : ℕ) → Forgets free free' cluster (cluster + 1) → IsIn read k × (IsIn free' k → ⊥) → (IsIn read k × (IsIn free k → ⊥)) ⊎ (k ≡ cluster)
covered_but read free free' cluster k fewer covered = elim (cases_eq k cluster) [
  | inl same ↦ inr same
  | inr other ↦ inl (covered.0, λ is. elim (cases_lt k cluster) [ inl before ↦ covered.1 (fewer.before k before is) | inr from ↦ covered.1 (fewer.behind k (omega (arith, from, other)) is) ])
]

module _ {S : Type 0} (view : S → StorageView) where
  -- an allocator with the same reftable is as sound
  pub invariant_for : (p : Pending) (file : ImageFile S) (t t' : Allocator) → t'.reftable ≡ t.reftable → AllocatorInvariant view t p file → AllocatorInvariant view t' p file
  invariant_for p file t t' table sound = record { sound = sound.sound; reftable = subst (HasReftable view file) (sym table) sound.reftable }

  -- what is said is in use
  pub hint_kept : (file : ImageFile S) (t t' : Allocator) (IsMore : ℕ → Type 0) → KeepsRuns t t' IsMore → ((k : ℕ) → IsMore k → IsUsed view file k) → NoFreeBelowHint view t file → NoFreeBelowHint view t' file
  hint_kept file t t' IsMore kept used hint k passed = elim (passed_kept t t' IsMore kept k passed) [ inl was ↦ hint k was | inr more ↦ used k more ]

-- where it was refused the search stands where it stood
pub stood_still : (hint from : ℕ) (result : Result ℕ ImageError) (e : ImageError) → IsErr result × IsErrAnd result (λ x. x ≡ e) → hint ≡ passed_hint hint from result
stood_still hint from (Ok next) e refused = absurd (never refused.0)
stood_still hint from (Err x) e refused = refl

pub moved_on : (hint from next : ℕ) → from ≡ hint → next ≡ passed_hint hint from (Ok next)
moved_on hint from next same = grind (arith, nat_tests, same)

pub stayed : (hint from next : ℕ) → (from ≡ hint → ⊥) → hint ≡ passed_hint hint from (Ok next)
stayed hint from next other = grind (arith, nat_tests, other)

-- ---- reading the counts of a range

-- free runs are added, and then more of them
pub adds_none : (t : Allocator) → AddsFree t t
adds_none t = record { rest = refl; stays = λ k is. is; spared = λ k is. inl is }

pub adds_then : (a b c : Allocator) → AddsFree a b → AddsFree b c → AddsFree a c
adds_then a b c one two = record {
  rest = two.rest ∙ ap (λ (x : Allocator). record x { free = c.free }) one.rest;
  stays = λ k is. two.stays k (one.stays k is);
  spared = λ k is. elim (two.spared k is) [
    | inl was ↦ one.spared k was
    | inr out ↦ inr (λ spared. out (subst (λ (runs : List (ℕ × ℕ)). IsIn runs k) (sym (ap (λ (t : Allocator). t.named) one.rest)) spared))
  ];
}

-- both kinds of runs do
pub runs_rest : (a b c : Allocator) → b ≡ record a { free = b.free } → c ≡ record b { read = c.read } → c ≡ record a { read = c.read; free = c.free }
runs_rest a b c one two = two ∙ ap (λ (x : Allocator). record x { read = c.read }) one ∙ ap (λ runs. record a { read = c.read; free = runs }) (sym (ap (λ (x : Allocator). x.free) two))

-- what was found is found where nothing else changed
pub found_as : {S : Type 0} (t t' : Allocator) (caches caches' : MetadataCaches S) (block first end k : ℕ) → t.named ≡ t'.named → caches ≡ caches' → IsFoundUsed t caches block first end k → IsFoundUsed t' caches' block first end k
found_as t t' caches caches' block first end k named same found = elim found [
  | inl spared ↦ inl (subst (λ (runs : List (ℕ × ℕ)). IsIn runs k) named spared)
  | inr reports ↦ inr (reports.0, reports.1, subst (λ (x : MetadataCaches _). ReportsUsed x block (k - first) 1) same reports.2)
]

-- so many counts above 0 are each one above 0
pub one_used : {S : Type 0} (caches : MetadataCaches S) (block first at used k : ℕ) → first ≤ at → at ≤ k → k < at + used → ReportsUsed caches block (at - first) used → ReportsUsed caches block (k - first) 1
one_used caches block first at used k low from below reports = λ h p on_storage c i sound counted above within. reports h p on_storage c i sound counted (omega (arith, low, from, above)) (omega (arith, low, from, below, within))

-- numbers that are joined stay added
pub adds_joined : (old mid new last : List (ℕ × ℕ)) (first n : ℕ) → Adds old mid first n → SameNumbers mid new → SameNumbers new last → Adds old last first n
adds_joined old mid new last first n adds one two = record {
  added = λ k from below. (two k).0 ((one k).0 (adds.added k from below));
  stays = λ k is. (two k).0 ((one k).0 (adds.stays k is));
  was = λ k is out. adds.was k ((one k).1 ((two k).1 is)) out;
}

-- a range was read: what is kept as in use was so, or was found so
pub covered_read : (read read' free free' : List (ℕ × ℕ)) (first end k : ℕ) (IsFound : Type 0) → first ≤ end → Adds read read' first (end - first) → ((k : ℕ) → IsIn free k → IsIn free' k) → (first ≤ k → k < end → IsFound ⊎ IsIn free' k)
    → IsIn read' k × (IsIn free' k → ⊥) → (IsIn read k × (IsIn free k → ⊥)) ⊎ IsFound
covered_read read read' free free' first end k IsFound order adds stays listed covered = elim (cases_lt k first) [
  | inl before ↦ inl (adds.was k covered.0 (λ from below. omega (arith, before, from)), λ is. covered.1 (stays k is))
  | inr from ↦ elim (cases_lt k end) [
    | inl below ↦ elim (listed from below) [ inl found ↦ inr found | inr free ↦ absurd (covered.1 free) ]
    | inr behind ↦ inl (adds.was k covered.0 (λ low below. omega (arith, behind, below, order)), λ is. covered.1 (stays k is))
  ]
]

-- with more free runs no other cluster is kept as in use
pub stays_covered : (t t' : Allocator) → t' ≡ record t { free = t'.free } → ((k : ℕ) → IsIn t.free k → IsIn t'.free k) → (k : ℕ) → IsCovered t' k → IsCovered t k
stays_covered t t' rest stays k covered = (subst (λ (runs : List (ℕ × ℕ)). IsIn runs k) (ap (λ (x : Allocator). x.read) rest) covered.0, λ is. covered.1 (stays k is))

-- a range was listed, and read or not
pub listed_covered : (t t' t'' : Allocator) (first end k : ℕ) (IsFound : Type 0) (so : Bool) → first ≤ end → t' ≡ record t { free = t'.free } → ((k : ℕ) → IsIn t.free k → IsIn t'.free k) → (first ≤ k → k < end → IsFound ⊎ IsIn t'.free k)
    → t'' ≡ record t' { read = t''.read } → (IsTrue so → Adds t'.read t''.read first (end - first)) → (IsFalse so → t'' ≡ t') → IsCovered t'' k → IsCovered t k ⊎ IsFound
listed_covered t t' t'' first end k IsFound true order rest stays listed rest' added refused covered =
    let read = ap (λ (x : Allocator). x.read) rest in
    let free = ap (λ (x : Allocator). x.free) rest' in
    covered_read t.read t''.read t.free t'.free first end k IsFound order (subst (λ (runs : List (ℕ × ℕ)). Adds runs t''.read first (end - first)) read (added refl)) stays listed (covered.0, λ is. covered.1 (subst (λ (runs : List (ℕ × ℕ)). IsIn runs k) (sym free) is))
listed_covered t t' t'' first end k IsFound false order rest stays listed rest' added refused covered = inl (stays_covered t t' rest stays k (subst (λ (x : Allocator). IsCovered x k) (refused refl) covered))

-- a range was forgotten, and what a held refblock counts of it is kept
pub read_kept : {S : Type 0} (t f l : Allocator) (caches caches' : MetadataCaches S) (block first end : ℕ) → caches ≡ caches' → KeepsRuns t f NoCluster → l ≡ record f { read = l.read; free = l.free }
    → ((k : ℕ) → IsCovered l k → IsCovered f k ⊎ IsFoundUsed f caches block first end k) → KeepsRuns t l (IsFoundUsed t caches' block first end)
read_kept t f l caches caches' block first end same forgets rest covered = record {
  rest = rest ∙ ap (λ n. record f { read = l.read; free = l.free; crowded = n }) (sym (ap (λ (x : Allocator). x.crowded) rest)) ∙ ap (λ (x : Allocator). record x { read = l.read; free = l.free; crowded = l.crowded }) forgets.rest;
  covered = λ k is. elim (covered k is) [
    | inl was ↦ elim (forgets.covered k was) [ inl at_first ↦ inl at_first | inr none ↦ absurd none ]
    | inr found ↦ inr (found_as f t caches caches' block first end k (ap (λ (x : Allocator). x.named) forgets.rest) same found)
  ];
}

-- and it is forgotten again
pub keeps_then : (t l n : Allocator) (IsMore : ℕ → Type 0) (mark : ℕ) → KeepsRuns t l IsMore → KeepsRuns l n NoCluster → KeepsRuns t (record n { crowded = mark }) IsMore
keeps_then t l n IsMore mark one two = record {
  rest = ap (λ (x : Allocator). record x { crowded = mark }) (two.rest ∙ ap (λ (x : Allocator). record x { read = n.read; free = n.free; crowded = n.crowded }) one.rest);
  covered = λ k is. elim (two.covered k is) [ inl was ↦ one.covered k was | inr none ↦ absurd none ];
}

-- no spared cluster came into a free run
pub spared_read : (t f l : Allocator) → KeepsRuns t f NoCluster → ((k : ℕ) → IsIn f.free k → IsIn t.free k) → SparedStayOut f l → SparedStayOut t l
spared_read t f l forgets fewer spared k is = elim (spared k is) [
  | inl was ↦ inl (fewer k was)
  | inr out ↦ inr (λ named. out (subst (λ (runs : List (ℕ × ℕ)). IsIn runs k) (sym (ap (λ (x : Allocator). x.named) forgets.rest)) named))
]

-- what is spared is found so
pub listed_open : {S : Type 0} (t : Allocator) (caches : MetadataCaches S) (block first at end : ℕ) (IsFree : ℕ → Type 0) (result : Option ℕ) → IfSome result (λ next. (k : ℕ) → at ≤ k → k < next → IsIn t.named k ⊎ IsFree k)
    → IfSome result (λ next. (k : ℕ) → at ≤ k → k < next → IsFoundUsed t caches block first end k ⊎ IsFree k)
listed_open t caches block first at end IsFree (Some next) listed = λ k from below. elim (listed k from below) [ inl spared ↦ inl (inl spared) | inr free ↦ inr free ]
listed_open t caches block first at end IsFree None listed = tt
