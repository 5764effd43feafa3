-- Runs in which the clusters are allocated whose ranges have refblocks.
use Rattle.std.proofs.Common.{◌≡◌, ◌⊎◌, ◌+◌, ◌-◌, ◌/◌, ◌<◌, ◌≤◌, inl, inr, ℕ, suc, Bool, true, false, IsTrue, Ok, refl, sym, ap, ◌∙◌, subst, arith}
use Rattle.qcow2_alloc.proofs.Common.{cases_Bool, cases_eq, cases_lt, cond-true, cond-false, from_bool, StorageView, HeaderFields, sum_below, one_if, EntryTableView, counts_per_block, one_at, with_new_tables, Pending, Allocator, ImageError, ImageFile, run_at, InternalAllocatorStep, AllocatesGiven, counted_run, with_run, AllocatorInvariant, RefusedFileStep, lacks, counted_one, opens, opened, AllocatesFree}
use Rattle.qcow2_alloc.specs.ImageFile.{IsFault}
use Rattle.qcow2_alloc.proofs.FileSteps.{pending_same, file_step_then, leaves_then, interrupted_after}
use Rattle.qcow2_alloc.proofs.AllocationSteps.{allocator_step_more, is_sound_now}
use Rattle.qcow2_alloc.proofs.Runs.{run_in, run_before, run_after, run_first, run_last, none_there}

pub empty_run : (first n k : ℕ) → n ≡ 0 → run_at first n k ≡ 0
empty_run first n k is = elim (cases_lt k first) [ inl below ↦ run_before first n k below | inr above ↦ run_after first n k (omega arith) ]

module _ (h : HeaderFields) (t : EntryTableView) where
  -- a cluster of a range with a refblock, and of one without
  counted_in : (first n k : ℕ) → lacks t (k / counts_per_block h) ≡ false → counted_run h t first n k ≡ run_at first n k
  counted_in first n k has = cond-false {A = ℕ} (lacks t (k / counts_per_block h)) 0 (run_at first n k) has

  counted_out : (first n k : ℕ) → lacks t (k / counts_per_block h) ≡ true → counted_run h t first n k ≡ 0
  counted_out first n k none = cond-true {A = ℕ} (lacks t (k / counts_per_block h)) 0 (run_at first n k) none

  one_elsewhere : (c k : ℕ) → (k ≡ c → ⊥) → counted_one h t c k ≡ 0
  one_elsewhere c k other = elim (cases_Bool (lacks t (c / counts_per_block h))) [
    | inl none ↦ cond-true {A = ℕ} (lacks t (c / counts_per_block h)) 0 (one_at c k) none
    | inr has ↦ cond-false {A = ℕ} (lacks t (c / counts_per_block h)) 0 (one_at c k) has ∙ none_there c k other
  ]

  one_in : (c k : ℕ) → lacks t (k / counts_per_block h) ≡ false → counted_one h t c k ≡ one_at c k
  one_in c k has = elim (cases_eq k c) [
    | inl same ↦ cond-false {A = ℕ} (lacks t (c / counts_per_block h)) 0 (one_at c k) (ap (λ n. lacks t (n / counts_per_block h)) (sym same) ∙ has)
    | inr other ↦ one_elsewhere c k other ∙ sym (none_there c k other)
  ]

  one_out : (c k : ℕ) → lacks t (k / counts_per_block h) ≡ true → counted_one h t c k ≡ 0
  one_out c k none = elim (cases_eq k c) [
    | inl same ↦ cond-true {A = ℕ} (lacks t (c / counts_per_block h)) 0 (one_at c k) (ap (λ n. lacks t (n / counts_per_block h)) (sym same) ∙ none)
    | inr other ↦ one_elsewhere c k other
  ]

  -- the last cluster of a run, and those before it; the first one, and the others
  pub counted_last : (first n k : ℕ) → counted_run h t first n k + counted_one h t (first + n) k ≡ counted_run h t first (n + 1) k
  counted_last first n k = elim (cases_Bool (lacks t (k / counts_per_block h))) [
    | inl none ↦ let a = counted_out first n k none in let b = one_out (first + n) k none in let c = counted_out first (n + 1) k none in omega (arith, a, b, c)
    | inr has ↦ let a = counted_in first n k has in let b = one_in (first + n) k has in let c = counted_in first (n + 1) k has in let e = run_last first n k in omega (arith, a, b, c, e)
  ]

  pub counted_first : (c n k : ℕ) → counted_run h t (c + 1) n k + counted_one h t c k ≡ counted_run h t c (n + 1) k
  counted_first c n k = elim (cases_Bool (lacks t (k / counts_per_block h))) [
    | inl none ↦ let a = counted_out (c + 1) n k none in let b = one_out c k none in let d = counted_out c (n + 1) k none in omega (arith, a, b, d)
    | inr has ↦ let a = counted_in (c + 1) n k has in let b = one_in c k has in let d = counted_in c (n + 1) k has in let e = run_first c n k in omega (arith, a, b, d, e)
  ]

  pub counted_few : (first n k : ℕ) → n ≡ 0 → counted_run h t first n k ≡ 0
  counted_few first n k none = elim (cases_Bool (lacks t (k / counts_per_block h))) [
    | inl out ↦ counted_out first n k out
    | inr has ↦ counted_in first n k has ∙ empty_run first n k none
  ]

  -- ---- what is pending
  pub one_none : (p : Pending) (c : ℕ) → lacks t (c / counts_per_block h) ≡ true → with_new_tables p (counted_one h t c) ≡ p
  one_none p c none =
      pending_same (with_new_tables p (counted_one h t c)) p (λ k. refl)
      (λ k. let e : counted_one h t c k ≡ 0 = cond-true {A = ℕ} (lacks t (c / counts_per_block h)) 0 (one_at c k) none in omega (arith, e)) (λ k. refl) (λ k. refl) (λ k. refl)

  pub one_taken : (p : Pending) (c : ℕ) → lacks t (c / counts_per_block h) ≡ false → with_new_tables p (counted_one h t c) ≡ with_new_tables p (one_at c)
  one_taken p c has =
      pending_same (with_new_tables p (counted_one h t c)) (with_new_tables p (one_at c)) (λ k. refl)
      (λ k. ap (λ n. p.new_tables k + n) (cond-false {A = ℕ} (lacks t (c / counts_per_block h)) 0 (one_at c k) has)) (λ k. refl) (λ k. refl) (λ k. refl)

  pub run_none : (p : Pending) (first n : ℕ) → ((k : ℕ) → counted_run h t first n k ≡ 0) → with_run p h t first n ≡ p
  run_none p first n none = pending_same (with_run p h t first n) p (λ k. refl) (λ k. let e = none k in omega (arith, e)) (λ k. refl) (λ k. refl) (λ k. refl)

  pub run_more : (p : Pending) (first n : ℕ) → with_new_tables (with_run p h t first n) (counted_one h t (first + n)) ≡ with_run p h t first (n + 1)
  run_more p first n =
      pending_same (with_new_tables (with_run p h t first n) (counted_one h t (first + n))) (with_run p h t first (n + 1)) (λ k. refl) (λ k. let e = counted_last first n k in omega (arith, e)) (λ k. refl) (λ k. refl) (λ k. refl)

  pub run_less : (p : Pending) (c end : ℕ) → c < end → with_new_tables (with_run p h t (c + 1) (end - (c + 1))) (counted_one h t c) ≡ with_run p h t c (end - c)
  run_less p c end lt =
      let e : end - (c + 1) + 1 ≡ end - c = omega arith in
      pending_same (with_new_tables (with_run p h t (c + 1) (end - (c + 1))) (counted_one h t c)) (with_run p h t c (end - c)) (λ k. refl)
      (λ k. let sum : counted_run h t (c + 1) (end - (c + 1)) k + counted_one h t c k ≡ counted_run h t c (end - c) k = counted_first c (end - (c + 1)) k ∙ ap (λ n. counted_run h t c n k) e in omega (arith, sum)) (λ k. refl) (λ k. refl) (λ k. refl)

  pub run_past : (p : Pending) (c end : ℕ) → end ≤ c → with_run p h t c (end - c) ≡ p
  run_past p c end past = run_none p c (end - c) (λ k. counted_few c (end - c) k (omega (arith, past)))

-- ---- the ranges that a run enters
pub next_sum : (n m : ℕ) (f : ℕ → ℕ) → m ≡ suc n → sum_below m f ≡ sum_below n f + f n
unfolding sum_below
next_sum n m f e = ap (λ k. sum_below k f) e

pub opened_none : (t : EntryTableView) (per first : ℕ) → opened t per first 0 ≡ 0
unfolding sum_below
opened_none t per first = refl

abbrev pub opening : EntryTableView → ℕ → ℕ → ℕ → ℕ
opening t per first i = one_if (opens t per first (first + i))

pub opened_more : (t : EntryTableView) (per first n blocks one : ℕ) (b : Bool) → b ≡ opens t per first (first + n) → one ≡ one_if b → blocks ≡ opened t per first n → blocks + one ≡ opened t per first (n + 1)
opened_more t per first n blocks one b is flag before =
    let last : opened t per first (n + 1) ≡ opened t per first n + opening t per first n = next_sum n (n + 1) (opening t per first) (omega arith) in
    let this : one ≡ opening t per first n = flag ∙ ap one_if is in
    omega (arith, last, this, before)

-- no room so far, and none with one cluster more
pub more_short : (t : EntryTableView) (per first taken blocks clusters : ℕ) → blocks ≡ opened t per first taken → taken < blocks + clusters → ((n : ℕ) → n < taken → n < opened t per first n + clusters)
    → (n : ℕ) → n < taken + 1 → n < opened t per first n + clusters
more_short t per first taken blocks clusters is lt before n below = elim (cases_eq n taken) [
  | inl same ↦ let e : opened t per first n ≡ opened t per first taken = ap (opened t per first) same in omega (arith, e, is, lt, same)
  | inr other ↦ before n (omega (arith, below, other))
]

-- a flag as a number
pub is_flag : (b : Bool) → from_bool b ≡ one_if b
is_flag true = refl
is_flag false = refl

pub flag_few : (b : Bool) (one blocks taken : ℕ) → one ≡ one_if b → blocks ≤ taken → blocks + one ≤ taken + 1
flag_few true one blocks taken flag le = omega (arith, flag, le)
flag_few false one blocks taken flag le = omega (arith, flag, le)

-- ---- the same run, as equal numbers say it
pub run_of_same : (p : Pending) (h h' : HeaderFields) (t t' : EntryTableView) (first n n' : ℕ) → h ≡ h' → t ≡ t' → n ≡ n' → with_run p h t first n ≡ with_run p h' t' first n'
run_of_same p h h' t t' first n n' same_header same same_length =
    ap (λ (k : HeaderFields). with_run p k t first n) same_header ∙ ap (λ (x : EntryTableView). with_run p h' x first n) same ∙ ap (with_run p h' t' first) same_length

pub noted_of_same : (h : HeaderFields) (t t' : EntryTableView) (first n : ℕ) (changed : Bool) → t ≡ t' → ((k : ℕ) → counted_run h t first n k ≡ 0) ⊎ IsTrue changed → ((k : ℕ) → counted_run h t' first n k ≡ 0) ⊎ IsTrue changed
noted_of_same h t t' first n changed same recorded = subst (λ (x : EntryTableView). ((k : ℕ) → counted_run h x first n k ≡ 0) ⊎ IsTrue changed) same recorded

pub noted_of_room : (h h' : HeaderFields) (t t' : EntryTableView) (first n n' : ℕ) (changed : Bool) → h ≡ h' → t ≡ t' → n ≡ n' → ((k : ℕ) → counted_run h t first n k ≡ 0) ⊎ IsTrue changed → ((k : ℕ) → counted_run h' t' first n' k ≡ 0) ⊎ IsTrue changed
noted_of_room h h' t t' first n n' changed same_header same_table same_length recorded =
    subst (λ m. ((k : ℕ) → counted_run h' t' first m k ≡ 0) ⊎ IsTrue changed) same_length
    (subst (λ (x : HeaderFields). ((k : ℕ) → counted_run x t' first n k ≡ 0) ⊎ IsTrue changed) same_header (noted_of_same h t t' first n changed same_table recorded))

-- ---- whether a change was noted
module _ (h : HeaderFields) (t : EntryTableView) (first n : ℕ) (was now : Bool) (stays : IsTrue was → IsTrue now) (recorded : ((k : ℕ) → counted_run h t first n k ≡ 0) ⊎ IsTrue was) where
  pub still_noted : ((k : ℕ) → counted_run h t first n k ≡ 0) ⊎ IsTrue now
  still_noted = elim recorded [ inl none ↦ inl none | inr some ↦ inr (stays some) ]

  pub noted_more : (lacks t ((first + n) / counts_per_block h) ≡ false → IsTrue now) → ((k : ℕ) → counted_run h t first (n + 1) k ≡ 0) ⊎ IsTrue now
  noted_more anew = elim (cases_Bool (lacks t ((first + n) / counts_per_block h))) [
    | inl out ↦ elim recorded [
      | inl none ↦ inl (λ k.
          let zero : counted_one h t (first + n) k ≡ 0 = cond-true {A = ℕ} (lacks t ((first + n) / counts_per_block h)) 0 (one_at (first + n) k) out in
          let sum = counted_last h t first n k in
          let before = none k in
          omega (arith, zero, sum, before))
      | inr some ↦ inr (stays some)
    ]
    | inr has ↦ inr (anew has)
  ]

module _ {S : Type 0} (view : S → StorageView) where
  -- a cluster that was counted, or is in use
  pub free_taken : (p : Pending) (old new : ImageFile S) (a : Allocator) (t : EntryTableView) (cluster : ℕ) (taken : Bool) → lacks t (cluster / counts_per_block old.header.fields) ≡ false
      → AllocatesGiven view p old a new false cluster (Ok taken) → AllocatesFree view p old a new t cluster (Ok taken)
  free_taken p old new a t cluster true has takes = subst (λ (r : Pending). InternalAllocatorStep view p old a new r) (sym (one_taken old.header.fields t p cluster has)) takes
  free_taken p old new a t cluster false has takes = takes

  -- a fault breaks off, or comes before anything was counted
  pub ends_room : (p : Pending) (t : EntryTableView) (first n : ℕ) (a b c : ImageFile S) (u u' : Allocator) (e : ImageError) → InternalAllocatorStep view p a u b (with_run p a.header.fields t first n)
      → ((k : ℕ) → counted_run a.header.fields t first n k ≡ 0) ⊎ IsTrue c.caches.is_changed → IsFault e → RefusedFileStep view (with_run p a.header.fields t first n) b u' c e → RefusedFileStep view p a u' c e
  ends_room p t first n a b c u u' e before recorded fault leaves = elim recorded [
    | inl none ↦
        let same = run_none a.header.fields t p first n none in
        leaves_then view p a b c u' e (subst (λ (r : Pending). InternalAllocatorStep view p a u b r) same before).file_step (subst (λ (r : Pending). RefusedFileStep view r b u' c e) same leaves)
    | inr changed ↦ inr (interrupted_after view p (with_run p a.header.fields t first n) a b c u' e before.file_step fault changed leaves)
  ]

  -- one cluster more of a run is taken
  pub run_taken : (p : Pending) (t t' : EntryTableView) (first n : ℕ) (a b c : ImageFile S) (u u' : Allocator) (taken : Bool) → b.header.fields ≡ a.header.fields → t' ≡ t → InternalAllocatorStep view p a u b (with_run p a.header.fields t first n) → taken ≡ true
      → AllocatesFree view (with_run p a.header.fields t first n) b u' c t' (first + n) (Ok taken) → InternalAllocatorStep view p a u' c (with_run p a.header.fields t first (n + 1))
  run_taken p t t' first n a b c u u' false same_header same before is takes = absurd (let bad : false ≡ true = is in cc)
  run_taken p t t' first n a b c u u' true same_header same before is takes =
      let h = a.header.fields in
      let q : Pending = with_run p a.header.fields t first n in
      let now = subst (λ (x : EntryTableView). InternalAllocatorStep view q b u' c (with_new_tables q (counted_one h x (first + n)))) same (subst (λ (k : HeaderFields). InternalAllocatorStep view q b u' c (with_new_tables q (counted_one k t' (first + n)))) same_header takes) in
      allocator_step_more view false p (counted_run h t first n) (with_run p h t first (n + 1)) a b c u u' before (subst (λ (r : Pending). InternalAllocatorStep view q b u' c r) (run_more h t p first n) now)

  -- so it isn't
  pub run_not_taken : (p : Pending) (t : EntryTableView) (first n cluster : ℕ) (a b c : ImageFile S) (u u' : Allocator) (t' : EntryTableView) (taken : Bool) → InternalAllocatorStep view p a u b (with_run p a.header.fields t first n) → taken ≡ false
      → AllocatesFree view (with_run p a.header.fields t first n) b u' c t' cluster (Ok taken) → InternalAllocatorStep view p a u' c (with_run p a.header.fields t first n)
  run_not_taken p t first n cluster a b c u u' t' true before is takes = absurd (let bad : true ≡ false = is in cc)
  run_not_taken p t first n cluster a b c u u' t' false before is takes = allocator_step_more view false p (counted_run a.header.fields t first n) (with_run p a.header.fields t first n) a b c u u' before takes

  -- ---- the first cluster of a run is given back
  module _ (p : Pending) (t : EntryTableView) (at end : ℕ) (start b f : ImageFile S) (u u' : Allocator) (within : at < end) (has : lacks t (at / counts_per_block start.header.fields) ≡ false)
      (before : InternalAllocatorStep view p start u b (with_run p start.header.fields t at (end - at))) where
    abbrev rest : Pending
    rest = with_run p start.header.fields t (at + 1) (end - (at + 1))

    owes : with_run p start.header.fields t at (end - at) ≡ with_new_tables rest (one_at at)
    owes = sym (run_less start.header.fields t p at end within) ∙ one_taken start.header.fields t rest at has

    owing : InternalAllocatorStep view p start u b (with_new_tables rest (one_at at))
    owing = subst (λ (r : Pending). InternalAllocatorStep view p start u b r) owes before

    pub owed_now : AllocatorInvariant view u (with_new_tables rest (one_at at)) b
    owed_now = is_sound_now view p (with_new_tables rest (one_at at)) start b u owing

    pub left_one : InternalAllocatorStep view (with_new_tables rest (one_at at)) b u' f rest → InternalAllocatorStep view p start u' f rest
    left_one back = record { file_step = file_step_then view p (with_new_tables rest (one_at at)) rest start b f (λ k some. some) owing.file_step back.file_step; reftable = back.reftable }

    pub left_fault : (first n : ℕ) (e : ImageError) → first ≤ at → at < first + n → ((k : ℕ) → counted_run start.header.fields t first n k ≡ 0) ⊎ IsTrue f.caches.is_changed
        → IsFault e × RefusedFileStep view (with_new_tables rest (one_at at)) b u' f e → IsFault e × RefusedFileStep view p start u' f e
    left_fault first n e low high recorded back = elim recorded [
      | inl none ↦ let one = counted_in start.header.fields t first n at has in let in_run = run_in first n at low high in let zero = none at in absurd (omega (arith, one, in_run, zero))
      | inr changed ↦ (back.0, inr (interrupted_after view p (with_new_tables rest (one_at at)) start b f u' e owing.file_step back.0 changed back.1))
    ]

  -- the first one isn't counted
  pub left_none : (p : Pending) (t : EntryTableView) (at end : ℕ) (start b : ImageFile S) (u : Allocator) → at < end → lacks t (at / counts_per_block start.header.fields) ≡ true
      → InternalAllocatorStep view p start u b (with_run p start.header.fields t at (end - at)) → InternalAllocatorStep view p start u b (with_run p start.header.fields t (at + 1) (end - (at + 1)))
  left_none p t at end start b u within none before =
      let h = start.header.fields in
      subst (λ (r : Pending). InternalAllocatorStep view p start u b r) (sym (run_less h t p at end within) ∙ one_none h t (with_run p h t (at + 1) (end - (at + 1))) at none) before
