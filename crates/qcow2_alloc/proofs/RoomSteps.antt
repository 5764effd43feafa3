-- One more refblock of a room is written and entered.
use Rattle.std.proofs.Common.{◌≡◌, ◌+◌, ◌-◌, ◌*◌, ◌/◌, ◌%◌, ◌^◌, ◌<◌, ◌≤◌, inl, inr, ℕ, Bool, true, List, refl, sym, ap, ◌∙◌, subst, arith}
use Rattle.qcow2_alloc.proofs.Common.{cases_lt, cond-false, le-ltb, mul-mod_left, mul-le-mul_left, div-add-mod', StorageView, Bytes, one_if, IsAligned, HeaderFields, cluster_size, counts_per_block, reftable_entries, block_offset, reftable_entry, EntryTableView, entry_count, RefBlockView, IsRefBlock, entry_at, ChangesEntry, CachedTable, BlocksMayGo, Direction, Pending, IsSameOutside, ImageFile, run_at, HasBytesAt, contents_in, FileInvariant, HasReftable, order_of, l2_tables, opens, opened, CountsRun, IsBlockOf, Sizes}
use Rattle.qcow2_alloc.proofs.PlacedRooms.{EntersSo, Counting, enters_more, counting_more}
use Rattle.qcow2_alloc.proofs.Rooms.{opened_more}
use Rattle.qcow2_alloc.proofs.Runs.{run_before, run_after}

-- no entry names a refblock off a cluster
none_aligned : (h : HeaderFields) → IsAligned h (block_offset 0)
none_aligned h = let zero : 0 ≡ 0 * cluster_size h = omega arith in ap (λ n. n % cluster_size h) zero ∙ mul-mod_left 0 (cluster_size h)

reftable_past : (h : HeaderFields) (b : Bytes) (k : ℕ) → reftable_entries h ≤ k → reftable_entry h b k ≡ 0
unfolding reftable_entry
reftable_past h b k past = cond-false _ _ _ (le-ltb k (reftable_entries h) past)

pub entries_aligned : {S : Type 0} (view : S → StorageView) (q : Pending) (file : ImageFile S) (t : EntryTableView) → FileInvariant view q file → HasReftable view file t → (k : ℕ) → IsAligned file.header.fields (block_offset (entry_at t.bytes k))
entries_aligned view q file t sound has k =
    let h = file.header.fields in
    elim (cases_lt k (reftable_entries h)) [
      | inl within ↦ subst (λ e. IsAligned h (block_offset e)) (sym (has.entries k)) (sound.caches.kept.kept.crash_invariant.top.refblocks_aligned k within)
      | inr past ↦ subst (λ e. IsAligned h (block_offset e)) (sym (has.entries k ∙ reftable_past h (contents_in view file) k past)) (none_aligned h)
    ]

-- an entry, as equal numbers say it
pub changes_as : (old new : List ℕ) (i i' e e' : ℕ) → i ≡ i' → e ≡ e' → ChangesEntry old new i e → ChangesEntry old new i' e'
changes_as old new i i' e e' same_index same changes = subst (λ j. ChangesEntry old new j e') same_index (subst (λ x. ChangesEntry old new i x) same changes)

pub offset_as : (bytes : List ℕ) (i i' e e' : ℕ) → i ≡ i' → e ≡ e' → block_offset (entry_at bytes i) ≡ e → block_offset (entry_at bytes i') ≡ e'
offset_as bytes i i' e e' same_index same is = ap (λ j. block_offset (entry_at bytes j)) (sym same_index) ∙ is ∙ same

pub counts_as : (h h' : HeaderFields) (block : RefBlockView) (begin begin' first n n' : ℕ) → h ≡ h' → begin ≡ begin' → n ≡ n' → CountsRun h block begin first n → CountsRun h' block begin' first n'
counts_as h h' block begin begin' first n n' same_header same same_length counts =
    subst (λ (k : HeaderFields). CountsRun k block begin' first n') same_header (subst (λ m. CountsRun h block m first n') same (subst (λ m. CountsRun h block begin first m) same_length counts))

-- what may be written still may
pub may_go : {S : Type 0} (old new : ImageFile S) → order_of new.caches ≡ order_of old.caches → l2_tables new.caches ≡ l2_tables old.caches → BlocksMayGo (order_of old.caches) (l2_tables old.caches) → BlocksMayGo (order_of new.caches) (l2_tables new.caches)
may_go old new order tables may = subst (λ (ts : List CachedTable). BlocksMayGo (order_of new.caches) ts) (sym tables) (subst (λ (d : Direction). BlocksMayGo d (l2_tables old.caches)) (sym order) may)

pub of_three : {A B C : Type 0} (P : A → B → C → Type 0) (a a' : A) (b b' : B) (c c' : C) → a ≡ a' → b ≡ b' → c ≡ c' → P a' b' c' → P a b c
of_three P a a' b b' c c' same_a same_b same_c holds = subst (λ x. P x b c) (sym same_a) (subst (λ y. P a' y c) (sym same_b) (subst (P a' b') (sym same_c) holds))

pub rest_then : (t0 t t' u : EntryTableView) → u ≡ t' → t' ≡ record t { bytes = t'.bytes } → t ≡ record t0 { bytes = t.bytes } → u ≡ record t0 { bytes = u.bytes }
rest_then t0 t t' u is then first = subst (λ (x : EntryTableView). x ≡ record t0 { bytes = x.bytes }) (sym is) (then ∙ ap (λ (x : EntryTableView). record x { bytes = t'.bytes }) first)

pub placed_more : (t : EntryTableView) (per first at at' one cluster : ℕ) (b : Bool) → first ≤ at → first ≤ cluster → b ≡ opens t per first cluster → at' ≡ at + one → one ≡ one_if b → at - first ≡ opened t per first (cluster - first)
    → at' - first ≡ opened t per first (cluster + 1 - first)
placed_more t per first at at' one cluster b low from is next flag before =
    let here : first + (cluster - first) ≡ cluster = omega (arith, from) in
    let more = opened_more t per first (cluster - first) (at - first) one b (is ∙ ap (opens t per first) (sym here)) flag before in
    let length_is : cluster - first + 1 ≡ cluster + 1 - first = omega (arith, from) in
    let start : at' - first ≡ at - first + one = omega (arith, next, low) in
    start ∙ more ∙ ap (opened t per first) length_is

pub range_within : (cluster end count per : ℕ) → cluster < end → end ≤ count * per → cluster / per < count
range_within cluster end count per below within = elim (cases_lt (cluster / per) count) [
  | inl lt ↦ lt
  | inr past ↦ absurd (let product : per * count ≤ per * (cluster / per) = mul-le-mul_left per past in let e = div-add-mod' cluster per in omega (arith, product, e, below, within))
]

pub run_within : (first n c : ℕ) → 0 < run_at first n c → (first ≤ c) × (c < first + n)
run_within first n c some = elim (cases_lt c first) [
  | inl below ↦ absurd (let none = run_before first n c below in omega (arith, some, none))
  | inr from ↦ elim (cases_lt c (first + n)) [ inl lt ↦ (from, lt) | inr past ↦ absurd (let none = run_after first n c past in omega (arith, some, none)) ]
]

module _ (h : HeaderFields) (sizes : Sizes h) (old t0 t t' : EntryTableView) (b b' : Bytes) (first n at cluster bits : ℕ) (block : RefBlockView)
    (first_some : 0 < first) (low : first ≤ at) (from : first ≤ cluster) (per : counts_per_block h ≡ 2 ^ bits) (t_bits : t.cluster_bits ≡ h.cluster_bits) (entries : (k : ℕ) → entry_at t0.bytes k ≡ entry_at old.bytes k)
    (open_here : opens old (counts_per_block h) first cluster ≡ true) (within : cluster / counts_per_block h < entry_count t)
    (enters : ChangesEntry t.bytes t'.bytes (cluster / 2 ^ bits) (at * 2 ^ t.cluster_bits)) (offset : block_offset (entry_at t'.bytes (cluster / 2 ^ bits)) ≡ at * 2 ^ t.cluster_bits)
    (before : EntersSo h old t0 t first (at - first) cluster) (counting : Counting h b old t first n)
    (whole : IsRefBlock block) (format : IsBlockOf h block) (counts : CountsRun h block (cluster / 2 ^ bits * 2 ^ bits) first n)
    (stands : HasBytesAt b' (at * cluster_size h) block.bytes) (outside : IsSameOutside (cluster_size h) at b b') where
  at_is : at ≡ first + (at - first)
  at_is = omega (arith, low)

  next_is : at - first + 1 ≡ at + 1 - first
  next_is = omega (arith, low)

  range_is : cluster / 2 ^ bits ≡ cluster / counts_per_block h
  range_is = ap (λ n. cluster / n) (sym per)

  place_is : at * 2 ^ t.cluster_bits ≡ (first + (at - first)) * cluster_size h
  place_is = ap (λ b. at * 2 ^ b) t_bits ∙ ap (λ k. k * cluster_size h) at_is

  enters_here : ChangesEntry t.bytes t'.bytes (cluster / counts_per_block h) ((first + (at - first)) * cluster_size h)
  enters_here = changes_as t.bytes t'.bytes (cluster / 2 ^ bits) (cluster / counts_per_block h) (at * 2 ^ t.cluster_bits) ((first + (at - first)) * cluster_size h) range_is place_is enters

  offset_here : block_offset (entry_at t'.bytes (cluster / counts_per_block h)) ≡ (first + (at - first)) * cluster_size h
  offset_here = offset_as t'.bytes (cluster / 2 ^ bits) (cluster / counts_per_block h) (at * 2 ^ t.cluster_bits) ((first + (at - first)) * cluster_size h) range_is place_is offset

  pub room_enters : EntersSo h old t0 t' first (at + 1 - first) (cluster + 1)
  room_enters = subst (λ m. EntersSo h old t0 t' first m (cluster + 1)) next_is (enters_more h old t0 t first (at - first) cluster from sizes.counts before t' first_some entries open_here within enters_here offset_here)

  pub room_counts : Counting h b' old t' first n
  room_counts =
      counting_more h sizes b b' old t0 t t' first (at - first) cluster n (cluster / counts_per_block h) before counting
      (subst (λ k. IsSameOutside (cluster_size h) k b b') at_is outside) enters_here.others offset_here block whole format
      (counts_as h h block (cluster / 2 ^ bits * 2 ^ bits) (cluster / counts_per_block h * counts_per_block h) first n n refl (ap (λ k. cluster / k * k) (sym per)) refl counts)
      (subst (λ k. HasBytesAt b' (k * cluster_size h) block.bytes) at_is stands)
