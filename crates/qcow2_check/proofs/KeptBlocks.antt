-- The refblocks that are kept.
use Rattle.std.proofs.Common.{◌≡◌, ◌≢◌, ◌+◌, ◌*◌, ◌/◌, ◌%◌, ◌<◌, ◌≤◌, ◌∷◌, ◌++◌, ◌-◌, ltb, ℕ, zero, suc, false, Some, None, List, [], length, length-append, get_or, Option, refl, sym, ap, ◌∙◌, arith}
use Rattle.qcow2_check.proofs.Common.{IfSome, is_some, slice_get, option_copied, BTreeMap, get, is_at, nat_cmp, get_or_past, Bytes, HeaderFields, counts_per_block, reftable_entries, block_offset, reftable_entry, count, Block, Counts, count_of, counts_kept, count_kept, block_numbered, block_in, count_in, block_count_or_zero, HasBlock, KeepsBlocks, KeepsMore, le-div, div-mul-add, count_under, get_or_append_left, get_or_push}
use denote.Ref.{Bor}
use Rattle.std.proofs.lemmas.Option.{slice_get-get_or, slice_get_past}
use Rattle.qcow2_check.proofs.CountSteps.{reftable_entry-past}

-- ---- the numbers

numbered_before : (old new : List Block) (block : Block) (n : ℕ) → new ≡ old ++ block ∷ [] → n ≤ length old → block_numbered new n ≡ block_numbered old n
numbered_before old new block zero pushed le = refl
numbered_before old new block (suc i) pushed le =
    let lt : i < length old = omega arith in
    let longer : i < length new = omega (arith, ap length pushed, length-append old (block ∷ [])) in
    slice_get-get_or new i block longer ∙ ap Some (ap (λ ys. get_or ys i block) pushed ∙ get_or_append_left old (block ∷ []) block i lt) ∙ sym (slice_get-get_or old i block lt)

numbered_last : (old new : List Block) (block : Block) (n : ℕ) → new ≡ old ++ block ∷ [] → n ≡ length new → block_numbered new n ≡ Some block
numbered_last old new block n pushed long =
    let longer : length new ≡ suc (length old) = omega (arith, ap length pushed, length-append old (block ∷ [])) in
    ap (block_numbered new) (long ∙ longer)
    ∙ slice_get-get_or new (length old) block (omega (arith, longer)) ∙ ap Some (ap (λ ys. get_or ys (length old) block) pushed ∙ get_or_push old block block (length old) refl)

pub numbered_some : (blocks : List Block) (n : ℕ) → 0 < n → slice_get blocks (n - 1) ≡ block_numbered blocks n
numbered_some blocks zero some = absurd (omega arith)
numbered_some blocks (suc i) some = let down : suc i - 1 ≡ i = omega arith in ap (slice_get blocks) down

-- what a slice lends at an index
pub lent_at : {X : Type 0} (xs : List X) (i : ℕ) (r : Option (Bor X)) → is_some r ≡ ltb i (length xs) → IfSome r (λ x. x.now ≡ get_or xs i x.now) → option_copied r ≡ slice_get xs i
lent_at xs i None some same = grind (arith, slice_get_past)
lent_at xs i (Some x) some same = grind (arith, slice_get-get_or)

module _ (h : HeaderFields) (b : Bytes) (old : List Block) (numbers : BTreeMap ℕ ℕ) (place : ℕ) where
  -- no refblock, and one that was kept before
  pub keeps_placeless : place ≡ 0 → KeepsBlocks h b old numbers → KeepsMore h b old old numbers place 0
  keeps_placeless none keeps = grind arith

  pub keeps_known : (n : ℕ) → get nat_cmp numbers place ≡ Some n → KeepsBlocks h b old numbers → KeepsMore h b old old numbers place n
  keeps_known n known keeps = grind arith

  -- one that was read
  pub keeps_read : (new : List Block) (more : BTreeMap ℕ ℕ) (block : Block) (n : ℕ) → place ≢ 0 → new ≡ old ++ block ∷ [] → n ≡ length new → get nat_cmp more place ≡ Some n
      → ((q : ℕ) → is_at (nat_cmp place) q ≡ false → get nat_cmp more q ≡ get nat_cmp numbers q)
      → ((j : ℕ) → j < counts_per_block h → count_of block j ≡ block_count_or_zero h b place j) → KeepsBlocks h b old numbers → KeepsMore h b old new more place n
  keeps_read new more block n some pushed long is same counts keeps = grind (arith, numbered_last, length-append, numbered_before)

-- ---- the list of numbers

pub placed_before : (xs items : List ℕ) (x i : ℕ) → items ≡ xs ++ x ∷ [] → i < length xs → get_or items i 0 ≡ get_or xs i 0
placed_before xs items x i pushed lt = ap (λ ys. get_or ys i 0) pushed ∙ get_or_append_left xs (x ∷ []) 0 i lt

pub placed_last : (xs items : List ℕ) (x i : ℕ) → items ≡ xs ++ x ∷ [] → length xs ≡ i → get_or items i 0 ≡ x
placed_last xs items x i pushed long = ap (λ ys. get_or ys i 0) pushed ∙ get_or_push xs x 0 i long

-- ---- the count of a cluster

module _ (c : Counts) (q : ℕ) where
  pub count_some : (block : Block) → block_in c (q / c.per_block) ≡ Some block → count_in c q ≡ count_of block (q % c.per_block)
  unfolding count_in
  count_some block is = ap (λ o. count_kept o (q % c.per_block)) is

  pub count_none : block_in c (q / c.per_block) ≡ None → count_in c q ≡ 0
  unfolding count_in
  count_none is = ap (λ o. count_kept o (q % c.per_block)) is

  pub count_past_end : length c.numbers.items * c.per_block ≤ q → count_in c q ≡ 0
  count_past_end past =
      let far : length c.numbers.items ≤ q / c.per_block = le-div _ _ _ c.some past in
      count_none (ap (block_numbered c.blocks.items) (get_or_past c.numbers.items (q / c.per_block) 0 far))

-- count j under entry k
pub count_at : (c : Counts) (k j q : ℕ) → q ≡ k * c.per_block + j → j < c.per_block → count_in c q ≡ count_kept (block_in c k) j
unfolding count_in
count_at c k j q split lt = grind (arith, div-mul-add)

pub count_under_block : (c : Counts) (k j q : ℕ) (block : Block) → q ≡ k * c.per_block + j → j < c.per_block → block_in c k ≡ Some block → count_in c q ≡ count_of block j
count_under_block c k j q block split lt kept = count_at c k j q split lt ∙ ap (λ o. count_kept o j) kept

-- the counts from a cluster on, up to count n of its refblock
pub zeros_in_block : (c : Counts) (cluster first k n : ℕ) (block : Block) → first ≡ k * c.per_block → first ≤ cluster → block_in c k ≡ Some block → n ≤ c.per_block
    → ((i : ℕ) → cluster - first ≤ i → i < n → count_of block i ≡ 0) → (q : ℕ) → cluster ≤ q → q < first + n → count_in c q ≡ 0
zeros_in_block c cluster first k n block is from kept few zeros q ge lt =
    count_at c k (q - first) q (omega arith) (omega arith) ∙ ap (λ o. count_kept o (q - first)) kept ∙ zeros (q - first) (omega arith) (omega arith)

pub zeros_to_end : (block : Block) (j next n : ℕ) → (next < counts_kept block → n ≤ next) → ((i : ℕ) → j ≤ i → i < next → count_of block i ≡ 0) → (i : ℕ) → j ≤ i → i < n → count_of block i ≡ 0
zeros_to_end block j next n stops zeros i ge lt = grind arith

pub zeros_without_block : (c : Counts) (cluster first k : ℕ) → first ≡ k * c.per_block → first ≤ cluster → block_in c k ≡ None
    → (q : ℕ) → cluster ≤ q → q < first + c.per_block → count_in c q ≡ 0
zeros_without_block c cluster first k is from kept q ge lt =
    count_at c k (q - first) q (omega arith) (omega arith) ∙ ap (λ o. count_kept o (q - first)) kept

-- the counts of the whole image
pub all_kept : (h : HeaderFields) (b : Bytes) (c : Counts) (n : ℕ) → c.per_block ≡ counts_per_block h → length c.numbers.items ≡ n → n ≡ reftable_entries h
    → ((i : ℕ) → i < n → HasBlock h b c.blocks.items (get_or c.numbers.items i 0) (block_offset (reftable_entry h b i)))
    → (q : ℕ) → count_in c q ≡ count h b q
unfolding count_in count count_under
all_kept h b c n wide long whole each q = grind (arith, get_or_past, reftable_entry-past)
