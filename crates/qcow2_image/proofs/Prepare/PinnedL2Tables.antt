-- Whether an L2 table of the image's own is pinned, as a call finds it.
use Rattle.std.proofs.Common.{◌≡◌, ◌+◌, ◌*◌, ◌/◌, ◌^◌, ◌<◌, ◌≤◌, ◌&&◌, inl, inr, ℕ, Bool, true, false, Option, Some, None, IfOk, IsSome, refl, nat_lt, sym, ap, ◌∙◌, subst, arith, Ok, Err, Result, IfErr, IsErr, IsErrAnd}
use Rattle.qcow2_image.proofs.Common.{Causes, OnOk, div-mul-add, pow_pos, l2_pins, MetadataCaches, ImageError, TablePrepared, IsFaultOrLimit, handed_on, Qcow2, Prepared, IsBegun, EntryTableView, HeaderView, host_offset, entry_at, cluster_size, l1_index_of, NamesOwn, ExistsInTables, table_of, refuse_if, option_or, passes, unusable, is_writable, size_of, refuses_to_prepare, not, cases_lt, lt-ltb, HasOwnTable, FindsOwn, RespectsPins, PreparesUnpinned, own_pins, own_table, MayFailIf}
use Rattle.qcow2_alloc.specs.declared.error.ImageError.TheVariants as I

pub whole_quotient : (k c o : ℕ) → c * 2 ^ k ≡ o → c ≡ o / 2 ^ k
whole_quotient k c o is =
    let whole : c * 2 ^ k + 0 ≡ o = omega (arith, is) in
    sym (sym (ap (λ x. x / 2 ^ k) whole) ∙ div-mul-add c (2 ^ k) 0 (pow_pos k))

-- a refusal that comes during the work is not 9
pub met_untaken : (causes : Causes) (e : ImageError) → MayFailIf causes e → e ≡ TablePrepared → ⊥
met_untaken causes e may_fail is = subst (MayFailIf causes) is may_fail

pub freed_untaken : (e : ImageError) → IsFaultOrLimit e → e ≡ TablePrepared → ⊥
freed_untaken e (inl (inl storage)) is = let bad = sym storage ∙ is in cc
freed_untaken e (inl (inr memory)) is = let bad = sym memory ∙ is in cc
freed_untaken e (inr limit) is = let bad = sym limit ∙ is in cc

-- what a list of causes without any says of the second
none_second : (a : Option ImageError) (p : Bool) (x : ImageError) (b : Option ImageError) → option_or a (option_or (refuse_if p x) b) ≡ None → p ≡ false
none_second (Some e) p x b none = absurd cc
none_second None true x b none = absurd cc
none_second None false x b none = refl

module _ {S F : Type 0} where
  pub found_pins : (old new : Qcow2 S F) (offset table : ℕ) → FindsOwn old new offset (Ok table) → l2_pins new.file.caches table ≡ own_pins old offset
  found_pins old new offset table found = found.pins table ∙ ap (l2_pins old.file.caches) found.table

  -- the table that was found is still the image's own for the offset
  pub found_own : (old new : Qcow2 S F) (offset table : ℕ) → FindsOwn old new offset (Ok table) → table ≡ own_table new offset
  found_own old new offset table found =
      found.table ∙ sym (ap (λ (t : EntryTableView). host_offset (entry_at t.bytes (l1_index_of new.file.header.fields offset)) / cluster_size new.file.header.fields) found.l1_table
      ∙ ap (λ (h : HeaderView). host_offset (entry_at old.l1_table.bytes (l1_index_of h.fields offset)) / cluster_size h.fields) found.header)

  own_still : (old new : Qcow2 S F) (offset : ℕ) → new.l1_table ≡ old.l1_table → new.file.header ≡ old.file.header → HasOwnTable old offset → HasOwnTable new offset
  own_still old new offset l1_table header own = subst (λ (t : EntryTableView). NamesOwn (entry_at t.bytes (l1_index_of new.file.header.fields offset))) (sym l1_table)
      (subst (λ (h : HeaderView). NamesOwn (entry_at old.l1_table.bytes (l1_index_of h.fields offset))) (sym header) own)

  pub finds_owns : (old new : Qcow2 S F) (offset : ℕ) (r : Result ℕ ImageError) → HasOwnTable old offset → FindsOwn old new offset r → IfOk r (λ table. (table ≡ own_table new offset) × HasOwnTable new offset)
  finds_owns old new offset (Ok table) own found = (found_own old new offset table found, own_still old new offset found.l1_table found.header own)
  finds_owns old new offset (Err e) own found = tt

  -- the same after the clusters on the list were freed
  pub finds_freed : (mid old new : Qcow2 S F) (offset : ℕ) (r : Result ℕ ImageError) → old.l1_table ≡ mid.l1_table → old.file.header ≡ mid.file.header → HasOwnTable mid offset → (HasOwnTable old offset → FindsOwn old new offset r)
      → IfOk r (λ table. (table ≡ own_table new offset) × HasOwnTable new offset)
  finds_freed mid old new offset r l1_table header own found = let still = own_still mid old offset l1_table header own in finds_owns old new offset r still (found still)

  -- what pins a table isn't existing
  pub pinned_exists : (image : Qcow2 S F) (offset n : ℕ) (r : Result Prepared ImageError) → IfOk r (λ p. IsSome (table_of p)) → ExistsInTables image offset n r
  pinned_exists image offset n (Ok p) pins = λ none. absurd (let no : IsSome {T = ℕ} None = subst (λ (t : Option ℕ). IsSome t) none pins in cc)
  pinned_exists image offset n (Err e) pins = tt

  pub refused_exists : (image : Qcow2 S F) (offset n : ℕ) (r : Result Prepared ImageError) (e : ImageError) → IsErr r × IsErrAnd r (λ x. x ≡ e) → ExistsInTables image offset n r
  refused_exists image offset n r e is = handed_on (λ (x : Result _ _). ExistsInTables image offset n x) r e is tt

  -- a range that isn't refused at once ends below the size
  pub lies_below : (image : Qcow2 S F) (offset n : ℕ) → 0 < n → refuses_to_prepare image offset n ≡ None → offset + n ≤ size_of image
  lies_below image offset n some none = elim (cases_lt (size_of image) (offset + n)) [
    | inl lt ↦ absurd (let is : passes (size_of image) offset n ≡ false = none_second (unusable image) (passes (size_of image) offset n) I.BeyondSize (refuse_if (nat_lt 0 n && not (is_writable image)) I.ReadOnly) none in
        let yes : passes (size_of image) offset n ≡ true = rw (lt-ltb 0 n some, lt-ltb (size_of image) (offset + n) lt) refl in
        let no : true ≡ false = sym yes ∙ is in cc)
    | inr le ↦ le
  ]

  pub heeds_refused : {A : Type 0} (image : Qcow2 S F) (offset : ℕ) (r : Result A ImageError) (e : ImageError) → IsErr r × IsErrAnd r (λ x. x ≡ e) → (e ≡ TablePrepared → 0 < own_pins image offset) → RespectsPins image offset r
  heeds_refused image offset r e is why = handed_on (λ (x : Result _ _). RespectsPins image offset x) r e is why

  pub unpinned_refused : (image : Qcow2 S F) (offset : ℕ) (r : Result Prepared ImageError) (e : ImageError) → IsErr r × IsErrAnd r (λ x. x ≡ e) → (e ≡ TablePrepared → 0 < own_pins image offset) → PreparesUnpinned image offset r
  unpinned_refused image offset r e is why = handed_on (λ (x : Result _ _). PreparesUnpinned image offset x) r e is why

  -- a part that prepares in the table that was found
  pub prepared_unpinned : (image : Qcow2 S F) (offset n : ℕ) (r : Result Prepared ImageError) → n ≡ own_pins image offset → IfErr r (λ e. e ≡ TablePrepared → 0 < n) → OnOk r (n ≡ 0) → PreparesUnpinned image offset r
  prepared_unpinned image offset n (Ok p) same taken none = λ some. sym same ∙ none
  prepared_unpinned image offset n (Err e) same taken none = λ is. subst (λ k. 0 < k) same (taken is)

  -- ---- a call that has begun
  pub begun_pins : (old begun : Qcow2 S F) (offset : ℕ) → IsBegun old begun → own_pins begun offset ≡ own_pins old offset
  begun_pins old begun offset begins =
      ap (λ (i : Qcow2 S F). own_pins i offset) begins.rest ∙ ap (λ (k : MetadataCaches S). l2_pins k (own_table old offset)) begins.caches

  pub begun_own : (old begun : Qcow2 S F) (offset : ℕ) → IsBegun old begun → HasOwnTable old offset → HasOwnTable begun offset
  begun_own old begun offset begins own = subst (λ (i : Qcow2 S F). HasOwnTable i offset) (sym begins.rest) own

  pub heeds_begun : {A : Type 0} (old begun : Qcow2 S F) (offset : ℕ) (r : Result A ImageError) → IsBegun old begun → RespectsPins begun offset r → RespectsPins old offset r
  heeds_begun old begun offset (Ok x) begins none = sym (begun_pins old begun offset begins) ∙ none
  heeds_begun old begun offset (Err e) begins taken = λ is. subst (λ n. 0 < n) (begun_pins old begun offset begins) (taken is)

  pub unpinned_begun : (old begun : Qcow2 S F) (offset : ℕ) (r : Result Prepared ImageError) → IsBegun old begun → PreparesUnpinned begun offset r → PreparesUnpinned old offset r
  unpinned_begun old begun offset (Ok p) begins none = λ some. sym (begun_pins old begun offset begins) ∙ none some
  unpinned_begun old begun offset (Err e) begins taken = λ is. subst (λ n. 0 < n) (begun_pins old begun offset begins) (taken is)
