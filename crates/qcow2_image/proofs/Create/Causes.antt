-- Why an image is not created: the refusals of its parts, and when a fault of the storage is reported.
use Rattle.std.proofs.Common.{◌≡◌, ◌≢◌, ◌⊎◌, ◌+◌, ◌^◌, ◌<◌, ◌≤◌, [], inl, inr, ℕ, true, Option, Some, None, Result, Ok, Err, refl, sym, ap, ◌∙◌, subst, arith, IfErr, IsTrue}
use Rattle.qcow2_image.proofs.Common.{not, option_or, bit_at, trailing_zeros, w64, cases_eq, cases_lt, pow-add, pow_pos, pow_mono, BackingView, StorageView, rose_since, ImageError, byte_at, header, CanBeNew, IsConsistent, IsNewImage, new_image_consistent, IsOpened, FaultsReported, IsFault, Qcow2, CountsImageFaults, faults_beside, is_writable, storage_of_image, abstract_of, faults_below, HasLogarithms, IsAllowed, IsReasonAgainst, backing_format_in, backing_name_in, data_file_name_in, IsCreated, IsReasonNotToCreate, IsReasonNotToCreateOpen, LacksPlaceCreating, longest_disk, Qcow2CreateBuilder, IsJustifiedRefusal, OpensRightly, IsFaultOrLimit, MayFail, IsUnlimited, refuse_if, refuses_to_resize, in_image}
use Rattle.std.proofs.lemmas.Nat.Bits.{bit_at-pow_other, bit_at-pow_same, bit_at-trailing_zeros}
use Rattle.qcow2_alloc.specs.declared.error.ImageError.TheVariants as I
use Rattle.qcow2_image.proofs.Images.Sizes.{sound_is_usable}
use Rattle.qcow2_image.specs.declared.image.Missing.TheVariants as N
use Rattle.qcow2_image.specs.CountedOpening.{OpeningCounts}
use Rattle.qcow2_image.proofs.Create.Faults.{opening_fault}
use Rattle.qcow2_image.proofs.Create.NewDisks.{new_disk_consistent}

pub faults_met : {T : Type 0} (r : Result T ImageError) → IfErr r IsFault → IfErr r MayFail
faults_met (Ok x) fault = tt
faults_met (Err e) fault = elim fault [ inl storage ↦ subst MayFail (sym storage) tt | inr memory ↦ subst MayFail (sym memory) tt ]

-- the opening of a consistent image isn't refused for a limit
no_limit : (contents : _) → IsConsistent (byte_at contents) → IsJustifiedRefusal contents true N.Nothing I.Limit → ⊥
no_limit contents consistent why = elim why [
  | inl limits ↦ limits.1 consistent.header_reads.within_limits
  | inr refused ↦ elim refused.1 [ inl none ↦ absurd none | inr past ↦ let far = past.2 in let fits = consistent.reftable_fits in absurd (omega (arith, far, fits)) ]
]

-- a new image isn't refused for a limit
pub opening_unlimited : (contents : _) (e : ImageError) → IsNewImage (header (byte_at contents)) (byte_at contents) → IsJustifiedRefusal contents true N.Nothing e → IsUnlimited e
opening_unlimited contents I.Metadata new why = tt
opening_unlimited contents I.Limit new why = no_limit contents (new_image_consistent (header (byte_at contents)) (byte_at contents) new) why
opening_unlimited contents I.UnalignedTable new why = tt
opening_unlimited contents I.Memory new why = tt
opening_unlimited contents I.Storage new why = tt
opening_unlimited contents I.Dependency new why = tt
opening_unlimited contents e new why = absurd why

-- ---- failures of the storage

module _ {S F : Type 0} (view : S → StorageView) where
  -- an opening that is refused, and the refusal that is reported
  pub told_opening : {T : Type 0} (before : ℕ) (storage : S) (e : ImageError) → OpeningCounts {F = F} view before (Err (storage, e)) → FaultsReported {T = T} before (view storage).faults (Err e)
  told_opening before storage e counts = record { no_fewer = counts.no_fewer; rose = λ is. counts.rose (cc is); told = counts.told }

  -- an image that is opened, changed and closed, with no disk below that fails, and no data file
  pub told_closed : {T : Type 0} (backing : F → BackingView) → ((b : F) → (backing b).faults ≡ 0) → (before : ℕ) (old new : Qcow2 S F) (last : S) (r : Result T ImageError) → old.data_file ≡ None → new.data_file ≡ None → (view (storage_of_image old)).faults ≡ before → CountsImageFaults view backing old new r
      → last ≡ storage_of_image new → FaultsReported before (view last).faults r
  told_closed {T} backing none before old new last r alone still first counts is = subst (λ (s : S). FaultsReported before (view s).faults r) (sym is) (by r counts) where
    below : (disk : Option F) → faults_below view backing disk ≡ 0
    below None = refl
    below (Some b) = none b

    by : (r : Result T ImageError) → CountsImageFaults view backing old new r → FaultsReported before (view (storage_of_image new)).faults r
    by (Ok x) counts = record { no_fewer = omega (arith, first, counts.no_fewer.storage); rose = λ is. absurd (cc is); told = counts.told.storage ∙ first }
    by (Err e) counts = record {
      no_fewer = omega (arith, first, counts.no_fewer.storage);
      rose = λ is. elim (counts.rose (cc is)) [
        | inl rose ↦ rose_since before (view (storage_of_image old)).faults (view (storage_of_image new)).faults (omega (arith, first)) rose
        | inr rose ↦ elim rose [
          | inl rose ↦ absurd (omega (arith, rose, below old.backing, below new.backing))
          | inr rose ↦ absurd (let was = ap (λ (file : Option S). faults_beside view file) alone in let now = ap (λ (file : Option S). faults_beside view file) still in omega (arith, rose, was, now))
        ]
      ];
      told = λ other. (counts.told other).storage ∙ first;
    }

-- ---- the whole call

-- an opened image that is writable isn't refused another size
pub usable_opened : {S F : Type 0} (view : S → StorageView) (backing : F → BackingView) (image : Qcow2 S F) → IsOpened (abstract_of view backing image (in_image [])) → IsTrue (is_writable image) → refuses_to_resize image ≡ None
usable_opened view backing image opened writable =
    let may : is_writable image ≡ true = writable in
    ap (λ r. option_or r (refuse_if (not (is_writable image)) I.ReadOnly)) (sound_is_usable view backing image (in_image []) opened.sound) ∙ ap (λ b. refuse_if (not b) I.ReadOnly) may

-- a power of two is that of one number alone
same_power : (a b : ℕ) → 2 ^ a ≡ 2 ^ b → a ≡ b
same_power a b same = elim (cases_eq a b) [
  | inl is ↦ is
  | inr apart ↦ absurd (let one = bit_at-pow_same a in let none = bit_at-pow_other b a apart in let bad : 1 ≡ 0 = sym one ∙ ap (λ n. bit_at n a) same ∙ none in omega (arith, bad))
]

-- the lowest bit of a power of two is its own
pub no_power : (n : ℕ) → (trailing_zeros w64 n < 64 → 2 ^ trailing_zeros w64 n ≡ n → ⊥) → (bits : ℕ) → bits < 64 → n ≢ 2 ^ bits
no_power n other bits lt is =
    let some : 0 < n = (let p = pow_pos bits in omega (arith, is, p)) in
    let fits : n < 2 ^ 64 = (let p : 2 ^ (bits + 1) ≤ 2 ^ 64 = pow_mono {j = 64} (let le : bits + 1 ≤ 64 = omega (arith, lt) in le) in let q = pow_pos bits in let e = pow-add 2 bits 1 in omega (arith, is, p, q, e)) in
    let low = bit_at-trailing_zeros w64 n some fits in
    elim (cases_eq (trailing_zeros w64 n) bits) [
      | inl same ↦ other low.0 (ap (λ k. 2 ^ k) same ∙ sym is)
      | inr apart ↦ absurd (let bad : 1 ≡ 0 = sym low.1 ∙ ap (λ m. bit_at m (trailing_zeros w64 n)) is ∙ bit_at-pow_other bits (trailing_zeros w64 n) apart in omega (arith, bad))
    ]

module _ {S : Type 0} (builder : Qcow2CreateBuilder S) where
  pub no_such_header : (bits order : ℕ) → builder.cluster_size ≡ 2 ^ bits → builder.refcount_width ≡ 2 ^ order → ¬ CanBeNew bits order (backing_name_in builder) (backing_format_in builder) (data_file_name_in builder) → ¬ IsAllowed builder
  no_such_header bits order clusters counts none allowed =
      let same : allowed.cluster_bits ≡ bits = same_power allowed.cluster_bits bits (sym allowed.cluster_size_is ∙ clusters) in
      let same_order : allowed.refcount_order ≡ order = same_power allowed.refcount_order order (sym allowed.refcount_width_is ∙ counts) in
      let low : 9 ≤ bits = (let l = allowed.no_smaller in omega (arith, l, same)) in
      none (record {
        low = low;
        high = (let h = allowed.no_larger in omega (arith, h, same));
        order = (let o = allowed.no_wider in omega (arith, o, same_order));
        room = (let room = allowed.room in omega (arith, room, clusters));
      })

  -- and where one is, they are allowed
  pub is_allowed : (logarithms : ℕ × ℕ) → HasLogarithms builder logarithms → IsAllowed builder
  is_allowed logarithms has = record {
    cluster_bits = logarithms.0;
    refcount_order = logarithms.1;
    cluster_size_is = has.clusters;
    refcount_width_is = has.counts;
    no_smaller = has.can_be_new.low;
    no_larger = has.can_be_new.high;
    no_wider = has.can_be_new.order;
    room = (let room = has.can_be_new.room in let size = has.clusters in omega (arith, room, size));
  }

  -- the disk is too long, or not
  pub too_long : (size : ℕ) → builder.cluster_size ≡ size → ¬ (builder.size ≤ longest_disk size) → longest_disk builder.cluster_size < builder.size
  too_long size is not = subst (λ n. longest_disk n < builder.size) (sym is) (elim (cases_lt (longest_disk size) builder.size) [ inl past ↦ past | inr le ↦ absurd (not le) ])

  module _ (view : S → StorageView) (storage : S) where
    pub fault_reason : (e : ImageError) → IsFault e → IsReasonNotToCreate view builder storage e
    fault_reason e (inl is) = subst (λ (x : ImageError). IsReasonNotToCreate view builder storage x) (sym is) tt
    fault_reason e (inr is) = subst (λ (x : ImageError). IsReasonNotToCreate view builder storage x) (sym is) tt

    -- what is refused before any work
    pub reason_against : (e : ImageError) → IsReasonAgainst builder e → IsReasonNotToCreate view builder storage e
    reason_against I.InvalidOption why = why
    reason_against I.Preallocation why = why
    reason_against I.Limit why = inl why
    reason_against e why = absurd why

    reason_of : (e : ImageError) → IsFaultOrLimit e → (e ≡ I.Limit → LacksPlaceCreating view builder storage) → IsReasonNotToCreate view builder storage e
    reason_of e (inl fault) lacks = fault_reason e fault
    reason_of e (inr is) lacks = subst (λ (x : ImageError). IsReasonNotToCreate view builder storage x) (sym is) (inr (lacks is))

    pub reasons_of : {T : Type 0} (r : Result T ImageError) → IfErr r IsFaultOrLimit → IfErr r (λ e. e ≡ I.Limit → LacksPlaceCreating view builder storage) → IfErr r (IsReasonNotToCreate view builder storage)
    reasons_of (Ok x) why lacks = tt
    reasons_of (Err e) why lacks = reason_of e why lacks

    -- what refuses the new image
    pub reasons_made : (e : ImageError) → IsReasonAgainst builder e ⊎ IsFault e → IsReasonNotToCreate view builder storage e
    reasons_made e (inl why) = reason_against e why
    reasons_made e (inr fault) = fault_reason e fault

  module _ (view : S → StorageView) where
    -- the image that was made is opened
    module _ (storage last : S) (made : IsCreated builder (view storage)) where
      consistent : IsConsistent (byte_at (view storage).contents)
      consistent = new_disk_consistent builder.preallocate builder.size (byte_at (view storage).contents) made.new_disk

      opening_reason : (e : ImageError) → IsJustifiedRefusal (view storage).contents true N.Nothing e → IsReasonNotToCreateOpen view builder (last, e)
      opening_reason e why = elim (opening_fault (view storage).contents consistent e why) [
        | inl fault ↦ fault_reason view last e fault
        | inr is ↦ absurd (no_limit (view storage).contents consistent (subst (λ (x : ImageError). IsJustifiedRefusal (view storage).contents true N.Nothing x) is why))
      ]

    pub opening_reasons : {F : Type 0} (storage : S) (r : Result (Qcow2 S F) (S × ImageError)) → IsCreated builder (view storage) → OpensRightly (view storage) true N.Nothing r
        → IfErr r (IsReasonNotToCreateOpen view builder)
    opening_reasons storage (Ok image) made rightly = tt
    opening_reasons storage (Err refused) made rightly = opening_reason storage refused.0 made refused.1 (rightly.1 made.honest)
