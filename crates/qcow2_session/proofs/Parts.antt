-- If no check refuses a whole range, a part of the range is refused only for causes that come during the work.
use Rattle.qcow2_image.specs.Prepared.{file_of}
use Rattle.qcow2_image.specs.declared.mapping.MappingKind.TheVariants.{Raw}
use Rattle.qcow2_image.proofs.Map.Held.{mapped_less}
use Rattle.std.proofs.Common.{◌≡◌, ◌+◌, ◌<◌, ◌≤◌, ◌&&◌, ◌∙◌, inl, inr, ℕ, Bool, true, false, not, IsTrue, List, Option, Some, None, refl, sym, ap, arith, subst, Ok, Err, Result, is_some, IsSome}
use Rattle.qcow2_session.proofs.Common.{nat_lt, option_or, cases_Bool, cases_lt, common_steps, Bytes, cluster_size, HeaderFields, ImageError, IsUnderMapping, IsSameImage, is_beside, lacks_data_file, is_failed, is_writable, number_of, size_of, IsUnderMappingIn, IsTaken, passes, refuse_if, refuses_mapping, refuses_to_prepare, refuses_to_read, unusable, Qcow2, Prepared, table_of, ExistsInTables, FitsTables, IsHeldAs, Mapping, further_by, IsHeldRun, Mappings}
use Rattle.qcow2_alloc.specs.declared.error.ImageError.TheVariants as I
use Rattle.qcow2_session.proofs.Beyond.{part_passes}
use Rattle.qcow2_session.proofs.Causing.{own_mapping, put_writes, then_none}
use Rattle.qcow2_session.proofs.Untaken.{row_as}

-- the bytes of an existing mapping are not outdated right after it was prepared
pub put_current : {S F : Type 0} (mid new : Qcow2 S F) (p : Prepared) (offset n k : ℕ) (e : ImageError) → ExistsInTables mid offset n (Ok p) → k ≤ n → (IsSome (table_of p) → ◌≡◌ {A = Result (Unit {0}) ImageError} (Err e) (Err I.OutdatedMapping) → ⊥)
    → (table_of p ≡ None → FitsTables mid new (p.guest + 0) {A = Unit {0}} (Raw (file_of p) (p.offset + 0) true) k (Err e)) → e ≡ I.OutdatedMapping → ⊥
put_current mid new p offset n k e exists le private held outdated = by (table_of p) refl where
  by : (t : Option ℕ) → table_of p ≡ t → ⊥
  by (Some table) is = private (subst (λ (t : Option ℕ). IsSome t) (sym is) refl) (ap Err outdated)
  by None is =
      let there = exists is in
      let whole : IsHeldAs mid (p.guest + 0) (Raw (file_of p) (p.offset + 0) true) n =
      subst (λ at. IsHeldAs mid at (Raw (file_of p) (p.offset + 0) true) n) (let guest : p.guest ≡ offset = there.0 in let same : offset ≡ p.guest + 0 = omega (arith, guest) in same)
      (subst (λ host. IsHeldAs mid offset (Raw (file_of p) host true) n) (let same : p.offset ≡ p.offset + 0 = omega arith in same) there.1) in
      ((held is).outdated outdated).0 (mapped_less mid.file.header.fields (is_beside mid) (is_some mid.backing) mid.l1_table mid.file.caches (p.guest + 0) (Raw (file_of p) (p.offset + 0) true) k n le whole)

-- what was just looked up is not outdated
pub found_current : {S F : Type 0} (mid new : Qcow2 S F) (m : Mapping) (size offset max n k : ℕ) (e : ImageError) → m.offset ≡ offset → further_by 0 m.kind ≡ m.kind → (size ≤ offset → n ≡ 0) → 0 < n → k ≡ n → (offset < size → IsHeldRun mid offset max m.kind n)
    → FitsTables mid new (m.offset + 0) {A = Unit {0}} (further_by 0 m.kind) k (Err e) → e ≡ I.OutdatedMapping → ⊥
found_current mid new m size offset max n k e place whole past some long held fits outdated = elim (cases_lt offset size) [
  | inl lt ↦ (fits.outdated outdated).0
      (subst (λ at. IsHeldAs mid at (further_by 0 m.kind) k) (let same : offset ≡ m.offset + 0 = omega (arith, place) in same)
      (subst (λ kind. IsHeldAs mid offset kind k) (sym whole) (subst (λ c. IsHeldAs mid offset m.kind c) (sym long) (held lt).mapped)))
  | inr le ↦ absurd (let none = past le in omega (arith, none, some))
]

both_none : (a b : Bool) → option_or (refuse_if a I.Failed) (refuse_if b I.Dependency) ≡ None → (a ≡ false) × (b ≡ false)
both_none true b none = absurd (let no : Some I.Failed ≡ None = none in cc)
both_none false true none = absurd (let no : Some I.Dependency ≡ None = none in cc)
both_none false false none = (refl, refl)

three_none : (u : Option ImageError) (a b : Bool) → option_or u (option_or (refuse_if a I.BeyondSize) (refuse_if b I.ReadOnly)) ≡ None → (u ≡ None) × (a ≡ false) × (b ≡ false)
three_none (Some e) a b none = absurd (let no : Some e ≡ None = none in cc)
three_none None true b none = absurd (let no : Some I.BeyondSize ≡ None = none in cc)
three_none None false true none = absurd (let no : Some I.ReadOnly ≡ None = none in cc)
three_none None false false none = (refl, refl, refl)

all_none : (a b c d : Bool) → a ≡ false → b ≡ false → c ≡ false → d ≡ false → option_or (option_or (refuse_if a I.Failed) (refuse_if b I.Dependency)) (option_or (refuse_if c I.BeyondSize) (refuse_if d I.ReadOnly)) ≡ None
all_none a b c d na nb nc nd =
    ap (λ x. option_or (option_or (refuse_if x I.Failed) (refuse_if b I.Dependency)) (option_or (refuse_if c I.BeyondSize) (refuse_if d I.ReadOnly))) na
    ∙ ap (λ x. option_or (refuse_if x I.Dependency) (option_or (refuse_if c I.BeyondSize) (refuse_if d I.ReadOnly))) nb ∙ ap (λ x. option_or (refuse_if x I.BeyondSize) (refuse_if d I.ReadOnly)) nc ∙ ap (λ x. refuse_if x I.ReadOnly) nd

module _ {S F : Type 0} (old mid : Qcow2 S F) (same : IsSameImage old mid) where
  -- the image may still be used
  pub still_usable : is_failed mid ≡ false → unusable old ≡ None → unusable mid ≡ None
  still_usable works none =
      ap (λ b. option_or (refuse_if b I.Failed) (refuse_if (lacks_data_file mid) I.Dependency)) works ∙ ap (λ b. refuse_if b I.Dependency) (same.lacks ∙ (both_none (is_failed old) (lacks_data_file old) none).1)

  pub not_failed_yet : unusable old ≡ None → is_failed old ≡ false
  not_failed_yet none = (both_none (is_failed old) (lacks_data_file old) none).0

  module _ (offset n at m : ℕ) (from : offset ≤ at) (upto : at + m ≤ offset + n) where
    still_within : passes (size_of old) offset n ≡ false → passes (size_of mid) at m ≡ false
    still_within within = ap (λ size. passes size at m) same.size ∙ elim (cases_Bool (passes (size_of old) at m)) [
      | inl past ↦ absurd (let no : true ≡ false = sym (part_passes (size_of old) offset n at m from upto past) ∙ within in cc)
      | inr fits ↦ fits
    ]

    pub part_reads : is_failed mid ≡ is_failed old → refuses_to_read old offset n ≡ None → refuses_to_read mid at m ≡ None
    part_reads works none =
        let whole = then_none (unusable old) (passes (size_of old) offset n) I.BeyondSize none in
        ap (λ u. option_or u (refuse_if (passes (size_of mid) at m) I.BeyondSize)) (still_usable (works ∙ not_failed_yet whole.0) whole.0) ∙ ap (λ b. refuse_if b I.BeyondSize) (still_within whole.1)

    pub part_prepares : is_failed mid ≡ false → 0 < n → refuses_to_prepare old offset n ≡ None → refuses_to_prepare mid at m ≡ None
    part_prepares works some none =
        let whole = three_none (unusable old) (passes (size_of old) offset n) (nat_lt 0 n && not (is_writable old)) none in
        let writes : is_writable mid ≡ true = same.writable ∙ put_writes n (is_writable old) whole.2 some in
        let test : (nat_lt 0 m && not (is_writable mid)) ≡ false = ap (λ b. nat_lt 0 m && not b) writes ∙ never (nat_lt 0 m) in
        all_none (is_failed mid) (lacks_data_file mid) (passes (size_of mid) at m) (nat_lt 0 m && not (is_writable mid)) works (same.lacks ∙ (both_none (is_failed old) (lacks_data_file old) whole.0).1) (still_within whole.1) test
      where
        never : (b : Bool) → (b && false) ≡ false
        never true = refl
        never false = refl

  -- its mapping may be written
  pub mapping_usable : (number : ℕ) → number ≡ number_of old → is_failed mid ≡ is_failed old → unusable old ≡ None → refuses_mapping mid number ≡ None
  mapping_usable number own works none = own_mapping mid number (own ∙ sym same.number) ∙ still_usable (works ∙ not_failed_yet none) none

  -- what a put of k of n bytes is refused for, if the range is mapped as it was prepared
  pub put_met : {P : Type 0} (number offset n k : ℕ) (e : ImageError) → number ≡ number_of old → is_failed mid ≡ is_failed old → (n ≡ 0 → k ≡ 0) → refuses_to_prepare old offset n ≡ None
      → (refuses_mapping mid number ≡ None → IsTrue (is_writable mid) → (e ≡ I.OutdatedMapping → ⊥) → P) → (refuses_mapping mid number ≡ None → k ≡ 0 → ⊥) → (refuses_mapping mid number ≡ None → 0 < n → 0 < k → e ≡ I.OutdatedMapping → ⊥) → P
  put_met number offset n k e own works none_of_none none late nothing current =
      let whole = three_none (unusable old) (passes (size_of old) offset n) (nat_lt 0 n && not (is_writable old)) none in
      let usable = mapping_usable number own works whole.0 in
      elim (cases_lt 0 n) [
        | inl some ↦ late usable (same.writable ∙ put_writes n (is_writable old) whole.2 some)
            (elim (cases_lt 0 k) [ inl more ↦ current usable some more | inr least ↦ absurd (nothing usable (omega (arith, least))) ])
        | inr least ↦ absurd (nothing usable (none_of_none (omega (arith, least))))
      ]

-- what nothing refuses to prepare may be used, and bytes may be written
pub prepares_usable : {S F : Type 0} (image : Qcow2 S F) (offset n : ℕ) → refuses_to_prepare image offset n ≡ None → unusable image ≡ None
prepares_usable image offset n none = (three_none (unusable image) (passes (size_of image) offset n) (nat_lt 0 n && not (is_writable image)) none).0

pub prepares_writable : {S F : Type 0} (image : Qcow2 S F) (offset n : ℕ) → refuses_to_prepare image offset n ≡ None → 0 < n → IsTrue (is_writable image)
prepares_writable image offset n none some = put_writes n (is_writable image) (three_none (unusable image) (passes (size_of image) offset n) (nat_lt 0 n && not (is_writable image)) none).2 some

-- it lies within the size
pub prepares_within : {S F : Type 0} (image : Qcow2 S F) (offset n : ℕ) → refuses_to_prepare image offset n ≡ None → 0 < n → offset + n ≤ size_of image
prepares_within image offset n none some =
    let within = (three_none (unusable image) (passes (size_of image) offset n) (nat_lt 0 n && not (is_writable image)) none).1 in
    elim (cases_lt (size_of image) (offset + n)) [
      | inl past ↦ let passed : passes (size_of image) offset n ≡ true = grind (arith, common_steps, past, some) in absurd (let no : true ≡ false = sym passed ∙ within in cc)
      | inr le ↦ le
    ]

-- ---- a table that is prepared

pub under_taken : {h : HeaderFields} {known : Bytes} {offset n : ℕ} {out : Mappings} → IsTaken h known offset n out → IsUnderMapping h offset out
under_taken taken = record { place = taken.place; other = taken.other; is_out = taken.is_out; keeps_table = taken.keeps_table; same_table = taken.same_table }

-- a part of the range lies under it
pub part_under : (h h' : HeaderFields) → cluster_size h' ≡ cluster_size h → (offset to at : ℕ) (out : Mappings) → offset ≤ at → at < to → IsUnderMapping h' at out → IsUnderMappingIn h offset to out
part_under h h' same offset to at out from upto under = record {
  offset = at;
  low = from;
  high = upto;
  under = record {
    place = under.place;
    other = under.other;
    is_out = under.is_out;
    keeps_table = under.keeps_table;
    same_table = sym (row_as h h' same under.other.guest) ∙ under.same_table ∙ row_as h h' same at;
  };
}
