-- Why copying, and allocating a first cluster, are refused: for a fault, a limit, or compressed data.
use Rattle.std.proofs.Common.{◌≡◌, ◌⊎◌, ◌+◌, ◌-◌, ◌*◌, ◌/◌, ◌%◌, ◌^◌, ◌<◌, ◌≤◌, inl, inr, ℕ, Bool, true, List, Option, Some, None, Result, Ok, Err, refl, sym, ap, ◌∙◌, subst, arith, IfErr, IsErr, IsErrAnd}
use Rattle.qcow2_image.proofs.Common.{cases_lt, div-add-mod', div-mul-add, mod-mul-add, mul-le, pow-add, pow_pos, BackingView, StorageView, Bytes, cover, cluster_size, named_for_tables, HeaderFields, L2Mapping, Data, Zero, Compressed, Uncovered, Kind, special, kind_at, IsCompressed, Pending, Hosting, IsHostedAt, DriverState, StateInvariant, in_own, beside_tables, shares, IsFault, known_in, state_in, IsFaultOr, ImageError, handed_on, own_cluster, found_kind, ImageInvariant, MayFailAlone, MayFailMapped, MayFailReading, IsSpecial, IsFaultOrLimit, Qcow2, MappingKind, Prepared, MayFailOn, MayFailCopying, Mappings, MayFailFilling}
use Rattle.std.specs.Prelude.{SomeIff}
use Rattle.qcow2_alloc.specs.KeptMarks.{KeepsHeldTables}
use Rattle.qcow2_laws.specs.GuestLaws.{Kept as HostedKept, Held as HostedHeld}
use Rattle.qcow2_alloc.specs.declared.error.ImageError.TheVariants as I
use Rattle.qcow2_image.specs.declared.mapping.MappingKind.TheVariants as M
use Rattle.qcow2_image.proofs.Call.BehindHeader.{behind_first}
use Rattle.qcow2_image.proofs.Call.FailingErrors.{met_with}
use Rattle.qcow2_image.proofs.Map.Looked.{never_past}
use Rattle.qcow2_image.specs.Found.{kind_in}
use Rattle.qcow2_image.proofs.Images.Places.{inside_of}

-- ---- refusals

-- a refusal is handed on with its cause
pub hands_met : {A : Type 0} (C : ImageError → Type 0) (r : Result A ImageError) (e : ImageError) → IsErr r × IsErrAnd r (λ x. x ≡ e) → C e → IfErr r C
hands_met C r e on why = handed_on (λ (x : Result _ _). IfErr x C) r e on why

-- another cause that follows from it
pub met_as : {A : Type 0} (C D : ImageError → Type 0) (r : Result A ImageError) → ((e : ImageError) → C e → D e) → IfErr r C → IfErr r D
met_as C D (Ok x) to why = tt
met_as C D (Err e) to why = to e why

-- a fault, or a limit whatever its cause
pub limit_alone : (C : Type 0) (e : ImageError) → IsFaultOr C e → IsFaultOrLimit e
limit_alone C e why = elim why [ inl fault ↦ inl fault | inr limit ↦ inr limit.0 ]

-- filling a cluster is part of allocating one
pub filling_met : (B C D : Type 0) (e : ImageError) → (B → C) → IsFault e ⊎ ((e ≡ I.Compressed) × B) → MayFailAlone C D e
filling_met B C D e to why = elim why [ inl fault ↦ inl (inl fault) | inr compressed ↦ inr (inl (compressed.0, to compressed.1)) ]

-- ---- kinds of mappings

abbrev IsSpecialKind : Kind → Type 0
IsSpecialKind (special offset) = Unit {0}
IsSpecialKind kind = ⊥

found_special : (kind : MappingKind) → IsSpecial kind → IsSpecialKind (found_kind kind)
found_special (M.Special offset) is = tt
found_special kind is = absurd is

special_at : (h : HeaderFields) (backed : Bool) (offset : ℕ) (mapping : L2Mapping) → IsSpecialKind (kind_at h backed offset mapping) → IsCompressed mapping
special_at h backed offset (Compressed place sectors) is = tt
special_at h true offset Uncovered is = absurd is
special_at h backed offset mapping is = absurd is

special_in : (h : HeaderFields) (beside backed : Bool) (offset : ℕ) (mapping : L2Mapping) → IsSpecialKind (kind_in h beside backed offset mapping) → IsCompressed mapping
special_in h beside backed offset (Data host copied) is = absurd is
special_in h beside backed offset (Zero kept) is = special_at h backed offset (Zero kept) is
special_in h beside backed offset (Compressed place sectors) is = tt
special_in h beside backed offset Uncovered is = special_at h backed offset Uncovered is

-- the bytes of a guest cluster are read, unless it is compressed
pub reading_met : (h : HeaderFields) (beside backed : Bool) (offset : ℕ) (mapping : L2Mapping) (kind : MappingKind) → found_kind kind ≡ kind_in h beside backed offset mapping → (e : ImageError) → MayFailReading kind e → IsFault e ⊎ ((e ≡ I.Compressed) × IsCompressed mapping)
reading_met h beside backed offset mapping kind is e why = elim why [
  | inl fault ↦ inl fault
  | inr other ↦ elim other [
    | inl compressed ↦ inr (compressed.0, special_in h beside backed offset mapping (subst IsSpecialKind is (found_special kind compressed.1)))
    | inr past ↦ absurd (never_past h beside backed offset mapping (sym (ap found_kind past.1) ∙ is))
  ]
]

-- so the bytes of a guest cluster never lie past the end
pub copying_met : {S F : Type 0} (old new : Qcow2 S F) (h : HeaderFields) (beside backed : Bool) (offset : ℕ) (mapping : L2Mapping) (kind : MappingKind) → found_kind kind ≡ kind_in h beside backed offset mapping → KeepsHeldTables old.file.caches new.file.caches → (e : ImageError) → MayFailCopying new kind e
    → MayFailFilling old new mapping e
copying_met old new h beside backed offset mapping kind is keeps e why = elim why [ inl may_fail ↦ met_with new (λ special. record { compressed = special_in h beside backed offset mapping (subst IsSpecialKind is (found_special kind special)); tables = keeps }) e may_fail | inr past ↦ absurd (never_past h beside backed offset mapping (sym (ap found_kind past.1) ∙ is)) ]

-- bytes that were looked up before are read so too
pub mapped_met : (held : Type 0) (kind : MappingKind) {whole : Type 0} → whole → (e : ImageError) → MayFailReading kind e → MayFailMapped held kind whole e
mapped_met held kind is e why = elim why [
  | inl fault ↦ inl (inl (inl fault))
  | inr other ↦ elim other [ inl compressed ↦ inr (compressed.0, compressed.1, is) | inr past ↦ inl (inr past.0) ]
]

-- what is found of the image at another moment
pub mapped_met_at : (held : Type 0) (kind : MappingKind) {whole whole' : Type 0} → (whole → whole') → (e : ImageError) → MayFailMapped held kind whole e → MayFailMapped held kind whole' e
mapped_met_at held kind to e why = elim why [
  | inl again ↦ inl again
  | inr compressed ↦ inr (compressed.0, compressed.1, to compressed.2)
]

-- ---- places

-- a place of a cluster that isn't cluster 0
pub behind_start : (size cluster at : ℕ) → 0 < cluster → cluster * size ≤ at → size ≤ at
behind_start size cluster at some behind = let first : 1 * size ≤ cluster * size = mul-le 1 size cluster size (omega (arith, some)) (omega arith) in omega (arith, first, behind)

-- within the cluster of an offset 64 bits hold each place
pub within_cluster : (bits offset k : ℕ) → bits ≤ 64 → offset < 2 ^ 64 → k < 2 ^ bits → offset - offset % 2 ^ bits + k < 2 ^ 64
within_cluster bits offset k few near within =
    let split : 64 ≡ 64 - bits + bits = omega (arith, few) in
    let whole : 2 ^ 64 ≡ 2 ^ (64 - bits) * 2 ^ bits = ap (λ n. 2 ^ n) split ∙ pow-add 2 (64 - bits) bits in
    let is : offset / 2 ^ bits * 2 ^ bits + offset % 2 ^ bits ≡ offset = div-add-mod' offset (2 ^ bits) in
    elim (cases_lt (offset / 2 ^ bits) (2 ^ (64 - bits))) [
      | inl lt ↦
          let next : (offset / 2 ^ bits + 1) * 2 ^ bits ≤ 2 ^ (64 - bits) * 2 ^ bits = mul-le (offset / 2 ^ bits + 1) (2 ^ bits) (2 ^ (64 - bits)) (2 ^ bits) (omega (arith, lt)) (omega arith) in
          let one : (offset / 2 ^ bits + 1) * 2 ^ bits ≡ offset / 2 ^ bits * 2 ^ bits + 2 ^ bits = omega arith in
          omega (arith, next, one, whole, is, within)
      | inr past ↦
          let over : 2 ^ (64 - bits) * 2 ^ bits ≤ offset / 2 ^ bits * 2 ^ bits = mul-le (2 ^ (64 - bits)) (2 ^ bits) (offset / 2 ^ bits) (2 ^ bits) past (omega arith) in
          absurd (omega (arith, over, whole, is, near))
    ]

-- a sum that fits into 64 bits is returned
pub told_sum : (r : Option ℕ) (n : ℕ) → SomeIff r (n < 2 ^ 64) n → n < 2 ^ 64 → r ≡ None → ⊥
told_sum None n none within is = none within
told_sum (Some m) n some within is = absurd cc

-- ---- the header's cluster

first_named : (h : HeaderFields) (b : Bytes) → 0 < named_for_tables h b (0 / cluster_size h)
first_named h b =
    let own = in_own h 0 in
    let all = shares h b (0 / cluster_size h) in
    omega (arith, own, all)

-- no data lie there
hosted_behind : (s : DriverState) (hosting : Hosting) (o place : ℕ) → StateInvariant s → s.header.incompatible ≡ 0 → IsHostedAt s hosting o place → cluster_size s.header ≤ place
hosted_behind s hosting o place sound inside hosted = elim (cases_lt place (cluster_size s.header)) [
  | inr behind ↦ behind
  | inl below ↦
      let some = pow_pos s.header.cluster_bits in
      let here : place / cluster_size s.header ≡ 0 / cluster_size s.header = ap (λ n. n / cluster_size s.header) (let e : place ≡ 0 * cluster_size s.header + place = omega arith in e) ∙ div-mul-add 0 (cluster_size s.header) place below
      ∙ sym (ap (λ n. n / cluster_size s.header) (let e : 0 ≡ 0 * cluster_size s.header + 0 = omega arith in e) ∙ div-mul-add 0 (cluster_size s.header) 0 some) in
      let none : named_for_tables s.header s.on_storage (0 / cluster_size s.header) ≡ 0 = ap (named_for_tables s.header s.on_storage) (sym here) ∙ beside_tables s hosting o place sound inside hosted in
      let named = first_named s.header s.on_storage in
      absurd (omega (arith, none, named))
]

module _ {S F : Type 0} (view : S → StorageView) (backing : F → BackingView) (out : Mappings) (p : Pending) (image : Qcow2 S F) (sound : ImageInvariant view backing p image out) where
  abbrev h : HeaderFields
  h = image.file.header.fields

  abbrev s : DriverState
  s = state_in view image.file p

  invariant : StateInvariant s
  invariant = sound.file.caches.kept.kept.crash_invariant

  -- a zero entry keeps none of its bytes
  pub kept_behind : (guest host : ℕ) → cover h (known_in view image.file) guest ≡ Zero (Some (host, true)) → cluster_size h ≤ host
  kept_behind guest host kept =
      let some = pow_pos h.cluster_bits in
      let e : guest * cluster_size h ≡ guest * cluster_size h + 0 = omega arith in
      let row : guest * cluster_size h / cluster_size h ≡ guest = own_cluster h.cluster_bits guest in
      let rest : guest * cluster_size h % cluster_size h ≡ 0 = ap (λ n. n % cluster_size h) e ∙ mod-mul-add guest (cluster_size h) 0 some in
      hosted_behind s HostedKept (guest * cluster_size h) host invariant (inside_of sound) (host, ap (cover h (known_in view image.file)) row ∙ kept, omega (arith, rest))

  -- nor is it new
  pub new_behind : (cluster : ℕ) → 0 < p.new_data cluster → 0 < cluster
  new_behind cluster some =
      let size = pow_pos h.cluster_bits in
      let behind : cluster_size h ≤ cluster * cluster_size h = hosted_behind s HostedHeld 0 (cluster * cluster_size h) invariant (inside_of sound) (subst (λ c. 0 < p.new_data c) (sym (own_cluster h.cluster_bits cluster)) some) in
      behind_first h.cluster_bits cluster (cluster * cluster_size h) refl (omega (arith, behind, size))
