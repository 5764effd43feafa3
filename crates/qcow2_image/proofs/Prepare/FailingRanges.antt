-- Why preparing a range of a sound image is refused. A mapping that can be extended stays within 64 bits, and begins at a cluster boundary. Its table is cached and readable.
use Rattle.std.proofs.Common.{◌≡◌, ◌+◌, ◌*◌, ◌/◌, ◌%◌, ◌^◌, ◌<◌, ◌≤◌, ◌∷◌, inl, inr, ℕ, Bool, List, length, [], Option, Some, refl, ap, ◌∙◌, subst, arith, IsSome}
use Rattle.qcow2_image.proofs.Common.{slice_get, cases_lt, div-add-mod', mod-mul-add, mod_below, mul-le-mul_right, BackingView, StorageView, host_offset, cluster_size, entries_per_cluster, HeaderView, HeaderFields, Sizes, Sizes-from, l1_entry-past, contents_in, known_in, KeepsHeader, IsEntryAt, l2_at, ImageError, Qcow2, Prepared, ClusterMapping, cluster_of, pending_in, pins_by, IsPending, IsReadyWith, ImageInvariant, MayFailAlone, KeepsL1Place, MayGoOn, Mappings}
use Rattle.qcow2_image.proofs.Images.Apart.{pins_own}
use Rattle.qcow2_image.proofs.Commit.Entered.{HasFirst, pinned_new_data}
use Rattle.qcow2_image.proofs.Prepare.FollowingCluster.{host_is, next_cluster, next_is, table_is}
use Rattle.qcow2_image.proofs.Prepare.NameablePlaces.{small, stands_first}
use Rattle.qcow2_image.proofs.Images.ClusterMappings.{over_all_at}

-- ---- refusals

-- the causes follow from those of a part
pub alone_as : {C D C' D' : Type 0} → (C → C') → (D → D') → (e : ImageError) → MayFailAlone C D e → MayFailAlone C' D' e
alone_as compressed far e may_fail = elim may_fail [
  | inl why ↦ inl why
  | inr cause ↦ elim cause [ inl one ↦ inr (inl (one.0, compressed one.1)) | inr one ↦ inr (inr (one.0, far one.1)) ]
]

-- ---- a mapping that goes on

module _ {S F : Type 0} (view : S → StorageView) (backing : F → BackingView) (old : Qcow2 S F) (out : Mappings) (k : ℕ) (p : Prepared) (at : slice_get out.slots k ≡ Some (Some p)) (n table : ℕ) (overwrite : Bool) (may : MayGoOn old.file.header.fields n table p)
    (sound : ImageInvariant view backing (pending_in view backing old out) old out) where
  abbrev h : HeaderFields
  h = old.file.header.fields

  abbrev size : ℕ
  size = cluster_size h

  abbrev entries : ℕ
  entries = entries_per_cluster h

  abbrev count : ℕ
  count = length p.clusters.items

  abbrev row : ℕ
  row = cluster_of h p / entries

  pending : IsPending h out.place (known_in view old.file) (contents_in view old.file) p table
  pending = subst (IsReadyWith h out.place (known_in view old.file) (contents_in view old.file) p) may.under (sound.ready k p at).mapped

  -- its table is held
  held : IsSome (l2_at old.file.caches table)
  held = pinned_new_data old.file.caches table (
      let all = over_all_at pins_by out k p at table in
      let mine = pins_own p table may.under in
      let pins = sound.pinned table in
      omega (arith, all, mine, pins))

  -- so the entry after it reads
  pub next_reads : {A : Type 0} (cluster : ℕ) → cluster ≡ (p.guest + p.length) / size → (IsEntryAt h (known_in view old.file) row table (cluster % entries) → cluster / entries ≡ row → IsSome (l2_at old.file.caches table) → A) → A
  next_reads cluster is reads =
      let same : cluster ≡ cluster_of h p + count = is ∙ next_cluster view backing old out k p at n table overwrite may sound in
      let any = (Sizes-from h (contents_in view old.file) sound.file.caches.kept.kept.crash_invariant.top.header_reads).entries in
      reads (record { real = pending.named.real; place = pending.named.place; within = mod_below cluster entries any }) (ap (λ c. c / entries) same ∙ table_is view backing old out k p at n table overwrite may sound) held

  -- ---- its ends

  sizes : Sizes h
  sizes = Sizes-from h (contents_in view old.file) sound.file.caches.kept.kept.crash_invariant.top.header_reads

  few_entries : entries ≤ 2 ^ 18
  few_entries = let eights = sizes.eights in let s = small view backing old out (pending_in view backing old out) sound p in omega (arith, eights, s)

  -- its L1 entry is one of the table
  row_within : row < h.l1_entries
  row_within = elim (cases_lt row h.l1_entries) [
    | inl within ↦ within
    | inr past ↦ absurd (pending.named.real (ap host_offset (l1_entry-past h (known_in view old.file) row past)))
  ]

  pub guest_fits : p.guest + p.length < 2 ^ 64
  guest_fits =
      let many = sound.file.caches.kept.kept.crash_invariant.top.header_reads.within_limits.few_l1_entries in
      let within = may.within in
      let split : cluster_of h p / entries * entries + cluster_of h p % entries ≡ cluster_of h p = div-add-mod' (cluster_of h p) entries in
      let lt = row_within in
      let rows : (row + 1) * entries ≤ 4194304 * entries = mul-le-mul_right entries (omega (arith, many, lt)) in
      let f = few_entries in
      let below : cluster_of h p + count ≤ 2 ^ 40 = omega (arith, within, split, rows, f) in
      let le : (cluster_of h p + count) * size ≤ 2 ^ 40 * size = mul-le-mul_right size below in
      let s = small view backing old out (pending_in view backing old out) sound p in
      let is = next_is view backing old out k p at n table overwrite may sound in
      omega (arith, le, s, is)

  first_in : (clusters : List ClusterMapping) → p.clusters.items ≡ clusters → HasFirst h p 0
  first_in [] none = absurd (
      let enough = pending.enough in
      let some = pending.some in
      let all : count * size ≡ 0 * size = ap (λ (l : List ClusterMapping). length l * size) none in
      omega (arith, enough, some, all))
  first_in (cluster_mapping ∷ clusters) is = stands_first view backing old out (pending_in view backing old out) sound p cluster_mapping 0 (pending.each 0 cluster_mapping (ap (λ (l : List ClusterMapping). slice_get l 0) is))

  begin : HasFirst h p 0
  begin = first_in p.clusters.items refl

  place_is : p.offset + p.length ≡ (begin.first + count) * size
  place_is =
      let it = begin.place in
      let is = host_is view backing old out k p at n table overwrite may sound in
      let both : (begin.first + count) * size ≡ begin.first * size + count * size = omega arith in
      omega (arith, it, is, both)

  pub place_fits : p.offset + p.length < 2 ^ 64
  place_fits =
      let within = may.within in
      let f = few_entries in
      let s = small view backing old out (pending_in view backing old out) sound p in
      let near = begin.nameable in
      let le : count * size ≤ 2 ^ 18 * size = mul-le-mul_right size (omega (arith, within, f)) in
      let both : (begin.first + count) * size ≡ begin.first * size + count * size = omega arith in
      let is = place_is in
      omega (arith, s, near, le, both, is)

  pub place_aligned : (p.offset + p.length) % size ≡ 0
  place_aligned =
      let none : p.offset + p.length ≡ (begin.first + count) * size + 0 = let is = place_is in omega (arith, is) in
      ap (λ o. o % size) none ∙ mod-mul-add (begin.first + count) size 0 sizes.some

-- ---- the L1 table stays where it is
pub place_kept : (v v' : HeaderView) → KeepsHeader v v' → KeepsL1Place v.fields v'.fields
place_kept v v' keeps = (ap (λ (x : HeaderView). x.fields.l1_offset) keeps, ap (λ (x : HeaderView). x.fields.l1_entries) keeps)

pub place_then : (h h' h'' : HeaderFields) → KeepsL1Place h h' → KeepsL1Place h' h'' → KeepsL1Place h h''
place_then h h' h'' first second = (second.0 ∙ first.0, second.1 ∙ first.1)
