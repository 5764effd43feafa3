-- Prepared mappings have no guest cluster in common, since each pins an L2 table of its own.
use Rattle.std.proofs.Common.{◌≡◌, ◌+◌, ◌*◌, ◌/◌, ◌%◌, ◌<◌, ◌==◌, ℕ, List, Option, Some, refl, sym, ap, ◌∙◌, arith, length}
use Rattle.qcow2_image.proofs.Common.{slice_get, cond-true, eq-eqb, div-add-mod', div-mul-add, pow_pos, BackingView, StorageView, Bytes, HeaderFields, cluster_size, entries_per_cluster, Pending, table_at, contents_in, known_in, Qcow2, Prepared, cluster_of, pins_by, pins_of, IsPending, ImageInvariant, Mappings}
use Rattle.qcow2_image.proofs.Call.Slots.{over_all_two}
use Rattle.qcow2_image.specs.declared.mapping.Place.{Place}

-- all guest clusters of a mapping are under one L1 entry, each at its own entry of the L2 table
module _ {place : Place} (h : HeaderFields) (known on_storage : Bytes) (p : Prepared) (t : ℕ) (pending : IsPending h place known on_storage p t) (i : ℕ) (lt : i < length p.clusters.items) where
  abbrev row : ℕ
  row = entries_per_cluster h

  column : cluster_of h p % row + i < row
  column = let within = pending.within in omega arith

  cluster_is : cluster_of h p + i ≡ cluster_of h p / row * row + (cluster_of h p % row + i)
  cluster_is = let e : cluster_of h p / row * row + cluster_of h p % row ≡ cluster_of h p = div-add-mod' (cluster_of h p) row in omega arith

  pub same_row : (cluster_of h p + i) / entries_per_cluster h ≡ cluster_of h p / entries_per_cluster h
  same_row = ap (λ n. n / row) cluster_is ∙ div-mul-add (cluster_of h p / row) row (cluster_of h p % row + i) column

pub pins_own : (q : Prepared) (t : ℕ) → q.table ≡ Some t → pins_by q t ≡ 1
pins_own q t is = ap (λ x. pins_of x t) is ∙ cond-true {A = ℕ} (t == t) 1 0 (eq-eqb t t refl)

module _ {S F : Type 0} (view : S → StorageView) (backing : F → BackingView) (image : Qcow2 S F) (out : Mappings) (p : Pending) (sound : ImageInvariant view backing p image out) where
  abbrev h : HeaderFields
  h = image.file.header.fields

  abbrev known : Bytes
  known = known_in view image.file

  -- cluster numbers are those of their offsets
  own_number : (n : ℕ) → n * cluster_size image.file.header.fields / cluster_size image.file.header.fields ≡ n
  own_number n = let e : n * cluster_size h ≡ n * cluster_size h + 0 = omega arith in ap (λ o. o / cluster_size h) e ∙ div-mul-add n (cluster_size h) 0 (pow_pos h.cluster_bits)

  pub apart_guests : {file other : Place} (k : ℕ) (q : Prepared) → slice_get out.slots k ≡ Some (Some q) → (t : ℕ) → q.table ≡ Some t → IsPending image.file.header.fields file (known_in view image.file) (contents_in view image.file) q t
      → (j : ℕ) (r : Prepared) → (j ≡ k → ⊥) → slice_get out.slots j ≡ Some (Some r) → (u : ℕ) → r.table ≡ Some u → IsPending image.file.header.fields other (known_in view image.file) (contents_in view image.file) r u
      → (a b : ℕ) → a < length q.clusters.items → b < length r.clusters.items → cluster_of image.file.header.fields q + a ≡ cluster_of image.file.header.fields r + b → ⊥
  apart_guests k q at_k t is_t its_q j r apart at_j u is_u its_r a b lt_a lt_b same =
      let rows : cluster_of h q / entries_per_cluster h ≡ cluster_of h r / entries_per_cluster h =
      sym (same_row h known (contents_in view image.file) q t its_q a lt_a) ∙ ap (λ c. c / entries_per_cluster h) same ∙ same_row h known (contents_in view image.file) r u its_r b lt_b in
      let places : t * cluster_size h ≡ u * cluster_size h = sym its_q.named.place ∙ ap (table_at h known) rows ∙ its_r.named.place in
      let tables : t ≡ u = sym (own_number t) ∙ ap (λ o. o / cluster_size h) places ∙ own_number u in
      let both = over_all_two pins_by out k q j r at_k apart at_j t in
      let mine = pins_own q t is_t in
      let theirs = pins_own r t (is_u ∙ ap Some (sym tables)) in
      let once = sound.once t in
      absurd (omega arith)
