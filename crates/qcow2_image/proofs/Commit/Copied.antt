-- A committed mapping is copied data, each byte at the host offset that the prepare returned.
use Rattle.std.proofs.Common.{◌≡◌, ◌+◌, ◌/◌, ◌%◌, ◌<◌, ℕ, Bool, true, false, List, Option, Some, None, length, sym, ap, ◌∙◌, subst, arith, IsSome, Ok, Result}
use Rattle.qcow2_image.proofs.Common.{slice_get, slice_set, BackingView, StorageView, Bytes, HeaderFields, cluster_size, cover, AreDataAt, IsDataAt, ImageError, contents_in, known_in, Qcow2, Prepared, InPlace, CommitsAll, EndsFreeing, EntersAll, IsEntered, InternalCall, cluster_of, host_begin_of, pending_in, IsPending, IsReadyWith, ImageInvariant, ReleasesOneMapping, Mappings, set_slot}
use Rattle.qcow2_image.proofs.Lemmas.{Quietly, quiet_sound, get_set_same, data_moved, byte_cluster, byte_place, byte_of_mapping}
use Rattle.qcow2_image.specs.declared.mapping.Place.{Place}

-- a byte of a mapping whose clusters are all in place
module _ (h : HeaderFields) (p : Prepared) (known on_storage : Bytes) where
  module _ {file : Place} (t : ℕ) (pending : IsPending h file known on_storage p t) (i : ℕ) (lt : i < p.length) where
    abbrev index : ℕ
    index = (p.guest % cluster_size h + 0 + i) / cluster_size h

    here : (p.guest + i) / cluster_size h ≡ cluster_of h p + index
    here = let none : p.guest + 0 + i ≡ p.guest + i = omega arith in ap (λ o. o / cluster_size h) (sym none) ∙ byte_cluster h p known on_storage t pending 0 i p.length (omega arith) lt

    place : host_begin_of h p index + (p.guest + i) % cluster_size h ≡ p.offset + i
    place =
        let none : p.guest + 0 + i ≡ p.guest + i = omega arith in
        let is = byte_place h p known on_storage t pending 0 i p.length (omega arith) lt in
        let same : (p.guest + 0 + i) % cluster_size h ≡ (p.guest + i) % cluster_size h = ap (λ o. o % cluster_size h) none in
        omega (arith, is, same)

    stands : ((j : ℕ) → j < length p.clusters.items → slice_get p.clusters.items j ≡ Some InPlace) → IsDataAt h known true (p.guest + i) (p.offset + i)
    stands each = (host_begin_of h p index, ap (cover h known) here ∙ pending.each index InPlace (each index (byte_of_mapping h p known on_storage t pending 0 i p.length (omega arith) lt)), place)

  stand_all : (file : Place) → ((j : ℕ) → j < length p.clusters.items → slice_get p.clusters.items j ≡ Some InPlace) → (table : Option ℕ) → IsSome table → IsReadyWith h file known on_storage p table → AreDataAt h known true p.guest p.offset p.length
  stand_all file each None some ready = absurd (let e : false ≡ true = some in cc)
  stand_all file each (Some t) some ready = λ i lt. stands t ready i lt each

module _ {S F : Type 0} (view : S → StorageView) where
  -- the bytes of a mapping whose clusters were entered are copied data
  pub stands_entered : (file : Place) (entered : Qcow2 S F) (p q : Prepared) → IsSome p.table → IsEntered p q → IsReadyWith entered.file.header.fields file (known_in view entered.file) (contents_in view entered.file) q q.table → AreDataAt entered.file.header.fields (known_in view entered.file) true p.guest p.offset p.length
  stands_entered file entered p q some whole ready =
      let many = whole.many in
      let there : AreDataAt entered.file.header.fields (known_in view entered.file) true q.guest q.offset q.length =
      stand_all entered.file.header.fields q (known_in view entered.file) (contents_in view entered.file) file (λ j lt. whole.in_place j (omega (arith, lt, many))) q.table (subst (λ (x : Option ℕ). IsSome x) (sym whole.table) some) ready in
      subst (λ (x : Prepared). AreDataAt entered.file.header.fields (known_in view entered.file) true x.guest x.offset x.length) whole.mapping there

  -- and once it was let go
  pub stands_released : (guest offset n : ℕ) (old new : Qcow2 S F) → ReleasesOneMapping view old new → AreDataAt old.file.header.fields (known_in view old.file) true guest offset n → AreDataAt new.file.header.fields (known_in view new.file) true guest offset n
  stands_released guest offset n old new released there =
      let kept : AreDataAt old.file.header.fields (known_in view new.file) true guest offset n = subst (λ (b : Bytes). AreDataAt old.file.header.fields b true guest offset n) (sym released.known) there in
      subst (λ (h : HeaderFields). AreDataAt h (known_in view new.file) true guest offset n) (sym (ap (λ (i : Qcow2 S F). i.file.header.fields) released.rest)) kept

-- once clusters were freed and it was let go, too
module _ {S F : Type 0} (view : S → StorageView) (backing : F → BackingView) (old begun entered freed new : Qcow2 S F) (p q : Prepared) (changed : Bool) where
  pub stands_copied : IsSome p.table → (r : Result (Unit {0}) ImageError) → ((out : Mappings) → ImageInvariant view backing (pending_in view backing old out) old out → Quietly view backing out old begun)
      → EntersAll view backing begun entered p q changed → IsEntered p q → ((out : Mappings) → ImageInvariant view backing (pending_in view backing entered out) entered out → EndsFreeing view backing entered freed out r) → r ≡ Ok tt
      → ReleasesOneMapping view freed new → (out : Mappings) (k : ℕ) → slice_get out.slots k ≡ Some (Some p) → ImageInvariant view backing (pending_in view backing old out) old out
      → AreDataAt new.file.header.fields (known_in view new.file) true p.guest p.offset p.length
  stands_copied some r begins enters whole ends ok released out k placed sound =
      let all : CommitsAll view backing begun entered out k p q = (enters out k placed some (quiet_sound view backing out old begun (begins out) sound)).0 in
      let freeing : InternalCall view backing entered freed (set_slot out k (Some q)) = subst (EndsFreeing view backing entered freed (set_slot out k (Some q))) ok (ends (set_slot out k (Some q)) all.part.sound) in
      let told = stands_entered view out.place entered p q some whole (all.part.sound.ready k q (get_set_same out.slots k (Some q) (Some p) placed)).mapped in
      let moved : AreDataAt freed.file.header.fields (known_in view freed.file) true p.guest p.offset p.length =
      λ i lt. data_moved entered.file.header.fields freed.file.header.fields (known_in view entered.file) (known_in view freed.file) freeing.header freeing.covers (p.guest + i) (p.offset + i) (told i lt) in
      stands_released view p.guest p.offset p.length freed new released moved
