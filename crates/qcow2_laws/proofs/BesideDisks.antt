-- What a guest sees of an image with an external data file: bytes of that file where the image has data, and no byte of a table.
use Rattle.std.proofs.Common.{◌≡◌, ◌/◌, ◌≢◌, ℕ, cond, eqb, refl, sym, ap, ◌∙◌, inl, inr}
use Rattle.qcow2_laws.proofs.Common.{cases_eq, cond-true, cond-false, eq-eqb, ne_eqb, fun_ext, Bytes, HeaderFields, header, cluster_size, with_reftable, cover, cover_under, l1_entry, Value, value_under, guest_value, L2Mapping, Compressed, disk_with, DriverState, StateInvariant, IsInternal, with_cluster}
use Rattle.qcow2_laws.specs.Beside.{StandsAtGuest}
use Rattle.qcow2_laws.proofs.Internal.{known_header}

-- but for compressed data no cover shows a byte of the image itself
same_value : (h : HeaderFields) (b c file backing : Bytes) (o g : ℕ) (v : L2Mapping) → StandsAtGuest h g v → value_under h b file backing o v ≡ value_under h c file backing o v
same_value h b c file backing o g (Compressed place sectors) at = absurd at
same_value h b c file backing o g _ at = refl

value_with : (h : HeaderFields) (offset clusters : ℕ) (b file backing : Bytes) (o : ℕ) → guest_value (with_reftable h offset clusters) b file backing o ≡ guest_value h b file backing o
unfolding guest_value cover cover_under l1_entry
value_with h offset clusters b file backing o = refl

-- where the covers stay and the header's format, and the file's bytes, the disk stays, whatever becomes of the bytes of tables
module _ (old new : DriverState) (sound : StateInvariant old) (sound' : StateInvariant new) (unseen : IsInternal old new) (at_guests : (g : ℕ) → StandsAtGuest old.header g (cover old.header old.known g)) (file backing : Bytes) where
  value_stays : (o : ℕ) → guest_value old.header new.known file backing o ≡ guest_value old.header old.known file backing o
  unfolding guest_value
  value_stays o =
      ap (value_under old.header new.known file backing o) (sym (unseen.covers (o / cluster_size old.header)))
      ∙ same_value old.header new.known old.known file backing o (o / cluster_size old.header) (cover old.header old.known (o / cluster_size old.header)) (at_guests (o / cluster_size old.header))

  pub beside_disk : disk_with new.known file backing ≡ disk_with old.known file backing
  unfolding disk_with
  beside_disk =
      let was = known_header old sound in
      let is = known_header new sound' in
      let size : (header new.known).size ≡ (header old.known).size = ap (λ (h : HeaderFields). h.size) is ∙ ap (λ (h : HeaderFields). h.size) unseen.header ∙ ap (λ (h : HeaderFields). h.size) (sym was) in
      let value = fun_ext (λ (o : ℕ).
      ap (λ (h : HeaderFields). guest_value h new.known file backing o) (is ∙ unseen.header)
      ∙ value_with old.header new.header.reftable_offset new.header.reftable_clusters new.known file backing o
      ∙ value_stays o
      ∙ ap (λ (h : HeaderFields). guest_value h old.known file backing o) (sym was)) in
      λ j. record { size = size j; value = value j }

-- The entry of one guest cluster changes: it shows what its new cover gives, and the others show what they showed.
module _ (s : DriverState) (known' : Bytes) (guest : ℕ) (sound : StateInvariant s) (header_is : header known' ≡ s.header) (others : (g : ℕ) → g ≢ guest → cover s.header s.known g ≡ cover s.header known' g)
    (at_guests : (g : ℕ) → StandsAtGuest s.header g (cover s.header s.known g)) (file backing : Bytes) (values : ℕ → Value)
    (are : (o : ℕ) → o / cluster_size s.header ≡ guest → value_under s.header known' file backing o (cover s.header known' guest) ≡ values o) where
  value_now : (o : ℕ) → guest_value s.header known' file backing o ≡ cond (eqb (o / cluster_size s.header) guest) (values o) (guest_value s.header s.known file backing o)
  unfolding guest_value
  value_now o = elim (cases_eq (o / cluster_size s.header) guest) [
    | inl here ↦ ap (λ g. value_under s.header known' file backing o (cover s.header known' g)) here ∙ are o here ∙ sym (cond-true _ _ _ (eq-eqb _ _ here))
    | inr other ↦
        ap (value_under s.header known' file backing o) (sym (others (o / cluster_size s.header) other))
        ∙ same_value s.header known' s.known file backing o (o / cluster_size s.header) (cover s.header s.known (o / cluster_size s.header)) (at_guests (o / cluster_size s.header))
        ∙ sym (cond-false _ _ _ (ne_eqb _ _ other))
  ]

  pub beside_entry : disk_with known' file backing ≡ with_cluster (cluster_size s.header) (disk_with s.known file backing) guest values
  unfolding disk_with
  beside_entry =
      let was = known_header s sound in
      let size : (header known').size ≡ (header s.known).size = ap (λ (h : HeaderFields). h.size) (header_is ∙ sym was) in
      let value = fun_ext (λ (o : ℕ).
      ap (λ (h : HeaderFields). guest_value h known' file backing o) header_is
      ∙ value_now o
      ∙ ap (λ (h : HeaderFields). cond (eqb (o / cluster_size s.header) guest) (values o) (guest_value h s.known file backing o)) (sym was)) in
      λ j. record { size = size j; value = value j }
