-- What stays the same if the header does, except the pointer to the reftable.
use Rattle.std.proofs.Common.{◌≡◌, ℕ, refl, ap, sym, ◌∙◌}
use Rattle.qcow2_laws.proofs.Common.{Bytes, HeaderFields, cluster_size, with_reftable, l1_entry, cover, cover_under, guest_value, named_by_guest, over_guests, names, SameCovers, KeepsFormat}
use Rattle.qcow2_laws.proofs.Guests.{over_guests-same}

-- ---- the same header, one step after another, and back
pub format_refl : (h : HeaderFields) → KeepsFormat h h
format_refl h = refl

pub format_same : (h h' : HeaderFields) → h' ≡ h → KeepsFormat h h'
format_same h h' e = e ∙ ap (λ (k : HeaderFields). with_reftable h k.reftable_offset k.reftable_clusters) (sym e)

pub format_then : (a b c : HeaderFields) → KeepsFormat a b → KeepsFormat b c → KeepsFormat a c
format_then a b c first then = then ∙ ap (λ (k : HeaderFields). with_reftable k c.reftable_offset c.reftable_clusters) first

-- ---- what is read with it
module _ (h h' : HeaderFields) (e : KeepsFormat h h') where
  pub size_format : cluster_size h' ≡ cluster_size h
  size_format = ap (λ (k : HeaderFields). cluster_size k) e

pub l1_with : (h : HeaderFields) (offset clusters : ℕ) (b : Bytes) (i : ℕ) → l1_entry (with_reftable h offset clusters) b i ≡ l1_entry h b i
unfolding l1_entry
l1_with h offset clusters b i = refl

pub cover_with : (h : HeaderFields) (offset clusters : ℕ) (b : Bytes) (g : ℕ) → cover (with_reftable h offset clusters) b g ≡ cover h b g
unfolding cover cover_under l1_entry
cover_with h offset clusters b g = refl

pub value_with : (h : HeaderFields) (offset clusters : ℕ) (b backing : Bytes) (o : ℕ) → guest_value (with_reftable h offset clusters) b b backing o ≡ guest_value h b b backing o
unfolding guest_value cover cover_under l1_entry
value_with h offset clusters b backing o = refl

pub over_guests_with : (h : HeaderFields) (offset clusters : ℕ) (f : ℕ → ℕ) → over_guests (with_reftable h offset clusters) f ≡ over_guests h f
unfolding over_guests
over_guests_with h offset clusters f = refl

module _ (h h' : HeaderFields) (e : KeepsFormat h h') where
  pub l1_format : (b : Bytes) (i : ℕ) → l1_entry h' b i ≡ l1_entry h b i
  l1_format b i = ap (λ (k : HeaderFields). l1_entry k b i) e ∙ l1_with h h'.reftable_offset h'.reftable_clusters b i

  pub cover_format : (b : Bytes) (g : ℕ) → cover h' b g ≡ cover h b g
  cover_format b g = ap (λ (k : HeaderFields). cover k b g) e ∙ cover_with h h'.reftable_offset h'.reftable_clusters b g

  pub value_format : (b backing : Bytes) (o : ℕ) → guest_value h' b b backing o ≡ guest_value h b b backing o
  value_format b backing o = ap (λ (k : HeaderFields). guest_value k b b backing o) e ∙ value_with h h'.reftable_offset h'.reftable_clusters b backing o

  pub over_guests_format : (f : ℕ → ℕ) → over_guests h' f ≡ over_guests h f
  over_guests_format f = ap (λ (k : HeaderFields). over_guests k f) e ∙ over_guests_with h h'.reftable_offset h'.reftable_clusters f

  -- how often all guest clusters name a cluster, or mark it
  pub guests_format : (b : Bytes) (c : ℕ) → over_guests h' (names h' b c) ≡ over_guests h (names h b c)
  guests_format b c = over_guests_format (names h' b c) ∙ over_guests-same h (names h' b c) (names h b c) (λ g. ap (λ (k : HeaderFields). named_by_guest k c (cover h' b g)) e ∙ ap (named_by_guest h c) (cover_format b g))

  pub covers_format : (b b' : Bytes) → SameCovers h' b b' → SameCovers h b b'
  covers_format b b' same g = sym (cover_format b g) ∙ same g ∙ cover_format b' g
