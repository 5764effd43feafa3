-- What stays the same in an image if its header does, except the pointer to the reftable and the size.
use Rattle.std.proofs.Common.{◌≡◌, ℕ, sym, ◌∙◌, subst, Option, None, Some}
use Rattle.qcow2_image.proofs.Common.{Bytes, HeaderFields, with_reftable, with_size, l1_entry, cover, cover_under, L2TableView, KeepsFormat, l1_format, ListsTables, IsEntryAt, Qcow2, Prepared, ClusterMapping, InPlace, Kept, New, SaysKnown, ListGrows, IsClusterMappingAt, IsReadyWith, Image, DataFile}
use Rattle.qcow2_image.specs.declared.mapping.Place.{Place}

-- ---- what is read with it
module _ (h : HeaderFields) (size offset clusters : ℕ) (known on_storage : Bytes) where
  abbrev other : HeaderFields
  other = with_size (with_reftable h offset clusters) size

  entry_with : (i table j : ℕ) → IsEntryAt h known i table j → IsEntryAt other known i table j
  unfolding l1_entry
  entry_with i table j is = record { real = is.real; place = is.place; within = is.within }

  mapping_with : (place : Place) (q : Prepared) (i : ℕ) (cluster_mapping : ClusterMapping) → IsClusterMappingAt h place known on_storage q i cluster_mapping → IsClusterMappingAt other place known on_storage q i cluster_mapping
  unfolding cover cover_under l1_entry
  mapping_with place q i InPlace is = is
  mapping_with Image q i Kept is = record { first = is.first; place = is.place; nameable = is.nameable; entry = is.entry }
  mapping_with DataFile q i Kept is = record { place = is.place; nameable = is.nameable; entry = is.entry; reach = is.reach }
  mapping_with DataFile q i (New taken old_data) is = absurd is
  mapping_with Image q i (New taken old_data) is = record { first = is.first; is = is.is; place = is.place; nameable = is.nameable; entry = is.entry; reach = is.reach; drops = is.drops }

  pub ready_with : (place : Place) (q : Prepared) (t : Option ℕ) → IsReadyWith h place known on_storage q t → IsReadyWith other place known on_storage q t
  unfolding l1_entry
  ready_with place q None is = is
  ready_with place q (Some table) is = record {
    some = is.some;
    begins = is.begins;
    enough = is.enough;
    no_more = is.no_more;
    within = is.within;
    named = record { real = is.named.real; place = is.named.place; within = is.named.within };
    copied = is.copied;
    each = λ i cluster_mapping at. mapping_with place q i cluster_mapping (is.each i cluster_mapping at);
  }

  says_with : (i : ℕ) (t : L2TableView) → SaysKnown h known i t → SaysKnown other known i t
  unfolding cover cover_under l1_entry
  says_with i t is = record { format = record { bits = is.format.bits; zero_bit = is.format.zero_bit; external = is.format.external }; says = is.says }

module _ (h h' : HeaderFields) (e : KeepsFormat h h') (known on_storage : Bytes) where
  pub entry_at_format : (i table j : ℕ) → IsEntryAt h known i table j → IsEntryAt h' known i table j
  entry_at_format i table j is = subst (λ (x : HeaderFields). IsEntryAt x known i table j) (sym e) (entry_with h h.size h'.reftable_offset h'.reftable_clusters known on_storage i table j is)

  pub ready_format : (place : Place) (q : Prepared) (t : Option ℕ) → IsReadyWith h place known on_storage q t → IsReadyWith h' place known on_storage q t
  ready_format place q t is = subst (λ (x : HeaderFields). IsReadyWith x place known on_storage q t) (sym e) (ready_with h h.size h'.reftable_offset h'.reftable_clusters known on_storage place q t is)

  pub says_format : (i : ℕ) (t : L2TableView) → SaysKnown h known i t → SaysKnown h' known i t
  says_format i t is = subst (λ (x : HeaderFields). SaysKnown x known i t) (sym e) (says_with h h.size h'.reftable_offset h'.reftable_clusters known on_storage i t is)

  -- an L1 entry that two images share by one header they share by the other
  pub l1_shared : (i : ℕ) → l1_entry h' known i ≡ l1_entry h' on_storage i → l1_entry h known i ≡ l1_entry h on_storage i
  l1_shared i same = sym (l1_format h h' e known i) ∙ same ∙ l1_format h h' e on_storage i

-- ---- images
module _ {S F : Type 0} where
  pub lists_grow : (a b : Qcow2 S F) → ListsTables a.file.free_list b.file.free_list → ListGrows a b
  lists_grow a b lists = record { more = lists.more; is = lists.is }
