-- What stays the same when an image's tables move.
use Rattle.std.proofs.Common.{◌≡◌, ◌+◌, ◌/◌, ◌%◌, ℕ, true, refl, sym, ap, ◌∙◌, subst, Option, None, Some}
use Rattle.qcow2_image.proofs.Common.{Bytes, HeaderFields, cluster_size, entries_per_cluster, with_l1_table, with_tables_of, cover, IsDataAt, l1_entry, host_offset, is_copied, IsInReach, named_run, SameCovers, table_at, is_copied_data, KeepsFormat, cover_format, Prepared, ClusterMapping, InPlace, Kept, New, cluster_of, listed_run, IsReadyWith, IsClusterMappingAt, MovesTables, CoversStay, Image, DataFile}
use Rattle.qcow2_image.specs.declared.mapping.Place.{Place}

-- ---- the header

pub file_step_then : (a b c : HeaderFields) → MovesTables a b → MovesTables b c → MovesTables a c
file_step_then a b c first then = then ∙ ap (λ (k : HeaderFields). with_tables_of k c) first

-- where only the reftable may have moved
pub format_file_step : (h h' : HeaderFields) → KeepsFormat h h' → MovesTables h h'
format_file_step h h' format = subst (λ (k : HeaderFields). k ≡ with_tables_of h k) (sym format) refl

-- ---- the mappings of guest clusters
pub stay_then : (a b c : HeaderFields) (known known' known'' : Bytes) → CoversStay a known b known' → CoversStay b known' c known'' → CoversStay a known c known''
stay_then a b c known known' known'' first then g = first g ∙ then g

-- data lie where they lay, after tables have moved
pub data_moved : (h h' : HeaderFields) (known known' : Bytes) → MovesTables h h' → CoversStay h known h' known' → (o place : ℕ) → IsDataAt h known true o place → IsDataAt h' known' true o place
data_moved h h' known known' file_step covers o place is =
    let size : cluster_size h' ≡ cluster_size h = ap (λ (x : HeaderFields). cluster_size x) file_step in
    (is.0, ap (λ s. cover h' known' (o / s)) size ∙ sym (covers (o / cluster_size h)) ∙ is.1, ap (λ s. is.0 + o % s) size ∙ is.2)

pub format_stay : (h h' : HeaderFields) (known known' : Bytes) → KeepsFormat h h' → SameCovers h known known' → CoversStay h known h' known'
format_stay h h' known known' format covers g = covers g ∙ sym (cover_format h h' format known' g)

-- ---- a prepared mapping is still ready after a longer L1 table is named
module _ (h : HeaderFields) (place : Place) (offset entries : ℕ) (known on_storage known' on_storage' : Bytes) (q : Prepared) (covers : CoversStay h known (with_l1_table h offset entries) known') where
  moved_mapping : (place : Place) (i : ℕ) (cluster_mapping : ClusterMapping) → IsClusterMappingAt h place known on_storage q i cluster_mapping → IsClusterMappingAt (with_l1_table h offset entries) place known' on_storage' q i cluster_mapping
  moved_mapping place i InPlace is = sym (covers (cluster_of h q + i)) ∙ is
  moved_mapping Image i Kept is = record { first = is.first; place = is.place; nameable = is.nameable; entry = sym (covers (cluster_of h q + i)) ∙ is.entry }
  moved_mapping DataFile i Kept is = record { place = is.place; nameable = is.nameable; entry = ap is_copied_data (sym (covers (cluster_of h q + i))) ∙ is.entry; reach = subst IsInReach (covers (cluster_of h q + i)) is.reach }
  moved_mapping DataFile i (New taken old_data) is = absurd is
  moved_mapping Image i (New taken old_data) is = record {
    first = is.first;
    is = is.is;
    place = is.place;
    nameable = is.nameable;
    entry = ap is_copied_data (sym (covers (cluster_of h q + i))) ∙ is.entry;
    reach = subst IsInReach (covers (cluster_of h q + i)) is.reach;
    drops = is.drops ∙ ap (λ v. listed_run (named_run h.cluster_bits v)) (covers (cluster_of h q + i));
  }

  pub ready_moved : ((i : ℕ) → l1_entry (with_l1_table h offset entries) known' i ≡ l1_entry h known i) → ((i : ℕ) → l1_entry (with_l1_table h offset entries) on_storage' i ≡ l1_entry h on_storage i)
      → (table : Option ℕ) → IsReadyWith h place known on_storage q table → IsReadyWith (with_l1_table h offset entries) place known' on_storage' q table
  ready_moved known_same same None is = is
  ready_moved known_same same (Some table) is =
      let i = cluster_of h q / entries_per_cluster h in
      let there : table_at (with_l1_table h offset entries) known' i ≡ table_at h known i = ap host_offset (known_same i) in
      record {
        some = is.some;
        begins = is.begins;
        enough = is.enough;
        no_more = is.no_more;
        within = is.within;
        named = record { real = λ none. is.named.real (sym there ∙ none); place = there ∙ is.named.place; within = is.named.within };
        copied = ap is_copied (same i) ∙ is.copied;
        each = λ i cluster_mapping at. moved_mapping place i cluster_mapping (is.each i cluster_mapping at);
      }
