-- Steps of the driver that guests don't see.
use Rattle.std.proofs.Common.{◌≡◌, ◌+◌, ◌*◌, ◌/◌, ◌<◌, ◌≢◌, ◌⊎◌, ℕ, refl, sym, ap, ◌∙◌, arith, inl, inr, subst}
use Rattle.qcow2_laws.proofs.Common.{fun_ext, Bytes, HeaderFields, header, cluster_size, l1_entry, cover, named_for_tables, named_by_guest, disk, disk_with, over_guests, names, named_in_either, SameCovers, SameIn, IsSameOutside, WritesL1Entry, IsNewTable, WritesReftableEntry, IsUnnamed, DriverState, StateInvariant, block_of, used_by_guests, SameUsedBytes, KeepsFormat, IsInternal, SameL1Table}
use Rattle.qcow2_laws.proofs.Places.{Sizes-from}
use Rattle.qcow2_laws.proofs.Guests.{own_data_of, over_guests-same, guest_le, names_within}
use Rattle.qcow2_laws.proofs.Formats.{format_refl, format_same, format_then, size_format, l1_format, covers_format, guests_format, value_format}
use Rattle.qcow2_laws.proofs.Tops.{for_tables-top, IsTop-top}
use Rattle.qcow2_laws.proofs.Mixes.{tied}
use Rattle.qcow2_laws.proofs.Values.{guest_value-same, value_is, size_is}
use Rattle.qcow2_laws.proofs.Shares.{shares, block_has, reftable_has, l1_has, l1_beside, cover_beside, top_stays, covers_stay}
use Rattle.qcow2_laws.proofs.Blocks.{table_apart, tables_once, counted_covers}
use Rattle.qcow2_laws.proofs.NewTables.{outside_eight, known_covers}

-- ---- one step after another

pub unseen_none : (s : DriverState) → IsInternal s s
unseen_none s = record { header = format_refl s.header; covers = λ g. refl; bytes = λ o some. refl }

module _ (a b : DriverState) (header : KeepsFormat a.header b.header) (covers : SameCovers a.header a.known b.known) where
  covers_then : (c : DriverState) → SameCovers b.header b.known c.known → SameCovers a.header a.known c.known
  covers_then c then g = covers g ∙ covers_format a.header b.header header b.known c.known then g

  -- what guests used they still use
  used_still : ((k : ℕ) → 0 < a.pending.new_data k → 0 < b.pending.new_data k) → (o : ℕ) → 0 < used_by_guests a (o / cluster_size a.header) → 0 < used_by_guests b (o / cluster_size b.header)
  used_still new_data o some =
      let same = over_guests-same a.header (names a.header a.known (o / cluster_size a.header)) (names a.header b.known (o / cluster_size a.header)) (λ g. ap (named_by_guest a.header (o / cluster_size a.header)) (covers g)) in
      let still = new_data (o / cluster_size a.header) in
      let used : 0 < over_guests a.header (names a.header b.known (o / cluster_size a.header)) + b.pending.new_data (o / cluster_size a.header) = grind arith in
      let size : cluster_size a.header ≡ cluster_size b.header = sym (size_format a.header b.header header) in
      let is : over_guests b.header (names b.header b.known (o / cluster_size a.header)) ≡ over_guests a.header (names a.header b.known (o / cluster_size a.header)) =
      guests_format a.header b.header header b.known (o / cluster_size a.header) in
      subst (λ (n : ℕ). 0 < over_guests b.header (names b.header b.known (o / n)) + b.pending.new_data (o / n)) size (omega (arith, is, used))

pub unseen_then : (a b c : DriverState) → IsInternal a b → IsInternal b c → ((k : ℕ) → 0 < a.pending.new_data k → 0 < b.pending.new_data k) → IsInternal a c
unseen_then a b c first then new_data = record {
  header = format_then a.header b.header c.header first.header then.header;
  covers = covers_then a b first.header first.covers c then.covers;
  bytes = λ o some. then.bytes o (used_still a b first.header first.covers new_data o some) ∙ first.bytes o some;
}

pub l1_same_none : (s : DriverState) → SameL1Table s s
l1_same_none s i = refl

pub l1_same_then : (a b c : DriverState) → KeepsFormat a.header b.header → SameL1Table a b → SameL1Table b c → SameL1Table a c
l1_same_then a b c header first then i = sym (l1_format a.header b.header header c.on_storage i) ∙ then i ∙ l1_format a.header b.header header b.on_storage i ∙ first i

-- ---- the same is known
pub unseen_known : (old new : DriverState) → new.header ≡ old.header → new.known ≡ old.known → IsInternal old new
unseen_known old new header same = record {
  header = format_same old.header new.header header;
  covers = λ g. ap (λ (b : Bytes). cover old.header b g) (sym same);
  bytes = λ o some. ap (λ (b : Bytes). b o) same;
}

pub l1_same_storage : (old new : DriverState) → new.on_storage ≡ old.on_storage → SameL1Table old new
l1_same_storage old new same i = ap (λ (b : Bytes). l1_entry old.header b i) same

-- the storage has the L1 table that is known
pub l1_same_known : (old new : DriverState) → StateInvariant old → StateInvariant new → KeepsFormat old.header new.header → ((i : ℕ) → l1_entry old.header new.known i ≡ l1_entry old.header old.known i) → SameL1Table old new
l1_same_known old new sound sound' header same i =
    sym (l1_format old.header new.header header new.on_storage i) ∙ sound'.same_top.l1 i ∙ l1_format old.header new.header header new.known i ∙ same i ∙ sym (sound.same_top.l1 i)

-- ---- bytes change where guests use none
pub known_header : (s : DriverState) → StateInvariant s → header s.known ≡ s.header
known_header s sound = (IsTop-top s.header s.on_storage s.known sound.same_top sound.top).header_is

module _ (old new : DriverState) (sound : StateInvariant old) where
  -- what guests use is named, on the storage or as known, or held
  used_within : (c : ℕ) → 0 < used_by_guests old c → 0 < named_in_either old.header old.on_storage old.known c + old.pending.new_data c
  used_within c some = let t = (tied old.header old.pending old.on_storage old.known c).known in omega arith

  -- in one cluster, where a table lies
  pub table_bytes : (c : ℕ) → 0 < named_for_tables old.header old.on_storage c → IsSameOutside (cluster_size old.header) c old.known new.known → SameUsedBytes old new
  table_bytes c table_refs outside o some =
      sym (outside o (λ e.
      let apart = table_apart old.header old.direction old.pending old.on_storage old.known sound c table_refs in
      let within = used_within (o / cluster_size old.header) some in
      let here = subst (λ n. 0 < named_in_either old.header old.on_storage old.known n + old.pending.new_data n) e within in
      absurd (omega arith)))

  -- counts of one refblock change
  pub unseen_count : (c : ℕ) → new.header ≡ old.header → block_of old.header old.known c ≢ 0
      → IsSameOutside (cluster_size old.header) (block_of old.header old.known c / cluster_size old.header) old.known new.known → IsInternal old new
  unseen_count c header real outside =
      let table_refs : 0 < named_for_tables old.header old.on_storage (block_of old.header old.known c / cluster_size old.header) =
      let e = for_tables-top old.header old.on_storage old.known (block_of old.header old.known c / cluster_size old.header) sound.same_top in
      let s = shares old.header old.known (block_of old.header old.known c / cluster_size old.header) in
      let one = block_has old.header old.known _ real in
      omega arith in
      record {
        header = format_same old.header new.header header;
        covers = counted_covers old.header old.direction old.pending old.on_storage old.known new.known sound c real outside;
        bytes = table_bytes (block_of old.header old.known c / cluster_size old.header) table_refs outside;
      }

  -- ---- an entry of the reftable, or of the L1 table, is written
  pub unseen_refblock : (k entry : ℕ) → new.header ≡ old.header → WritesReftableEntry old.header old.on_storage old.known new.on_storage new.known k entry → IsInternal old new × SameL1Table old new
  unseen_refblock k entry header writes =
      let sizes = Sizes-from old.header old.on_storage sound.top.header_reads in
      let c = (old.header.reftable_offset + 8 * k) / cluster_size old.header in
      let has = reftable_has old.header k sizes sound.top.reftable_aligned writes.within in
      let parts = shares old.header old.on_storage ((old.header.reftable_offset + 8 * k) / cluster_size old.header) in
      let table_refs : 0 < named_for_tables old.header old.on_storage ((old.header.reftable_offset + 8 * k) / cluster_size old.header) = omega arith in
      let single = tables_once old.header old.direction old.pending old.on_storage old.known sound c table_refs in
      let known_parts = shares old.header old.known ((old.header.reftable_offset + 8 * k) / cluster_size old.header) in
      let outside = outside_eight (cluster_size old.header) old.header.reftable_offset k old.on_storage new.on_storage sizes.whole sizes.some sound.top.reftable_aligned writes.others in
      let known_outside = outside_eight (cluster_size old.header) old.header.reftable_offset k old.known new.known sizes.whole sizes.some sound.top.reftable_aligned writes.known_others in
      let known_top = IsTop-top old.header old.on_storage old.known sound.same_top sound.top in (
        record {
          header = format_same old.header new.header header;
          covers = λ g. cover_beside old.header old.known new.known known_top c single.1 known_outside (omega arith) g (l1_beside old.header old.known new.known known_top c single.1 known_outside (omega arith) _);
          bytes = table_bytes c table_refs known_outside;
        },
        (λ i. sym (l1_beside old.header old.on_storage new.on_storage sound.top c single.0 outside (omega arith) i)),
      )

  pub unseen_l2_table : (i entry : ℕ) → new.header ≡ old.header → WritesL1Entry old.header old.on_storage old.known new.on_storage new.known i entry
      → IsNewTable old.header old.direction old.pending old.on_storage old.known i entry → IsInternal old new
  unseen_l2_table i entry header writes table =
      let sizes = Sizes-from old.header old.on_storage sound.top.header_reads in
      let has = l1_has old.header i sizes sound.top.l1_aligned writes.within in
      let parts = shares old.header old.on_storage ((old.header.l1_offset + 8 * i) / cluster_size old.header) in
      record {
        header = format_same old.header new.header header;
        covers = known_covers old.header old.direction old.pending old.on_storage old.known new.on_storage new.known sound i entry writes table;
        bytes = table_bytes ((old.header.l1_offset + 8 * i) / cluster_size old.header) (omega arith)
            (outside_eight (cluster_size old.header) old.header.l1_offset i old.known new.known sizes.whole sizes.some sound.top.l1_aligned writes.known_others);
      }

  -- ---- bytes are written to clusters that nothing names, and that aren't held
  module _ (each : (c : ℕ) → (SameIn (cluster_size old.header) c old.on_storage new.on_storage × SameIn (cluster_size old.header) c old.known new.known)
      ⊎ (IsUnnamed old.header old.on_storage old.known c × (old.pending.new_data c ≡ 0))) where
    tables_stay : (c : ℕ) → 0 < named_for_tables old.header old.on_storage c → SameIn (cluster_size old.header) c old.on_storage new.on_storage × SameIn (cluster_size old.header) c old.known new.known
    tables_stay c table_refs = elim (each c) [ inl same ↦ same | inr free ↦ absurd (omega (arith, table_refs, free.0.no_table)) ]

    pub unseen_written : new.header ≡ old.header → IsInternal old new × SameL1Table old new
    unseen_written header =
        let known_top = IsTop-top old.header old.on_storage old.known sound.same_top sound.top in (
          record {
            header = format_same old.header new.header header;
            covers = covers_stay old.header old.known new.known known_top (λ c table_refs. (tables_stay c (let e = for_tables-top old.header old.on_storage old.known c sound.same_top in omega arith)).1);
            bytes = λ o some. elim (each (o / cluster_size old.header)) [
              | inl same ↦ sym (same.1 o refl)
              | inr free ↦ absurd (let within = used_within (o / cluster_size old.header) some in let none = free.0.no_entry in let unheld = free.1 in omega arith)
            ];
          },
          (λ i. sym ((top_stays old.header old.on_storage new.on_storage sound.top (λ c table_refs. (tables_stay c table_refs).0)).l1 i)),
        )

  -- ---- bytes are written to one cluster that no table lies in

  -- ---- the guest's disk stays
  -- what a guest cluster names is named
  pub named_some : (c g : ℕ) → 0 < names old.header old.known c g → 0 < over_guests old.header (names old.header old.known c)
  named_some c g some =
      let within = names_within old.header old.known c g (Sizes-from old.header old.on_storage sound.top.header_reads) some in
      let le = guest_le old.header (names old.header old.known c) g within in
      omega arith

  module _ (inside : old.header.incompatible ≡ 0) (sound' : StateInvariant new) (header : KeepsFormat old.header new.header) (backing : Bytes) where
    pub size_stays : (disk new.known backing).size ≡ (disk old.known backing).size
    size_stays = size_is new.header new.known backing (known_header new sound') ∙ ap (λ (h : HeaderFields). h.size) header ∙ sym (size_is old.header old.known backing (known_header old sound))

    -- a byte stays where its cover stays, and the bytes in each cluster that this names
    pub value_stays : (o : ℕ) → cover old.header old.known (o / cluster_size old.header) ≡ cover old.header new.known (o / cluster_size old.header)
        → ((place : ℕ) → 0 < names old.header old.known (place / cluster_size old.header) (o / cluster_size old.header) → new.known place ≡ old.known place)
        → (disk new.known backing).value o ≡ (disk old.known backing).value o
    value_stays o same bytes =
        value_is new.header new.known backing o (known_header new sound')
        ∙ value_format old.header new.header header new.known backing o
        ∙ sym (guest_value-same old.header old.known new.known backing o (own_data_of old.header inside) same (sound.known_aligned (o / cluster_size old.header)) (λ place some. sym (bytes place some)))
        ∙ sym (value_is old.header old.known backing o (known_header old sound))

    pub disk_stays : SameCovers old.header old.known new.known
        → ((place : ℕ) → 0 < over_guests old.header (names old.header old.known (place / cluster_size old.header)) → new.known place ≡ old.known place) → disk new.known backing ≡ disk old.known backing
    unfolding disk_with
    disk_stays covers bytes =
        let value : (disk new.known backing).value ≡ (disk old.known backing).value = fun_ext (λ o.
        value_stays o (covers (o / cluster_size old.header)) (λ place some. bytes place (named_some (place / cluster_size old.header) (o / cluster_size old.header) some))) in
        λ j. record { size = size_stays j; value = value j }

  pub unseen_disk : old.header.incompatible ≡ 0 → StateInvariant new → IsInternal old new → (backing : Bytes) → disk new.known backing ≡ disk old.known backing
  unseen_disk inside sound' unseen backing = disk_stays inside sound' unseen.header backing unseen.covers (λ place some. unseen.bytes place (omega arith))
