-- Steps of the driver on an image with an external data file: no stop asks anything of them, and what guests see of them.
use Rattle.std.proofs.Common.{◌≡◌, ◌+◌, ◌-◌, ◌*◌, ◌/◌, ◌%◌, ◌^◌, ◌<◌, ◌≤◌, ◌⊎◌, ℕ, Bool, true, false, not, zero, suc, List, length, cond, [], refl, sym, ap, ◌∙◌, arith, inl, inr, subst}
use Rattle.qcow2_laws.proofs.Common.{Option, cond-true, fun_ext, div-add-mod', pow_pos, Bytes, byte_at, HeaderFields, cluster_size, has_data_file, count, cover, named_for_tables, CoverIsAligned, guests, over_guests, names, marked_by_l1_table, table_at, cluster, CrashInvariant, known_byte, compressed_byte, Value, guest_value, value_under, L2Mapping, Data, Zero, Compressed, Uncovered, Disk, disk_with, with_values, GivenBytes, Checkpoint, StopOkEverywhere, SafeThroughout, StandsIfBeside, DriverState, StateInvariant, SafeStep, SameCovers, KeepsFormat, WritesHeader, with_places, with_l1_at, IsNewL1, state_with_l1_table, resized_places, guest_at, EntryChanges, with_cluster, MapsInTurn, IsZeros, laid_inside, laid_outside}
use Rattle.qcow2_disk.specs.Disk.{with_bytes, zeroed_between, uncovered}
use Rattle.qcow2_disk.specs.Mappings.{is_copied_data}
use Rattle.image_access.specs.Moments.{StorageView, EachMomentSince}
use Rattle.qcow2_laws.specs.Beside.{StandsAtGuest, ConsistentBeside}
use Rattle.qcow2_laws.proofs.Lemmas.{own_data_of, known_header, sum_below-zero, tied, Sizes-from}
use Rattle.qcow2_laws.proofs.Formats.{cover_format}
use Rattle.qcow2_laws.proofs.Clusters.{Fine, fine}
use Rattle.qcow2_laws.proofs.Mixes.{good, known_crash_invariant}
use Rattle.qcow2_laws.proofs.Consistency.{own_of_kept, each_entry, l1_marked}
use Rattle.qcow2_laws.proofs.Blocks.{entry_set}
use Rattle.qcow2_laws.proofs.Headers.{resized_known_covers}
use Rattle.qcow2_laws.proofs.SafeSteps.{always_safe_throughout}
use Rattle.qcow2_laws.proofs.Steps.{header_is_written}
use Rattle.qcow2_laws.proofs.GuestLaws.{longer_l1_table_keeps_guests}
use Rattle.qcow2_laws.proofs.BesideDisks.{beside_entry}
use Rattle.qcow2_laws.proofs.PutRuns.{in_range, same_either}
use Rattle.qcow2_laws.proofs.MappedAnew.{pending_after, entry_unseen, new_header}
use Rattle.qcow2_laws.proofs.MappedRanges.{one_more_at, nothing_laid}

-- ---- without the bit, a mapping may lie anywhere
pub stands_inside : (h : HeaderFields) (g : ℕ) (v : L2Mapping) → h.incompatible ≡ 0 → StandsIfBeside h g v
stands_inside h g v inside beside = let none : false ≡ true = sym (own_data_of h inside) ∙ beside in absurd (cc)

-- ---- stops
module _ (old : DriverState) (sound : StateInvariant old) (beside : has_data_file old.header ≡ true) where
  -- at no checkpoint is such an image safe: it is not consistent in the sense of images that hold their own data
  pub no_stop_beside : (backing : Bytes) (m : Checkpoint) → StopOkEverywhere backing m old.known → ⊥
  no_stop_beside backing m kept = stands_inside old.header 0 (Compressed 0 0) (own_of_kept old.header backing m old.known (known_header old sound) kept) beside

  -- so every step to a state with the invariant is safe, and so are all moments on the way
  pub safe_beside : (new : DriverState) (given : Bytes → List GivenBytes) (asked : List ℕ) → StateInvariant new → SafeStep old new given asked
  safe_beside new given asked sound' = record {
    sound = sound';
    on_storage = λ backing m ok known_ok. absurd (no_stop_beside backing m known_ok);
    known = λ backing m ok known_ok. absurd (no_stop_beside backing m known_ok);
  }

  pub since_beside : {P : List ℕ → Type 0} (a b : StorageView) (given : Bytes → List GivenBytes) (asked : List ℕ) → EachMomentSince a b P → SafeThroughout a b old.known given asked
  since_beside a b given asked time = always_safe_throughout a b old.known given asked time (λ c backing m ok known_ok. absurd (no_stop_beside backing m known_ok))

-- ---- what is shown
-- What guest byte o shows through its mapping. No mapping is compressed.
abbrev pub value_beside : (file backing : Bytes) → ℕ → L2Mapping → Value
value_beside file backing o (Data host copied) = known_byte (file o)
value_beside file backing o (Zero kept) = known_byte 0
value_beside file backing o (Compressed place sectors) = compressed_byte [] 0
value_beside file backing o Uncovered = known_byte (backing o)

shown_as : (h : HeaderFields) (b file backing : Bytes) (o : ℕ) (v : L2Mapping) → StandsAtGuest h (o / cluster_size h) v → value_under h b file backing o v ≡ value_beside file backing o v
shown_as h b file backing o (Data host copied) at =
    let whole = div-add-mod' o (cluster_size h) in
    let here : host ≡ o / cluster_size h * cluster_size h = at.0 in
    let is : host + o % cluster_size h ≡ o = omega arith in
    ap (λ n. known_byte (file n)) is
shown_as h b file backing o (Compressed place sectors) at = absurd at
shown_as h b file backing o _ at = refl

-- a mapping shows a byte of the file, or none
file_value : (file file' backing : Bytes) (o : ℕ) (v : L2Mapping) → file' o ≡ file o → value_beside file' backing o v ≡ value_beside file backing o v
file_value file file' backing o (Data host copied) same = ap known_byte same
file_value file file' backing o _ same = refl

-- a mapping to copied data shows the file's new byte, and another one what it showed
put_value : (h : HeaderFields) (file file' backing : Bytes) (o g : ℕ) (v : L2Mapping) → StandsAtGuest h g v → value_beside file' backing o v ≡ cond (not (is_copied_data v)) (value_beside file backing o v) (known_byte (file' o))
put_value h file file' backing o g (Data host copied) at = ap (λ t. cond (not t) (known_byte (file o)) (known_byte (file' o))) (sym at.1)
put_value h file file' backing o g (Compressed place sectors) at = absurd at
put_value h file file' backing o g _ at = refl

same_disk : (d d' : Disk) → d.size ≡ d'.size → ((o : ℕ) → d.value o ≡ d'.value o) → d ≡ d'
same_disk d d' size values = let value : d.value ≡ d'.value = fun_ext values in λ j. record { size = size j; value = value j }

-- What guest byte o shows, by its mapping: the byte of the file at its own offset, zero, or the byte of the backing disk.
pub record ShowsBeside (s : DriverState) (file backing : Bytes) (o : ℕ) : Type 0 where
  pub in_file : (host : ℕ) (copied : Bool) → cover s.header s.known (o / cluster_size s.header) ≡ Data host copied → (disk_with s.known file backing).value o ≡ known_byte (file o)
  pub zeros : (kept : Option (ℕ × Bool)) → cover s.header s.known (o / cluster_size s.header) ≡ Zero kept → (disk_with s.known file backing).value o ≡ known_byte 0
  pub in_backing : cover s.header s.known (o / cluster_size s.header) ≡ Uncovered → (disk_with s.known file backing).value o ≡ known_byte (backing o)
  pub not_compressed : (place sectors : ℕ) → cover s.header s.known (o / cluster_size s.header) ≡ Compressed place sectors → ⊥

-- Bytes of the file change: the disk has the same size, and shows what it showed wherever the file has the same byte.
pub record WritesBeside (s : DriverState) (file file' backing : Bytes) : Type 0 where
  pub size : (disk_with s.known file' backing).size ≡ (disk_with s.known file backing).size
  pub value : (o : ℕ) → file' o ≡ file o → (disk_with s.known file' backing).value o ≡ (disk_with s.known file backing).value o

module _ (s : DriverState) (sound : StateInvariant s) (beside : has_data_file s.header ≡ true) where
  pub beside_shown : (file backing : Bytes) (o : ℕ) → (disk_with s.known file backing).value o ≡ value_beside file backing o (cover s.header s.known (o / cluster_size s.header))
  unfolding disk_with guest_value
  beside_shown file backing o =
      ap (λ (h : HeaderFields). guest_value h s.known file backing o) (known_header s sound)
      ∙ shown_as s.header s.known file backing o (cover s.header s.known (o / cluster_size s.header)) (sound.at_guests (o / cluster_size s.header) beside)

  pub beside_size : (file backing : Bytes) → (disk_with s.known file backing).size ≡ s.header.size
  unfolding disk_with
  beside_size file backing = ap (λ (h : HeaderFields). h.size) (known_header s sound)

  pub beside_value : (file backing : Bytes) (o : ℕ) → ShowsBeside s file backing o
  beside_value file backing o = record {
    in_file = λ host copied is. beside_shown file backing o ∙ ap (value_beside file backing o) is;
    zeros = λ kept is. beside_shown file backing o ∙ ap (value_beside file backing o) is;
    in_backing = λ is. beside_shown file backing o ∙ ap (value_beside file backing o) is;
    not_compressed = λ place sectors is. subst (StandsAtGuest s.header (o / cluster_size s.header)) is (sound.at_guests (o / cluster_size s.header) beside);
  }

  pub beside_written : (file file' backing : Bytes) → WritesBeside s file file' backing
  beside_written file file' backing = record {
    size = beside_size file' backing ∙ sym (beside_size file backing);
    value = λ o same.
        beside_shown file' backing o
        ∙ file_value file file' backing o (cover s.header s.known (o / cluster_size s.header)) same
        ∙ sym (beside_shown file backing o);
  }

  -- the file changes only in guest clusters that P allows
  pub beside_written_within : (file file' backing : Bytes) (P : ℕ → Type 0) → ((o : ℕ) → (file' o ≡ file o) ⊎ P (o / cluster_size s.header))
      → (o : ℕ) → (P (o / cluster_size s.header) → ⊥) → (disk_with s.known file' backing).value o ≡ (disk_with s.known file backing).value o
  beside_written_within file file' backing P within o none = (beside_written file file' backing).value o (elim (within o) [ inl same ↦ same | inr allowed ↦ absurd (none allowed) ])

  -- bytes of a range are put into the file: those in place are shown, and private ones are not
  pub beside_put : (file file' backing : Bytes) (is_private : ℕ → Bool) (offset : ℕ) (bytes : List ℕ)
      → ((i : ℕ) → i < length bytes → is_private (offset + i) ≡ not (is_copied_data (cover s.header s.known ((offset + i) / cluster_size s.header))))
      → ((o : ℕ) → (o < offset) ⊎ (offset + length bytes ≤ o) → file' o ≡ file o) → ((i : ℕ) → i < length bytes → file' (offset + i) ≡ byte_at bytes i)
      → disk_with s.known file' backing ≡ record (disk_with s.known file backing) { value = λ o. cond (is_private o) ((disk_with s.known file backing).value o) ((with_bytes (disk_with s.known file backing) offset bytes).value o) }
  beside_put file file' backing is_private offset bytes private others there =
      same_disk _ _ ((beside_written file file' backing).size) (λ o. elim (in_range o offset (length bytes)) [
        | inl out ↦
            let same = (beside_written file file' backing).value o (others o out) in
            same_either (is_private o) _ _ _ same (same ∙ sym (laid_outside offset (length bytes) (λ i. known_byte (byte_at bytes i)) (disk_with s.known file backing).value o out))
        | inr at ↦
            subst (λ (p : ℕ). (disk_with s.known file' backing).value p ≡ cond (is_private p) ((disk_with s.known file backing).value p) ((with_bytes (disk_with s.known file backing) offset bytes).value p)) at.2
            (put_at at.0 at.1)
      ])
    where
      put_at : (i : ℕ) → i < length bytes → (disk_with s.known file' backing).value (offset + i) ≡ cond (is_private (offset + i)) ((disk_with s.known file backing).value (offset + i)) ((with_bytes (disk_with s.known file backing) offset bytes).value (offset + i))
      put_at i lt =
          beside_shown file' backing (offset + i)
          ∙ put_value s.header file file' backing (offset + i) ((offset + i) / cluster_size s.header) (cover s.header s.known ((offset + i) / cluster_size s.header)) (sound.at_guests ((offset + i) / cluster_size s.header) beside)
          ∙ ap (λ t. cond t (value_beside file backing (offset + i) (cover s.header s.known ((offset + i) / cluster_size s.header))) (known_byte (file' (offset + i)))) (sym (private i lt))
          ∙ ap (λ v. cond (is_private (offset + i)) v (known_byte (file' (offset + i)))) (sym (beside_shown file backing (offset + i)))
          ∙ ap (cond (is_private (offset + i)) ((disk_with s.known file backing).value (offset + i))) (ap known_byte (there i lt) ∙ sym (laid_inside offset (length bytes) (λ i. known_byte (byte_at bytes i)) (disk_with s.known file backing).value i lt))

-- ---- all mappings stay
module _ (old new : DriverState) (sound : StateInvariant old) (sound' : StateInvariant new) (beside : has_data_file old.header ≡ true) (beside' : has_data_file new.header ≡ true)
    (bits : new.header.cluster_bits ≡ old.header.cluster_bits) (covers : (g : ℕ) → cover old.header old.known g ≡ cover new.header new.known g) (file backing : Bytes) where
  pub beside_same_value : (o : ℕ) → (disk_with new.known file backing).value o ≡ (disk_with old.known file backing).value o
  beside_same_value o =
      beside_shown new sound' beside' file backing o
      ∙ ap (λ n. value_beside file backing o (cover new.header new.known (o / 2 ^ n))) bits
      ∙ ap (value_beside file backing o) (sym (covers (o / cluster_size old.header)))
      ∙ sym (beside_shown old sound beside file backing o)

  -- the header has the same size too
  pub beside_same_disk : new.header.size ≡ old.header.size → disk_with new.known file backing ≡ disk_with old.known file backing
  beside_same_disk size = same_disk _ _ (beside_size new sound' beside' file backing ∙ size ∙ sym (beside_size old sound beside file backing)) beside_same_value

-- the header stays, but for its pointer to the reftable
pub beside_unseen : (old new : DriverState) → StateInvariant old → StateInvariant new → has_data_file old.header ≡ true → KeepsFormat old.header new.header → SameCovers old.header old.known new.known
    → (file backing : Bytes) → disk_with new.known file backing ≡ disk_with old.known file backing
beside_unseen old new sound sound' beside format covers file backing =
    beside_same_disk old new sound sound' beside (ap (λ (h : HeaderFields). has_data_file h) format ∙ beside) (ap (λ (h : HeaderFields). h.cluster_bits) format)
    (λ g. covers g ∙ sym (cover_format old.header new.header format new.known g)) file backing (ap (λ (h : HeaderFields). h.size) format)

-- the L1 table is replaced by a longer one
pub beside_longer : (s : DriverState) (on_storage' known' : Bytes) (offset entries : ℕ) → StateInvariant s → has_data_file s.header ≡ true → WritesHeader s.header (with_l1_at s.header offset entries) s.on_storage s.known on_storage' known'
    → IsNewL1 s.header s.direction s.pending s.on_storage s.known offset entries → (file backing : Bytes) → disk_with known' file backing ≡ disk_with s.known file backing
beside_longer s on_storage' known' offset entries sound beside writes new file backing =
    beside_same_disk s (state_with_l1_table s offset entries on_storage' known') sound (header_is_written.l1_table s on_storage' known' offset entries sound writes new).sound beside beside refl
    (longer_l1_table_keeps_guests s on_storage' known' offset entries sound writes new).covers file backing refl

-- the size is written
pub beside_resized : (s : DriverState) (on_storage' known' : Bytes) (size autoclear : ℕ) → StateInvariant s → has_data_file s.header ≡ true → WritesHeader s.header (resized_places s.header size autoclear) s.on_storage s.known on_storage' known'
    → (file backing : Bytes) → disk_with known' file backing ≡ record (disk_with s.known file backing) { size = size }
beside_resized s on_storage' known' size autoclear sound beside writes file backing =
    let new : DriverState = record s { header = with_places s.header (resized_places s.header size autoclear); on_storage = on_storage'; known = known' } in
    let sound' = (header_is_written.size s on_storage' known' size autoclear sound writes).sound in
    same_disk _ _ (beside_size new sound' beside file backing)
    (beside_same_value s new sound sound' beside beside refl (resized_known_covers s.header size autoclear s.direction s.pending s.on_storage s.known on_storage' known' sound writes) file backing)

-- ---- the mapping of one guest cluster changes
module _ (s : DriverState) (known' : Bytes) (i j : ℕ) (sound : StateInvariant s) (beside : has_data_file s.header ≡ true) (changes : EntryChanges s known' i j) where
  pub changed_beside : StateInvariant (record s { pending = pending_after s known' (guest_at s.header i j); known = known' })
  changed_beside = entry_set s.header s.direction s.pending s.on_storage s.known known' sound i j changes.real changes.within changes.outside changes.entries changes.new_data changes.marked changes.aligned changes.at_guest

  -- it shows what its new mapping does
  pub beside_changed : (v : L2Mapping) → cover s.header known' (guest_at s.header i j) ≡ v
      → (file backing : Bytes) → disk_with known' file backing ≡ with_cluster (cluster_size s.header) (disk_with s.known file backing) (guest_at s.header i j) (λ o. value_beside file backing o v)
  beside_changed v is file backing =
      beside_entry s known' (guest_at s.header i j) sound (new_header s known' i j sound changes) (entry_unseen s known' i j sound changes s.pending).covers (λ g. sound.at_guests g beside) file backing (λ o. value_beside file backing o v) (λ o here.
      shown_as s.header known' file backing o (cover s.header known' (guest_at s.header i j)) (subst (λ g. StandsAtGuest s.header g (cover s.header known' (guest_at s.header i j))) (sym here) (changes.at_guest beside))
      ∙ ap (value_beside file backing o) is)

-- ---- several guest clusters, one after another
-- The mappings in the range change, and show these values over each data file and each backing disk. All else stays.
pub record MapsRangeBeside (first n : ℕ) (old new : DriverState) (values : (file backing : Bytes) → ℕ → Value) : Type 0 where
  pub sound : StateInvariant new
  pub header : new.header ≡ old.header
  pub covers : (g : ℕ) → (g < first) ⊎ (first + n ≤ g) → cover old.header old.known g ≡ cover old.header new.known g
  pub shows : (file backing : Bytes) → disk_with new.known file backing
      ≡ with_values (disk_with old.known file backing) (first * cluster_size old.header) ((first + n) * cluster_size old.header - first * cluster_size old.header) (λ i. values file backing (first * cluster_size old.header + i))

maps_none : (s : DriverState) (first : ℕ) (values : (file backing : Bytes) → ℕ → Value) → StateInvariant s → MapsRangeBeside first 0 s s values
maps_none s first values sound = record {
  sound = sound;
  header = refl;
  covers = λ g out. refl;
  shows = λ file backing. nothing_laid (cluster_size s.header) first (values file backing) (disk_with s.known file backing);
}

module _ (first n : ℕ) (a b : DriverState) (known : Bytes) (i j : ℕ) (values : (file backing : Bytes) → ℕ → Value) (beside : has_data_file a.header ≡ true) (one : MapsRangeBeside first n a b values)
    (changes : EntryChanges b known i j) (here : guest_at b.header i j ≡ first + n) (are : (file backing : Bytes) (o : ℕ) → value_beside file backing o (cover b.header known (guest_at b.header i j)) ≡ values file backing o) where
  abbrev c : DriverState
  c = record b { pending = pending_after b known (guest_at b.header i j); known = known }

  other_cover : (g : ℕ) → (g < first) ⊎ (first + suc n ≤ g) → cover a.header b.known g ≡ cover a.header known g
  other_cover g out =
      subst (λ h. cover h b.known g ≡ cover h known g) one.header ((entry_unseen b known i j one.sound changes b.pending).covers g (λ e. elim out [ inl below ↦ absurd (omega arith) | inr past ↦ absurd (omega arith) ]))

  then_shows : (file backing : Bytes) → disk_with known file backing ≡ with_cluster (cluster_size a.header) (disk_with b.known file backing) (first + n) (values file backing)
  then_shows file backing =
      let now = fun_ext (are file backing) in
      beside_changed b known i j one.sound (ap (λ (h : HeaderFields). has_data_file h) one.header ∙ beside) changes (cover b.header known (guest_at b.header i j)) refl file backing
      ∙ ap (with_cluster (cluster_size b.header) (disk_with b.known file backing) (guest_at b.header i j)) now
      ∙ ap (λ g. with_cluster (cluster_size b.header) (disk_with b.known file backing) g (values file backing)) here
      ∙ ap (λ (h : HeaderFields). with_cluster (cluster_size h) (disk_with b.known file backing) (first + n) (values file backing)) one.header

  maps_next : MapsRangeBeside first (suc n) a c values
  maps_next = record {
    sound = changed_beside b known i j one.sound beside_b changes;
    header = one.header;
    covers = λ g out. one.covers g (elim out [ inl below ↦ inl below | inr past ↦ inr (omega arith) ]) ∙ other_cover g out;
    shows = λ file backing.
        let value = fun_ext (one_more_at (cluster_size a.header) first n (pow_pos a.header.cluster_bits) (values file backing) (disk_with a.known file backing)) in
        then_shows file backing
        ∙ ap (λ d. with_cluster (cluster_size a.header) d (first + n) (values file backing)) (one.shows file backing)
        ∙ (λ j. record (disk_with a.known file backing) { value = value j });
  }
    where
      beside_b : has_data_file b.header ≡ true
      beside_b = ap (λ (h : HeaderFields). has_data_file h) one.header ∙ beside

module _ (kind : L2Mapping → Type 0) (values : (file backing : Bytes) → ℕ → Value) (first : ℕ) (are : (v : L2Mapping) → kind v → (file backing : Bytes) (o : ℕ) → value_beside file backing o v ≡ values file backing o) where
  pub maps_in_turn_beside : (n : ℕ) (s new : DriverState) → StateInvariant s → has_data_file s.header ≡ true → MapsInTurn kind first n s new → MapsRangeBeside first n s new values
  maps_in_turn_beside zero s new sound beside same = subst (λ (b : DriverState). MapsRangeBeside first 0 s b values) (sym same) (maps_none s first values sound)
  maps_in_turn_beside (suc n) s new sound beside turn =
      let entry = turn.2 in
      subst (λ (b : DriverState). MapsRangeBeside first (suc n) s b values) (sym entry.is)
      (maps_next first n s turn.0 entry.known entry.row entry.column values beside (maps_in_turn_beside n s turn.0 sound beside turn.1) entry.changes entry.here (are (cover turn.0.header entry.known (guest_at turn.0.header entry.row entry.column)) entry.maps))

-- The disk changes only in the range, to what it now shows over each data file and each backing disk.
pub record ClearsRangeBeside (first n : ℕ) (old new : DriverState) (now : Bytes → Disk → ℕ → ℕ → Disk) : Type 0 where
  pub sound : StateInvariant new
  pub header : new.header ≡ old.header
  pub covers : (g : ℕ) → (g < first) ⊎ (first + n ≤ g) → cover old.header old.known g ≡ cover old.header new.known g
  pub shows : (file backing : Bytes) → disk_with new.known file backing ≡ now backing (disk_with old.known file backing) (first * cluster_size old.header) ((first + n) * cluster_size old.header)

-- Zeroing or unmapping guest clusters one after another is zeroing or unmapping the range.
pub record RangesBeside : Type 0 where
  pub zeroed : (s new : DriverState) (first n : ℕ) → StateInvariant s → has_data_file s.header ≡ true → MapsInTurn IsZeros first n s new → ClearsRangeBeside first n s new (λ backing d from to. zeroed_between d from to)
  pub uncovered : (s new : DriverState) (first n : ℕ) → StateInvariant s → has_data_file s.header ≡ true → MapsInTurn (λ v. v ≡ Uncovered) first n s new → ClearsRangeBeside first n s new (λ backing d from to. uncovered d backing from to)

zeros_show : (v : L2Mapping) → IsZeros v → (file backing : Bytes) (o : ℕ) → value_beside file backing o v ≡ known_byte 0
zeros_show (Zero kept) zeros file backing o = refl
zeros_show _ zeros file backing o = absurd zeros

pub beside_range : RangesBeside
beside_range = record {
  zeroed = λ s new first n sound beside turn.
      let r = maps_in_turn_beside IsZeros (λ file backing o. known_byte 0) first zeros_show n s new sound beside turn in
      record { sound = r.sound; header = r.header; covers = r.covers; shows = r.shows };
  uncovered = λ s new first n sound beside turn.
      let r = maps_in_turn_beside (λ v. v ≡ Uncovered) (λ file backing o. known_byte (backing o)) first (λ v is file backing o. ap (value_beside file backing o) is) n s new sound beside turn in
      record { sound = r.sound; header = r.header; covers = r.covers; shows = r.shows };
}

-- ---- what is known is a consistent image of its kind
module _ (s : DriverState) (sound : StateInvariant s) (beside : has_data_file s.header ≡ true) where
  known_kept : CrashInvariant s.header s.direction s.pending s.known s.known
  known_kept = known_crash_invariant s.header s.direction s.pending s.on_storage s.known sound

  -- guest clusters name nothing in the image
  no_names : (c : ℕ) → over_guests s.header (names s.header s.known c) ≡ 0
  unfolding over_guests
  no_names c = sum_below-zero (guests s.header) (names s.header s.known c) (λ g lt. cond-true {A = ℕ} _ _ _ beside)

  fine_at : (c : ℕ) → Fine (cluster s.header s.pending s.known s.known c)
  fine_at c = fine s.direction (cluster s.header s.pending s.known s.known c) (s.pending.surplus c) (tied s.header s.pending s.known s.known c) (good s.header s.direction s.pending s.known s.known known_kept c)

  own_table : (c : ℕ) → 0 < marked_by_l1_table s.header s.known c → (named_for_tables s.header s.known c ≡ 1) × (count s.header s.known c ≡ 1)
  own_table c some = let one = (fine_at c).copied (omega arith) in let none = no_names c in (omega (arith, one.0), one.1)

  pub consistent_beside : ConsistentBeside s.header s.known
  consistent_beside = record {
    header_reads = known_kept.top.header_reads;
    reftable_fits = known_kept.top.reftable_fits;
    l1_reads = known_kept.top.l1_reads;
    reftable_reads = known_kept.top.reftable_reads;
    no_snapshots = known_kept.top.no_snapshots;
    external = beside;
    l1_aligned = known_kept.top.l1_aligned;
    reftable_aligned = known_kept.top.reftable_aligned;
    l2_tables_aligned = known_kept.top.l2_tables_aligned;
    refblocks_aligned = known_kept.top.refblocks_aligned;
    data_aligned = each_entry s.header s.known (CoverIsAligned s.header) (Sizes-from s.header s.known known_kept.top.header_reads) sound.known_aligned;
    counted = λ c. let enough = (fine_at c).counted in omega arith;
    tables_once = λ c some. let one = (fine_at c).tables (omega (arith, some)) in let none = no_names c in omega arith;
    copied_tables = λ i lt real copied. own_table (table_at s.header s.known i / cluster_size s.header) (l1_marked s.header s.known i lt real copied);
    at_guests = λ g. sound.at_guests g beside;
  }
