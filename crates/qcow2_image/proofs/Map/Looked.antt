-- What a lookup finds: the longest run of clusters that are mapped alike, within one L2 table.
use Rattle.std.proofs.Common.{◌≡◌, ◌+◌, ◌-◌, ◌*◌, ◌/◌, ◌%◌, ◌^◌, ◌<◌, ◌≤◌, ◌≢◌, ◌==◌, if◌then◌else◌, ⊎_elim, ℕ, zero, suc, refl, sym, ap, ◌∙◌, arith, subst, min, Bool, true, false, is_some, List, None, Option}
use Rattle.qcow2_image.proofs.Common.{is_beside, fun_ext, div-add-mod', div-mul-add, mod_below, div-div-eq-div-mul, div-mul-le_self, pow_mono, shr_mono, common_steps, Bytes, HeaderFields, cluster_size, entries_per_cluster, with_reftable, l2_entry, entry_at, cover, cover_of, entry_cover, L2TableView, L2Mapping, Data, Compressed, Uncovered, AreDataAt, IsAlike, IsAlikeAt, IsAlikeRun, IsDataAt, IsLongestRun, table_at, Sizes, cover_none, cover_in, Sizes-from, IsTableOf, run_first, run_less, run_begins, clusters_on, clusters_end, run_longest, cases_lt, BackingView, StorageView, contents_in, known_in, FileInvariant, ImageFile, IsEntryAt, ShowsKnown, Pending, SameCovers, cover_with, IsTop-top, Qcow2, MappingKind, size_of, Kind, raw, indirect, zeros, special, eof, kind_at, kind_in, rest_of_table, IsCompressed, Image, DataFile, Prepared, IsSpecial, InternalStep, found_kind, mapping_of, l1_index_of, AreAlikeBehind, IsAlikeTo, IsRunBehind, IsFoundInImage, IsFoundWhole, IsMappedAs, Mappings}
use Rattle.qcow2_image.specs.declared.mapping.MappingKind.TheVariants as M
use Rattle.qcow2_disk.specs.Found.{IsFound as IsFoundOf}

-- so many times a difference
sub_times : (m n k : ℕ) → n ≤ m → (m - n) * k + n * k ≡ m * k
sub_times m n k le = let e : m ≡ (m - n) + n = omega (arith, le) in sym (ap (λ x. x * k) e ∙ omega arith)

pub product_le : (m n k : ℕ) → m ≤ n → m * k ≤ n * k
product_le m n k le = let e : n ≡ m + (n - m) = omega (arith, le) in let f : n * k ≡ m * k + (n - m) * k = ap (λ x. x * k) e ∙ omega arith in omega arith

-- a cluster's number isn't large
pub cluster_near : (offset bits : ℕ) → offset < 2 ^ 64 → 9 ≤ bits → offset / 2 ^ bits < 2 ^ 62
cluster_near offset bits lt le =
    let large : 2 ^ 9 ≤ 2 ^ bits = pow_mono le in
    let within = div-mul-le_self offset (2 ^ bits) in
    let much = product_le (2 ^ 9) (2 ^ bits) (offset / 2 ^ bits) large in
    omega (arith, lt)

-- a table with the known entries says what is known of each cluster that it covers
pub says_known : (h : HeaderFields) (known : Bytes) (t : L2TableView) (i : ℕ) → Sizes h → table_at h known i ≢ 0 → IsTableOf h t
    → ((index : ℕ) → index < entries_per_cluster h → entry_at t.bytes index ≡ l2_entry known (table_at h known i) index) → (g : ℕ) → g / entries_per_cluster h ≡ i → mapping_of t g ≡ cover h known g
says_known h known t i sizes real format entries g is =
    let here : entry_at t.bytes (g % (2 ^ t.cluster_bits / 8)) ≡ l2_entry known (table_at h known (g / entries_per_cluster h)) (g % entries_per_cluster h) =
    ap (λ b. entry_at t.bytes (g % (2 ^ b / 8))) format.bits ∙ entries (g % entries_per_cluster h) (mod_below g (entries_per_cluster h) sizes.entries) ∙ ap (λ k. l2_entry known (table_at h known k) (g % entries_per_cluster h)) (sym is) in
    ap (λ b. cover_of b t.has_zero_bit t.data_is_external (entry_at t.bytes (g % (2 ^ t.cluster_bits / 8)))) format.bits
    ∙ ap (λ z. cover_of h.cluster_bits z t.data_is_external (entry_at t.bytes (g % (2 ^ t.cluster_bits / 8)))) format.zero_bit
    ∙ ap (λ x. cover_of h.cluster_bits (h.version == 3) x (entry_at t.bytes (g % (2 ^ t.cluster_bits / 8)))) format.external
    ∙ ap (λ e. entry_cover h e) here
    ∙ sym (cover_in h known g (λ none. real (ap (table_at h known) (sym is) ∙ none)))

module _ (h : HeaderFields) (offset : ℕ) (sizes : Sizes h) where
  -- what lies within the reach of an offset's L2 table has the same L1 entry
  pub same_table : (i : ℕ) → i < rest_of_table h offset → l1_index_of h (offset + i) ≡ l1_index_of h offset
  same_table i lt =
      let whole = cluster_size h * entries_per_cluster h in
      let split : offset / whole * whole + offset % whole ≡ offset = div-add-mod' offset whole in
      let e : offset + i ≡ offset / whole * whole + (offset % whole + i) = omega arith in
      div-div-eq-div-mul (offset + i) (cluster_size h) (entries_per_cluster h) ∙ ap (λ n. n / whole) e ∙ div-mul-add (offset / whole) whole (offset % whole + i) (omega (arith, lt))
      ∙ sym (div-div-eq-div-mul offset (cluster_size h) (entries_per_cluster h))

  -- without an L2 table all of it is unmapped
  pub none_found : (known : Bytes) (limit : ℕ) → limit ≤ rest_of_table h offset → table_at h known (l1_index_of h offset) ≡ 0 → IsLongestRun h known offset limit limit
  none_found known limit le none =
      let here : cover h known (offset / cluster_size h) ≡ Uncovered = cover_none h known (offset / cluster_size h) none in
      record {
        within = omega arith;
        alike = λ i lt.
            let there : cover h known ((offset + i) / cluster_size h) ≡ Uncovered = cover_none h known ((offset + i) / cluster_size h) (ap (table_at h known) (same_table i (omega (arith, lt, le))) ∙ none) in
            subst (λ (v : L2Mapping). IsAlike (((offset + i) / cluster_size h - offset / cluster_size h) * cluster_size h) v (cover h known ((offset + i) / cluster_size h))) (sym here)
            (subst (λ (v : L2Mapping). IsAlike (((offset + i) / cluster_size h - offset / cluster_size h) * cluster_size h) Uncovered v) (sym there) tt);
        longest = λ lt. absurd (omega (arith, lt));
      }

  -- a table that says what is known of the clusters that it covers
  module _ (known : Bytes) (t : L2TableView) (bits : t.cluster_bits ≡ h.cluster_bits) (says : (g : ℕ) → g / entries_per_cluster h ≡ l1_index_of h offset → mapping_of t g ≡ cover h known g) (max : ℕ)
      (within : max ≤ rest_of_table h offset) where
    abbrev pub rest : ℕ
    rest = cluster_size h - offset % cluster_size h

    -- the cluster after so many bytes, as the table says
    said : (k : ℕ) → rest + k * cluster_size h < max → mapping_of t (offset / cluster_size h + k + 1) ≡ cover h known (offset / cluster_size h + k + 1)
    said k lt =
        let begins = run_begins h known offset k in
        let at : (offset + (cluster_size h - offset % cluster_size h + k * cluster_size h)) / cluster_size h ≡ offset / cluster_size h + k + 1 =
        ap (λ n. n / cluster_size h) (begins ∙ omega arith) ∙ div-mul-add (offset / cluster_size h + k + 1) (cluster_size h) 0 sizes.some in
        says (offset / cluster_size h + k + 1) (ap (λ n. n / entries_per_cluster h) (sym at) ∙ same_table (cluster_size h - offset % cluster_size h + k * cluster_size h) (omega (arith, lt, within)))

    -- the table's mapping of a later cluster is the known one
    alike_there : (k : ℕ) → rest + k * cluster_size h < max → IsAlikeTo t (offset / cluster_size h) (k + 1)
        → IsAlike (k * cluster_size h + cluster_size h) (cover h known (offset / cluster_size h)) (cover h known (offset / cluster_size h + k + 1))
    alike_there k lt alike =
        let far : (k + 1) * 2 ^ t.cluster_bits ≡ k * cluster_size h + cluster_size h = ap (λ n. (k + 1) * 2 ^ n) bits ∙ omega arith in
        let next : offset / cluster_size h + (k + 1) ≡ offset / cluster_size h + k + 1 = omega arith in
        subst (λ (v : L2Mapping). IsAlike (k * cluster_size h + cluster_size h) v (cover h known (offset / cluster_size h + k + 1))) (says (offset / cluster_size h) refl)
        (subst (λ (v : L2Mapping). IsAlike (k * cluster_size h + cluster_size h) (mapping_of t (offset / cluster_size h)) v) (said k lt)
        (subst (λ n. IsAlike (k * cluster_size h + cluster_size h) (mapping_of t (offset / cluster_size h)) (mapping_of t n)) next
        (subst (λ n. IsAlike n (mapping_of t (offset / cluster_size h)) (mapping_of t (offset / cluster_size h + (k + 1)))) far alike)))

    back_there : (k : ℕ) → rest + k * cluster_size h < max
        → IsAlike (k * cluster_size h + cluster_size h) (cover h known (offset / cluster_size h)) (cover h known (offset / cluster_size h + k + 1)) → IsAlikeTo t (offset / cluster_size h) (k + 1)
    back_there k lt alike =
        let far : (k + 1) * 2 ^ t.cluster_bits ≡ k * cluster_size h + cluster_size h = ap (λ n. (k + 1) * 2 ^ n) bits ∙ omega arith in
        let next : offset / cluster_size h + (k + 1) ≡ offset / cluster_size h + k + 1 = omega arith in
        subst (λ n. IsAlike n (mapping_of t (offset / cluster_size h)) (mapping_of t (offset / cluster_size h + (k + 1)))) (sym far)
        (subst (λ n. IsAlike (k * cluster_size h + cluster_size h) (mapping_of t (offset / cluster_size h)) (mapping_of t n)) (sym next)
        (subst (λ (v : L2Mapping). IsAlike (k * cluster_size h + cluster_size h) (mapping_of t (offset / cluster_size h)) v) (sym (said k lt))
        (subst (λ (v : L2Mapping). IsAlike (k * cluster_size h + cluster_size h) v (cover h known (offset / cluster_size h + k + 1))) (sym (says (offset / cluster_size h) refl)) alike)))

    module _ (count : ℕ) (near : count * cluster_size h < max - rest + cluster_size h) (alike : AreAlikeBehind t (offset / cluster_size h) count) where
      before_max : (k : ℕ) → k + 1 ≤ count → rest + k * cluster_size h < max
      before_max k le = let p = product_le (k + 1) count (cluster_size h) le in let e : (k + 1) * cluster_size h ≡ k * cluster_size h + cluster_size h = omega arith in omega (arith, near)

      alike_upto : (k : ℕ) → k ≤ count → IsAlikeRun h known offset (rest + k * cluster_size h)
      alike_upto zero le = run_first h known offset (cluster_size h - offset % cluster_size h + 0 * cluster_size h) (omega arith)
      alike_upto (suc k) le =
          let step = clusters_on h known offset k (alike_there k (before_max k (omega (arith, le))) (alike (k + 1) (omega arith) (omega (arith, le)))) (alike_upto k (omega (arith, le))) in
          let e : cluster_size h - offset % cluster_size h + (k * cluster_size h + cluster_size h) ≡ cluster_size h - offset % cluster_size h + suc k * cluster_size h = omega arith in
          subst (IsAlikeRun h known offset) e step

    pub run_found : (n : ℕ) → IsRunBehind t (offset / cluster_size h) (max - rest) n → IsLongestRun h known offset max (min (rest + n) max)
    run_found n run =
        let size : 2 ^ t.cluster_bits ≡ cluster_size h = ap (λ k. 2 ^ k) bits in
        let whole : n ≡ run.count * cluster_size h = run.whole ∙ ap (λ k. run.count * k) size in
        let near : run.count * cluster_size h < max - rest + cluster_size h = let l = run.near in omega arith in
        let all : IsAlikeRun h known offset (rest + n) = subst (λ m. IsAlikeRun h known offset (rest + m)) (sym whole) (alike_upto run.count near run.alike run.count (omega arith)) in
        run_longest h known offset max (rest + n) all (λ lt at.
        clusters_end h known offset run.count (λ next. run.longest (omega (arith, lt)) (back_there run.count (omega (arith, lt, whole)) next)) (subst (λ m. IsAlikeAt h known offset (rest + m)) whole at))

-- a range that isn't longer than what was found is mapped so
pub mapped_as : {S F : Type 0} (view : S → StorageView) (image : Qcow2 S F) (offset n : ℕ) (kind : MappingKind) (found : ℕ) → 0 < n → n ≤ found → IsFoundInImage view image offset n kind found → IsMappedAs view image offset kind n
mapped_as view image offset n kind found some le is = ⊎_elim
    (λ lt. let run = is.run lt in record { kind_is = run.kind_is; alike = run_less image.file.header.fields (known_in view image.file) offset n found le run.longest.alike })
    (λ past. absurd (let none = (is.past past).1 in omega arith)) (cases_lt offset (size_of image))

-- what a held table says of a guest cluster is known
pub cached_says : {S : Type 0} (view : S → StorageView) (file : ImageFile S) (p : Pending) (t : L2TableView) (table i cluster : ℕ) → FileInvariant view p file → ShowsKnown file.caches table t
    → IsEntryAt file.header.fields (known_in view file) i table (cluster % entries_per_cluster file.header.fields) → cluster / entries_per_cluster file.header.fields ≡ i → mapping_of t cluster ≡ cover file.header.fields (known_in view file) cluster
cached_says view file p t table i cluster sound shows at here =
    let h = file.header.fields in
    let crash_invariant = sound.caches.kept.kept.crash_invariant in
    let sizes = Sizes-from h (known_in view file) (IsTop-top h (contents_in view file) (known_in view file) crash_invariant.same_top crash_invariant.top).header_reads in
    let each = λ (index : ℕ) (lt : index < entries_per_cluster h). shows h p (contents_in view file) i index sound.caches (record { real = at.real; place = at.place; within = lt }) in
    says_known h (known_in view file) t i sizes at.real (each (cluster % entries_per_cluster h) at.within).format (λ index lt. (each index lt).entry) cluster here

-- the mapping that is reported so
abbrev told_of : Kind → MappingKind
told_of (raw external offset writable) = M.Raw (if external then DataFile else Image) offset writable
told_of (indirect offset) = M.Indirect offset
told_of (zeros explicit) = M.Zero explicit
told_of (special offset) = M.Special offset
told_of eof = M.Eof

told_back : (k : MappingKind) → told_of (found_kind k) ≡ k
told_back (M.Raw Image offset writable) = refl
told_back (M.Raw DataFile offset writable) = refl
told_back k = refl

-- kinds that are reported alike are the same
pub same_kind : (a b : MappingKind) → found_kind a ≡ found_kind b → a ≡ b
same_kind a b same = sym (told_back a) ∙ ap told_of same ∙ told_back b

-- a whole range that was found as it is wanted is the longest run
pub found_whole : {S F : Type 0} (view : S → StorageView) (image : Qcow2 S F) (offset n : ℕ) (kind wanted : MappingKind) (found : ℕ) → IsFoundInImage view image offset n kind found → IsFoundWhole view image offset wanted n
    → (wanted ≡ kind) × (n ≤ found)
found_whole view image offset n kind wanted found is whole = ⊎_elim
    (λ lt.
    let run = is.run lt in
    let all = whole.run lt in
    (same_kind wanted kind (all.kind_is ∙ sym run.kind_is), ⊎_elim (λ (short : found < n). absurd (run.longest.longest (omega (arith, short, all.longest.within)) (all.longest.alike found short))) (λ le. le) (cases_lt found n)))
    (λ past. (same_kind wanted kind ((whole.past past).0 ∙ sym (is.past past).0), let none = (whole.past past).1 in omega arith)) (cases_lt offset (size_of image))

-- no cluster is mapped as what lies past the end
pub kind_within : (h : HeaderFields) (backed : Bool) (offset : ℕ) (m : L2Mapping) → eof ≡ kind_at h backed offset m → ⊥
kind_within h backed offset (Data host copied) is = absurd cc
kind_within h true offset Uncovered is = absurd cc
kind_within h backed offset m is = absurd cc

-- with a data file or without
pub never_past : (h : HeaderFields) (beside backed : Bool) (offset : ℕ) (m : L2Mapping) → eof ≡ kind_in h beside backed offset m → ⊥
never_past h beside backed offset (Data host copied) is = absurd cc
never_past h beside true offset Uncovered is = absurd cc
never_past h beside backed offset m is = absurd cc

-- without a data file
pub kind_inside : (h : HeaderFields) (backed : Bool) (offset : ℕ) (m : L2Mapping) → kind_in h false backed offset m ≡ kind_at h backed offset m
kind_inside h backed offset (Data host copied) = refl
kind_inside h backed offset m = refl

pub kind_alone : {S F : Type 0} (image : Qcow2 S F) → image.data_file ≡ None → (offset : ℕ) (m : L2Mapping) → kind_in image.file.header.fields (is_beside image) (is_some image.backing) offset m ≡ kind_at image.file.header.fields (is_some image.backing) offset m
kind_alone image none offset m = ap (λ (file : Option _). kind_in image.file.header.fields (is_some file) (is_some image.backing) offset m) none ∙ kind_inside image.file.header.fields (is_some image.backing) offset m

-- so no range is found whole so
pub none_past : {S F : Type 0} (view : S → StorageView) (image : Qcow2 S F) (offset n : ℕ) → 0 < n → IsFoundWhole view image offset M.Eof n → ⊥
none_past view image offset n some whole = ⊎_elim
    (λ lt. kind_within image.file.header.fields (is_some image.backing) offset (cover image.file.header.fields (known_in view image.file) (offset / cluster_size image.file.header.fields)) (whole.run lt).kind_is)
    (λ past. absurd (let none = (whole.past past).1 in omega arith)) (cases_lt offset (size_of image))

-- ---- where each guest cluster has the same mapping, the same is found

module _ (h : HeaderFields) (place clusters : ℕ) (known known' : Bytes) (covers : SameCovers h known known') where
  -- by the mappings of their guest clusters, a byte after an offset is mapped like the byte at it
  abbrev AreAlike : (offset i : ℕ) → (ℕ → L2Mapping) → Type 0
  AreAlike offset i covered = IsAlike (((offset + i) / cluster_size h - offset / cluster_size h) * cluster_size h) (covered (offset / cluster_size h)) (covered ((offset + i) / cluster_size h))

  same_cover : cover (with_reftable h place clusters) known' ≡ cover h known
  same_cover = fun_ext (λ g. cover_with h place clusters known' g ∙ sym (covers g))

  -- so it is where the reftable has moved
  found_still : (backed : Bool) (offset max : ℕ) (kind : Kind) (n : ℕ) → IsFoundOf (with_reftable h place clusters) known' backed offset max kind n → IsFoundOf h known backed offset max kind n
  found_still backed offset max kind n is = record {
    past = is.past;
    run = λ lt. let run = is.run lt in record {
      kind_is = run.kind_is ∙ ap (λ (f : ℕ → L2Mapping). kind_at h backed offset (f (offset / cluster_size h))) same_cover;
      longest = record {
        within = run.longest.within;
        alike = λ i below. subst (AreAlike offset i) same_cover (run.longest.alike i below);
        longest = λ short next. run.longest.longest short (subst (AreAlike offset n) (sym same_cover) next);
      };
    };
  }

-- a range that is found whole after a step that guests don't see was found so before
pub found_before : {S F : Type 0} (view : S → StorageView) (backing : F → BackingView) (old new : Qcow2 S F) (out : Mappings) (p p' : Pending) (offset n : ℕ) (kind : MappingKind) → InternalStep view backing p p' old new out
    → IsFoundWhole view new offset kind n → IsFoundWhole view old offset kind n
found_before view backing old new out p p' offset n kind step whole =
    let h = old.file.header.fields in
    let known = known_in view new.file in
    found_still h new.file.header.fields.reftable_offset new.file.header.fields.reftable_clusters (known_in view old.file) known step.unseen.covers (is_some old.backing) offset n (found_kind kind) n
    (subst (λ (b : Bool). IsFoundOf (with_reftable h new.file.header.fields.reftable_offset new.file.header.fields.reftable_clusters) known b offset n (found_kind kind) n) (ap (λ (x : Bool × Bytes). x.0) step.below)
    (subst (λ (x : HeaderFields). IsFoundOf x known (is_some new.backing) offset n (found_kind kind) n) step.unseen.header whole))

-- a range that was found whole before such a step is found so after it
pub found_after : {S F : Type 0} (view : S → StorageView) (backing : F → BackingView) (old new : Qcow2 S F) (out : Mappings) (p p' : Pending) (offset n : ℕ) (kind : MappingKind) → InternalStep view backing p p' old new out
    → IsFoundWhole view old offset kind n → IsFoundWhole view new offset kind n
found_after view backing old new out p p' offset n kind step whole =
    let h = old.file.header.fields in
    let place = new.file.header.fields.reftable_offset in
    let clusters = new.file.header.fields.reftable_clusters in
    let moved = with_reftable h place clusters in
    let known = known_in view old.file in
    let known' = known_in view new.file in
    subst (λ (x : HeaderFields). IsFoundOf x known' (is_some new.backing) offset n (found_kind kind) n) (sym step.unseen.header)
    (subst (λ (b : Bool). IsFoundOf moved known' b offset n (found_kind kind) n) (sym (ap (λ (x : Bool × Bytes). x.0) step.below))
    (found_still moved h.reftable_offset h.reftable_clusters known' known (λ g. cover_with h place clusters known' g ∙ sym (step.unseen.covers g) ∙ sym (cover_with h place clusters known g)) (is_some old.backing) offset n (found_kind kind) n whole))

-- ---- ranges that are found whole

module _ (h : HeaderFields) (known : Bytes) (backed : Bool) (offset : ℕ) where
  -- so a range is that is as long as what was found
  pub found_upto : (max : ℕ) (kind : Kind) (n : ℕ) → IsFoundOf h known backed offset max kind n → IsFoundOf h known backed offset n kind n
  found_upto max kind n is = record {
    past = is.past;
    run = λ lt. let run = is.run lt in let within = run.longest.within in record {
      kind_is = run.kind_is;
      longest = record { within = grind (arith, common_steps, within); alike = run.longest.alike; longest = λ short. absurd (grind (arith, common_steps, short)) };
    };
  }

  -- a run of contiguous data, within one L2 table and below the size, is one too
  pub data_found : (copied : Bool) (place n : ℕ) → 0 < n → offset + n ≤ h.size → n ≤ rest_of_table h offset → AreDataAt h known copied offset place n → IsFoundOf h known backed offset n (raw false place copied) n
  data_found copied place n some below within each = record {
    past = λ past. absurd (omega (arith, past, below, some));
    run = λ lt. record {
      kind_is = data_kind (each 0 some);
      longest = record { within = grind (arith, common_steps, below, within); alike = λ i less. data_alike i (each 0 some) (each i less); longest = λ short. absurd (grind (arith, common_steps, short)) };
    };
  }
    where
      size : ℕ
      size = cluster_size h

      at_first : offset + 0 ≡ offset
      at_first = omega arith

      data_kind : IsDataAt h known copied (offset + 0) (place + 0) → raw false place copied ≡ kind_at h backed offset (cover h known (offset / size))
      data_kind is =
          let stands : is.0 + offset % size ≡ place = ap (λ o. is.0 + o % size) (sym at_first) ∙ is.2 ∙ omega arith in
          ap (λ o. raw false o copied) (sym stands) ∙ ap (kind_at h backed offset) (sym (ap (λ o. cover h known (o / size)) (sym at_first) ∙ is.1))

      data_alike : (i : ℕ) → IsDataAt h known copied (offset + 0) (place + 0) → IsDataAt h known copied (offset + i) (place + i) → IsAlikeAt h known offset i
      data_alike i first is =
          let begins = div-add-mod' offset size in
          let ends = div-add-mod' (offset + i) size in
          let first_is : cover h known (offset / size) ≡ Data first.0 copied = ap (λ o. cover h known (o / size)) (sym at_first) ∙ first.1 in
          let stands : first.0 + offset % size ≡ place = ap (λ o. first.0 + o % size) (sym at_first) ∙ first.2 ∙ omega arith in
          let behind : offset / size ≤ (offset + i) / size = shr_mono h.cluster_bits (omega arith) in
          let split : ((offset + i) / size - offset / size) * size + offset / size * size ≡ (offset + i) / size * size = sub_times ((offset + i) / size) (offset / size) size behind in
          let there = is.2 in
          let next : is.0 ≡ first.0 + ((offset + i) / size - offset / size) * size = omega (arith, begins, ends, stands, there, split) in
          subst (λ (m : L2Mapping). IsAlike (((offset + i) / size - offset / size) * size) m (cover h known ((offset + i) / size))) (sym first_is)
          (subst (λ (m : L2Mapping). IsAlike (((offset + i) / size - offset / size) * size) (Data first.0 copied) m) (sym is.1) (next, refl))

-- what is mapped as compressed is compressed
pub compressed_there : (h : HeaderFields) (beside backed : Bool) (offset : ℕ) (kind : MappingKind) (m : L2Mapping) → found_kind kind ≡ kind_in h beside backed offset m → IsSpecial kind → IsCompressed m
compressed_there h beside backed offset kind (Compressed host sectors) is so = tt
compressed_there h beside true offset (M.Special at) Uncovered is so = absurd cc
compressed_there h beside backed offset (M.Special at) m is so = absurd cc
compressed_there h beside backed offset kind m is so = absurd so
