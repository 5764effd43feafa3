-- The tables after a growth: the L1 table covers the last byte, and a pinned L2 table refuses the growth only past the old end.
use Rattle.std.proofs.Common.{◌≡◌, ◌+◌, ◌*◌, ◌-◌, ◌/◌, ◌%◌, ◌<◌, ◌≤◌, ℕ, Bool, true, false, List, Option, refl, sym, ap, ◌∙◌, subst, arith, inl, inr, IfErr, Result, Ok, Err, None, Some}
use Rattle.qcow2_image.proofs.Common.{OnOk, cases_lt, div-add-mod', mod_below, pow_pos, BackingView, StorageView, PreallocateMode, Bytes, cover, copied_host, zero_cover, HeaderFields, L2Mapping, Uncovered, HeaderView, cluster_size, rounded_up, with_fields, with_size, with_tables_of, shows_old, GrownCovers, first_zeros, is_copied_data, guests, places_of, with_places, past_guests, Sizes, ImageError, known_in, file_sizes, InternalCall, Qcow2, Prepared, ReachesSize, SameFormat, HasNothingToFree, is_failed, number_of, size_of, ImageInvariant, disk_of, pending_in, ReachesOffset, CoversStay, MovesTables, FillsGrown, GrownFree, IsUnderMappingIn, RefusedGrown, GrowsTables, LacksZeros, RefusesUnchanged, WritesSize, boundary_in, Mappings}
use Rattle.image_access.specs.declared.storage.PreallocateMode.TheVariants as Mode
use Rattle.qcow2_disk.specs.GrownCovers.{FilledCovers}
use Rattle.qcow2_alloc.specs.declared.error.ImageError.TheVariants as I
use Rattle.qcow2_alloc.specs.ImageError.{IsFault as IsFaultOfTables}
use Rattle.qcow2_image.proofs.Lemmas.{MayMark, refuses_left, covers_stay, stay_covers, taken_wider, up_least, same_size, disk_size}

-- ---- the mapping of a filled cluster is that of an L1 entry's table
copied_stands : (v : L2Mapping) → v ≡ Uncovered → is_copied_data v ≡ true → ⊥
copied_stands v is copied = let no : true ≡ false = sym copied ∙ ap is_copied_data is in absurd cc

zeros_stand : (kept : Option ℕ) → zero_cover kept ≡ Uncovered → ⊥
zeros_stand None is = absurd cc
zeros_stand (Some host) is = absurd cc

covers_reach : (h h' : HeaderFields) (known known' : Bytes) (first from size : ℕ) → MovesTables h h' → Sizes h' → from < size → FilledCovers (cluster_size h) first from (rounded_up (cluster_size h) size) h known h' known' → ReachesSize (with_size h' size)
covers_reach h h' known known' first from size file_step sizes larger covers =
    let cs = cluster_size h in
    let g = (size - 1) / cs in
    let same = same_size h h' file_step in
    let some : 0 < cs = let s = sizes.some in omega (arith, s, same) in
    let least = up_least cs size some in
    let parts : g * cs + (size - 1) % cs ≡ size - 1 = div-add-mod' (size - 1) cs in
    let below = mod_below (size - 1) cs some in
    let touches : (from < rounded_up cs size) × (from < g * cs + cs) × (g * cs < rounded_up cs size) = (omega (arith, larger, least), omega (arith, larger, parts, below), omega (arith, larger, parts, least)) in
    let stands : cover h' known' g ≡ Uncovered → ⊥ = λ none. elim (cases_lt (g * cs) first) [
      | inl before ↦ copied_stands (cover h' known' g) none (covers.copied g touches before)
      | inr behind ↦ zeros_stand (copied_host (cover h known g)) (sym (covers.zeros g touches behind) ∙ none)
    ] in
    elim (cases_lt g (guests h')) [
      | inr past ↦ absurd (stands (past_guests h' known' g sizes past))
      | inl lt ↦ last_reached (cluster_size h') cs g (guests h') size same lt parts below
    ]
  where
    last_reached : (cs' cs g n size : ℕ) → cs' ≡ cs → g < n → g * cs + (size - 1) % cs ≡ size - 1 → (size - 1) % cs < cs → size ≤ n * cs'
    last_reached cs' cs g n size same lt parts below =
        let e : n * cs ≡ (g + 1 + (n - (g + 1))) * cs = ap (λ k. k * cs) (let s : n ≡ g + 1 + (n - (g + 1)) = omega (arith, lt) in s) in
        let r : (g + 1 + (n - (g + 1))) * cs ≡ g * cs + cs + (n - (g + 1)) * cs = omega arith in
        subst (λ c. size ≤ n * c) (sym same) (omega (arith, e, r, parts, below))

-- ---- steps before and after keep the mappings
module _ (mode : PreallocateMode) (size : ℕ) (h : HeaderFields) (k : Bytes) (long : HeaderFields) (kl : Bytes) (filled : HeaderFields) (kf : Bytes) (new : HeaderFields) (kn : Bytes) where
  abbrev cs : ℕ
  cs = cluster_size h

  abbrev end : ℕ
  end = rounded_up cs size

  grown_between : MovesTables h long → CoversStay h k long kl → GrownCovers mode long.size size long kl filled kf → CoversStay filled kf new kn → GrownCovers mode h.size size h k new kn
  grown_between file_step before grown behind = record {
    filled = λ hides.
        let was = subst (λ c. FilledCovers c (first_zeros c long.size size mode) long.size (rounded_up c size) long kl filled kf) (same_size h long file_step) (grown.filled hides) in
        let then = subst (λ n. FilledCovers cs (first_zeros cs n size mode) n end long kl filled kf) (ap (λ (x : HeaderFields). x.size) file_step) was in
        let first = first_zeros cs h.size size mode in
        covers_stay cs (pow_pos h.cluster_bits) first h k filled kf new kn h.size end (stay_covers cs (pow_pos h.cluster_bits) first h k long kl filled kf h.size end before then) behind;
    same = λ shows g. before g ∙ grown.same shows g ∙ behind g;
  }

-- tables move, and then the size is written
format_sized : (h m h' : HeaderFields) (size : ℕ) → MovesTables h m → h' ≡ with_size m size → SameFormat h h'
format_sized h m h' size file_step is =
    let e : h' ≡ with_size (with_tables_of h m) size = is ∙ ap (λ (k : HeaderFields). with_size k size) file_step in
    subst (λ (k : HeaderFields). k ≡ with_places h (places_of k)) (sym e) refl

autoclear_sized : (h m h' : HeaderFields) (size : ℕ) → MovesTables h m → h' ≡ with_size m size → h'.autoclear ≡ h.autoclear
autoclear_sized h m h' size file_step is = ap (λ (k : HeaderFields). k.autoclear) is ∙ ap (λ (k : HeaderFields). k.autoclear) file_step

module _ {S F : Type 0} (view : S → StorageView) (backing : F → BackingView) (out : Mappings) where
  -- filling the range past the old end keeps that
  module _ (long filled : Qcow2 S F) (size : ℕ) (sound : ImageInvariant view backing (pending_in view backing long out) long out) (larger : size_of long < size) where
    filled_reaches : (first : ℕ) → MovesTables long.file.header.fields filled.file.header.fields → ImageInvariant view backing (pending_in view backing filled out) filled out
        → FilledCovers (cluster_size long.file.header.fields) first (size_of long) (rounded_up (cluster_size long.file.header.fields) size) long.file.header.fields (known_in view long.file) filled.file.header.fields (known_in view filled.file)
        → ReachesSize (with_size filled.file.header.fields size)
    filled_reaches first file_step filled_sound covers =
        covers_reach long.file.header.fields filled.file.header.fields (known_in view long.file) (known_in view filled.file) first (size_of long) size file_step
        (file_sizes view (pending_in view backing filled out) filled.file filled_sound.file) larger covers

    pub reaches_filled : (mode : PreallocateMode) → (mode ≡ Mode.None → filled ≡ long) → ReachesSize (with_size long.file.header.fields size) → FillsGrown view backing size mode long filled out → ReachesSize (with_size filled.file.header.fields size)
    reaches_filled Mode.None same reached fills = subst (λ (image : Qcow2 S F). ReachesSize (with_size image.file.header.fields size)) (sym (same refl)) reached
    reaches_filled mode same reached fills = filled_reaches _ fills.header fills.sound (fills.covers.filled refl)

  -- the mappings of the guest clusters, by the images before and after
  abbrev pub Leaves : Qcow2 S F → Qcow2 S F → ℕ → PreallocateMode → Type 0
  Leaves old new size mode = GrownCovers mode (size_of old) size old.file.header.fields (known_in view old.file) new.file.header.fields (known_in view new.file)

  pub leaves_filled : (old long filled new : Qcow2 S F) (size : ℕ) (mode : PreallocateMode) → InternalCall view backing old long out → FillsGrown view backing size mode long filled out
      → CoversStay filled.file.header.fields (known_in view filled.file) new.file.header.fields (known_in view new.file) → Leaves old new size mode
  leaves_filled old long filled new size mode call fills stay =
      grown_between mode size old.file.header.fields (known_in view old.file) long.file.header.fields (known_in view long.file) filled.file.header.fields (known_in view filled.file) new.file.header.fields (known_in view new.file)
      call.header call.covers fills.covers stay

  -- the size may be refused
  pub leaves_sized : (old long filled new : Qcow2 S F) (size : ℕ) (mode : PreallocateMode) (r : Result (Unit {0}) ImageError) → InternalCall view backing old long out → FillsGrown view backing size mode long filled out → WritesSize view backing filled new out size r
      → OnOk r (Leaves old new size mode)
  leaves_sized old long filled new size mode (Ok x) call fills sets = leaves_filled old long filled new size mode call fills sets.covers
  leaves_sized old long filled new size mode (Err e) call fills refused = tt

  -- a table that is prepared is one of the range, by the header of the call's begin
  pub taken_behind : (old long filled : Qcow2 S F) (size : ℕ) (mode : PreallocateMode) (e : ImageError) → InternalCall view backing old long out → RefusedGrown view backing size mode long filled out e
      → e ≡ I.TablePrepared → (shows_old mode ≡ false) × IsUnderMappingIn old.file.header.fields (size_of old) (boundary_in old size) out
  taken_behind old long filled size mode e call refused is =
      let d = disk_of view backing out.place long in
      let end = rounded_up (cluster_size long.file.header.fields) size in
      let shown = disk_size view backing long out call.sound in
      let moved : size_of long ≡ size_of old = ap (λ (h : HeaderFields). h.size) call.header in
      let last : end ≡ boundary_in old size = ap (λ n. rounded_up n size) (same_size old.file.header.fields long.file.header.fields call.header) in
      let taken = refused.taken is in
      (taken.0, taken_wider old.file.header.fields long.file.header.fields d.size end (size_of old) (boundary_in old size) out call.header (omega (arith, shown, moved)) (omega (arith, last)) taken.1)

  -- the size is written last
  pub tables_sized : (old filled new : Qcow2 S F) (marked : Bool) (size : ℕ) (mode : PreallocateMode) (r : Result (Unit {0}) ImageError) → MovesTables old.file.header.fields filled.file.header.fields → IfErr r IsFaultOfTables → OnOk r (new.file.header ≡ with_fields filled.file.header (with_size filled.file.header.fields size))
      → ReachesSize (with_size filled.file.header.fields size) → ReachesOffset (size - 1) old.file.header.fields filled.file.header.fields → OnOk r (Leaves old new size mode) → HasNothingToFree new → (mode ≡ Mode.Zero → LacksZeros old → ⊥)
      → GrownFree mode (size_of old) size old.file.header.fields (known_in view old.file) out → GrowsTables view backing old (record new { is_failed = marked }) size mode out r
  tables_sized old filled new marked size mode (Ok x) file_step cause header reached length covers emptied zeros free = record { free = free; emptied = emptied; zeros = zeros; autoclear = autoclear_sized old.file.header.fields filled.file.header.fields new.file.header.fields size file_step (ap (λ (v : HeaderView). v.fields) header); format = format_sized old.file.header.fields filled.file.header.fields new.file.header.fields size file_step (ap (λ (v : HeaderView). v.fields) header); reaches = subst (λ (v : HeaderView). ReachesSize v.fields) (sym header) reached; length = ap (λ (v : HeaderView). v.fields.l1_entries) header ∙ length; covers = covers }
  tables_sized old filled new marked size mode (Err e) file_step cause header reached length covers emptied zeros free = record {
    taken = λ is. absurd (elim cause [ inl fault ↦ (let no : I.TablePrepared ≡ I.Storage = sym is ∙ fault in cc) | inr fault ↦ (let no : I.TablePrepared ≡ I.Memory = sym is ∙ fault in cc) ]);
    zeros = λ zero lacks. absurd (zeros zero lacks);
    version = λ zero lacks. absurd (zeros zero lacks);
  }

  -- ---- the entries can't mark zeros
  pub refuses_version : (old long filled : Qcow2 S F) (e : ImageError) (marked : Bool) → is_failed old ≡ false → InternalCall view backing old long out → filled ≡ long → e ≡ I.Version → number_of filled ≡ number_of old → MayMark e (is_failed filled) marked
      → RefusesUnchanged view backing old (record filled { is_failed = marked }) out e
  refuses_version old long filled e marked usable call same is number marks =
      refuses_left view backing out old usable filled marked number e marks (λ want. absurd (let no : I.Version ≡ I.Memory = sym is ∙ want in cc)) (λ sound. inl (subst (λ (image : Qcow2 S F). InternalCall view backing old image out) (sym same) call))
