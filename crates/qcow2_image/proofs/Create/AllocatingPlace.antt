-- A new disk is grown and flushed. If clusters are allocated for it, every moment shows zeros, and each guest cluster gets the mapping of the mode.
use Rattle.std.proofs.Common.{◌≡◌, ◌⊎◌, ◌<◌, ◌≤◌, ◌∷◌, inl, inr, ⊎_elim, ℕ, true, false, List, [], Option, None, Some, Result, Ok, Err, refl, sym, ap, ◌∙◌, subst, arith, IsTrue, is_some}
use Rattle.qcow2_image.proofs.Common.{not, option_or, cases_lt, BackingView, StorageView, PreallocateMode, passes_if, passes_on, KeepsHeaderRest, Bytes, byte_at, cover, header, cluster_size, rounded_up, HeaderFields, Uncovered, IsOpened, Stops, EffectOnSound, shows_old, disk, first_zeros, Checkpoint, GivenBytes, StopOkEverywhere, checkpoint_at, Pending, places_of, with_places, with_listed, ImageError, known_in, state_in, view_in, FlushesImage, setting_of, Enlarges, IsNewDisk, IsPreallocated, IsStopOfCreating, IsUnwritten, ShowsZeros, StopsCreating, AllocatesPlace, Qcow2, KeepsFormat, FitsSize, Extends, Lasts, ReachesSize, SameFormat, WritesBack, is_writable, size_of, ImageInvariant, abstract_of, backing_bytes, disk_of, pending_in, CoversStay, refuse_if, GrowsTo, LeavesTables, all_given_by_grow, refuses_to_resize, known_header, in_image, Image}
use Rattle.image_access.specs.declared.storage.PreallocateMode.TheVariants as Mode
use Rattle.qcow2_disk.specs.GrownCovers.{FilledCovers}
use Rattle.qcow2_alloc.specs.declared.error.ImageError.TheVariants as I
use Rattle.qcow2_image.proofs.Lemmas.{fits_grown, format_stored, grown_rest, grown_unwritten, growing_stops, unwritten_as, grow_gives_zeros, kept_either, kept_since, kept_zeros, preallocated_none, preallocated_so, starts_unwritten, unwritten_covers, unwritten_uncovered, zeros_new, all_listed, beside, call_since, lasts_then, sound_is_usable}

none_below : {F : Type 0} (backing : F → BackingView) {S : Type 0} (view : S → StorageView) (below : Option F) → is_some below ≡ false → backing_bytes view backing below ≡ (λ i. 0)
none_below backing view None alone = refl
none_below backing view (Some f) alone = absurd (cc alone)

-- the mode that shows the old bytes, or another
by_mode : (P : PreallocateMode → Type 0) (mode : PreallocateMode) → (shows_old mode ≡ true → P Mode.None) → (shows_old mode ≡ false → P mode) → P mode
by_mode P Mode.None shown hidden = shown refl
by_mode P _ shown hidden = hidden refl

-- whatever a growth answers
grows_works : {S F : Type 0} (view : S → StorageView) (backing : F → BackingView) (old new : Qcow2 S F) (size : ℕ) (mode : PreallocateMode) (r : Result (Unit {0}) ImageError) → GrowsTo view backing old new size mode r → (abstract_of view backing old (in_image [])).is_sound
    → EffectOnSound (abstract_of view backing old (in_image [])) (abstract_of view backing new (in_image [])) (all_given_by_grow view backing Image old size mode) (size ∷ [])
grows_works view backing old new size mode (Ok x) sees sound = (sees (in_image [])).acts.works sound
grows_works view backing old new size mode (Err e) sees sound = (sees (in_image [])).acts.works sound

-- one format after another
format_then : (a b c : HeaderFields) → SameFormat a b → SameFormat b c → SameFormat a c
format_then a b c first then = then ∙ ap (λ h. with_places h (places_of c)) first

module _ {S F : Type 0} (view : S → StorageView) (backing : F → BackingView) (size : ℕ) (old mid : Qcow2 S F) (opened : IsOpened (abstract_of view backing old (in_image []))) (writable : IsTrue (is_writable old))
    (unwritten : IsUnwritten 0 (byte_at (view_in view old.file).contents)) where
  abbrev before : Bytes
  before = byte_at (view_in view old.file).contents

  abbrev below : Bytes
  below = backing_bytes view backing old.backing

  usable : refuses_to_resize old ≡ None
  usable =
      let may : is_writable old ≡ true = writable in
      ap (λ r. option_or r (refuse_if (not (is_writable old)) I.ReadOnly)) (sound_is_usable view backing old (in_image []) opened.sound) ∙ ap (λ b. refuse_if (not b) I.ReadOnly) may

  header_is : header before ≡ old.file.header.fields
  header_is = opened.sound.file.caches.kept.kept.crash_invariant.top.header_is

  no_bytes : size_of old ≡ 0
  no_bytes = ap (λ (h : HeaderFields). h.size) (sym header_is) ∙ unwritten.size

  uncovered : (g : ℕ) → cover old.file.header.fields (known_in view old.file) g ≡ Uncovered
  uncovered g = subst (λ (h : HeaderFields). cover h (known_in view old.file) g ≡ Uncovered) header_is (subst (λ (b : Bytes). cover (header before) b g ≡ Uncovered) (sym opened.clean) (unwritten_uncovered 0 before unwritten g))

  -- ---- clusters are allocated
  module _ (alone : is_some old.backing ≡ false) (mode : PreallocateMode) (hides : shows_old mode ≡ false) where
    abbrev given_bytes : List GivenBytes
    given_bytes = all_given_by_grow view backing Image old size mode

    abbrev so_far : Checkpoint
    so_far = kept_since size below before given_bytes

    keeps_zeros : (c : Bytes) → StopOkEverywhere below so_far c → (n : ℕ) → (header c).size ≡ n → ShowsZeros n c
    keeps_zeros = kept_zeros size below (none_below backing view old.backing alone) before unwritten given_bytes (grow_gives_zeros (setting_of view backing old) (disk_of view backing Image old) size mode)

    keeps_either : (c : Bytes) → StopOkEverywhere below so_far c → IsStopOfCreating mode size c
    keeps_either c kept =
        ⊎_elim (λ none. inr (inl (zeros_new mode 0 c hides none))) (λ some. inr (inr (zeros_new mode size c hides some)))
        (kept_either size below (none_below backing view old.backing alone) before unwritten given_bytes (grow_gives_zeros (setting_of view backing old) (disk_of view backing Image old) size mode) c kept)

    module _ (works : EffectOnSound (abstract_of view backing old (in_image [])) (abstract_of view backing mid (in_image [])) given_bytes (size ∷ [])) where
      stops : Stops (abstract_of view backing old (in_image [])) (abstract_of view backing mid (in_image [])) given_bytes (size ∷ []) (checkpoint_at (disk before below) before)
      stops = works.stops (checkpoint_at (disk before below) before) (starts_unwritten below before unwritten, subst (StopOkEverywhere below (checkpoint_at (disk before below) before)) (sym opened.clean) (starts_unwritten below before unwritten))

      taking_stops : StopsCreating mode size (view_in view old.file) (view_in view mid.file)
      taking_stops = passes_if (λ c. IsStopOfCreating mode size (byte_at c)) (λ c kept. keeps_either (byte_at c) kept) stops.moments

      -- and flushed
      module _ (sound : (abstract_of view backing mid (in_image [])).is_sound) (new : Qcow2 S F) (lasts : Lasts view mid new []) where
        flush_stops : StopsCreating mode size (view_in view mid.file) (view_in view new.file)
        flush_stops = passes_if (λ c. IsStopOfCreating mode size (byte_at c)) (λ c kept. keeps_either (byte_at c) (kept below so_far stops.contents (stops.known sound))) lasts.moments

        taken_stops : StopsCreating mode size (view_in view old.file) (view_in view new.file)
        taken_stops = passes_on (λ c. IsStopOfCreating mode size (byte_at c)) taking_stops flush_stops (λ c is. is)

        taken_zeros : (header (byte_at (view_in view new.file).contents)).size ≡ size → ShowsZeros size (byte_at (view_in view new.file).contents)
        taken_zeros is = keeps_zeros (byte_at (view_in view new.file).contents) (lasts.contents below so_far stops.contents (stops.known sound)) size is

        taken_rest : KeepsHeaderRest before (byte_at (view_in view new.file).contents)
        taken_rest = (lasts.contents below so_far stops.contents (stops.known sound)).rest

  shown_stops : (new : Qcow2 S F) → Lasts view old new (size ∷ []) → StopsCreating Mode.None size (view_in view old.file) (view_in view new.file)
  shown_stops new lasts = growing_stops size (view_in view old.file) (view_in view new.file) (known_in view old.file) unwritten opened.clean lasts

  -- ---- the mappings afterwards
  module _ (mode : PreallocateMode) (x : Unit {0}) (takes : AllocatesPlace view backing mode old mid size (Ok x)) where
    same_none : size ≤ 0 → mid ≡ old
    same_none le = (takes.no_larger usable (omega (arith, le))).1

    larger : 0 < size → size_of old < size
    larger lt = omega (arith, lt, no_bytes)

    leaves : 0 < size → LeavesTables view backing mode size old mid (in_image [])
    leaves lt = takes.tables usable (larger lt) opened.sound

    size_mid : size_of mid ≡ size
    size_mid = elim (cases_lt 0 size) [ inl lt ↦ (takes.image (larger lt)).size_is | inr le ↦ ap (λ (i : Qcow2 S F). size_of i) (same_none le) ∙ no_bytes ∙ omega (arith, le) ]

    pub format_mid : SameFormat old.file.header.fields mid.file.header.fields
    format_mid = elim (cases_lt 0 size) [ inl lt ↦ (leaves lt).format | inr le ↦ subst (λ (i : Qcow2 S F). SameFormat old.file.header.fields i.file.header.fields) (sym (same_none le)) refl ]

    autoclear_mid : mid.file.header.fields.autoclear ≡ old.file.header.fields.autoclear
    autoclear_mid = elim (cases_lt 0 size) [ inl lt ↦ (leaves lt).autoclear | inr le ↦ ap (λ (i : Qcow2 S F). i.file.header.fields.autoclear) (same_none le) ]

    reaches_mid : ReachesSize mid.file.header.fields
    reaches_mid = elim (cases_lt 0 size) [ inl lt ↦ (leaves lt).reaches | inr le ↦ subst (λ (i : Qcow2 S F). ReachesSize i.file.header.fields) (sym (same_none le)) (omega (arith, no_bytes)) ]

    fits_mid : FitsSize old.file.header.fields → FitsSize mid.file.header.fields
    fits_mid fits = elim (cases_lt 0 size) [
      | inl lt ↦ fits_grown old.file.header.fields mid.file.header.fields size fits (larger lt) (ap (λ (h : HeaderFields). h.cluster_bits) format_mid) size_mid (leaves lt).length
      | inr le ↦ subst (λ (i : Qcow2 S F). FitsSize i.file.header.fields) (sym (same_none le)) fits
    ]

    covers_then : shows_old mode ≡ false → (b : Bytes) → cluster_size (header b) ≡ cluster_size old.file.header.fields → CoversStay mid.file.header.fields (known_in view mid.file) (header b) b → IsPreallocated mode size b
    covers_then hides b same stay = elim (cases_lt 0 size) [
      | inl lt ↦
          let h = old.file.header.fields in
          let filled = subst (λ n. FilledCovers (cluster_size h) (first_zeros (cluster_size h) n size mode) n (rounded_up (cluster_size h) size) h (known_in view old.file) mid.file.header.fields (known_in view mid.file)) no_bytes ((leaves lt).covers.filled hides) in
          preallocated_so mode hides size h (known_in view old.file) mid.file.header.fields (known_in view mid.file) b uncovered filled stay same
      | inr le ↦
          let none : size ≡ 0 = omega (arith, le) in
          let at = λ (g : ℕ). sym (stay g) ∙ ap (λ (i : Qcow2 S F). cover i.file.header.fields (known_in view i.file) g) (same_none le) ∙ uncovered g in
          subst (λ n. IsPreallocated mode n b) (sym none) (preallocated_none mode b at)
    ]

    -- as known, before it is flushed
    abbrev known : Bytes
    known = known_in view mid.file

    sound_mid : (abstract_of view backing mid (in_image [])).is_sound
    sound_mid = ((takes.sees (in_image [])).answer opened.sound).0

    known_is : header known ≡ mid.file.header.fields
    known_is = known_header (state_in view mid.file (pending_in view backing mid (in_image []))) sound_mid.file.caches.kept.kept.crash_invariant

    uncovered_still : shows_old mode ≡ true → (g : ℕ) → cover (header known) known g ≡ Uncovered
    uncovered_still shows g =
        let at : cover mid.file.header.fields known g ≡ Uncovered = elim (cases_lt 0 size) [
          | inl lt ↦ sym ((leaves lt).covers.same shows g) ∙ uncovered g
          | inr le ↦ ap (λ (i : Qcow2 S F). cover i.file.header.fields (known_in view i.file) g) (same_none le) ∙ uncovered g
        ] in
        ap (λ (h : HeaderFields). cover h known g) known_is ∙ at

    pub known_covers : IsPreallocated mode size (known_in view mid.file)
    known_covers = by_mode (λ m. IsPreallocated m size known) mode
        (λ shows. record { inside = λ g lt. uncovered_still shows g; behind = λ g le. uncovered_still shows g })
        (λ hides. covers_then hides known (ap (λ (h : HeaderFields). cluster_size h) (known_is ∙ format_mid)) (λ g. ap (λ (h : HeaderFields). cover h known g) (sym known_is)))

    pub known_disk : (shows_old mode ≡ true) ⊎ (is_some old.backing ≡ false) → IsNewDisk mode size (known_in view mid.file)
    known_disk which =
        let is : (header known).size ≡ size = ap (λ (h : HeaderFields). h.size) known_is ∙ size_mid in
        by_mode (λ m. IsNewDisk m size known) mode
        (λ shows. unwritten_as 0 before known (size ∷ []) unwritten (λ below m ok. ((takes.last opened.sound).lasts shows).known below m ok (subst (StopOkEverywhere below m) (sym opened.clean) ok)) size is)
        (λ hides. elim which [
          | inl shows ↦ absurd (let no : true ≡ false = sym shows ∙ hides in cc)
          | inr alone ↦ zeros_new mode size known hides (keeps_zeros alone mode hides known ((stops alone mode hides ((takes.sees (in_image [])).acts.works opened.sound)).known sound_mid) size is)
        ])

    module _ (new : Qcow2 S F) (p : Pending) (written : Extends view backing p mid new × KeepsFormat mid.file.header.fields new.file.header.fields × CoversStay mid.file.header.fields (known_in view mid.file) new.file.header.fields (known_in view new.file))
        (size_stays : size_of new ≡ size_of mid) (clean : known_in view new.file ≡ byte_at (view_in view new.file).contents) where
      abbrev after : Bytes
      after = byte_at (view_in view new.file).contents

      new_is : header after ≡ new.file.header.fields
      new_is = written.0.sound.file.caches.kept.kept.crash_invariant.top.header_is

      format_new : SameFormat old.file.header.fields new.file.header.fields
      format_new = format_then old.file.header.fields mid.file.header.fields new.file.header.fields format_mid written.0.format

      stay_stored : CoversStay mid.file.header.fields (known_in view mid.file) (header after) after
      stay_stored = subst (λ (h : HeaderFields). CoversStay mid.file.header.fields (known_in view mid.file) h after) (sym new_is) (subst (λ (b : Bytes). CoversStay mid.file.header.fields (known_in view mid.file) new.file.header.fields b) clean written.2)

      size_new : (header after).size ≡ size
      size_new = ap (λ (h : HeaderFields). h.size) new_is ∙ size_stays ∙ size_mid

      stands : (m : PreallocateMode) → StopsCreating m size (view_in view old.file) (view_in view new.file) → IsNewDisk m size after → IsPreallocated m size after → KeepsHeaderRest before after → Enlarges m size (view_in view old.file) (view_in view new.file) (Ok tt)
      stands m stops disk_is covers rest = record {
        stays = record { honest = written.0.sound.file.honest; moments = stops };
        new_disk = disk_is;
        covers = covers;
        format = format_stored (header before) (header after) old.file.header.fields new.file.header.fields header_is new_is format_new;
        no_autoclear = λ none. ap (λ (h : HeaderFields). h.autoclear) new_is ∙ written.0.autoclear ∙ autoclear_mid ∙ ap (λ (h : HeaderFields). h.autoclear) (sym header_is) ∙ none;
        reaches = subst ReachesSize (sym new_is) (subst ReachesSize (sym written.1) reaches_mid);
        l1_length = λ _ fits. subst FitsSize (sym new_is) (subst FitsSize (sym written.1) (fits_mid (subst FitsSize header_is fits)));
        rest = rest;
      }

      stands_hidden : is_some old.backing ≡ false → shows_old mode ≡ false → Enlarges mode size (view_in view old.file) (view_in view new.file) (Ok tt)
      stands_hidden alone hides =
          let sound = (takes.sees (in_image [])).answer opened.sound in
          let works = (takes.sees (in_image [])).acts.works opened.sound in
          stands mode (taken_stops alone mode hides works sound.0 new written.0.since) (zeros_new mode size after hides (taken_zeros alone mode hides works sound.0 new written.0.since size_new))
          (covers_then hides after (ap (λ (h : HeaderFields). cluster_size h) (new_is ∙ format_new)) stay_stored) (taken_rest alone mode hides works sound.0 new written.0.since)

      stands_shown : Lasts view old new (size ∷ []) → Enlarges Mode.None size (view_in view old.file) (view_in view new.file) (Ok tt)
      stands_shown lasts =
          let disk_is = grown_unwritten size (view_in view old.file) (view_in view new.file) (known_in view old.file) unwritten opened.clean lasts size_new in
          stands Mode.None (shown_stops new lasts) disk_is (unwritten_covers size after disk_is) (grown_rest size (view_in view old.file) (view_in view new.file) (known_in view old.file) unwritten opened.clean lasts)

  -- ---- in each mode
  -- what a stop leaves while it grows
  pub stops_by : (mode : PreallocateMode) → (shows_old mode ≡ true) ⊎ (is_some old.backing ≡ false) → (r : Result (Unit {0}) ImageError) → AllocatesPlace view backing mode old mid size r → StopsCreating mode size (view_in view old.file) (view_in view mid.file)
  stops_by mode which r takes = by_mode (λ m. StopsCreating m size (view_in view old.file) (view_in view mid.file)) mode
      (λ shows. shown_stops mid (call_since view old mid (size ∷ []) r ((takes.last opened.sound).lasts shows)))
      (λ hides. elim which [
        | inl shows ↦ absurd (let no : true ≡ false = sym shows ∙ hides in cc)
        | inr alone ↦ taking_stops alone mode hides (grows_works view backing old mid size mode r takes.sees opened.sound)
      ])

  -- by the flush's own answer
  pub grown_by : is_some old.backing ≡ false → (mode : PreallocateMode) (x : Unit {0}) → AllocatesPlace view backing mode old mid size (Ok x) → (new : Qcow2 S F) (r : Result (Unit {0}) ImageError) → size_of new ≡ size_of mid → FlushesImage view backing mid new r
      → ((p : Pending) → ImageInvariant view backing (with_listed p mid.file.free_list) mid (in_image []) → WritesBack view backing p mid new r) → Enlarges mode size (view_in view old.file) (view_in view new.file) r
  grown_by alone mode x takes new r stays flushes writes = ends r flushes (writes (beside view backing mid (in_image [])) (subst (λ (p : Pending). ImageInvariant view backing p mid (in_image [])) (all_listed view backing mid (in_image [])) sound))
    where
      sound : (abstract_of view backing mid (in_image [])).is_sound
      sound = ((takes.sees (in_image [])).answer opened.sound).0

      lasts_so : Lasts view mid new [] → shows_old mode ≡ true → Lasts view old new (size ∷ [])
      lasts_so lasts shows = lasts_then view old mid new (size ∷ []) [] ((takes.last opened.sound).lasts shows) lasts

      ends : (s : Result (Unit {0}) ImageError) → FlushesImage view backing mid new s → WritesBack view backing (beside view backing mid (in_image [])) mid new s → Enlarges mode size (view_in view old.file) (view_in view new.file) s
      ends (Ok y) flushes written =
          let p = with_listed (beside view backing mid (in_image [])) new.file.free_list in
          let clean = ((flushes (in_image [])).answer sound).1.0 in
          by_mode (λ m. Enlarges m size (view_in view old.file) (view_in view new.file) (Ok tt)) mode
          (λ shows. stands_shown mode x takes new p written stays clean (lasts_so written.0.since shows))
          (λ hides. stands_hidden mode x takes new p written stays clean alone hides)
      ends (Err e) flushes lasts = by_mode (λ m. StopsCreating m size (view_in view old.file) (view_in view new.file)) mode
          (λ shows. shown_stops new (lasts_so lasts shows)) (λ hides. taken_stops alone mode hides ((takes.sees (in_image [])).acts.works opened.sound) sound new lasts)
