-- A growth: a longer L1 table, which guests don't see, then zeros past the end as the mode asks, and then the size.
use Rattle.std.proofs.Common.{◌≡◌, ◌⊎◌, ◌-◌, ◌<◌, ◌∷◌, inl, inr, ℕ, Bool, true, false, List, [], refl, sym, ap, ◌∙◌, subst, arith, IfErr, IsTrue, Option, Result, Ok, Err}
use Rattle.qcow2_image.proofs.Common.{cond-false, lt-leb, BackingView, StorageView, EachMomentSince, IsLeftBy, PreallocateMode, passes_if, passes_on, byte_at, HeaderFields, entry_count, cluster_size, header, with_size, Guest, Setting, guest_of, IsRefusalByFault, IsSame, MayGrow, RefusedEffect, EffectOnSound, given_by_grow, with_disk, Disk, GivenBytes, works_less, works_then, stops_as, size_stays_in_calls, ImageError, state_in, view_in, RefusedCall, InternalCall, refusal_of, setting_of, file_sizes, Qcow2, Prepared, l1_index_of, ReachesSize, is_failed, number_of, size_of, has_noted_change, ImageInvariant, abstract_of, disk_of, pending_in, FillsGrown, RefusedGrown, filled_to, all_given_by_growing, GrowsTo, RefusesUnchanged, SetsSize, WritesSize, WritesSizeLast, all_given_by_grow, Mappings}
use Rattle.qcow2_alloc.specs.declared.error.ImageError.TheVariants as I
use Rattle.qcow2_alloc.specs.ImageError.{IsFault as IsFaultOfTables}
use Rattle.qcow2_image.proofs.Lemmas.{MayMark, MayMarkBy, refused_then, refuses_left, is_fault, outcome, reaches_so, disk_size, of_fault, works_asking}
use Rattle.qcow2_image.proofs.Images.Places.{inside_of}
use Rattle.qcow2_image.specs.declared.mapping.Place.{Place}

-- after a part that no guest sees, what is given past the end is the same
pub given_growing : {S F : Type 0} (view : S → StorageView) (backing : F → BackingView) (out : Mappings) (old mid : Qcow2 S F) (size : ℕ) (mode : PreallocateMode) → InternalCall view backing old mid out
    → all_given_by_growing view backing out.place mid size mode ≡ all_given_by_grow view backing out.place old size mode
given_growing view backing out old mid size mode call =
    ap (λ s. given_by_grow s (disk_of view backing out.place mid) size mode) call.works.setting ∙ ap (λ (g : Guest). given_by_grow (setting_of view backing old) g.disk size mode) call.same

module _ {S F : Type 0} (view : S → StorageView) (backing : F → BackingView) (old : Qcow2 S F) (size : ℕ) (mode : PreallocateMode) (usable : is_failed old ≡ false) (larger : size_of old < size) where
  abbrev given_bytes : Place → List GivenBytes
  given_bytes place = all_given_by_grow view backing place old size mode

  -- what a refused call shows
  abbrev May : Qcow2 S F → Mappings → Type 0
  May new out = let v = abstract_of view backing old out in (d : Disk) × MayGrow v.setting (guest_of v).disk size mode d × (guest_of (abstract_of view backing new out) ≡ with_disk (guest_of v) d)

  -- what gives nothing and leaves the guest what it saw
  pub grows_same : (new : Qcow2 S F) (e : ImageError) (out : Mappings) → let v = abstract_of view backing old out in let w = abstract_of view backing new out in
      RefusedEffect v w [] [] (refusal_of e) (IsSame v w) → RefusedEffect v w (given_bytes out.place) (size ∷ []) (refusal_of e) (May new out)
  grows_same new e out r =
      let v = abstract_of view backing old out in
      let w = abstract_of view backing new out in
      record {
        acts = record { number = r.acts.number; works = λ sound. works_asking v w (given_bytes out.place) (size ∷ []) (works_less v w [] (given_bytes out.place) [] (λ o x never. absurd never) (λ g u. tt) (r.acts.works sound)); rests = r.acts.rests };
        answer = λ sound. elim (r.answer sound) [
          | inl still ↦ inl (still.0, ((guest_of v).disk, record { same_size = refl; values = λ o. inl refl }, still.1))
          | inr failed ↦ inr failed
        ];
        fault = r.fault;
      }

  -- ---- the L1 table was refused
  module _ (begun mid : Qcow2 S F) (e : ImageError) (marked : Bool) (first : (out : Mappings) → ImageInvariant view backing (pending_in view backing old out) old out → InternalCall view backing old begun out)
      (left : (out : Mappings) → ImageInvariant view backing (pending_in view backing begun out) begun out → RefusedCall view backing begun mid out e) where
    pub unchanged_not : number_of mid ≡ number_of old → MayMark e (is_failed mid) marked → (e ≡ I.Memory → IsTrue (has_noted_change mid) → IsTrue marked) → (out : Mappings) → RefusesUnchanged view backing old (record mid { is_failed = marked }) out e
    unchanged_not number marks memory out =
        refuses_left view backing out old usable mid marked number e marks memory (λ sound. let call = first out sound in refused_then view backing out old begun mid call e (left out call.sound))

    pub grows_not : number_of mid ≡ number_of old → MayMark e (is_failed mid) marked → (e ≡ I.Memory → IsTrue (has_noted_change mid) → IsTrue marked) → GrowsTo view backing old (record mid { is_failed = marked }) size mode (Err e)
    grows_not number marks memory out = grows_same (record mid { is_failed = marked }) e out (unchanged_not number marks memory out)

    pub last_not : (out : Mappings) → ImageInvariant view backing (pending_in view backing old out) old out → WritesSizeLast view backing old (record mid { is_failed = marked })
    last_not out sound =
        let v = abstract_of view backing old out in
        let crash_invariant = sound.file.caches.kept.kept.crash_invariant in
        let s = state_in view old.file (pending_in view backing old out) in
        let call = first out sound in
        elim (refused_then view backing out old begun mid call e (left out call.sound)) [
          | inl stays ↦ passes_if (λ c. ((header (byte_at c)).size ≡ size_of old) ⊎ (c ≡ (view_in view mid.file).contents)) (λ c is. inl is) (size_stays_in_calls s v (abstract_of view backing mid out) [] crash_invariant (inside_of sound) refl refl stays.works)
          | inr interrupted ↦ passes_if (λ c. ((header (byte_at c)).size ≡ size_of old) ⊎ (c ≡ (view_in view mid.file).contents)) (λ c is. inl is) (size_stays_in_calls s v (abstract_of view backing (record mid { is_failed = true }) out) [] crash_invariant (inside_of sound) refl refl interrupted.works)
        ]

  -- ---- the L1 table was made, and zeros were put past the end
  module _ (mid : Qcow2 S F) (longer : (out : Mappings) → ImageInvariant view backing (pending_in view backing old out) old out → InternalCall view backing old mid out) where
    module _ (out : Mappings) (call : InternalCall view backing old mid out) where
      setting_is : setting_of view backing mid ≡ setting_of view backing old
      setting_is = call.works.setting

      disk_is : disk_of view backing out.place mid ≡ disk_of view backing out.place old
      disk_is = ap (λ (g : Guest). g.disk) call.same

      behind : (new : Qcow2 S F) → EffectOnSound (abstract_of view backing mid out) (abstract_of view backing new out) (all_given_by_growing view backing out.place mid size mode) [] → EffectOnSound (abstract_of view backing old out) (abstract_of view backing new out) (given_bytes out.place) []
      behind new works =
          let v = abstract_of view backing old out in
          let m = abstract_of view backing mid out in
          works_then v m (abstract_of view backing new out) (given_bytes out.place) [] call.sound (works_less v m [] (given_bytes out.place) [] (λ o x never. absurd never) (λ g u. tt) call.works) (subst (λ gs. EffectOnSound m (abstract_of view backing new out) gs []) (given_growing view backing out old mid size mode call) works)

      may_be : (d : Disk) → MayGrow (setting_of view backing mid) (disk_of view backing out.place mid) size mode d → MayGrow (setting_of view backing old) (disk_of view backing out.place old) size mode d
      may_be d may = subst (λ e. MayGrow (setting_of view backing old) e size mode d) disk_is (subst (λ s. MayGrow s (disk_of view backing out.place mid) size mode d) setting_is may)

      shown_behind : (new : Qcow2 S F) → FillsGrown view backing size mode mid new out → guest_of (abstract_of view backing new out) ≡ with_disk (guest_of (abstract_of view backing old out)) (filled_to (cluster_size old.file.header.fields) (disk_of view backing out.place old) size mode)
      shown_behind new fills =
          fills.shows
          ∙ ap (λ (g : Guest). with_disk g (filled_to (cluster_size mid.file.header.fields) (disk_of view backing out.place mid) size mode)) call.same
          ∙ ap (λ (s : Setting). with_disk (guest_of (abstract_of view backing old out)) (filled_to s.cluster_size (disk_of view backing out.place mid) size mode)) setting_is
          ∙ ap (λ d. with_disk (guest_of (abstract_of view backing old out)) (filled_to (cluster_size old.file.header.fields) d size mode)) disk_is

    -- that was refused
    module _ (filled : Qcow2 S F) (e : ImageError) (marked : Bool) (marks : MayMark e (is_failed filled) marked) (fault : IsFaultOfTables e → IsTrue marked)
        (left : (out : Mappings) → ImageInvariant view backing (pending_in view backing mid out) mid out → RefusedGrown view backing size mode mid filled out e) where
      abbrev final : Qcow2 S F
      final = record filled { is_failed = marked }

      flagged : (out : Mappings) → ImageInvariant view backing (pending_in view backing filled out) filled out → EffectOnSound (abstract_of view backing old out) (abstract_of view backing filled out) (given_bytes out.place) []
          → EffectOnSound (abstract_of view backing old out) (abstract_of view backing final out) (given_bytes out.place) []
      flagged out sound works = record {
        setting = works.setting;
        surplus = λ now. works.surplus sound;
        beside = λ now. works.beside sound;
        leaks = works.leaks;
        stops = λ m starts. stops_as (abstract_of view backing old out) (abstract_of view backing filled out) (abstract_of view backing old out) (abstract_of view backing final out) (given_bytes out.place) [] refl refl refl (λ now. (sound, refl)) m (works.stops m starts);
      }

      part_works : (out : Mappings) → ImageInvariant view backing (pending_in view backing old out) old out → EffectOnSound (abstract_of view backing old out) (abstract_of view backing final out) (given_bytes out.place) []
      part_works out sound =
          let call = longer out sound in
          elim (left out call.sound).left [
            | inl part ↦ flagged out part.sound (behind out call filled part.works)
            | inr interruption ↦ subst (λ (f : Bool). EffectOnSound (abstract_of view backing old out) (abstract_of view backing (record filled { is_failed = f }) out) (given_bytes out.place) []) (sym (fault interruption.fault)) (behind out call (record filled { is_failed = true }) interruption.works)
          ]

      part_answer : (out : Mappings) → ImageInvariant view backing (pending_in view backing old out) old out → ((abstract_of view backing final out).is_sound × May final out) ⊎ (IsRefusalByFault (refusal_of e) × IsTrue marked)
      part_answer out sound =
          let call = longer out sound in
          elim (left out call.sound).left [
            | inr interruption ↦ inr (of_fault e interruption.fault, fault interruption.fault)
            | inl part ↦ elim (outcome e (is_failed filled) marked marks) [
              | inl failed ↦ inr (of_fault e (inl failed.0), failed.1)
              | inr rest ↦ elim rest [
                | inl want ↦ inr (of_fault e (inr want.0), want.1)
                | inr kept ↦
                    let same : filled ≡ record filled { is_failed = marked } = ap (λ (f : Bool). record filled { is_failed = f }) (sym kept.0) in
                    inl (
                      subst (λ (i : Qcow2 S F). ImageInvariant view backing (pending_in view backing i out) i out) same part.sound,
                      subst (λ (i : Qcow2 S F). May i out) same (part.now, may_be out call part.now part.may, part.shows ∙ ap (λ (g : Guest). with_disk g part.now) call.same),
                    )
              ]
            ]
          ]

      pub grows_in_part : number_of filled ≡ number_of old → GrowsTo view backing old final size mode (Err e)
      grows_in_part number out = record {
        acts = record {
          number = number;
          works = λ sound. works_asking (abstract_of view backing old out) (abstract_of view backing final out) (given_bytes out.place) (size ∷ []) (part_works out sound);
          rests = λ failed. absurd (let no : true ≡ false = sym failed ∙ usable in cc);
        };
        answer = part_answer out;
        fault = is_fault e (is_failed filled) marked (outcome e (is_failed filled) marked marks);
      }

      pub last_in_part : (out : Mappings) → ImageInvariant view backing (pending_in view backing old out) old out → WritesSizeLast view backing old final
      last_in_part out sound =
          passes_if (λ c. ((header (byte_at c)).size ≡ size_of old) ⊎ (c ≡ (view_in view filled.file).contents)) (λ c is. inl is)
          (size_stays_in_calls (state_in view old.file (pending_in view backing old out)) (abstract_of view backing old out) (abstract_of view backing final out) (given_bytes out.place) sound.file.caches.kept.kept.crash_invariant (inside_of sound) refl refl (part_works out sound))

    -- it was done, and the size was written or refused
    module _ (filled : Qcow2 S F) (fills : (out : Mappings) → ImageInvariant view backing (pending_in view backing mid out) mid out → FillsGrown view backing size mode mid filled out) where
      fills_works : (out : Mappings) → ImageInvariant view backing (pending_in view backing old out) old out → EffectOnSound (abstract_of view backing old out) (abstract_of view backing filled out) (given_bytes out.place) []
      fills_works out sound = let call = longer out sound in behind out call filled (fills out call.sound).works

      fills_sound : (out : Mappings) → ImageInvariant view backing (pending_in view backing old out) old out → ImageInvariant view backing (pending_in view backing filled out) filled out
      fills_sound out sound = (fills out (longer out sound).sound).sound

      module _ (new : Qcow2 S F) (number : number_of new ≡ number_of old) where
        done : (marked : Bool) → marked ≡ is_failed new → ((out : Mappings) → ImageInvariant view backing (pending_in view backing filled out) filled out → SetsSize view backing size filled new out)
            → GrowsTo view backing old (record new { is_failed = marked }) size mode (Ok tt)
        done marked same sets = subst (λ (f : Bool). GrowsTo view backing old (record new { is_failed = f }) size mode (Ok tt)) (sym same) (λ out.
            let v = abstract_of view backing old out in
            let l = abstract_of view backing filled out in
            let w = abstract_of view backing new out in
            record {
              acts = record {
                number = number;
                works = λ sound. works_then v l w (given_bytes out.place) (size ∷ []) (fills_sound out sound) (works_asking v l (given_bytes out.place) (size ∷ []) (fills_works out sound)) (works_less l w [] (given_bytes out.place) (size ∷ []) (λ o x never. absurd never) (λ g u. tt) (sets out (fills_sound out sound)).works);
                rests = λ failed. absurd (let no : true ≡ false = sym failed ∙ usable in cc);
              };
              answer = λ sound.
                  let call = longer out sound in
                  let set = sets out (fills_sound out sound) in
                  let shown = disk_size view backing old out sound in
                  let d = disk_of view backing out.place old in
                  let e = filled_to (cluster_size old.file.header.fields) d size mode in (
                    set.sound,
                    (set.shows ∙ ap (λ (g : Guest). with_disk g (record g.disk { size = size })) (shown_behind out call filled (fills out call.sound))
                        ∙ ap (λ f. with_disk (guest_of v) f) (sym (cond-false _ d (record e { size = size }) (lt-leb size d.size (omega (arith, shown, larger)))))),
                  );
            })

        undone : (e : ImageError) (marked : Bool) → IsFaultOfTables e → IsTrue marked → ((out : Mappings) → ImageInvariant view backing (pending_in view backing filled out) filled out → WritesSize view backing filled new out size (Err e))
            → GrowsTo view backing old (record new { is_failed = marked }) size mode (Err e)
        undone e marked fault so writes out = record {
          acts = record { number = number; works = left; rests = λ failed. absurd (let no : true ≡ false = sym failed ∙ usable in cc) };
          answer = λ sound. inr (of_fault e fault, so);
          fault = λ is. so;
        }
          where
            left : ImageInvariant view backing (pending_in view backing old out) old out → EffectOnSound (abstract_of view backing old out) (abstract_of view backing (record new { is_failed = marked }) out) (given_bytes out.place) (size ∷ [])
            left sound =
                let v = abstract_of view backing old out in
                let l = abstract_of view backing filled out in
                let w = abstract_of view backing new out in
                let first = works_asking v l (given_bytes out.place) (size ∷ []) (fills_works out sound) in
                elim (writes out (fills_sound out sound)) [
                  | inl stays ↦
                      let works = works_then v l w (given_bytes out.place) (size ∷ []) (fills_sound out sound) first (works_asking l w (given_bytes out.place) (size ∷ []) (works_less l w [] (given_bytes out.place) [] (λ o x never. absurd never) (λ g u. tt) stays.works)) in
                      record {
                        setting = works.setting;
                        surplus = λ now. works.surplus stays.sound;
                        beside = λ now. works.beside stays.sound;
                        leaks = works.leaks;
                        stops = λ k starts. stops_as v w v (abstract_of view backing (record new { is_failed = marked }) out) (given_bytes out.place) (size ∷ []) refl refl refl (λ now. (stays.sound, refl)) k (works.stops k starts);
                      }
                  | inr stands ↦
                      subst (λ (b : Bool). EffectOnSound v (abstract_of view backing (record new { is_failed = b }) out) (given_bytes out.place) (size ∷ [])) (sym so)
                      (works_then v l (abstract_of view backing (record new { is_failed = true }) out) (given_bytes out.place) (size ∷ []) (fills_sound out sound) first (works_less l (abstract_of view backing (record new { is_failed = true }) out) [] (given_bytes out.place) (size ∷ []) (λ o x never. absurd never) (λ g u. tt) stands.works))
                ]

        pub grows_sized : (r : Result (Unit {0}) ImageError) (marked : Bool) → MayMarkBy r (is_failed new) marked → IfErr r IsFaultOfTables → IfErr r (λ e. IsFaultOfTables e → IsTrue marked)
            → ((out : Mappings) → ImageInvariant view backing (pending_in view backing filled out) filled out → WritesSize view backing filled new out size r) → GrowsTo view backing old (record new { is_failed = marked }) size mode r
        grows_sized (Ok x) marked marks cause fault writes = done marked marks writes
        grows_sized (Err e) marked marks cause fault writes = undone e marked cause (fault cause) writes

        pub last_sized : (marked : Bool) → ((view_in view filled.file).is_honest → EachMomentSince (view_in view filled.file) (view_in view new.file) (IsLeftBy (view_in view new.file))) → (out : Mappings) → ImageInvariant view backing (pending_in view backing old out) old out
            → WritesSizeLast view backing old (record new { is_failed = marked })
        last_sized marked time out sound =
            passes_on (λ c. ((header (byte_at c)).size ≡ size_of old) ⊎ (c ≡ (view_in view new.file).contents))
            (passes_if (λ c. ((header (byte_at c)).size ≡ size_of old) ⊎ (c ≡ (view_in view new.file).contents)) (λ c is. inl is)
            (size_stays_in_calls (state_in view old.file (pending_in view backing old out)) (abstract_of view backing old out) (abstract_of view backing filled out) (given_bytes out.place) sound.file.caches.kept.kept.crash_invariant (inside_of sound) refl refl (fills_works out sound)))
            (time (fills_sound out sound).file.honest) (λ c is. inr is)

-- the L1 table has an entry for the last byte
module _ {S F : Type 0} (view : S → StorageView) (backing : F → BackingView) (out : Mappings) where
  pub reaches_lengthened : (begun mid : Qcow2 S F) (size : ℕ) → InternalCall view backing begun mid out → l1_index_of begun.file.header.fields (size - 1) < entry_count mid.l1_table → ReachesSize (with_size mid.file.header.fields size)
  reaches_lengthened begun mid size call lt =
      let h = mid.file.header.fields in
      let same : l1_index_of begun.file.header.fields (size - 1) ≡ l1_index_of mid.file.header.fields (size - 1) = sym (ap (λ (x : HeaderFields). l1_index_of x (size - 1)) call.header) in
      let count = call.sound.l1_table.count in
      reaches_so h size (l1_index_of h (size - 1)) (file_sizes view (pending_in view backing mid out) mid.file call.sound.file) refl (omega (arith, lt, same, count))
