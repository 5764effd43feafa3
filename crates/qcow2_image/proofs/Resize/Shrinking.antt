-- A shrink: steps one after another, and then the size.
use Rattle.std.proofs.Common.{◌≡◌, ◌⊎◌, ◌-◌, ◌^◌, ◌<◌, ◌≤◌, ◌∷◌, ◌==◌, inl, inr, ℕ, Bool, true, false, List, [], refl, sym, ap, ◌∙◌, subst, arith, cond, IsTrue, Option, Some, None, Ok, Err, nat_lt}
use Rattle.qcow2_image.proofs.Common.{IfSome, not, option_or, cases_lt, cond-true, cond-false, eq-eqb, ne_eqb, lt-ltb, pow_pos, BackingView, IsLeftBy, StorageView, EachMomentSince, passes_if, passes_on, byte_at, Value, known_byte, HeaderView, header, cluster_size, rounded_up, with_fields, with_size, AbstractImage, Guest, Setting, guest_of, IsRefusalByFault, IsSame, IsShrinkEnd, IsShrunk, EffectOnSound, with_disk, Disk, shrunk, GivenBytes, IsGiven, works_less, works_then, stops_as, size_stays_in_calls, ImageError, state_in, view_in, HasPinnedMapping, InternalCall, refusal_of, setting_of, Qcow2, Prepared, l1_index_of, IsSameImage, lacks_data_file, is_failed, is_writable, number_of, size_of, ImageInvariant, abstract_of, disk_of, pending_in, MayName, refuse_if, CantDiscard, StopsAt, StopsStep, IsTurnEnd, SetsSize, ShowsBelow, Shrinks, DiscardsNext, DiscardsPart, DiscardsTail, WritesSize, WritesSizeLast, boundary_in, all_given_by_shrink, all_given_by_shrunk, refuses_to_resize, Mappings}
use Rattle.qcow2_alloc.specs.declared.error.ImageError.TheVariants as I
use Rattle.qcow2_alloc.specs.ImageError.{IsFault as IsFaultOfTables}
use Rattle.qcow2_image.proofs.Call.Marked.{MayMark}
use Rattle.qcow2_image.proofs.Call.Called.{Quietly, listed}
use Rattle.qcow2_image.proofs.Call.Refused.{stays_kept}
use Rattle.qcow2_image.proofs.Call.CallOutcomes.{is_fault, outcome}
use Rattle.qcow2_image.proofs.Clear.Touched.{rounded_from}
use Rattle.qcow2_image.proofs.Prepare.UnlinkedL2Table.{may_still}
use Rattle.qcow2_image.proofs.Images.Sizes.{disk_size}
use Rattle.qcow2_image.proofs.Resize.TailSteps.{end_so_far, given_as, given_below, given_is, mono_up, none_below, none_between, shown_below, uncovers_none, uncovers_still, uncovers_then, works_asking}
use Rattle.qcow2_image.proofs.Images.UngivenCovers.{touches_part}
use Rattle.qcow2_image.proofs.Images.Places.{inside_of}

-- ---- refusals
pub fault_of : (e : ImageError) → IsRefusalByFault (refusal_of e) → IsFaultOfTables e
fault_of I.Storage is = inl refl
fault_of I.Memory is = inr refl
fault_of e is = absurd is

pub of_fault : (e : ImageError) → IsFaultOfTables e → IsRefusalByFault (refusal_of e)
of_fault e (inl is) = subst (λ (x : ImageError). IsRefusalByFault (refusal_of x)) (sym is) tt
of_fault e (inr is) = subst (λ (x : ImageError). IsRefusalByFault (refusal_of x)) (sym is) tt

-- one that is no fault marks nothing
pub marks_nothing : (e : ImageError) (before now : Bool) → (IsFaultOfTables e → ⊥) → MayMark e before now → now ≡ before
marks_nothing e before now none marks = elim (outcome e before now marks) [
  | inl failed ↦ absurd (none (inl failed.0))
  | inr rest ↦ elim rest [ inl want ↦ absurd (none (inr want.0)) | inr kept ↦ kept.0 ]
]

module _ {S F : Type 0} (view : S → StorageView) (backing : F → BackingView) where
  -- ---- changes of the direction
  -- from a size on the tail is unmapped up to an offset, in one step if one L2 table covers it
  pub record IsDiscardedSoFar (old now : Qcow2 S F) (size at end : ℕ) : Type 0 where
    pub image : IsSameImage old now
    pub failed : is_failed now ≡ is_failed old
    pub last : end ≡ size_of old
    pub from : size ≤ at
    pub within : at ≤ end
    pub so_far : (out : Mappings) → ImageInvariant view backing (pending_in view backing old out) old out → DiscardsPart view backing size at old now out × IsShrinkEnd (cluster_size old.file.header.fields) (size_of old) size at

  pub begun_call : (old begun : Qcow2 S F) → ((out : Mappings) → ImageInvariant view backing (pending_in view backing old out) old out → Quietly view backing out old begun)
      → (out : Mappings) → ImageInvariant view backing (pending_in view backing old out) old out → InternalCall view backing old begun out
  begun_call old begun quiet out sound = stays_kept view backing out old begun sound (listed view backing out old begun (quiet out) sound)

  pub none_so_far : (old begun : Qcow2 S F) (size end : ℕ) → IsSameImage old begun → is_failed begun ≡ is_failed old → end ≡ size_of old → size < size_of old
      → ((out : Mappings) → ImageInvariant view backing (pending_in view backing old out) old out → Quietly view backing out old begun) → IsDiscardedSoFar old begun size size end
  none_so_far old begun size end image failed last smaller quiet = record {
    image = image;
    failed = failed;
    last = last;
    from = omega arith;
    within = omega (arith, last, smaller);
    so_far = λ out sound. (uncovers_none view backing out size old begun (begun_call old begun quiet out sound), inr (inl refl));
  }

  module _ (old now new : Qcow2 S F) (size at end : ℕ) (so : IsDiscardedSoFar old now size at end) where
    module _ (out : Mappings) (sound : ImageInvariant view backing (pending_in view backing old out) old out) where
      some : 0 < cluster_size old.file.header.fields
      some = pow_pos old.file.header.fields.cluster_bits

      pub same_size : cluster_size now.file.header.fields ≡ cluster_size old.file.header.fields
      same_size = ap (λ (s : Setting). s.cluster_size) (so.so_far out sound).0.works.setting

    pub next_so_far : (next : ℕ) → at < next → next ≤ size_of now → DiscardsNext view backing now new at (Ok next) → IsSameImage now new → is_failed new ≡ is_failed now → IsDiscardedSoFar old new size next end
    next_so_far next on within turn image failed =
        let first = so.image in
        let last = so.last in
        record {
          image = record { number = image.number ∙ first.number; size = image.size ∙ first.size; writable = image.writable ∙ first.writable; lacks = image.lacks ∙ first.lacks; beside = image.beside ∙ first.beside };
          failed = failed ∙ so.failed;
          last = last;
          from = (let from = so.from in omega (arith, from, on));
          within = (let s = first.size in omega (arith, within, s, last));
          so_far = λ out sound.
              let before = so.so_far out sound in
              let then' = turn out before.0.sound in
              let cs = cluster_size old.file.header.fields in
              let ends : IsTurnEnd (cluster_size old.file.header.fields) (size_of old) at next = subst (λ n. IsTurnEnd n (size_of old) at next) (same_size out sound) (subst (λ n. IsTurnEnd (cluster_size now.file.header.fields) n at next) first.size then'.1) in (
                uncovers_then view backing out size at next old now new before.0 then'.0 (mono_up cs (some out sound) size at so.from) (mono_up cs (some out sound) at next (omega (arith, on))),
                end_so_far cs (some out sound) (size_of old) size at next so.from ends,
              );
        }

    module _ (before : at < end) (e : ImageError) (turn : DiscardsNext view backing now new at (Err e)) (out : Mappings) (sound : ImageInvariant view backing (pending_in view backing old out) old out) where
      abbrev v : AbstractImage
      v = abstract_of view backing old out

      abbrev m : AbstractImage
      m = abstract_of view backing now out

      abbrev w : AbstractImage
      w = abstract_of view backing new out

      abbrev start : ℕ
      start = boundary_in old size

      abbrev all : List GivenBytes
      all = given_below (setting_of view backing old) (disk_of view backing out.place old) (boundary_in old size) (boundary_in old (size_of old) - boundary_in old size)

      part : DiscardsPart view backing size at old now out
      part = (so.so_far out sound).0

      boundary_is : (o : ℕ) → boundary_in now o ≡ boundary_in old o
      boundary_is o = ap (λ n. rounded_up n o) (same_size out sound)

      up : boundary_in old size ≤ boundary_in old at
      up = mono_up (cluster_size old.file.header.fields) (some out sound) size at so.from

      up_end : boundary_in old at ≤ boundary_in old (size_of old)
      up_end = mono_up (cluster_size old.file.header.fields) (some out sound) at (size_of old) (let last = so.last in omega (arith, before, last))

      part_less : (o : ℕ) (y : Value) → IsGiven (given_below (setting_of view backing old) (disk_of view backing out.place old) start (boundary_in old at - start)) o y → IsGiven all o y
      part_less o y is =
          let g = given_is (setting_of view backing old) (disk_of view backing out.place old) start (boundary_in old at - start) o y is in
          given_as (setting_of view backing old) (disk_of view backing out.place old) start (boundary_in old (size_of old) - start) o y g.0 (let lt = g.1 in let a = up in let b = up_end in omega (arith, lt, a, b)) g.2

      turn_less : (o : ℕ) (y : Value) → IsGiven (given_below (setting_of view backing now) (disk_of view backing out.place now) (boundary_in now at) (boundary_in now (size_of now) - boundary_in now at)) o y → IsGiven all o y
      turn_less o y is =
          let g = given_is (setting_of view backing now) (disk_of view backing out.place now) (boundary_in now at) (boundary_in now (size_of now) - boundary_in now at) o y is in
          let here = boundary_is at in
          let there = boundary_is (size_of now) ∙ ap (boundary_in old) so.image.size in
          given_as (setting_of view backing old) (disk_of view backing out.place old) start (boundary_in old (size_of old) - start) o y (let a = g.0 in let b = up in omega (arith, a, here, b))
          (let lt = g.1 in let a = up in let b = up_end in omega (arith, lt, here, there, a, b)) (g.2 ∙ ap (λ (s : Setting). known_byte (s.backing o)) part.works.setting)

      fault_works : EffectOnSound v w all []
      fault_works = works_then v m w all [] part.sound (works_less v m (given_below (setting_of view backing old) (disk_of view backing out.place old) start (boundary_in old at - start)) all [] (λ o y is. inr (part_less o y is)) (touches_part (cluster_size old.file.header.fields) _ _ _ _ (omega arith) (let a = up in let b = up_end in omega (arith, a, b))) part.works)
          (works_less m w (given_below (setting_of view backing now) (disk_of view backing out.place now) (boundary_in now at) (boundary_in now (size_of now) - boundary_in now at)) all [] (λ o y is. inr (turn_less o y is)) (touches_part (cluster_size now.file.header.fields) _ _ _ _ (let here = boundary_is at in let b = up in omega (arith, here, b)) (let here = boundary_is at in let there = boundary_is (size_of now) ∙ ap (boundary_in old) so.image.size in let a = up in let b = up_end in omega (arith, here, there, a, b))) ((turn.0 out).acts.works part.sound))

      fault_leaves : (ImageInvariant view backing (pending_in view backing new out) new out × ShowsBelow view backing size at old new out × IsShrinkEnd (cluster_size old.file.header.fields) (size_of old) size at) ⊎ IsTrue (is_failed new)
      fault_leaves = elim ((turn.0 out).answer part.sound) [
        | inl still ↦ inl (still.0, still.1 ∙ part.shows, (so.so_far out sound).1)
        | inr failed ↦ inr failed.1
      ]

      pub tail_refused : (r : Option ImageError) → IfSome r (λ x. (x ≡ e) × IsFaultOfTables x) → (r ≡ None → IsFaultOfTables e → ⊥) → DiscardsTail view backing old new size at r out
      tail_refused (Some x) fault none = (fault_works, fault_leaves)
      tail_refused None fault none =
          let refuses = turn.1 (λ is. none refl (fault_of e is)) out in
          elim (refuses.answer part.sound) [
            | inl still ↦ (
              uncovers_still view backing out size at old now new part (refuses.acts.works part.sound) still.0 still.1,
              (so.so_far out sound).1,
            )
            | inr failed ↦ absurd (none refl (fault_of e failed.0))
          ]

  -- ---- the whole call
  module _ (old mid : Qcow2 S F) (size at : ℕ) (usable : is_failed old ≡ false) (smaller : size < size_of old) where
    abbrev x : Setting
    x = setting_of view backing old

    abbrev cs : ℕ
    cs = cluster_size old.file.header.fields

    abbrev first : ℕ
    first = boundary_in old size

    abbrev Ends : Type 0
    Ends = IsShrinkEnd (cluster_size old.file.header.fields) (size_of old) size at

    large : 0 < cs
    large = pow_pos old.file.header.fields.cluster_bits

    module _ (out : Mappings) (sound : ImageInvariant view backing (pending_in view backing old out) old out) where
      abbrev before : AbstractImage
      before = abstract_of view backing old out

      abbrev d : Disk
      d = disk_of view backing out.place old

      shown : size_of old ≡ d.size
      shown = disk_size view backing old out sound

      -- how much was unmapped, by the returned offset
      told : Ends → cond (at == d.size) (rounded_up cs at) at - rounded_up cs size ≡ rounded_up cs at - rounded_up cs size
      told (inl last) = ap (λ n. n - rounded_up cs size) (cond-true (at == d.size) (rounded_up cs at) at (eq-eqb at d.size (last ∙ shown)))
      told (inr (inl none)) =
          let other = cond-false (at == d.size) (rounded_up cs at) at (ne_eqb at d.size (λ e. (let s = shown in absurd (omega (arith, e, s, none, smaller))))) in
          let up = rounded_from cs size large in
          let same = ap (rounded_up cs) none in
          omega (arith, other, up, same, none)
      told (inr (inr between)) =
          let before_end = between.2 in
          let other = cond-false (at == d.size) (rounded_up cs at) at (ne_eqb at d.size (λ e. (let s = shown in absurd (omega (arith, e, s, before_end))))) in
          let whole = between.0 in
          omega (arith, other, whole)

      at_most : Ends → at ≤ size_of old
      at_most (inl last) = omega (arith, last)
      at_most (inr (inl none)) = omega (arith, none, smaller)
      at_most (inr (inr between)) = let lt = between.2 in omega (arith, lt)

      at_least : Ends → size ≤ at
      at_least (inl last) = omega (arith, last, smaller)
      at_least (inr (inl none)) = omega (arith, none)
      at_least (inr (inr between)) = let lt = between.1 in let up = rounded_from cs size large in omega (arith, lt, up)

      -- all that it may give
      all_is : given_below x d first (boundary_in old (size_of old) - first) ≡ all_given_by_shrink view backing out.place old size
      all_is = ap (λ n. given_below x d first (rounded_up cs n - first)) shown

      part_all : Ends → (m : AbstractImage) (asked : List ℕ) → EffectOnSound before m (given_below x d first (boundary_in old at - first)) [] → EffectOnSound before m (all_given_by_shrink view backing out.place old size) asked
      part_all ends m asked works =
          let most = mono_up cs large at (size_of old) (at_most ends) in
          let least = mono_up cs large size at (at_least ends) in
          works_asking before m (all_given_by_shrink view backing out.place old size) asked
          (subst (λ gs. EffectOnSound before m gs []) all_is
          (works_less before m (given_below x d first (boundary_in old at - first)) (given_below x d first (boundary_in old (size_of old) - first)) []
          (λ o y is. let g = given_is x d first (boundary_in old at - first) o y is in inr (given_as x d first (boundary_in old (size_of old) - first) o y g.0 (let lt = g.1 in omega (arith, lt, most, least)) g.2)) (touches_part cs _ _ _ _ (omega arith) (omega (arith, most, least))) works))

      -- it was done
      module _ (new : Qcow2 S F) (part : DiscardsPart view backing size at old mid out) (ends : Ends) (sets : SetsSize view backing size mid new out) where
        done_works : EffectOnSound before (abstract_of view backing new out) (all_given_by_shrunk view backing out.place old size at) (size ∷ [])
        done_works =
            let m = abstract_of view backing mid out in
            let w = abstract_of view backing new out in
            let gs = all_given_by_shrunk view backing out.place old size at in
            works_then before m w gs (size ∷ []) part.sound
            (works_asking before m gs (size ∷ []) (subst (λ n. EffectOnSound before m (given_below x d first n) []) (sym (told ends)) part.works))
            (works_less m w [] gs (size ∷ []) (λ o y never. absurd never) (λ g u. tt) sets.works)

        now_shown : guest_of (abstract_of view backing new out) ≡ with_disk (guest_of before) (shrunk cs d x.backing size at)
        now_shown =
            sets.shows
            ∙ ap (λ (g : Guest). with_disk g (record (disk_of view backing out.place mid) { size = size })) part.shows
            ∙ ap (λ (g : Guest). with_disk (guest_of before) (record g.disk { size = size })) part.shows
            ∙ ap (λ n. with_disk (guest_of before) (record (shown_below x d first n) { size = size })) (sym (told ends))

        is_shrunk : IsShrunk x d size at (shrunk cs d x.backing size at)
        is_shrunk = let s = shown in record { no_smaller = λ le. absurd (omega (arith, le, s, smaller)); smaller = λ lt. (subst (λ n. IsShrinkEnd cs n size at) s ends, refl) }

    pub shrinks_done : (new : Qcow2 S F) → number_of new ≡ number_of old → ((out : Mappings) → ImageInvariant view backing (pending_in view backing old out) old out → DiscardsTail view backing old mid size at None out)
        → ((out : Mappings) → ImageInvariant view backing (pending_in view backing mid out) mid out → SetsSize view backing size mid new out) → Shrinks view backing old new size (Ok at)
    shrinks_done new number tail sets out = record {
      acts = record {
        number = number;
        works = λ sound. let t = tail out sound in done_works out sound new t.0 t.1 (sets out t.0.sound);
        rests = λ failed. absurd (let no : true ≡ false = sym failed ∙ usable in cc);
      };
      answer = λ sound. let t = tail out sound in let s = sets out t.0.sound in (s.sound, (shrunk cs (disk_of view backing out.place old) x.backing size at, is_shrunk out sound new t.0 t.1 s, now_shown out sound new t.0 t.1 s));
    }

    -- ---- it was refused
    module _ (new : Qcow2 S F) (e : ImageError) (marked : Bool) (number : number_of new ≡ number_of old) (fault : IsFaultOfTables e) (marks : MayMark e (is_failed new) marked) (changed : (out : Mappings) → ImageInvariant view backing (pending_in view backing old out) old out → nat_lt (rounded_up cs size) at ≡ true → marked ≡ true) where
      abbrev final : Qcow2 S F
      final = record new { is_failed = marked }

      -- what it left: the tail unmapped so far; or the image failed
      abbrev pub Left : Mappings → Type 0
      Left out =
          (EffectOnSound (abstract_of view backing old out) (abstract_of view backing new out) (all_given_by_shrink view backing out.place old size) (size ∷ [])
          × (ImageInvariant view backing (pending_in view backing new out) new out × ShowsBelow view backing size at old new out × Ends))
          ⊎ (IsTrue marked × EffectOnSound (abstract_of view backing old out) (abstract_of view backing (record new { is_failed = true }) out) (all_given_by_shrink view backing out.place old size) (size ∷ []))

      left_works : (out : Mappings) → Left out → EffectOnSound (abstract_of view backing old out) (abstract_of view backing final out) (all_given_by_shrink view backing out.place old size) (size ∷ [])
      left_works out (inl (works, still)) = record {
        setting = works.setting;
        surplus = λ now. works.surplus still.0;
        beside = λ now. works.beside still.0;
        leaks = works.leaks;
        stops = λ m starts. stops_as (abstract_of view backing old out) (abstract_of view backing new out) (abstract_of view backing old out) (abstract_of view backing final out) (all_given_by_shrink view backing out.place old size) (size ∷ []) refl refl refl (λ now. (still.0, refl)) m (works.stops m starts);
      }
      left_works out (inr (so, works)) = subst (λ (f : Bool). EffectOnSound (abstract_of view backing old out) (abstract_of view backing (record new { is_failed = f }) out) (all_given_by_shrink view backing out.place old size) (size ∷ [])) (sym so) works

      -- where nothing was unmapped, all is as it was
      unmarked : (out : Mappings) → ImageInvariant view backing (pending_in view backing old out) old out → ImageInvariant view backing (pending_in view backing new out) new out × ShowsBelow view backing size at old new out × Ends → (f : Bool) → marked ≡ f
          → ((abstract_of view backing final out).is_sound × IsSame (abstract_of view backing old out) (abstract_of view backing final out)) ⊎ (IsRefusalByFault (refusal_of e) × IsTrue marked)
      unmarked out sound still true is = inr (of_fault e fault, is)
      unmarked out sound still false is =
          let same : new ≡ record new { is_failed = marked } = ap (λ (f : Bool). record new { is_failed = f }) (still.0.works ∙ sym is) in
          let low : at ≤ rounded_up cs size = elim (cases_lt (rounded_up cs size) at) [ inl lt ↦ absurd (let yes = changed out sound (lt-ltb (rounded_up cs size) at lt) in let no : true ≡ false = sym yes ∙ is in cc) | inr le ↦ le ] in
          let none = none_between cs large size at low in
          inl (
            subst (λ (i : Qcow2 S F). ImageInvariant view backing (pending_in view backing i out) i out) same still.0,
            subst (λ (i : Qcow2 S F). IsSame (abstract_of view backing old out) (abstract_of view backing i out)) same
                (still.1 ∙ ap (λ e. with_disk (guest_of (abstract_of view backing old out)) e) (none_below x (disk_of view backing out.place old) first (boundary_in old at - first) (omega (arith, none)))),
          )

      left_answer : (out : Mappings) → ImageInvariant view backing (pending_in view backing old out) old out → Left out → ((abstract_of view backing final out).is_sound × IsSame (abstract_of view backing old out) (abstract_of view backing final out)) ⊎ (IsRefusalByFault (refusal_of e) × IsTrue marked)
      left_answer out sound (inl (works, still)) = unmarked out sound still marked refl
      left_answer out sound (inr (so, works)) = inr (of_fault e fault, so)

      pub shrinks_refused : ((out : Mappings) → ImageInvariant view backing (pending_in view backing old out) old out → Left out) → Shrinks view backing old final size (Err e)
      shrinks_refused left out = record {
        acts = record { number = number; works = λ sound. left_works out (left out sound); rests = λ failed. absurd (let no : true ≡ false = sym failed ∙ usable in cc) };
        answer = λ sound. left_answer out sound (left out sound);
        fault = is_fault e (is_failed new) marked (outcome e (is_failed new) marked marks);
      }

      still_marked : is_failed new ≡ true → IsTrue marked
      still_marked was = elim (outcome e (is_failed new) marked marks) [
        | inl failed ↦ failed.1
        | inr rest ↦ elim rest [ inl want ↦ want.1 | inr kept ↦ kept.0 ∙ was ]
      ]

    -- a step was refused by a fault
    module _ (e : ImageError) (marked : Bool) (number : number_of mid ≡ number_of old) (fault : IsFaultOfTables e) (marks : MayMark e (is_failed mid) marked) (changed : (out : Mappings) → ImageInvariant view backing (pending_in view backing old out) old out → nat_lt (rounded_up cs size) at ≡ true → marked ≡ true)
        (tail : (out : Mappings) → ImageInvariant view backing (pending_in view backing old out) old out → DiscardsTail view backing old mid size at (Some e) out) where
      tail_left : (out : Mappings) → ImageInvariant view backing (pending_in view backing old out) old out → Left mid e marked number fault marks changed out
      tail_left out sound =
          let t = tail out sound in
          let v = abstract_of view backing old out in
          let works = works_asking v (abstract_of view backing mid out) (all_given_by_shrink view backing out.place old size) (size ∷ []) (subst (λ gs. EffectOnSound v (abstract_of view backing mid out) gs []) (all_is out sound) t.0) in
          elim t.1 [
            | inl still ↦ inl (works, still)
            | inr failed ↦ inr (
              still_marked mid e marked number fault marks changed failed,
              subst (λ (f : Bool). EffectOnSound v (abstract_of view backing (record mid { is_failed = f }) out) (all_given_by_shrink view backing out.place old size) (size ∷ [])) failed works,
            )
          ]

      pub shrinks_stopped : Shrinks view backing old (record mid { is_failed = marked }) size (Err e)
      shrinks_stopped = shrinks_refused mid e marked number fault marks changed tail_left

    -- the size was refused
    module _ (new : Qcow2 S F) (e : ImageError) (marked : Bool) (number : number_of new ≡ number_of old) (fault : IsFaultOfTables e) (marks : MayMark e (is_failed new) marked) (changed : (out : Mappings) → ImageInvariant view backing (pending_in view backing old out) old out → nat_lt (rounded_up cs size) at ≡ true → marked ≡ true)
        (tail : (out : Mappings) → ImageInvariant view backing (pending_in view backing old out) old out → DiscardsTail view backing old mid size at None out)
        (writes : (out : Mappings) → ImageInvariant view backing (pending_in view backing mid out) mid out → WritesSize view backing mid new out size (Err e)) where
      size_left : (out : Mappings) → ImageInvariant view backing (pending_in view backing old out) old out → Left new e marked number fault marks changed out
      size_left out sound =
          let t = tail out sound in
          let m = abstract_of view backing mid out in
          elim (writes out t.0.sound) [
            | inl stays ↦
                let part = uncovers_still view backing out size at old mid new t.0 stays.works stays.sound stays.same in
                inl (part_all out sound t.1 (abstract_of view backing new out) (size ∷ []) part.works, (part.sound, part.shows, t.1))
            | inr stands ↦ inr (
              is_fault e (is_failed new) marked (outcome e (is_failed new) marked marks) (ap refusal_of stands.fault),
              works_then (abstract_of view backing old out) m (abstract_of view backing (record new { is_failed = true }) out) (all_given_by_shrink view backing out.place old size) (size ∷ []) t.0.sound (part_all out sound t.1 m (size ∷ []) t.0.works)
                  (works_less m (abstract_of view backing (record new { is_failed = true }) out) [] (all_given_by_shrink view backing out.place old size) (size ∷ []) (λ o y never. absurd never) (λ g u. tt) stands.works),
            )
          ]

      pub shrinks_unwritten : Shrinks view backing old (record new { is_failed = marked }) size (Err e)
      shrinks_unwritten = shrinks_refused new e marked number fault marks changed size_left

  -- ---- the moments
  tail_works : (old mid : Qcow2 S F) (size at : ℕ) (r : Option ImageError) (out : Mappings) → DiscardsTail view backing old mid size at r out → (gs : List GivenBytes) × EffectOnSound (abstract_of view backing old out) (abstract_of view backing mid out) gs []
  tail_works old mid size at None out tail = (_, tail.0.works)
  tail_works old mid size at (Some e) out tail = (_, tail.0)

  pub uncovered_honest : (old mid : Qcow2 S F) (size at : ℕ) (out : Mappings) → DiscardsTail view backing old mid size at None out → (view_in view mid.file).is_honest
  uncovered_honest old mid size at out tail = tail.0.sound.file.honest

  pub size_is_last : (old mid new : Qcow2 S F) (size at : ℕ) (r : Option ImageError) → ((out : Mappings) → ImageInvariant view backing (pending_in view backing old out) old out → DiscardsTail view backing old mid size at r out)
      → EachMomentSince (view_in view mid.file) (view_in view new.file) (IsLeftBy (view_in view new.file)) → (out : Mappings) → ImageInvariant view backing (pending_in view backing old out) old out → WritesSizeLast view backing old new
  size_is_last old mid new size at r tail time out sound =
      let works = tail_works old mid size at r out (tail out sound) in
      passes_on (λ c. ((header (byte_at c)).size ≡ size_of old) ⊎ (c ≡ (view_in view new.file).contents))
      (passes_if (λ c. ((header (byte_at c)).size ≡ size_of old) ⊎ (c ≡ (view_in view new.file).contents)) (λ c is. inl is)
      (size_stays_in_calls (state_in view old.file (pending_in view backing old out)) (abstract_of view backing old out) (abstract_of view backing mid out) works.0 sound.file.caches.kept.kept.crash_invariant (inside_of sound) refl refl works.1))
      time (λ c is. inr is)

-- ---- why it stops early
-- nothing refuses another size still
resizes_still : {S F : Type 0} (a b : Qcow2 S F) → IsSameImage a b → is_failed b ≡ is_failed a → refuses_to_resize a ≡ None → refuses_to_resize b ≡ None
resizes_still a b image failed none =
    subst (λ f. option_or (option_or (refuse_if f I.Failed) (refuse_if (lacks_data_file b) I.Dependency)) (refuse_if (not (is_writable b)) I.ReadOnly) ≡ None) (sym failed)
    (subst (λ f. option_or (option_or (refuse_if (is_failed a) I.Failed) (refuse_if f I.Dependency)) (refuse_if (not (is_writable b)) I.ReadOnly) ≡ None) (sym image.lacks)
    (subst (λ f. option_or (option_or (refuse_if (is_failed a) I.Failed) (refuse_if (lacks_data_file a) I.Dependency)) (refuse_if (not f) I.ReadOnly) ≡ None) (sym image.writable) none))

module _ {S F : Type 0} (view : S → StorageView) (backing : F → BackingView) (out : Mappings) where
  pub tail_stops : (old now new : Qcow2 S F) (size at end : ℕ) → IsDiscardedSoFar view backing old now size at end → (e : ImageError)
      → (refuses_to_resize now ≡ None → ImageInvariant view backing (pending_in view backing now out) now out → (HasPinnedMapping out → ⊥) → StopsStep view backing at now new out e)
      → refuses_to_resize old ≡ None → ImageInvariant view backing (pending_in view backing old out) old out → (HasPinnedMapping out → ⊥) → (IsFaultOfTables e → ⊥) → StopsAt view backing size at old new out
  tail_stops old now new size at end so e stops none sound unprepared no_fault =
      let so_far = (so.so_far out sound).0 in
      elim (stops (resizes_still old now so.image so.failed none) so_far.sound unprepared) [
        | inl fault ↦ absurd (no_fault fault)
        | inr cant ↦ record { cant = subst (λ n. CantDiscard view n new at) so.image.size cant.0; before = now; unmapped = so_far; refused = cant.1 }
      ]

  -- the size is written afterwards
  pub written_stops : (end at size : ℕ) (mid new : Qcow2 S F) → ImageInvariant view backing (pending_in view backing mid out) mid out → ImageInvariant view backing (pending_in view backing new out) new out → new.l1_table ≡ mid.l1_table
      → new.file.header ≡ with_fields mid.file.header (with_size mid.file.header.fields size) → CantDiscard view end mid at → CantDiscard view end new at
  written_stops end at size mid new sound sound' table header cant =
      let cs : cluster_size new.file.header.fields ≡ cluster_size mid.file.header.fields = ap (λ (h : HeaderView). cluster_size h.fields) header in
      elim cant [
        | inl past ↦ inl (subst (λ n. 2 ^ 64 ≤ rounded_up n end) (sym cs) past)
        | inr lacks ↦ inr (subst (λ (h : HeaderView). MayName view new (l1_index_of h.fields (rounded_up (cluster_size h.fields) at))) (sym header)
            (may_still view backing out (pending_in view backing mid out) (pending_in view backing new out) mid new sound sound' table (l1_index_of mid.file.header.fields (boundary_in mid at)) lacks))
      ]
