-- One step unmaps whole clusters up to the end of an L2 table, or is refused.
use Rattle.std.proofs.Common.{◌≡◌, ◌⊎◌, ◌+◌, ◌-◌, ◌^◌, ◌<◌, ◌≤◌, ◌||◌, ◌&&◌, ◌==◌, inl, inr, refl, Bool, true, false, None, ℕ, List, [], sym, ap, ◌∙◌, subst, arith, min, Option, Some, Result, Ok, Err, nat_le, nat_lt}
use Rattle.qcow2_image.proofs.Common.{IfSome, not, option_or, cases_lt, le-ltb, leb-true, pow_pos, BackingView, StorageView, Value, HeaderFields, cluster_size, entries_per_cluster, rounded_up, AbstractImage, Setting, guest_of, Refusal, RefusedEffect, EffectOnSound, with_disk, Disk, answered, touched_from, touched_to, GivenBytes, IsGiven, works_less, TouchesLess, Sizes-from, ImageError, contents_in, known_in, HasPinnedMapping, refusal_of, Clears, ClearsImageCovers, ClearsSoundly, FailsToClear, RefusesUngiven, IsFault, from_in, refuses_to_clear, to_in, rounds_past, setting_of, Qcow2, Prepared, HasNothingToFree, lacks_data_file, is_failed, is_writable, size_of, ImageInvariant, abstract_of, disk_of, pending_in, LacksTable, passes, refuse_if, RefusesDiscard, StopsStep, IsTurnEnd, DiscardsNext, DiscardsPart, boundary_in, refuses_to_resize, Mappings}
use Rattle.qcow2_alloc.specs.declared.error.ImageError.TheVariants as I
use Rattle.qcow2_image.specs.declared.discarding.ClearMode.TheVariants.{Uncovered}
use Rattle.qcow2_image.proofs.Lemmas.{disk_size, given_as, given_below, given_is, mono_up, shown_below, to_at_most, touches_before, turn_numbers, uncovers_as_many, touches_less, under_prepared}
use Rattle.qcow2_image.specs.declared.mapping.Place.{Place}

-- a call that gives fewer bytes gives these too
pub refuses_giving : (v w : AbstractImage) (gs more : List GivenBytes) (e : Refusal) (still : Type 0) → (v.is_sound → (o : ℕ) (x : Value) → IsGiven gs o x → IsGiven more o x) → (v.is_sound → TouchesLess v.setting.cluster_size gs more) → RefusedEffect v w gs [] e still → RefusedEffect v w more [] e still
refuses_giving v w gs more e still within touches r = record {
  acts = record { number = r.acts.number; works = λ sound. works_less v w gs more [] (λ o x is. inr (within sound o x is)) (touches sound) (r.acts.works sound); rests = r.acts.rests };
  answer = r.answer;
  fault = r.fault;
}

-- ---- what refuses a step at once
past_of : (a b c : Bool) → a || b && c ≡ true → (a ≡ true) ⊎ (c ≡ true)
past_of true b c is = inl refl
past_of false true c is = inr is
past_of false false c is = absurd (cc)

rounds_if : (a b c d f : Bool) → option_or (option_or (refuse_if a I.Failed) (refuse_if b I.Dependency)) (refuse_if c I.ReadOnly) ≡ None → d ≡ false → f ≡ false
    → option_or (option_or (refuse_if a I.Failed) (refuse_if b I.Dependency)) (option_or (refuse_if c I.ReadOnly) (option_or (refuse_if d I.BeyondSize) (option_or None (refuse_if f I.Overflow)))) ≡ None
rounds_if false false false false false none far near = refl
rounds_if a b c d f none far near = absurd cc

within_end : (a : Bool) (size n : ℕ) → n ≡ size → a && nat_lt size n ≡ false
within_end false size n is = refl
within_end true size n is = le-ltb size n (omega (arith, is))

-- what is answered isn't refused at once
pub none_early : {B : Type 0} (P : Type 0) (o : Option ImageError) (b : B) (r : Result B ImageError) → IfSome o (λ e. (r ≡ Err e) × P) → r ≡ Ok b → o ≡ None
none_early P None b r early was = refl
none_early P (Some e) b r early was = absurd (let no : Ok b ≡ Err e = sym was ∙ early.0 in cc)

module _ {S F : Type 0} (view : S → StorageView) (backing : F → BackingView) (old new : Qcow2 S F) (at end : ℕ) where
  abbrev h : HeaderFields
  h = old.file.header.fields

  abbrev x : Setting
  x = setting_of view backing old

  abbrev d : Place → Disk
  d place = disk_of view backing place old

  module _ (out : Mappings) (sound : ImageInvariant view backing (pending_in view backing old out) old out) where
    some : 0 < cluster_size h
    some = pow_pos h.cluster_bits

    rows : 0 < entries_per_cluster h
    rows = (Sizes-from h (contents_in view old.file) sound.file.caches.kept.kept.crash_invariant.top.header_reads).entries

    shown_end : size_of old ≡ (d out.place).size
    shown_end = disk_size view backing old out sound

  pub turn_done : (range : ℕ × ℕ) → end ≡ size_of old → at < size_of old → end < 2 ^ 64 → Clears view backing Uncovered old new at (end - at) (Ok range) → (next : ℕ)
      → ((next ≡ min (range.0 + range.1) (2 ^ 64 - 1)) × (at < next) × (next < end)) ⊎ ((next ≡ end) × ((min (range.0 + range.1) (2 ^ 64 - 1) ≤ at) ⊎ (end ≤ min (range.0 + range.1) (2 ^ 64 - 1))))
      → (out : Mappings) → ImageInvariant view backing (pending_in view backing old out) old out
      → ClearsImageCovers Uncovered (touched_from (cluster_size h) at) (touched_to (cluster_size h) (size_of old) at (end - at)) old.file.header.fields (known_in view old.file) new.file.header.fields (known_in view new.file)
      → DiscardsPart view backing at next old new out × IsTurnEnd (cluster_size old.file.header.fields) (size_of old) at next
  turn_done range is lt near clears next branch out sound covers =
      let v = abstract_of view backing old out in
      let does = clears out in
      let answer = does.answer sound in
      let size : (d out.place).size ≡ end = sym (shown_end out sound) ∙ sym is in
      let range_is : range ≡ answered (cluster_size h) end at (end - at) = answer.1.0 ∙ ap (λ n. answered (cluster_size h) n at (end - at)) size in
      let numbers = turn_numbers h (some out sound) (rows out sound) end at (omega (arith, lt, is)) range range_is near next branch in
      let count : touched_to (cluster_size h) (d out.place).size at (end - at) - rounded_up (cluster_size h) at ≡ boundary_in old next - boundary_in old at = ap (λ n. touched_to (cluster_size h) n at (end - at) - rounded_up (cluster_size h) at) size ∙ numbers.1 in (
        record {
          works = subst (λ n. EffectOnSound v (abstract_of view backing new out) (given_below x (d out.place) (rounded_up (cluster_size h) at) n) []) count (does.acts.works sound);
          sound = answer.0;
          shows = answer.1.1 ∙ ap (λ n. with_disk (guest_of v) (shown_below x (d out.place) (rounded_up (cluster_size h) at) n)) count;
          covers = uncovers_as_many (boundary_in old at) (touched_to (cluster_size h) (size_of old) at (end - at)) (boundary_in old next) old.file.header.fields new.file.header.fields (known_in view old.file) (known_in view new.file)
              (ap (λ n. touched_to (cluster_size h) n at (end - at) - rounded_up (cluster_size h) at) (sym is) ∙ numbers.1) covers;
        },
        subst (λ n. IsTurnEnd (cluster_size h) n at next) is numbers.0,
      )

  pub turn_refused : (e : ImageError) → end ≡ size_of old → at < size_of old → Clears view backing Uncovered old new at (end - at) (Err e) → RefusesUngiven view backing old new e → DiscardsNext view backing old new at (Err e)
  turn_refused e is lt clears ungiven = (
    (λ out.
        let v = abstract_of view backing old out in
        let from = rounded_up (cluster_size h) at in
        refuses_giving v (abstract_of view backing new out) (given_below x (d out.place) from (touched_to (cluster_size h) (d out.place).size at (end - at) - from)) (given_below x (d out.place) from (boundary_in old (size_of old) - from)) (refusal_of e) _
        (λ sound o w given.
        let size : (d out.place).size ≡ end = sym (shown_end out sound) ∙ sym is in
        let g = given_is x (d out.place) from (touched_to (cluster_size h) (d out.place).size at (end - at) - from) o w given in
        let most = to_at_most h (some out sound) (rows out sound) end at (omega (arith, lt, is)) in
        let same = ap (λ n. touched_to (cluster_size h) n at (end - at)) size in
        let last = ap (rounded_up (cluster_size h)) is in
        given_as x (d out.place) from (boundary_in old (size_of old) - from) o w g.0 (let b = g.1 in omega (arith, b, most, same, last)) g.2)
        (λ sound.
        let size : (d out.place).size ≡ end = sym (shown_end out sound) ∙ sym is in
        let most = to_at_most h (some out sound) (rows out sound) end at (omega (arith, lt, is)) in
        let same = ap (λ n. touched_to (cluster_size h) n at (end - at)) size in
        let last = ap (rounded_up (cluster_size h)) is in
        touches_less (cluster_size h) _ _ _ _ (omega arith) (λ some. omega (arith, some, most, same, last)))
        (clears out)),
    ungiven,
  )

  -- why a step is refused, where nothing refuses a resize and no mapping is prepared
  pub turn_stops : (e : ImageError) → end ≡ size_of old → at < size_of old → refuses_to_resize old ≡ None → ClearsSoundly view backing Uncovered old new at (end - at) (Err e) → FailsToClear view backing Uncovered old new at (end - at) (Err e)
      → (out : Mappings) → ImageInvariant view backing (pending_in view backing old out) old out → (HasPinnedMapping out → ⊥) → StopsStep view backing at old new out e
  turn_stops e is lt none clears fails out sound unprepared = by_case (rounds_past (cluster_size old.file.header.fields) (size_of old) at (end - at)) refl
    where
      whole : at + (end - at) ≡ size_of old
      whole = omega (arith, is, lt)

      same_size : cluster_size new.file.header.fields ≡ cluster_size old.file.header.fields
      same_size = ap (λ (s : Setting). s.cluster_size) ((clears.sees out).acts.works sound).setting

      long : (nat_le (2 ^ 64) (rounded_up (cluster_size old.file.header.fields) at) ≡ true) ⊎ (nat_le (2 ^ 64) (rounded_up (cluster_size old.file.header.fields) (at + (end - at))) ≡ true) → 2 ^ 64 ≤ boundary_in old (size_of old)
      long (inl past) = let le = leb-true (2 ^ 64) (boundary_in old at) past in let up = mono_up (cluster_size old.file.header.fields) (some out sound) at (size_of old) (omega (arith, lt)) in omega (arith, le, up)
      long (inr past) = subst (λ k. 2 ^ 64 ≤ boundary_in old k) whole (leb-true (2 ^ 64) (boundary_in old (at + (end - at))) past)

      -- a step that has nothing to clear isn't refused
      touches : refuses_to_clear old at (end - at) Uncovered ≡ None → from_in old at (end - at) < to_in old at (end - at)
      touches may = elim (cases_lt (from_in old at (end - at)) (to_in old at (end - at))) [ inl lt ↦ lt | inr least ↦ absurd (let no : (◌≡◌ {A = Result (ℕ × ℕ) ImageError} (Err e) (Ok (from_in old at (end - at), 0))) = (clears.nothing may least).0 in cc) ]

      why : refuses_to_clear old at (end - at) Uncovered ≡ None → IsFault e ⊎ RefusesDiscard view backing old at out
      why may = elim (fails.refused.may_fail may out sound) [
        | inl alone ↦ elim alone [
          | inl usual ↦ elim usual [ inl fault ↦ inl fault | inr limit ↦ inr (inr (inl (fails.limit may (touches may) out sound limit))) ]
          | inr other ↦ elim other [ inl compressed ↦ absurd compressed.1 | inr far ↦ inr (inr (inr far.1)) ]
        ]
        | inr prepared ↦ absurd (unprepared (elim prepared [ inl used ↦ used.1 | inr taken ↦ under_prepared h (from_in old at (end - at)) out taken.1 ]))
      ]

      by_case : (f : Bool) → rounds_past (cluster_size old.file.header.fields) (size_of old) at (end - at) ≡ f → StopsStep view backing at old new out e
      by_case true past =
          let far = long (past_of (nat_le (2 ^ 64) (boundary_in old at)) (at + (end - at) == size_of old) (nat_le (2 ^ 64) (boundary_in old (at + (end - at)))) past) in
          inr (inl (subst (λ k. 2 ^ 64 ≤ rounded_up k (size_of old)) (sym same_size) far), inl far)
      by_case false near =
          let may = rounds_if (is_failed old) (lacks_data_file old) (not (is_writable old)) (passes (size_of old) at (end - at)) (rounds_past (cluster_size old.file.header.fields) (size_of old) at (end - at)) none (within_end (nat_lt 0 (end - at)) (size_of old) (at + (end - at)) whole) near in
          elim (fails.refused.lacks may out sound unprepared) [
            | inl fault ↦ inl fault
            | inr lacks ↦ elim (why may) [
              | inl fault ↦ inl fault
              | inr refused ↦ inr (inr (subst (λ k. LacksTable view new (rounded_up k at)) (sym same_size) lacks), refused)
            ]
          ]

  -- a step before whose end a cluster begins touches one
  pub turn_touches : end ≡ size_of old → at < size_of old → (out : Mappings) → ImageInvariant view backing (pending_in view backing old out) old out → boundary_in old at < size_of old
      → touched_from (cluster_size h) at < touched_to (cluster_size h) (size_of old) at (end - at)
  turn_touches is lt out sound before = subst (λ n. rounded_up (cluster_size h) at < touched_to (cluster_size h) (size_of old) at (n - at)) (sym is) (touches_before h (some out sound) (rows out sound) (size_of old) at lt before)

  -- what a successful step leaves to be freed: nothing, if it cleared a cluster, or if nothing was listed before
  pub turn_frees : end ≡ size_of old → at < size_of old → (touched_from (cluster_size h) at < touched_to (cluster_size h) (size_of old) at (end - at) → HasNothingToFree new)
      → (touched_to (cluster_size h) (size_of old) at (end - at) ≤ touched_from (cluster_size h) at → new ≡ old) → (out : Mappings) → ImageInvariant view backing (pending_in view backing old out) old out
      → (boundary_in old at < size_of old) ⊎ HasNothingToFree old → HasNothingToFree new
  turn_frees is lt clears nothing out sound (inl before) = clears (turn_touches is lt out sound before)
  turn_frees is lt clears nothing out sound (inr none) = elim (cases_lt (touched_from (cluster_size h) at) (touched_to (cluster_size h) (size_of old) at (end - at))) [
    | inl touched ↦ clears touched
    | inr least ↦ subst (λ (i : Qcow2 S F). HasNothingToFree i) (sym (nothing least)) none
  ]

  -- a successful step, as a whole
  pub turn_answered : (range : ℕ × ℕ) → end ≡ size_of old → at < size_of old → end < 2 ^ 64 → Clears view backing Uncovered old new at (end - at) (Ok range)
      → ((out : Mappings) → ImageInvariant view backing (pending_in view backing old out) old out
      → ClearsImageCovers Uncovered (touched_from (cluster_size h) at) (touched_to (cluster_size h) (size_of old) at (end - at)) old.file.header.fields (known_in view old.file) new.file.header.fields (known_in view new.file))
      → (next : ℕ)
      → ((next ≡ min (range.0 + range.1) (2 ^ 64 - 1)) × (at < next) × (next < end)) ⊎ ((next ≡ end) × ((min (range.0 + range.1) (2 ^ 64 - 1) ≤ at) ⊎ (end ≤ min (range.0 + range.1) (2 ^ 64 - 1)))) → DiscardsNext view backing old new at (Ok next)
  turn_answered range is lt near clears covers next branch = λ out sound. turn_done range is lt near clears next branch out sound (covers out sound)
