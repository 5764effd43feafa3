-- The tail of a disk is unmapped step by step: where the steps end, and one part after another.
use Rattle.std.proofs.Common.{◌≡◌, ◌⊎◌, ◌+◌, ◌-◌, ◌*◌, ◌/◌, ◌%◌, ◌^◌, ◌<◌, ◌≤◌, ◌∷◌, ◌==◌, if◌then◌else◌, inl, inr, ℕ, List, [], refl, sym, ap, ◌∙◌, subst, arith, cond, min, Option, nat_lt}
use Rattle.qcow2_image.proofs.Common.{cases_lt, cond-true, cond-false, eq-eqb, lt-ltb, le-ltb, div-add-mod', mod-mul-add, mod_below, fun_ext, BackingView, StorageView, Bytes, Value, known_byte, HeaderFields, cluster_size, entries_per_cluster, rounded_up, rounded_down, AbstractImage, Guest, Setting, guest_of, IsShrinkEnd, EffectOnSound, with_disk, Disk, with_values, answered, touched_to, Checkpoint, GivenBytes, IsGiven, StopOkEverywhere, checkpoint_with, works_less, works_then, stops_less, laid_inside, laid_outside, div_mono, known_in, InternalCall, Qcow2, Prepared, ClearsImageCovers, setting_of, ImageInvariant, abstract_of, disk_of, pending_in, IsTurnEnd, DiscardsPart, boundary_in, Mappings}
use Rattle.qcow2_disk.proofs.Stops.{asked_more}
use Rattle.qcow2_image.specs.declared.discarding.ClearMode.TheVariants.{Uncovered}
use Rattle.qcow2_image.proofs.Clear.ClearCalls.{covers_after}
use Rattle.qcow2_image.proofs.Clear.Ranges.{to_whole}
use Rattle.qcow2_image.proofs.Clear.Touched.{on_boundary, rounded_from}
use Rattle.qcow2_image.proofs.Resize.DiscardedTails.{uncovers_more, uncovers_no_cluster}
use Rattle.qcow2_image.proofs.Images.UngivenCovers.{none_given, touches_part}

-- ---- boundaries
module _ (cs : ℕ) (some : 0 < cs) where
  whole_up : (x : ℕ) → rounded_up cs x % cs ≡ 0
  whole_up x = let k = (x + cs - 1) / cs in let e : k * cs ≡ k * cs + 0 = omega arith in ap (λ n. n % cs) e ∙ mod-mul-add k cs 0 some

  pub least_up : (x m : ℕ) → x ≤ m → m % cs ≡ 0 → rounded_up cs x ≤ m
  least_up x m le whole =
      let j = (x + cs - 1) / cs in
      let k = (m + cs - 1) / cs in
      let up : j ≤ k = div_mono (x + cs - 1) (m + cs - 1) cs some (omega (arith, le)) in
      let e : k * cs ≡ (j + (k - j)) * cs = ap (λ n. n * cs) (let s : k ≡ j + (k - j) = omega (arith, up) in s) in
      let r : (j + (k - j)) * cs ≡ j * cs + (k - j) * cs = omega arith in
      let same = on_boundary cs m some whole in
      omega (arith, e, r, same)

  pub mono_up : (x y : ℕ) → x ≤ y → rounded_up cs x ≤ rounded_up cs y
  mono_up x y le = let up = rounded_from cs y some in least_up x (rounded_up cs y) (omega (arith, up, le)) (whole_up y)

  -- nothing lies between a size and an end that is no later than its boundary
  pub none_between : (size end : ℕ) → end ≤ rounded_up cs size → rounded_up cs end ≤ rounded_up cs size
  none_between size end le = least_up end (rounded_up cs size) le (whole_up size)

-- ---- what a step touches
module _ (cs : ℕ) (some : 0 < cs) (end at : ℕ) (lt : at < end) where
  pub touched_is : touched_to cs end at (end - at) ≡ min (rounded_up cs end) (rounded_down (cs / 8 * cs) (rounded_up cs at) + cs / 8 * cs)
  touched_is =
      let e : at + (end - at) ≡ end = omega (arith, lt) in
      ap (λ k. min (if k == end then rounded_up cs k else rounded_down cs k) (rounded_down (cs / 8 * cs) (rounded_up cs at) + cs / 8 * cs)) e
      ∙ ap (λ b. min (if b then rounded_up cs end else rounded_down cs end) (rounded_down (cs / 8 * cs) (rounded_up cs at) + cs / 8 * cs)) (eq-eqb end end refl)

  pub touched_before : rounded_up cs at < touched_to cs end at (end - at) → rounded_up cs at < end
  touched_before touched = elim (cases_lt (rounded_up cs at) end) [
    | inl is ↦ is
    | inr past ↦ absurd (let least = least_up cs some end (rounded_up cs at) past (whole_up cs some at) in let is = touched_is in omega (arith, least, is, touched))
  ]

-- ---- where a step ends
module _ (h : HeaderFields) (some : 0 < cluster_size h) (rows : 0 < entries_per_cluster h) (end at : ℕ) (lt : at < end) where
  abbrev cs : ℕ
  cs = cluster_size h

  abbrev table : ℕ
  table = cluster_size h / 8 * cluster_size h

  abbrev from : ℕ
  from = rounded_up (cluster_size h) at

  abbrev to : ℕ
  to = touched_to (cluster_size h) end at (end - at)

  to_is : touched_to (cluster_size h) end at (end - at) ≡ min (rounded_up (cluster_size h) end) (rounded_down table (rounded_up (cluster_size h) at) + table)
  to_is = touched_is (cluster_size h) some end at lt

  some_table : 0 < table
  some_table =
      let e : entries_per_cluster h ≡ 1 + (entries_per_cluster h - 1) = omega (arith, rows) in
      let m : entries_per_cluster h * cluster_size h ≡ (1 + (entries_per_cluster h - 1)) * cluster_size h = ap (λ x. x * cluster_size h) e in
      let r : (1 + (entries_per_cluster h - 1)) * cluster_size h ≡ cluster_size h + (entries_per_cluster h - 1) * cluster_size h = omega arith in
      omega (arith, m, r, some)

  past_table : from < rounded_down table from + table
  past_table =
      let is : from / table * table + from % table ≡ from = div-add-mod' from table in
      let below = mod_below from table some_table in
      omega (arith, is, below)

  -- a whole cluster before the end is touched
  pub touches_before : from < end → from < to
  touches_before before = let is = to_is in let past = past_table in let up = rounded_from (cluster_size h) end some in omega (arith, is, past, up, before)

  pub to_at_most : to ≤ rounded_up (cluster_size h) end
  to_at_most = let is = to_is in omega (arith, is)

  -- where clusters were touched
  module _ (range : ℕ × ℕ) (is : range ≡ answered (cluster_size h) end at (end - at)) (near : end < 2 ^ 64) (next : ℕ)
      (branch : ((next ≡ min (range.0 + range.1) (2 ^ 64 - 1)) × (at < next) × (next < end)) ⊎ ((next ≡ end) × ((min (range.0 + range.1) (2 ^ 64 - 1) ≤ at) ⊎ (end ≤ min (range.0 + range.1) (2 ^ 64 - 1))))) where
    first_is : range.0 ≡ from
    first_is = ap (λ (r : ℕ × ℕ). r.0) is

    abbrev last : ℕ
    last = min (range.0 + range.1) (2 ^ 64 - 1)

    many_is : range.1 ≡ cond (nat_lt from to) (min to (at + (end - at)) - from) 0
    many_is = ap (λ (r : ℕ × ℕ). r.1) is

    whole : to % cluster_size h ≡ 0
    whole = to_whole h some rows end at (end - at)

    -- some were
    module _ (touched : from < to) where
      before_end : from < end
      before_end = touched_before (cluster_size h) some end at lt touched

      last_is : last ≡ min to end
      last_is =
          let many = many_is ∙ cond-true (nat_lt from to) (min to (at + (end - at)) - from) 0 (lt-ltb from to touched) in
          let first = first_is in
          let before = before_end in
          omega (arith, many, first, before, touched, near, lt)

      some_numbers : IsTurnEnd (cluster_size h) end at next × (to - from ≡ rounded_up (cluster_size h) next - from)
      some_numbers = elim branch [
        | inl inside ↦
            let l = last_is in
            let n : next ≡ to = let e = inside.0 in let b = inside.2 in omega (arith, e, l, b) in
            let same : rounded_up (cluster_size h) next ≡ next = on_boundary (cluster_size h) next some (ap (λ k. k % cluster_size h) n ∙ whole) in
            (record { on = inside.1; within = (let b = inside.2 in omega (arith, b)); whole = inr (same, (omega (arith, n, touched))) }, (omega (arith, n, same)))
        | inr at_end ↦
            let l = last_is in
            let before = before_end in
            let up = rounded_from (cluster_size h) at some in
            let late : end ≤ to = elim at_end.1 [ inl low ↦ absurd (omega (arith, low, l, before, touched, up)) | inr is ↦ omega (arith, is, l) ] in
            let least = least_up (cluster_size h) some end to late whole in
            let most = to_at_most in
            let n = at_end.0 in
            let e : to ≡ rounded_up (cluster_size h) end = omega (arith, least, most) in
            (record { on = omega (arith, n, lt); within = omega (arith, n); whole = inl n }, ap (λ k. k - from) (e ∙ ap (rounded_up (cluster_size h)) (sym n)))
      ]

    -- none was
    module _ (none : to ≤ from) where
      no_more : rounded_up (cluster_size h) end ≤ from
      no_more = let is' = to_is in let past = past_table in omega (arith, is', past, none)

      none_numbers : IsTurnEnd (cluster_size h) end at next × (to - from ≡ rounded_up (cluster_size h) next - from)
      none_numbers =
          let many = many_is ∙ cond-false (nat_lt from to) (min to (at + (end - at)) - from) 0 (le-ltb from to none) in
          let first = first_is in
          let up = rounded_from (cluster_size h) end some in
          let no = no_more in
          let n : next ≡ end = elim branch [ inl inside ↦ absurd (let e = inside.0 in let b = inside.2 in omega (arith, e, b, many, first, up, no, near)) | inr at_end ↦ at_end.0 ] in
          let r = ap (rounded_up (cluster_size h)) n in
          (record { on = omega (arith, n, lt); within = omega (arith, n); whole = inl n }, (omega (arith, r, no, none)))

    pub turn_numbers : IsTurnEnd (cluster_size h) end at next × (to - from ≡ rounded_up (cluster_size h) next - from)
    turn_numbers = elim (cases_lt from to) [ inl touched ↦ some_numbers touched | inr none ↦ none_numbers none ]

-- ---- several steps
pub end_so_far : (cs : ℕ) (some : 0 < cs) (end size at next : ℕ) → size ≤ at → IsTurnEnd cs end at next → IsShrinkEnd cs end size next
end_so_far cs some end size at next le is = elim is.whole [
  | inl last ↦ inl last
  | inr whole ↦ elim (cases_lt next end) [
    | inl before ↦ let up = mono_up cs some size at le in inr (inr (whole.0, (let past = whole.1 in omega (arith, up, past)), before))
    | inr past ↦ inl (let within = is.within in omega (arith, within, past))
  ]
]

-- ---- a range shows the disk below
abbrev pub shown_below : Setting → Disk → (from n : ℕ) → Disk
shown_below x d from n = with_values d from n (λ i. known_byte (x.backing (from + i)))

abbrev pub given_below : Setting → Disk → (from n : ℕ) → List GivenBytes
given_below x d from n = record { from = from; count = n; value = λ i. (shown_below x d from n).value (from + i) } ∷ []

module _ (x : Setting) (d : Disk) (from n : ℕ) where
  below_inside : (o : ℕ) → from ≤ o → o < from + n → (shown_below x d from n).value o ≡ known_byte (x.backing o)
  below_inside o le lt =
      let here : from + (o - from) ≡ o = omega (arith, le) in
      subst (λ k. (shown_below x d from n).value k ≡ known_byte (x.backing k)) here (laid_inside from n (λ i. known_byte (x.backing (from + i))) d.value (o - from) (omega (arith, le, lt)))

  below_outside : (o : ℕ) → (o < from) ⊎ (from + n ≤ o) → (shown_below x d from n).value o ≡ d.value o
  below_outside o out = laid_outside from n (λ i. known_byte (x.backing (from + i))) d.value o out

  pub given_is : (o : ℕ) (w : Value) → IsGiven (given_below x d from n) o w → (from ≤ o) × (o < from + n) × (w ≡ known_byte (x.backing o))
  given_is o w (inl is) =
      let here : from + (o - from) ≡ o = let le = is.0 in omega (arith, le) in
      (is.0, is.1, is.2 ∙ ap (λ k. (shown_below x d from n).value k) here ∙ below_inside o is.0 is.1)
  given_is o w (inr never) = absurd never

  pub given_as : (o : ℕ) (w : Value) → from ≤ o → o < from + n → w ≡ known_byte (x.backing o) → IsGiven (given_below x d from n) o w
  given_as o w le lt is =
      let here : from + (o - from) ≡ o = omega (arith, le) in
      inl (le, lt, is ∙ sym (below_inside o le lt) ∙ ap (λ k. (shown_below x d from n).value k) (sym here))

same_value : (d : Disk) (f : ℕ → Value) → ((o : ℕ) → f o ≡ d.value o) → record d { value = f } ≡ d
same_value d f same = ap (λ g. record d { value = g }) (fun_ext same)

-- of no clusters nothing does
pub none_below : (x : Setting) (d : Disk) (from n : ℕ) → n ≡ 0 → shown_below x d from n ≡ d
none_below x d from n none = same_value d (shown_below x d from n).value (λ o. below_outside x d from n o (elim (cases_lt o from) [ inl lt ↦ inl lt | inr le ↦ inr (omega (arith, le, none)) ]))

-- two adjacent ranges are one
pub both_below : (x : Setting) (d : Disk) (from n more : ℕ) → shown_below x (shown_below x d from n) (from + n) more ≡ shown_below x d from (n + more)
both_below x d from n more = ap (λ g. record d { value = g }) (fun_ext value)
  where
    value : (o : ℕ) → (shown_below x (shown_below x d from n) (from + n) more).value o ≡ (shown_below x d from (n + more)).value o
    value o = elim (cases_lt o from) [
      | inl before ↦ below_outside x (shown_below x d from n) (from + n) more o (inl (omega (arith, before))) ∙ below_outside x d from n o (inl before) ∙ sym (below_outside x d from (n + more) o (inl before))
      | inr le ↦ elim (cases_lt o (from + n)) [
        | inl first ↦ below_outside x (shown_below x d from n) (from + n) more o (inl first) ∙ below_inside x d from n o le first ∙ sym (below_inside x d from (n + more) o le (omega (arith, first)))
        | inr past ↦ elim (cases_lt o (from + n + more)) [
          | inl second ↦ below_inside x (shown_below x d from n) (from + n) more o past second ∙ sym (below_inside x d from (n + more) o le (omega (arith, second)))
          | inr all ↦ below_outside x (shown_below x d from n) (from + n) more o (inr all) ∙ below_outside x d from n o (inr past) ∙ sym (below_outside x d from (n + more) o (inr (omega (arith, all))))
        ]
      ]
    ]

-- a call that asks for no size asks for this one too
pub works_asking : (old new : AbstractImage) (gs : List GivenBytes) (asked : List ℕ) → EffectOnSound old new gs [] → EffectOnSound old new gs asked
works_asking old new gs asked w = record {
  setting = w.setting;
  surplus = w.surplus;
  beside = w.beside;
  leaks = w.leaks;
  stops = λ m starts. stops_less old new gs gs [] asked m (more m) (w.stops m starts);
}
  where
    more : (m : Checkpoint) (b : Bytes) → StopOkEverywhere old.setting.backing (checkpoint_with gs [] m) b → StopOkEverywhere old.setting.backing (checkpoint_with gs asked m) b
    more m b k = record { consistent = k.consistent; rest = k.rest; size = elim k.size [ inl e ↦ inl e | inr a ↦ inr (asked_more asked m.asked _ a) ]; values = k.values }

-- ---- parts
module _ {S F : Type 0} (view : S → StorageView) (backing : F → BackingView) (out : Mappings) where
  -- nothing is unmapped yet
  pub uncovers_none : (size : ℕ) (old new : Qcow2 S F) → InternalCall view backing old new out → DiscardsPart view backing size size old new out
  uncovers_none size old new call =
      let v = abstract_of view backing old out in
      let none : boundary_in old size - boundary_in old size ≡ 0 = omega arith in
      record {
        works = works_less v (abstract_of view backing new out) [] (given_below (setting_of view backing old) (disk_of view backing out.place old) (boundary_in old size) (boundary_in old size - boundary_in old size)) [] (λ o w never. absurd never) (λ g u. tt) call.works;
        sound = call.sound;
        shows = call.same ∙ ap (λ d. with_disk (guest_of v) d) (sym (none_below (setting_of view backing old) (disk_of view backing out.place old) (boundary_in old size) (boundary_in old size - boundary_in old size) none));
        covers = uncovers_no_cluster (boundary_in old size) (boundary_in old size) old.file.header.fields new.file.header.fields (known_in view old.file) (known_in view new.file) (omega arith) call.covers;
      }

  -- a part that no guest sees comes after it
  pub uncovers_still : (size at : ℕ) (old mid new : Qcow2 S F) → DiscardsPart view backing size at old mid out → EffectOnSound (abstract_of view backing mid out) (abstract_of view backing new out) [] [] → ImageInvariant view backing (pending_in view backing new out) new out
      → guest_of (abstract_of view backing new out) ≡ guest_of (abstract_of view backing mid out) → DiscardsPart view backing size at old new out
  uncovers_still size at old mid new part works sound same =
      let m = abstract_of view backing mid out in
      let w = abstract_of view backing new out in
      let gs = given_below (setting_of view backing old) (disk_of view backing out.place old) (boundary_in old size) (boundary_in old at - boundary_in old size) in
      record {
        works = works_then (abstract_of view backing old out) m w gs [] part.sound part.works (works_less m w [] gs [] (λ o x never. absurd never) (λ g u. tt) works);
        sound = sound;
        shows = same ∙ part.shows;
        covers = covers_after Uncovered (boundary_in old size) (boundary_in old at) old.file.header.fields mid.file.header.fields new.file.header.fields (known_in view old.file) (known_in view mid.file) (known_in view new.file) part.covers
            (none_given view mid.file new.file (pending_in view backing mid out) (pending_in view backing new out) part.sound.file.caches.kept.kept.crash_invariant sound.file.caches.kept.kept.crash_invariant (cluster_size mid.file.header.fields) (works.beside sound));
      }

  -- so does another step
  module _ (size at next : ℕ) (old mid new : Qcow2 S F) (first : DiscardsPart view backing size at old mid out) (second : DiscardsPart view backing at next mid new out) (le : boundary_in old size ≤ boundary_in old at) (on : boundary_in old at ≤ boundary_in old next) where
    abbrev x : Setting
    x = setting_of view backing old

    abbrev d : Disk
    d = disk_of view backing out.place old

    abbrev start : ℕ
    start = boundary_in old size

    abbrev n : ℕ
    n = boundary_in old at - boundary_in old size

    abbrev more : ℕ
    more = boundary_in old next - boundary_in old at

    setting_is : setting_of view backing mid ≡ setting_of view backing old
    setting_is = first.works.setting

    disk_is : disk_of view backing out.place mid ≡ shown_below x d start n
    disk_is = ap (λ (g : Guest). g.disk) first.shows

    boundary_is : (o : ℕ) → boundary_in mid o ≡ boundary_in old o
    boundary_is o = ap (λ (s : Setting). rounded_up s.cluster_size o) setting_is

    behind : start + n ≡ boundary_in old at
    behind = omega (arith, le)

    all_of_it : n + more ≡ boundary_in old next - boundary_in old size
    all_of_it = omega (arith, le, on)

    -- what the later step leaves, and gives
    second_shows : shown_below (setting_of view backing mid) (disk_of view backing out.place mid) (boundary_in mid at) (boundary_in mid next - boundary_in mid at) ≡ shown_below x d start (boundary_in old next - boundary_in old size)
    second_shows =
        ap (λ s. shown_below s (disk_of view backing out.place mid) (boundary_in mid at) (boundary_in mid next - boundary_in mid at)) setting_is
        ∙ ap (λ e. shown_below x e (boundary_in mid at) (boundary_in mid next - boundary_in mid at)) disk_is
        ∙ ap (λ k. shown_below x (shown_below x d start n) k (boundary_in mid next - k)) (boundary_is at)
        ∙ ap (λ k. shown_below x (shown_below x d start n) (boundary_in old at) (k - boundary_in old at)) (boundary_is next)
        ∙ ap (λ k. shown_below x (shown_below x d start n) k more) (sym behind)
        ∙ both_below x d start n more
        ∙ ap (shown_below x d start) all_of_it

    first_less : (o : ℕ) (w : Value) → IsGiven (given_below x d start n) o w → IsGiven (given_below x d start (boundary_in old next - boundary_in old size)) o w
    first_less o w is = let g = given_is x d start n o w is in given_as x d start (boundary_in old next - boundary_in old size) o w g.0 (let lt = g.1 in let e = all_of_it in omega (arith, lt, e)) g.2

    second_less : (o : ℕ) (w : Value) → IsGiven (given_below (setting_of view backing mid) (disk_of view backing out.place mid) (boundary_in mid at) (boundary_in mid next - boundary_in mid at)) o w → IsGiven (given_below x d start (boundary_in old next - boundary_in old size)) o w
    second_less o w is =
        let g = given_is (setting_of view backing mid) (disk_of view backing out.place mid) (boundary_in mid at) (boundary_in mid next - boundary_in mid at) o w is in
        let here = boundary_is at in
        let there = boundary_is next in
        given_as x d start (boundary_in old next - boundary_in old size) o w (let a = g.0 in omega (arith, a, here, le)) (let lt = g.1 in omega (arith, lt, here, there, le, on)) (g.2 ∙ ap (λ (s : Setting). known_byte (s.backing o)) setting_is)

    second_covers : ClearsImageCovers Uncovered (boundary_in old at) (boundary_in old next) mid.file.header.fields (known_in view mid.file) new.file.header.fields (known_in view new.file)
    second_covers =
        subst (λ k. ClearsImageCovers Uncovered (boundary_in old at) k mid.file.header.fields (known_in view mid.file) new.file.header.fields (known_in view new.file)) (boundary_is next)
        (subst (λ k. ClearsImageCovers Uncovered k (boundary_in mid next) mid.file.header.fields (known_in view mid.file) new.file.header.fields (known_in view new.file)) (boundary_is at) second.covers)

    pub uncovers_then : DiscardsPart view backing size next old new out
    uncovers_then =
        let v = abstract_of view backing old out in
        let m = abstract_of view backing mid out in
        let w = abstract_of view backing new out in
        let gs = given_below x d start (boundary_in old next - boundary_in old size) in
        record {
          works = works_then v m w gs [] first.sound (works_less v m (given_below x d start n) gs [] (λ o z is. inr (first_less o z is)) (touches_part x.cluster_size _ _ _ _ (omega arith) (omega (arith, le, on))) first.works)
              (works_less m w (given_below (setting_of view backing mid) (disk_of view backing out.place mid) (boundary_in mid at) (boundary_in mid next - boundary_in mid at)) gs [] (λ o z is. inr (second_less o z is)) (touches_part (setting_of view backing mid).cluster_size _ _ _ _ (let here = boundary_is at in omega (arith, here, le)) (let here = boundary_is at in let there = boundary_is next in omega (arith, here, there, le, on))) second.works);
          sound = second.sound;
          shows = second.shows ∙ ap (λ (g : Guest). with_disk g (shown_below (setting_of view backing mid) (disk_of view backing out.place mid) (boundary_in mid at) (boundary_in mid next - boundary_in mid at))) first.shows ∙ ap (λ e. with_disk (guest_of v) e) second_shows;
          covers = uncovers_more (boundary_in old size) (boundary_in old at) (boundary_in old next) old.file.header.fields mid.file.header.fields new.file.header.fields (known_in view old.file) (known_in view mid.file) (known_in view new.file) le on
              (ap (λ (s : Setting). s.cluster_size) setting_is) first.covers second_covers;
        }
