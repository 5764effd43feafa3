-- A range is prepared part by part, and released if a part is refused.
use Rattle.std.proofs.Common.{◌≡◌, ◌++◌, ◌+◌, ◌-◌, ◌*◌, ◌/◌, ◌%◌, ◌<◌, ◌≤◌, ◌∷◌, ◌==◌, ◌||◌, inl, inr, ℕ, suc, Bool, true, false, List, length, [], Option, Some, None, refl, sym, ap, ◌∙◌, subst, arith, min}
use Rattle.qcow2_image.proofs.Common.{slice_get, slice_set, vec_capacity, common_steps, div-add-mod', mod-mul-add, mod_below, pow_pos, fun_ext, cases_eq, cases_lt, cond-true, cond-false, eq-eqb, ne_eqb, BackingView, StorageView, HeaderFields, cluster_size, entries_per_cluster, Guest, guest_of, meaning_at, EffectOnSound, with_slot, Disk, rest_of_table, PreparedMapping, IsPrepared, KeepsFormat, works_then, stops_as, contents_in, known_in, state_in, KeepsHeader, header_format, header_then, ImageError, Qcow2, Prepared, ClusterMapping, ImageStays, Discards, IsReadied, RefusedCall, InternalCall, cluster_of, pending_in, abstract_of, meaning, IsPending, IsReadyWith, ImageInvariant, BreaksOff, Ends, HasRoomForRange, IsExtended, IsLongerMapping, IsNext, EndsWithCluster, ReleasesOneMapping, MayGoOn, MovesTables, CoversStay, length_push, Mappings, set_slot}
use Rattle.qcow2_image.proofs.Lemmas.{same_guest, get_set_same, set_same, set_slot_same, set_set, set_slot_set, file_step_then, format_file_step, stay_then, format_stay, free_places}
use Rattle.qcow2_image.proofs.Prepare.PreparedAnswers.{entries_some, rest_as}
use Rattle.qcow2_image.proofs.Images.Places.{put_first}

-- ---- slots

-- the last one counts
slot_twice : (x : Guest) (k : ℕ) (a b : Option PreparedMapping) → with_slot (with_slot x k a) k b ≡ with_slot x k b
slot_twice x k a b = same_guest (with_slot (with_slot x k a) k b) (with_slot x k b) refl (fun_ext (λ j. elim (cases_eq j k) [
  | inl here ↦ cond-true (j == k) b _ (eq-eqb _ _ here) ∙ sym (cond-true (j == k) b (x.slots j) (eq-eqb _ _ here))
  | inr other ↦ cond-false (j == k) b _ (ne_eqb _ _ other) ∙ cond-false (j == k) a (x.slots j) (ne_eqb _ _ other) ∙ sym (cond-false (j == k) b (x.slots j) (ne_eqb _ _ other))
]))

-- what was there
slot_back : (x : Guest) (k : ℕ) (b : Option PreparedMapping) → x.slots k ≡ b → with_slot x k b ≡ x
slot_back x k b is = same_guest (with_slot x k b) x refl (fun_ext (λ j. elim (cases_eq j k) [
  | inl here ↦ cond-true (j == k) b (x.slots j) (eq-eqb _ _ here) ∙ sym is ∙ sym (ap x.slots here)
  | inr other ↦ cond-false (j == k) b (x.slots j) (ne_eqb _ _ other)
]))

-- a list that goes on begins as before
first_on : (l : List ClusterMapping) (s cluster_mapping : ClusterMapping) → slice_get l 0 ≡ Some cluster_mapping → slice_get (l ++ s ∷ []) 0 ≡ Some cluster_mapping
first_on [] s cluster_mapping at = absurd (cc at)
first_on (x ∷ l) s cluster_mapping at = at

module _ {S F : Type 0} (view : S → StorageView) (backing : F → BackingView) (start mid new : Qcow2 S F) (out : Mappings) (k n : ℕ) (overwrite : Bool) (p : Prepared) (free : slice_get out.slots k ≡ Some None) (first : IsReadied view backing start mid out k p.guest n overwrite p) where
  abbrev out1 : Mappings
  out1 = set_slot out k (Some p)

  -- it is longer
  pub readied_on : (q : Prepared) → q.guest ≡ p.guest → IsExtended view backing mid new out1 k n overwrite p q → IsReadied view backing start new out k q.guest n overwrite q
  readied_on q guest is =
      let end : set_slot (set_slot out k (Some p)) k (Some q) ≡ set_slot out k (Some q) = set_slot_set out k (Some p) (Some q) in
      let m = meaning view backing out.place new q in
      let disk : (guest_of (abstract_of view backing mid out1)).disk ≡ (guest_of (abstract_of view backing start out)).disk = ap (λ (x : Guest). x.disk) first.is in
      let size : cluster_size mid.file.header.fields ≡ cluster_size start.file.header.fields = ap (λ (x : HeaderFields). cluster_size x) first.header in
      let was : IsPrepared (cluster_size mid.file.header.fields) (guest_of (abstract_of view backing mid out1)).disk p.guest n overwrite (meaning view backing out.place mid p) =
      subst (λ s. IsPrepared s (guest_of (abstract_of view backing mid out1)).disk p.guest n overwrite (meaning view backing out.place mid p)) (sym size)
      (subst (λ (x : Disk). IsPrepared (cluster_size start.file.header.fields) x p.guest n overwrite (meaning view backing out.place mid p)) (sym disk) first.prepared) in
      record {
        works = works_then (abstract_of view backing start out) (abstract_of view backing mid out1) (abstract_of view backing new (set_slot out k (Some q))) [] [] first.sound first.works
            (subst (λ l. EffectOnSound (abstract_of view backing mid out1) (abstract_of view backing new l) [] []) end is.works);
        sound = subst (λ l. ImageInvariant view backing (pending_in view backing new l) new l) end is.sound;
        header = file_step_then start.file.header.fields mid.file.header.fields new.file.header.fields first.header (format_file_step mid.file.header.fields new.file.header.fields is.header);
        covers = stay_then start.file.header.fields mid.file.header.fields new.file.header.fields (known_in view start.file) (known_in view mid.file) (known_in view new.file) first.covers
            (format_stay mid.file.header.fields new.file.header.fields (known_in view mid.file) (known_in view new.file) is.header is.covers);
        prepared = subst (λ o. IsPrepared (cluster_size start.file.header.fields) (guest_of (abstract_of view backing start out)).disk o n overwrite m) (sym guest)
            (subst (λ (x : Disk). IsPrepared (cluster_size start.file.header.fields) x p.guest n overwrite m) disk
            (subst (λ s. IsPrepared s ((guest_of (abstract_of view backing mid out1)).disk) p.guest n overwrite m) size (is.prepared was)));
        is = ap (λ l. guest_of (abstract_of view backing new l)) (sym end) ∙ is.is ∙ ap (λ (x : Guest). with_slot x k (Some m)) first.is ∙ slot_twice (guest_of (abstract_of view backing start out)) k (Some (meaning view backing out.place mid p)) (Some m);
      }

  -- it is as it was
  pub readied_still : InternalCall view backing mid new out1 → IsReadied view backing start new out k p.guest n overwrite p
  readied_still still =
      let at = get_set_same out.slots k (Some p) None free in
      let both : Some (meaning view backing out.place new p) ≡ Some (meaning view backing out.place mid p) =
      sym (ap (meaning_at (meaning view backing out.place new)) at) ∙ ap (λ (x : Guest). x.slots k) still.same ∙ ap (meaning_at (meaning view backing out.place mid)) at in
      let means : meaning view backing out.place new p ≡ meaning view backing out.place mid p = cc in
      record {
        works = works_then (abstract_of view backing start out) (abstract_of view backing mid out1) (abstract_of view backing new out1) [] [] first.sound first.works still.works;
        sound = still.sound;
        header = file_step_then start.file.header.fields mid.file.header.fields new.file.header.fields first.header still.header;
        covers = stay_then start.file.header.fields mid.file.header.fields new.file.header.fields (known_in view start.file) (known_in view mid.file) (known_in view new.file) first.covers still.covers;
        prepared = subst (λ m. IsPrepared (cluster_size start.file.header.fields) (guest_of (abstract_of view backing start out)).disk p.guest n overwrite m) (sym means) first.prepared;
        is = still.same ∙ first.is ∙ ap (λ m. with_slot (guest_of (abstract_of view backing start out)) k (Some m)) (sym means);
      }

  -- it is let go after a refusal
  module _ (end : Qcow2 S F) (e : ImageError) (lets : ReleasesOneMapping view new end) (gone : Discards view backing new end p) where
    abbrev a : Guest
    a = guest_of (abstract_of view backing start out)

    same_out : set_slot (set_slot out k (Some p)) k None ≡ out
    same_out = set_slot_set out k (Some p) None ∙ set_slot_same out k None free

    release_prepared_still : InternalCall view backing mid new out1 → InternalCall view backing start end out
    release_prepared_still still =
        let done = gone out1 k (get_set_same out.slots k (Some p) None free) in
        let answer = done.answer still.sound in
        let header : end.file.header.fields ≡ new.file.header.fields = ap (λ (m : Qcow2 S F). m.file.header.fields) lets.rest in
        record {
          works = works_then (abstract_of view backing start out) (abstract_of view backing mid out1) (abstract_of view backing end out) [] [] first.sound first.works
              (works_then (abstract_of view backing mid out1) (abstract_of view backing new out1) (abstract_of view backing end out) [] [] still.sound still.works
              (subst (λ l. EffectOnSound (abstract_of view backing new out1) (abstract_of view backing end l) [] []) same_out (done.acts.works still.sound)));
          sound = subst (λ l. ImageInvariant view backing (pending_in view backing end l) end l) same_out answer.0;
          same = ap (λ l. guest_of (abstract_of view backing end l)) (sym same_out) ∙ answer.1 ∙ ap (λ (x : Guest). with_slot x k None) (still.same ∙ first.is) ∙ slot_twice a k (Some (meaning view backing out.place mid p)) None
              ∙ slot_back a k None (ap (meaning_at (meaning view backing out.place start)) free);
          header = subst (λ x. MovesTables start.file.header.fields x) (sym header) (file_step_then start.file.header.fields mid.file.header.fields new.file.header.fields first.header still.header);
          covers = subst (λ x. CoversStay start.file.header.fields (known_in view start.file) x (known_in view end.file)) (sym header) (subst (λ b. CoversStay start.file.header.fields (known_in view start.file) new.file.header.fields b) (sym lets.known)
              (stay_then start.file.header.fields mid.file.header.fields new.file.header.fields (known_in view start.file) (known_in view mid.file) (known_in view new.file) first.covers still.covers));
        }

    -- a failed image is as it was, but for its caches
    release_prepared_failed : EffectOnSound (abstract_of view backing mid out1) (abstract_of view backing (record new { is_failed = true }) out1) [] [] → EffectOnSound (abstract_of view backing mid out1) (abstract_of view backing (record end { is_failed = true }) out) [] []
    release_prepared_failed works = subst (λ (m : Qcow2 S F). EffectOnSound (abstract_of view backing mid out1) (abstract_of view backing (record m { is_failed = true }) out) [] []) (sym lets.rest)
        (record {
          setting = works.setting;
          surplus = λ now. absurd (let f : true ≡ false = now.works in cc);
          beside = λ now. absurd (let f : true ≡ false = now.works in cc);
          leaks = works.leaks;
          stops = λ m starts.
              let left = abstract_of view backing (record new { file = record new.file { caches = end.file.caches; free_list = end.file.free_list }; is_failed = true }) out in
              stops_as (abstract_of view backing mid out1) (abstract_of view backing (record new { is_failed = true }) out1) (abstract_of view backing mid out1) left [] [] refl refl refl (λ now. absurd (let f : true ≡ false = now.works in cc)) m (works.stops m starts);
        })

    pub release_prepared_refused : RefusedCall view backing mid new out1 e → RefusedCall view backing start end out e
    release_prepared_refused (inl still) = inl (release_prepared_still still)
    release_prepared_refused (inr interruption) = inr (record {
      fault = interruption.fault;
      recorded = λ memory. ap (λ (i : Qcow2 S F). i.file.storage.is_changed || end.file.caches.is_changed) lets.rest ∙ ap (λ (b : Bool). new.file.storage.is_changed || b) lets.changed ∙ interruption.recorded memory;
      works = works_then (abstract_of view backing start out) (abstract_of view backing mid out1) (abstract_of view backing (record end { is_failed = true }) out) [] [] first.sound first.works (release_prepared_failed interruption.works);
    })

-- so it is after any part
pub release_prepared_broken : {S F : Type 0} (view : S → StorageView) (backing : F → BackingView) (start new end : Qcow2 S F) (out : Mappings) (k n : ℕ) (overwrite : Bool) (q : Prepared) (e : ImageError) → slice_get out.slots k ≡ Some None → ReleasesOneMapping view new end → Discards view backing new end q
    → BreaksOff view backing start new out k n overwrite q e → RefusedCall view backing start end out e
release_prepared_broken view backing start new end out k n overwrite q e free lets gone interruption = release_prepared_refused view backing start interruption.mid new out k n overwrite q free interruption.readied end e lets gone interruption.refused

-- ---- cluster by cluster

-- the clusters so far
pub record IsSoFar {S F : Type 0} (view : S → StorageView) (backing : F → BackingView) (old now : Qcow2 S F) (p q : Prepared) (n end table : ℕ) (overwrite : Bool) : Type 0 where
  pub stays : ImageStays old now
  pub header : KeepsHeader old.file.header now.file.header
  pub longer : IsLongerMapping old.file.header.fields n p q
  pub room : p.guest % cluster_size old.file.header.fields + end < vec_capacity q.clusters * cluster_size old.file.header.fields
  pub image_step : (start : Qcow2 S F) (out : Mappings) (k : ℕ) → slice_get out.slots k ≡ Some None → p.table ≡ Some table → IsReadied view backing start old out k p.guest n overwrite p → IsReadied view backing start now out k q.guest n overwrite q

pos_mul : (a b : ℕ) → 0 < a → 0 < b → 0 < a * b
pos_mul a b some any =
    let e : a ≡ 1 + (a - 1) = omega arith in
    let q : a * b ≡ b + (a - 1) * b = ap (λ x. x * b) e ∙ omega arith in
    omega (arith, any, q)

room_enough : (a clusters capacity size : ℕ) → a < clusters * size → clusters ≤ capacity → a < capacity * size
room_enough a clusters capacity size lt le =
    let e : capacity ≡ clusters + (capacity - clusters) = omega arith in
    let q : capacity * size ≡ clusters * size + (capacity - clusters) * size = ap (λ x. x * size) e ∙ omega arith in
    omega (arith, lt, q)

-- so has a mapping that begins there
pub room_as : (h : HeaderFields) (n offset clusters capacity : ℕ) → offset % cluster_size h + min n (rest_of_table h offset) < clusters * cluster_size h → clusters ≤ capacity → (p : Prepared) → p.guest ≡ offset → vec_capacity p.clusters ≡ capacity → HasRoomForRange h n p
room_as h n offset clusters capacity lt le p guest same =
    subst (λ o. o % cluster_size h + min n (rest_of_table h o) < vec_capacity p.clusters * cluster_size h) (sym guest)
    (room_enough (offset % cluster_size h + min n (rest_of_table h offset)) clusters (vec_capacity p.clusters) (cluster_size h) lt (omega (arith, le, same)))

lt_of_mul : (a b c : ℕ) → a * c < b * c → a < b
lt_of_mul a b c lt = elim (cases_lt a b) [
  | inl is ↦ is
  | inr ge ↦
      let e : a ≡ b + (a - b) = omega arith in
      let q : a * c ≡ (b + (a - b)) * c = ap (λ x. x * c) e in
      let r : (b + (a - b)) * c ≡ b * c + (a - b) * c = omega arith in
      absurd (omega (arith, lt, q, r))
]

module _ {S F : Type 0} (view : S → StorageView) (backing : F → BackingView) where
  module _ (old now : Qcow2 S F) (p q : Prepared) (n end table : ℕ) (overwrite : Bool) (so : IsSoFar view backing old now p q n end table overwrite) (bound : end ≡ min n (rest_of_table old.file.header.fields p.guest)) where
    abbrev h : HeaderFields
    h = old.file.header.fields

    format : KeepsFormat old.file.header.fields now.file.header.fields
    format = header_format old.file.header now.file.header so.header

    size : cluster_size now.file.header.fields ≡ cluster_size h
    size = ap (λ (x : HeaderFields). cluster_size x) format

    module _ (less : q.length < end) where
      whole : EndsWithCluster h q
      whole = so.longer.whole (omega arith)

      -- it may go on
      pub may_go_on : (start : Qcow2 S F) (out : Mappings) (k : ℕ) → p.table ≡ Some table → IsReadied view backing start old out k p.guest n overwrite p → MayGoOn now.file.header.fields n table q
      may_go_on start out k under is =
          let any = entries_some (state_in view old.file (pending_in view backing old (set_slot out k (Some p)))) is.sound.file.caches.kept.kept.crash_invariant in
          let reach = rest_as (cluster_size h) (entries_per_cluster h) p.guest (pow_pos h.cluster_bits) any in
          let w = whole in
          let g = ap (λ g. g % cluster_size h) so.longer.guest in
          let few : length q.clusters.items < entries_per_cluster h - p.guest / cluster_size h % entries_per_cluster h = lt_of_mul (length q.clusters.items) (entries_per_cluster h - p.guest / cluster_size h % entries_per_cluster h) (cluster_size h) (omega arith) in
          let cluster : q.guest / cluster_size h % entries_per_cluster h ≡ p.guest / cluster_size h % entries_per_cluster h = ap (λ x. x / cluster_size h % entries_per_cluster h) so.longer.guest in
          record {
            under = so.longer.under ∙ under;
            whole = subst (λ (x : HeaderFields). q.guest % cluster_size x + q.length ≡ length q.clusters.items * cluster_size x) (sym format) w;
            more = omega arith;
            within = subst (λ (x : HeaderFields). cluster_of x q % entries_per_cluster x + length q.clusters.items < entries_per_cluster x) (sym format) (omega arith);
          }

      -- and it is longer
      module _ (new : Qcow2 S F) (r : Prepared) (stays : ImageStays now new) (header : KeepsHeader now.file.header new.file.header) (next : IsNext now.file.header.fields n q r) (same : vec_capacity r.clusters ≡ vec_capacity q.clusters)
          (image_step : (out : Mappings) (k : ℕ) → slice_get out.slots k ≡ Some (Some q) → MayGoOn now.file.header.fields n table q → ImageInvariant view backing (pending_in view backing now out) now out → IsExtended view backing now new out k n overwrite q r) where
        length_is : r.length ≡ min n (q.length + cluster_size h)
        length_is = ap (λ (x : Prepared). x.length) next.rest ∙ ap (λ s. min n (q.length + s)) size

        r_guest : r.guest ≡ q.guest
        r_guest = ap (λ (x : Prepared). x.guest) next.rest

        r_whole : r.length < n → EndsWithCluster h r
        r_whole short =
            let few : length r.clusters.items ≡ length q.clusters.items + 1 = ap (λ (l : List ClusterMapping). length l) next.clusters ∙ length_push q.clusters.items next.cluster_mapping in
            let all : length r.clusters.items * cluster_size h ≡ length q.clusters.items * cluster_size h + cluster_size h = ap (λ m. m * cluster_size h) few ∙ omega arith in
            let g : r.guest % cluster_size h ≡ q.guest % cluster_size h = ap (λ x. x % cluster_size h) r_guest in
            let w = whole in
            let l = length_is in
            omega arith

        pub so_far_next : IsSoFar view backing old new p r n end table overwrite
        so_far_next = record {
          stays = record {
            image = record { number = stays.image.number ∙ so.stays.image.number; size = stays.image.size ∙ so.stays.image.size; writable = stays.image.writable ∙ so.stays.image.writable; lacks = stays.image.lacks ∙ so.stays.image.lacks; beside = stays.image.beside ∙ so.stays.image.beside };
            failed = stays.failed ∙ so.stays.failed;
          };
          header = header_then old.file.header now.file.header new.file.header so.header header;
          longer = record {
            image = ap (λ (x : Prepared). x.image) next.rest ∙ so.longer.image;
            file = ap (λ (x : Prepared). x.place) next.rest ∙ so.longer.file;
            guest = r_guest ∙ so.longer.guest;
            place = ap (λ (x : Prepared). x.offset) next.rest ∙ so.longer.place;
            under = ap (λ (x : Prepared). x.table) next.rest ∙ so.longer.under;
            first = λ cluster_mapping at. ap (λ (l : List ClusterMapping). slice_get l 0) next.clusters ∙ first_on q.clusters.items next.cluster_mapping cluster_mapping (so.longer.first cluster_mapping at);
            more = let l = length_is in let m = so.longer.more in omega arith;
            most = λ past. absurd (let l = length_is in omega arith);
            whole = r_whole;
          };
          room = subst (λ m. p.guest % cluster_size h + end < m * cluster_size h) (sym same) so.room;
          image_step = λ start out k free under is.
              let before = so.image_step start out k free under is in
              readied_on view backing start now new out k n overwrite q free before r r_guest (image_step (set_slot out k (Some q)) k (get_set_same out.slots k (Some q) None free) (may_go_on start out k under is) before.sound);
        }

      -- or nothing can come after it
      pub so_far_ends : (new : Qcow2 S F) (start : Qcow2 S F) (out : Mappings) (k : ℕ) → slice_get out.slots k ≡ Some None → p.table ≡ Some table → IsReadied view backing start old out k p.guest n overwrite p
          → (MayGoOn now.file.header.fields n table q → ImageInvariant view backing (pending_in view backing now (set_slot out k (Some q))) now (set_slot out k (Some q)) → InternalCall view backing now new (set_slot out k (Some q)) × Ends view new q)
          → IsReadied view backing start new out k q.guest n overwrite q × (q.length < n → Ends view new q)
      so_far_ends new start out k free under is found =
          let before = so.image_step start out k free under is in
          let both = found (may_go_on start out k under is) before.sound in
          (readied_still view backing start now new out k n overwrite q free before both.0, λ short. both.1)

    -- it reaches to the end of its range, or of its table
    module _ (start : Qcow2 S F) (out : Mappings) (k : ℕ) (free : slice_get out.slots k ≡ Some None) (under : p.table ≡ Some table) (is : IsReadied view backing start old out k p.guest n overwrite p) (all : end ≤ q.length) where
      before : IsReadied view backing start now out k q.guest n overwrite q
      before = so.image_step start out k free under is

      abbrev hn : HeaderFields
      hn = now.file.header.fields

      reaches_end : q.length < n → Ends view now q
      reaches_end short =
          let sound = before.sound in
          let pending : IsPending hn out.place (known_in view now.file) (contents_in view now.file) q table = subst (IsReadyWith hn out.place (known_in view now.file) (contents_in view now.file) q) (so.longer.under ∙ under) (sound.ready k q (get_set_same out.slots k (Some q) None free)).mapped in
          let any = entries_some (state_in view now.file (pending_in view backing now (set_slot out k (Some q)))) sound.file.caches.kept.kept.crash_invariant in
          let reach = rest_as (cluster_size hn) (entries_per_cluster hn) q.guest (pow_pos hn.cluster_bits) any in
          let rest : rest_of_table h p.guest ≡ rest_of_table hn q.guest = subst (λ (x : HeaderFields). rest_of_table h p.guest ≡ rest_of_table x q.guest) (sym format) (ap (rest_of_table h) (sym so.longer.guest)) in
          let few = pending.within in
          let enough = pending.enough in
          let left = entries_per_cluster hn - cluster_of hn q % entries_per_cluster hn in
          let more : left ≡ length q.clusters.items + (left - length q.clusters.items) = omega arith in
          let parts : left * cluster_size hn ≡ length q.clusters.items * cluster_size hn + (left - length q.clusters.items) * cluster_size hn = ap (λ m. m * cluster_size hn) more ∙ omega arith in
          let guest_is : q.guest / cluster_size hn * cluster_size hn + q.guest % cluster_size hn ≡ q.guest = div-add-mod' q.guest (cluster_size hn) in
          let whole_is : q.guest % cluster_size hn + q.length ≡ left * cluster_size hn = omega arith in
          let cluster_is : cluster_of hn q / entries_per_cluster hn * entries_per_cluster hn + cluster_of hn q % entries_per_cluster hn ≡ cluster_of hn q = div-add-mod' (cluster_of hn q) (entries_per_cluster hn) in
          let lt = mod_below (cluster_of hn q) (entries_per_cluster hn) any in
          let sum : cluster_of hn q + left ≡ (cluster_of hn q / entries_per_cluster hn + 1) * entries_per_cluster hn = omega arith in
          let end_is : q.guest + q.length ≡ (cluster_of hn q + left) * cluster_size hn = omega arith in
          let table_is : q.guest + q.length ≡ (cluster_of hn q / entries_per_cluster hn + 1) * (cluster_size hn * entries_per_cluster hn) + 0 = end_is ∙ ap (λ c. c * cluster_size hn) sum ∙ grind (arith, common_steps) in
          let some : 0 < cluster_size hn = pow_pos hn.cluster_bits in
          let none : (cluster_of hn q + left) * cluster_size hn + 0 ≡ q.guest + q.length = omega arith in
          record {
            cluster = ap (λ e. e % cluster_size hn) (sym none) ∙ mod-mul-add (cluster_of hn q + left) (cluster_size hn) 0 some;
            because = inl (ap (λ e. e % (cluster_size hn * entries_per_cluster hn)) table_is ∙ mod-mul-add (cluster_of hn q / entries_per_cluster hn + 1) (cluster_size hn * entries_per_cluster hn) 0 (pos_mul (cluster_size hn) (entries_per_cluster hn) some any));
          }

      pub so_far_all : IsReadied view backing start now out k q.guest n overwrite q × (q.length < n → Ends view now q)
      so_far_all = (before, reaches_end)

-- ---- a place more

-- what was refused while there was a free place was refused without it
module _ {S F : Type 0} (view : S → StorageView) (backing : F → BackingView) (out : Mappings) (old new : Qcow2 S F) where
  works_free : (image : Qcow2 S F) → EffectOnSound (abstract_of view backing old (put_first None out)) (abstract_of view backing image (put_first None out)) [] [] → EffectOnSound (abstract_of view backing old out) (abstract_of view backing image out) [] []
  works_free image w =
      let free = free_places view backing out.place in
      record {
        setting = w.setting;
        surplus = λ now. sym (free.surplus image [] out.slots) ∙ w.surplus (free.free image [] out.slots now) ∙ free.surplus old [] out.slots;
        beside = λ now. w.beside (free.free image [] out.slots now);
        leaks = w.leaks;
        stops = λ m starts.
            stops_as (abstract_of view backing old (put_first None out)) (abstract_of view backing image (put_first None out)) (abstract_of view backing old out) (abstract_of view backing image out) [] [] refl refl refl (λ now. (free.free image [] out.slots now, refl)) m (w.stops m starts);
      }

  pub refused_free : (e : ImageError) → RefusedCall view backing old new (put_first None out) e → RefusedCall view backing old new out e
  refused_free e (inl still) = inl (record {
    works = works_free new still.works;
    sound = (free_places view backing out.place).left new [] out.slots still.sound;
    same = same_guest (guest_of (abstract_of view backing new out)) (guest_of (abstract_of view backing old out)) (ap (λ (x : Guest). x.disk) still.same) (fun_ext (λ j. ap (λ (x : Guest). x.slots (suc j)) still.same));
    header = still.header;
    covers = still.covers;
  })
  refused_free e (inr interruption) = inr (record { fault = interruption.fault; recorded = interruption.recorded; works = works_free (record new { is_failed = true }) interruption.works })
