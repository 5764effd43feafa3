-- A prepared mapping is extended by the next cluster.
use Rattle.std.proofs.Common.{◌≡◌, ◌⊎◌, ◌+◌, ◌-◌, ◌*◌, ◌/◌, ◌%◌, ◌<◌, ◌≤◌, ◌∷◌, ◌++◌, ◌&&◌, ⊎_elim, inl, inr, ℕ, zero, suc, Bool, true, false, List, length, [], Option, Some, refl, sym, ap, ◌∙◌, subst, arith, min, IsTrue, nat_le, nat_lt}
use Rattle.qcow2_image.proofs.Common.{slice_get, slice_set, fun_ext, cases_lt, cond-true, le-leb, lt-ltb, le-ltb, div-add-mod', div-mul-add, mod_below, pow_pos, slice_get_within, BackingView, StorageView, Bytes, is_within, HeaderFields, known_byte, cluster_size, entries_per_cluster, rounded_up, Guest, guest_of, meaning_at, with_slot, PreparedMapping, IsPrepared, contents_in, known_in, nothing_given, state_in, Qcow2, Prepared, ClusterMapping, InPlace, Kept, New, new_data_in, new_data_by, pins_by, over_all, abstract_of, meaning, is_private, cluster_of, is_entered, IsReady, IsReadyWith, IsClusterMappingAt, IsPending, pending_in, IsExtended, MayGoOn, StandsBehind, StateInvariant, length_push, and_right, Mappings, set_slot, Image, DataFile}
use Rattle.qcow2_image.proofs.Call.Answered.{same_guest}
use Rattle.qcow2_image.proofs.Call.Slots.{get_set, over_all_set, slot_set}
use Rattle.qcow2_image.proofs.Call.Stepped.{Steps, stepped_sound, stepped_works}
use Rattle.qcow2_image.proofs.Images.ClusterMappings.{private_is, private_shared}
use Rattle.qcow2_image.proofs.Images.UngivenCovers.{all_stay}
use Rattle.qcow2_image.proofs.Images.Moved.{format_stay}
use Rattle.qcow2_image.specs.declared.mapping.Place.{Place}

-- ---- one more after others

get_behind : {X : Type 0} (xs : List X) (x y : X) (i : ℕ) → slice_get (xs ++ x ∷ []) i ≡ Some y → (slice_get xs i ≡ Some y) ⊎ ((i ≡ length xs) × (y ≡ x))
get_behind [] x y zero e = inr (refl, cc)
get_behind [] x y (suc i) e = absurd cc
get_behind (z ∷ xs) x y zero e = inl e
get_behind (z ∷ xs) x y (suc i) e = ⊎_elim (λ there. inl there) (λ last. inr (ap suc last.0, last.1)) (get_behind xs x y i e)

new_data_behind : (clusters : List ClusterMapping) (cluster_mapping : ClusterMapping) (c : ℕ) → new_data_in (clusters ++ cluster_mapping ∷ []) c ≡ new_data_in clusters c + new_data_in (cluster_mapping ∷ []) c
new_data_behind [] cluster_mapping c = omega arith
new_data_behind (InPlace ∷ clusters) cluster_mapping c = new_data_behind clusters cluster_mapping c
new_data_behind (Kept ∷ clusters) cluster_mapping c = new_data_behind clusters cluster_mapping c
new_data_behind (New taken old_data ∷ clusters) cluster_mapping c = let rest = new_data_behind clusters cluster_mapping c in omega arith

-- a cluster mapping is also valid in a longer mapping
mapping_as : (h : HeaderFields) (place : Place) (known on_storage : Bytes) (p : Prepared) (l : ℕ) (like : Prepared) (i : ℕ) (cluster_mapping : ClusterMapping) → IsClusterMappingAt h place known on_storage p i cluster_mapping → IsClusterMappingAt h place known on_storage (record p { length = l; clusters = like.clusters }) i cluster_mapping
mapping_as h place known on_storage p l like i InPlace is = is
mapping_as h Image known on_storage p l like i Kept is = record { first = is.first; place = is.place; nameable = is.nameable; entry = is.entry }
mapping_as h DataFile known on_storage p l like i Kept is = record { place = is.place; nameable = is.nameable; entry = is.entry; reach = is.reach }
mapping_as h DataFile known on_storage p l like i (New taken old_data) is = absurd is
mapping_as h Image known on_storage p l like i (New taken old_data) is = record { first = is.first; is = is.is; place = is.place; nameable = is.nameable; entry = is.entry; reach = is.reach; drops = is.drops }

-- ---- what is announced

within_none : (a m m' o : ℕ) → m' ≤ m → is_within a m o ≡ false → is_within a m' o ≡ false
within_none a m m' o le none = ⊎_elim
    (λ (inside : o < a + m').
    ap (λ b. nat_le a o && b) (lt-ltb o (a + m') inside) ∙ sym (ap (λ b. nat_le a o && b) (lt-ltb o (a + m) (omega (arith, inside, le)))) ∙ none)
    (λ (past : a + m' ≤ o). ap (λ b. nat_le a o && b) (le-ltb o (a + m') past) ∙ and_right (nat_le a o) false refl)
    (cases_lt o (a + m'))

pub announced_less : (overwrite : Bool) (a m m' o : ℕ) → m' ≤ m → (overwrite && is_within a m o ≡ false) → (overwrite && is_within a m' o ≡ false)
announced_less true a m m' o le none = within_none a m m' o le none
announced_less false a m m' o le none = refl

lt_as : (x y z w : ℕ) → x + w ≡ z + y → nat_lt x y ≡ nat_lt z w
lt_as x y z w same = ⊎_elim
    (λ (lt : x < y). lt-ltb x y lt ∙ sym (lt-ltb z w (omega (arith, lt, same))))
    (λ (ge : y ≤ x). le-ltb x y ge ∙ sym (le-ltb z w (omega (arith, ge, same))))
    (cases_lt x y)

-- of a byte after the begins of two ranges that end as far from it
pub within_as : (a m o b r i : ℕ) → a ≤ o → b ≤ i → o + (b + r) ≡ i + (a + m) → is_within a m o ≡ is_within b r i
within_as a m o b r i from to same =
    ap (λ x. x && nat_lt o (a + m)) (le-leb a o from) ∙ lt_as o (a + m) i (b + r) same ∙ sym (ap (λ x. x && nat_lt i (b + r)) (le-leb b i to))

-- ---- where a range ends

pub rounds_to : (size x m : ℕ) → 0 < size → m * size < x → x ≤ m * size + size → rounded_up size x ≡ m * size + size
rounds_to size x m some above within =
    let q : (m + 1) * size ≡ m * size + size = omega arith in
    let e : x + size - 1 ≡ (m + 1) * size + (x - m * size - 1) = omega arith in
    ap (λ o. o / size * size) e ∙ ap (λ n. n * size) (div-mul-add (m + 1) size (x - m * size - 1) (omega arith)) ∙ q

module _ {S F : Type 0} (view : S → StorageView) (backing : F → BackingView) (old mid : Qcow2 S F) (out : Mappings) (k : ℕ) (p : Prepared) (at : slice_get out.slots k ≡ Some (Some p)) (n table : ℕ) (overwrite : Bool) (may : MayGoOn old.file.header.fields n table p)
    (cluster_mapping : ClusterMapping) (behind : StandsBehind view backing old mid out n overwrite p cluster_mapping) (like : Prepared) (items : like.clusters.items ≡ p.clusters.items ++ cluster_mapping ∷ []) where
  abbrev h : HeaderFields
  h = mid.file.header.fields

  size : cluster_size h ≡ cluster_size old.file.header.fields
  size = ap (λ (x : HeaderFields). cluster_size x) behind.image_step.header

  some_size : 0 < cluster_size h
  some_size = pow_pos h.cluster_bits

  abbrev q : Prepared
  q = record p { length = min n (p.length + cluster_size old.file.header.fields); clusters = like.clusters }

  abbrev now : Mappings
  now = set_slot out k (Some q)

  whole : p.guest % cluster_size h + p.length ≡ length p.clusters.items * cluster_size h
  whole = subst (λ (x : HeaderFields). p.guest % cluster_size x + p.length ≡ length p.clusters.items * cluster_size x) (sym behind.image_step.header) may.whole

  within : cluster_of h p % entries_per_cluster h + length p.clusters.items < entries_per_cluster h
  within = subst (λ (x : HeaderFields). cluster_of x p % entries_per_cluster x + length p.clusters.items < entries_per_cluster x) (sym behind.image_step.header) may.within

  ready : IsReady view backing out.place mid p
  ready = behind.image_step.sound.ready k p at

  pending : IsPending h out.place (known_in view mid.file) (contents_in view mid.file) p table
  pending = subst (IsReadyWith h out.place (known_in view mid.file) (contents_in view mid.file) p) may.under ready.mapped

  count : length like.clusters.items ≡ length p.clusters.items + 1
  count = ap (λ (l : List ClusterMapping). length l) items ∙ length_push p.clusters.items cluster_mapping

  all : length like.clusters.items * cluster_size h ≡ length p.clusters.items * cluster_size h + cluster_size h
  all = ap (λ m. m * cluster_size h) count ∙ omega arith

  longer : p.length < min n (p.length + cluster_size old.file.header.fields)
  longer = let more = may.more in let same = size in let some = some_size in omega arith

  no_longer : min n (p.length + cluster_size old.file.header.fields) ≤ p.length + cluster_size h
  no_longer = let same = size in omega arith

  its_mapping : (i : ℕ) (other : ClusterMapping) → slice_get like.clusters.items i ≡ Some other → (slice_get p.clusters.items i ≡ Some other) ⊎ ((i ≡ length p.clusters.items) × (other ≡ cluster_mapping))
  its_mapping i other there = get_behind p.clusters.items cluster_mapping other i (ap (λ (l : List ClusterMapping). slice_get l i) (sym items) ∙ there)

  own_mapping : (i : ℕ) (other : ClusterMapping) → slice_get like.clusters.items i ≡ Some other → IsClusterMappingAt h out.place (known_in view mid.file) (contents_in view mid.file) q i other
  own_mapping i other there = mapping_as h out.place (known_in view mid.file) (contents_in view mid.file) p (min n (p.length + cluster_size old.file.header.fields)) like i other
      (⊎_elim (λ (before : slice_get p.clusters.items i ≡ Some other). pending.each i other before)
      (λ (last : (i ≡ length p.clusters.items) × (other ≡ cluster_mapping)).
      subst (λ j. IsClusterMappingAt h out.place (known_in view mid.file) (contents_in view mid.file) p j other) (sym last.0) (subst (λ (x : ClusterMapping). IsClusterMappingAt h out.place (known_in view mid.file) (contents_in view mid.file) p (length p.clusters.items) x) (sym last.1) behind.stands))
      (its_mapping i other there))

  own_ready : IsPending h out.place (known_in view mid.file) (contents_in view mid.file) q table
  own_ready = record {
    some = let lt = longer in omega arith;
    begins = pending.begins;
    enough = let le = no_longer in let w = whole in let a = all in omega arith;
    no_more = let lt = longer in let w = whole in let a = all in omega arith;
    within = let few = count in let lt = within in omega arith;
    named = pending.named;
    copied = pending.copied;
    each = own_mapping;
  }

  ready_now : (j : ℕ) (r : Prepared) → slice_get now.slots j ≡ Some (Some r) → IsReady view backing out.place mid r
  ready_now j r there = ⊎_elim
      (λ (e : Some r ≡ Some q). let same : r ≡ q = cc in subst (λ (x : Prepared). IsReady view backing out.place mid x) (sym same)
      (record { own = ready.own; mapped = subst (IsReadyWith h out.place (known_in view mid.file) (contents_in view mid.file) q) (sym may.under) own_ready }))
      (λ before. behind.image_step.sound.ready j r before) (get_set out.slots k j (Some q) (Some r) there)

  same_pins : (c : ℕ) → over_all pins_by now c ≡ over_all pins_by out c
  same_pins c = let both : over_all pins_by now c + pins_by p c ≡ over_all pins_by out c + pins_by p c = over_all_set pins_by out k p q at c in omega arith

  new_data_now : (c : ℕ) → over_all new_data_by now c ≡ over_all new_data_by out c + new_data_in (cluster_mapping ∷ []) c
  new_data_now c =
      let both : over_all new_data_by now c + new_data_in p.clusters.items c ≡ over_all new_data_by out c + new_data_in like.clusters.items c = over_all_set new_data_by out k p q at c in
      let more : new_data_in like.clusters.items c ≡ new_data_in p.clusters.items c + new_data_in (cluster_mapping ∷ []) c = ap (λ (l : List ClusterMapping). new_data_in l c) items ∙ new_data_behind p.clusters.items cluster_mapping c in
      omega arith

  steps : StateInvariant (state_in view old.file (pending_in view backing old out)) → Steps view backing old mid out now nothing_given behind.pending
  steps was = record {
    sound = record {
      works = behind.image_step.sound.works;
      file = behind.image_step.sound.file;
      l1_table = behind.image_step.sound.l1_table;
      reftable = behind.image_step.sound.reftable;
      stands = behind.image_step.sound.stands;
      below = behind.image_step.sound.below;
      ready = ready_now;
      pinned = λ c. behind.image_step.sound.pinned c ∙ sym (same_pins c);
      once = λ c. subst (λ m. m ≤ 1) (sym (same_pins c)) (behind.image_step.sound.once c);
    };
    only = record { new_data = λ c. behind.new_data c ∙ sym (new_data_now c); new_tables = behind.new_tables; old_tables = behind.old_tables; old_data = behind.old_data };
    safe_step = behind.image_step.safe_step;
    since = behind.image_step.since;
    header = behind.image_step.header;
    below = behind.image_step.below;
    surplus = behind.surplus;
    leaks = behind.image_step.leaks;
    beside = all_stay view old.file mid.file (pending_in view backing old out) behind.pending was behind.image_step.sound.file.caches.kept.kept.crash_invariant [] (format_stay old.file.header.fields mid.file.header.fields (known_in view old.file) (known_in view mid.file) behind.image_step.header behind.image_step.covers);
  }

  -- what a guest sees
  seen_now : guest_of (abstract_of view backing mid now) ≡ with_slot (guest_of (abstract_of view backing old out)) k (Some (meaning view backing out.place mid q))
  seen_now =
      same_guest _ (with_slot (guest_of (abstract_of view backing mid out)) k (Some (meaning view backing out.place mid q))) refl (fun_ext (λ j. slot_set (meaning view backing out.place mid) out.slots k (Some q) (Some p) at j))
      ∙ ap (λ (x : Guest). with_slot x k (Some (meaning view backing out.place mid q))) behind.image_step.seen

  means_same : meaning view backing out.place mid p ≡ meaning view backing out.place old p
  means_same =
      let both : Some (meaning view backing out.place mid p) ≡ Some (meaning view backing out.place old p) =
      sym (ap (meaning_at (meaning view backing out.place mid)) at) ∙ ap (λ (x : Guest). x.slots k) behind.image_step.seen ∙ ap (meaning_at (meaning view backing out.place old)) at in
      cc

  ends : rounded_up (cluster_size h) (p.guest + min n (p.length + cluster_size old.file.header.fields)) ≡ (cluster_of h p + length p.clusters.items) * cluster_size h + cluster_size h
  ends =
      let guest_is : p.guest / cluster_size h * cluster_size h + p.guest % cluster_size h ≡ p.guest = div-add-mod' p.guest (cluster_size h) in
      let both : (cluster_of h p + length p.clusters.items) * cluster_size h ≡ cluster_of h p * cluster_size h + length p.clusters.items * cluster_size h = omega arith in
      let w = whole in
      let lt = longer in
      let le = no_longer in
      rounds_to (cluster_size h) (p.guest + min n (p.length + cluster_size old.file.header.fields)) (cluster_of h p + length p.clusters.items) some_size (omega arith) (omega arith)

  module _ (was : IsPrepared (cluster_size old.file.header.fields) (guest_of (abstract_of view backing old out)).disk p.guest n overwrite (meaning view backing out.place old p)) where
    inside : (o : ℕ) → IsTrue (is_private view backing mid q o) → (p.guest / cluster_size h * cluster_size h ≤ o) × (o < rounded_up (cluster_size h) (p.guest + min n (p.length + cluster_size old.file.header.fields)))
    inside o private =
        let shared = private_shared view backing mid q o private in
        let there = slice_get_within like.clusters.items shared.index shared.cluster_mapping shared.is in
        let few = count in
        let o_is : o / cluster_size h * cluster_size h + o % cluster_size h ≡ o = div-add-mod' o (cluster_size h) in
        let o_lt = mod_below o (cluster_size h) some_size in
        let here : o / cluster_size h * cluster_size h ≡ (cluster_of h p + shared.index) * cluster_size h = ap (λ c. c * cluster_size h) shared.here in
        let split : (cluster_of h p + shared.index) * cluster_size h ≡ cluster_of h p * cluster_size h + shared.index * cluster_size h = omega arith in
        let rest : length p.clusters.items ≡ shared.index + (length p.clusters.items - shared.index) = omega arith in
        let more : (cluster_of h p + length p.clusters.items) * cluster_size h ≡ (cluster_of h p + (shared.index + (length p.clusters.items - shared.index))) * cluster_size h = ap (λ m. (cluster_of h p + m) * cluster_size h) rest in
        let parts : (cluster_of h p + (shared.index + (length p.clusters.items - shared.index))) * cluster_size h ≡ cluster_of h p * cluster_size h + shared.index * cluster_size h + (length p.clusters.items - shared.index) * cluster_size h = omega arith in
        let end = ends in
        (omega arith, omega arith)

    old_values : (o : ℕ) → IsTrue (is_private view backing mid q o) → (overwrite && is_within p.guest (min n (min n (p.length + cluster_size old.file.header.fields))) o ≡ false) → (meaning view backing out.place mid q).shown o ≡ (guest_of (abstract_of view backing old out)).disk.value o
    old_values o private opened =
        let shared = private_shared view backing mid q o private in
        ⊎_elim
        (λ (before : slice_get p.clusters.items shared.index ≡ Some shared.cluster_mapping).
        let private_p : IsTrue (is_private view backing mid p o) = private_is view backing mid p o shared.index shared.cluster_mapping shared.here before ∙ shared.entered in
        let lt = longer in
        ap known_byte (cond-true _ _ _ private ∙ sym (cond-true _ _ _ private_p))
        ∙ ap (λ (m : PreparedMapping). m.shown o) means_same
        ∙ was.old_values o (subst (λ (m : PreparedMapping). IsTrue (m.is_private o)) means_same private_p) (announced_less overwrite p.guest (min n (min n (p.length + cluster_size old.file.header.fields))) (min n p.length) o (omega arith) opened))
        (λ (last : (shared.index ≡ length p.clusters.items) × (shared.cluster_mapping ≡ cluster_mapping)).
        ap known_byte (cond-true _ _ _ private)
        ∙ behind.filled o (shared.here ∙ ap (λ i. cluster_of h p + i) last.0) (subst (λ (x : ClusterMapping). IsTrue (is_entered x)) last.1 shared.entered)
        (announced_less overwrite p.guest (min n (min n (p.length + cluster_size old.file.header.fields))) (min n (p.length + cluster_size h)) o (let same = size in omega arith) opened))
        (its_mapping shared.index shared.cluster_mapping shared.is)

    still_prepared : IsPrepared (cluster_size old.file.header.fields) (guest_of (abstract_of view backing old out)).disk p.guest n overwrite (meaning view backing out.place mid q)
    still_prepared = subst (λ (x : HeaderFields). IsPrepared (cluster_size x) (guest_of (abstract_of view backing old out)).disk p.guest n overwrite (meaning view backing out.place mid q)) behind.image_step.header (record {
      from = refl;
      some = λ any. let lt = longer in omega arith;
      most = λ past. absurd (omega (arith, past));
      inside = inside;
      old_values = old_values;
    })

  pub extended : StateInvariant (state_in view old.file (pending_in view backing old out)) → IsExtended view backing old mid out k n overwrite p q
  extended was = record {
    works = stepped_works view backing old mid out now nothing_given behind.pending (steps was);
    sound = stepped_sound view backing old mid out now nothing_given behind.pending (steps was);
    header = behind.image_step.header;
    covers = behind.image_step.covers;
    prepared = still_prepared;
    is = seen_now;
  }
