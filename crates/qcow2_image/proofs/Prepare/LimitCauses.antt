-- Why a part of a call was refused for a limit: the cause still holds together with the parts before and after it.
use Rattle.std.proofs.Common.{◌≡◌, ◌⊎◌, ◌+◌, ◌<◌, ◌≤◌, ◌∷◌, ◌++◌, ◌-◌, ◌*◌, ◌/◌, ◌^◌, inl, inr, ℕ, List, [], Option, Some, Result, Ok, Err, refl, sym, ap, ◌∙◌, subst, arith, IfErr, IsErr, IsErrAnd, IsSome, None, max, length}
use Rattle.qcow2_image.proofs.Common.{ImageStays, IsBegun, ImageStep, AllocatesDataAt, RefusedFillingStep, AllocatesData, InternalFillingStep, pending_with_listed, GoesTo, IfLimit, IsLimited, IsLimitedAmong, IsLimitedIn, IsLimitedTaking, IsLimitedInternal, IsLimitedWith, LacksPlace, l1_clusters, cases_lt, le-div, pow_pos, OnOk, BackingView, StorageView, EntryTableView, HasRoomIfPlaced, entry_count, IsHostCluster, HeaderView, cluster_size, Pending, ClustersToFreeEntry, ImageError, IsFault, KeepsHeader, IsFaultOr, EffectOnSound, Value, GivenBytes, IsGiven, TouchesLess, works_less, works_then, RefusedCall, InternalCall, Qcow2, Prepared, ImageInvariant, abstract_of, image_abstraction, pending_in, IsLongerL1, clusters_of, l1_index_of, L1EntryOverflows, EndsBefore, HasNearEntry, IsPlacedNear, IsFaultOrLimit, IsUnlimited, handed_on, Mappings, abstraction_at}
use Rattle.qcow2_image.proofs.Call.BehindHeader.{behind_begun, behind_then}
use Rattle.qcow2_alloc.specs.declared.error.ImageError.TheVariants as I
use Rattle.qcow2_image.proofs.Call.Refused.{image_step_stays, stays_kept}
use Rattle.qcow2_image.proofs.Call.Unlimited.{fault_unlimited}
use Rattle.qcow2_image.proofs.Images.Free.{free_places, data_inside}
use Rattle.qcow2_image.proofs.Preallocate.Pieces.{enters, none_of}
use Rattle.qcow2_disk.proofs.Stops.{given_front, given_more}
use Rattle.qcow2_image.proofs.Images.Places.{put_first}

-- ---- refusals
pub limited_not : (e : ImageError) → IsUnlimited e → e ≡ I.Limit → ⊥
limited_not e none is = subst IsUnlimited is none

pub other_limit : (C : Type 0) (e : ImageError) → IsUnlimited e → e ≡ I.Limit → C
other_limit C e none is = absurd (limited_not e none is)

-- what passed no limit needs no cause
pub unlimited_all : {A : Type 0} (r : Result A ImageError) (C : Type 0) → IfErr r IsUnlimited → IfLimit r C
unlimited_all (Ok x) C none = tt
unlimited_all (Err e) C none = other_limit C e none

pub faults_unlimited : {A : Type 0} (r : Result A ImageError) → IfErr r IsFault → IfErr r IsUnlimited
faults_unlimited (Ok x) fault = tt
faults_unlimited (Err e) fault = fault_unlimited e fault

pub faults_or_limit : {A : Type 0} (r : Result A ImageError) → IfErr r IsFault → IfErr r IsFaultOrLimit
faults_or_limit (Ok x) fault = tt
faults_or_limit (Err e) fault = inl fault

-- a refusal for a limit that isn't a fault has its cause
pub cause_of : (C : Type 0) (e : ImageError) → IsFaultOr C e → e ≡ I.Limit → C
cause_of C e why is = elim why [ inl fault ↦ other_limit C e (fault_unlimited e fault) is | inr cause ↦ cause.1 ]

-- ---- handed on
pub hands_limit : {A C : Type 0} (r : Result A ImageError) (e : ImageError) → IsErr r × IsErrAnd r (λ x. x ≡ e) → (e ≡ I.Limit → C) → IfLimit r C
hands_limit {A} {C} r e on why = handed_on (λ (x : Result _ _). IfLimit x C) r e on why

pub hands_unlimited : {A : Type 0} (r : Result A ImageError) (e : ImageError) → IsErr r × IsErrAnd r (λ x. x ≡ e) → IsUnlimited e → IfErr r IsUnlimited
hands_unlimited r e on none = handed_on (λ (x : Result _ _). IfErr x IsUnlimited) r e on none

pub hands_fault : {A : Type 0} (r : Result A ImageError) (e : ImageError) → IsErr r × IsErrAnd r (λ x. x ≡ e) → IsFault e → IfErr r IsFault
hands_fault r e on fault = handed_on (λ (x : Result _ _). IfErr x IsFault) r e on fault

pub hands_either : {A : Type 0} (r : Result A ImageError) (e : ImageError) → IsErr r × IsErrAnd r (λ x. x ≡ e) → IsFaultOrLimit e → IfErr r IsFaultOrLimit
hands_either r e on why = handed_on (λ (x : Result _ _). IfErr x IsFaultOrLimit) r e on why

-- another cause that follows
pub limits_as : {A C D : Type 0} (r : Result A ImageError) → (C → D) → IfLimit r C → IfLimit r D
limits_as (Ok x) to why = tt
limits_as (Err e) to why = λ is. to (why is)

-- ---- a limit that was passed, seen from an earlier state
module _ {S F : Type 0} {view : S → StorageView} where
  pub goes_step : {a b : Qcow2 S F} → ImageStep view a b → GoesTo view a b
  goes_step step = record { image = step.stays.image; header_cluster = step.header_cluster }

  pub goes_begun : {a b : Qcow2 S F} → ImageStays a b → IsBegun a b → GoesTo view a b
  goes_begun stays begun = record { image = stays.image; header_cluster = behind_begun view begun }

  pub goes_then : {a b c : Qcow2 S F} → GoesTo view a b → GoesTo view b c → GoesTo view a c
  goes_then first then = record { image = record { number = then.image.number ∙ first.image.number; size = then.image.size ∙ first.image.size; writable = then.image.writable ∙ first.image.writable; lacks = then.image.lacks ∙ first.image.lacks; beside = then.image.beside ∙ first.image.beside }; header_cluster = behind_then first.header_cluster then.header_cluster }

ungiven_before : (size : ℕ) (first then : List GivenBytes) → TouchesLess size first (first ++ then)
ungiven_before size [] then g not = tt
ungiven_before size (x ∷ first) then g not = (not.0, ungiven_before size first then g not.1)

ungiven_behind : (size : ℕ) (first then : List GivenBytes) → TouchesLess size then (first ++ then)
ungiven_behind size [] then g not = not
ungiven_behind size (x ∷ first) then g not = ungiven_behind size first then g not.1

-- ---- a limit that a part passed, of a call
module _ {S F : Type 0} {view : S → StorageView} where
  -- from a state before it
  pub limited_in_since : {Keeps Keeps' : Qcow2 S F → Type 0} {end : ℕ} {old mid : Qcow2 S F} → GoesTo view old mid → ((image : Qcow2 S F) → Keeps image → Keeps' image) → IsLimitedIn view Keeps end mid → IsLimitedIn view Keeps' end old
  limited_in_since goes keeps may_fail = record { mid = may_fail.mid; before = goes_then goes may_fail.before; kept = keeps may_fail.mid may_fail.kept; offset = may_fail.offset; below = may_fail.below; limit = may_fail.limit }

module _ {S F : Type 0} {view : S → StorageView} {backing : F → BackingView} {end : ℕ} {old : Qcow2 S F} {out : Mappings} where
  called : (Keeps : Qcow2 S F → Type 0) → ((mid : Qcow2 S F) → Keeps mid → InternalCall view backing old mid out) → IsLimitedIn view Keeps end old → IsLimitedAmong view backing [] end old out
  called Keeps call may_fail = record { mid = may_fail.mid; now = out; before = may_fail.before; few = omega arith; works = (call may_fail.mid may_fail.kept).works; sound = (call may_fail.mid may_fail.kept).sound; offset = may_fail.offset; below = may_fail.below; limit = may_fail.limit }

  -- a part of a call that no guest sees
  pub limited_unseen : ImageInvariant view backing (pending_in view backing old out) old out → IsLimitedInternal view backing (pending_in view backing old out) end old out → IsLimitedAmong view backing [] end old out
  limited_unseen sound may_fail = called _ (λ mid keeps. stays_kept view backing out old mid sound keeps) may_fail

  -- one that took a cluster for data
  pub limited_taking : ImageInvariant view backing (pending_in view backing old out) old out → IsLimitedTaking view backing (pending_in view backing old out) end old out → IsLimitedAmong view backing [] end old out
  limited_taking sound may_fail = called _ (λ mid keeps. image_step_stays view backing out old mid sound keeps) may_fail

-- a place more for a mapping
pub places_enter : {S F : Type 0} (view : S → StorageView) (backing : F → BackingView) (image : Qcow2 S F) (out : Mappings) → EffectOnSound (abstract_of view backing image out) (abstract_of view backing image (put_first None out)) [] []
places_enter view backing image out = enters (abstraction_at view backing out.place) (free_places view backing out.place) (data_inside view backing out.place) image out.slots

-- ---- a limit that was passed, seen from an earlier state
module _ {S F : Type 0} {view : S → StorageView} {backing : F → BackingView} where
  pub limited_from : {most most' near far : ℕ} {given : List GivenBytes} {old mid : Qcow2 S F} {out between : Mappings} → most ≤ most' → near ≤ far → GoesTo view old mid → ImageInvariant view backing (pending_in view backing mid between) mid between
      → EffectOnSound (abstract_of view backing old out) (abstract_of view backing mid between) given [] → IsLimitedWith view backing most given near mid between → IsLimitedWith view backing most' given far old out
  limited_from {given = given} {old = old} {mid = mid} {out = out} {between = between} more upto goes sound works may_fail = record {
    mid = may_fail.mid;
    now = may_fail.now;
    before = goes_then goes may_fail.before;
    few = let few = may_fail.few in omega (arith, more, few);
    works = works_then (abstract_of view backing old out) (abstract_of view backing mid between) (abstract_of view backing may_fail.mid may_fail.now) given [] sound works may_fail.works;
    sound = may_fail.sound;
    offset = may_fail.offset;
    below = let lt = may_fail.below in omega (arith, upto, lt);
    limit = may_fail.limit;
  }

  -- with room for more mappings, up to a further end
  pub limited_within : {most most' near far : ℕ} {given : List GivenBytes} {old : Qcow2 S F} {out : Mappings} → most ≤ most' → near ≤ far → IsLimitedWith view backing most given near old out → IsLimitedWith view backing most' given far old out
  limited_within more upto may_fail = record {
    mid = may_fail.mid;
    now = may_fail.now;
    before = may_fail.before;
    few = let few = may_fail.few in omega (arith, more, few);
    works = may_fail.works;
    sound = may_fail.sound;
    offset = may_fail.offset;
    below = let lt = may_fail.below in omega (arith, upto, lt);
    limit = may_fail.limit;
  }

  -- of a call that may give more
  pub limited_giving : {most end : ℕ} (given : List GivenBytes) {old : Qcow2 S F} {out : Mappings} → IsLimitedWith view backing most [] end old out → IsLimitedWith view backing most given end old out
  limited_giving given may_fail = record { mid = may_fail.mid; now = may_fail.now; before = may_fail.before; few = may_fail.few; works = none_of _ _ given may_fail.works; sound = may_fail.sound; offset = may_fail.offset; below = may_fail.below; limit = may_fail.limit }

  -- of one that gives all that this gave
  pub limited_less : {most end : ℕ} (given fewer : List GivenBytes) {old : Qcow2 S F} {out : Mappings} → ((o : ℕ) (w : Value) → IsGiven given o w → IsGiven fewer o w) → TouchesLess (cluster_size old.file.header.fields) given fewer
      → IsLimitedWith view backing most given end old out → IsLimitedWith view backing most fewer end old out
  limited_less given fewer within touches may_fail = record { mid = may_fail.mid; now = may_fail.now; before = may_fail.before; few = may_fail.few; works = works_less _ _ given fewer [] (λ o w is. inr (within o w is)) touches may_fail.works; sound = may_fail.sound; offset = may_fail.offset; below = may_fail.below; limit = may_fail.limit }

  -- after a part of a call, with what each of them gives
  pub limited_joined : {near far : ℕ} {old mid : Qcow2 S F} {out : Mappings} → near ≤ far → GoesTo view old mid → ImageInvariant view backing (pending_in view backing mid out) mid out → (first : List GivenBytes)
      → EffectOnSound (abstract_of view backing old out) (abstract_of view backing mid out) first [] → ((given : List GivenBytes) × IsLimited view backing given near mid out) → (given : List GivenBytes) × IsLimited view backing given far old out
  limited_joined {old = old} {mid = mid} {out = out} upto goes sound first works may_fail = (
    first ++ may_fail.0,
    limited_from (omega arith) upto goes sound (works_less (abstract_of view backing old out) (abstract_of view backing mid out) first (first ++ may_fail.0) [] (λ o w is. inr (given_front first may_fail.0 o w is)) (ungiven_before (cluster_size old.file.header.fields) first may_fail.0) works)
        (limited_less may_fail.0 (first ++ may_fail.0) (given_more first may_fail.0) (ungiven_behind (cluster_size mid.file.header.fields) first may_fail.0) may_fail.1),
  )

  pub limited_more : {end : ℕ} {given : List GivenBytes} {old : Qcow2 S F} {out : Mappings} → IsLimitedAmong view backing given end old out → IsLimited view backing given end old out
  limited_more may_fail = limited_within (omega arith) (omega arith) may_fail

  pub limited_upto : {near far : ℕ} {given : List GivenBytes} {old : Qcow2 S F} {out : Mappings} → near ≤ far → IsLimited view backing given near old out → IsLimited view backing given far old out
  limited_upto upto may_fail = limited_within (omega arith) upto may_fail

  -- after a part that no guest sees
  pub limited_since : {near far : ℕ} {given : List GivenBytes} {old mid : Qcow2 S F} {out : Mappings} → near ≤ far → GoesTo view old mid → InternalCall view backing old mid out → IsLimited view backing given near mid out → IsLimited view backing given far old out
  limited_since {given = given} upto goes call may_fail = limited_from (omega arith) upto goes call.sound (none_of _ _ given call.works) may_fail

-- ---- where clusters were refused
module _ {S F : Type 0} {view : S → StorageView} {Keeps : Qcow2 S F → Type 0} {old : Qcow2 S F} where
  pub limited_left : {C : Type 0} (new : Qcow2 S F) (offset : ℕ) (e : ImageError) → Keeps new ⊎ IsFault e → GoesTo view old new → (C → LacksPlace view offset new) → IsFaultOr C e → e ≡ I.Limit → IsLimitedIn view Keeps (offset + 1) old
  limited_left {C} new offset e left goes lacks why is = elim left [
    | inl keeps ↦ record { mid = new; before = goes; kept = keeps; offset = offset; below = omega arith; limit = inr (lacks (cause_of C e why is)) }
    | inr fault ↦ other_limit _ e (fault_unlimited e fault) is
  ]

module _ {S F : Type 0} (view : S → StorageView) (Keeps : Qcow2 S F → Type 0) (old : Qcow2 S F) where
  pub limits_left : {A C : Type 0} (new : Qcow2 S F) (r : Result A ImageError) → IfErr r (λ e. Keeps new ⊎ IsFault e) → GoesTo view old new → (C → LacksPlace view 0 new) → IfErr r (IsFaultOr C) → IfLimit r (IsLimitedIn view Keeps 1 old)
  limits_left new (Ok x) left goes lacks why = tt
  limits_left new (Err e) left goes lacks why = limited_left {Keeps = Keeps} new 0 e left goes lacks why

module _ {S F : Type 0} (view : S → StorageView) (backing : F → BackingView) (out : Mappings) (p : Pending) (old new : Qcow2 S F) where
  abbrev Fills : Type 0
  Fills = InternalFillingStep view backing p (pending_with_listed p old new) old new out

  -- an allocation that was refused left all sound, or broke off
  pub filling_left : (e : ImageError) → RefusedFillingStep view backing p old new out e → Fills ⊎ IsFault e
  filling_left e left = elim left [ inl stays ↦ inl stays | inr broken ↦ inr broken.interrupted.fault ]

  pub left_taken : (r : Result ClustersToFreeEntry ImageError) → AllocatesData view backing p old new out r → IfErr r (λ e. Fills ⊎ IsFault e)
  left_taken (Ok n) takes = tt
  left_taken (Err e) takes = filling_left e takes

  pub left_taken_at : (cluster : ℕ) (r : Result (Option ClustersToFreeEntry) ImageError) → AllocatesDataAt view backing p old new out cluster r → IfErr r (λ e. Fills ⊎ IsFault e)
  left_taken_at cluster (Ok None) takes = tt
  left_taken_at cluster (Ok (Some n)) takes = tt
  left_taken_at cluster (Err e) takes = filling_left e takes

-- a cluster that can't be counted lies within the format's limits
pub cause_within : {A : Type 0} (C D : Type 0) (r : Result A ImageError) → IfErr r (IsFaultOr C) → IfErr r (λ e. IsFault e ⊎ D) → IfErr r (IsFaultOr (C × D))
cause_within C D (Ok x) why within = tt
cause_within C D (Err e) why within = elim why [ inl fault ↦ inl fault | inr cause ↦ elim within [ inl fault ↦ inl fault | inr low ↦ inr (cause.0, (cause.1, low)) ] ]

-- ---- L1 entries that are near
module _ {S F : Type 0} (view : S → StorageView) (backing : F → BackingView) (out : Mappings) where
  -- an entry that is near lies in a table that has a place
  pub near_placed : (p : Pending) (image : Qcow2 S F) (index : ℕ) → ImageInvariant view backing p image out → HasNearEntry image index → IsSome image.l1_table.cluster
  near_placed p image index sound near =
      let within = near.within in
      let count = sound.l1_table.count in
      subst (λ (o : Option ℕ). IsSome o) (sym (sound.l1_table.cluster (omega (arith, within, count)))) refl

-- an entry that isn't far is near
room_or_not : (bits n : ℕ) (cluster : Option ℕ) → (¬ HasRoomIfPlaced bits n cluster → ⊥) → HasRoomIfPlaced bits n cluster
room_or_not bits n None not = tt
room_or_not bits n (Some cluster) not = elim (cases_lt (cluster * 2 ^ bits + n) (2 ^ 64)) [ inl room ↦ room | inr past ↦ absurd (not (λ room. omega (arith, past, room))) ]

-- nor is one of a table whose first cluster can be named
near_in : (t : EntryTableView) (index : ℕ) → IsPlacedNear t → index < entry_count t → HasRoomIfPlaced t.cluster_bits (8 * index) t.cluster
near_in t index placed within =
    let few = placed.few in
    let near = placed.nameable in
    subst (λ (o : Option ℕ). HasRoomIfPlaced t.cluster_bits (8 * index) o) (sym placed.is) (omega (arith, few, near, within))

module _ {S F : Type 0} where
  pub near_within : (image : Qcow2 S F) (offset : ℕ) → l1_index_of image.file.header.fields offset < entry_count image.l1_table → (L1EntryOverflows image offset → ⊥) → HasNearEntry image (l1_index_of image.file.header.fields offset)
  near_within image offset within not = record { within = within; room = room_or_not image.l1_table.cluster_bits (8 * l1_index_of image.file.header.fields offset) image.l1_table.cluster (λ far. not (record { within = within; far = far })) }

  pub near_longer : (image : Qcow2 S F) (index : ℕ) → IsPlacedNear image.l1_table → index < entry_count image.l1_table → HasNearEntry image index
  near_longer image index placed within = record { within = within; room = near_in image.l1_table index placed within }

-- ---- once the L1 table was made longer
module _ {S F : Type 0} where
  -- the entry is near, whether the table stayed or not
  pub near_reached : (old long : Qcow2 S F) (offset : ℕ) → old.l1_table.cluster_bits ≡ old.file.header.fields.cluster_bits → (L1EntryOverflows old offset → ⊥) → (l1_index_of old.file.header.fields offset < entry_count old.l1_table → long ≡ old)
      → (EndsBefore offset old → old.l1_table.cluster_bits ≡ old.file.header.fields.cluster_bits → IsPlacedNear long.l1_table) → entry_count long.l1_table ≡ max (entry_count old.l1_table) (l1_index_of old.file.header.fields offset + 1)
      → l1_index_of long.file.header.fields offset ≡ l1_index_of old.file.header.fields offset → HasNearEntry long (l1_index_of long.file.header.fields offset)
  near_reached old long offset bits not none placed many index = elim (cases_lt (l1_index_of old.file.header.fields offset) (entry_count old.l1_table)) [
    | inl within ↦ subst (λ (i : Qcow2 S F). HasNearEntry i (l1_index_of i.file.header.fields offset)) (sym (none within)) (near_within old offset within not)
    | inr past ↦ near_longer long (l1_index_of long.file.header.fields offset) (placed past bits) (omega (arith, many, index, past))
  ]

-- ---- a longer table's clusters
module _ {S F : Type 0} (view : S → StorageView) (backing : F → BackingView) (out : Mappings) where
  -- as many as its entries need, and one at least
  pub table_clusters : (p : Pending) (old : Qcow2 S F) → ImageInvariant view backing p old out → (t : EntryTableView) → IsLongerL1 old t → (header : HeaderView) → KeepsHeader old.file.header header → (n : ℕ) → n ≡ clusters_of t
      → (n ≡ l1_clusters header.fields (entry_count t)) × (0 < entry_count t → 0 < n)
  table_clusters p old sound t longer header keeps n is =
      let bits : t.cluster_bits ≡ header.fields.cluster_bits = longer.bits ∙ ap (λ (v : HeaderView). v.fields.cluster_bits) (sym keeps) in
      let size : 2 ^ t.cluster_bits ≡ cluster_size header.fields = ap (λ b. 2 ^ b) bits in (
        is ∙ ap (λ m. (m + 2 ^ t.cluster_bits - 1) / 2 ^ t.cluster_bits) longer.whole ∙ ap (λ m. (8 * entry_count t + m - 1) / m) size,
        λ some. subst (λ m. 0 < m) (sym is) (le-div 1 (length t.bytes + 2 ^ t.cluster_bits - 1) (2 ^ t.cluster_bits) (pow_pos t.cluster_bits) (let whole = longer.whole in let whole_size = pow_pos t.cluster_bits in omega (arith, whole, some, whole_size))),
      )

-- a table that lies where it can be named
pub placed_near : (t : EntryTableView) (cluster bits : ℕ) → entry_count t ≤ 4194304 → t.cluster_bits ≡ bits → IsHostCluster bits cluster → (t' : EntryTableView) (r : Result (Unit {0}) ImageError) → OnOk r (t' ≡ record t { cluster = Some cluster }) → OnOk r (IsPlacedNear t')
placed_near t cluster bits few same near t' (Ok x) is = subst IsPlacedNear (sym is) (record { few = few; cluster = cluster; is = refl; nameable = subst (λ n. IsHostCluster n cluster) (sym same) near })
placed_near t cluster bits few same near t' (Err e) is = tt

module _ {S F : Type 0} (view : S → StorageView) (backing : F → BackingView) (out : Mappings) where
  -- a refused part was followed by freeing, and then a limit refuses: it refused the part too
  pub limited_frees : (old mid new : Qcow2 S F) (e e' : ImageError) → RefusedCall view backing old mid out e → (IsFault e → (e' ≡ e) × (new ≡ mid))
      → (ImageInvariant view backing (pending_in view backing mid out) mid out → (e' ≡ e) ⊎ IsFault e') → e' ≡ I.Limit → e ≡ I.Limit
  limited_frees old mid new e e' left fault told is = elim left [
    | inl stays ↦ elim (told stays.sound) [ inl same ↦ sym same ∙ is | inr now ↦ other_limit _ e' (fault_unlimited e' now) is ]
    | inr broken ↦ sym (fault broken.fault).0 ∙ is
  ]
