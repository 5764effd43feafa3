-- Growing over every disk below, part by part, and what flushing leaves.
use Rattle.std.proofs.Common.{◌≡◌, ◌-◌, ◌*◌, ◌/◌, ◌<◌, ◌≤◌, ◌∷◌, ◌++◌, inl, inr, ℕ, List, [], Option, Result, Ok, Err, Bool, true, refl, sym, ap, subst, arith}
use Rattle.qcow2_image.proofs.Common.{div-lt_iff_lt-mul, BackingView, StorageView, passes_none, PreallocateMode, byte_at, HeaderFields, cluster_size, entries_per_cluster, shows_old, Checkpoint, StopOkEverywhere, checkpoint_with, Pending, guests, SafeStep, places_of, with_places, Sizes, more_twice, safe_throughout_asking, safe_throughout_then, with_listed, known_in, nothing_given, state_in, view_in, ImageError, Extends, Lasts, LastsCall, LastsKnown, LastsPart, WritesBack, is_failed, with_marks, FreesListed, InternalFreeingStep, RefusedMove, Qcow2, Prepared, Mappings, in_image}
use Rattle.image_access.specs.declared.storage.PreallocateMode.TheVariants as Mode
use Rattle.qcow2_disk.proofs.Stops.{kept_more}
use Rattle.qcow2_image.proofs.Call.Marked.{MayMarkBy}
use Rattle.qcow2_image.proofs.Images.Moved.{format_stay}

-- an entry after the last byte's reaches the size
pub reaches_so : (h : HeaderFields) (size i : ℕ) → Sizes h → i ≡ (size - 1) / cluster_size h / entries_per_cluster h → i < h.l1_entries → size ≤ guests h * cluster_size h
reaches_so h size i sizes is lt =
    let entry = (div-lt_iff_lt-mul sizes.entries).0 (subst (λ n. n < h.l1_entries) is lt) in
    let byte = (div-lt_iff_lt-mul sizes.some).0 entry in
    omega (arith, byte)

-- one mode alone shows the old bytes
pub shown_none : (mode : PreallocateMode) → shows_old mode ≡ true → mode ≡ Mode.None
shown_none Mode.None shows = refl
shown_none _ shows = absurd cc

module _ {S F : Type 0} (view : S → StorageView) where
  -- ---- over every disk below
  -- nothing happens
  pub lasts_none : (a : Qcow2 S F) (asked : List ℕ) → LastsKnown view a a asked
  lasts_none a asked = record {
    since = record { moments = passes_none (view_in view a.file) _; contents = λ below m ok known. kept_more below [] asked m (byte_at (view_in view a.file).contents) ok };
    known = λ below m ok known. kept_more below [] asked m (known_in view a.file) known;
  }

  -- a step that is safe
  pub lasts_step : (p q : Pending) (a b : Qcow2 S F) → SafeStep (state_in view a.file p) (state_in view b.file q) nothing_given [] → Lasts view a b [] → LastsKnown view a b []
  lasts_step p q a b safe_step since = record { since = since; known = λ below m ok known. safe_step.known below m ok known }

  -- one part after another
  pub lasts_then : (a b c : Qcow2 S F) (asked asks : List ℕ) → LastsKnown view a b asked → Lasts view b c asks → Lasts view a c (asks ++ asked)
  lasts_then a b c asked asks first then = safe_throughout_then (view_in view a.file) (view_in view b.file) (view_in view c.file) (known_in view a.file) (known_in view b.file) nothing_given nothing_given asked asks first.since first.known then

  pub known_then : (a b c : Qcow2 S F) (asked asks : List ℕ) → LastsKnown view a b asked → LastsKnown view b c asks → LastsKnown view a c (asks ++ asked)
  known_then a b c asked asks first then = record {
    since = lasts_then a b c asked asks first then.since;
    known = λ below m ok known. subst (λ (k : Checkpoint). StopOkEverywhere below k (known_in view c.file)) (sym (more_twice [] [] asked asks m))
        (then.known below (checkpoint_with [] asked m) (first.since.contents below m ok known) (first.known below m ok known));
  }

  -- a part that asks for nothing is one that asks for a size
  pub lasts_asking : (a b : Qcow2 S F) (size : ℕ) → Lasts view a b [] → Lasts view a b (size ∷ [])
  lasts_asking a b size lasts = safe_throughout_asking (view_in view a.file) (view_in view b.file) (known_in view a.file) nothing_given [] (size ∷ []) lasts

  pub call_none : (a : Qcow2 S F) (asked : List ℕ) (r : Result (Unit {0}) ImageError) → LastsCall view asked a a r
  call_none a asked (Ok x) = lasts_none a asked
  call_none a asked (Err e) = (lasts_none a asked).since

  pub call_then : (a b c : Qcow2 S F) (size : ℕ) (r : Result (Unit {0}) ImageError) → LastsKnown view a b [] → LastsCall view (size ∷ []) b c r → LastsCall view (size ∷ []) a c r
  call_then a b c size (Ok x) first then = known_then a b c [] (size ∷ []) first then
  call_then a b c size (Err e) first then = lasts_then a b c [] (size ∷ []) first then

  pub call_since : (a b : Qcow2 S F) (asked : List ℕ) (r : Result (Unit {0}) ImageError) → LastsCall view asked a b r → Lasts view a b asked
  call_since a b asked (Ok x) lasts = lasts.since
  call_since a b asked (Err e) lasts = lasts

  -- the image is marked then
  pub call_marked : (a b : Qcow2 S F) (recorded failed : Bool) (size : ℕ) (r : Result (Unit {0}) ImageError) → LastsCall view (size ∷ []) a b r → LastsCall view (size ∷ []) a (with_marks b recorded failed) r
  call_marked a b recorded failed size (Ok x) lasts = record { since = lasts.since; known = lasts.known }
  call_marked a b recorded failed size (Err e) lasts = lasts

  module _ (backing : F → BackingView) (out : Mappings) where
    -- a longer L1 table
    pub moved_part : (p q : Pending) (a b : Qcow2 S F) (e : ImageError) → RefusedMove view backing p a b out e → LastsPart view a b (Err e)
    moved_part p q a b e left = elim left [
      | inl keeps ↦ inl (lasts_step p _ a b keeps.safe_step keeps.since)
      | inr interruption ↦ inr (interruption.interrupted.fault, interruption.interrupted.since)
    ]

    -- what is listed is freed
    pub freed_since : (p : Pending) (a b : Qcow2 S F) (r : Result (Unit {0}) ImageError) → FreesListed view backing p a b out r → Lasts view a b []
    freed_since p a b (Ok x) frees = frees.since
    freed_since p a b (Err e) frees = elim frees [ inl freeing_step ↦ freeing_step.since | inr interruption ↦ interruption.interrupted.since ]

    pub freed_part : (p : Pending) (a b c : Qcow2 S F) (r : Result (Unit {0}) ImageError) → LastsKnown view a b [] → FreesListed view backing p b c out r → LastsPart view a c r
    freed_part p a b c (Ok x) first frees = known_then a b c [] [] first (lasts_step _ _ b c frees.safe_step frees.since)
    freed_part p a b c (Err e) first frees = elim frees [
      | inl freeing_step ↦ inl (known_then a b c [] [] first (lasts_step _ _ b c freeing_step.safe_step freeing_step.since))
      | inr interruption ↦ inr (interruption.interrupted.fault, lasts_then a b c [] [] first interruption.interrupted.since)
    ]

module _ {S F : Type 0} (view : S → StorageView) (backing : F → BackingView) where
  -- ---- what is listed is freed, and all tables are written
  extends_tidying : (p q : Pending) (a b : Qcow2 S F) → InternalFreeingStep view backing p q a b (in_image []) → Extends view backing q a b
  extends_tidying p q a b freeing_step = record {
    sound = freeing_step.sound;
    since = freeing_step.since;
    format = subst (λ (h : HeaderFields). h ≡ with_places a.file.header.fields (places_of h)) (sym freeing_step.unseen.header) refl;
    autoclear = ap (λ (h : HeaderFields). h.autoclear) freeing_step.unseen.header;
  }

  pub written_back : (p : Pending) (old big new : Qcow2 S F) (done r : Result (Unit {0}) ImageError) → FreesListed view backing p old big (in_image []) done → r ≡ done → new ≡ record big { is_failed = is_failed new } → MayMarkBy done (is_failed big) (is_failed new)
      → WritesBack view backing p old new r
  written_back p old big new done r frees answer rest marks =
      subst (λ (s : Result (Unit {0}) ImageError). WritesBack view backing p old new s) (sym answer) (subst (λ (i : Qcow2 S F). WritesBack view backing p old i done) (sym rest) (back done (is_failed new) marks frees))
    where
      back : (s : Result (Unit {0}) ImageError) (failed : Bool) → MayMarkBy s (is_failed big) failed → FreesListed view backing p old big (in_image []) s → WritesBack view backing p old (record big { is_failed = failed }) s
      back (Ok x) failed marks freeing_step =
          subst (λ (f : Bool). WritesBack view backing p old (record big { is_failed = f }) (Ok x)) (sym marks)
          (extends_tidying (with_listed p old.file.free_list) (with_listed p big.file.free_list) old big freeing_step, freeing_step.unseen.header, format_stay old.file.header.fields big.file.header.fields (known_in view old.file) (known_in view big.file) freeing_step.unseen.header freeing_step.unseen.covers)
      back (Err e) failed marks frees = elim frees [ inl freeing_step ↦ freeing_step.since | inr interruption ↦ interruption.interrupted.since ]
