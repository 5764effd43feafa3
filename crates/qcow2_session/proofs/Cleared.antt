-- Clearing a range is one step of a run.
use Rattle.std.proofs.Common.{◌≡◌, ◌∷◌, ◌+◌, ◌<◌, ◌≤◌, ◌&&◌, [], inl, inr, refl, sym, ap, ◌∙◌, subst, ℕ, Bool, true, false, IsTrue, List, Option, Some, None, arith, Result, Ok, Err, not}
use Rattle.qcow2_session.proofs.Common.{IfOk, IfSome, OnOk, nat_lt, option_or, cases_lt, lt-ltb, common_steps, BackingView, StorageView, HeaderFields, header, cluster_size, Setting, Clearing, cleared_at, given_by_clear, with_disk, State, RefinesState, RefinesCommand, clear, done_as, refused_as, ImageError, known_in, AnswersGiving, from_in, refuses_clearing, setting_of, to_in, Qcow2, Prepared, CountsImageFaults, is_writable, size_of, ImageInvariant, abstract_of, disk_of, pending_in, passes, refuse_if, unusable, header_is, disk_size, reply_of, reply_of_clearing, CommandCounts, ReportsRange, Reply, Mappings}
use Rattle.qcow2_disk.specs.ClearedCovers.{ClearsCovers, IsRightlyCleared, needs_zeros, rounds_past}
use Rattle.qcow2_disk.specs.Rules.{answered, touched_from, touched_to}
use Rattle.qcow2_alloc.specs.declared.error.ImageError.TheVariants as I
use Rattle.qcow2_session.proofs.Lemmas.{error_is, first_of_all, not_both, does_if}

-- ---- what is answered was not to be refused

-- it lies within the size, entries can say what is asked, and it ends within 64 bits
allowed : (P : ImageError → Type 0) → ((e : ImageError) → P e → ⊥) → (u : Option ImageError) (a b c d : Bool)
    → IfSome (option_or u (option_or (refuse_if a I.ReadOnly) (option_or (refuse_if b I.BeyondSize) (option_or (refuse_if c I.Version) (refuse_if d I.Overflow))))) P → (b ≡ false) × (c ≡ false) × (d ≡ false)
allowed P never (Some e) a b c d early = absurd (never e early)
allowed P never None true b c d early = absurd (never I.ReadOnly early)
allowed P never None false true c d early = absurd (never I.BeyondSize early)
allowed P never None false false true d early = absurd (never I.Version early)
allowed P never None false false false true early = absurd (never I.Overflow early)
allowed P never None false false false false early = (refl, refl, refl)

inside : (size offset n : ℕ) → passes size offset n ≡ false → 0 < n → offset + n ≤ size
inside size offset n fits some = elim (cases_lt size (offset + n)) [
  | inr le ↦ le
  | inl past ↦ let passed : passes size offset n ≡ true = grind (arith, common_steps) in absurd (let no : true ≡ false = sym passed ∙ fits in cc)
]

third : (needs : Bool) (version : ℕ) → (needs && nat_lt version 3) ≡ false → IsTrue needs → 3 ≤ version
third true version fits needs = elim (cases_lt version 3) [
  | inr le ↦ le
  | inl older ↦ absurd (let no : true ≡ false = sym (lt-ltb version 3 older) ∙ fits in cc)
]
third false version fits needs = absurd (let no : false ≡ true = needs in cc)

module _ {S F : Type 0} (view : S → StorageView) (backing : F → BackingView) (old new : Qcow2 S F) (how : Clearing) (offset n : ℕ) where
  -- what an image's call answers, whose whole clusters show this then
  abbrev IsCleared : Result (ℕ × ℕ) ImageError → Type 0
  IsCleared r =
      AnswersGiving view backing old new (λ place. given_by_clear (setting_of view backing old) (disk_of view backing place old) how offset n ∷ [])
      (λ range was is. (range ≡ answered (setting_of view backing old).cluster_size was.disk.size offset n) × (is ≡ with_disk was (cleared_at (setting_of view backing old) was.disk how offset n))) r

  -- what is refused before any work, and the mappings of guest clusters if it succeeds
  abbrev IsEarly : Result (ℕ × ℕ) ImageError → Type 0
  IsEarly r = IfSome (refuses_clearing old offset n how) (λ e. (r ≡ Err e) × (new ≡ old))

  abbrev IsCovered : Result (ℕ × ℕ) ImageError → Type 0
  IsCovered r = (out : Mappings) → (abstract_of view backing old out).is_sound
      → OnOk r (ClearsCovers how (from_in old offset n) (to_in old offset n) old.file.header.fields (known_in view old.file) new.file.header.fields (known_in view new.file))

  module _ (out : Mappings) (sound : ImageInvariant view backing (pending_in view backing old out) old out) (sound' : ImageInvariant view backing (pending_in view backing new out) new out) where
    -- the same of the headers that the known bytes hold
    rightly_cleared : (passes (size_of old) offset n ≡ false) × ((needs_zeros how && nat_lt old.file.header.fields.version 3) ≡ false) × (rounds_past (cluster_size old.file.header.fields) (size_of old) offset n ≡ false)
        → ClearsCovers how (from_in old offset n) (to_in old offset n) old.file.header.fields (known_in view old.file) new.file.header.fields (known_in view new.file)
        → IsRightlyCleared how (known_in view old.file) (known_in view new.file) offset n
    rightly_cleared fits covers =
        let was = sym (header_is view backing old out sound) in
        record {
          version = subst (λ (h : HeaderFields). IsTrue (needs_zeros how) → 3 ≤ h.version) was (third (needs_zeros how) old.file.header.fields.version fits.1);
          near = subst (λ (h : HeaderFields). rounds_past (cluster_size h) h.size offset n ≡ false) was fits.2;
          covers = subst (λ (h : HeaderFields). ClearsCovers how (touched_from (cluster_size h) offset) (touched_to (cluster_size h) h.size offset n) h (known_in view old.file) (header (known_in view new.file)) (known_in view new.file)) was
              (subst (λ (h : HeaderFields). ClearsCovers how (from_in old offset n) (to_in old offset n) old.file.header.fields (known_in view old.file) h (known_in view new.file)) (sym (header_is view backing new out sound')) covers);
        }

  clears_as : (out : Mappings) (x : Setting) (s : State) (r : Result (ℕ × ℕ) ImageError) → RefinesState x (abstract_of view backing old out) s → IsEarly r → IsCovered r → IsCleared r
      → RefinesCommand x (abstract_of view backing old out) (abstract_of view backing new out) s (clear how offset n) (reply_of (reply_of_clearing r))
  clears_as out x s (Ok range) stands early covers sees =
      let fits = allowed _ (λ e h. not_both h) (unusable old) (not (is_writable old)) (passes (size_of old) offset n) (needs_zeros how && nat_lt old.file.header.fields.version 3) (rounds_past (cluster_size old.file.header.fields) (size_of old) offset n) early in
      done_as x _ _ s _ _ _ refl stands
      (record {
        sized = λ _. tt;
        failed = λ f. absurd (not_both (first_of_all old _ _ early f));
        may = λ sound some. subst (λ size. offset + n ≤ size) (disk_size view backing old out sound) (inside (size_of old) offset n fits.0 some);
      })
      (does_if (λ h. (ap (λ (r : ℕ × ℕ). r.0) h.0, ap (λ (r : ℕ × ℕ). r.1) h.0, h.1)) (sees out)) (λ f. f) (λ _ _. refl) (λ sound. rightly_cleared out sound ((sees out).answer sound).0 fits (covers out sound))
  clears_as out x s (Err e) stands early covers sees = refused_as x _ _ s _ _ _ _ refl stands (record { sized = λ _. tt; failed = λ f. error_is (first_of_all old _ _ early f); may = λ _. tt }) (sees out) (λ f. f) (λ f. f) (λ _ _. refl) tt

  pub clears_command_step : (out : Mappings) (x : Setting) (s : State) (r : Result (ℕ × ℕ) ImageError) (reply : Reply) → reply ≡ reply_of_clearing r → RefinesState x (abstract_of view backing old out) s → IsEarly r → IsCovered r → IsCleared r
      → RefinesCommand x (abstract_of view backing old out) (abstract_of view backing new out) s (clear how offset n) (reply_of reply)
  clears_command_step out x s r reply is stands early covers sees =
      subst (λ q. RefinesCommand x (abstract_of view backing old out) (abstract_of view backing new out) s (clear how offset n) (reply_of q)) (sym is) (clears_as out x s r stands early covers sees)

-- the range that clearing returns, whatever the image contains
pub range_told : {S F : Type 0} (view : S → StorageView) (backing : F → BackingView) (old new : Qcow2 S F) (offset n : ℕ) (r : Result (ℕ × ℕ) ImageError) (reply : Reply) → reply ≡ reply_of_clearing r
    → IfOk r (λ range. range ≡ answered (cluster_size old.file.header.fields) (size_of old) offset n) → ReportsRange view backing old new offset n reply
range_told {S = S} {F = F} view backing old new offset n r reply is range = subst (λ q. ReportsRange view backing old new offset n q) (sym is) (by r range)
  where
    by : (q : Result (ℕ × ℕ) ImageError) → IfOk q (λ range. range ≡ answered (cluster_size old.file.header.fields) (size_of old) offset n) → ReportsRange view backing old new offset n (reply_of_clearing q)
    by (Ok range) is = is
    by (Err e) is = tt

-- the failures that it counted
pub clearing_counted : {S F : Type 0} (view : S → StorageView) (backing : F → BackingView) (old new : Qcow2 S F) (r : Result (ℕ × ℕ) ImageError) (reply : Reply) → reply ≡ reply_of_clearing r
    → CountsImageFaults view backing old new r → CommandCounts view backing old new reply
clearing_counted {S = S} {F = F} view backing old new r reply is counts = subst (λ q. CommandCounts view backing old new q) (sym is) (by r counts)
  where
    by : (q : Result (ℕ × ℕ) ImageError) → CountsImageFaults view backing old new q → CommandCounts view backing old new (reply_of_clearing q)
    by (Ok range) counts = record { no_fewer = counts.no_fewer; rose = tt; told = counts.told }
    by (Err e) counts = record { no_fewer = counts.no_fewer; rose = counts.rose; told = counts.told }
