-- What a client is sent for a refused call of an image.
use Rattle.std.proofs.Common.{◌≡◌, ◌⊎◌, ◌+◌, ◌<◌, ◌&&◌, [], List, inl, inr, ℕ, Bool, true, false, Option, Some, None, Result, Ok, Err, refl, sym, ap, subst, ◌∙◌, arith}
use Rattle.qimg_nbd.proofs.Common.{IfSome, IsTrue, nat_lt, not, BackingView, StorageView, cluster_size, HeaderFields, known_in, Clearing, IsSameImage, lacks_data_file, is_failed, is_writable, size_of, abstract_of, Qcow2, header_is, DeviceView, Fails, IsFault, IsSameDevice, RefusesToChange, RefusesToRead, device_of, error_of}
use Rattle.std.specs.Option.{option_or}
use Rattle.std.proofs.lemmas.Grind.{common_steps}
use Rattle.qcow2_disk.specs.Disk.{disk_with}
use Rattle.qcow2_alloc.specs.ImageError.{IsFault as IsImageFault}
use Rattle.qcow2_alloc.specs.declared.error.ImageError.{ImageError}
use Rattle.qcow2_alloc.specs.declared.error.ImageError.TheVariants as I
use Rattle.qcow2_disk.specs.ClearedCovers.{rounds_past, needs_zeros as zeros_for}
use Rattle.qcow2_image.specs.Clearing.{refuses_clearing}
use Rattle.qcow2_image.specs.MayFail.{MayFailLooking, MayFailReadingRange}
use Rattle.qcow2_image.specs.Refusals.{MayFailPreparing, passes, refuse_if, refuses_to_prepare, refuses_to_read, unusable}
use Rattle.qcow2_image.specs.declared.prepared.Prepared.{Prepared}
use Rattle.qcow2_session.specs.Sessions.{IsOfReading}
use Rattle.nbd_protocol.specs.declared.device.Errno.{Errno}
use Rattle.nbd_protocol.specs.declared.device.Errno.TheVariants as E
use Rattle.qcow2_image.specs.ImageInvariant.{in_image, Mappings}

-- ---- what comes first

-- a failed image is refused as one, before all else
pub first_looking : (f : Bool) (x : Option ImageError) (P : ImageError → Type 0) → IfSome (option_or (refuse_if f I.Failed) x) P → IsTrue f → P I.Failed
first_looking true x P h is = h
first_looking false x P h is = absurd cc

pub first : (f : Bool) (x y : Option ImageError) (P : ImageError → Type 0) → IfSome (option_or (option_or (refuse_if f I.Failed) x) y) P → IsTrue f → P I.Failed
first true x y P h is = h
first false x y P h is = absurd cc

pub some_or_none : (o : Option ImageError) → ((e : ImageError) × (o ≡ Some e)) ⊎ (o ≡ None)
some_or_none (Some e) = inl (e, refl)
some_or_none None = inr refl

-- reading is refused at once for one of these causes
reads_refused : (f x p : Bool) (e : ImageError) → option_or (option_or (refuse_if f I.Failed) (refuse_if x I.Dependency)) (refuse_if p I.BeyondSize) ≡ Some e → e ≡ I.Limit → ⊥
reads_refused true x p e is limit = absurd cc
reads_refused false true p e is limit = absurd cc
reads_refused false false true e is limit = absurd cc
reads_refused false false false e is limit = absurd cc

pub prepare_refused : (f x p w : Bool) (e : ImageError) → option_or (option_or (refuse_if f I.Failed) (refuse_if x I.Dependency)) (option_or (refuse_if p I.BeyondSize) (refuse_if w I.ReadOnly)) ≡ Some e → e ≡ I.ReadOnly → w ≡ true
prepare_refused true x p w e is only = absurd cc
prepare_refused false true p w e is only = absurd cc
prepare_refused false false true w e is only = absurd cc
prepare_refused false false false true e is only = refl
prepare_refused false false false false e is only = absurd cc

pub clear_refused : (f x w p v o : Bool) (e : ImageError)
    → option_or (option_or (refuse_if f I.Failed) (refuse_if x I.Dependency)) (option_or (refuse_if w I.ReadOnly) (option_or (refuse_if p I.BeyondSize) (option_or (refuse_if v I.Version) (refuse_if o I.Overflow)))) ≡ Some e
    → (e ≡ I.ReadOnly → w ≡ true) × (e ≡ I.BeyondSize → p ≡ true)
clear_refused true x w p v o e is = (λ q. absurd cc, λ q. absurd cc)
clear_refused false true w p v o e is = (λ q. absurd cc, λ q. absurd cc)
clear_refused false false true p v o e is = (λ q. refl, λ q. absurd cc)
clear_refused false false false true v o e is = (λ q. absurd cc, λ q. refl)
clear_refused false false false false true o e is = (λ q. absurd cc, λ q. absurd cc)
clear_refused false false false false false true e is = (λ q. absurd cc, λ q. absurd cc)
clear_refused false false false false false false e is = (λ q. absurd cc, λ q. absurd cc)

pub and_right : (a b : Bool) → (a && b) ≡ true → b ≡ true
and_right true b is = is
and_right false b is = absurd cc

pub beyond : (size offset n : ℕ) → passes size offset n ≡ true → size < offset + n
beyond size offset n is = grind (arith, common_steps)

-- ---- the errors that are reported

-- a call has one refusal
pub same_refusal : {T A : Type 0} (r : Result T A) (a b : A) → r ≡ Err a → r ≡ Err b → a ≡ b
same_refusal r a b is so = cc

pub told_failed : (e : ImageError) (n : Errno) → n ≡ error_of e → e ≡ I.Failed → n ≡ E.Io
told_failed e n is failed = is ∙ ap error_of failed

pub fault_told : (e : ImageError) → IsImageFault e → IsFault (error_of e)
fault_told e (inl is) = subst (λ (x : ImageError). IsFault (error_of x)) (sym is) tt
fault_told e (inr is) = subst (λ (x : ImageError). IsFault (error_of x)) (sym is) tt

pub looking_told : (held : Type 0) (e : ImageError) → MayFailLooking held e → IsFault (error_of e)
looking_told held e (inl fault) = fault_told e fault
looking_told held e (inr held-so) = subst (λ (x : ImageError). IsFault (error_of x)) (sym held-so.0) tt

-- of a read
pub read_told : (d : DeviceView) (to : ℕ) (e : ImageError) → (e ≡ I.ReadOnly → ⊥) → (e ≡ I.Limit → ⊥) → (e ≡ I.BeyondSize → d.size < to) → RefusesToRead d to (error_of e)
read_told d to I.ReadOnly only limit size = absurd (only refl)
read_told d to I.BeyondSize only limit size = size refl
read_told d to I.Limit only limit size = absurd (limit refl)
read_told d to I.Memory only limit size = tt
read_told d to e only limit size = tt

-- of a change
pub change_told : (d : DeviceView) (to : ℕ) (e : ImageError) → (e ≡ I.ReadOnly → IsTrue d.is_read_only) → (e ≡ I.BeyondSize → d.size < to) → RefusesToChange d to (error_of e)
change_told d to I.ReadOnly only size = only refl
change_told d to I.BeyondSize only size = size refl
change_told d to I.Limit only size = tt
change_told d to I.Memory only size = tt
change_told d to e only size = tt

-- a read isn't refused as one of an image that isn't to be written
pub reading_only : (e : ImageError) → IsOfReading e → e ≡ I.ReadOnly → ⊥
reading_only e is only = by (subst (λ (x : ImageError). IsOfReading x) only is) where
  by : IsOfReading I.ReadOnly → ⊥
  by (inl may_fail) = may_fail
  by (inr (inl p)) = absurd cc
  by (inr (inr (inl p))) = absurd cc
  by (inr (inr (inr p))) = absurd cc

-- nor for want of a place
pub reading_limit : (f x p : Bool) (e : ImageError) (o : Option ImageError) → o ≡ option_or (option_or (refuse_if f I.Failed) (refuse_if x I.Dependency)) (refuse_if p I.BeyondSize)
    → IfSome o (λ r. e ≡ r) → (o ≡ None → e ≡ I.Limit → ⊥) → e ≡ I.Limit → ⊥
reading_limit f x p e None is early late limit = late refl limit
reading_limit f x p e (Some r) is early late limit = reads_refused f x p r (sym is) (sym early ∙ limit)

-- a preparation that was not refused at once isn't for that
pub preparing_only : {S F : Type 0} (new : Qcow2 S F) (e : ImageError) → MayFailPreparing new e → e ≡ I.ReadOnly → ⊥
preparing_only new e is only = by (subst (λ (x : ImageError). MayFailPreparing new x) only is) where
  by : MayFailPreparing new I.ReadOnly → ⊥
  by (inl may_fail) = may_fail
  by (inr p) = let taken = p.0 in absurd cc

pub preparing_beyond : {S F : Type 0} (new : Qcow2 S F) (e : ImageError) → MayFailPreparing new e → e ≡ I.BeyondSize → ⊥
preparing_beyond new e is past = by (subst (λ (x : ImageError). MayFailPreparing new x) past is) where
  by : MayFailPreparing new I.BeyondSize → ⊥
  by (inl may_fail) = may_fail
  by (inr p) = let taken = p.0 in absurd cc

looking_limit : (held : Type 0) (e : ImageError) → MayFailLooking held e → e ≡ I.Limit → ⊥
looking_limit held e (inl (inl fault)) limit = absurd cc
looking_limit held e (inl (inr fault)) limit = absurd cc
looking_limit held e (inr held-so) limit = let p = held-so.0 in absurd cc

if_some_weaker : (o : Option ImageError) (P Q : ImageError → Type 0) → ((x : ImageError) → P x → Q x) → IfSome o P → IfSome o Q
if_some_weaker None P Q f h = h
if_some_weaker (Some x) P Q f h = f x h

-- ---- a call that was answered, and one that was refused

pub fails_answered : {T U : Type 0} (d : DeviceView) (R : Errno → Type 0) (r : Result U ImageError) (x : U) (y : T) → r ≡ Ok x → (IsTrue d.is_failed → r ≡ Err I.Failed) → Fails d R (Ok y)
fails_answered d R r x y is h = record { failed = λ f. let p = h f in absurd cc; cause = λ sound. tt }

pub fails_refused : {T U : Type 0} (d : DeviceView) (R : Errno → Type 0) (r : Result U ImageError) (e : ImageError) (n : Errno) → r ≡ Err e → n ≡ error_of e → (IsTrue d.is_failed → r ≡ Err I.Failed) → (d.is_sound → R (error_of e)) → Fails {T = T} d R (Err n)
fails_refused d R r e n is told h k = record {
  failed = λ f. let p : e ≡ I.Failed = same_refusal r e I.Failed is (h f) in ap (λ (x : Errno). Err x) (told_failed e n told p);
  cause = λ sound. subst R (sym told) (k sound);
}

pub write_answered : {T : Type 0} (d : DeviceView) (R : Errno → Type 0) (r : Result (Unit {0}) (ImageError × ℕ)) (x : Unit {0}) (y : T) → r ≡ Ok x → (IsTrue d.is_failed → r ≡ Err (I.Failed, 0)) → Fails d R (Ok y)
write_answered d R r x y is h = record { failed = λ f. let p = h f in absurd cc; cause = λ sound. tt }

pub write_refused : {T : Type 0} (d : DeviceView) (R : Errno → Type 0) (r : Result (Unit {0}) (ImageError × ℕ)) (e : ImageError) (m : ℕ) (n : Errno) → r ≡ Err (e, m) → n ≡ error_of e → (IsTrue d.is_failed → r ≡ Err (I.Failed, 0)) → (d.is_sound → R (error_of e))
    → Fails {T = T} d R (Err n)
write_refused d R r e m n is told h k = record {
  failed = λ f. let p : e ≡ I.Failed = ap (λ (x : ImageError × ℕ). x.0) (same_refusal r (e, m) (I.Failed, 0) is (h f)) in ap (λ (x : Errno). Err x) (told_failed e n told p);
  cause = λ sound. subst R (sym told) (k sound);
}

-- what was answered was no failed image's
pub usable : {T : Type 0} {P : Type 0} (b : Bool) (r : Result T ImageError) (x : T) (e : ImageError) → r ≡ Ok x → (IsTrue b → (r ≡ Err e) × P) → b ≡ false
usable true r x e is early = let p = (early refl).0 in absurd cc
usable false r x e is early = refl

pub sync_told : {T : Type 0} {P : Type 0} (b : Bool) (e : ImageError) (r : Result T ImageError) → r ≡ Err e → (IsTrue b → (r ≡ Err I.Failed) × P) → (b ≡ false → IsImageFault e) → IsFault (error_of e)
sync_told true e r is early late = let p = (early refl).0 in let q : e ≡ I.Failed = cc in subst (λ (x : ImageError). IsFault (error_of x)) (sym q) tt
sync_told false e r is early late = fault_told e (late refl)

module _ {S F : Type 0} (view : S → StorageView) (backing : F → BackingView) (old new : Qcow2 S F) where
  abbrev a : DeviceView
  a = device_of view backing old

  pub same_device : IsSameImage old new → (IsTrue (is_failed old) → new ≡ old) → IsSameDevice a (device_of view backing new)
  same_device same stays = record { read_only = ap not same.writable; failed = λ f. subst (λ (x : Qcow2 S F). IsTrue (is_failed x)) (sym (stays f)) f }

  pub size_is : a.is_sound → a.size ≡ size_of old
  unfolding disk_with
  size_is sound = ap (λ (h : HeaderFields). h.size) (header_is view backing old (in_image []) sound)

  -- each call of a failed image is refused as one of that, and leaves it as it is
  pub failed_reading : {T : Type 0} (offset n : ℕ) (r : Result T ImageError) → IfSome (refuses_to_read old offset n) (λ e. (r ≡ Err e) × (new ≡ old)) → IsTrue (is_failed old) → (r ≡ Err I.Failed) × (new ≡ old)
  failed_reading offset n r early f = first (is_failed old) (refuse_if (lacks_data_file old) I.Dependency) (refuse_if (passes (size_of old) offset n) I.BeyondSize) (λ e. (r ≡ Err e) × (new ≡ old)) early f

  pub failed_writing : {T : Type 0} (offset n : ℕ) (r : Result T (ImageError × ℕ)) → IfSome (refuses_to_prepare old offset n) (λ e. (r ≡ Err (e, 0)) × (new ≡ old)) → IsTrue (is_failed old) → (r ≡ Err (I.Failed, 0)) × (new ≡ old)
  failed_writing offset n r early f = first (is_failed old) (refuse_if (lacks_data_file old) I.Dependency) _ (λ e. (r ≡ Err (e, 0)) × (new ≡ old)) early f

  pub failed_clearing : {T : Type 0} (offset n : ℕ) (how : Clearing) (r : Result T ImageError) → IfSome (refuses_clearing old offset n how) (λ e. (r ≡ Err e) × (new ≡ old)) → IsTrue (is_failed old) → (r ≡ Err I.Failed) × (new ≡ old)
  failed_clearing offset n how r early f = first (is_failed old) (refuse_if (lacks_data_file old) I.Dependency) _ (λ e. (r ≡ Err e) × (new ≡ old)) early f

  pub failed_looking : {T : Type 0} (r : Result T ImageError) → IfSome (unusable old) (λ e. (r ≡ Err e) × (new ≡ old)) → IsTrue (is_failed old) → (r ≡ Err I.Failed) × (new ≡ old)
  failed_looking r early f = first_looking (is_failed old) (refuse_if (lacks_data_file old) I.Dependency) (λ e. (r ≡ Err e) × (new ≡ old)) early f

  -- why a read is refused
  pub reading_cause : {T : Type 0} (offset n : ℕ) (r : Result T ImageError) (e : ImageError) → r ≡ Err e → IfSome (refuses_to_read old offset n) (λ x. (r ≡ Err x) × (new ≡ old)) → IsOfReading e → (e ≡ I.BeyondSize → IsTrue (passes (size_of old) offset n))
      → (refuses_to_read old offset n ≡ None → (out : Mappings) → (abstract_of view backing old out).is_sound → MayFailReadingRange out offset (offset + n) old.file.header.fields (known_in view old.file) e)
      → a.is_sound → RefusesToRead a (offset + n) (error_of e)
  reading_cause offset n r e is early reading past may_fail sound =
      read_told a (offset + n) e (reading_only e reading)
      (reading_limit (is_failed old) (lacks_data_file old) (passes (size_of old) offset n) e (refuses_to_read old offset n) refl
      (if_some_weaker (refuses_to_read old offset n) (λ x. (r ≡ Err x) × (new ≡ old)) (λ x. e ≡ x) (λ x h. same_refusal r e x is h.0) early)
      (λ none limit. elim (may_fail none (in_image []) sound) [ inl looking ↦ looking_limit _ e looking limit | inr compressed ↦ let p = compressed.0 in absurd cc ]))
      (λ p. let k = beyond (size_of old) offset n (past p) in let s = size_is sound in omega (arith, s, k))

  -- why a write is
  pub writing_cause : (offset n m : ℕ) (r : Result (Unit {0}) (ImageError × ℕ)) (e : ImageError) → r ≡ Err (e, m) → IfSome (refuses_to_prepare old offset n) (λ x. (r ≡ Err (x, 0)) × (new ≡ old)) → (refuses_to_prepare old offset n ≡ None → MayFailPreparing new e)
      → (e ≡ I.BeyondSize → IsTrue (passes (size_of old) offset n)) → a.is_sound → RefusesToChange a (offset + n) (error_of e)
  writing_cause offset n m r e is early late past sound =
      change_told a (offset + n) e
      (λ only. elim (some_or_none (refuses_to_prepare old offset n)) [
        | inl some ↦
            let at : (r ≡ Err (some.0, 0)) × (new ≡ old) = subst (λ o. IfSome o (λ x. (r ≡ Err (x, 0)) × (new ≡ old))) some.1 early in
            let same : some.0 ≡ e = ap (λ (x : ImageError × ℕ). x.0) (same_refusal r (some.0, 0) (e, m) at.0 is) in
            and_right (nat_lt 0 n) (not (is_writable old)) (prepare_refused (is_failed old) (lacks_data_file old) (passes (size_of old) offset n) (nat_lt 0 n && not (is_writable old)) some.0 some.1 (same ∙ only))
        | inr none ↦ absurd (preparing_only new e (late none) only)
      ])
      (λ p. let k = beyond (size_of old) offset n (past p) in let s = size_is sound in omega (arith, s, k))

  -- why clearing is
  pub clearing_cause : {T : Type 0} (offset n : ℕ) (how : Clearing) (r : Result T ImageError) (e : ImageError) → r ≡ Err e → IfSome (refuses_clearing old offset n how) (λ x. (r ≡ Err x) × (new ≡ old)) → (refuses_clearing old offset n how ≡ None → MayFailPreparing new e)
      → a.is_sound → RefusesToChange a (offset + n) (error_of e)
  clearing_cause offset n how r e is early late sound =
      let by = λ (x : ImageError) (some : refuses_clearing old offset n how ≡ Some x).
      let at : (r ≡ Err x) × (new ≡ old) = subst (λ o. IfSome o (λ x. (r ≡ Err x) × (new ≡ old))) some early in
      let same : x ≡ e = same_refusal r x e at.0 is in
      let k = clear_refused (is_failed old) (lacks_data_file old) (not (is_writable old)) (passes (size_of old) offset n) (zeros_for how && nat_lt old.file.header.fields.version 3) (rounds_past (cluster_size old.file.header.fields) (size_of old) offset n) x some in
      let both : (e ≡ I.ReadOnly → not (is_writable old) ≡ true) × (e ≡ I.BeyondSize → passes (size_of old) offset n ≡ true) = (λ only. k.0 (same ∙ only), λ past. k.1 (same ∙ past)) in both in
      change_told a (offset + n) e
      (λ only. elim (some_or_none (refuses_clearing old offset n how)) [ inl some ↦ (by some.0 some.1).0 only | inr none ↦ absurd (preparing_only new e (late none) only) ])
      (λ past. elim (some_or_none (refuses_clearing old offset n how)) [
        | inl some ↦ let k = beyond (size_of old) offset n ((by some.0 some.1).1 past) in let s = size_is sound in omega (arith, s, k)
        | inr none ↦ absurd (preparing_beyond new e (late none) past)
      ])
