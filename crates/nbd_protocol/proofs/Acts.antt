-- What several calls do, one after another, whatever they return.
use Rattle.std.proofs.Common.{◌⊎◌, inl, inr, Result, Ok, Err}
use Rattle.nbd_protocol.proofs.Common.{IsErrAnd, IsTrue, Errno, Acts, DeviceView}

-- a refusal that is passed on
pub acts_refused : {T : Type 0} (old new : DeviceView) (done : T → Type 0) (still : Type 0) (r : Result T Errno) (Q : Errno → Type 0) → IsErrAnd r Q
    → (old.is_sound → (new.is_sound × still) ⊎ IsTrue new.is_failed) → Acts old new done still r
acts_refused old new done still (Ok x) Q is h = absurd is
acts_refused old new done still (Err e) Q is h = h

-- a call that is the last
pub acts_then : {T : Type 0} (a b c : DeviceView) (done done' : T → Type 0) (still still' : Type 0) (r : Result T Errno) → (a.is_sound → b.is_sound)
    → Acts b c done still r → (a.is_sound → (x : T) → done x → done' x) → (a.is_sound → still → still') → Acts a c done' still' r
acts_then a b c done done' still still' (Ok x) sound acts f g = λ s. let k = acts (sound s) in (k.0, f s x k.1)
acts_then a b c done done' still still' (Err e) sound acts f g = λ s. elim (acts (sound s)) [ inl kept ↦ inl (kept.0, g s kept.1) | inr failed ↦ inr failed ]
