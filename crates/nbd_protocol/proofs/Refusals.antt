-- Why several calls one after another, and the requests that make them, are refused.
use Rattle.std.proofs.Common.{◌≡◌, ◌≤◌, ◌∙◌, ℕ, Bool, true, false, None, Result, Ok, Err, refl, subst, sym, arith}
use Rattle.nbd_protocol.proofs.Common.{not, IfErr, IsErrOf, IsTrue, IsErrAnd, Errno, Command, Request, IsChecked, IsFailure, IsLate, Refused, asks_device, changes, end_of, is_done, persists, refuses, ChangeFails, DeviceView, Fails, IsFault, IsSameDevice, RefusesToChange}
use Rattle.nbd_protocol.specs.declared.device.Errno.TheVariants as E
use Rattle.nbd_protocol.specs.declared.request.Command.TheVariants as C

pub same_start : (a : DeviceView) → IsSameDevice a a
same_start a = record { read_only = refl; failed = λ f. f }

pub same_then : (a b c : DeviceView) → IsSameDevice a b → IsSameDevice b c → IsSameDevice a c
same_then a b c s t = record { read_only = t.read_only ∙ s.read_only; failed = λ f. t.failed (s.failed f) }

pub late_of_fault : (c : Command) (e : Errno) → IsFault e → IsLate c e
late_of_fault c E.NoSpace is = absurd is
late_of_fault c _ is = is

-- an error that is handed on
pub handed : {T : Type 0} (P : Errno → Type 0) (e : Errno) (r : Result T Errno) → IsErrAnd r (λ x. x ≡ e) → P e → IfErr r P
handed P e (Ok x) is h = absurd is
handed P e (Err x) is h = subst P (sym is) h

pub failure_of : {T : Type 0} (r : Result T Errno) → IsErrOf r E.Io → IsFailure r
failure_of (Ok x) is = absurd cc
failure_of (Err e) is = let e-is : e ≡ E.Io = cc in subst (λ x. IsFault x) (sym e-is) tt

-- what a request keeps to that isn't refused at once
pub refuses_none : (only : Bool) (size : ℕ) (meaningless : Bool) (r : Request) → refuses only size meaningless r ≡ None → (end_of r ≤ size) × (only ≡ true → changes r.command ≡ true → ⊥) × (meaningless ≡ false)
refuses_none only size meaningless r none = grind arith

-- refused at once
pub refused_early : {T : Type 0} (d : DeviceView) (m : Bool) (r : Request) (e : Errno) (res : Result T Errno) → IsChecked {T = Unit {0}} d m r (Err e) → IsErrAnd res (λ x. x ≡ e) → Refused d m r res
refused_early d m r e res k is = grind arith

-- or not at once
pub refused_late : {T : Type 0} (d : DeviceView) (m : Bool) (r : Request) (res : Result T Errno) → IsChecked {T = Unit {0}} d m r (Ok tt) → (d.is_sound → IfErr res (IsLate r.command)) → (IsTrue d.is_failed → IsTrue (asks_device r) → IsFailure res) → Refused d m r res
refused_late d m r res k late failed = grind arith

pub weaker : {T : Type 0} (P Q : Errno → Type 0) (r : Result T Errno) → ((e : Errno) → P e → Q e) → IfErr r P → IfErr r Q
weaker P Q (Ok x) f h = tt
weaker P Q (Err e) f h = f e h

pub faults_of : {T : Type 0} (r : Result T Errno) → IsErrOf r E.Io → IfErr r IsFault
faults_of (Ok x) is = tt
faults_of (Err e) is = let e-is : e ≡ E.Io = cc in subst (λ x. IsFault x) (sym e-is) tt

pub change_of_call : {T : Type 0} (d : DeviceView) (to : ℕ) (r : Result T Errno) → Fails d (RefusesToChange d to) r → ChangeFails d to r
change_of_call d to r f = record { failed = λ x. faults_of r (f.failed x); cause = f.cause }

-- a part that is done later, whose error is handed on
pub change_fails_later : {T U : Type 0} (a b : DeviceView) (to to' : ℕ) (e : Errno) (r : Result T Errno) → IsErrAnd r (λ x. x ≡ e) → ChangeFails {T = U} b to (Err e) → IsSameDevice a b
    → (a.is_sound → b.is_sound × (b.size ≡ a.size) × (to ≤ to')) → ChangeFails a to' r
change_fails_later a b to to' e r is f same after = grind arith

-- or whose result is
pub change_fails_last : {T : Type 0} (a b : DeviceView) (to to' : ℕ) (r : Result T Errno) → ChangeFails b to r → IsSameDevice a b
    → (a.is_sound → b.is_sound × (b.size ≡ a.size) × (to ≤ to')) → ChangeFails a to' r
change_fails_last a b to to' r f same after = grind arith

-- a change is refused of a request that passed the first tests
pub changed_late : {T : Type 0} (d : DeviceView) (r : Request) (e : Errno) (res : Result T Errno) → IsChecked {T = Unit {0}} d (not (is_done r.command)) r (Ok tt) → IsErrAnd res (λ x. x ≡ e)
    → (IsTrue (is_done r.command) → ChangeFails {T = Unit {0}} d (end_of r) (Err e)) → (IsTrue (is_done r.command) → IsTrue (changes r.command)) → Refused d (not (is_done r.command)) r res
changed_late d r e res k is fails change = grind arith

-- what was changed isn't flushed or synced
pub persisted_late : {T : Type 0} (a b : DeviceView) (r : Request) (res : Result T Errno) → IsChecked {T = Unit {0}} a (not (is_done r.command)) r (Ok tt) → IsSameDevice a b → (a.is_sound → b.is_sound) → Fails b IsFault res → Refused a (not (is_done r.command)) r res
persisted_late a b r res k same sound fails =
    refused_late a (not (is_done r.command)) r res k (λ s. weaker IsFault (IsLate r.command) res (late_of_fault r.command) (fails.cause (sound s))) (λ failed asks. failure_of res (fails.failed (same.failed failed)))

-- nothing is to be flushed
pub unpersisted : (d : DeviceView) (r : Request) → IsChecked {T = Unit {0}} d (not (is_done r.command)) r (Ok tt) → (IsTrue d.is_failed → r.command ≡ C.Write → ⊥) → persists r ≡ false → Refused {T = Unit {0}} d (not (is_done r.command)) r (Ok tt)
unpersisted d r k never none-of = grind (arith, refused_late)
