use Rattle.std.proofs.Common.{◌≡◌, ◌∙◌, ◌<◌, ◌≤◌, ℕ, [], None, Option, Some, Result, refl, ap, inl, inr, Err, Ok}
use Rattle.qcow2_image.specs.Resizing.{IsResized}
use Rattle.qcow2_image.proofs.Common.{IfSome, ImageError, Qcow2, is_beside, refuses_to_resize, cases_lt, size_of, view_in, handed_on, Enlarges, in_image}
use Rattle.qcow2_image.proofs.Lemmas.{counted_on, counted_since, untouched, usable_opened, grown_fault, faults_or_limit, faults_unlimited, hands_either, hands_limit, unlimited_all}
use Rattle.qcow2_image.proofs.Create.Leaks.{left_taking, no_leaks_flushed, surplus_taken}
use Rattle.qcow2_image.proofs.Create.AllocatingPlace.{grown_by, stops_by}
use Rattle.qcow2_image.proofs.builder.grow_and_flush.Goals as goal

-- an image that is refused at once, or has nothing to do, stays the same
still : {S F : Type 0} (old new : Qcow2 S F) (r : Result (Unit {0}) ImageError) (why : Option ImageError) → IfSome why (λ e. (r ≡ Err e) × (new ≡ old)) → (why ≡ None → new ≡ old) → new ≡ old
still old new r None early none = none refl
still old new r (Some e) early none = early.1

-- an image that grew has a data file as before
beside_grown : {S F : Type 0} (old new : Qcow2 S F) (after size : ℕ) (r : Result (Unit {0}) ImageError) → IfSome (refuses_to_resize old) (λ e. (r ≡ Err e) × (new ≡ old)) → (refuses_to_resize old ≡ None → size ≤ size_of old → (r ≡ Ok tt) × (new ≡ old))
    → (size_of old < size → IsResized after old new) → is_beside new ≡ is_beside old
beside_grown old new after size r early no_larger image = elim (cases_lt (size_of old) size) [
  | inl lt ↦ (image lt).beside
  | inr le ↦ ap (λ (i : Qcow2 _ _). is_beside i) (still old new r (refuses_to_resize old) early (λ usable. (no_larger usable le).1))
]

pub returns-in_err-resize_grow-clause-beside : goal.returns-in_err-resize_grow-clause-beside
returns-in_err-resize_grow-clause-beside g c = let does = c.resize_grow.ensures in beside_grown c.args.image.now c.resize_grow.new.self _ c.args.size c.resize_grow.result does.early does.no_larger does.image

pub returns-clause-beside : goal.returns-clause-beside
returns-clause-beside g c = let does = c.resize_grow.ensures in c.flush.ensures.step.image.beside ∙ beside_grown c.args.image.now c.resize_grow.new.self _ c.args.size c.resize_grow.result does.early does.no_larger does.image

pub returns-in_err-resize_grow-clause-enlarges : goal.returns-in_err-resize_grow-clause-enlarges
returns-in_err-resize_grow-clause-enlarges g c = λ opened writable alone unwritten.
    let view = g.S.Storage.view in
    let old = c.args.image.now in
    let mid = c.resize_grow.new.self in
    let does = c.in_err-resize_grow.ensures in
    handed_on (Enlarges c.args.mode c.args.size (view_in view old.file) (view_in view mid.file)) c.from_residual.result c.in_err-resize_grow.field-0.0 c.from_residual.ensures
    (stops_by view g.F.BackingDisk.backing c.args.size old mid opened writable unwritten c.args.mode (inr alone) (Err c.in_err-resize_grow.field-0.0)
    (record { no_larger = does.no_larger; image = does.image; sees = does.sees; tables = λ usable lt sound. (does.sound (in_image []) sound).tables usable lt; last = λ sound. (does.sound (in_image []) sound).last }))

pub returns-clause-enlarges : goal.returns-clause-enlarges
returns-clause-enlarges g c = λ opened writable alone unwritten.
    let does = c.in_ok-resize_grow.ensures in
    grown_by g.S.Storage.view g.F.BackingDisk.backing c.args.size c.args.image.now c.resize_grow.new.self opened writable unwritten alone c.args.mode c.in_ok-resize_grow.field-0
    (record { no_larger = does.no_larger; image = does.image; sees = does.sees; tables = λ usable lt sound. (does.sound (in_image []) sound).tables usable lt; last = λ sound. (does.sound (in_image []) sound).last })
    c.flush.new.self c.flush.result c.flush.ensures.step.image.size c.flush.ensures.sees c.flush.ensures.writes

pub returns-in_err-resize_grow-clause-fault : goal.returns-in_err-resize_grow-clause-fault
returns-in_err-resize_grow-clause-fault g c = λ usable writable alone sound unmapped.
    let does = c.in_err-resize_grow.ensures in
    hands_either c.from_residual.result c.in_err-resize_grow.field-0.0 c.from_residual.ensures
    (grown_fault g.S.Storage.view c.args.image.now unmapped c.resize_grow.new.self c.args.size _ c.args.mode (Err c.in_err-resize_grow.field-0.0) alone (does.no_larger usable) (λ lt. (does.sound (in_image []) sound).may_fail usable lt))

pub returns-clause-fault : goal.returns-clause-fault
returns-clause-fault g c = λ usable writable alone sound unmapped.
    let does = c.in_ok-resize_grow.ensures in
    faults_or_limit c.flush.result (c.flush.ensures.fails.fault (in_image [])
    (surplus_taken g.S.Storage.view g.F.BackingDisk.backing c.args.image.now c.resize_grow.new.self c.args.size c.args.mode (Ok c.in_ok-resize_grow.field-0) sound (does.no_larger usable) does.image does.sees).sound)

pub returns-in_err-resize_grow-clause-faults : goal.returns-in_err-resize_grow-clause-faults
returns-in_err-resize_grow-clause-faults g c =
    let old = c.args.image.now in
    counted_on g.S.Storage.view g.F.BackingDisk.backing old old c.resize_grow.new.self c.resize_grow.result c.in_err-resize_grow.field-0.0 c.from_residual.result (untouched g.S.Storage.view g.F.BackingDisk.backing old old refl refl refl)
    c.resize_grow.ensures.step.faults c.in_err-resize_grow.was c.from_residual.ensures

pub returns-clause-faults : goal.returns-clause-faults
returns-clause-faults g c = counted_since g.S.Storage.view g.F.BackingDisk.backing c.args.image.now c.resize_grow.new.self c.flush.new.self c.flush.result c.in_ok-resize_grow.ensures.step.faults.told c.flush.ensures.step.faults

pub returns-clause-leaks : goal.returns-clause-leaks
returns-clause-leaks g c = λ opened writable none.
    let view = g.S.Storage.view in
    let below = g.F.BackingDisk.backing in
    let old = c.args.image.now in
    let does = c.in_ok-resize_grow.ensures in
    let grew = surplus_taken view below old c.resize_grow.new.self c.args.size c.args.mode (Ok c.in_ok-resize_grow.field-0) opened.sound (does.no_larger (usable_opened view below old opened writable)) does.image does.sees in
    no_leaks_flushed view below old c.resize_grow.new.self c.flush.new.self grew writable none c.flush.result c.flush.ensures.sees c.flush.ensures.emptied

pub returns-in_err-resize_grow-clause-limit : goal.returns-in_err-resize_grow-clause-limit
returns-in_err-resize_grow-clause-limit g c = λ usable sound.
    let old = c.args.image.now in
    let e = c.in_err-resize_grow.field-0.0 in
    let does = c.in_err-resize_grow.ensures in
    hands_limit c.from_residual.result e c.from_residual.ensures (λ is.
    let lt : size_of old < c.args.size = elim (cases_lt (size_of old) c.args.size) [ inl lt ↦ lt | inr le ↦ absurd (let no = (does.no_larger usable le).0 in cc) ] in
    ((does.sound (in_image []) sound).limit usable lt is, left_taking g.S.Storage.view g.F.BackingDisk.backing old c.resize_grow.new.self c.args.size c.args.mode (Err e) sound (does.image lt) does.sees is))

pub returns-clause-limit : goal.returns-clause-limit
returns-clause-limit g c = λ usable sound.
    let does = c.in_ok-resize_grow.ensures in
    let grew = surplus_taken g.S.Storage.view g.F.BackingDisk.backing c.args.image.now c.resize_grow.new.self c.args.size c.args.mode (Ok c.in_ok-resize_grow.field-0) sound (does.no_larger usable) does.image does.sees in
    unlimited_all c.flush.result _ (faults_unlimited c.flush.result (c.flush.ensures.fails.fault (in_image []) grew.sound))
