use Rattle.std.proofs.Common.{◌≡◌, ℕ, Err, None, Ok, Option, Result, Some, ap, refl, replicate, rules, subst}
use Rattle.qcow2_session.proofs.Common.{IfSome, ImageError, MatchOption, Qcow2, length-replicate, refuses_to_prepare}
use Rattle.qcow2_session.proofs.Lemmas.{memory_never, refused_none, unwritten_sees, unwritten_soundly, unwritten_step}
use Rattle.qcow2_session.specs.CallSteps.{WriteFails}
use Rattle.qcow2_session.proofs.session.fill.Goals as goal

-- a refusal before the first byte
refused_before : {S F : Type 0} (old : Qcow2 S F) (o : Option ImageError) (e : ImageError) → MatchOption o (◌≡◌ {A = Result (Unit {0}) ImageError} (Err e) (Ok tt)) (λ x. ◌≡◌ {A = Result (Unit {0}) ImageError} (Err e) (Err x)) → IfSome o (λ x. (◌≡◌ {A = Result (Unit {0}) (ImageError × ℕ)} (Err (e, 0)) (Err (x, 0))) × (old ≡ old))
refused_before old None e is = tt
refused_before old (Some x) e is = (let same : e ≡ x = cc in ap (λ (y : ImageError). Err (y, 0)) same, refl)

pub returns-in-Err-clause-step : goal.returns-in-Err-clause-step
returns-in-Err-clause-step g c = unwritten_step g.S.Storage.view g.F.BackingDisk.backing c.args.image.now c.in-Err.refusal c.in-Err.ensures.faults

pub returns-in-Err-clause-sees : goal.returns-in-Err-clause-sees
returns-in-Err-clause-sees g c = unwritten_sees g.S.Storage.view g.F.BackingDisk.backing c.args.image.now c.in-Err.refusal c.in-Err.ensures.faults c.args.offset (replicate c.args.length c.args.byte)

pub returns-in-Err-clause-sound : goal.returns-in-Err-clause-sound
returns-in-Err-clause-sound g c = λ out sound. unwritten_soundly g.S.Storage.view g.F.BackingDisk.backing c.args.image.now c.in-Err.refusal c.in-Err.ensures.faults c.args.offset (replicate c.args.length c.args.byte) out
    (λ none. absurd (refused_none (refuses_to_prepare c.args.image.now c.args.offset c.args.length) c.in-Err.refusal c.in-Err.ensures.refusal (subst (λ k. refuses_to_prepare c.args.image.now c.args.offset k ≡ None) (length-replicate c.args.length c.args.byte) none)))

pub returns-in-Err-clause-fails : goal.returns-in-Err-clause-fails
returns-in-Err-clause-fails g c = record { early = refused_before c.args.image.now (refuses_to_prepare c.args.image.now c.args.offset c.args.length) c.in-Err.refusal c.in-Err.ensures.refusal; late = search rules; within = search rules; beyond = search rules; cause = search rules }

pub returns-in-Err-repeated-clause-step : goal.returns-in-Err-repeated-clause-step
returns-in-Err-repeated-clause-step g c = unwritten_step g.S.Storage.view g.F.BackingDisk.backing c.args.image.now c.in-Err-repeated.lacking (memory_never c.in-Err-repeated.ensures.cause.0)

pub returns-in-Err-repeated-clause-sees : goal.returns-in-Err-repeated-clause-sees
returns-in-Err-repeated-clause-sees g c = unwritten_sees g.S.Storage.view g.F.BackingDisk.backing c.args.image.now c.in-Err-repeated.lacking (memory_never c.in-Err-repeated.ensures.cause.0) c.args.offset (replicate c.args.length c.args.byte)

pub returns-in-Err-repeated-clause-sound : goal.returns-in-Err-repeated-clause-sound
returns-in-Err-repeated-clause-sound g c = λ out sound. unwritten_soundly g.S.Storage.view g.F.BackingDisk.backing c.args.image.now c.in-Err-repeated.lacking (memory_never c.in-Err-repeated.ensures.cause.0) c.args.offset (replicate c.args.length c.args.byte) out (λ _. c.in-Err-repeated.ensures.cause.0)

pub returns-in-Err-repeated-clause-fails : goal.returns-in-Err-repeated-clause-fails
returns-in-Err-repeated-clause-fails g c = record { early = search rules; late = search rules; within = search rules; beyond = search rules; cause = search rules }

pub returns-in-Ok-clause-fails : goal.returns-in-Ok-clause-fails
returns-in-Ok-clause-fails g c =
    let all = rw c.in-Ok.ensures.items at (rw c.deref.ensures.value at c.write.ensures.fails) in
    subst (λ k. WriteFails g.S.Storage.view g.F.BackingDisk.backing c.args.image.now c.write.new.image c.write.result c.args.offset k) (length-replicate c.args.length c.args.byte) all

pub returns-in-Ok-clause-sound : goal.returns-in-Ok-clause-sound
returns-in-Ok-clause-sound g c = rw c.in-Ok.ensures.items at (rw c.deref.ensures.value at c.write.ensures.sound)

pub returns-in-Ok-clause-sees : goal.returns-in-Ok-clause-sees
returns-in-Ok-clause-sees g c = rw c.in-Ok.ensures.items at (rw c.deref.ensures.value at c.write.ensures.sees)
