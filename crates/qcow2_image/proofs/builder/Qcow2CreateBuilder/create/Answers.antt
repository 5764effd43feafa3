use Rattle.std.proofs.Common.{◌≡◌, ◌∙◌, Err, Ok, Result, ap, refl, subst, sym, IfErr, IfOk}
use Rattle.qcow2_image.proofs.Common.{FaultsReported, storage_of, ImageError, IsMade, IsReasonNotToCreate, StopsCreating, IfErr-weaker}
use Rattle.image_access.specs.declared.storage.PreallocateMode.TheVariants as Mode
use Rattle.qcow2_image.proofs.Lemmas.{reasons_made, reasons_of, created_then, creating_stops, grew_then, stops_at_none, limits_as}
use Rattle.qcow2_image.proofs.builder.Qcow2CreateBuilder.create.Goals as goal

-- what was answered wasn't refused
not_ok : {A : Type 0} {a : A} {e : ImageError} → (◌≡◌ {A = Result A ImageError} (Ok a) (Err e)) → ⊥
not_ok is = cc

pub returns-in-Err-clause-stops : goal.returns-in-Err-clause-stops
returns-in-Err-clause-stops g c = λ none honest.
    let view = g.S.Storage.view in
    stops_at_none c.args.self.preallocate c.args.self.size (view c.args.self.image) (view c.make-storage.result.0) (c.make-storage.ensures.stops none honest)

pub returns-in-Err-clause-cause : goal.returns-in-Err-clause-cause
returns-in-Err-clause-cause g c = λ none honest.
    let view = g.S.Storage.view in
    let why = IfErr-weaker c.make-storage.result.2 _ _ (reasons_made c.args.self view c.make-storage.result.0) c.make-storage.ensures.cause in
    subst (λ (r : Result _ _). IfErr r (IsReasonNotToCreate view c.args.self c.make-storage.result.0)) c.in-Err.is why

pub returns-clause-stops : goal.returns-clause-stops
returns-clause-stops g c = λ none honest.
    let view = g.S.Storage.view in
    let builder = c.args.self in
    let mid = storage_of c.new.result in
    let made = subst (λ s. IsMade view builder s) (sym c.new.ensures.storage) (subst (λ (r : Result _ _). IfOk r (λ d. IsMade view builder c.make-storage.result.0)) c.in_default.is (c.make-storage.ensures.made none honest)) in
    creating_stops view builder mid c.grow_new_image.result.0 (view builder.image) (subst (λ s. StopsCreating Mode.None 0 (view builder.image) (view s)) (sym c.new.ensures.storage) (c.make-storage.ensures.stops none honest)) c.grow_new_image.result.1
    (c.grow_new_image.ensures.enlarges made.created.honest made.created.new_disk)

pub returns-clause-created : goal.returns-clause-created
returns-clause-created g c = λ none honest.
    let view = g.S.Storage.view in
    let builder = c.args.self in
    let made = subst (λ s. IsMade view builder s) (sym c.new.ensures.storage) (subst (λ (r : Result _ _). IfOk r (λ d. IsMade view builder c.make-storage.result.0)) c.in_default.is (c.make-storage.ensures.made none honest)) in
    created_then view builder (storage_of c.new.result) c.grow_new_image.result.0 made c.grow_new_image.result.1
    (c.grow_new_image.ensures.enlarges made.created.honest made.created.new_disk) (c.grow_new_image.ensures.leaks made.created.honest made.created.new_disk made.created.no_leaks) (λ empty. c.grow_new_image.ensures.stays empty made.created.honest)

pub returns-clause-grew : goal.returns-clause-grew
returns-clause-grew g c = λ none honest.
    let view = g.S.Storage.view in
    let builder = c.args.self in
    let made = subst (λ s. IsMade view builder s) (sym c.new.ensures.storage) (subst (λ (r : Result _ _). IfOk r (λ d. IsMade view builder c.make-storage.result.0)) c.in_default.is (c.make-storage.ensures.made none honest)) in
    grew_then view builder (storage_of c.new.result) c.grow_new_image.result.0 made c.grow_new_image.result.1 (c.grow_new_image.ensures.enlarges made.created.honest made.created.new_disk)

pub returns-clause-cause : goal.returns-clause-cause
returns-clause-cause g c = λ none honest.
    let view = g.S.Storage.view in
    let builder = c.args.self in
    let mid = storage_of c.new.result in
    let made = subst (λ s. IsMade view builder s) (sym c.new.ensures.storage) (subst (λ (r : Result _ _). IfOk r (λ d. IsMade view builder c.make-storage.result.0)) c.in_default.is (c.make-storage.ensures.made none honest)) in
    reasons_of builder view c.grow_new_image.result.0 c.grow_new_image.result.1 (c.grow_new_image.ensures.fault made.created.honest made.created.new_disk made.created.version)
    (limits_as c.grow_new_image.result.1
    (λ cant. record { contents = (view mid).contents; new_image = made.new_image; clusters = made.created.clusters; counts = made.created.counts; lacks = cant })
    (c.grow_new_image.ensures.limit made.created.honest made.created.new_disk made.new_image made.created.no_autoclear))

pub returns-clause-refused : goal.returns-clause-refused
returns-clause-refused g c = λ none. absurd (not_ok (sym c.in_default.is ∙ (c.make-storage.ensures.refused none).0))

pub returns-clause-over : goal.returns-clause-over
returns-clause-over g c = λ allowed is. absurd (not_ok (sym c.in_default.is ∙ (c.make-storage.ensures.over allowed is).0))

pub returns-clause-limit : goal.returns-clause-limit
returns-clause-limit g c = λ allowed no long. absurd (not_ok (sym c.in_default.is ∙ (c.make-storage.ensures.limit allowed no long).0))

pub returns-clause-faults : goal.returns-clause-faults
returns-clause-faults g c = λ none.
    let view = g.S.Storage.view in
    let told = (subst (λ (r : Result _ _). FaultsReported (view c.args.self.image).faults (view c.make-storage.result.0).faults r) c.in_default.is c.make-storage.ensures.faults).told in
    subst (λ n. FaultsReported n (view c.grow_new_image.result.0).faults c.grow_new_image.result.1) (ap (λ s. (view s).faults) c.new.ensures.storage ∙ told) (c.grow_new_image.ensures.faults (λ below. refl))
