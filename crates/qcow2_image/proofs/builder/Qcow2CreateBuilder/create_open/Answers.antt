use Rattle.std.proofs.Common.{◌≡◌, ◌⊎◌, ◌∙◌, Err, Ok, Result, inl, inr, subst, sym, IfErr, IfOk}
use Rattle.qcow2_image.specs.Created.{RefusesGrown}
use Rattle.qcow2_image.proofs.Common.{OpensGrown, Qcow2OpenBuilder, FaultsReported, IsFault, ImageError, IsMade, IsReasonAgainst, StopsCreating}
use Rattle.qcow2_alloc.specs.declared.error.ImageError.TheVariants as I
use Rattle.qcow2_image.proofs.Create.Creating.{refused_open}
use Rattle.qcow2_image.proofs.Create.GrownOpen.{grown_disk, grown_holds, grown_reason, grown_stops}
use Rattle.qcow2_image.proofs.builder.Qcow2CreateBuilder.create_open.Goals as goal

-- what was answered wasn't refused
not_refused : {A : Type 0} {a : A} (e : ImageError) → (◌≡◌ {A = Result A ImageError} (Ok a) (Err e)) → ⊥
not_refused e is = cc

pub returns-in-Ok-open_grown-clause-opens : goal.returns-in-Ok-open_grown-clause-opens
returns-in-Ok-open_grown-clause-opens g c = λ plain honest.
    let view = g.S.Storage.view in
    let below = g.F.BackingDisk.backing in
    let builder = c.args.self in
    let storage = c.make-made.result.0 in
    let image = c.in-Ok-open_grown.image in
    let made = subst (λ (r : Result _ _). IfOk r (λ d. IsMade view builder storage)) c.in_default.is (c.make-made.ensures.made plain honest) in
    let same : c.with_data_file.result ≡ c.in-Ok.opener = c.with_data_file.ensures.none (c.make-made.ensures.file ∙ plain.1) in
    let grown = subst (λ (opener : Qcow2OpenBuilder _ _). OpensGrown view below opener builder.preallocate builder.size image (Ok tt)) same c.in-Ok-open_grown.ensures.opens in
    record {
      storage = storage;
      opener = c.in-Ok.opener;
      is_answered = record {
        answered = c.in-Ok.ensures;
        given = record { made = λ h. made; stops = c.make-made.ensures.stops plain; faults = (subst (λ (r : Result _ _). FaultsReported (view builder.image).faults (view storage).faults r) c.in_default.is c.make-made.ensures.faults).told };
      };
      grown = grown;
      holds = λ on. grown_holds view below builder storage made.created c.in-Ok.opener image on.0 on.1 on.2 grown;
      new_disk = λ on which. grown_disk view below builder storage made.created c.in-Ok.opener image on.0 on.1 on.2 grown which;
      stops = λ on which. grown_stops view below builder storage made.created c.in-Ok.opener image on.0 on.1 on.2 (Ok tt) grown (view builder.image) (c.make-made.ensures.stops plain honest) which;
    }

pub returns-in-Err-clause-cause : goal.returns-in-Err-clause-cause
returns-in-Err-clause-cause g c = λ plain honest.
    let view = g.S.Storage.view in
    inl (record {
      reason = subst (λ (r : Result _ _). IfErr r (λ e. IsReasonAgainst c.args.self e ⊎ IsFault e)) c.in-Err.is c.make-made.ensures.cause;
      stops = c.make-made.ensures.stops plain;
      faults = subst (λ (r : Result _ _). FaultsReported (view c.args.self.image).faults (view c.make-made.result.0).faults r) c.in-Err.is c.make-made.ensures.faults;
    })

pub returns-in-Err-open_grown-clause-cause : goal.returns-in-Err-open_grown-clause-cause
returns-in-Err-open_grown-clause-cause g c = λ plain honest.
    let view = g.S.Storage.view in
    let below = g.F.BackingDisk.backing in
    let builder = c.args.self in
    let storage = c.make-made.result.0 in
    let made = subst (λ (r : Result _ _). IfOk r (λ d. IsMade view builder storage)) c.in_default.is (c.make-made.ensures.made plain honest) in
    let told = (subst (λ (r : Result _ _). FaultsReported (view builder.image).faults (view storage).faults r) c.in_default.is c.make-made.ensures.faults).told in
    let same : c.with_data_file.result ≡ c.in-Ok.opener = c.with_data_file.ensures.none (c.make-made.ensures.file ∙ plain.1) in
    inr (elim (subst (λ (opener : Qcow2OpenBuilder _ _). RefusesGrown view below opener builder.preallocate builder.size (c.in-Err-open_grown.storage, c.in-Err-open_grown.refusal)) same c.in-Err-open_grown.ensures.refused) [
      | inl step ↦ inl (record {
        storage = storage;
        opener = c.in-Ok.opener;
        is_answered = record { answered = c.in-Ok.ensures; given = record { made = λ h. made; stops = c.make-made.ensures.stops plain; faults = told } };
        step = step;
      })
      | inr left ↦
          let reason = grown_reason view below builder storage made.created c.in-Ok.opener left.0 in
          inr (record {
            storage = storage;
            opener = c.in-Ok.opener;
            is_answered = record { answered = c.in-Ok.ensures; given = record { made = λ h. made; stops = c.make-made.ensures.stops plain; faults = told } };
            image = left.0;
            is_left = left.1;
            grown = left.2;
            reason = λ on. reason on.0 on.1 on.2 (Err c.in-Err-open_grown.refusal) left.2;
            stops = λ on which. subst (λ s. StopsCreating builder.preallocate builder.size (view builder.image) (view s)) left.1
                (grown_stops view below builder storage made.created c.in-Ok.opener left.0 on.0 on.1 on.2 (Err c.in-Err-open_grown.refusal) left.2 (view builder.image) (c.make-made.ensures.stops plain honest) which);
          })
    ])

pub returns-in-Err-builder-clause-closed : goal.returns-in-Err-builder-clause-closed
returns-in-Err-builder-clause-closed g c = λ plain none.
    let view = g.S.Storage.view in
    let storage = c.make-made.result.0 in
    record {
      storage = storage;
      answered = c.in-Err-builder.ensures;
      given = record {
        made = λ honest. subst (λ (r : Result _ _). IfOk r (λ d. IsMade view c.args.self storage)) c.in_default.is (c.make-made.ensures.made plain honest);
        stops = c.make-made.ensures.stops plain;
        faults = (subst (λ (r : Result _ _). FaultsReported (view c.args.self.image).faults (view storage).faults r) c.in_default.is c.make-made.ensures.faults).told;
      };
    }

pub returns-in-Err-clause-refused : goal.returns-in-Err-clause-refused
returns-in-Err-clause-refused g c = λ none. refused_open c.make-made.result.0 c.args.self.image c.in-Err.refusal I.InvalidOption c.make-made.result.2 c.in-Err.is (c.make-made.ensures.refused none)

pub returns-in-Err-builder-clause-refused : goal.returns-in-Err-builder-clause-refused
returns-in-Err-builder-clause-refused g c = λ none. absurd (not_refused I.InvalidOption (sym c.in_default.is ∙ (c.make-made.ensures.refused none).0))

pub returns-in-Err-open_grown-clause-refused : goal.returns-in-Err-open_grown-clause-refused
returns-in-Err-open_grown-clause-refused g c = λ none. absurd (not_refused I.InvalidOption (sym c.in_default.is ∙ (c.make-made.ensures.refused none).0))

pub returns-in-Ok-open_grown-clause-refused : goal.returns-in-Ok-open_grown-clause-refused
returns-in-Ok-open_grown-clause-refused g c = λ none. absurd (not_refused I.InvalidOption (sym c.in_default.is ∙ (c.make-made.ensures.refused none).0))

pub returns-in-Err-clause-over : goal.returns-in-Err-clause-over
returns-in-Err-clause-over g c = λ allowed is. refused_open c.make-made.result.0 c.args.self.image c.in-Err.refusal I.Preallocation c.make-made.result.2 c.in-Err.is (c.make-made.ensures.over allowed is)

pub returns-in-Err-builder-clause-over : goal.returns-in-Err-builder-clause-over
returns-in-Err-builder-clause-over g c = λ allowed is. absurd (not_refused I.Preallocation (sym c.in_default.is ∙ (c.make-made.ensures.over allowed is).0))

pub returns-in-Err-open_grown-clause-over : goal.returns-in-Err-open_grown-clause-over
returns-in-Err-open_grown-clause-over g c = λ allowed is. absurd (not_refused I.Preallocation (sym c.in_default.is ∙ (c.make-made.ensures.over allowed is).0))

pub returns-in-Ok-open_grown-clause-over : goal.returns-in-Ok-open_grown-clause-over
returns-in-Ok-open_grown-clause-over g c = λ allowed is. absurd (not_refused I.Preallocation (sym c.in_default.is ∙ (c.make-made.ensures.over allowed is).0))

pub returns-in-Err-clause-limit : goal.returns-in-Err-clause-limit
returns-in-Err-clause-limit g c = λ allowed no long. refused_open c.make-made.result.0 c.args.self.image c.in-Err.refusal I.Limit c.make-made.result.2 c.in-Err.is (c.make-made.ensures.limit allowed no long)

pub returns-in-Err-builder-clause-limit : goal.returns-in-Err-builder-clause-limit
returns-in-Err-builder-clause-limit g c = λ allowed no long. absurd (not_refused I.Limit (sym c.in_default.is ∙ (c.make-made.ensures.limit allowed no long).0))

pub returns-in-Err-open_grown-clause-limit : goal.returns-in-Err-open_grown-clause-limit
returns-in-Err-open_grown-clause-limit g c = λ allowed no long. absurd (not_refused I.Limit (sym c.in_default.is ∙ (c.make-made.ensures.limit allowed no long).0))

pub returns-in-Ok-open_grown-clause-limit : goal.returns-in-Ok-open_grown-clause-limit
returns-in-Ok-open_grown-clause-limit g c = λ allowed no long. absurd (not_refused I.Limit (sym c.in_default.is ∙ (c.make-made.ensures.limit allowed no long).0))
