use Rattle.std.proofs.Common.{◌≡◌, ◌∙◌, ⊎_elim, inl, inr, refl, sym, ap, subst, Option, Some, None, is_some, map, []}
use Rattle.qcow2_session.proofs.Common.{BackingView, StorageView, Bytes, byte_at, cluster_size, setting_in, shown_below, IsHeadline, RefinesDisk, started, begins, abstract_of, backing_bytes, image_abstraction, whole, IsKeptSince, storage_of_image, command_of, reply_of, bytes_below, missing_beside, IsUntouched, in_image}
use Rattle.qcow2_disk.proofs.Headline.{from_bytes, stop_consistent}
use Rattle.qcow2_session.proofs.Opening.{refused_consistent, kept_opens_again, opens_again}
use Rattle.qcow2_session.proofs.headline.open_and_run.Goals as goal

-- the bytes of the disk below are those that show where the image has nothing
shown_is : {S F : Type 0} (view : S → StorageView) (backing : F → BackingView) (below : Option F) → backing_bytes view backing below ≡ shown_below (bytes_below backing below)
shown_is view backing None = refl
shown_is view backing (Some disk) = refl

backed_is : {F : Type 0} (backing : F → BackingView) (below : Option F) → is_some below ≡ is_some (bytes_below backing below)
backed_is backing None = refl
backed_is backing (Some disk) = refl

pub returns-clause-number : goal.returns-clause-number
returns-clause-number g c = c.run-replies.ensures.step.number ∙ c.in-Ok.ensures.ok.0

pub returns-clause-another : goal.returns-clause-another
returns-clause-another g c = λ honest needs. absurd ((c.in-Ok.ensures.another honest needs).0)

pub returns-in-Err-clause-another : goal.returns-in-Err-clause-another
returns-in-Err-clause-another g c = λ honest needs. (c.in-Err.ensures.another honest needs).1

pub returns-clause-headline : goal.returns-clause-headline
returns-clause-headline g c = λ honest consistent stays unflushed.
    let view = g.S.Storage.view in
    let below = g.F.BackingDisk.backing in
    let before = view c.args.storage in
    let opened = c.in-Ok.image in
    let new = c.run-replies.new.image in
    let bytes : Option Bytes = bytes_below below c.args.below in
    let opens = c.in-Ok.ensures.opens stays honest consistent in
    let is = opens.opened in
    let since : IsKeptSince before (view (storage_of_image opened)) = c.in-Ok.ensures.since honest consistent in
    let setting : (image_abstraction view below).setting opened ≡ setting_in bytes (byte_at before.contents) = λ i. record {
      cluster_size = ap cluster_size (c.in-Ok.ensures.format honest) i;
      is_backed = (ap is_some c.in-Ok.ensures.over.0 ∙ backed_is below c.args.below) i;
      backing = (ap (λ o. backing_bytes view below o) c.in-Ok.ensures.over.0 ∙ shown_is view below c.args.below) i;
    } in
    ⊎_elim
    (λ (none : IsUntouched view below opened new c.run-replies.result.items). inl (none.0, subst (λ (image : _). IsKeptSince before (view (storage_of_image image))) (sym none.1) since))
    (λ (refines : RefinesDisk (image_abstraction view below) opened new (map command_of c.args.commands.now) (map reply_of c.run-replies.result.items)).
    inr (from_bytes (image_abstraction view below) before bytes opened new _ _ consistent (g.S.Storage.only_now c.args.storage) since is.clean refl setting is.sound opens.surplus opens.leaks refines))
    (c.run-replies.ensures.means unflushed is)

pub returns-clause-again : goal.returns-clause-again
returns-clause-again g c = λ unflushed honest consistent stays k had.
    let view = g.S.Storage.view in
    let below = g.F.BackingDisk.backing in
    let before = view c.args.storage in
    let new = c.run-replies.new.image in
    let commands = map command_of c.args.commands.now in
    let replies = map reply_of c.run-replies.result.items in
    ⊎_elim
    (λ (none : (c.run-replies.result.items ≡ []) × IsKeptSince before (view (storage_of_image new))).
    kept_opens_again before (view (storage_of_image new)) consistent (g.S.Storage.only_now c.args.storage) none.1 k had)
    (λ (all : IsHeadline (image_abstraction view below) before (bytes_below below c.args.below) new commands replies).
    opens_again k (stop_consistent ((image_abstraction view below).setting all.opened) (started (abstract_of view below all.opened (in_image []))) all.refines.end commands replies all.refines.run (byte_at k) (all.stops k had)))
    (returns-clause-headline g c honest consistent stays unflushed)

pub returns-clause-reports : goal.returns-clause-reports
returns-clause-reports g c =
    let view = g.S.Storage.view in
    let below = g.F.BackingDisk.backing in
    let opened = c.in-Ok.image in
    record {
      opened = opened;
      over = c.in-Ok.ensures.over.0;
      number_is = c.in-Ok.ensures.ok.0;
      writable = c.in-Ok.ensures.ok.2;
      works = c.in-Ok.ensures.ok.1;
      counts = c.in-Ok.ensures.faults;
      leaves = c.in-Ok.ensures.storage;
      run = c.run-replies.ensures.reports;
      behind = c.in-Ok.ensures.header_cluster;
      header_cluster = c.run-replies.ensures.step.header_cluster;
      is = λ honest consistent stays. c.in-Ok.ensures.opens stays honest consistent;
      begins = λ honest consistent stays. let is = c.in-Ok.ensures.opens stays honest consistent in begins (abstract_of view below opened (in_image [])) is.opened.sound (whole view below opened (in_image []) is.opened.sound) is.opened.clean;
    }

pub returns-clause-faults : goal.returns-clause-faults
returns-clause-faults g c = (c.in-Ok.image, c.in-Ok.ensures.over.0, c.in-Ok.ensures.faults, c.run-replies.ensures.step.faults)

pub returns-in-Err-clause-reports : goal.returns-in-Err-clause-reports
returns-in-Err-clause-reports g c = (c.in-Err.ensures.cause, c.in-Err.ensures.storage)

pub returns-in-Err-clause-headline : goal.returns-in-Err-clause-headline
returns-in-Err-clause-headline g c = λ honest consistent.
    (refused_consistent (g.S.Storage.view c.args.storage).contents (missing_beside c.args.below) _ consistent (c.in-Err.ensures.cause.1 honest), c.in-Err.ensures.since honest consistent)

pub returns-in-Err-clause-again : goal.returns-in-Err-clause-again
returns-in-Err-clause-again g c = λ honest consistent stays k had.
    kept_opens_again (g.S.Storage.view c.args.storage) (g.S.Storage.view c.in-Err.refused.0) consistent (g.S.Storage.only_now c.args.storage) (c.in-Err.ensures.since honest consistent) k had
