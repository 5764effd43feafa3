-- A call that begins, does one part, and marks a failure.
use Rattle.std.proofs.Common.{◌≡◌, sym, ap, ◌∙◌, subst, Result}
use Rattle.qcow2_image.proofs.Common.{BackingView, StorageView, ImageError, CountsImageFaults, SameFaults, ImageStays, IsBegun, IsSameImage, CallStep, ImageStep, ReadingCall, ReadingStep, MarksFailed, KeepingStep, PuttingCall, Qcow2}
use Rattle.qcow2_image.proofs.Lemmas.{behind_call, counted_marked, marks_since, fails_once, reads_call}
use Rattle.qcow2_image.proofs.Call.ImageSteps.{stays_then}

module _ {S F : Type 0} {view : S → StorageView} {backing : F → BackingView} {old begun : Qcow2 S F} (begins : IsBegun old begun) (stays : ImageStays old begun) (first : SameFaults view backing old begun)
    {T : Type 0} {last new : Qcow2 S F} (done result : Result T ImageError) (marks : MarksFailed last new done) (rest : new ≡ record last { is_failed = new.is_failed }) (answer : result ≡ done) where
  pub call_marked : ImageStep view begun last → CountsImageFaults view backing begun last done → CallStep view backing old new result
  call_marked part fails =
      let both = stays_then stays part.stays in
      record {
        image = subst (λ (i : Qcow2 S F). IsSameImage old i) (sym rest) (record { number = both.image.number; size = both.image.size; writable = both.image.writable; lacks = both.image.lacks; beside = both.image.beside });
        marks = subst (λ (r : Result T ImageError). MarksFailed old new r) (sym answer) (marks_since old last new both.failed done marks);
        once_written = fails_once view old begun begins last new done part.notes both.failed marks rest result (λ memory. sym answer ∙ memory);
        header_cluster = behind_call view begins part.header_cluster rest;
        faults = counted_marked view backing old begun last new done result first fails answer rest;
      }

  pub reading_marked : ReadingStep view begun last → CountsImageFaults view backing begun last done → ReadingCall view backing old new result
  reading_marked read fails =
      let call = call_marked read.part fails in
      record {
        image = call.image;
        header = ap (λ (i : Qcow2 S F). i.file.header) rest ∙ read.header ∙ ap (λ (i : Qcow2 S F). i.file.header) begins.rest;
        marks = call.marks;
        once_written = call.once_written;
        header_cluster = call.header_cluster;
        faults = call.faults;
        quiet = reads_call view old begun last new new.is_failed begins read.quiet rest;
      }

  pub putting_marked : KeepingStep view begun last → CountsImageFaults view backing begun last done → PuttingCall view backing old new result
  putting_marked put fails =
      let call = call_marked (record { stays = put.stays; notes = put.notes; header_cluster = put.header_cluster }) fails in
      record {
        image = call.image;
        header = ap (λ (i : Qcow2 S F). i.file.header) rest ∙ put.header ∙ ap (λ (i : Qcow2 S F). i.file.header) begins.rest;
        list = ap (λ (i : Qcow2 S F). i.file.free_list) rest ∙ put.list ∙ ap (λ (i : Qcow2 S F). i.file.free_list) begins.rest;
        marks = call.marks;
        once_written = call.once_written;
        header_cluster = call.header_cluster;
        faults = call.faults;
      }
