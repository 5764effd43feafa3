-- The steps of a shrink, after the data file was resized.
use Rattle.std.proofs.Common.{◌≡◌, ◌∙◌, Option, Some, None, Err, inr}
use Rattle.qcow2_image.proofs.Common.{BackingView, StorageView, CountsImageFaults, ImageError, IsSameImage, PreservesHeaderCluster, Qcow2, RecordsChanges, RecordsPart, SameFaults, is_failed}
use Rattle.qcow2_image.specs.Resizing.{TailStep}
use Rattle.qcow2_image.proofs.Clear.ClearedCalls.{same_image_then}
use Rattle.qcow2_image.proofs.Lemmas.{behind_then, call_then, counted_since, faults_then, fewer_of, refused_since}

module _ {S F : Type 0} (view : S → StorageView) (backing : F → BackingView) (old mid new : Qcow2 S F) where
  part_of : RecordsChanges view mid new → RecordsPart view mid new
  part_of since = record { honest = since.honest; no_fewer = since.no_fewer; why = λ noted. inr (since.why noted); contents = λ none. since.contents }

  pub tail_later : (stopped : Option ImageError) → IsSameImage old mid → is_failed mid ≡ is_failed old → RecordsChanges view old mid → PreservesHeaderCluster view old mid → SameFaults view backing old mid → TailStep view backing stopped mid new → TailStep view backing stopped old new
  tail_later None image failed since behind same tail =
      let all = faults_then view backing old mid new same tail.faults.2 in
      record {
        image = same_image_then image tail.image;
        cause = tt;
        marks = tail.marks ∙ failed;
        since = call_then view old mid new since (part_of tail.since);
        header_cluster = behind_then behind tail.header_cluster;
        faults = (fewer_of view backing old new all, tt, all);
      }
  tail_later (Some e) image failed since behind same tail =
      let told : CountsImageFaults view backing {T = Unit {0}} mid new (Err e) = record { no_fewer = tail.faults.0; rose = tail.faults.1; told = tail.faults.2 } in
      let all = counted_since view backing old mid new (Err e) same told in
      record {
        image = same_image_then image tail.image;
        cause = tail.cause;
        marks = refused_since old mid new failed e tail.marks;
        since = call_then view old mid new since (part_of tail.since);
        header_cluster = behind_then behind tail.header_cluster;
        faults = (all.no_fewer, all.rose, all.told);
      }
