-- Calls that reach the data file of an image alone leave all else the same.
use Rattle.std.proofs.Common.{◌≡◌, ◌∙◌, ℕ, arith, if◌then◌else◌, true, false, ◌&&◌, List, Option, Some, None, Bool, is_none, is_some, refl, sym, ap, subst, IfSome, MatchOption, Result, Ok, Err}
use Rattle.qcow2_image.proofs.Common.{BackingView, StorageView, DataFile, Image, IsOwn, IsPlacedBehind, IsSameImage, cluster_size, Pending, notes_none, has_data_file, ImageError, CallsBeside, DataFileStep, ImageInvariant, ImageStays, ImageStep, InternalStep, KeepsFileNotes, PreservesHeaderCluster, Prepared, Qcow2, ReadingStep, ReadsQuietly, is_failed, is_placed_by_guest, is_writable, number_of, size_of, Mappings}
use Rattle.qcow2_image.proofs.Call.BehindHeader.{behind_none}
use Rattle.qcow2_image.proofs.Call.FaultCounts.{counted_ok, untouched}
use Rattle.qcow2_image.proofs.Call.ImageSteps.{step_none}
use Rattle.qcow2_image.proofs.Map.Quiet.{reads_none}
use Rattle.qcow2_image.proofs.Prepare.UnlinkedL2Table.{keeps_none}
use Rattle.qcow2_image.proofs.Images.Places.{alone_of}

-- a file is missing as another is
pub none_as : {A : Type 0} (a b : Option A) → is_some a ≡ is_some b → is_none a ≡ is_none b
none_as None None same = refl
none_as (Some x) (Some y) same = refl
none_as None (Some y) same = absurd cc
none_as (Some x) None same = absurd cc

pub none_still : {A : Type 0} (a : Option A) → is_some a ≡ false → a ≡ None
none_still None none = refl
none_still (Some x) none = absurd cc

both_second : (a b : Bool) → (a && b) ≡ true → b ≡ true
both_second true b is = is
both_second false b is = absurd cc

-- without a data file no data are at their guest offsets
pub none_by_guest : {S F : Type 0} (image : Qcow2 S F) → image.data_file ≡ None → is_placed_by_guest image ≡ true → ⊥
none_by_guest image none is = let some = both_second (has_data_file image.file.header.fields) (is_some image.data_file) is in let no = ap (λ (file : Option _). is_some file) none in let bad : true ≡ false = sym some ∙ no in cc

same_error : {A : Type 0} {e f : ImageError} → (◌≡◌ {A = Result A ImageError} (Err e) (Err f)) → e ≡ f
same_error is = cc

-- a refusal that came before anything is handed on
pub refused_by : {S F : Type 0} (A B : Type 0) (old new : Qcow2 S F) (why : Option ImageError) (e : ImageError) → IfSome why (λ x. (◌≡◌ {A = Result A ImageError} (Err e) (Err x)) × (new ≡ old)) → IfSome why (λ x. (◌≡◌ {A = Result B ImageError} (Err e) (Err x)) × (new ≡ old))
refused_by A B old new None e early = tt
refused_by A B old new (Some x) e early = (ap Err (same_error early.0), early.1)

pub refused_at_once : {S F : Type 0} (B : Type 0) (old : Qcow2 S F) (why : Option ImageError) (e : ImageError) → MatchOption why (◌≡◌ {A = Result (Unit {0}) ImageError} (Err e) (Ok tt)) (λ x. ◌≡◌ {A = Result (Unit {0}) ImageError} (Err e) (Err x)) → IfSome why (λ x. (◌≡◌ {A = Result B ImageError} (Err e) (Err x)) × (old ≡ old))
refused_at_once B old None e is = tt
refused_at_once B old (Some x) e is = (ap Err (same_error is), refl)

-- a mapping that a later moment calls its own was its own before
pub own_since : {S F : Type 0} {old mid : Qcow2 S F} (p : Prepared) → IsSameImage old mid → IsOwn mid p → IsOwn old p
own_since p same own = (own.0 ∙ same.number, own.1 ∙ ap (λ (b : Bool). if b then DataFile else Image) same.beside)

-- without a data file a mapping lies behind the header as before
pub behind_since : {S F : Type 0} {old mid : Qcow2 S F} {host : ℕ} → IsSameImage old mid → cluster_size mid.file.header.fields ≡ cluster_size old.file.header.fields → IsPlacedBehind old host → IsPlacedBehind mid host
behind_since same size behind none = let least = behind (sym same.beside ∙ none) in omega (arith, size, least)

-- a part that does nothing leaves the data file the same
pub data_file_none : {S F : Type 0} {view : S → StorageView} {backing : F → BackingView} {Refuses : ImageError → Type 0} (image : Qcow2 S F) → DataFileStep view backing image image Refuses (Ok tt)
data_file_none {view} {backing} image = record {
  part = step_none;
  fails = record { faults = counted_ok view backing image image tt (untouched view backing image image refl refl refl); cause = tt };
  rest = refl;
}

module _ {S F : Type 0} {view : S → StorageView} {backing : F → BackingView} {old new : Qcow2 S F} {result : Result (Unit {0}) ImageError} (beside : CallsBeside view backing old new result) where
  pub stays_beside : ImageStays old new
  stays_beside = record {
    image = record {
      number = ap (λ (i : Qcow2 S F). number_of i) beside.rest;
      size = ap (λ (i : Qcow2 S F). size_of i) beside.rest;
      writable = ap (λ (i : Qcow2 S F). is_writable i) beside.rest;
      lacks = ap (λ (i : Qcow2 S F). has_data_file i.file.header.fields && is_none new.data_file) beside.rest ∙ ap (λ (b : Bool). has_data_file old.file.header.fields && b) (none_as new.data_file old.data_file beside.beside);
      beside = beside.beside;
    };
    failed = ap (λ (i : Qcow2 S F). is_failed i) beside.rest;
  }

  pub step_beside : ImageStep view old new
  step_beside = record {
    stays = stays_beside;
    notes = subst (λ (i : Qcow2 S F). KeepsFileNotes view old.file i.file) (sym beside.rest) notes_none;
    header_cluster = subst (λ (i : Qcow2 S F). PreservesHeaderCluster view old i) (sym beside.rest) behind_none;
  }

  pub reading_beside : ReadingStep view old new
  reading_beside = record {
    part = step_beside;
    header = ap (λ (i : Qcow2 S F). i.file.header) beside.rest;
    list = ap (λ (i : Qcow2 S F). i.file.free_list) beside.rest;
    quiet = subst (λ (i : Qcow2 S F). ReadsQuietly view old i) (sym beside.rest) (reads_none view old);
  }

  -- a sound image has no data file
  pub keeps_beside : (p : Pending) (out : Mappings) → ImageInvariant view backing p old out → InternalStep view backing p p old new out
  keeps_beside p out sound = subst (λ (i : Qcow2 S F). InternalStep view backing p p old i out) (sym (beside.none (alone_of sound)).1) (keeps_none view backing out p old sound)
