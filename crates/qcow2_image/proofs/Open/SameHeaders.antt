-- The bytes of an image hold only one header, and an image that needs another file is refused for that.
use Rattle.std.proofs.Common.{◌≡◌, ◌≢◌, ◌⊎◌, ◌/◌, ◌%◌, ◌||◌, ◌==◌, Result, ℕ, Option, is_some, List, true, false, Bool, refl, sym, ap, ◌∙◌, subst, inl, inr}
use Rattle.qcow2_image.proofs.Common.{StorageView, Bytes, byte_at, IsConsistent, KeepsHeaderRest, header_rest_back, header, HeaderView, HeaderReads, has_data_file, HeaderFields, IsHeaderIn, IsReasonToRefuse, OnlyReads, MetadataError, ImageError, Dependency, UnalignedTable, of_metadata, IsFault, needs_missing, needs_another, NeedsAnother, NeedsMissing, Missing, MayFail, ContentsStayThroughout}
use Rattle.qcow2_disk.proofs.HeaderNames.{names_stay}
use Rattle.qcow2_metadata.specs.declared.error.MetadataError.TheVariants as M
use Rattle.image_access.specs.declared.error.StorageError.TheVariants as T
use Rattle.qcow2_image.specs.declared.image.Missing.TheVariants as N

-- what it needs is the same for both
pub needs_so : (v w : HeaderView) (contents : List ℕ) → IsHeaderIn v contents → IsHeaderIn w contents → needs_another v ≡ needs_another w
needs_so v w contents is it =
    let b = byte_at contents in
    let fields : v.fields ≡ w.fields = is.fields ∙ sym it.fields in
    let below : v.backing_name ≡ w.backing_name = is.backing_name ∙ sym it.backing_name in
    cc

-- no header that reads is refused but for an offset, a fault or want of memory
pub refused_before : (h : HeaderFields) (b : Bytes) (writable : Bool) (e : MetadataError) → HeaderReads h b → IsReasonToRefuse h b writable e → (of_metadata e ≡ UnalignedTable) ⊎ IsFault (of_metadata e)
refused_before h b writable (M.Storage T.Fault) reads why = inr (inl refl)
refused_before h b writable M.Version reads why = absurd why
refused_before h b writable M.Unaligned reads why = inl refl
refused_before h b writable M.Limit reads why = absurd (why.1 reads.within_limits)
refused_before h b writable M.Format reads why = absurd (why reads.well_formed)
refused_before h b writable _ reads why = inr (inr refl)

pub lacks_so : (missing : Missing) (v w : HeaderView) (contents : List ℕ) → IsHeaderIn v contents → IsHeaderIn w contents → needs_missing missing v ≡ needs_missing missing w
lacks_so N.Nothing v w contents is it = refl
lacks_so N.DataFile v w contents is it = ap has_data_file (is.fields ∙ sym it.fields)
lacks_so N.BackingFile v w contents is it = ap (λ (name : Option (List ℕ)). is_some name) (is.backing_name ∙ sym it.backing_name)
lacks_so N.OtherFiles v w contents is it = needs_so v w contents is it

-- where no file is missing none is needed
pub some_missing : (missing : Missing) (v : HeaderView) → needs_missing missing v ≡ true → missing ≢ N.Nothing
some_missing missing v needs none = let bad : false ≡ true = ap (λ (m : Missing). needs_missing m v) (sym none) ∙ needs in cc

-- a refusal that comes during the work is not a missing file
pub metadata_not_missing : (e : MetadataError) → of_metadata e ≡ Dependency → ⊥
metadata_not_missing (M.Storage T.Fault) is = absurd (cc)
metadata_not_missing e is = absurd (cc)

pub not_missing : (e : ImageError) → MayFail e → e ≡ Dependency → ⊥
not_missing e may_fail is = subst MayFail is may_fail

-- a header that needs no file that is missing isn't that of an image that does
pub not_needed : (missing : Missing) (v : HeaderView) (contents : List ℕ) → IsHeaderIn v contents → needs_missing missing v ≡ false → NeedsMissing missing contents → ⊥
not_needed missing v contents is none needs = let same = lacks_so missing v needs.header contents is needs.stands in let some = needs.needs in let bad : true ≡ false = sym some ∙ sym same ∙ none in cc

-- a storage that was read, as it was handed in and is handed back
pub stays_so : {S T : Type 0} (view : S → StorageView) (old mid last out : S) (result : Result T MetadataError) → mid ≡ old → out ≡ last → OnlyReads (view mid) (view last) result → (view old).is_honest → ContentsStayThroughout (view old) (view out)
stays_so view old mid last out result is at reads = subst (λ s. (view s).is_honest → ContentsStayThroughout (view s) (view out)) is (subst (λ s. (view mid).is_honest → ContentsStayThroughout (view mid) (view s)) (sym at) (λ honest. (reads.same, reads.time honest)))

-- the names stay while the rest of the header does
pub names_still : (old new : List ℕ) → IsConsistent (byte_at new) → KeepsHeaderRest (byte_at old) (byte_at new) → (v : HeaderView) → IsHeaderIn v old → IsHeaderIn (record v { fields = header (byte_at new) }) new
names_still old new after rest v stands =
    let read = stands.reads.well_formed in
    let same = names_stay (byte_at old) (byte_at new) stands.reads rest in
    let is = after.header_reads in
    record {
      fields = refl;
      reads = record { well_formed = record is.well_formed { extensions = record { list = read.extensions.list; stand = same.extensions read.extensions.list read.extensions.stand } }; within_limits = is.within_limits };
      backing_name = stands.backing_name ∙ sym same.backing_name;
      backing_format = stands.backing_format;
      data_file_name = stands.data_file_name;
    }

-- A consistent image that needs no other file needs none while the rest of its header stays.
pub alone_still : (old new : List ℕ) → IsConsistent (byte_at old) → IsConsistent (byte_at new) → KeepsHeaderRest (byte_at old) (byte_at new) → (NeedsAnother old → ⊥) → NeedsAnother new → ⊥
alone_still old new before after rest alone needs =
    let v = needs.header in
    let none : v.fields.incompatible ≡ 0 = ap (λ (h : HeaderFields). h.incompatible) needs.stands.fields ∙ after.no_data_file in
    let still : needs_another (record v { fields = header (byte_at old) }) ≡ needs_another v = ap (λ n. n / 4 % 2 == 1 || is_some v.backing_name) (before.no_data_file ∙ sym none) in
    alone (record {
      header = record v { fields = header (byte_at old) };
      stands = names_still new old before (header_rest_back (byte_at old) (byte_at new) rest) v needs.stands;
      needs = still ∙ needs.needs;
    })
