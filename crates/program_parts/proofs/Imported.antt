-- An image that was made from a raw disk.
use Rattle.qcow2_image.specs.ImageInvariant.{in_image}
use Rattle.std.proofs.Common.{◌≡◌, ℕ, List, [], refl, sym, ap, ◌∙◌, subst, Option, None, Some, false, Result, Ok, Err, IfOk}
use Rattle.program_parts.proofs.Common.{IsTrue, is_some, BackingView, StorageView, byte_at, IsConsistent, header, cluster_size, count_width, HeaderFields, Setting, IsOpened, disk, contents_in, known_in, Qcow2, HasNothingToFree, IsSameImage, is_writable, storage_of_image, abstract_of, backing_bytes, whole, IsRawOf, Imports, IsImageMade, IsImageOf, IsImageOfSize, zeros_below}
use Rattle.qcow2_disk.proofs.Compose.{rests_none, stops_none}
use Rattle.qcow2_laws.specs.Opened.{HasNoLeaks}
use Rattle.qcow2_image.specs.Calls.{FlushesImage}
use Rattle.qcow2_image.specs.Growing.{KeepsSurplus, SameFormat}
use Rattle.qcow2_image.proofs.Create.Leaks.{no_leaks_flushed}

-- an image without a disk below has zeros there
pub none_below : {S F : Type 0} (view : S → StorageView) (backing : F → BackingView) (below : Option F) → is_some below ≡ false → backing_bytes view backing below ≡ zeros_below
none_below view backing None e = refl
none_below view backing (Some f) e = absurd cc

-- what is so where a call succeeded
pub of_ok : {A E : Type 0} (P : A → Type 0) (r : Result A E) (a : A) → r ≡ Ok a → IfOk r P → P a
of_ok {A} {E} P r a e h = let Q : Result A E → Type 0 = λ it. IfOk it P in subst Q e h

pub ok_then : {A E : Type 0} {P Q : A → Type 0} (r : Result A E) → ((a : A) → P a → Q a) → IfOk r P → IfOk r Q
ok_then (Ok a) to h = to a h
ok_then (Err e) to h = tt

pub ok_both : {A E : Type 0} {P Q R : A → Type 0} (r : Result A E) → ((a : A) → P a → Q a → R a) → IfOk r P → IfOk r Q → IfOk r R
ok_both (Ok a) to h k = to a h k
ok_both (Err e) to h k = tt

-- a header of the same format has clusters of the same size
same_clusters : (h h' : HeaderFields) → SameFormat h h' → cluster_size h' ≡ cluster_size h
same_clusters h h' same = ap cluster_size same

module _ {S F : Type 0} (view : S → StorageView) (backing : F → BackingView) (old new : Qcow2 S F) where
  -- no call at all leaves what is known on the storage
  flushed_still : known_in view new.file ≡ contents_in view new.file → FlushesImage view backing new new (Ok tt)
  flushed_still clean out =
      let w = abstract_of view backing new out in
      record {
        acts = record {
          number = refl;
          works = λ h. record { setting = refl; surplus = λ _. refl; beside = λ _ g untouched. refl; leaks = refl; stops = stops_none w w [] [] refl (λ _. refl) };
          rests = λ failed. rests_none w w refl refl failed refl;
        };
        answer = λ h. (h, (clean, refl));
      }

  -- nothing leaks where nothing had a surplus, and nothing is left to be freed
  leaks_none : KeepsSurplus view backing old new → IsTrue (is_writable old) → known_in view new.file ≡ contents_in view new.file → HasNothingToFree new
      → ((k : ℕ) → (abstract_of view backing old (in_image [])).surplus k ≡ 0) → HasNoLeaks (contents_in view new.file)
  leaks_none kept writable clean empty none = no_leaks_flushed view backing old new new kept writable none (Ok tt) (flushed_still clean) (λ _. empty)

  pub has_image : (bytes : List ℕ) (n width : ℕ) (h : HeaderFields) → count_width (header (contents_in view new.file)) ≡ width → IsOpened (abstract_of view backing old (in_image [])) → is_some old.backing ≡ false → SameFormat h old.file.header.fields
      → IsTrue (is_writable old) → ((k : ℕ) → (abstract_of view backing old (in_image [])).surplus k ≡ 0) → IsSameImage old new → HasNothingToFree new → Imports view backing old new bytes (Ok n) → IsImageOf (view (storage_of_image new)) bytes (cluster_size h) width
  has_image bytes n width h counts opened alone format writable none same empty imports =
      let w = abstract_of view backing new (in_image []) in
      let does = imports (in_image []) in
      let done = does.answer opened.sound in
      let clean = done.1.3 in
      let is_whole = whole view backing new (in_image []) done.0 in
      let setting : w.setting ≡ (abstract_of view backing old (in_image [])).setting = (does.acts.works opened.sound).setting in
      let below : w.setting.backing ≡ zeros_below = ap (λ (x : Setting). x.backing) setting ∙ none_below view backing old.backing alone in
      let clusters : cluster_size (header w.known) ≡ cluster_size h =
      sym is_whole.cluster_size ∙ ap (λ (x : Setting). x.cluster_size) setting ∙ same_clusters h old.file.header.fields format
      in
      record {
        has_disk = record {
          honest = done.0.file.honest;
          consistent = subst IsConsistent clean is_whole.consistent;
          is_disk = subst (λ below. IsRawOf (disk (byte_at (view (storage_of_image new)).contents) below) bytes) below (subst (λ known. IsRawOf (disk known w.setting.backing) bytes) clean done.1.1);
        };
        clusters = ap (λ b. cluster_size (header b)) (sym clean) ∙ clusters;
        counts = counts;
        no_leaks = leaks_none (record { sound = done.0; writable = same.writable; surplus = (does.acts.works opened.sound).surplus done.0 }) writable clean empty none;
      }

-- what was made, whatever the raw disk is
pub made_of : {E : Type 0} (r : Result ℕ E) (raw storage : StorageView) (cluster width size asked : ℕ) → storage.is_honest → IsImageOfSize asked (byte_at storage.contents) → size ≡ asked → IfOk r (λ n. n ≡ size)
    → (raw.is_honest → IfOk r (λ n. IsImageOf storage raw.contents cluster width)) → IfOk r (λ n. IsImageMade raw n storage cluster width)
made_of (Ok n) raw storage cluster width size asked honest image same count is = record { honest = honest; image = subst (λ k. IsImageOfSize k (byte_at storage.contents)) (sym (count ∙ same)) image; disk = is }
made_of (Err e) raw storage cluster width size asked honest image same count is = tt
