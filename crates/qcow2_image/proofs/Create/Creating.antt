-- An unwritten image is opened, grown and flushed: what a stop leaves meanwhile, and what the storage holds then.
use Rattle.std.proofs.Common.{◌≡◌, ◌+◌, length, ◌⊎◌, ◌^◌, ◌∷◌, ◌++◌, inl, inr, ⊎_elim, ℕ, List, [], None, Some, Result, Ok, Err, refl, sym, ap, ◌∙◌, subst, arith, false, IfOk, Option, is_some}
use Rattle.qcow2_image.proofs.Common.{name_place, unwrap_or, OnOk, option_map, BackingView, StorageView, EachMomentSince, IsLeftBy, PreallocateMode, passes_on, passes_if, IsHeaderIn, KeepsHeaderRest, Bytes, byte_at, HeaderFields, HeaderView, header, new_header, new_fields, HasNewNames, disk, disk_with, SafeThroughout, Checkpoint, checkpoint_at, checkpoint_with, IsAsked, StopOkEverywhere, LeavesKept, IsNewImage, HasNoLeaks, places_of, with_places, IsOpened, ImageError, nothing_given, view_in, Qcow2CreateBuilder, Qcow2, backing_format_in, backing_name_in, IsUnwritten, IsStopOfCreating, StopsCreating, StaysCreating, IsNewHeader, IsCreated, Enlarges, IsMade, IsThreeWith, WritesThree, FitsSize, SameFormat, ReachesSize, storage_of_image, IsKeptSince, needs_another, abstract_of, header_rest_same, header_rest_then, new_image_exact, in_image}
use Rattle.std.specs.String.{string_bytes}
use Rattle.image_access.specs.declared.storage.PreallocateMode.TheVariants as Mode
use Rattle.qcow2_image.proofs.Open.SameHeaders.{alone_still, names_still, not_needed}
use Rattle.qcow2_image.specs.Created.{GrewFromNew, IsThreeClusters, header_end}
use Rattle.qcow2_image.specs.declared.image.Missing.TheVariants as N
use Rattle.qcow2_image.proofs.Create.NewDisks.{new_disk_consistent, unwritten_covers, unwritten_new, starts_unwritten}
use Rattle.qcow2_image.proofs.Create.ThreeWrites.{new_unwritten}

disk_size : (b backing : Bytes) → (disk b backing).size ≡ (header b).size
unfolding disk_with
disk_size b backing = refl

-- what is kept of an unwritten image is unwritten
module _ (n : ℕ) (old c : Bytes) (asked : List ℕ) (unwritten : IsUnwritten n old) (kept : (backing : Bytes) (m : Checkpoint) → StopOkEverywhere backing m old → StopOkEverywhere backing (checkpoint_with [] asked m) c) where
  here : (backing : Bytes) → StopOkEverywhere backing (checkpoint_with [] asked (checkpoint_at (disk old backing) old)) c
  here backing = kept backing (checkpoint_at (disk old backing) old) (record { consistent = unwritten.consistent; rest = header_rest_same old; size = inl refl; values = λ o. inl refl })

  pub unwritten_as : (k : ℕ) → (header c).size ≡ k → IsUnwritten k c
  unwritten_as k is = record {
    consistent = (here (λ o. 0)).consistent;
    size = is;
    shows_below = λ backing o. ⊎_elim (λ same. same ∙ unwritten.shows_below backing o) (λ none. absurd none) ((here backing).values o);
  }

  pub size_then : ((header c).size ≡ n) ⊎ IsAsked (asked ++ []) ((header c).size)
  size_then = ⊎_elim
      (λ same. inl (sym (disk_size c (λ o. 0)) ∙ same ∙ disk_size old (λ o. 0) ∙ unwritten.size))
      (λ a. inr (subst (IsAsked (asked ++ [])) (disk_size c (λ o. 0)) a))
      (here (λ o. 0)).size

-- nothing is asked for
pub unwritten_still : (n : ℕ) (old c : Bytes) → IsUnwritten n old → ((backing : Bytes) (m : Checkpoint) → StopOkEverywhere backing m old → StopOkEverywhere backing (checkpoint_with [] [] m) c) → IsUnwritten n c
unwritten_still n old c unwritten kept = ⊎_elim (λ same. unwritten_as n old c [] unwritten kept n same) (λ asked. absurd asked) (size_then n old c [] unwritten kept)

-- a size is
pub unwritten_either : (size : ℕ) (old c : Bytes) → IsUnwritten 0 old → ((backing : Bytes) (m : Checkpoint) → StopOkEverywhere backing m old → StopOkEverywhere backing (checkpoint_with [] (size ∷ []) m) c) → IsUnwritten 0 c ⊎ IsUnwritten size c
unwritten_either size old c unwritten kept = ⊎_elim
    (λ none. inl (unwritten_as 0 old c (size ∷ []) unwritten kept 0 none))
    (λ asked. ⊎_elim (λ is. inr (unwritten_as 0 old c (size ∷ []) unwritten kept size is)) (λ none. absurd none) asked)
    (size_then 0 old c (size ∷ []) unwritten kept)

-- ---- it is opened
pub opens_unwritten : (n : ℕ) (old new : StorageView) → IsUnwritten n (byte_at old.contents) → IsKeptSince old new → IsUnwritten n (byte_at new.contents)
opens_unwritten n old new unwritten since = unwritten_still n (byte_at old.contents) (byte_at new.contents) unwritten (λ backing m ok. since.contents backing m ok ok)

pub opening_stops : (mode : PreallocateMode) (size : ℕ) (old new : StorageView) → IsUnwritten 0 (byte_at old.contents) → IsKeptSince old new → StopsCreating mode size old new
opening_stops mode size old new unwritten since =
    passes_if (λ c. IsStopOfCreating mode size (byte_at c)) (λ c kept. inr (inl (unwritten_new mode 0 (byte_at c) (unwritten_still 0 (byte_at old.contents) (byte_at c) unwritten (λ backing m ok. kept backing m ok ok))))) since.moments

-- ---- the image is grown and flushed, if no cluster is allocated
module _ (size : ℕ) (old new : StorageView) (known : Bytes) (unwritten : IsUnwritten 0 (byte_at old.contents)) (clean : known ≡ byte_at old.contents) (since : SafeThroughout old new known nothing_given (size ∷ [])) where
  as_known : (backing : Bytes) (m : Checkpoint) → LeavesKept backing m old → StopOkEverywhere backing m known
  as_known backing m ok = subst (StopOkEverywhere backing m) (sym clean) ok

  pub growing_stops : StopsCreating Mode.None size old new
  growing_stops =
      passes_if (λ c. IsStopOfCreating Mode.None size (byte_at c)) (λ c kept. inr (unwritten_either size (byte_at old.contents) (byte_at c) unwritten (λ backing m ok. kept backing m ok (as_known backing m ok)))) since.moments

  pub grown_unwritten : (header (byte_at new.contents)).size ≡ size → IsUnwritten size (byte_at new.contents)
  grown_unwritten is = unwritten_as 0 (byte_at old.contents) (byte_at new.contents) (size ∷ []) unwritten (λ backing m ok. since.contents backing m ok (as_known backing m ok)) size is

  pub grown_rest : KeepsHeaderRest (byte_at old.contents) (byte_at new.contents)
  grown_rest =
      let start = starts_unwritten (λ o. 0) (byte_at old.contents) unwritten in
      (since.contents (λ o. 0) (checkpoint_at (disk (byte_at old.contents) (λ o. 0)) (byte_at old.contents)) start (as_known (λ o. 0) (checkpoint_at (disk (byte_at old.contents) (λ o. 0)) (byte_at old.contents)) start)).rest

-- the headers on the storages are those of the images
pub format_stored : (h h' k k' : HeaderFields) → h ≡ k → h' ≡ k' → SameFormat k k' → SameFormat h h'
format_stored h h' k k' is is' format = subst (λ x. SameFormat x h') (sym is) (subst (λ x. SameFormat k x) (sym is') format)

-- ---- it was opened before that
module _ {S F : Type 0} (view : S → StorageView) (backing : F → BackingView) (mode : PreallocateMode) (size : ℕ) (start : S) (mid : Qcow2 S F) (unwritten : IsUnwritten 0 (byte_at (view start).contents)) (since : IsKeptSince (view start) (view (storage_of_image mid)))
    (opened : IsOpened (abstract_of view backing mid (in_image []))) (format : SameFormat (header (byte_at (view start).contents)) mid.file.header.fields)
    (uncleared : (header (byte_at (view start).contents)).autoclear ≡ 0 → (view_in view mid.file).contents ≡ (view start).contents) where
  pub unwritten_mid : IsUnwritten 0 (byte_at (view_in view mid.file).contents)
  unwritten_mid = opens_unwritten 0 (view start) (view_in view mid.file) unwritten since

  all_stops : (new : StorageView) → StopsCreating mode size (view_in view mid.file) new → StopsCreating mode size (view start) new
  all_stops new then = passes_on (λ c. IsStopOfCreating mode size (byte_at c)) (opening_stops mode size (view start) (view_in view mid.file) unwritten since) then (λ c is. is)

  opening_rest : KeepsHeaderRest (byte_at (view start).contents) (byte_at (view_in view mid.file).contents)
  opening_rest =
      let first = starts_unwritten (λ o. 0) (byte_at (view start).contents) unwritten in
      (since.contents (λ o. 0) (checkpoint_at (disk (byte_at (view start).contents) (λ o. 0)) (byte_at (view start).contents)) first first).rest

  opened_first : (new : StorageView) (r : Result (Unit {0}) ImageError) → Enlarges mode size (view_in view mid.file) new r → Enlarges mode size (view start) new r
  opened_first new (Ok x) done =
      record {
        stays = record { honest = done.stays.honest; moments = all_stops new done.stays.moments };
        new_disk = done.new_disk;
        covers = done.covers;
        format = done.format ∙ ap (λ h. with_places h (places_of (header (byte_at new.contents)))) (opened.sound.file.caches.kept.kept.crash_invariant.top.header_is ∙ format);
        no_autoclear = λ none. done.no_autoclear (ap (λ (l : List ℕ). (header (byte_at l)).autoclear) (uncleared none) ∙ none);
        reaches = done.reaches;
        l1_length = λ none fits. done.l1_length (ap (λ (l : List ℕ). (header (byte_at l)).autoclear) (uncleared none) ∙ none) (subst (λ (l : List ℕ). FitsSize (header (byte_at l))) (sym (uncleared none)) fits);
        rest = header_rest_then (byte_at (view start).contents) (byte_at (view_in view mid.file).contents) (byte_at new.contents) opening_rest done.rest;
      }
  opened_first new (Err e) stops = all_stops new stops

  pub enlarged_so : (new : Qcow2 S F) (last : S) (r : Result (Unit {0}) ImageError) → last ≡ storage_of_image new → Enlarges mode size (view_in view mid.file) (view_in view new.file) r → Enlarges mode size (view start) (view last) r
  enlarged_so new last r is done = subst (λ (s : S). Enlarges mode size (view start) (view s) r) (sym is) (opened_first (view_in view new.file) r done)

-- ---- a disk of no bytes is only flushed
module _ (mode : PreallocateMode) (old new : StorageView) (honest : old.is_honest) (unwritten : IsUnwritten 0 (byte_at old.contents)) (same : new.contents ≡ old.contents) (time : EachMomentSince old new (IsLeftBy new)) where
  still_unwritten : IsUnwritten 0 (byte_at new.contents)
  still_unwritten = subst (λ (l : List ℕ). IsUnwritten 0 (byte_at l)) (sym same) unwritten

  flushed_stops : StopsCreating mode 0 old new
  flushed_stops = passes_if (λ c. IsStopOfCreating mode 0 (byte_at c)) (λ c is. inr (inl (unwritten_new mode 0 (byte_at c) (subst (λ (l : List ℕ). IsUnwritten 0 (byte_at l)) (sym is) still_unwritten)))) time

  flushed_by : (r : Result (Unit {0}) ImageError) → Enlarges mode 0 old new r
  flushed_by (Ok x) =
      let is : header (byte_at new.contents) ≡ header (byte_at old.contents) = ap (λ (l : List ℕ). header (byte_at l)) same in
      let none = still_unwritten.size in
      record {
        stays = record { honest = time.honest honest; moments = flushed_stops };
        new_disk = unwritten_new mode 0 (byte_at new.contents) still_unwritten;
        covers = record { inside = λ g lt. absurd (omega (arith, lt)); behind = (unwritten_covers 0 (byte_at new.contents) still_unwritten).behind };
        format = subst (λ h. SameFormat (header (byte_at old.contents)) h) (sym is) refl;
        no_autoclear = λ cleared. ap (λ (h : HeaderFields). h.autoclear) is ∙ cleared;
        reaches = omega (arith, none);
        l1_length = λ _ fits. subst FitsSize (sym is) fits;
        rest = subst (λ (l : List ℕ). KeepsHeaderRest (byte_at old.contents) (byte_at l)) (sym same) (header_rest_same (byte_at old.contents));
      }
  flushed_by (Err e) = flushed_stops

  pub flushed_enlarges : (n : ℕ) → n ≡ 0 → (r : Result (Unit {0}) ImageError) → Enlarges mode n old new r
  flushed_enlarges n none r = subst (λ k. Enlarges mode k old new r) (sym none) (flushed_by r)

-- ---- the whole call

-- a stop that may leave an image of no bytes
pub stops_at_none : (mode : PreallocateMode) (n : ℕ) (old new : StorageView) → StopsCreating Mode.None 0 old new → StopsCreating mode n old new
stops_at_none mode n old new stops = passes_if (λ c. IsStopOfCreating mode n (byte_at c)) (λ c stop. ⊎_elim (λ none. inl none) (λ either. inr (inl (unwritten_new mode 0 (byte_at c) (⊎_elim (λ u. u) (λ u. u) either)))) stop) stops

pub new_header_is : (v : HeaderView) (bits order : ℕ) (name format : Option (List ℕ)) → v ≡ new_header bits order name format None → HasNewNames v → IsNewHeader v
new_header_is v bits order name format is names = record {
  is = is ∙ sym (ap (λ (w : HeaderView). new_header w.fields.cluster_bits w.fields.refcount_order w.backing_name w.backing_format w.data_file_name) is);
  own_data = ap (λ (w : HeaderView). w.data_file_name) is;
  names = names;
}

module _ {S : Type 0} (view : S → StorageView) (builder : Qcow2CreateBuilder S) (bits order : ℕ) (v : HeaderView) (is : v ≡ new_header bits order (backing_name_in builder) (backing_format_in builder) None) (own : builder.data_file_name ≡ None) (start mid : S)
    (three : StaysCreating Mode.None 0 (view start) (view mid) × IsNewImage v.fields (byte_at (view mid).contents)) where
  pub unwritten : IsUnwritten 0 (byte_at (view mid).contents)
  unwritten = new_unwritten v.fields (byte_at (view mid).contents) three.1 (ap (λ (w : HeaderView). w.fields.size) is)

  pub made_empty : builder.cluster_size ≡ 2 ^ bits → builder.refcount_width ≡ 2 ^ order → IsHeaderIn v (view mid).contents → IsThreeWith v (view mid).contents → IsMade view builder mid
  made_empty clusters counts stands three_alone =
      let new_is : header (byte_at (view mid).contents) ≡ new_fields bits order (backing_name_in builder) (backing_format_in builder) None = three.1.header_is ∙ ap (λ (w : HeaderView). w.fields) is in
      record {
        created = record {
          honest = three.0.honest;
          new_disk = unwritten;
          covers = unwritten_covers 0 (byte_at (view mid).contents) unwritten;
          version = ap (λ (k : HeaderFields). k.version) new_is;
          clusters = ap (λ (k : HeaderFields). 2 ^ k.cluster_bits) new_is ∙ sym clusters;
          counts = ap (λ (k : HeaderFields). 2 ^ k.refcount_order) new_is ∙ sym counts;
          reaches = subst ReachesSize (sym new_is) (omega arith);
          l1_length = subst FitsSize (sym new_is) (λ _. refl, λ some. absurd (omega (arith, some)));
          no_leaks = new_image_exact v.fields (byte_at (view mid).contents) three.1;
          names = record {
            header = v;
            stands = stands;
            backing_is = ap (λ (w : HeaderView). w.backing_name) is;
            format_is = ap (λ (w : HeaderView). w.backing_format) is;
            data_file_is = ap (λ (w : HeaderView). w.data_file_name) is;
          };
          no_backing_file = λ none. ap (λ (k : HeaderFields). k.backing_offset) new_is ∙ ap (λ (o : Option _). (new_fields bits order (option_map string_bytes o) (backing_format_in builder) None).backing_offset) none;
          no_autoclear = ap (λ (k : HeaderFields). k.autoclear) new_is;
          no_compatible = ap (λ (k : HeaderFields). k.compatible) new_is;
          alone = λ unnamed.
              let none : needs_another v ≡ false = ap (λ (w : HeaderView). needs_another w) is ∙ ap (λ (o : Option _). is_some (option_map string_bytes o)) unnamed in
              not_needed N.OtherFiles v (view mid).contents stands none;
          no_more = λ _. subst (λ n. IsThreeClusters n (header_end builder) (view mid).contents) (sym clusters)
              (subst (λ (o : Option _). IsThreeClusters (2 ^ bits) (name_place (backing_format_in builder) (option_map string_bytes o) + length (unwrap_or (backing_name_in builder) [])) (view mid).contents) (sym own)
              (subst (λ (w : HeaderView). IsThreeWith w (view mid).contents) is three_alone));
        };
        new_image = subst (λ (h : HeaderFields). IsNewImage h (byte_at (view mid).contents)) (sym three.1.header_is) three.1;
      }

pub made_by : {S : Type 0} (view : S → StorageView) (builder : Qcow2CreateBuilder S) (bits order : ℕ) (v : HeaderView) (is : v ≡ new_header bits order (backing_name_in builder) (backing_format_in builder) None) (own : builder.data_file_name ≡ None) (start mid : S) (r : Result (Unit {0}) ImageError)
    → WritesThree v.fields (view start) (view mid) r → builder.cluster_size ≡ 2 ^ bits → builder.refcount_width ≡ 2 ^ order → OnOk r (IsHeaderIn v (view mid).contents) → OnOk r (IsThreeWith v (view mid).contents) → IfOk r (λ done. IsMade view builder mid)
made_by view builder bits order v is own start mid (Ok x) three clusters counts stands three_alone = made_empty view builder bits order v is own start mid three clusters counts stands three_alone
made_by view builder bits order v is own start mid (Err e) three clusters counts stands three_alone = tt

pub three_stops : (h : HeaderFields) (old new : StorageView) (r : Result (Unit {0}) ImageError) → WritesThree h old new r → StopsCreating Mode.None 0 old new
three_stops h old new (Ok x) three = three.0.moments
three_stops h old new (Err e) stays = stays.moments

-- ---- its disk is grown
module _ {S : Type 0} (view : S → StorageView) (builder : Qcow2CreateBuilder S) (mid last : S) where
  pub creating_stops : (start : StorageView) → StopsCreating Mode.None 0 start (view mid) → (r : Result (Unit {0}) ImageError) → Enlarges builder.preallocate builder.size (view mid) (view last) r → StopsCreating builder.preallocate builder.size start (view last)
  creating_stops start first r enlarges =
      passes_on (λ c. IsStopOfCreating builder.preallocate builder.size (byte_at c)) (stops_at_none builder.preallocate builder.size start (view mid) first) (stops_of r enlarges) (λ c stop. stop)
    where
      stops_of : (r : Result (Unit {0}) ImageError) → Enlarges builder.preallocate builder.size (view mid) (view last) r → StopsCreating builder.preallocate builder.size (view mid) (view last)
      stops_of (Ok x) done = done.stays.moments
      stops_of (Err e) stops = stops

  pub created_then : IsMade view builder mid → (r : Result (Unit {0}) ImageError) → Enlarges builder.preallocate builder.size (view mid) (view last) r → OnOk r (HasNoLeaks (byte_at (view last).contents)) → (builder.size ≡ 0 → OnOk r ((view last).contents ≡ (view mid).contents))
      → IfOk r (λ done. IsCreated builder (view last))
  created_then made (Err e) stops exact same = tt
  created_then made (Ok x) done exact same =
      let was = made.created in
      let consistent = new_disk_consistent builder.preallocate builder.size (byte_at (view last).contents) done.new_disk in
      record {
        honest = done.stays.honest;
        new_disk = done.new_disk;
        covers = done.covers;
        version = ap (λ (k : HeaderFields). k.version) done.format ∙ was.version;
        clusters = ap (λ (k : HeaderFields). 2 ^ k.cluster_bits) done.format ∙ was.clusters;
        counts = ap (λ (k : HeaderFields). 2 ^ k.refcount_order) done.format ∙ was.counts;
        reaches = done.reaches;
        l1_length = done.l1_length was.no_autoclear was.l1_length;
        no_leaks = exact;
        names = record {
          header = record was.names.header { fields = header (byte_at (view last).contents) };
          stands = names_still (view mid).contents (view last).contents consistent done.rest was.names.header was.names.stands;
          backing_is = was.names.backing_is;
          format_is = was.names.format_is;
          data_file_is = was.names.data_file_is;
        };
        no_backing_file = λ none. ap (λ (k : HeaderFields). k.backing_offset) done.format ∙ was.no_backing_file none;
        no_autoclear = done.no_autoclear was.no_autoclear;
        no_compatible = ap (λ (k : HeaderFields). k.compatible) done.format ∙ was.no_compatible;
        alone = λ unnamed. alone_still (view mid).contents (view last).contents was.new_disk.consistent consistent done.rest (was.alone unnamed);
        no_more = λ none. subst (λ (l : List ℕ). IsThreeClusters builder.cluster_size (header_end builder) l) (sym (same none)) (was.no_more refl);
      }

  pub grew_then : IsMade view builder mid → (r : Result (Unit {0}) ImageError) → Enlarges builder.preallocate builder.size (view mid) (view last) r → IfOk r (λ done. GrewFromNew view builder last)
  grew_then made (Ok x) done = record { made = mid; is_made = made; grown = done }
  grew_then made (Err e) stops = tt

pub refused_open : {S F : Type 0} (storage image : S) (refusal reason : ImageError) (done : Result (Unit {0}) ImageError) → done ≡ Err refusal → (done ≡ Err reason) × (storage ≡ image) → ◌≡◌ {A = Result (Qcow2 S F) (Option S × ImageError)} (Err (Some storage, refusal)) (Err (Some image, reason))
refused_open storage image refusal reason done is refused = let told = refused.0 in let same = refused.1 in cc
