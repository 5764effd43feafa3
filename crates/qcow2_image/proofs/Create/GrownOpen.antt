-- A new image is opened by the builder that a closure returned for its storage, and its disk is grown: what it holds, and what a stop leaves.
use Rattle.std.proofs.Common.{◌≡◌, ◌⊎◌, inl, inr, ℕ, List, [], None, Option, Result, Ok, true, false, ap, ◌∙◌, subst, sym, IfErr, IsTrue, is_some}
use Rattle.qcow2_image.proofs.Common.{option_flatten, BackingView, StorageView, passes_on, byte_at, header, HeaderFields, shows_old, known_in, view_in, ImageError, TablesBehindHeader, HoldsNewDisk, IsCreated, IsNewDisk, IsStopOfCreating, IsUnwritten, OpensGrown, StopsCreating, empty_of, IsHonestBacking, IsKeptSince, IsOpenedFrom, Opens, IsNewlyOpened, OpeningStep, files_missing, IsFaultOrLimit, takes_over, Qcow2CreateBuilder, Qcow2, Qcow2OpenBuilder, in_image}
use Rattle.image_access.specs.declared.storage.PreallocateMode.TheVariants as Mode
use Rattle.qcow2_alloc.specs.declared.error.ImageError.TheVariants as I
use Rattle.qcow2_image.proofs.Lemmas.{usable_opened, opening_stops, opens_unwritten, stops_at_none, grown_refused, unmapped_opened}
use Rattle.qcow2_image.proofs.Create.Leaks.{surplus_taken}
use Rattle.qcow2_image.proofs.Create.AllocatingPlace.{format_mid, known_covers, known_disk, stops_by}
use Rattle.qcow2_image.proofs.Open.NamedBehind.{lies_if}

module _ {S F : Type 0} (view : S → StorageView) (backing : F → BackingView) (builder : Qcow2CreateBuilder S) (storage : S) (made : IsCreated (empty_of builder) (view storage)) (opener : Qcow2OpenBuilder S F) (image : Qcow2 S F)
    (same : opener.image ≡ storage) (honest : IsHonestBacking view backing (option_flatten opener.backing)) (alone : option_flatten opener.data_file ≡ None) where
  module _ (r : Result (Unit {0}) ImageError) (grown : OpensGrown view backing opener builder.preallocate builder.size image r) where
    unwritten : IsUnwritten 0 (byte_at (view storage).contents)
    unwritten = made.new_disk

    from : IsOpenedFrom view backing (byte_at (view storage).contents) grown.opened
    from = subst (λ (s : S). Opens view backing (view s) grown.opened) same (grown.opens honest alone) made.honest unwritten.consistent

    since : IsKeptSince (view storage) (view_in view grown.opened.file)
    since = (subst (λ (s : S). OpeningStep view (view s) true (files_missing opener.backing opener.data_file) (Ok grown.opened)) same grown.step).since made.honest unwritten.consistent

    still : IsUnwritten 0 (byte_at (view_in view grown.opened.file).contents)
    still = opens_unwritten 0 (view storage) (view_in view grown.opened.file) unwritten since

    alone_as : (shows_old builder.preallocate ≡ true) ⊎ (is_some (option_flatten opener.backing) ≡ false) → (shows_old builder.preallocate ≡ true) ⊎ (is_some grown.opened.backing ≡ false)
    alone_as which = elim which [ inl shows ↦ inl shows | inr none ↦ inr (ap (λ (o : Option F). is_some o) grown.over ∙ none) ]

    -- what a stop leaves
    pub grown_stops : (start : StorageView) → StopsCreating Mode.None 0 start (view storage) → (shows_old builder.preallocate ≡ true) ⊎ (is_some (option_flatten opener.backing) ≡ false) → StopsCreating builder.preallocate builder.size start (view_in view image.file)
    grown_stops start first which =
        let P : List ℕ → Type 0 = λ c. IsStopOfCreating builder.preallocate builder.size (byte_at c) in
        passes_on P (stops_at_none builder.preallocate builder.size start (view storage) first)
        (passes_on P (opening_stops builder.preallocate builder.size (view storage) (view_in view grown.opened.file) unwritten since)
        (stops_by view backing builder.size grown.opened image from.opened grown.new.writable_is still builder.preallocate (alone_as which) r grown.takes) (λ c is. is)) (λ c is. is)

    -- why it is refused
    pub grown_reason : IfErr r (λ e. IsFaultOrLimit e ⊎ ((e ≡ I.Preallocation) × IsTrue (takes_over grown.opened builder.preallocate)))
    grown_reason =
        let usable = usable_opened view backing grown.opened from.opened grown.new.writable_is in
        let new = subst (λ (s : S). IsNewlyOpened (view s) true opener.number grown.opened) same grown.new in
        let unmapped = unmapped_opened view backing grown.opened (header (byte_at (view storage).contents)) 0 from.opened still made.version (new.format made.honest) in
        grown_refused view grown.opened unmapped image builder.size _ builder.preallocate r (grown.takes.no_larger usable) (λ lt. grown.may_fail usable lt from.opened.sound)

  -- what it holds
  module _ (grown : OpensGrown view backing opener builder.preallocate builder.size image (Ok tt)) where
    pub grown_disk : (shows_old builder.preallocate ≡ true) ⊎ (is_some (option_flatten opener.backing) ≡ false) → IsNewDisk builder.preallocate builder.size (known_in view image.file)
    grown_disk which = known_disk view backing builder.size grown.opened image (from (Ok tt) grown).opened grown.new.writable_is (still (Ok tt) grown) builder.preallocate tt grown.takes (alone_as (Ok tt) grown which)

    pub grown_holds : HoldsNewDisk view backing builder.preallocate builder.size opener.number image
    grown_holds =
        let opened = (from (Ok tt) grown).opened in
        let keeps = surplus_taken view backing grown.opened image builder.size builder.preallocate (Ok tt) opened.sound (grown.takes.no_larger (usable_opened view backing grown.opened opened grown.new.writable_is)) grown.takes.image grown.takes.sees in
        let acts = (grown.takes.sees (in_image [])).acts in
        let format = format_mid view backing builder.size grown.opened image opened grown.new.writable_is (still (Ok tt) grown) builder.preallocate tt grown.takes in
        let new = subst (λ (s : S). IsNewlyOpened (view s) true opener.number grown.opened) same grown.new in
        let lies = lies_if view backing (view storage).is_honest (view storage) (Ok grown.opened) (λ h. (h, (unwritten (Ok tt) grown).consistent)) (subst (λ (s : S). Opens view backing (view s) grown.opened) same (grown.opens honest alone)) new.header_cluster (inl made.honest) in
        record {
          sound = keeps.sound;
          number_is = acts.number ∙ grown.new.number_is;
          writable = keeps.writable ∙ grown.new.writable_is;
          lost = record { counted = λ k. ap (λ (f : ℕ → ℕ). f k) (keeps.surplus ∙ (from (Ok tt) grown).surplus) ∙ made.no_leaks k; leaks = (acts.works opened.sound).leaks ∙ (from (Ok tt) grown).leaks };
          behind = subst (λ n. TablesBehindHeader n image.file.header.fields.cluster_bits image.l1_table image.file.caches image.allocator) (sym (ap (λ (h : HeaderFields). h.cluster_bits) format)) (grown.marks.header_cluster.kept grown.opened.file.header.fields.cluster_bits lies);
          covers = known_covers view backing builder.size grown.opened image opened grown.new.writable_is (still (Ok tt) grown) builder.preallocate tt grown.takes;
        }
