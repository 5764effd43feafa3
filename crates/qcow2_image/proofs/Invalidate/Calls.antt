-- An image whose tables were dropped and read again, from the parts of the call.
use Rattle.std.proofs.Common.{◌≡◌, ◌<◌, ◌≤◌, ◌*◌, ℕ, List, inl, inr, Result, Ok, Err, refl, sym, ap, ◌∙◌, subst, IsErrAnd, IsSome, Option}
use Rattle.qcow2_image.proofs.Common.{IfSome, OnOk, BackingView, StorageView, byte_at, HeaderView, entries_per_cluster, header, with_fields, with_tables_of, HeaderFields, Pending, l2_pins, CachesHaveRoom, IsFault, contents_in, known_in, view_in, HasReftable, l2_at, rb_at, AreAllWritten, MetadataCaches, ImageError, ImageFile, notes_then, is_writable, leaked_in, IsBegun, HasL1Table, ImageInvariant, ImageStep, ArePlacesFor, DropsCached, RespectsPrepared, HoldsNoTable, IsAsStored, IsAtRest, IsReasonAgainstPlaces, IsReasonAgainstReading, IsOfPrepared, IsReasonNotToRead, IsStillInUse, KeepsTables, ReadsAnew, ReadsPlaces, ReplacesTables, reftable_in, HasPinnedTable, IsReasonAgainstTables, ContentsStayThroughout, Qcow2, Prepared, Mappings}
use Rattle.qcow2_alloc.specs.declared.error.ImageError.TheVariants as I
use Rattle.qcow2_image.proofs.Lemmas.{behind_then, step_then, silent_none, silent_then, stays_over, kept_then}
use Rattle.qcow2_image.proofs.Call.ImageSteps.{stays_then}
use Rattle.qcow2_image.proofs.Invalidate.Reasons.{l1_fault, places_fault, reftable_fault}

pub on_both : {A E : Type 0} {P Q R : Type 0} (r : Result A E) → (P → Q → R) → OnOk r P → OnOk r Q → OnOk r R
on_both (Ok x) follows first second = follows first second
on_both (Err e) follows first second = tt

-- the clusters to be freed are forgotten, and tables are dropped: those in memory stay
pub kept_dropped : {S F : Type 0} (a b : Qcow2 S F) → DropsCached a b → KeepsTables a b
kept_dropped a b drops = record { header = ap (λ (i : Qcow2 _ _). i.file.header) drops.rest; l1_table = ap (λ (i : Qcow2 _ _). i.l1_table) drops.rest; reftable = drops.reftable }

-- the first part left it so
pub anew_dropped : {S F : Type 0} (view : S → StorageView) (a b : Qcow2 S F) → ImageStep view a b → DropsCached a b → ReadsAnew view a b
anew_dropped view a b step drops = record {
  part = record { stays = step.stays; notes = step.notes; header_cluster = λ names. step.header_cluster };
  rest = record { header = stays_over a.file.header b.file.header (ap (λ (i : Qcow2 _ _). i.file.header) drops.rest); below = ap (λ (i : Qcow2 _ _). i.backing) drops.rest; leaks = drops.leaks };
  silent = λ honest. subst (λ (v : StorageView). ContentsStayThroughout (view_in view a.file) v) (sym (ap (λ (i : Qcow2 _ _). view_in view i.file) drops.rest)) (silent_none (view_in view a.file));
  unmodified = drops.unmodified;
}

module _ {S F : Type 0} (view : S → StorageView) (a b d : Qcow2 S F) (step : ImageStep view a b) (drops : DropsCached a b) (places : ReadsPlaces view b d) where
  same_header : b.file.header ≡ a.file.header
  same_header = ap (λ (i : Qcow2 S F). i.file.header) drops.rest

  same_view : view_in view b.file ≡ view_in view a.file
  same_view = ap (λ (i : Qcow2 S F). view_in view i.file) drops.rest

  -- the storage of the first image was read
  pub silent_places : (view_in view a.file).is_honest → ContentsStayThroughout (view_in view a.file) (view_in view d.file)
  silent_places = subst (λ (v : StorageView). v.is_honest → ContentsStayThroughout v (view_in view d.file)) same_view places.silent

  pub honest_places : (view_in view a.file).is_honest → (view_in view b.file).is_honest
  honest_places honest = subst (λ (v : StorageView). v.is_honest) (sym same_view) honest

  placed_header : d.file.header ≡ b.file.header
  placed_header = ap (λ (i : Qcow2 S F). i.file.header) places.rest

  unmodified_places : AreAllWritten b.file.caches → AreAllWritten d.file.caches
  unmodified_places all = subst AreAllWritten (sym (ap (λ (i : Qcow2 S F). i.file.caches) places.rest)) all

  pub anew_places : ReadsAnew view a d
  anew_places =
      let first = step_then step places.part in
      record {
        part = record { stays = first.stays; notes = first.notes; header_cluster = λ names. first.header_cluster };
        rest = record {
          header = stays_over a.file.header d.file.header (placed_header ∙ same_header);
          below = ap (λ (i : Qcow2 S F). i.backing) places.rest ∙ ap (λ (i : Qcow2 S F). i.backing) drops.rest;
          leaks = ap (λ (i : Qcow2 S F). leaked_in i) places.rest ∙ drops.leaks;
        };
        silent = silent_places;
        unmodified = λ none. unmodified_places (drops.unmodified none);
      }

  pub kept_places : KeepsTables a d
  kept_places = kept_then (kept_dropped a b drops) (record {
    header = placed_header;
    l1_table = ap (λ (i : Qcow2 S F). i.l1_table) places.rest;
    reftable = ap (λ (i : Qcow2 S F). reftable_in i) places.rest;
  })

  -- the places that were read for one image are places for the next
  pub places_for : (w : HeaderView) → ArePlacesFor b w → ArePlacesFor d w
  places_for w are = record {
    others = subst (λ (v : HeaderView). w.fields ≡ with_tables_of v.fields w.fields) (sym placed_header) are.others;
    few = subst (λ (v : HeaderView). w.fields.reftable_clusters * entries_per_cluster v.fields ≤ 1048576) (sym placed_header) are.few;
  }

  module _ (e : Qcow2 S F) (tables : ReplacesTables view d e) where
    pub anew_then : ReadsAnew view a e
    anew_then =
        let first = step_then step places.part in
        record {
          part = record {
            stays = stays_then first.stays tables.part.stays;
            notes = notes_then first.notes tables.part.notes;
            header_cluster = λ names. behind_then first.header_cluster (tables.part.header_cluster names);
          };
          rest = record {
            header = subst (λ (v : HeaderView). e.file.header ≡ with_fields v (with_tables_of v.fields e.file.header.fields)) (placed_header ∙ same_header) tables.header;
            below = ap (λ (i : Qcow2 S F). i.backing) tables.rest ∙ ap (λ (i : Qcow2 S F). i.backing) places.rest ∙ ap (λ (i : Qcow2 S F). i.backing) drops.rest;
            leaks = tables.leaks ∙ ap (λ (i : Qcow2 S F). leaked_in i) places.rest ∙ drops.leaks;
          };
          silent = λ honest. silent_then (view_in view a.file) (view_in view d.file) (view_in view e.file) honest (silent_places honest) tables.silent;
          unmodified = λ none. subst AreAllWritten (sym (ap (λ (i : Qcow2 S F). i.file.caches) tables.rest)) (unmodified_places (drops.unmodified none));
        }

    -- no table came into the caches
    pub none_held_then : HoldsNoTable b → HoldsNoTable e
    none_held_then none =
        let same : e.file.caches ≡ b.file.caches = ap (λ (i : Qcow2 S F). i.file.caches) tables.rest ∙ ap (λ (i : Qcow2 S F). i.file.caches) places.rest in
        record { tables = λ k. ap (λ (m : MetadataCaches S). l2_at m k) same ∙ none.tables k; blocks = λ k. ap (λ (m : MetadataCaches S). rb_at m k) same ∙ none.blocks k }

    pub as_stored : (backing : F → BackingView) (w : HeaderView) → (view_in view a.file).is_honest → with_tables_of b.file.header.fields (header (contents_in view b.file)) ≡ w.fields → e.file.header.fields ≡ w.fields
        → HasL1Table view backing e.file e.l1_table × IfSome e.allocator (λ x. HasReftable view e.file x.reftable) → IsAsStored view backing e
    as_stored backing w honest there taken has =
        let all = silent_then (view_in view a.file) (view_in view d.file) (view_in view e.file) honest (silent_places honest) tables.silent in
        let same : (view_in view e.file).contents ≡ (view_in view b.file).contents = all.0 honest ∙ sym (ap (λ (v : StorageView). v.contents) same_view) in
        let fields : e.file.header.fields ≡ with_tables_of b.file.header.fields (header (contents_in view b.file)) = taken ∙ sym there in
        record {
          header_is =
              subst (λ (h : HeaderFields). with_tables_of h (header (contents_in view e.file)) ≡ h) (sym fields)
              (ap (λ (c : List ℕ). with_tables_of b.file.header.fields (header (byte_at c))) same);
          l1_table = has.0;
          reftable = has.1;
        }

-- ---- why it is refused
module _ {S F : Type 0} (view : S → StorageView) (old new : Qcow2 S F) where
  pub places_reason : (e : ImageError) → IsReasonAgainstPlaces old.file.header.fields (contents_in view old.file) (is_writable old) e → IsReasonAgainstReading view old new e
  places_reason (I.StillInUse tables) why = absurd why
  places_reason e why = inl why

  pub tables_reason : (e : ImageError) → IsReasonAgainstTables (with_tables_of old.file.header.fields (header (contents_in view old.file))) (contents_in view old.file) (is_writable old) e → IsReasonAgainstReading view old new e
  tables_reason (I.StillInUse tables) why = absurd (elim why [ inl none ↦ none | inr none ↦ none.2 ])
  tables_reason e why = inr why

  -- on a sound image without a prepared mapping
  pub reading_fault : (backing : F → BackingView) (p : Pending) (out : Mappings) → ImageInvariant view backing p old out → ¬ HasPinnedTable old → (e : ImageError) → IsReasonAgainstReading view old new e → IsFault e
  reading_fault backing p out sound none (I.StillInUse tables) why = absurd (elim why [ inl has ↦ none has.0 | inr full ↦ full sound.file.room ])
  reading_fault backing p out sound none e why =
      let h = old.file.header.fields in
      let b = contents_in view old.file in
      let top = sound.file.caches.kept.kept.crash_invariant.top in
      elim why [
        | inl places ↦ places_fault h b top (is_writable old) e places
        | inr tables ↦ elim (subst (λ (k : HeaderFields). IsReasonAgainstTables (with_tables_of h k) b (is_writable old) e) top.header_is tables) [
          | inl l1 ↦ l1_fault h b top e l1
          | inr reftable ↦ reftable_fault h b top e reftable.2
        ]
      ]

-- ---- while a mapping is prepared, and if that is reported
module _ {S F : Type 0} (old : Qcow2 S F) where
  pub heeds_all : (r : Result (Unit {0}) ImageError) → HasPinnedTable old → RespectsPrepared old r → IsErrAnd r IsOfPrepared
  heeds_all (Ok x) has none = absurd (none has)
  heeds_all (Err (I.StillInUse tables)) has respects = inl tt
  heeds_all (Err I.Memory) has respects = inr refl
  heeds_all (Err e) has none = absurd (none has)

  pub told_in_use : (view : S → StorageView) (new : Qcow2 S F) (P : Type 0) → (HasPinnedTable old → P) → CachesHaveRoom old.file.caches → (e : ImageError) → IsReasonAgainstReading view old new e → IsStillInUse e → P
  told_in_use view new P then room (I.StillInUse tables) why is = elim why [ inl has ↦ then has.0 | inr full ↦ absurd (full room) ]
  told_in_use view new P then room e why is = absurd is

-- ---- since the call began, and after it was marked
module _ {S F : Type 0} (view : S → StorageView) (old begun : Qcow2 S F) (begins : IsBegun old begun) where
  has_begun : HasPinnedTable old → HasPinnedTable begun
  has_begun has = record { cluster = has.cluster; pins = subst (λ (m : MetadataCaches S). 0 < l2_pins m has.cluster) (sym begins.caches) has.pins }

  had_begun : HasPinnedTable begun → HasPinnedTable old
  had_begun has = record { cluster = has.cluster; pins = subst (λ (m : MetadataCaches S). 0 < l2_pins m has.cluster) begins.caches has.pins }

  pub heeds_begun : (r : Result (Unit {0}) ImageError) → RespectsPrepared begun r → RespectsPrepared old r
  heeds_begun (Ok x) none = λ has. none (has_begun has)
  heeds_begun (Err (I.StillInUse tables)) respects = tt
  heeds_begun (Err I.Memory) respects = tt
  heeds_begun (Err e) none = λ has. none (has_begun has)

  room_begun : CachesHaveRoom old.file.caches → CachesHaveRoom begun.file.caches
  room_begun room = subst CachesHaveRoom (sym begins.caches) (record { tables = room.tables; some = room.some; free = room.free })

  not_read : (e : ImageError) → IsReasonNotToRead begun.file.header.fields (contents_in view begun.file) (is_writable begun) e → IsReasonNotToRead old.file.header.fields (contents_in view old.file) (is_writable old) e
  not_read e why = subst (λ (s : S). IsReasonNotToRead old.file.header.fields (byte_at (view s).contents) (is_writable old) e) begins.storage
      (subst (λ (i : Qcow2 S F). IsReasonNotToRead i.file.header.fields (contents_in view begun.file) (is_writable i) e) begins.rest why)

  pub why_begun : (mid new : Qcow2 S F) → new.file ≡ mid.file → (e : ImageError) → IsReasonAgainstReading view begun mid e → IsReasonAgainstReading view old new e
  why_begun mid new same (I.StillInUse tables) why = elim why [
    | inl has ↦ inl (had_begun has.0, subst (λ (f : ImageFile S). (c : ℕ) → IsSome (l2_at f.caches c) → 0 < l2_pins f.caches c) (sym same) has.1)
    | inr full ↦ inr (λ room. full (room_begun room))
  ]
  why_begun mid new same e why = not_read e why

  -- the image that begins is at rest too
  pub rests_begun : known_in view begun.file ≡ known_in view old.file → IsAtRest view old → IsAtRest view begun
  rests_begun known rest = record {
    freed = ap (λ (i : Qcow2 S F). i.file.free_list) begins.rest ∙ rest.freed;
    written = known ∙ rest.written ∙ ap (λ (s : S). byte_at (view s).contents) (sym begins.storage);
  }
