-- What a call that guests don't see does, from its parts.
use Rattle.std.proofs.Common.{◌≡◌, ◌/◌, ◌<◌, ◌≤◌, ℕ, Bool, true, false, List, [], refl, sym, ap, ◌∙◌, subst, arith, Option, Some, None, IsTrue}
use Rattle.qcow2_image.proofs.Common.{slice_get, option_map_or, cond-true, cond-false, fun_ext, BackingView, StorageView, Bytes, cluster_size, known_byte, disk, Pending, PreparedMapping, SameUsedBytes, used_by_guests, Setting, Guest, guest_of, meaning_at, EffectOnSound, unseen_disk, HeaderFields, state_in, contents_in, known_in, nothing_given, Qcow2, Prepared, below_of, of_data, of_tables, to_free, new_data_by, over_all, pending_in, abstract_of, meaning, is_entered, is_new, is_private, is_hidden, place_of, mapping_of_cluster, backing_bytes, ImageInvariant, MovesTables, pending_with_listed, ListGrows, InternalStep, InternalFreeingStep, stops_of, Mappings, contents_for, disk_of}
use Rattle.qcow2_image.proofs.Images.Moved.{format_file_step, format_stay}
use Rattle.qcow2_image.proofs.Images.ClusterMappings.{private_used, used_unlaid}
use Rattle.qcow2_image.proofs.Images.Sound.{free_more, pending_is}
use Rattle.qcow2_image.proofs.Images.UngivenCovers.{all_stay}
use Rattle.qcow2_image.proofs.Images.Places.{inside_of, from_image}

pub same_guest : (a b : Guest) → a.disk ≡ b.disk → a.slots ≡ b.slots → a ≡ b
same_guest a b disks slots = ap (λ d. record a { disk = d }) disks ∙ ap (λ f. record b { slots = f }) slots

pub same_mapping : (a b : PreparedMapping) → a.from ≡ b.from → a.length ≡ b.length → a.is_private ≡ b.is_private → a.is_hidden ≡ b.is_hidden → a.shown ≡ b.shown → a ≡ b
same_mapping a b from length private hidden shown =
    ap (λ n. record a { from = n }) from ∙ ap (λ n. record a { from = b.from; length = n }) length ∙ ap (λ f. record a { from = b.from; length = b.length; is_private = f }) private
    ∙ ap (λ f. record a { from = b.from; length = b.length; is_private = b.is_private; is_hidden = f }) hidden ∙ ap (λ f. record b { shown = f }) shown

pub same_setting : (a b : Setting) → a.cluster_size ≡ b.cluster_size → ◌≡◌ {A = Bool × Bytes} (a.is_backed, a.backing) (b.is_backed, b.backing) → a ≡ b
same_setting a b sizes below = ap (λ n. record a { cluster_size = n }) sizes ∙ ap (λ (f : Bool × Bytes). record b { is_backed = f.0; backing = f.1 }) below

-- where the list grows
pub freeing_step_kept : {S F : Type 0} (view : S → StorageView) (backing : F → BackingView) (old new : Qcow2 S F) (out : Mappings) (p p' : Pending) → InternalStep view backing p p' old new out → InternalFreeingStep view backing p p' old new out
freeing_step_kept view backing old new out p p' keeps = record { sound = keeps.sound; safe_step = keeps.safe_step; since = keeps.since; unseen = keeps.unseen; copied = keeps.copied; below = keeps.below; leaks = keeps.leaks }

module _ {S F : Type 0} (view : S → StorageView) (backing : F → BackingView) (old new : Qcow2 S F) (out : Mappings) where
  -- with the clusters that are to be freed since, all that is pending is known
  pub followed : ImageInvariant view backing (pending_in view backing old out) old out → ListGrows old new
      → ImageInvariant view backing (pending_with_listed (pending_in view backing old out) old new) new out → pending_with_listed (pending_in view backing old out) old new ≡ pending_in view backing new out
  followed sound grows still = pending_is view backing new out (pending_with_listed (pending_in view backing old out) old new) still.file.caches.kept.kept.crash_invariant (inside_of still) (record {
    new_data = λ k. refl;
    new_tables = λ k. refl;
    old_tables = λ k. let e = ap (λ l. to_free of_tables l k) grows.is ∙ free_more of_tables old.file.free_list grows.more k in omega arith;
    old_data = λ k. let e = ap (λ l. to_free of_data l k) grows.is ∙ free_more of_data old.file.free_list grows.more k in omega arith;
  })

  -- the header stays the same, except perhaps the offsets of tables
  module _ (same_header : MovesTables old.file.header.fields new.file.header.fields) where
    -- a prepared mapping means what it meant, where its private bytes stay
    module _ (q : Prepared) (own_bytes : (o : ℕ) → IsTrue (is_private view backing old q o) → contents_for view backing out.place new (place_of old.file.header.fields q o) ≡ contents_for view backing out.place old (place_of old.file.header.fields q o)) where
      pub same_private : is_private view backing new q ≡ is_private view backing old q
      same_private = let test : HeaderFields → ℕ → Bool = λ h o. option_map_or is_entered (mapping_of_cluster h q (o / cluster_size h)) false in ap test same_header

      same_hidden : is_hidden view backing new q ≡ is_hidden view backing old q
      same_hidden = let test : HeaderFields → ℕ → Bool = λ h o. option_map_or is_new (mapping_of_cluster h q (o / cluster_size h)) false in ap test same_header

      same_shown : (o : ℕ) (b : Bool) → is_private view backing old q o ≡ b → (meaning view backing out.place new q).shown o ≡ (meaning view backing out.place old q).shown o
      same_shown o true is =
          let now : is_private view backing new q o ≡ true = ap (λ (f : ℕ → Bool). f o) same_private ∙ is in
          ap known_byte (cond-true _ _ _ now ∙ ap (contents_for view backing out.place new) (ap (λ (h : HeaderFields). place_of h q o) same_header) ∙ own_bytes o is ∙ sym (cond-true _ _ _ is))
      same_shown o false is =
          let now : is_private view backing new q o ≡ false = ap (λ (f : ℕ → Bool). f o) same_private ∙ is in
          ap known_byte (cond-false _ _ _ now ∙ sym (cond-false _ _ _ is))

      pub same_meaning : meaning view backing out.place new q ≡ meaning view backing out.place old q
      same_meaning = same_mapping _ _ refl refl same_private same_hidden (fun_ext (λ o. same_shown o (is_private view backing old q o) refl))

    -- so do all
    module _ (private_bytes : (k : ℕ) (q : Prepared) → slice_get out.slots k ≡ Some (Some q) → (o : ℕ) → IsTrue (is_private view backing old q o) → contents_for view backing out.place new (place_of old.file.header.fields q o) ≡ contents_for view backing out.place old (place_of old.file.header.fields q o)) where
      pub same_slot : (k : ℕ) (m : Option (Option Prepared)) → slice_get out.slots k ≡ m → meaning_at (meaning view backing out.place new) m ≡ meaning_at (meaning view backing out.place old) m
      same_slot k None at = refl
      same_slot k (Some None) at = refl
      same_slot k (Some (Some q)) at = ap Some (same_meaning q (private_bytes k q at))

  module _ (p : Pending) (p' : Pending) (sound : ImageInvariant view backing p old out) (holds : (k : ℕ) → over_all new_data_by out k ≤ p.new_data k) (holds_still : (k : ℕ) → over_all new_data_by out k ≤ p'.new_data k) where
    -- though tables may have moved
    module _ (sound' : ImageInvariant view backing p' new out) (same_header : MovesTables old.file.header.fields new.file.header.fields) (bytes : SameUsedBytes (state_in view old.file p) (state_in view new.file p')) where
      -- clusters that are used have the same bytes on the storage
      used_bytes : (o : ℕ) → 0 < used_by_guests (state_in view old.file p) (o / cluster_size old.file.header.fields) → 0 < used_by_guests (state_in view new.file p') (o / cluster_size new.file.header.fields) → contents_in view new.file o ≡ contents_in view old.file o
      used_bytes o before after =
          used_unlaid (state_in view new.file p') sound'.file.caches.kept.kept.crash_invariant o after ∙ bytes o before ∙ sym (used_unlaid (state_in view old.file p) sound.file.caches.kept.kept.crash_invariant o before)

      private_bytes : (k : ℕ) (q : Prepared) → slice_get out.slots k ≡ Some (Some q) → (o : ℕ) → IsTrue (is_private view backing old q o) → contents_in view new.file (place_of old.file.header.fields q o) ≡ contents_in view old.file (place_of old.file.header.fields q o)
      private_bytes k q at o private =
          let now : IsTrue (is_private view backing new q o) = ap (λ (h : HeaderFields). option_map_or is_entered (mapping_of_cluster h q (o / cluster_size h)) false) same_header ∙ private in
          let place : place_of new.file.header.fields q o ≡ place_of old.file.header.fields q o = ap (λ (h : HeaderFields). place_of h q o) same_header in
          used_bytes (place_of old.file.header.fields q o) (private_used view backing old out p sound holds k q at o private)
          (subst (λ n. 0 < used_by_guests (state_in view new.file p') (n / cluster_size new.file.header.fields)) place (private_used view backing new out p' sound' holds_still k q at o now))

      pub still_shown : ((disk_below : Bytes) → disk (known_in view new.file) disk_below ≡ disk (known_in view old.file) disk_below) → below_of view backing new.backing ≡ below_of view backing old.backing
          → guest_of (abstract_of view backing new out) ≡ guest_of (abstract_of view backing old out)
      still_shown shows below = same_guest _ _
          (from_image (λ place. disk_of view backing place new ≡ disk_of view backing place old) sound (shows (backing_bytes view backing new.backing) ∙ ap (λ (b : Bool × Bytes). disk (known_in view old.file) b.1) below))
          (fun_ext (λ k. same_slot same_header (λ j q at o private. from_image (λ place. contents_for view backing place new (place_of old.file.header.fields q o) ≡ contents_for view backing place old (place_of old.file.header.fields q o)) sound (private_bytes j q at o private)) k (slice_get out.slots k) refl))

    pub still_seen : InternalFreeingStep view backing p p' old new out → guest_of (abstract_of view backing new out) ≡ guest_of (abstract_of view backing old out)
    still_seen freeing_step = still_shown freeing_step.sound (format_file_step old.file.header.fields new.file.header.fields freeing_step.unseen.header) freeing_step.unseen.bytes
        (unseen_disk (state_in view old.file p) (state_in view new.file p') sound.file.caches.kept.kept.crash_invariant (inside_of sound) freeing_step.sound.file.caches.kept.kept.crash_invariant freeing_step.unseen) freeing_step.below

  -- ---- a whole call that no guest sees

  module _ (sound : ImageInvariant view backing (pending_in view backing old out) old out)
      (keeps : InternalStep view backing (pending_in view backing old out) (pending_with_listed (pending_in view backing old out) old new) old new out) where
    pending_now : pending_with_listed (pending_in view backing old out) old new ≡ pending_in view backing new out
    pending_now = followed sound keeps.list keeps.sound

    pub sound_now : ImageInvariant view backing (pending_in view backing new out) new out
    sound_now = subst (λ (q : Pending). ImageInvariant view backing q new out) pending_now keeps.sound

    pub same_now : guest_of (abstract_of view backing new out) ≡ guest_of (abstract_of view backing old out)
    same_now = still_seen (pending_in view backing old out) (pending_with_listed (pending_in view backing old out) old new) sound (λ k. omega arith) (λ k. omega arith) (freeing_step_kept view backing old new out _ _ keeps)

    pub works_now : EffectOnSound (abstract_of view backing old out) (abstract_of view backing new out) [] []
    works_now = record {
      setting = same_setting _ _ (ap (λ (h : HeaderFields). cluster_size h) keeps.unseen.header) keeps.below;
      surplus = λ still. ap (λ (q : Pending). q.surplus) (sym pending_now);
      beside = λ still. all_stay view old.file new.file (pending_in view backing old out) (pending_with_listed (pending_in view backing old out) old new) sound.file.caches.kept.kept.crash_invariant keeps.sound.file.caches.kept.kept.crash_invariant [] (format_stay old.file.header.fields new.file.header.fields (known_in view old.file) (known_in view new.file) keeps.unseen.header keeps.unseen.covers);
      leaks = keeps.leaks;
      stops = stops_of (abstract_of view backing old out) (abstract_of view backing new out) nothing_given [] keeps.since (λ still. keeps.safe_step.known);
    }
