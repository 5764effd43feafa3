-- A new image has no leaks: growing and flushing keep each surplus, and at the end nothing is pending.
use Rattle.std.proofs.Common.{◌≡◌, ◌+◌, ◌-◌, ◌<◌, ◌≤◌, inl, inr, ℕ, List, [], Result, Ok, Err, ap, ◌∙◌, subst, arith, IsTrue}
use Rattle.qcow2_image.proofs.Common.{IfLimit, OnOk, cases_lt, BackingView, StorageView, PreallocateMode, Bytes, byte_at, count, named, HasNoLeaks, surplus_of, ClustersToFreeEntry, ImageError, known_in, view_in, IsRefusalByFault, FlushesImage, refusal_of, Qcow2, KeepsSurplus, LeavesSound, HasNothingToFree, is_writable, size_of, abstract_of, new_data_by, of_data, of_tables, over_all, surplus_in, to_free, GrowsTo, IsResized, size_after, in_image}

module _ {S F : Type 0} (view : S → StorageView) (backing : F → BackingView) where
  -- clusters are allocated
  pub surplus_taken : (old new : Qcow2 S F) (size : ℕ) (mode : PreallocateMode) (r : Result (Unit {0}) ImageError) → (abstract_of view backing old (in_image [])).is_sound → (size ≤ size_of old → (r ≡ Ok tt) × (new ≡ old))
      → (size_of old < size → IsResized (size_after r (size_of old) size) old new) → GrowsTo view backing old new size mode r → OnOk r (KeepsSurplus view backing old new)
  surplus_taken old new size mode (Ok x) sound no_larger image sees =
      let now = ((sees (in_image [])).answer sound).0 in
      record {
        sound = now;
        writable = elim (cases_lt (size_of old) size) [ inl lt ↦ (image lt).writable | inr le ↦ ap (λ (i : Qcow2 S F). is_writable i) (no_larger le).1 ];
        surplus = ((sees (in_image [])).acts.works sound).surplus now;
      }
  surplus_taken old new size mode (Err e) sound no_larger image sees = tt

  -- a limit leaves it so
  pub left_taking : (old new : Qcow2 S F) (size : ℕ) (mode : PreallocateMode) (r : Result (Unit {0}) ImageError) → (abstract_of view backing old (in_image [])).is_sound → IsResized (size_after r (size_of old) size) old new → GrowsTo view backing old new size mode r
      → IfLimit r (LeavesSound view backing old new)
  left_taking old new size mode (Ok x) sound image sees = tt
  left_taking old new size mode (Err e) sound image sees = λ is.
      let works = (sees (in_image [])).acts.works sound in
      elim ((sees (in_image [])).answer sound) [
        | inl still ↦ record { keeps = record { sound = still.0; writable = image.writable; surplus = works.surplus still.0 }; leaks = works.leaks }
        | inr failed ↦ absurd (subst (λ (x : ImageError). IsRefusalByFault (refusal_of x)) is failed.0)
      ]

  -- what is counted more than named is the surplus, where nothing is prepared or to be freed
  stored : (image : Qcow2 S F) (b : Bytes) (k : ℕ) → surplus_in view backing image (in_image []) k ≡ 0 → known_in view image.file ≡ b → HasNothingToFree image → surplus_of image.file.header.fields b k ≡ 0
  stored image b k none clean empty =
      let h = image.file.header.fields in
      let at = subst (λ (b : Bytes). count h b k - (named h b k + over_all new_data_by (in_image []) k + to_free of_tables image.file.free_list k + to_free of_data image.file.free_list k) ≡ 0) clean none in
      let bare : count h b k - (named h b k + 0 + 0 + 0) ≡ 0 = subst (λ (l : List ClustersToFreeEntry). count h b k - (named h b k + 0 + to_free of_tables l k + to_free of_data l k) ≡ 0) empty at in
      omega (arith, bare)

  pub no_leaks_flushed : (old mid new : Qcow2 S F) → KeepsSurplus view backing old mid → IsTrue (is_writable old) → ((k : ℕ) → (abstract_of view backing old (in_image [])).surplus k ≡ 0) → (r : Result (Unit {0}) ImageError) → FlushesImage view backing mid new r
      → (IsTrue (is_writable mid) → OnOk r (HasNothingToFree new)) → OnOk r (HasNoLeaks (byte_at (view_in view new.file).contents))
  no_leaks_flushed old mid new grew writable none (Ok x) flushes emptied = λ k.
      let done = flushes (in_image []) in
      let answer = done.answer grew.sound in
      ap (λ h. surplus_of h (byte_at (view_in view new.file).contents) k) answer.0.file.caches.kept.kept.crash_invariant.top.header_is
      ∙ stored new (byte_at (view_in view new.file).contents) k (ap (λ (f : ℕ → ℕ). f k) (((done.acts.works grew.sound).surplus answer.0) ∙ grew.surplus) ∙ none k) answer.1.0 (emptied (grew.writable ∙ writable))
  no_leaks_flushed old mid new grew writable none (Err e) flushes emptied = tt
