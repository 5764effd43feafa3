-- The bytes that a guest sees in a run of clusters that are mapped alike.
use Rattle.std.proofs.Common.{◌≡◌, ◌+◌, ◌/◌, ◌%◌, ◌<◌, if◌then◌else◌, ℕ, Bool, true, false, refl, sym, ap, ◌∙◌, is_some, Option, Some, None}
use Rattle.qcow2_image.proofs.Common.{BackingView, StorageView, Bytes, cluster_size, known_byte, cover, L2Mapping, Data, Zero, Compressed, Uncovered, disk, DriverState, StateInvariant, raw, indirect, zeros, kind_at, IsAlikeRun, run_shows_data, run_shows_zero, run_shows_uncovered, backing_bytes}

-- without a disk below all is zero there
pub none_below : {S F : Type 0} (view : S → StorageView) (backing : F → BackingView) (below : Option F) → is_some below ≡ false → (o : ℕ) → backing_bytes view backing below o ≡ 0
none_below view backing None none o = refl
none_below view backing (Some f) none o = absurd cc

module _ (s : DriverState) (sound : StateInvariant s) (inside : s.header.incompatible ≡ 0) (offset n : ℕ) (run : IsAlikeRun s.header s.known offset n) (backed : Bool) (backing : Bytes) where
  -- bytes in the file
  pub raw_shown : (v : L2Mapping) → cover s.header s.known (offset / cluster_size s.header) ≡ v → (external : Bool) (host : ℕ) (writable : Bool) → raw external host writable ≡ kind_at s.header backed offset v
      → (i : ℕ) → i < n → (disk s.known backing).value (offset + i) ≡ known_byte (s.on_storage (host + i))
  raw_shown (Data start copied) is external host writable kind i lt =
      let at : host ≡ start + offset % cluster_size s.header = cc in
      run_shows_data s sound offset n run backing inside start copied is i lt ∙ ap (λ k. known_byte (s.on_storage (k + i))) (sym at)
  raw_shown (Zero kept) is external host writable kind i lt = absurd cc
  raw_shown (Compressed start sectors) is external host writable kind i lt = absurd cc
  raw_shown Uncovered is external host writable kind i lt = no_raw backed kind where
    no_raw : (b : Bool) → raw external host writable ≡ (if b then indirect offset else zeros false) → (disk s.known backing).value (offset + i) ≡ known_byte (s.on_storage (host + i))
    no_raw true e = absurd cc
    no_raw false e = absurd cc

  -- zeros, which an unmapped cluster without a backing disk shows too
  pub zero_shown : (v : L2Mapping) → cover s.header s.known (offset / cluster_size s.header) ≡ v → (backed ≡ false → (o : ℕ) → backing o ≡ 0) → (explicit : Bool) → zeros explicit ≡ kind_at s.header backed offset v
      → (i : ℕ) → i < n → (disk s.known backing).value (offset + i) ≡ known_byte 0
  zero_shown (Data start copied) is none explicit kind i lt = absurd cc
  zero_shown (Zero kept) is none explicit kind i lt = run_shows_zero s sound offset n run backing kept is i lt
  zero_shown (Compressed start sectors) is none explicit kind i lt = absurd cc
  zero_shown Uncovered is none explicit kind i lt = by_backing backed refl kind where
    by_backing : (b : Bool) → backed ≡ b → zeros explicit ≡ (if b then indirect offset else zeros false) → (disk s.known backing).value (offset + i) ≡ known_byte 0
    by_backing true e k = absurd cc
    by_backing false e k = run_shows_uncovered s sound offset n run backing is i lt ∙ ap known_byte (none e (offset + i))

  -- the backing's bytes
  pub indirect_shown : (v : L2Mapping) → cover s.header s.known (offset / cluster_size s.header) ≡ v → (at : ℕ) → indirect at ≡ kind_at s.header backed offset v
      → (i : ℕ) → i < n → (disk s.known backing).value (offset + i) ≡ known_byte (backing (at + i))
  indirect_shown (Data start copied) is at kind i lt = absurd cc
  indirect_shown (Zero kept) is at kind i lt = absurd cc
  indirect_shown (Compressed start sectors) is at kind i lt = absurd cc
  indirect_shown Uncovered is at kind i lt = by_backing backed kind where
    by_backing : (b : Bool) → indirect at ≡ (if b then indirect offset else zeros false) → (disk s.known backing).value (offset + i) ≡ known_byte (backing (at + i))
    by_backing true k = let here : at ≡ offset = cc in run_shows_uncovered s sound offset n run backing is i lt ∙ ap (λ o. known_byte (backing (o + i))) (sym here)
    by_backing false k = absurd cc
