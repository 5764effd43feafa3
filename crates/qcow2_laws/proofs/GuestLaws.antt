-- What guests keep over steps.
use Rattle.std.proofs.Common.{◌≡◌, ◌+◌, ◌-◌, ◌*◌, ◌/◌, ◌≤◌, ◌∷◌, ℕ, List, [], refl, sym, ap, ◌∙◌, arith, inl, inr, subst}
use Rattle.qcow2_laws.proofs.Common.{cases_lt, pow_pos, le-div, passes_if, Bytes, byte_at, header, cluster_size, known_byte, guest_value, value_under, disk, disk_with, GivenBytes, Checkpoint, checkpoint_with, StopOkEverywhere, given_shown, guests, DriverState, StateInvariant, LongerL1TableKeepsGuests, SizeStaysUnlessAsked, HasSizeSince}
use Rattle.qcow2_disk.specs.AbstractImages.{AbstractImage, stored_bytes}
use Rattle.qcow2_disk.specs.Calls.{EffectOnSound, StartsAt}
use Rattle.qcow2_laws.proofs.Lemmas.{Sizes-from, past_guests, crash_invariant_consistent, known_consistent, value_is, size_is, first_keeps_rest, known_header, guests_kept}
use Rattle.qcow2_disk.proofs.HeaderRest.{header_rest_same}

pub longer_l1_table_keeps_guests : LongerL1TableKeepsGuests
longer_l1_table_keeps_guests s on_storage' known' offset entries sound writes new = guests_kept s.header offset entries s.direction s.pending s.on_storage s.known on_storage' known' sound writes new

-- ---- the size
module _ (s : DriverState) (backing : Bytes) (sound : StateInvariant s) (inside : s.header.incompatible ≡ 0) where
  known_is : header s.known ≡ s.header
  known_is = known_header s sound

  -- past the last guest cluster the backing shows
  past : (b : Bytes) → header b ≡ s.header → (o : ℕ) → guests s.header * cluster_size s.header ≤ o → (disk b backing).value o ≡ known_byte (backing o)
  unfolding guest_value
  past b is o far =
      value_is s.header b backing o is
      ∙ ap (value_under s.header b b backing o) (past_guests s.header b (o / cluster_size s.header) (Sizes-from s.header s.on_storage sound.top.header_reads)
      (le-div (guests s.header) o (cluster_size s.header) (pow_pos s.header.cluster_bits) far))

  -- the disk of the storage, with all given that the known one shows
  abbrev checkpoint : Checkpoint
  checkpoint = record { last = disk s.on_storage backing; header_bytes = s.on_storage; given = given_shown (disk s.known backing) 0 (guests s.header * cluster_size s.header) ∷ []; asked = [] }

  pub storage_kept : StopOkEverywhere backing checkpoint s.on_storage
  unfolding disk_with
  storage_kept = record { consistent = crash_invariant_consistent s.header s.direction s.pending s.on_storage s.known sound inside; rest = header_rest_same s.on_storage; size = inl refl; values = λ o. inl refl }

  pub known_kept : StopOkEverywhere backing checkpoint s.known
  unfolding disk_with
  known_kept = record {
    consistent = known_consistent s.header s.direction s.pending s.on_storage s.known sound inside;
    rest = first_keeps_rest s.header s.on_storage s.known sound.top.header_is known_is sound.same_top.first_cluster;
    size = inl (size_is s.header s.known backing known_is ∙ sym (size_is s.header s.on_storage backing sound.top.header_is));
    values = λ o. elim (cases_lt o (guests s.header * cluster_size s.header)) [
      | inl below ↦ inr (inl (omega arith, omega arith, ap (disk s.known backing).value (let e : o ≡ 0 + (o - 0) = omega arith in e)))
      | inr far ↦ inl (past s.known known_is o far ∙ sym (past s.on_storage sound.top.header_is o far))
    ];
  }

  old_size : (given : List GivenBytes) (b : Bytes) → StopOkEverywhere backing (checkpoint_with given [] checkpoint) b → (header b).size ≡ s.header.size
  unfolding disk_with
  old_size given b kept = grind arith

pub size_stays_unless_asked : SizeStaysUnlessAsked
size_stays_unless_asked s backing image given sound inside kept =
    old_size s backing sound inside given image (kept (checkpoint s backing sound inside) (storage_kept s backing sound inside) (known_kept s backing sound inside))

pub size_stays_in_calls : (s : DriverState) (old new : AbstractImage) (given : List GivenBytes) → StateInvariant s → s.header.incompatible ≡ 0 → stored_bytes old ≡ s.on_storage → old.known ≡ s.known → EffectOnSound old new given [] → HasSizeSince old.storage new.storage s.header.size
size_stays_in_calls s old new given sound inside is known works =
    let starts : StartsAt old (checkpoint s old.setting.backing sound inside) = (
      subst (StopOkEverywhere old.setting.backing (checkpoint s old.setting.backing sound inside)) (sym is) (storage_kept s old.setting.backing sound inside),
      subst (StopOkEverywhere old.setting.backing (checkpoint s old.setting.backing sound inside)) (sym known) (known_kept s old.setting.backing sound inside),
    ) in
    passes_if (λ c. (header (byte_at c)).size ≡ s.header.size) (λ c kept. old_size s old.setting.backing sound inside given (byte_at c) kept) (works.stops (checkpoint s old.setting.backing sound inside) starts).moments
