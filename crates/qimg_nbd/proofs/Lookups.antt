-- What a lookup of an image reports about its disk.
use Rattle.qcow2_image.specs.ImageInvariant.{in_image}
use Rattle.std.proofs.Common.{◌≡◌, ◌+◌, ◌-◌, ◌/◌, ◌<◌, ◌≤◌, inl, inr, ℕ, Bool, true, false, [], is_some, refl, sym, ap, ◌∙◌, subst, arith}
use Rattle.qimg_nbd.proofs.Common.{IsTrue, cases_lt, BackingView, StorageView, known_byte, cluster_size, HeaderFields, Guest, guest_of, AnsweredEffect, known_in, state_in, size_of, ImageInvariant, abstract_of, backing_bytes, disk_of, pending_in, Qcow2, header_is, Stays, Tells, is_zeros, byte_of, device_of, told_state}
use Rattle.qcow2_metadata.specs.Cover.{cover}
use Rattle.qcow2_disk.specs.Found.{IsFoundIn, Kind, IsFound as IsFoundOf}
use Rattle.qcow2_disk.specs.Found as K
use Rattle.qcow2_image.specs.Found.{found_kind}
use Rattle.qcow2_image.specs.declared.mapping.MappingKind.{MappingKind}
use Rattle.qcow2_image.specs.declared.mapping.MappingKind.TheVariants as M
use Rattle.qcow2_image.proofs.Map.Reading.{none_below, zero_shown}
use Rattle.nbd_protocol.specs.declared.device.State.{State}
use Rattle.qimg_nbd.proofs.Errors.{size_is}
use Rattle.qimg_nbd.proofs.Images.{answered_same}
use Rattle.qcow2_image.specs.declared.mapping.Place.TheVariants.{Image}
use Rattle.qcow2_image.proofs.Images.Places.{inside_of}

-- what is reported as zeros was found as zeros
zeros_found : (k : MappingKind) → IsTrue (is_zeros (told_state k)) → (explicit : Bool) × (found_kind k ≡ K.zeros explicit)
zeros_found (M.Raw place offset writable) is = absurd cc
zeros_found (M.Indirect offset) is = absurd cc
zeros_found (M.Zero true) is = (true, refl)
zeros_found (M.Zero false) is = (false, refl)
zeros_found M.Eof is = absurd cc
zeros_found (M.Special offset) is = absurd cc

-- and is zeros on the disk
module _ {S F : Type 0} (view : S → StorageView) (backing : F → BackingView) (image : Qcow2 S F) (sound : ImageInvariant view backing (pending_in view backing image (in_image [])) image (in_image [])) where
  zeros_there : (at max n : ℕ) (explicit : Bool) → IsFoundIn (known_in view image.file) (is_some image.backing) at max (K.zeros explicit) n → (i : ℕ) → i < n → (disk_of view backing Image image).value (at + i) ≡ known_byte 0
  zeros_there at max n explicit is i lt =
      let h = image.file.header.fields in
      let known = known_in view image.file in
      let found : IsFoundOf h known (is_some image.backing) at max (K.zeros explicit) n = subst (λ (h : HeaderFields). IsFoundOf h known (is_some image.backing) at max (K.zeros explicit) n) (header_is view backing image (in_image []) sound) is in
      elim (cases_lt at h.size) [
        | inl lies ↦ let run = found.run lies in
            zero_shown (state_in view image.file (pending_in view backing image (in_image []))) sound.file.caches.kept.kept.crash_invariant (inside_of sound) at n run.longest.alike (is_some image.backing) (backing_bytes view backing image.backing)
            (cover h known (at / cluster_size h)) refl (none_below view backing image.backing) explicit run.kind_is i lt
        | inr past ↦ let never = (found.past past).0 in absurd cc
      ]

module _ {S F : Type 0} (view : S → StorageView) (backing : F → BackingView) (old new : Qcow2 S F) where
  pub found_run : (offset max n : ℕ) (kind : MappingKind) (state : State) → state ≡ told_state kind → n ≤ max → (offset < size_of old → 0 < max → 0 < n)
      → AnsweredEffect (abstract_of view backing old (in_image [])) (abstract_of view backing new (in_image [])) [] [] (guest_of (abstract_of view backing new (in_image [])) ≡ guest_of (abstract_of view backing old (in_image [])))
      → ((abstract_of view backing old (in_image [])).is_sound → IsFoundIn (known_in view new.file) (is_some new.backing) offset max (found_kind kind) n)
      → (device_of view backing old).is_sound → (device_of view backing new).is_sound × (Tells offset max (state, n) (device_of view backing old) × Stays (device_of view backing old) (device_of view backing new))
  found_run offset max n kind state told within some effect run sound =
      let same = answered_same view backing old new effect sound in
      let still = effect.answer sound in
      let size = size_is view backing old new sound in (
        same.0,
        (
          record {
            within = within;
            some = λ lies more. some (omega (arith, size, lies)) more;
            zeros = λ zero o lt low high.
                let z = zeros_found kind (subst (λ (s : State). IsTrue (is_zeros s)) told zero) in
                let found = subst (λ (k : Kind). IsFoundIn (known_in view new.file) (is_some new.backing) offset max k n) z.1 (run sound) in
                let at : offset + (o - offset) ≡ o = omega (arith, low) in
                let shown = zeros_there view backing new still.0 offset max n z.0 found (o - offset) (omega (arith, low, high)) in
                sym (ap (λ (x : Guest). byte_of (x.disk.value o)) still.1) ∙ ap byte_of (subst (λ (k : ℕ). (disk_of view backing Image new).value k ≡ known_byte 0) at shown);
          },
          same.1,
        ),
      )
