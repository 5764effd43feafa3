-- Host clusters of a sound file that may be written in place lie past cluster 0.
use Rattle.std.proofs.Common.{◌≡◌, ◌+◌, ◌*◌, ◌/◌, ◌%◌, ◌<◌, ◌≤◌, ℕ, Option, Some, None, refl, ap, ◌∙◌, arith}
use Rattle.qcow2_image.proofs.Common.{IfSome, mod-mul-add, pow_pos, StorageView, Bytes, cover, cluster_size, HeaderFields, L2Mapping, Data, Zero, Pending, Hosting, IsHostedAt, DriverState, beside_tables, contents_in, known_in, state_in, FileInvariant, ImageFile, own_cluster, MarkedIsBehind, IsPlaceOf}
use Rattle.qcow2_laws.specs.GuestLaws.{InPlace, Kept}
use Rattle.qcow2_image.proofs.Write.Hosted.{behind_tables}

module _ {S : Type 0} (view : S → StorageView) (p : Pending) (file : ImageFile S) (sound : FileInvariant view p file) (inside : file.header.fields.incompatible ≡ 0) where
  abbrev h : HeaderFields
  h = file.header.fields

  abbrev known : Bytes
  known = known_in view file

  abbrev s : DriverState
  s = state_in view file p

  hosted_behind : (hosting : Hosting) (o place : ℕ) → IsHostedAt s hosting o place → cluster_size h ≤ place
  hosted_behind hosting o place hosted = behind_tables h (contents_in view file) place (beside_tables s hosting o place sound.caches.kept.kept.crash_invariant inside hosted)

  -- where the guest cluster begins
  row : (guest : ℕ) → guest * cluster_size h / cluster_size h ≡ guest
  row guest = own_cluster h.cluster_bits guest

  rest : (guest : ℕ) → guest * cluster_size h % cluster_size h ≡ 0
  rest guest =
      let some = pow_pos h.cluster_bits in
      let e : guest * cluster_size h ≡ guest * cluster_size h + 0 = omega arith in
      ap (λ n. n % cluster_size h) e ∙ mod-mul-add guest (cluster_size h) 0 some

  marked_of : (guest : ℕ) (m : L2Mapping) → cover h known guest ≡ m → MarkedIsBehind (cluster_size h) m
  marked_of guest (Data host copied) is = λ marked.
      let at = rest guest in
      hosted_behind InPlace (guest * cluster_size h) host (host, ap (cover h known) (row guest) ∙ is ∙ ap (λ b. Data host b) marked, omega (arith, at))
  marked_of guest (Zero (Some k)) is = λ marked.
      let at = rest guest in
      hosted_behind Kept (guest * cluster_size h) k.0 (k.0, ap (cover h known) (row guest) ∙ is ∙ ap (λ b. Zero (Some (k.0, b))) marked, omega (arith, at))
  marked_of guest m is = λ marked. tt

  -- a host cluster that an entry has marked copied
  pub marked_behind : (guest : ℕ) → MarkedIsBehind (cluster_size h) (cover h known guest)
  marked_behind guest = marked_of guest (cover h known guest) refl

  -- a place where bytes of a range may be written
  pub place_behind : (offset n : ℕ) (place : Option ℕ) → 0 < n → IsPlaceOf h known offset n place → IfSome place (λ host. cluster_size h ≤ host)
  place_behind offset n None some is = tt
  place_behind offset n (Some place) some is =
      let first = hosted_behind InPlace (offset + 0) (place + 0) (is.1 0 some) in
      omega (arith, first)
