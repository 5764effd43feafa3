-- Guest bytes stay the same if the mappings and the bytes that these refer to do.
use Rattle.std.proofs.Common.{◌≡◌, ◌+◌, ◌-◌, ◌*◌, ◌/◌, ◌%◌, ◌<◌, ◌⊎◌, false, ℕ, List, [], refl, sym, ap, ◌∙◌, arith, inl, inr, subst, max}
use Rattle.qcow2_laws.proofs.Common.{cond-true, le-leb, and_from, mod_below, pow_pos, Bytes, SameFrom, HeaderFields, header, cluster_size, has_data_file, cover, known_byte, compressed_byte, guest_value, value_under, bytes_of_sectors, in_cluster, named_by_cover, CoverIsAligned, IsConsistent, L2Mapping, Data, Compressed, disk, disk_with, GivenBytes, IsGiven, Checkpoint, checkpoint_with, StopOkEverywhere, Direction, names, Pending, CrashInvariant, IsMixed, kept_on, kept_either}
use Rattle.qcow2_laws.proofs.Places.{Sizes, Sizes-from, in_one, div_mono}
use Rattle.qcow2_laws.proofs.Tops.{bytes_from-same, first_keeps_rest, IsTop-top}
use Rattle.qcow2_laws.proofs.Guests.{guest_le, names_within, own_names, own_data_of}
use Rattle.qcow2_laws.proofs.Consistency.{in_own, crash_invariant_consistent, own_of_kept}
use Rattle.qcow2_laws.proofs.Mixes.{mixed_crash_invariant, either_cover, top_kept}

-- the value that a cover shows is as in another image where the bytes are so in each cluster that the cover names
pub shown : (h : HeaderFields) (b c backing : Bytes) (o : ℕ) (v : L2Mapping) → CoverIsAligned h v → ((place : ℕ) → 0 < named_by_cover h (place / cluster_size h) v → b place ≡ c place)
    → value_under h b b backing o v ≡ value_under h c c backing o v
shown h b c backing o (Data host copied) aligned same =
    let inside = in_one (cluster_size h) host (o % cluster_size h) aligned (mod_below o (cluster_size h) (pow_pos h.cluster_bits)) in
    ap known_byte (same (host + o % cluster_size h) (let one : in_cluster h ((host + o % cluster_size h) / cluster_size h) host ≡ 1 = ap (λ n. in_cluster h n host) inside ∙ in_own h host in omega arith))
shown h b c backing o (Compressed host sectors) aligned same =
    ap (λ bytes. compressed_byte bytes (o % cluster_size h)) (bytes_from-same b c host (bytes_of_sectors host sectors) (λ i lt.
    same (host + i) (
    let some : 0 < cluster_size h = pow_pos h.cluster_bits in
    let from = div_mono host (host + i) (cluster_size h) some (omega arith) in
    let to = div_mono (host + i) ((host / 512 + sectors) * 512 - 1) (cluster_size h) some (omega arith) in
    let one = cond-true {A = ℕ} _ 1 0 (and_from _ _ (le-leb (host / cluster_size h) ((host + i) / cluster_size h) from) (le-leb ((host + i) / cluster_size h) (((host / 512 + sectors) * 512 - 1) / cluster_size h) to)) in
    omega (arith, one))))
shown h b c backing o _ aligned same = refl

pub guest_value-same : (h : HeaderFields) (b c backing : Bytes) (o : ℕ) → has_data_file h ≡ false → cover h b (o / cluster_size h) ≡ cover h c (o / cluster_size h)
    → CoverIsAligned h (cover h b (o / cluster_size h)) → ((place : ℕ) → 0 < names h b (place / cluster_size h) (o / cluster_size h) → b place ≡ c place)
    → guest_value h b b backing o ≡ guest_value h c c backing o
unfolding guest_value
guest_value-same h b c backing o own same aligned bytes =
    shown h b c backing o (cover h b (o / cluster_size h)) aligned (λ place some. bytes place (let e = own_names h (place / cluster_size h) (cover h b (o / cluster_size h)) own in omega (arith, some, e))) ∙ ap (λ v. value_under h c c backing o v) same

-- ---- disks of images whose headers are known

pub value_is : (h : HeaderFields) (b backing : Bytes) (o : ℕ) → header b ≡ h → (disk b backing).value o ≡ guest_value h b b backing o
unfolding disk_with
value_is h b backing o is = ap (λ t. guest_value t b b backing o) is

pub size_is : (h : HeaderFields) (b backing : Bytes) → header b ≡ h → (disk b backing).size ≡ h.size
unfolding disk_with
size_is h b backing is = ap (λ (t : HeaderFields). t.size) is

-- an image that shows the same, but for what is given, with the same first cluster
pub kept_shown : (h : HeaderFields) (backing : Bytes) (m : Checkpoint) (given : List GivenBytes) (b b' : Bytes) → header b ≡ h → header b' ≡ h → IsConsistent b' → SameFrom 0 (cluster_size h) b b'
    → ((o : ℕ) → (guest_value h b' b' backing o ≡ guest_value h b b backing o) ⊎ IsGiven given o (guest_value h b' b' backing o))
    → StopOkEverywhere backing m b → StopOkEverywhere backing (checkpoint_with given [] m) b'
kept_shown h backing m given b b' is is' consistent first values kept =
    kept_on backing m given [] b b' consistent (first_keeps_rest h b b' is is' first) (inl (size_is h b' backing is' ∙ sym (size_is h b backing is)))
    (λ o. elim (values o) [
      | inl same ↦ inl (value_is h b' backing o is' ∙ same ∙ sym (value_is h b backing o is))
      | inr bytes_given ↦ inr (subst (λ v. IsGiven given o v) (sym (value_is h b' backing o is')) bytes_given)
    ]) kept

-- ---- a mix of what is on the storage and what is known
module _ (h : HeaderFields) (d : Direction) (p : Pending) (on_storage known b : Bytes) (crash_invariant : CrashInvariant h d p on_storage known) (mixed : IsMixed h d on_storage known b) where
  sizes : Sizes h
  sizes = Sizes-from h on_storage crash_invariant.top.header_reads

  as_on_storage : (place : ℕ) → on_storage place ≡ known place → b place ≡ on_storage place
  as_on_storage place same = elim (mixed.partly (place / cluster_size h)) [
    | inl is ↦ is place refl
    | inr is ↦ is place refl ∙ sym same
  ]

  -- where a guest cluster names a cluster on the storage, or as known, no table is overlaid on it
  unlaid_storage : (g place : ℕ) → 0 < names h on_storage (place / cluster_size h) g → on_storage place ≡ known place
  unlaid_storage g place some =
      crash_invariant.not_overlaid place (let le = guest_le h (λ k. max (names h on_storage (place / cluster_size h) k) (names h known (place / cluster_size h) k)) g (names_within h on_storage (place / cluster_size h) g sizes some) in omega arith)

  unlaid_known : (g place : ℕ) → 0 < names h known (place / cluster_size h) g → on_storage place ≡ known place
  unlaid_known g place some =
      crash_invariant.not_overlaid place (let le = guest_le h (λ k. max (names h on_storage (place / cluster_size h) k) (names h known (place / cluster_size h) k)) g (names_within h known (place / cluster_size h) g sizes some) in omega arith)

  either_value : has_data_file h ≡ false → (backing : Bytes) (o : ℕ) → (guest_value h b b backing o ≡ guest_value h on_storage on_storage backing o) ⊎ (guest_value h b b backing o ≡ guest_value h known known backing o)
  either_value own backing o =
      let g = o / cluster_size h in
      elim (either_cover h on_storage known b crash_invariant.top crash_invariant.same_top mixed.partly (o / cluster_size h)) [
        | inl same ↦ inl (sym (guest_value-same h on_storage b backing o own (sym same) (crash_invariant.aligned g) (λ place some. sym (as_on_storage place (unlaid_storage g place some)))))
        | inr same ↦ inr (sym (guest_value-same h known b backing o own (sym same) (crash_invariant.known_aligned g)
            (λ place some. let u = unlaid_known g place some in sym (as_on_storage place u ∙ u))))
      ]

  -- what was kept is kept on the way
  pub mixed_kept : (backing : Bytes) (m : Checkpoint) → StopOkEverywhere backing m on_storage → StopOkEverywhere backing m known → StopOkEverywhere backing m b
  mixed_kept backing m kept known_kept =
      let now = mixed_crash_invariant h d p on_storage known b crash_invariant mixed in
      let at_b = now.top.header_is in
      let at_storage = crash_invariant.top.header_is in
      let own = own_of_kept h backing m on_storage crash_invariant.top.header_is kept in
      kept_either backing m on_storage known b (crash_invariant_consistent h d p b known now own)
      (first_keeps_rest h on_storage b at_storage at_b (top_kept h on_storage known b crash_invariant.top crash_invariant.same_top mixed.partly).first_cluster)
      (size_is h b backing at_b ∙ sym (size_is h on_storage backing at_storage))
      (λ o. elim (either_value (own_data_of h own) backing o) [
        | inl is ↦ inl (value_is h b backing o at_b ∙ is ∙ sym (value_is h on_storage backing o at_storage))
        | inr is ↦ inr (value_is h b backing o at_b ∙ is ∙ sym (value_is h known backing o ((IsTop-top h on_storage known crash_invariant.same_top crash_invariant.top).header_is)))
      ]) kept known_kept
