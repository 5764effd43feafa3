-- What guests read, and what they see of bytes that are written to a cluster of new data.
use Rattle.std.proofs.Common.{◌≡◌, ◌+◌, ◌/◌, ◌%◌, ◌<◌, ℕ, Bool, List, [], sym, ap, ◌∙◌, arith, subst}
use Rattle.qcow2_laws.proofs.Common.{Option, mod_below, pow_pos, Bytes, cluster_size, cover, known_byte, guest_value, value_under, named_by_guest, CoverIsAligned, L2Mapping, Data, Zero, Uncovered, Disk, disk, GivenBytes, names, named_in_either, DriverState, StateInvariant, SafeStep, IsInternalBut, SameL1Table}
use Rattle.qcow2_laws.proofs.Lemmas.{own_names, own_data_of, in_one, tied, in_own, value_is, size_is, known_header, named_some}

-- ---- what is read
module _ (s : DriverState) (sound : StateInvariant s) where
  pub shown_size : (backing : Bytes) → (disk s.known backing).size ≡ s.header.size
  shown_size backing = size_is s.header s.known backing (known_header s sound)

  -- the value that its cover gives
  pub shown_under : (backing : Bytes) (o : ℕ) (v : L2Mapping) → cover s.header s.known (o / cluster_size s.header) ≡ v
      → (disk s.known backing).value o ≡ value_under s.header s.known s.known backing o v
  unfolding guest_value
  shown_under backing o v is = value_is s.header s.known backing o (known_header s sound) ∙ ap (value_under s.header s.known s.known backing o) is

  pub shown_zero : (backing : Bytes) (o : ℕ) (kept : Option (ℕ × Bool)) → cover s.header s.known (o / cluster_size s.header) ≡ Zero kept → (disk s.known backing).value o ≡ known_byte 0
  shown_zero backing o kept is = shown_under backing o (Zero kept) is

  pub shown_uncovered : (backing : Bytes) (o : ℕ) → cover s.header s.known (o / cluster_size s.header) ≡ Uncovered → (disk s.known backing).value o ≡ known_byte (backing o)
  shown_uncovered backing o is = shown_under backing o Uncovered is

  -- ---- a guest cluster with data in a host cluster
  module _ (inside : s.header.incompatible ≡ 0) (g host : ℕ) (copied : Bool) (is : cover s.header s.known g ≡ Data host copied) where
    pub data_aligned : host % cluster_size s.header ≡ 0
    data_aligned = subst (CoverIsAligned s.header) is (sound.known_aligned g)

    pub data_named : names s.header s.known (host / cluster_size s.header) g ≡ 1
    data_named = ap (named_by_guest s.header (host / cluster_size s.header)) is ∙ own_names s.header (host / cluster_size s.header) (Data host copied) (own_data_of s.header inside) ∙ in_own s.header host

    -- no table is overlaid on them
    pub data_unlaid : (k : ℕ) → k < cluster_size s.header → s.on_storage (host + k) ≡ s.known (host + k)
    data_unlaid k lt =
        sound.not_overlaid (host + k) (
        let here = in_one (cluster_size s.header) host k data_aligned lt in
        let named = data_named in
        let some = named_some s s sound (host / cluster_size s.header) g (omega arith) in
        let t = (tied s.header s.pending s.on_storage s.known (host / cluster_size s.header)).known in
        subst (λ n. 0 < named_in_either s.header s.on_storage s.known n + s.pending.new_data n) (sym here) (omega arith))

  pub shown_data : s.header.incompatible ≡ 0 → (backing : Bytes) (o host : ℕ) (copied : Bool) → cover s.header s.known (o / cluster_size s.header) ≡ Data host copied
      → (disk s.known backing).value o ≡ known_byte (s.on_storage (host + o % cluster_size s.header))
  shown_data inside backing o host copied is =
      shown_under backing o (Data host copied) is
      ∙ ap known_byte (sym (data_unlaid inside (o / cluster_size s.header) host copied is (o % cluster_size s.header) (mod_below o (cluster_size s.header) (pow_pos s.header.cluster_bits))))

-- ---- bytes are written to one cluster

-- what a write of data does: what it gives, and what the guest's disk is then
pub record Writes (c : ℕ) (old new : DriverState) (given : Bytes → List GivenBytes) (now : Bytes → Disk) : Type 0 where
  pub safe_step : SafeStep old new given []
  pub unseen : IsInternalBut c old new
  pub l1 : SameL1Table old new
  pub shows : (backing : Bytes) → disk new.known backing ≡ now backing
