-- New disks: an unwritten one shows zeros, and its guest clusters are unmapped; the mappings that a mode leaves; and what calls keep that give only zeros.
use Rattle.std.proofs.Common.{◌≡◌, ◌⊎◌, ◌+◌, ◌*◌, ◌/◌, ◌%◌, ◌<◌, ◌≤◌, ◌∷◌, ◌||◌, if◌then◌else◌, inl, inr, ⊎_elim, ℕ, Bool, true, false, List, [], None, refl, sym, ap, ◌∙◌, subst, arith, nat_le}
use Rattle.qcow2_image.proofs.Common.{div-mul-add, mod-mul-add, pow_pos, PreallocateMode, Bytes, IsConsistent, cover, Value, guest_value, known_byte, value_under, HeaderFields, L2Mapping, Data, Zero, Compressed, Uncovered, header, cluster_size, rounded_up, given_by_grow, shows_old, to_kept_zero, Disk, disk, disk_with, zeroed_between, Setting, Touches, first_zeros, given_shown, is_copied_data, GivenBytes, IsGiven, Checkpoint, checkpoint_at, checkpoint_with, StopOkEverywhere, header_rest_same, IsCoverOf, IsNewDisk, IsPreallocated, IsUnwritten, ShowsZeros, CoversStay}
use Rattle.image_access.specs.declared.storage.PreallocateMode.TheVariants as Mode
use Rattle.qcow2_disk.specs.ClearedCovers.{cleared_cover}
use Rattle.qcow2_disk.specs.GrownCovers.{FilledCovers}
use Rattle.qcow2_disk.proofs.Stops.{given_split}
use Rattle.qcow2_image.proofs.Preallocate.FilledGrowth.{up_least}
use Rattle.qcow2_image.proofs.Preallocate.Zeros.{shown_zeros}
use Rattle.qcow2_image.proofs.Resize.TailSteps.{least_up}

-- ---- unwritten images
unwritten_zeros : (n : ℕ) (b : Bytes) → IsUnwritten n b → ShowsZeros n b
unwritten_zeros n b unwritten = record { consistent = unwritten.consistent; size = unwritten.size; zeros = λ o. unwritten.shows_below (λ i. 0) o }

pub unwritten_new : (mode : PreallocateMode) (n : ℕ) (b : Bytes) → IsUnwritten n b → IsNewDisk mode n b
unwritten_new Mode.None n b unwritten = unwritten
unwritten_new _ n b unwritten = unwritten_zeros n b unwritten

pub zeros_new : (mode : PreallocateMode) (n : ℕ) (b : Bytes) → shows_old mode ≡ false → ShowsZeros n b → IsNewDisk mode n b
zeros_new Mode.None n b hides zeros = absurd (cc hides)
zeros_new _ n b hides zeros = zeros

pub new_disk_consistent : (mode : PreallocateMode) (n : ℕ) (b : Bytes) → IsNewDisk mode n b → IsConsistent b
new_disk_consistent Mode.None n b new = new.consistent
new_disk_consistent _ n b new = new.consistent

-- a cover that shows whatever disk is below is none
shown_by : (h : HeaderFields) (b : Bytes) (o : ℕ) (v : L2Mapping) → ((backing : Bytes) → value_under h b b backing o v ≡ known_byte (backing o)) → v ≡ Uncovered
shown_by h b o (Data host copied) shows =
    let zero : b (host + o % cluster_size h) ≡ 0 = cc (shows (λ i. 0)) in
    let one : b (host + o % cluster_size h) ≡ 1 = cc (shows (λ i. 1)) in
    absurd (omega (arith, zero, one))
shown_by h b o (Zero kept) shows = absurd (let one : ◌≡◌ {A = ℕ} 0 1 = cc (shows (λ i. 1)) in omega (arith, one))
shown_by h b o (Compressed place sectors) shows = absurd (let none = shows (λ i. 0) in cc none)
shown_by h b o Uncovered shows = refl

shown_at : (b backing : Bytes) (o : ℕ) → (disk b backing).value o ≡ value_under (header b) b b backing o (cover (header b) b (o / cluster_size (header b)))
unfolding disk_with guest_value
shown_at b backing o = refl

pub unwritten_uncovered : (n : ℕ) (b : Bytes) → IsUnwritten n b → (g : ℕ) → cover (header b) b g ≡ Uncovered
unwritten_uncovered n b unwritten g =
    let h = header b in
    let o = g * cluster_size h in
    let some : 0 < cluster_size h = pow_pos h.cluster_bits in
    let e : o ≡ g * cluster_size h + 0 = omega arith in
    let is : o / cluster_size h ≡ g = ap (λ n. n / cluster_size h) e ∙ div-mul-add g (cluster_size h) 0 some in
    sym (ap (cover h b) is) ∙ shown_by h b o (cover h b (o / cluster_size h)) (λ backing. sym (shown_at b backing o) ∙ unwritten.shows_below backing o)

pub unwritten_covers : (n : ℕ) (b : Bytes) → IsUnwritten n b → IsPreallocated Mode.None n b
unwritten_covers n b unwritten = record { inside = λ g lt. unwritten_uncovered n b unwritten g; behind = λ g le. unwritten_uncovered n b unwritten g }

-- ---- what a mode leaves for guest clusters that were unmapped
module _ (mode : PreallocateMode) (hides : shows_old mode ≡ false) (size : ℕ) (h : HeaderFields) (k : Bytes) (m : HeaderFields) (km : Bytes) (b : Bytes) (none : (g : ℕ) → cover h k g ≡ Uncovered)
    (filled : FilledCovers (cluster_size h) (first_zeros (cluster_size h) 0 size mode) 0 (rounded_up (cluster_size h) size) h k m km) (stay : CoversStay m km (header b) b) where
  abbrev cs : ℕ
  cs = cluster_size h

  some : 0 < cs
  some = pow_pos h.cluster_bits

  on_whole : (g : ℕ) → g * cs % cs ≡ 0
  on_whole g = let e : g * cs ≡ g * cs + 0 = omega arith in ap (λ n. n % cs) e ∙ mod-mul-add g cs 0 some

  touches : (g : ℕ) → g * cs < size → Touches cs 0 (rounded_up cs size) g
  touches g lt = let up = up_least cs size some in (omega (arith, up, lt), omega (arith, some), omega (arith, up, lt))

  from_start : (g : ℕ) → rounded_up cs 0 ≤ g * cs
  from_start g = least_up cs some 0 (g * cs) (omega arith) (on_whole g)

  copied_at : (g : ℕ) → g * cs < size → first_zeros cs 0 size mode ≡ rounded_up cs size → is_copied_data (cover (header b) b g) ≡ true
  copied_at g lt first = ap is_copied_data (sym (stay g)) ∙ filled.copied g (touches g lt) (let up = up_least cs size some in omega (arith, up, lt, first))

  zeros_at : (g : ℕ) → g * cs < size → first_zeros cs 0 size mode ≡ rounded_up cs 0 → cover (header b) b g ≡ Zero None
  zeros_at g lt first = sym (stay g) ∙ filled.zeros g (touches g lt) (let start = from_start g in omega (arith, start, first)) ∙ ap (cleared_cover to_kept_zero) (none g)

  pub none_behind : (g : ℕ) → size ≤ g * cs → cover (header b) b g ≡ Uncovered
  none_behind g le = sym (stay g) ∙ sym (filled.beside g (λ t. let up = least_up cs some size (g * cs) le (on_whole g) in let below = t.2 in omega (arith, up, below))) ∙ none g

left_inside : (mode : PreallocateMode) (hides : shows_old mode ≡ false) (size : ℕ) (h : HeaderFields) (k : Bytes) (m : HeaderFields) (km : Bytes) (b : Bytes) (none : (g : ℕ) → cover h k g ≡ Uncovered)
    (filled : FilledCovers (cluster_size h) (first_zeros (cluster_size h) 0 size mode) 0 (rounded_up (cluster_size h) size) h k m km) (stay : CoversStay m km (header b) b) (g : ℕ) → g * cluster_size h < size → IsCoverOf mode (cover (header b) b g)
left_inside Mode.None hides size h k m km b none filled stay g lt = absurd (cc hides)
left_inside Mode.Zero hides size h k m km b none filled stay g lt = zeros_at Mode.Zero hides size h k m km b none filled stay g lt refl
left_inside Mode.FormatAllocate hides size h k m km b none filled stay g lt = copied_at Mode.FormatAllocate hides size h k m km b none filled stay g lt refl
left_inside Mode.FullAllocate hides size h k m km b none filled stay g lt = copied_at Mode.FullAllocate hides size h k m km b none filled stay g lt refl
left_inside Mode.WriteData hides size h k m km b none filled stay g lt = copied_at Mode.WriteData hides size h k m km b none filled stay g lt refl

pub preallocated_so : (mode : PreallocateMode) (hides : shows_old mode ≡ false) (size : ℕ) (h : HeaderFields) (k : Bytes) (m : HeaderFields) (km : Bytes) (b : Bytes) → ((g : ℕ) → cover h k g ≡ Uncovered)
    → FilledCovers (cluster_size h) (first_zeros (cluster_size h) 0 size mode) 0 (rounded_up (cluster_size h) size) h k m km → CoversStay m km (header b) b → cluster_size (header b) ≡ cluster_size h → IsPreallocated mode size b
preallocated_so mode hides size h k m km b none filled stay same = record {
  inside = λ g lt. left_inside mode hides size h k m km b none filled stay g (subst (λ n. g * n < size) same lt);
  behind = λ g le. none_behind mode hides size h k m km b none filled stay g (subst (λ n. size ≤ g * n) same le);
}

-- a disk of no bytes has none
pub preallocated_none : (mode : PreallocateMode) (b : Bytes) → ((g : ℕ) → cover (header b) b g ≡ Uncovered) → IsPreallocated mode 0 b
preallocated_none mode b none = record { inside = λ g lt. absurd (omega (arith, lt)); behind = λ g le. none g }

-- ---- calls that give zeros alone
pub grow_gives_zeros : (x : Setting) (d : Disk) (size : ℕ) (mode : PreallocateMode) (o : ℕ) (v : Value) → IsGiven (given_by_grow x d size mode) o v → v ≡ known_byte 0
grow_gives_zeros x d size mode o v given = by_test (nat_le size d.size || shows_old mode) given where
  by_test : (b : Bool) → IsGiven (if b then [] else given_shown (zeroed_between d d.size (rounded_up x.cluster_size size)) d.size (rounded_up x.cluster_size size) ∷ []) o v → v ≡ known_byte 0
  by_test true none = absurd none
  by_test false some = ⊎_elim (λ bytes_given. bytes_given.2) (λ no. absurd no) (shown_zeros d d.size (rounded_up x.cluster_size size) o v some)

abbrev pub kept_since : (size : ℕ) (backing old : Bytes) → List GivenBytes → Checkpoint
kept_since size backing old given = checkpoint_with given (size ∷ []) (checkpoint_at (disk old backing) old)

module _ (size : ℕ) (backing : Bytes) (alone : backing ≡ (λ i. 0)) (old : Bytes) (unwritten : IsUnwritten 0 old) (given : List GivenBytes) (zeros : (o : ℕ) (v : Value) → IsGiven given o v → v ≡ known_byte 0) where
  sizes : (c : Bytes) → (disk c backing).size ≡ (header c).size
  unfolding disk_with
  sizes c = refl

  pub kept_zeros : (c : Bytes) → StopOkEverywhere backing (kept_since size backing old given) c → (n : ℕ) → (header c).size ≡ n → ShowsZeros n c
  kept_zeros c kept n is = record {
    consistent = kept.consistent;
    size = is;
    zeros = subst (λ (b : Bytes). (o : ℕ) → (disk c b).value o ≡ known_byte 0) alone (λ o.
        ⊎_elim
        (λ same. same ∙ unwritten.shows_below backing o ∙ ap (λ (b : Bytes). known_byte (b o)) alone)
        (λ more. ⊎_elim (λ bytes_given. zeros o _ bytes_given) (λ no. absurd no) (given_split given [] o _ more)) (kept.values o));
  }

  pub kept_either : (c : Bytes) → StopOkEverywhere backing (kept_since size backing old given) c → ShowsZeros 0 c ⊎ ShowsZeros size c
  kept_either c kept = ⊎_elim
      (λ same. inl (kept_zeros c kept 0 (sym (sizes c) ∙ same ∙ sizes old ∙ unwritten.size)))
      (λ asked. ⊎_elim (λ is. inr (kept_zeros c kept size (sym (sizes c) ∙ is))) (λ no. absurd no) asked)
      kept.size

pub starts_unwritten : (backing : Bytes) (old : Bytes) → IsUnwritten 0 old → StopOkEverywhere backing (checkpoint_at (disk old backing) old) old
starts_unwritten backing old unwritten = record { consistent = unwritten.consistent; rest = header_rest_same old; size = inl refl; values = λ o. inl refl }
