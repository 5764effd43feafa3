-- Zeros are put into a mapping that is prepared in a slot of its own, and the mapping is committed.
use Rattle.std.proofs.Common.{◌≡◌, ◌⊎◌, ◌+◌, ◌≤◌, ◌<◌, ◌∷◌, ⊎_elim, inl, inr, ℕ, suc, eqb, length, List, [], Option, Some, None, true, refl, sym, ap, ◌∙◌, subst, arith}
use Rattle.qcow2_image.proofs.Common.{length-replicate, cond-false, ne_eqb, fun_ext, Value, Disk, disk, zeroed_between, PreparedMapping, IsPrepared, committed, given_by_commit, given_by_put, put_disk, put_mapping, GivenBytes, IsGiven, Abstraction, AbstractImage, Guest, HasFreePlaces, abstract_image, guest_of, EffectOnSound, with_disk, with_slot, TouchesLess, shown_is, works_less, works_then, stops_none, given_by_zeros, in_image}
use Rattle.qcow2_image.proofs.Preallocate.Zeros.{commit_within, filled, put_within, zeros_of}
use Rattle.qcow2_image.proofs.Images.UngivenCovers.{touches_part}
use Rattle.qcow2_image.proofs.Images.WholeClusters.{commit_touches}

-- nothing is given
pub none_of : (v w : AbstractImage) (given : List GivenBytes) → EffectOnSound v w [] [] → EffectOnSound v w given []
none_of v w given works = works_less v w [] given [] (λ o x never. absurd never) (λ g u. tt) works

-- the guest without its first place
abbrev pub behind_first : Guest → Guest
behind_first g = record { disk = g.disk; slots = λ k. g.slots (suc k) }

pub behind_slot : (g : Guest) (m : Option PreparedMapping) → behind_first (with_slot g 0 m) ≡ behind_first g
behind_slot g m = ap (λ (f : ℕ → Option PreparedMapping). record g { slots = f }) (fun_ext (λ k. cond-false (eqb (suc k) 0) m (g.slots (suc k)) (ne_eqb (suc k) 0 (λ e. absurd (omega arith)))))

module _ {D P : Type 0} (spec : Abstraction D P) (has : HasFreePlaces spec) (in_image : (d : D) (out : List (Option P)) → spec.is_sound d out → spec.data_bytes d ≡ spec.known d) where
  abbrev at_place : D → Option P → List (Option P) → AbstractImage
  at_place d p out = abstract_image spec d (p ∷ out)

  -- a free place more, or less
  pub enters : (d : D) (out : List (Option P)) → EffectOnSound (abstract_image spec d out) (at_place d None out) [] []
  enters d out = record { setting = refl; surplus = λ _. has.surplus d [] out; beside = λ _ g untouched. refl; leaks = refl; stops = stops_none (abstract_image spec d out) (at_place d None out) [] [] refl (λ _. refl) }

  pub leaves : (d : D) (out : List (Option P)) → EffectOnSound (at_place d None out) (abstract_image spec d out) [] []
  leaves d out = record { setting = refl; surplus = λ _. sym (has.surplus d [] out); beside = λ _ g untouched. refl; leaks = refl; stops = stops_none (at_place d None out) (abstract_image spec d out) [] [] refl (λ _. refl) }

  -- it is prepared
  module _ (d0 d1 : D) (p : P) (out : List (Option P)) (size offset n : ℕ) (sound0 : spec.is_sound d0 out) (sound1 : spec.is_sound d1 (Some p ∷ out)) (readies : EffectOnSound (at_place d0 None out) (at_place d1 (Some p) out) [] [])
      (prepared : IsPrepared size (guest_of (at_place d0 None out)).disk offset n true (spec.means d1 p))
      (ready_is : guest_of (at_place d1 (Some p) out) ≡ with_slot (guest_of (at_place d0 None out)) 0 (Some (spec.means d1 p))) (fits : (spec.means d1 p).length ≤ n) where
    abbrev m : PreparedMapping
    m = spec.means d1 p

    abbrev end : ℕ
    end = offset + m.length

    abbrev given_bytes : List GivenBytes
    given_bytes = given_by_zeros offset end ∷ []

    abbrev zeros : List ℕ
    zeros = zeros_of m.length

    abbrev disk0 : Disk
    disk0 = (guest_of (abstract_image spec d0 out)).disk

    ready_disk : (guest_of (at_place d1 (Some p) out)).disk ≡ disk0
    ready_disk = ap (λ (g : Guest). g.disk) ready_is

    ready_guest : behind_first (guest_of (at_place d1 (Some p) out)) ≡ guest_of (abstract_image spec d0 out)
    ready_guest = ap behind_first ready_is ∙ behind_slot (guest_of (at_place d0 None out)) (Some m)

    pub ready_works : (given : List GivenBytes) → EffectOnSound (abstract_image spec d0 out) (at_place d1 (Some p) out) given []
    ready_works given =
        works_then (abstract_image spec d0 out) (at_place d0 None out) (at_place d1 (Some p) out) given [] (has.free d0 [] out sound0) (none_of _ _ given (enters d0 out)) (none_of _ _ given readies)

    -- zeros are put into it
    module _ (d2 : D) (sound2 : spec.is_sound d2 (Some p ∷ out)) (puts : EffectOnSound (at_place d1 (Some p) out) (at_place d2 (Some p) out) (given_by_put (guest_of (at_place d1 (Some p) out)).disk m 0 zeros ∷ []) []) where
      puts_given : (o : ℕ) (w : Value) → IsGiven (given_by_put (guest_of (at_place d1 (Some p) out)).disk m 0 zeros ∷ []) o w → (w ≡ (disk (spec.known d1) (spec.setting d1).backing).value o) ⊎ IsGiven given_bytes o w
      puts_given o w given =
          ⊎_elim (λ (same : w ≡ disk0.value o). inl (same ∙ ap (λ (d : Disk). d.value o) (sym ready_disk ∙ shown_is (at_place d1 (Some p) out) (in_image d1 (Some p ∷ out) sound1)))) (λ (zero : IsGiven given_bytes o w). inr zero)
          (put_within size disk0 m offset n prepared fits o w (subst (λ (d : Disk). IsGiven (given_by_put d m 0 zeros ∷ []) o w) ready_disk given))

      puts_touch : TouchesLess (spec.setting d1).cluster_size (given_by_put (guest_of (at_place d1 (Some p) out)).disk m 0 zeros ∷ []) given_bytes
      puts_touch =
          let from = prepared.from in
          let long : length zeros ≡ m.length = length-replicate m.length 0 in
          touches_part (spec.setting d1).cluster_size _ _ _ _ (omega (arith, from)) (omega (arith, from, long))

      pub put_works : EffectOnSound (abstract_image spec d0 out) (at_place d2 (Some p) out) given_bytes []
      put_works = works_then (abstract_image spec d0 out) (at_place d1 (Some p) out) (at_place d2 (Some p) out) given_bytes [] sound1 (ready_works given_bytes) (works_less _ _ _ given_bytes [] puts_given puts_touch puts)

      -- and it is let go
      pub gone_works : (d3 : D) → EffectOnSound (at_place d2 (Some p) out) (at_place d3 None out) [] [] → spec.is_sound d3 (None ∷ out) → EffectOnSound (abstract_image spec d0 out) (abstract_image spec d3 out) given_bytes []
      gone_works d3 image_step sound3 =
          works_then (abstract_image spec d0 out) (at_place d3 None out) (abstract_image spec d3 out) given_bytes [] sound3
          (works_then (abstract_image spec d0 out) (at_place d2 (Some p) out) (at_place d3 None out) given_bytes [] sound2 put_works (none_of _ _ given_bytes image_step)) (none_of _ _ given_bytes (leaves d3 out))

      -- where none was put nothing changed
      pub gone_same : (d3 : D) → guest_of (at_place d2 (Some p) out) ≡ guest_of (at_place d1 (Some p) out) → guest_of (at_place d3 None out) ≡ with_slot (guest_of (at_place d2 (Some p) out)) 0 None
          → guest_of (abstract_image spec d3 out) ≡ guest_of (abstract_image spec d0 out)
      gone_same d3 same gone = ap behind_first gone ∙ behind_slot (guest_of (at_place d2 (Some p) out)) None ∙ ap behind_first same ∙ ready_guest

      -- they are there, and it is committed
      module _ (put_is : guest_of (at_place d2 (Some p) out) ≡ with_slot (with_disk (guest_of (at_place d1 (Some p) out)) (put_disk (guest_of (at_place d1 (Some p) out)).disk m 0 zeros)) 0 (Some (put_mapping m 0 zeros)))
          (d3 : D) (cs : ℕ) (sound3 : spec.is_sound d3 (None ∷ out)) (commits : EffectOnSound (at_place d2 (Some p) out) (at_place d3 None out) (given_by_commit cs (guest_of (at_place d2 (Some p) out)).disk (spec.means d2 p) ∷ []) [])
          (commit_is : guest_of (at_place d3 None out) ≡ with_slot (with_disk (guest_of (at_place d2 (Some p) out)) (committed (guest_of (at_place d2 (Some p) out)).disk (spec.means d2 p))) 0 None) where
        abbrev disk2 : Disk
        disk2 = put_disk disk0 m 0 zeros

        abbrev mapping2 : PreparedMapping
        mapping2 = put_mapping m 0 zeros

        means_is : spec.means d2 p ≡ mapping2
        means_is = let same = ap (λ (g : Guest). g.slots 0) put_is in cc

        guest2 : behind_first (guest_of (at_place d2 (Some p) out)) ≡ with_disk (guest_of (abstract_image spec d0 out)) disk2
        guest2 =
            ap behind_first put_is ∙ behind_slot (with_disk (guest_of (at_place d1 (Some p) out)) (put_disk (guest_of (at_place d1 (Some p) out)).disk m 0 zeros)) (Some mapping2)
            ∙ ap (λ (g : Guest). with_disk g (put_disk g.disk m 0 zeros)) ready_guest

        disk2_is : (guest_of (at_place d2 (Some p) out)).disk ≡ disk2
        disk2_is = ap (λ (g : Guest). g.disk) guest2

        commits_given : (o : ℕ) (w : Value) → IsGiven (given_by_commit cs (guest_of (at_place d2 (Some p) out)).disk (spec.means d2 p) ∷ []) o w → (w ≡ (disk (spec.known d2) (spec.setting d2).backing).value o) ⊎ IsGiven given_bytes o w
        commits_given o w given =
            ⊎_elim (λ (same : w ≡ disk2.value o). inl (same ∙ ap (λ (d : Disk). d.value o) (sym disk2_is ∙ shown_is (at_place d2 (Some p) out) (in_image d2 (Some p ∷ out) sound2)))) (λ (zero : IsGiven given_bytes o w). inr zero)
            (commit_within size disk0 m offset n prepared fits cs o w
            (subst (λ (d : Disk). IsGiven (given_by_commit cs d mapping2 ∷ []) o w) disk2_is
            (subst (λ (x : PreparedMapping). IsGiven (given_by_commit cs (guest_of (at_place d2 (Some p) out)).disk x ∷ []) o w) means_is given)))

        -- the mapping's whole clusters are those that the zeros touch
        commits_touch : cs ≡ (spec.setting d2).cluster_size → 0 < cs → TouchesLess (spec.setting d2).cluster_size (given_by_commit cs (guest_of (at_place d2 (Some p) out)).disk (spec.means d2 p) ∷ []) given_bytes
        commits_touch size_is some =
            let begin : (spec.means d2 p).from ≡ offset = ap (λ (x : PreparedMapping). x.from) means_is ∙ prepared.from in
            let long : (spec.means d2 p).length ≡ m.length = ap (λ (x : PreparedMapping). x.length) means_is in
            subst (λ size. TouchesLess size (given_by_commit cs (guest_of (at_place d2 (Some p) out)).disk (spec.means d2 p) ∷ []) given_bytes) size_is
            (commit_touches cs some (guest_of (at_place d2 (Some p) out)).disk (spec.means d2 p) (given_by_zeros offset end) offset m.length begin refl (omega arith) (λ zero. long ∙ zero) (λ past. absurd (omega (arith, long, past))))

        pub filled_works : cs ≡ (spec.setting d2).cluster_size → 0 < cs → EffectOnSound (abstract_image spec d0 out) (abstract_image spec d3 out) given_bytes []
        filled_works size_is some =
            works_then (abstract_image spec d0 out) (at_place d3 None out) (abstract_image spec d3 out) given_bytes [] sound3
            (works_then (abstract_image spec d0 out) (at_place d2 (Some p) out) (at_place d3 None out) given_bytes [] sound2 put_works (works_less _ _ _ given_bytes [] commits_given (commits_touch size_is some) commits)) (none_of _ _ given_bytes (leaves d3 out))

        pub filled_sound : spec.is_sound d3 out
        filled_sound = has.left d3 [] out sound3

        pub filled_shows : guest_of (abstract_image spec d3 out) ≡ with_disk (guest_of (abstract_image spec d0 out)) (zeroed_between disk0 offset end)
        filled_shows =
            ap behind_first commit_is ∙ behind_slot (with_disk (guest_of (at_place d2 (Some p) out)) (committed (guest_of (at_place d2 (Some p) out)).disk (spec.means d2 p))) None
            ∙ ap (λ (x : PreparedMapping). with_disk (behind_first (guest_of (at_place d2 (Some p) out))) (committed (guest_of (at_place d2 (Some p) out)).disk x)) means_is
            ∙ ap (λ (g : Guest). with_disk g (committed g.disk mapping2)) guest2
            ∙ ap (λ (d : Disk). with_disk (guest_of (abstract_image spec d0 out)) d) (filled size disk0 m offset n prepared fits)
