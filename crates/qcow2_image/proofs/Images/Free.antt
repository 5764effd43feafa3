-- Empty slots make no difference to an image, a sound image is whole, and from now on its storage has only had its present contents.
use Rattle.std.proofs.Common.{◌≡◌, ◌+◌, ◌-◌, ◌≤◌, ◌∷◌, ◌++◌, ℕ, zero, suc, List, [], sym, ap, ◌∙◌, subst, Option, Some, None, arith, refl}
use Rattle.qcow2_image.proofs.Common.{slice_get, option_map_or, fun_ext, BackingView, StorageView, count, cluster_size, named, HeaderFields, Pending, HasFreePlaces, IsWhole, sound_is_consistent, known_header, state_in, view_in, known_in, FileInvariant, storage_of, Qcow2, Prepared, over_all, new_data_by, pins_by, to_free, of_tables, of_data, pending_in, ImageInvariant, abstraction_at, abstract_of, Mappings, over_slots, known_for, in_image}
use Rattle.qcow2_image.specs.declared.mapping.Place.{Place}
use Rattle.qcow2_image.proofs.Images.Places.{by_place, inside_of, from_image}

over_all_free : (f : Prepared → ℕ → ℕ) (a b : List (Option Prepared)) (k : ℕ) → over_slots f (a ++ None ∷ b) k ≡ over_slots f (a ++ b) k
over_all_free f [] b k = omega arith
over_all_free f (p ∷ a) b k = ap (λ n. option_map_or (λ q. f q k) p 0 + n) (over_all_free f a b k)

get_in : (a b : List (Option Prepared)) (k : ℕ) (q : Prepared) → slice_get (a ++ None ∷ b) k ≡ Some (Some q) → (j : ℕ) × (slice_get (a ++ b) j ≡ Some (Some q))
get_in [] b zero q e = absurd cc
get_in [] b (suc k) q e = (k, e)
get_in (p ∷ a) b zero q e = (zero, e)
get_in (p ∷ a) b (suc k) q e = let there = get_in a b k q e in (suc there.0, there.1)

get_out : (a b : List (Option Prepared)) (k : ℕ) (q : Prepared) → slice_get (a ++ b) k ≡ Some (Some q) → (j : ℕ) × (slice_get (a ++ None ∷ b) j ≡ Some (Some q))
get_out [] b k q e = (suc k, e)
get_out (p ∷ a) b zero q e = (zero, e)
get_out (p ∷ a) b (suc k) q e = let there = get_out a b k q e in (suc there.0, there.1)

module _ {S F : Type 0} (view : S → StorageView) (backing : F → BackingView) where
  module _ (image : Qcow2 S F) where
    abbrev counted : (k new_data : ℕ) → ℕ
    counted k new_data =
        count image.file.header.fields (known_in view image.file) k
        - (named image.file.header.fields (known_in view image.file) k + new_data + to_free of_tables image.file.free_list k + to_free of_data image.file.free_list k)

    abbrev with_new_data : (ℕ → ℕ) → Pending
    with_new_data new_data = record { new_data = new_data; new_tables = λ k. 0; old_tables = to_free of_tables image.file.free_list; old_data = to_free of_data image.file.free_list; surplus = λ k. counted k (new_data k) }

    pending_free : (place : Place) (a b : List (Option Prepared)) → pending_in view backing image (record { place = place; slots = a ++ None ∷ b }) ≡ pending_in view backing image (record { place = place; slots = a ++ b })
    pending_free place a b = ap with_new_data (fun_ext (λ k. over_all_free new_data_by a b k))

    -- the same mappings in other slots
    moved : (place : Place) (p p' : Pending) (a b : List (Option Prepared)) → p ≡ p' → ((t : ℕ) → over_slots pins_by a t ≡ over_slots pins_by b t)
        → ((k : ℕ) (q : Prepared) → slice_get b k ≡ Some (Some q) → (j : ℕ) × (slice_get a j ≡ Some (Some q))) → ImageInvariant view backing p image (record { place = place; slots = a }) → ImageInvariant view backing p' image (record { place = place; slots = b })
    moved place p p' a b same pins at s = record {
      works = s.works;
      file = subst (λ q. FileInvariant view q image.file) same s.file;
      l1_table = s.l1_table;
      reftable = s.reftable;
      stands = s.stands;
      below = s.below;
      ready = λ k q e. let there = at k q e in s.ready there.0 q there.1;
      pinned = λ t. s.pinned t ∙ pins t;
      once = λ t. subst (λ n. n ≤ 1) (pins t) (s.once t);
    }

  pub free_places : (place : Place) → HasFreePlaces (abstraction_at view backing place)
  free_places place = record {
    free = λ image a b. moved image place _ _ (a ++ b) (a ++ None ∷ b) (sym (pending_free image place a b)) (λ t. sym (over_all_free pins_by a b t)) (get_in a b);
    left = λ image a b. moved image place _ _ (a ++ None ∷ b) (a ++ b) (pending_free image place a b) (over_all_free pins_by a b) (get_out a b);
    surplus = λ image a b. fun_ext (λ k. ap (counted image k) (over_all_free new_data_by a b k));
    works = λ image out sound. sound.works;
  }

  -- a sound image has its data where they are known
  pub data_inside : (place : Place) (image : Qcow2 S F) (slots : List (Option Prepared)) → (abstraction_at view backing place).is_sound image slots → known_for view backing place image ≡ known_in view image.file
  data_inside place image slots sound = from_image (λ at. known_for view backing at image ≡ known_in view image.file) sound refl

  pub whole : (image : Qcow2 S F) (out : Mappings) → ImageInvariant view backing (pending_in view backing image out) image out → IsWhole (abstract_of view backing image out)
  whole image out sound =
      let stand = state_in view image.file (pending_in view backing image out) in
      record {
        consistent = sound_is_consistent.known stand sound.file.caches.kept.kept.crash_invariant (inside_of sound);
        in_image = data_inside out.place image out.slots sound;
        cluster_size = ap (λ (h : HeaderFields). cluster_size h) (sym (known_header stand sound.file.caches.kept.kept.crash_invariant));
      }

  -- the premise is the trait's `only_now`
  pub nothing_since : ((s : S) (c : List ℕ) → (view s).had_since (view s).moment c → c ≡ (view s).contents) → (image : Qcow2 S F) (c : List ℕ)
      → (view_in view image.file).had_since (view_in view image.file).moment c → c ≡ (view_in view image.file).contents
  nothing_since only image = only (storage_of image.file.storage)
