-- The storage of a layer.
use Rattle.std.proofs.Common.{◌≡◌, ◌<◌, ◌≤◌, ◌==◌, if◌then◌else◌, ℕ, Bool, true, false, List, length, refl, sym, ap, ◌∙◌, subst, arith, Option, Some, None, option_map, slice_get, slice_index_or}
use Rattle.program_parts.proofs.Common.{storage_of_image, Stack, storage_at}
use Rattle.program_parts.specs.declared.layers.Layer.{Layer}
use Rattle.std.proofs.lemmas.Option.{slice_get_past, slice_get_read}

if_else : {A : Type 0} (b : Bool) (x y : A) → b ≡ false → (if b then x else y) ≡ y
if_else true x y e = absurd cc
if_else false x y e = refl

less_differs : (n m : ℕ) → n < m → (n == m) ≡ false
less_differs n m lt = grind arith

differs : (n m : ℕ) → ¬ (n ≡ m) → (n == m) ≡ false
differs n m not_same = grind arith

abbrev storage_of_layer : {S : Type 0} → Layer S → S
storage_of_layer layer = storage_of_image layer.image

module _ {S : Type 0} (images : List (Layer S)) (base : Option S) (place len : ℕ) (is_length : len ≡ length images) where
  abbrev stack : Stack S
  stack = record { images = images; base = base; last = place }

  -- it is that of an image
  pub image_there : (layer : Layer S) (storage : S) → place < len → layer ≡ slice_index_or images place layer → storage ≡ storage_of_layer layer → Some storage ≡ storage_at stack place
  image_there layer storage less is stored =
      ap Some stored
      ∙ sym (ap (option_map storage_of_layer) (slice_get_read images len place layer is_length less is))
      ∙ sym (if_else (place == length images) base (option_map storage_of_layer (slice_get images place)) (less_differs place (length images) (subst (λ n. place < n) is_length less)))

  -- there is none
  pub none_there : len ≤ place → ¬ (place ≡ len) → None ≡ storage_at stack place
  none_there past not_same =
      sym (ap (option_map storage_of_layer) (slice_get_past images place (subst (λ n. n ≤ place) is_length past)))
      ∙ sym (if_else (place == length images) base (option_map storage_of_layer (slice_get images place)) (differs place (length images) (subst (λ n. ¬ (place ≡ n)) is_length not_same)))
