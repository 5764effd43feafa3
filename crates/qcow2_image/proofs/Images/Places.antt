-- The file that holds guests' data.
use Rattle.std.proofs.Common.{◌≡◌, ◌∷◌, ℕ, List, Option, None, Some}
use Rattle.std.specs.Prelude.{slice_get}
use Rattle.image_access.specs.Backing.{BackingView}
use Rattle.image_access.specs.Moments.{StorageView}
use Rattle.qcow2_laws.specs.CrashInvariant.{Pending}
use Rattle.qcow2_image.specs.declared.image.Qcow2.{Qcow2}
use Rattle.qcow2_image.specs.declared.mapping.Place.{Place}
use Rattle.qcow2_image.specs.declared.mapping.Place.TheVariants.{DataFile, Image}
use Rattle.qcow2_image.specs.declared.prepared.Prepared.{Prepared}
use Rattle.qcow2_alloc.specs.ImageFile.{contents_in, known_in}
use Rattle.qcow2_image.specs.ImageInvariant.{ImageInvariant, IsAt, IsReadyWith, Mappings, in_image}

-- A slot comes before the others.
abbrev pub put_first : Option Prepared → Mappings → Mappings
put_first p out = record { place = out.place; slots = p ∷ out.slots }

module _ {S F : Type 0} (view : S → StorageView) (backing : F → BackingView) where
  inside_at : (place : Place) (incompatible : ℕ) (data_file : Option S) → IsAt view backing place incompatible data_file → incompatible ≡ 0
  inside_at Image incompatible data_file stands = stands.inside
  inside_at DataFile incompatible data_file stands = absurd stands

  alone_at : (place : Place) (incompatible : ℕ) (data_file : Option S) → IsAt view backing place incompatible data_file → data_file ≡ None
  alone_at Image incompatible data_file stands = stands.alone
  alone_at DataFile incompatible data_file stands = absurd stands

  to_image : (P : Place → Type 0) (place : Place) (incompatible : ℕ) (data_file : Option S) → IsAt view backing place incompatible data_file → P place → P Image
  to_image P Image incompatible data_file stands is = is
  to_image P DataFile incompatible data_file stands is = absurd stands

  of_image : (P : Place → Type 0) (place : Place) (incompatible : ℕ) (data_file : Option S) → IsAt view backing place incompatible data_file → P Image → P place
  of_image P Image incompatible data_file stands is = is
  of_image P DataFile incompatible data_file stands is = absurd stands

  of_slots : (P : Mappings → Type 0) (place : Place) (slots : List (Option Prepared)) (incompatible : ℕ) (data_file : Option S) → IsAt view backing place incompatible data_file
      → ((slots : List (Option Prepared)) → P (in_image slots)) → P (record { place = place; slots = slots })
  of_slots P Image slots incompatible data_file stands inside = inside slots
  of_slots P DataFile slots incompatible data_file stands inside = absurd stands

module _ {S F : Type 0} {view : S → StorageView} {backing : F → BackingView} {p : Pending} {image : Qcow2 S F} {out : Mappings} where
  pub inside_of : ImageInvariant view backing p image out → image.file.header.fields.incompatible ≡ 0
  inside_of sound = inside_at view backing out.place image.file.header.fields.incompatible image.data_file sound.stands

  -- what holds where guests' data are holds of the image's own file, and the other way round
  pub at_image : (P : Place → Type 0) → ImageInvariant view backing p image out → P out.place → P Image
  at_image P sound is = to_image view backing P out.place image.file.header.fields.incompatible image.data_file sound.stands is

  pub from_image : (P : Place → Type 0) → ImageInvariant view backing p image out → P Image → P out.place
  from_image P sound is = of_image view backing P out.place image.file.header.fields.incompatible image.data_file sound.stands is

  pub by_place : (P : Mappings → Type 0) → ImageInvariant view backing p image out → ((slots : List (Option Prepared)) → P (in_image slots)) → P out
  by_place P sound inside = of_slots view backing P out.place out.slots image.file.header.fields.incompatible image.data_file sound.stands inside

  pub ready_inside : ImageInvariant view backing p image out → (k : ℕ) (q : Prepared) → slice_get out.slots k ≡ Some (Some q) → IsReadyWith image.file.header.fields Image (known_in view image.file) (contents_in view image.file) q q.table
  ready_inside sound k q at = at_image (λ place. IsReadyWith image.file.header.fields place (known_in view image.file) (contents_in view image.file) q q.table) sound (sound.ready k q at).mapped

  pub alone_of : ImageInvariant view backing p image out → image.data_file ≡ None
  alone_of sound = alone_at view backing out.place image.file.header.fields.incompatible image.data_file sound.stands
