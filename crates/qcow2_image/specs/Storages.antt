-- The storages of an image, what it passes on to them, and its name.
use Rattle.std.specs.Prelude.{ℕ, ◌++◌, ◌∷◌, List, [], codes, IfSome, IsSomeAnd, Result, Ok}
use Rattle.std.specs.Option.{option_map_or}
use Rattle.image_access.specs.Moments.{PassingCall, StorageView}
use Rattle.image_access.specs.declared.error.StorageError.{StorageError}
use Rattle.qcow2_image.specs.Image.{storage_of_image}
use Rattle.qcow2_image.specs.declared.image.Qcow2.{Qcow2}

module _ {S F : Type 0} where
  -- The storages of the backing disk, in its order, then the image's own, and then the data file.
  abbrev pub storages_of : (F → List S) → Qcow2 S F → List S
  storages_of dependencies image = option_map_or dependencies image.backing [] ++ storage_of_image image ∷ option_map_or (λ file. file ∷ []) image.data_file []

  module _ (passes : PassingCall → S → S → Result (Unit {0}) StorageError → Type 0) (call : PassingCall) (old new : Qcow2 S F) where
    -- The data file, if there is one, was given this call, and did what storages of its type do then.
    abbrev pub PassesBeside : Type 0
    PassesBeside = IfSome old.data_file (λ was. IsSomeAnd new.data_file (λ now. passes call was now (Ok tt)))

    -- Each storage of an image was given this call: its own, and the data file if there is one.
    pub record PassesOn : Type 0 where
      pub own : passes call (storage_of_image old) (storage_of_image new) (Ok tt)
      pub data_file : PassesBeside

  -- The name of an image: `qcow2[`, the name of its storage, `]`.
  abbrev pub name_of : (S → StorageView) → Qcow2 S F → List ℕ
  name_of view image = codes "qcow2[" ++ (view (storage_of_image image)).name ++ codes "]"
