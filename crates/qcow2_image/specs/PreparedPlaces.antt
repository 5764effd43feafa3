-- No byte of a prepared mapping lies in the header's cluster, and it never begins in a host cluster there. Mappings in a data file may lie anywhere.
use Rattle.std.specs.Prelude.{ℕ, ◌≡◌, ◌<◌, ◌≤◌, false, IfSome, IsTrue}
use Rattle.qcow2_metadata.specs.Header.{cluster_size}
use Rattle.qcow2_image.specs.Image.{is_beside, number_of, place_in}
use Rattle.qcow2_image.specs.declared.image.Qcow2.{Qcow2}
use Rattle.qcow2_metadata.specs.L2Mapping.{host_of, is_marked}
use Rattle.qcow2_metadata.specs.declared.l2_mapping.L2Mapping.{L2Mapping}
use Rattle.qcow2_image.specs.declared.prepared.Prepared.{Prepared}
use Rattle.qcow2_image.specs.Prepared.{file_of, image_of, length_of, offset_of}

-- If the mapping is marked copied, its host cluster lies past cluster 0.
abbrev pub MarkedIsBehind : ℕ → L2Mapping → Type 0
MarkedIsBehind size mapping = IsTrue (is_marked mapping) → IfSome (host_of mapping) (λ host. size ≤ host)

module _ {S F : Type 0} (image : Qcow2 S F) where
  -- Without a data file, a mapping that is marked copied has its host cluster past cluster 0.
  abbrev pub IsMarkedBehind : L2Mapping → Type 0
  IsMarkedBehind mapping = is_beside image ≡ false → MarkedIsBehind (cluster_size image.file.header.fields) mapping

  -- Without a data file, the offset lies past cluster 0.
  abbrev pub IsPlacedBehind : ℕ → Type 0
  IsPlacedBehind host = is_beside image ≡ false → cluster_size image.file.header.fields ≤ host

  -- The mapping belongs to the image, and lies in the file that holds guests' data.
  abbrev pub IsOwn : Prepared → Type 0
  IsOwn p = (image_of p ≡ number_of image) × (file_of p ≡ place_in image)

  -- The mapping has at least one byte, and without a data file none of its bytes lies in cluster 0.
  pub record HasBytesBehind (p : Prepared) : Type 0 where
    pub some : 0 < length_of p
    pub behind : IsPlacedBehind (offset_of p)
