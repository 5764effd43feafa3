-- The two kinds of cached tables, as their backends need them.
use Rattle.std.specs.Prelude.{ℕ, ◌≡◌, ◌==◌, false}
use Rattle.qcow2_metadata.specs.declared.header.HeaderFields.{HeaderFields}
use Rattle.qcow2_metadata.specs.Header.{has_data_file}
use Rattle.image_access.specs.Moments.{StorageView}
use Rattle.qcow2_metadata.specs.L2Table.{L2TableView}
use Rattle.qcow2_metadata.specs.RefBlock.{RefBlockView}
use Rattle.qcow2_metadata.specs.declared.error.MetadataError.{MetadataError}
use Rattle.qcow2_alloc.specs.AsyncLruCacheBackend.{Steps}
use Rattle.qcow2_alloc.specs.TableSteps.{table_steps}

abbrev pub cleared_l2 : L2TableView → L2TableView
cleared_l2 table = record table { is_modified = false }

abbrev pub cleared_rb : RefBlockView → RefBlockView
cleared_rb block = record block { is_modified = false }

-- The table is read as one of an image with this header.
pub record IsTableOf (h : HeaderFields) (t : L2TableView) : Type 0 where
  pub bits : t.cluster_bits ≡ h.cluster_bits
  pub zero_bit : t.has_zero_bit ≡ (h.version == 3)
  pub external : t.data_is_external ≡ has_data_file h

pub record IsBlockOf (h : HeaderFields) (b : RefBlockView) : Type 0 where
  pub bits : b.cluster_bits ≡ h.cluster_bits
  pub order : b.refcount_order ≡ h.refcount_order

abbrev pub l2_steps : {S : Type 0} → (S → StorageView) → HeaderFields → Steps S ℕ L2TableView MetadataError
l2_steps view h = table_steps view h.cluster_bits (λ (t : L2TableView). t.bytes) (λ t. t.is_modified) cleared_l2 (IsTableOf h)

abbrev pub rb_steps : {S : Type 0} → (S → StorageView) → HeaderFields → Steps S ℕ RefBlockView MetadataError
rb_steps view h = table_steps view h.cluster_bits (λ (b : RefBlockView). b.bytes) (λ b. b.is_modified) cleared_rb (IsBlockOf h)
