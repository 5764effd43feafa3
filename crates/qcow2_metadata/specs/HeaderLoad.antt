-- What loading a header returns, and why it may be refused.
use Rattle.std.specs.Prelude.{◌≡◌, ℕ, Bool, IsTrue, List, Option, Some, None, ⊤}
use Rattle.qcow2_metadata.specs.Bytes.{Bytes, byte_at}
use Rattle.qcow2_metadata.specs.Header.{HeaderFields, HeaderView, header, HeaderReads, IsWellFormed, IsWithinLimits, IsAligned, ExtensionsRead, backing_name, first_of_kind, backing_format_kind, data_file_kind}
use Rattle.qcow2_metadata.specs.declared.error.MetadataError.{MetadataError}
use Rattle.qcow2_metadata.specs.declared.error.MetadataError.TheVariants.{Storage, Memory, Version, Unaligned, Limit, Format}

-- The name found so far, or the first one of its kind among further extensions.
abbrev pub first_so_far : ℕ → Option (List ℕ) → List (ℕ × List ℕ) → Option (List ℕ)
first_so_far kind None list = first_of_kind kind list
first_so_far kind (Some name) list = Some name

-- The extensions from `place` on have these names.
pub record AreNamed (b : Bytes) (limit place : ℕ) (format data_file : Option (List ℕ)) : Type 0 where
  pub reads : ExtensionsRead b limit place
  pub backing_format : format ≡ first_of_kind backing_format_kind reads.list
  pub data_file_name : data_file ≡ first_of_kind data_file_kind reads.list

-- The loaded header has these fields, which are readable, and the names that the bytes hold.
pub record IsHeaderOf (v : HeaderView) (h : HeaderFields) (b : Bytes) : Type 0 where
  pub fields : v.fields ≡ h
  pub reads : HeaderReads h b
  pub backing_name : v.backing_name ≡ backing_name h b
  pub backing_format : v.backing_format ≡ first_of_kind backing_format_kind reads.well_formed.extensions.list
  pub data_file_name : v.data_file_name ≡ first_of_kind data_file_kind reads.well_formed.extensions.list

-- The header is the one in these contents.
abbrev pub IsHeaderIn : HeaderView → List ℕ → Type 0
IsHeaderIn v contents = IsHeaderOf v (header (byte_at contents)) (byte_at contents)

-- The L1 table is aligned. If the image is opened for writing, the reftable is aligned too.
pub record HasAlignedTables (h : HeaderFields) (writable : Bool) : Type 0 where
  pub l1_table : IsAligned h h.l1_offset
  pub reftable : IsTrue writable → IsAligned h h.reftable_offset

-- Why a header is not readable.
abbrev pub IsReasonNotToRead : HeaderFields → Bytes → MetadataError → Type 0
IsReasonNotToRead h b Format = ¬ IsWellFormed h b
IsReasonNotToRead h b Limit = IsWellFormed h b × ¬ IsWithinLimits h
IsReasonNotToRead h b Unaligned = ⊥
IsReasonNotToRead h b Version = ⊥
IsReasonNotToRead h b Memory = ⊤
IsReasonNotToRead h b (Storage e) = ⊤

-- Why the header of an image is refused. Format is checked before limits, and limits before alignment.
abbrev pub IsReasonToRefuse : HeaderFields → Bytes → Bool → MetadataError → Type 0
IsReasonToRefuse h b writable Format = ¬ IsWellFormed h b
IsReasonToRefuse h b writable Limit = IsWellFormed h b × ¬ IsWithinLimits h
IsReasonToRefuse h b writable Unaligned = HeaderReads h b × ¬ HasAlignedTables h writable
IsReasonToRefuse h b writable Version = ⊥
IsReasonToRefuse h b writable Memory = ⊤
IsReasonToRefuse h b writable (Storage e) = ⊤
