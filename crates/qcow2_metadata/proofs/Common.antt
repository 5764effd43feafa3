-- The names that several proofs cite, passed on from one place. Declares nothing.
pub use Rattle.std.proofs.Common.{ℕ, zero, suc, List, get_or, take, drop, refl, ap, ◌∙◌, arith, lit<, inl, inr, subst, [], Option, nat_lt, length, replicate, sym, Bool, true, false, Some, None, not, eqb, IfSome, is_some, unwrap_or, min, zero-add, Result, Ok, Err, OnOk, rules, option_copied, tests, ⊎_elim, pow-suc, mul_assoc, mul-pos, leb, ltb, set, cond, option_map}
pub use Rattle.std.proofs.Math.Nat.{div-mul-le_self, mul-le-mul_right, zero-div, zero-mod}
pub use Rattle.std.proofs.Math.Pow.{pow_mono}
pub use Rattle.std.proofs.lemmas.Bool.{cases_eq, cases_lt, cond-false, cond-true, le-ltb, lt-ltb, eq-eqb, ne_eqb, and_right, le-leb, lt-leb, and_from, and_left}
pub use Rattle.std.proofs.lemmas.List.{get_or-take, get_or-drop, get_or_append_left, get_or-append_right, length-replicate, ext_get_or, length-append, drop-replicate, nil_from_length, length-take, length-drop, length-set, get_or-set_same, get_or-set_other, get_or-replicate, get_or_past}
pub use Rattle.std.proofs.lemmas.List.FromFn.{length-map-range_with_len, get_or-map-range_with_len}
pub use Rattle.std.proofs.lemmas.Nat.{and_mask, mod_below, pow-add, from_be_bytes-to_be_bytes_4, from_be_bytes-to_be_bytes_8, or_shifted, pow_pos, one_shl, field_of, le-div, shl-shr, div-mul-add, mod-mul-add, div-add-mod', and_block, and_le_l, shr_split, and_le_r, shl_whole, shr-shr, shr_below, mod-pow-add, mod_low, from_be_bytes-to_be_bytes_2}
pub use Rattle.std.proofs.lemmas.Nat.Bits.{and_high, and_pow, bit_at-lt, ones_shr}
pub use Rattle.std.proofs.lemmas.Result.{err_from_is_err_and, IfOk-weaker, IfErr-weaker}
pub use Rattle.std.specs.Int.{w32, w64, from_be_bytes, to_be_bytes, bit_at, w16}
pub use Rattle.std.specs.Prelude.{bit_and, IsUtf8, bit_or, IsTrue}
pub use Rattle.image_access.proofs.Bytes.{length-bytes_at, put_mid-overwritten, byte_at-overwritten, byte_at-overwritten_outside, length-overwritten_within, byte_at-bytes_at, byte_at-overwritten_behind, byte_at_past, byte_at-overwritten_below, whole}
unfoldable pub use Rattle.image_access.specs.Contents.{bytes_at, overwritten}
pub use Rattle.image_access.specs.Moments.{ContentsBecome, StorageView, Changes}
pub use Rattle.image_access.specs.declared.error.StorageError.{StorageError}
unfoldable pub use Rattle.qcow2_metadata.specs.Bytes.{number_at}
pub use Rattle.qcow2_metadata.specs.Bytes.{Bytes, byte_at, bytes_from, has_bit, SameFrom, bits_of, one_if}
unfoldable pub use Rattle.qcow2_metadata.specs.Cover.{cover_of}
pub use Rattle.qcow2_metadata.specs.Cover.{has_host}
unfoldable pub use Rattle.qcow2_metadata.specs.Entries.{l1_entry, l2_entry, reftable_entry, block_count}
pub use Rattle.qcow2_metadata.specs.Entries.{L1EntryReads, ReftableEntryReads, host_offset, is_copied}
pub use Rattle.qcow2_metadata.specs.EntryTable.{EntryTableView, IsClear, IsL1TableOf, IsRefTableOf, NamesL1Table, NamesRefTable, PassesLimit, entry_count, IsL1TableBut, IsRefTableBut, EachReads, HasRoomIfPlaced, IsReasonNotToLoad, SomeUnread}
unfoldable pub use Rattle.qcow2_metadata.specs.Header.{header, backing_name}
pub use Rattle.qcow2_metadata.specs.Header.{HeaderFields, reftable_entries, IsExtension, AreExtensions, behind_extension, first_of_kind, backing_format_kind, data_file_kind, IsKept, IsShort, HeaderView, cluster_size, IsInRange, IsWithinLimits, BackingNameReads, IsWellFormed, with_size, with_l1_table, with_reftable, without_autoclear, ExtensionsRead, IsNameKind, rounded_up, HeaderReads, with_fields}
pub use Rattle.qcow2_metadata.specs.HeaderLoad.{AreNamed, IsHeaderOf, IsHeaderIn, first_so_far, IsReasonToRefuse, IsReasonNotToRead}
unfoldable pub use Rattle.qcow2_metadata.specs.HeaderWrite.{bytes_of_numbers, numbers_of, extension_bytes, header_bytes}
pub use Rattle.qcow2_metadata.specs.HeaderWrite.{extension_size, new_fields, CanBeNew, AllFit, name_extension, header_written, name_place, HasNewNames, IsText, size_written, l1_table_pointer_written, reftable_pointer_written, autoclear_cleared}
pub use Rattle.qcow2_metadata.specs.L2Table.{L2TableView, copied_entry, zero_entry, zero_cover, IsL2Table, IsL2TableAt, cover_at, IsEntryHost, copied_host}
pub use Rattle.qcow2_metadata.specs.RefBlock.{RefBlockView, count_in, counts_of, IsRefBlock, IsRefBlockAt, ChangesCount, count_limit}
pub use Rattle.qcow2_metadata.specs.TableBytes.{entry_at, ChangesEntry}
pub use Rattle.qcow2_metadata.specs.declared.error.MetadataError.{MetadataError}
pub use Rattle.qcow2_metadata.specs.declared.error.MetadataError.TheVariants.{Storage, Memory, Version, Unaligned, Limit, Format}
pub use Rattle.qcow2_metadata.specs.declared.header.write.Number.TheVariants.{Four, Eight}
pub use Rattle.qcow2_metadata.specs.declared.l2_mapping.L2Mapping.TheVariants.{Data, Zero, Compressed, Uncovered}
