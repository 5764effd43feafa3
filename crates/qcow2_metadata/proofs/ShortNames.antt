-- Names in cluster 0 are short.
use Rattle.std.proofs.Common.{◌≡◌, ◌^◌, ◌≤◌, ◌==◌, ◌∷◌, if◌then◌else◌, ℕ, Bool, true, false, List, [], length, Option, Some, arith}
use Rattle.qcow2_metadata.proofs.Common.{length-map-range_with_len, pow_mono, Bytes, HeaderFields, IsInRange, IsWithinLimits, IsShort, IsKept, AreExtensions, BackingNameReads, backing_name, behind_extension, first_of_kind, cluster_size, AreNamed}

one_short : (is_kind : Bool) (name : List ℕ) (others : Option (List ℕ)) → length name ≤ 2097152 → IsShort others → IsShort (if is_kind then Some name else others)
one_short true name others short rest = short
one_short false name others short rest = rest

first_short : (b : Bytes) (limit kind : ℕ) → limit ≤ 2097152 → (list : List (ℕ × List ℕ)) (place : ℕ) → AreExtensions b limit place list → IsShort (first_of_kind kind list)
first_short b limit kind small [] place stand = tt
first_short b limit kind small (e ∷ rest) place stand =
    one_short (e.0 == kind) e.1 (first_of_kind kind rest) (omega (arith, stand.0.inside)) (first_short b limit kind small rest (behind_extension place (length e.1)) stand.2)

backing_short : (h : HeaderFields) (b : Bytes) → cluster_size h ≤ 2097152 → BackingNameReads h b → IsShort (backing_name h b)
unfolding backing_name
backing_short h b small reads = grind (arith, length-map-range_with_len)

pub cluster_small : (h : HeaderFields) → IsInRange h → cluster_size h ≤ 2097152
cluster_small h in_range = let high : 2 ^ h.cluster_bits ≤ 2 ^ 21 = pow_mono in_range.cluster_bits.1 in omega arith

-- what was read is kept
pub kept : (h : HeaderFields) (b : Bytes) (backing format data_file : Option (List ℕ)) → IsInRange h → IsWithinLimits h
    → BackingNameReads h b → backing ≡ backing_name h b → AreNamed b (cluster_size h) h.header_length format data_file
    → IsKept h backing format data_file
kept h b backing format data_file in_range limits reads is named = grind (arith, cluster_small, backing_short, first_short)
