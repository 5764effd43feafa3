-- The host clusters that an entry refers to, as a run.
use Rattle.std.proofs.Common.{◌≡◌, ◌+◌, ◌-◌, ◌*◌, ◌/◌, ◌^◌, ◌≤◌, ◌&&◌, ℕ, eqb, leb, ltb, Option, Some, refl, sym, ap, ◌∙◌, arith}
use Rattle.qcow2_metadata.proofs.Common.{div-mul-le_self, pow_pos, le-div, one_if, HeaderFields, Data, Zero, Compressed}
use Rattle.qcow2_metadata.specs.Named.{named_by_cover}
use Rattle.qcow2_metadata.specs.L2Mapping.{IsInReach, run_of_bytes, named_run, run_has}
use Rattle.qcow2_metadata.specs.declared.l2_mapping.L2Mapping.{L2Mapping}

-- one cluster is a run of one
one_is : (first cluster : ℕ) → one_if (eqb first cluster) ≡ run_has (Some (first, 1)) cluster
one_is first cluster = grind arith

-- `cluster ≤ last` is `cluster < first + (last - first + 1)`
same_end : (first last cluster : ℕ) → first ≤ last → leb cluster last ≡ ltb cluster (first + (last - first + 1))
same_end first last cluster le = grind arith

bytes_are : (bits first last cluster : ℕ) → first ≤ last → one_if (leb (first / 2 ^ bits) cluster && leb cluster (last / 2 ^ bits)) ≡ run_has (run_of_bytes bits first last) cluster
bytes_are bits first last cluster le =
    ap (λ b. one_if (leb (first / 2 ^ bits) cluster && b)) (same_end (first / 2 ^ bits) (last / 2 ^ bits) cluster (le-div (first / 2 ^ bits) last (2 ^ bits) (pow_pos bits) (omega (arith, div-mul-le_self first (2 ^ bits)))))

-- the clusters that the format says that an entry names are those of the run
pub named_by_cover-run : (cover : L2Mapping) (h : HeaderFields) (cluster : ℕ) → IsInReach cover → named_by_cover h cluster cover ≡ run_has (named_run h.cluster_bits cover) cluster
named_by_cover-run (Data host copied) h cluster reach = one_is (host / 2 ^ h.cluster_bits) cluster
named_by_cover-run (Zero (Some k)) h cluster reach = one_is (k.0 / 2 ^ h.cluster_bits) cluster
named_by_cover-run (Compressed place sectors) h cluster reach = bytes_are h.cluster_bits place ((place / 512 + sectors) * 512 - 1) cluster (omega (arith, reach.1))
named_by_cover-run _ h cluster reach = refl

pub named_by_value : (cover : L2Mapping) (run : Option (ℕ × ℕ)) (bits : ℕ) → IsInReach cover → run ≡ named_run bits cover
    → (h : HeaderFields) (cluster : ℕ) → h.cluster_bits ≡ bits → named_by_cover h cluster cover ≡ run_has run cluster
named_by_value cover run bits reach is h cluster same =
    named_by_cover-run cover h cluster reach ∙ ap (λ b. run_has (named_run b cover) cluster) same ∙ ap (λ r. run_has r cluster) (sym is)
