-- A cached table of a sound file is readable: the host clusters that its entries name are aligned.
use Rattle.std.proofs.Common.{◌≡◌, ◌+◌, ◌*◌, ◌/◌, ◌%◌, ◌^◌, ◌<◌, ℕ, Some, sym, ap, ◌∙◌, subst}
use Rattle.qcow2_image.proofs.Common.{div-mul-add, mod-mul-add, mod_below, StorageView, CoverIsAligned, HeaderFields, L2Mapping, entries_per_cluster, HasAlignedHost, L2TableView, entries_of, Pending, Sizes-from, ImageFile, FileInvariant, contents_in, known_in, IsEntryAt, ShowsKnown, mapping_of}
use Rattle.qcow2_metadata.specs.declared.l2_mapping.L2Mapping.TheVariants as M
use Rattle.qcow2_metadata.specs.L2Table.{cover_at}
use Rattle.qcow2_image.proofs.Map.Looked.{cached_says}

aligned_host : (h : HeaderFields) (v : L2Mapping) → CoverIsAligned h v → HasAlignedHost h.cluster_bits v
aligned_host h (M.Data host copied) is = is
aligned_host h (M.Zero (Some k)) is = is
aligned_host h v is = tt

pub cached_aligned : {S : Type 0} (view : S → StorageView) (file : ImageFile S) (p : Pending) (t : L2TableView) (table i cluster : ℕ) → FileInvariant view p file → ShowsKnown file.caches table t
    → IsEntryAt file.header.fields (known_in view file) i table (cluster % entries_per_cluster file.header.fields) → cluster / entries_per_cluster file.header.fields ≡ i → HasAlignedHost t.cluster_bits (mapping_of t cluster)
cached_aligned view file p t table i cluster sound shows at here =
    let bits = (shows file.header.fields p (contents_in view file) i (cluster % entries_per_cluster file.header.fields) sound.caches at).format.bits in
    let aligned = aligned_host file.header.fields _ (sound.caches.kept.kept.crash_invariant.known_aligned cluster) in
    subst (λ n. HasAlignedHost n (mapping_of t cluster)) (sym bits) (subst (HasAlignedHost file.header.fields.cluster_bits) (sym (cached_says view file p t table i cluster sound shows at here)) aligned)

-- all entries of a held table of a sound file
pub entries_aligned : {S : Type 0} (view : S → StorageView) (file : ImageFile S) (p : Pending) (t : L2TableView) (table i index : ℕ) → FileInvariant view p file → ShowsKnown file.caches table t → IsEntryAt file.header.fields (known_in view file) i table index
    → (g : ℕ) → HasAlignedHost t.cluster_bits (mapping_of t g)
entries_aligned view file p t table i index sound shows at g =
    let h = file.header.fields in
    let n = entries_per_cluster h in
    let bits = (shows h p (contents_in view file) i index sound.caches at).format.bits in
    let lt = mod_below g n ((Sizes-from h (contents_in view file) sound.caches.kept.kept.crash_invariant.top.header_reads).entries) in
    let row : (i * n + g % n) % n ≡ g % n = mod-mul-add i n (g % n) lt in
    let same : (i * n + g % n) % entries_of t ≡ g % entries_of t = ap (λ b. (i * n + g % n) % (2 ^ b / 8)) bits ∙ row ∙ sym (ap (λ b. g % (2 ^ b / 8)) bits) in
    subst (HasAlignedHost t.cluster_bits) (ap (cover_at t) same)
    (cached_aligned view file p t table i (i * n + g % n) sound shows (record { real = at.real; place = at.place; within = subst (λ x. x < n) (sym row) lt }) (div-mul-add i n (g % n) lt))
