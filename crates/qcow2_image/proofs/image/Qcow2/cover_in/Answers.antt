use Rattle.std.proofs.Common.{◌≡◌, ℕ, Bool, sym, ◌∙◌, subst, false, true, IsTrue}
use Rattle.qcow2_image.proofs.Common.{cover, cluster_size, L2Mapping, known_in, MarkedIsBehind, IsCompressed}
use Rattle.qcow2_image.proofs.Prepare.MarkedPlaces.{marked_behind}
use Rattle.qcow2_image.proofs.Map.Looked.{cached_says}
use Rattle.qcow2_image.proofs.Map.Aligned.{cached_aligned}
use Rattle.qcow2_image.proofs.image.Qcow2.cover_in.Goals as goal

pub returns-clause-says : goal.returns-clause-says
returns-clause-says g c = λ p i sound at here.
    sym (cached_says g.S.Storage.view c.args.self.now.file p c.in-Some.held.now c.args.table i c.args.cluster sound c.in-Some.ensures.shows at here) ∙ sym c.in_ok-mapping.ensures.ok

-- a mapping that is known to lie past the header's cluster is found to
found_behind : (n size : ℕ) (found known : L2Mapping) (b : Bool) → n ≡ size → known ≡ found → (MarkedIsBehind n found → IsTrue b) → MarkedIsBehind size known → b ≡ false → ⊥
found_behind n size found known b same is reports behind missed =
    let yes : b ≡ true = reports (subst (MarkedIsBehind n) is (subst (λ m. MarkedIsBehind m known) (sym same) behind)) in
    let never : true ≡ false = sym yes ∙ missed in
    cc

pub returns-then-not-is_behind_header-clause-reads : goal.returns-then-not-is_behind_header-clause-reads
returns-then-not-is_behind_header-clause-reads g c = λ p i sound inside at here some.
    let view = g.S.Storage.view in
    let file = c.args.self.now.file in
    let is = cached_says view file p c.in-Some.held.now c.args.table i c.args.cluster sound c.in-Some.ensures.shows at here in
    absurd (found_behind c.cluster_size.result (cluster_size file.header.fields) c.in_ok-mapping.mapping (cover file.header.fields (known_in view file) c.args.cluster) c.is_behind_header.result c.cluster_size.ensures.value
    (sym is ∙ sym c.in_ok-mapping.ensures.ok) c.is_behind_header.ensures.1 (marked_behind view p file sound inside c.args.cluster) c.if-not-is_behind_header.true)

pub returns-in_err-mapping-clause-reads : goal.returns-in_err-mapping-clause-reads
returns-in_err-mapping-clause-reads g c = λ p i sound inside at here some.
    absurd (c.in_err-mapping.ensures.err.1 (cached_aligned g.S.Storage.view c.args.self.now.file p c.in-Some.held.now c.args.table i c.args.cluster sound c.in-Some.ensures.shows at here))

pub returns-clause-held : goal.returns-clause-held
returns-clause-held g c = λ compressed.
    record { cluster = c.args.table; table = c.in-Some.held.now; is = sym c.in-Some.ensures.value; guest = c.args.cluster; compressed = subst IsCompressed c.in_ok-mapping.ensures.ok compressed }
