use Rattle.qcow2_metadata.proofs.Common.{◌∙◌, refl, arith}
use Rattle.qcow2_metadata.proofs.Extensions.{stand_no_room, stand_past, found}
use Rattle.qcow2_metadata.proofs.header.extensions.extension_at.Goals as goal

pub returns-then-place-cluster-clause-err : goal.returns-then-place-cluster-clause-err
returns-then-place-cluster-clause-err c = (refl, stand_no_room _ _ _ c.if-place-cluster.true)

pub returns-then-end-cluster-clause-err : goal.returns-then-end-cluster-clause-err
returns-then-end-cluster-clause-err c =
    (refl, stand_past _ _ _ (λ none. c.if-kind-eq0.false (c.read_u32-kind.ensures ∙ none)) (omega arith))

pub returns-clause-one : goal.returns-clause-one
returns-clause-one c =
    found _ _ _ c.read_u32.result _ c.if-kind-eq0.false c.read_u32-kind.ensures c.read_u32.ensures (omega arith) c.if-end-cluster.false
