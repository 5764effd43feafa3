use Rattle.std.proofs.Common.{◌<◌, length, arith, rules}
use Rattle.std.proofs.lemmas.List.{length-reverse}
use Rattle.qcow2_alloc.specs.declared.clusters_to_free.Node.{Node, Node'}
use Rattle.qcow2_alloc.specs.ClusterChain.{chain_entries_of}
use Rattle.qcow2_alloc.proofs.clusters_to_free.ClustersToFreeList.is_empty.Goals as goal

some-entry : (n : Node) → 0 < length (chain_entries_of n)
some-entry (Node' entry next) = search rules

pub returns-in-Some : goal.returns-in-Some
returns-in-Some c =
    let e = length-reverse (chain_entries_of c.in-Some.field-0.value) in
    let p = some-entry c.in-Some.field-0.value in
    let v = c.self.view_is in
    rw (← v, c.in-Some.is) (grind (arith, e, p))
