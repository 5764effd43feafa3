use Rattle.qcow2_alloc.proofs.Common.{length-set_value}
use Rattle.qcow2_alloc.proofs.async_lru_cache.AsyncLruCache.peek_mut.Goals as goal

pub invariant_of-self-lent : goal.invariant_of-self-lent
invariant_of-self-lent g c = λ w. rw length-set_value c.self.invariant
