use Rattle.image_access.proofs.Replays.{calls_once}
use Rattle.image_access.proofs.trace.TraceStorageStorage.resize.Goals as goal

pub returns-clause-calls : goal.returns-clause-calls
returns-clause-calls c = rw (← c.self.view_is) (calls_once _ c.begin.new.self _ _ c.in_ok-begin.ensures.2 c.in_ok-keep.ensures.ok)
