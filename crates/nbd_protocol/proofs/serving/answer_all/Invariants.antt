use Rattle.nbd_protocol.proofs.Common.{Talked}
use Rattle.nbd_protocol.proofs.serving.answer_all.Given as goal

abbrev pub invariant-loop : goal.invariant-loop
invariant-loop g l = Talked g.D.Device.view g.D.Device.Flushed g.D.Device.Synced l.agreed.structured g.R.Read.remaining g.W.Write.contents l.agreed.allocation l.fn.reader l.reader l.fn.writer l.writer l.fn.device l.device
