use Rattle.nbd_protocol.proofs.Common.{inl, refl}
use Rattle.nbd_protocol.proofs.Talks.{dealt, talked_start, undealt}
use Rattle.nbd_protocol.proofs.serving.answer_all.Goals as goal

pub loop-init : goal.loop-init
loop-init g c = talked_start g.D.Device.view g.D.Device.Flushed g.D.Device.Synced c.args.agreed.structured g.R.Read.remaining g.W.Write.contents c.args.agreed.allocation _ _ _

pub loop-preserved : goal.loop-preserved
loop-preserved g c =
    dealt g.D.Device.view g.D.Device.Flushed g.D.Device.Synced c.args.agreed.structured g.R.Read.remaining g.W.Write.contents c.args.agreed.allocation
    c.args.reader.now c.loop.reader c.next_request.new.reader c.deal.new.reader c.args.writer.now c.loop.writer c.deal.new.writer c.args.device.now c.loop.device c.deal.new.device
    c.in_ok-request.request c.loop.invariant c.in_ok-request.ensures (Unit {0}) c.in_ok-deal.ensures

pub returns-in_err-request : goal.returns-in_err-request
returns-in_err-request g c = record { reader_at = c.loop.reader; writer_at = c.loop.writer; at = c.loop.device; talked = c.loop.invariant; last = inl (refl, refl) }

pub returns-in_err-deal : goal.returns-in_err-deal
returns-in_err-deal g c =
    undealt g.D.Device.view g.D.Device.Flushed g.D.Device.Synced c.args.agreed.structured g.R.Read.remaining g.W.Write.contents c.args.agreed.allocation
    c.args.reader.now c.loop.reader c.next_request.new.reader c.deal.new.reader c.args.writer.now c.loop.writer c.deal.new.writer c.args.device.now c.loop.device c.deal.new.device
    c.in_ok-request.request c.loop.invariant c.in_ok-request.ensures _ c.in_err-deal.field-0.0 c.in_err-deal.ensures

pub returns-in-Disconnect : goal.returns-in-Disconnect
returns-in-Disconnect g c = record { reader_at = c.loop.reader; writer_at = c.loop.writer; at = c.loop.device; talked = c.loop.invariant; last = inl (refl, refl) }

pub returns : goal.returns
returns g c = record { reader_at = c.loop.reader; writer_at = c.loop.writer; at = c.loop.device; talked = c.loop.invariant; last = inl (refl, refl) }
