use Rattle.std.proofs.Common.{◌≡◌, ◌∙◌, [], inl, sym, subst, true}
use Rattle.nbd_protocol.proofs.Common.{Consumes-nil, Way, Deals, way_of}
use Rattle.nbd_protocol.specs.declared.way.Way.TheVariants as W
use Rattle.nbd_protocol.proofs.Talks.{is_write, lookup_as, not_write, nothing_sent, status_any}
use Rattle.nbd_protocol.proofs.serving.deal.Goals as goal

pub returns-in-Bytes : goal.returns-in-Bytes
returns-in-Bytes g c = let r = c.args.request.now in
    let by : way_of c.args.agreed.allocation r.command ≡ W.Bytes = sym c.way_of.ensures ∙ c.in-Bytes.is in
    subst (λ (b : Way). Deals g.D.Device.view g.D.Device.Flushed g.D.Device.Synced c.args.agreed.structured g.R.Read.remaining g.W.Write.contents b r c.args.reader.now c.args.reader.now c.args.writer.now c.answer_read.new.writer c.args.device.now c.answer_read.new.device c.answer_read.result) (sym by)
    (inl ([], sym (nothing_sent c.args.agreed.allocation r.command r.length (λ p. let e : W.Bytes ≡ W.Payload = sym by ∙ p in absurd cc)), Consumes-nil _, c.answer_read.ensures))

pub returns-in-Runs : goal.returns-in-Runs
returns-in-Runs g c = let r = c.args.request.now in
    let s = c.answer_lookup.ensures in
    let by : way_of c.args.agreed.allocation r.command ≡ W.Runs = sym c.way_of.ensures ∙ c.in-Runs.is in
    subst (λ (b : Way). Deals g.D.Device.view g.D.Device.Flushed g.D.Device.Synced c.args.agreed.structured g.R.Read.remaining g.W.Write.contents b r c.args.reader.now c.args.reader.now c.args.writer.now c.answer_lookup.new.writer c.args.device.now c.answer_lookup.new.device c.answer_lookup.result) (sym by)
    (inl ([], sym (nothing_sent c.args.agreed.allocation r.command r.length (λ p. let e : W.Runs ≡ W.Payload = sym by ∙ p in absurd cc)), Consumes-nil _, (s.0, lookup_as g.D.Device.view g.D.Device.Flushed g.D.Device.Synced true c.args.agreed.structured r [] s.0 c.args.device.now c.answer_lookup.new.device s.1, s.2)))

pub returns-in-Payload : goal.returns-in-Payload
returns-in-Payload g c = let r = c.args.request.now in
    let by : way_of c.args.agreed.allocation r.command ≡ W.Payload = sym c.way_of.ensures ∙ c.in-Payload.is in
    subst (λ (b : Way). Deals g.D.Device.view g.D.Device.Flushed g.D.Device.Synced c.args.agreed.structured g.R.Read.remaining g.W.Write.contents b r c.args.reader.now c.answer_write.new.reader c.args.writer.now c.answer_write.new.writer c.args.device.now c.answer_write.new.device c.answer_write.result) (sym by)
    (c.answer_write.ensures (is_write c.args.agreed.allocation r.command by))

pub returns-in-Status : goal.returns-in-Status
returns-in-Status g c = let r = c.args.request.now in
    let by : way_of c.args.agreed.allocation r.command ≡ W.Status = sym c.way_of.ensures ∙ c.in-Status.is in
    let other = λ (p : W.Status ≡ W.Payload). let e : ⊥ = cc in e in
    let never = not_write c.args.agreed.allocation r.command W.Status by other in
    let s = c.answer.ensures (λ w. absurd (never w)) in
    subst (λ (b : Way). Deals g.D.Device.view g.D.Device.Flushed g.D.Device.Synced c.args.agreed.structured g.R.Read.remaining g.W.Write.contents b r c.args.reader.now c.args.reader.now c.args.writer.now c.answer.new.writer c.args.device.now c.answer.new.device c.answer.result) (sym by)
    (inl (
      [],
      sym (nothing_sent c.args.agreed.allocation r.command r.length (λ p. let e : W.Status ≡ W.Payload = sym by ∙ p in absurd cc)),
      Consumes-nil _,
      (s.0, status_any g.D.Device.view g.D.Device.Flushed g.D.Device.Synced c.args.agreed.structured r c.args.room.now.payload.items [] s.0 c.args.device.now c.answer.new.device never s.1, s.2),
    ))
