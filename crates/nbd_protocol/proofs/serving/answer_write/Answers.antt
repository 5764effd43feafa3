use Rattle.nbd_protocol.proofs.Common.{◌∙◌, Err, inl, inr, refl, rules, status_reply}
use Rattle.nbd_protocol.specs.declared.device.Errno.TheVariants as E
use Rattle.nbd_protocol.proofs.Talks.{length_written}
use Rattle.nbd_protocol.proofs.serving.answer_write.Goals as goal

pub returns-in_err-taken : goal.returns-in_err-taken
returns-in_err-taken g c = λ w. inr (search rules, refl, refl)

pub returns-then-taken : goal.returns-then-taken
returns-then-taken g c = λ w. let r = c.args.request.now in let k = c.in_ok-taken.ensures.taken c.if-taken.true in let s = c.answer.ensures (λ p. k.0) in
    inl (c.read_payload.new.buffer.items, k.0 ∙ length_written r w, k.1, (s.0, inl s.1, s.2))

pub returns : goal.returns
returns g c = λ w. let r = c.args.request.now in let k = c.in_ok-taken.ensures.skipped in
    inl (k.0, k.1 ∙ length_written r w, k.2, (status_reply c.args.structured r.cookie (Err E.NoMemory), inr (record { told = refl; same = refl }), c.tell.ensures))
