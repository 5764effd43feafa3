use Rattle.nbd_protocol.proofs.Common.{[], List, ℕ, Ok, Err, refl, subst, OnOk, Appends, read_reply}
use Rattle.nbd_protocol.proofs.serving.answer_read.Goals as goal

pub returns-in-Ok : goal.returns-in-Ok
returns-in-Ok g c = let bytes = c.read_disk.new.buffer.items in let r = c.args.request.now in (
  read_reply c.args.structured r.cookie r.offset bytes (Ok tt),
  record { status = Ok tt; bytes = bytes; told = refl; count = c.in-Ok.ensures.count; refused = c.in-Ok.ensures.fails; reads = c.in-Ok.ensures.shows },
  subst (λ (l : List ℕ). OnOk c.send_bytes.result (Appends (g.W.Write.contents c.args.writer.now) (g.W.Write.contents c.send_bytes.new.writer) (read_reply c.args.structured r.cookie r.offset l (Ok tt)))) c.deref.ensures.value c.send_bytes.ensures,
)

pub returns-in-Err : goal.returns-in-Err
returns-in-Err g c = let r = c.args.request.now in (
  read_reply c.args.structured r.cookie r.offset [] (Err c.in-Err.error),
  record { status = Err c.in-Err.error; bytes = []; told = refl; count = tt; refused = c.in-Err.ensures.fails; reads = c.in-Err.ensures.shows },
  c.tell.ensures,
)
