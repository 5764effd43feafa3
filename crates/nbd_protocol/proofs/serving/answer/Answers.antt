use Rattle.nbd_protocol.proofs.Common.{refl, status_reply}
use Rattle.nbd_protocol.proofs.serving.answer.Goals as goal

pub returns : goal.returns
returns g c = λ has. (
  status_reply c.args.structured c.args.request.now.cookie c.perform-status.result,
  record { status = c.perform-status.result; told = refl; refused = c.perform-status.ensures.fails has; does = c.perform-status.ensures.does; persisted = c.perform-status.ensures.persisted },
  c.tell.ensures,
)
