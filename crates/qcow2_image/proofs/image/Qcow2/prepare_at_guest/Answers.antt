use Rattle.qcow2_image.proofs.Lemmas.{filling_pinned, filling_then}
use Rattle.qcow2_image.proofs.image.Qcow2.prepare_at_guest.Goals as goal

pub returns-clause-step : goal.returns-clause-step
returns-clause-step g c = filling_then c.fill_cluster.ensures.step (filling_pinned c.prepare_at.ensures.stays c.prepare_at.ensures.pins)
