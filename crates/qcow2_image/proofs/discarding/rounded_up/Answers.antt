use Rattle.qcow2_image.proofs.Common.{sym}
use Rattle.qcow2_image.proofs.Clear.Touched.{none_rounded, on_boundary, some_rounded}
use Rattle.qcow2_image.proofs.discarding.rounded_up.Goals as goal

pub returns-then-behind-eq0-clause-some : goal.returns-then-behind-eq0-clause-some
returns-then-behind-eq0-clause-some c = sym (on_boundary c.args.size c.args.offset c.requires c.if-behind-eq0.true)

pub returns-clause-some : goal.returns-clause-some
returns-clause-some c = some_rounded c.args.size c.args.offset c.requires c.if-behind-eq0.false c.checked_add.result c.checked_add.ensures

pub returns-clause-none : goal.returns-clause-none
returns-clause-none c = none_rounded c.args.size c.args.offset c.requires c.if-behind-eq0.false c.checked_add.result c.checked_add.ensures
