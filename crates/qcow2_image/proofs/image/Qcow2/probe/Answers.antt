use Rattle.qcow2_image.proofs.Common.{◌∙◌, sym}
use Rattle.qcow2_image.proofs.Open.Probing.{magic_at, version_at, begins_as, either_version, other_version, no_magic}
use Rattle.qcow2_image.proofs.image.Qcow2.probe.Goals.{then-magic-eq-MAGIC+then-version-eq2, then-magic-eq-MAGIC+else-version-eq2, else-magic-eq-MAGIC}
use Rattle.qcow2_image.proofs.image.Qcow2.probe.Goals as goal

pub returns-clause-answer : goal.returns-clause-answer
returns-clause-answer g c = λ honest.
    let contents = (g.S.Storage.view c.args.storage.now).contents in
    let read = c.in_ok-read.ensures.read honest in
    let is = begins_as contents c.read.new.buf read c.from_be_bytes-magic.result c.from_be_bytes-version.result
    (c.from_be_bytes-magic.ensures ∙ magic_at contents c.read.new.buf read) (c.from_be_bytes-version.ensures ∙ version_at contents c.read.new.buf read) in
    elim c.if-magic-eq-MAGIC.branch [
      | then-magic-eq-MAGIC+then-version-eq2 w ↦ either_version _ _ _ _ w.if-magic-eq-MAGIC.true w.if-version-eq2.true w.result-is ∙ sym is
      | then-magic-eq-MAGIC+else-version-eq2 w ↦ other_version _ _ _ _ w.if-magic-eq-MAGIC.true w.if-version-eq2.false w.result-is ∙ sym is
      | else-magic-eq-MAGIC w ↦ no_magic _ _ _ _ w.if-magic-eq-MAGIC.false w.result-is ∙ sym is
    ]
