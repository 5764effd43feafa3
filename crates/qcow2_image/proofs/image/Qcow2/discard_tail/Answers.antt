use Rattle.std.proofs.Common.{◌∙◌, sym}
use Rattle.qcow2_image.proofs.Call.DataFiles.{none_by_guest}
use Rattle.qcow2_image.proofs.image.Qcow2.discard_tail.Goals as goal
use Rattle.qcow2_image.proofs.Images.Places.{alone_of}

pub returns-then-is_placed_by_guest-clause-sound : goal.returns-then-is_placed_by_guest-clause-sound
returns-then-is_placed_by_guest-clause-sound g c = λ out sound. absurd (none_by_guest c.args.self.now (alone_of sound) (sym c.is_placed_by_guest.ensures ∙ c.if-is_placed_by_guest.true))
