use Rattle.program_parts.proofs.Placed.{made_image}
use Rattle.program_parts.proofs.placing.make.Goals as goal

pub returns-in-RawToImage-clause-sound : goal.returns-in-RawToImage-clause-sound
returns-in-RawToImage-clause-sound g c = λ honest.
    made_image c.args.how (g.S.Storage.view c.args.source) (g.F.Storage.view c.make_image-file.result.0) c.make_image-file.result.1 c.in-RawToImage.cluster c.in-RawToImage.width c.in-RawToImage.is (c.make_image-file.ensures.image honest)
