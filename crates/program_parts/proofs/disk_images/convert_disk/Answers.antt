use Rattle.program_parts.proofs.DiskImages.{disk_maybe, disk_named, disk_still}
use Rattle.program_parts.proofs.disk_images.convert_disk.Goals as goal

pub returns-in-Ok-finish-clause-sound : goal.returns-in-Ok-finish-clause-sound
returns-in-Ok-finish-clause-sound g c = λ file_honest place_honest.
    let file = g.F.Storage.view in
    let named = g.P.Place.named in
    let seen = g.D.DiskReader.seen c.args.disk in
    let made = disk_still seen c.args.layout c.in-Ok.size (file c.make_disk_image-file.result.0) (file c.verify_image-file.result.0) c.make_disk_image-file.result.1 c.in-Ok.is (c.make_disk_image-file.ensures.image file_honest) c.verify_image-file.ensures.1 in
    disk_named seen c.args.layout (named c.args.place.now) (named c.finish.new.self) c.in-Ok.size (file c.verify_image-file.result.0).contents made.whole (c.in-Ok-finish.ensures place_honest made.honest)

pub returns-in-Err-finish-clause-sound : goal.returns-in-Err-finish-clause-sound
returns-in-Err-finish-clause-sound g c = λ file_honest place_honest.
    let file = g.F.Storage.view in
    let named = g.P.Place.named in
    let seen = g.D.DiskReader.seen c.args.disk in
    let made = disk_still seen c.args.layout c.in-Ok.size (file c.make_disk_image-file.result.0) (file c.verify_image-file.result.0) c.make_disk_image-file.result.1 c.in-Ok.is (c.make_disk_image-file.ensures.image file_honest) c.verify_image-file.ensures.1 in
    disk_maybe seen c.args.layout (named c.args.place.now) (named c.finish.new.self) c.in-Ok.size (file c.verify_image-file.result.0).contents made.whole _ (c.in-Err-finish.ensures place_honest made.honest)
