use Rattle.qimg_nbd.proofs.Common.{[]}
use Rattle.qimg_nbd.proofs.image_device.ImageDeviceDevice.size.Goals as goal
use Rattle.qcow2_image.specs.ImageInvariant.{in_image}

pub returns : goal.returns
returns g c = c.size.ensures.sees (in_image [])
