use Rattle.cpl_serial.proofs.ImageFacts.{image-equal}
use Rattle.cpl_serial.proofs.imaging.take_image.Goals as goal

pub returns-in-None-clause-image : goal.returns-in-None-clause-image
returns-in-None-clause-image c =
    image-equal c.args.weights.now c.args.source.now c.copy_from_slice.new.self _ c.in-None.is (c.requires.equal c.in-None.is) c.copy_from_slice.ensures.after
