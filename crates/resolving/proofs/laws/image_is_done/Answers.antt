use Rattle.resolving.proofs.StepLemmas.{image_done}
use Rattle.resolving.proofs.laws.image_is_done.Goals as goal

pub returns : goal.returns
returns c ps after count rule numbers k table image fit draft has in_none are at ready machine is_image adds =
    image_done c.args.s.now ps count rule numbers k draft has in_none are at ready after table image fit machine is_image adds
