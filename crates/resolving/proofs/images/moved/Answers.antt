use Rattle.resolving.proofs.ImageLemmas.{one_fits, first_fits, second_fits}
use Rattle.resolving.proofs.images.moved.Goals as goal

pub moved_symbol-requires : goal.moved_symbol-requires
moved_symbol-requires c = one_fits c.args.base c.args.production c.in-One.a c.requires c.in-One.is

pub moved_symbol-requires-in-Two : goal.moved_symbol-requires-in-Two
moved_symbol-requires-in-Two c = first_fits c.args.base c.args.production c.in-Two.a c.in-Two.b c.requires c.in-Two.is

pub moved_symbol-requires-in-Two-2 : goal.moved_symbol-requires-in-Two-2
moved_symbol-requires-in-Two-2 c = second_fits c.args.base c.args.production c.in-Two.a c.in-Two.b c.requires c.in-Two.is
