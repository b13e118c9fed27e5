use Rattle.lr_machine.specs.declared.reading.TheConstants.{TURNS}
use Rattle.lr_machine.specs.Shown.{shown}
use Rattle.lr_machine.proofs.ReadingLemmas.{answered}
use Rattle.lr_machine.proofs.reading.parse.Goals as goal

pub returns : goal.returns
returns g c = answered (shown c.args.tables.now) c.args.kinds.now TURNS c.requires.checked (λ (v : _). v.items) c.read.result c.read.ensures
