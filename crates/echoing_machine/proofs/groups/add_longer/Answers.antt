use Rattle.std.proofs.Common.{refl}
use Rattle.echoing_machine.proofs.Adding.{adds_longer}
use Rattle.echoing_machine.proofs.groups.add_longer.Goals as goal

pub returns : goal.returns
returns g c = adds_longer c.args.moves.now.items c.push.new.self.items c.args.last _ c.args.run c.requires refl refl refl refl c.in_ok-push.ensures.items
