use Rattle.echoing_machine.proofs.Adding.{adds_alone}
use Rattle.echoing_machine.proofs.groups.add_alone.Goals as goal

pub returns : goal.returns
returns g c = adds_alone c.args.moves.now.items c.push.new.self.items _ c.in_ok-push.ensures.items
