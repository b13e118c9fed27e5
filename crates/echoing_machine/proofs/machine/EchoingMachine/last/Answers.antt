use Rattle.echoing_machine.proofs.Adding.{last_exact, last_fixed}
use Rattle.echoing_machine.proofs.machine.EchoingMachine.last.Goals as goal

pub returns-clause-exact : goal.returns-clause-exact
returns-clause-exact g c =
    last_exact c.new-lasts.result.items c.push.new.self.items c.in_ok-out.out (g.R.ByteReader.lasts c.args.self.now.reader c.args.state.now) c.new-lasts.ensures.items c.in_ok-push.ensures.items c.in_ok-out.ensures

pub returns-clause-fixed : goal.returns-clause-fixed
returns-clause-fixed g c =
    last_fixed c.new-lasts.result.items c.push.new.self.items c.in_ok-out.out (g.R.ByteReader.lasts c.args.self.now.reader c.args.state.now) c.new-lasts.ensures.items c.in_ok-push.ensures.items c.in_ok-out.ensures
