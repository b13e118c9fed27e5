use Rattle.echoing_machine.proofs.EchoLemmas.{is_echo}
use Rattle.echoing_machine.proofs.machine.machine_echoes.Goals as goal

pub returns : goal.returns
returns g c = is_echo (g.R.ByteReader.next c.args.reader.now) (g.R.ByteReader.puts c.args.reader.now) (g.R.ByteReader.lasts c.args.reader.now) (g.R.ByteReader.first c.args.reader.now)
