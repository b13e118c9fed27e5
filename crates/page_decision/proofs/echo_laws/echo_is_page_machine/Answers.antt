use Rattle.dtd_model.specs.TableOf.{table_of}
use Rattle.page_decision.proofs.ReaderEchoLemmas.{page_machine}
use Rattle.page_decision.proofs.echo_laws.echo_is_page_machine.Goals as goal

pub returns : goal.returns
returns g c =
    let r = c.args.reader.now in
    page_machine (table_of c.args.dtd.now) (g.R.ByteReader.next r) (g.R.ByteReader.puts r) (g.R.ByteReader.lasts r) (g.R.ByteReader.first r) c.machine_echoes.ensures c.requires
