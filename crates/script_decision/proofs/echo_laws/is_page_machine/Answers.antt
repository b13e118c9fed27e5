use Rattle.dtd_model.specs.TableOf.{table_of}
use Rattle.script_decision.proofs.ReaderLemmas.{reads}
use Rattle.script_decision.proofs.echo_laws.is_page_machine.Goals as goal

pub echo_is_page_machine-requires : goal.echo_is_page_machine-requires
echo_is_page_machine-requires c =
    reads c.pages_are_read.ensures c.whole_forms_have_texts.ensures (table_of c.args.dtd.now) c.args.dtd.now.lawful c.args.ways.now c.requires

pub returns : goal.returns
returns c = c.echo_is_page_machine.ensures
