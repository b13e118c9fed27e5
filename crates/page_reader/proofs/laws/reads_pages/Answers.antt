use Rattle.dtd_model.specs.TableOf.{table_of}
use Rattle.page_reader.proofs.Mirroring.{is_reader}
use Rattle.page_reader.proofs.laws.reads_pages.Goals as goal

pub returns : goal.returns
returns c = is_reader c.narrow_tokens_read.ensures (table_of c.args.dtd.now) c.args.dtd.now.lawful
