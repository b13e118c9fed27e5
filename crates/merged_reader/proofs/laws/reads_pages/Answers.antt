use Rattle.dtd_model.specs.TableOf.{table_of}
use Rattle.merged_reader.proofs.Tokens.{is_merged_reader}
use Rattle.merged_reader.proofs.laws.reads_pages.Goals as goal

pub returns : goal.returns
returns c = is_merged_reader (table_of c.args.dtd.now) c.reads_pages.ensures
