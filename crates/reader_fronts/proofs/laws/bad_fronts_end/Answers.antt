use Rattle.dtd_model.specs.TableOf.{table_of}
use Rattle.page_reader.specs.States.{next_state, tokens_at, tokens_behind}
use Rattle.merged_reader.specs.States.{merged_next}
use Rattle.reader_fronts.proofs.BadReading.{ends_bad}
use Rattle.reader_fronts.proofs.laws.bad_fronts_end.Goals as goal

pub returns-clause-plain : goal.returns-clause-plain
returns-clause-plain c =
    let table = table_of c.args.dtd.now in
    ends_bad table (next_state table) (tokens_at table) (tokens_behind table) c.narrow_tokens_read.ensures c.args.dtd.now.lawful c.reads_pages.ensures

pub returns-clause-merged : goal.returns-clause-merged
returns-clause-merged c =
    let table = table_of c.args.dtd.now in
    ends_bad table (merged_next table) (tokens_at table) (tokens_behind table) c.narrow_tokens_read.ensures c.args.dtd.now.lawful c.reads_pages-2.ensures
