use Rattle.dtd_model.specs.TableOf.{table_of}
use Rattle.reader_fronts.proofs.States.{plain_alike, merged_alike}
use Rattle.reader_fronts.proofs.laws.fronts_lead_alike.Goals as goal

pub returns-clause-plain : goal.returns-clause-plain
returns-clause-plain c = plain_alike (table_of c.args.dtd.now) c.equal_fronts.ensures c.args.dtd.now.lawful

pub returns-clause-merged : goal.returns-clause-merged
returns-clause-merged c = merged_alike (table_of c.args.dtd.now) c.equal_fronts.ensures c.args.dtd.now.lawful
