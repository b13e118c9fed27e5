use Rattle.std.proofs.Common.{map}
use Rattle.dtd_entities.specs.Positions.{written_of}
use Rattle.dtd_tables.proofs.parts.first_refused.Goals as goal

pub returns-in-Err : goal.returns-in-Err
returns-in-Err c = c.not_judged.ensures (map written_of c.args.written.now) c.in-Err.ensures.refused
