use Rattle.std.proofs.Common.{sym}
use Rattle.byte_stepping.proofs.Decoding.{none_decoded}
use Rattle.byte_stepping.proofs.bytes.decoded.Goals as goal

pub returns-in-Err : goal.returns-in-Err
returns-in-Err c = sym (none_decoded c.args.bytes.now c.in-Err.ensures.cases.0)
