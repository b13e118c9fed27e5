use Rattle.several_files.proofs.Outputs.{refused_so, wanting_so}
use Rattle.several_files.proofs.telling.refuse.Goals as goal

pub returns-in-Told : goal.returns-in-Told
returns-in-Told g c out none =
    refused_so c.args.refusal.now c.in-Told.message out _ c.put.result c.as_slice.result.now c.in-Told.is c.as_slice.ensures none c.put.ensures

pub returns-in-Memory : goal.returns-in-Memory
returns-in-Memory g c out none = wanting_so c.args.refusal.now out _ c.put-in-Memory.result c.in-Memory.is none c.put-in-Memory.ensures
