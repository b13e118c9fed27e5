use Rattle.dtd_model.specs.TableOf.{table_of}
use Rattle.program_rules.specs.View.{program_of}
use Rattle.phpsa_main.proofs.ScriptParts.{refused_shortest}
use Rattle.phpsa_main.proofs.shortest.shortest_reply.Goals as goal

pub returns-in-Err : goal.returns-in-Err
returns-in-Err c =
    refused_shortest (table_of c.args.dtd.now) (program_of c.args.program.now) c.args.name.now c.args.goal c.args.limit c.args.form c.in-Err.refusal c.in-Err.ensures

pub returns-in-Ok-shortest_message : goal.returns-in-Ok-shortest_message
returns-in-Ok-shortest_message c = (c.in-Ok.answer, c.in-Ok.ensures, c.in-Ok-shortest_message.ensures)
