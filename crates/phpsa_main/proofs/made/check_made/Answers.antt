use Rattle.std.proofs.Common.{rules}
use Rattle.phpsa_main.proofs.MadeParts.{refusal_made, summary_made}
use Rattle.phpsa_main.proofs.made.check_made.Goals as goal

pub returns-in-Err : goal.returns-in-Err
returns-in-Err c = λ files read calm.
    refusal_made files c.args.functions c.in-Ok.script c.in-Err.refusal read calm c.in-Ok.ensures.ok.0 c.in-Ok.ensures.ok.1 c.in-Err.ensures

pub returns-in-Ok-summary_message : goal.returns-in-Ok-summary_message
returns-in-Ok-summary_message c = λ files read calm.
    summary_made files c.args.functions c.in-Ok.script c.in-Ok-decided.answer c.in-Ok-summary_message.message read calm c.in-Ok.ensures.ok.0 c.in-Ok.ensures.ok.1 c.in-Ok-decided.ensures
    (search rules)
