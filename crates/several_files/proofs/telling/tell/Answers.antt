use Rattle.std.proofs.Common.{refl, sym, subst}
use Rattle.std.specs.Prelude.{Result}
use Rattle.phpsa_texts.specs.declared.message.Message.{Message}
use Rattle.phpsa_texts.specs.declared.message.Refusal.{Refusal}
use Rattle.phpsa_tasks.specs.Call.{output_of}
use Rattle.several_files.specs.Telling.{Tells, replied_by, refused_by}
use Rattle.several_files.proofs.telling.tell.Goals as goal

pub returns-in-Ok : goal.returns-in-Ok
returns-in-Ok g c =
    subst (λ (r : Result Message Refusal). Tells (replied_by r) (refused_by r)
    (output_of (g.O.Sink.written c.args.out.now) (g.O.Sink.written c.reply.new.out) (g.O.Sink.faults c.args.out.now) (g.O.Sink.faults c.reply.new.out))
    (output_of (g.E.Sink.written c.args.err.now) (g.E.Sink.written c.reply.new.err) (g.E.Sink.faults c.args.err.now) (g.E.Sink.faults c.reply.new.err)) c.reply.result)
    (sym c.in-Ok.is) c.reply.ensures

pub returns-in-Err : goal.returns-in-Err
returns-in-Err g c =
    subst (λ (r : Result Message Refusal). Tells (replied_by r) (refused_by r)
    (output_of (g.O.Sink.written c.args.out.now) (g.O.Sink.written c.args.out.now) (g.O.Sink.faults c.args.out.now) (g.O.Sink.faults c.args.out.now))
    (output_of (g.E.Sink.written c.args.err.now) (g.E.Sink.written c.refuse.new.err) (g.E.Sink.faults c.args.err.now) (g.E.Sink.faults c.refuse.new.err)) c.refuse.result)
    (sym c.in-Err.is) (c.refuse.ensures _ refl)
