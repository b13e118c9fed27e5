use Rattle.std.proofs.Common.{ap, subst, ◌∙◌}
use Rattle.lr_tables.specs.declared.step.Step.{Step}
use Rattle.lr_tables.specs.Machine as machine
use Rattle.lr_machine.specs.Shown.{shown}
use Rattle.lr_machine.specs.Turns.{Turns}
use Rattle.lr_machine.proofs.turns.go_on.Goals as goal

pub returns-in-Accept : goal.returns-in-Accept
returns-in-Accept g c =
    let t = shown c.args.tables.now in
    let is = c.in-Accept.ensures ∙ ap (λ s. machine.entry t s c.head.result) c.top.ensures ∙ ap (machine.entry t (machine.top c.args.reader.now.states)) c.head.ensures in
    subst (λ (e : Step). Turns c.accept.result c.args.rest.now c.args.reader.now c.accept.new.reader (λ next. machine.acted t next e c.args.reader.now.states c.args.rest.now)) is c.accept.ensures
