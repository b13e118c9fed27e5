use Rattle.std.proofs.Common.{sym, subst}
use Rattle.program_rules.specs.View.{program_of, lawful_program}
use Rattle.flow_code.specs.Points.{PlainFlow}
use Rattle.flow_code.specs.Lawful.{IsFlow}
use Rattle.flow_code.specs.Runs.{FlatRun}
use Rattle.program_lowering.proofs.ProgramLemmas.{program_is, few_of, run_of}
use Rattle.program_lowering.proofs.program.lower.Goals as goal

pub returns-then-not-literals_are_short-clause-long : goal.returns-then-not-literals_are_short-clause-long
returns-then-not-literals_are_short-clause-long c = λ h. c.literals_are_short.ensures.long c.if-not-literals_are_short.true

pub returns-in-Ok-clause-flat : goal.returns-in-Ok-clause-flat
returns-in-Ok-clause-flat c = program_is c.args.program.now.main.items c.args.program.now.functions.items c.as_slice-main.ensures.value c.as_slice-functions.ensures.value c.in-Ok.ensures

pub returns-in-Ok-clause-form : goal.returns-in-Ok-clause-form
returns-in-Ok-clause-form c = subst IsFlow (sym (program_is c.args.program.now.main.items c.args.program.now.functions.items c.as_slice-main.ensures.value c.as_slice-functions.ensures.value c.in-Ok.ensures))
    (c.lawful_points_are_of_their_form.ensures (program_of c.args.program.now) (lawful_program c.args.program.now) (c.literals_are_short.ensures.short c.if-not-literals_are_short.false))

pub returns-in-Ok-clause-few : goal.returns-in-Ok-clause-few
returns-in-Ok-clause-few c = few_of (program_is c.args.program.now.main.items c.args.program.now.functions.items c.as_slice-main.ensures.value c.as_slice-functions.ensures.value c.in-Ok.ensures)
    (c.lawful_points_are_few.ensures (program_of c.args.program.now) (lawful_program c.args.program.now))

pub returns-in-Ok-clause-runs : goal.returns-in-Ok-clause-runs
returns-in-Ok-clause-runs c = λ r n w ended. run_of (program_is c.args.program.now.main.items c.args.program.now.functions.items c.as_slice-main.ensures.value c.as_slice-functions.ensures.value c.in-Ok.ensures)
    (c.lawful_runs_are_runs_of_points.ensures (program_of c.args.program.now) r n w (lawful_program c.args.program.now) ended)

pub returns-in-Ok-clause-back : goal.returns-in-Ok-clause-back
returns-in-Ok-clause-back c = λ r w run. c.runs_of_points_are_lawful_runs.ensures (program_of c.args.program.now) r w (lawful_program c.args.program.now)
    (subst (λ (flow : PlainFlow). FlatRun flow r w) (program_is c.args.program.now.main.items c.args.program.now.functions.items c.as_slice-main.ensures.value c.as_slice-functions.ensures.value c.in-Ok.ensures) run)

pub returns-in-Ok-clause-texts : goal.returns-in-Ok-clause-texts
returns-in-Ok-clause-texts c = c.literals_are_short.ensures.short c.if-not-literals_are_short.false
