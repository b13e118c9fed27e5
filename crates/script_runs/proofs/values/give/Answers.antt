use Rattle.std.proofs.Common.{◌++◌, ap, ◌∙◌, refl}
use Rattle.script_runs.proofs.GiveLemmas.{waits_as, give_echo, give_run, give_arm, give_arms, give_turn, give_test, give_before, give_each, give_return, give_quit}
use Rattle.script_runs.proofs.values.give.Goals as goal

pub returns-in-Echo : goal.returns-in-Echo
returns-in-Echo c = waits_as _ _ _ _ _ _ c.in-Echo.is (give_echo _ _ _ _ _ _ c.echo_next.ensures c.in_ok-text-in-Echo.ensures (c.in_ok-append-in-Echo.ensures.ok ∙ ap (λ t. c.args.printed.now ++ t) c.as_slice.ensures.bytes))

pub returns-in-Run : goal.returns-in-Run
returns-in-Run c = waits_as _ _ _ _ _ _ c.in-Run.is (give_run _ _)

pub returns-then-truth : goal.returns-then-truth
returns-then-truth c = waits_as _ _ _ _ _ _ c.in-Arm.is (give_arm _ _ _ _ _ _ (cc) c.deref.ensures.value)

pub returns-in-Arm : goal.returns-in-Arm
returns-in-Arm c = waits_as _ _ _ _ _ _ c.in-Arm.is (give_arms _ _ _ _ _ _ (cc) c.arms_next.ensures)

pub returns-then-truth-2 : goal.returns-then-truth-2
returns-then-truth-2 c = waits_as _ _ _ _ _ _ c.in-Test.is (give_turn _ _ _ (cc))

pub returns-in-Test : goal.returns-in-Test
returns-in-Test c = waits_as _ _ _ _ _ _ c.in-Test.is (give_test _ _ _ (cc))

pub returns-in-Before : goal.returns-in-Before
returns-in-Before c = waits_as _ _ _ _ _ _ c.in-Before.is (give_before _ _ _ _ _ c.before_loop.ensures)

pub returns-in-Each : goal.returns-in-Each
returns-in-Each c = waits_as _ _ _ _ _ _ c.in-Each.is (give_each _ _ _ _ _ _ c.in_ok-next-in-Each.ensures)

pub returns-in-Return : goal.returns-in-Return
returns-in-Return c = waits_as _ _ _ _ _ _ c.in-Return.is (give_return _ _ _ refl)

pub returns : goal.returns
returns c = waits_as _ _ _ _ _ _ c.in-Quit.is (give_quit _ _ _ _ c.in_ok-end-in-Quit.ensures)
