use Rattle.std.proofs.Common.{arith, ◌≡◌, ◌-◌, ◌∙◌, suc, ap}
use Rattle.php_syntax.specs.Trees.{params_of_list}
use Rattle.php_values.specs.View.{plain_list}
use Rattle.script_meaning.specs.Programs.{arguments_of}
use Rattle.script_runs.proofs.PayLemmas.{pays_deep, opens_call}
use Rattle.script_runs.proofs.paying.call.Goals as goal

pub returns-then-room-eq0 : goal.returns-then-room-eq0
returns-then-room-eq0 c = λ r fs. pays_deep r fs c.args.pending.now c.args.function c.args.args c.args.wait c.if-room-eq0.true

pub returns : goal.returns
returns c =
    let some : c.args.pending.now.current.room ≡ suc (c.args.pending.now.current.room - 1) = omega (arith, c.if-room-eq0.false) in
    λ r fs. opens_call r fs c.args.pending.now c.args.function c.args.args c.args.wait (c.args.pending.now.current.room - 1) c.deref-2.result c.in_ok-variables.variables _ c.replace-call.new.dest c.replace-call.result
    (c.replace-call.ensures.after ∙ c.new-opened.ensures) c.replace-call.ensures.value some c.deref-2.ensures.value
    (c.in_ok-variables.ensures ∙ ap (λ ps. arguments_of (params_of_list ps) (plain_list c.args.args.items)) c.deref.ensures.value) c.in_ok-push.ensures.ok
