-- How much is still to be done before a unit is taken: with every move it is less. No promise is read off from here.
use Rattle.std.specs.Prelude.{ℕ, ◌+◌, List, [], ◌∷◌}
use Rattle.script_runs.specs.declared.frames.Next.{Next}
use Rattle.script_runs.specs.Cost.{next_weight, tasks_weight, wait_weight}
use Rattle.script_runs.specs.declared.calls.Caller.{Caller}
use Rattle.script_runs.specs.declared.calls.Pending.{Pending}

-- what is to be done for all calls that are open, behind their values
unfoldable pub callers_weight : List Caller → ℕ
callers_weight [] = 0
callers_weight (c ∷ cs) = wait_weight c.wait + tasks_weight c.call.tasks + callers_weight cs

-- what is to be done behind the statement that is run, in its function and in the callers
unfoldable pub rest_weight : Pending → ℕ
rest_weight p = tasks_weight p.current.tasks + callers_weight p.callers

-- what is to be done before a unit is taken or the run ends
unfoldable pub weight : Pending → Next → ℕ
weight p n = next_weight n + rest_weight p
