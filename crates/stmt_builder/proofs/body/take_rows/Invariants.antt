use Rattle.std.proofs.Common.{◌≡◌, []}
use Rattle.std.specs.Prelude.{map}
use Rattle.stmt_machine.specs.Made as plain
use Rattle.stmt_builder.specs.Views.{rows_of, plain_body}
use Rattle.stmt_builder.proofs.body.take_rows.Given as goal

abbrev pub invariant-taking : goal.invariant-taking
invariant-taking l = plain.take_bodies l.fn.count [] (map plain_body l.initial.bodies) ≡ plain.take_bodies l.left (rows_of l.rows) (map plain_body l.bodies)

abbrev pub decreases-taking : goal.decreases-taking
decreases-taking l = l.left
