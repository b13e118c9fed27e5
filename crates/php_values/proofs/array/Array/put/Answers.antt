use Rattle.std.proofs.Common.{inr, Ok, arith, ap, sym, ◌∙◌}
use Rattle.plain_values.specs.Plain.{Pairs, array}
use Rattle.php_values.specs.View.{plain_of, plain_key}
use Rattle.php_values.proofs.Places.{put_fits, put_long}
use Rattle.php_values.proofs.array.Array.put.Goals as goal

pub returns-then-depth-ge-DEPTH_LIMIT-clause-err : goal.returns-then-depth-ge-DEPTH_LIMIT-clause-err
returns-then-depth-ge-DEPTH_LIMIT-clause-err c = inr (put_long c.args.self.now (plain_key c.args.key) (plain_of c.args.value) (omega arith))

pub returns-clause-ok : goal.returns-clause-ok
returns-clause-ok c = put_fits c.args.self.now (plain_key c.args.key) (plain_of c.args.value) c.in_ok-set.ensures.shallow (omega arith) ∙ ap (λ (ps : Pairs). Ok (array ps)) (sym c.in_ok-set.ensures.ok)
