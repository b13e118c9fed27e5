use Rattle.std.proofs.Common.{◌≤◌, arith}
use Rattle.plain_values.specs.Plain.{depth}
use Rattle.php_values.specs.View.{plain_of, plain_path}
use Rattle.php_values.proofs.WriteLaws.{releases}
use Rattle.php_values.proofs.array.Value.release.Goals as goal

pub returns : goal.returns
returns c =
    let low : depth (plain_of c.args.self.now) ≤ 1000 = omega (arith, c.depth-deep.ensures.depth, c.depth-deep.ensures.small) in
    releases (plain_path c.args.path.now) (plain_of c.args.self.now) (plain_of c.let_go.new.self) low c.let_go.ensures.shallow c.let_go.ensures.writes
