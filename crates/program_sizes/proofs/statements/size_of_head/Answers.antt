use Rattle.php_syntax.specs.Trees.{exprs_of, maybe_of}
use Rattle.program_sizes.specs.Sizes as sizes
use Rattle.program_sizes.proofs.statements.size_of_head.Goals as goal

pub returns : goal.returns
returns c =
    let begin = sizes.of_exprs (exprs_of c.args.begin.now) in
    let test = sizes.of_maybe (maybe_of c.args.test.now) in
    let next = sizes.of_exprs (exprs_of c.args.next.now) in
    c.beside.ensures (sizes.beside begin test) next (c.beside-first.ensures begin test c.size_of_exprs.ensures c.size_of_maybe.ensures) c.size_of_exprs-2.ensures
