use Rattle.std.proofs.Common.{◌+◌, length, arith, sym}
use Rattle.php_lexer.proofs.heredoc.body_step.Goals as goal

-- the bytes that are taken end within those that are there
pub returns-then-n-bytes-clause-within : goal.returns-then-n-bytes-clause-within
returns-then-n-bytes-clause-within c =
    let fits = rw (sym c.behind.ensures.value) at (c.body_length-n.ensures.fits c.if-n-bytes.true)
    in c.body_token-then-n-bytes.ensures.within (c.args.head + length c.args.bytes.now) (omega (arith, c.front.ensures.len)) (omega (arith, c.requires.some)) (omega (arith, fits, c.heredoc_newline-newline.ensures.value))
