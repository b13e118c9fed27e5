use Rattle.php_syntax.specs.Trees.{stmts_of}
use Rattle.program_lowering.proofs.BodyLemmas.{body_is, reached_is}
use Rattle.program_lowering.proofs.bodies.lower_body.Goals as goal

pub returns : goal.returns
returns c = body_is c.args.point c.args.free c.new-points.ensures c.new-exits.ensures.items c.in_ok-ways.ensures.points c.place-end.ensures c.fill_exits.ensures c.in_ok-put_end.ensures
    (reached_is (stmts_of c.args.body.now) c.reach_end.ensures c.in_ok-ways.ensures.completes c.in_ok-ways.ensures.jumps)
