use Rattle.program_files.specs.View.{files_of}
use Rattle.program_rules.specs.Bodies.{with_body}
use Rattle.include_expansion.specs.Within.{bodies_within}
use Rattle.include_expansion.proofs.FileLemmas.{functions_step}
use Rattle.include_expansion.proofs.functions.expand_all.Goals as goal

pub loop-function-preserved : goal.loop-function-preserved
loop-function-preserved c =
    functions_step (with_body (bodies_within (files_of c.args.files.now) c.args.nesting)) c.args.functions.now c.loop-function.function-index c.function-item.result c.loop-function.copies.items c.push.new.self.items c.in_ok-copy.copy _
    c.loop-function-test.true c.function-item.is c.in_ok-copy.ensures c.in_ok-push.ensures.items c.loop-function.invariant
