use Rattle.std.proofs.Common.{◌+◌, drop, get_or}
use Rattle.dtd_declarations.specs.TokenViews.{token_of, tokens_of}
use Rattle.dtd_declarations.specs.declared.token.Token.TheVariants.{Gap}
use Rattle.dtd_texts.specs.Went.{all_steps}
use Rattle.dtd_texts.specs.ContentModels as spec
use Rattle.dtd_declarations.specs.Views.{stage_of}
use Rattle.dtd_declarations.proofs.Passing.{steps_on, steps_wrong, steps_end, token_from, token_none, gives_by}
use Rattle.dtd_declarations.proofs.content.content_of.Goals as goal

pub loop-token-preserved : goal.loop-token-preserved
loop-token-preserved c = steps_on (spec.stage_step c.args.names.now) (stage_of c.loop-token.stage) (stage_of c.in-Ok.next) (token_of (get_or c.args.tokens.now c.loop-token.token-index Gap)) (tokens_of (drop c.loop-token.token-index c.args.tokens.now))
    (tokens_of (drop (c.loop-token.token-index + 1) c.args.tokens.now)) (all_steps (spec.stage_step c.args.names.now) spec.behind_name (tokens_of c.args.tokens.now))
    (token_from c.args.tokens.now c.loop-token.token-index Gap c.loop-token-test.true) c.in-Ok.ensures c.loop-token.invariant

pub returns-in-Err : goal.returns-in-Err
returns-in-Err c = steps_wrong (spec.stage_step c.args.names.now) (stage_of c.loop-token.stage) (token_of (get_or c.args.tokens.now c.loop-token.token-index Gap)) (tokens_of (drop c.loop-token.token-index c.args.tokens.now))
    (tokens_of (drop (c.loop-token.token-index + 1) c.args.tokens.now)) (all_steps (spec.stage_step c.args.names.now) spec.behind_name (tokens_of c.args.tokens.now)) spec.stage_end c.in-Err.fault
    (token_from c.args.tokens.now c.loop-token.token-index Gap c.loop-token-test.true) c.in-Err.ensures c.loop-token.invariant

pub returns : goal.returns
returns c = gives_by _ c.end.result _ _ (steps_end (spec.stage_step c.args.names.now) (stage_of c.loop-token.stage) (tokens_of (drop c.loop-token.token-index c.args.tokens.now)) (all_steps (spec.stage_step c.args.names.now) spec.behind_name (tokens_of c.args.tokens.now)) spec.stage_end
    (token_none c.args.tokens.now c.loop-token.token-index c.loop-token-test.false) c.loop-token.invariant) c.end.ensures
