use Rattle.extraction.proofs.ParamLemmas.{more_puts}
use Rattle.extraction.proofs.params.put_params.Goals as goal

pub loop-param-preserved : goal.loop-param-preserved
loop-param-preserved c =
    more_puts c.args.keys.now.keys c.loop-param.keys.keys c.number.new.keys.keys c.args.function c.args.params.now c.loop-param.param-index _ _ c.loop-param-test.true c.loop-param.invariant c.in_ok-number.ensures.keeps c.in_ok-number.ensures.adds
    c.in_ok-number.ensures.number
