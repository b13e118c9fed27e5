use Rattle.std.proofs.Common.{◌≡◌, ◌-◌, true, false, length, refl, arith}
use Rattle.php_syntax.specs.Trees.{maybe_of}
use Rattle.program_rules.specs.Rules.{has_default}
use Rattle.function_rules.proofs.NumberLemmas.{all_left_out, one_left_out, bare_end, none_end}
use Rattle.function_rules.proofs.arity.numbers_of.Goals as goal

pub defaults-init : goal.defaults-init
defaults-init c = record { have = all_left_out c.args.params.now (length c.args.params.now) refl; within = omega arith }

pub returns-then-not-has_default : goal.returns-then-not-has_default
returns-then-not-has_default c =
    let bare : has_default (maybe_of c.index-params-least.result.default) ≡ false = cc in
    bare_end c.args.params.now c.defaults.least (c.defaults.least - 1) (length c.args.params.now) c.index-params-least.result (omega arith) (omega arith) c.index-params-least.is bare c.defaults.invariant.have c.defaults.invariant.within refl

pub defaults-preserved : goal.defaults-preserved
defaults-preserved c =
    let has : has_default (maybe_of c.index-params-least.result.default) ≡ true = cc in
    record { have = one_left_out c.args.params.now (c.defaults.least - 1) c.defaults.least c.index-params-least.result (omega arith) (omega arith) c.index-params-least.is has c.defaults.invariant.have; within = omega arith }

pub returns : goal.returns
returns c = none_end c.args.params.now c.defaults.least (length c.args.params.now) (omega arith) c.defaults.invariant.have refl
