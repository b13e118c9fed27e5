use Rattle.std.proofs.Common.{List, length, subst}
use Rattle.cfg_grammar.specs.declared.production.Production.{Production}
use Rattle.op_system.specs.declared.system.OpRule.{OpRule}
use Rattle.cfg_grammar.specs.Bytes.{FirstHaveBytes}
use Rattle.op_bytes.specs.Fitting.{AreFittingRules}
use Rattle.op_bytes.proofs.UseLemmas.{has_bytes}
use Rattle.op_bytes.proofs.fitting.fits.Goals as goal

pub returns : goal.returns
returns c =
    has_bytes c.args.s.now
    (subst (λ (ps : List Production). FirstHaveBytes ps (length ps)) c.as_slice.ensures.value c.productions_fit.ensures)
    (subst (λ (rs : List OpRule). AreFittingRules rs (length rs)) c.as_slice-2.ensures.value c.rules_fit.ensures)
