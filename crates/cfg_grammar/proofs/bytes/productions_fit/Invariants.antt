use Rattle.cfg_grammar.specs.Bytes.{FirstHaveBytes}
use Rattle.cfg_grammar.proofs.bytes.productions_fit.Given as goal

abbrev pub invariant-loop-p : goal.invariant-loop-p
invariant-loop-p l = FirstHaveBytes l.productions l.p-index
