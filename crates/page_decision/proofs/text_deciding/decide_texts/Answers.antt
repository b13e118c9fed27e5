use Rattle.cfg_grammar.specs.declared.symbol.Symbol as symbols
use Rattle.fst_core.specs.Outputs.{DerivesText}
use Rattle.page_decision.specs.Echoes.{PutsTokens, IsMachineImage}
use Rattle.page_decision.proofs.EchoLemmas.{text_verdict}
use Rattle.page_decision.proofs.text_deciding.decide_texts.Goals as goal

pub returns-in-Ok-lead_back-clause-verdict : goal.returns-in-Ok-lead_back-clause-verdict
returns-in-Ok-lead_back-clause-verdict g c =
    let s = c.args.summary.now in
    let m = c.args.machine.now in
    let grammar = c.args.grammar.now in
    text_verdict c.derivations_derive.ensures (g.S.Summary.sum_of s) (g.S.Summary.is_whole s) (g.S.Summary.tag_count s)
    (DerivesText grammar.productions.items (symbols.Symbol.Nt grammar.start)) (PutsTokens (g.M.Machine.first m) (g.M.Machine.steps m) (g.M.Machine.ends m))
    (IsMachineImage grammar (g.M.Machine.first m) (g.M.Machine.steps m) (g.M.Machine.ends m)) c.in_ok-echo.echo.grammar c.in_ok-echo.ensures.image
    c.in_ok-echo.ensures.echo grammar c.args.pairs c.in-Ok.verdict c.in-Ok.ensures c.in-Ok-lead_back.led c.in-Ok-lead_back.ensures
