use Rattle.std.proofs.Common.{refl}
use Rattle.std.proofs.lemmas.Result.{IfOk-weaker}
use Rattle.cfg_grammar.specs.declared.symbol.Symbol as symbols
use Rattle.dtd_model.specs.TableOf.{table_of}
use Rattle.fst_core.specs.Outputs.{DerivesText}
use Rattle.page_model.specs.PageTokens.{PageTokens}
use Rattle.summary_decision.specs.Pairs.{tokens_in}
use Rattle.page_decision.specs.Echoes.{PutsTokens}
use Rattle.page_decision.proofs.TokenLemmas.{lists_by}
use Rattle.page_decision.proofs.token_grammar.page_tokens_of.Goals as goal

pub returns-clause-tokens : goal.returns-clause-tokens
returns-clause-tokens g c =
    let m = c.args.machine.now in
    let source = c.args.grammar.now in
    let table = table_of c.args.dtd.now in
    let texts = DerivesText source.productions.items (symbols.Symbol.Nt source.start) in
    let puts = PutsTokens (g.M.Machine.first m) (g.M.Machine.steps m) (g.M.Machine.ends m) in
    IfOk-weaker c.tokens_of.result _ _ (λ made lists. lists_by texts puts (PageTokens table) made.grammar.productions.items made.grammar.start
    (λ page tokens is has. c.requires.tokens page tokens (c.texts_fit.ensures page is) has)
    (λ page tokens is has.
    let out = c.requires.echoing.total page (c.texts_fit.ensures page is) in
    let by_machine = c.requires.tokens page (tokens_in out.0) (c.texts_fit.ensures page is) (out.0, out.1, refl) in
    (out.0, out.1, c.one_token_list.ensures table page (tokens_in out.0) tokens by_machine has))
    lists) c.tokens_of.ensures.tokens
