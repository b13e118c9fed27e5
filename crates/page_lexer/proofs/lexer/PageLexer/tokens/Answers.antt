use Rattle.std.proofs.Common.{◌<◌, List, All, sym, subst, rules}
use Rattle.std.proofs.lemmas.List.Elements.{All-from_get_or}
use Rattle.std.proofs.lemmas.Result.{IfOk-weaker}
use Rattle.text_base.specs.declared.page_token.PageToken.{PageToken}
use Rattle.page_model.specs.PageTokens.{PageTokens}
use Rattle.page_lexer.specs.Lexing.{lexer_table}
use Rattle.page_lexer.proofs.lexer.PageLexer.tokens.Goals as goal

pub returns-clause-tokens : goal.returns-clause-tokens
returns-clause-tokens c =
    let bytes : All (λ byte. byte < 256) c.args.page.now = All-from_get_or (λ byte. byte < 256) c.args.page.now 0 (λ i within. let fits = c.type_inv.page i in search rules) in
    IfOk-weaker c.tokens.result _ _ (λ tokens are. subst (λ (ts : List PageToken). PageTokens (lexer_table c.args.self.now) c.args.page.now ts) (sym are) (c.reads_pages.ensures c.args.page.now bytes)) c.tokens.ensures.tokens
