use Rattle.std.proofs.Common.{◌∙◌, Some, sym, ap}
use Rattle.page_reader.specs.declared.state.ReaderState.{ReaderState}
use Rattle.page_lexer.specs.Lexing.{lexer_table, lexer_state_behind}
use Rattle.page_lexer.proofs.laws.fronts_have_one_state.Goals as goal

pub returns : goal.returns
returns c = λ first second f a b m n at there.
    let same = c.fronts_lead_alike.ensures.merged first second f a b in
    c.count-states.ensures.different m n (lexer_state_behind (lexer_table c.args.lexer.now) first) at (there ∙ ap (λ (s : ReaderState). Some s) (sym same))
